-- Which pages wait and were found pinned, by what is kept of them.
use Rattle.std.proofs.Common.{◌≡◌, ℕ, suc, ◌+◌, ◌<◌, Bool, true, false, cond, List, [], ◌∷◌, ◌++◌, Option, Some, length, get_or, refl, ap, sym, ◌∙◌, subst, arith, inl, inr, ◌⊎◌, nat_lt, Contains, All, AllPairs, append-nil, append_assoc, take, ◌≤◌, slice_get, le-ltb, lt-ltb, ltb-true}
use Rattle.std.proofs.lemmas.List.{take_more}
use Rattle.std.proofs.lemmas.List.Elements.{All-contains_itself}
use Rattle.std.proofs.lemmas.List.Kept.{AllPairs-cons}
use Rattle.thp_links.proofs.Members.{Contains-behind, Contains-cons_cases, Contains-head, Contains-nil}
use Rattle.thp_history.specs.declared.shape.Shape.{Shape}
use Rattle.thp_history.specs.Prelude.{History}
use Rattle.thp_live_pages.proofs.Homing.{legal_homed}
use Rattle.thp_metrics.specs.Prelude.{PinCount, StuckPage, Arrived, Ascends, KeepsWaits, since_of, KeepsFinds, stuck_among, stuck_by, home, AreStuck, IsStuck, finds}
use Rattle.thp_metrics.proofs.Arriving.{home_waits, waits_home}

head_of : (x : StuckPage) (xs : List StuckPage) → Contains (x ∷ xs) x
head_of x xs = (0, omega arith, refl)

after_of : (x : StuckPage) (xs : List StuckPage) (y : StuckPage) → Contains xs y → Contains (x ∷ xs) y
after_of x xs y m = let below : m.0 < length xs = m.1 in (suc m.0, omega arith, m.2)

cases_of : (x : StuckPage) (xs : List StuckPage) (y : StuckPage) → Contains (x ∷ xs) y → (y ≡ x) ⊎ Contains xs y
cases_of x xs y z = grind arith

each_of : (P : StuckPage → Type 0) (xs : List StuckPage) → ((x : StuckPage) → Contains xs x → P x) → All P xs
each_of P xs all = λ k d below. all (get_or xs k d) (All-contains_itself xs k d below)

module _ (s : Shape) (h : History) (n : ℕ) (a : Arrived) (found : List PinCount) (k : KeepsWaits s h n a) (f : KeepsFinds s h found) where
  -- the blocks of the order are such
  pub in_range : (b : ℕ) → Contains a.order b → (b < length found) × (b < length a.since)
  in_range b m =
      let w = k.waiting b m in
      let low : b < s.blocks = ((legal_homed s h k.legal).from w.0 b (home_waits s h w.0 b w.1).1).below in
      (omega (arith, low, f.size), omega (arith, low, k.size))

  abbrev reported : ℕ → ℕ → StuckPage
  reported p b = record { page = p; finds = finds h p; since = since_of a b }

  reported_in : (p b : ℕ) → home s h p ≡ Some b → stuck_by (slice_get found b) (since_of a b) ≡ cond (nat_lt 0 (finds h p)) (reported p b ∷ []) []
  reported_in p b y = ap (λ (o : Option PinCount). stuck_by o (since_of a b)) (f.each p b (home_waits s h p b y).1)

  is_stuck : (p b : ℕ) → home s h p ≡ Some b → 0 < finds h p → IsStuck s h (reported p b)
  is_stuck p b y some = grind (arith, home_waits)

  -- so far as these blocks go
  record Part (bs : List ℕ) (xs : List StuckPage) : Type 0 where
    each : (x : StuckPage) → Contains xs x → IsStuck s h x
    from : (x : StuckPage) → Contains xs x → (b : ℕ) × Contains bs b × (x.since ≡ since_of a b)
    all : (p b : ℕ) → home s h p ≡ Some b → Contains bs b → 0 < finds h p → (x : StuckPage) × (x.page ≡ p) × Contains xs x
    in_order : AllPairs (λ (x y : StuckPage). x.since < y.since) xs

  one_more : (b : ℕ) (bs : List ℕ) (xs : List StuckPage) (p : ℕ) → home s h p ≡ Some b → Ascends a.since (b ∷ bs) → Part bs xs → Part (b ∷ bs) (stuck_by (slice_get found b) (since_of a b) ++ xs)
  one_more b bs xs p y up part =
      let P : List StuckPage → Type 0 = λ ys. Part (b ∷ bs) (ys ++ xs) in
      subst P (sym (reported_in p b y)) (go (nat_lt 0 (finds h p)) refl) where
        same_page : (q : ℕ) → home s h q ≡ Some b → p ≡ q
        same_page q z = (legal_homed s h k.legal).once p q b (home_waits s h p b y).1 (home_waits s h q b z).1

        go : (t : Bool) → nat_lt 0 (finds h p) ≡ t → Part (b ∷ bs) (cond t (reported p b ∷ []) [] ++ xs)
        go true z = record {
          each = λ x m.
              elim (cases_of (reported p b) xs x m) [
                | inl same ↦ let P : StuckPage → Type 0 = IsStuck s h in subst P (sym same) (is_stuck p b y (ltb-true 0 (finds h p) z))
                | inr more ↦ part.each x more
              ];
          from = λ x m.
              elim (cases_of (reported p b) xs x m) [
                | inl same ↦ (b, Contains-head b bs, ap (λ (w : StuckPage). w.since) same)
                | inr more ↦ let w = part.from x more in (w.0, Contains-behind b bs w.0 w.1, w.2)
              ];
          all = λ q d at m some.
              elim (Contains-cons_cases b bs d m) [
                | inl same ↦ (reported p b, same_page q (at ∙ ap (λ (i : ℕ). Some i) same), head_of (reported p b) xs)
                | inr more ↦ let w = part.all q d at more some in (w.0, w.1, after_of (reported p b) xs w.0 w.2)
              ];
          in_order =
              AllPairs-cons (λ (x y : StuckPage). x.since < y.since) (reported p b) xs
              (each_of (λ (x : StuckPage). since_of a b < x.since) xs (λ x m. let w = part.from x m in omega (arith, up.0 w.0 w.1, w.2)))
              part.in_order;
        }
        go false z = record {
          each = part.each;
          from = λ x m. let w = part.from x m in (w.0, Contains-behind b bs w.0 w.1, w.2);
          all = λ q d at m some.
              elim (Contains-cons_cases b bs d m) [
                | inl same ↦ absurd (
                    let page : p ≡ q = same_page q (at ∙ ap (λ (i : ℕ). Some i) same) in
                    let none : nat_lt 0 (finds h q) ≡ false = ap (λ i. nat_lt 0 (finds h i)) (sym page) ∙ z in
                    let yes : nat_lt 0 (finds h q) ≡ true = lt-ltb 0 (finds h q) some in
                    cc)
                | inr more ↦ part.all q d at more some
              ];
          in_order = part.in_order;
        }

  part_of : (bs : List ℕ) → ((b : ℕ) → Contains bs b → Contains a.order b) → Ascends a.since bs → Part bs (stuck_among found a bs)
  part_of [] inn up = record {
    each = λ x m. absurd (let below : m.0 < 0 = m.1 in omega arith);
    from = λ x m. absurd (let below : m.0 < 0 = m.1 in omega arith);
    all = λ p b at m. absurd (Contains-nil b m);
    in_order = λ i j d before below. absurd (omega (arith, below));
  }
  part_of (b ∷ bs) inn up =
      let w = k.waiting b (inn b (Contains-head b bs)) in
      one_more b bs (stuck_among found a bs) w.0 w.1 up (part_of bs (λ c m. inn c (Contains-behind b bs c m)) up.1)

  -- those of all blocks of the order
  pub are_stuck : (xs : List StuckPage) → xs ≡ stuck_among found a a.order → AreStuck s h xs
  are_stuck xs is =
      let P : List StuckPage → Type 0 = AreStuck s h in
      let part = part_of a.order (λ b m. m) k.in_order in
      subst P (sym is) (record {
        each = each_of (IsStuck s h) (stuck_among found a a.order) part.each;
        all = λ p w some. let b = waits_home s h p k.legal w in part.all p b.0 b.1 (k.there p b.0 b.1) some;
        in_order = part.in_order;
      })

-- one more block is passed
pub stuck_more : (found : List PinCount) (a : Arrived) (bs : List ℕ) (b : ℕ) → stuck_among found a (bs ++ b ∷ []) ≡ stuck_among found a bs ++ stuck_by (slice_get found b) (since_of a b)
stuck_more found a [] b = append-nil (stuck_by (slice_get found b) (since_of a b))
stuck_more found a (c ∷ bs) b = ap (λ xs. stuck_by (slice_get found c) (since_of a c) ++ xs) (stuck_more found a bs b) ∙ sym (append_assoc (stuck_by (slice_get found c) (since_of a c)) (stuck_among found a bs) (stuck_by (slice_get found b) (since_of a b)))

as_page : PinCount → ℕ → StuckPage
as_page v since = record { page = v.page; finds = v.finds; since = since }

whole : (found : List PinCount) (a : Arrived) (bs : List ℕ) (k : ℕ) (v : PinCount) → k < length bs → slice_get found (get_or bs k 0) ≡ Some v →
    stuck_among found a (take (k + 1) bs) ≡ stuck_among found a (take k bs) ++ stuck_by (Some v) (since_of a (get_or bs k 0))
whole found a bs k v below at =
    ap (stuck_among found a) (take_more bs k 0 below)
    ∙ stuck_more found a (take k bs) (get_or bs k 0)
    ∙ ap (λ (o : Option PinCount). stuck_among found a (take k bs) ++ stuck_by o (since_of a (get_or bs k 0))) at

-- its page was found pinned
pub passed_one : (found : List PinCount) (a : Arrived) (bs : List ℕ) (k : ℕ) (v : PinCount) (xs ys : List StuckPage) (since : ℕ) → k < length bs → slice_get found (get_or bs k 0) ≡ Some v → xs ≡ stuck_among found a (take k bs) → 0 < v.finds →
    since ≡ since_of a (get_or bs k 0) → ys ≡ xs ++ record { page = v.page; finds = v.finds; since = since } ∷ [] → ys ≡ stuck_among found a (take (k + 1) bs)
unfolding as_page
passed_one found a bs k v xs ys since below at is some when more = grind (arith, as_page, get_or, lt-ltb, whole)

-- it wasn't
pub passed_none : (found : List PinCount) (a : Arrived) (bs : List ℕ) (k : ℕ) (v : PinCount) (xs ys : List StuckPage) → k < length bs → slice_get found (get_or bs k 0) ≡ Some v → xs ≡ stuck_among found a (take k bs) → v.finds ≤ 0 → ys ≡ xs → ys ≡ stuck_among found a (take (k + 1) bs)
unfolding as_page
passed_none found a bs k v xs ys below at is none same =
    same
    ∙ is
    ∙ sym (append-nil (stuck_among found a (take k bs)))
    ∙ ap (λ b. stuck_among found a (take k bs) ++ cond b (as_page v (since_of a (get_or bs k 0)) ∷ []) []) (sym (le-ltb 0 v.finds none))
    ∙ sym (whole found a bs k v below at)
