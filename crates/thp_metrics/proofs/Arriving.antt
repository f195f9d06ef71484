-- The pages that wait, with one more event.
use Rattle.std.proofs.Common.{◌≡◌, ◌≢◌, ℕ, zero, suc, ◌+◌, ◌-◌, ◌^◌, ◌<◌, ◌≤◌, Bool, true, false, not, cond, List, [], ◌∷◌, ◌++◌, Option, Some, None, length, get_or, set, refl, ap, sym, ◌∙◌, subst, arith, inl, inr, ◌⊎◌, nat_eq, eq-eqb, eqb-true, append_assoc, append-nil, length-append, Contains, length-set, slice_get, fold, option_and_then, get_or-set_same, get_or-set_other}
use Rattle.std.proofs.lemmas.Bool.{cases_lt}
use Rattle.std.proofs.lemmas.List.Sums.{fold_push}
use Rattle.std.proofs.lemmas.List.Elements.{Contains-push, Contains-push_cases}
use Rattle.thp_links.specs.Prelude.{without_index}
use Rattle.thp_links.proofs.Members.{Contains-behind, Contains-cons_cases, Contains-from_without, Contains-head, Contains-nil, Contains-without}
use Rattle.thp_history.specs.declared.events.Event.{Event}
use Rattle.thp_history.specs.declared.events.What.{What}
use Rattle.thp_history.specs.declared.events.What.TheVariants as what
use Rattle.thp_history.specs.declared.shape.Shape.{Shape}
use Rattle.thp_history.specs.Prelude.{allocates, allocations, frees, is_live, History, count_of, Fits, IsLegal}
use Rattle.thp_history.proofs.Alive.{legal_grown}
use Rattle.thp_history.proofs.LegalSteps.{legal_none, legal_push}
use Rattle.thp_history.proofs.Numbers.{live_below}
use Rattle.thp_history.proofs.Untouched.{Untouched, untouched}
use Rattle.thp_journal_writer.specs.Prelude.{event_page}
use Rattle.thp_live_pages.specs.Prelude.{block_after, block_of}
use Rattle.thp_live_pages.proofs.Homing.{alloc_of, block_freed, block_push, block_stays, legal_homed, live_block}
use Rattle.thp_live_pages.proofs.Standings.{names}
use Rattle.thp_metrics.specs.Prelude.{Stage, Arrived, Ascends, KeepsWaits, first_arrival, first_since, since_of, greatest_below, home, home_by, stage_of, add_wait, longest_wait, waited, waits, waits_in}
use Rattle.thp_metrics.proofs.Moving.{none_named, not_about, not_named, stage_stays}

-- the wait goes along the history
history_so : (s : Shape) (p : ℕ) (k : History) (n : ℕ) (h : History) → (fold (add_wait s p) (k, n) h).0 ≡ k ++ h
history_so s p k n [] = sym (append-nil k)
history_so s p k n (e ∷ h) = history_so s p (k ++ e ∷ []) (cond (waits s (k ++ e ∷ []) p) (n + 1) 0) h ∙ append_assoc k (e ∷ []) h

pub waited_push : (s : Shape) (h : History) (e : Event) (p : ℕ) → waited s (h ++ e ∷ []) p ≡ cond (waits s (h ++ e ∷ []) p) (waited s h p + 1) 0
unfolding waited
waited_push s h e p = grind (arith, fold_push, history_so)

-- at the start nothing waits
pub waited_none : (s : Shape) (p : ℕ) → waited s [] p ≡ 0
unfolding waited
waited_none s p = refl

home_parts : (stage : Option Stage) (block : Option ℕ) (b : ℕ) → home_by stage block ≡ Some b → (waits_in stage ≡ true) × (block ≡ Some b)
home_parts stage block b e = grind arith

-- a page with a home waits, and lies there
pub home_waits : (s : Shape) (h : History) (p b : ℕ) → home s h p ≡ Some b → (waits s h p ≡ true) × (block_of h p ≡ Some b)
home_waits s h p b e = home_parts (stage_of s h p) (block_of h p) b e

stage_is : (o : Option Stage) → waits_in o ≡ true → (x : Stage) × (o ≡ Some x)
stage_is x e = grind arith

live_in : (live : Bool) (x y : Stage) → cond live (Some y) None ≡ Some x → live ≡ true
live_in z x y e = grind arith

pub waits_live : (s : Shape) (h : History) (p : ℕ) → waits s h p ≡ true → is_live h p ≡ true
waits_live s h p e = let x = stage_is (stage_of s h p) e in live_in (is_live h p) x.0 _ x.1

-- a page that waits has a home
pub waits_home : (s : Shape) (h : History) (p : ℕ) → IsLegal s h → waits s h p ≡ true → (b : ℕ) × (home s h p ≡ Some b)
waits_home s h p l e =
    let w = live_block s h p (legal_homed s h l) (waits_live s h p e) in
    (w.0, ap (λ t. cond t (block_of h p) None) e ∙ w.1)

homeless : (s : Shape) (h : History) (p : ℕ) → IsLegal s h → home s h p ≡ None → waits s h p ≡ false
homeless s h p l e = grind (arith, waits_home)

-- two pages with one home are one
one_home : (s : Shape) (h : History) (p q b : ℕ) → IsLegal s h → home s h p ≡ Some b → home s h q ≡ Some b → p ≡ q
one_home s h p q b l e f = (legal_homed s h l).once p q b (home_waits s h p b e).1 (home_waits s h q b f).1

-- a page that an event doesn't name stays at home
pub home_stays : (s : Shape) (h : History) (e : Event) (q : ℕ) → Fits s h e → names q e.what ≡ false → home s (h ++ e ∷ []) q ≡ home s h q
home_stays s h e q f n = grind (arith, Untouched, untouched, not_about, stage_stays, block_push, block_stays)

same_some : (a b : ℕ) → Some a ≡ Some b → a ≡ b
same_some a b e = cc

-- a page that waits before and after an event lies where it lay
pub same_home : (s : Shape) (h : History) (e : Event) (p b c : ℕ) → IsLegal s h → Fits s h e → home s h p ≡ Some b → home s (h ++ e ∷ []) p ≡ Some c → b ≡ c
same_home s h e p b c l f before after = go (allocates p e.what) (frees p e.what) refl refl where
  was : block_of h p ≡ Some b
  was = (home_waits s h p b before).1

  is : block_after p (block_of h p) e.what ≡ Some c
  is = sym (block_push h e p) ∙ (home_waits s (h ++ e ∷ []) p c after).1

  low : p < allocations h
  low = live_below h p (legal_grown s h l).numbered (waits_live s h p (home_waits s h p b before).0)

  fits_number : (w : What) (d : ℕ) → e.what ≡ w → w ≡ what.Alloc p d → p ≡ allocations h
  fits_number w d x y = number e.caller e.what (x ∙ y) f where
    number : (k : ℕ) (w : What) → w ≡ what.Alloc p d → Fits s h (record { caller = k; what = w }) → p ≡ allocations h
    number k w y f = let P : What → Type 0 = λ w. Fits s h (record { caller = k; what = w }) in let g : P (what.Alloc p d) = subst P y f in g.number

  go : (x y : Bool) → allocates p e.what ≡ x → frees p e.what ≡ y → b ≡ c
  go true y a g = absurd (let w = alloc_of p e.what a in omega (arith, low, fits_number e.what w.0 refl w.1))
  go false true a g = absurd (let gone = block_freed p (block_of h p) e.what g in let here = is in cc)
  go false false a g = same_some b c (sym was ∙ sym (block_stays p (block_of h p) e.what a g) ∙ is)

-- what is in a list is in it with one more
pushed : (bs : List ℕ) (d c : ℕ) → Contains bs c → Contains (bs ++ d ∷ []) c
pushed [] d c m = absurd (Contains-nil c m)
pushed (b ∷ bs) d c m =
    let P : ℕ → Type 0 = Contains (b ∷ (bs ++ d ∷ [])) in
    elim (Contains-cons_cases b bs c m) [
      | inl same ↦ subst P (sym same) (Contains-head b (bs ++ d ∷ []))
      | inr more ↦ Contains-behind b (bs ++ d ∷ []) c (pushed bs d c more)
    ]

-- what stands at a place inside a list needs no default
pub any_number : (ns : List ℕ) (k m n : ℕ) → k < length ns → get_or ns k m ≡ get_or ns k n
any_number [] k m n below = absurd (omega (arith, below))
any_number (x ∷ ns) zero m n below = refl
any_number (x ∷ ns) (suc k) m n below = any_number ns k m n (omega (arith, below))

-- numbers that ascend, with one more
ascends_push : (ns : List ℕ) (bs : List ℕ) (b : ℕ) → Ascends ns bs → ((c : ℕ) → Contains bs c → get_or ns c 0 < get_or ns b 0) → Ascends ns (bs ++ b ∷ [])
ascends_push ns [] b up more = ((λ c m. absurd (Contains-nil c m)), tt)
ascends_push ns (a ∷ bs) b up more = (
  (λ c m.
      elim (Contains-push_cases bs b c m) [
        | inl old ↦ up.0 c old
        | inr new ↦ let P : ℕ → Type 0 = λ x. get_or ns a 0 < get_or ns x 0 in subst P new (more a (Contains-head a bs))
      ]),
  ascends_push ns bs b up.1 (λ c m. more c (Contains-behind a bs c m)),
)

ascends_same : (ns ms bs : List ℕ) → ((c : ℕ) → Contains bs c → get_or ns c 0 ≡ get_or ms c 0) → Ascends ns bs → Ascends ms bs
ascends_same ns ms [] same up = tt
ascends_same ns ms (b ∷ bs) same up = (
  (λ c m. omega (arith, up.0 c m, same b (Contains-head b bs), same c (Contains-behind b bs c m))),
  ascends_same ns ms bs (λ c m. same c (Contains-behind b bs c m)) up.1,
)

ascends_without : (ns : List ℕ) (i : ℕ) (bs : List ℕ) → Ascends ns bs → Ascends ns (without_index i bs)
ascends_without ns i [] up = tt
ascends_without ns i (b ∷ bs) up = go (nat_eq b i) (ascends_without ns i bs up.1) where
  go : (t : Bool) → Ascends ns (without_index i bs) → Ascends ns (cond (not t) (b ∷ without_index i bs) (without_index i bs))
  go true rest = rest
  go false rest = ((λ c m. up.0 c (Contains-from_without i bs c m).0), rest)

module _ (s : Shape) (h : History) (e : Event) (n : ℕ) (a : Arrived) (k : KeepsWaits s h n a) (f : Fits s h e) (room : length h + 1 < 2 ^ 64) where
  abbrev after : History
  after = h ++ e ∷ []

  legal : IsLegal s after
  legal = legal_push s h e k.legal f

  longer : length after ≡ length h + 1
  longer = length-append h (e ∷ [])

  idle : (p : ℕ) → waits s after p ≡ false → waited s after p ≡ 0
  idle p w = waited_push s h e p ∙ ap (λ (b : Bool). cond b (waited s h p + 1) 0) w

  goes_on : (p b : ℕ) → home s after p ≡ Some b → waited s after p ≡ waited s h p + 1
  goes_on p b y = waited_push s h e p ∙ ap (λ (b : Bool). cond b (waited s h p + 1) 0) (home_waits s after p b y).0

  -- no page comes or goes
  pub none_moves : (m : ℕ) → m ≡ n + 1 → ((q : ℕ) → home s after q ≡ home s h q) → KeepsWaits s after m a
  none_moves m one same = record {
    legal = legal;
    events_are = omega (arith, one, k.events_are, longer);
    few = omega (arith, longer, room);
    size = k.size;
    waiting = λ b c. let w = k.waiting b c in (w.0, same w.0 ∙ w.1);
    there = λ p b y. k.there p b (sym (same p) ∙ y);
    came = λ p b y. omega (arith, k.came p b (sym (same p) ∙ y), goes_on p b y, longer);
    idle = idle;
    early = λ b c. omega (arith, k.early b c, longer);
    from_one = k.from_one;
    in_order = k.in_order;
  }

  module _ (p b : ℕ) (others : (q : ℕ) → (q ≢ p) → home s after q ≡ home s h q) where
    -- the page of block b comes
    module _ (before : home s h p ≡ None) (now : home s after p ≡ Some b) where
      other : (q c : ℕ) → home s h q ≡ Some c → q ≢ p
      other q c y z = absurd (let same : home s h q ≡ home s h p = ap (home s h) z in cc)

      pub absent : Contains a.order b → ⊥
      absent m =
          let w = k.waiting b m in
          let ne : w.0 ≢ p = other w.0 b w.1 in
          ne (one_home s after w.0 p b legal (others w.0 ne ∙ w.1) now)

      pub inside : b < length a.since
      inside = omega (arith, k.size, ((legal_homed s after legal).from p b (home_waits s after p b now).1).below)

      not_b : (c : ℕ) → Contains a.order c → c ≢ b
      not_b c m z = absent (let P : ℕ → Type 0 = Contains a.order in subst P z m)

      pub comes : (m : ℕ) (x : Arrived) → m ≡ n + 1 → x.order ≡ a.order ++ b ∷ [] → x.since ≡ set a.since b m → KeepsWaits s after m x
      comes m x one order since = record {
        legal = legal;
        events_are = omega (arith, one, k.events_are, longer);
        few = omega (arith, longer, room);
        size = ap (λ (ns : List ℕ). length ns) since ∙ length-set a.since b m ∙ k.size;
        waiting = λ c y.
            elim (in_cases c y) [
              | inl old ↦ let w = k.waiting c old in (w.0, others w.0 (other w.0 c w.1) ∙ w.1)
              | inr new ↦ (p, now ∙ ap (λ (z : ℕ). Some z) new)
            ];
        there = λ q c y. place q c y (nat_eq q p) refl;
        came = λ q c y. when q c y (nat_eq q p) refl;
        idle = idle;
        early = λ c y.
            elim (in_cases c y) [
              | inl old ↦ omega (arith, k.early c old, since_old c old, longer)
              | inr new ↦ omega (arith, ap (λ (z : ℕ). get_or x.since z 0) new, since_new, k.events_are, one, longer)
            ];
        from_one = λ c y.
            elim (in_cases c y) [
              | inl old ↦ omega (arith, k.from_one c old, since_old c old)
              | inr new ↦ omega (arith, ap (λ (z : ℕ). get_or x.since z 0) new, since_new, one)
            ];
        in_order =
            let P : List ℕ → Type 0 = Ascends x.since in
            subst P (sym order)
            (ascends_push x.since a.order b (ascends_same a.since x.since a.order (λ c m. sym (since_old c m)) k.in_order)
            (λ c m. omega (arith, since_old c m, since_new, k.early c m, k.events_are, one)));
      } where
        in_cases : (c : ℕ) → Contains x.order c → Contains a.order c ⊎ (b ≡ c)
        in_cases c y = let P : List ℕ → Type 0 = λ bs. Contains bs c in Contains-push_cases a.order b c (subst P order y)

        since_old : (c : ℕ) → Contains a.order c → get_or x.since c 0 ≡ get_or a.since c 0
        since_old c m = ap (λ (ns : List ℕ). get_or ns c 0) since ∙ get_or-set_other a.since b c _ 0 (not_b c m)

        since_new : get_or x.since b 0 ≡ m
        since_new = ap (λ (ns : List ℕ). get_or ns b 0) since ∙ get_or-set_same a.since b m 0 inside

        old_home : (q c : ℕ) → home s after q ≡ Some c → nat_eq q p ≡ false → home s h q ≡ Some c
        old_home q c y ne = sym (others q (λ z. absurd (let yes = eq-eqb q p z in cc))) ∙ y

        new_home : (q c : ℕ) → home s after q ≡ Some c → nat_eq q p ≡ true → b ≡ c
        new_home q c y same = same_some b c (sym now ∙ ap (home s after) (sym (eqb-true q p same)) ∙ y)

        place : (q c : ℕ) → home s after q ≡ Some c → (t : Bool) → nat_eq q p ≡ t → Contains x.order c
        place q c y true z =
            let P : List ℕ → Type 0 = λ bs. Contains bs c in
            let Q : ℕ → Type 0 = Contains (a.order ++ b ∷ []) in
            subst P (sym order) (subst Q (new_home q c y z) (Contains-push a.order b))
        place q c y false z =
            let P : List ℕ → Type 0 = λ bs. Contains bs c in
            subst P (sym order) (pushed a.order b c (k.there q c (old_home q c y z)))

        when : (q c : ℕ) → home s after q ≡ Some c → (t : Bool) → nat_eq q p ≡ t → since_of x c + waited s after q ≡ length after + 1
        when q c y true z =
            let fresh : waited s h q ≡ 0 = ap (waited s h) (eqb-true q p z) ∙ k.idle p (homeless s h p k.legal before) in
            omega (arith, ap (λ (d : ℕ). get_or x.since d 0) (new_home q c y z), since_new, goes_on q c y, fresh, one, k.events_are, longer)
        when q c y false z =
            let old = old_home q c y z in
            omega (arith, since_old c (k.there q c old), k.came q c old, goes_on q c y, longer)

    -- the page of block b goes
    module _ (before : home s h p ≡ Some b) (now : home s after p ≡ None) where
      pub present : Contains a.order b
      present = k.there p b before

      stays : (q c : ℕ) → home s after q ≡ Some c → q ≢ p
      stays q c y z = absurd (let same : home s after q ≡ home s after p = ap (home s after) z in cc)

      pub goes : (m : ℕ) (x : Arrived) → m ≡ n + 1 → x.order ≡ without_index b a.order → x.since ≡ a.since → KeepsWaits s after m x
      goes m x one order since = record {
        legal = legal;
        events_are = omega (arith, one, k.events_are, longer);
        few = omega (arith, longer, room);
        size = ap (λ (ns : List ℕ). length ns) since ∙ k.size;
        waiting = λ c y.
            let old = was c y in
            let w = k.waiting c old.0 in
            (w.0, others w.0 (λ z. old.1 (same_some c b (sym w.1 ∙ ap (home s h) z ∙ before))) ∙ w.1);
        there = λ q c y.
            let ne : q ≢ p = stays q c y in
            let old : home s h q ≡ Some c = sym (others q ne) ∙ y in
            let P : List ℕ → Type 0 = λ bs. Contains bs c in
            subst P (sym order) (Contains-without b a.order c (k.there q c old) (λ z. ne (one_home s h q p c k.legal old (before ∙ ap (λ (d : ℕ). Some d) (sym z)))));
        came = λ q c y.
            let old : home s h q ≡ Some c = sym (others q (stays q c y)) ∙ y in
            omega (arith, ap (λ (ns : List ℕ). get_or ns c 0) since, k.came q c old, goes_on q c y, longer);
        idle = idle;
        early = λ c y. omega (arith, ap (λ (ns : List ℕ). get_or ns c 0) since, k.early c (was c y).0, longer);
        from_one = λ c y. omega (arith, ap (λ (ns : List ℕ). get_or ns c 0) since, k.from_one c (was c y).0);
        in_order =
            let P : List ℕ → Type 0 = λ ns. Ascends ns (without_index b a.order) in
            let Q : List ℕ → Type 0 = Ascends x.since in
            subst Q (sym order) (subst P (sym since) (ascends_without a.since b a.order k.in_order));
      } where
        was : (c : ℕ) → Contains x.order c → Contains a.order c × (c ≢ b)
        was c y = let P : List ℕ → Type 0 = λ bs. Contains bs c in Contains-from_without b a.order c (subst P order y)

-- the greatest of f below m
no_greater : (m : ℕ) (f : ℕ → ℕ) (v : ℕ) → ((i : ℕ) → i < m → f i ≤ v) → greatest_below m f ≤ v
unfolding greatest_below
no_greater zero f v low = omega arith
no_greater (suc m) f v low = omega (arith, no_greater m f v (λ i l. low i (omega (arith, l))), low m (omega arith))

no_less : (m : ℕ) (f : ℕ → ℕ) (p : ℕ) → p < m → f p ≤ greatest_below m f
unfolding greatest_below
no_less zero f p below = absurd (omega (arith, below))
no_less (suc m) f p below =
    elim (cases_lt p m) [
      | inl less ↦ omega (arith, no_less m f p less)
      | inr more ↦ omega (arith, ap f (last p m below more))
    ]
  where
    last : (p m : ℕ) → p < suc m → m ≤ p → p ≡ m
    last p m below more = omega (arith, below, more)

-- how long the page has waited that came first
abbrev pub by_first : ℕ → Option ℕ → ℕ
by_first n (Some since) = n - since + 1
by_first n None = 0

pub longest_is : (s : Shape) (h : History) (n : ℕ) (a : Arrived) → KeepsWaits s h n a → longest_wait s h ≡ by_first n (first_since a)
longest_is s h n a k = go a.order refl where
  low : (p : ℕ) → waits s h p ≡ true → p < allocations h
  low p w = live_below h p (legal_grown s h k.legal).numbered (waits_live s h p w)

  upto : (v p : ℕ) → ((c : ℕ) → home s h p ≡ Some c → waited s h p ≤ v) → waited s h p ≤ v
  upto v p most = by (waits s h p) refl where
    by : (w : Bool) → waits s h p ≡ w → waited s h p ≤ v
    by true y = let x = waits_home s h p k.legal y in most x.0 x.1
    by false y = omega (arith, k.idle p y)

  go : (bs : List ℕ) → a.order ≡ bs → longest_wait s h ≡ by_first n (first_arrival bs a.since)
  go [] is = omega (
    arith,
    no_greater (allocations h) (waited s h) 0 (λ p l. upto 0 p (λ c y.
        let P : List ℕ → Type 0 = λ xs. Contains xs c in absurd (Contains-nil c (subst P is (k.there p c y))))),
  )
  go (b ∷ bs) is =
      let P : List ℕ → Type 0 = λ xs. Contains xs b in
      let here : Contains a.order b = subst P (sym is) (Contains-head b bs) in
      let w = k.waiting b here in
      let U : List ℕ → Type 0 = Ascends a.since in
      let up : Ascends a.since (b ∷ bs) = subst U is k.in_order in
      let v : ℕ = waited s h w.0 in
      let most : greatest_below (allocations h) (waited s h) ≤ v = no_greater (allocations h) (waited s h) v (λ p l. upto v p (λ c y.
      let Q : List ℕ → Type 0 = λ xs. Contains xs c in
      elim (Contains-cons_cases b bs c (subst Q is (k.there p c y))) [
        | inl same ↦ omega (arith, k.came p c y, k.came w.0 b w.1, ap (λ (d : ℕ). get_or a.since d 0) same)
        | inr more ↦ omega (arith, k.came p c y, k.came w.0 b w.1, up.0 c more)
      ])) in
      omega (arith, most, no_less (allocations h) (waited s h) w.0 (low w.0 (home_waits s h w.0 b w.1).0), k.came w.0 b w.1, k.early b here, k.events_are)

none_allocated : allocations [] ≡ 0
unfolding count_of
none_allocated = refl

pub nothing_waits : (s : Shape) (a : Arrived) → a.order ≡ [] → length a.since ≡ s.blocks → KeepsWaits s [] 0 a
nothing_waits s a none size = record {
  legal = legal_none s;
  events_are = refl;
  few = omega arith;
  size = size;
  waiting = λ b c. absurd (Contains-nil b (empty b c));
  there = λ p b y. absurd (no_home p b y);
  came = λ p b y. absurd (no_home p b y);
  idle = λ p w. waited_none s p;
  early = λ b c. absurd (Contains-nil b (empty b c));
  from_one = λ b c. absurd (Contains-nil b (empty b c));
  in_order = let P : List ℕ → Type 0 = Ascends a.since in subst P (sym none) tt;
} where
  empty : (b : ℕ) → Contains a.order b → Contains [] b
  empty b c = let P : List ℕ → Type 0 = λ bs. Contains bs b in subst P none c

  no_home : (p b : ℕ) → home s [] p ≡ Some b → ⊥
  no_home p b y = omega (arith, live_below [] p (legal_grown s [] (legal_none s)).numbered (waits_live s [] p (home_waits s [] p b y).0), none_allocated)

-- the first came by an event that there was
pub first_was : (s : Shape) (h : History) (n : ℕ) (a : Arrived) (since : ℕ) → KeepsWaits s h n a → first_since a ≡ Some since → (0 < since) × (since ≤ n)
first_was s h n a since k e = grind (arith, Contains-head, get_or)

-- the page of an event comes to wait in block b
pub comes_of : (s : Shape) (h : History) (e : Event) (b : ℕ) (page : Option ℕ) → Fits s h e → event_page e.what ≡ page → None ≡ option_and_then (home s h) page → Some b ≡ option_and_then (home s (h ++ e ∷ [])) page →
    (p : ℕ) × ((q : ℕ) → (q ≢ p) → home s (h ++ e ∷ []) q ≡ home s h q) × (home s h p ≡ None) × (home s (h ++ e ∷ []) p ≡ Some b)
comes_of s h e b None f is before after = absurd (cc)
comes_of s h e b (Some p) f is before after = (p, (λ q ne. home_stays s h e q f (not_named e.what p q is ne)), sym before, sym after)

-- it waits there no more
pub goes_of : (s : Shape) (h : History) (e : Event) (b : ℕ) (page : Option ℕ) → Fits s h e → event_page e.what ≡ page → Some b ≡ option_and_then (home s h) page → None ≡ option_and_then (home s (h ++ e ∷ [])) page →
    (p : ℕ) × ((q : ℕ) → (q ≢ p) → home s (h ++ e ∷ []) q ≡ home s h q) × (home s h p ≡ Some b) × (home s (h ++ e ∷ []) p ≡ None)
goes_of s h e b None f is before after = absurd (cc)
goes_of s h e b (Some p) f is before after = (p, (λ q ne. home_stays s h e q f (not_named e.what p q is ne)), sym before, sym after)

stay_at : (s : Shape) (h : History) (e : Event) (p : ℕ) → Fits s h e → event_page e.what ≡ Some p → home s (h ++ e ∷ []) p ≡ home s h p → (q : ℕ) → home s (h ++ e ∷ []) q ≡ home s h q
stay_at s h e p f is same q = go (nat_eq q p) refl where
  go : (t : Bool) → nat_eq q p ≡ t → home s (h ++ e ∷ []) q ≡ home s h q
  go true y = let page : q ≡ p = eqb-true q p y in ap (home s (h ++ e ∷ [])) page ∙ same ∙ ap (home s h) (sym page)
  go false y = home_stays s h e q f (not_named e.what p q is (λ z. absurd (let yes = eq-eqb q p z in cc)))

-- it doesn't wait before and after, or waits before and after
pub stays_out : (s : Shape) (h : History) (e : Event) (page : Option ℕ) → Fits s h e → event_page e.what ≡ page → None ≡ option_and_then (home s h) page → None ≡ option_and_then (home s (h ++ e ∷ [])) page → (q : ℕ) → home s (h ++ e ∷ []) q ≡ home s h q
stays_out s h e x f is before after q = grind (arith, home_stays, none_named, stay_at)

pub stays_in : (s : Shape) (h : History) (e : Event) (b c : ℕ) (page : Option ℕ) → IsLegal s h → Fits s h e → event_page e.what ≡ page → Some b ≡ option_and_then (home s h) page → Some c ≡ option_and_then (home s (h ++ e ∷ [])) page → (q : ℕ) → home s (h ++ e ∷ []) q ≡ home s h q
stays_in s h e b c x l f is before after q = grind (arith, stay_at, same_home)

-- the first of an order
pub first_is : (order since : List ℕ) (b v : ℕ) → slice_get order 0 ≡ Some b → b < length since → v ≡ get_or since b v → Some v ≡ first_arrival order since
first_is x since b v e inside is = grind (arith, any_number, get_or)
