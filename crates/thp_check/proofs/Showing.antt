-- What a replay shows of its pages: their numbers by block, and what its table says of one.
use Rattle.std.proofs.Common.{◌≡◌, ℕ, zero, suc, ◌<◌, ◌+◌, ◌^◌, Bool, true, false, not, cond, if◌then◌else◌, ◌&&◌, ◌||◌, List, [], ◌∷◌, ◌++◌, Option, Some, None, length, map, take, get_or, refl, ap, ap₂, sym, ◌∙◌, subst, arith, nat_lt, slice_get, IsSome, is_some, Result, IfOk}
use Rattle.std.specs.Int.{from_bool}
use Rattle.std.specs.List.{filter, range_with_len}
use Rattle.std.proofs.lemmas.List.{take_more, map-append}
use Rattle.std.proofs.lemmas.List.Elements.{filter-append}
use Rattle.std.proofs.lemmas.List.FromFn.{map-range_with_len_more}
use Rattle.thp_history.specs.declared.events.What.TheVariants.{Split}
use Rattle.thp_history.specs.declared.shape.Shape.{Shape}
use Rattle.thp_history.specs.Prelude.{is_live, is_used, whole, block_in_use, is_held, History, PageState, Tallies, size, total_at, zero_at, zero_set, used_set, holds, set_of, has, subpages, is_zero_filled, is_partly_mapped, shrinks_underused, get_or-set_of, IsContext}
use Rattle.thp_history.proofs.ListPlaces.{append_none}
use Rattle.thp_history.proofs.PageRefusals.{held_is}
use Rattle.thp_history.proofs.Tallying.{size_is, total_is, whole_is}
use Rattle.thp_history.proofs.WordLemmas.{set_of-ext}
use Rattle.thp_page.specs.Prelude.{slot_at, page_in, HoldsPage, Slot, Table}
use Rattle.thp_live_pages.specs.Prelude.{IsNode, Fills, block_of, Relinks, AtSlot, PageStoreState}
use Rattle.thp_live_pages.proofs.Admitting.{Found, found, at_home, not_live}
use Rattle.thp_live_pages.proofs.Homing.{Homed, legal_homed, block_free, block_taken}
use Rattle.thp_live_pages.proofs.Looking.{node_read}
use Rattle.thp_live_pages.proofs.Relinking.{page_there}
use Rattle.thp_check.specs.Prelude.{NodeState, Means, is_taken, page_at, number_or_0}
use Rattle.thp_check.proofs.FlightBlocks.{LieIn}

-- two lists that begin alike
same_cons : (y : ℕ) (o : Option ℕ) (xs ys : List (Option ℕ)) → ◌≡◌ {A = List (Option ℕ)} (o ∷ xs) (Some y ∷ ys) → (o ≡ Some y) × (xs ≡ ys)
same_cons y o xs ys e = (cc, cc)

module _ (s : Shape) (h : History) (t : Table) (q : List ℕ) (node : IsNode s h t q) where
  -- pages that lie in some blocks are those that the table has there
  pub numbers_are : (ps bs : List ℕ) → LieIn h ps bs → map (page_at t) bs ≡ ps
  numbers_are [] [] e = refl
  numbers_are [] (y ∷ bs) e = absurd (cc)
  numbers_are (x ∷ ps) [] e = absurd (cc)
  numbers_are (x ∷ ps) (y ∷ bs) e =
      let w = same_cons y (block_of h x) (map (block_of h) ps) (map (λ n. Some n) bs) e in
      let f : Found s h t x y = at_home s h t q x y node w.0 in
      ap₂ (λ n (ns : List ℕ). n ∷ ns) (ap number_or_0 f.at ∙ f.id_is) (numbers_are ps bs w.1)

  -- and there is one in each
  pub each_there : (ps bs : List ℕ) → LieIn h ps bs → (k b : ℕ) → slice_get bs k ≡ Some b → IsSome (slot_at t b)
  each_there ps [] e k b i = absurd (cc)
  each_there [] (y ∷ bs) e k b i = absurd (cc)
  each_there (x ∷ ps) (y ∷ bs) e zero b i =
      let w = same_cons y (block_of h x) (map (block_of h) ps) (map (λ n. Some n) bs) e in
      let f : Found s h t x y = at_home s h t q x y node w.0 in
      let P : ℕ → Type 0 = λ n. IsSome (slot_at t n) in
      let same : y ≡ b = cc in
      subst P same (rw f.at refl)
  each_there (x ∷ ps) (y ∷ bs) e (suc k) b i =
      let w = same_cons y (block_of h x) (map (block_of h) ps) (map (λ n. Some n) bs) e in
      each_there ps bs w.1 k b i

  homed : Homed s h
  homed = legal_homed s h node.legal

  -- a block is taken in the table where it is in use
  pub taken_is : (b : ℕ) → is_taken t b ≡ block_in_use h b
  taken_is b = go (slot_at t b) refl (node.fills b) where
    go : (o : Option Slot) → slot_at t b ≡ o → Fills s h b o → is_taken t b ≡ block_in_use h b
    go None e f = ap is_some e ∙ sym (block_free s h b homed f)
    go (Some x) e f = ap is_some e ∙ sym (block_taken s h x.id b homed f.home)

  taken_all : (bs : List ℕ) → filter (is_taken t) bs ≡ filter (block_in_use h) bs
  taken_all [] = refl
  taken_all (b ∷ bs) = ap₂ (λ x (ys : List ℕ). cond x (b ∷ ys) ys) (taken_is b) (taken_all bs)

  -- the pages of the taken blocks lie there
  pub lie_there : (bs : List ℕ) → map (block_of h) (map (page_at t) (filter (is_taken t) bs)) ≡ map (λ n. Some n) (filter (is_taken t) bs)
  lie_there [] = refl
  lie_there (b ∷ bs) = go (slot_at t b) refl (node.fills b) (lie_there bs) where
    go : (o : Option Slot) → slot_at t b ≡ o → Fills s h b o → map (block_of h) (map (page_at t) (filter (is_taken t) bs)) ≡ map (λ n. Some n) (filter (is_taken t) bs) →
        map (block_of h) (map (page_at t) (cond (is_taken t b) (b ∷ filter (is_taken t) bs) (filter (is_taken t) bs)))
        ≡ map (λ n. Some n) (cond (is_taken t b) (b ∷ filter (is_taken t) bs) (filter (is_taken t) bs))
    go None e f more = rw e more
    go (Some x) e f more =
        let is : page_at t b ≡ x.id = ap number_or_0 e in
        let yes : is_taken t b ≡ true = ap is_some e in
        rw yes (ap₂ (λ (o : Option ℕ) (os : List (Option ℕ)). o ∷ os) (ap (block_of h) is ∙ f.home) more)

  pub live_lie : (n : ℕ) → map (block_of h) (map (page_at t) (filter (is_taken t) (range_with_len 0 n))) ≡ map (λ b. Some b) (filter (block_in_use h) (range_with_len 0 n))
  live_lie n = lie_there (range_with_len 0 n) ∙ ap (map (λ b. Some b)) (taken_all (range_with_len 0 n))

  -- each taken block has its page
  pub each_taken : (bs : List ℕ) (k b : ℕ) → slice_get (filter (is_taken t) bs) k ≡ Some b → IsSome (slot_at t b)
  each_taken bs k b i = each_there (map (page_at t) (filter (is_taken t) bs)) (filter (is_taken t) bs) (lie_there bs) k b i

-- ---- the sets of a page

module _ (s : Shape) (h : History) (p : ℕ) (t : PageState) (m : Tallies s h p t) (live : is_live h p ≡ true) where
  within : (i : ℕ) → nat_lt i (size t) ≡ nat_lt i (subpages s)
  within i = ap (nat_lt i) (size_is s h p t m)

  both : (x y a b : Bool) → x ≡ y → (y ≡ true → a ≡ b) → (x && a) ≡ (y && b)
  both x y a b e f = grind arith

  below : (i n : ℕ) → nat_lt i n ≡ true → i < n
  below i n e = grind arith

  pub used_is : used_set t ≡ set_of (λ i. nat_lt i (subpages s) && is_used h p i)
  used_is = grind (arith, set_of-ext, nat_lt, both, within, total_is, below)

  pub zero_is : zero_set t ≡ set_of (λ i. nat_lt i (subpages s) && is_zero_filled h p i)
  zero_is = grind (arith, set_of-ext, nat_lt, both, within, below)

  pub frames_are : set_of (holds t) ≡ set_of (is_held s h p)
  frames_are = set_of-ext (holds t) (is_held s h p) (λ i l. sym (held_is s h p i t m live))

-- ---- what the table says of a page

-- a page that is found lives, and its state is what the history says of it
pub seen : (s : Shape) (h : History) (r : NodeState) → Means s h r → (u : Table) → u ≡ r.places.table → (p b : ℕ) → HoldsPage (slot_at u b) p → (x : PageState) → Some x ≡ page_in (slot_at u b) →
    (is_live h p ≡ true) × Tallies s h p x
seen s h r m u same p b held x is =
    let t : Table = r.places.table in
    let H : Table → Type 0 = λ v. HoldsPage (slot_at v b) p in
    let I : Table → Type 0 = λ v. ◌≡◌ {A = Option PageState} (Some x) (page_in (slot_at v b)) in
    let w : Found s h t p b = found s h t r.places.queue p b m.kept.node (subst H same held) in
    let state : x ≡ w.slot.page = page_there t b w.slot x w.at (subst I same is) in
    let A : ℕ → Type 0 = λ n. Tallies s h n w.slot.page in
    let B : PageState → Type 0 = λ y. Tallies s h p y in
    (w.live, subst B (sym state) (subst A w.id_is w.is.tallies))

-- one that isn't found doesn't live
pub unseen : (s : Shape) (h : History) (r : NodeState) → Means s h r → (u : Table) → u ≡ r.places.table → (p : ℕ) → ((b : ℕ) → HoldsPage (slot_at u b) p → ⊥) → is_live h p ≡ false
unseen s h r m u same p none =
    let N : Table → Type 0 = λ v. (b : ℕ) → HoldsPage (slot_at v b) p → ⊥ in
    not_live s h r.places.table r.places.queue p m.kept.node (subst N same none)

-- the context of a split
pub context_there : (s : Shape) (h : History) (r : NodeState) → Means s h r → (p b : ℕ) (set : List Bool) → HoldsPage (slot_at r.places.table b) p → (n : ℕ) (partly : Bool) →
    AtSlot r.places.table b (λ x. n ≡ x.page.whole) → AtSlot r.places.table b (λ x. partly ≡ x.page.partly) → IsContext s h (Split p set) (record { mappings = n; underused = not partly })
context_there s h r m p b set held n partly count part =
    let w : Found s h r.places.table p b = found s h r.places.table r.places.queue p b m.kept.node held in (
      count w.slot w.at ∙ sym (whole_is s h w.slot.id w.slot.page w.is.tallies) ∙ ap (whole h) w.id_is,
      go partly (is_partly_mapped s h p) (part w.slot w.at ∙ w.is.tallies.partly ∙ ap (is_partly_mapped s h) w.id_is),
    ) where
      go : (x y : Bool) → x ≡ y → from_bool (not x) ≡ if y then 0 else 1
      go x true e = rw e refl
      go x false e = rw e refl

-- ---- the frames that a page holds

-- all, where it isn't split
pub held_unsplit : (t : PageState) (n : ℕ) → n ≡ t.order → t.split ≡ false → set_of (λ i. nat_lt i (2 ^ n)) ≡ set_of (holds t)
unfolding size
held_unsplit t n e f = grind (arith, set_of-ext, nat_lt)

-- those in use, but for the zero-filled ones where their frames were given back
pub held_split : (t : PageState) (used filled : List Bool) → used ≡ used_set t → filled ≡ zero_set t → t.split ≡ true → t.freed_zero_frames ≡ true → set_of (λ i. has used i && not (has filled i)) ≡ set_of (holds t)
held_split t used filled e f g k =
    set_of-ext (λ i. has used i && not (has filled i)) (holds t)
    (λ i l.
    go _ _ _ _ _ _ _ (ap (λ (x : List Bool). has x i) e ∙ get_or-set_of (λ j. nat_lt j (size t) && nat_lt 0 (total_at t j)) i l)
    (ap (λ (x : List Bool). has x i) f ∙ get_or-set_of (λ j. nat_lt j (size t) && zero_at t j) i l) g k) where
      go : (a b x y z s v : Bool) → a ≡ (x && y) → b ≡ (x && z) → s ≡ true → v ≡ true → (a && not b) ≡ (x && (not s || (y && not (v && z))))
      go a b true y z s v d e g k = rw (d, e, g, k) refl
      go a b false y z s v d e g k = rw d refl

-- ---- one block more

range_more : (n : ℕ) → range_with_len 0 (n + 1) ≡ range_with_len 0 n ++ n ∷ []
range_more n = sym (same (range_with_len 0 (n + 1))) ∙ map-range_with_len_more (λ (x : ℕ). x) 0 n n (omega arith) ∙ ap (λ (xs : List ℕ). xs ++ n ∷ []) (same (range_with_len 0 n)) where
  same : (xs : List ℕ) → map (λ (x : ℕ). x) xs ≡ xs
  same [] = refl
  same (x ∷ xs) = ap (λ (ys : List ℕ). x ∷ ys) (same xs)

pub taken_more : (t : Table) (n : ℕ) → filter (is_taken t) (range_with_len 0 (n + 1)) ≡ filter (is_taken t) (range_with_len 0 n) ++ cond (is_taken t n) (n ∷ []) []
taken_more t n = ap (filter (is_taken t)) (range_more n) ∙ filter-append (is_taken t) (range_with_len 0 n) (n ∷ [])

-- those passed, with one more that is taken, or that isn't
pub taken_yes : (t : Table) (n : ℕ) (ys zs : List ℕ) → ys ≡ filter (is_taken t) (range_with_len 0 n) → IsSome (slot_at t n) → zs ≡ ys ++ n ∷ [] → zs ≡ filter (is_taken t) (range_with_len 0 (n + 1))
taken_yes t n ys zs e there is = grind (arith, taken_more)

pub taken_no : (t : Table) (n : ℕ) (ys : List ℕ) → ys ≡ filter (is_taken t) (range_with_len 0 n) → slot_at t n ≡ None → ys ≡ filter (is_taken t) (range_with_len 0 (n + 1))
taken_no t n ys e empty = grind (arith, taken_more, is_some, append_none)

-- ---- the pages of some blocks

-- the number that is read where a page lies
pub number_is : (t : Table) (b p : ℕ) → IsSome (slot_at t b) → AtSlot t b (λ x. p ≡ x.id) → p ≡ page_at t b
number_is t b p there read = grind arith

-- an element of a list
pub got : (xs : List ℕ) (k d : ℕ) → k < length xs → slice_get xs k ≡ Some (get_or xs k d)
got [] k d below = absurd (omega arith)
got (x ∷ xs) zero d below = refl
got (x ∷ xs) (suc k) d below = got xs k d (omega arith)

-- the pages passed, with one more
pub pages_more : (t : Table) (bs ps : List ℕ) (k p : ℕ) → k < length bs → ps ≡ map (page_at t) (take k bs) → p ≡ page_at t (get_or bs k 0) → ps ++ p ∷ [] ≡ map (page_at t) (take (k + 1) bs)
pages_more t bs ps k p below e f =
    ap₂ (λ (xs : List ℕ) x. xs ++ x ∷ []) e f
    ∙ sym (ap (map (page_at t)) (take_more bs k 0 below) ∙ map-append (page_at t) (take k bs) (get_or bs k 0 ∷ []))

-- some blocks of a replay are those where the pages ps lie
module _ (s : Shape) (h : History) (r : NodeState) (m : Means s h r) (blocks : NodeState → List ℕ) (ps : List ℕ) (lie : LieIn h ps (blocks r)) (u v : NodeState) (is : u ≡ r) (same : v ≡ r) where
  pub each_of : (bs cs : List ℕ) → bs ≡ blocks u → cs ≡ bs → (k b : ℕ) → slice_get cs k ≡ Some b → IsSome (slot_at v.places.table b)
  each_of bs cs e f k b g = grind (arith, each_there, slice_get)

  pub pages_are : (bs cs : List ℕ) → bs ≡ blocks u → cs ≡ bs → map (page_at v.places.table) cs ≡ ps
  pages_are bs cs e f = grind (arith, numbers_are)

-- the switch, by the threshold
pub shrinks_is : (s : Shape) → shrinks_underused s ≡ is_some s.underused
shrinks_is s = elim s.underused as (λ o. shrinks_underused (record s { underused = o }) ≡ is_some o) [ None ↦ refl | Some n ↦ refl ]

-- a consequence of what is so of a value
pub if_ok_then : {A E : Type 0} (r : Result A E) (P Q : A → Type 0) → ((x : A) → P x → Q x) → IfOk r P → IfOk r Q
if_ok_then x y z f p = grind arith

-- a replay whose links were read means what it meant
pub means_read : (s : Shape) (h : History) (r : NodeState) (p : PageStoreState) (most : ℕ) → Means s h r → Relinks r.places p most → Means s h (record r { places = p })
means_read s h r p most m same = grind (arith, node_read)
