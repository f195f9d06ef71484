-- The blocks of the pages of a flight, before and after an event.
use Rattle.std.proofs.Common.{◌≡◌, ℕ, Bool, true, false, cond, ◌&&◌, ◌||◌, List, [], ◌∷◌, ◌++◌, Option, Some, None, map, refl, ap, sym, ◌∙◌, subst, nat_eq, eq-eqb, eqb-true, inl, inr, Contains, slice_get}
use Rattle.thp_links.proofs.Members.{Contains-nil, Contains-head, Contains-behind, Contains-cons_cases}
use Rattle.thp_history.specs.declared.events.Outcome.{Outcome}
use Rattle.thp_history.specs.declared.events.Outcome.TheVariants as outcome
use Rattle.thp_history.specs.Prelude.{History, by, is_freed, flight_by, has_page, no_pages, flight, without, gain_what, loss_what}
use Rattle.thp_history.proofs.Bools.{by_bool}
use Rattle.thp_live_pages.specs.Prelude.{block_of}
use Rattle.thp_live_pages.proofs.Homing.{block_push, block_stays}
use Rattle.thp_live_pages.proofs.Keeping.{blocks_same, blocks_without}
use Rattle.thp_live_pages.proofs.Standings.{has_not}
use Rattle.thp_history.specs.declared.page_call.Gain.{Gain}
use Rattle.thp_history.specs.declared.page_call.Gain.TheVariants as gain
use Rattle.thp_history.specs.declared.page_call.Loss.{Loss}
use Rattle.thp_history.specs.declared.page_call.Loss.TheVariants as loss
use Rattle.thp_check.specs.Prelude.{flight_left}
use Rattle.thp_check.proofs.PageEvents.{loss_flight_by}

-- two lists that begin alike
same_cons : (y : ℕ) (o : Option ℕ) (xs ys : List (Option ℕ)) → ◌≡◌ {A = List (Option ℕ)} (o ∷ xs) (Some y ∷ ys) → (o ≡ Some y) × (xs ≡ ys)
same_cons y o xs ys e = (cc, cc)

same_some : (a b : ℕ) → Some a ≡ Some b → a ≡ b
same_some a b e = cc

-- a page that lies in a block alone
abbrev pub LiesAlone : History → ℕ → ℕ → Type 0
LiesAlone h p b = (block_of h p ≡ Some b) × ((r : ℕ) → block_of h r ≡ Some b → r ≡ p)

-- some pages of a history, and the blocks in which they lie
module _ (h : History) where
  abbrev pub LieIn : List ℕ → List ℕ → Type 0
  LieIn ps bs = map (block_of h) ps ≡ map (λ b. Some b) bs

  -- the block of one of the pages is there
  pub block_there : (ps bs : List ℕ) (p b : ℕ) → LieIn ps bs → has_page p ps ≡ true → block_of h p ≡ Some b → Contains bs b
  block_there [] bs p b e i at = absurd (cc)
  block_there (x ∷ ps) [] p b e i at = absurd (cc)
  block_there (x ∷ ps) (y ∷ bs) p b e i at =
      let w = same_cons y (block_of h x) (map (block_of h) ps) (map (λ n. Some n) bs) e in
      by_bool (nat_eq x p) _
      (λ n.
      let P : ℕ → Type 0 = λ z. Contains (z ∷ bs) b in
      let same : y ≡ b = same_some y b (sym w.0 ∙ ap (block_of h) (eqb-true x p n) ∙ at) in
      subst P (sym same) (Contains-head b bs))
      (λ n. Contains-behind y bs b (block_there ps bs p b w.1 (sym (ap (λ c. c || has_page p ps) n) ∙ i) at))

  -- a block that is there is one of those of the pages
  pub page_there : (ps bs : List ℕ) (b : ℕ) → LieIn ps bs → Contains bs b → (r : ℕ) × (has_page r ps ≡ true) × (block_of h r ≡ Some b)
  page_there ps [] b e i = absurd (Contains-nil b i)
  page_there [] (y ∷ bs) b e i = absurd (cc)
  page_there (x ∷ ps) (y ∷ bs) b e i =
      let w = same_cons y (block_of h x) (map (block_of h) ps) (map (λ n. Some n) bs) e in
      elim (Contains-cons_cases y bs b i) [
        | inl is ↦ (x, ap (λ c. c || has_page x ps) (eq-eqb x x refl), w.0 ∙ ap (λ (n : ℕ). Some n) (sym is))
        | inr k ↦ let z = page_there ps bs b w.1 k in (z.0, yes (nat_eq x z.0) (has_page z.0 ps) z.1, z.2)
      ] where
        yes : (a c : Bool) → c ≡ true → (a || c) ≡ true
        yes true c k = refl
        yes false c k = k

  -- the page that lies in the first block is the first, and where there is no block there is no page
  pub first_lies : (ps bs : List ℕ) (b : ℕ) → LieIn ps bs → slice_get bs 0 ≡ Some b → (q : ℕ) × (slice_get ps 0 ≡ Some q) × (block_of h q ≡ Some b)
  first_lies ps [] b e i = absurd (cc)
  first_lies [] (y ∷ bs) b e i = absurd (cc)
  first_lies (x ∷ ps) (y ∷ bs) b e i = let w = same_cons y (block_of h x) (map (block_of h) ps) (map (λ n. Some n) bs) e in (x, refl, w.0 ∙ i)

  pub none_first : (ps bs : List ℕ) → LieIn ps bs → slice_get bs 0 ≡ None → slice_get ps 0 ≡ None
  none_first [] bs e i = refl
  none_first (x ∷ ps) [] e i = absurd (cc)
  none_first (x ∷ ps) (y ∷ bs) e i = absurd (cc)

  pub first_page : (ps bs : List ℕ) (p b : ℕ) → LieIn ps bs → LiesAlone h p b → slice_get bs 0 ≡ Some b → slice_get ps 0 ≡ Some p
  first_page ps [] p b e alone i = absurd (cc)
  first_page [] (y ∷ bs) p b e alone i = absurd (cc)
  first_page (x ∷ ps) (y ∷ bs) p b e alone i =
      let w = same_cons y (block_of h x) (map (block_of h) ps) (map (λ n. Some n) bs) e in
      ap (λ (n : ℕ). Some n) (alone.1 x (w.0 ∙ i))

  -- there are pages exactly where there are blocks
  pub none_there : (ps bs : List ℕ) → LieIn ps bs → no_pages bs ≡ no_pages ps
  none_there [] [] e = refl
  none_there [] (y ∷ bs) e = absurd (cc)
  none_there (x ∷ ps) [] e = absurd (cc)
  none_there (x ∷ ps) (y ∷ bs) e = refl

  -- a page leaves the flight of the caller o, if there is one, and its block that flight's blocks
  left_in : (ps bs : List ℕ) (p b : ℕ) (o : Option ℕ) (d : ℕ) → LiesAlone h p b → LieIn ps bs → LieIn (flight_left o p d ps) (flight_left o b d bs)
  left_in ps bs p b None d alone e = e
  left_in ps bs p b (Some c) d alone e = go (nat_eq c d) where
    go : (x : Bool) → LieIn (cond x (without p ps) ps) (cond x (without b bs) bs)
    go true = blocks_without h ps bs p b alone.0 alone.1 e
    go false = e

-- a flight that an event leaves, with the blocks of its pages
pub unmoved : (h k : History) (d : ℕ) (bs : List ℕ) → flight k d ≡ flight h d → ((r : ℕ) → has_page r (flight h d) ≡ true → block_of k r ≡ block_of h r) →
    LieIn h (flight h d) bs → LieIn k (flight k d) bs
unmoved h k d bs same homes e = ap (map (block_of k)) same ∙ blocks_same h k (flight h d) homes ∙ e

-- a flight that a page left, with the blocks of the other pages
pub departed : (h k : History) (d p b : ℕ) (o : Option ℕ) (bs : List ℕ) → flight k d ≡ flight_left o p d (flight h d) → ((r : ℕ) → has_page r (flight k d) ≡ true → block_of k r ≡ block_of h r) →
    LiesAlone h p b → LieIn h (flight h d) bs → LieIn k (flight k d) (flight_left o b d bs)
departed h k d p b o bs is homes alone e = blocks_same h k (flight k d) homes ∙ ap (map (block_of h)) is ∙ left_in h (flight h d) bs p b o d alone e

-- a gain leaves every page where it lies
pub gain_home : (h : History) (c p : ℕ) (g : Gain) (r : ℕ) → block_of (h ++ by c (gain_what g p) ∷ []) r ≡ block_of h r
gain_home h c p gain.MapWhole r = block_push h (by c (gain_what gain.MapWhole p)) r
gain_home h c p (gain.MapSub f n) r = block_push h (by c (gain_what (gain.MapSub f n) p)) r
gain_home h c p gain.SplitPmd r = block_push h (by c (gain_what gain.SplitPmd p)) r
gain_home h c p gain.Pin r = block_push h (by c (gain_what gain.Pin p)) r
gain_home h c p (gain.Write f n) r = block_push h (by c (gain_what (gain.Write f n) p)) r
gain_home h c p (gain.Zero f n) r = block_push h (by c (gain_what (gain.Zero f n) p)) r

-- a loss leaves every page that it doesn't free
loss_home : (h : History) (c p : ℕ) (l : Loss) (o : Outcome) (set : List Bool) (r : ℕ) → (nat_eq r p && is_freed o) ≡ false → block_of (h ++ by c (loss_what l p o set) ∷ []) r ≡ block_of h r
loss_home h c p loss.UnmapWhole o set r e = block_push h (by c (loss_what loss.UnmapWhole p o set)) r ∙ block_stays r (block_of h r) (loss_what loss.UnmapWhole p o set) refl e
loss_home h c p (loss.UnmapSub f n) o set r e =
    block_push h (by c (loss_what (loss.UnmapSub f n) p o set)) r ∙ block_stays r (block_of h r) (loss_what (loss.UnmapSub f n) p o set) refl e
loss_home h c p loss.Unpin o set r e = block_push h (by c (loss_what loss.Unpin p o set)) r ∙ block_stays r (block_of h r) (loss_what loss.Unpin p o set) refl e

-- so it leaves those still in flight
pub loss_flying_home : (h : History) (c p : ℕ) (l : Loss) (o : Outcome) (set : List Bool) (d r : ℕ) → has_page r (flight (h ++ by c (loss_what l p o set) ∷ []) d) ≡ true →
    block_of (h ++ by c (loss_what l p o set) ∷ []) r ≡ block_of h r
loss_flying_home h c p l o set d r i = loss_home h c p l o set r (go o (sym (ap (has_page r) (loss_flight_by h c p l o set d)) ∙ i)) where
  both : (a : Bool) → (a && false) ≡ false
  both true = refl
  both false = refl

  go : (u : Outcome) → has_page r (flight_by (flight h d) p u) ≡ true → (nat_eq r p && is_freed u) ≡ false
  go outcome.Stays y = both (nat_eq r p)
  go outcome.Queued y = both (nat_eq r p)
  go outcome.Freed y =
      by_bool (nat_eq r p) _
      (λ n. absurd (let gone = has_not p (flight h d) in let there : has_page p (without p (flight h d)) ≡ true = ap (λ z. has_page z (without p (flight h d))) (sym (eqb-true r p n)) ∙ y in cc))
      (λ n. ap (λ a. a && true) n)
