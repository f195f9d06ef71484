-- Each frame of each page allocated is held or was given back: their sum.
use Rattle.std.proofs.Common.{◌≡◌, ◌≢◌, ℕ, suc, ◌+◌, ◌-◌, ◌*◌, ◌<◌, ◌≤◌, Bool, true, false, cond, not, ◌&&◌, ◌||◌, List, [], ◌∷◌, ◌++◌, refl, ap, sym, ◌∙◌, subst, arith, nat_eq, nat_lt, inl, inr, eq-eqb, ne_eqb, lt-ltb, Option, Some, None}
use Rattle.std.specs.List.{sum_by, cons_option}
use Rattle.std.proofs.lemmas.Bool.Decides.{eqb_tells, nat_tests}
use Rattle.std.proofs.lemmas.List.Sums.{sum_by-append, sum_by-cons}
use Rattle.thp_history.specs.Prelude.{Event, What, Shape, History, count_of, some_event, by, is_live, is_split, is_alloc, allocates, frees, splits, allocations, is_held, released, given, gives_back, frames_given, frames_held, FitsBy, IsLegal, flights, set_size, sum_below, count_below, subpages}
use Rattle.thp_history.specs.declared.events.What.TheVariants.{Alloc, MapWhole, UnmapWhole, MapSub, UnmapSub, Unpin, Write, Zero, Split}
use Rattle.thp_history.proofs.Allowed.{allowed_map_whole, allowed_unmap_whole, allowed_unmap_sub, allowed_unpin, allowed_write, allowed_zero}
use Rattle.thp_history.proofs.Bools.{and_no, and_both}
use Rattle.thp_history.proofs.Holding.{held_still, held_falls, still_unmap_whole, still_unmap_sub, still_unpin, still_split, whole_held, unsplit_same, kept_map_sub}
use Rattle.thp_history.proofs.LegalSteps.{legal_all}
use Rattle.thp_history.proofs.Numbers.{Fresh, Numbered, live_below, numbered_none}
use Rattle.thp_history.proofs.Pushes.{count_same, count_more, some_event_push, some_same, given_push}
use Rattle.thp_history.proofs.Sizes.{few_subpages}
use Rattle.thp_history.proofs.Standing.{Sound, sound_push, sound_none, numbered_push, stand, flying-leaves}
use Rattle.thp_history.proofs.SumsBelow.{sum_below-ext, sum_below-add, sum_below-one, sum_below-const, sum_below-stop, sum_below_suc, set_size-set_of}

-- how many frames an event gives back
abbrev pub size_given : Option (ℕ × List Bool) → ℕ
size_given None = 0
size_given (Some g) = set_size g.1

-- the frames that one event gives back
one_given : (o : Option (ℕ × List Bool)) → sum_by (λ (g : ℕ × List Bool). set_size g.1) (cons_option o []) ≡ size_given o
one_given x = grind (arith, sum_by-cons)

-- how many frames were given back, after one more event
pub frames_given_push : (h : History) (e : Event) → frames_given (h ++ e ∷ []) ≡ frames_given h + size_given (gives_back e)
frames_given_push h e = grind (arith, given_push, sum_by-append, one_given)

-- of what was held, what is held still and what was released
pub parts : (a b : Bool) → (b ≡ true → a ≡ true) → cond {A = ℕ} a 1 0 ≡ cond b 1 0 + cond (a && not b) 1 0
parts x y f = grind arith

-- a conjunction that doesn't hold counts none
off : (a b c : Bool) → a ≡ false → cond {A = ℕ} ((a && b) && c) 1 0 ≡ 0
off x b c e = grind arith

-- what was held is what is still held and what was given back
released_size : (shape : Shape) (h k : History) (p : ℕ) → shape.order ≤ 9 → ((i : ℕ) → is_held shape k p i ≡ true → is_held shape h p i ≡ true) →
    count_below (subpages shape) (is_held shape h p) ≡ count_below (subpages shape) (is_held shape k p) + set_size (released shape h k p)
released_size shape h k p small f =
    sum_below-ext (subpages shape) _ _ (λ i below. parts (is_held shape h p i) (is_held shape k p i) (f i))
    ∙ sum_below-add (subpages shape) (λ i. cond (is_held shape k p i) 1 0) (λ i. cond (is_held shape h p i && not (is_held shape k p i)) 1 0)
    ∙ ap (λ x. count_below (subpages shape) (is_held shape k p) + x) (sym (set_size-set_of (λ i. is_held shape h p i && not (is_held shape k p i)) ∙ ap (λ m. count_below m (λ i. is_held shape h p i && not (is_held shape k p i))) (up (subpages shape) (few_subpages shape small)) ∙ sum_below-stop (512 - subpages shape) (subpages shape) _ (λ i above. none i above))) where
      up : (n : ℕ) → n ≤ 512 → 512 ≡ 512 - n + n
      up n h = omega arith

      none : (i : ℕ) → subpages shape ≤ i → cond {A = ℕ} (is_held shape h p i && not (is_held shape k p i)) 1 0 ≡ 0
      none i above = off (nat_lt i (subpages shape)) _ _ (grind (arith, nat_tests))

-- one event that gives nothing back and leaves each page's frames
quiet : (shape : Shape) (h : History) (e : Event) → is_alloc e.what ≡ false → size_given (gives_back e) ≡ 0 → ((q i : ℕ) → is_held shape (h ++ e ∷ []) q i ≡ is_held shape h q i) →
    subpages shape * allocations h ≡ frames_held shape h + frames_given h → subpages shape * allocations (h ++ e ∷ []) ≡ frames_held shape (h ++ e ∷ []) + frames_given (h ++ e ∷ [])
quiet shape h e a g s m = grind (arith, count_same, sum_below-ext, frames_given_push)

-- one event that gives back frames of page p
release : (shape : Shape) (h : History) (e : Event) (p : ℕ) (r : List Bool) → shape.order ≤ 9 → p < allocations h → is_alloc e.what ≡ false → size_given (gives_back e) ≡ set_size r →
    r ≡ released shape h (h ++ e ∷ []) p → ((i : ℕ) → is_held shape (h ++ e ∷ []) p i ≡ true → is_held shape h p i ≡ true) → ((q i : ℕ) → (q ≢ p) → is_held shape (h ++ e ∷ []) q i ≡ is_held shape h q i) →
    subpages shape * allocations h ≡ frames_held shape h + frames_given h → subpages shape * allocations (h ++ e ∷ []) ≡ frames_held shape (h ++ e ∷ []) + frames_given (h ++ e ∷ [])
release shape h e p r small below a g is less s m =
    let k : History = h ++ e ∷ [] in
    let as_many : allocations k ≡ allocations h = count_same is_alloc h e a in
    let same : frames_held shape k ≡ sum_below (allocations h) (λ q. count_below (subpages shape) (is_held shape k q)) =
    ap (λ x. sum_below x (λ q. count_below (subpages shape) (is_held shape k q))) as_many in
    let one : frames_held shape h ≡ sum_below (allocations h) (λ q. count_below (subpages shape) (is_held shape k q)) + set_size r =
    sum_below-one (allocations h) _ _ p (set_size r) below (λ q under apart. sum_below-ext (subpages shape) _ _ (λ i far. ap (λ b. cond b 1 0) (sym (s q i apart))))
    (released_size shape h k p small less ∙ ap (λ t. count_below (subpages shape) (is_held shape k p) + set_size t) (sym is)) in
    let given : frames_given k ≡ frames_given h + set_size r = frames_given_push h e ∙ ap (λ x. frames_given h + x) g in
    ap (λ x. subpages shape * x) as_many ∙ m ∙ omega (arith, same, one, given)

-- each frame of each page allocated is held or was given back
abbrev pub Balanced : Shape → History → Type 0
Balanced shape h = subpages shape * allocations h ≡ frames_held shape h + frames_given h

-- an allocation adds as many frames as a page has, and holds them
kept_alloc : (shape : Shape) (h : History) (c p b : ℕ) → Numbered h → p ≡ allocations h → Balanced shape h → Balanced shape (h ++ by c (Alloc p b) ∷ [])
kept_alloc shape h c p b t is m =
    let e : Event = by c (Alloc p b) in
    let k : History = h ++ e ∷ [] in
    let fresh : Fresh h p = t.fresh p (omega (arith, is)) in
    let more : allocations k ≡ suc (allocations h) = count_more is_alloc h e refl ∙ omega arith in
    let old : sum_below (allocations h) (λ q. count_below (subpages shape) (is_held shape k q)) ≡ frames_held shape h =
    sum_below-ext (allocations h) _ _ (λ q below. sum_below-ext (subpages shape) _ _ (λ i under. ap (λ x. cond x 1 0)
    (held_still shape h e q i (let a : nat_eq q p ≡ false = ne_eqb q p (λ z. omega (arith, z, is)) in record { no_maps = λ j. a; no_unmaps = λ j. refl; no_alloc = a; no_free = refl; no_split = refl; no_zeroes = λ j. a; no_writes = λ j. refl })))) in
    let live : is_live k p ≡ true = new_live (some_event (allocates p) h) (some_event (allocates p) k) (some_event (frees p) k) (allocates p e.what) (some_event_push (allocates p) h e) (eq-eqb p p refl) (some_same (frees p) h e refl ∙ fresh.not_freed) in
    let new : count_below (subpages shape) (is_held shape k p) ≡ 1 * subpages shape =
    sum_below-ext (subpages shape) _ _ (λ i under. ap (λ x. cond x 1 0) (whole_held shape k p i live (some_same (splits p) h e refl ∙ fresh.not_split) (lt-ltb i (subpages shape) under))) ∙ sum_below-const (subpages shape) 1 in
    let held_now : frames_held shape k ≡ frames_held shape h + subpages shape =
    ap (λ x. sum_below x (λ q. count_below (subpages shape) (is_held shape k q))) more ∙ sum_below_suc (allocations h) (λ q. count_below (subpages shape) (is_held shape k q)) ∙ ap (λ x. sum_below (allocations h) (λ q. count_below (subpages shape) (is_held shape k q)) + count_below (subpages shape) (is_held shape k x)) (sym is) ∙ omega (arith, old, new) in
    let given : frames_given k ≡ frames_given h + 0 = frames_given_push h e in
    let times : subpages shape * allocations k ≡ subpages shape * allocations h + subpages shape = ap (λ x. subpages shape * x) more ∙ mul_suc (subpages shape) (allocations h) in
    times ∙ omega (arith, m, held_now, given) where
      mul_suc : (n m : ℕ) → n * suc m ≡ n * m + n
      mul_suc n m = grind arith

      new_live : (a a' f b : Bool) → a' ≡ (a || b) → b ≡ true → f ≡ false → (a' && not f) ≡ true
      new_live a true true b e g h = absurd (cc)
      new_live a true false b e g h = refl
      new_live true false f b e g h = absurd (cc)
      new_live false false f b e g h = absurd (cc)

-- an event that fits keeps the sum
kept_step : (shape : Shape) (h : History) (c : ℕ) (w : What) → shape.order ≤ 9 → Sound shape h → Numbered h → FitsBy shape h (h ++ by c w ∷ []) c w →
    Balanced shape h → Balanced shape (h ++ by c w ∷ [])
kept_step shape h c (Alloc p b) small s t f m = kept_alloc shape h c p b t f.number m
kept_step shape h c (MapWhole p) small s t f m =
    let e : Event = by c (MapWhole p) in
    quiet shape h e refl refl
    (λ q i.
    elim (eqb_tells q p) [
      | inl y ↦ unsplit_same shape h e q i (let P : ℕ → Type 0 = λ x. is_split h x ≡ false in subst P (sym y.1) (allowed_map_whole shape h p f).1) refl refl refl
      | inr y ↦ held_still shape h e q i (record { no_maps = λ j. y.0; no_unmaps = λ j. refl; no_alloc = refl; no_free = refl; no_split = refl; no_zeroes = λ j. refl; no_writes = λ j. refl })
    ]) m
kept_step shape h c (UnmapWhole o p r) small s t f m =
    let e : Event = by c (UnmapWhole o p r) in
    release shape h e p r small (live_below h p t (allowed_unmap_whole shape h p f.0).0) refl refl f.1.set_is (λ i. held_falls shape h e p i (λ j. refl) refl refl refl refl)
    (λ q i a. held_still shape h e q i (still_unmap_whole q p o r a)) m
kept_step shape h c (MapSub p a d) small s t f m =
    let e : Event = by c (MapSub p a d) in
    quiet shape h e refl refl
    (λ q i.
    elim (eqb_tells q p) [
      | inl y ↦ let P : ℕ → Type 0 = λ x. is_held shape (h ++ e ∷ []) x i ≡ is_held shape h x i in subst P (sym y.1) (kept_map_sub shape h c p a d i f)
      | inr y ↦ held_still shape h e q i (record { no_maps = λ j. and_no _ _ y.0; no_unmaps = λ j. refl; no_alloc = refl; no_free = refl; no_split = refl; no_zeroes = λ j. refl; no_writes = λ j. refl })
    ]) m
kept_step shape h c (UnmapSub o p a d r) small s t f m =
    let e : Event = by c (UnmapSub o p a d r) in
    release shape h e p r small (live_below h p t (allowed_unmap_sub shape h p a d f.0).0) refl refl f.1.set_is (λ i. held_falls shape h e p i (λ j. refl) refl refl refl refl)
    (λ q i y. held_still shape h e q i (still_unmap_sub q p a d o r y)) m
kept_step shape h c (Unpin o p r) small s t f m =
    let e : Event = by c (Unpin o p r) in
    release shape h e p r small (live_below h p t (allowed_unpin shape h p f.0).0) refl refl f.1.set_is (λ i. held_falls shape h e p i (λ j. refl) refl refl refl refl)
    (λ q i a. held_still shape h e q i (still_unpin q p o r a)) m
kept_step shape h c (Split p r) small s t f m =
    let e : Event = by c (Split p r) in
    let up : 0 < stand shape h p = omega (arith, flying-leaves p c (flights h) f.in_flight) in
    release shape h e p r small (live_below h p t (s.live p up)) refl refl f.set_is (λ i g. whole_held shape h p i (s.live p up) (s.whole_page p up) (and_both (nat_lt i (subpages shape)) _ g).0)
    (λ q i a. held_still shape h e q i (still_split q p r a)) m
kept_step shape h c (Write p a d) small s t f m =
    let e : Event = by c (Write p a d) in
    quiet shape h e refl refl
    (λ q i.
    elim (eqb_tells q p) [
      | inl y ↦ unsplit_same shape h e q i (ap (is_split h) y.1 ∙ (allowed_write shape h p a d f).2) refl refl refl
      | inr y ↦ held_still shape h e q i (record { no_maps = λ j. refl; no_unmaps = λ j. refl; no_alloc = refl; no_free = refl; no_split = refl; no_zeroes = λ j. refl; no_writes = λ j. and_no _ _ y.0 })
    ]) m
kept_step shape h c (Zero p a d) small s t f m =
    let e : Event = by c (Zero p a d) in
    quiet shape h e refl refl
    (λ q i.
    elim (eqb_tells q p) [
      | inl y ↦ unsplit_same shape h e q i (ap (is_split h) y.1 ∙ (allowed_zero shape h p a d f).2) refl refl refl
      | inr y ↦ held_still shape h e q i (record { no_maps = λ j. refl; no_unmaps = λ j. refl; no_alloc = refl; no_free = refl; no_split = refl; no_zeroes = λ j. and_no _ _ y.0; no_writes = λ j. refl })
    ]) m
kept_step shape h c w small s t f m = quiet shape h (by c w) refl refl (λ q i. held_still shape h (by c w) q i (record { no_maps = λ j. refl; no_unmaps = λ j. refl; no_alloc = refl; no_free = refl; no_split = refl; no_zeroes = λ j. refl; no_writes = λ j. refl })) m

-- what holds of each legal history on the way
record All_of (shape : Shape) (h : History) : Type 0 where
  sound : Sound shape h
  numbered : Numbered h
  balanced : Balanced shape h

-- the sum at the start
none_yet : (shape : Shape) → Balanced shape []
unfolding sum_below given count_of
none_yet shape = omega arith

-- in a legal history each frame of each page allocated is held or was given back
pub frames_kept : (shape : Shape) (h : History) → shape.order ≤ 9 → IsLegal shape h → subpages shape * allocations h ≡ frames_held shape h + frames_given h
frames_kept shape h small l =
    (legal_all shape (All_of shape) (record { sound = sound_none shape; numbered = numbered_none; balanced = none_yet shape })
    (λ k e a f. record {
      sound = sound_push shape k e a.sound a.numbered f;
      numbered = numbered_push shape k e a.sound a.numbered f;
      balanced = kept_step shape k e.caller e.what small a.sound a.numbered f a.balanced;
    }) h l).balanced
