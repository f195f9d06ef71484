-- How many pages are in each stage, with one more event.
use Rattle.std.proofs.Common.{◌≡◌, ◌≢◌, ℕ, zero, suc, ◌+◌, ◌-◌, ◌<◌, ◌≤◌, Bool, true, false, not, cond, ◌&&◌, [], ◌∷◌, ◌++◌, Option, Some, None, refl, ap, sym, ◌∙◌, inl, inr, arith, nat_eq, ne_eqb, add-one}
use Rattle.std.proofs.lemmas.Bool.{cases_lt}
use Rattle.thp_history.specs.declared.events.Event.{Event}
use Rattle.thp_history.specs.declared.events.What.{What}
use Rattle.thp_history.specs.declared.events.What.TheVariants as what
use Rattle.thp_history.specs.declared.shape.Shape.{Shape}
use Rattle.thp_history.specs.Prelude.{allocates, allocations, frees, is_alloc, is_live, is_split, splits, History, some_event, by, Fits, IsLegal, is_about, sum_below, count_below, is_partly_mapped}
use Rattle.thp_history.proofs.Alive.{legal_grown}
use Rattle.thp_history.proofs.Holding.{live_back}
use Rattle.thp_history.proofs.Pushes.{count_more, count_same, live_stays, some_same, partly_stays}
use Rattle.thp_history.proofs.SumsBelow.{sum_below-ext, sum_below-one, sum_below_suc}
use Rattle.thp_history.proofs.Untouched.{Untouched, untouched}
use Rattle.thp_live_pages.specs.Prelude.{standing_of}
use Rattle.thp_live_pages.proofs.Standings.{names, standing_other}
use Rattle.thp_metrics.specs.Prelude.{Stage, is_stage, pages_in, stage_by, stage_of}
use Rattle.thp_journal_writer.specs.Prelude.{event_page}

-- sums of two functions that differ at p alone
pub sums_differ_at : (m : ℕ) (f g : ℕ → ℕ) (p : ℕ) → p < m → ((i : ℕ) → i < m → (i ≢ p) → f i ≡ g i) → sum_below m f + g p ≡ sum_below m g + f p
sums_differ_at m f g p below same =
    elim (cases_lt (f p) (g p)) [
      | inl less ↦ omega (arith, less, sum_below-one m g f p (g p - f p) below (λ i l n. sym (same i l n)) (omega (arith, less)))
      | inr more ↦ omega (arith, more, sum_below-one m f g p (f p - g p) below same (omega (arith, more)))
    ]

-- a sum is no less than a part of it
pub part_of : (m : ℕ) (f : ℕ → ℕ) (p : ℕ) → p < m → f p ≤ sum_below m f
part_of zero f p l = absurd (omega (arith, l))
part_of (suc m) f p l =
    elim (cases_lt p m) [
      | inl less ↦ omega (arith, sum_below_suc m f, part_of m f p less)
      | inr more ↦ omega (arith, sum_below_suc m f, ap f (last m p l more))
    ]
  where
    last : (m p : ℕ) → p < suc m → m ≤ p → p ≡ m
    last m p l more = omega (arith, l, more)

at_most_one : (b : Bool) → cond {A = ℕ} b 1 0 ≤ 1
at_most_one x = grind arith

pub no_more : (m : ℕ) (test : ℕ → Bool) → count_below m test ≤ m
unfolding sum_below
no_more zero test = omega arith
no_more (suc m) test = omega (arith, sum_below_suc m (λ i. cond (test i) 1 0), no_more m test, at_most_one (test m))

-- an event that doesn't name a page isn't about it
pub not_about : (q : ℕ) (w : What) → names q w ≡ false → is_about q w ≡ false
not_about q x e = grind arith

-- a page that an event doesn't name stays in its stage
pub stage_stays : (s : Shape) (h : History) (e : Event) (q : ℕ) → Fits s h e → names q e.what ≡ false → stage_of s (h ++ e ∷ []) q ≡ stage_of s h q
stage_stays s h e q f n =
    let u : Untouched q e.what = untouched q e.what (not_about q e.what n) in
    rw (live_stays h e q u.no_alloc u.no_free, some_same (splits q) h e u.no_split, standing_other s h e q f n, partly_stays s h e q u.no_unmap) refl

apart : (p q r : ℕ) → Some r ≡ Some p → (q ≢ p) → nat_eq q r ≡ false
apart p q r e n = let same : r ≡ p = cc in ne_eqb q r (λ z. n (z ∙ same))

-- an event names no page but that which it is about
pub not_named : (w : What) (p q : ℕ) → event_page w ≡ Some p → (q ≢ p) → names q w ≡ false
not_named x p q e n = grind (arith, apart)

pub none_named : (w : What) (q : ℕ) → event_page w ≡ None → names q w ≡ false
none_named x q e = grind arith

-- 1 where a page is in this stage
abbrev pub one : Stage → Option Stage → ℕ
one x o = cond (is_stage x o) 1 0

none_counts : (s : Shape) (h : History) (p : ℕ) (x : Stage) → is_live h p ≡ false → one x (stage_of s h p) ≡ 0
none_counts s h p x e = ap (λ (b : Bool). one x (cond b (Some (stage_by (is_split h p) (standing_of s h p) (is_partly_mapped s h p))) None)) e

no_alloc : (p : ℕ) (w : What) → is_alloc w ≡ false → allocates p w ≡ false
no_alloc p x e = grind arith

-- a page with a number that isn't given yet doesn't live
pub unborn : (s : Shape) (h : History) (p : ℕ) → IsLegal s h → allocations h ≤ p → is_live h p ≡ false
unborn s h p l high = ap (λ b. b && not (some_event (frees p) h)) ((legal_grown s h l).numbered.fresh p high).never

pub unborn_still : (s : Shape) (h : History) (e : Event) (p : ℕ) → IsLegal s h → is_alloc e.what ≡ false → allocations h ≤ p → is_live (h ++ e ∷ []) p ≡ false
unborn_still s h e p l none high = go (is_live (h ++ e ∷ []) p) refl where
  go : (b : Bool) → is_live (h ++ e ∷ []) p ≡ b → b ≡ false
  go false y = refl
  go true y = absurd (let was : is_live h p ≡ true = live_back h e p (no_alloc p e.what none) y in let isnt : is_live h p ≡ false = unborn s h p l high in cc)

-- others keep their stage
others_stay : (s : Shape) (h : History) (e : Event) (p : ℕ) (x : Stage) → Fits s h e → event_page e.what ≡ Some p → (i : ℕ) → (i ≢ p) → one x (stage_of s (h ++ e ∷ []) i) ≡ one x (stage_of s h i)
others_stay s h e p x f is i n = ap (one x) (stage_stays s h e i f (not_named e.what p i is n))

moves_old : (s : Shape) (h : History) (e : Event) (p : ℕ) (x : Stage) → IsLegal s h → Fits s h e → is_alloc e.what ≡ false → event_page e.what ≡ Some p →
    pages_in s (h ++ e ∷ []) x + one x (stage_of s h p) ≡ pages_in s h x + one x (stage_of s (h ++ e ∷ []) p)
moves_old s h e p x l f none is =
    let old : ℕ → ℕ = λ i. one x (stage_of s h i) in
    let new : ℕ → ℕ = λ i. one x (stage_of s (h ++ e ∷ []) i) in
    let n : ℕ = allocations h in
    ap (λ m. sum_below m new + old p) (count_same is_alloc h e none)
    ∙ elim (cases_lt p n) [
      | inl below ↦ sums_differ_at n new old p below (λ i low n. others_stay s h e p x f is i n)
      | inr high ↦
          let same : sum_below n new ≡ sum_below n old = sum_below-ext n new old (λ i low. others_stay s h e p x f is i (λ z. omega (arith, z, low, high))) in
          omega (arith, same, none_counts s h p x (unborn s h p l high), none_counts s (h ++ e ∷ []) p x (unborn_still s h e p l none high))
    ]

moves_new : (s : Shape) (h : History) (e : Event) (p : ℕ) (x : Stage) → IsLegal s h → Fits s h e → is_alloc e.what ≡ true → event_page e.what ≡ Some p → p ≡ allocations h →
    pages_in s (h ++ e ∷ []) x + one x (stage_of s h p) ≡ pages_in s h x + one x (stage_of s (h ++ e ∷ []) p)
moves_new s h e p x l f one_more is number =
    let old : ℕ → ℕ = λ i. one x (stage_of s h i) in
    let new : ℕ → ℕ = λ i. one x (stage_of s (h ++ e ∷ []) i) in
    let n : ℕ = allocations h in
    let grown : sum_below (allocations (h ++ e ∷ [])) new ≡ sum_below n new + new n = ap (λ m. sum_below m new) (count_more is_alloc h e one_more ∙ add-one n) ∙ sum_below_suc n new in
    let same : sum_below n new ≡ sum_below n old = sum_below-ext n new old (λ i low. others_stay s h e p x f is i (λ z. omega (arith, z, low, number))) in
    let last : new n ≡ new p = ap new (sym number) in
    omega (arith, grown, same, last, none_counts s h p x (unborn s h p l (omega (arith, number))))

-- of the page that an event is about the stage before and that after it is counted, and nothing else changes
pub count_moves : (s : Shape) (h : History) (c : ℕ) (w : What) (p : ℕ) (x : Stage) → IsLegal s h → Fits s h (by c w) → event_page w ≡ Some p →
    pages_in s (h ++ by c w ∷ []) x + one x (stage_of s h p) ≡ pages_in s h x + one x (stage_of s (h ++ by c w ∷ []) p)
count_moves s h c (what.Alloc q b) p x l f is =
    let same : p ≡ q = cc in
    moves_new s h (by c (what.Alloc q b)) p x l f refl is (same ∙ f.number)
count_moves s h c (what.MapWhole r) p x l f is = moves_old s h (by c (what.MapWhole r)) p x l f refl is
count_moves s h c (what.UnmapWhole o r set) p x l f is = moves_old s h (by c (what.UnmapWhole o r set)) p x l f refl is
count_moves s h c (what.MapSub r a k) p x l f is = moves_old s h (by c (what.MapSub r a k)) p x l f refl is
count_moves s h c (what.UnmapSub o r a k set) p x l f is = moves_old s h (by c (what.UnmapSub o r a k set)) p x l f refl is
count_moves s h c (what.SplitPmd r) p x l f is = moves_old s h (by c (what.SplitPmd r)) p x l f refl is
count_moves s h c (what.Pin r) p x l f is = moves_old s h (by c (what.Pin r)) p x l f refl is
count_moves s h c (what.Unpin o r set) p x l f is = moves_old s h (by c (what.Unpin o r set)) p x l f refl is
count_moves s h c (what.Write r a k) p x l f is = moves_old s h (by c (what.Write r a k)) p x l f refl is
count_moves s h c (what.Zero r a k) p x l f is = moves_old s h (by c (what.Zero r a k)) p x l f refl is
count_moves s h c (what.Taken r) p x l f is = moves_old s h (by c (what.Taken r)) p x l f refl is
count_moves s h c (what.Split r set) p x l f is = moves_old s h (by c (what.Split r set)) p x l f refl is
count_moves s h c (what.Pinned r) p x l f is = moves_old s h (by c (what.Pinned r)) p x l f refl is
count_moves s h c (what.Used r) p x l f is = moves_old s h (by c (what.Used r)) p x l f refl is
count_moves s h c (what.Back r) p x l f is = moves_old s h (by c (what.Back r)) p x l f refl is
count_moves s h c (what.Dropped r) p x l f is = moves_old s h (by c (what.Dropped r)) p x l f refl is
count_moves s h c what.Close p x l f is = absurd (cc)

pub no_page : (w : What) → event_page w ≡ None → is_alloc w ≡ false
no_page x e = grind arith

-- an event about no page leaves all in their stages
pub count_stays : (s : Shape) (h : History) (e : Event) (x : Stage) → Fits s h e → event_page e.what ≡ None → pages_in s (h ++ e ∷ []) x ≡ pages_in s h x
count_stays s h e x f none = grind (arith, count_same, no_page, sum_below-ext, stage_stays, none_named)
