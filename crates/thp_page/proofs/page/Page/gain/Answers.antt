use Rattle.std.proofs.Common.{◌≡◌, ◌+◌, ◌-◌, ◌<◌, ◌≤◌, ℕ, List, cond, get_or, refl, ap, sym, ◌∙◌, arith, subst}
use Rattle.thp_history.specs.Prelude.{covers, PageState, size, own_at, RangeMapped, PmdSplit, RangeWritten, RangeZeroed}
use Rattle.thp_history.specs.Refusals as call
use Rattle.thp_page.specs.Prelude.{state_of}
use Rattle.thp_page.proofs.RangeLemmas.{covers_inside, covers_true}
use Rattle.thp_page.proofs.PageSizes.{size_least, size_most}
use Rattle.thp_page.proofs.PageRefusals.{allowed_as, map_whole_allowed, map_sub_allowed, split_pmd_allowed, pin_allowed, write_allowed}
use Rattle.thp_page.proofs.Trailing.{behind-map}
use Rattle.thp_page.proofs.PageChanges.{kept_else, IsPage-map_whole, IsPage-map_sub, IsPage-split_pmd, IsPage-pin, zero_inside-same, kept_zeros}
use Rattle.thp_page.proofs.ZeroSets.{written, written_inside, zeroed, zeroed_inside}
use Rattle.thp_page.proofs.page.Page.gain.Goals as goal

-- the whole page is mapped
pub overflow_add-self : goal.overflow_add-self
overflow_add-self c =
    let s : PageState = state_of c.self.inside in
    omega (arith, (map_whole_allowed s 0 c.self.invariant.page (allowed_as s _ (call.map_whole 0) c.self.view_is (sym (c.in_ok-check-in-MapWhole.ensures 0)))).1 0 (omega (arith, size_least s c.self.invariant.page.least_order)))

pub invariant_of-self : goal.invariant_of-self
invariant_of-self c =
    let s : PageState = state_of c.self.inside in
    let allowed = allowed_as s _ (call.map_whole 0) c.self.view_is (sym (c.in_ok-check-in-MapWhole.ensures 0)) in
    kept_else c.self.inside (record c.self.inside { whole = s.whole + 1 }) c.self.invariant
    (IsPage-map_whole s (record s { whole = s.whole + 1 }) 0 c.self.invariant.page allowed (record { order = refl; whole = refl; own = λ i below. refl; pins = refl; split = refl; partly = refl; kept = record { zero = refl; freed_zero_frames = refl } }))
    refl refl refl

-- a pin is added
pub overflow_add-self-in-Pin : goal.overflow_add-self-in-Pin
overflow_add-self-in-Pin c =
    let s : PageState = state_of c.self.inside in
    omega (arith, (pin_allowed s 0 c.self.invariant.page (allowed_as s _ (call.pin 0) c.self.view_is (sym (c.in_ok-check-in-Pin.ensures 0)))).1)

pub invariant_of-self-in-Pin : goal.invariant_of-self-in-Pin
invariant_of-self-in-Pin c =
    let s : PageState = state_of c.self.inside in
    let allowed = allowed_as s _ (call.pin 0) c.self.view_is (sym (c.in_ok-check-in-Pin.ensures 0)) in
    kept_else c.self.inside (record c.self.inside { pins = s.pins + 1 }) c.self.invariant
    (IsPage-pin s (record s { pins = s.pins + 1 }) 0 c.self.invariant.page allowed (record { order = refl; whole = refl; own = λ i below. refl; pins = refl; split = refl; partly = refl; kept = record { zero = refl; freed_zero_frames = refl } }))
    refl refl refl

-- the page with other own counts, and with a whole mapping less
with_own : PageState → List ℕ → PageState
with_own s own = record s { own = own }

divided : PageState → List ℕ → PageState
divided s own = record s { whole = s.whole - 1; own = own }

-- a range is mapped
mapped : (s : PageState) (own : List ℕ) (first count : ℕ) → s.order ≤ 9 → ((i : ℕ) → i < 512 → get_or own i 0 ≡ own_at s i + cond (covers first count i) 1 0) → RangeMapped first count s (with_own s own)
unfolding with_own
mapped s own first count most added = record { order = refl; whole = refl; own = λ i below. added i (omega (arith, below, size_most s most)); pins = refl; split = refl; partly = refl; kept = record { zero = refl; freed_zero_frames = refl } }

pub map-requires : goal.map-requires
map-requires c =
    let s : PageState = state_of c.self.inside in
    let facts = map_sub_allowed s 0 _ _ c.self.invariant.page (allowed_as s _ (call.map_sub 0 _ _) c.self.view_is (sym (c.in_ok-check_map_sub-in-MapSub.ensures 0))) in
    record { inside = omega (arith, facts.0, size_most s c.self.invariant.page.most_order); small = λ i covered. omega (arith, facts.1 i covered) }

pub invariant_of-self-in-MapSub : goal.invariant_of-self-in-MapSub
unfolding with_own
invariant_of-self-in-MapSub c =
    let s : PageState = state_of c.self.inside in
    let t : PageState = with_own s c.map.new.self in
    let allowed = allowed_as s _ (call.map_sub 0 _ _) c.self.view_is (sym (c.in_ok-check_map_sub-in-MapSub.ensures 0)) in
    record {
      page = IsPage-map_sub s t 0 _ _ c.self.invariant.page allowed (mapped s c.map.new.self _ _ c.self.invariant.page.most_order c.map.ensures);
      behind = behind-map s t _ _ refl (map_sub_allowed s 0 _ _ c.self.invariant.page allowed).0 c.map.ensures c.self.invariant.behind;
      zero_inside = zero_inside-same s t refl refl c.self.invariant.zero_inside;
    }

pub returns-in_ok-check_map_sub-in-MapSub-clause-counts : goal.returns-in_ok-check_map_sub-in-MapSub-clause-counts
unfolding with_own
returns-in_ok-check_map_sub-in-MapSub-clause-counts c =
    let s : PageState = state_of c.self.inside in
    rw c.in-MapSub.is (subst (λ (t : PageState). RangeMapped c.in-MapSub.first c.in-MapSub.count t (with_own s c.map.new.self)) c.self.view_is (mapped s c.map.new.self _ _ c.self.invariant.page.most_order c.map.ensures))

-- a mapping of the whole page is replaced
replaced : (s : PageState) (own : List ℕ) (n : ℕ) → s.order ≤ 9 → 1 ≤ s.whole → n ≡ size s → ((i : ℕ) → i < 512 → get_or own i 0 ≡ own_at s i + cond (covers 0 n i) 1 0) → PmdSplit s (divided s own)
unfolding divided
replaced s own n most mapped long added = record {
  order = refl;
  whole = omega arith;
  own = λ i below. added i (omega (arith, below, size_most s most)) ∙ ap (λ b. own_at s i + cond b 1 0) (covers_inside 0 n i (omega arith) (omega arith));
  pins = refl;
  split = refl;
  partly = refl;
  kept = record { zero = refl; freed_zero_frames = refl };
}

pub overflow_sub-self : goal.overflow_sub-self
overflow_sub-self c =
    let s : PageState = state_of c.self.inside in
    (split_pmd_allowed s 0 (allowed_as s _ (call.split_pmd 0) c.self.view_is (sym (c.in_ok-check-in-SplitPmd.ensures 0)))).1

pub map-requires-in-SplitPmd-clause-small : goal.map-requires-in-SplitPmd-clause-small
map-requires-in-SplitPmd-clause-small c =
    let s : PageState = state_of c.self.inside in
    let facts = split_pmd_allowed s 0 (allowed_as s _ (call.split_pmd 0) c.self.view_is (sym (c.in_ok-check-in-SplitPmd.ensures 0))) in
    λ i covered. let at = covers_true 0 c.subpages-subpages.result i covered in
    omega (arith, facts.1, c.self.invariant.page.bounded i (omega (arith, at.1, c.subpages-subpages.ensures.size, ap size c.self.view_is)))

pub invariant_of-self-in-SplitPmd : goal.invariant_of-self-in-SplitPmd
unfolding divided
invariant_of-self-in-SplitPmd c =
    let s : PageState = state_of c.self.inside in
    let t : PageState = divided s c.map-in-SplitPmd.new.self in
    let allowed = allowed_as s _ (call.split_pmd 0) c.self.view_is (sym (c.in_ok-check-in-SplitPmd.ensures 0)) in
    let long = c.subpages-subpages.ensures.size ∙ ap size (sym c.self.view_is) in
    record {
      page = IsPage-split_pmd s t 0 c.self.invariant.page allowed (replaced s c.map-in-SplitPmd.new.self _ c.self.invariant.page.most_order (split_pmd_allowed s 0 allowed).1 long c.map-in-SplitPmd.ensures);
      behind = behind-map s t 0 c.subpages-subpages.result refl (omega (arith, long)) c.map-in-SplitPmd.ensures c.self.invariant.behind;
      zero_inside = zero_inside-same s t refl refl c.self.invariant.zero_inside;
    }

pub returns-in_ok-check-in-SplitPmd-clause-counts : goal.returns-in_ok-check-in-SplitPmd-clause-counts
unfolding divided
returns-in_ok-check-in-SplitPmd-clause-counts c =
    let s : PageState = state_of c.self.inside in
    let allowed = allowed_as s _ (call.split_pmd 0) c.self.view_is (sym (c.in_ok-check-in-SplitPmd.ensures 0)) in
    rw c.in-SplitPmd.is (subst (λ (t : PageState). PmdSplit t (divided s c.map-in-SplitPmd.new.self)) c.self.view_is
    (replaced s c.map-in-SplitPmd.new.self _ c.self.invariant.page.most_order (split_pmd_allowed s 0 allowed).1 (c.subpages-subpages.ensures.size ∙ ap size (sym c.self.view_is)) c.map-in-SplitPmd.ensures))

-- a range is no longer zero-filled
pub range-requires : goal.range-requires
range-requires c =
    let s : PageState = state_of c.self.inside in
    omega (arith, write_allowed s 0 _ _ (allowed_as s _ (call.write 0 _ _) c.self.view_is (sym (c.in_ok-check_write-in-Write.ensures.data 0))), size_most s c.self.invariant.page.most_order)

pub invariant_of-self-in-Write : goal.invariant_of-self-in-Write
invariant_of-self-in-Write c =
    let s : PageState = state_of c.self.inside in
    let r = written s c.in-Write.first c.in-Write.count c.range.result _ c.self.invariant.page.most_order c.range.ensures c.difference-self-inside.ensures in
    let fits = write_allowed s 0 _ _ (allowed_as s _ (call.write 0 _ _) c.self.view_is (sym (c.in_ok-check_write-in-Write.ensures.data 0))) in
    kept_zeros c.self.inside _ c.self.invariant r.kept (written_inside s c.range.result _ c.self.invariant.zero_inside c.difference-self-inside.ensures)

pub returns-in_ok-check_write-in-Write-clause-counts : goal.returns-in_ok-check_write-in-Write-clause-counts
returns-in_ok-check_write-in-Write-clause-counts c =
    let s : PageState = state_of c.self.inside in
    rw c.in-Write.is (subst (λ (t : PageState). RangeWritten c.in-Write.first c.in-Write.count t (record s { zero = c.difference-self-inside.result })) c.self.view_is
    (written s _ _ c.range.result _ c.self.invariant.page.most_order c.range.ensures c.difference-self-inside.ensures))

-- a range is zero-filled
pub range-requires-in-Zero : goal.range-requires-in-Zero
range-requires-in-Zero c =
    let s : PageState = state_of c.self.inside in
    omega (arith, write_allowed s 0 _ _ (allowed_as s _ (call.write 0 _ _) c.self.view_is (sym (c.in_ok-check_write-in-Zero.ensures.data 0))), size_most s c.self.invariant.page.most_order)

pub invariant_of-self-in-Zero : goal.invariant_of-self-in-Zero
invariant_of-self-in-Zero c =
    let s : PageState = state_of c.self.inside in
    let r = zeroed s c.in-Zero.first c.in-Zero.count c.range-in-Zero.result _ c.self.invariant.page.most_order c.range-in-Zero.ensures c.union-self-inside.ensures in
    let fits = write_allowed s 0 _ _ (allowed_as s _ (call.write 0 _ _) c.self.view_is (sym (c.in_ok-check_write-in-Zero.ensures.data 0))) in
    kept_zeros c.self.inside _ c.self.invariant r.kept (zeroed_inside s _ _ c.range-in-Zero.result _ c.self.invariant.zero_inside fits c.range-in-Zero.ensures c.union-self-inside.ensures)

pub returns-in_ok-check_write-in-Zero-clause-counts : goal.returns-in_ok-check_write-in-Zero-clause-counts
returns-in_ok-check_write-in-Zero-clause-counts c =
    let s : PageState = state_of c.self.inside in
    rw c.in-Zero.is (subst (λ (t : PageState). RangeZeroed c.in-Zero.first c.in-Zero.count t (record s { zero = c.union-self-inside.result })) c.self.view_is
    (zeroed s _ _ c.range-in-Zero.result _ c.self.invariant.page.most_order c.range-in-Zero.ensures c.union-self-inside.ensures))
