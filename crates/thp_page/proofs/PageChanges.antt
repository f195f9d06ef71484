-- What the calls of a page make of it.
use Rattle.std.proofs.Common.{◌≡◌, ℕ, zero, suc, ◌^◌, ◌<◌, ◌≤◌, Bool, ◌&&◌, nat_lt, replicate, get_or, None, refl, ap, ap₂, sym, ◌∙◌, arith, lt-ltb, subst, List}
use Rattle.thp_history.specs.Prelude.{has, set_of, get_or-set_of, most, PageState, size, has_use, partly_after, zero_set, page_refusal, IsPage, IsFresh, KeepsCounts, WholeMapped, WholeUnmapped, RangeMapped, RangeUnmapped, PmdSplit, PageSplit}
use Rattle.thp_history.specs.Refusals as call
use Rattle.thp_history.specs.Pages.{Pinned}
use Rattle.thp_page.specs.Prelude.{fresh_page, Inside, state_of, FieldsAgree, NothingAfter}
use Rattle.thp_page.proofs.SubSets.{set_of-ext}
use Rattle.thp_page.proofs.PageSizes.{same_size, size_most}
use Rattle.thp_page.proofs.Trailing.{behind-same}
use Rattle.thp_page.proofs.PageRefusals.{map_whole_allowed, unmap_whole_allowed, map_sub_allowed, split_pmd_allowed, pin_allowed, unpin_allowed}

zeros : (n i : ℕ) → ◌≡◌ {A = ℕ} (get_or (replicate n 0) i 0) 0
zeros zero i = refl
zeros (suc n) zero = refl
zeros (suc n) (suc i) = zeros n i

-- a fresh page is one just allocated
pub fresh_page_is_fresh : (order : ℕ) → order ≤ 9 → IsFresh order (fresh_page order)
unfolding size
fresh_page_is_fresh order most = record {
  order_is = refl;
  whole = refl;
  own = λ i. zeros 512 i;
  pins = refl;
  split = refl;
  zero = λ i below. get_or-set_of (λ j. nat_lt j (2 ^ order)) i (omega (arith, size_most (fresh_page order) most)) ∙ lt-ltb i (2 ^ order) below;
  partly = refl;
  freed_zero_frames = refl;
}

pub IsPage-fresh_page : (order : ℕ) → 2 ≤ order → order ≤ 9 → IsPage (fresh_page order)
IsPage-fresh_page order least most = record {
  least_order = least;
  most_order = most;
  bounded = λ i below. omega (arith, zeros 512 i);
  few_pins = omega arith;
  no_whole = λ e. absurd (cc);
  no_pins = λ e. absurd (cc);
}

-- each call leaves a page
pub IsPage-map_whole : (t u : PageState) (p : ℕ) → IsPage t → page_refusal t (call.map_whole p) ≡ None → WholeMapped t u → IsPage u
IsPage-map_whole t u p page e r = grind (arith, map_whole_allowed, same_size)

pub IsPage-unmap_whole : (t u : PageState) (p : ℕ) → IsPage t → page_refusal t (call.unmap_whole p) ≡ None → WholeUnmapped t u → IsPage u
IsPage-unmap_whole t u p page e r = grind (arith, unmap_whole_allowed, same_size)

pub IsPage-map_sub : (t u : PageState) (p first count : ℕ) → IsPage t → page_refusal t (call.map_sub p first count) ≡ None → RangeMapped first count t u → IsPage u
IsPage-map_sub t u p first count page e r = grind (arith, map_sub_allowed, same_size)

pub IsPage-unmap_sub : (t u : PageState) (first count : ℕ) → IsPage t → RangeUnmapped first count t u → IsPage u
IsPage-unmap_sub t u first count page r = grind (arith, same_size)

pub IsPage-split_pmd : (t u : PageState) (p : ℕ) → IsPage t → page_refusal t (call.split_pmd p) ≡ None → PmdSplit t u → IsPage u
IsPage-split_pmd t u p page e r = grind (arith, split_pmd_allowed, same_size)

pub IsPage-pin : (t u : PageState) (p : ℕ) → IsPage t → page_refusal t (call.pin p) ≡ None → Pinned t u → IsPage u
IsPage-pin t u p page e r = grind (arith, pin_allowed, same_size)

pub IsPage-unpin : (t u : PageState) (p : ℕ) → IsPage t → page_refusal t (call.unpin p) ≡ None → Pinned u t → IsPage u
IsPage-unpin t u p page e r = grind (arith, unpin_allowed, same_size)

pub IsPage-split : (give : Bool) (t u : PageState) → IsPage t → t.pins ≡ 0 → PageSplit give t u → IsPage u
IsPage-split give t u page unpinned r = grind (arith, same_size)

-- what leaves the counts leaves a page
pub IsPage-counts : (t u : PageState) → IsPage t → KeepsCounts t u → IsPage u
IsPage-counts t u page k = grind (arith, same_size, get_or)

-- no more than the subpages are zero-filled, where that was so before and neither they nor their number changed
pub zero_inside-same : (t u : PageState) → u.order ≡ t.order → u.zero ≡ t.zero → t.zero ≡ zero_set t → u.zero ≡ zero_set u
zero_inside-same t u order same inside = grind (arith, set_of-ext, nat_lt, same_size)

-- the same of a set that is given by a test and has no more than the page's subpages
pub zero_inside-test : (t : PageState) (test : ℕ → Bool) → t.zero ≡ set_of test → ((i : ℕ) → i < 512 → test i ≡ (nat_lt i (size t) && test i)) → t.zero ≡ zero_set t
zero_inside-test t test is inside =
    is
    ∙ set_of-ext test (λ i. nat_lt i (size t) && has t.zero i)
    (λ i short. inside i short ∙ ap (λ b. nat_lt i (size t) && b) (sym (ap (λ z. has z i) is ∙ get_or-set_of test i short)))

-- whether the page is partly mapped is in none of what a page keeps
pub IsPage-partly : (t : PageState) (b : Bool) → IsPage t → IsPage (record t { partly = b })
unfolding size
IsPage-partly t b page = grind arith

pub kept_partly : (p : Inside) (b : Bool) → FieldsAgree p → FieldsAgree (record p { partly = b })
unfolding size
kept_partly p b k = grind (arith, IsPage-partly)

pub has_use-partly : (t : PageState) (b : Bool) → has_use (record t { partly = b }) ≡ has_use t
unfolding size
has_use-partly t b = refl

pub partly_after-partly : (t u : PageState) (b : Bool) → partly_after t (record u { partly = b }) ≡ partly_after t u
unfolding size
partly_after-partly t u b = refl

pub zero_inside-fresh_page : (order : ℕ) → (fresh_page order).zero ≡ zero_set (fresh_page order)
unfolding size
zero_inside-fresh_page order = grind (arith, zero_inside-test, nat_lt)

-- a new page with the counts and the set that the code makes
pub fresh_made : (order : ℕ) (own : List ℕ) (all : List Bool) → own ≡ replicate 512 0 → all ≡ set_of (λ i. nat_lt i (2 ^ order)) → record (fresh_page order) { own = own; zero = all } ≡ fresh_page order
fresh_made order own all e f = ap₂ (λ (o : List ℕ) (z : List Bool). record (fresh_page order) { own = o; zero = z }) e f

pub fresh_kept : (order : ℕ) (p : Inside) → 2 ≤ order → order ≤ 9 → state_of p ≡ fresh_page order → FieldsAgree p
fresh_kept order p least most same = record {
  page = subst (λ (t : PageState). IsPage t) (sym same) (IsPage-fresh_page order least most);
  behind = subst (λ (t : PageState). NothingAfter t) (sym same) (λ i above short. (fresh_page_is_fresh order most).own i);
  zero_inside = subst (λ (t : PageState). t.zero ≡ zero_set t) (sym same) (zero_inside-fresh_page order);
}

-- the own counts and the zero-filled subpages stay
pub kept_else : (p q : Inside) → FieldsAgree p → IsPage (state_of q) → q.order ≡ p.order → q.own ≡ p.own → q.zero ≡ p.zero → FieldsAgree q
kept_else p q k page order own filled = record {
  page = page;
  behind = behind-same (state_of p) (state_of q) order (λ i. ap (λ (l : List ℕ). get_or l i 0) own) k.behind;
  zero_inside = zero_inside-same (state_of p) (state_of q) order filled k.zero_inside;
}

-- other subpages are zero-filled
pub kept_zeros : (p : Inside) (new : List Bool) → FieldsAgree p → KeepsCounts (state_of p) (record (state_of p) { zero = new }) → new ≡ zero_set (record (state_of p) { zero = new }) → FieldsAgree (record p { zero = new })
kept_zeros p new k counts inside = record {
  page = IsPage-counts (state_of p) (record (state_of p) { zero = new }) k.page counts;
  behind = behind-same (state_of p) (record (state_of p) { zero = new }) refl (λ i. refl) k.behind;
  zero_inside = inside;
}
