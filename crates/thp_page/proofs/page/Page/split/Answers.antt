use Rattle.std.proofs.Common.{◌≡◌, ◌+◌, ◌^◌, ◌<◌, ◌≤◌, ℕ, Bool, nat_lt, true, List, cond, get_or, refl, ap, sym, ◌∙◌, arith, subst}
use Rattle.std.proofs.Math.Pow.{pow_mono}
use Rattle.std.proofs.lemmas.Bool.Decides.{nat_tests}
use Rattle.thp_history.specs.Prelude.{has, set_of, get_or-set_of, PageState, size, own_at, gives_frames, PageSplit}
use Rattle.thp_page.specs.Prelude.{split_set, state_of}
use Rattle.thp_page.proofs.Trailing.{behind-split}
use Rattle.thp_page.proofs.PageChanges.{IsPage-split, zero_inside-same}
use Rattle.thp_page.proofs.PageUse.{unused_set, split_set-none, split_set-zeros, gives_frames-split, unused_set-unmapped, unused_set-mapped}
use Rattle.thp_page.proofs.page.Page.split.Goals.{then-self-eq0, else-self-eq0, then-give_zero, else-give_zero}
use Rattle.thp_page.proofs.page.Page.split.Goals as goal

-- the page split, with other own counts
divided : Bool → PageState → List ℕ → PageState
divided give s own = record s { whole = 0; own = own; split = true; freed_zero_frames = give }

made : (give : Bool) (s : PageState) (own : List ℕ) (all : List Bool) → s.order ≤ 9 → all ≡ set_of (λ i. nat_lt i (2 ^ s.order)) →
    ((i : ℕ) → i < 512 → get_or own i 0 ≡ own_at s i + cond (has all i) s.whole 0) → PageSplit give s (divided give s own)
unfolding divided size
made give s own all most is added = record {
  order = refl;
  whole = refl;
  own = λ i below. added i (short i below) ∙ ap (λ b. own_at s i + cond b s.whole 0) (ap (λ t. has t i) is ∙ get_or-set_of (λ j. nat_lt j (2 ^ s.order)) i (short i below) ∙ inside i (2 ^ s.order) below) ∙ toggle (own_at s i) s.whole;
  pins = refl;
  split = refl;
  zero = refl;
  partly = refl;
  freed_zero_frames = refl;
} where
  short : (i : ℕ) → i < 2 ^ s.order → i < 512
  short i below = omega (arith, below, pow_mono {i = s.order} {j = 9} most)

  inside : (i n : ℕ) → i < n → nat_lt i n ≡ true
  inside i n h = grind (arith, nat_tests)

  toggle : (a b : ℕ) → a + b ≡ b + a
  toggle a b = omega arith

pub invariant_of-self : goal.invariant_of-self
unfolding divided
invariant_of-self c =
    let s : PageState = state_of c.self.inside in
    let give : Bool = c.args.give_zero in
    let own : List ℕ = c.add.new.self in
    let r = made give s own c.full-subpages.result c.self.invariant.page.most_order c.full-subpages.ensures c.add.ensures in
    let unpinned = ap (λ (t : PageState). t.pins) c.self.view_is ∙ c.requires.unpinned in
    record {
      page = IsPage-split give s (divided give s own) c.self.invariant.page unpinned r;
      behind = behind-split s (divided give s own) c.full-subpages.result s.whole refl c.full-subpages.ensures c.add.ensures c.self.invariant.behind;
      zero_inside = zero_inside-same s (divided give s own) refl refl c.self.invariant.zero_inside;
    }

pub returns : goal.returns
unfolding divided
returns c =
    let s : PageState = state_of c.self.inside in
    let give : Bool = c.args.give_zero in
    let own : List ℕ = c.add.new.self in
    let whole = ap (λ (t : PageState). t.split) c.self.view_is ∙ c.requires.whole in
    let r : PageSplit give s (divided give s own) = made give s own c.full-subpages.result c.self.invariant.page.most_order c.full-subpages.ensures c.add.ensures in
    let unused : c.if-self-eq0.unused ≡ unused_set s =
    elim c.if-self-eq0.branch [
      | then-self-eq0 w ↦ w.unused-is ∙ w.difference-unused.ensures ∙ unused_set-unmapped s c.full-subpages.result w.mapped.result w.if-self-eq0.true c.full-subpages.ensures w.mapped.ensures
      | else-self-eq0 w ↦ w.unused-is ∙ w.empty-unused.ensures ∙ unused_set-mapped s w.if-self-eq0.false
    ] in
    let given : c.if-give_zero.result ≡ split_set give s =
    elim c.if-give_zero.branch [
      | then-give_zero w ↦ w.result-is ∙ w.union.ensures ∙ split_set-zeros s _ unused c.self.invariant.zero_inside ∙ ap (λ b. split_set b s) (sym w.if-give_zero.true)
      | else-give_zero w ↦ w.result-is ∙ unused ∙ split_set-none s ∙ ap (λ b. split_set b s) (sym w.if-give_zero.false)
    ] in
    let P : PageState → Type 0 = λ t. PageSplit give t (divided give s own) in
    record {
      counts = subst P c.self.view_is r;
      given = given ∙ ap (split_set give) c.self.view_is;
      released = given ∙ sym (gives_frames-split give s (divided give s own) r whole) ∙ ap (λ t. gives_frames t (divided give s own)) c.self.view_is;
    }
