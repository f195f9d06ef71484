use Rattle.std.proofs.Common.{◌≡◌, ◌||◌, ◌&&◌, not, nat_eq, Bool, true, false, refl, ap, sym, ◌∙◌}
use Rattle.thp_history.specs.Prelude.{PageState, own_at, zero_at, holds, some_in_range}
use Rattle.thp_page.proofs.ZeroSets.{some_gone}
use Rattle.thp_page.proofs.page.Page.has_gone_frame.Goals.{Joined-self, then-self, else-self}
use Rattle.thp_page.proofs.page.Page.has_gone_frame.Goals as goal

-- a subpage is gone exactly if one of the two tests, made in turn, holds
gone : (c : Joined-self) (bare : Bool) → bare ≡ some_in_range c.args.self.now c.args.first c.args.count (λ i. nat_eq (own_at c.args.self.now i) 0) →
    (c.if-self.given || bare) ≡ some_in_range c.args.self.now c.args.first c.args.count (λ i. not (holds c.args.self.now i))
gone c bare is_bare =
    let t : PageState = c.args.self.now in
    let freed : c.self.inside.freed_zero_frames ≡ t.freed_zero_frames = ap (λ (u : PageState). u.freed_zero_frames) c.self.view_is in
    let given : c.if-self.given ≡ (t.freed_zero_frames && some_in_range t c.args.first c.args.count (zero_at t)) =
    elim c.if-self.branch [
      | then-self w ↦ both _ c.if-self.given _ (sym freed ∙ w.if-self.true) (w.given-is ∙ w.has_zero_filled-given.ensures)
      | else-self w ↦ neither _ c.if-self.given _ (sym freed ∙ w.if-self.false) (w.given-is ∙ w.if-self.false)
    ] in
    some_gone t c.args.first c.args.count _ bare c.requires.split (sym (ap (λ (u : PageState). u.whole) c.self.view_is) ∙ c.self.invariant.page.no_whole (ap (λ (u : PageState). u.split) c.self.view_is ∙ c.requires.split)) given is_bare where
      both : (a b x : Bool) → a ≡ true → b ≡ x → b ≡ (a && x)
      both a b x e f = cc

      neither : (a b x : Bool) → a ≡ false → b ≡ false → b ≡ (a && x)
      neither a b x e f = cc

pub returns-then-given : goal.returns-then-given
returns-then-given c = c.if-given.true ∙ rw c.if-given.true at (gone (goal.at.returns-then-given c).Joined-self _ refl)

pub returns-else-given : goal.returns-else-given
returns-else-given c = rw c.if-given.false at (gone (goal.at.returns-else-given c).Joined-self _ c.has_unmapped.ensures)
