use Rattle.std.proofs.Common.{◌≡◌, ◌≢◌, ◌+◌, ◌&&◌, ℕ, Bool, false, nat_eq, ap, sym, ◌∙◌, arith, ne_eqb}
use Rattle.std.proofs.lemmas.Bool.Decides.{nat_tests}
use Rattle.thp_history.specs.Prelude.{covers, PageState, size, own_at, total_at}
use Rattle.thp_history.proofs.Below.{some_no}
use Rattle.thp_page.proofs.page.Page.has_unused.Goals as goal

pub returns-else-self-eq0 : goal.returns-else-self-eq0
returns-else-self-eq0 c =
    let t : PageState = c.args.self.now in
    let mapped : t.whole ≢ 0 = λ e. c.if-self-eq0.false (ap (λ (u : PageState). u.whole) c.self.view_is ∙ e) in
    ne_eqb _ _ c.if-self-eq0.false ∙ sym (some_no (size t) (λ i. covers c.args.first c.args.count i && nat_eq (total_at t i) 0) (λ i below. go (covers c.args.first c.args.count i) t.whole (own_at t i) mapped)) where
      go : (b : Bool) (w x : ℕ) → w ≢ 0 → (b && nat_eq (w + x) 0) ≡ false
      go b w x f = grind (arith, nat_tests)
