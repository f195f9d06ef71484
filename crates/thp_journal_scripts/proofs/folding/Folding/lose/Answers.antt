use Rattle.std.proofs.Common.{◌≡◌, arith, subst, sym}
use Rattle.thp_history.specs.declared.events.Outcome.{Outcome}
use Rattle.thp_history.specs.declared.events.Outcome.TheVariants.{Freed}
use Rattle.thp_journal_scripts.specs.Prelude.{LosesPage, one_if_freed}
use Rattle.thp_journal_scripts.proofs.folding.Folding.lose.Goals as goal

pub returns-in-Some-clause-frees : goal.returns-in-Some-clause-frees
returns-in-Some-clause-frees c =
    let freed : c.args.outcome ≡ Freed = grind (arith, c.if-ne.ensures) in
    subst (λ (o : Outcome). LosesPage (one_if_freed o) c.args.self.now.waiting.items c.lose_page.new.waiting.items) (sym freed) c.lose_page.ensures.loses
