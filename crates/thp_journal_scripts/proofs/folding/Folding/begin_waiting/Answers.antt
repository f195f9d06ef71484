use Rattle.thp_journal_scripts.specs.Prelude.{begins_late}
use Rattle.thp_journal_scripts.proofs.folding.Folding.begin_waiting.Goals as goal

pub returns-clause-begins : goal.returns-clause-begins
returns-clause-begins c = begins_late c.saturating_add-self-2.result c.in_ok-push_back.ensures.items c.saturating_add-self.ensures
