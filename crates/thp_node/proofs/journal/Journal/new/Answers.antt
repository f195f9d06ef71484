use Rattle.std.proofs.Common.{false, List, sym, subst}
use Rattle.thp_history.specs.declared.events.Event.{Event}
use Rattle.thp_history.specs.declared.tally.Tally.{Tally}
use Rattle.thp_node.specs.Prelude.{IsJournal}
use Rattle.thp_node.proofs.Recording.{journal_none}
use Rattle.thp_node.proofs.journal.Journal.new.Goals as goal

pub invariant_of-result : goal.invariant_of-result
invariant_of-result g c =
    let P : List Event → Tally → Type 0 = λ h t. IsJournal c.args.shape h (record { next = 0; closed = false; flying = c.in_ok-flying.flying; sums = t }) in
    subst (λ h. P h c.new-2.result) (sym c.empty.ensures) (subst (P _) (sym c.new-2.ensures) (journal_none c.args.shape c.in_ok-flying.flying c.requires c.in_ok-flying.ensures))
