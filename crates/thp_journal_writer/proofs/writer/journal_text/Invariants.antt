use Rattle.std.proofs.Common.{◌≡◌, ◌++◌, take}
use Rattle.thp_journal_writer.proofs.JournalLemmas.{node_texts}
use Rattle.thp_journal_writer.proofs.writer.journal_text.Given as goal

abbrev pub invariant-loop-n : goal.invariant-loop-n
invariant-loop-n l = l.text.items ≡ l.initial.text.items ++ node_texts l.version (take l.n l.nodes)
