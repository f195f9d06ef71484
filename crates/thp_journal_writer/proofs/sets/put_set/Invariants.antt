use Rattle.std.proofs.Common.{◌≡◌, ◌+◌, ◌*◌, ◌-◌, ◌≤◌, vec_len, vec_capacity, ◌<◌, ◌∷◌, ◌++◌, drop}
use Rattle.thp_journal_writer.specs.Prelude.{runs_from, set_text}
use Rattle.thp_journal_writer.proofs.RunLemmas.{joined}
use Rattle.thp_journal_writer.proofs.sets.put_set.Given as goal

-- what is written, the last run and those behind it make the text of the set
abbrev pub invariant-loop-run : goal.invariant-loop-run
invariant-loop-run l = record {
  order : l.last.0 ≤ l.last.1;
  within : l.last.1 < 512;
  short : vec_len l.text ≤ vec_len l.fn.text + 8 * l.last.1;
  capacity : vec_capacity l.fn.text ≤ vec_capacity l.text;
  whole : l.text.items ++ joined (l.last ∷ runs_from (l.last.1 + 1) (drop (l.last.1 + 1) l.set)) ≡ l.fn.text.items ++ set_text l.set;
}

abbrev pub decreases-loop-run : goal.decreases-loop-run
decreases-loop-run l = 512 - l.last.1
