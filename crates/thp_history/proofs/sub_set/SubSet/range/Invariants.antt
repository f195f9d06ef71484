use Rattle.std.proofs.Common.{◌*◌, ◌+◌}
use Rattle.thp_history.specs.Prelude.{AreWords}
use Rattle.thp_history.proofs.WordSpans.{Spans, SpansBut}
use Rattle.thp_history.proofs.sub_set.SubSet.range.Given as goal

abbrev pub invariant-loop-k : goal.invariant-loop-k
invariant-loop-k l = record { words : AreWords l.words; spans : Spans (64 * l.k) 512 l.words }

abbrev pub invariant-loop-k-2 : goal.invariant-loop-k-2
invariant-loop-k-2 l = record { words : AreWords l.words; spans : SpansBut (64 * l.start) (64 * (l.last + 1)) (64 * l.k) l.words }
