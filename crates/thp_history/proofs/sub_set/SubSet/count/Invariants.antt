use Rattle.std.proofs.Common.{◌≡◌, ◌≤◌, ◌*◌, sum_by, count_ones, take}
use Rattle.thp_history.proofs.sub_set.SubSet.count.Given as goal

abbrev pub invariant-loop-word : goal.invariant-loop-word
invariant-loop-word l = record { sum : l.count ≡ sum_by count_ones (take l.word-index l.word-items); few : l.count ≤ 64 * l.word-index }
