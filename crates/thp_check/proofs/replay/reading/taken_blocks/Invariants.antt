use Rattle.std.proofs.Common.{◌≡◌}
use Rattle.std.specs.List.{filter, range_with_len}
use Rattle.thp_check.specs.Prelude.{is_taken}
use Rattle.thp_check.proofs.replay.reading.taken_blocks.Given as goal

-- those of the blocks passed that are taken
abbrev pub invariant-loop-block : goal.invariant-loop-block
invariant-loop-block l = l.blocks.items ≡ filter (is_taken l.places.table) (range_with_len 0 l.block)
