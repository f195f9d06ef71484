use Rattle.std.proofs.Common.{◌≡◌, length}
use Rattle.thp_capi.proofs.Masks.{MasksBelow}
use Rattle.thp_capi.proofs.replies.mask.Given as goal

abbrev pub invariant-loop-at : goal.invariant-loop-at
invariant-loop-at l = record { eight : length l.words ≡ 8; below : MasksBelow l.at l.words l.set }
