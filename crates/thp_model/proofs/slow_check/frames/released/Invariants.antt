use Rattle.std.proofs.Common.{◌≡◌, ◌&&◌, not, nat_lt}
use Rattle.thp_history.specs.Prelude.{is_held, set_of}
use Rattle.thp_model.proofs.slow_check.frames.released.Given as goal

-- of the frames so far, those that are held before and not after
abbrev pub invariant-loop-i : goal.invariant-loop-i
invariant-loop-i l = l.set ≡ set_of (λ j. nat_lt j l.i && (is_held l.shape l.before l.page j && not (is_held l.shape l.after l.page j)))
