use Rattle.std.proofs.Common.{◌≡◌, take}
use Rattle.thp_history.specs.Prelude.{is_partly_mapped}
use Rattle.thp_model.proofs.slow_check.underused.is_partly_mapped.Given as goal

-- whether the page is partly mapped after the events so far
abbrev pub invariant-loop-place : goal.invariant-loop-place
invariant-loop-place l = l.partly ≡ is_partly_mapped l.shape (take l.place l.events) l.page
