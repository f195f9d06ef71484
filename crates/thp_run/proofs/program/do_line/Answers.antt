use Rattle.std.proofs.Common.{inl}
use Rattle.std.proofs.lemmas.Result.{err_from_is_err_and}
use Rattle.thp_run.proofs.program.do_line.Goals as goal

pub returns-in_err-run : goal.returns-in_err-run
returns-in_err-run g c =
    let p = err_from_is_err_and c.from_residual-in_err-run.result c.from_residual-in_err-run.ensures.1 in
    rw (p.1, p.2) (inl (record { asked = c.if-line.false; settings = c.in_ok-settings.settings; settings_are = c.in_ok-settings.ensures; ends = c.in_err-run.ensures.ends; reads = c.in_err-run.ensures.reads; writes = c.in_err-run.ensures.writes }))

pub returns : goal.returns
returns g c = inl (record { asked = c.if-line.false; settings = c.in_ok-settings.settings; settings_are = c.in_ok-settings.ensures; ends = c.in_ok-run.ensures.ends; reads = c.in_ok-run.ensures.reads; writes = c.in_ok-run.ensures.writes })
