use Rattle.std.proofs.Common.{◌∙◌, Err, ap}
use Rattle.std.proofs.lemmas.Result.{err_from_is_err_and}
use Rattle.thp_run.specs.Passes.{fronts_in}
use Rattle.thp_script.specs.Prelude.{after_setup}
use Rattle.thp_run.proofs.BegunLaws.{begun_read, ends_at_fault, read_whole, reads_none}
use Rattle.thp_run.proofs.script_in_progress.run_in_cells.Goals as goal

pub returns-in_err-script_in_progress-clause-calls : goal.returns-in_err-script_in_progress-clause-calls
returns-in_err-script_in_progress-clause-calls g c = reads_none c.args.reader.now.failed c.args.reader.now.calls c.requires.reader

pub finish-requires-clause-begun : goal.finish-requires-clause-begun
finish-requires-clause-begun g c κs within =
    let s = c.args.settings.now in
    let u = c.in_ok-script_in_progress.script_in_progress in
    let v = c.in_ok-script_in_progress-2.script_in_progress in
    let parts = c.in_ok-script_in_progress-2.ensures.parts in
    let b = begun_read s c.args.cells.now c.args.passes.items u.script v.script u.passes v.passes u.setup v.setup parts.0 c.in_ok-script_in_progress.ensures.begun parts.2 in
    (c.args.cells.now, c.args.passes.items, fronts_in u.passes, parts.2.commands, b)

pub returns-clause-ran : goal.returns-clause-ran
returns-clause-ran g c =
    let s = c.args.settings.now in
    let u = c.in_ok-script_in_progress.script_in_progress in
    let v = c.in_ok-script_in_progress-2.script_in_progress in
    let parts = c.in_ok-script_in_progress-2.ensures.parts in
    let b = begun_read s c.args.cells.now c.args.passes.items u.script v.script u.passes v.passes u.setup v.setup parts.0 c.in_ok-script_in_progress.ensures.begun parts.2 in
    let r = c.in_ok-passes.ensures.runs c.args.cells.now c.args.passes.items (fronts_in u.passes) parts.2.commands b in
    record {
      bytes = parts.0;
      read = parts.1;
      script = after_setup parts.2.commands r.rest;
      spelled = read_whole s u.script v.script u.passes v.passes u.setup v.setup parts.0 r.rest parts.2 (c.in_ok-script_in_progress.ensures.script parts.0) r.is;
      runs = r.runs;
      kept = λ is. c.in_ok-passes.ensures.answers is (parts.2.answers ∙ c.in_ok-script_in_progress.ensures.answers is);
    }

pub returns-in_err-passes-clause-fault : goal.returns-in_err-passes-clause-fault
returns-in_err-passes-clause-fault g c =
    let s = c.args.settings.now in
    let u = c.in_ok-script_in_progress.script_in_progress in
    let v = c.in_ok-script_in_progress-2.script_in_progress in
    let parts = c.in_ok-script_in_progress-2.ensures.parts in
    let p = err_from_is_err_and c.from_residual-in_err-passes.result c.from_residual-in_err-passes.ensures.1 in
    ends_at_fault s (g.R.Read.remaining c.args.reader.now.device) c.read_parts.new.reader.failed u.script v.script u.passes v.passes u.setup v.setup parts.0 parts.1 parts.2 (c.in_ok-script_in_progress.ensures.script parts.0)
    c.in_ok-script_in_progress-2.ensures.flag c.in_err-passes.field-0.0 c.in_err-passes.ensures.fault c.from_residual-in_err-passes.result (p.1 ∙ ap (λ fault. Err fault) p.2)
