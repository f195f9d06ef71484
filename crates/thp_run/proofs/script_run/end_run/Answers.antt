use Rattle.std.proofs.Common.{◌∙◌, ◌++◌, rules, subst, sym, All}
use denote.Param.Send.{param_send, arg_send}
use Rattle.thp_worker.specs.Prelude.{DidFirst, IsWorkFor}
use Rattle.thp_run.specs.Passes.{fronts_in}
use Rattle.thp_run.proofs.Crosses.{node_passes_send}
use Rattle.thp_run.specs.Sharing.{AreFew}
use Rattle.thp_run.proofs.BegunRunLaws.{begun_all, begun_nodes, begun_runs, begun_set_up}
use Rattle.thp_run.proofs.SharingLaws.{commands_fit}
use Rattle.thp_run.proofs.script_run.end_run.Goals as goal

pub do_commands-requires-clause-commands : goal.do_commands-requires-clause-commands
do_commands-requires-clause-commands g c =
    let s = c.args.settings.now in
    let b = c.requires.begun.4 in
    let nodes = begun_nodes s c.requires.begun.0 c.requires.begun.1 c.requires.begun.2 c.requires.begun.3 (fronts_in c.args.passes) c.args.setup b in
    rw c.as_slice.ensures (subst (λ k. All (IsWorkFor k) c.args.script.setup) (sym nodes) (commands_fit s.nodes c.args.script.setup c.requires.script.setup_commands))

pub end_section-requires-clause-section : goal.end_section-requires-clause-section
end_section-requires-clause-section g c =
    let b = c.requires.begun.4 in
    let before = c.requires.begun.3 in
    (c.requires.begun.2, before ++ c.args.script.setup, subst (λ cs. DidFirst 0 c.requires.begun.2 (fronts_in c.do_commands.new.steps) (before ++ cs) c.in_ok-setup.setup) c.as_slice.ensures (c.in_ok-setup.ensures.did c.requires.begun.2 before b.did))

pub run_workers_after-requires-send-P : goal.run_workers_after-requires-send-P
run_workers_after-requires-send-P g c κs within = search (param_send, arg_send, node_passes_send g.N.Recorder-dict g.N.Destruct-dict)

pub run_workers_after-requires-clause-set_up : goal.run_workers_after-requires-clause-set_up
run_workers_after-requires-clause-set_up g c κs within =
    let s = c.args.settings.now in
    let cells = c.requires.begun.0 in
    let old = c.requires.begun.1 in
    let first = c.requires.begun.2 in
    let before = c.requires.begun.3 in
    let b = c.requires.begun.4 in
    let few : AreFew c.args.script = search (rules, c.are_few.ensures, c.if-not-are_few.false) in
    let did : DidFirst 0 first (fronts_in c.do_commands.new.steps) (before ++ c.args.script.setup) c.in_ok-setup.setup = subst (λ cs. DidFirst 0 first (fronts_in c.do_commands.new.steps) (before ++ cs) c.in_ok-setup.setup) c.as_slice.ensures (c.in_ok-setup.ensures.did first before b.did) in (
      first,
      before ++ c.args.script.setup,
      begun_set_up s cells old first before (fronts_in c.args.passes) c.args.setup b c.args.script c.requires.script few (fronts_in c.do_commands.new.steps) (fronts_in c.end_section.new.steps) c.in_ok-setup.setup c.in_ok-setup-2.setup
          c.in_ok-setup.ensures.goes c.in_ok-setup-2.ensures.goes did (c.in_ok-setup-2.ensures.works first (before ++ c.args.script.setup) did),
    )

pub run_workers_after-requires-clause-done : goal.run_workers_after-requires-clause-done
run_workers_after-requires-clause-done g c κs within =
    let all = begun_all c.args.settings.now c.requires.begun.0 c.requires.begun.1 c.requires.begun.2 c.requires.begun.3 (fronts_in c.args.passes) c.args.setup c.requires.begun.4 in
    let same = c.in_ok-setup.ensures.goes.same in
    c.in_ok-setup-2.ensures.done (record { low = same.first ∙ all.low; high = same.end ∙ all.high ∙ sym same.callers })

pub returns-clause-runs : goal.returns-clause-runs
returns-clause-runs g c = λ cells old first before b.
    let s = c.args.settings.now in
    let few : AreFew c.args.script = search (rules, c.are_few.ensures, c.if-not-are_few.false) in
    let did : DidFirst 0 first (fronts_in c.do_commands.new.steps) (before ++ c.args.script.setup) c.in_ok-setup.setup = subst (λ cs. DidFirst 0 first (fronts_in c.do_commands.new.steps) (before ++ cs) c.in_ok-setup.setup) c.as_slice.ensures (c.in_ok-setup.ensures.did first before b.did) in
    let up = begun_set_up s cells old first before (fronts_in c.args.passes) c.args.setup b c.args.script c.requires.script few (fronts_in c.do_commands.new.steps) (fronts_in c.end_section.new.steps) c.in_ok-setup.setup c.in_ok-setup-2.setup
    c.in_ok-setup.ensures.goes c.in_ok-setup-2.ensures.goes did (c.in_ok-setup-2.ensures.works first (before ++ c.args.script.setup) did) in
    rw c.in_ok-close.ensures.passes
    (begun_runs s cells old first before (fronts_in c.args.passes) c.args.setup b c.args.script c.requires.script few (fronts_in c.do_commands.new.steps) (fronts_in c.end_section.new.steps) c.in_ok-setup.setup c.in_ok-setup-2.setup
    c.in_ok-setup.ensures.goes c.in_ok-setup-2.ensures.goes did (c.in_ok-setup-2.ensures.works first (before ++ c.args.script.setup) did)
    c.in_ok-passes.passes c.in_ok-passes.sections.items c.in_ok-close.ensures.agree (c.in_ok-passes.ensures.runs first (before ++ c.args.script.setup) up))
