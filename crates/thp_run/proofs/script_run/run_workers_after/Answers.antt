use Rattle.std.proofs.Common.{◌∷◌, subst, sym}
use Rattle.std.proofs.lemmas.List.Elements.{All-cons}
use Rattle.thp_script.specs.declared.script.ScriptSections.{ScriptSections}
use Rattle.thp_worker.specs.Prelude.{AllWork, RangeDone, AnswersAre}
use Rattle.thp_run.specs.Sections.{InOrder}
use Rattle.thp_run.proofs.RestLaws.{can_run, few_done, answers_numbered, ran_fit, runs_to}
use Rattle.thp_run.proofs.script_run.run_workers_after.Goals as goal

pub run_range-requires-after_bounds : goal.run_range-requires-after_bounds
run_range-requires-after_bounds g c κs within =
    let s = c.requires.set_up.2 in
    let script : ScriptSections = record { setup = c.requires.set_up.1; workers = c.args.workers } in
    rw c.as_slice.ensures (can_run c.requires.set_up.0 (g.P.Steps.fronts c.args.passes) script s.new s.fits s.goes)

pub do_rest-requires-clause-sections : goal.do_rest-requires-clause-sections
do_rest-requires-clause-sections g c =
    let s = c.requires.set_up.2 in
    let script : ScriptSections = record { setup = c.requires.set_up.1; workers = c.args.workers } in
    let mid = g.P.Steps.fronts c.args.passes in
    let ran = g.P.Steps.fronts c.keep_nodes.new.self in
    let vs = c.args.workers in
    let ws = c.in_ok-passes.worked.items in
    let r : RangeDone 1 mid ran vs ws = subst (λ k. RangeDone 1 mid k vs ws) (sym c.keep_nodes.ensures) (subst (λ l. RangeDone 1 mid (g.P.Steps.fronts c.in_ok-passes.passes) l ws) c.as_slice.ensures c.in_ok-passes.ensures.ran) in
    rw c.as_slice-2.ensures (ran_fit c.requires.set_up.0 mid script s.new s.fits s.goes ran ws r)

pub sections-requires : goal.sections-requires
sections-requires g c =
    let s = c.requires.set_up.2 in
    let script : ScriptSections = record { setup = c.requires.set_up.1; workers = c.args.workers } in
    let mid = g.P.Steps.fronts c.args.passes in
    let ran = g.P.Steps.fronts c.keep_nodes.new.self in
    let end = g.P.Steps.fronts c.do_rest.new.passes in
    let vs = c.args.workers in
    let ws = c.in_ok-passes.worked.items in
    let xs = c.in_ok-done.done.items in
    let r : RangeDone 1 mid ran vs ws = subst (λ k. RangeDone 1 mid k vs ws) (sym c.keep_nodes.ensures) (subst (λ l. RangeDone 1 mid (g.P.Steps.fronts c.in_ok-passes.passes) l ws) c.as_slice.ensures c.in_ok-passes.ensures.ran) in
    let all : AllWork 1 mid end vs xs = subst (λ l. AllWork 1 mid end l xs) c.as_slice-2.ensures (c.in_ok-done.ensures.work mid (subst (λ l. AllWork 1 mid ran l ws) (sym c.as_slice-2.ensures) r.work)) in
    let order : InOrder 1 ran end vs ws xs = subst (λ l. InOrder 1 ran end l ws xs) c.as_slice-2.ensures c.in_ok-done.ensures.ascending in
    few_done c.requires.set_up.0 mid script s.new s.fits s.goes ran ws r end xs c.in_ok-done.ensures.goes all order

pub returns-clause-runs : goal.returns-clause-runs
returns-clause-runs g c = λ first commands s.
    let script : ScriptSections = record { setup = commands; workers = c.args.workers } in
    let mid = g.P.Steps.fronts c.args.passes in
    let ran = g.P.Steps.fronts c.keep_nodes.new.self in
    let end = g.P.Steps.fronts c.do_rest.new.passes in
    let vs = c.args.workers in
    let ws = c.in_ok-passes.worked.items in
    let xs = c.in_ok-done.done.items in
    let r : RangeDone 1 mid ran vs ws = subst (λ k. RangeDone 1 mid k vs ws) (sym c.keep_nodes.ensures) (subst (λ l. RangeDone 1 mid (g.P.Steps.fronts c.in_ok-passes.passes) l ws) c.as_slice.ensures c.in_ok-passes.ensures.ran) in
    let all : AllWork 1 mid end vs xs = subst (λ l. AllWork 1 mid end l xs) c.as_slice-2.ensures (c.in_ok-done.ensures.work mid (subst (λ l. AllWork 1 mid ran l ws) (sym c.as_slice-2.ensures) r.work)) in
    let order : InOrder 1 ran end vs ws xs = subst (λ l. InOrder 1 ran end l ws xs) c.as_slice-2.ensures c.in_ok-done.ensures.ascending in
    runs_to first mid script s.new s.fits s.goes ran ws r end xs c.in_ok-done.ensures.goes all order c.args.setup c.in_ok-sections.sections.items s.works
    c.requires.done c.in_ok-done.ensures.done c.in_ok-sections.ensures

pub returns-clause-answers : goal.returns-clause-answers
returns-clause-answers g c = λ same.
    let are = c.args.answers in
    let setup = c.args.setup in
    let xs = c.in_ok-done.done.items in
    rw c.in_ok-sections.ensures (answers_numbered are 0 (setup ∷ xs) (All-cons (AnswersAre are) setup xs same (c.in_ok-done.ensures.answers are c.in_ok-passes.ensures.answers)))
