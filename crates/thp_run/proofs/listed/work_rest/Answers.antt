use Rattle.std.proofs.Common.{◌∙◌, ◌≤◌, length, rules}
use Rattle.thp_run.specs.Listed.{WorkedList}
use Rattle.thp_run.proofs.ListedLaws.{rest_begins, rest_works}
use Rattle.thp_worker.proofs.StepLaws.{goes_refl}
use Rattle.thp_run.proofs.listed.work_rest.Goals as goal

pub work_rest-requires-clause-worked : goal.work_rest-requires-clause-worked
work_rest-requires-clause-worked g c =
    let le : length c.args.commands.now ≤ c.max-room.result = search rules in
    let list : WorkedList = record { answers = c.worked.inside.answers.items; rest = c.worked.inside.rest } in
    let flags = rw (c.nodes.ensures, c.as_slice-answers.ensures.value) at c.in_ok-opened.ensures in (
      c.requires.worked.0,
      rest_begins c.args.worker c.requires.worked.0 (g.S.Steps.fronts c.args.steps.now) c.args.commands.now list c.in-Some.rest c.in_ok-log.log c.in_ok-opened.opened c.max-room.result
          c.in-Some.is (c.in_ok-log.ensures.items ∙ c.as_slice-answers.ensures.value) flags c.in_ok-log.ensures.room le c.requires.commands (rw (← c.worked.view_is) at c.requires.worked.1),
    )

pub returns-clause-works : goal.returns-clause-works
returns-clause-works g c =
    let le : length c.args.commands.now ≤ c.max-room.result = search rules in
    let list : WorkedList = record { answers = c.worked.inside.answers.items; rest = c.worked.inside.rest } in
    let flags = rw (c.nodes.ensures, c.as_slice-answers.ensures.value) at c.in_ok-opened.ensures in
    let fronts = g.S.Steps.fronts in
    λ old given.
    let is = rw (← c.worked.view_is) at given in
    let begins = rest_begins c.args.worker old (fronts c.args.steps.now) c.args.commands.now list c.in-Some.rest c.in_ok-log.log c.in_ok-opened.opened c.max-room.result
    c.in-Some.is (c.in_ok-log.ensures.items ∙ c.as_slice-answers.ensures.value) flags c.in_ok-log.ensures.room le c.requires.commands is in
    rest_works c.args.worker old (fronts c.args.steps.now) (fronts c.work_rest.new.steps) c.args.commands.now list _ c.in_ok-worked.worked c.list_answers.result
    (c.in_ok-worked.ensures.works old) c.list_answers.ensures.answers c.list_answers.ensures.rest is begins

pub returns-in_err-list-clause-goes : goal.returns-in_err-list-clause-goes
returns-in_err-list-clause-goes g c = goes_refl _ _
