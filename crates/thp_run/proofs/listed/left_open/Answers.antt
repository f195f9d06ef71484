use Rattle.std.proofs.Common.{◌∙◌, ◌≤◌, length, min, rules, sym}
use Rattle.thp_run.proofs.OpenedLaws.{none_left}
use Rattle.thp_run.proofs.listed.left_open.Goals as goal

pub returns : goal.returns
returns c =
    let le : min (length c.args.commands.now) (length c.args.answers.now) ≤ c.loop-place.place = search rules in
    sym (none_left c.loop-place.place c.loop-place.opened.items c.args.commands.now c.args.answers.now le) ∙ c.loop-place.invariant.opened
