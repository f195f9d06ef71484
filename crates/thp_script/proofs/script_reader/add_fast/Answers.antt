use Rattle.std.proofs.Common.{◌≡◌, ◌∙◌, arith, refl}
use Rattle.thp_script.specs.Prelude.{Call, with_commands, placed}
use Rattle.thp_script.proofs.PartReadLaws.{ahead_inside, ahead_spelled}
use Rattle.thp_script.proofs.script_reader.add_fast.Goals as goal

pub loop-command-preserved : goal.loop-command-preserved
loop-command-preserved c =
    let s = c.args.settings.now in
    let l = c.loop-command in
    let new = c.pass_line.new.self in
    let after = c.in-Some.after.now in
    let added : c.add_command.new.sections.items ≡ with_commands l.sections.items (placed c.args.section (Call c.in-Some.command)) = rw c.in-Some-true.is-0 c.in_ok-add_command.ensures.added in
    record {
      inside = ahead_inside s l.sections.items c.add_command.new.sections.items c.args.section c.in-Some-true.at l.text new l.rest.now after c.in-Some.command c.in-Some.ensures c.in-Some-true.is-0 l.invariant.inside added c.pass_line.ensures;
      spelled = λ more. ahead_spelled s l.sections.items c.add_command.new.sections.items c.args.section c.in-Some-true.at l.text new l.rest.now after c.in-Some.command c.in-Some.ensures c.in-Some-true.is-0 l.invariant.begins added c.pass_line.ensures more
          ∙ l.invariant.spelled more;
      begins = rw c.pass_line.ensures refl;
      shorter = omega (arith, c.in-Some.ensures.shorter);
    }
