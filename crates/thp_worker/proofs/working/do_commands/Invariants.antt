use Rattle.std.proofs.Common.{◌≡◌, ◌+◌, ◌++◌, ◌≤◌, List, length}
use Rattle.thp_script.specs.declared.script.Command.{Command}
use Rattle.thp_worker.specs.Prelude.{Fronts, Goes, DidFirst, Begins, no_progress}
use Rattle.thp_worker.proofs.working.do_commands.Given as goal

abbrev pub invariant-loop-index : goal.invariant-loop-index
invariant-loop-index g l =
    let fronts = g.S.Steps.fronts in
    record {
      goes : Goes l.worker (fronts l.fn.steps) (fronts l.steps);
      begins : (old : Fronts) (before : List Command) → DidFirst l.worker old (fronts l.fn.steps) before l.fn.section → Begins l.worker old (fronts l.steps) (before ++ l.commands) l.section.answers.items l.section.opened.items no_progress;
      nodes : length l.section.opened.items ≡ (fronts l.fn.steps).nodes;
      count : length l.section.answers.items ≡ length l.fn.section.answers.items + l.index;
      first : l.first ≡ length l.fn.section.answers.items;
      are : l.section.answers.are ≡ l.fn.section.answers.are;
      room : length l.fn.section.answers.items + length l.commands ≤ l.section.answers.room;
    }
