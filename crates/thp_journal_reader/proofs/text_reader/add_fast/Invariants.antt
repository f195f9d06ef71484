use Rattle.std.proofs.Common.{◌≡◌, ◌≤◌, ◌++◌, [], length}
use Rattle.thp_script.specs.Prelude.{result_after, IsCounted, Text}
use Rattle.thp_journal_reader.specs.Prelude.{result_of_lines}
use Rattle.thp_journal_reader.proofs.text_reader.add_fast.Given as goal

abbrev pub decreases-loop-event : goal.decreases-loop-event
decreases-loop-event g l = length l.rest

-- what was read, with what is left, reports what it reported before
abbrev pub invariant-loop-event : goal.invariant-loop-event
invariant-loop-event g l =
    let reported = g.N.KeepsNodes.reported in
    record {
      reports : (more : Text) → result_after l.text more (result_of_lines (reported l.nodes) l.fn.place l.text.line (l.text.begun ++ (l.rest ++ more))) ≡ result_after l.fn.text more (result_of_lines (reported l.fn.nodes) l.fn.place l.fn.text.line (l.fn.text.begun ++ (l.part ++ more)));
      counted : IsCounted l.rest l.text;
      along : g.N.KeepsNodes.goes_along l.text.line l.nodes;
      begins : l.text.begun ≡ [];
      most : l.text.most ≡ l.fn.text.most;
      shorter : length l.rest ≤ length l.part;
      taken : g.N.KeepsNodes.taken l.nodes ≡ g.N.KeepsNodes.taken l.fn.nodes;
    }
