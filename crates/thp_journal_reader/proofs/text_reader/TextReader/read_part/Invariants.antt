use Rattle.std.proofs.Common.{◌≡◌, ◌++◌, length}
use Rattle.thp_script.specs.Prelude.{result_after, IsCounted, Text}
use Rattle.thp_journal_reader.specs.Prelude.{result_of_lines, result_with, so_far, AllowsVersionsAt}
use Rattle.thp_journal_reader.proofs.text_reader.TextReader.read_part.Given as goal

abbrev pub decreases-loop-text : goal.decreases-loop-text
decreases-loop-text g l = length l.rest

-- what was read, with what is left of the part and the text to come, reports what it reported before
abbrev pub invariant-loop-text : goal.invariant-loop-text
invariant-loop-text g l =
    let reported = g.N.KeepsNodes.reported in
    record {
      reports : (more : Text) → result_after l.text more (result_of_lines (reported l.nodes) l.place l.text.line (l.text.begun ++ (l.rest ++ more))) ≡ result_with (so_far (reported l.fn.self.nodes) l.fn.self.place l.fn.self.text) (l.part ++ more);
      counted : IsCounted l.rest l.text;
      along : g.N.KeepsNodes.goes_along l.text.line l.nodes;
      limit : l.text.most ≡ l.fn.self.text.most;
      allows : AllowsVersionsAt g.N.KeepsNodes.allows l.place;
      taken : g.N.KeepsNodes.taken l.nodes ≡ g.N.KeepsNodes.taken l.fn.self.nodes;
    }
