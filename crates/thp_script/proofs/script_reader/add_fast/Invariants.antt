use Rattle.std.proofs.Common.{◌≡◌, ◌≤◌, [], length}
use Rattle.thp_script.specs.Prelude.{spelled_after, IsPartRead, Text}
use Rattle.thp_script.proofs.script_reader.add_fast.Given as goal

abbrev pub decreases-loop-command : goal.decreases-loop-command
decreases-loop-command l = length l.rest

-- what was read, with what is left, spells what it spelled before
abbrev pub invariant-loop-command : goal.invariant-loop-command
invariant-loop-command l = record {
  inside : IsPartRead l.settings l.sections.items l.fn.section l.text l.rest;
  spelled : (more : Text) → spelled_after l.settings l.sections.items l.fn.section l.text l.rest more ≡ spelled_after l.settings l.fn.sections.items l.fn.section l.fn.text l.part more;
  begins : l.text.begun ≡ [];
  shorter : length l.rest ≤ length l.part;
}
