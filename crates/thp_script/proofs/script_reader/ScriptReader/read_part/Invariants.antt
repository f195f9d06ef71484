use Rattle.std.proofs.Common.{◌≡◌, ◌++◌, length}
use Rattle.thp_script.specs.Prelude.{spelled_after, IsPartRead, spelled_with, Text}
use Rattle.thp_script.proofs.script_reader.ScriptReader.read_part.Given as goal

abbrev pub decreases-loop-text : goal.decreases-loop-text
decreases-loop-text l = length l.rest

-- what was read, with what is left of the part and the text to come, spells what it spelled before
abbrev pub invariant-loop-text : goal.invariant-loop-text
invariant-loop-text l = record {
  spelled : (more : Text) → spelled_after l.settings l.sections.items l.section l.text l.rest more ≡ spelled_with l.fn.self (l.part ++ more);
  inside : IsPartRead l.settings l.sections.items l.section l.text l.rest;
}
