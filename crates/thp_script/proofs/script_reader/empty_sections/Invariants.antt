use Rattle.std.proofs.Common.{◌≡◌, ◌+◌, [], replicate}
use Rattle.thp_script.proofs.script_reader.empty_sections.Given as goal

abbrev pub invariant-loop : goal.invariant-loop
invariant-loop l = l.sections.items ≡ replicate (l.counter + 1) []
