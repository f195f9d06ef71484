use Rattle.std.proofs.Common.{◌≡◌, drop}
use Rattle.thp_history.specs.Prelude.{next_page, rest_after}
use Rattle.thp_node.proofs.node.Node.next_flying.Given as goal

abbrev pub invariant-loop-passed : goal.invariant-loop-passed
invariant-loop-passed g l = record {
  next : next_page l.self.journal l.caller l.pages ≡ next_page l.self.journal l.caller (drop l.passed l.pages);
  rest : rest_after l.self.journal l.caller l.pages ≡ rest_after l.self.journal l.caller (drop l.passed l.pages);
}
