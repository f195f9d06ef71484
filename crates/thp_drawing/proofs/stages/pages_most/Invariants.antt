use Rattle.std.proofs.Common.{◌≡◌, max, drop}
use Rattle.thp_drawing.specs.Quantities.{most_pages, pages_most}
use Rattle.thp_drawing.proofs.stages.pages_most.Given as goal

abbrev pub invariant-loop-place : goal.invariant-loop-place
invariant-loop-place l =
    max l.most (most_pages l.node.width l.node.prefixes l.place (drop l.place l.columns)) ≡ pages_most l.node
