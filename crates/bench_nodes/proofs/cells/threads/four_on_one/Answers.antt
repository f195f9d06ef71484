-- The second and the third split divide the passes that the first one returns.
use Rattle.std.proofs.Common.{ap, ◌∙◌, arith}
use Rattle.thp_cell.proofs.Crossings.{sharing}
use Rattle.thp_cell.specs.Prelude.{PassState}
use Rattle.bench_nodes.proofs.cells.threads.four_on_one.Goals as goal

pub split-a-requires-clause-cell : goal.split-a-requires-clause-cell
split-a-requires-clause-cell g c = ap (λ (p : PassState). p.cell) c.split-low.ensures.left ∙ c.requires.cell

pub split-a-requires-clause-after : goal.split-a-requires-clause-after
split-a-requires-clause-after g c = omega (arith, ap (λ (p : PassState). p.first) c.split-low.ensures.left)

pub split-a-requires-clause-before : goal.split-a-requires-clause-before
split-a-requires-clause-before g c = omega (arith, ap (λ (p : PassState). p.end) c.split-low.ensures.left)

pub split-c-requires-clause-cell : goal.split-c-requires-clause-cell
split-c-requires-clause-cell g c = ap (λ (p : PassState). p.cell) c.split-low.ensures.right ∙ c.requires.cell

pub split-c-requires-clause-after : goal.split-c-requires-clause-after
split-c-requires-clause-after g c = omega (arith, ap (λ (p : PassState). p.first) c.split-low.ensures.right)

pub split-c-requires-clause-before : goal.split-c-requires-clause-before
split-c-requires-clause-before g c = omega (arith, ap (λ (p : PassState). p.end) c.split-low.ensures.right)

pub join-a-requires-send-F : goal.join-a-requires-send-F
join-a-requires-send-F g c κs within = search sharing depth 30

pub join-a-requires-send-A : goal.join-a-requires-send-A
join-a-requires-send-A g c κs within = search sharing depth 30
