-- Each split leaves all of a pass but its first or its last caller.
use Rattle.std.proofs.Common.{ℕ, ap, ◌∙◌, arith, false}
use Rattle.thp_cell.specs.Prelude.{PassState, below, from}
use Rattle.tests_cells.proofs.threads.stress.split_in_four.Goals as goal

pub split-requires-clause-cell : goal.split-requires-clause-cell
split-requires-clause-cell c = ap (λ (p : PassState). p.cell) c.split-low.ensures.left ∙ c.requires.cell

pub split-requires-clause-after : goal.split-requires-clause-after
split-requires-clause-after c = omega (arith, ap (λ (p : PassState). p.first) c.split-low.ensures.left)

pub split-requires-clause-before : goal.split-requires-clause-before
split-requires-clause-before c = omega (arith, ap (λ (p : PassState). p.end) c.split-low.ensures.left)

pub split-requires-2-clause-cell : goal.split-requires-2-clause-cell
split-requires-2-clause-cell c = ap (λ (p : PassState). p.cell) c.split-low.ensures.right ∙ c.requires.cell

pub split-requires-2-clause-after : goal.split-requires-2-clause-after
split-requires-2-clause-after c = omega (arith, ap (λ (p : PassState). p.first) c.split-low.ensures.right)

pub split-requires-2-clause-before : goal.split-requires-2-clause-before
split-requires-2-clause-before c = omega (arith, ap (λ (p : PassState). p.end) c.split-low.ensures.right)

pub returns-clause-first : goal.returns-clause-first
returns-clause-first c =
    c.split.ensures.left ∙ (ap (λ (p : PassState). below p 1) c.split-low.ensures.left
    ∙ ap (λ (n : ℕ). record c.args.pass { first = n; end = 1; keeps = false }) c.requires.all.from)

pub returns-clause-second : goal.returns-clause-second
returns-clause-second c = c.split.ensures.right ∙ ap (λ (p : PassState). from p 1) c.split-low.ensures.left

pub returns-clause-third : goal.returns-clause-third
returns-clause-third c = c.split-2.ensures.left ∙ ap (λ (p : PassState). below p 3) c.split-low.ensures.right

pub returns-clause-fourth : goal.returns-clause-fourth
returns-clause-fourth c =
    c.split-2.ensures.right ∙ (ap (λ (p : PassState). from p 3) c.split-low.ensures.right
    ∙ ap (λ (n : ℕ). record c.args.pass { first = 3; end = n; keeps = false; locks = 0; misses = 0 }) (c.requires.all.to ∙ c.requires.four))
