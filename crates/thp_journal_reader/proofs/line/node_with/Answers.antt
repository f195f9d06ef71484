use Rattle.std.proofs.Common.{◌≡◌, ◌≤◌, ◌<◌, ◌^◌, ℕ, Option, Some, IfSome}
use Rattle.thp_history.specs.declared.shape.Shape.{Shape}
use Rattle.thp_history.specs.Prelude.{subpages, IsShapeWithin}
use Rattle.thp_journal_writer.specs.Prelude.{version_limits}
use Rattle.thp_journal_reader.proofs.line.node_with.Goals as goal

-- the threshold, where there is one, keeps to its bound
low : (underused : Option ℕ) (most t : ℕ) → IfSome underused (λ n. n < most) → underused ≡ Some t → t < most
low underused most t within is = rw is at within

abbrev shaped : ℕ → ℕ → Option ℕ → Shape
shaped blocks order underused = record { blocks = blocks; order = order; underused = underused }

is_shape : (limit blocks order : ℕ) (underused : Option ℕ) → 1 ≤ blocks → blocks ≤ limit → 2 ≤ order → order ≤ 9 → IfSome underused (λ t. t < 2 ^ order) → IsShapeWithin limit (shaped blocks order underused)
unfolding subpages
is_shape limit blocks order underused some few least most threshold = record {
  some_blocks = some;
  few_blocks = few;
  least_order = least;
  most_order = most;
  low_threshold = λ t is. low underused (2 ^ order) t threshold is;
}

pub returns-clause-in_range : goal.returns-clause-in_range
returns-clause-in_range c = (
  rw c.limits-limits.ensures at c.in_ok-number.ensures.bound,
  is_shape (version_limits c.args.version).most_blocks c.in_ok-blocks.blocks c.args.order c.args.underused
      c.in_ok-blocks.ensures.least (rw c.limits-limits.ensures at c.in_ok-blocks.ensures.most) c.requires.least c.requires.most c.requires.threshold,
)
