-- The size of a node.
use Rattle.std.specs.Prelude.{◌≡◌, ℕ, ◌^◌, ◌≤◌, ◌<◌, Some}
use Rattle.thp_history.specs.Limits.{max_blocks, max_node_blocks, max_order, min_order}
use Rattle.thp_history.specs.declared.shape.Shape.{Shape}

-- the number of subpages of a page of the node, which is the number of frames of a block
unfoldable pub subpages : Shape → ℕ
subpages s = 2 ^ s.order

-- a node of at most this many blocks can have this shape: it has a block, its order is 2 to 9, and its threshold is below the
-- number of subpages (this project's profile)
pub record IsShapeWithin (most : ℕ) (s : Shape) : Type 0 where
  pub some_blocks : 1 ≤ s.blocks
  pub few_blocks : s.blocks ≤ most
  pub least_order : min_order ≤ s.order
  pub most_order : s.order ≤ max_order
  pub low_threshold : (t : ℕ) → s.underused ≡ Some t → t < subpages s

-- a node of scripts and of journals of version 1 to 3 can have this shape
abbrev pub IsShape : Shape → Type 0
IsShape s = IsShapeWithin max_blocks s

-- a node can have this shape
abbrev pub IsNodeShape : Shape → Type 0
IsNodeShape s = IsShapeWithin max_node_blocks s
