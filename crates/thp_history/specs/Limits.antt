-- The limits of this project's profile; each is defined here only.
use Rattle.std.specs.Prelude.{ℕ}

-- the greatest number of blocks of a node in scripts and in journals of version 1 to 3
abbrev pub max_blocks : ℕ
max_blocks = 4096

-- the greatest number of blocks of any node
abbrev pub max_node_blocks : ℕ
max_node_blocks = 16777216

-- the least and the greatest order of a page
abbrev pub min_order : ℕ
min_order = 2

abbrev pub max_order : ℕ
max_order = 9

-- the number of subpages of a page of the greatest order
abbrev pub max_subpages : ℕ
max_subpages = 512

-- the greatest number of callers of a node in scripts and in journals of version 1 to 3; they are numbered from 0
abbrev pub max_callers : ℕ
max_callers = 64

-- the greatest number of callers of any node
abbrev pub max_node_callers : ℕ
max_node_callers = 4096

-- the greatest number of pages in a batch
abbrev pub max_batch : ℕ
max_batch = 128
