-- The invariant of the search for a page's number: trees of blocks, one for each bucket of numbers. No public clause cites this
-- module.
use Rattle.std.specs.Prelude.{◌≡◌, ◌≢◌, ◌<◌, ◌≤◌, ◌+◌, ◌-◌, ◌*◌, ◌/◌, ◌%◌, ◌^◌, ◌||◌, ℕ, suc, List, cond, nat_lt, nat_le, length, slice_index_or, Option, Some, None, vec_capacity}
use Rattle.thp_links.specs.declared.link.TheConstants.{NIL}
use Rattle.thp_page.specs.declared.number_trees.NumberTrees.{NumberTrees}
use Rattle.thp_page.specs.declared.number_trees.Place.{Place}
use Rattle.thp_page.specs.declared.number_trees.Place.TheVariants.{Root, Child}

-- the bucket of a number: by `bits` low bits, and by one bit more if its bucket was split
abbrev pub bucket_in : (bits buckets number : ℕ) → ℕ
bucket_in bits buckets number = cond (nat_lt (number % 2 ^ suc bits) buckets) (number % 2 ^ suc bits) (number % 2 ^ bits)

-- how many low bits the numbers of a bucket have in common: a split bucket and the one split off it differ by one bit more
abbrev pub depth_in : (bits buckets bucket : ℕ) → ℕ
depth_in bits buckets bucket = cond (nat_lt (bucket + 2 ^ bits) buckets || nat_le (2 ^ bits) bucket) (suc bits) bits

-- child i, of block i / 2, has the low bits of its parent's number, and as the next bit its side
pub record IsChild (num : ℕ → Option ℕ) (depth : ℕ → ℕ) (i number at : ℕ) : Type 0 where
  pub parent : ℕ
  pub numbered : num (i / 2) ≡ Some parent
  pub below : at ≡ suc (depth (i / 2))
  pub low : number % 2 ^ depth (i / 2) ≡ parent % 2 ^ depth (i / 2)
  pub side : number / 2 ^ depth (i / 2) % 2 ≡ i % 2

-- a root has its bucket's low bits
pub record IsRoot (bits buckets bucket number at : ℕ) : Type 0 where
  pub bucket_there : bucket < buckets
  pub depth : at ≡ depth_in bits buckets bucket
  pub low : number % 2 ^ at ≡ bucket

-- a block with this number may hang at this place, where `at` low bits are given
abbrev pub FitsPlace : (num : ℕ → Option ℕ) (depth : ℕ → ℕ) (bits buckets : ℕ) → Place → (number at : ℕ) → Type 0
FitsPlace num depth bits buckets (Root j) number at = IsRoot bits buckets j number at
FitsPlace num depth bits buckets (Child i) number at = IsChild num depth i number at

-- a block with a number hangs at its place
pub record HangsAt (num : ℕ → Option ℕ) (block : Place → ℕ) (place : ℕ → Place) (depth : ℕ → ℕ) (bits buckets b number : ℕ) : Type 0 where
  pub here : block (place b) ≡ b
  pub fits : FitsPlace num depth bits buckets (place b) number (depth b)
  pub shallow : depth b ≤ 64
  pub small : number < 2 ^ 64
  pub real : b ≢ NIL

-- the block at place p has a number, and p is its place
pub record HoldsBlock (num : ℕ → Option ℕ) (block : Place → ℕ) (place : ℕ → Place) (p : Place) : Type 0 where
  pub number : ℕ
  pub numbered : num (block p) ≡ Some number
  pub there : place (block p) ≡ p

-- blocks hang in the trees of so many buckets: each block with a number at a place of its own that fits, and
-- no other block; no number is that of two
pub record IsHung (num : ℕ → Option ℕ) (block : Place → ℕ) (bits buckets : ℕ) : Type 0 where
  pub least : 2 ^ bits ≤ buckets
  pub most : buckets ≤ 2 ^ suc bits
  pub few_bits : bits < 64
  pub place : ℕ → Place
  pub depth : ℕ → ℕ
  pub hung : (b n : ℕ) → num b ≡ Some n → HangsAt num block place depth bits buckets b n
  pub held : (p : Place) → block p ≢ NIL → HoldsBlock num block place p
  pub single : (b c n : ℕ) → num b ≡ Some n → num c ≡ Some n → b ≡ c

-- the number of a block, and the block at a place
abbrev pub number_at : NumberTrees → ℕ → Option ℕ
number_at t b = slice_index_or t.numbers.items b None

abbrev pub block_in : NumberTrees → Place → ℕ
block_in t (Root j) = slice_index_or t.roots.items j NIL
block_in t (Child i) = slice_index_or t.children.items i NIL

-- the place is one of those stored
abbrev pub HasPlace : NumberTrees → Place → Type 0
HasPlace t (Root j) = j < length t.roots.items
HasPlace t (Child i) = i < length t.children.items

-- the blocks with numbers hang in the trees, and each has two children
pub record IsSearchable (t : NumberTrees) : Type 0 where
  pub small : length t.numbers.items < 2 ^ 32
  pub mask : t.mask ≡ 2 ^ suc t.bits - 1
  pub both : length t.children.items ≡ 2 * length t.numbers.items
  pub hung : IsHung (λ b. number_at t b) (λ p. block_in t p) t.bits (length t.roots.items)

-- the blocks that are there are a front of all blocks, and there is room for all
pub record HasTreeRoom (blocks : ℕ) (t : NumberTrees) : Type 0 where
  pub small : blocks < 2 ^ 32
  pub few : length t.numbers.items ≤ blocks
  pub numbers_room : blocks ≤ vec_capacity t.numbers
  pub children_room : 2 * blocks ≤ vec_capacity t.children
  pub roots_room : 2 * blocks ≤ vec_capacity t.roots

-- the trees with another block, or NIL, at place p
pub record IsReplaced (old new : NumberTrees) (p : Place) (b : ℕ) : Type 0 where
  pub numbers : new.numbers ≡ old.numbers
  pub bits : new.bits ≡ old.bits
  pub mask : new.mask ≡ old.mask
  pub children_size : length new.children.items ≡ length old.children.items
  pub roots_size : length new.roots.items ≡ length old.roots.items
  pub children_room : vec_capacity new.children ≡ vec_capacity old.children
  pub roots_room : vec_capacity new.roots ≡ vec_capacity old.roots
  pub here : block_in new p ≡ b
  pub others : (q : Place) → q ≢ p → block_in new q ≡ block_in old q

-- a block with this number may hang at place p, where none hangs
pub record IsVacant (t : NumberTrees) (depth : ℕ → ℕ) (number : ℕ) (p : Place) : Type 0 where
  pub at : ℕ
  pub fits : FitsPlace (λ b. number_at t b) depth t.bits (length t.roots.items) p number at
  pub shallow : at ≤ 64

-- place p is that of the block with this number, or else the one where such a block has to hang
pub record IsPlaceOf (t : NumberTrees) (number : ℕ) (p : Place) : Type 0 where
  pub inside : HasPlace t p
  pub found : block_in t p ≢ NIL → number_at t (block_in t p) ≡ Some number
  pub absent : block_in t p ≡ NIL → (b : ℕ) → number_at t b ≢ Some number
  pub free : (h : IsHung (λ b. number_at t b) (λ q. block_in t q) t.bits (length t.roots.items)) → block_in t p ≡ NIL → IsVacant t h.depth number p

-- place q is that of a block without children, which may as well hang at place p
pub record IsLeafBelow (t : NumberTrees) (p q : Place) : Type 0 where
  pub inside : HasPlace t q
  pub occupied : block_in t q ≢ NIL
  pub alone : (i : ℕ) → i / 2 ≡ block_in t q → block_in t (Child i) ≡ NIL
  pub low : (h : IsHung (λ b. number_at t b) (λ r. block_in t r) t.bits (length t.roots.items)) (n m : ℕ) → number_at t (block_in t p) ≡ Some n → number_at t (block_in t q) ≡ Some m →
      m % 2 ^ h.depth (block_in t p) ≡ n % 2 ^ h.depth (block_in t p)

-- block c, which had no children, has taken over the place p and the children of block b
pub record IsTakenOver (old new : NumberTrees) (p : Place) (b c : ℕ) : Type 0 where
  pub numbers : new.numbers ≡ old.numbers
  pub bits : new.bits ≡ old.bits
  pub mask : new.mask ≡ old.mask
  pub children_size : length new.children.items ≡ length old.children.items
  pub roots_size : length new.roots.items ≡ length old.roots.items
  pub children_room : vec_capacity new.children ≡ vec_capacity old.children
  pub roots_room : vec_capacity new.roots ≡ vec_capacity old.roots
  pub here : block_in new p ≡ c
  pub moved : (i j : ℕ) → i / 2 ≡ c → j / 2 ≡ b → i % 2 ≡ j % 2 → block_in new (Child i) ≡ block_in old (Child j)
  pub gone : (i : ℕ) → i / 2 ≡ b → block_in new (Child i) ≡ NIL
  pub others : (q : Place) → q ≢ p → ((i : ℕ) → q ≡ Child i → (i / 2 ≢ b) × (i / 2 ≢ c)) → block_in new q ≡ block_in old q

-- the children of block b, the root of bucket j, are the roots of this bucket and of a new one
pub record IsParted (old new : NumberTrees) (j b : ℕ) : Type 0 where
  pub numbers : new.numbers ≡ old.numbers
  pub bits : new.bits ≡ old.bits
  pub mask : new.mask ≡ old.mask
  pub children_size : length new.children.items ≡ length old.children.items
  pub roots_size : length new.roots.items ≡ suc (length old.roots.items)
  pub children_room : vec_capacity new.children ≡ vec_capacity old.children
  pub roots_room : vec_capacity new.roots ≡ vec_capacity old.roots
  pub left : (i : ℕ) → i / 2 ≡ b → i % 2 ≡ 0 → block_in new (Root j) ≡ block_in old (Child i)
  pub right : (i : ℕ) → i / 2 ≡ b → i % 2 ≡ 1 → block_in new (Root (length old.roots.items)) ≡ block_in old (Child i)
  pub gone : (i : ℕ) → i / 2 ≡ b → block_in new (Child i) ≡ NIL
  pub others : (q : Place) → q ≢ Root j → q ≢ Root (length old.roots.items) → ((i : ℕ) → q ≡ Child i → i / 2 ≢ b) → block_in new q ≡ block_in old q
