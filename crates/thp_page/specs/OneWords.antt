-- Subpages that lie in one word of a set.
use Rattle.std.specs.Prelude.{ℕ, ◌/◌, ◌%◌, Bool, ◌&&◌, nat_eq}
use Rattle.std.specs.Int.{bit_at}

-- subpage i lies in the word at this index of a set, and its bit is set
abbrev pub in_word : ℕ → ℕ → ℕ → Bool
in_word at bits i = nat_eq (i / 64) at && nat_eq (bit_at bits (i % 64)) 1
