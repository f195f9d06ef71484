-- Numbers whose digits are in groups of three, separated by commas.
use Rattle.std.specs.Prelude.{ℕ, ◌+◌, ◌-◌, ◌%◌, ◌&&◌, List, [], ◌∷◌, ◌++◌, length, codes, if◌then◌else◌, nat_eq, nat_lt, decimal}

-- a comma, if the digit at this place of `count` digits is not the first, and begins a group of three
abbrev pub separator : ℕ → ℕ → List ℕ
separator count place = if nat_lt 0 place && nat_eq ((count - place) % 3) 0 then codes "," else []

-- the digits of a number from this place on, of `count` in all, with the commas before them
abbrev pub in_groups : ℕ → ℕ → List ℕ → List ℕ
in_groups count place [] = []
in_groups count place (digit ∷ more) = separator count place ++ (digit ∷ []) ++ in_groups count (place + 1) more

-- the number
unfoldable pub grouped : ℕ → List ℕ
grouped n = in_groups (length (decimal n)) 0 (decimal n)

-- a number and a word, with an `s` unless the number is 1
unfoldable pub many : ℕ → List ℕ → List ℕ
many n word = grouped n ++ codes " " ++ word ++ (if nat_eq n 1 then [] else codes "s")
