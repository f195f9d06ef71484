-- The effect of watched devices on the remaining bytes of a reader and the content of a writer, if those are known.
use Rattle.std.specs.Prelude.{◌≡◌, ◌≤◌, ◌<◌, ◌++◌, ℕ, List, [], length, take, Option, MatchOption}
use Rattle.std.specs.Io.KnownBytes.{Keeps, Appends, Consumes, IsAtEnd}

-- a read returned n bytes, which is 0 only at the end or if there was no room; or it returned nothing
abbrev pub Reads : Option (List ℕ) → Option (List ℕ) → Option ℕ → List ℕ → Type 0
Reads old new result buf = MatchOption result (Keeps old new)
    (λ n. (n ≤ length buf) × Consumes old new (take n buf) × (n ≡ 0 → 0 < length buf → IsAtEnd new))

-- a write took the first n bytes, at least one; or it took nothing
abbrev pub Writes : Option (List ℕ) → Option (List ℕ) → Option ℕ → List ℕ → Type 0
Writes old new result buf = MatchOption result (Appends old new [])
    (λ n. (0 < n) × (n ≤ length buf) × Appends old new (take n buf))

-- the writer took a prefix of the text
pub record WritesFront (old new : Option (List ℕ)) (text : List ℕ) : Type 0 where
  pub front : List ℕ
  pub back : List ℕ
  pub parts : text ≡ front ++ back
  pub written : Appends old new front
