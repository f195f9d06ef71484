-- The least and the greatest of some numbers.
use Rattle.std.specs.Prelude.{ℕ, zero, suc, min, max, List, [], ◌∷◌}
use Rattle.thp_metrics.specs.declared.column.Span.{Span}

-- the least number of a list; 0 for the empty list
abbrev pub least : List ℕ → ℕ
least [] = 0
least (x ∷ []) = x
least (x ∷ y ∷ ys) = min x (least (y ∷ ys))

-- the greatest number of a list; 0 for the empty list
abbrev pub greatest : List ℕ → ℕ
greatest [] = 0
greatest (x ∷ xs) = max x (greatest xs)

-- the greatest of f below n; 0 if n is 0
unfoldable pub greatest_below : ℕ → (ℕ → ℕ) → ℕ
greatest_below zero f = 0
greatest_below (suc n) f = max (greatest_below n f) (f n)

abbrev pub span_of : List ℕ → Span
span_of xs = record { least = least xs; greatest = greatest xs }

-- the span of the numbers of both
abbrev pub joined : Span → Span → Span
joined a b = record { least = min a.least b.least; greatest = max a.greatest b.greatest }
