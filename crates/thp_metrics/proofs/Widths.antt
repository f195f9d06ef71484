-- How wide the columns are, and that they are the parts of the prefixes.
use Rattle.std.proofs.Common.{◌≡◌, ◌⊎◌, ℕ, zero, suc, ◌+◌, ◌*◌, ◌^◌, ◌<◌, ◌≤◌, List, [], ◌∷◌, ◌++◌, length, map, drop, ap, sym, ◌∙◌, inl, inr, subst, arith, append_assoc, length-append, take_at, drop_at, pow_pos}
use Rattle.std.proofs.Math.Nat.{pow-suc, mul-le-mul_left, mul-le-mul_right}
use Rattle.std.proofs.lemmas.List.{take_all, drop_all, length-map, map-append}
use Rattle.thp_metrics.specs.Prelude.{Column, Folded, Numbers, column_of, columns_of, parts, sums_of, IsWidth, ColumnsAreLow, AreWithin, AreFull, AllLow, HasLowSums, all_of, Folds, HasRoomForOne}

length_of_all : (w : ℕ) (xss : List (List Numbers)) → AreFull w xss → length (all_of xss) ≡ length xss * w
length_of_all w [] full = omega arith
length_of_all w (xs ∷ xss) full = length-append xs (all_of xss) ∙ omega (arith, full.0, length_of_all w xss full.1)

length_of_past : (past : List Numbers) (f : Folded) (h : Folds past f) → length past ≡ length h.full * f.width + length h.last
length_of_past past f h = sym (ap length h.together) ∙ length-append (all_of h.full) h.last ∙ ap (λ n. n + length h.last) (length_of_all f.width h.full h.each)

full_count : (w a b l n : ℕ) → a ≡ b → l ≡ w → n ≡ b * w + l → n < 2 ^ 64 → (a + 1) * w < 2 ^ 64
full_count w a b l n same full count few = grind (arith, same, full, count, few)

-- no column is wide
narrow : (past : List Numbers) (f : Folded) → Folds past f → length past < 2 ^ 64 → f.width ≤ 2 ^ 62
narrow past f h few = elim h.needed [
  | inl one ↦ omega (arith, one)
  | inr many ↦
      let much : 300 * f.width ≤ length h.full * f.width = mul-le-mul_right f.width (omega (arith, many)) in
      omega (arith, much, length_of_past past f h, few)
]

low_sums : (ns : List Numbers) → length ns ≤ 2 ^ 62 → HasLowSums ns → AreWithin (2 ^ 126) (sums_of ns)
low_sums ns few low = grind arith

columns_are_low : (w : ℕ) (xss : List (List Numbers)) → w ≤ 2 ^ 62 → AreFull w xss → AllLow xss → ColumnsAreLow (map column_of xss)
columns_are_low w [] few full low = tt
columns_are_low w (xs ∷ xss) few full low = (low_sums xs (omega (arith, few, full.0)) low.0, columns_are_low w xss few full.1 low.1)

-- fewer than 2 ^ 64 prefixes leave room for one more
pub has_room : (past : List Numbers) (f : Folded) → Folds past f → length past < 2 ^ 64 → HasRoomForOne f
has_room past f h few =
    let count : length f.full.items ≡ length h.full = ap length h.full_are ∙ length-map h.full column_of in
    record {
      few = omega (arith, count, h.few);
      capacity = h.capacity;
      some = omega (arith, h.room, h.some);
      low = subst ColumnsAreLow (sym h.full_are) (columns_are_low f.width h.full (narrow past f h few) h.each h.low);
      last_low = subst (λ (c : Column). AreWithin (2 ^ 126) c.pages) (sym h.last_is) (low_sums h.last (omega (arith, narrow past f h few, h.room)) h.last_low);
      width = λ none. full_count f.width (length f.full.items) (length h.full) (length h.last) (length past) count (omega (arith, h.room, none)) (length_of_past past f h) few;
    }

-- a power of two is less than another, or twice as much or more
powers : (j k : ℕ) → (2 ^ j ≤ 2 ^ k) ⊎ (2 * 2 ^ k ≤ 2 ^ j)
powers zero zero = inl (omega arith)
powers (suc j) zero = inr (rw (pow-suc 2 j) (omega (arith, pow_pos j)))
powers zero (suc k) = inl (omega (arith, pow_pos (suc k)))
powers (suc j) (suc k) = elim (powers j k) [ inl few ↦ inl (rw (pow-suc 2 j, pow-suc 2 k) (omega (arith, few))) | inr many ↦ inr (rw (pow-suc 2 j, pow-suc 2 k) (omega (arith, many))) ]

serves : (a l n w r : ℕ) → n ≡ a * w + l → l + r ≡ w → a < 600 → n ≤ 600 * w
serves a l n w r count room few = grind (arith, mul-le-mul_right)

too_few : (a l n w v : ℕ) → n ≡ a * w + l → 0 < l → 600 ≤ 2 * a → 2 * v ≤ w → n ≤ 600 * v → ⊥
too_few a l n w v count some many wide fits = grind (arith, mul-le-mul_right)

pub width_is : (past : List Numbers) (f : Folded) → Folds past f → IsWidth (length past) f.width
width_is past f h = record {
  power = h.power;
  power_is = h.power_is;
  serves = serves (length h.full) (length h.last) (length past) f.width f.room (length_of_past past f h) h.room h.few;
  least = λ k serves. elim h.needed [
    | inl one ↦ omega (arith, one, pow_pos k)
    | inr many ↦ elim (powers h.power k) [
      | inl few ↦ subst (λ (w : ℕ). w ≤ 2 ^ k) (sym h.power_is) few
      | inr more ↦ absurd (too_few (length h.full) (length h.last) (length past) f.width (2 ^ k) (length_of_past past f h) h.some many (subst (λ (w : ℕ). 2 * 2 ^ k ≤ w) (sym h.power_is) more) serves)
    ]
  ];
}

pub one_width : (n v w : ℕ) → IsWidth n v → IsWidth n w → v ≡ w
one_width n v w a b = grind (arith, serves)

-- full lists and one more, joined, are cut into the same parts
parts_of_none : (m w : ℕ) → parts {X = Numbers} m w [] ≡ []
parts_of_none x w = grind arith

parts_back : (m w : ℕ) (xss : List (List Numbers)) (last : List Numbers) → 0 < w → AreFull w xss → 0 < length last → length last ≤ w → length xss < m → parts m w (all_of xss ++ last) ≡ xss ++ last ∷ []
parts_back m w [] [] wide full some fits enough = absurd (omega (arith, some))
parts_back zero w [] (x ∷ xs) wide full some fits enough = absurd (omega (arith, enough))
parts_back (suc m) w [] (x ∷ xs) wide full some fits enough = rw (take_all w (x ∷ xs) fits, drop_all w (x ∷ xs) fits) (ap (λ rest. (x ∷ xs) ∷ rest) (parts_of_none m w))
parts_back m w ([] ∷ xss) last wide full some fits enough = absurd (omega (arith, full.0, wide))
parts_back zero w ((x ∷ xs) ∷ xss) last wide full some fits enough = absurd (omega (arith, enough))
parts_back (suc m) w ((x ∷ xs) ∷ xss) last wide full some fits enough =
    let whole : all_of ((x ∷ xs) ∷ xss) ++ last ≡ (x ∷ xs) ++ (all_of xss ++ last) = append_assoc (x ∷ xs) (all_of xss) last in
    ap (parts (suc m) w) whole
    ∙ ap (λ part. part ∷ parts m w (drop w ((x ∷ xs) ++ (all_of xss ++ last)))) (take_at (x ∷ xs) (all_of xss ++ last) w full.0)
    ∙ ap (λ rest. (x ∷ xs) ∷ parts m w rest) (drop_at (x ∷ xs) (all_of xss ++ last) w full.0)
    ∙ ap (λ rest. (x ∷ xs) ∷ rest) (parts_back m w xss last wide full.1 some fits (omega (arith, enough)))

enough_parts : (a l n w : ℕ) → n ≡ a * w + l → 0 < l → 0 < w → a < n
enough_parts a l n w count some wide = grind (arith, mul-le-mul_left)

pub columns_are : (past : List Numbers) (f : Folded) (cs : List Column) → Folds past f → cs ≡ f.full.items ++ f.last ∷ [] → cs ≡ columns_of f.width past
columns_are past f cs h e =
    let wide : 0 < f.width = omega (arith, h.room, h.some) in
    let enough : length h.full < length past = enough_parts (length h.full) (length h.last) (length past) f.width (length_of_past past f h) h.some wide in
    e
    ∙ ap (λ ds. ds ++ f.last ∷ []) h.full_are
    ∙ ap (λ c. map column_of h.full ++ c ∷ []) h.last_is
    ∙ sym (map-append column_of h.full (h.last ∷ []))
    ∙ ap (map column_of) (sym (parts_back (length past) f.width h.full h.last wide h.each h.some (omega (arith, h.room)) enough))
    ∙ ap (λ ns. map column_of (parts (length past) f.width ns)) h.together
