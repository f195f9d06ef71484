-- Columns that are joined in pairs.
use Rattle.std.proofs.Common.{◌≡◌, ℕ, suc, zero, ◌+◌, ◌*◌, ◌^◌, ◌-◌, ◌<◌, ◌≤◌, List, [], ◌∷◌, ◌++◌, length, map, take, drop, get_or, set, refl, ap, subst, sym, ◌∙◌, arith, append_assoc, length-append, take_at}
use Rattle.std.proofs.lemmas.List.{drop_more, get_or-append_right, get_or-drop, get_or_default, length-take-le, set_at, take_all, take_more}
use Rattle.thp_metrics.specs.Prelude.{Column, Numbers, column_of, AreFull, AllLow, all_of, both, in_pairs, ColumnsAreLow, AreWithin, FitTogether}
use Rattle.thp_metrics.proofs.Spans.{column_append, low_append}

pub lows_fit : (a b : List ℕ) → AreWithin (2 ^ 126) a → AreWithin (2 ^ 126) b → FitTogether a b
lows_fit a b low other = grind arith

-- each two neighbours one behind the other
abbrev pub in_twos : {X : Type 0} → List (List X) → List (List X)
in_twos [] = []
in_twos (xs ∷ []) = xs ∷ []
in_twos (xs ∷ ys ∷ more) = (xs ++ ys) ∷ in_twos more

pub pairs_are_of_twos : (w : ℕ) (xss : List (List Numbers)) → 0 < w → AreFull w xss → in_pairs (map column_of xss) ≡ map column_of (in_twos xss)
pairs_are_of_twos w [] h full = refl
pairs_are_of_twos w (xs ∷ []) h full = refl
pairs_are_of_twos w (xs ∷ ys ∷ more) h full =
    rw (sym (column_append xs ys (omega (arith, h, full.0)) (omega (arith, h, full.1.0))), pairs_are_of_twos w more h full.1.1) refl

pub twos_have_all : (xss : List (List Numbers)) → all_of (in_twos xss) ≡ all_of xss
twos_have_all [] = refl
twos_have_all (xs ∷ []) = refl
twos_have_all (xs ∷ ys ∷ more) = rw (twos_have_all more) (append_assoc xs ys (all_of more))

pub twos_are_full : (w m : ℕ) (xss : List (List Numbers)) → length xss ≡ m + m → AreFull w xss → AreFull (w * 2) (in_twos xss)
twos_are_full w m [] e full = tt
twos_are_full w m (xs ∷ []) e full = absurd (odd m e)
  where
    odd : (m : ℕ) → 1 ≡ m + m → ⊥
    odd m e = omega (arith, e)
twos_are_full w m (xs ∷ ys ∷ more) e full =
    (length-append xs ys ∙ omega (arith, full.0, full.1.0), twos_are_full w (m - 1) more (omega (arith, e)) full.1.1)

pub length_of_twos : (m : ℕ) (xss : List (List Numbers)) → length xss ≡ m + m → length (in_twos xss) ≡ m
length_of_twos m [] e = omega (arith, e)
length_of_twos m (xs ∷ []) e = absurd (omega (arith, e))
length_of_twos m (xs ∷ ys ∷ more) e = omega (arith, e, length_of_twos (m - 1) more (omega (arith, e)))

pub twos_are_low : (xss : List (List Numbers)) → AllLow xss → AllLow (in_twos xss)
twos_are_low [] low = tt
twos_are_low (xs ∷ []) low = low
twos_are_low (xs ∷ ys ∷ more) low = (low_append xs ys low.0 low.1.0, twos_are_low more low.1.1)

length_of_pairs : (m : ℕ) (cs : List Column) → length cs ≡ m + m → length (in_pairs cs) ≡ m
length_of_pairs m [] e = omega (arith, e)
length_of_pairs m (a ∷ []) e = absurd (omega (arith, e))
length_of_pairs m (a ∷ b ∷ more) e = omega (arith, e, length_of_pairs (m - 1) more (omega (arith, e)))

pair_at : (m i : ℕ) (cs : List Column) (d : Column) → length cs ≡ m + m → i < m → get_or (in_pairs cs) i d ≡ both (get_or cs (i + i) d) (get_or cs (suc (i + i)) d)
pair_at m i [] d e l = absurd (omega (arith, e, l))
pair_at m i (a ∷ []) d e l = absurd (omega (arith, e))
pair_at m zero (a ∷ b ∷ more) d e l = refl
pair_at m (suc i) (a ∷ b ∷ more) d e l =
    let two : suc i + suc i ≡ suc (suc (i + i)) = omega arith in
    rw two (pair_at (m - 1) i more d (omega (arith, e)) (omega (arith, l)))

low_at : (cs : List Column) (i : ℕ) (d : Column) → ColumnsAreLow cs → i < length cs → AreWithin (2 ^ 126) (get_or cs i d).pages
low_at [] i d low l = absurd (omega (arith, l))
low_at (c ∷ cs) zero d low l = low.0
low_at (c ∷ cs) (suc i) d low l = low_at cs i d low.1 (omega (arith, l))

-- the first i pairs, and then the columns as they were
abbrev pub half_way : ℕ → List Column → List Column
half_way i cs = take i (in_pairs cs) ++ drop i cs

later : (m i j : ℕ) (cs : List Column) (d : Column) → length cs ≡ m + m → i < m → i ≤ j → get_or (half_way i cs) j d ≡ get_or cs j d
later m i j cs d e l k =
    get_or-append_right (take i (in_pairs cs)) (drop i cs) i j d (length-take-le i (in_pairs cs) (omega (arith, length_of_pairs m cs e, l))) k
    ∙ get_or-drop i cs (j - i) d
    ∙ ap (λ n. get_or cs n d) (omega (arith, k))

pair_is : (m i : ℕ) (cs : List Column) (x y : Column) → length cs ≡ m + m → i < m → x ≡ get_or (half_way i cs) (2 * i) x → y ≡ get_or (half_way i cs) (2 * i + 1) y → both x y ≡ get_or (in_pairs cs) i x
pair_is m i cs x y e l here there =
    let first : x ≡ get_or cs (i + i) x = here ∙ later m i (2 * i) cs x e l (omega arith) ∙ ap (λ n. get_or cs n x) (omega arith) in
    let second : y ≡ get_or cs (suc (i + i)) x = there ∙ later m i (2 * i + 1) cs y e l (omega arith) ∙ ap (λ n. get_or cs n y) (omega arith) ∙ get_or_default cs (suc (i + i)) y x (omega (arith, e, l)) in
    ap (λ c. both c y) first ∙ ap (λ c. both (get_or cs (i + i) x) c) second ∙ sym (pair_at m i cs x e l)

-- one more pair is made
pub one_more_pair : (m i : ℕ) (cs xs : List Column) (x y z : Column) → length cs ≡ m + m → i < m → xs ≡ half_way i cs → x ≡ get_or xs (2 * i) x → y ≡ get_or xs (2 * i + 1) y → z ≡ both x y → set xs i z ≡ half_way (i + 1) cs
one_more_pair m i cs xs x y z e l is here there made =
    let P = in_pairs cs in
    let pair : z ≡ get_or P i x = made ∙ pair_is m i cs x y e l (subst (λ (ys : List Column). x ≡ get_or ys (2 * i) x) is here) (subst (λ (ys : List Column). y ≡ get_or ys (2 * i + 1) y) is there) in
    let front : length (take i P) ≡ i = length-take-le i P (omega (arith, length_of_pairs m cs e, l)) in
    ap (λ ys. set ys i z) is
    ∙ ap (λ c. set (half_way i cs) i c) pair
    ∙ ap (λ rest. set (take i P ++ rest) i (get_or P i x)) (drop_more cs i x (omega (arith, e, l)))
    ∙ set_at (take i P) (get_or cs i x) (drop (i + 1) cs) (get_or P i x) i front
    ∙ sym (append_assoc (take i P) (get_or P i x ∷ []) (drop (i + 1) cs))
    ∙ ap (λ begun. begun ++ drop (i + 1) cs) (sym (take_more P i x (omega (arith, length_of_pairs m cs e, l))))

-- the two columns of a pair can be joined
pub pair_fits : (m i : ℕ) (cs xs : List Column) (x y : Column) → length cs ≡ m + m → i < m → ColumnsAreLow cs → xs ≡ half_way i cs → x ≡ get_or xs (2 * i) x → y ≡ get_or xs (2 * i + 1) y → FitTogether x.pages y.pages
pair_fits m i cs xs x y e l low is here there =
    let first : x ≡ get_or cs (2 * i) x = here ∙ ap (λ ys. get_or ys (2 * i) x) is ∙ later m i (2 * i) cs x e l (omega arith) in
    let second : y ≡ get_or cs (2 * i + 1) y = there ∙ ap (λ ys. get_or ys (2 * i + 1) y) is ∙ later m i (2 * i + 1) cs y e l (omega arith) in
    lows_fit x.pages y.pages
    (subst (λ (c : Column). AreWithin (2 ^ 126) c.pages) (sym first) (low_at cs (2 * i) x low (omega (arith, e, l))))
    (subst (λ (c : Column). AreWithin (2 ^ 126) c.pages) (sym second) (low_at cs (2 * i + 1) y low (omega (arith, e, l))))

-- when all pairs are made, they stand in front
pub all_pairs : (m : ℕ) (cs : List Column) → length cs ≡ m + m → take m (half_way m cs) ≡ in_pairs cs
all_pairs m cs e = take_at (take m (in_pairs cs)) (drop m cs) m (length-take-le m (in_pairs cs) (omega (arith, length_of_pairs m cs e))) ∙ take_all m (in_pairs cs) (omega (arith, length_of_pairs m cs e))
