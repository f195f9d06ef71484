-- Two lists, place by place.
use Rattle.std.proofs.Common.{List, [], ◌∷◌, ◌++◌}
use Rattle.std.specs.List.{AllZip}

-- one more item in each
pub zip_push : {A B : Type 0} (R : A → B → Type 0) (xs : List A) (ys : List B) (x : A) (y : B) → AllZip R xs ys → R x y → AllZip R (xs ++ x ∷ []) (ys ++ y ∷ [])
zip_push R [] [] x y all here = (here, tt)
zip_push R [] (v ∷ ys) x y all here = absurd all
zip_push R (u ∷ xs) [] x y all here = absurd all
zip_push R (u ∷ xs) (v ∷ ys) x y all here = (all.0, zip_push R xs ys x y all.1 here)

-- what R implies
pub zip_weaker : {A B : Type 0} (R S : A → B → Type 0) (xs : List A) (ys : List B) → ((x : A) (y : B) → R x y → S x y) → AllZip R xs ys → AllZip S xs ys
zip_weaker R S [] [] f all = all
zip_weaker R S [] (y ∷ ys) f all = absurd all
zip_weaker R S (x ∷ xs) [] f all = absurd all
zip_weaker R S (x ∷ xs) (y ∷ ys) f all = (f x y all.0, zip_weaker R S xs ys f all.1)
