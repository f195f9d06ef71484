-- Words that are escaped stay within their text.
use Rattle.std.proofs.Common.{◌≡◌, ◌∙◌, ℕ, Bool, true, false, List, [], ◌∷◌, ap, refl, codes, nat_eq, if◌then◌else◌, ◌||◌}
use Rattle.std.specs.List.{list_any}
use Rattle.std.proofs.lemmas.List.Folds.{list_any-append}
use Rattle.thp_drawing.specs.Escapes.{ends_words, escaped, escaped_byte}

-- by whether the byte is one of the four
by_tests : (b : ℕ) (p q r s : Bool) → nat_eq b 60 ≡ q → nat_eq b 62 ≡ r → nat_eq b 34 ≡ s
    → list_any ends_words (if p then codes "&amp;" else if q then codes "&lt;" else if r
    then codes "&gt;" else if s then codes "&quot;" else b ∷ []) ≡ false
by_tests b true q r s lt gt quote = refl
by_tests b false true r s lt gt quote = refl
by_tests b false false true s lt gt quote = refl
by_tests b false false false true lt gt quote = refl
by_tests b false false false false lt gt quote = simp (lt, gt, quote)

pub escaped_stays : (words : List ℕ) → list_any ends_words (escaped words) ≡ false
escaped_stays [] = refl
escaped_stays (b ∷ more) =
    let first = by_tests b (nat_eq b 38) (nat_eq b 60) (nat_eq b 62) (nat_eq b 34) refl refl refl in
    list_any-append ends_words (escaped_byte b) (escaped more)
    ∙ ap (λ x. x || list_any ends_words (escaped more)) first
    ∙ escaped_stays more
