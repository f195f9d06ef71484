-- Texts made piece by piece.
use Rattle.std.proofs.Common.{◌≡◌, ℕ, List, [], ◌∷◌, ◌++◌, append_assoc, codes, decimal}
use Rattle.thp_journal_writer.specs.Prelude.{ended}
use Rattle.thp_check.specs.Prelude.{page_is, caller_is, in_flight_of}

-- two pieces behind a text
pub two : (t a b : List ℕ) → t ++ a ++ b ≡ t ++ (a ++ b)
two t a b = append_assoc t a b

-- three pieces behind a text, the first two of them together
pub three : (t a b c : List ℕ) → t ++ a ++ (b ++ c) ≡ t ++ (a ++ b ++ c)
three t a b c = simp append_assoc

-- the line that expects nothing
pub nothing_line : (t : List ℕ) → t ++ codes "expected: " ++ ended (codes "nothing") ≡ t ++ codes "expected: nothing\n"
nothing_line t = append_assoc t (codes "expected: ") (ended (codes "nothing"))

-- words behind a page, and behind a caller
pub page_line : (t words : List ℕ) (p : ℕ) → t ++ codes "page " ++ decimal p ++ 32 ∷ [] ++ ended words ≡ t ++ ended (page_is p words)
page_line t words p = simp append_assoc

pub caller_line : (t words : List ℕ) (c : ℕ) → t ++ codes "caller " ++ decimal c ++ 32 ∷ [] ++ ended words ≡ t ++ ended (caller_is c words)
caller_line t words c = simp append_assoc

-- a flight behind a page
pub flight_after : (t t1 t2 t3 words bytes : List ℕ) (p n c m : ℕ) → t1 ≡ t ++ codes "page " → n ≡ p → t2 ≡ t1 ++ decimal n ++ 32 ∷ [] → bytes ≡ words → t3 ≡ t2 ++ bytes → m ≡ c →
    t3 ++ ended (codes " the flight of caller " ++ decimal m) ≡ t ++ ended (in_flight_of p words c)
flight_after t t1 t2 t3 words bytes p n c m e1 same e2 is e3 caller = rw (e3, e2, e1, is, same, caller) (simp append_assoc)

-- all pieces of an explanation
pub whole : (t number line expected why : List ℕ) →
    t ++ codes "line " ++ number ++ 58 ∷ [] ++ codes " " ++ line ++ expected ++ codes "why: " ++ why ≡ t ++ (codes "line " ++ number ++ codes ": " ++ line ++ expected ++ codes "why: " ++ why)
whole t number line expected why = simp append_assoc
