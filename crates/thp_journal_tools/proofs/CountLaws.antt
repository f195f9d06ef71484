-- How the events of a text add up.
use Rattle.std.proofs.Common.{◌≡◌, ◌≤◌, ◌+◌, ◌++◌, ◌∷◌, [], ◌∙◌, ℕ, Bool, List, add_assoc, ap, arith, drop, length, refl, sym, take, length-append, take-append-drop, ◌&&◌, eqb, if◌then◌else◌}
use Rattle.std.specs.Char.{is_ascii_digit}
use Rattle.thp_journal_tools.specs.Counting.{begins_after, events_from}

-- the events of two texts, one behind the other
pub events-append : (begins : Bool) (first more : List ℕ) → events_from begins (first ++ more) ≡ events_from begins first + events_from (begins_after begins first) more
events-append begins [] more = omega arith
events-append begins (byte ∷ first) more =
    ap (λ (n : ℕ). (if begins && is_ascii_digit byte then 1 else 0) + n) (events-append (eqb byte 10) first more)
    ∙ sym (add_assoc (if begins && is_ascii_digit byte then 1 else 0) (events_from (eqb byte 10) first) (events_from (begins_after (eqb byte 10) first) more))

pub begins-append : (begins : Bool) (first more : List ℕ) → begins_after begins (first ++ more) ≡ begins_after (begins_after begins first) more
begins-append begins [] more = refl
begins-append begins (byte ∷ first) more = begins-append (eqb byte 10) first more

at_most_one : (b : Bool) → (if b then 1 else 0) ≤ 1
at_most_one x = grind arith

-- a text has no more events than bytes
pub events_at_most : (begins : Bool) (text : List ℕ) → events_from begins text ≤ length text
events_at_most begins [] = omega arith
events_at_most begins (byte ∷ text) = omega (arith, at_most_one (begins && is_ascii_digit byte), events_at_most (eqb byte 10) text)

-- a front of what is left was counted, and this is left behind it
module _ (begins : Bool) (n : ℕ) (rest front back : List ℕ) (front_is : front ≡ take n rest) (back_is : back ≡ drop n rest) where
  parts : rest ≡ front ++ back
  parts = sym (take-append-drop n rest) ∙ rw (front_is, back_is) refl

  pub counts_on : (total old new : ℕ) (next : Bool) → new ≡ old + events_from begins front → next ≡ begins_after begins front → old + events_from begins rest ≡ total → new + events_from next back ≡ total
  counts_on total old new next e b is = grind (arith, parts, events-append)

  pub begins_on : (next : Bool) → next ≡ begins_after begins front → begins_after next back ≡ begins_after begins rest
  begins_on next b = ap (λ (x : Bool). begins_after x back) b ∙ sym (ap (begins_after begins) parts ∙ begins-append begins front back)

  pub room_on : (most old new : ℕ) → new ≡ old + events_from begins front → old + length rest ≤ most → new + length back ≤ most
  room_on most old new e room = omega (arith, e, events_at_most begins front, ap (λ (t : List ℕ). length t) parts ∙ length-append front back, room)
