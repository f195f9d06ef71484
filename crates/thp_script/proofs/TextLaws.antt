-- Texts that come in parts: lines that are joined, and what is reported once a part has come.
use Rattle.std.proofs.Common.{◌≡◌, ◌+◌, ◌-◌, ◌==◌, ℕ, Bool, cond, List, [], ◌∷◌, ◌++◌, length, Option, Some, None, Result, Err, refl, sym, append_assoc, arith, nat_lt, if◌then◌else◌}
use Rattle.std.specs.List.{onto_first}
use Rattle.thp_script.specs.Prelude.{TextKind, TooLong, Fault, after_line, fault_with, first_fault, nothing_of, result_after, unless, with_begun, with_fault, TextSoFar, Text, lines_of, pieces_at}
use Rattle.thp_script.proofs.PieceLaws.{has_first, HasFirst}

-- ---- pieces of two texts, one behind the other

-- the last piece of the first text goes on as the first of the second
abbrev joined : List Text → List Text → List Text
joined [] ys = ys
joined (x ∷ []) [] = x ∷ []
joined (x ∷ []) (y ∷ ys) = (x ++ y) ∷ ys
joined (x ∷ w ∷ xs) ys = x ∷ joined (w ∷ xs) ys

joined-cons : (x : Text) (xs ys : List Text) → HasFirst xs → joined (x ∷ xs) ys ≡ x ∷ joined xs ys
joined-cons x xs ys f = rw f.2 refl

no_first : HasFirst [] → ⊥
no_first f = absurd cc

joined-onto : (b : ℕ) (xs ys : List Text) → HasFirst xs → HasFirst ys → joined (onto_first b xs) ys ≡ onto_first b (joined xs ys)
joined-onto b x ys f g = grind (arith, no_first)

joined-cond : (t : Bool) (b : ℕ) (xs ys : List Text) → HasFirst xs → HasFirst ys → joined (cond t ([] ∷ xs) (onto_first b xs)) ys ≡ cond t ([] ∷ joined xs ys) (onto_first b (joined xs ys))
joined-cond x b xs ys f g = grind (arith, joined-cons, joined-onto)

pub pieces-append : (c : ℕ) (xs ys : Text) → pieces_at c (xs ++ ys) ≡ joined (pieces_at c xs) (pieces_at c ys)
pieces-append c [] ys = let g = has_first c ys in rw g.2 refl
pieces-append c (b ∷ xs) ys = rw (pieces-append c xs ys) (sym (joined-cond (b == c) b (pieces_at c xs) (pieces_at c ys) (has_first c xs) (has_first c ys)))

-- a line that has begun ends with the first line of what comes
ends_begun : (begun text line : Text) (others : List Text) → lines_of begun ≡ begun ∷ [] → lines_of text ≡ line ∷ others → lines_of (begun ++ text) ≡ (begun ++ line) ∷ others
ends_begun begun text line others one e = rw (pieces-append 10 begun text, one, e) refl

-- what comes behind a text comes behind its first line
pub first_line : (text more line after : Text) → lines_of text ≡ line ∷ lines_of after → lines_of (text ++ more) ≡ line ∷ lines_of (after ++ more)
first_line text more line after e = grind (arith, pieces-append, joined-cons, has_first)

-- the first line of what has begun, what is left of a part and what comes behind it
pub whole_line : (begun rest more piece after : Text) → lines_of begun ≡ begun ∷ [] → lines_of rest ≡ piece ∷ lines_of after → lines_of (begun ++ (rest ++ more)) ≡ (begun ++ piece) ∷ lines_of (after ++ more)
whole_line begun rest more piece after one e = ends_begun begun (rest ++ more) piece (lines_of (after ++ more)) one (first_line rest more piece after e)

pub still_one_line : (begun piece : Text) → lines_of begun ≡ begun ∷ [] → lines_of piece ≡ piece ∷ [] → lines_of (begun ++ piece) ≡ (begun ++ piece) ∷ []
still_one_line begun piece one e = ends_begun begun piece piece [] one e

pub nothing_begun : (begun piece : Text) → length begun ≡ 0 → begun ++ piece ≡ piece
nothing_begun [] piece none = refl
nothing_begun (b ∷ begun) piece none = absurd (omega arith)

-- ---- what is reported once a part has come

too_much : {A : Type 0} (too_long : Bool) (long : Fault) (read : Result A Fault) → unless (cond too_long (Some long) None) read ≡ cond too_long (Err long) read
too_much x long read = grind arith

-- nothing has come: the text to come is the whole
pub whole_comes : {A : Type 0} (most : ℕ) (text : Text) (read : Result A Fault) → result_after (nothing_of most) text read ≡ (if nat_lt most (length text) then Err (0, TooLong) else read)
whole_comes most text read = grind (arith, too_much, nat_lt)

-- what is left of a part has begun a line
pub line_begins : {A : Type 0} (t new : TextSoFar) (rest more : Text) (reads : ℕ → Text → Result A Fault) → new ≡ with_begun t rest
    → result_after new more (reads new.line (new.begun ++ more)) ≡ result_after t more (reads t.line (t.begun ++ (rest ++ more)))
line_begins t new rest more reads is = rw (is, append_assoc t.begun rest more) refl

either_way : {A : Type 0} (too_long : Bool) (long : Fault) (earlier : Option Fault) (fault : Fault) (read : Result A Fault) → unless (cond too_long (Some long) (Some (first_fault earlier fault))) read ≡ unless (cond too_long (Some long) earlier) (Err fault)
either_way x long earlier fault read = grind arith

-- a line is at fault, and nothing behind it is read
pub fault_comes : {A : Type 0} (t new : TextSoFar) (fault : Fault) (more : Text) (read : Result A Fault) → new ≡ with_fault t fault → result_after new more read ≡ result_after t more (Err fault)
fault_comes t new fault more read is = rw is (either_way (nat_lt t.most (t.given + length more)) (0, TooLong) t.fault fault read)

-- where nothing is at fault so far, what is read counts
pub reported_end : {A : Type 0} (t : TextSoFar) (read : Result A Fault) → fault_with t [] ≡ None → result_after t [] read ≡ read
reported_end t read sound = rw sound refl

-- a fault that is noted behind a line is that line's
pub noted : (new t : TextSoFar) (kind : TextKind) → new ≡ after_line t → with_fault new (new.line - 1, kind) ≡ with_fault (after_line t) (t.line, kind)
noted new t kind e = grind arith
