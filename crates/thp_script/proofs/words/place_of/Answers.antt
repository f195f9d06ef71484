use Rattle.std.proofs.Common.{◌≡◌, ◌==◌, ℕ, Option, Some, None, length, refl, arith}
use Rattle.std.specs.List.{position, position_or_len}
use Rattle.std.proofs.lemmas.Bool.{false_from_ne_true, le-ltb, lt-ltb}
use Rattle.std.proofs.lemmas.List.Sums.{position_or_len_is}
use Rattle.memchr.specs.Find.{IsFirstByte, is_byte}
use Rattle.thp_script.specs.Prelude.{Text}
use Rattle.thp_script.proofs.words.place_of.Goals as goal

-- the first byte that is this one stands at the first position
first_place : (byte : ℕ) (text : Text) (found : Option ℕ) → IsFirstByte (is_byte byte) text found → found ≡ position (λ b. b == byte) text
first_place byte text (Some place) first =
    let at : position_or_len (λ b. b == byte) text ≡ place = position_or_len_is (λ b. b == byte) text place 0 (omega (arith, first.0.high)) (λ k lt. false_from_ne_true _ (first.0.before k (omega arith) lt)) (λ lt. first.1) in
    rw (at, lt-ltb place (length text) first.0.high) refl
first_place byte text None nowhere =
    let at : position_or_len (λ b. b == byte) text ≡ length text = position_or_len_is (λ b. b == byte) text (length text) 0 (omega arith) (λ k lt. false_from_ne_true _ (nowhere k (omega arith) lt)) (λ lt. absurd (omega (arith, lt))) in
    rw (at, le-ltb (length text) (length text) (omega arith)) refl

pub returns-then-byte-eq10 : goal.returns-then-byte-eq10
returns-then-byte-eq10 c = first_place c.args.byte c.args.text.now c.memchr.result c.memchr.ensures
