use Rattle.std.proofs.Common.{◌≡◌, ◌∙◌, ℕ, ◌&&◌, nat_lt, nat_le, List, ◌+◌, ◌-◌, ◌*◌, ◌/◌, ◌≤◌, set, get_or, refl, rules, subst, arith, bit_and}
use Rattle.thp_history.specs.Prelude.{AreWords}
use Rattle.thp_history.proofs.WordSpans.{Spans, spans_full, full_words, spans_less, spans_but, spans_but_less, spans_cut, spans_from, spans_up_to, spans_all, covers_none, AreWords-less}
use Rattle.thp_history.proofs.WordLemmas.{AreWords-set}
use Rattle.std.proofs.lemmas.Bool.Decides.{nat_tests}
use Rattle.thp_history.proofs.sub_set.SubSet.range.Goals as goal

pub returns-then-count-eq0 : goal.returns-then-count-eq0
returns-then-count-eq0 c = c.empty.ensures ∙ covers_none c.args.first c.args.count c.if-count-eq0.true

-- a range of 512 subpages is all of them
whole_range : (first count i : ℕ) → first + count ≤ 512 → count ≡ 512 → (nat_lt i 512 && nat_le 0 i) ≡ (nat_lt i (first + count) && nat_le first i)
whole_range first count i inside all = grind (arith, nat_tests)

pub returns-then-count : goal.returns-then-count
returns-then-count c =
    spans_all full_words c.args.first c.args.count
    (λ i below. spans_full i below ∙ whole_range c.args.first c.args.count i (omega arith) (omega arith))

pub loop-k-init : goal.loop-k-init
loop-k-init c = record { words = search rules; spans = spans_full }

pub loop-k-preserved : goal.loop-k-preserved
loop-k-preserved c = record {
  words = AreWords-set c.loop-k.words c.loop-k.k 0 c.loop-k.invariant.words (omega arith) (omega arith);
  spans = spans_less c.loop-k.words c.loop-k.k c.loop-k.invariant.words (omega arith) c.loop-k.invariant.spans;
}

pub loop-k-2-init : goal.loop-k-2-init
loop-k-2-init c =
    let start : ℕ = c.args.first / 64 in
    let at : 64 * c.loop-k.k ≡ 64 * start = omega (arith, c.loop-k-test.false, c.loop-k.auto.k-end) in
    record {
      words = c.loop-k.invariant.words;
      spans = spans_but (64 * start) _ c.loop-k.words (subst (λ n. Spans n 512 c.loop-k.words) at c.loop-k.invariant.spans);
    }

pub loop-k-2-preserved : goal.loop-k-2-preserved
loop-k-2-preserved c = record {
  words = AreWords-set c.loop-k-2.words c.loop-k-2.k 0 c.loop-k-2.invariant.words (omega arith) (omega arith);
  spans = spans_but_less c.loop-k-2.words _ _ c.loop-k-2.k c.loop-k-2.invariant.words (omega arith) (omega arith) c.loop-k-2.invariant.spans;
}

pub returns : goal.returns
returns c =
    let end : ℕ = c.args.first + c.args.count in
    let start : ℕ = c.args.first / 64 in
    let last : ℕ = (end - 1) / 64 in
    let spans : Spans (64 * start) (64 * (last + 1)) c.loop-k-2.words = spans_cut _ _ c.loop-k-2.k c.loop-k-2.words (omega arith) c.loop-k-2.invariant.spans in
    let from : List ℕ = set c.loop-k-2.words start (bit_and (get_or c.loop-k-2.words start 0) (18446744073709551615 - c.word_below.result)) in
    let words : AreWords from = AreWords-less c.loop-k-2.words start _ c.loop-k-2.invariant.words (omega arith) in
    spans_all _ c.args.first c.args.count
    (spans_up_to from c.args.first end last (last + 1) c.word_below-2.result
    words (omega arith) (omega arith) refl (omega arith) c.word_below-2.ensures
    (spans_from c.loop-k-2.words c.args.first _ start c.word_below.result
    c.loop-k-2.invariant.words (omega arith) refl c.word_below.ensures (omega arith) spans))
