use Rattle.std.proofs.Common.{◌≡◌, ℕ, ◌+◌, ◌*◌, ◌<◌, ◌/◌, ◌∙◌, ◌^◌, true, false, List, length, get_or, sym, ap, subst, arith, ◌≤◌, inl, inr}
use Rattle.std.proofs.lemmas.Bool.{cases_lt}
use Rattle.std.specs.Int.{w64, trailing_zeros}
use Rattle.thp_history.specs.Prelude.{in_words}
use Rattle.thp_live_pages.proofs.FreeWords.{in-passed, in-lowest, in-past}
use Rattle.thp_live_pages.proofs.word_set.WordSetLeastSet.least.Goals as goal

-- the first word with a bit shows the least block, in words that are the set's
lowest_of : (ws vs : List ℕ) (at : ℕ) → vs ≡ ws → (get_or vs at 0 ≡ 0 → ⊥) → get_or vs at 0 < 2 ^ 64 → ((k : ℕ) → k / 64 < at → in_words ws k ≡ false) →
    (in_words ws (64 * at + trailing_zeros w64 (get_or vs at 0)) ≡ true) × ((k : ℕ) → k < 64 * at + trailing_zeros w64 (get_or vs at 0) → in_words ws k ≡ false)
lowest_of ws vs at e some fits f =
    let same : get_or vs at 0 ≡ get_or ws at 0 = ap (λ (xs : List ℕ). get_or xs at 0) e in
    let P : ℕ → Type 0 = λ w. (in_words ws (64 * at + trailing_zeros w64 w) ≡ true) × ((k : ℕ) → k < 64 * at + trailing_zeros w64 w → in_words ws k ≡ false) in
    subst P (sym same) (in-lowest ws at (omega (arith, some)) (omega arith) f)

pub returns-then-word-ne0-clause-there : goal.returns-then-word-ne0-clause-there
returns-then-word-ne0-clause-there c = (lowest_of c.args.self.now c.deref-word-items.result.now c.loop-at.at (c.deref-word-items.ensures.value ∙ c.self.view_is) c.if-word-ne0.true (omega arith) c.loop-at.invariant).0

pub returns-then-word-ne0-clause-least : goal.returns-then-word-ne0-clause-least
returns-then-word-ne0-clause-least c = (lowest_of c.args.self.now c.deref-word-items.result.now c.loop-at.at (c.deref-word-items.ensures.value ∙ c.self.view_is) c.if-word-ne0.true (omega arith) c.loop-at.invariant).1

pub loop-at-preserved : goal.loop-at-preserved
loop-at-preserved c = in-passed c.args.self.now c.loop-at.at (ap (λ (xs : List ℕ). get_or xs c.loop-at.at 0) (sym (c.deref-word-items.ensures.value ∙ c.self.view_is)) ∙ c.if-word-ne0.false) c.loop-at.invariant

pub returns-clause-none : goal.returns-clause-none
returns-clause-none c = λ k.
    let all : length c.args.self.now ≤ c.loop-at.at = omega (arith, ap length (c.deref-word-items.ensures.value ∙ c.self.view_is)) in
    elim (cases_lt (k / 64) c.loop-at.at) [
      | inl l ↦ c.loop-at.invariant k l
      | inr g ↦ in-past c.args.self.now k (omega arith)
    ]
