use Rattle.std.proofs.Common.{◌≡◌, ◌+◌, ◌*◌, ◌<◌, ◌^◌, ℕ, Bool, List, Some, true, false, length, get_or, ap, sym, ◌∙◌, subst, arith, slice_get}
use Rattle.std.specs.Int.{w64, trailing_zeros}
use Rattle.std.proofs.lemmas.Option.{get_or_from_slice_get}
use Rattle.std.proofs.lemmas.Nat.Bits.{bit_at-trailing_zeros}
use Rattle.thp_history.specs.Prelude.{in_words}
use Rattle.thp_live_pages.specs.FreeSets.{Sums}
use Rattle.thp_live_pages.proofs.FreeWords.{in-lowest}
use Rattle.thp_live_pages.proofs.Summing.{summed_word, passed_words, no_words}
use Rattle.thp_live_pages.proofs.summed_set.SummedSetLeastSet.least.Goals as goal

-- the word that the summary names shows the least number
found : (ws : List ℕ) (f : ℕ → Bool) (room at w : ℕ) → Sums ws f room → f at ≡ true → ((j : ℕ) → j < at → f j ≡ false) → slice_get ws at ≡ Some w → w < 2 ^ 64 →
    (in_words ws (64 * at + trailing_zeros w64 w) ≡ true) × ((k : ℕ) → k < 64 * at + trailing_zeros w64 w → in_words ws k ≡ false) × (64 * at + trailing_zeros w64 w < 2 ^ 32)
found ws f room at w s there least read fits =
    let same : get_or ws at 0 ≡ w = get_or_from_slice_get ws at w 0 read in
    let P : ℕ → Type 0 = λ v. (in_words ws (64 * at + trailing_zeros w64 v) ≡ true) × ((k : ℕ) → k < 64 * at + trailing_zeros w64 v → in_words ws k ≡ false) in
    let named = summed_word ws f room at s there in
    let both : P w = subst P same (in-lowest ws at named.1 (omega (arith, same, fits)) (passed_words ws f room at s least)) in
    let low = (bit_at-trailing_zeros w64 w (omega (arith, named.1, same)) fits).0 in
    (both.0, both.1, omega (arith, named.0, s.few, low))

pub overflow_add-result : goal.overflow_add-result
overflow_add-result g c = omega (arith, (found c.self.inside.words (g.S.LeastSet.has c.self.inside.summary) (g.S.LeastSet.room c.self.inside.summary) c.in-Some.at c.at.result c.self.invariant c.in-Some.ensures.there c.in-Some.ensures.least c.at.ensures (omega arith)).2)

pub returns-in-Some-clause-there : goal.returns-in-Some-clause-there
returns-in-Some-clause-there g c =
    subst (λ (ws : List ℕ). in_words ws (64 * c.in-Some.at + trailing_zeros w64 c.at.result) ≡ true) c.self.view_is
    (found c.self.inside.words (g.S.LeastSet.has c.self.inside.summary) (g.S.LeastSet.room c.self.inside.summary) c.in-Some.at c.at.result c.self.invariant c.in-Some.ensures.there c.in-Some.ensures.least c.at.ensures (omega arith)).0

pub returns-in-Some-clause-least : goal.returns-in-Some-clause-least
returns-in-Some-clause-least g c =
    subst (λ (ws : List ℕ). (k : ℕ) → k < 64 * c.in-Some.at + trailing_zeros w64 c.at.result → in_words ws k ≡ false) c.self.view_is
    (found c.self.inside.words (g.S.LeastSet.has c.self.inside.summary) (g.S.LeastSet.room c.self.inside.summary) c.in-Some.at c.at.result c.self.invariant c.in-Some.ensures.there c.in-Some.ensures.least c.at.ensures (omega arith)).1

pub returns-in-None-clause-none : goal.returns-in-None-clause-none
returns-in-None-clause-none g c = λ k.
    ap (λ (ws : List ℕ). in_words ws k) (sym c.self.view_is) ∙ no_words c.self.inside.words (g.S.LeastSet.has c.self.inside.summary) (g.S.LeastSet.room c.self.inside.summary) c.self.invariant c.in-None.ensures.none k
