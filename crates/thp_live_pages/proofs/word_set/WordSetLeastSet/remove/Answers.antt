use Rattle.std.proofs.Common.{◌≡◌, ℕ, ◌<◌, ◌*◌, ◌/◌, ◌%◌, ◌^◌, false, cond, nat_eq, length, set, arith, ap, subst, sym, ◌∙◌, List, bit_and}
use Rattle.std.specs.Int.{w64, bit_not}
use Rattle.std.proofs.lemmas.List.{get_or_default}
use Rattle.thp_history.specs.Prelude.{in_words}
use Rattle.thp_live_pages.proofs.FreeWords.{in-without}
use Rattle.thp_live_pages.proofs.word_set.WordSetLeastSet.remove.Goals as goal

pub returns-clause-without_it : goal.returns-clause-without_it
returns-clause-without_it c = λ b.
    let ws : List ℕ = c.self.inside.words.items in
    let same : ws ≡ c.args.self.now = c.self.view_is in
    let inside : c.args.i / 64 < length ws = omega (arith, ap length same) in
    let P : ℕ → Type 0 = λ w. in_words (set ws (c.args.i / 64) (bit_and w (bit_not w64 (1 * 2 ^ (c.args.i % 64) % 2 ^ 64)))) b ≡ cond (nat_eq b c.args.i) false (in_words ws b) in
    subst P (sym (c.index_mut.ensures.value ∙ get_or_default ws (c.args.i / 64) c.index_mut.result.now 0 inside)) (in-without ws c.args.i b inside)
    ∙ ap (λ us. cond (nat_eq b c.args.i) false (in_words us b)) same
