use Rattle.std.proofs.Common.{◌∙◌, ◌/◌, ◌%◌, List, ℕ, cond, nat_eq, true, ap, sym, subst, arith}
use Rattle.std.proofs.lemmas.Option.{get_or_from_slice_get, slice_get_within}
use Rattle.thp_history.specs.Prelude.{in_words}
use Rattle.thp_live_pages.specs.FreeSets.{Sums}
use Rattle.thp_live_pages.proofs.Summing.{with_bit, sums_kept, words_with}
use Rattle.thp_live_pages.proofs.summed_set.SummedSetLeastSet.insert.Goals as goal

pub invariant_of-self-else-word-eq0 : goal.invariant_of-self-else-word-eq0
invariant_of-self-else-word-eq0 g c =
    let ws : List ℕ = c.self.inside.words in
    let f = g.S.LeastSet.has c.self.inside.summary in
    let room = g.S.LeastSet.room c.self.inside.summary in
    let at = c.args.i / 64 in
    let word = get_or_from_slice_get ws at c.at-word.result 0 c.at-word.ensures in
    subst (λ (vs : List ℕ). Sums vs f room) (sym c.set.ensures)
    (sums_kept ws at c.at-word.result _ room f c.self.invariant (slice_get_within ws at c.at-word.result c.at-word.ensures) word c.if-word-eq0.false (with_bit c.at-word.result (c.args.i % 64) (omega arith)))

pub returns-then-word-eq0-clause-with_it : goal.returns-then-word-eq0-clause-with_it
returns-then-word-eq0-clause-with_it g c = λ k.
    words_with c.self.inside.words c.set.new.self c.args.i c.at-word.result k c.at-word.ensures c.set.ensures
    ∙ ap (λ (ws : List ℕ). cond (nat_eq k c.args.i) true (in_words ws k)) c.self.view_is

pub returns-else-word-eq0-clause-with_it : goal.returns-else-word-eq0-clause-with_it
returns-else-word-eq0-clause-with_it g c = λ k.
    words_with c.self.inside.words c.set.new.self c.args.i c.at-word.result k c.at-word.ensures c.set.ensures
    ∙ ap (λ (ws : List ℕ). cond (nat_eq k c.args.i) true (in_words ws k)) c.self.view_is
