use Rattle.std.proofs.Common.{◌∙◌, List, ℕ, cond, nat_eq, false, ap}
use Rattle.thp_history.specs.Prelude.{in_words}
use Rattle.thp_live_pages.proofs.Summing.{words_without}
use Rattle.thp_live_pages.proofs.summed_set.SummedSetLeastSet.remove.Goals as goal

pub returns-then-word-eq0-clause-without_it : goal.returns-then-word-eq0-clause-without_it
returns-then-word-eq0-clause-without_it g c = λ k.
    words_without c.self.inside.words c.set.new.self c.args.i c.at.result k c.at.ensures c.set.ensures
    ∙ ap (λ (ws : List ℕ). cond (nat_eq k c.args.i) false (in_words ws k)) c.self.view_is

pub returns-else-word-eq0-clause-without_it : goal.returns-else-word-eq0-clause-without_it
returns-else-word-eq0-clause-without_it g c = λ k.
    words_without c.self.inside.words c.set.new.self c.args.i c.at.result k c.at.ensures c.set.ensures
    ∙ ap (λ (ws : List ℕ). cond (nat_eq k c.args.i) false (in_words ws k)) c.self.view_is
