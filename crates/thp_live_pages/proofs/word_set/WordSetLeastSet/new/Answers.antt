use Rattle.std.proofs.Common.{ap, ◌∙◌, List, ℕ}
use Rattle.thp_history.specs.Prelude.{in_words}
use Rattle.thp_live_pages.proofs.FreeWords.{in-zeros}
use Rattle.thp_live_pages.proofs.word_set.WordSetLeastSet.new.Goals as goal

pub returns-clause-none : goal.returns-clause-none
returns-clause-none c = λ i. ap (λ (xs : List ℕ). in_words xs i) (c.in_ok-words.ensures.items_if_clones_equal (λ y e. e)) ∙ in-zeros c.div_ceil.result i
