use Rattle.std.proofs.Common.{◌≡◌, ℕ, ◌<◌, ◌/◌, false}
use Rattle.thp_history.specs.Prelude.{in_words}
use Rattle.thp_live_pages.proofs.word_set.WordSetLeastSet.least.Given as goal

-- no block in the words passed
abbrev pub invariant-loop-at : goal.invariant-loop-at
invariant-loop-at l = (k : ℕ) → k / 64 < l.at → in_words l.self k ≡ false
