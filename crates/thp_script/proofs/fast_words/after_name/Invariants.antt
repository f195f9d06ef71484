use Rattle.std.proofs.Common.{◌≡◌, ◌<◌, ℕ, get_or}
use Rattle.thp_script.proofs.fast_words.after_name.Given as goal

-- the bytes so far are the name's
abbrev pub invariant-loop-k : goal.invariant-loop-k
invariant-loop-k l = (i : ℕ) → i < l.k → get_or l.text i 0 ≡ get_or l.name i 0
