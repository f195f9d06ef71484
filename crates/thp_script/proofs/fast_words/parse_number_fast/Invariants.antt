use Rattle.std.proofs.Common.{length}
use Rattle.thp_script.proofs.FastParsingLaws.{FastDigits}
use Rattle.thp_script.proofs.fast_words.parse_number_fast.Given as goal

abbrev pub decreases-loop-rest : goal.decreases-loop-rest
decreases-loop-rest l = length l.rest

-- the digits so far write the value
abbrev pub invariant-loop-rest : goal.invariant-loop-rest
invariant-loop-rest l = FastDigits l.text l.value l.rest
