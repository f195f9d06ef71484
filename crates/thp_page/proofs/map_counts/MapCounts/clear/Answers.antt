use Rattle.std.proofs.Common.{◌∙◌, arith}
use Rattle.thp_page.proofs.Seen.{none_counted, none_mapped}
use Rattle.thp_page.proofs.map_counts.MapCounts.clear.Goals as goal

pub invariant_of-self : goal.invariant_of-self
invariant_of-self c = record { most = omega arith; mapped = c.empty-self-inside.ensures ∙ none_mapped _ }

pub returns : goal.returns
returns c = none_counted _
