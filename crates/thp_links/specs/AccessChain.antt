-- The view that contracts have of an `AccessCount`.
use Rattle.std.specs.Prelude.{ℕ, suc}
use Rattle.thp_links.specs.declared.access_count.AccessChain.{AccessChain}
use Rattle.thp_links.specs.declared.access_count.AccessChain.TheVariants.{Start, Next'}

-- the number of steps
abbrev pub step_count : AccessChain → ℕ
step_count Start = 0
step_count (Next' shape before) = suc (step_count before)
