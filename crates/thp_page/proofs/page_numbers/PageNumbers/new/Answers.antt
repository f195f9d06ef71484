use Rattle.std.proofs.Common.{ℕ, List, Option, None, ap}
use Rattle.thp_page.specs.Prelude.{padded}
use Rattle.thp_page.proofs.page_numbers.PageNumbers.new.Goals as goal

pub invariant_of-result : goal.invariant_of-result
invariant_of-result c = (c.in_ok-new.ensures.searchable, c.in_ok-new.ensures.room)

pub returns : goal.returns
returns c = ap (λ (os : List (Option ℕ)). padded c.args.blocks None os) c.in_ok-new.ensures.empty
