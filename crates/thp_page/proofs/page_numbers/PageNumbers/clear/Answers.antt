use Rattle.std.proofs.Common.{◌≡◌, ◌∙◌, ℕ, List, Option, None, Some, get_or, set, ap, sym}
use Rattle.thp_page.specs.Prelude.{padded}
use Rattle.thp_page.proofs.Paddings.{padded-set}
use Rattle.thp_page.proofs.TreeSteps.{number_inside}
use Rattle.thp_page.proofs.PaddedNumbers.{number_seen}
use Rattle.thp_page.proofs.page_numbers.PageNumbers.clear.Goals as goal

pub clear-requires-clause-taken : goal.clear-requires-clause-taken
clear-requires-clause-taken c = number_seen c.self.inside.blocks c.self.inside.trees.numbers.items c.args.self.now c.args.block c.self.view_is ∙ sym c.at.ensures ∙ c.in-Some.is

pub invariant_of-self : goal.invariant_of-self
invariant_of-self c = (c.clear.ensures.searchable, c.clear.ensures.room c.self.inside.blocks c.self.invariant.1)

pub returns : goal.returns
returns c =
    let ns = c.self.inside.trees.numbers.items in
    let b = c.args.block in
    let taken : get_or ns b None ≡ Some c.in-Some.id = number_seen c.self.inside.blocks ns c.args.self.now b c.self.view_is ∙ sym c.at.ensures ∙ c.in-Some.is in
    ap (λ (os : List (Option ℕ)). padded c.self.inside.blocks None os) c.clear.ensures.numbers ∙ padded-set None c.self.inside.blocks ns b None (number_inside ns b c.in-Some.id taken) ∙ ap (λ (os : List (Option ℕ)). set os b None) c.self.view_is
