use Rattle.std.proofs.Common.{◌≡◌, ◌∙◌, ◌<◌, ◌^◌, ℕ, Option, Some, set, ap, refl, arith}
use Rattle.thp_page.proofs.TreeSteps.{set_alike, placed}
use Rattle.thp_page.proofs.number_trees.NumberTrees.place.Goals as goal

pub returns-clause-searchable : goal.returns-clause-searchable
returns-clause-searchable c =
    let small : c.args.id < 2 ^ 64 = omega arith in
    placed c.args.self.now c.set.new.self _ c.args.block c.args.id c.place_of-place.result c.requires.searchable c.requires.inside c.requires.empty c.requires.new small c.place_of-place.ensures c.set.ensures
    (set_alike c.args.self.now c.set.new.self c.args.block (Some c.args.id) c.set.ensures.numbers) refl refl refl refl
