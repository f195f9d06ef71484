use Rattle.std.proofs.Common.{◌≡◌, ◌≢◌, ◌∙◌, ℕ, Option, None, set, ap, sym, refl, subst, arith}
use Rattle.thp_page.specs.Prelude.{IsTakenOver, NumberTrees, block_in}
use Rattle.thp_page.proofs.TreeSteps.{set_alike, own_outside, cleared_leaf, cleared_inner}
use Rattle.thp_page.proofs.number_trees.NumberTrees.clear.Goals as goal
use Rattle.thp_page.proofs.number_trees.NumberTrees.clear.Goals.{then-leaf-block, else-leaf-block}

pub replace-requires-clause-outside : goal.replace-requires-clause-outside
replace-requires-clause-outside c i at =
    let out = own_outside c.args.self.now c.args.block c.args.id c.place_of-place.result c.leaf_below-end.result c.requires.searchable c.requires.taken c.place_of-place.ensures c.leaf_below-end.ensures i at in
    (out.0, λ e. out.1 (e ∙ c.block_at-leaf.ensures))

pub returns-clause-searchable : goal.returns-clause-searchable
returns-clause-searchable c =
    let t = c.args.self.now in
    let b = c.args.block in
    let p = c.place_of-place.result in
    let q = c.leaf_below-end.result in
    let r = c.set.ensures in
    let at = c.block_at-leaf.ensures in
    elim c.if-leaf-block.branch [
      | then-leaf-block w ↦ (
          let o : IsTakenOver c.set.new.self w.replace.new.self p b (block_in t q) = subst (λ (l : ℕ). IsTakenOver c.set.new.self w.replace.new.self p b l) at w.replace.ensures in
          cleared_inner t c.set.new.self w.replace.new.self _ b c.args.id p q c.requires.searchable c.requires.taken c.place_of-place.ensures c.leaf_below-end.ensures r
          (λ e. w.if-leaf-block.true (at ∙ e)) o
          (ap (λ (x : NumberTrees). set x.numbers.items b None) w.self-is ∙ set_alike t w.replace.new.self b None (o.numbers ∙ r.numbers))
          (ap (λ (x : NumberTrees). x.children.items) w.self-is) (ap (λ (x : NumberTrees). x.roots.items) w.self-is)
          (ap (λ (x : NumberTrees). x.bits) w.self-is) (ap (λ (x : NumberTrees). x.mask) w.self-is))
      | else-leaf-block w ↦
          cleared_leaf t c.set.new.self _ b c.args.id p q c.requires.searchable c.requires.taken c.leaf_below-end.ensures (sym at ∙ w.if-leaf-block.false) r
          (ap (λ (x : NumberTrees). set x.numbers.items b None) w.self-is ∙ set_alike t c.set.new.self b None r.numbers)
          (ap (λ (x : NumberTrees). x.children.items) w.self-is) (ap (λ (x : NumberTrees). x.roots.items) w.self-is)
          (ap (λ (x : NumberTrees). x.bits) w.self-is) (ap (λ (x : NumberTrees). x.mask) w.self-is)
    ]
