use Rattle.std.proofs.Common.{◌≡◌, ◌≢◌, ◌∙◌, ◌<◌, ◌*◌, ◌/◌, ◌+◌, ℕ, length, get_or, rules, subst, ap, sym, arith, inl, inr}
use Rattle.std.proofs.lemmas.Bool.{cases_eq}
use Rattle.std.proofs.lemmas.List.{get_or_read}
use Rattle.thp_links.specs.declared.link.TheConstants.{NIL}
use Rattle.thp_page.specs.Prelude.{Child, Place, block_in}
use Rattle.thp_page.proofs.TreeSteps.{number_inside, below_first, below_next, below_leaf, below_last, IsBelow}
use Rattle.thp_page.proofs.number_trees.NumberTrees.leaf_below.Goals as goal
use Rattle.thp_page.proofs.number_trees.NumberTrees.leaf_below.Goals.{then-index, else-index+then-index-2}

pub loop-depth-init : goal.loop-depth-init
loop-depth-init c = below_first c.args.self.now c.args.place c.requires.inside c.requires.occupied

pub block_at-requires : goal.block_at-requires
block_at-requires c = c.loop-depth.invariant.inside

pub index-requires : goal.index-requires
index-requires c =
    let t = c.args.self.now in
    let k = c.requires.searchable.hung.held c.loop-depth.leaf c.loop-depth.invariant.occupied in
    omega (arith, c.block_at.ensures, number_inside t.numbers.items (block_in t c.loop-depth.leaf) k.number k.numbered, c.requires.searchable.both)

pub index-requires-else-index : goal.index-requires-else-index
index-requires-else-index c =
    let t = c.args.self.now in
    let k = c.requires.searchable.hung.held c.loop-depth.leaf c.loop-depth.invariant.occupied in
    omega (arith, c.block_at.ensures, number_inside t.numbers.items (block_in t c.loop-depth.leaf) k.number k.numbered, c.requires.searchable.both)

pub returns : goal.returns
returns c = below_last c.args.self.now c.args.place c.loop-depth.leaf _ c.requires.searchable.hung c.loop-depth.invariant (omega arith)

pub returns-else-index-2 : goal.returns-else-index-2
returns-else-index-2 c =
    let t = c.args.self.now in
    let xs = t.children.items in
    let k = c.requires.searchable.hung.held c.loop-depth.leaf c.loop-depth.invariant.occupied in
    let inside = number_inside t.numbers.items (block_in t c.loop-depth.leaf) k.number k.numbered in
    let left : ℕ = 2 * c.block_at.result in
    let first : get_or xs left NIL ≡ NIL = sym (get_or_read xs left c.index.result.now (omega (arith, c.block_at.ensures, inside, c.requires.searchable.both)) c.index.ensures NIL) ∙ search rules in
    let second : get_or xs (left + 1) NIL ≡ NIL = sym (get_or_read xs (left + 1) c.index-else-index.result.now (omega (arith, c.block_at.ensures, inside, c.requires.searchable.both)) c.index-else-index.ensures NIL) ∙ search rules in
    below_leaf t c.args.place c.loop-depth.leaf _ c.loop-depth.invariant (λ i of. elim (cases_eq i left) [
      | inl e ↦ ap (λ (n : ℕ). get_or xs n NIL) e ∙ first
      | inr ne ↦ ap (λ (n : ℕ). get_or xs n NIL) (omega (arith, of, ne, c.block_at.ensures)) ∙ second
    ])

pub loop-depth-preserved : goal.loop-depth-preserved
loop-depth-preserved c =
    let t = c.args.self.now in
    let xs = t.children.items in
    let v = c.loop-depth.invariant in
    let k = c.requires.searchable.hung.held c.loop-depth.leaf v.occupied in
    let inside = number_inside t.numbers.items (block_in t c.loop-depth.leaf) k.number k.numbered in
    let left : ℕ = 2 * c.block_at.result in
    let room : left < length xs = omega (arith, c.block_at.ensures, inside, c.requires.searchable.both) in
    let more : left + 1 < length xs = omega (arith, c.block_at.ensures, inside, c.requires.searchable.both) in
    let d : ℕ = c.loop-depth._depth + 1 in
    elim c.if-index.branch [
      | then-index w ↦
          subst (λ (x : Place). IsBelow t c.args.place x d) (sym w.leaf-is)
          (below_next t c.args.place c.loop-depth.leaf c.loop-depth._depth d left v (omega arith) (omega (arith, c.block_at.ensures)) room
          (λ e. w.if-index.true (get_or_read xs left c.index.result.now room c.index.ensures NIL ∙ e)))
      | else-index+then-index-2 w ↦
          subst (λ (x : Place). IsBelow t c.args.place x d) (sym w.leaf-is)
          (below_next t c.args.place c.loop-depth.leaf c.loop-depth._depth d (left + 1) v (omega arith) (omega (arith, c.block_at.ensures)) more
          (λ e. w.if-index-2.true (get_or_read xs (left + 1) w.index-else-index.result.now more w.index-else-index.ensures NIL ∙ e)))
    ]
