use Rattle.std.proofs.Common.{◌≡◌, ◌≢◌, ◌∙◌, ◌<◌, ℕ, length, None, Some, ap, sym, arith, rules}
use Rattle.std.proofs.lemmas.List.{get_or_read}
use Rattle.thp_links.specs.declared.link.TheConstants.{NIL}
use Rattle.thp_page.specs.Prelude.{Root, block_in, number_at}
use Rattle.thp_page.proofs.TreeSteps.{number_inside, root_absent}
use Rattle.thp_page.proofs.number_trees.NumberTrees.block_of.Goals as goal

pub returns-then-root-clause-absent : goal.returns-then-root-clause-absent
returns-then-root-clause-absent c =
    let t = c.args.self.now in
    let j = c.bucket_of.result in
    root_absent t c.args.id j c.requires.hung c.bucket_of.ensures.value
    (sym (get_or_read t.roots.items j c.index-root.result.now c.bucket_of.ensures.inside c.index-root.ensures NIL) ∙ c.if-root.true)

pub index-requires : goal.index-requires
index-requires c =
    let t = c.args.self.now in
    let j = c.bucket_of.result in
    let at = get_or_read t.roots.items j c.index-root.result.now c.bucket_of.ensures.inside c.index-root.ensures NIL in
    let k = c.requires.hung.held (Root j) (λ z. c.if-root.false (at ∙ z)) in
    omega (arith, at, number_inside t.numbers.items (block_in t (Root j)) k.number k.numbered)

pub returns-then-eq-clause-found : goal.returns-then-eq-clause-found
returns-then-eq-clause-found c =
    let t = c.args.self.now in
    let j = c.bucket_of.result in
    let at = get_or_read t.roots.items j c.index-root.result.now c.bucket_of.ensures.inside c.index-root.ensures NIL in
    let k = c.requires.hung.held (Root j) (λ z. c.if-root.false (at ∙ z)) in
    let inside : c.index-root.result.now < length t.numbers.items = omega (arith, at, number_inside t.numbers.items (block_in t (Root j)) k.number k.numbered) in
    sym (get_or_read t.numbers.items c.index-root.result.now c.index.result.now inside c.index.ensures None) ∙ search rules
