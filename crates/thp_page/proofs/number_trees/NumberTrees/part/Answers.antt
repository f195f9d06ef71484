use Rattle.std.proofs.Common.{◌≡◌, ◌∙◌, ◌+◌, ◌*◌, ◌++◌, ◌∷◌, [], ℕ, length, set, get_or, ap, refl, arith}
use Rattle.std.proofs.lemmas.List.{get_or_read}
use Rattle.thp_links.specs.declared.link.TheConstants.{NIL}
use Rattle.thp_page.proofs.SplitSteps.{parts}
use Rattle.thp_page.proofs.number_trees.NumberTrees.part.Goals as goal

pub returns : goal.returns
returns c =
    let t = c.args.self.now in
    let xs = t.children.items in
    let b = c.args.root in
    let v = c.index.result.now in
    let w = c.index-right.result.now in
    let left : v ≡ get_or xs (2 * b) NIL = get_or_read xs (2 * b) v (omega (arith, c.requires.both, c.requires.root)) c.index.ensures NIL in
    let right : w ≡ get_or xs (2 * b + 1) NIL = get_or_read xs (2 * b + 1) w (omega (arith, c.requires.both, c.requires.root)) c.index-right.ensures NIL in
    parts t _ c.args.bucket b v w c.requires.bucket c.requires.root c.requires.both left right refl refl refl refl c.push_reserved.ensures.items refl c.push_reserved.ensures.capacity
