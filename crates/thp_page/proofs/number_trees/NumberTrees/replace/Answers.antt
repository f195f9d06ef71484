use Rattle.std.proofs.Common.{◌≡◌, ◌≢◌, ◌∙◌, ◌<◌, ◌*◌, ◌+◌, ℕ, length, set, get_or, ap, sym, refl, arith, length-set}
use Rattle.std.proofs.lemmas.List.{get_or_read, get_or-set_other}
use Rattle.thp_links.specs.declared.link.TheConstants.{NIL}
use Rattle.thp_page.proofs.TreeSteps.{took_over}
use Rattle.thp_page.proofs.number_trees.NumberTrees.replace.Goals as goal

pub returns : goal.returns
returns c =
    let t = c.args.self.now in
    let xs = t.children.items in
    let b = c.args.block in
    let d = c.args.other in
    let v = c.index.result.now in
    let w = c.index-2.result.now in
    let left : v ≡ get_or xs (2 * b) NIL = get_or_read xs (2 * b) v (omega (arith, c.requires.searchable, c.requires.block)) c.index.ensures NIL in
    let right : w ≡ get_or xs (2 * b + 1) NIL =
    get_or_read (set xs (2 * d) v) (2 * b + 1) w (omega (arith, c.requires.searchable, c.requires.block, length-set xs (2 * d) v)) c.index-2.ensures NIL
    ∙ get_or-set_other xs (2 * d) (2 * b + 1) v NIL (λ e. absurd (omega (arith, e))) in
    took_over t _ c.set.new.self c.args.place b d v w c.requires.searchable c.requires.block c.requires.other c.requires.apart c.requires.outside left right refl refl refl refl refl refl refl c.set.ensures
