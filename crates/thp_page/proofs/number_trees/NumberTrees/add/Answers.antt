use Rattle.std.proofs.Common.{◌∙◌, ◌+◌, ◌++◌, ◌∷◌, [], ℕ, List, Option, None, length, ap, refl, arith, length-append}
use Rattle.thp_links.specs.declared.link.TheConstants.{NIL}
use Rattle.thp_page.proofs.TreeSteps.{pushed}
use Rattle.thp_page.proofs.number_trees.NumberTrees.add.Goals as goal

pub returns-clause-searchable : goal.returns-clause-searchable
returns-clause-searchable c =
    let t = c.args.self.now in
    let nums = c.push_reserved.ensures.items in
    let children = c.push_reserved-3.ensures.items ∙ ap (λ (xs : List ℕ). xs ++ NIL ∷ []) c.push_reserved-2.ensures.items in
    pushed t _ c.requires.searchable (omega (arith, c.requires.fewer, c.requires.room.small)) nums children refl refl refl
    (ap (λ (ns : List (Option ℕ)). length ns) nums ∙ length-append t.numbers.items (None ∷ []))
    (ap (λ (xs : List ℕ). length xs) children ∙ length-append (t.children.items ++ NIL ∷ []) (NIL ∷ []) ∙ ap (λ (n : ℕ). n + 1) (length-append t.children.items (NIL ∷ [])) ∙ omega arith)
