use Rattle.std.proofs.Common.{◌≡◌, ◌∙◌, ℕ, List, Option, length, replicate, ap, refl, arith}
use Rattle.std.proofs.lemmas.List.{length-replicate}
use Rattle.thp_links.specs.declared.link.TheConstants.{NIL}
use Rattle.thp_page.proofs.TreeSteps.{new_trees}
use Rattle.thp_page.proofs.number_trees.NumberTrees.new.Goals as goal

pub returns-clause-searchable : goal.returns-clause-searchable
returns-clause-searchable c =
    let end : c.loop-bucket._bucket ≡ 8192 = omega arith in
    let roots : c.loop-bucket.roots.items ≡ replicate 8192 NIL = c.loop-bucket.invariant.none ∙ ap (λ (n : ℕ). replicate n NIL) end in
    new_trees _ c.in_ok-with_capacity.ensures.items c.in_ok-with_capacity-2.ensures.items roots (ap (λ (xs : List ℕ). length xs) roots ∙ length-replicate 8192 NIL) refl refl
