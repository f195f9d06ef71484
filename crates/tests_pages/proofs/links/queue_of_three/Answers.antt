-- Each index differs from those that were pushed before it.
use Rattle.std.proofs.Common.{◌≡◌, ◌≢◌, ℕ, List, [], ◌∷◌, ◌++◌, Contains, subst, inl, inr, ap, ◌∙◌, arith}
use Rattle.std.proofs.lemmas.List.Elements.{Contains-push_cases}
use Rattle.thp_links.proofs.Members.{Contains-nil}
use Rattle.tests_pages.proofs.links.queue_of_three.Goals as goal

-- an index that isn't in a list isn't there after a push of another
absent_after : (xs ys : List ℕ) (n i : ℕ) → ys ≡ xs ++ n ∷ [] → n ≢ i → (Contains xs i → ⊥) → Contains ys i → ⊥
absent_after xs ys n i is differ out m = elim (Contains-push_cases xs n i (subst (λ (zs : List ℕ). Contains zs i) is m)) [
  | inl k ↦ out k
  | inr e ↦ differ e
]

absent_first : (xs : List ℕ) (i : ℕ) → xs ≡ [] → Contains xs i → ⊥
absent_first xs i is m = Contains-nil i (subst (λ (zs : List ℕ). Contains zs i) is m)

pub push_back-requires-2-clause-absent : goal.push_back-requires-2-clause-absent
push_back-requires-2-clause-absent c =
    absent_after _ _ 2 0 c.push_back.ensures.list (λ e. omega arith) (absent_first _ 0 c.new-queue.ensures)

pub push_back-requires-3-clause-absent : goal.push_back-requires-3-clause-absent
push_back-requires-3-clause-absent c =
    absent_after _ _ 0 3 c.push_back-2.ensures.list (λ e. omega arith)
    (absent_after _ _ 2 3 c.push_back.ensures.list (λ e. omega arith) (absent_first _ 3 c.new-queue.ensures))

pub returns-clause-list : goal.returns-clause-list
returns-clause-list c =
    c.push_back-3.ensures.list
    ∙ ap (λ (q : List ℕ). q ++ 3 ∷ []) (c.push_back-2.ensures.list
    ∙ ap (λ (q : List ℕ). q ++ 0 ∷ []) (c.push_back.ensures.list
    ∙ ap (λ (q : List ℕ). q ++ 2 ∷ []) c.new-queue.ensures))
