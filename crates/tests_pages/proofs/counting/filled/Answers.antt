-- Each index is above those that were pushed before it.
use Rattle.std.proofs.Common.{◌≡◌, ℕ, ◌+◌, ◌<◌, List, [], ◌∷◌, ◌++◌, length, Contains, ap, sym, subst, inl, inr, ◌∙◌, arith}
use Rattle.std.proofs.lemmas.Bool.{cases_eq}
use Rattle.std.proofs.lemmas.List.Elements.{Contains-append_left, Contains-push, Contains-push_cases}
use Rattle.thp_links.specs.declared.link.Link.{Link}
use Rattle.tests_pages.proofs.counting.filled.Goals as goal

-- after a push of n to indices below n all are below n + 1
below_more : (n : ℕ) (xs ys : List ℕ) → ys ≡ xs ++ n ∷ [] → ((j : ℕ) → Contains xs j → j < n) → (j : ℕ) → Contains ys j → j < n + 1
below_more n xs ys is below j m = elim (Contains-push_cases xs n j (subst (λ (zs : List ℕ). Contains zs j) is m)) [
  | inl k ↦ let less : j < n = below j k in omega arith
  | inr e ↦ let same : n ≡ j = e in omega arith
]

-- after a push of n to all indices below n all below n + 1 are there
all_more : (n : ℕ) (xs ys : List ℕ) → ys ≡ xs ++ n ∷ [] → ((j : ℕ) → j < n → Contains xs j) → (j : ℕ) → j < n + 1 → Contains ys j
all_more n xs ys is all j less = subst (λ (zs : List ℕ). Contains zs j) (sym is) (elim (cases_eq n j) [
  | inl e ↦ subst (λ (k : ℕ). Contains (xs ++ n ∷ []) k) e (Contains-push xs n)
  | inr ne ↦ Contains-append_left xs (n ∷ []) j (all j (omega (arith, ne)))
])

pub push_back-requires-clause-absent : goal.push_back-requires-clause-absent
push_back-requires-clause-absent g c m =
    let i = c.loop-i.i in
    let itself : i < i = c.loop-i.invariant.below i m in
    omega arith

pub loop-i-preserved : goal.loop-i-preserved
loop-i-preserved g c =
    let i = c.loop-i.i in
    let list = c.push_back.ensures.list in
    let pairs = ap (λ t. g.T.LinkTable.links t.table) c.spent.ensures in
    record {
      size = ap (λ (ls : List Link). length ls) pairs ∙ c.push_back.ensures.outside.same_length ∙ c.loop-i.invariant.size;
      stands = rw pairs c.push_back.ensures.stands;
      below = below_more i c.loop-i.queue _ list c.loop-i.invariant.below;
      all = all_more i c.loop-i.queue _ list c.loop-i.invariant.all;
    }
