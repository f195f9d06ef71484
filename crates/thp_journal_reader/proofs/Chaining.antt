-- The chain of a page's allocations: it stays, grows and is walked along.
use Rattle.std.proofs.Common.{◌≡◌, ◌≢◌, ℕ, ◌+◌, ◌-◌, ◌<◌, ◌≤◌, cond, List, [], ◌∷◌, ◌++◌, length, set, get_or, refl, ap, sym, ◌∙◌, subst, arith, inl, inr, nat_eq, eq-eqb, ne_eqb, length-set, length-append, zero-add, Option, Some, None, slice_get, count_by, get_or-set_same, get_or-set_other}
use Rattle.std.proofs.lemmas.Option.{slice_get_within, slice_get-get_or}
use Rattle.std.proofs.lemmas.Bool.Decides.{eqb_tells}
use Rattle.thp_history.proofs.Counting.{count-cons}
use Rattle.thp_journal_reader.specs.declared.page_blocks.Allocation.{Allocation}
use Rattle.thp_journal_reader.specs.Chains.{IsAllocationChain, IsCovered, IsWalked, chain_place}
use Rattle.thp_live_pages.proofs.Least.{counted_inside}
use Rattle.thp_journal_reader.proofs.Lookups.{get-before, get-last}

-- one more allocation leaves a chain as it is
pub chain_more : (allocs : List Allocation) (x : Allocation) (limit : ℕ) (at : Option ℕ) (bs : List ℕ) → IsAllocationChain allocs limit at bs → IsAllocationChain (allocs ++ x ∷ []) limit at bs
chain_more allocs x limit at [] c = c
chain_more allocs x limit at (b ∷ bs) c = (
  record {
    place = c.0.place;
    one = c.0.one;
    at_place = c.0.at_place;
    below = c.0.below;
    there = get-before allocs x c.0.place c.0.one c.0.there;
    of_block = c.0.of_block;
  },
  chain_more allocs x c.0.place c.0.one.before bs c.1,
)

-- a chain below a limit is below a greater one
pub chain_wider : (allocs : List Allocation) (m n : ℕ) (at : Option ℕ) (bs : List ℕ) → m ≤ n → IsAllocationChain allocs m at bs → IsAllocationChain allocs n at bs
chain_wider allocs m n at [] l c = c
chain_wider allocs m n at (b ∷ bs) l c = (
  record {
    place = c.0.place;
    one = c.0.one;
    at_place = c.0.at_place;
    below = (let h : c.0.place < m = c.0.below in omega arith);
    there = c.0.there;
    of_block = c.0.of_block;
  },
  c.1,
)

-- what stands at one place is one allocation
same_one : (allocs : List Allocation) (at : Option ℕ) (p q : ℕ) (x y : Allocation) → at ≡ Some p → at ≡ Some q → slice_get allocs p ≡ Some x → slice_get allocs q ≡ Some y → x ≡ y
same_one allocs at p q x y e f g i = let same : p ≡ q = cc in let there : slice_get allocs p ≡ Some y = ap (λ r. slice_get allocs r) same ∙ i in cc

-- a chain is that of one list
pub chain_one : (allocs : List Allocation) (m n : ℕ) (at : Option ℕ) (bs cs : List ℕ) → IsAllocationChain allocs m at bs → IsAllocationChain allocs n at cs → bs ≡ cs
chain_one allocs m n at [] [] c d = refl
chain_one allocs m n at [] (x ∷ cs) c d = let e : at ≡ None = c in let f : at ≡ Some d.0.place = d.0.at_place in absurd (cc)
chain_one allocs m n at (b ∷ bs) [] c d = let e : at ≡ None = d in let f : at ≡ Some c.0.place = c.0.at_place in absurd (cc)
chain_one allocs m n at (b ∷ bs) (x ∷ cs) c d =
    let same : c.0.one ≡ d.0.one = same_one allocs at c.0.place d.0.place c.0.one d.0.one c.0.at_place d.0.at_place c.0.there d.0.there in
    let block : b ≡ x = sym c.0.of_block ∙ ap (λ (o : Allocation). o.block) same ∙ d.0.of_block in
    let P : Allocation → Type 0 = λ o. IsAllocationChain allocs d.0.place o.before cs in
    let rest : bs ≡ cs = chain_one allocs c.0.place d.0.place c.0.one.before bs cs c.1 (subst P (sym same) d.1) in
    ap (λ y. y ∷ bs) block ∙ ap (λ ys. x ∷ ys) rest

-- a new allocation of a page leads to those before
pub chain_new : (allocs : List Allocation) (one : Allocation) (bs : List ℕ) → IsAllocationChain allocs (length allocs) one.before bs →
    IsAllocationChain (allocs ++ one ∷ []) (length (allocs ++ one ∷ [])) (Some (length allocs)) (one.block ∷ bs)
chain_new allocs one bs c = (
  record {
    place = length allocs;
    one = one;
    at_place = refl;
    below = omega (arith, length-append allocs (one ∷ []));
    there = get-last allocs one;
    of_block = refl;
  },
  chain_more allocs one (length allocs) one.before bs c,
)

-- a chain in more allocations
pub chain_kept : (allocs : List Allocation) (x : Allocation) (at : Option ℕ) (bs : List ℕ) → IsAllocationChain allocs (length allocs) at bs → IsAllocationChain (allocs ++ x ∷ []) (length (allocs ++ x ∷ [])) at bs
chain_kept allocs x at bs c = grind (arith, chain_wider, length-append, chain_more)

-- the walk begins
pub walk_first : (allocs : List Allocation) (first : Option ℕ) (counts : List ℕ) → IsCovered allocs first counts → IsWalked allocs first first counts counts
walk_first allocs first counts c = grind arith

-- the place stands among the allocations
pub walk_inside : (allocs : List Allocation) (first at : Option ℕ) (old now : List ℕ) (place : ℕ) → at ≡ Some place → IsWalked allocs first at old now → place < length allocs
walk_inside allocs first at old now place here w = go w.rest w.goes_on where
  go : (rest : List ℕ) → IsAllocationChain allocs w.limit at rest → place < length allocs
  go [] c = let e : at ≡ None = c in absurd (cc)
  go (b ∷ bs) c =
      let f : at ≡ Some c.0.place = c.0.at_place in
      let same : c.0.place ≡ place = cc in
      let inside : c.0.place < length allocs = slice_get_within allocs c.0.place c.0.one c.0.there in
      omega arith

-- a block of the chain is held
held_yet : (n all old bs : ℕ) → all ≤ old → n + all ≡ old + (1 + bs) → 0 < n
held_yet n all old bs h e = omega arith

-- how often a block stands in front of others
count_first : (b : ℕ) (bs : List ℕ) → count_by (nat_eq b) (b ∷ bs) ≡ 1 + count_by (nat_eq b) bs
count_first b bs = count-cons (nat_eq b) b bs ∙ ap (λ c. cond c 1 0 + count_by (nat_eq b) bs) (eq-eqb b b refl)

-- and another block
count_other : (x b : ℕ) (bs : List ℕ) → x ≢ b → count_by (nat_eq x) (b ∷ bs) ≡ count_by (nat_eq x) bs
count_other x b bs f = count-cons (nat_eq x) b bs ∙ ap (λ c. cond c 1 0 + count_by (nat_eq x) bs) (ne_eqb x b f) ∙ zero-add (count_by (nat_eq x) bs)

-- the block of the place where the walk goes on is held
pub walk_held : (allocs : List Allocation) (first at : Option ℕ) (old now : List ℕ) (place : ℕ) (one : Allocation) → at ≡ Some place → slice_get allocs place ≡ Some one →
    IsWalked allocs first at old now → 0 < get_or now one.block 0
walk_held allocs first at old now place one here there w = go w.rest w.goes_on w.given where
  go : (rest : List ℕ) → IsAllocationChain allocs w.limit at rest → ((b : ℕ) → get_or now b 0 + count_by (nat_eq b) w.all ≡ get_or old b 0 + count_by (nat_eq b) rest) → 0 < get_or now one.block 0
  go [] c g = let e : at ≡ None = c in absurd (cc)
  go (b ∷ bs) c g =
      let same : c.0.one ≡ one = same_one allocs at c.0.place place c.0.one one c.0.at_place here c.0.there there in
      let block : b ≡ one.block = sym c.0.of_block ∙ ap (λ (o : Allocation). o.block) same in
      let P : ℕ → Type 0 = λ x. 0 < get_or now x 0 in
      subst P block (held_yet (get_or now b 0) (count_by (nat_eq b) w.all) (get_or old b 0) (count_by (nat_eq b) bs) (w.covered b) (g b ∙ ap (λ n. get_or old b 0 + n) (count_first b bs)))

-- the walk comes to an end
pub walk_falls : (allocs : List Allocation) (first at : Option ℕ) (old now : List ℕ) (place : ℕ) (one : Allocation) → at ≡ Some place → slice_get allocs place ≡ Some one →
    IsWalked allocs first at old now → chain_place one.before < chain_place (Some place)
walk_falls allocs first at old now place one here there w = go w.rest w.goes_on where
  next : (limit : ℕ) (x : Option ℕ) (bs : List ℕ) → IsAllocationChain allocs limit x bs → chain_place x < limit + 1
  next limit x [] c = let e : x ≡ None = c in let P : Option ℕ → Type 0 = λ o. chain_place o < limit + 1 in subst P (sym e) (omega arith)
  next limit x (b ∷ bs) c =
      let e : x ≡ Some c.0.place = c.0.at_place in
      let l : c.0.place < limit = c.0.below in
      let P : Option ℕ → Type 0 = λ o. chain_place o < limit + 1 in
      subst P (sym e) (let r : c.0.place + 1 < limit + 1 = omega arith in r)

  go : (rest : List ℕ) → IsAllocationChain allocs w.limit at rest → chain_place one.before < place + 1
  go [] c = let e : at ≡ None = c in absurd (cc)
  go (b ∷ bs) c =
      let f : at ≡ Some c.0.place = c.0.at_place in
      let place_is : c.0.place ≡ place = cc in
      let same : c.0.one ≡ one = same_one allocs at c.0.place place c.0.one one c.0.at_place here c.0.there there in
      let P : Allocation → Type 0 = λ o. chain_place o.before < c.0.place + 1 in
      let r : chain_place one.before < c.0.place + 1 = subst P same (next c.0.place c.0.one.before bs c.1) in
      omega arith

-- one step of the walk
pub walk_on : (allocs : List Allocation) (first at : Option ℕ) (old now : List ℕ) (place : ℕ) (one : Allocation) → at ≡ Some place → slice_get allocs place ≡ Some one →
    IsWalked allocs first at old now → IsWalked allocs first one.before old (set now one.block (get_or now one.block 0 - 1))
walk_on allocs first at old now place one here there w = go w.rest w.goes_on w.given where
  next : List ℕ
  next = set now one.block (get_or now one.block 0 - 1)

  held : 0 < get_or now one.block 0
  held = walk_held allocs first at old now place one here there w

  inside : one.block < length now
  inside = counted_inside now one.block held

  fewer : (b : ℕ) (bs : List ℕ) → b ≡ one.block → (x : ℕ) → get_or now x 0 + count_by (nat_eq x) w.all ≡ get_or old x 0 + count_by (nat_eq x) (b ∷ bs) →
      get_or next x 0 + count_by (nat_eq x) w.all ≡ get_or old x 0 + count_by (nat_eq x) bs
  fewer b bs e x g =
      elim (eqb_tells x one.block) [
        | inl y ↦
            let at_x : get_or next x 0 ≡ get_or now one.block 0 - 1 = ap (λ q. get_or next q 0) y.1 ∙ get_or-set_same now one.block (get_or now one.block 0 - 1) 0 inside in
            let now_x : get_or now x 0 ≡ get_or now one.block 0 = ap (λ q. get_or now q 0) y.1 in
            let same : x ≡ b = y.1 ∙ sym e in
            let more : count_by (nat_eq x) (b ∷ bs) ≡ 1 + count_by (nat_eq x) bs = ap (λ q. count_by (nat_eq x) (q ∷ bs)) (sym same) ∙ count_first x bs in
            omega (arith, held)
        | inr y ↦
            let at_x : get_or next x 0 ≡ get_or now x 0 = get_or-set_other now one.block x (get_or now one.block 0 - 1) 0 y.1 in
            let more : count_by (nat_eq x) (b ∷ bs) ≡ count_by (nat_eq x) bs = count_other x b bs (λ f. y.1 (f ∙ e)) in
            omega arith
      ]

  go : (rest : List ℕ) → IsAllocationChain allocs w.limit at rest → ((b : ℕ) → get_or now b 0 + count_by (nat_eq b) w.all ≡ get_or old b 0 + count_by (nat_eq b) rest) → IsWalked allocs first one.before old next
  go [] c g = let e : at ≡ None = c in absurd (cc)
  go (b ∷ bs) c g =
      let same : c.0.one ≡ one = same_one allocs at c.0.place place c.0.one one c.0.at_place here c.0.there there in
      let block : b ≡ one.block = sym c.0.of_block ∙ ap (λ (o : Allocation). o.block) same in
      let P : Allocation → Type 0 = λ o. IsAllocationChain allocs c.0.place o.before bs in
      record {
        all = w.all;
        rest = bs;
        limit = c.0.place;
        chained = w.chained;
        goes_on = subst P same c.1;
        covered = w.covered;
        given = λ x. fewer b bs block x (g x);
        size = length-set now one.block (get_or now one.block 0 - 1) ∙ w.size;
      }

-- where the walk has ended each block of the chain was given back
pub walk_ended : (allocs : List Allocation) (first : Option ℕ) (old now : List ℕ) → IsWalked allocs first None old now →
    (bs : List ℕ) → IsAllocationChain allocs (length allocs) first bs → (b : ℕ) → get_or now b 0 + count_by (nat_eq b) bs ≡ get_or old b 0
walk_ended allocs first old now w bs c b = go w.rest w.goes_on w.given where
  go : (rest : List ℕ) → IsAllocationChain allocs w.limit None rest → ((b : ℕ) → get_or now b 0 + count_by (nat_eq b) w.all ≡ get_or old b 0 + count_by (nat_eq b) rest) →
      get_or now b 0 + count_by (nat_eq b) bs ≡ get_or old b 0
  go [] d g =
      ap (λ xs. get_or now b 0 + count_by (nat_eq b) xs) (chain_one allocs (length allocs) (length allocs) first bs w.all c w.chained)
      ∙ (let e : get_or now b 0 + count_by (nat_eq b) w.all ≡ get_or old b 0 + 0 = g b in omega arith)
  go (x ∷ xs) d g = let e = d.0.at_place in absurd (cc)

-- an allocation that was read
pub read_one : (allocs : List Allocation) (place : ℕ) (one : Allocation) → place < length allocs → one ≡ get_or allocs place one → slice_get allocs place ≡ Some one
read_one allocs place one h e = slice_get-get_or allocs place one h ∙ ap (λ (y : Allocation). Some y) (sym e)

-- what is no number
pub none_left : (o : Option ℕ) → ((x : ℕ) → o ≡ Some x → ⊥) → o ≡ None
none_left x f = grind arith
