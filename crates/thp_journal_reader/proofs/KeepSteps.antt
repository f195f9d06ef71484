-- What is kept of the events stays true with one more event.
use Rattle.std.proofs.Common.{◌≡◌, ℕ, ◌+◌, ◌<◌, ◌≤◌, Bool, true, false, cond, not, List, [], ◌∷◌, ◌++◌, length, set, get_or, refl, ap, sym, ◌∙◌, subst, arith, inl, inr, nat_eq, length-set, length-append, eq-eqb, Option, Some, None, replicate, count_by, get_or-set_same, get_or-set_other}
use Rattle.std.specs.List.{range_with_len}
use Rattle.std.proofs.lemmas.Bool.Decides.{eqb_tells}
use Rattle.thp_history.specs.declared.events.Event.{Event}
use Rattle.thp_history.specs.declared.events.What.TheVariants.{Alloc}
use Rattle.thp_history.specs.declared.shape.Shape.{Shape}
use Rattle.thp_history.specs.Prelude.{first_that, least_free, is_alloc, is_block_held, History, by}
use Rattle.thp_live_pages.specs.Prelude.{least_of}
use Rattle.thp_journal_reader.specs.declared.page_blocks.Allocation.{Allocation}
use Rattle.thp_journal_reader.specs.Chains.{IsAllocationChain, IsCovered}
use Rattle.thp_journal_reader.specs.Freeing.{freed_page}
use Rattle.thp_journal_reader.specs.HeldBlocks.{times_held, blocks_of, KeepsBlocks}
use Rattle.thp_journal_reader.proofs.Chaining.{chain_new, chain_kept}
use Rattle.thp_live_pages.proofs.FreeWords.{zeros-get, zeros-length}
use Rattle.thp_journal_reader.proofs.Held.{held_quiet, held_more, held_without, blocks_same, blocks_more, blocks_gone, frees_none, frees_one, free_is}
use Rattle.thp_live_pages.proofs.Least.{first_alike}

module _ (s : Shape) where
  -- nothing happened yet
  pub keeps_first : (last : ℕ → Option ℕ) → 1 ≤ s.blocks → ((p : ℕ) → last p ≡ None) → KeepsBlocks s [] (replicate s.blocks 0) last []
  unfolding blocks_of times_held
  keeps_first last some k = grind (arith, zeros-length, zeros-get, get_or)

  -- the least free block is the least that is held by none
  pub least_is : (h : History) (counts : List ℕ) (last : ℕ → Option ℕ) (allocs : List Allocation) → KeepsBlocks s h counts last allocs → least_of counts ≡ least_free s h
  unfolding least_of least_free
  least_is h counts last allocs k =
      first_alike (λ b. nat_eq (get_or counts b 0) 0) (λ b. not (is_block_held h b)) 0 (length counts) (λ b. ap (λ n. nat_eq n 0) (k.held b) ∙ sym (free_is h b))
      ∙ ap (λ n. first_that (λ b. not (is_block_held h b)) (range_with_len 0 n)) k.blocks

  -- an event that neither allocates nor frees
  pub keeps_quiet : (h : History) (counts : List ℕ) (last : ℕ → Option ℕ) (allocs : List Allocation) (e : Event) → KeepsBlocks s h counts last allocs →
      freed_page e.what ≡ None → is_alloc e.what ≡ false → KeepsBlocks s (h ++ e ∷ []) counts last allocs
  keeps_quiet h counts last allocs e k f n = record {
    blocks = k.blocks;
    some = k.some;
    held = λ b. k.held b ∙ sym (held_quiet h e b (λ q. frees_none q e.what f) n);
    few = k.few;
    pages = λ p. subst (IsAllocationChain allocs (length allocs) (last p)) (sym (blocks_same h e p (frees_none p e.what f) n)) (k.pages p);
  }

  -- an allocation
  pub keeps_alloc : (h : History) (counts : List ℕ) (last others : ℕ → Option ℕ) (allocs : List Allocation) (c p x : ℕ) (before : Option ℕ) → KeepsBlocks s h counts last allocs →
      last p ≡ before → x < length counts → ((q : ℕ) → others q ≡ cond (nat_eq q p) (Some (length allocs)) (last q)) →
      KeepsBlocks s (h ++ by c (Alloc p x) ∷ []) (set counts x (get_or counts x 0 + 1)) others (allocs ++ record { block = x; before = before } ∷ [])
  keeps_alloc h counts last others allocs c p x before k e inside f = record {
    blocks = length-set counts x (get_or counts x 0 + 1) ∙ k.blocks;
    some = k.some;
    held = λ b. one_more b ∙ ap (λ n. n + cond (nat_eq b x) 1 0) (k.held b) ∙ sym (held_more h c p x b);
    few = λ b. bound (nat_eq b x) _ _ _ _ (one_more b) (k.few b) (length-append allocs (one ∷ []));
    pages = λ q.
        subst (λ o. IsAllocationChain more (length more) o (blocks_of after q)) (sym (f q))
        (subst (IsAllocationChain more (length more) (cond (nat_eq q p) (Some (length allocs)) (last q))) (sym (blocks_more h c p x q)) (chained q));
  } where
    one : Allocation
    one = record { block = x; before = before }

    more : List Allocation
    more = allocs ++ one ∷ []

    after : History
    after = h ++ by c (Alloc p x) ∷ []

    here : IsAllocationChain allocs (length allocs) before (blocks_of h p)
    here = subst (λ o. IsAllocationChain allocs (length allocs) o (blocks_of h p)) e (k.pages p)

    chained : (q : ℕ) → IsAllocationChain more (length more) (cond (nat_eq q p) (Some (length allocs)) (last q)) (cond (nat_eq q p) (x ∷ blocks_of h q) (blocks_of h q))
    chained q =
        elim (eqb_tells q p) [
          | inl y ↦
              subst (λ v. IsAllocationChain more (length more) (cond v (Some (length allocs)) (last q)) (cond v (x ∷ blocks_of h q) (blocks_of h q))) (sym y.0)
              (subst (λ r. IsAllocationChain more (length more) (Some (length allocs)) (x ∷ blocks_of h r)) (sym y.1) (chain_new allocs one (blocks_of h p) here))
          | inr y ↦
              subst (λ v. IsAllocationChain more (length more) (cond v (Some (length allocs)) (last q)) (cond v (x ∷ blocks_of h q) (blocks_of h q))) (sym y.0)
              (chain_kept allocs one (last q) (blocks_of h q) (k.pages q))
        ]

    plain : (n : ℕ) → n ≡ n + 0
    plain n = omega arith

    bound : (v : Bool) (a m n l : ℕ) → a ≡ m + cond v 1 0 → m ≤ n → l ≡ n + 1 → a ≤ l
    bound true a m n l d i j = omega arith
    bound false a m n l d i j = omega arith

    one_more : (b : ℕ) → get_or (set counts x (get_or counts x 0 + 1)) b 0 ≡ get_or counts b 0 + cond (nat_eq b x) 1 0
    one_more b =
        elim (eqb_tells b x) [
          | inl y ↦
              ap (λ q. get_or (set counts x (get_or counts x 0 + 1)) q 0) y.1 ∙ get_or-set_same counts x (get_or counts x 0 + 1) 0 inside
              ∙ ap (λ q. get_or counts q 0 + 1) (sym y.1) ∙ ap (λ v. get_or counts b 0 + cond v 1 0) (sym y.0)
          | inr y ↦
              get_or-set_other counts x b (get_or counts x 0 + 1) 0 y.1 ∙ plain (get_or counts b 0) ∙ ap (λ v. get_or counts b 0 + cond v 1 0) (sym y.0)
        ]

  -- the blocks of a page that is freed are held
  pub keeps_covered : (h : History) (counts : List ℕ) (last : ℕ → Option ℕ) (allocs : List Allocation) (e : Event) (p : ℕ) → KeepsBlocks s h counts last allocs →
      freed_page e.what ≡ Some p → is_alloc e.what ≡ false → IsCovered allocs (last p) counts
  keeps_covered h counts last allocs e p k f n = record {
    blocks = blocks_of h p;
    chained = k.pages p;
    covered = λ b.
        let sum : times_held (h ++ e ∷ []) b + count_by (nat_eq b) (blocks_of h p) ≡ times_held h b = held_without h e p b (λ q. frees_one q p e.what f) n in
        let now : get_or counts b 0 ≡ times_held h b = k.held b in omega arith;
  }

  -- a page is freed, and its blocks are given back
  pub keeps_free : (h : History) (counts others : List ℕ) (last last_then : ℕ → Option ℕ) (allocs : List Allocation) (e : Event) (p : ℕ) → KeepsBlocks s h counts last allocs →
      freed_page e.what ≡ Some p → is_alloc e.what ≡ false → ((q : ℕ) → last_then q ≡ cond (nat_eq q p) None (last q)) → length others ≡ length counts →
      ((bs : List ℕ) → IsAllocationChain allocs (length allocs) (last p) bs → (b : ℕ) → get_or others b 0 + count_by (nat_eq b) bs ≡ get_or counts b 0) →
      KeepsBlocks s (h ++ e ∷ []) others last_then allocs
  keeps_free h counts others last last_then allocs e p k f n now size given = record {
    blocks = size ∙ k.blocks;
    some = k.some;
    held = λ b.
        let sum : times_held (h ++ e ∷ []) b + count_by (nat_eq b) (blocks_of h p) ≡ times_held h b = held_without h e p b (λ q. frees_one q p e.what f) n in
        let was : get_or counts b 0 ≡ times_held h b = k.held b in
        let less : get_or others b 0 + count_by (nat_eq b) (blocks_of h p) ≡ get_or counts b 0 = given (blocks_of h p) (k.pages p) b in
        omega arith;
    few = λ b.
        let less : get_or others b 0 + count_by (nat_eq b) (blocks_of h p) ≡ get_or counts b 0 = given (blocks_of h p) (k.pages p) b in
        let was : get_or counts b 0 ≤ length allocs = k.few b in omega arith;
    pages = λ q. subst (λ o. IsAllocationChain allocs (length allocs) o (blocks_of (h ++ e ∷ []) q)) (sym (now q)) (one q);
  } where
    one : (q : ℕ) → IsAllocationChain allocs (length allocs) (cond (nat_eq q p) None (last q)) (blocks_of (h ++ e ∷ []) q)
    one q =
        elim (eqb_tells q p) [
          | inl y ↦
              subst (λ v. IsAllocationChain allocs (length allocs) (cond v None (last q)) (blocks_of (h ++ e ∷ []) q)) (sym y.0)
              (subst (IsAllocationChain allocs (length allocs) None) (sym (blocks_gone h e q (frees_one q p e.what f ∙ y.0) n)) refl)
          | inr y ↦
              subst (λ v. IsAllocationChain allocs (length allocs) (cond v None (last q)) (blocks_of (h ++ e ∷ []) q)) (sym y.0)
              (subst (IsAllocationChain allocs (length allocs) (last q)) (sym (blocks_same h e q (frees_one q p e.what f ∙ y.0) n)) (k.pages q))
        ]
