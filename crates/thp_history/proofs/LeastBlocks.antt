-- The choice of the least free block is legal where some choice is, and no choice is legal for longer.
use Rattle.std.proofs.Common.{◌≡◌, ℕ, suc, zero, ◌<◌, ◌≤◌, Bool, true, false, cond, not, List, [], ◌∷◌, ◌++◌, Some, None, length, map, take, refl, ap, sym, ◌∙◌, subst, arith, nat_eq, inl, inr, append_assoc, slice_get}
use Rattle.std.specs.List.{fold, filter, list_any, range_with_len}
use Rattle.std.proofs.lemmas.Bool.{cases_lt}
use Rattle.std.proofs.lemmas.List.{map-append, length-map}
use Rattle.std.proofs.lemmas.List.Folds.{fold_along}
use Rattle.std.proofs.lemmas.List.Sums.{fold_push}
use Rattle.thp_history.specs.Prelude.{Event, Outcome, Freed, What, Shape, with_block, event_with, without_blocks, SameButBlocks, first_that, least_free, with_least_blocks, is_closed, block_in_use, is_block_held, History, by, IsLegal, Fits, FitsBy, IsFirstMisfit, refusal, each_below}
use Rattle.thp_history.specs.declared.events.What.TheVariants.{Alloc, UnmapWhole, UnmapSub, Unpin}
use Rattle.thp_history.specs.Refusals as call
use Rattle.thp_history.proofs.Alike.{alike, fits_alike, fold_alike, Alike}
use Rattle.thp_history.proofs.Allowed.{allowed_alloc}
use Rattle.thp_history.proofs.Below.{each_below-ext}
use Rattle.thp_history.proofs.Blocks.{Placed, placed_push, placed_none, legal_placed, in_use_is, held_is, occupied, occupied_by, occupied_after, blocks_in_use}
use Rattle.thp_history.proofs.LeftOut.{fails_first, left_out, fewer}
use Rattle.thp_history.proofs.LegalSteps.{legal_all, legal_none, legal_push}
use Rattle.thp_history.proofs.ListPlaces.{append_none}

-- a block is free exactly where fewer pages live than there are blocks
held_as : (shape : Shape) (h : History) → Placed shape h → each_below shape.blocks (block_in_use h) ≡ each_below shape.blocks (λ b. list_any (nat_eq b) (blocks_in_use h))
held_as shape h s = each_below-ext shape.blocks _ _ (λ b l. in_use_is shape h b s.blocked)

-- where a block is free fewer pages live than there are blocks
pub free_then : (shape : Shape) (h : History) → Placed shape h → each_below shape.blocks (block_in_use h) ≡ false → length (occupied h) < shape.blocks
free_then shape h s e =
    omega (arith, left_out (blocks_in_use h) shape.blocks s.blocked.apart s.blocked.in_range (sym (held_as shape h s) ∙ e), length-map (occupied h) (λ (f : ℕ × ℕ). f.0))

-- and the other way round
pub then_free : (shape : Shape) (h : History) → Placed shape h → length (occupied h) < shape.blocks → each_below shape.blocks (block_in_use h) ≡ false
then_free shape h s l = held_as shape h s ∙ fewer (blocks_in_use h) shape.blocks (omega (arith, length-map (occupied h) (λ (f : ℕ × ℕ). f.0)))

-- the pages that have a block don't hang on the blocks
abbrev pages_by : List ℕ → ℕ → Outcome → List ℕ
pages_by ps p Freed = filter (λ q. not (nat_eq q p)) ps
pages_by ps p _ = ps

-- the live pages after an event
abbrev pages_after : List ℕ → What → List ℕ
pages_after ps (Alloc p b) = ps ++ p ∷ []
pages_after ps (UnmapWhole o p r) = pages_by ps p o
pages_after ps (UnmapSub o p f n r) = pages_by ps p o
pages_after ps (Unpin o p r) = pages_by ps p o
pages_after ps _ = ps

-- they don't look at the block
pages_blind : (ps : List ℕ) (w : What) → pages_after ps (with_block 0 w) ≡ pages_after ps w
pages_blind ps x = grind arith

-- the pages of blocks in use
abbrev pages_of : List (ℕ × ℕ) → List ℕ
pages_of bs = map (λ (f : ℕ × ℕ). f.1) bs

-- a filter by pages
of-filter : (t : ℕ → Bool) (bs : List (ℕ × ℕ)) → pages_of (filter (λ (f : ℕ × ℕ). t f.1) bs) ≡ filter t (pages_of bs)
of-filter t [] = refl
of-filter t (f ∷ bs) = one (t f.1) ∙ ap (λ ps. cond (t f.1) (f.1 ∷ ps) ps) (of-filter t bs) where
  one : (b : Bool) → pages_of (cond b (f ∷ filter (λ (f : ℕ × ℕ). t f.1) bs) (filter (λ (f : ℕ × ℕ). t f.1) bs)) ≡ cond b (f.1 ∷ pages_of (filter (λ (f : ℕ × ℕ). t f.1) bs)) (pages_of (filter (λ (f : ℕ × ℕ). t f.1) bs))
  one true = refl
  one false = refl

-- the pages after an outcome
of_by : (bs : List (ℕ × ℕ)) (p : ℕ) (o : Outcome) → pages_of (occupied_by bs p o) ≡ pages_by (pages_of bs) p o
of_by bs p Freed = of-filter (λ q. not (nat_eq q p)) bs
of_by bs p o = refl

-- the pages after an event
of_after : (bs : List (ℕ × ℕ)) (w : What) → pages_of (occupied_after bs w) ≡ pages_after (pages_of bs) w
of_after bs x = grind (arith, map-append, of_by)

-- the pages of the blocks in use are the live pages in order
pages_placed : (h : History) → pages_of (occupied h) ≡ fold (λ ps (e : Event). pages_after ps e.what) [] h
unfolding occupied
pages_placed h =
    fold_along (λ bs (e : Event). occupied_after bs e.what) (λ ps (e : Event). pages_after ps e.what) (λ bs ps. pages_of bs ≡ ps)
    (λ bs ps e r. of_after bs e.what ∙ ap (λ qs. pages_after qs e.what) r) [] [] h refl

-- histories that are equal but for their blocks have as many live pages
pub as_many : (h k : History) → SameButBlocks h k → length (occupied h) ≡ length (occupied k)
as_many h k e =
    sym (length-map (occupied h) (λ (f : ℕ × ℕ). f.1))
    ∙ ap length (pages_placed h ∙ fold_alike (λ ps (e : Event). pages_after ps e.what) (λ ps x. pages_blind ps x.what) [] h k e ∙ sym (pages_placed k))
    ∙ length-map (occupied k) (λ (f : ℕ × ℕ). f.1)

-- the history with the least blocks
least_push : (shape : Shape) (h : History) (e : Event) → with_least_blocks shape (h ++ e ∷ []) ≡ with_least_blocks shape h ++ event_with (least_free shape (with_least_blocks shape h)) e ∷ []
unfolding with_least_blocks
least_push shape h e = fold_push (λ k (e : Event). k ++ event_with (least_free shape k) e ∷ []) [] h e

-- a block put in twice
again : (b : ℕ) (w : What) → with_block b (with_block 0 w) ≡ with_block b w
again b x = grind arith

-- a block taken out that was put in
back : (b : ℕ) (w : What) → with_block 0 (with_block b w) ≡ with_block 0 w
back b x = grind arith

-- one more event without its block
pub without_blocks_push : (h : History) (e : Event) → without_blocks (h ++ e ∷ []) ≡ without_blocks h ++ event_with 0 e ∷ []
unfolding without_blocks
without_blocks_push h e = map-append (event_with 0) h (e ∷ [])

-- the least blocks hang on all but the blocks
pub least_alike : (shape : Shape) (h k : History) → SameButBlocks h k → with_least_blocks shape h ≡ with_least_blocks shape k
unfolding with_least_blocks
least_alike shape h k e = grind (arith, fold_alike, again)

-- one more event, with another block
same_push : (h k : History) (e : Event) (b : ℕ) → SameButBlocks h k → SameButBlocks (h ++ e ∷ []) (k ++ event_with b e ∷ [])
same_push h k e b s = grind (arith, without_blocks_push, back)

-- an open node with a free block refuses no page
not_refused : (shape : Shape) (h : History) → is_closed h ≡ false → each_below shape.blocks (block_in_use h) ≡ false → refusal shape h call.alloc_page ≡ None
unfolding refusal
not_refused shape h c e = grind arith

-- the blocks held are those in use
held_placed : (shape : Shape) (k : History) → Placed shape k → (b : ℕ) → is_block_held k b ≡ block_in_use k b
held_placed shape k s b = held_is k b ∙ sym (in_use_is shape k b s.blocked)

-- the least free block is free where one is
next_free : (shape : Shape) (k : History) → Placed shape k → each_below shape.blocks (block_in_use k) ≡ false → (least_free shape k < shape.blocks) × (block_in_use k (least_free shape k) ≡ false)
unfolding least_free
next_free shape k s e =
    let first : (is_block_held k (first_that (λ b. not (is_block_held k b)) (range_with_len 0 shape.blocks)) ≡ false) × (first_that (λ b. not (is_block_held k b)) (range_with_len 0 shape.blocks) < shape.blocks) =
    fails_first shape.blocks (is_block_held k) (each_below-ext shape.blocks (is_block_held k) (block_in_use k) (λ b l. held_placed shape k s b) ∙ e) in
    (first.1, sym (held_placed shape k s _) ∙ first.0)

-- an event that fits one choice fits the other with the least free block
fits_least : (shape : Shape) (h k : History) (c : ℕ) (w : What) → Placed shape h → Placed shape k → SameButBlocks h k →
    FitsBy shape h (h ++ by c w ∷ []) c w →
    FitsBy shape k (k ++ by c (with_block (least_free shape k) w) ∷ []) c (with_block (least_free shape k) w)
fits_least shape h k c (Alloc p b) s t e f =
    let fine : (is_closed h ≡ false) × (each_below shape.blocks (block_in_use h) ≡ false) = allowed_alloc shape h f.allowed in
    let a : Alike h k = alike h k e in
    let free : each_below shape.blocks (block_in_use k) ≡ false = then_free shape k t (omega (arith, free_then shape h s fine.1, as_many h k e)) in
    let next : (least_free shape k < shape.blocks) × (block_in_use k (least_free shape k) ≡ false) = next_free shape k t free in
    record { allowed = not_refused shape k (sym a.closed ∙ fine.0) free; number = f.number ∙ a.allocations; inside = next.0; free = next.1 }
fits_least shape h k c w s t e f =
    fits_alike shape h k (alike h k e) (h ++ by c w ∷ []) (k ++ by c w ∷ [])
    (alike (h ++ by c w ∷ []) (k ++ by c w ∷ []) (same_push h k (by c w) 0 e)) c w refl f

-- a legal history, and the same with the least blocks
record Follows (shape : Shape) (h : History) : Type 0 where
  placed : Placed shape h
  legal : IsLegal shape (with_least_blocks shape h)
  same : SameButBlocks h (with_least_blocks shape h)

-- one more event that fits keeps this
follows_push : (shape : Shape) (h : History) (e : Event) → Follows shape h → Fits shape h e → Follows shape (h ++ e ∷ [])
follows_push shape h e s f =
    let k : History = with_least_blocks shape h in
    let fit : Fits shape k (event_with (least_free shape k) e) = fits_least shape h k e.caller e.what s.placed (legal_placed shape k s.legal) s.same f in
    let L : History → Type 0 = λ x. IsLegal shape x in
    record {
      placed = placed_push shape h e s.placed f;
      legal = subst L (sym (least_push shape h e)) (legal_push shape k (event_with (least_free shape k) e) s.legal fit);
      same = same_push h k e (least_free shape k) s.same ∙ ap without_blocks (sym (least_push shape h e));
    }

-- it holds of the empty history
follows_none : (shape : Shape) → Follows shape []
unfolding with_least_blocks
follows_none shape = record { placed = placed_none shape; legal = legal_none shape; same = refl }

-- so a legal history is legal with the least blocks
pub legal_with_least : (shape : Shape) (h : History) → IsLegal shape h → IsLegal shape (with_least_blocks shape h)
legal_with_least shape h l = (legal_all shape (Follows shape) (follows_none shape) (λ k e s f. follows_push shape k e s f) h l).legal

-- and so is each that is equal but for its blocks
pub least_is_legal : (shape : Shape) (h k : History) → SameButBlocks h k → IsLegal shape k → IsLegal shape (with_least_blocks shape h)
least_is_legal shape h k s l = let L : History → Type 0 = λ x. IsLegal shape x in subst L (sym (least_alike shape h k s)) (legal_with_least shape k l)

-- in a legal history a block is free exactly where fewer pages live than there are blocks
pub free_by_number : (shape : Shape) (h : History) → IsLegal shape h →
    (each_below shape.blocks (block_in_use h) ≡ false → length (occupied h) < shape.blocks) × (length (occupied h) < shape.blocks → each_below shape.blocks (block_in_use h) ≡ false)
free_by_number shape h l = (free_then shape h (legal_placed shape h l), then_free shape h (legal_placed shape h l))

-- the same by recursion on the events to come
rest : Shape → History → History → History
rest shape k [] = []
rest shape k (e ∷ h) = event_with (least_free shape k) e ∷ rest shape (k ++ event_with (least_free shape k) e ∷ []) h

-- the fold is that recursion
as_rest : (shape : Shape) (k h : History) → fold (λ k (e : Event). k ++ event_with (least_free shape k) e ∷ []) k h ≡ k ++ rest shape k h
unfolding rest
as_rest shape k [] = sym (append_none k)
as_rest shape k (e ∷ h) = as_rest shape (k ++ event_with (least_free shape k) e ∷ []) h ∙ append_assoc k (event_with (least_free shape k) e ∷ []) (rest shape (k ++ event_with (least_free shape k) e ∷ []) h)

-- a front of it is that of the front
take_rest : (shape : Shape) (k h : History) (i : ℕ) → take i (rest shape k h) ≡ rest shape k (take i h)
unfolding rest
take_rest shape k [] zero = refl
take_rest shape k [] (suc i) = refl
take_rest shape k (e ∷ h) zero = refl
take_rest shape k (e ∷ h) (suc i) = ap (λ x. event_with (least_free shape k) e ∷ x) (take_rest shape (k ++ event_with (least_free shape k) e ∷ []) h i)

-- a front of a history with the least blocks is the front with them
pub take_least : (shape : Shape) (h : History) (i : ℕ) → take i (with_least_blocks shape h) ≡ with_least_blocks shape (take i h)
unfolding with_least_blocks
take_least shape h i = ap (λ x. take i x) (as_rest shape [] h) ∙ take_rest shape [] h i ∙ sym (as_rest shape [] (take i h))

-- an element of a front
get_take : {X : Type 0} (xs : List X) (i j : ℕ) (x : X) → j < i → slice_get xs j ≡ Some x → slice_get (take i xs) j ≡ Some x
get_take [] i j x l e = absurd (cc)
get_take (y ∷ ys) zero j x l e = absurd (omega arith)
get_take (y ∷ ys) (suc i) zero x l e = e
get_take (y ∷ ys) (suc i) (suc j) x l e = get_take ys i j x (omega arith) e

-- a front of a front
take_take : {X : Type 0} (xs : List X) (i j : ℕ) → j < i → take j (take i xs) ≡ take j xs
take_take [] zero j l = absurd (omega arith)
take_take [] (suc i) zero l = refl
take_take [] (suc i) (suc j) l = refl
take_take (y ∷ ys) zero j l = absurd (omega arith)
take_take (y ∷ ys) (suc i) zero l = refl
take_take (y ∷ ys) (suc i) (suc j) l = ap (λ x. y ∷ x) (take_take ys i j (omega arith))

-- no choice of blocks is legal for longer
pub least_lasts : (shape : Shape) (h k : History) (i j : ℕ) → SameButBlocks h k → IsFirstMisfit shape k i → IsFirstMisfit shape (with_least_blocks shape h) j → i ≤ j
least_lasts shape h k i j s f g =
    elim (cases_lt j i) [
      | inl below ↦
          let m : History = with_least_blocks shape h in
          let L : History → Type 0 = λ x. IsLegal shape x in
          let legal : IsLegal shape (take i m) = subst L (sym (ap (λ x. take i x) (least_alike shape h k s) ∙ take_least shape k i)) (legal_with_least shape (take i k) f.legal_before) in
          let e : Event = g.misfit.0 in
          let F : History → Type 0 = λ x. Fits shape x e in
          absurd (g.misfit.2 (subst F (take_take m i j below) (legal.each j e (get_take m i j e below g.misfit.1))))
      | inr above ↦ above
    ]

-- the recursion changes nothing but blocks
without_blocks_rest : (shape : Shape) (k h : History) → without_blocks h ≡ without_blocks (rest shape k h)
unfolding rest without_blocks
without_blocks_rest shape k [] = refl
without_blocks_rest shape k (e ∷ h) =
    ap (λ w. by e.caller w ∷ without_blocks h) (sym (back (least_free shape k) e.what))
    ∙ ap (λ x. event_with 0 (event_with (least_free shape k) e) ∷ x) (without_blocks_rest shape (k ++ event_with (least_free shape k) e ∷ []) h)

-- the least blocks change nothing but blocks
pub least_same : (shape : Shape) (h : History) → SameButBlocks h (with_least_blocks shape h)
unfolding with_least_blocks
least_same shape h = without_blocks_rest shape [] h ∙ ap without_blocks (sym (as_rest shape [] h))
