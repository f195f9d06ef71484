-- Returns of the pages of a batch, one by one, as the node's own.
use Rattle.std.proofs.Common.{◌≡◌, ℕ, zero, suc, ◌+◌, ◌<◌, ◌≤◌, Bool, true, false, List, [], ◌∷◌, ◌++◌, Option, Some, length, map, take, drop, refl, ap, ap₂, sym, ◌∙◌, subst, arith, get_or, append_assoc, nat_eq, eq-eqb, cond, not, ◌&&◌, ◌-◌, count_by, slice_get}
use Rattle.std.specs.Int.{from_bool}
use Rattle.std.proofs.Math.Seq.{drop-cons, take-append_seam}
use Rattle.std.proofs.lemmas.List.{map-append, take-append-drop, take_more}
use Rattle.thp_history.specs.declared.events.Event.{Event}
use Rattle.thp_history.specs.declared.events.What.TheVariants as what
use Rattle.thp_history.specs.declared.shape.Shape.{Shape}
use Rattle.thp_history.specs.Prelude.{History, by, is_closed, IsLegal, Fits, flight, has_page, return_event, still_flying, put_back_events, goes_back, is_dropped}
use Rattle.thp_history.proofs.ListPlaces.{append_none}
use Rattle.thp_history.proofs.Bools.{or_first, not_true, not_false}
use Rattle.thp_history.proofs.ReturnRuns.{Returned, return_fits, return_as, returns_run}
use Rattle.thp_history.proofs.Counting.{count-cons, count_push}
use Rattle.thp_page.specs.declared.standing.Standing.TheVariants.{Nowhere, Queued}
use Rattle.thp_page.specs.Prelude.{Slot, Table, slot_at}
use Rattle.thp_live_pages.specs.Prelude.{PageStoreState, Edits, AtSlot, IsFlyingAt, IsNode, block_of, block_after}
use Rattle.thp_node.specs.Prelude.{BatchState, IsInFront, back_reply, BackReply, Did, NodeState, BeginsIn, return_first, OneBack}
use Rattle.thp_live_pages.proofs.Admitting.{Found, at_home}
use Rattle.thp_node.proofs.BatchRuns.{partly_there}
use Rattle.thp_node.proofs.CallLemmas.{did_then}
use Rattle.thp_live_pages.proofs.Homing.{legal_homed, block_push}
use Rattle.thp_live_pages.proofs.ListEvents.{back_node, dropped_node}
use Rattle.thp_live_pages.proofs.Standings.{standing_flying}

abbrev pub the_reply : ℕ → ℕ → BackReply
the_reply b d = record { back = b; dropped = d }

pub from_cond : (b : Bool) → from_bool b ≡ cond b 1 0
from_cond x = grind arith

-- the node once a page of a batch was dropped
pub dropped_all : (s r : Shape) (h k : History) (c p b : ℕ) (old new : PageStoreState) → IsNode s h old.table old.queue → IsFlyingAt old.table c p b → Fits s h (by c (what.Dropped p)) →
    AtSlot old.table b (λ x. Edits old new b (Some (record x { standing = Nowhere })) old.queue 0) → r ≡ s → k ≡ h ++ by c (what.Dropped p) ∷ [] → IsNode r k new.table new.queue
dropped_all s r h k c p b old new m w f edits e g =
    let F : ℕ → Type 0 = λ z. Fits s h (by c (what.Dropped z)) in
    let N : Shape → History → Type 0 = λ t j. IsNode t j new.table new.queue in
    let node : N s (h ++ by c (what.Dropped w.slot.id) ∷ []) =
    dropped_node s h c b w.slot old new (legal_homed s h m.legal) m w.at w.stands (subst F (sym w.id_is) f) (edits w.slot w.at) in
    subst (λ t. N t k) (sym e) (subst (λ j. N s j) (ap (λ z. h ++ by c (what.Dropped z) ∷ []) w.id_is ∙ sym g) node)

-- the node once a page of a batch was put back
pub back_all : (s r : Shape) (h k : History) (c p b : ℕ) (old new : PageStoreState) → IsNode s h old.table old.queue → IsFlyingAt old.table c p b → Fits s h (by c (what.Back p)) →
    AtSlot old.table b (λ x. Edits old new b (Some (record x { standing = Queued })) (old.queue ++ b ∷ []) 4) → r ≡ s → k ≡ h ++ by c (what.Back p) ∷ [] → IsNode r k new.table new.queue
back_all s r h k c p b old new m w f edits e g =
    let F : ℕ → Type 0 = λ z. Fits s h (by c (what.Back z)) in
    let N : Shape → History → Type 0 = λ t j. IsNode t j new.table new.queue in
    let node : N s (h ++ by c (what.Back w.slot.id) ∷ []) =
    back_node s h c b w.slot old new (legal_homed s h m.legal) m w.at w.stands (subst F (sym w.id_is) f) (edits w.slot w.at) in
    subst (λ t. N t k) (sym e) (subst (λ j. N s j) (ap (λ z. h ++ by c (what.Back z) ∷ []) w.id_is ∙ sym g) node)

-- whether a page goes back is determined by the node and by the page
pub goes_back_reported : (s : Shape) (h : History) (c p b : ℕ) (old : PageStoreState) (z partly : Bool) → IsNode s h old.table old.queue → (w : IsFlyingAt old.table c p b) → z ≡ is_closed h →
    AtSlot old.table b (λ x. partly ≡ x.page.partly) → (not z && partly) ≡ goes_back s h p
goes_back_reported s h c p b old z partly m w shut reported = grind (arith, partly_there)

-- the return of the first page of a flight fits
pub back_may : (s : Shape) (h : History) (c p : ℕ) → goes_back s h p ≡ true → slice_get (flight h c) 0 ≡ Some p → Fits s h (by c (what.Back p))
back_may s h c p e first = return_fits s h c p false (not_true _ e) first

pub drop_may : (s : Shape) (h : History) (c p : ℕ) → goes_back s h p ≡ false → slice_get (flight h c) 0 ≡ Some p → Fits s h (by c (what.Dropped p))
drop_may s h c p e first = return_fits s h c p true (not_false _ e) first

-- what was done by the return of a page, by whether it goes back
pub did_return : (old new : NodeState) (c p : ℕ) (z : Bool) → goes_back old.shape old.journal p ≡ z → Did old new c (return_as (not z) c p ∷ []) → Did old new c (return_event old.shape old.journal c p ∷ [])
did_return old new c p z e d = grind (arith, return_as)

-- a return moves no page to another block
blocks_returned : (h : History) (c : ℕ) (f : ℕ → Bool) (ps : List ℕ) (p : ℕ) → block_of (h ++ map (λ q. return_as (f q) c q) ps) p ≡ block_of h p
blocks_returned h c f [] p = ap (λ k. block_of k p) (append_none h)
blocks_returned h c f (q ∷ ps) p =
    ap (λ k. block_of k p) (sym (append_assoc h (return_as (f q) c q ∷ []) (map (λ r. return_as (f r) c r) ps)))
    ∙ blocks_returned (h ++ return_as (f q) c q ∷ []) c f ps p ∙ block_push h (return_as (f q) c q) p ∙ one (f q) where
      one : (y : Bool) → block_after p (block_of h p) (return_as y c q).what ≡ block_of h p
      one true = refl
      one false = refl

-- the block at an index, of lists that agree so far
block_at : (f : ℕ → Option ℕ) (xs bs : List ℕ) (others : List (Option ℕ)) (i d e : ℕ) → map f xs ≡ map (λ b. Some b) bs ++ others → i < length bs →
    (i < length xs) × (f (get_or xs i d) ≡ Some (get_or bs i e))
block_at f xs [] others i d e same below = absurd (omega arith)
block_at f [] (b ∷ bs) others i d e same below = absurd (cc)
block_at f (x ∷ xs) (b ∷ bs) others zero d e same below = (omega arith, cc)
block_at f (x ∷ xs) (b ∷ bs) others (suc i) d e same below =
    let tail : map f xs ≡ map (λ b. Some b) bs ++ others = cc in
    let w = block_at f xs bs others i d e tail (omega arith) in
    (omega (arith, w.0), w.1)

-- once the first i pages of a flight were returned, at the history k, the next lies in the next block
pub record NextReturn (s : Shape) (h k : History) (c i b : ℕ) : Type 0 where
  pub begins : BeginsIn k c (b ∷ [])
  pub more : return_first s h c (i + 1) ≡ return_first s h c i ++ return_first s k c 1
  pub count : (back : Bool) → OneBack s k c back → count_by (goes_back s h) (take (i + 1) (flight h c)) ≡ count_by (goes_back s h) (take i (flight h c)) + cond back 1 0

pub next_return : (s : Shape) (h k : History) (c i b e : ℕ) (bs : List ℕ) → IsLegal s h → BeginsIn h c bs → k ≡ h ++ return_first s h c i → i < length bs → b ≡ get_or bs i e → NextReturn s h k c i b
next_return s h k c i b e bs l f is below at =
    let fl : List ℕ = flight h c in
    let p : ℕ = get_or fl i 0 in
    let w = block_at (block_of h) fl bs f.others i 0 e f.blocks below in
    let P : History → Type 0 = λ x. Returned s h x c (take i fl) (drop i fl) in
    let r : Returned s h k c (take i fl) (drop i fl) = subst P (sym is) (returns_run s h c (take i fl) (drop i fl) l (sym (take-append-drop i fl))) in
    let cut : flight k c ≡ p ∷ drop (suc i) fl = r.left ∙ drop-cons fl i 0 w.0 in
    let home : block_of k p ≡ Some b = ap (λ x. block_of x p) is ∙ blocks_returned h c (is_dropped s h) (take i fl) p ∙ w.1 ∙ ap (λ x. let o : Option ℕ = Some x in o) (sym at) in
    record {
      begins = record {
        others = map (block_of k) (drop (suc i) fl);
        blocks = ap (map (block_of k)) cut ∙ ap (λ (o : Option ℕ). o ∷ map (block_of k) (drop (suc i) fl)) home;
      };
      more =
          ap (map (return_event s h c)) (take_more fl i 0 w.0) ∙ map-append (return_event s h c) (take i fl) (p ∷ [])
          ∙ ap (λ es. return_first s h c i ++ es) (ap (λ z. return_as z c p ∷ []) (sym (r.dropped_same p)) ∙ sym (ap (λ ps. map (return_event s k c) (take 1 ps)) cut));
      count = λ back one.
          let same : one.page ≡ p = first_same (sym one.alone ∙ ap (take 1) cut) in
          ap (count_by (goes_back s h)) (take_more fl i 0 w.0) ∙ count_push (goes_back s h) (take i fl) p
          ∙ ap (λ z. count_by (goes_back s h) (take i fl) + cond z 1 0) (ap not (sym (r.dropped_same p)) ∙ ap (goes_back s k) (sym same) ∙ sym one.goes);
    } where
      first_same : {x y : ℕ} → x ∷ [] ≡ y ∷ [] → x ≡ y
      first_same e = cc

-- a return more
pub returned_more : (a b d : NodeState) (c i x : ℕ) → NextReturn a.shape a.journal b.journal c i x → Did a b c (return_first a.shape a.journal c i) → Did b d c (return_first b.shape b.journal c 1) →
    Did a d c (return_first a.shape a.journal c (i + 1))
returned_more a b d c i x n m o =
    let D : List Event → Type 0 = λ es. Did a d c es in
    let E : Shape → Type 0 = λ z. Did b d c (return_first z b.journal c 1) in
    subst D (sym n.more) (did_then a b d c (return_first a.shape a.journal c i) (return_first a.shape b.journal c 1) m (subst E m.shape o))

-- the first page of a flight, which lies in block b
pub record FirstFlies (h : History) (t : Table) (c b : ℕ) : Type 0 where
  pub page : ℕ
  pub first : slice_get (flight h c) 0 ≡ Some page
  pub alone : take 1 (flight h c) ≡ page ∷ []
  pub flies : IsFlyingAt t c page b

pub first_flies : (s : Shape) (h : History) (t : Table) (q : List ℕ) (c b : ℕ) → IsNode s h t q → BeginsIn h c (b ∷ []) → FirstFlies h t c b
first_flies s h t q c b m f = go (flight h c) refl f.blocks where
  go : (ps : List ℕ) → flight h c ≡ ps → map (block_of h) ps ≡ Some b ∷ f.others → FirstFlies h t c b
  go [] e g = absurd (cc)
  go (p ∷ ps) e g =
      let home : block_of h p ≡ Some b = cc in
      let w : Found s h t p b = at_home s h t q p b m home in
      let there : has_page w.slot.id (flight h c) ≡ true = ap (λ x. has_page x (flight h c)) w.id_is ∙ ap (has_page p) e ∙ or_first (nat_eq p p) _ (eq-eqb p p refl) in
      record {
        page = p;
        first = ap (λ xs. slice_get xs 0) e;
        alone = ap (take 1) e;
        flies = record { slot = w.slot; at = w.at; id_is = w.id_is; stands = w.is.stands ∙ standing_flying s h w.slot.id c (legal_homed s h m.legal).grown.sound there };
      }

-- page p is the first of a flight and lies in block b
pub record FirstIs (h : History) (t : Table) (c b p : ℕ) : Type 0 where
  pub first : slice_get (flight h c) 0 ≡ Some p
  pub alone : take 1 (flight h c) ≡ p ∷ []
  pub flies : IsFlyingAt t c p b

pub first_is : (s : Shape) (h : History) (t : Table) (q : List ℕ) (c b p : ℕ) → IsNode s h t q → BeginsIn h c (b ∷ []) → ((x : Slot) → slot_at t b ≡ Some x → p ≡ x.id) → FirstIs h t c b p
first_is s h t q c b p m f same =
    let w : FirstFlies h t c b = first_flies s h t q c b m f in
    let P : ℕ → Type 0 = λ r. FirstIs h t c b r in
    subst P (sym (same w.flies.slot w.flies.at ∙ w.flies.id_is)) (record { first = w.first; alone = w.alone; flies = w.flies })

pub first_leaves : (n i : NodeState) (c b p : ℕ) → i ≡ n → IsNode i.shape i.journal i.table i.queue → BeginsIn n.journal c (b ∷ []) →
    ((x : Slot) → slot_at i.table b ≡ Some x → p ≡ x.id) → FirstIs n.journal n.table c b p
first_leaves n i c b p is m f same =
    subst (λ (x : NodeState). FirstIs x.journal x.table c b p) is
    (first_is i.shape i.journal i.table i.queue c b p m (subst (λ (x : NodeState). BeginsIn x.journal c (b ∷ [])) (sym is) f) same)

-- the blocks of a batch in front of its flight are those in which the flight begins
pub batch_begins : (h : History) (c : ℕ) (ps qs bs : List ℕ) → flight h c ≡ ps ++ qs → map (block_of h) ps ≡ map (λ b. Some b) bs → BeginsIn h c bs
batch_begins h c ps qs bs f e = record {
  others = map (block_of h) qs;
  blocks = ap (map (block_of h)) f ∙ blocks-append ps ∙ ap (λ os. os ++ map (block_of h) qs) e;
} where
  blocks-append : (xs : List ℕ) → map (block_of h) (xs ++ qs) ≡ map (block_of h) xs ++ map (block_of h) qs
  blocks-append [] = refl
  blocks-append (x ∷ xs) = ap (λ (os : List (Option ℕ)). block_of h x ∷ os) (blocks-append xs)

-- and their return is that of the batch
pub batch_taken : (h : History) (c n : ℕ) (ps qs : List ℕ) → flight h c ≡ ps ++ qs → n ≡ length ps → take n (flight h c) ≡ ps
batch_taken h c n ps qs f e = ap (take n) f ∙ ap (λ k. take k (ps ++ qs)) e ∙ take-append_seam ps qs

-- what was done by the return of a batch, with what was reserved before it
pub batch_did : (old mid new : NodeState) (c n : ℕ) (t : BatchState) → mid.shape ≡ old.shape → mid.journal ≡ old.journal → old.room ≤ mid.room → mid.table.accesses ≡ old.table.accesses →
    c ≡ t.caller → IsInFront old.journal t → n ≡ length (still_flying old.journal t.caller t.pages) → Did mid new c (return_first mid.shape mid.journal c n) →
    Did old new t.caller (put_back_events old.shape old.journal t.caller t.pages)
batch_did old mid new c n t s j r w who f e m = grind (arith, batch_taken)

-- what a put-back answers, by how many of its pages went back
pub batch_reply : (s r : Shape) (h k : History) (c n back : ℕ) (t : BatchState) → r ≡ s → k ≡ h → c ≡ t.caller → IsInFront h t → n ≡ length (still_flying h t.caller t.pages) →
    back ≡ count_by (goes_back r k) (take n (flight k c)) →
    (back ≤ n) × (the_reply back (n - back) ≡ back_reply s h (still_flying h t.caller t.pages))
batch_reply s r h k c n back t same is who f e b =
    let ps : List ℕ = still_flying h t.caller t.pages in
    let taken : take n (flight h t.caller) ≡ ps = batch_taken h t.caller n ps f.others f.front e in
    let count : back ≡ count_by (goes_back s h) ps =
    b ∙ ap₂ (λ z (x : History). count_by (goes_back z x) (take n (flight x c))) same is ∙ ap (λ x. count_by (goes_back s h) (take n (flight h x))) who ∙ ap (count_by (goes_back s h)) taken in
    let both : count_by (is_dropped s h) ps + count_by (goes_back s h) ps ≡ length ps = counts_both ps in (
      omega (arith, count, both, e),
      ap₂ the_reply count (omega (arith, count, both, e)),
    ) where
      one : (x : Bool) → cond x 1 0 + cond (not x) 1 0 ≡ 1
      one true = refl
      one false = refl

      counts_both : (qs : List ℕ) → count_by (is_dropped s h) qs + count_by (goes_back s h) qs ≡ length qs
      counts_both [] = refl
      counts_both (q ∷ qs) =
          omega (arith, count-cons (is_dropped s h) q qs, count-cons (goes_back s h) q qs, one (is_dropped s h q), counts_both qs)
