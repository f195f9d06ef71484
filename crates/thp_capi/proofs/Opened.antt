-- Passes and the open batches of their callers: what calls keep, and where a caller's batch is found.
use Rattle.std.proofs.Common.{Result, IsErrAnd, ◌≡◌, ◌∙◌, ◌≢◌, ◌++◌, ◌+◌, ◌-◌, ◌<◌, ◌≤◌, ap, ℕ, Bool, true, false, length, refl, sym, subst, arith, length-append, length-drop, Option, Some, None, Ok, Err, set, get_or, take, drop, nat_le}
use Rattle.std.proofs.lemmas.Bool.Decides.{nat_tests}
use Rattle.std.proofs.lemmas.List.{length-take, length-set, get_or-take, get_or-drop, get_or-set_same, get_or-set_other, get_or_append_left, get_or-append-add}
use Rattle.atomic_table.specs.Seated.{TableId}
use Rattle.thp_node.specs.Prelude.{BatchState, IsInFront, rest}
use Rattle.thp_history.specs.Prelude.{put_back_events, refusal, split_next_events, take as take_call, take_events}
use Rattle.thp_cell.specs.Prelude.{at_front, continuing, BatchesStay, OtherBatchesStay, Called, Failed, IsJoined, below, from, DidPutBack, DidTake, DidTry, PassState, HasCaller}
use Rattle.thp_history.specs.declared.refusal.Refusal.{Refusal}
use Rattle.thp_cell.specs.declared.fault.CellFault.{CellFault}
use Rattle.thp_cell.specs.declared.fault.CellFault.TheVariants as fault
use Rattle.thp_capi.specs.Codes.{fault_in}
use Rattle.thp_capi.specs.PassBatches.{PassNext, PassBack, PassTake, PassFailsOnBatch, PassFailsTaking}
use Rattle.thp_capi.specs.Replies.{tried_of}
use Rattle.thp_capi.specs.declared.codes.Fault.{Fault}
use Rattle.thp_capi.specs.declared.codes.Fault.TheVariants.{NoBatch}
use Rattle.thp_capi.specs.Sharing.{ChangesOnly, IsShared, IsSharedPart, OnlyFront, SharedState, shared_batch_of}
use Rattle.thp_node.specs.declared.answers.BackReply.{BackReply}
use Rattle.thp_capi.specs.declared.replies.ThpTried.{ThpTried}
use Rattle.thp_capi.proofs.Places.{Batches, IsFor, each_set, for_none, for_some, same_again}

-- ---- calls that leave the open batches alone

-- the batch at a place is one of the pass's callers
pub own_at : (t : TableId) (n m : ℕ) (p : PassState) (bs : Batches) → IsShared t n m p bs → (k : ℕ) (b : BatchState) → k < length bs → b.caller ≡ p.first + k → HasCaller p b.caller
own_at t n m p bs shared k b within is = record { from = omega (arith, is); below = omega (arith, is, within, shared.places) }

pub shared_stays : (t : TableId) (n m : ℕ) (p q : PassState) (bs : Batches) → IsShared t n m p bs → q ≡ continuing p q → BatchesStay p q → IsShared t n m q bs
shared_stays t n m p q bs shared same stay = grind (arith, own_at)

-- where only the front changed, the lock steps are the same
pub continues : (p q : PassState) → q ≡ at_front p q.front → q ≡ continuing p q
continues p q same = same ∙ (λ i. record p { front = q.front; locks = (sym same i).locks; misses = (sym same i).misses })

-- and after a call that failed only the front and the lock steps changed
failed_continues : (p q : PassState) (why : Option Refusal) (k : ℕ) (f : CellFault) → Failed p q why k f → q ≡ continuing p q
failed_continues p q why k fault.Busy busy = subst (λ (x : PassState). x ≡ continuing p x) (sym busy.same) refl
failed_continues p q why k (fault.Refused r) refused =
    let same = refused.follows.same in
    same ∙ (λ i. record p { front = q.front; locks = (sym same i).locks; misses = (sym same i).misses })

-- nor does a call that failed move one
pub shared_failed : (t : TableId) (n m : ℕ) (p q : PassState) (bs : Batches) (why : Option Refusal) (k : ℕ) (f : CellFault) → IsShared t n m p bs → Failed p q why k f → IsShared t n m q bs
shared_failed t n m p q bs why k x shared fails = grind (arith, shared_stays, failed_continues)

-- batches that stay in front do so whoever's they are
pub others_stay : (p q : PassState) (c : ℕ) → BatchesStay p q → OtherBatchesStay c p q
others_stay p q c stay b has other front = stay b has front

-- only the front of the pass and its lock steps changed
pub only_front : (mark : ℕ) (p q : PassState) (bs : Batches) → q ≡ continuing p q → OnlyFront (record { mark = mark; pass = p; batches = bs }) (record { mark = mark; pass = q; batches = bs })
only_front mark p q bs same =
    let state : PassState → SharedState = λ x. record { mark = mark; pass = x; batches = bs } in
    ap state same

-- ---- calls that change one

pub shared_set : (t : TableId) (n m : ℕ) (p q : PassState) (bs : Batches) (c place : ℕ) (x : Option BatchState) → IsShared t n m p bs → q ≡ continuing p q → OtherBatchesStay c p q → place + p.first ≡ c → place < length bs → IsFor q.front c x → IsShared t n m q (set bs place x)
shared_set t n m p q bs c place x shared same stay at lt for =
    let first : q.first ≡ p.first = ap (λ (x : PassState). x.first) same in
    let end : q.end ≡ p.end = ap (λ (x : PassState). x.end) same in
    record {
      cell_is = ap (λ (x : PassState). x.cell) same ∙ shared.cell_is;
      callers = ap (λ (x : PassState). x.callers) same ∙ shared.callers;
      places = rw (first, end, length-set bs place x) shared.places;
      room_is = rw first shared.room_is;
      each = rw first (each_set p.front q.front p.first place c bs x shared.each (λ i b within is other front. stay b (own_at t n m p bs shared i b within is) other front) (omega (arith, at)) lt for);
    }

module _ (t : TableId) (n m room : ℕ) (p q : PassState) (bs new : Batches) (c place : ℕ) (shared : IsShared t n m p bs) (same : q ≡ continuing p q) (at : place + p.first ≡ c) (lt : place < length bs) (kept : room ≡ m) where
  -- after a take
  pub shared_took : (b : BatchState) → OtherBatchesStay c p q → b.caller ≡ c → IsInFront q.front b → new ≡ set bs place (Some b) → IsShared t n room q new
  shared_took b stay own front now = rw (now, kept) (shared_set t n m p q bs c place (Some b) shared same stay at lt (for_some q.front c b own front))

  -- after the batch was closed
  pub shared_closed : BatchesStay p q → new ≡ set bs place None → IsShared t n room q new
  shared_closed stay now = rw (now, kept) (shared_set t n m p q bs c place None shared same (others_stay p q c stay) at lt (for_none q.front c))

-- where the caller's batch is found
pub found_at : (mark c place : ℕ) (p : PassState) (bs : Batches) → place + p.first ≡ c → shared_batch_of (record { mark = mark; pass = p; batches = bs }) c ≡ get_or bs place None
found_at mark c place p bs at = grind (arith, nat_le, nat_tests)

pub found_set : (mark c place : ℕ) (p : PassState) (bs : Batches) (x : Option BatchState) → place + p.first ≡ c → place < length bs → shared_batch_of (record { mark = mark; pass = p; batches = set bs place x }) c ≡ x
found_set mark c place p bs x at lt = found_at mark c place p (set bs place x) at ∙ get_or-set_same bs place x None lt

-- and another caller's
pub other_set : (mark c place : ℕ) (p q : PassState) (bs : Batches) (x : Option BatchState) → q ≡ continuing p q → place + p.first ≡ c → (d : ℕ) → d ≢ c → shared_batch_of (record { mark = mark; pass = q; batches = set bs place x }) d ≡ shared_batch_of (record { mark = mark; pass = p; batches = bs }) d
other_set mark c place p q bs x same at d other = grind (arith, nat_le, nat_tests, get_or-set_other)

-- ---- what calls about an open batch did

module _ (mark : ℕ) (p q : PassState) (bs new : Batches) (c place : ℕ) (same : q ≡ continuing p q) (at : place + p.first ≡ c) (lt : place < length bs) where
  only_of : (x : Option BatchState) → new ≡ set bs place x → ChangesOnly c (record { mark = mark; pass = p; batches = bs }) (record { mark = mark; pass = q; batches = new })
  only_of x now = rw now (record { mark = refl; pass = same; others = other_set mark c place p q bs x same at })

  held : (b : BatchState) → get_or bs place None ≡ Some b → shared_batch_of (record { mark = mark; pass = p; batches = bs }) c ≡ Some b
  held b is = found_at mark c place p bs at ∙ is

  here : (x : Option BatchState) → new ≡ set bs place x → shared_batch_of (record { mark = mark; pass = q; batches = new }) c ≡ x
  here x now =
      let first : q.first ≡ p.first = ap (λ (x : PassState). x.first) same in
      rw now (found_set mark c place q bs x (rw first at) lt)

  failed : (m : BatchState → ℕ) (b : BatchState) (f : CellFault) → get_or bs place None ≡ Some b → new ≡ bs → Failed p q None (m b) f → PassFailsOnBatch c m (record { mark = mark; pass = p; batches = bs }) (record { mark = mark; pass = q; batches = new }) (fault_in f)
  failed m b x is stays fails = grind (arith, held)

  pub next_done : (b b' : BatchState) (t : ThpTried) → t.kind ≤ 3 → get_or bs place None ≡ Some b → b.caller ≡ c → new ≡ set bs place (Some b') → b'.caller ≡ b.caller → b'.pages ≡ b.pages → Called p q b.caller (DidTry p.shape b b' (tried_of t))
      → PassNext c (record { mark = mark; pass = p; batches = bs }) (record { mark = mark; pass = q; batches = new }) (Ok t)
  next_done b b' t kind is own now caller pages did = (only_of (Some b') now, rw (held b is, here (Some b') now) (record { caller_is = caller; pages = pages; kind = kind; did = subst (λ d. Called p q d (DidTry p.shape b b' (tried_of t))) own did }), tt)

  pub next_failed : (b b' : BatchState) (f : CellFault) → get_or bs place None ≡ Some b → b.caller ≡ c → new ≡ set bs place (Some b') → b' ≡ b → Failed p q None (length (split_next_events q.shape q.front b.caller (rest b))) f
      → PassNext c (record { mark = mark; pass = p; batches = bs }) (record { mark = mark; pass = q; batches = new }) (Err (fault_in f))
  next_failed b b' f is own now kept fails =
      let stays : new ≡ bs = now ∙ ap (λ (x : BatchState). set bs place (Some x)) kept ∙ same_again bs place (Some b) is in
      (only_of (Some b') now, tt, failed (λ x. length (split_next_events q.shape q.front c (rest x))) b f is stays (subst (λ d. Failed p q None (length (split_next_events q.shape q.front d (rest b))) f) own fails))

  pub back_failed : (b : BatchState) (f : CellFault) → get_or bs place None ≡ Some b → b.caller ≡ c → new ≡ bs → Failed p q None (length (put_back_events q.shape q.front b.caller b.pages)) f
      → PassBack c (record { mark = mark; pass = p; batches = bs }) (record { mark = mark; pass = q; batches = new }) (Err (fault_in f))
  back_failed b f is own now fails =
      (only_of (Some b) (now ∙ sym (same_again bs place (Some b) is)), tt, tt, tt, failed (λ x. length (put_back_events q.shape q.front c x.pages)) b f is now (subst (λ d. Failed p q None (length (put_back_events q.shape q.front d b.pages)) f) own fails))

  pub take_done : (n count : ℕ) (b : BatchState) → get_or bs place None ≡ None → new ≡ set bs place (Some b) → Called p q c (DidTake p.shape c n b) → count ≡ length b.pages
      → PassTake c n (record { mark = mark; pass = p; batches = bs }) (record { mark = mark; pass = q; batches = new }) (Ok count)
  take_done n count b was now did size = (only_of (Some b) now, found_at mark c place p bs at ∙ was, rw (here (Some b) now) refl, rw (here (Some b) now) (did, size), tt)

  take_why : (n : ℕ) (f : CellFault) → new ≡ bs → Failed p q (refusal q.shape q.front (take_call c)) (length (take_events q.shape q.front c n)) f
      → PassFailsTaking n c (record { mark = mark; pass = p; batches = bs }) (record { mark = mark; pass = q; batches = new }) (fault_in f)
  take_why n fault.Busy now fails = rw now (only_front mark p q bs same, fails)
  take_why n (fault.Refused r) now fails = rw now (only_front mark p q bs same, fails)

  pub take_failed : (n : ℕ) (f : CellFault) → get_or bs place None ≡ None → new ≡ bs → Failed p q (refusal q.shape q.front (take_call c)) (length (take_events q.shape q.front c n)) f
      → PassTake c n (record { mark = mark; pass = p; batches = bs }) (record { mark = mark; pass = q; batches = new }) (Err (fault_in f))
  take_failed n f was now fails = (only_of None (now ∙ sym (same_again bs place None was)), tt, tt, tt, take_why n f now fails)

  pub back_done : (b : BatchState) (r : BackReply) → get_or bs place None ≡ Some b → b.caller ≡ c → new ≡ set bs place None → Called p q b.caller (DidPutBack p.shape b r)
      → PassBack c (record { mark = mark; pass = p; batches = bs }) (record { mark = mark; pass = q; batches = new }) (Ok r)
  back_done b r is own now did = (only_of None now, rw (held b is) refl, here None now, rw (held b is) (subst (λ d. Called p q d (DidPutBack p.shape b r)) own did), tt)

-- the result of a call that fails is its fault
pub reported_as : {A : Type 0} (r : Result A Fault) (f : Fault) → IsErrAnd r (λ e. e ≡ f) → r ≡ Err f
reported_as (Ok x) f is = absurd is
reported_as (Err e) f is = ap (λ x. Err x) is

-- a try without an open batch
pub next_none : (mark : ℕ) (p : PassState) (bs new : Batches) (c place : ℕ) → place + p.first ≡ c → place < length bs → get_or bs place None ≡ None → new ≡ bs
    → PassNext c (record { mark = mark; pass = p; batches = bs }) (record { mark = mark; pass = p; batches = new }) (Err NoBatch)
next_none mark p bs new c place at lt is now =
    let state : Batches → SharedState = λ l. record { mark = mark; pass = p; batches = l } in
    (only_of mark p p bs new c place refl at lt None (now ∙ sym (same_again bs place None is)), tt, (found_at mark c place p bs at ∙ is, ap state now))

-- ---- parts, and passes of both

pub shared_below : (t : TableId) (n m : ℕ) (p : PassState) (bs : Batches) (at k : ℕ) → IsShared t n m p bs → k + p.first ≡ at → at ≤ p.end → IsShared t n m (below p at) (take k bs)
shared_below t n m p bs at k shared is le = grind (arith, length-take, get_or-take)

pub shared_from : (t : TableId) (n m room : ℕ) (p : PassState) (bs : Batches) (at k : ℕ) → IsShared t n m p bs → k + p.first ≡ at → at ≤ p.end → n ≤ at + room → IsShared t n room (from p at) (drop k bs)
shared_from t n m room p bs at k shared is le enough = grind (arith, length-drop, get_or-drop)

-- the callers of each part keep their open batches
pub part_below : (mark : ℕ) (p : PassState) (bs : Batches) (at k : ℕ) → k + p.first ≡ at → IsSharedPart (below p at) (record { mark = mark; pass = p; batches = bs }) (record { mark = mark; pass = below p at; batches = take k bs })
part_below mark p bs at k is = record { pass = refl; mark = refl; batches = λ c has. grind (arith, nat_le, nat_tests, get_or-take) }

pub part_from : (mark : ℕ) (p : PassState) (bs : Batches) (at k : ℕ) → k + p.first ≡ at → IsSharedPart (from p at) (record { mark = mark; pass = p; batches = bs }) (record { mark = mark; pass = from p at; batches = drop k bs })
part_from mark p bs at k is = record { pass = refl; mark = refl; batches = λ c has. grind (arith, nat_le, nat_tests, get_or-drop) }

pub shared_joined : (t u : TableId) (n m h l room : ℕ) (p q r : PassState) (bs cs : Batches) → IsShared t n m p bs → IsShared u h l q cs → IsJoined p q r → BatchesStay p r → BatchesStay q r → p.end ≡ q.first → m ≤ room → IsShared t n room r (bs ++ cs)
shared_joined t u n m h l room p q r bs cs left right j left-stay right-stay adjacent enough =
    let first : r.first ≡ p.first = ap (λ (x : PassState). x.first) j.callers in
    let end : r.end ≡ q.end = ap (λ (x : PassState). x.end) j.callers in
    record {
      cell_is = ap (λ (x : PassState). x.cell) j.callers ∙ left.cell_is;
      callers = ap (λ (x : PassState). x.callers) j.callers ∙ left.callers;
      places = omega (arith, first, end, length-append bs cs, left.places, right.places, adjacent);
      room_is = omega (arith, first, left.room_is, enough);
      each = λ i b within e. by_side i b within e (nat_le (length bs) i) refl;
    }
  where
    by_side : (i : ℕ) (b : BatchState) → i < length (bs ++ cs) → get_or (bs ++ cs) i None ≡ Some b → (test : Bool) → nat_le (length bs) i ≡ test → (b.caller ≡ r.first + i) × IsInFront r.front b
    by_side i b within e true is =
        let first : r.first ≡ p.first = ap (λ (x : PassState). x.first) j.callers in
        let le : length bs ≤ i = grind (arith, nat_tests, is) in
        let place : i ≡ length bs + (i - length bs) = omega (arith, le) in
        let lt : i - length bs < length cs = omega (arith, le, within, length-append bs cs) in
        let at : get_or cs (i - length bs) None ≡ Some b = sym (get_or-append-add bs cs (i - length bs) None) ∙ ap (λ k. get_or (bs ++ cs) k None) (sym place) ∙ e in
        let was = right.each (i - length bs) b lt at in
        (omega (arith, was.0, first, left.places, adjacent, le), right-stay b (own_at u h l q cs right (i - length bs) b lt was.0) was.1)
    by_side i b within e false is =
        let first : r.first ≡ p.first = ap (λ (x : PassState). x.first) j.callers in
        let lt : i < length bs = grind (arith, nat_tests, is) in
        let was = left.each i b lt (sym (get_or_append_left bs cs None i lt) ∙ e) in
        (omega (arith, was.0, first), left-stay b (own_at t n m p bs left i b lt was.0) was.1)
