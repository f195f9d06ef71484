-- One call of the node within a hold.
use Rattle.std.proofs.Common.{◌≡◌, ◌⊎◌, inl, inr, ⊎_elim, arith, ℕ, ◌<◌, ◌≤◌, Bool, true, List, [], ◌∷◌, ◌++◌, refl, sym, ap, ◌∙◌, subst, Option, Some, None, Result, IfOk, IfErr, append-nil}
use Rattle.std.proofs.lemmas.List.Elements.{All-append, All-weaker}
use Rattle.thp_history.specs.declared.events.Event.{Event}
use Rattle.thp_history.specs.declared.refusal.Refusal.{Refusal}
use Rattle.thp_history.specs.declared.refusal.Refusal.TheVariants.{OutOfMemory}
use Rattle.thp_history.specs.declared.shape.Shape.{Shape}
use Rattle.thp_history.specs.Prelude.{History, events_of, IsLegal}
use Rattle.thp_node.specs.Prelude.{BatchState, IsInFront, NodeState, Did, DidAlloc, Refused}
use Rattle.thp_cell.specs.Prelude.{AllBelow, Since, ExtendsBy, Place, pass_state, known_state, HasTaken, IsLocked, PassState, HasCaller, part, at_front, locking, Called, Follows, IsRefused}
use Rattle.atomic_table.specs.Table.{rest}
use Rattle.atomic_table.specs.Lent.{seat_with}
use Rattle.thp_cell.proofs.Fronts.{adds_none, adds_by, adds_more, known_more, whole_front}
use Rattle.thp_cell.proofs.Storing.{same_node}
use Rattle.thp_cell.proofs.Passes.{events_of-append, events_of_all, events_of_none, part_stays, flights_last, batch_stays, follows}

-- what a call left of the node: a node that may be put back
pub record Went (old new : NodeState) (first end : ℕ) : Type 0 where
  pub shape : new.shape ≡ old.shape
  pub legal : IsLegal new.shape new.journal
  pub adds : ExtendsBy first end old.journal new.journal

went_on : (old new : NodeState) (first end c : ℕ) (es : List Event) → first ≤ c → c < end → Did old new c es → Went old new first end
went_on old new first end c es from below did = grind (arith, adds_by)

went_nowhere : (old new : NodeState) (first end : ℕ) → IsLegal old.shape old.journal → new ≡ old → Went old new first end
went_nowhere old new first end legal same = subst (λ x. Went old x first end) (sym same) record { shape = refl; legal = legal; adds = adds_none first end old.journal }

module _ {A E : Type 0} where
  -- a call that recorded events or was refused
  pub went : (r : Result A E) (old new : NodeState) (first end c : ℕ) (es : A → List Event) (why : Option Refusal) (m : ℕ) (f : E → Refusal) → first ≤ c → c < end → IsLegal old.shape old.journal
      → IfOk r (λ a. Did old new c (es a)) → IfErr r (λ e. Refused old new why m (f e)) → Went old new first end
  went x old new first end c es why m f from below legal did refused = grind (arith, went_on, went_nowhere)

-- the same of an allocation
pub went_alloc : (r : Result ℕ Refusal) (old new : NodeState) (first end c : ℕ) (why : Option Refusal) (m : ℕ) → first ≤ c → c < end → IsLegal old.shape old.journal
    → IfOk r (λ p. DidAlloc old new c p) → IfErr r (λ e. Refused old new why m e) → Went old new first end
went_alloc x old new first end c why m from below legal did refused = grind (arith, went_on, went_nowhere)

-- the seat t has the slot, with the node `old`, which a pass that was p took, or kept already
pub record Holds (keeps : Bool) (p : PassState) (t : Place) (old : NodeState) : Type 0 where
  pub same : pass_state keeps t ≡ at_front (locking p) t.me.0.front
  pub callers : p.first < p.end
  pub inside : p.end ≤ p.callers
  pub has_node : t.me.0.has_node ≡ true
  pub slot : t.me.1 ≡ (0, old) ∷ []
  pub shape : old.shape ≡ p.shape
  pub since : Since p.first p.end p.front old.journal
  pub adds : ExtendsBy p.first p.end t.me.0.front old.journal
  pub legal : IsLegal old.shape old.journal
  pub known : AllBelow p.callers old.journal

-- what was taken is the node that the slot was then read to have
pub holds : (keeps : Bool) (p : PassState) (s t : Place) (y : NodeState) → known_state keeps s ≡ p → HasTaken (known_state keeps s) t → t.me.1 ≡ (0, y) ∷ [] → Holds keeps p t y
holds keeps p s t y is has read = grind (arith, same_node)

-- the node may be released, or kept, as the call left it
pub may_leave : {keeps : Bool} (p : PassState) (t : Place) (old new : NodeState) → Holds keeps p t old → Went old new p.first p.end → IsLocked (seat_with t 0 new)
may_leave p t old new held went =
    let is = sym held.same in record {
      lent = record {
        callers = subst (λ (q : PassState). q.first < q.end) is held.callers;
        inside = subst (λ (q : PassState). q.end ≤ q.callers) is held.inside;
        has_node = held.has_node;
        node = new;
        slot = ap (λ l. (0, new) ∷ rest l) held.slot;
        shape = went.shape ∙ (held.shape ∙ ap (λ (q : PassState). q.shape) is);
        legal = went.legal;
        adds = subst (λ (q : PassState). ExtendsBy q.first q.end t.me.0.front new.journal) is (adds_more p.first p.end t.me.0.front old.journal new.journal held.adds went.adds);
      };
      known = subst (λ (q : PassState). AllBelow q.callers new.journal) is (known_more p.first p.end p.callers old.journal new.journal held.inside held.known went.adds);
    }

-- the pass after the call: its front is the node's journal
pub after : {keeps : Bool} (p : PassState) (t u : Place) (old new : NodeState) → Holds keeps p t old → known_state keeps u ≡ known_state keeps (seat_with t 0 new) → known_state keeps u ≡ at_front (locking p) new.journal
after p t u old new held left = left ∙ ap (λ (q : PassState). at_front q new.journal) held.same

-- what is left of a batch is in front of its flight still, when the node is taken out
pub still_in_front : {keeps : Bool} (p : PassState) (t : Place) (old : NodeState) (b : BatchState) → Holds keeps p t old → HasCaller p b.caller → IsInFront p.front b → IsInFront old.journal b
still_in_front p t old b held has front = batch_stays p.shape p old.journal b held.since (subst (λ z. IsLegal z old.journal) held.shape held.legal) has front

-- batches that stay in front through the call stay so through the hold
pub batches_stay : {keeps : Bool} (p q : PassState) (t : Place) (old new : NodeState) (b : BatchState) → Holds keeps p t old → q ≡ at_front (locking p) new.journal → HasCaller p b.caller → IsInFront p.front b
    → (IsInFront old.journal b → IsInFront new.journal b) → IsInFront q.front b
batches_stay p q t old new b held is has front stays = subst (λ (x : PassState). IsInFront x.front b) (sym is) (stays (still_in_front p t old b held has front))

-- a call that was refused
pub refused : {keeps : Bool} (p q : PassState) (t : Place) (old new : NodeState) (why : Shape → History → Option Refusal) (m : Shape → History → ℕ) (r : Refusal) → Holds keeps p t old → q ≡ at_front (locking p) new.journal
    → Refused old new (why old.shape old.journal) (m old.shape old.journal) r → IsRefused p q (why q.shape q.front) (m q.shape q.front) r
refused p q t old new why m r held is not_done =
    let journal : new.journal ≡ old.journal = ap (λ (x : NodeState). x.journal) not_done.same in
    let legal : IsLegal p.shape old.journal = subst (λ z. IsLegal z old.journal) held.shape held.legal in
    let p' : PassState = locking p in
    let at : Follows p' (at_front p' new.journal) = subst (λ h. Follows p' (at_front p' h)) (sym journal) (follows p' (at_front p' old.journal) refl held.since held.known legal) in
    let cause = not_done.cause in
    let C : Shape × History → Type 0 = λ z. (why z.0 z.1 ≡ Some r) ⊎ ((why z.0 z.1 ≡ None) × (r ≡ OutOfMemory) × (0 < m z.0 z.1)) in
    let here : C (old.shape, old.journal) = ⊎_elim inl (λ (x : (why old.shape old.journal ≡ None) × (r ≡ OutOfMemory) × (old.room < m old.shape old.journal)). inr (x.0, x.1, some_event x)) cause in
    subst (λ (x : PassState). IsRefused p x (why x.shape x.front) (m x.shape x.front) r) (sym is) record {
      follows = at;
      cause = subst C (λ i. (held.shape i, sym journal i)) here;
    }
  where
    some_event : (why old.shape old.journal ≡ None) × (r ≡ OutOfMemory) × (old.room < m old.shape old.journal) → 0 < m old.shape old.journal
    some_event x = let few = x.2 in omega arith

-- a call that recorded events
pub called : {keeps : Bool} (p q : PassState) (t : Place) (old new : NodeState) (c : ℕ) (es : List Event) (Says : Shape → History → List Event → Type 0) → Holds keeps p t old → HasCaller p c → q ≡ at_front (locking p) new.journal
    → Did old new c es → Says old.shape old.journal es → Called p q c (Says p.shape)
called p q t old new c es Says held has is did says =
    let front : new.journal ≡ old.journal ++ es = did.journal in
    let others = held.since in
    let shape : old.shape ≡ p.shape = held.shape in
    let legal : IsLegal p.shape old.journal = subst (λ z. IsLegal z old.journal) shape held.legal in
    let callers = held.known in
    let inside = held.inside in
    let own = has.below in
    subst (λ (x : PassState). Called p x c (Says p.shape)) (sym is) record {
      locked = refl;
      found = old.journal;
      own = es;
      others = others;
      callers_found = callers;
      alone = λ all. whole_front p.callers p.first p.end p.front old.journal all.from all.to callers others;
      flights = flights_last p old.journal others legal;
      front = front;
      callers = subst (AllBelow p.callers) (sym front) (All-append (λ (e : Event). e.caller < p.callers) old.journal es callers
          (All-weaker (λ (e : Event). e.caller ≡ c) (λ (e : Event). e.caller < p.callers) (λ e is. omega arith) es did.own));
      legal = subst (λ z. IsLegal z new.journal) (did.shape ∙ shape) did.legal;
      by_caller = did.own;
      grown = ap (events_of c) front ∙ (events_of-append c old.journal es
          ∙ (λ i. part_stays p.first p.end c p.front old.journal has.from has.below others i ++ events_of_all c es did.own i));
      other_parts = λ d own other. ap (events_of d) front ∙ (events_of-append d old.journal es
          ∙ ((λ i. part_stays p.first p.end d p.front old.journal own.from own.below others i ++ events_of_none c d es other did.own i) ∙ append-nil (part p d)));
      says = subst (λ z. Says z old.journal es) shape says;
    }
