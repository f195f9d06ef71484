-- Open batches at their callers' places: what holds of each of them as one is changed.
use Rattle.std.proofs.Common.{◌≡◌, ◌∙◌, ◌≢◌, ◌+◌, ◌<◌, ◌==◌, ap, ℕ, Bool, true, false, List, length, refl, sym, subst, arith, Option, Some, None, Err, set, get_or, unwrap_or}
use Rattle.std.proofs.lemmas.Bool.{eqb-true, eqb-false}
use Rattle.std.proofs.lemmas.List.{length-set, get_or-set_same, get_or-set_other, set-get_or}
use Rattle.thp_history.specs.Prelude.{History}
use Rattle.thp_node.specs.Prelude.{BatchState, IsInFront, FrontsStay, OtherFrontsStay, NodeState}
use Rattle.thp_capi.specs.Calls.{NextCall}
use Rattle.thp_capi.specs.Engines.{EngineState, IsEngine}
use Rattle.thp_capi.specs.OpenBatches.{EachOpen}
use Rattle.thp_capi.specs.declared.codes.Fault.TheVariants.{NoBatch}

abbrev pub Batches : Type 0
Batches = List (Option BatchState)

-- no batch, or one of caller c in front of its flight
abbrev pub IsFor : History → ℕ → Option BatchState → Type 0
IsFor h c x = (b : BatchState) → x ≡ Some b → (b.caller ≡ c) × IsInFront h b

inner : (a b : BatchState) → Some a ≡ Some b → a ≡ b
inner a b e = ap (λ o. unwrap_or o a) e

pub for_some : (h : History) (c : ℕ) (a : BatchState) → a.caller ≡ c → IsInFront h a → IsFor h c (Some a)
for_some h c a own front b is = subst (λ x. (x.caller ≡ c) × IsInFront h x) (inner a b is) (own, front)

pub for_none : (h : History) (c : ℕ) → IsFor h c None
for_none h c b is = absurd (cc)

-- the batches at the other places than that of caller c stay in front of their flights
abbrev pub OthersStay : History → History → ℕ → ℕ → Batches → Type 0
OthersStay h k first c bs = (i : ℕ) (b : BatchState) → i < length bs → b.caller ≡ first + i → b.caller ≢ c → IsInFront h b → IsInFront k b

-- one place is written anew
pub each_set : (h k : History) (first place c : ℕ) (bs : Batches) (x : Option BatchState) → EachOpen h first bs → OthersStay h k first c bs → first + place ≡ c → place < length bs → IsFor k c x → EachOpen k first (set bs place x)
each_set h k first place c bs x each stay at lt for i b within is = by_place (i == place) refl
  where
    by_place : (test : Bool) → (i == place) ≡ test → (b.caller ≡ first + i) × IsInFront k b
    by_place true e =
        let here : i ≡ place = eqb-true i place e in
        let mine = for b (sym (get_or-set_same bs place x None lt) ∙ (rw here at is)) in
        (omega (arith, mine.0, at, here), mine.1)
    by_place false e =
        let other : (i ≡ place → ⊥) = eqb-false i place e in
        let inside : i < length bs = subst (λ l. i < l) (length-set bs place x) within in
        let was = each i b inside (sym (get_or-set_other bs place i x None other) ∙ is) in
        (was.0, stay i b inside was.0 (λ f. other (omega (arith, was.0, at, f))) was.1)

-- what stands there, written again, changes nothing
pub same_again : (bs : Batches) (place : ℕ) (x : Option BatchState) → get_or bs place None ≡ x → set bs place x ≡ bs
same_again bs place x is = ap (λ y. set bs place y) (sym is) ∙ set-get_or bs place None

-- ---- a node's

module _ (n m : NodeState) (bs : Batches) (engine : IsEngine (record { node = n; batches = bs })) where
  pub engine_stays : FrontsStay n.journal m.journal → IsEngine (record { node = m; batches = bs })
  engine_stays stay = record { places = engine.places; each = λ i b within is. let was = engine.each i b within is in (was.0, stay b was.1) }

  engine_set : (c : ℕ) (x : Option BatchState) → OtherFrontsStay c n.journal m.journal → c < length bs → IsFor m.journal c x → IsEngine (record { node = m; batches = set bs c x })
  engine_set c x stay lt for = record {
    places = length-set bs c x ∙ engine.places;
    each = each_set n.journal m.journal 0 c c bs x engine.each (λ i b within is other front. stay b other front) (omega arith) lt for;
  }

  -- after a take, or a try of the batch that is there
  pub engine_took : (new : Batches) (c : ℕ) (b : BatchState) → OtherFrontsStay c n.journal m.journal → c < length bs → b.caller ≡ c → IsInFront m.journal b → new ≡ set bs c (Some b) → IsEngine (record { node = m; batches = new })
  engine_took new c b stay lt own front now = rw now (engine_set c (Some b) stay lt (for_some m.journal c b own front))

  -- after the batch was closed
  pub engine_closed : (new : Batches) (c : ℕ) → FrontsStay n.journal m.journal → c < length bs → new ≡ set bs c None → IsEngine (record { node = m; batches = new })
  engine_closed new c stay lt now = rw now (engine_set c None (λ b other front. stay b front) lt (for_none m.journal c))

  -- the open batch of caller c is its own, and in front of its flight
  pub own_front : (c : ℕ) (b : BatchState) → c < length bs → get_or bs c None ≡ Some b → (b.caller ≡ c) × IsInFront n.journal b
  own_front c b lt is = let was = engine.each c b lt is in (omega (arith, was.0), was.1)

-- a try without an open batch
pub next_none : (n : NodeState) (bs new : Batches) (c : ℕ) → get_or bs c None ≡ None → new ≡ bs → NextCall c (record { node = n; batches = bs }) (record { node = n; batches = new }) (Err NoBatch)
next_none n bs new c is now =
    let state : Batches → EngineState = λ l. record { node = n; batches = l } in
    (tt, (λ d other. ap (λ (l : Batches). get_or l d None) now), (is, ap state now))
