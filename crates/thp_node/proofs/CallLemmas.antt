-- What a call did, put together from what its parts did.
use Rattle.std.proofs.Common.{Result, Ok, Err, IfErr, IsErrAnd, subst, sym, ◌≡◌, Option, Some, None, ℕ, zero, suc, ◌+◌, ◌<◌, ◌≤◌, List, [], ◌∷◌, ◌++◌, length, ap, ◌∙◌, arith, get_or, length-append, append_assoc, All}
use Rattle.std.proofs.lemmas.Bool.{cases_lt}
use Rattle.thp_history.specs.declared.refusal.Refusal.{Refusal}
use Rattle.thp_history.specs.declared.events.Event.{Event}
use Rattle.thp_history.specs.declared.events.What.{What}
use Rattle.thp_history.specs.Prelude.{by, IsLegal}
use Rattle.thp_history.proofs.ListPlaces.{append_none}
use Rattle.thp_live_pages.specs.Prelude.{PageStoreState}
use Rattle.thp_node.specs.Prelude.{Did, Refused, JournalState, NodeState}

-- what contracts see of a node that has this journal and these blocks
abbrev pub node_of : JournalState → PageStoreState → NodeState
node_of j b = record { shape = j.shape; journal = j.events; room = j.room; table = b.table; queue = b.queue }

-- what `?` returns of a refusal
pub fails_as : {A : Type 0} (r : Result A Refusal) (e : Refusal) (P : Refusal → Type 0) → IsErrAnd r (λ f. f ≡ e) → P e → IfErr r P
fails_as (Ok a) e P is p = absurd is
fails_as (Err f) e P is p = subst P (sym is) p

-- each event of a list is by caller c
pub own_none : (c : ℕ) → All (λ (e : Event). e.caller ≡ c) []
own_none c = λ k d l. absurd (let below : k < 0 = l in omega arith)

pub own_more : (c : ℕ) (w : What) (es : List Event) → All (λ (e : Event). e.caller ≡ c) es → All (λ (e : Event). e.caller ≡ c) (by c w ∷ es)
own_more c w es a = grind (arith, get_or)

pub own-append : (c : ℕ) (es fs : List Event) → All (λ (e : Event). e.caller ≡ c) es → All (λ (e : Event). e.caller ≡ c) fs → All (λ (e : Event). e.caller ≡ c) (es ++ fs)
own-append c [] fs a b = b
own-append c (e ∷ es) fs a b =
    let rest : All (λ (e : Event). e.caller ≡ c) (es ++ fs) = own-append c es fs (λ k d l. a (suc k) d (omega arith)) b in go (a 0 e (omega arith)) rest where
      go : e.caller ≡ c → All (λ (e : Event). e.caller ≡ c) (es ++ fs) → (k : ℕ) (d : Event) → k < length (e ∷ (es ++ fs)) → (get_or (e ∷ (es ++ fs)) k d).caller ≡ c
      go first rest zero d l = first
      go first rest (suc k) d l = rest k d (omega arith)

-- nothing was done
pub did_none : (old new : NodeState) (c : ℕ) → new.shape ≡ old.shape → new.journal ≡ old.journal → IsLegal new.shape new.journal → old.room ≤ new.room →
    new.table.accesses ≡ old.table.accesses → Did old new c []
did_none old new c s j l r w = grind (arith, append_none, own_none)

-- one event was recorded, once there was room for it
pub did_one : (old new : NodeState) (c : ℕ) (w : What) (room most : ℕ) → new.shape ≡ old.shape → new.journal ≡ old.journal ++ by c w ∷ [] → IsLegal new.shape new.journal →
    old.room ≤ room → new.room + 1 ≡ room → new.table.accesses ≤ old.table.accesses + most → most ≤ 8 → Did old new c (by c w ∷ [])
did_one old new c w room most s j l r g k m = grind (arith, own_more, own_none)

-- one run of events after another
pub did_then : (a b d : NodeState) (c : ℕ) (es fs : List Event) → Did a b c es → Did b d c fs → Did a d c (es ++ fs)
did_then a b d c es fs m n = record {
  shape = n.shape ∙ m.shape;
  journal = n.journal ∙ ap (λ gs. gs ++ fs) m.journal ∙ append_assoc a.journal es fs;
  own = own-append c es fs m.own n.own;
  legal = n.legal;
  room = omega (arith, m.room, n.room, length-append es fs);
  work = omega (arith, m.work, n.work, length-append es fs);
}

-- a call that was refused once room was looked for: only a call that isn't refused makes room
pub refused_by : (old mid new : NodeState) (why : Option Refusal) (r : Refusal) → new ≡ mid → why ≡ Some r → (0 < old.room → mid ≡ old) → (old.room ≡ 0 → why ≡ None) →
    Refused old new why 1 r
refused_by old mid new why r kept is same none = grind (arith, cases_lt)
