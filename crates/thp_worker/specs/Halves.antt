-- Concurrent workers on the same nodes.
use Rattle.std.specs.Prelude.{◌≡◌, ℕ, ◌+◌, ◌<◌, ◌≤◌, ◌^◌, ⊤, List, [], ◌∷◌, ◌++◌, length, All}
use Rattle.thp_history.specs.Prelude.{History, events_of, IsLegal}
use Rattle.thp_script.specs.declared.script.Command.{Command}
use Rattle.thp_worker.specs.declared.reply.SectionOutcome.{SectionOutcome}
use Rattle.thp_worker.specs.Fronts.{Fronts, HoldsCaller, SameNodes}
use Rattle.thp_worker.specs.OpenBatches.{HasNoBatch}
use Rattle.thp_worker.specs.Sections.{IsWorkFor, Works}

-- g knows of caller c what f knows, or more of what others did
pub record KnowsOf (c : ℕ) (f g : Fronts) : Type 0 where
  pub part : (n : ℕ) → events_of c (g.front n) ≡ events_of c (f.front n)
  pub batches : (n : ℕ) → g.batches c n ≡ f.batches c n

-- the holder's callers did nothing, and each node's history may be extended
pub record Later (f g : Fronts) : Type 0 where
  pub grown : (n : ℕ) → (more : History) × (g.front n ≡ f.front n ++ more)
  pub own : (c : ℕ) → HoldsCaller f c → KnowsOf c f g

-- a part of the callers, at the same fronts
pub record IsPart (f g : Fronts) : Type 0 where
  pub same : SameNodes f g
  pub front : (n : ℕ) → g.front n ≡ f.front n
  pub batches : (c n : ℕ) → HoldsCaller g c → g.batches c n ≡ f.batches c n

pub record AreFrontsSplit (at : ℕ) (f l r : Fronts) : Type 0 where
  pub left : IsPart f l
  pub right : IsPart f r
  pub first : l.first ≡ f.first
  pub middle : (l.end ≡ at) × (r.first ≡ at)
  pub end : r.end ≡ f.end

pub record CanJoin (l r : Fronts) : Type 0 where
  pub same : SameNodes l r
  pub adjoin : l.end ≡ r.first

pub record AreFrontsJoined (l r f : Fronts) : Type 0 where
  pub same : SameNodes l f
  pub first : f.first ≡ l.first
  pub end : f.end ≡ r.end
  pub left : Later l f
  pub right : Later r f
  pub legal : (n : ℕ) → IsLegal (l.shape n) (l.front n) → IsLegal (r.shape n) (r.front n) → IsLegal (f.shape n) (f.front n)

-- the sections of the workers from c on
unfoldable pub AllWork : ℕ → Fronts → Fronts → List (List Command) → List SectionOutcome → Type 0
AllWork c old new [] [] = ⊤
AllWork c old new [] (w ∷ ws) = ⊥
AllWork c old new (v ∷ vs) [] = ⊥
AllWork c old new (v ∷ vs) (w ∷ ws) = Works c old new v w × AllWork (c + 1) old new vs ws

-- few commands, each for an existing node
pub record AreCommandsFor (nodes : ℕ) (commands : List Command) : Type 0 where
  pub few : length commands < 2 ^ 32
  pub fit : All (IsWorkFor nodes) commands

-- the passes have the workers from `from` on, and these are all workers from there on; none has an open batch
pub record CanRun (f : Fronts) (from : ℕ) (workers : List (List Command)) : Type 0 where
  pub some : 0 < length workers
  pub low : f.first ≤ from
  pub high : f.end ≡ from + length workers
  pub fits : f.end < 2 ^ 32
  pub sections : All (AreCommandsFor f.nodes) workers
  pub shut : (c : ℕ) → HoldsCaller f c → from ≤ c → HasNoBatch c f

-- the workers from `from` on executed their sections after what was known, and the passes' other callers did nothing
pub record RangeDone (from : ℕ) (old new : Fronts) (workers : List (List Command)) (done : List SectionOutcome) : Type 0 where
  pub same : SameNodes old new
  pub first : new.first ≡ old.first
  pub end : new.end ≡ old.end
  pub grown : (n : ℕ) → (more : History) × (new.front n ≡ old.front n ++ more)
  pub others : (c : ℕ) → HoldsCaller old c → c < from → KnowsOf c old new
  pub legal : (n : ℕ) → IsLegal (old.shape n) (old.front n) → IsLegal (old.shape n) (new.front n)
  pub work : AllWork from old new workers done
