-- Nodes in cells, and the passes that have all callers of each.
use Rattle.std.specs.Prelude.{◌≡◌, ℕ, ◌+◌, ◌<◌, ◌^◌, ⊤, List, [], ◌∷◌, All, Option, Some, None, length, map, slice_get}
use Rattle.atomic_table.specs.Seated.{TableId}
use Rattle.thp_history.specs.declared.shape.Shape.{Shape}
use Rattle.thp_history.specs.Prelude.{History}
use Rattle.thp_node.specs.Prelude.{NodeState}
use Rattle.thp_cell.specs.Prelude.{AllBelow, PassState}
use Rattle.thp_script.specs.declared.script.ScriptSections.{ScriptSections}
use Rattle.thp_worker.specs.declared.reply.SectionLog.{SectionLog}
use Rattle.thp_worker.specs.Prelude.{Fronts, Held, batch_of}
use Rattle.thp_run.specs.Sections.{IsNew, RunsTo}

-- equally many of both, and the two at each index are related in this way
unfoldable pub Pairs : {A B : Type 0} → (A → B → Type 0) → List A → List B → Type 0
Pairs R [] [] = ⊤
Pairs R (x ∷ xs) (y ∷ ys) = R x y × Pairs R xs ys
Pairs R _ _ = ⊥

abbrev pub cell_of : PassState → TableId
cell_of p = p.cell

abbrev pub pass_of : Held → PassState
pass_of h = h.pass

-- the pass has all of so many callers
pub record IsWhole (callers : ℕ) (p : PassState) : Type 0 where
  pub callers_are : p.callers ≡ callers
  pub first_is : p.first ≡ 0
  pub end_is : p.end ≡ callers

-- the pass has all of so many callers, of a node without events
pub record IsFreshPass (callers : ℕ) (p : PassState) : Type 0 where
  pub whole : IsWhole callers p
  pub front : p.front ≡ []

-- each section has few commands
pub record AreFew (script : ScriptSections) : Type 0 where
  pub setup : length script.setup < 2 ^ 32
  pub workers : All (λ commands. length commands < 2 ^ 32) script.workers

-- no caller of the pass has an open batch
pub record IsUnused (p : PassState) (h : Held) : Type 0 where
  pub pass : h.pass ≡ p
  pub shut : (c : ℕ) → batch_of h c ≡ None

-- the node is the pass's, and no event has a caller outside the cell
pub record IsNodeOf (p : PassState) (node : NodeState) : Type 0 where
  pub shape : node.shape ≡ p.shape
  pub journal : node.journal ≡ p.front
  pub callers : AllBelow p.callers node.journal

abbrev pub shape_at : Option PassState → Shape
shape_at (Some p) = p.shape
shape_at None = record { blocks = 0; order = 0; underused = None }

abbrev pub front_at : Option PassState → History
front_at (Some p) = p.front
front_at None = []

-- a script was run with passes that knew of no event, and these are the passes after it
pub record RunsOn (old new : List PassState) (script : ScriptSections) (sections : List SectionLog) : Type 0 where
  pub before : Fronts
  pub after : Fronts
  pub starts : IsNew (length script.workers) before
  pub runs : RunsTo before after script sections
  pub nodes : before.nodes ≡ length old
  pub shapes_before : (n : ℕ) → before.shape n ≡ shape_at (slice_get old n)
  pub shapes : (n : ℕ) → after.shape n ≡ shape_at (slice_get new n)
  pub fronts : (n : ℕ) → after.front n ≡ front_at (slice_get new n)
  pub count : length new ≡ length old
  pub cells : map cell_of new ≡ map cell_of old
  pub whole : All (IsWhole (1 + length script.workers)) new
