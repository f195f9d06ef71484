-- What is kept of a node for its drawing is its drawing.
use Rattle.std.proofs.Common.{◌≡◌, ◌∷◌, [], ℕ, Option, Some, arith, subst, sym, slice_get}
use Rattle.thp_drawing.specs.declared.node.IllegalEvent.{IllegalEvent}
use Rattle.thp_drawing.specs.declared.node.DrawnNode.{DrawnNode}
use Rattle.thp_journal_reader.specs.declared.long_check.Illegal.{Illegal}
use Rattle.thp_journal_reader.specs.declared.journals.ReadNode.{ReadNode}
use Rattle.thp_journal_reader.specs.Prelude.{IsFirstIllegalEvent, IsStored, ReportsFirst}
use Rattle.thp_journal_tools.specs.Keeping.{illegal_event_of, KeepsDrawing}
use Rattle.thp_journal_tools.specs.Nodes.{IsDrawnOf, IsOwnIllegal, ReportsOwn}

-- ---- illegal events

-- the first illegal event of the only node is its own
own_of_one : (node : ReadNode) (illegal : Illegal) (place : ℕ) (here : ReadNode) → slice_get (node ∷ []) place ≡ Some here → node ≡ here
own_of_one node illegal x here e = grind arith

own_illegal : (node : ReadNode) (illegal : Illegal) → IsFirstIllegalEvent (node ∷ []) illegal → IsOwnIllegal node (record { line = illegal.line; event = illegal.event })
own_illegal node illegal first =
    let P : ReadNode → Type 0 = λ n. IsOwnIllegal n (record { line = illegal.line; event = illegal.event }) in
    subst P (sym (own_of_one node illegal first.line.place first.line.node first.line.here)) (record { first = first.line.first; event_is = first.event })

pub own_of : (node : ReadNode) (illegal : Option Illegal) → ReportsFirst (node ∷ []) illegal → ReportsOwn node (illegal_event_of illegal)
own_of node x legal = grind (arith, own_illegal)

-- ---- nodes

pub as_drawn : (node : ReadNode) (kept : DrawnNode) → IsStored KeepsDrawing node kept → IsDrawnOf node kept
as_drawn node kept is =
    let T : Option IllegalEvent → Type 0 = λ i. ReportsOwn node i in
    let k = is.kept_is in
    record { front = is.front; legal = is.legal; shape_is = k.shape_is; columns_are = k.columns_are; last_is = k.last_is; illegal_is = subst T (sym k.illegal_is) (own_of node is.illegal is.first); stuck_are = k.stuck_are }
