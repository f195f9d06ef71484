-- What the check of a journal text answers, node by node, and that no choice of blocks is wronged by it.
use Rattle.std.proofs.Common.{◌≡◌, ℕ, ◌+◌, ◌<◌, Bool, cond, List, [], ◌∷◌, length, get_or, Option, Some, None, Result, Ok, Err, refl, subst, arith, All, slice_get, nat_lt}
use Rattle.std.proofs.lemmas.Bool.{cases_lt}
use Rattle.std.proofs.lemmas.List.Elements.{All-cons, All-nil}
use Rattle.std.proofs.lemmas.Option.{slice_get_within, slice_get-get_or}
use Rattle.thp_history.specs.declared.shape.Shape.{Shape}
use Rattle.thp_history.specs.Prelude.{with_least_blocks, History, IsLegal, IsFirstMisfit}
use Rattle.thp_history.proofs.LeastBlocks.{least_is_legal, least_same}
use Rattle.thp_script.specs.declared.fault.TextKind.TheVariants.{TooLong}
use Rattle.thp_script.specs.Prelude.{◌>>=◌, Fault, Text, lines_of}
use Rattle.thp_journal_reader.specs.Prelude.{ReadJournals, ReadNode, Line, Head, Node, Happened, End, Start, Accepted, AreLegalBefore, CanBeLegal, IsLegalNode, ReportsIllegal, node_events, journals_with, journals_accepted, lines_from, node_journal, nodes_of}

-- the first misfit is one of the events
pub misfit_inside : (shape : Shape) (h : History) (place : ℕ) → IsFirstMisfit shape h place → place < length h
misfit_inside shape h place first = slice_get_within h place first.misfit.0 first.misfit.1

-- ---- node by node

-- before the first node nothing is illegal
pub legal_none : (nodes : List ReadNode) → AreLegalBefore 0 nodes
legal_none nodes = λ k node lt here. absurd (omega arith)

-- and one more legal node leaves it so
pub legal_more : (nodes : List ReadNode) (place : ℕ) (node : ReadNode) → place < length nodes → node ≡ get_or nodes place node → AreLegalBefore place nodes → IsLegalNode node → AreLegalBefore (place + 1) nodes
legal_more nodes place node inside is before legal = grind (arith, cases_lt, slice_get, slice_get-get_or)

-- ---- any choice of blocks

-- the node's blocks are the least ones
abbrev pub HasLeastBlocks : ReadNode → Type 0
HasLeastBlocks node = (h : History) × (node.events ≡ with_least_blocks node.shape h)

-- each node that lines report has them
pub each_least : (number : ℕ) (lines : List Line) → All HasLeastBlocks (nodes_of number lines)
each_least number [] = All-nil HasLeastBlocks
each_least number (Head version ∷ lines) = each_least (number + 1) lines
each_least number (Happened event ∷ lines) = each_least (number + 1) lines
each_least number (End ∷ lines) = each_least (number + 1) lines
each_least number (Node n shape ∷ lines) =
    All-cons HasLeastBlocks (node_journal (number + 1) shape (node_events lines)) (nodes_of (number + 1) lines) (node_events lines, refl) (each_least (number + 1) lines)

all_least : (lines : List Line) → All HasLeastBlocks (journals_with lines).nodes
unfolding journals_with
all_least lines = each_least 1 lines

-- what is read, where nothing is at fault, is determined by lines
abbrev no_journals : Fault → Result ReadJournals Fault
no_journals fault = Err fault

lines_read : (long : Bool) (fault : Fault) (read : Result (List Line) Fault) (journals : ReadJournals) → cond long (no_journals fault) (read >>= λ lines. Ok (journals_with lines)) ≡ Ok journals → (lines : List Line) × (journals_with lines ≡ journals)
lines_read x fault read journals e = grind arith

lines_of_journals : (v : Accepted) (most : ℕ) (text : Text) (journals : ReadJournals) → journals_accepted v most text ≡ Ok journals → (lines : List Line) × (journals_with lines ≡ journals)
unfolding journals_accepted
lines_of_journals v most text journals e = lines_read (nat_lt most (length text)) (0, TooLong) (lines_from 1 (Start v) (lines_of text)) journals e

least_read : (v : Accepted) (most : ℕ) (text : Text) (journals : ReadJournals) → journals_accepted v most text ≡ Ok journals → All HasLeastBlocks journals.nodes
least_read v most text journals e =
    let reported = lines_of_journals v most text journals e in
    let P : ReadJournals → Type 0 = λ js. All HasLeastBlocks js.nodes in
    subst P reported.1 (all_least reported.0)

-- where some choice of blocks is legal, the least blocks are
legal_if_any : (node : ReadNode) → HasLeastBlocks node → CanBeLegal node → IsLegalNode node
legal_if_any node least can = grind (arith, least_same, least_is_legal)

-- a legal history has no misfit
pub misfit_is_illegal : (shape : Shape) (h : History) (place : ℕ) → IsFirstMisfit shape h place → IsLegal shape h → ⊥
misfit_is_illegal shape h place first legal = first.misfit.2 (legal.each place first.misfit.0 first.misfit.1)

-- an element that was found has what all have
pub found_has : (P : ReadNode → Type 0) (nodes : List ReadNode) (place : ℕ) (node : ReadNode) → slice_get nodes place ≡ Some node → All P nodes → P node
found_has P nodes place node here all =
    let inside : place < length nodes = slice_get_within nodes place node here in
    let there : slice_get nodes place ≡ Some (get_or nodes place node) = slice_get-get_or nodes place node inside in
    let same : get_or nodes place node ≡ node = cc in
    subst P same (all place node inside)

pub none_wronged : (nodes : List ReadNode) (line : Option ℕ) → All HasLeastBlocks nodes → ReportsIllegal nodes line → All CanBeLegal nodes → line ≡ None
none_wronged nodes None least reported can = refl
none_wronged nodes (Some line) least reported can =
    let node = reported.node in
    let legal : IsLegalNode node =
    legal_if_any node (found_has (λ n. HasLeastBlocks n) nodes reported.place node reported.here least) (found_has (λ n. CanBeLegal n) nodes reported.place node reported.here can) in
    absurd (misfit_is_illegal node.shape node.events reported.first.place reported.first.misfit legal)

-- the answer to a text is no line where some choice of blocks is legal
pub free_choice : (v : Accepted) (most : ℕ) (text : Text) (journals : ReadJournals) (line : Option ℕ) → journals_accepted v most text ≡ Ok journals → ReportsIllegal journals.nodes line → (others : ReadJournals) → journals_accepted v most text ≡ Ok others → All CanBeLegal others.nodes → line ≡ None
free_choice v most text journals line read reported others read-too can =
    let same : others ≡ journals = cc in
    let P : ReadJournals → Type 0 = λ js. All CanBeLegal js.nodes in
    none_wronged journals.nodes line (least_read v most text journals read) reported (subst P same can)
