-- The nodes of a journal, as one more line is read.
use Rattle.std.proofs.Common.{◌≡◌, true, eq-eqb, ◌⊎◌, ℕ, suc, ◌+◌, ◌≤◌, List, [], ◌∷◌, ◌++◌, length, length-append, Result, refl, sym, ap, ◌∙◌, arith, inl, inr, All, IfOk, IfErr}
use Rattle.std.proofs.lemmas.List.Elements.{All-cons, All-nil, All-push, All-tail}
use Rattle.std.proofs.lemmas.List.Sums.{fold_push}
use Rattle.thp_history.specs.declared.events.Event.{Event}
use Rattle.thp_history.specs.declared.shape.Shape.{Shape}
use Rattle.thp_history.specs.Prelude.{event_with, least_free, with_least_blocks, History}
use Rattle.thp_journal_writer.specs.Prelude.{includes, version_limits}
use Rattle.thp_script.specs.declared.fault.ReadFault.{ReadFault}
use Rattle.thp_script.specs.declared.fault.ReadFault.TheVariants.{OutOfMemory}
use Rattle.thp_script.specs.Prelude.{Fault, ReportsFault}
use Rattle.thp_journal_reader.specs.Prelude.{ReadJournals, ReadNode, Line, Head, Node, Happened, End, node_events, node_journal, nodes_of, IsNodeJournal, HasShapeWithin, IsLineInRange, Place, Version, Underused, may_have_version, version_at, began, on_last, with_event, with_line, IsNodeBefore}

-- ---- the events of a node

-- one more event is an allocation in the least free block, or stays as it is
least_push : (shape : Shape) (h : History) (event : Event) → with_least_blocks shape (h ++ event ∷ []) ≡ with_least_blocks shape h ++ event_with (least_free shape (with_least_blocks shape h)) event ∷ []
unfolding with_least_blocks
least_push shape h event = fold_push (λ (k : History) (e : Event). k ++ event_with (least_free shape k) e ∷ []) [] h event

least_none : (shape : Shape) → with_least_blocks shape [] ≡ []
unfolding with_least_blocks
least_none shape = refl

-- a line that reports no event adds none to the node before it
events_of-other : (lines : List Line) (line : Line) → node_events (line ∷ []) ≡ [] → node_events (lines ++ line ∷ []) ≡ node_events lines
events_of-other [] line none = none
events_of-other (Head version ∷ lines) line none = events_of-other lines line none
events_of-other (Node number shape ∷ lines) line none = refl
events_of-other (Happened event ∷ lines) line none = ap (λ (h : History). event ∷ h) (events_of-other lines line none)
events_of-other (End ∷ lines) line none = events_of-other lines line none

-- behind these lines no other node begins, and one more event is one more of the node before them
pub record AddsHere (number : ℕ) (lines : List Line) (event : Event) : Type 0 where
  pub none : nodes_of number lines ≡ []
  pub here : node_events (lines ++ Happened event ∷ []) ≡ node_events lines ++ event ∷ []

-- among these lines another node begins, and one more event is none of the node before them
pub record AddsThere (number : ℕ) (lines : List Line) (event : Event) : Type 0 where
  pub node : ReadNode
  pub nodes : List ReadNode
  pub some : nodes_of number lines ≡ node ∷ nodes
  pub there : node_events (lines ++ Happened event ∷ []) ≡ node_events lines

event_adds : (number : ℕ) (lines : List Line) (event : Event) → AddsHere number lines event ⊎ AddsThere number lines event
event_adds number [] event = inl (record { none = refl; here = refl })
event_adds number (Head version ∷ lines) event =
    elim (event_adds (number + 1) lines event) [
      | inl h ↦ inl (record { none = h.none; here = h.here })
      | inr t ↦ inr (record { node = t.node; nodes = t.nodes; some = t.some; there = t.there })
    ]
event_adds number (Node n shape ∷ lines) event =
    inr (record { node = node_journal (number + 1) shape (node_events lines); nodes = nodes_of (number + 1) lines; some = refl; there = refl })
event_adds number (Happened first ∷ lines) event =
    elim (event_adds (number + 1) lines event) [
      | inl h ↦ inl (record { none = h.none; here = ap (λ (k : History). first ∷ k) h.here })
      | inr t ↦ inr (record { node = t.node; nodes = t.nodes; some = t.some; there = ap (λ (k : History). first ∷ k) t.there })
    ]
event_adds number (End ∷ lines) event =
    elim (event_adds (number + 1) lines event) [
      | inl h ↦ inl (record { none = h.none; here = h.here })
      | inr t ↦ inr (record { node = t.node; nodes = t.nodes; some = t.some; there = t.there })
    ]

-- ---- the nodes after one more line

-- lines after the first are numbered from the next number on
one_further : (number : ℕ) (lines : List Line) (nodes : List ReadNode) (line : Line) → with_line (number + 1 + length lines) nodes line ≡ with_line (number + suc (length lines)) nodes line
one_further number lines nodes line = grind arith

-- a node's journal in front of nodes that get one more line
module _ (number : ℕ) (shape : Shape) (lines : List Line) where
  journal_in_front : (h k : History) (nodes more : List ReadNode) → h ≡ k → nodes ≡ more → node_journal number shape h ∷ nodes ≡ node_journal number shape k ∷ more
  journal_in_front h k nodes more e f = ap (λ (g : History). node_journal number shape g ∷ nodes) e ∙ ap (λ (ns : List ReadNode). node_journal number shape k ∷ ns) f

  -- one more event, where no other node begins before it
  event_here : (event : Event) (nodes more : List ReadNode) (h : History) → nodes ≡ [] → more ≡ on_last (with_event event) nodes → h ≡ node_events lines ++ event ∷ []
      → node_journal number shape h ∷ more ≡ on_last (with_event event) (node_journal number shape (node_events lines) ∷ nodes)
  event_here event nodes more h none e here =
      let nothing : more ≡ [] = e ∙ ap (λ (ns : List ReadNode). on_last (with_event event) ns) none in
      journal_in_front h (node_events lines ++ event ∷ []) more [] here nothing
      ∙ ap (λ (k : History). record { shape = shape; first_line = number; events = k } ∷ []) (least_push shape (node_events lines) event)
      ∙ ap (λ (ns : List ReadNode). on_last (with_event event) (node_journal number shape (node_events lines) ∷ ns)) (sym none)

  -- and where one does
  event_there : (event : Event) (nodes more : List ReadNode) (node : ReadNode) (others : List ReadNode) (h : History) → nodes ≡ node ∷ others → more ≡ on_last (with_event event) nodes → h ≡ node_events lines
      → node_journal number shape h ∷ more ≡ on_last (with_event event) (node_journal number shape (node_events lines) ∷ nodes)
  event_there event nodes more node others h some e there = grind (arith, journal_in_front)

-- the first line of a text begins the first node, if any
first_line : (number : ℕ) (line : Line) → nodes_of number (line ∷ []) ≡ with_line (number + 0) [] line
first_line number x = grind (arith, least_none)

-- the nodes of some lines and one more
pub nodes_of-push : (number : ℕ) (lines : List Line) (line : Line) → nodes_of number (lines ++ line ∷ []) ≡ with_line (number + length lines) (nodes_of number lines) line
nodes_of-push number [] line = first_line number line
nodes_of-push number (Head version ∷ lines) line = nodes_of-push (number + 1) lines line ∙ one_further number lines (nodes_of (number + 1) lines) line
nodes_of-push number (Happened event ∷ lines) line = nodes_of-push (number + 1) lines line ∙ one_further number lines (nodes_of (number + 1) lines) line
nodes_of-push number (End ∷ lines) line = nodes_of-push (number + 1) lines line ∙ one_further number lines (nodes_of (number + 1) lines) line
nodes_of-push number (Node n shape ∷ lines) (Head version) =
    journal_in_front (number + 1) shape lines (node_events (lines ++ Head version ∷ [])) (node_events lines) _ _ (events_of-other lines (Head version) refl) (nodes_of-push (number + 1) lines (Head version))
nodes_of-push number (Node n shape ∷ lines) End =
    journal_in_front (number + 1) shape lines (node_events (lines ++ End ∷ [])) (node_events lines) _ _ (events_of-other lines End refl) (nodes_of-push (number + 1) lines End)
nodes_of-push number (Node n shape ∷ lines) (Node m other) =
    journal_in_front (number + 1) shape lines (node_events (lines ++ Node m other ∷ [])) (node_events lines) _ _ (events_of-other lines (Node m other) refl)
    (nodes_of-push (number + 1) lines (Node m other) ∙ one_further number lines (nodes_of (number + 1) lines) (Node m other))
nodes_of-push number (Node n shape ∷ lines) (Happened event) =
    elim (event_adds (number + 1) lines event) [
      | inl h ↦ event_here (number + 1) shape lines event (nodes_of (number + 1) lines) _ _ h.none (nodes_of-push (number + 1) lines (Happened event)) h.here
      | inr t ↦ event_there (number + 1) shape lines event (nodes_of (number + 1) lines) _ t.node t.nodes _ t.some (nodes_of-push (number + 1) lines (Happened event)) t.there
    ]

-- the last of some nodes that another stands behind is that one
pub on_last-push : (f : ReadNode → ReadNode) (nodes : List ReadNode) (node : ReadNode) → on_last f (nodes ++ node ∷ []) ≡ nodes ++ f node ∷ []
on_last-push f [] node = refl
on_last-push f (first ∷ []) node = refl
on_last-push f (first ∷ next ∷ nodes) node = ap (λ (ns : List ReadNode). first ∷ ns) (on_last-push f (next ∷ nodes) node)

-- the last node of those that were read gets one more event
pub last_grows : (f : ReadNode → ReadNode) (closed : List ReadNode) (last grown : ReadNode) (nodes : List ReadNode) → grown ≡ f last → nodes ≡ closed ++ last ∷ [] → closed ++ grown ∷ [] ≡ on_last f nodes
last_grows f closed last grown nodes is are = rw (is, are) (sym (on_last-push f closed last))

-- ---- what is known of the nodes

later : (most : ℕ) (number : ℕ) (node : ReadNode) → IsNodeBefore most number node → IsNodeBefore most (number + 1) node
later most number node h = let before : node.first_line + length node.events ≤ number = h.lines in record { shape = h.shape; lines = omega arith }

all_later : (most : ℕ) (number : ℕ) (nodes : List ReadNode) → All (IsNodeBefore most number) nodes → All (IsNodeBefore most (number + 1)) nodes
all_later most number [] all = All-nil (IsNodeBefore most (number + 1))
all_later most number (node ∷ nodes) all =
    All-cons (IsNodeBefore most (number + 1)) node nodes (later most number node (all 0 node (omega arith))) (all_later most number nodes (All-tail (IsNodeBefore most number) node nodes all))

one_event_more : (most : ℕ) (number : ℕ) (event : Event) (node : ReadNode) → IsNodeBefore most number node → IsNodeBefore most (number + 1) (with_event event node)
one_event_more most number event node h = grind (arith, first_line, length-append)

last_later : (most : ℕ) (number : ℕ) (event : Event) (nodes : List ReadNode) → All (IsNodeBefore most number) nodes → All (IsNodeBefore most (number + 1)) (on_last (with_event event) nodes)
last_later most number event [] all = All-nil (IsNodeBefore most (number + 1))
last_later most number event (node ∷ []) all =
    All-cons (IsNodeBefore most (number + 1)) (with_event event node) [] (one_event_more most number event node (all 0 node (omega arith))) (All-nil (IsNodeBefore most (number + 1)))
last_later most number event (node ∷ next ∷ nodes) all =
    All-cons (IsNodeBefore most (number + 1)) node (on_last (with_event event) (next ∷ nodes)) (later most number node (all 0 node (omega arith)))
    (last_later most number event (next ∷ nodes) (All-tail (IsNodeBefore most number) node (next ∷ nodes) all))

each_with_line : (most : ℕ) (number : ℕ) (nodes : List ReadNode) (line : Line) → HasShapeWithin most line → All (IsNodeBefore most number) nodes → All (IsNodeBefore most (number + 1)) (with_line number nodes line)
each_with_line most number nodes (Head version) in-range all = all_later most number nodes all
each_with_line most number nodes End in-range all = all_later most number nodes all
each_with_line most number nodes (Happened event) in-range all = last_later most number event nodes all
each_with_line most number nodes (Node n shape) in-range all =
    let here : number + 1 + 0 ≤ number + 1 = omega arith in
    All-push (IsNodeBefore most (number + 1)) nodes (began (number + 1) shape) (all_later most number nodes all) (record { shape = in-range; lines = here })

pub each_step : (most : ℕ) (number : ℕ) (old new : List ReadNode) (line : Line) → new ≡ with_line number old line → HasShapeWithin most line → All (IsNodeBefore most number) old → All (IsNodeBefore most (number + 1)) new
each_step most number old new line is in-range all = rw is (each_with_line most number old line in-range all)

in_range : (number : ℕ) (node : ReadNode) → number ≤ 16777217 → IsNodeBefore 4096 number node → IsNodeJournal node
in_range number node le h = let before : node.first_line + length node.events ≤ number = h.lines in record { shape = h.shape; lines = omega arith }

-- at the end of the text each node has lines that there may be
pub all_in_range : (number : ℕ) (nodes : List ReadNode) → number ≤ 16777217 → All (IsNodeBefore 4096 number) nodes → All IsNodeJournal nodes
all_in_range number [] le all = All-nil IsNodeJournal
all_in_range number (node ∷ nodes) le all =
    All-cons IsNodeJournal node nodes (in_range number node le (all 0 node (omega arith))) (all_in_range number nodes le (All-tail (IsNodeBefore 4096 number) node nodes all))

-- ---- answers that may be a refusal of memory

pub if_ok : {A E : Type 0} (r : Result A E) (P Q : A → Type 0) → IfOk r P → ((x : A) → P x → Q x) → IfOk r Q
if_ok x y z h f = grind arith

pub reports_memory : {A : Type 0} (r : Result A ReadFault) (read : Result ReadJournals Fault) → IfErr r (λ fault. fault ≡ OutOfMemory) → IfErr r (ReportsFault read)
reports_memory x read h = grind arith

-- ---- the versions of lines

-- no version has more blocks than a node may have
any_version : (v : Version) → (version_limits v).most_blocks ≤ 16777216
any_version x = grind arith

-- nor has one before version 4 more than 4,096
earlier_version : (v : Version) → includes Underused v ≡ true → (version_limits v).most_blocks ≤ 4096
earlier_version x is = grind arith

-- a line of a version keeps to a greater limit
within_more : (v : Version) (most : ℕ) (line : Line) → (version_limits v).most_blocks ≤ most → IsLineInRange v line → HasShapeWithin most line
within_more v most (Node number shape) le in-range =
    let few : shape.blocks ≤ (version_limits v).most_blocks = in-range.1.few_blocks in
    record { some_blocks = in-range.1.some_blocks; few_blocks = omega arith; least_order = in-range.1.least_order; most_order = in-range.1.most_order; low_threshold = in-range.1.low_threshold }
within_more v most _ le in-range = tt

-- a line of any version
pub within_any : (v : Version) (line : Line) → IsLineInRange v line → HasShapeWithin 16777216 line
within_any v line in-range = within_more v 16777216 line (any_version v) in-range

-- a line of version 1 to 3
pub within_earlier : (v : Version) (line : Line) → includes Underused v ≡ true → IsLineInRange v line → HasShapeWithin 4096 line
within_earlier v line is in-range = within_more v 4096 line (earlier_version v is) in-range

-- the text can be of the version that its lines have
pub version_now : (place : Place) → may_have_version place (version_at place) ≡ true
version_now x = grind (arith, eq-eqb)
