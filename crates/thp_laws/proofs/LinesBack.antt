-- The lines of journals are read back, one after another.
use Rattle.std.proofs.Common.{◌≡◌, ◌<◌, ◌≤◌, ◌+◌, ℕ, suc, true, List, [], ◌∷◌, ◌++◌, map, length, Ok, refl, ap, sym, subst, ◌∙◌, arith, codes, eq-eqb, lt-ltb}
use Rattle.std.specs.Prelude.{⊤}
use Rattle.std.specs.List.{AllByRecursion}
use Rattle.std.proofs.Math.Nat.{add-zero}
use Rattle.thp_history.specs.declared.events.Event.{Event}
use Rattle.thp_history.specs.declared.shape.Shape.{Shape}
use Rattle.thp_history.specs.Prelude.{event_with, History}
use Rattle.thp_script.specs.Prelude.{◌>>=◌, fault_after, Text}
use Rattle.thp_journal_writer.specs.EventLines as written
use Rattle.thp_journal_writer.specs.Journals as journal
use Rattle.thp_journal_writer.specs.Prelude.{Journal, lines_of_node, version_limits}
use Rattle.thp_journal_reader.specs.declared.line.Line.{Line}
use Rattle.thp_journal_reader.specs.declared.line.Line.TheVariants.{Head, Node, Happened, End}
use Rattle.thp_journal_reader.specs.declared.line.Place.{Place}
use Rattle.thp_journal_reader.specs.declared.line.Place.TheVariants.{Start, Inside, Ended}
use Rattle.thp_journal_writer.specs.declared.version.Version.{Version}
use Rattle.thp_journal_reader.specs.JournalLines as read
use Rattle.thp_journal_reader.specs.Prelude.{accepts, accepts_node, accepts_version, line_in, line_may_stand, accepted_at, place_after, version_at}
use Rattle.thp_journal_reader.specs.declared.line.Accepted.{Accepted}
use Rattle.thp_journal_reader.specs.Journals as reading
use Rattle.thp_laws.specs.Reportable.{IsReportable, IsReportedJournal}
use Rattle.thp_laws.proofs.EventsBack.{event_line_back}
use Rattle.thp_laws.proofs.NodesBack.{end_line_back, node_line_back, version_line_back}

-- ---- lines in their places

-- from this place on each text says the line beside it, which may stand there
pub Says : Place → List Text → List Line → Type 0
Says place [] [] = ⊤
Says place (text ∷ texts) (line ∷ lines) = (line_in place text ≡ Ok line) × Says (place_after place line) texts lines
Says place [] (line ∷ lines) = ⊥
Says place (text ∷ texts) [] = ⊥

-- the place behind lines
pub place_following : Place → List Line → Place
place_following place [] = place
place_following place (line ∷ lines) = place_following (place_after place line) lines

-- lines and then others
says_append : (place : Place) (texts others : List Text) (lines more : List Line) → Says place texts lines → Says (place_following place lines) others more → Says place (texts ++ others) (lines ++ more)
unfolding Says place_following
says_append place [] others [] more h k = k
says_append place (text ∷ texts) others (line ∷ lines) more h k = (h.0, says_append (place_after place line) texts others lines more h.1 k)
says_append place [] others (line ∷ lines) more h k = absurd h
says_append place (text ∷ texts) others [] more h k = absurd h

-- the place behind both
after_append : (place : Place) (lines more : List Line) → place_following place (lines ++ more) ≡ place_following (place_following place lines) more
unfolding place_following
after_append place [] more = refl
after_append place (line ∷ lines) more = after_append (place_after place line) lines more

-- a line that may stand in its place
stands : (place : Place) (text : Text) (line : Line) → read.line_of (version_at place) text ≡ Ok line → accepts (accepted_at place) line ≡ true → line_may_stand place line ≡ true → line_in place text ≡ Ok line
unfolding line_in
stands place text line is known may = rw (is, known, may) refl

-- one more line
one_more : (number : ℕ) (place : Place) (text next : Text) (texts : List Text) (line : Line) → line_in place text ≡ Ok line → reading.lines_from number place (text ∷ next ∷ texts) ≡ (reading.lines_from (number + 1) (place_after place line) (next ∷ texts) >>= λ lines. Ok (line ∷ lines))
unfolding reading.lines_from
one_more number place text next texts line is = rw is refl

-- behind the end stands nothing
nothing : (number : ℕ) (w : Accepted) (v : Version) → reading.lines_from number (Ended w v) ([] ∷ []) ≡ Ok []
unfolding reading.lines_from fault_after
nothing number w v = refl

-- lines that end at the end of the journals are read
pub read_all : (number : ℕ) (w : Accepted) (v : Version) (place : Place) (texts : List Text) (lines : List Line) → Says place texts lines → place_following place lines ≡ Ended w v → reading.lines_from number place (texts ++ [] ∷ []) ≡ Ok lines
unfolding Says place_following
read_all number w v place [] [] h e = subst (λ p. reading.lines_from number p ([] ∷ []) ≡ Ok []) (sym e) (nothing number w v)
read_all number w v place [] (line ∷ lines) h e = absurd h
read_all number w v place (text ∷ texts) [] h e = absurd h
read_all number w v place (text ∷ []) (line ∷ lines) h e = one_more number place text [] [] line h.0 ∙ ap (λ r. r >>= λ ls. Ok (line ∷ ls)) (read_all (number + 1) w v (place_after place line) [] lines h.1 e)
read_all number w v place (text ∷ next ∷ texts) (line ∷ lines) h e = one_more number place text next (texts ++ [] ∷ []) line h.0 ∙ ap (λ r. r >>= λ ls. Ok (line ∷ ls)) (read_all (number + 1) w v (place_after place line) (next ∷ texts) lines h.1 e)

-- ---- the lines of nodes

-- a place as a function of the nodes before it
inside : Accepted → Version → ℕ → Place
inside w v n = Inside w v n

-- a node later
one_later : (n k : ℕ) → n + 1 + k ≡ n + suc k
one_later n k = omega arith

-- what an event's line reports
unfoldable pub happened : Event → Line
happened e = Happened (event_with 0 e)

-- the lines of a node and its events
unfoldable pub node_reported : ℕ → Journal → List Line
node_reported n j = Node n j.0 ∷ map happened j.1

-- those of nodes from number n on
unfoldable pub nodes_reported : ℕ → List Journal → List Line
nodes_reported n [] = []
nodes_reported n (j ∷ js) = node_reported n j ++ nodes_reported (n + 1) js

-- the events of a node
events_say : (w : Accepted) (v : Version) (nodes : ℕ) (h : History) → 0 < nodes → AllByRecursion (IsReportable v) h → Says (Inside w v nodes) (map written.event_line h) (map happened h)
unfolding Says happened
events_say w v nodes [] some h = tt
events_say w v nodes (e ∷ events) some h = (stands (Inside w v nodes) (written.event_line e) (happened e) (event_line_back v e h.0) refl (lt-ltb 0 nodes some), events_say w v nodes events some h.1)

-- events leave the place
events_after : (place : Place) (h : History) → place_following place (map happened h) ≡ place
unfolding place_following happened
events_after place [] = refl
events_after place (e ∷ h) = events_after place h

-- a node
node_says : (w : Accepted) (v : Version) (n : ℕ) (j : Journal) → ((k : ℕ) (s : Shape) → accepts_node w k s ≡ true) → n ≤ (version_limits v).last_node → IsReportedJournal v j → Says (Inside w v n) (lines_of_node v n j) (node_reported n j)
unfolding Says node_reported lines_of_node
node_says w v n j any few reported = (stands (Inside w v n) (journal.node_line v n j.0) (Node n j.0) (node_line_back v n j.0 few reported.shape reported.reports_shape) (any n j.0) (eq-eqb n n refl), events_say w v (n + 1) j.1 (omega arith) reported.events)

-- a node is one more
node_after : (w : Accepted) (v : Version) (n : ℕ) (j : Journal) → place_following (Inside w v n) (node_reported n j) ≡ Inside w v (n + 1)
unfolding place_following node_reported
node_after w v n j = events_after (Inside w v (n + 1)) j.1

-- nodes
nodes_say : (w : Accepted) (v : Version) (n : ℕ) (js : List Journal) → ((k : ℕ) (s : Shape) → accepts_node w k s ≡ true) → n + length js ≤ (version_limits v).last_node + 1 → AllByRecursion (IsReportedJournal v) js → Says (Inside w v n) (journal.journal_lines_from v n js) (nodes_reported n js)
unfolding Says nodes_reported
nodes_say w v n [] any few reported = tt
nodes_say w v n (j ∷ js) any few reported =
    says_append (Inside w v n) (lines_of_node v n j) (journal.journal_lines_from v (n + 1) js) (node_reported n j) (nodes_reported (n + 1) js) (node_says w v n j any (omega arith) reported.0)
    (subst (λ p. Says p (journal.journal_lines_from v (n + 1) js) (nodes_reported (n + 1) js)) (sym (node_after w v n j)) (nodes_say w v (n + 1) js any (omega arith) reported.1))

-- and the place behind them
nodes_after : (w : Accepted) (v : Version) (n : ℕ) (js : List Journal) → place_following (Inside w v n) (nodes_reported n js) ≡ Inside w v (n + length js)
unfolding nodes_reported place_following inside
nodes_after w v n [] = ap (λ k. inside w v k) (sym (add-zero n))
nodes_after w v n (j ∷ js) =
    after_append (Inside w v n) (node_reported n j) (nodes_reported (n + 1) js)
    ∙ ap (λ p. place_following p (nodes_reported (n + 1) js)) (node_after w v n j)
    ∙ nodes_after w v (n + 1) js
    ∙ ap (λ k. inside w v k) (one_later n (length js))

-- ---- whole journals

-- all lines
unfoldable pub reported : Version → List Journal → List Line
reported v js = Head v ∷ nodes_reported 0 js ++ End ∷ []

-- each line of a journal text says what it reports, where it stands
pub all_say : (w : Accepted) (v : Version) (js : List Journal) → 0 < length js → length js ≤ (version_limits v).last_node + 1 → accepts_version w v ≡ true → ((k : ℕ) (s : Shape) → accepts_node w k s ≡ true) → AllByRecursion (IsReportedJournal v) js → Says (Start w) (journal.version_line v ∷ journal.journal_lines_from v 0 js ++ codes "end" ∷ []) (reported v js)
unfolding Says reported
all_say w v js some few known any h =
    let behind : place_following (Inside w v 0) (nodes_reported 0 js) ≡ Inside w v (0 + length js) = nodes_after w v 0 js in
    let last : Says (Inside w v (0 + length js)) (codes "end" ∷ []) (End ∷ []) = (stands (Inside w v (0 + length js)) (codes "end") End (end_line_back v) refl (lt-ltb 0 (0 + length js) (omega arith)), tt) in (
      stands (Start w) (journal.version_line v) (Head v) (version_line_back v) known refl,
      says_append (Inside w v 0) (journal.journal_lines_from v 0 js) (codes "end" ∷ []) (nodes_reported 0 js) (End ∷ []) (nodes_say w v 0 js any (omega arith) h) (subst (λ p. Says p (codes "end" ∷ []) (End ∷ [])) (sym behind) last),
    )

-- and the last stands at the end
pub all_after : (w : Accepted) (v : Version) (js : List Journal) → place_following (Start w) (reported v js) ≡ Ended w v
unfolding place_following reported
all_after w v js = grind (arith, after_append, place_following, nodes_after)
