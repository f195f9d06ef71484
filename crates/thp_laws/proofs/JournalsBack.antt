-- A journal text is read as the journals that it was written of, but for their blocks.
use Rattle.std.proofs.Common.{◌≡◌, ◌<◌, ◌≤◌, ◌+◌, ℕ, suc, true, false, List, [], ◌∷◌, ◌++◌, map, length, Result, Ok, refl, ap, sym, ◌∙◌, arith, append_assoc, codes, nat_lt}
use Rattle.std.specs.List.{list_all, AllByRecursion, fold}
use Rattle.std.proofs.Math.Nat.{add-zero}
use Rattle.std.proofs.lemmas.Bool.{and_from, le-ltb}
use Rattle.thp_history.specs.declared.events.Event.{Event}
use Rattle.thp_history.specs.declared.events.What.{What}
use Rattle.thp_history.specs.declared.shape.Shape.{Shape}
use Rattle.thp_history.specs.Prelude.{event_with, with_block, with_least_blocks, least_free, History, by}
use Rattle.thp_script.specs.Prelude.{Fault, lines_of}
use Rattle.thp_journal_writer.specs.EventLines as written
use Rattle.thp_journal_writer.specs.Prelude.{event_words, Journal, version_limits, version_of, lines_of_node, journal_lines, journal_text}
use Rattle.thp_journal_writer.specs.Journals as journal
use Rattle.thp_journal_reader.specs.declared.line.Line.{Line}
use Rattle.thp_journal_reader.specs.declared.line.Line.TheVariants.{End}
use Rattle.thp_journal_reader.specs.declared.line.Place.TheVariants.{Start}
use Rattle.thp_journal_writer.specs.declared.version.Version.{Version}
use Rattle.thp_journal_reader.specs.Journals as reading
use Rattle.thp_journal_reader.specs.Prelude.{accepts_node, accepts_version, node_journal, nodes_of, journals_accepted, journals_with}
use Rattle.thp_journal_reader.specs.declared.line.Accepted.{Accepted}
use Rattle.thp_laws.specs.Reportable.{IsReportable, IsReportedJournal}
use Rattle.thp_laws.specs.ReadBack.{nodes_from}
use Rattle.thp_laws.proofs.EventsBack.{event_plain}
use Rattle.thp_laws.proofs.NodesBack.{node_plain, version_plain, version_words}
use Rattle.thp_laws.proofs.LinesBack.{all_after, all_say, happened, node_reported, nodes_reported, read_all, reported}
use Rattle.thp_laws.proofs.PlainWords.{line_whole}
use Rattle.thp_laws.proofs.Splitting.{all_append, is_without, lines_back}

-- ---- blocks

-- the block that an event had doesn't matter to one that is put in its place
block_again : (b : ℕ) (w : What) → with_block b (with_block 0 w) ≡ with_block b w
block_again b x = grind arith

-- the same of an event with its caller
event_again : (b : ℕ) (e : Event) → event_with b (event_with 0 e) ≡ event_with b e
event_again b e = ap (by e.caller) (block_again b e.what)

-- the least blocks don't go by the blocks that there were
least_again : (s : Shape) (k h : History) → fold (λ k (e : Event). k ++ event_with (least_free s k) e ∷ []) k (map (event_with 0) h) ≡ fold (λ k (e : Event). k ++ event_with (least_free s k) e ∷ []) k h
least_again s k [] = refl
least_again s k (e ∷ h) = ap (λ (x : Event). fold (λ k (e : Event). k ++ event_with (least_free s k) e ∷ []) (k ++ x ∷ []) (map (event_with 0) h)) (event_again (least_free s k) e) ∙ least_again s (k ++ event_with (least_free s k) e ∷ []) h

-- so the least blocks of events without blocks are those of the events
pub least_of_none : (s : Shape) (h : History) → with_least_blocks s (map (event_with 0) h) ≡ with_least_blocks s h
unfolding with_least_blocks
least_of_none s h = least_again s [] h

-- ---- the nodes of lines

-- lines behind a node's events: none, or one that isn't an event
EndsEvents : List Line → Type 0
EndsEvents lines = reading.node_events lines ≡ []

-- the events that lines report, up to the next node
events_back : (h : History) (rest : List Line) → EndsEvents rest → reading.node_events (map happened h ++ rest) ≡ map (event_with 0) h
unfolding EndsEvents happened
events_back [] rest ends = ends
events_back (e ∷ h) rest ends = ap (λ es. event_with 0 e ∷ es) (events_back h rest ends)

-- the next node's line ends them, and so does the last line
ends_at_node : (n : ℕ) (js : List Journal) → EndsEvents (nodes_reported n js ++ End ∷ [])
unfolding EndsEvents nodes_reported node_reported
ends_at_node n [] = refl
ends_at_node n (j ∷ js) = refl

-- the nodes behind events
after_events : (line : ℕ) (h : History) (rest : List Line) → nodes_of line (map happened h ++ rest) ≡ nodes_of (line + length h) rest
unfolding happened
after_events line [] rest = ap (λ k. nodes_of k rest) (sym (add-zero line))
after_events line (e ∷ h) rest = after_events (line + 1) h rest ∙ ap (λ k. nodes_of k rest) (one_later line (length h)) where
  one_later : (n k : ℕ) → n + 1 + k ≡ n + suc k
  one_later n k = omega arith

-- a node and what stands behind it
node_back : (line n : ℕ) (j : Journal) (rest : List Line) → EndsEvents rest → nodes_of line (node_reported n j ++ rest) ≡ node_journal (line + 1) j.0 j.1 ∷ nodes_of (line + 1 + length j.1) rest
unfolding node_reported
node_back line n j rest ends = grind (arith, happened, events_back, least_of_none, after_events)

-- all nodes
nodes_back : (line n : ℕ) (js : List Journal) → nodes_of line (nodes_reported n js ++ End ∷ []) ≡ nodes_from line js
unfolding nodes_reported
nodes_back line n [] = refl
nodes_back line n (j ∷ js) =
    ap (nodes_of line) (append_assoc (node_reported n j) (nodes_reported (n + 1) js) (End ∷ []))
    ∙ node_back line n j (nodes_reported (n + 1) js ++ End ∷ []) (ends_at_node (n + 1) js)
    ∙ ap (λ ns. node_journal (line + 1) j.0 j.1 ∷ ns) (nodes_back (line + 1 + length j.1) (n + 1) js)

-- ---- the lines of a text

-- an event's line has no line feed
event_whole : (v : Version) (e : Event) → IsReportable v e → is_without 10 (written.event_line e) ≡ true
unfolding written.event_line
event_whole v e t = line_whole (event_words e) (event_plain v e t)

-- nor have those of a history
events_whole : (v : Version) (h : History) → AllByRecursion (IsReportable v) h → list_all (is_without 10) (map written.event_line h) ≡ true
events_whole v [] h = refl
events_whole v (e ∷ events) h = and_from _ _ (event_whole v e h.0) (events_whole v events h.1)

-- nor have those of a node
node_whole : (v : Version) (n : ℕ) (j : Journal) → n ≤ (version_limits v).last_node → IsReportedJournal v j → list_all (is_without 10) (lines_of_node v n j) ≡ true
unfolding lines_of_node journal.node_line
node_whole v n j few t = and_from _ _ (line_whole (journal.node_words v n j.0) (node_plain v n j.0 few t.shape)) (events_whole v j.1 t.events)

-- nor those of nodes
nodes_whole : (v : Version) (n : ℕ) (js : List Journal) → n + length js ≤ (version_limits v).last_node + 1 → AllByRecursion (IsReportedJournal v) js → list_all (is_without 10) (journal.journal_lines_from v n js) ≡ true
nodes_whole v n [] few h = refl
nodes_whole v n (j ∷ js) few h = all_append (is_without 10) (lines_of_node v n j) (journal.journal_lines_from v (n + 1) js) (node_whole v n j (omega arith) h.0) (nodes_whole v (n + 1) js (omega arith) h.1)

-- nor has the first line
version_whole : (v : Version) → is_without 10 (journal.version_line v) ≡ true
version_whole v = line_whole (version_words v) (version_plain v)

-- a text's lines are those it was written of, and nothing stands behind them
text_lines : (js : List Journal) → length js ≤ (version_limits (version_of js)).last_node + 1 → AllByRecursion (IsReportedJournal ((version_of js))) js → lines_of (journal_text js) ≡ journal_lines js ++ [] ∷ []
unfolding journal_text journal_lines
text_lines js few h =
    let v : Version = version_of js in
    lines_back (journal_lines js) (and_from _ _ (version_whole v) (all_append (is_without 10) (journal.journal_lines_from v 0 js) (codes "end" ∷ []) (nodes_whole v 0 js (omega arith) h) refl))

-- ---- the whole text

-- what is read, where nothing is at fault
read : {A : Type 0} → A → Result A Fault
read x = Ok x

-- the journals that a text's lines can state are read back, but for their blocks
pub text_back : (w : Accepted) (most : ℕ) (js : List Journal) → 0 < length js → length js ≤ (version_limits (version_of js)).last_node + 1 → accepts_version w (version_of js) ≡ true → ((k : ℕ) (s : Shape) → accepts_node w k s ≡ true) → AllByRecursion (IsReportedJournal ((version_of js))) js → length (journal_text js) ≤ most → journals_accepted w most (journal_text js) ≡ Ok (record { nodes = nodes_from 2 js })
unfolding journals_accepted journals_with journal_lines reported read
text_back w most js some few known any h short =
    let v : Version = version_of js in
    let lines : reading.lines_from 1 (Start w) (lines_of (journal_text js)) ≡ Ok (reported v js) = ap (reading.lines_from 1 (Start w)) (text_lines js few h) ∙ read_all 1 w v (Start w) (journal_lines js) (reported v js) (all_say w v js some few known any h) (all_after w v js) in
    let fits : nat_lt most (length (journal_text js)) ≡ false = le-ltb _ _ short in
    let nodes : nodes_of 1 (reported v js) ≡ nodes_from 2 js = nodes_back 2 0 js in
    rw (fits, lines) (ap (λ ns. read (record { nodes = ns })) nodes)
