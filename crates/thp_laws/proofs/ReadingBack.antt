-- Legal journals are read back from their text.
use Rattle.std.proofs.Common.{◌≡◌, true, Ok, Result, ◌<◌, ◌≤◌, ◌+◌, ◌^◌, ℕ, zero, suc, List, [], ◌∷◌, length, Some, Option, None, refl, subst, arith, length-append, codes, All, slice_get}
use Rattle.std.specs.List.{AllByRecursion, AllZip, flat_map}
use Rattle.std.proofs.lemmas.List.{length-map}
use Rattle.std.proofs.lemmas.List.Elements.{recursion_from_All, All-from_recursion, All-cons, All-nil}
use Rattle.thp_history.specs.declared.events.Event.{Event}
use Rattle.thp_history.specs.declared.shape.Shape.{Shape}
use Rattle.thp_history.specs.Prelude.{History, IsLegal, IsShapeWithin}
use Rattle.thp_history.proofs.LeastBlocks.{least_same, legal_with_least}
use Rattle.thp_script.specs.Prelude.{Text, max_counted, max_input}
use Rattle.thp_journal_writer.specs.EventLines as written
use Rattle.thp_journal_writer.specs.Journals as journal
use Rattle.thp_journal_writer.specs.Prelude.{Journal, version_limits, version_of, lines_of_node, journal_lines, journal_text}
use Rattle.thp_journal_writer.specs.declared.version.Version.TheVariants.{Underused, Large}
use Rattle.thp_journal_reader.specs.declared.journals.ReadNode.{ReadNode}
use Rattle.thp_journal_reader.specs.declared.journals.ReadJournals.{ReadJournals}
use Rattle.thp_journal_reader.specs.Prelude.{IsLegalNode, ReportsIllegal, accepts_node, accepts_version, journals_accepted, node_journal}
use Rattle.thp_journal_reader.specs.declared.line.Accepted.{Accepted}
use Rattle.thp_journal_reader.specs.declared.line.Accepted.TheVariants.{UpToVersion3, EveryVersion}
use Rattle.thp_journal_writer.specs.declared.version.Version.{Version}
use Rattle.thp_laws.specs.ReadBack.{AreLongReportable, AreReportableIn, IsReadableIn, IsSameNode, nodes_from, with_first_lines, TextsAreReadBack, LongTextsAreReadBack, TextsAreCalledLegal, LongTextsAreCalledLegal, NothingElseChanges, WhatIsReadIsLegal}
use Rattle.thp_laws.specs.Reportable.{IsReportable, IsReportedJournal}
use Rattle.thp_laws.proofs.JournalsBack.{text_back}
use Rattle.thp_laws.proofs.LegalNumbers.{each_from_places, legal_numbers}
use Rattle.thp_laws.proofs.LegalVersions.{IsReportedBy, IsWithinLarge, earlier_version, version_reports}

-- ---- a text has a byte for each event

-- a text of lines has a byte for each line
each_ended : (lines : List Text) → length lines ≤ length (flat_map journal.ended lines)
each_ended [] = omega arith
each_ended (line ∷ lines) = omega (arith, each_ended lines, length-append (journal.ended line) (flat_map journal.ended lines), length-append line (10 ∷ []))

-- no node has more events than there are lines
few_events : (v : Version) (n most : ℕ) (js : List Journal) → length (journal.journal_lines_from v n js) ≤ most → AllByRecursion (λ (j : Journal). length j.1 ≤ most) js
unfolding lines_of_node
few_events v n most [] short = tt
few_events v n most (j ∷ js) short =
    let both = length-append (lines_of_node v n j) (journal.journal_lines_from v (n + 1) js) in
    let own = length-map j.1 written.event_line in
    (omega arith, few_events v (n + 1) most js (omega arith))

-- nor than the text has bytes
fewer_than_bytes : (js : List Journal) → AllByRecursion (λ (j : Journal). length j.1 ≤ length (journal_text js)) js
unfolding journal_text journal_lines
fewer_than_bytes js =
    let v : Version = version_of js in
    let whole = each_ended (journal_lines js) in
    let two = length-append (journal.journal_lines_from v 0 js) (codes "end" ∷ []) in
    few_events v 0 (length (journal_text js)) js (omega arith)

-- ---- what the lines of a journal can state

-- what holds of each holds at a place
at_place : (P : Event → Type 0) (h : History) → AllByRecursion P h → (k : ℕ) (e : Event) → slice_get h k ≡ Some e → P e
at_place P h all k e at = go h all k e at where
  go : (h : History) → AllByRecursion P h → (k : ℕ) (e : Event) → slice_get h k ≡ Some e → P e
  go [] each k e at = absurd cc
  go (x ∷ h) each zero e at = let same : x ≡ e = cc in subst P same each.0
  go (x ∷ h) each (suc k) e at = go h each.1 k e at

-- a node that can be read, whose shape a version limits
within : {most : ℕ} (v : Version) (s : Shape) → IsShapeWithin most s → s.blocks ≤ (version_limits v).most_blocks → IsShapeWithin (version_limits v).most_blocks s
within v s is few = record { some_blocks = is.some_blocks; few_blocks = few; least_order = is.least_order; most_order = is.most_order; low_threshold = is.low_threshold }

-- the events of a legal history, by a version that has lines for them
reportable : (w v : Version) (j : Journal) → IsReadableIn w j → IsReportedBy v j → length j.1 < 2 ^ 64 → IsReportedJournal v j
reportable w v j is reported few = record {
  shape = within v j.0 is.shape reported.few_blocks;
  reports_shape = reported.shape;
  events = each_from_places (IsReportable v) j.1 (λ k e at. record {
    caller = at_place (λ (x : Event). x.caller ≤ (version_limits v).last_caller) j.1 reported.callers k e at;
    numbers = legal_numbers j.0 j.1 is.shape is.legal few k e at;
    version = reported.events k e at;
  });
}

-- the same of each journal
each_reportable : (w v : Version) (most : ℕ) (js : List Journal) → most < 2 ^ 64 → AllByRecursion (IsReadableIn w) js → AllByRecursion (IsReportedBy v) js → AllByRecursion (λ (j : Journal). length j.1 ≤ most) js → AllByRecursion (IsReportedJournal v) js
each_reportable w v most [] lt is reported few = tt
each_reportable w v most (j ∷ js) lt is reported few = (reportable w v j is.0 reported.0 (let le = few.0 in omega arith), each_reportable w v most js lt is.1 reported.1 few.1)

-- ---- limits of versions

-- no version has greater limits than version 4
limits_grow : (v : Version) → ((version_limits v).last_node ≤ 65535) × ((version_limits v).most_blocks ≤ 16777216) × ((version_limits v).last_caller ≤ 65535)
limits_grow x = grind arith

more_callers : (most : ℕ) (h : History) → most ≤ 65535 → AllByRecursion (λ (e : Event). e.caller ≤ most) h → AllByRecursion (λ (e : Event). e.caller ≤ 65535) h
more_callers most [] le few = tt
more_callers most (e ∷ h) le few = ((let one = few.0 in omega arith), more_callers most h le few.1)

-- so what a version can report, version 4 can
large : (v : Version) (j : Journal) → IsReadableIn v j → IsReadableIn Large j
large v j is =
    let blocks = (limits_grow v).1 in
    let few = is.shape.few_blocks in
    record {
      shape = within Large j.0 is.shape (omega arith);
      legal = is.legal;
      callers = All-from_recursion (λ (e : Event). e.caller ≤ 65535) j.1 (more_callers (version_limits v).last_caller j.1 (limits_grow v).2 (recursion_from_All (λ (e : Event). e.caller ≤ (version_limits v).last_caller) j.1 is.callers));
    }

each_large : (v : Version) (js : List Journal) → AllByRecursion (IsReadableIn v) js → AllByRecursion (IsReadableIn Large) js
each_large v [] is = tt
each_large v (j ∷ js) is = (large v j is.0, each_large v js is.1)

pub long_reportable : (v : Version) (most : ℕ) (js : List Journal) → most ≤ max_counted → AreReportableIn v most js → AreLongReportable js
long_reportable v most js le are =
    let nodes = (limits_grow v).0 in
    let few = are.few_nodes in
    let short = are.short in
    record {
      some_nodes = are.some_nodes;
      few_nodes = omega arith;
      each = All-from_recursion (IsReadableIn Large) js (each_large v js (recursion_from_All (IsReadableIn v) js are.each));
      short = omega arith;
    }

-- each of them is legal, and within the limits of version 4
each_within : (js : List Journal) → AllByRecursion (IsReadableIn Large) js → AllByRecursion IsWithinLarge js
each_within [] is = tt
each_within (j ∷ js) is = (record { legal = is.0.legal; few_blocks = is.0.shape.few_blocks; callers = recursion_from_All (λ (e : Event). e.caller ≤ 65535) j.1 is.0.callers }, each_within js is.1)

-- or of the versions before
each_earlier : (js : List Journal) → AllByRecursion (IsReadableIn Underused) js → AllByRecursion (λ (j : Journal). (j.0.blocks ≤ 4096) × AllByRecursion (λ (e : Event). e.caller ≤ 63) j.1) js
each_earlier [] is = tt
each_earlier (j ∷ js) is = ((is.0.shape.few_blocks, recursion_from_All (λ (e : Event). e.caller ≤ 63) j.1 is.0.callers), each_earlier js is.1)

-- ---- the laws

-- the text of journals is read as those journals, with the least blocks, where the reader knows its version
read_back : (w : Accepted) (most : ℕ) (js : List Journal) → accepts_version w (version_of js) ≡ true → ((k : ℕ) (s : Shape) → accepts_node w k s ≡ true) → length (journal_text js) ≤ most → AreLongReportable js → journals_accepted w most (journal_text js) ≡ Ok (with_first_lines js)
read_back w most js known any fits are =
    let each : AllByRecursion (IsReadableIn Large) js = recursion_from_All (IsReadableIn Large) js are.each in
    let short = are.short in
    let few = are.few_nodes in
    let reported = version_reports js (omega arith) (each_within js each) in
    text_back w most js are.some_nodes reported.few known any (each_reportable Large (version_of js) (length (journal_text js)) js (omega arith) each reported.each (fewer_than_bytes js)) fits

pub all_read_back : TextsAreReadBack
all_read_back js are =
    let few = are.few_nodes in
    let earlier = earlier_version js (record { few = omega arith; each = each_earlier js (recursion_from_All (IsReadableIn Underused) js are.each) }) in
    read_back UpToVersion3 max_input js earlier (λ k s. refl) are.short (long_reportable Underused max_input js (omega arith) are)

pub long_read_back : LongTextsAreReadBack
long_read_back js are = read_back EveryVersion max_counted js refl (λ k s. refl) are.short are

-- the nodes from a line on are those that were written
same_from : (line : ℕ) (js : List Journal) → AllZip IsSameNode js (nodes_from line js)
same_from line [] = tt
same_from line (j ∷ js) = (record { shape = refl; events = least_same j.0 j.1 }, same_from (line + 1 + length j.1) js)

-- nothing else changes
pub all_same : NothingElseChanges
all_same js = same_from 2 js

-- and legal
legal_from : (v : Version) (line : ℕ) (js : List Journal) → AllByRecursion (IsReadableIn v) js → All (λ (node : ReadNode). IsLegal node.shape node.events) (nodes_from line js)
legal_from v line [] is = All-nil (λ (node : ReadNode). IsLegal node.shape node.events)
legal_from v line (j ∷ js) is =
    All-cons (λ (node : ReadNode). IsLegal node.shape node.events) (node_journal (line + 1) j.0 j.1) (nodes_from (line + 1 + length j.1) js)
    (legal_with_least j.0 j.1 is.0.legal) (legal_from v (line + 1 + length j.1) js is.1)

-- what is read is legal
pub all_legal : WhatIsReadIsLegal
all_legal v most js are = legal_from v 2 js (recursion_from_All (IsReadableIn v) js are.each)

-- what holds of each node holds at a place
node_at : (P : ReadNode → Type 0) (nodes : List ReadNode) (i : ℕ) (node : ReadNode) → AllByRecursion P nodes → slice_get nodes i ≡ Some node → P node
node_at P [] i node all e = absurd cc
node_at P (x ∷ nodes) zero node all e = let same : x ≡ node = cc in subst P same all.0
node_at P (x ∷ nodes) (suc i) node all e = node_at P nodes i node all.1 e

-- of legal nodes no line is reported
no_line : (nodes : List ReadNode) (line : Option ℕ) → All IsLegalNode nodes → ReportsIllegal nodes line → line ≡ None
no_line nodes None legal reports = refl
no_line nodes (Some line) legal reports =
    let node : IsLegalNode reports.node = node_at IsLegalNode nodes reports.place reports.node (recursion_from_All IsLegalNode nodes legal) reports.here in
    let misfit = reports.first.misfit in
    absurd (misfit.misfit.2 (node.each reports.first.place misfit.misfit.0 misfit.misfit.1))

-- so a check of the text reports no line
pub called_legal : TextsAreCalledLegal
called_legal js read line are is reports =
    let back = all_read_back js are in
    let same : with_first_lines js ≡ read = cc in
    no_line read.nodes line (subst (λ (r : ReadJournals). All IsLegalNode r.nodes) same (all_legal Underused max_input js are)) reports

pub long_called_legal : LongTextsAreCalledLegal
long_called_legal js read line are is reports =
    let back = long_read_back js are in
    let same : with_first_lines js ≡ read = cc in
    no_line read.nodes line (subst (λ (r : ReadJournals). All IsLegalNode r.nodes) same (all_legal Large max_counted js are)) reports
