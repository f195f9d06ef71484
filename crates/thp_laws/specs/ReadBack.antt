-- The result of reading a journal text: the journals that it was written from, except for their blocks.
use Rattle.std.specs.Prelude.{◌≡◌, ◌≤◌, ◌+◌, ℕ, All, List, [], ◌∷◌, length, Option, None, Ok}
use Rattle.std.specs.List.{AllZip}
use Rattle.thp_history.specs.declared.events.Event.{Event}
use Rattle.thp_history.specs.Prelude.{SameButBlocks, IsLegal, IsShapeWithin}
use Rattle.thp_script.specs.Prelude.{max_counted, max_input}
use Rattle.thp_journal_writer.specs.Prelude.{Journal, journal_text, version_limits}
use Rattle.thp_journal_writer.specs.declared.version.Version.{Version}
use Rattle.thp_journal_writer.specs.declared.version.Version.TheVariants.{Underused, Large}
use Rattle.thp_journal_reader.specs.declared.journals.ReadJournals.{ReadJournals}
use Rattle.thp_journal_reader.specs.declared.journals.ReadNode.{ReadNode}
use Rattle.thp_journal_reader.specs.Prelude.{ReportsIllegal, journals_of, journals_within, node_journal}

-- the events of a node are legal, and its blocks and callers are within the limits of a version
pub record IsReadableIn (v : Version) (journal : Journal) : Type 0 where
  pub shape : IsShapeWithin (version_limits v).most_blocks journal.0
  pub legal : IsLegal journal.0 journal.1
  pub callers : All (λ (e : Event). e.caller ≤ (version_limits v).last_caller) journal.1

-- at least one such node, and at most as many as the version allows, with a text of at most so many bytes
pub record AreReportableIn (v : Version) (most : ℕ) (journals : List Journal) : Type 0 where
  pub some_nodes : 1 ≤ length journals
  pub few_nodes : length journals ≤ (version_limits v).last_node + 1
  pub each : All (IsReadableIn v) journals
  pub short : length (journal_text journals) ≤ most

-- the same within the limits of an input
abbrev pub AreReportable : List Journal → Type 0
AreReportable = AreReportableIn Underused max_input

-- the same within the limits of a journal of any length and version
abbrev pub AreLongReportable : List Journal → Type 0
AreLongReportable = AreReportableIn Large max_counted

-- each journal with its shape and its first line, if the line of the first node is line `line`; each new page has the least block
-- that no page holds
abbrev pub nodes_from : ℕ → List Journal → List ReadNode
nodes_from line [] = []
nodes_from line (journal ∷ journals) = node_journal (line + 1) journal.0 journal.1 ∷ nodes_from (line + 1 + length journal.1) journals

-- line 1 is that of the version, and line 2 that of the first node
abbrev pub with_first_lines : List Journal → ReadJournals
with_first_lines journals = record { nodes = nodes_from 2 journals }

-- reading the text of journals returns those journals, with the least blocks
abbrev pub TextsAreReadBack : Type 0
TextsAreReadBack = (journals : List Journal) → AreReportable journals → journals_of (journal_text journals) ≡ Ok (with_first_lines journals)

-- the same of texts of any length and version
abbrev pub LongTextsAreReadBack : Type 0
LongTextsAreReadBack = (journals : List Journal) → AreLongReportable journals → journals_within max_counted (journal_text journals) ≡ Ok (with_first_lines journals)

-- the node read has the shape of the one written, and its events except for their blocks
pub record IsSameNode (written : Journal) (read : ReadNode) : Type 0 where
  pub shape : read.shape ≡ written.0
  pub events : SameButBlocks written.1 read.events

-- the nodes read are those written, in order
abbrev pub NothingElseChanges : Type 0
NothingElseChanges = (journals : List Journal) → AllZip IsSameNode journals (with_first_lines journals).nodes

-- the nodes read are legal
abbrev pub WhatIsReadIsLegal : Type 0
WhatIsReadIsLegal = (v : Version) (most : ℕ) (journals : List Journal) → AreReportableIn v most journals → All (λ (node : ReadNode). IsLegal node.shape node.events) (with_first_lines journals).nodes

-- so a check of the text finds no illegal event
abbrev pub TextsAreCalledLegal : Type 0
TextsAreCalledLegal =
    (journals : List Journal) (read : ReadJournals) (line : Option ℕ) → AreReportable journals → journals_of (journal_text journals) ≡ Ok read → ReportsIllegal read.nodes line → line ≡ None

-- the same of texts of any length and version
abbrev pub LongTextsAreCalledLegal : Type 0
LongTextsAreCalledLegal =
    (journals : List Journal) (read : ReadJournals) (line : Option ℕ) → AreLongReportable journals → journals_within max_counted (journal_text journals) ≡ Ok read → ReportsIllegal read.nodes line → line ≡ None
