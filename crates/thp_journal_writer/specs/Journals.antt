-- Journals as text: the nodes of a run, and the events of each (this project's journal format).
use Rattle.std.specs.Prelude.{ℕ, ◌+◌, ◌-◌, ◌==◌, ◌||◌, nat_lt, Bool, true, false, List, [], ◌∷◌, ◌++◌, length, map, Option, Some, None, is_some, codes, if◌then◌else◌, decimal}
use Rattle.std.specs.List.{list_any, list_all, flat_map}
use Rattle.thp_history.specs.declared.events.Event.{Event}
use Rattle.thp_history.specs.declared.events.What.{What}
use Rattle.thp_history.specs.declared.events.What.TheVariants.{Write, Zero}
use Rattle.thp_history.specs.declared.shape.Shape.{Shape}
use Rattle.thp_history.specs.Prelude.{History, max_blocks, max_callers, max_node_blocks, some_event}
use Rattle.thp_journal_writer.specs.declared.version.Version.{Version}
use Rattle.thp_journal_writer.specs.declared.version.Version.TheVariants.{Plain, Orders, Underused, Large}
use Rattle.thp_journal_writer.specs.declared.version.VersionLimits.{VersionLimits}
use Rattle.thp_journal_writer.specs.EventLines.{spaced_line, event_line}

-- the shape of a node, and its events
abbrev pub Journal : Type 0
Journal = Shape × History

-- data or zeros were written to subpages
abbrev pub is_access : What → Bool
is_access (Write page first count) = true
is_access (Zero page first count) = true
is_access _ = false

-- the node looks for underused pages, or writes to its pages were recorded
unfoldable pub reports_underused : Journal → Bool
reports_underused journal = is_some journal.0.underused || some_event is_access journal.1

-- the pages of the node have the order of a THP on x86-64
abbrev pub has_order_9 : Journal → Bool
has_order_9 journal = journal.0.order == 9

-- the greatest numbers that the lines of a version can contain
abbrev pub version_limits : Version → VersionLimits
version_limits Large = record { last_node = 65535; most_blocks = max_node_blocks; last_caller = 65535 }
version_limits _ = record { last_node = 7; most_blocks = max_blocks; last_caller = max_callers - 1 }

-- the caller's number is too great for the versions before 4
abbrev pub has_large_caller : Event → Bool
has_large_caller e = nat_lt 63 e.caller

-- the node has more blocks, or an event of a greater caller, than the versions before 4 can contain
unfoldable pub is_large : Journal → Bool
is_large journal = nat_lt max_blocks journal.0.blocks || list_any has_large_caller journal.1

-- there are more nodes than the versions before 4 can contain, or one of them is large
unfoldable pub are_large : List Journal → Bool
are_large journals = nat_lt 8 (length journals) || list_any is_large journals

-- the least version that suffices for these journals
unfoldable pub version_of : List Journal → Version
version_of journals =
    if are_large journals then Large
    else if list_any reports_underused journals then Underused
    else if list_all has_order_9 journals then Plain
    else Orders

-- versions count from 1
abbrev pub version_number : Version → ℕ
version_number Plain = 1
version_number Orders = 2
version_number Underused = 3
version_number Large = 4

-- the first line of a text
abbrev pub version_line : Version → List ℕ
version_line v = spaced_line (codes "thp-journal" ∷ decimal (version_number v) ∷ [])

-- `off`, or the threshold
abbrev pub underused_word : Option ℕ → List ℕ
underused_word None = codes "off"
underused_word (Some threshold) = decimal threshold

-- the number of a node and its blocks
abbrev pub blocks_words : ℕ → Shape → List (List ℕ)
blocks_words n s = codes "node" ∷ decimal n ∷ codes "blocks" ∷ decimal s.blocks ∷ []

-- the same and the order of its pages
abbrev pub order_words : ℕ → Shape → List (List ℕ)
order_words n s = blocks_words n s ++ codes "order" ∷ decimal s.order ∷ []

-- the same and its threshold
abbrev pub underused_words : ℕ → Shape → List (List ℕ)
underused_words n s = order_words n s ++ codes "underused" ∷ underused_word s.underused ∷ []

-- the words of node n in a version
abbrev pub node_words : Version → ℕ → Shape → List (List ℕ)
node_words Plain n s = blocks_words n s
node_words Orders n s = order_words n s
node_words Underused n s = underused_words n s
node_words Large n s = underused_words n s

-- the line of node n
unfoldable pub node_line : Version → ℕ → Shape → List ℕ
node_line v n s = spaced_line (node_words v n s)

-- the lines of node n: its own, and one for each event
unfoldable pub lines_of_node : Version → ℕ → Journal → List (List ℕ)
lines_of_node v n journal = node_line v n journal.0 ∷ map event_line journal.1

-- the lines of nodes that are numbered from n on
abbrev pub journal_lines_from : Version → ℕ → List Journal → List (List ℕ)
journal_lines_from v n [] = []
journal_lines_from v n (journal ∷ journals) = lines_of_node v n journal ++ journal_lines_from v (n + 1) journals

-- the lines of a journal text, without their line feeds
unfoldable pub journal_lines : List Journal → List (List ℕ)
journal_lines journals = version_line (version_of journals) ∷ journal_lines_from (version_of journals) 0 journals ++ codes "end" ∷ []

-- a line with its line feed (10)
abbrev pub ended : List ℕ → List ℕ
ended line = line ++ 10 ∷ []

-- the text of the nodes' journals, numbered from 0
unfoldable pub journal_text : List Journal → List ℕ
journal_text journals = flat_map ended (journal_lines journals)
