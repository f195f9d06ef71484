-- Journals written line by line (this project's journal format).
use Rattle.std.specs.Prelude.{◌≡◌, ◌==◌, ⊤, nat_le, nat_lt, ℕ, Bool, List, [], ◌∷◌, ◌++◌, length, is_some, codes, if◌then◌else◌, flat_map}
use Rattle.thp_history.specs.declared.events.Event.{Event}
use Rattle.thp_history.specs.declared.events.What.{What}
use Rattle.thp_history.specs.declared.events.What.TheVariants.{Write, Zero, Used}
use Rattle.thp_history.specs.declared.shape.Shape.{Shape}
use Rattle.thp_history.specs.Prelude.{History, max_blocks}
use Rattle.thp_journal_writer.specs.declared.stream.PutFault.{PutFault}
use Rattle.thp_journal_writer.specs.declared.stream.PutFault.TheVariants.{OutOfMemory, VersionTooLow}
use Rattle.thp_journal_writer.specs.declared.version.Version.{Version}
use Rattle.thp_journal_writer.specs.declared.version.Version.TheVariants.{Plain, Orders, Underused, Large}
use Rattle.thp_journal_writer.specs.EventLines.{event_line}
use Rattle.thp_journal_writer.specs.Journals.{Journal, ended, has_large_caller, journal_lines_from, journal_text, node_line, version_line, version_number, version_of}

-- the least version for a node of this shape
abbrev pub shape_version : Shape → Version
shape_version s =
    if nat_lt max_blocks s.blocks then Large
    else if is_some s.underused then Underused
    else if s.order == 9 then Plain
    else Orders

-- the least version for node n, which has this shape
abbrev pub node_version : ℕ → Shape → Version
node_version n s = if nat_lt 7 n then Large else shape_version s

-- the least version that has a word for the event
abbrev pub what_version : What → Version
what_version (Write page first count) = Underused
what_version (Zero page first count) = Underused
what_version (Used page) = Underused
what_version _ = Plain

-- the least version that has a line for the event
abbrev pub event_version : Event → Version
event_version e = if has_large_caller e then Large else what_version e.what

-- a version includes itself and each earlier one
abbrev pub includes : Version → Version → Bool
includes v least = nat_le (version_number least) (version_number v)

-- a property of the least version, if the fault contains that
abbrev pub IfTooLow : PutFault → (Version → Type 0) → Type 0
IfTooLow (VersionTooLow least) P = P least
IfTooLow OutOfMemory P = ⊤

-- the text of the nodes' journals in a version, before its end
abbrev pub text_begun : Version → List Journal → List ℕ
text_begun v journals = flat_map ended (version_line v ∷ journal_lines_from v 0 journals)

-- the whole text
abbrev pub text_in : Version → List Journal → List ℕ
text_in v journals = text_begun v journals ++ ended (codes "end")

-- the line of the version comes before any node
abbrev pub VersionComesFirst : Type 0
VersionComesFirst = (v : Version) → text_begun v [] ≡ ended (version_line v)

-- one more node adds one line
abbrev pub NodeFollows : Type 0
NodeFollows = (v : Version) (journals : List Journal) (shape : Shape) →
    text_begun v (journals ++ (shape, []) ∷ []) ≡ text_begun v journals ++ ended (node_line v (length journals) shape)

-- one more event of the last node adds one line
abbrev pub EventFollows : Type 0
EventFollows = (v : Version) (journals : List Journal) (shape : Shape) (history : History) (e : Event) →
    text_begun v (journals ++ (shape, history ++ e ∷ []) ∷ []) ≡ text_begun v (journals ++ (shape, history) ∷ []) ++ ended (event_line e)

-- in the least version that suffices for the journals, it is their text
abbrev pub LeastVersionIsJournalText : Type 0
LeastVersionIsJournalText = (journals : List Journal) → text_in (version_of journals) journals ≡ journal_text journals
