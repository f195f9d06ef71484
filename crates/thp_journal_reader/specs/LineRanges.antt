-- The bounds that the grammar implies for the values on a line. No public clause cites this module.
use Rattle.std.specs.Prelude.{◌≡◌, ◌≤◌, ⊤, ℕ, true}
use Rattle.thp_history.specs.Prelude.{IsShapeWithin}
use Rattle.thp_journal_reader.specs.JournalLines.{may_have_version}
use Rattle.thp_journal_reader.specs.declared.line.Line.{Line}
use Rattle.thp_journal_reader.specs.declared.line.Line.TheVariants.{Node}
use Rattle.thp_journal_reader.specs.declared.line.Place.{Place}
use Rattle.thp_journal_writer.specs.declared.version.Version.{Version}
use Rattle.thp_journal_writer.specs.Prelude.{version_limits}

-- the line is that of a node within the limits of a version, with a valid shape
abbrev pub IsLineInRange : Version → Line → Type 0
IsLineInRange v (Node number shape) = (number ≤ (version_limits v).last_node) × IsShapeWithin (version_limits v).most_blocks shape
IsLineInRange v _ = ⊤

-- the line is that of a node of at most so many blocks, with a valid shape
abbrev pub HasShapeWithin : ℕ → Line → Type 0
HasShapeWithin most (Node number shape) = IsShapeWithin most shape
HasShapeWithin most _ = ⊤

-- each version that the text can have is allowed
abbrev pub AllowsVersionsAt : (Version → Type 0) → Place → Type 0
AllowsVersionsAt allows place = (v : Version) → may_have_version place v ≡ true → allows v
