-- The events that a journal's lines can contain.
use Rattle.std.specs.Prelude.{◌≡◌, ◌≤◌, None, ⊤}
use Rattle.std.specs.List.{AllByRecursion}
use Rattle.thp_history.specs.declared.events.Event.{Event}
use Rattle.thp_history.specs.declared.events.What.{What}
use Rattle.thp_history.specs.declared.events.What.TheVariants.{Write, Zero, Used}
use Rattle.thp_history.specs.declared.shape.Shape.{Shape}
use Rattle.thp_history.specs.Prelude.{max_order, IsShapeWithin}
use Rattle.thp_journal_writer.specs.Prelude.{HasSmallNumbers, Journal, version_limits}
use Rattle.thp_journal_writer.specs.declared.version.Version.{Version}
use Rattle.thp_journal_writer.specs.declared.version.Version.TheVariants.{Plain, Orders, Underused, Large}

-- accesses and pages found in use are possible from version 3 on
abbrev pub IsFromVersion3 : Version → Type 0
IsFromVersion3 Plain = ⊥
IsFromVersion3 Orders = ⊥
IsFromVersion3 Underused = ⊤
IsFromVersion3 Large = ⊤

-- the version has a line for this kind of event
abbrev pub IsOfVersion : Version → What → Type 0
IsOfVersion v (Write page first count) = IsFromVersion3 v
IsOfVersion v (Zero page first count) = IsFromVersion3 v
IsOfVersion v (Used page) = IsFromVersion3 v
IsOfVersion v _ = ⊤

-- a line of the version can contain the event
pub record IsReportable (v : Version) (e : Event) : Type 0 where
  pub caller : e.caller ≤ (version_limits v).last_caller
  pub numbers : HasSmallNumbers e.what
  pub version : IsOfVersion v e.what

-- the line of a node in a version determines the shape: without an order it is 9, without a threshold there is none
abbrev pub IsReportedShape : Version → Shape → Type 0
IsReportedShape Plain s = (s.order ≡ max_order) × (s.underused ≡ None)
IsReportedShape Orders s = s.underused ≡ None
IsReportedShape Underused s = ⊤
IsReportedShape Large s = ⊤

-- a node's lines can contain its journal
pub record IsReportedJournal (v : Version) (j : Journal) : Type 0 where
  pub shape : IsShapeWithin (version_limits v).most_blocks j.0
  pub reports_shape : IsReportedShape v j.0
  pub events : AllByRecursion (IsReportable v) j.1
