-- The words of events (this project's journal format).
use Rattle.std.specs.Prelude.{ℕ, Result, Ok, Err, codes, if◌then◌else◌, bytes_eq}
use Rattle.thp_history.specs.declared.events.Outcome.{Outcome}
use Rattle.thp_history.specs.declared.events.Outcome.TheVariants.{Stays, Queued, Freed}
use Rattle.thp_history.specs.declared.events.What.{What}
use Rattle.thp_history.specs.declared.page_call.Loss.TheVariants.{UnmapWhole, Unpin}
use Rattle.thp_history.specs.declared.events.What.TheVariants as what
use Rattle.thp_script.specs.declared.fault.TextKind.{TextKind}
use Rattle.thp_script.specs.declared.fault.TextKind.TheVariants.{BadWord}
use Rattle.thp_script.specs.Prelude.{Text}
use Rattle.thp_journal_reader.specs.declared.event_line.EventWord.{EventWord}
use Rattle.thp_journal_reader.specs.declared.event_line.EventWord.TheVariants.{OfPage, OfRange, OfLoss, UnmapSub, Split, Close}
use Rattle.thp_journal_reader.specs.declared.event_line.PageWord.{PageWord}
use Rattle.thp_journal_reader.specs.declared.event_line.PageWord.TheVariants.{Alloc, MapWhole, SplitPmd, Pin, Taken, Pinned, Used, Back, Dropped}
use Rattle.thp_journal_reader.specs.declared.event_line.RangeWord.{RangeWord}
use Rattle.thp_journal_reader.specs.declared.event_line.RangeWord.TheVariants.{MapSub, Write, Zero}
use Rattle.thp_journal_writer.specs.declared.version.Version.{Version}
use Rattle.thp_journal_writer.specs.declared.version.Version.TheVariants.{Plain, Orders, Underused, Large}

-- the event words of each version
unfoldable pub common_word : Text → Result EventWord TextKind
common_word name =
    if bytes_eq name (codes "alloc") then Ok (OfPage Alloc)
    else if bytes_eq name (codes "mapwhole") then Ok (OfPage MapWhole)
    else if bytes_eq name (codes "unmapwhole") then Ok (OfLoss UnmapWhole)
    else if bytes_eq name (codes "mapsub") then Ok (OfRange MapSub)
    else if bytes_eq name (codes "unmapsub") then Ok UnmapSub
    else if bytes_eq name (codes "splitpmd") then Ok (OfPage SplitPmd)
    else if bytes_eq name (codes "pin") then Ok (OfPage Pin)
    else if bytes_eq name (codes "unpin") then Ok (OfLoss Unpin)
    else if bytes_eq name (codes "taken") then Ok (OfPage Taken)
    else if bytes_eq name (codes "split") then Ok Split
    else if bytes_eq name (codes "pinned") then Ok (OfPage Pinned)
    else if bytes_eq name (codes "back") then Ok (OfPage Back)
    else if bytes_eq name (codes "dropped") then Ok (OfPage Dropped)
    else if bytes_eq name (codes "close") then Ok Close
    else Err BadWord

-- the further event words from version 3 on
unfoldable pub later_word : Text → Result EventWord TextKind
later_word name =
    if bytes_eq name (codes "write") then Ok (OfRange Write)
    else if bytes_eq name (codes "zero") then Ok (OfRange Zero)
    else if bytes_eq name (codes "used") then Ok (OfPage Used)
    else common_word name

-- the event words of a version
abbrev pub event_word : Version → Text → Result EventWord TextKind
event_word Plain name = common_word name
event_word Orders name = common_word name
event_word Underused name = later_word name
event_word Large name = later_word name

-- the event about the page; a new page has block 0 here
abbrev pub page_what : PageWord → ℕ → What
page_what Alloc page = what.Alloc page 0
page_what MapWhole page = what.MapWhole page
page_what SplitPmd page = what.SplitPmd page
page_what Pin page = what.Pin page
page_what Taken page = what.Taken page
page_what Pinned page = what.Pinned page
page_what Used page = what.Used page
page_what Back page = what.Back page
page_what Dropped page = what.Dropped page

-- the event about a range of the page's subpages
abbrev pub range_what : RangeWord → ℕ → ℕ → ℕ → What
range_what MapSub page first count = what.MapSub page first count
range_what Write page first count = what.Write page first count
range_what Zero page first count = what.Zero page first count

-- the outcome that a word names
unfoldable pub outcome_of : Text → Result Outcome TextKind
outcome_of word =
    if bytes_eq word (codes "stays") then Ok Stays
    else if bytes_eq word (codes "queued") then Ok Queued
    else if bytes_eq word (codes "freed") then Ok Freed
    else Err BadWord
