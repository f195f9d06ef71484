-- Histories of whole scans: a caller takes pages, tries each once, and puts back or drops those that are still in flight, and no
-- other event comes between these (this project's profile).
use Rattle.std.specs.Prelude.{◌≡◌, ◌≤◌, ◌+◌, ◌++◌, ◌&&◌, ℕ, nat_eq, nat_lt, List, [], ◌∷◌, length, if◌then◌else◌, fold}
use Rattle.thp_history.specs.declared.events.Event.{Event}
use Rattle.thp_history.specs.declared.events.What.{What}
use Rattle.thp_history.specs.declared.events.What.TheVariants.{Taken, Split, Used, Back, Dropped}
use Rattle.thp_history.specs.Prelude.{History, max_batch}
use Rattle.thp_script.specs.declared.script.Op.{Op}
use Rattle.thp_script.specs.declared.script.Op.TheVariants as op
use Rattle.thp_journal_scripts.specs.declared.folding.EventKind.{EventKind}
use Rattle.thp_journal_scripts.specs.declared.folding.EventKind.TheVariants.{Call, Take, Try, Put}
use Rattle.thp_journal_scripts.specs.Repeating.{kind_of}

-- how far a scan has come: its caller and the pages that it has in flight; in the tries also the number of pages taken and tried
pub data ScanPlace : Type 0 where
  Between : ScanPlace
  InTakes : ℕ → List ℕ → ScanPlace
  InTries : ℕ → ℕ → ℕ → List ℕ → ScanPlace
  InPuts : ℕ → List ℕ → ScanPlace
  Elsewhere : ScanPlace

-- the pages without the first p
abbrev pub pages_without : ℕ → List ℕ → List ℕ
pages_without p [] = []
pages_without p (q ∷ ps) = if nat_eq q p then ps else (q ∷ pages_without p ps)

-- the pages in flight after an event of a scan
abbrev pub pages_after : What → List ℕ → List ℕ
pages_after (Taken p) ps = ps ++ p ∷ []
pages_after (Split p released) ps = pages_without p ps
pages_after (Used p) ps = pages_without p ps
pages_after (Back p) ps = pages_without p ps
pages_after (Dropped p) ps = pages_without p ps
pages_after _ ps = ps

-- one more take by caller c
abbrev pub place_of_take : ScanPlace → ℕ → What → ScanPlace
place_of_take Between c w = InTakes c (pages_after w [])
place_of_take (InTakes d ps) c w = if nat_eq d c && nat_lt (length ps) max_batch then InTakes d (pages_after w ps) else Elsewhere
place_of_take _ c w = Elsewhere

-- one more try
abbrev pub place_of_try : ScanPlace → ℕ → What → ScanPlace
place_of_try (InTakes d ps) c w = if nat_eq d c then InTries d (length ps) 1 (pages_after w ps) else Elsewhere
place_of_try (InTries d n k ps) c w = if nat_eq d c && nat_lt k n then InTries d n (k + 1) (pages_after w ps) else Elsewhere
place_of_try _ c w = Elsewhere

-- one more page that is put back or dropped
abbrev pub place_of_put : ScanPlace → ℕ → What → ScanPlace
place_of_put (InTries d n k ps) c w = if nat_eq d c && nat_eq k n then InPuts d (pages_after w ps) else Elsewhere
place_of_put (InPuts d ps) c w = if nat_eq d c then InPuts d (pages_after w ps) else Elsewhere
place_of_put _ c w = Elsewhere

-- one more call
abbrev pub place_of_call : ScanPlace → ScanPlace
place_of_call Between = Between
place_of_call _ = Elsewhere

abbrev pub scan_place_of : ScanPlace → EventKind → ℕ → What → ScanPlace
scan_place_of s (Call o) c w = place_of_call s
scan_place_of s Take c w = place_of_take s c w
scan_place_of s Try c w = place_of_try s c w
scan_place_of s Put c w = place_of_put s c w

-- a scan has ended once each of its pages was tried and none is in flight
abbrev pub once_ended : ScanPlace → ScanPlace
once_ended (InTries c n k []) = if nat_eq k n then Between else InTries c n k []
once_ended (InPuts c []) = Between
once_ended s = s

abbrev pub scan_place_after : ScanPlace → Event → ScanPlace
scan_place_after s e = once_ended (scan_place_of s (kind_of e.what) e.caller e.what)

-- how far the last scan of a history has come
abbrev pub scan_place : History → ScanPlace
scan_place h = fold scan_place_after Between h

-- a call, or a scan of some pages
abbrev pub IsCallOrScan : Op → Type 0
IsCallOrScan (op.Scan n) = 1 ≤ n
IsCallOrScan (op.Take n) = ⊥
IsCallOrScan op.SplitNext = ⊥
IsCallOrScan op.PutBack = ⊥
IsCallOrScan o = Unit {0}

-- the batches of a history are whole scans
abbrev pub IsWholeScans : History → Type 0
IsWholeScans h = scan_place h ≡ Between
