-- The explanation of an event that does not fit the events before it (this project's format). Events have the words of a
-- journal's line.
use Rattle.std.specs.Prelude.{ℕ, List, ◌++◌, Some, None, codes, decimal, unwrap_or}
use Rattle.thp_history.specs.declared.events.Event.{Event}
use Rattle.thp_history.specs.declared.events.Outcome.{Outcome}
use Rattle.thp_history.specs.declared.events.Outcome.TheVariants.{Stays, Queued, Freed}
use Rattle.thp_history.specs.declared.events.What.{What}
use Rattle.thp_history.specs.declared.events.What.TheVariants as event
use Rattle.thp_history.specs.declared.refusal.Refusal.{Refusal}
use Rattle.thp_history.specs.declared.refusal.Refusal.TheVariants.{NoPage, BadRange, IsSplit, NotMapped, Gone, NotPinned, TooMany, Closed, NoBlock, HasBatch, OutOfMemory}
use Rattle.thp_history.specs.Prelude.{by}
use Rattle.thp_check.specs.declared.misfit.Misfit.{Misfit}
use Rattle.thp_check.specs.declared.misfit.Misfit.TheVariants as misfit
use Rattle.thp_check.specs.Reasons.{with_outcome, with_frames}
use Rattle.thp_journal_writer.specs.Prelude.{event_line, event_page, ended}

-- the page of an event; 0 for a close
abbrev pub page_of : What → ℕ
page_of w = unwrap_or (event_page w) 0

-- ---- the events that would fit instead, one line each

-- nothing; or an event of c, also as a further alternative; or a split, without its frames
abbrev pub expected_nothing : List ℕ
expected_nothing = codes "expected: nothing\n"

abbrev pub this : ℕ → What → List ℕ
this c w = codes "expected: " ++ ended (event_line (by c w))

abbrev pub or_this : ℕ → What → List ℕ
or_this c w = codes "or: " ++ ended (event_line (by c w))

abbrev pub or_a_split : ℕ → List ℕ
or_a_split p = codes "or: a split of page " ++ ended (decimal p)

-- the expected events, by the reason why the event of c does not fit
abbrev pub expected : ℕ → What → Misfit → List ℕ
expected c w (misfit.Number n) = this c (event.Alloc n 0)
expected c w (misfit.Outcome o set) = this c (with_outcome o set w)
expected c w (misfit.Oldest (Some p)) = this c (event.Taken p)
expected c w misfit.InUse = this c (event.Used (page_of w))
expected c w misfit.WorthSplit = this c (event.Pinned (page_of w)) ++ or_a_split (page_of w)
expected c w misfit.HasPins = this c (event.Pinned (page_of w))
expected c w misfit.NoPins = this c (event.Used (page_of w)) ++ or_a_split (page_of w)
expected c w (misfit.Released set) = this c (with_frames set w)
expected c w (misfit.First (Some p)) = this c (event.Back p) ++ or_this c (event.Dropped p)
expected c w misfit.MustDrop = this c (event.Dropped (page_of w))
expected c w misfit.MustRequeue = this c (event.Back (page_of w))
expected c w m = expected_nothing

-- ---- why

-- a refusal by its word in answers, and its meaning
abbrev pub refused : Refusal → List ℕ
refused NoPage = codes "refused no-page: the page was never allocated, or was freed"
refused BadRange = codes "refused bad-range: the range is empty or exceeds the page"
refused IsSplit = codes "refused is-split: the page is split into base pages"
refused NotMapped = codes "refused not-mapped: the mapping does not exist"
refused Gone = codes "refused gone: a frame of the range was given back"
refused NotPinned = codes "refused not-pinned: the page has no pin"
refused TooMany = codes "refused too-many: the count is already 65535"
refused Closed = codes "refused closed: the node is closed"
refused NoBlock = codes "refused no-block: every block holds a live page"
refused HasBatch = codes "refused has-batch: the caller has pages in flight"
refused OutOfMemory = codes "refused out-of-memory: the journal could not grow"

-- a statement about a page, and about a caller
abbrev pub page_is : ℕ → List ℕ → List ℕ
page_is p words = codes "page " ++ decimal p ++ codes " " ++ words

abbrev pub caller_is : ℕ → List ℕ → List ℕ
caller_is c words = codes "caller " ++ decimal c ++ codes " " ++ words

-- the relation of a page to the flight of caller c
abbrev pub in_flight_of : ℕ → List ℕ → ℕ → List ℕ
in_flight_of p words c = page_is p words ++ codes " the flight of caller " ++ decimal c

-- why an unmap or an unpin has this outcome
abbrev pub becomes : Outcome → List ℕ
becomes Stays = codes "is still mapped or pinned and does not join the queue; only a split page gives back frames"
becomes Queued = codes "lost the last mapping of a subpage, has another mapped one, and is on no list: it joins the queue"
becomes Freed = codes "has no mapping and no pin left: it is freed with all frames that it held"

-- why the event of c does not fit
abbrev pub why : ℕ → What → Misfit → List ℕ
why c w (misfit.Refused r) = refused r
why c w (misfit.Number n) = codes "the next page number is " ++ decimal n
why c w misfit.BlockTaken = page_is (page_of w) (codes "has no free block")
why c w (misfit.Outcome o set) = page_is (page_of w) (becomes o)
why c w (misfit.Oldest (Some p)) = page_is p (codes "is the oldest in the queue")
why c w (misfit.Oldest None) = codes "the queue is empty"
why c w misfit.HasBatch = caller_is c (codes "has pages in flight, and the previous event is not one of its takes")
why c w misfit.NotInFlight = in_flight_of (page_of w) (codes "is not in") c
why c w misfit.InUse = page_is (page_of w) (codes "is no split candidate: it is neither partly mapped nor underused")
why c w misfit.WorthSplit = page_is (page_of w) (codes "is a split candidate: it is partly mapped or underused")
why c w misfit.HasPins = page_is (page_of w) (codes "has pins")
why c w misfit.NoPins = page_is (page_of w) (codes "has no pin")
why c w (misfit.Released set) = page_is (page_of w) (codes "releases these frames when it is split")
why c w (misfit.First (Some p)) = in_flight_of p (codes "is the first of") c
why c w (misfit.First None) = caller_is c (codes "has no page in flight")
why c w misfit.MustDrop = page_is (page_of w) (codes "is not partly mapped, or the node is closed")
why c w misfit.MustRequeue = page_is (page_of w) (codes "is partly mapped, and the node is open")

-- ---- the whole explanation

-- the event on line n, the events that would fit instead, and the reason
unfoldable pub explanation : ℕ → Event → Misfit → List ℕ
explanation n e m =
    codes "line " ++ decimal n ++ codes ": " ++ ended (event_line e)
    ++ expected e.caller e.what m
    ++ codes "why: " ++ ended (why e.caller e.what m)
