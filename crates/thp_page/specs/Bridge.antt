-- The connection between a page and the history of its node: after a call, the page is in the state that the history with the
-- call's event gives it, and that event fits.
use Rattle.std.specs.Prelude.{◌≡◌, ℕ, true, false, not, [], ◌∷◌, ◌++◌, None}
use Rattle.thp_history.specs.declared.events.Event.{Event}
use Rattle.thp_history.specs.declared.events.Outcome.{Outcome}
use Rattle.thp_history.specs.declared.events.What.TheVariants.{Alloc, Split}
use Rattle.thp_history.specs.declared.shape.Shape.{Shape}
use Rattle.thp_history.specs.Prelude.{History, by, is_live, is_closed, frees, allocations, shrinks_underused, is_worth_split, flight, has_page, stands, refusal, Fits, IsLegal, PageState, page_refusal, gives_frames, is_split_candidate, PageSplit, IsFresh, Tallies, gain_call, loss_call, page_call, gain_what, loss_what, Gains, Loses, is_about, page_outcome, page_released}
use Rattle.thp_history.specs.declared.page_call.Gain.{Gain}
use Rattle.thp_history.specs.declared.page_call.Loss.{Loss}
use Rattle.thp_history.specs.declared.page_call.PageCall.{PageCall}

-- at h page p is live, and t is its state
pub record IsAt (shape : Shape) (h : History) (p : ℕ) (t : PageState) : Type 0 where
  pub live : is_live h p ≡ true
  pub tallies : Tallies shape h p t

-- the event fits h, and after it t is the state of page p, which is live unless the event frees it
pub record Records (shape : Shape) (h : History) (e : Event) (p : ℕ) (t : PageState) : Type 0 where
  pub fits : Fits shape h e
  pub tallies : Tallies shape (h ++ e ∷ []) p t
  pub live : is_live (h ++ e ∷ []) p ≡ not (frees p e.what)

-- events of other pages, of lists and of the node don't change a page
abbrev pub OthersLeavePages : Type 0
OthersLeavePages =
    (shape : Shape) (h : History) (e : Event) (p : ℕ) (t : PageState) → IsAt shape h p t → is_about p e.what ≡ false →
    IsAt shape (h ++ e ∷ []) p t

-- a live page refuses the calls that its history refuses, for the same reason
abbrev pub RefusalsAgree : Type 0
RefusalsAgree =
    (shape : Shape) (h : History) (p : ℕ) (t : PageState) → IsAt shape h p t → (k : PageCall) →
    refusal shape h (page_call k p) ≡ page_refusal t (page_call k p)

-- a new page is in the state that the history with its allocation gives it
abbrev pub FreshPageIsRecorded : Type 0
FreshPageIsRecorded =
    (shape : Shape) (h : History) (c b : ℕ) (new : PageState) → IsLegal shape h → IsFresh shape.order new →
    IsAt shape (h ++ by c (Alloc (allocations h) b) ∷ []) (allocations h) new

-- a page after a gain
abbrev pub GainIsRecorded : Type 0
GainIsRecorded =
    (shape : Shape) (h : History) (c p : ℕ) (gain : Gain) (old new : PageState) → IsAt shape h p old →
    page_refusal old (gain_call gain p) ≡ None → Gains gain old new → Records shape h (by c (gain_what gain p)) p new

-- a page after a loss: the outcome and the frames of the event follow from the page's states, the node's closing and the list
-- that the page is on
abbrev pub LossIsRecorded : Type 0
LossIsRecorded =
    (shape : Shape) (h : History) (c p : ℕ) (loss : Loss) (old new : PageState) → IsAt shape h p old →
    page_refusal old (loss_call loss p) ≡ None → Loses loss old new →
    let o : Outcome = page_outcome old new (is_closed h) (stands shape h p) in
    Records shape h (by c (loss_what loss p o (page_released old new o))) p new

-- a page and its node's threshold determine whether the page is worth a split by its history
abbrev pub CandidatesAgree : Type 0
CandidatesAgree =
    (shape : Shape) (h : History) (p : ℕ) (t : PageState) → IsAt shape h p t → is_worth_split shape h p ≡ is_split_candidate shape.underused t

-- a split of a page that is worth a split is recorded by the caller whose batch it is in; it gives zero-filled subpages back if
-- the node's switch is on
abbrev pub SplitIsRecorded : Type 0
SplitIsRecorded =
    (shape : Shape) (h : History) (c p : ℕ) (old new : PageState) → IsAt shape h p old → has_page p (flight h c) ≡ true →
    is_split_candidate shape.underused old ≡ true → old.split ≡ false → old.pins ≡ 0 → PageSplit (shrinks_underused shape) old new →
    Records shape h (by c (Split p (gives_frames old new))) p new
