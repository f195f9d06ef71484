-- The theorem that the expected events fit.
use Rattle.std.specs.Prelude.{◌≡◌, ◌≢◌, ◌⊎◌, ⊤, ℕ, false, Some}
use Rattle.thp_history.specs.declared.events.What.{What}
use Rattle.thp_history.specs.declared.events.What.TheVariants as event
use Rattle.thp_history.specs.declared.shape.Shape.{Shape}
use Rattle.thp_history.specs.Prelude.{pins, History, by, Fits, is_worth_split}
use Rattle.thp_check.specs.declared.misfit.Misfit.{Misfit}
use Rattle.thp_check.specs.declared.misfit.Misfit.TheVariants as misfit
use Rattle.thp_check.specs.Reasons.{ExplainsBy, with_outcome, with_frames}
use Rattle.thp_check.specs.Explanations.{page_of}

-- the events expected instead of the event of c, by the reason why that does not fit, fit the history. For a number and a take of
-- the oldest page, another reason may prevent it.
abbrev pub FitsInPlace : Shape → History → ℕ → What → Misfit → Type 0
FitsInPlace s h c w (misfit.Outcome o set) = Fits s h (by c (with_outcome o set w))
FitsInPlace s h c w misfit.InUse = Fits s h (by c (event.Used (page_of w)))
FitsInPlace s h c w misfit.WorthSplit = pins h (page_of w) ≢ 0 → Fits s h (by c (event.Pinned (page_of w)))
FitsInPlace s h c w misfit.HasPins = Fits s h (by c (event.Pinned (page_of w)))
FitsInPlace s h c w misfit.NoPins = is_worth_split s h (page_of w) ≡ false → Fits s h (by c (event.Used (page_of w)))
FitsInPlace s h c w (misfit.Released set) = Fits s h (by c (with_frames set w))
FitsInPlace s h c w (misfit.First (Some p)) = Fits s h (by c (event.Back p)) ⊎ Fits s h (by c (event.Dropped p))
FitsInPlace s h c w misfit.MustDrop = Fits s h (by c (event.Dropped (page_of w)))
FitsInPlace s h c w misfit.MustRequeue = Fits s h (by c (event.Back (page_of w)))
FitsInPlace s h c w m = ⊤

-- for any reason, the expected events fit
unfoldable pub ExpectedFits : Type 0
ExpectedFits = (s : Shape) (h : History) (c : ℕ) (w : What) (m : Misfit) → ExplainsBy s h c w m → FitsInPlace s h c w m
