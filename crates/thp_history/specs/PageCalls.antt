-- A call about one page: the call of the node, its event, and its effect on the page.
use Rattle.std.specs.Prelude.{ℕ, List, Bool, false, nat_eq, Option, Some, None}
use Rattle.std.specs.Option.{option_map_or}
use Rattle.thp_history.specs.declared.events.Outcome.{Outcome}
use Rattle.thp_history.specs.declared.events.What.{What}
use Rattle.thp_history.specs.declared.events.What.TheVariants as what
use Rattle.thp_history.specs.Pages.{PageState, WholeMapped, WholeUnmapped, RangeMapped, RangeUnmapped, PmdSplit, Pinned, RangeWritten, RangeZeroed}
use Rattle.thp_history.specs.Refusals.{Call}
use Rattle.thp_history.specs.Refusals as call
use Rattle.thp_history.specs.declared.page_call.Gain.{Gain}
use Rattle.thp_history.specs.declared.page_call.Gain.TheVariants as gain
use Rattle.thp_history.specs.declared.page_call.Loss.{Loss}
use Rattle.thp_history.specs.declared.page_call.Loss.TheVariants as loss
use Rattle.thp_history.specs.declared.page_call.PageCall.{PageCall}
use Rattle.thp_history.specs.declared.page_call.PageCall.TheVariants as either

-- the call of the node
abbrev pub gain_call : Gain → ℕ → Call
gain_call gain.MapWhole p = call.map_whole p
gain_call (gain.MapSub first count) p = call.map_sub p first count
gain_call gain.SplitPmd p = call.split_pmd p
gain_call gain.Pin p = call.pin p
gain_call (gain.Write first count) p = call.write p first count
gain_call (gain.Zero first count) p = call.zero_fill p first count

abbrev pub loss_call : Loss → ℕ → Call
loss_call loss.UnmapWhole p = call.unmap_whole p
loss_call (loss.UnmapSub first count) p = call.unmap_sub p first count
loss_call loss.Unpin p = call.unpin p

abbrev pub page_call : PageCall → ℕ → Call
page_call (either.Gain g) p = gain_call g p
page_call (either.Loss l) p = loss_call l p

-- its event
abbrev pub gain_what : Gain → ℕ → What
gain_what gain.MapWhole p = what.MapWhole p
gain_what (gain.MapSub first count) p = what.MapSub p first count
gain_what gain.SplitPmd p = what.SplitPmd p
gain_what gain.Pin p = what.Pin p
gain_what (gain.Write first count) p = what.Write p first count
gain_what (gain.Zero first count) p = what.Zero p first count

abbrev pub loss_what : Loss → ℕ → Outcome → List Bool → What
loss_what loss.UnmapWhole p outcome set = what.UnmapWhole outcome p set
loss_what (loss.UnmapSub first count) p outcome set = what.UnmapSub outcome p first count set
loss_what loss.Unpin p outcome set = what.Unpin outcome p set

-- its effect on the page
abbrev pub Gains : Gain → PageState → PageState → Type 0
Gains gain.MapWhole old new = WholeMapped old new
Gains (gain.MapSub first count) old new = RangeMapped first count old new
Gains gain.SplitPmd old new = PmdSplit old new
Gains gain.Pin old new = Pinned old new
Gains (gain.Write first count) old new = RangeWritten first count old new
Gains (gain.Zero first count) old new = RangeZeroed first count old new

abbrev pub Loses : Loss → PageState → PageState → Type 0
Loses loss.UnmapWhole old new = WholeUnmapped old new
Loses (loss.UnmapSub first count) old new = RangeUnmapped first count old new
Loses loss.Unpin old new = Pinned new old

-- the page and the call, if the event is that of a call about one page
abbrev pub recorded_call : What → Option (ℕ × PageCall)
recorded_call (what.MapWhole p) = Some (p, either.Gain gain.MapWhole)
recorded_call (what.UnmapWhole o p set) = Some (p, either.Loss loss.UnmapWhole)
recorded_call (what.MapSub p first count) = Some (p, either.Gain (gain.MapSub first count))
recorded_call (what.UnmapSub o p first count set) = Some (p, either.Loss (loss.UnmapSub first count))
recorded_call (what.SplitPmd p) = Some (p, either.Gain gain.SplitPmd)
recorded_call (what.Pin p) = Some (p, either.Gain gain.Pin)
recorded_call (what.Unpin o p set) = Some (p, either.Loss loss.Unpin)
recorded_call (what.Write p first count) = Some (p, either.Gain (gain.Write first count))
recorded_call (what.Zero p first count) = Some (p, either.Gain (gain.Zero first count))
recorded_call w = None

-- an event is about page p and changes it, or its state by the history
abbrev pub is_about : ℕ → What → Bool
is_about p (what.Alloc q block) = nat_eq p q
is_about p (what.Split q set) = nat_eq p q
is_about p w = option_map_or (λ made. nat_eq p made.0) (recorded_call w) false
