-- The reasons of events of page calls, where the definitions refuse the call or give another outcome.
use Rattle.std.proofs.Common.{◌≡◌, ℕ, Bool, true, false, cond, List, Option, Some, None, refl}
use Rattle.thp_history.specs.declared.events.Outcome.{Outcome}
use Rattle.thp_history.specs.declared.refusal.Refusal.{Refusal}
use Rattle.thp_history.specs.declared.refusal.Refusal.TheVariants as reason
use Rattle.thp_history.specs.declared.shape.Shape.{Shape}
use Rattle.thp_history.specs.Prelude.{History, by, is_closed, Fits, gain_call, loss_call, gain_what, loss_what, refusal}
use Rattle.thp_history.specs.Refusals as call
use Rattle.thp_history.specs.declared.page_call.Gain.{Gain}
use Rattle.thp_history.specs.declared.page_call.Gain.TheVariants as gain
use Rattle.thp_history.specs.declared.page_call.Loss.{Loss}
use Rattle.thp_history.specs.declared.page_call.Loss.TheVariants as loss
use Rattle.thp_check.specs.declared.misfit.Misfit.TheVariants as misfit
use Rattle.thp_check.specs.Prelude.{IsMisfit, Explains}
use Rattle.thp_check.proofs.PageEvents.{gain_allowed, loss_allowed}

some_none : (r : Refusal) (o : Option Refusal) → o ≡ Some r → o ≡ None → ⊥
some_none r o e f = cc

-- the call of a gain is refused
gain_reason : (s : Shape) (h : History) (c p : ℕ) (g : Gain) (r : Refusal) → refusal s h (gain_call g p) ≡ Some r → Explains s h (by c (gain_what g p)) (misfit.Refused r)
gain_reason s h c p gain.MapWhole r e = e
gain_reason s h c p (gain.MapSub first n) r e = e
gain_reason s h c p gain.SplitPmd r e = e
gain_reason s h c p gain.Pin r e = e
gain_reason s h c p (gain.Write first n) r e = e
gain_reason s h c p (gain.Zero first n) r e = e

pub gain_misfit : (s : Shape) (h : History) (c p : ℕ) (g : Gain) (r : Refusal) → refusal s h (gain_call g p) ≡ Some r → IsMisfit s h (by c (gain_what g p)) (misfit.Refused r)
gain_misfit s h c p g r e = (λ f. some_none r _ e (gain_allowed s h c p g f), gain_reason s h c p g r e)

-- the call of a loss is refused
loss_reason : (s : Shape) (h : History) (c p : ℕ) (l : Loss) (o : Outcome) (set : List Bool) (r : Refusal) → refusal s h (loss_call l p) ≡ Some r →
    Explains s h (by c (loss_what l p o set)) (misfit.Refused r)
loss_reason s h c p loss.UnmapWhole o set r e = e
loss_reason s h c p (loss.UnmapSub first n) o set r e = e
loss_reason s h c p loss.Unpin o set r e = e

pub loss_misfit : (s : Shape) (h : History) (c p : ℕ) (l : Loss) (o : Outcome) (set : List Bool) (r : Refusal) → refusal s h (loss_call l p) ≡ Some r →
    IsMisfit s h (by c (loss_what l p o set)) (misfit.Refused r)
loss_misfit s h c p l o set r e = (λ f. some_none r _ e (loss_allowed s h c p l o set f), loss_reason s h c p l o set r e)

-- a loss would fit with another outcome or other frames
pub loss_other : (s : Shape) (h : History) (c p : ℕ) (l : Loss) (o : Outcome) (set : List Bool) (u : Outcome) (given : List Bool) → Fits s h (by c (loss_what l p u given)) →
    ((u ≡ o) × (given ≡ set) → ⊥) → Explains s h (by c (loss_what l p o set)) (misfit.Outcome u given)
loss_other s h c p loss.UnmapWhole o set u given f other = (f, λ e. other (cc, cc))
loss_other s h c p (loss.UnmapSub first n) o set u given f other = (f, λ e. other (cc, cc))
loss_other s h c p loss.Unpin o set u given f other = (f, λ e. other (cc, cc))

-- the first test of a call that holds
at_first : (b : Bool) (r : Refusal) (rest : Option Refusal) → b ≡ true → cond b (Some r) rest ≡ Some r
at_first true r rest e = refl
at_first false r rest e = absurd (cc)

-- a closed node isn't closed again
pub closed_again : (s : Shape) (h : History) → is_closed h ≡ true → refusal s h call.close ≡ Some reason.Closed
unfolding refusal
closed_again s h e = at_first (is_closed h) reason.Closed _ e
