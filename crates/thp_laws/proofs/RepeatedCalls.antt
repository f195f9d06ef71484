-- What the command of a call does where the call's event fits.
use Rattle.std.proofs.Common.{◌≡◌, ◌<◌, ℕ, List, [], ◌∷◌, Option, None, Ok, refl, ap, ap₂, arith, sym, subst}
use Rattle.std.specs.Prelude.{⊤, min}
use Rattle.thp_history.specs.declared.events.Event.{Event}
use Rattle.thp_history.specs.declared.events.What.{What}
use Rattle.thp_history.specs.declared.events.What.TheVariants as what
use Rattle.thp_history.specs.declared.refusal.Refusal.{Refusal}
use Rattle.thp_history.specs.declared.shape.Shape.{Shape}
use Rattle.thp_history.specs.Prelude.{History, by, Fits, IsShape}
use Rattle.thp_history.proofs.Allowed.{allowed_map_sub, allowed_unmap_sub, allowed_write, allowed_zero}
use Rattle.thp_script.specs.declared.script.Op.{Op}
use Rattle.thp_script.specs.declared.script.Op.TheVariants as op
use Rattle.thp_journal_scripts.specs.declared.folding.EventKind.{EventKind}
use Rattle.thp_journal_scripts.specs.declared.folding.EventKind.TheVariants.{Call}
use Rattle.thp_journal_scripts.specs.Prelude.{kind_of}
use Rattle.thp_worker.specs.declared.reply.Reply.TheVariants as reply
use Rattle.thp_worker.specs.declared.steps.Step.TheVariants.{One}
use Rattle.thp_worker.specs.Prelude.{Does, Open, Reaction, Unless, StepAnswer, TurnsOut}
use Rattle.thp_laws.proofs.LegalNumbers.{small_range}

-- what is done where nothing refuses it
pub not_refused : (r : Option Refusal) (own : List Event) (answer : Reaction) (batch after : Option Open) (P : Type 0) → r ≡ None → P → Unless r own answer batch after P
not_refused r own answer batch after P none done = subst (λ x. Unless x own answer batch after P) (sym none) done

-- the fact holds of the command, if the kind is a call
abbrev pub OfCall : (Op → Type 0) → EventKind → Type 0
OfCall P (Call o) = P o
OfCall P _ = ⊤

-- the command was done with some answer, and there is no batch before or after it
abbrev pub DoesAlone : Shape → History → ℕ → List Event → Op → Type 0
DoesAlone s h c own o = (answer : Reaction) × Does s h c None (One o) own answer None

-- the command of a call does its event, if that fits
does_event : (s : Shape) (h : History) (c : ℕ) (w : What) → IsShape s → Fits s h (by c w) → OfCall (DoesAlone s h c (by c w ∷ [])) (kind_of w)
unfolding Does
does_event s h c (what.Alloc p b) is fits = (Ok (reply.Page p), not_refused _ _ _ None None _ fits.allowed ((b, ap (λ n. by c (what.Alloc n b) ∷ []) fits.number, ap (λ n. Ok (reply.Page n)) fits.number), refl))
does_event s h c (what.MapWhole p) is fits = (Ok reply.Unit, not_refused _ _ _ None None _ fits ((refl, refl), refl))
does_event s h c (what.UnmapWhole o p set) is fits = (Ok (reply.Done (record { outcome = o; released = set })), not_refused _ _ _ None None _ fits.0 ((record { outcome = o; released = set }, refl, refl), refl))
does_event s h c (what.MapSub p first count) is fits = (Ok reply.Unit, not_refused _ _ _ None None _ fits ((refl, refl), refl))
does_event s h c (what.UnmapSub o p first count set) is fits = (Ok (reply.Done (record { outcome = o; released = set })), not_refused _ _ _ None None _ fits.0 ((record { outcome = o; released = set }, refl, refl), refl))
does_event s h c (what.SplitPmd p) is fits = (Ok reply.Unit, not_refused _ _ _ None None _ fits ((refl, refl), refl))
does_event s h c (what.Pin p) is fits = (Ok reply.Unit, not_refused _ _ _ None None _ fits ((refl, refl), refl))
does_event s h c (what.Unpin o p set) is fits = (Ok (reply.Done (record { outcome = o; released = set })), not_refused _ _ _ None None _ fits.0 ((record { outcome = o; released = set }, refl, refl), refl))
does_event s h c (what.Write p first count) is fits = (Ok reply.Unit, not_refused _ _ _ None None _ fits ((refl, refl), refl))
does_event s h c (what.Zero p first count) is fits = (Ok reply.Unit, not_refused _ _ _ None None _ fits ((refl, refl), refl))
does_event s h c (what.Taken p) is fits = tt
does_event s h c (what.Split p set) is fits = tt
does_event s h c (what.Pinned p) is fits = tt
does_event s h c (what.Used p) is fits = tt
does_event s h c (what.Back p) is fits = tt
does_event s h c (what.Dropped p) is fits = tt
does_event s h c what.Close is fits = (Ok reply.Unit, not_refused _ _ _ None None _ fits ((refl, refl), refl))

-- a command has one step
abbrev pub HasOneStep : Op → Type 0
HasOneStep o = (reported : List StepAnswer) (answer : Reaction) → TurnsOut o reported answer → reported ≡ record { step = One o; answer = answer } ∷ []

-- the command of a call has one step
call_step : (w : What) → OfCall HasOneStep (kind_of w)
call_step (what.Alloc p b) = λ reported answer t. t
call_step (what.MapWhole p) = λ reported answer t. t
call_step (what.UnmapWhole o p set) = λ reported answer t. t
call_step (what.MapSub p first count) = λ reported answer t. t
call_step (what.UnmapSub o p first count set) = λ reported answer t. t
call_step (what.SplitPmd p) = λ reported answer t. t
call_step (what.Pin p) = λ reported answer t. t
call_step (what.Unpin o p set) = λ reported answer t. t
call_step (what.Write p first count) = λ reported answer t. t
call_step (what.Zero p first count) = λ reported answer t. t
call_step (what.Taken p) = tt
call_step (what.Split p set) = tt
call_step (what.Pinned p) = tt
call_step (what.Used p) = tt
call_step (what.Back p) = tt
call_step (what.Dropped p) = tt
call_step what.Close = λ reported answer t. t

module _ (w : What) (o : Op) (kind : kind_of w ≡ Call o) where
  pub does_call : (s : Shape) (h : History) (c : ℕ) → IsShape s → Fits s h (by c w) → DoesAlone s h c (by c w ∷ []) o
  does_call s h c is fits = subst (OfCall (DoesAlone s h c (by c w ∷ []))) kind (does_event s h c w is fits)

  pub one_step_of : HasOneStep o
  one_step_of = subst (OfCall HasOneStep) kind (call_step w)
