-- Commands that repeat a history, one part of it after the other, and the calls among them.
use Rattle.std.proofs.Common.{◌≡◌, ◌∙◌, ℕ, true, false, cond, List, [], ◌∷◌, ◌++◌, length, zero, suc, Option, Some, append_assoc, ap, refl, subst, sym, All, replicate, append-nil}
use Rattle.std.proofs.lemmas.List.Elements.{All-cons, All-head, All-nil, All-tail}
use Rattle.thp_history.specs.declared.events.Event.{Event}
use Rattle.thp_history.specs.declared.events.What.{What}
use Rattle.thp_history.specs.declared.events.What.TheVariants as what
use Rattle.thp_history.specs.Prelude.{History}
use Rattle.thp_script.specs.declared.script.Op.{Op}
use Rattle.thp_script.specs.declared.script.Op.TheVariants.{SplitNext}
use Rattle.thp_journal_scripts.specs.Prelude.{EventKind, Call, Try, call_in, calls_in, calls_of, is_call, kind_of, IsBy, IsCall, Repeats, RepeatsBy}

-- one more command repeats one more part
pub repeats_more : (a : Option ℕ) (ops : List Op) (h : History) (b : Option ℕ) (o : Op) (own : History) (c : Option ℕ) → Repeats a ops h b → RepeatsBy b o own c → Repeats a (ops ++ o ∷ []) (h ++ own) c
repeats_more a [] h b o own c r by = (own, [], c, ap (λ g. g ++ own) r.0 ∙ sym (append-nil own), subst (λ x. RepeatsBy x o own c) r.1 by, (refl, refl))
repeats_more a (p ∷ ops) h b o own c r by =
    (r.0, r.1 ++ own, r.2, ap (λ g. g ++ own) r.3 ∙ append_assoc r.0 r.1 own, r.4, repeats_more r.2 ops r.1 b o own c r.5 by)

-- tries repeat as many tries
pub repeats_tries : (c : ℕ) (a : Option ℕ) (tries : History) (ops : List Op) (h : History) → Repeats a ops h (Some c) → All (IsBy c Try) tries → Repeats a (ops ++ replicate (length tries) SplitNext) (h ++ tries) (Some c)
repeats_tries c a [] ops h r all = rw (append-nil ops, append-nil h) r
repeats_tries c a (e ∷ tries) ops h r all =
    let one : Repeats a (ops ++ SplitNext ∷ []) (h ++ e ∷ []) (Some c) =
    repeats_more a ops h (Some c) SplitNext (e ∷ []) (Some c) r (c, refl, (refl, All-cons (IsBy c Try) e [] (All-head (IsBy c Try) e tries all) (All-nil (IsBy c Try))), refl) in
    let rest : Repeats a ((ops ++ SplitNext ∷ []) ++ replicate (length tries) SplitNext) ((h ++ e ∷ []) ++ tries) (Some c) =
    repeats_tries c a tries (ops ++ SplitNext ∷ []) (h ++ e ∷ []) one (All-tail (IsBy c Try) e tries all) in
    subst (λ g. Repeats a (ops ++ SplitNext ∷ replicate (length tries) SplitNext) g (Some c)) (append_assoc h (e ∷ []) tries)
    (subst (λ os. Repeats a os ((h ++ e ∷ []) ++ tries) (Some c)) (append_assoc ops (SplitNext ∷ []) (replicate (length tries) SplitNext)) rest)

-- ---- calls

-- a call is a command that needs no batch
abbrev pub IsPlain : EventKind → Type 0
IsPlain (Call o) = (is_call o ≡ true) × ((batch : Option ℕ) (own : History) → IsCall o own → RepeatsBy batch o own batch)
IsPlain _ = Unit {0}

pub is_plain : (w : What) → IsPlain (kind_of w)
is_plain (what.Alloc p b) = (refl, λ batch own call. (call, refl))
is_plain (what.MapWhole p) = (refl, λ batch own call. (call, refl))
is_plain (what.UnmapWhole o p set) = (refl, λ batch own call. (call, refl))
is_plain (what.MapSub p first count) = (refl, λ batch own call. (call, refl))
is_plain (what.UnmapSub o p first count set) = (refl, λ batch own call. (call, refl))
is_plain (what.SplitPmd p) = (refl, λ batch own call. (call, refl))
is_plain (what.Pin p) = (refl, λ batch own call. (call, refl))
is_plain (what.Unpin o p set) = (refl, λ batch own call. (call, refl))
is_plain (what.Write p first count) = (refl, λ batch own call. (call, refl))
is_plain (what.Zero p first count) = (refl, λ batch own call. (call, refl))
is_plain (what.Taken p) = tt
is_plain (what.Split p set) = tt
is_plain (what.Pinned p) = tt
is_plain (what.Used p) = tt
is_plain (what.Back p) = tt
is_plain (what.Dropped p) = tt
is_plain what.Close = (refl, λ batch own call. (call, refl))

pub calls_in_both : (ops more : List Op) → calls_in (ops ++ more) ≡ calls_in ops ++ calls_in more
calls_in_both [] more = refl
calls_in_both (o ∷ ops) more = elim (is_call o) as (λ b. cond b (o ∷ calls_in (ops ++ more)) (calls_in (ops ++ more)) ≡ cond b (o ∷ calls_in ops) (calls_in ops) ++ calls_in more) [
  | true ↦ ap (λ os. o ∷ os) (calls_in_both ops more)
  | false ↦ calls_in_both ops more
]

pub calls_of_more : (h : History) (e : Event) → calls_of (h ++ e ∷ []) ≡ calls_of h ++ call_in (kind_of e.what)
calls_of_more [] e = append-nil (call_in (kind_of e.what))
calls_of_more (d ∷ h) e = ap (λ os. call_in (kind_of d.what) ++ os) (calls_of_more h e) ∙ sym (append_assoc (call_in (kind_of d.what)) (calls_of h) (call_in (kind_of e.what)))

pub no_calls_in_tries : (k : ℕ) → calls_in (replicate k SplitNext) ≡ []
no_calls_in_tries zero = refl
no_calls_in_tries (suc k) = no_calls_in_tries k
