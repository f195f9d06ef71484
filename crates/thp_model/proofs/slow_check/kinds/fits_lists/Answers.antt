use Rattle.std.proofs.Common.{◌≡◌, Bool, not, is_some, Option, None, true, ◌&&◌, IsTrue, ◌↔◌, ap, sym, ◌∙◌, subst, arith}
use Rattle.thp_history.specs.Prelude.{FitsBy, History, has_page, refusal_of}
use Rattle.thp_history.specs.declared.refusal.Refusal.{Refusal}
use Rattle.thp_history.specs.declared.shape.Shape.{Shape}
use Rattle.thp_history.specs.declared.events.What.{What}
use Rattle.thp_history.proofs.Asked.{none_is}
use Rattle.thp_history.proofs.WordLemmas.{same_set-Decides}
use Rattle.thp_model.proofs.slow_check.kinds.fits_lists.Goals as goal
use Rattle.thp_model.proofs.slow_check.kinds.fits_lists.Goals.{then-can_try, else-can_try}

-- the call is not refused
allowed : (s : Shape) (h : History) (w v : What) (r : Option Refusal) (b : Bool) → r ≡ refusal_of s h w → is_some r ≡ not b → b ≡ true → w ≡ v → refusal_of s h v ≡ None
allowed s h w v r b e f t is = let P : What → Type 0 = λ x. refusal_of s h x ≡ None in subst P is (sym e ∙ none_is r b f t)

pub returns-then-is_allowed : goal.returns-then-is_allowed
returns-then-is_allowed c =
    let none = allowed c.args.shape c.args.before.now _ _ _ _ c.refusal.ensures c.is_none-is_allowed.ensures c.if-is_allowed.true c.in-Alloc.is in
    let P : What → Type 0 = λ w. IsTrue c.is_next.result ↔ FitsBy c.args.shape c.args.before.now c.args.after.now c.args.event.now.caller w in
    subst P (sym c.in-Alloc.is) (λ e. let w = c.is_next.ensures.0 e in record { allowed = none; number = w.0; inside = w.1; free = w.2 }, λ w. c.is_next.ensures.1 (w.number, w.inside, w.free))

pub returns-then-is_allowed-2 : goal.returns-then-is_allowed-2
returns-then-is_allowed-2 c =
    let none = allowed c.args.shape c.args.before.now _ _ _ _ c.refusal.ensures c.is_none-is_allowed.ensures c.if-is_allowed-2.true c.in-UnmapWhole.is in
    let P : What → Type 0 = λ w. IsTrue c.gives.result ↔ FitsBy c.args.shape c.args.before.now c.args.after.now c.args.event.now.caller w in
    subst P (sym c.in-UnmapWhole.is) (λ e. (none, c.gives.ensures.0 e), λ w. c.gives.ensures.1 w.1)

pub returns-then-is_allowed-3 : goal.returns-then-is_allowed-3
returns-then-is_allowed-3 c =
    let none = allowed c.args.shape c.args.before.now _ _ _ _ c.refusal.ensures c.is_none-is_allowed.ensures c.if-is_allowed-3.true c.in-UnmapSub.is in
    let P : What → Type 0 = λ w. IsTrue c.gives-then-is_allowed-3.result ↔ FitsBy c.args.shape c.args.before.now c.args.after.now c.args.event.now.caller w in
    subst P (sym c.in-UnmapSub.is) (λ e. (none, c.gives-then-is_allowed-3.ensures.0 e), λ w. c.gives-then-is_allowed-3.ensures.1 w.1)

pub returns-then-is_allowed-4 : goal.returns-then-is_allowed-4
returns-then-is_allowed-4 c =
    let none = allowed c.args.shape c.args.before.now _ _ _ _ c.refusal.ensures c.is_none-is_allowed.ensures c.if-is_allowed-4.true c.in-Unpin.is in
    let P : What → Type 0 = λ w. IsTrue c.gives-then-is_allowed-4.result ↔ FitsBy c.args.shape c.args.before.now c.args.after.now c.args.event.now.caller w in
    subst P (sym c.in-Unpin.is) (λ e. (none, c.gives-then-is_allowed-4.ensures.0 e), λ w. c.gives-then-is_allowed-4.ensures.1 w.1)

first : (x a b : Bool) → x ≡ (a && b) → x ≡ true → a ≡ true
first x a b e t = grind arith

second : (x a b : Bool) → x ≡ (a && b) → x ≡ true → b ≡ true
second x a b e t = grind arith

pub returns-then-pins-eq0 : goal.returns-then-pins-eq0
returns-then-pins-eq0 c =
    let is = same_set-Decides c.in-Split.released c.released.result in
    let P : What → Type 0 = λ w. IsTrue c.eq.result ↔ FitsBy c.args.shape c.args.before.now c.args.after.now c.args.event.now.caller w in
    subst P (sym c.in-Split.is)
    (elim c.if-can_try.branch [
      | then-can_try v ↦ (
        λ e. record {
          in_flight = ap (has_page c.in-Split.page) (sym c.requires.lists.flight_is) ∙ first _ _ _ c.can_try.ensures v.if-can_try.true;
          worth = second _ _ _ c.can_try.ensures v.if-can_try.true;
          unpinned = grind arith;
          set_is = is.0 (sym c.eq.ensures ∙ e) ∙ c.released.ensures;
        },
        λ w. c.eq.ensures ∙ is.1 (w.set_is ∙ sym c.released.ensures),
      )
      | else-can_try v ↦ absurd (cc)
    ])
