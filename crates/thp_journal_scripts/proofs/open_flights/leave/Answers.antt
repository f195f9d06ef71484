use Rattle.std.proofs.Common.{◌≡◌, ◌∙◌, ◌+◌, ◌<◌, ◌≤◌, ℕ, true, false, cond, List, [], ◌∷◌, ◌++◌, length, nat_eq, get_or, take, drop, ap, add-one, append_assoc, arith, drop-cons, sym, remove}
use Rattle.std.proofs.lemmas.List.{append-nil, take_more}
use Rattle.std.proofs.lemmas.Grind.{common_steps}
use Rattle.thp_journal_scripts.specs.Prelude.{FlyingPage, leave}
use Rattle.thp_journal_scripts.proofs.open_flights.leave.Goals as goal

-- what is left from a place on
at_place : (p : ℕ) (fs : List FlyingPage) (i : ℕ) (d : FlyingPage) → i < length fs → leave p (drop i fs) ≡ cond (nat_eq (get_or fs i d).page p) (drop (i + 1) fs) (get_or fs i d ∷ leave p (drop (i + 1) fs))
at_place p fs i d inside = rw (add-one, drop-cons fs i d)

-- the page at a place is another one
leaves_later : (p : ℕ) (fs : List FlyingPage) (i : ℕ) (d : FlyingPage) → i < length fs → nat_eq (get_or fs i d).page p ≡ false → leave p fs ≡ take i fs ++ leave p (drop i fs) → leave p fs ≡ take (i + 1) fs ++ leave p (drop (i + 1) fs)
leaves_later p fs i d inside other so_far =
    so_far
    ∙ ap (λ gs. take i fs ++ gs) (at_place p fs i d inside ∙ ap (λ b. cond b (drop (i + 1) fs) (get_or fs i d ∷ leave p (drop (i + 1) fs))) other)
    ∙ sym (append_assoc (take i fs) (get_or fs i d ∷ []) (leave p (drop (i + 1) fs)))
    ∙ ap (λ gs. gs ++ leave p (drop (i + 1) fs)) (sym (take_more fs i d inside))

-- it is the page
leaves_here : (p : ℕ) (fs : List FlyingPage) (i : ℕ) (d : FlyingPage) → i < length fs → nat_eq (get_or fs i d).page p ≡ true → leave p fs ≡ take i fs ++ leave p (drop i fs) → remove fs i ≡ leave p fs
leaves_here p fs i d inside here so_far =
    ap (λ n. take i fs ++ drop n fs) (sym (add-one i))
    ∙ ap (λ gs. take i fs ++ gs) (sym (at_place p fs i d inside ∙ ap (λ b. cond b (drop (i + 1) fs) (get_or fs i d ∷ leave p (drop (i + 1) fs))) here))
    ∙ sym so_far

-- no place has it
leaves_none : (p : ℕ) (fs : List FlyingPage) (i : ℕ) → length fs ≤ i → leave p fs ≡ take i fs ++ leave p (drop i fs) → fs ≡ leave p fs
leaves_none p fs i past so_far =
    let none : drop i fs ≡ [] = grind (arith, common_steps) in
    let all : take i fs ≡ fs = grind (arith, common_steps) in
    sym (so_far ∙ ap (λ gs. take i fs ++ leave p gs) none ∙ append-nil (take i fs) ∙ all)

pub loop-place-preserved : goal.loop-place-preserved
loop-place-preserved c =
    let fs = c.loop-place.pages.items in
    record {
      same = c.loop-place.invariant.same;
      so_far = leaves_later c.args.page fs c.loop-place.place c.index.result.now (let same : length c.loop-place.pages.items ≡ length c.args.pages.now.items = ap (λ (fs : List FlyingPage). length fs) c.loop-place.invariant.same in omega (arith, c.len-place-end.ensures)) (ap (λ (f : FlyingPage). nat_eq f.page c.args.page) (sym c.index.ensures) ∙ sym c.eq.ensures ∙ c.if-eq.false) c.loop-place.invariant.so_far;
    }

pub returns-then-eq : goal.returns-then-eq
returns-then-eq c =
    let fs = c.loop-place.pages.items in
    c.remove.ensures.items
    ∙ leaves_here c.args.page fs c.loop-place.place c.index.result.now (let same : length c.loop-place.pages.items ≡ length c.args.pages.now.items = ap (λ (fs : List FlyingPage). length fs) c.loop-place.invariant.same in omega (arith, c.len-place-end.ensures)) (ap (λ (f : FlyingPage). nat_eq f.page c.args.page) (sym c.index.ensures) ∙ sym c.eq.ensures ∙ c.if-eq.true) c.loop-place.invariant.so_far
    ∙ ap (λ (fs : List FlyingPage). leave c.args.page fs) c.loop-place.invariant.same

pub returns : goal.returns
returns c =
    leaves_none c.args.page c.loop-place.pages.items c.loop-place.place (let same : length c.loop-place.pages.items ≡ length c.args.pages.now.items = ap (λ (fs : List FlyingPage). length fs) c.loop-place.invariant.same in omega (arith, c.len-place-end.ensures)) c.loop-place.invariant.so_far
    ∙ ap (λ (fs : List FlyingPage). leave c.args.page fs) c.loop-place.invariant.same
