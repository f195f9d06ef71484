-- The open batches of each part are those of its callers.
use Rattle.std.proofs.Common.{◌-◌, ℕ, arith, subst}
use Rattle.thp_capi.proofs.Opened.{shared_below, shared_from, part_below, part_from}
use Rattle.thp_cell.specs.Prelude.{below, from}
use Rattle.thp_capi.specs.Sharing.{IsSharedPart, SharedState}
use Rattle.thp_capi.proofs.shared_pass.SharedPass.split.Goals as goal

pub invariant_of-result : goal.invariant_of-result
invariant_of-result g c =
    let p = c.all.inside.pass in
    let k : ℕ = c.args.at - c.callers-first.result.0 in
    rw (c.split-left.ensures.left, c.in-Ok-cut.ensures.kept, c.cut.ensures.room_kept)
    (shared_below _ _ _ p _ c.args.at k c.all.invariant (omega (arith, c.callers-first.ensures.first, c.if-at-first.false)) (omega (arith, c.callers-first.ensures.end, c.if-end-at.false)))

pub invariant_of-upper : goal.invariant_of-upper
invariant_of-upper g c =
    let p = c.all.inside.pass in
    let k : ℕ = c.args.at - c.callers-first.result.0 in
    rw (c.split-left.ensures.right, c.in-Ok-cut.ensures.rest, c.in-Ok.ensures)
    (shared_from _ _ _ _ p _ c.args.at k c.all.invariant (omega (arith, c.callers-first.ensures.first, c.if-at-first.false)) (omega (arith, c.callers-first.ensures.end, c.if-end-at.false)) (omega (arith, c.in-Ok-cut.ensures.room)))

pub returns-clause-left : goal.returns-clause-left
returns-clause-left g c =
    let k : ℕ = c.args.at - c.callers-first.result.0 in
    subst (λ (s : SharedState). IsSharedPart (below s.pass c.args.at) s (record { mark = c.all.inside.mark; pass = c.split-left.result.0; batches = c.cut.new.places.items })) c.all.view_is
    (rw (c.split-left.ensures.left, c.in-Ok-cut.ensures.kept) (part_below c.all.inside.mark c.all.inside.pass c.all.inside.batches.items c.args.at k (omega (arith, c.callers-first.ensures.first, c.if-at-first.false))))

pub returns-clause-right : goal.returns-clause-right
returns-clause-right g c =
    let k : ℕ = c.args.at - c.callers-first.result.0 in
    subst (λ (s : SharedState). IsSharedPart (from s.pass c.args.at) s (record { mark = c.all.inside.mark; pass = c.split-left.result.1; batches = c.in-Ok-cut.rest.items })) c.all.view_is
    (rw (c.split-left.ensures.right, c.in-Ok-cut.ensures.rest) (part_from c.all.inside.mark c.all.inside.pass c.all.inside.batches.items c.args.at k (omega (arith, c.callers-first.ensures.first, c.if-at-first.false))))
