-- The open batches of both are those of the joint pass, and there is room for them.
use Rattle.std.proofs.Common.{◌≡◌, ap, arith, subst, sym}
use Rattle.thp_cell.specs.Prelude.{PassState}
use Rattle.thp_capi.specs.Sharing.{SharedState}
use Rattle.thp_capi.proofs.Opened.{shared_joined}
use Rattle.thp_capi.proofs.shared_pass.SharedPass.join.Goals as goal

pub joined-batches-requires : goal.joined-batches-requires
joined-batches-requires g c =
    let p = c.self.inside.pass in
    let q = c.other.inside.pass in
    let r = c.join-pass.result in
    let adjacent : p.end ≡ q.first = subst (λ (y : SharedState). p.end ≡ y.pass.first) (sym c.other.view_is) (subst (λ (x : SharedState). x.pass.end ≡ c.args.other.pass.first) (sym c.self.view_is) c.requires.adjacent) in
    let end : r.end ≡ q.end = ap (λ (x : PassState). x.end) c.join-pass.ensures.fronts.callers in
    let all : r.callers ≡ p.callers = ap (λ (x : PassState). x.callers) c.join-pass.ensures.fronts.callers in
    record { enough = omega (arith, adjacent, end, all, c.self.invariant.callers, c.self.invariant.places, c.self.invariant.room_is, c.other.invariant.places, c.join-pass.ensures.inside) }

pub invariant_of-result : goal.invariant_of-result
invariant_of-result g c =
    let p = c.self.inside.pass in
    let q = c.other.inside.pass in
    let adjacent : p.end ≡ q.first = subst (λ (y : SharedState). p.end ≡ y.pass.first) (sym c.other.view_is) (subst (λ (x : SharedState). x.pass.end ≡ c.args.other.pass.first) (sym c.self.view_is) c.requires.adjacent) in
    let j = c.join-pass.ensures in
    rw c.joined-batches.ensures.items (shared_joined _ _ _ _ _ _ _ p q c.join-pass.result _ _ c.self.invariant c.other.invariant j.fronts j.left_batches j.right_batches adjacent c.joined-batches.ensures.room)
