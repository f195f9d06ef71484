use Rattle.std.proofs.Common.{◌≡◌, ℕ, ◌<◌, Bool, true, false, cond, ◌&&◌, nat_lt, refl, ap, sym, ◌∙◌, arith}
use Rattle.thp_history.specs.Prelude.{is_live, own, own_at, subpages}
use Rattle.thp_history.proofs.Tallying.{own_is, size_is}
use Rattle.thp_check.specs.Prelude.{NodeState, Replayed}
use Rattle.thp_check.proofs.Showing.{seen, unseen}
use Rattle.thp_check.proofs.replay.Replay.own.Goals as goal

-- a test of two that fails, and one that holds
neither : (x y : Bool) → y ≡ false → false ≡ (x && y)
neither true y e = sym e
neither false y e = refl

both : (x y : Bool) → x ≡ true → y ≡ true → true ≡ (x && y)
both x y e f = rw e (sym f)

pub returns-in_err-block-clause-there : goal.returns-in_err-block-clause-there
returns-in_err-block-clause-there c =
    let i = c.self.inside in
    let same = c.table-table.ensures ∙ ap (λ (r : NodeState). r.places.table) c.deref-2.ensures in
    let gone = unseen i.state.value.shape i.past i.state.value c.self.invariant.0 c.table-table.result.now same c.args.page c.in_err-block.ensures.absent in
    rw c.from_residual.ensures (neither _ _ (ap (λ (r : Replayed). is_live r.history c.args.page) (sym c.self.view_is) ∙ gone))

-- the subpage is one of the page's
inside : (i n m : ℕ) → n ≡ m → i < n → i < m
inside i n m e below = omega arith

is_below : (i n : ℕ) → i < n → nat_lt i n ≡ true
is_below i n below = grind arith

pub returns-clause-there : goal.returns-clause-there
returns-clause-there c =
    let i = c.self.inside in
    let same = c.table-table.ensures ∙ ap (λ (r : NodeState). r.places.table) c.deref-2.ensures in
    let k = seen i.state.value.shape i.past i.state.value c.self.invariant.0 c.table-table.result.now same c.args.page c.in_ok-block.block c.in_ok-block.ensures.found c.in-Some.state.now c.in-Some.ensures.page in
    let shape = c.subpages.ensures ∙ ap (λ (r : NodeState). subpages r.shape) c.deref.ensures ∙ ap (λ (r : Replayed). subpages r.shape) c.self.view_is in
    both _ _ (is_below _ _ (inside c.args.i c.subpages.result _ shape c.if-i-subpages.false)) (ap (λ (r : Replayed). is_live r.history c.args.page) (sym c.self.view_is) ∙ k.0)

pub returns-clause-own : goal.returns-clause-own
returns-clause-own c =
    let i = c.self.inside in
    let state = c.in-Some.state.now in
    let same = c.table-table.ensures ∙ ap (λ (r : NodeState). r.places.table) c.deref-2.ensures in
    let k = seen i.state.value.shape i.past i.state.value c.self.invariant.0 c.table-table.result.now same c.args.page c.in_ok-block.block c.in_ok-block.ensures.found state c.in-Some.ensures.page in
    let shape = c.subpages.ensures ∙ ap (λ (r : NodeState). subpages r.shape) c.deref.ensures in
    let below : c.args.i < subpages i.state.value.shape = inside c.args.i c.subpages.result _ shape c.if-i-subpages.false in
    let within = ap (nat_lt c.args.i) (size_is i.state.value.shape i.past c.args.page state k.1) ∙ is_below _ _ below in
    c.own.ensures ∙ ap (λ b. cond b (own_at state c.args.i) 0) within
    ∙ sym (own_is i.state.value.shape i.past c.args.page c.args.i state k.1 below)
    ∙ ap (λ (r : Replayed). own r.history c.args.page c.args.i) c.self.view_is
