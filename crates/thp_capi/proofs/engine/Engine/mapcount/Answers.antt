-- What the table has of the subpage is what the journal determines.
use Rattle.std.proofs.Common.{◌≡◌, ◌∙◌, ◌<◌, ◌≤◌, ap, sym, arith, cond, nat_lt, true, ℕ}
use Rattle.thp_history.specs.Prelude.{is_live, own, own_at, subpages}
use Rattle.thp_history.proofs.Tallying.{own_is, size_is}
use Rattle.thp_capi.specs.Engines.{EngineState}
use Rattle.thp_capi.proofs.Reading.{at_block, page_is, unseen}
use Rattle.thp_capi.proofs.engine.Engine.mapcount.Goals as goal

pub returns-in_default-clause-failed : goal.returns-in_default-clause-failed
returns-in_default-clause-failed g c =
    let t = c.table-table.ensures in
    ap (λ (e : EngineState). is_live e.node.journal c.args.page) (sym c.self.view_is) ∙ unseen c.self.inside.node _ t.value t.live c.args.page c.in_default.ensures.absent

not_below : (i n m : ℕ) → n ≡ m → n ≤ i → m ≤ i
not_below i n m e f = omega arith

below : (i n m : ℕ) → n ≡ m → i < n → i < m
below i n m e f = omega arith

is_below : (i n : ℕ) → i < n → nat_lt i n ≡ true
is_below i n e = grind arith

pub returns-then-subpage-subpages-clause-failed : goal.returns-then-subpage-subpages-clause-failed
returns-then-subpage-subpages-clause-failed g c =
    let t = c.table-table.ensures in
    let w = at_block c.self.inside.node _ t.value t.slots t.homes c.args.page c.in-Some.block c.in-Some.ensures.found in
    let size = c.subpages.ensures ∙ ap subpages c.shape.ensures.value ∙ ap (λ (e : EngineState). subpages e.node.shape) c.self.view_is in
    (ap (λ (e : EngineState). is_live e.node.journal c.args.page) (sym c.self.view_is) ∙ w.live, not_below c.args.subpage c.subpages.result _ size c.if-subpage-subpages.true)

pub returns-clause-live : goal.returns-clause-live
returns-clause-live g c =
    let t = c.table-table.ensures in
    let w = at_block c.self.inside.node _ t.value t.slots t.homes c.args.page c.in-Some.block c.in-Some.ensures.found in
    ap (λ (e : EngineState). is_live e.node.journal c.args.page) (sym c.self.view_is) ∙ w.live

pub returns-clause-own : goal.returns-clause-own
returns-clause-own g c =
    let n = c.self.inside.node in
    let t = c.table-table.ensures in
    let w = at_block n _ t.value t.slots t.homes c.args.page c.in-Some.block c.in-Some.ensures.found in
    let x = c.in-Some-page.state.now in
    let m = page_is n _ c.args.page c.in-Some.block w x c.in-Some-page.ensures.page in
    let inside : c.args.subpage < subpages n.shape = below c.args.subpage c.subpages.result _ (c.subpages.ensures ∙ ap subpages c.shape.ensures.value) c.if-subpage-subpages.false in
    let within = ap (nat_lt c.args.subpage) (size_is n.shape n.journal c.args.page x m) ∙ is_below _ _ inside in
    c.own.ensures ∙ ap (λ b. cond b (own_at x c.args.subpage) 0) within ∙ sym (own_is n.shape n.journal c.args.page c.args.subpage x m inside)
    ∙ ap (λ (e : EngineState). own e.node.journal c.args.page c.args.subpage) c.self.view_is
