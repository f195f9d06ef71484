use Rattle.std.proofs.Common.{◌≡◌, None, sym, ◌∙◌, inl, inr, ap, subst, arith, refl}
use Rattle.thp_history.specs.Prelude.{refusal, page_call}
use Rattle.thp_page.specs.Prelude.{slot_at, HoldsPage}
use Rattle.thp_node.specs.Prelude.{NodeState, JournalState}
use Rattle.thp_node.proofs.CallLemmas.{node_of, fails_as}
use Rattle.thp_live_pages.proofs.Admitting.{Found, found, refused_by_page}
use Rattle.thp_node.proofs.node.Node.make_room.Goals as goal

pub returns-in-Some-clause-refused : goal.returns-in-Some-clause-refused
returns-in-Some-clause-refused g c =
    let j = c.self.inside.journal in
    let b = c.self.inside.blocks in
    let w : Found j.shape j.events b.table c.args.page c.args.block = found j.shape j.events b.table b.queue c.args.page c.args.block c.self.invariant (subst (λ (n : NodeState). HoldsPage (slot_at n.table c.args.block) c.args.page) (sym c.self.view_is) c.requires) in
    record {
      same = refl;
      cause = inl (ap (λ (n : NodeState). refusal n.shape n.journal (page_call c.args.call c.args.page)) (sym c.self.view_is)
          ∙ refused_by_page j.shape j.events b.table c.args.page c.args.block c.args.call w ∙ sym ((rw c.store.ensures at c.refusal.ensures) w.slot w.at c.args.page) ∙ c.in-Some.is);
    }

pub returns-clause-allowed : goal.returns-clause-allowed
returns-clause-allowed g c =
    let j = c.self.inside.journal in
    let b = c.self.inside.blocks in
    let w : Found j.shape j.events b.table c.args.page c.args.block = found j.shape j.events b.table b.queue c.args.page c.args.block c.self.invariant (subst (λ (n : NodeState). HoldsPage (slot_at n.table c.args.block) c.args.page) (sym c.self.view_is) c.requires) in
    ap (λ (n : NodeState). refusal n.shape n.journal (page_call c.args.call c.args.page)) (sym c.self.view_is)
    ∙ refused_by_page j.shape j.events b.table c.args.page c.args.block c.args.call w ∙ sym ((rw c.store.ensures at c.refusal.ensures) w.slot w.at c.args.page) ∙ c.in_default.is

pub returns-in_err-reserve-clause-refused : goal.returns-in_err-reserve-clause-refused
returns-in_err-reserve-clause-refused g c =
    let j = c.self.inside.journal in
    let b = c.self.inside.blocks in
    let w : Found j.shape j.events b.table c.args.page c.args.block = found j.shape j.events b.table b.queue c.args.page c.args.block c.self.invariant (subst (λ (n : NodeState). HoldsPage (slot_at n.table c.args.block) c.args.page) (sym c.self.view_is) c.requires) in
    let allowed : refusal c.args.self.now.shape c.args.self.now.journal (page_call c.args.call c.args.page) ≡ None =
    ap (λ (n : NodeState). refusal n.shape n.journal (page_call c.args.call c.args.page)) (sym c.self.view_is)
    ∙ refused_by_page j.shape j.events b.table c.args.page c.args.block c.args.call w ∙ sym ((rw c.store.ensures at c.refusal.ensures) w.slot w.at c.args.page) ∙ c.in_default.is in
    fails_as c.from_residual.result c.in_err-reserve.field-0.0 _ c.from_residual.ensures.1 record {
      same = ap (λ (j : JournalState). node_of j c.self.inside.blocks) c.in_err-reserve.ensures.err ∙ c.self.view_is;
      cause = inr (allowed, c.in_err-reserve.ensures.memory, omega (arith, ap (λ (n : NodeState). n.room) c.self.view_is, c.in_err-reserve.ensures.full));
    }
