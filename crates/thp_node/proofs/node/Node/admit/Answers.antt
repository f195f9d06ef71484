use Rattle.std.proofs.Common.{refl, sym, ◌∙◌, inl, ap}
use Rattle.thp_history.specs.Prelude.{refusal, page_call}
use Rattle.thp_node.specs.Prelude.{NodeState}
use Rattle.thp_live_pages.proofs.Admitting.{refused_gone_page}
use Rattle.thp_node.proofs.node.Node.admit.Goals as goal

pub returns-in_default-clause-refused : goal.returns-in_default-clause-refused
returns-in_default-clause-refused g c =
    let j = c.self.inside.journal in
    let b = c.self.inside.blocks in
    record {
      same = refl;
      cause = inl (ap (λ (n : NodeState). refusal n.shape n.journal (page_call c.args.call c.args.page)) (sym c.self.view_is)
          ∙ refused_gone_page j.shape j.events b.table b.queue c.args.page c.args.call c.self.invariant (rw c.store.ensures at c.in_default.ensures));
    }
