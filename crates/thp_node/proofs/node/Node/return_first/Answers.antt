use Rattle.std.proofs.Common.{[], ◌∷◌, Option, map, refl, ap, sym, subst, IsSome}
use Rattle.thp_history.specs.Prelude.{return_event}
use Rattle.thp_page.specs.Prelude.{Slot}
use Rattle.thp_node.specs.Prelude.{Did, NodeState, BeginsIn}
use Rattle.thp_node.proofs.ReturnLemmas.{FirstFlies, first_flies, first_leaves}
use Rattle.thp_node.proofs.node.Node.return_first.Goals as goal

pub number-page-requires : goal.number-page-requires
number-page-requires g c =
    let j = c.self.inside.journal in
    let b = c.self.inside.blocks in
    let w : FirstFlies j.events b.table c.args.caller c.args.block =
    first_flies j.shape j.events b.table b.queue c.args.caller c.args.block c.self.invariant
    (subst (λ (n : NodeState). BeginsIn n.journal c.args.caller (c.args.block ∷ [])) (sym c.self.view_is) c.requires.front) in
    rw c.store.ensures (subst (λ (o : Option Slot). IsSome o) (sym w.flies.at) refl)

pub return_page-requires-clause-first : goal.return_page-requires-clause-first
return_page-requires-clause-first g c =
    (first_leaves c.args.self.now _ c.args.caller c.args.block c.number-page.result c.self.view_is c.self.invariant c.requires.front (rw c.store.ensures at c.number-page.ensures)).first

pub return_page-requires-clause-flies : goal.return_page-requires-clause-flies
return_page-requires-clause-flies g c =
    (first_leaves c.args.self.now _ c.args.caller c.args.block c.number-page.result c.self.view_is c.self.invariant c.requires.front (rw c.store.ensures at c.number-page.ensures)).flies

pub returns : goal.returns
returns g c =
    let w = first_leaves c.args.self.now _ c.args.caller c.args.block c.number-page.result c.self.view_is c.self.invariant c.requires.front (rw c.store.ensures at c.number-page.ensures) in
    let n : NodeState = c.args.self.now in
    record {
      back = record { page = c.number-page.result; alone = w.alone; goes = c.return_page.ensures.back };
      did = subst (Did n c.return_page.new.self c.args.caller) (ap (map (return_event n.shape n.journal c.args.caller)) (sym w.alone)) c.return_page.ensures.did;
    }
