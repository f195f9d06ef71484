-- The node of a hold lies in the slot that its seat has, with the journal that it had.
use Rattle.std.proofs.Common.{rules, subst, sym}
use Rattle.thp_cell.specs.Prelude.{ExtendsBy}
use Rattle.thp_cell.proofs.Fronts.{adds_none}
use Rattle.thp_cell.proofs.cell.NodeCell.release.Goals as goal

pub unlock-requires : goal.unlock-requires
unlock-requires g c =
    let held = c.hold.invariant.1 in
    let v = c.hold.inside.seat.me.0 in
    record {
      cell = search rules;
      lent = record {
        callers = held.callers;
        inside = held.inside;
        has_node = held.has_node;
        node = held.node;
        slot = held.slot;
        shape = held.shape;
        legal = held.legal;
        adds = subst (ExtendsBy v.first v.end v.front) (sym held.journal) (adds_none v.first v.end v.front);
      };
    }
