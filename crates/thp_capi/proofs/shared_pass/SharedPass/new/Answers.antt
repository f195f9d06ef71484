-- The invariant of a pass of a new cell.
use Rattle.std.proofs.Common.{◌∙◌, arith, sym}
use Rattle.thp_capi.proofs.Places.{for_none}
use Rattle.thp_capi.proofs.shared_pass.SharedPass.new.Goals as goal

pub invariant_of-result : goal.invariant_of-result
invariant_of-result g c =
    let e = c.in_ok-cell.ensures in
    let places = c.in_ok-batches.ensures in
    record {
      cell_is = e.cell ∙ sym c.in_ok-cell-2.ensures.ok;
      callers = e.callers;
      places = omega (arith, e.all.from, e.all.to, e.callers, places.places);
      room_is = omega (arith, e.all.from, places.room);
      each = λ k b within is. for_none _ _ b (sym (places.none k) ∙ is);
    }
