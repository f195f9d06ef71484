use Rattle.std.proofs.Common.{◌≡◌, ◌∷◌, [], None, Option, arith, length-append, refl}
use Rattle.std.proofs.lemmas.List.Elements.{All-nil, All-push}
use Rattle.thp_node.specs.Prelude.{BatchState}
use Rattle.thp_worker.proofs.HoldingLaws.{held_shut, is_shut}
use Rattle.thp_worker.proofs.node_pass.NodePass.new.Goals as goal

pub loop-init : goal.loop-init
loop-init g c = rw c.new-batches.ensures.items (record { places = omega arith; none = All-nil (λ (b : Option BatchState). b ≡ None) })

pub loop-preserved : goal.loop-preserved
loop-preserved g c =
    let inv = c.loop.invariant in
    let bs = c.loop.batches.items in
    let longer = length-append bs (None ∷ []) in
    rw c.in_ok-push.ensures.items (record {
      places = omega (arith, longer, inv.places);
      none = All-push (λ (b : Option BatchState). b ≡ None) bs None inv.none refl;
    })

pub invariant_of-result : goal.invariant_of-result
invariant_of-result g c =
    let inv = c.loop.invariant in
    held_shut c.args.cell.now c.args.pass c.loop.batches.items c.requires.cell
    (omega (arith, inv.places, c.callers-first.ensures.first, c.callers-first.ensures.end, c.loop.auto.counter-end, c.requires.some, c.loop-test.false)) inv.none

pub returns-clause-none : goal.returns-clause-none
returns-clause-none g c = is_shut c.args.pass c.loop.batches.items c.loop.invariant.none
