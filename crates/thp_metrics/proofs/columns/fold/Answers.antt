use Rattle.std.proofs.Common.{◌≡◌, ◌∙◌, ap, arith, take}
use Rattle.thp_metrics.proofs.Pairs.{all_pairs, half_way, one_more_pair, pair_fits}
use Rattle.thp_metrics.proofs.columns.fold.Goals as goal

pub loop-place-preserved : goal.loop-place-preserved
loop-place-preserved c = record {
  half = c.loop-place.invariant.half;
  made = one_more_pair 300 c.loop-place.place c.args.columns.now.items c.loop-place.columns.items c.index.result.now c.index-in-loop-place.result.now c.join-joined.result c.requires.count (omega (arith, c.loop-place-test.true, c.loop-place.invariant.half)) c.loop-place.invariant.made c.index.ensures c.index-in-loop-place.ensures c.join-joined.ensures;
  capacity = c.loop-place.invariant.capacity;
}

pub join-joined-requires : goal.join-joined-requires
join-joined-requires c = pair_fits 300 c.loop-place.place c.args.columns.now.items c.loop-place.columns.items c.index.result.now c.index-in-loop-place.result.now c.requires.count (omega (arith, c.loop-place-test.true, c.loop-place.invariant.half)) c.requires.few c.loop-place.invariant.made c.index.ensures c.index-in-loop-place.ensures

pub returns-clause-columns : goal.returns-clause-columns
returns-clause-columns c =
    let done : c.loop-place.place ≡ 300 = omega (arith, c.loop-place-test.false, c.loop-place.auto.place-end, c.loop-place.invariant.half) in
    c.truncate.ensures.items
    ∙ ap (λ n. take n c.loop-place.columns.items) c.loop-place.invariant.half
    ∙ ap (take 300) c.loop-place.invariant.made
    ∙ ap (λ i. take 300 (half_way i c.args.columns.now.items)) done
    ∙ all_pairs 300 c.args.columns.now.items c.requires.count
