use Rattle.std.proofs.Common.{◌≤◌, ◌∙◌, ◌++◌, append-nil, ap, arith, drop, flat_map, length, map, sym}
use Rattle.std.proofs.lemmas.List.{at_drop_all}
use Rattle.thp_run.specs.Answers.{answer_line}
use Rattle.thp_run.specs.Reports.{shape_of}
use Rattle.thp_worker.specs.Prelude.{stored}
use Rattle.thp_run.proofs.PartLaws.{one_put}
use Rattle.thp_run.proofs.AnswerLaws.{there}
use Rattle.thp_run.proofs.answers.put_from.Goals as goal

pub loop-place-preserved : goal.loop-place-preserved
loop-place-preserved g c =
    let line = answer_line (map shape_of c.args.nodes.now) c.args.worker in
    let items = stored c.args.answers.now in
    record {
      text = one_put line items c.loop-place.place c.in-Some.answer c.loop-place.part.items c.put_answer.new.text.items (c.args.part.now.items ++ flat_map line (drop c.args.from items)) c.in-Some.ensures c.in-Ok.ensures.text c.loop-place.invariant.text;
      room = omega (arith, c.in-Ok.ensures.room);
      most = omega (arith, c.in-Ok.ensures.room);
    }

pub returns-then-len-ge-FULL_PART-clause-text : goal.returns-then-len-ge-FULL_PART-clause-text
returns-then-len-ge-FULL_PART-clause-text g c = c.loop-place.invariant.text

pub returns-then-len-ge-FULL_PART-clause-most : goal.returns-then-len-ge-FULL_PART-clause-most
returns-then-len-ge-FULL_PART-clause-most g c = c.loop-place.invariant.most

pub returns-then-len-ge-FULL_PART-clause-room : goal.returns-then-len-ge-FULL_PART-clause-room
returns-then-len-ge-FULL_PART-clause-room g c = c.loop-place.invariant.room

pub returns-clause-text : goal.returns-clause-text
returns-clause-text g c =
    let items = stored c.args.answers.now in
    let line = answer_line (map shape_of c.args.nodes.now) c.args.worker in
    let part = c.loop-place.part.items in
    let end : length items ≤ c.loop-place.place = omega arith in
    sym (append-nil part) ∙ ap (λ t. part ++ t) (sym (at_drop_all (flat_map line) items c.loop-place.place end)) ∙ c.loop-place.invariant.text

pub returns-clause-most : goal.returns-clause-most
returns-clause-most g c = c.loop-place.invariant.most

pub returns-clause-room : goal.returns-clause-room
returns-clause-room g c = c.loop-place.invariant.room

pub unreachable-requires : goal.unreachable-requires
unreachable-requires g c = there (stored c.args.answers.now) c.get.result c.loop-place.place c.stored_len-place-end.result c.stored_len-place-end.ensures c.loop-place-test.true c.get.ensures c.in_default.not-Some
