use Rattle.std.proofs.Common.{length, ap, arith}
use Rattle.thp_node.proofs.ScanLemmas.{no_refusal, tried_front, tried_room, tried_returned, tried_reply}
use Rattle.thp_node.proofs.node.Node.scan_batch.Goals as goal

pub put_back_all-requires : goal.put_back_all-requires
put_back_all-requires g c = record {
  front = tried_front c.args.self.now c.try_all-used.new.self c.try_all-used.new.batch c.args.batch.caller c.args.batch.pages c.requires.legal c.requires.flies
      c.try_all-used.ensures.did c.try_all-used.ensures.same_caller c.try_all-used.ensures.same_pages;
}

pub overflow_sub-result : goal.overflow_sub-result
overflow_sub-result g c =
    omega (
      arith,
      (tried_reply c.args.self.now c.try_all-used.new.self c.try_all-used.new.batch c.args.batch.caller c.args.batch.pages c.requires.legal c.requires.flies
          c.try_all-used.ensures.did c.try_all-used.ensures.same_caller c.try_all-used.ensures.same_pages
          c.in-Ok.field-0 (length c.pages.result.now) c.try_all-used.result c.in-Ok.ensures.reply (ap length c.pages.ensures.value) c.try_all-used.ensures.used).0,
    )

pub overflow_sub-result-2 : goal.overflow_sub-result-2
overflow_sub-result-2 g c =
    omega (
      arith,
      (tried_reply c.args.self.now c.try_all-used.new.self c.try_all-used.new.batch c.args.batch.caller c.args.batch.pages c.requires.legal c.requires.flies
          c.try_all-used.ensures.did c.try_all-used.ensures.same_caller c.try_all-used.ensures.same_pages
          c.in-Ok.field-0 (length c.pages.result.now) c.try_all-used.result c.in-Ok.ensures.reply (ap length c.pages.ensures.value) c.try_all-used.ensures.used).0,
    )

pub overflow_add-pinned : goal.overflow_add-pinned
overflow_add-pinned g c =
    omega (
      arith,
      (tried_reply c.args.self.now c.try_all-used.new.self c.try_all-used.new.batch c.args.batch.caller c.args.batch.pages c.requires.legal c.requires.flies
          c.try_all-used.ensures.did c.try_all-used.ensures.same_caller c.try_all-used.ensures.same_pages
          c.in-Ok.field-0 (length c.pages.result.now) c.try_all-used.result c.in-Ok.ensures.reply (ap length c.pages.ensures.value) c.try_all-used.ensures.used).0,
      ap length c.pages.ensures.value,
      c.pages.ensures.few,
    )

pub unreachable-requires : goal.unreachable-requires
unreachable-requires g c =
    no_refusal c.try_all-used.new.self c.put_back_all.new.self _ _ c.in_default.ensures.refused
    (tried_room c.args.self.now c.try_all-used.new.self c.try_all-used.new.batch c.args.batch.caller c.args.batch.pages c.requires.legal c.requires.flies
    c.try_all-used.ensures.did c.try_all-used.ensures.same_caller c.try_all-used.ensures.same_pages c.requires.room)

pub returns-clause-reply : goal.returns-clause-reply
returns-clause-reply g c =
    (tried_reply c.args.self.now c.try_all-used.new.self c.try_all-used.new.batch c.args.batch.caller c.args.batch.pages c.requires.legal c.requires.flies
    c.try_all-used.ensures.did c.try_all-used.ensures.same_caller c.try_all-used.ensures.same_pages
    c.in-Ok.field-0 (length c.pages.result.now) c.try_all-used.result c.in-Ok.ensures.reply (ap length c.pages.ensures.value) c.try_all-used.ensures.used).1

pub returns-clause-did : goal.returns-clause-did
returns-clause-did g c =
    tried_returned c.args.self.now c.try_all-used.new.self c.try_all-used.new.batch c.args.batch.caller c.args.batch.pages c.requires.legal c.requires.flies
    c.try_all-used.ensures.did c.try_all-used.ensures.same_caller c.try_all-used.ensures.same_pages c.put_back_all.new.self c.in-Ok.ensures.recorded
