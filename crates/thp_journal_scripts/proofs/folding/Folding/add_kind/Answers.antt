use Rattle.std.proofs.Common.{◌∙◌, refl, sym}
use Rattle.std.proofs.lemmas.Result.{IfOk-weaker}
use Rattle.thp_history.specs.Prelude.{event_with}
use Rattle.thp_journal_scripts.specs.Prelude.{Call, Try, Put, kind_of}
use Rattle.thp_journal_scripts.proofs.FoldingLaws.{in_any_block}
use Rattle.thp_journal_scripts.proofs.WholeScanLaws.{goes_by, goes_take, plain_by, plain_take}
use Rattle.thp_journal_scripts.proofs.folding.Folding.add_kind.Goals as goal

pub returns-in-Call : goal.returns-in-Call
returns-in-Call c = record {
  adds = IfOk-weaker c.call.result _ _ (λ u adds block. adds (event_with block c.args.event.now) (in_any_block kind_of (λ p b d. refl) block c.args.event.now.what ∙ sym c.in-Call.ensures)) c.call.ensures.adds;
  goes_on = IfOk-weaker c.call.result _ _ (λ u goes. goes_by c.args.self.now c.call.new.self c.args.event.now.caller c.args.event.now.what (Call c.in-Call.op) (sym c.in-Call.ensures) goes) c.call.ensures.goes_on;
  plain = IfOk-weaker c.call.result _ _ (λ u plain. plain_by c.args.self.now c.args.ops.now.items c.call.new.ops.items c.args.event.now.caller c.args.event.now.what (Call c.in-Call.op) (sym c.in-Call.ensures) (plain c.args.event.now (sym c.in-Call.ensures))) c.call.ensures.plain;
}

pub returns-in-Take : goal.returns-in-Take
returns-in-Take c = record {
  adds = IfOk-weaker c.take.result _ _ (λ u adds block. adds (event_with block c.args.event.now) (refl, in_any_block kind_of (λ p b d. refl) block c.args.event.now.what ∙ sym c.in-Take.ensures)) c.take.ensures.adds;
  goes_on = IfOk-weaker c.take.result _ _ (λ u goes. goes_take c.args.self.now c.take.new.self c.args.event.now.caller c.args.event.now.what (sym c.in-Take.ensures) goes) c.take.ensures.goes_on;
  plain = IfOk-weaker c.take.result _ _ (λ u plain. plain_take c.args.self.now c.args.ops.now.items c.take.new.ops.items c.args.event.now.caller c.args.event.now.what (sym c.in-Take.ensures) plain) c.take.ensures.plain;
}

pub returns-in-Try : goal.returns-in-Try
returns-in-Try c = record {
  adds = IfOk-weaker c.try_page.result _ _ (λ u adds block. adds (event_with block c.args.event.now) (refl, in_any_block kind_of (λ p b d. refl) block c.args.event.now.what ∙ sym c.in-Try.ensures)) c.try_page.ensures.adds;
  goes_on = IfOk-weaker c.try_page.result _ _ (λ u goes. goes_by c.args.self.now c.try_page.new.self c.args.event.now.caller c.args.event.now.what Try (sym c.in-Try.ensures) (goes c.args.event.now.what)) c.try_page.ensures.goes_on;
  plain = IfOk-weaker c.try_page.result _ _ (λ u plain. plain_by c.args.self.now c.args.ops.now.items c.try_page.new.ops.items c.args.event.now.caller c.args.event.now.what Try (sym c.in-Try.ensures) (plain c.args.event.now.what)) c.try_page.ensures.plain;
}

pub returns-in-Put : goal.returns-in-Put
returns-in-Put c = record {
  adds = IfOk-weaker c.put_page.result _ _ (λ u adds block. adds (event_with block c.args.event.now) (refl, in_any_block kind_of (λ p b d. refl) block c.args.event.now.what ∙ sym c.in-Put.ensures)) c.put_page.ensures.adds;
  goes_on = IfOk-weaker c.put_page.result _ _ (λ u goes. goes_by c.args.self.now c.put_page.new.self c.args.event.now.caller c.args.event.now.what Put (sym c.in-Put.ensures) (goes c.args.event.now.what)) c.put_page.ensures.goes_on;
  plain = IfOk-weaker c.put_page.result _ _ (λ u plain. plain_by c.args.self.now c.args.ops.now.items c.put_page.new.ops.items c.args.event.now.caller c.args.event.now.what Put (sym c.in-Put.ensures) (plain c.args.event.now.what)) c.put_page.ensures.plain;
}
