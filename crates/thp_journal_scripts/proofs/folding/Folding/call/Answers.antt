use Rattle.std.proofs.Common.{◌≡◌, ◌∙◌, [], ◌∷◌, ◌++◌, ap, subst, append-nil}
use Rattle.thp_journal_scripts.specs.Prelude.{IsAtPlace, pending_ops, Idle}
use Rattle.thp_journal_scripts.proofs.FoldingLaws.{adds_call, call_is_plain, one_command}
use Rattle.thp_journal_scripts.proofs.WholeScanLaws.{calls_on, calls_shut, settled_idle}
use Rattle.thp_journal_scripts.proofs.folding.Folding.call.Goals as goal

pub returns : goal.returns
returns c =
    let a = c.args.self.now in
    let m = c.settle.new.self in
    let d = c.count_call.new.self in
    record {
      adds = λ e is.
          adds_call c.args.ops.now.items a d e c.settle.new.ops.items m c.in_ok-settle.ensures.adds c.push.new.self.items c.args.op is
          c.in_ok-settle.ensures.batch c.in_ok-push.ensures.items c.count_call.ensures.batch c.count_call.ensures.counts;
      goes_on = calls_on a d (λ idle none. settled_idle a m d c.in_ok-settle.ensures.rest c.count_call.ensures.none_waits idle none);
      plain = λ e is s at ne.
          let idle : a.batch ≡ Idle = (subst (λ t. IsAtPlace t a) (calls_shut s ne) at).batch_is in
          let settled : c.settle.new.ops.items ≡ c.args.ops.now.items = c.in_ok-settle.ensures.ops ∙ ap (λ b. c.args.ops.now.items ++ pending_ops b) idle ∙ append-nil c.args.ops.now.items in
          one_command c.args.ops.now.items c.push.new.self.items c.args.op (c.in_ok-push.ensures.items ∙ ap (λ os. os ++ c.args.op ∷ []) settled) (call_is_plain e.what c.args.op is);
    }
