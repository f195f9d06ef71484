use Rattle.std.proofs.Common.{◌∙◌, ◌++◌, ap, sym, append-nil, take_all}
use Rattle.thp_journal_scripts.specs.Prelude.{commands_text}
use Rattle.thp_journal_scripts.specs.ScriptTexts.{command_line}
use Rattle.thp_script.specs.declared.script.Op.{Op}
use Rattle.thp_journal_scripts.proofs.NodeScriptLaws.{line_appended}
use Rattle.thp_journal_scripts.proofs.script_text.put_commands.Goals as goal

pub loop-op-init : goal.loop-op-init
loop-op-init c = sym (append-nil c.args.text.now.items)

pub loop-op-preserved : goal.loop-op-preserved
loop-op-preserved c =
    line_appended c.args.node c.loop-op.op-index c.args.ops.now c.op-item.result c.args.text.now.items c.loop-op.text.items c.put_command.new.text.items c.loop-op-test.true c.loop-op.invariant
    (c.in_ok-put_command.ensures ∙ ap (λ (o : Op). c.loop-op.text.items ++ command_line (record { node = c.args.node; op = o })) c.op-item.is)

pub returns : goal.returns
returns c = c.loop-op.invariant ∙ ap (λ os. c.args.text.now.items ++ commands_text c.args.node os) (take_all c.loop-op.op-index c.args.ops.now c.loop-op-test.false)
