use Rattle.std.proofs.lemmas.Result.{IfOk-weaker}
use Rattle.thp_journal_tools.proofs.CommandLineLaws.{added, started}
use Rattle.thp_journal_tools.proofs.draw_program.command.Goals as goal

pub returns : goal.returns
returns c =
    let start = started _ c.new.result c.after_help.result _ _ _ (rw (c.version.ensures, c.about.ensures) at c.after_help.ensures) c.new.ensures.app in
    let first = added _ c.in_ok-arg.field-0 _ c.flag.result _ start c.flag.ensures c.in_ok-arg.ensures in
    let second = added _ c.in_ok-arg-2.field-0 _ c.node_option.result _ first c.node_option.ensures c.in_ok-arg-2.ensures in
    IfOk-weaker c.arg-3.result _ _ (λ command adds. added _ command _ c.flag-2.result _ second c.flag-2.ensures adds) c.arg-3.ensures
