use Rattle.std.proofs.Common.{subst, sym}
use Rattle.std.proofs.lemmas.Result.{IfOk-weaker}
use Rattle.thp_cli.specs.Prelude.{own_rules}
use Rattle.thp_cli.proofs.ChainLaws.{AreOptions}
use Rattle.thp_cli.proofs.CommandLineLaws.{own}
use Rattle.thp_cli.proofs.options.command.Goals as goal

pub returns : goal.returns
returns c =
    let report = c.report_option.ensures in
    IfOk-weaker c.args-2.result _ _
    (λ command added. own c.new.result c.after_help.result command _ _ _ c.in_ok-options.options.items
    (rw (c.version.ensures, c.about.ensures) at c.after_help.ensures)
    added
    report.0 report.1 c.new.ensures.app c.new.ensures.empty.0 c.new.ensures.empty.1 c.new.ensures.local
    (subst (λ options. AreOptions options (own_rules report.0)) (sym c.in_ok-options.ensures.items)
    (c.nodes_option.ensures, (c.blocks_option.ensures, (c.workers_option.ensures, (report.2, (c.orders_option.ensures, (c.underused_option.ensures, (c.check_option.ensures, tt)))))))))
    c.args-2.ensures
