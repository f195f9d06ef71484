use Rattle.std.proofs.Common.{sym, ◌∙◌}
use Rattle.thp_journal_writer.proofs.LineLemmas.{version_large, version_underused, version_plain, version_orders}
use Rattle.thp_journal_writer.proofs.writer.least_version.Goals as goal

pub returns-then-are_large : goal.returns-then-are_large
returns-then-are_large c = version_large c.args.nodes.now (sym c.are_large.ensures ∙ c.if-are_large.true)

pub returns-then-report_underused : goal.returns-then-report_underused
returns-then-report_underused c =
    version_underused c.args.nodes.now (sym c.are_large.ensures ∙ c.if-are_large.false) (sym c.report_underused.ensures ∙ c.if-report_underused.true)

pub returns-then-have_order_9 : goal.returns-then-have_order_9
returns-then-have_order_9 c =
    version_plain c.args.nodes.now (sym c.are_large.ensures ∙ c.if-are_large.false) (sym c.report_underused.ensures ∙ c.if-report_underused.false) (sym c.have_order_9.ensures ∙ c.if-have_order_9.true)

pub returns-else-have_order_9 : goal.returns-else-have_order_9
returns-else-have_order_9 c =
    version_orders c.args.nodes.now (sym c.are_large.ensures ∙ c.if-are_large.false) (sym c.report_underused.ensures ∙ c.if-report_underused.false) (sym c.have_order_9.ensures ∙ c.if-have_order_9.false)
