use Rattle.std.proofs.Common.{rules, option_copied}
use Rattle.thp_journal_reader.proofs.SetLaws.{three_numbers}
use Rattle.thp_journal_reader.proofs.set_text.run_of.Goals as goal

pub returns-then-is_some-clause-value : goal.returns-then-is_some-clause-value
returns-then-is_some-clause-value c =
    three_numbers c.args.text.now c.in-Some.behind.now c.cut_at.result.0.now c.cut_at-2.result.0.now (option_copied c.cut_at.result.1) (option_copied c.cut_at-2.result.1)
    c.cut_at.ensures.pieces (search rules) c.cut_at-2.ensures.pieces (search rules)
