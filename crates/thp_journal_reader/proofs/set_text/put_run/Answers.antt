use Rattle.std.proofs.Common.{◌∙◌, arith}
use Rattle.thp_journal_reader.proofs.SetLaws.{put_one, put_more}
use Rattle.thp_journal_reader.proofs.set_text.put_run.Goals as goal

pub returns-then-first-last : goal.returns-then-first-last
returns-then-first-last c = λ whole. c.insert.ensures ∙ put_one c.args.set.now c.args.run whole (omega arith) c.requires.bound

pub returns : goal.returns
returns c = λ whole. c.union.ensures ∙ put_more c.args.set.now c.range.result c.args.run c.requires.order c.range.ensures
