use Rattle.std.proofs.Common.{arith}
use Rattle.thp_history.proofs.WordLemmas.{word_written, AreWords-set}
use Rattle.thp_history.proofs.sub_set.SubSet.set_word.Goals as goal

pub invariant_of-self : goal.invariant_of-self
invariant_of-self c = AreWords-set c.self.inside.words c.args.at c.args.word c.self.invariant c.requires (omega arith)

pub returns : goal.returns
returns c = word_written c.self.inside.words c.args.self.now c.args.at c.args.word c.self.view_is c.self.invariant.eight c.requires
