use Rattle.thp_page.proofs.WordBits.{word_turned}
use Rattle.thp_page.proofs.one_word.OneWordSubpages.toggle.Goals as goal

pub returns : goal.returns
returns c = word_turned c.args.set.now c.set_word.new.self c.args.self.now.at c.args.self.now.bits c.word.result c.word.ensures c.set_word.ensures
