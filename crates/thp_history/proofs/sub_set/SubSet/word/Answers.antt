use Rattle.thp_history.proofs.WordLemmas.{word_reports}
use Rattle.thp_history.proofs.sub_set.SubSet.word.Goals as goal

pub returns : goal.returns
returns c = λ i at. word_reports c.self.inside.words c.args.self.now c.args.at i c.self.view_is c.requires at
