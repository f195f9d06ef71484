use Rattle.std.specs.Cmp.{unsigned_Decides}
use Rattle.std.proofs.lemmas.Slice.Eq.{slice_eq-Decides}
use Rattle.thp_history.proofs.WordLemmas.{same_words}
use Rattle.thp_history.proofs.sub_set.SubSetPartialEq.eq.Goals as goal

pub returns : goal.returns
returns c =
    same_words c.self.inside.words c.other.inside.words c.args.self.now c.args.other.now c.self.view_is c.other.view_is c.self.invariant c.other.invariant
    c.eq.result (slice_eq-Decides unsigned_Decides c.self.inside.words c.other.inside.words c.eq.result c.eq.ensures)
