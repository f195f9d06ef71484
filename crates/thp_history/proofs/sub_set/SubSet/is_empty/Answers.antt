use Rattle.std.proofs.Common.{◌≡◌, sym, ◌∙◌, false}
use Rattle.std.specs.Cmp.{unsigned_Decides}
use Rattle.std.proofs.lemmas.Slice.Eq.{slice_eq-Decides}
use Rattle.thp_history.specs.Prelude.{set_of, same_set}
use Rattle.thp_history.proofs.WordLemmas.{same_set-Decides, same_none, empty_has_none}
use Rattle.thp_history.proofs.sub_set.SubSet.is_empty.Goals as goal

pub returns-clause-empty : goal.returns-clause-empty
returns-clause-empty c =
    let reports : c.eq.result ≡ same_set c.args.self.now (set_of (λ i. false)) =
    same_none c.self.inside.words c.args.self.now c.self.view_is c.self.invariant c.eq.result (slice_eq-Decides unsigned_Decides c.self.inside.words _ c.eq.result c.eq.ensures) in (
      λ holds. (same_set-Decides c.args.self.now (set_of (λ i. false))).0 (sym reports ∙ holds),
      λ same. reports ∙ (same_set-Decides c.args.self.now (set_of (λ i. false))).1 same,
    )

pub returns-clause-none : goal.returns-clause-none
returns-clause-none c =
    empty_has_none c.self.inside.words c.args.self.now c.eq.result c.self.view_is
    (same_none c.self.inside.words c.args.self.now c.self.view_is c.self.invariant c.eq.result (slice_eq-Decides unsigned_Decides c.self.inside.words _ c.eq.result c.eq.ensures))
