use Rattle.std.proofs.Common.{not, inl, sym, subst}
use Rattle.thp_history.specs.declared.events.What.{What}
use Rattle.thp_history.specs.Prelude.{by, Fits, IsContext}
use Rattle.thp_check.proofs.Showing.{context_there}
use Rattle.thp_check.proofs.TakeSteps.{split_absent}
use Rattle.thp_check.proofs.replay.context_of.Goals as goal

pub returns-in-Some : goal.returns-in-Some
returns-in-Some c = λ s h c' m f.
    let P : What → Type 0 = λ w. IsContext s h w (record { mappings = c.whole.result; underused = not c.is_partly.result }) in
    subst P (sym c.in-Split.is) (context_there s h c.args.state.now m c.in-Split.page c.in-Some.block c.in-Split.released c.in-Some.ensures c.whole.result c.is_partly.result c.whole.ensures c.is_partly.ensures)

pub returns-in-None : goal.returns-in-None
returns-in-None c = λ s h c' m f.
    let F : What → Type 0 = λ w. Fits s h (by c' w) in
    absurd ((split_absent s h c' c.in-Split.page c.in-Split.released c.args.state.now m (inl c.in-None.ensures)).0 (subst F c.in-Split.is f))
