use Rattle.std.proofs.Common.{◌∙◌, ◌^◌, ap, refl, subst}
use Rattle.thp_metrics.specs.Prelude.{Column, both, AreWithin}
use Rattle.thp_metrics.proofs.Folding.{goes_in}
use Rattle.thp_metrics.proofs.columns.Folded.push.Goals as goal

pub returns-else-self-eq0 : goal.returns-else-self-eq0
returns-else-self-eq0 c past h = goes_in past c.args.next.now c.args.self.now _ (subst (λ (k : Column). AreWithin (2 ^ 64) k.pages) c.of-next.ensures.column c.of-next.ensures.few) h c.if-self-eq0.false refl (c.join-self.ensures ∙ ap (both c.args.self.now.last) c.of-next.ensures.column) refl refl
