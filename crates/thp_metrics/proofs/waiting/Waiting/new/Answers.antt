use Rattle.std.proofs.Common.{◌∙◌, sym, subst}
use Rattle.thp_history.specs.Prelude.{History}
use Rattle.thp_metrics.specs.Prelude.{KeepsWaits, KeepsFinds}
use Rattle.thp_metrics.proofs.Arriving.{nothing_waits}
use Rattle.thp_metrics.proofs.Finding.{nothing_found}
use Rattle.thp_metrics.proofs.waiting.Waiting.new.Goals as goal

pub invariant_of-result : goal.invariant_of-result
invariant_of-result c =
    let P : History → Type 0 = λ h. KeepsWaits c.args.shape h 0 c.in_ok-new.field-0 × KeepsFinds c.args.shape h c.in_ok-vec.field-0.items in
    subst P (sym c.new-2.ensures) (nothing_waits c.args.shape c.in_ok-new.field-0 c.in_ok-new.ensures.none c.in_ok-new.ensures.size, nothing_found c.args.shape c.in_ok-vec.field-0.items (sym c.in_ok-vec.field-0.ok.0 ∙ c.in_ok-vec.ensures.len))
