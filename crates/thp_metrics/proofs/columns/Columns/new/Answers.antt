use Rattle.std.proofs.Common.{◌≡◌, ◌∙◌, ◌^◌, List, [], ◌∷◌, ◌++◌, ap, length, subst, sym, refl, arith, inl}
use Rattle.thp_metrics.specs.Prelude.{AreWithin, Column, Folded, Folds, Numbers}
use Rattle.thp_metrics.proofs.columns.Columns.new.Goals as goal

pub invariant_of-result : goal.invariant_of-result
invariant_of-result c =
    let first : c.push.new.self ≡ c.args.first.now ∷ [] = c.push.ensures ∙ ap (λ ns. ns ++ c.args.first.now ∷ []) c.new-past.ensures in
    let folded : Folded = record { full = c.in_ok-with_capacity.field-0; last = c.of.result; room = 0; width = 1 } in
    subst (λ (ns : List Numbers). Folds ns folded × (1 ≡ length ns)) (sym first) (
      record {
        full = [];
        last = c.args.first.now ∷ [];
        together = refl;
        each = tt;
        some = omega arith;
        room = refl;
        full_are = c.in_ok-with_capacity.ensures.items;
        last_is = c.of.ensures.column;
        few = omega arith;
        capacity = c.in_ok-with_capacity.ensures.exact;
        low = tt;
        last_low = subst (λ (k : Column). AreWithin (2 ^ 64) k.pages) c.of.ensures.column c.of.ensures.few;
        power = 0;
        power_is = refl;
        needed = inl refl;
      },
      refl,
    )
