use Rattle.std.proofs.Common.{◌≡◌, ◌<◌, ◌≤◌, length, slice_set, ap, sym, ◌∙◌, subst, arith}
use Rattle.std.proofs.lemmas.List.{length-append, length-replicate}
use Rattle.thp_links.specs.Reserved.{with_blanks}
use Rattle.thp_links.specs.declared.reserved_vec.ReservedVec.TheInside.{Inside}
use Rattle.thp_links.proofs.Reserving.{blanks_set, blanks_reached, reached_inside, inside_count}
use Rattle.thp_links.proofs.reserved_vec.ReservedVec.set.Goals.{then-place-len, else-place-len}
use Rattle.thp_links.proofs.reserved_vec.ReservedVec.set.Goals as goal

pub returns : goal.returns
returns g c =
    let before = c.self.inside in
    let after = c.if-place-len.self-inside in
    let reached : (c.args.index < length after.items.items) × (with_blanks after.items.items after.count after.blank ≡ c.args.self.now) = elim c.if-place-len.branch [
      | then-place-len w ↦ (
          let outside : length before.items.items ≤ c.args.index = omega (arith, w.if-place-len.true, c.len.ensures) in
          let blanks = w.reach.ensures.blanks in (
            omega (arith, reached_inside before.items.items w.reach.new.items.items c.args.index before.blank blanks outside, ap (λ i. length i.items.items) w.self-inside-is),
            ap (λ i. with_blanks i.items.items i.count i.blank) w.self-inside-is
                ∙ ap (λ xs. with_blanks xs before.count before.blank) blanks
                ∙ blanks_reached before.items.items before.count c.args.index before.blank outside (inside_count before.items.items before.count before.blank c.args.index (omega (arith, c.requires, ap length c.self.view_is)) c.self.invariant.0)
                ∙ c.self.view_is,
          ))
      | else-place-len w ↦ (
        omega (arith, w.if-place-len.false, c.len.ensures, ap (λ i. length i.items.items) w.self-inside-is),
        ap (λ i. with_blanks i.items.items i.count i.blank) w.self-inside-is ∙ c.self.view_is,
      )
    ] in
    blanks_set after.items.items after.count c.args.index after.blank c.args.item reached.0 ∙ ap (λ xs. slice_set xs c.args.index c.args.item) reached.1
