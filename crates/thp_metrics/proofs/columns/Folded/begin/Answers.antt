use Rattle.std.proofs.Common.{◌≡◌, ◌∙◌, ◌≤◌, [], ◌∷◌, length-append, ◌^◌, ap, subst, sym, refl, arith, vec_capacity, length}
use Rattle.thp_metrics.specs.Prelude.{in_pairs, ColumnsAreLow, AreWithin, Column, HasLowSums}
use Rattle.thp_metrics.proofs.Folding.{are_low_more, begins, begins_folded}
use Rattle.thp_metrics.proofs.columns.Folded.begin.Goals as goal
use Rattle.thp_metrics.proofs.columns.Folded.begin.Goals.{then-len-eq-MAX_COLUMNS, else-len-eq-MAX_COLUMNS}

pub fold-requires-clause-few : goal.fold-requires-clause-few
fold-requires-clause-few c = subst ColumnsAreLow (sym c.push_reserved.ensures.items) (are_low_more c.args.self.now.full.items c.args.self.now.last c.requires.room.low c.requires.room.last_low)

pub returns : goal.returns
returns c past n next h =
    let count : length c.push_reserved.new.self.items ≡ c.len.result = sym c.push_reserved.new.self.ok.0 ∙ sym c.len.ensures in
    let room : c.push_reserved.new.self.cap ≡ 600 = c.push_reserved.ensures.capacity ∙ c.requires.room.capacity in
    let few : length c.push_reserved.new.self.items ≤ 600 = omega (arith, ap length c.push_reserved.ensures.items, length-append c.args.self.now.full.items (c.args.self.now.last ∷ []), c.requires.room.few) in
    let small : HasLowSums (n ∷ []) = subst (λ (k : Column). AreWithin (2 ^ 64) k.pages) next c.requires.few in
    elim c.if-len-eq-MAX_COLUMNS.branch [
      | then-len-eq-MAX_COLUMNS w ↦ begins_folded past n c.args.self.now _ small h c.requires.full
          (sym (ap length c.push_reserved.ensures.items) ∙ count ∙ w.if-len-eq-MAX_COLUMNS.true)
          (ap (λ s. s.full.items) w.self-is ∙ w.fold.ensures.columns ∙ ap in_pairs c.push_reserved.ensures.items)
          (ap (λ s. vec_capacity s.full) w.self-is ∙ w.fold.ensures.capacity ∙ room)
          next
          (ap (λ s. s.width) w.self-is)
          refl
      | else-len-eq-MAX_COLUMNS w ↦ begins past n c.args.self.now _ small h c.requires.full
          (ap (λ s. s.full.items) w.self-is ∙ c.push_reserved.ensures.items)
          (omega (arith, ap (λ s. length s.full.items) w.self-is, count, few, w.if-len-eq-MAX_COLUMNS.false))
          (ap (λ s. vec_capacity s.full) w.self-is ∙ room)
          next
          (ap (λ s. s.width) w.self-is)
          refl
    ]
