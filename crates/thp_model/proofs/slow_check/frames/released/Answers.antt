use Rattle.std.proofs.Common.{ℕ, Bool, ◌≡◌, ◌&&◌, not, nat_lt, slice_set, true, ap, sym, ◌∙◌, arith}
use Rattle.thp_history.specs.Prelude.{is_held, set_of}
use Rattle.thp_history.proofs.Asked.{set_more, set_same, set_all}
use Rattle.thp_model.proofs.slow_check.frames.released.Goals as goal
use Rattle.thp_model.proofs.slow_check.frames.released.Goals.{then-is_released, else-is_released}

pub loop-i-preserved : goal.loop-i-preserved
loop-i-preserved c =
    let test : ℕ → Bool = λ j. is_held c.args.shape c.args.before.now c.args.page j && not (is_held c.args.shape c.args.after.now c.args.page j) in
    elim c.if-is_released.branch [
      | then-is_released w ↦
          w.set-is ∙ w.insert.ensures ∙ ap (λ s. slice_set s c.loop-i.i true) c.loop-i.invariant
          ∙ set_more test c.loop-i.i (omega arith) (sym c.is_released.ensures ∙ w.if-is_released.true)
      | else-is_released w ↦ w.set-is ∙ c.loop-i.invariant ∙ set_same test c.loop-i.i (sym c.is_released.ensures ∙ w.if-is_released.false)
    ]

pub returns : goal.returns
returns c =
    let test : ℕ → Bool = λ j. is_held c.args.shape c.args.before.now c.args.page j && not (is_held c.args.shape c.args.after.now c.args.page j) in
    let end : c.loop-i.i ≡ 512 = omega arith in
    c.loop-i.invariant ∙ ap (λ n. set_of (λ j. nat_lt j n && test j)) end ∙ set_all test
