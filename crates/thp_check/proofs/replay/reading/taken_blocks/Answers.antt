use Rattle.std.proofs.Common.{◌≡◌, ◌<◌, Bool, None, length, ap, ◌∙◌, arith, subst, IsSome}
use Rattle.std.specs.Bool.{OnTrue, OnFalse}
use Rattle.thp_page.specs.Prelude.{slot_at}
use Rattle.thp_check.proofs.Showing.{taken_yes, taken_no}
use Rattle.thp_check.proofs.replay.reading.taken_blocks.Goals.{then-not-is_free+in_ok-push, else-not-is_free}
use Rattle.thp_check.proofs.replay.reading.taken_blocks.Goals as goal

pub loop-block-preserved : goal.loop-block-preserved
loop-block-preserved c =
    let t = c.args.places.now.table in
    let n = c.loop-block.block in
    let inside : n < length t.slots = omega (arith, c.requires) in
    let P : Bool → Type 0 = λ x. OnFalse x (n < length t.slots → IsSome (slot_at t n)) in
    let Q : Bool → Type 0 = λ x. OnTrue x (slot_at t n ≡ None) in
    elim c.if-not-is_free.branch [
      | then-not-is_free+in_ok-push w ↦ taken_yes t n c.loop-block.blocks.items _ c.loop-block.invariant (subst P w.if-not-is_free.true c.is_free.ensures.taken inside) (ap (λ v. v.items) w.blocks-is ∙ w.in_ok-push.ensures.items)
      | else-not-is_free w ↦ ap (λ v. v.items) w.blocks-is ∙ taken_no t n c.loop-block.blocks.items c.loop-block.invariant (subst Q w.if-not-is_free.false c.is_free.ensures.empty)
    ]
