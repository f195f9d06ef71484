-- Each word that is read is the set's.
use Rattle.std.proofs.Common.{length-set, ◌∙◌, refl, arith}
use Rattle.thp_capi.proofs.Masks.{masks_none, masks_more}
use Rattle.thp_capi.proofs.replies.mask.Goals as goal

pub loop-at-init : goal.loop-at-init
loop-at-init c = record { eight = refl; below = masks_none _ _ }

pub loop-at-preserved : goal.loop-at-preserved
loop-at-preserved c = record {
  eight = length-set c.loop-at.words c.loop-at.at c.word.result ∙ c.loop-at.invariant.eight;
  below = masks_more c.loop-at.words c.args.set.now c.loop-at.at c.word.result c.loop-at.invariant.eight (omega arith) c.word.ensures c.loop-at.invariant.below;
}

pub returns : goal.returns
returns c = λ i below. c.loop-at.invariant.below i (omega arith)
