use Rattle.std.proofs.Common.{◌∙◌, ◌+◌, ◌++◌, ℕ, ap, codes, drop, sym}
use Rattle.thp_drawing.specs.Elements.{text_at}
use Rattle.thp_drawing.specs.Scales.{plus}
use Rattle.thp_drawing.specs.Stucks.{stuck_lines, stuck_words}
use Rattle.thp_drawing.proofs.Walks.{at_place, piece_put}
use Rattle.thp_drawing.proofs.title.put_stuck_text.Goals as goal

pub loop-place-preserved : goal.loop-place-preserved
loop-place-preserved c =
    let n = c.loop-place.place in
    let y = c.args.y in
    let x = c.index-front-place.result in
    let front = c.split_at.result.0.now in
    let cut = at_place front n x c.loop-place-test.true c.index-front-place.is in
    let top = c.plus.ensures ∙ ap (plus y) c.times.ensures in
    let line = λ (z : ℕ). text_at (codes "ink") 900 z (stuck_words x) ++ stuck_lines y (n + 1) (drop (n + 1) front) in
    piece_put _ _ _ c.in_ok-put_stuck_line.ensures (ap (stuck_lines y n) cut ∙ ap line (sym top)) c.loop-place.invariant
