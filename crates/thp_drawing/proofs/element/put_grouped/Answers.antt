use Rattle.std.proofs.Common.{◌≡◌, ◌∙◌, ◌++◌, ℕ, List, ap, decimal, length, refl}
use Rattle.std.proofs.lemmas.List.{drop_more}
use Rattle.thp_drawing.specs.Grouped.{grouped, in_groups}
use Rattle.thp_drawing.proofs.Pieces.{two_after}
use Rattle.thp_drawing.proofs.Walks.{all_walked, piece_put}
use Rattle.thp_drawing.proofs.element.put_grouped.Goals as goal

pub loop-place-preserved : goal.loop-place-preserved
loop-place-preserved c =
    let digits = c.as_bytes-digits.result.now in
    let place = c.loop-place.place in
    let comma = c.in_ok-put.ensures.text ∙ ap (λ (x : List ℕ). c.loop-place.text.items ++ x) c.separator.ensures in
    piece_put _ _ _ (c.in_ok-put-2.ensures.text ∙ two_after _ _ _ comma) (ap (in_groups (length digits) place) (drop_more digits place 0 c.loop-place-test.true))
    c.loop-place.invariant

pub returns : goal.returns
unfolding grouped
returns c =
    let digits = c.as_bytes-digits.result.now in
    let same : digits ≡ decimal c.args.number = c.as_bytes-digits.ensures.value ∙ c.format.ensures.text in
    all_walked (in_groups (length digits) c.loop-place.place) digits c.loop-place.place _ c.loop-place-test.false refl c.loop-place.invariant
    ∙ ap (λ (ds : List ℕ). c.args.text.now.items ++ in_groups (length ds) 0 ds) same
