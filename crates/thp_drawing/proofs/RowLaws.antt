-- How many pages were allocated, as their frames show.
use Rattle.std.proofs.Common.{◌≡◌, ◌+◌, ◌-◌, ◌*◌, ◌/◌, ◌^◌, ◌≤◌, ◌<◌, ℕ, arith, length, min}
use Rattle.std.proofs.Math.Pow.{pow_mono}
use Rattle.std.proofs.lemmas.List.Sums.{count_by-le-length}
use Rattle.std.proofs.lemmas.Nat.{mul-le, shl-shr}
use Rattle.thp_history.specs.declared.events.Event.{Event}
use Rattle.thp_history.specs.declared.shape.Shape.{Shape}
use Rattle.thp_history.specs.Prelude.{allocations, is_alloc, FramesAreKept, History, count_of, IsLegal, subpages, IsNodeShape}
use Rattle.thp_drawing.specs.Drawn.{IsDrawn}
use Rattle.thp_drawing.specs.Rows.{allocated_pages}
use Rattle.thp_drawing.specs.Scales.{plus}
use Rattle.thp_drawing.specs.declared.node.DrawnNode.{DrawnNode}

few_pages : (h : History) → allocations h ≤ length h
unfolding count_of
few_pages h = count_by-le-length (λ (e : Event). is_alloc e.what) h

-- n pages of 2 ^ k frames
pages_of : (k n held given : ℕ) → k ≤ 9 → n < 2 ^ 64 → 2 ^ k * n ≡ held + given → plus held given / 2 ^ min k 9 ≡ n
unfolding plus
pages_of k n held given low few same =
    let size : 2 ^ k ≤ 512 = omega (arith, pow_mono {i = k} {j = 9} low) in
    let most : 2 ^ k * n ≤ 512 * 2 ^ 64 = mul-le (2 ^ k) n 512 (2 ^ 64) size (omega (arith, few)) in
    let whole : min (held + given) (2 ^ 128 - 1) ≡ n * 2 ^ k = omega (arith, same, most) in
    let order : min k 9 ≡ k = omega (arith, low) in
    rw (order, whole) (shl-shr n k)

pub each_has_its_row : FramesAreKept → (s : Shape) (h : History) (d : DrawnNode) → IsNodeShape s → IsLegal s h → length h < 2 ^ 64
    → IsDrawn s h d → allocated_pages d ≡ allocations h
unfolding subpages
each_has_its_row kept s h d shape legal few drawn = grind (arith, pages_of, few_pages)
