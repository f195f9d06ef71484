use Rattle.std.proofs.Common.{◌≡◌, ◌<◌, ◌∙◌, ◌+◌, ℕ, List, ap, arith, get_or, length, sym, take}
use Rattle.thp_links.specs.declared.link.TheConstants.{NIL}
use Rattle.thp_live_pages.proofs.Walking.{behind, inside, joins, take_all}
use Rattle.thp_metrics.specs.Prelude.{Arrived}
use Rattle.thp_metrics.proofs.arrivals.Arrivals.blocks.Goals as goal

pub peek_next-block-requires : goal.peek_next-block-requires
peek_next-block-requires c =
    let i = c.self.inside in
    let same : c.args.self.now.order ≡ i.order = sym (ap (λ (a : Arrived). a.order) c.self.view_is) in
    let place = c.loop-place._place in
    let below : place < length i.order = omega (arith, c.loop-place-test.true, c.len-place-end.ensures) in
    inside i.order i.links.pairs c.self.invariant.stands place c.loop-place.block (c.loop-place.invariant.next ∙ ap (λ (xs : List ℕ). get_or xs place NIL) same) below

pub loop-place-preserved : goal.loop-place-preserved
loop-place-preserved c =
    let i = c.self.inside in
    let same : c.args.self.now.order ≡ i.order = sym (ap (λ (a : Arrived). a.order) c.self.view_is) in
    let place = c.loop-place._place in
    let below : place < length i.order = omega (arith, c.loop-place-test.true, c.len-place-end.ensures) in
    let next : c.loop-place.block ≡ get_or i.order place NIL = c.loop-place.invariant.next ∙ ap (λ (xs : List ℕ). get_or xs place NIL) same in
    record {
      next = behind i.order i.links.pairs c.self.invariant.stands place c.loop-place.block c.peek_next-block.result next below c.peek_next-block.ensures ∙ ap (λ (xs : List ℕ). get_or xs (place + 1) NIL) (sym same);
      passed =
          c.in_ok-push.ensures.items
          ∙ joins i.order i.links.pairs c.self.invariant.stands place c.loop-place.block c.loop-place.blocks.items (c.loop-place.invariant.passed ∙ ap (λ (xs : List ℕ). take place xs) same) next below
          ∙ ap (λ (xs : List ℕ). take (place + 1) xs) (sym same);
    }

pub returns : goal.returns
returns c =
    let same : c.args.self.now.order ≡ c.self.inside.order = sym (ap (λ (a : Arrived). a.order) c.self.view_is) in
    c.loop-place.invariant.passed ∙ take_all c.args.self.now.order c.loop-place._place (omega (arith, c.loop-place-test.false, c.len-place-end.ensures, ap (λ (xs : List ℕ). length xs) same))
