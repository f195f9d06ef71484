use Rattle.std.proofs.Common.{◌≡◌, ◌≢◌, ◌∙◌, ◌<◌, ◌≤◌, ◌/◌, ◌%◌, ◌^◌, ◌+◌, ◌*◌, ℕ, length, None, Some, ap, sym, refl, arith, rules, bit_and}
use Rattle.std.proofs.lemmas.List.{get_or_read}
use Rattle.std.proofs.lemmas.Nat.Bits.{shr_and_one}
use Rattle.thp_links.specs.declared.link.TheConstants.{NIL}
use Rattle.thp_page.specs.Prelude.{block_in, number_at}
use Rattle.thp_page.proofs.Seeking.{sought_begun}
use Rattle.thp_page.proofs.TreeSteps.{number_inside, place_absent, place_found, place_last, place_next}
use Rattle.thp_page.proofs.number_trees.NumberTrees.place_of.Goals as goal

pub loop-depth-init : goal.loop-depth-init
loop-depth-init c =
    let t = c.args.self.now in
    record {
      same = refl;
      inside = c.bucket_of-bucket.ensures.inside;
      at = get_or_read t.roots.items c.bucket_of-bucket.result c.index-block.result.now c.bucket_of-bucket.ensures.inside c.index-block.ensures NIL;
      sought = λ h. sought_begun (λ b. number_at t b) (λ q. block_in t q) t.bits (length t.roots.items) h c.args.id c.bucket_of-bucket.result c.depth_of-depth.result c.bucket_of-bucket.ensures.value c.depth_of-depth.ensures.value;
    }

pub returns-then-block : goal.returns-then-block
returns-then-block c =
    let i = c.loop-depth.invariant in
    place_absent c.args.self.now c.args.id c.loop-depth.depth c.loop-depth.place c.requires.hung i.inside i.sought (omega arith) (sym i.at ∙ c.if-block.true)

pub returns-then-eq : goal.returns-then-eq
returns-then-eq c =
    let t = c.args.self.now in
    let i = c.loop-depth.invariant in
    let real : block_in t c.loop-depth.place ≢ NIL = λ z. c.if-block.false (i.at ∙ z) in
    let k = c.requires.hung.held c.loop-depth.place real in
    let inside : block_in t c.loop-depth.place < length t.numbers.items = number_inside t.numbers.items (block_in t c.loop-depth.place) k.number k.numbered in
    let here : c.index.result.now ≡ Some c.loop-depth.id = search rules in
    let e : c.index.result.now ≡ Some c.args.id = here ∙ ap (λ (n : ℕ). Some n) i.same in
    place_found t c.args.id c.loop-depth.place i.inside real
    (ap (λ b. number_at t b) (sym i.at) ∙ sym (get_or_read t.numbers.items c.loop-depth.block c.index.result.now (omega (arith, inside, i.at)) c.index.ensures None) ∙ e)

pub loop-depth-preserved : goal.loop-depth-preserved
loop-depth-preserved c =
    let t = c.args.self.now in
    let i = c.loop-depth.invariant in
    let b = c.loop-depth.block in
    let d = c.loop-depth.depth in
    let real : block_in t c.loop-depth.place ≢ NIL = λ z. c.if-block.false (i.at ∙ z) in
    let k = c.requires.hung.held c.loop-depth.place real in
    let inside : b < length t.numbers.items = omega (arith, i.at, number_inside t.numbers.items (block_in t c.loop-depth.place) k.number k.numbered) in
    let number = get_or_read t.numbers.items b c.index.result.now inside c.index.ensures None in
    let other : number_at t b ≢ Some c.args.id = λ e. (let has : c.index.result.now ≡ Some c.loop-depth.id = number ∙ e ∙ ap (λ (n : ℕ). Some n) (sym i.same) in absurd (grind (arith, has))) in
    let bit : bit_and (c.id.inside.0 / 2 ^ d) 1 ≡ c.args.id / 2 ^ d % 2 = shr_and_one c.id.inside.0 d ∙ ap (λ (n : ℕ). n / 2 ^ d % 2) (c.id.view_is ∙ i.same) in
    let child : ℕ = 2 * b + bit_and (c.id.inside.0 / 2 ^ d) 1 in
    let there : child < length t.children.items = omega (arith, inside, c.requires.both, bit) in
    record {
      same = i.same;
      inside = there;
      at = get_or_read t.children.items child c.index-block-in-loop-depth.result.now there c.index-block-in-loop-depth.ensures NIL;
      sought = λ h. place_next t c.args.id d _ child b c.loop-depth.place h (i.sought h) i.at c.if-block.false other (omega arith) (omega (arith, bit)) (omega (arith, bit));
    }

pub returns : goal.returns
returns c =
    let i = c.loop-depth.invariant in
    place_last c.args.self.now c.args.id c.loop-depth.depth c.loop-depth.place c.requires.hung i.inside i.sought (omega arith) (omega arith)
