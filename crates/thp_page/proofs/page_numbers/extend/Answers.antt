use Rattle.std.proofs.Common.{◌≡◌, ◌∙◌, ◌+◌, ◌∷◌, [], ℕ, List, Option, None, length, ap, arith, length-append}
use Rattle.thp_page.proofs.Paddings.{grown_once}
use Rattle.thp_page.proofs.page_numbers.extend.Goals as goal

pub loop-trees-preserved : goal.loop-trees-preserved
loop-trees-preserved c =
    let ns = c.loop-trees.trees.numbers.items in
    let ms = c.push.new.self.numbers.items in
    let i = c.loop-trees.invariant in
    let size : length ms ≡ length ns + 1 = ap (λ (os : List (Option ℕ)). length os) c.push.ensures.numbers ∙ length-append ns (None ∷ []) in
    record {
      searchable = c.push.ensures.searchable;
      grown = grown_once None c.args.trees.now.numbers.items ns ms i.grown i.more c.push.ensures.numbers;
      more = omega (arith, size, i.more);
      few = omega arith;
      room = c.push.ensures.room;
    }
