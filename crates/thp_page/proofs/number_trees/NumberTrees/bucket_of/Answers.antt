use Rattle.std.proofs.Common.{◌∙◌, ap, sym, arith, length, bit_and, ◌≡◌, ◌<◌, ◌≤◌}
use Rattle.thp_page.specs.Prelude.{bucket_in}
use Rattle.thp_page.proofs.LowBits.{bucket_of_low, bucket_of_high}
use Rattle.thp_page.proofs.number_trees.NumberTrees.bucket_of.Goals as goal

pub returns-then-low-len-clause-value : goal.returns-then-low-len-clause-value
returns-then-low-len-clause-value c =
    let t = c.args.self.now in
    bucket_of_low t.bits (length t.roots.items) c.id.inside.0 t.mask c.requires.mask (omega arith) ∙ ap (λ n. bucket_in t.bits (length t.roots.items) n) c.id.view_is

pub returns-else-low-len-clause-value : goal.returns-else-low-len-clause-value
returns-else-low-len-clause-value c =
    let t = c.args.self.now in
    bucket_of_high t.bits (length t.roots.items) c.id.inside.0 t.mask c.requires.mask (omega arith) ∙ ap (λ n. bucket_in t.bits (length t.roots.items) n) c.id.view_is
