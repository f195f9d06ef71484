use Rattle.std.proofs.Common.{◌≡◌, ◌∙◌, ℕ, cond, nat_eq, false, refl, ap, arith}
use Rattle.thp_live_pages.specs.FreeSets.{FreeSet, has_block}
use Rattle.thp_live_pages.proofs.FreeSets.{changed_used, removed_unused}
use Rattle.thp_live_pages.proofs.free_blocks.FreeBlocks.remove.Goals as goal

pub returns-then-block-self-clause-without_it : goal.returns-then-block-self-clause-without_it
returns-then-block-self-clause-without_it c = λ b.
    let old : FreeSet = record { blocks = c.self.inside.count; used = c.self.inside.used; freed = c.self.inside.freed } in
    changed_used old _ c.args.block b false refl refl c.if-block-self.true c.remove.ensures.without_it
    ∙ ap (λ (f : FreeSet). cond (nat_eq b c.args.block) false (has_block f b)) c.self.view_is

pub returns-else-block-self-clause-without_it : goal.returns-else-block-self-clause-without_it
returns-else-block-self-clause-without_it c = λ b.
    let old : FreeSet = record { blocks = c.self.inside.count; used = c.self.inside.used; freed = c.self.inside.freed } in
    removed_unused old _ c.args.block b c.self.invariant refl refl (omega (arith, c.if-block-self.false)) (omega (arith, c.requires, ap (λ (f : FreeSet). f.blocks) c.self.view_is)) c.insert_between.ensures.with_them
    ∙ ap (λ (f : FreeSet). cond (nat_eq b c.args.block) false (has_block f b)) c.self.view_is
