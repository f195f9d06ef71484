use Rattle.std.proofs.Common.{◌≡◌, ◌∙◌, ℕ, cond, nat_eq, true, refl, ap, sym, subst, arith}
use Rattle.thp_live_pages.specs.FreeSets.{FreeSet, has_block}
use Rattle.thp_live_pages.proofs.FreeSets.{changed_used, inserted_unused}
use Rattle.thp_live_pages.proofs.free_blocks.FreeBlocks.insert.Goals as goal

pub returns-then-block-self-clause-with_it : goal.returns-then-block-self-clause-with_it
returns-then-block-self-clause-with_it c = λ b.
    let old : FreeSet = record { blocks = c.self.inside.count; used = c.self.inside.used; freed = c.self.inside.freed } in
    changed_used old _ c.args.block b true refl refl c.if-block-self.true c.insert.ensures.with_it
    ∙ ap (λ (f : FreeSet). cond (nat_eq b c.args.block) true (has_block f b)) c.self.view_is

pub returns-else-block-self-clause-with_it : goal.returns-else-block-self-clause-with_it
returns-else-block-self-clause-with_it c = λ b.
    inserted_unused c.args.self.now c.args.block b (omega (arith, c.if-block-self.false, ap (λ (f : FreeSet). f.used) c.self.view_is)) c.requires
