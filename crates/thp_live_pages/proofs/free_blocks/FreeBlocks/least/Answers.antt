use Rattle.std.proofs.Common.{◌≡◌, ◌∙◌, ◌<◌, ℕ, true, false, ap, sym, subst, arith}
use Rattle.thp_live_pages.specs.FreeSets.{FreeSet, has_block}
use Rattle.thp_live_pages.proofs.FreeSets.{least_used, least_unused, least_missing}
use Rattle.thp_live_pages.proofs.free_blocks.FreeBlocks.least.Goals as goal

pub returns-in-Some-clause-there : goal.returns-in-Some-clause-there
returns-in-Some-clause-there c =
    subst (λ (f : FreeSet). has_block f c.in-Some.block ≡ true) c.self.view_is (least_used _ c.in-Some.block c.self.invariant c.in-Some.ensures.there c.in-Some.ensures.least).0

pub returns-in-Some-clause-least : goal.returns-in-Some-clause-least
returns-in-Some-clause-least c =
    subst (λ (f : FreeSet). (k : ℕ) → k < c.in-Some.block → has_block f k ≡ false) c.self.view_is (least_used _ c.in-Some.block c.self.invariant c.in-Some.ensures.there c.in-Some.ensures.least).1

pub returns-then-self-clause-none : goal.returns-then-self-clause-none
returns-then-self-clause-none c = λ k.
    ap (λ (f : FreeSet). has_block f k) (sym c.self.view_is) ∙ least_missing _ k (omega (arith, c.if-self.true)) c.in_default.ensures.none

pub returns-clause-there : goal.returns-clause-there
returns-clause-there c =
    subst (λ (f : FreeSet). has_block f c.self.inside.used ≡ true) c.self.view_is (least_unused _ (omega (arith, c.self.invariant.within, c.if-self.false)) c.in_default.ensures.none).0

pub returns-clause-least : goal.returns-clause-least
returns-clause-least c =
    subst (λ (f : FreeSet). (k : ℕ) → k < c.self.inside.used → has_block f k ≡ false) c.self.view_is (least_unused _ (omega (arith, c.self.invariant.within, c.if-self.false)) c.in_default.ensures.none).1
