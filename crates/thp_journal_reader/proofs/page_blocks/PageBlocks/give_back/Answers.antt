use Rattle.std.proofs.Common.{ℕ, ◌<◌, List, Option, length, arith, subst, sym}
use Rattle.thp_journal_reader.specs.Chains.{IsWalked, chain_place}
use Rattle.thp_journal_reader.proofs.Chaining.{walk_inside, walk_held, walk_falls, walk_on, walk_ended, read_one, none_left}
use Rattle.thp_journal_reader.proofs.page_blocks.PageBlocks.give_back.Goals as goal

pub index-allocation-requires : goal.index-allocation-requires
index-allocation-requires c =
    let inside : c.in-Some.place < length c.args.self.now.allocations.items =
    walk_inside c.args.self.now.allocations.items c.args.last c.loop-next.next c.args.holders.now c.loop-next.holders c.in-Some.place c.in-Some.is c.loop-next.invariant in
    omega (arith, c.args.self.now.allocations.ok.0)

pub release-requires : goal.release-requires
release-requires c =
    walk_held c.args.self.now.allocations.items c.args.last c.loop-next.next c.args.holders.now c.loop-next.holders c.in-Some.place c.index-allocation.result.now c.in-Some.is
    (read_one c.args.self.now.allocations.items c.in-Some.place c.index-allocation.result.now
    (walk_inside c.args.self.now.allocations.items c.args.last c.loop-next.next c.args.holders.now c.loop-next.holders c.in-Some.place c.in-Some.is c.loop-next.invariant) c.index-allocation.ensures)
    c.loop-next.invariant

pub loop-next-smaller : goal.loop-next-smaller
loop-next-smaller c =
    let P : Option ℕ → Type 0 = λ o. chain_place c.index-allocation.result.now.before < chain_place o in
    subst P (sym c.in-Some.is)
    (walk_falls c.args.self.now.allocations.items c.args.last c.loop-next.next c.args.holders.now c.loop-next.holders c.in-Some.place c.index-allocation.result.now c.in-Some.is
    (read_one c.args.self.now.allocations.items c.in-Some.place c.index-allocation.result.now
    (walk_inside c.args.self.now.allocations.items c.args.last c.loop-next.next c.args.holders.now c.loop-next.holders c.in-Some.place c.in-Some.is c.loop-next.invariant) c.index-allocation.ensures)
    c.loop-next.invariant)

pub loop-next-preserved : goal.loop-next-preserved
loop-next-preserved c =
    let P : List ℕ → Type 0 = λ ns. IsWalked c.args.self.now.allocations.items c.args.last c.index-allocation.result.now.before c.args.holders.now ns in
    subst P (sym c.release.ensures)
    (walk_on c.args.self.now.allocations.items c.args.last c.loop-next.next c.args.holders.now c.loop-next.holders c.in-Some.place c.index-allocation.result.now c.in-Some.is
    (read_one c.args.self.now.allocations.items c.in-Some.place c.index-allocation.result.now
    (walk_inside c.args.self.now.allocations.items c.args.last c.loop-next.next c.args.holders.now c.loop-next.holders c.in-Some.place c.in-Some.is c.loop-next.invariant) c.index-allocation.ensures)
    c.loop-next.invariant)

pub returns-clause-given : goal.returns-clause-given
returns-clause-given c =
    let P : Option ℕ → Type 0 = λ o. IsWalked c.args.self.now.allocations.items c.args.last o c.args.holders.now c.loop-next.holders in
    walk_ended c.args.self.now.allocations.items c.args.last c.args.holders.now c.loop-next.holders (subst P (none_left c.loop-next.next c.in_default.not-Some) c.loop-next.invariant)
