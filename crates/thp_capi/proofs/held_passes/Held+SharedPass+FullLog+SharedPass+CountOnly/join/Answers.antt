-- Passes that are not joined are those that were given.
use Rattle.std.proofs.Common.{sym}
use Rattle.thp_capi.proofs.held_passes.Held+SharedPass+FullLog+SharedPass+CountOnly.join.Goals as goal

pub returns-else-adjoins-clause-same : goal.returns-else-adjoins-clause-same
returns-else-adjoins-clause-same c = sym c.in-Kept-Kept.is-0

pub returns-else-adjoins-clause-same_other : goal.returns-else-adjoins-clause-same_other
returns-else-adjoins-clause-same_other c = sym c.in-Kept-Kept.is-1

pub returns-else-adjoins-2-clause-same : goal.returns-else-adjoins-2-clause-same
returns-else-adjoins-2-clause-same c = sym c.in-Counted-Counted.is-0

pub returns-else-adjoins-2-clause-same_other : goal.returns-else-adjoins-2-clause-same_other
returns-else-adjoins-2-clause-same_other c = sym c.in-Counted-Counted.is-1

pub returns-in-Kept-Counted-clause-same : goal.returns-in-Kept-Counted-clause-same
returns-in-Kept-Counted-clause-same c = sym c.in-Kept-Counted.is-0

pub returns-in-Kept-Counted-clause-same_other : goal.returns-in-Kept-Counted-clause-same_other
returns-in-Kept-Counted-clause-same_other c = sym c.in-Kept-Counted.is-1

pub returns-in-Counted-Kept-clause-same : goal.returns-in-Counted-Kept-clause-same
returns-in-Counted-Kept-clause-same c = sym c.in-Counted-Kept.is-0

pub returns-in-Counted-Kept-clause-same_other : goal.returns-in-Counted-Kept-clause-same_other
returns-in-Counted-Kept-clause-same_other c = sym c.in-Counted-Kept.is-1
