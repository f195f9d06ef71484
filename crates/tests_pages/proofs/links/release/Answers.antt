-- The index came out of the queue, so that it is in neither list when it is pushed.
use Rattle.std.proofs.Common.{arith}
use Rattle.thp_links.proofs.OneTable.{Stands-inside, Stands-kept, ChainStands-kept, Apart-sym, Apart-push, Apart-remove, absent-removed}
use Rattle.tests_pages.proofs.links.release.Goals as goal

pub push-requires-clause-stands : goal.push-requires-clause-stands
push-requires-clause-stands g c = ChainStands-kept c.requires.free_stands c.remove.ensures.outside (Apart-sym c.requires.apart)

pub push-requires-clause-inside : goal.push-requires-clause-inside
push-requires-clause-inside g c =
    omega (arith, Stands-inside c.args.i c.requires.queue_stands c.requires.queued, c.remove.ensures.outside.same_length)

pub push-requires-clause-absent : goal.push-requires-clause-absent
push-requires-clause-absent g c m = c.requires.apart.never_both c.args.i c.requires.queued m

pub returns-clause-apart : goal.returns-clause-apart
returns-clause-apart g c =
    Apart-sym (Apart-push c.push.ensures.list
    (Apart-sym (Apart-remove c.args.i _ _ _ c.remove.ensures.list c.requires.apart))
    (absent-removed c.args.i _ _ c.remove.ensures.list))

pub returns-clause-queue_stands : goal.returns-clause-queue_stands
returns-clause-queue_stands g c = Stands-kept c.remove.ensures.stands c.push.ensures.outside (returns-clause-apart g c)

pub returns-clause-rest : goal.returns-clause-rest
returns-clause-rest g c = g.met.T.LinkTable.same_rest_trans _ _ _ c.remove.ensures.rest c.push.ensures.rest
