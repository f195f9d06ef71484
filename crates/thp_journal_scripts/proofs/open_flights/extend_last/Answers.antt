use Rattle.std.proofs.Common.{◌-◌, ◌<◌, arith, length, refl}
use Rattle.std.specs.VecDeque.{deque_len}
use Rattle.thp_journal_scripts.proofs.LateScanLaws.{extends_at}
use Rattle.thp_journal_scripts.proofs.open_flights.extend_last.Goals as goal

pub returns-clause-extends : goal.returns-clause-extends
returns-clause-extends c = λ yes.
    let fs = c.args.waiting.now.items in
    let inside : deque_len c.args.waiting.now - 1 < length fs = (let some : 0 < deque_len c.args.waiting.now = c.in-Some.ensures.variant.0 refl in omega (arith, some)) in
    extends_at fs (deque_len c.args.waiting.now - 1) c.in-Some.last.now inside c.in-Some.ensures.value c.args.by (omega arith) c.if-last-by.false (omega arith)
