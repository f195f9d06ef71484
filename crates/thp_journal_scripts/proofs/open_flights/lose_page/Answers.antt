use Rattle.std.proofs.Common.{◌-◌, ◌<◌, arith, length, refl}
use Rattle.std.specs.VecDeque.{deque_len}
use Rattle.thp_journal_scripts.proofs.LateScanLaws.{loses_at}
use Rattle.thp_journal_scripts.proofs.open_flights.lose_page.Goals as goal

pub returns-in-Some-get_mut-clause-loses : goal.returns-in-Some-get_mut-clause-loses
returns-in-Some-get_mut-clause-loses c =
    let fs = c.args.waiting.now.items in
    let i = c.args.flight - c.in-Some.first.now.flight in
    let inside : i < length fs = (let some : i < deque_len c.args.waiting.now = c.in-Some-get_mut.ensures.variant.0 refl in omega (arith, some)) in
    loses_at fs i c.in-Some-get_mut.waiting.now inside c.in-Some-get_mut.ensures.value c.saturating_sub-waiting.result c.saturating_sub-waiting.ensures
