use Rattle.std.proofs.Common.{◌≡◌, ◌++◌, drop, take}
use Rattle.thp_journal_scripts.specs.Prelude.{leave}
use Rattle.thp_journal_scripts.proofs.open_flights.leave.Given as goal

abbrev pub invariant-loop-place : goal.invariant-loop-place
invariant-loop-place l = record {
  same : l.pages.items ≡ l.fn.pages.items;
  so_far : leave l.page l.pages.items ≡ take l.place l.pages.items ++ leave l.page (drop l.place l.pages.items);
}
