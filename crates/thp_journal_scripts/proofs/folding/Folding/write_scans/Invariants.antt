use Rattle.std.proofs.Common.{◌≡◌, ◌+◌, length}
use Rattle.thp_journal_scripts.specs.Prelude.{AddsCommands, HasAdded}
use Rattle.thp_journal_scripts.proofs.folding.Folding.write_scans.Given as goal

abbrev pub invariant-loop-flight : goal.invariant-loop-flight
invariant-loop-flight l = record {
  batch : l.self.batch ≡ l.fn.self.batch;
  moved : l.self.moved ≡ l.fn.self.moved;
  pages : l.self.pages.items ≡ l.fn.self.pages.items;
  waiting : length l.self.waiting.items + l._flight ≡ length l.fn.self.waiting.items;
  adds : HasAdded l.fn.ops.items l.ops.items (AddsCommands l.fn.self l.self);
}
