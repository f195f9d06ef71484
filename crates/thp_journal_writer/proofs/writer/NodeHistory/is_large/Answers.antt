use Rattle.std.proofs.Common.{◌∙◌, sym}
use Rattle.std.proofs.lemmas.Bool.{le-ltb, lt-ltb}
use Rattle.thp_journal_writer.proofs.LineLemmas.{large_by_blocks, large_by_callers}
use Rattle.thp_journal_writer.specs.Prelude.{journal_of}
use Rattle.thp_journal_writer.proofs.writer.NodeHistory.is_large.Goals as goal

pub returns-then-self-gt-MAX_BLOCKS : goal.returns-then-self-gt-MAX_BLOCKS
returns-then-self-gt-MAX_BLOCKS c =
    let more = lt-ltb _ _ c.if-self-gt-MAX_BLOCKS.true in
    more ∙ sym (large_by_blocks (journal_of c.args.self.now) more)

pub returns-else-self-gt-MAX_BLOCKS : goal.returns-else-self-gt-MAX_BLOCKS
returns-else-self-gt-MAX_BLOCKS c = large_by_callers (journal_of c.args.self.now) c.has_large_caller.result (le-ltb _ _ c.if-self-gt-MAX_BLOCKS.false) c.has_large_caller.ensures
