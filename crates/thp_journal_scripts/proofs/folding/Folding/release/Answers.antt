use Rattle.std.proofs.Common.{refl}
use Rattle.thp_journal_scripts.proofs.FoldingLaws.{adds_nothing, commands_then}
use Rattle.thp_journal_scripts.proofs.folding.Folding.release.Goals as goal

pub returns-then-matches-clause-adds : goal.returns-then-matches-clause-adds
returns-then-matches-clause-adds c =
    let m = c.put_back_nothing.new.self in
    commands_then c.args.ops.now.items c.put_back_nothing.new.ops.items c.write_scans.new.ops.items c.args.self.now m m c.write_scans.new.self c.in_ok-put_back_nothing.ensures.adds refl refl c.in_ok-write_scans.ensures.adds

pub returns-then-is_empty-clause-adds : goal.returns-then-is_empty-clause-adds
returns-then-is_empty-clause-adds c = adds_nothing c.args.ops.now.items c.args.self.now c.args.self.now refl refl
