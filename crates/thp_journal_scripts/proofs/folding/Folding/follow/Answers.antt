use Rattle.std.proofs.Common.{◌≡◌, ℕ, arith, subst, sym}
use Rattle.thp_journal_scripts.specs.Prelude.{LosesPage, one_if_freed, pages_freed}
use Rattle.thp_journal_scripts.proofs.folding.Folding.follow.Goals as goal
use Rattle.thp_journal_scripts.proofs.folding.Folding.follow.Goals.{in-UnmapWhole, in-UnmapWhole-2, in-UnmapWhole-3}

pub returns-in-UnmapWhole-clause-frees : goal.returns-in-UnmapWhole-clause-frees
returns-in-UnmapWhole-clause-frees c =
    let same : pages_freed c.args.what.now ≡ one_if_freed c.in-UnmapWhole-1.outcome = elim c.in-UnmapWhole-1.branch [
      | in-UnmapWhole w ↦ grind (arith, w.outcome-is)
      | in-UnmapWhole-2 w ↦ grind (arith, w.outcome-is)
      | in-UnmapWhole-3 w ↦ grind (arith, w.outcome-is)
    ] in
    subst (λ (k : ℕ). LosesPage k c.args.self.now.waiting.items c.lose.new.self.waiting.items) (sym same) c.lose.ensures.frees
