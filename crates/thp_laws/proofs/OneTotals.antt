-- Nodes that are the same but for their blocks have the same totals.
use Rattle.std.proofs.Common.{◌≡◌, List, [], ◌∷◌, map, refl, ap₂, arith}
use Rattle.std.specs.List.{AllZip}
use Rattle.thp_history.specs.declared.shape.Shape.{Shape}
use Rattle.thp_history.specs.Prelude.{History}
use Rattle.thp_journal_writer.specs.Prelude.{Journal}
use Rattle.thp_journal_writer.specs.declared.version.Version.TheVariants.{Underused}
use Rattle.thp_script.specs.Prelude.{max_input}
use Rattle.thp_laws.specs.SameTotals.{IsSameJournal}
use Rattle.thp_laws.proofs.TotalsAlike.{one_run}
use Rattle.thp_run.specs.Laws.{bare_journal}
use Rattle.thp_run.proofs.TotalsLaws.{totals_blind}
use Rattle.thp_laws.specs.OneText.{OneJournalHasOneTotals}

-- two nodes that are the same but for their blocks
node_bare : (j k : Journal) → IsSameJournal j k → bare_journal j ≡ bare_journal k
node_bare j k same = ap₂ (λ (s : Shape) (h : History). let n : Journal = (s, h) in n) same.shape same.events

-- nodes that are the same but for their blocks are equal without them
pub all_bare : (js ks : List Journal) → AllZip IsSameJournal js ks → map bare_journal js ≡ map bare_journal ks
all_bare [] [] h = refl
all_bare [] (k ∷ ks) h = absurd h
all_bare (j ∷ js) [] h = absurd h
all_bare (j ∷ js) (k ∷ ks) h = ap₂ (λ n ns. n ∷ ns) (node_bare j k h.0) (all_bare js ks h.1)

-- one text of journals is of one run, which has one text of totals
pub one_totals : OneJournalHasOneTotals
one_totals nodes others ours theirs same = totals_blind nodes others (all_bare nodes others (one_run Underused max_input nodes others (omega arith) ours theirs same))
