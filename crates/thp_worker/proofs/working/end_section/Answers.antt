use Rattle.std.proofs.Common.{arith}
use Rattle.thp_worker.specs.Prelude.{no_progress}
use Rattle.thp_worker.proofs.SectionLaws.{ends_first}
use Rattle.thp_worker.proofs.working.end_section.Goals as goal

pub close-requires-clause-ends : goal.close-requires-clause-ends
close-requires-clause-ends g c =
    let d = c.requires.section.2 in
    (c.requires.section.0, c.requires.section.1, omega (arith, d.each), ends_first _ _ _ _ _ _ no_progress (omega (arith, d.each)) d.begins)

pub returns-clause-works : goal.returns-clause-works
returns-clause-works g c = λ old commands d. c.close.ensures.works old commands (omega (arith, d.each)) (ends_first _ _ _ _ _ _ no_progress (omega (arith, d.each)) d.begins)
