use Rattle.std.proofs.Common.{Bool, Err, Ok, refl, subst, sym}
use Rattle.thp_cli.specs.Prelude.{device_of, source_of}
use Rattle.thp_cli.specs.declared.ending.ProgramFault.TheVariants.{Run}
use Rattle.thp_journal_tools.specs.Outcomes.{DoesAsked}
use Rattle.thp_journal_tools.specs.Requests.{notes_by, program_ending}
use Rattle.thp_journal_tools.proofs.program.CheckOptionsRequest.perform.Goals as goal

pub returns-in-Ok-clause-does : goal.returns-in-Ok-clause-does
returns-in-Ok-clause-does g c =
    let input = source_of g.R.Read.remaining c.args.reader.now c.check_long.new.reader in
    let output = device_of g.W.Write.contents c.args.output.now c.check_long.new.writer in
    let done = Ok (record { ending = c.ending_of.result; notes = c.in-Ok.checked.explanation }) in
    subst (λ (script : Bool). DoesAsked script c.args.self input output (program_ending done) (notes_by done)) (sym c.if-self.false) (record {
      illegal = c.in-Ok.checked.illegal;
      checks = record { ends = c.in-Ok.ensures.ends; reads = c.in-Ok.ensures.reads; writes = c.in-Ok.ensures.writes };
      ending_is = c.ending_of.ensures;
      explanation_is = c.in-Ok.ensures.explanation;
    })

pub returns-in-Err-clause-does : goal.returns-in-Err-clause-does
returns-in-Err-clause-does g c =
    let input = source_of g.R.Read.remaining c.args.reader.now c.check_long.new.reader in
    let output = device_of g.W.Write.contents c.args.output.now c.check_long.new.writer in
    let failed = Err (Run c.in-Err.fault) in
    subst (λ (script : Bool). DoesAsked script c.args.self input output (program_ending failed) (notes_by failed)) (sym c.if-self.false) (record { ends = c.in-Err.ensures.ends; reads = c.in-Err.ensures.reads; writes = c.in-Err.ensures.writes }, refl)
