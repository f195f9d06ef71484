use Rattle.std.proofs.Common.{◌∙◌, Err, List, subst, sym, ℕ}
use Rattle.thp_cli.specs.declared.fault.RunFault.{RunFault}
use Rattle.thp_cli.specs.Prelude.{device_of, source_of}
use Rattle.thp_cli.specs.declared.ending.ProgramFault.TheVariants.{Run}
use Rattle.thp_journal_tools.specs.Drawings.{Shows}
use Rattle.thp_journal_tools.specs.DrawOutcomes.{DrawIsDone}
use Rattle.thp_journal_tools.proofs.CheckLaws.{cut_from}
use Rattle.thp_journal_tools.proofs.DrawLaws.{cut, does_err, drawn, no_output, none_found}
use Rattle.thp_journal_tools.proofs.writing.draw.Goals as goal

pub returns-in_err-nodes-clause-does : goal.returns-in_err-nodes-clause-does
returns-in_err-nodes-clause-does g c =
    let input = source_of g.R.Read.remaining c.args.reader.now c.find_nodes.new.reader in
    let writer = c.args.writer.now in
    let fault = c.in_err-nodes.field-0.0 in
    does_err c.args.options input (device_of g.W.Write.contents writer writer) (Run fault) c.from_residual.result c.from_residual.ensures.1
    (none_found c.args.options input c.find_nodes.ensures.calls (g.W.Write.contents writer.device) writer.failed c.requires.writer writer.calls fault c.in_err-nodes.ensures.fault)

pub returns-in_err-output-clause-does : goal.returns-in_err-output-clause-does
returns-in_err-output-clause-does g c =
    let input = source_of g.R.Read.remaining c.args.reader.now c.find_nodes.new.reader in
    let writer = c.args.writer.now in
    let found = c.in_ok-nodes.ensures.found in
    let fault = c.in_err-output.field-0.0 in
    does_err c.args.options input (device_of g.W.Write.contents writer writer) fault c.from_residual-in_err-output.result c.from_residual-in_err-output.ensures.1
    (no_output c.args.options input c.find_nodes.ensures.calls (g.W.Write.contents writer.device) writer.failed c.requires.writer writer.calls found.0 c.in_ok-nodes.nodes.items found.1 found.2 c.in_ok-nodes.ensures.flag fault
    (rw c.as_slice.ensures.value at c.in_err-output.ensures.fault))

pub returns-in_err-ok_or-clause-does : goal.returns-in_err-ok_or-clause-does
returns-in_err-ok_or-clause-does g c =
    let options = c.args.options in
    let input = source_of g.R.Read.remaining c.args.reader.now c.find_nodes.new.reader in
    let output = device_of g.W.Write.contents c.args.writer.now c.write_text.new.writer in
    let found = c.in_ok-nodes.ensures.found in
    let text = c.as_slice-2.result.now in
    let shown : Shows options.table options.node c.in_ok-nodes.nodes.items c.in_ok-output.output.ending text =
    subst (λ (t : List ℕ). Shows options.table options.node c.in_ok-nodes.nodes.items c.in_ok-output.output.ending t) (sym c.as_slice-2.ensures.value) (rw c.as_slice.ensures.value at c.in_ok-output.ensures.output) in
    let why = cut_from c.write_text.result c.in_err-ok_or.field-0.0 (sym c.ok_or.ensures.value ∙ c.in_err-ok_or.was) in
    does_err options input output (Run c.in_err-ok_or.field-0.0) c.from_residual-in_err-ok_or.result c.from_residual-in_err-ok_or.ensures.1
    (subst (λ (f : RunFault ℕ). DrawIsDone options input output (Err (Run f))) why.1
    (cut options input output c.find_nodes.ensures.calls c.in_ok-nodes.ensures.flag found.0 text c.in_ok-nodes.nodes.items c.in_ok-output.output.ending found.1 found.2 shown c.write_text.ensures.calls c.write_text.result
    why.0 c.write_text.ensures.cut c.write_text.ensures.failed))

pub returns-clause-does : goal.returns-clause-does
returns-clause-does g c =
    let options = c.args.options in
    let input = source_of g.R.Read.remaining c.args.reader.now c.find_nodes.new.reader in
    let output = device_of g.W.Write.contents c.args.writer.now c.write_text.new.writer in
    let found = c.in_ok-nodes.ensures.found in
    let text = c.as_slice-2.result.now in
    let shown : Shows options.table options.node c.in_ok-nodes.nodes.items c.in_ok-output.output.ending text =
    subst (λ (t : List ℕ). Shows options.table options.node c.in_ok-nodes.nodes.items c.in_ok-output.output.ending t) (sym c.as_slice-2.ensures.value) (rw c.as_slice.ensures.value at c.in_ok-output.ensures.output) in
    drawn options input output c.find_nodes.ensures.calls c.in_ok-nodes.ensures.flag found.0 text c.in_ok-nodes.nodes.items c.in_ok-output.output.ending found.1 found.2 shown c.write_text.ensures.calls c.write_text.result
    c.in_ok-ok_or.field-0 (sym c.ok_or.ensures.value ∙ c.in_ok-ok_or.was) c.write_text.ensures.written c.write_text.ensures.flag
