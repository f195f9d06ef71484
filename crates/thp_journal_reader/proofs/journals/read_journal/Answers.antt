use Rattle.std.proofs.Common.{◌≡◌, ◌∙◌, ◌++◌, [], ap, append-nil, sym, List, Ok}
use Rattle.thp_script.specs.Prelude.{max_input}
use Rattle.thp_journal_reader.specs.Prelude.{ReadNode, journals_in, journals_of, result_with, nodes_in, so_far, UpToVersion3}
use Rattle.thp_journal_reader.proofs.PartLaws.{reports_all}
use Rattle.thp_journal_reader.proofs.journals.read_journal.Goals as goal

pub returns-in_ok-close-in-Ok-clause-journals : goal.returns-in_ok-close-in-Ok-clause-journals
returns-in_ok-close-in-Ok-clause-journals c =
    let text = c.args.text.now in
    let s = c.new-reader.result in
    let start : result_with (so_far (nodes_in s.nodes) s.place s.text) (text ++ []) ≡ journals_of (text ++ []) = rw (c.new-reader.ensures.nodes, c.new-reader.ensures.place, c.new-reader.ensures.text, c.new.ensures) (reports_all UpToVersion3 max_input (text ++ [])) in
    ap journals_of (sym (append-nil text)) ∙ sym start ∙ sym (c.in_ok-reader.ensures.text []) ∙ c.in-Ok.ensures.reported ∙ ap (λ (nodes : List ReadNode). Ok (journals_in nodes)) (ap nodes_in (sym c.in-Ok.ensures.nodes) ∙ sym c.in_ok-close-in-Ok.ensures)

pub returns-in-Err-clause-fault : goal.returns-in-Err-clause-fault
returns-in-Err-clause-fault c =
    let text = c.args.text.now in
    let s = c.new-reader.result in
    let start : result_with (so_far (nodes_in s.nodes) s.place s.text) (text ++ []) ≡ journals_of (text ++ []) = rw (c.new-reader.ensures.nodes, c.new-reader.ensures.place, c.new-reader.ensures.text, c.new.ensures) (reports_all UpToVersion3 max_input (text ++ [])) in
    ap journals_of (sym (append-nil text)) ∙ sym start ∙ sym (c.in_ok-reader.ensures.text []) ∙ c.in-Err.ensures.fault
