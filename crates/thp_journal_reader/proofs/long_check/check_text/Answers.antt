use Rattle.std.proofs.Common.{◌≡◌, ◌∙◌, ◌++◌, [], ap, sym, append-nil}
use Rattle.thp_script.specs.Prelude.{max_input}
use Rattle.thp_journal_reader.specs.Prelude.{journals_of, result_with, UpToVersion3}
use Rattle.thp_journal_reader.proofs.AnswerLaws.{free_choice}
use Rattle.thp_journal_reader.proofs.NodeLaws.{if_ok}
use Rattle.thp_journal_reader.proofs.long_check.check_text.Goals as goal

pub returns-clause-line : goal.returns-clause-line
returns-clause-line c =
    let text = c.args.text.now in
    let read : result_with c.in_ok-read_part.field-0 [] ≡ journals_of text = c.in_ok-read_part.ensures.text [] ∙ c.of_input.ensures.reported (text ++ []) ∙ ap journals_of (append-nil text) in
    if_ok c.finish_input.result _ _ c.finish_input.ensures.line (λ line reported. (reported.0, sym read ∙ reported.1, reported.2))

pub returns-clause-free_choice : goal.returns-clause-free_choice
returns-clause-free_choice c =
    let text = c.args.text.now in
    let read : result_with c.in_ok-read_part.field-0 [] ≡ journals_of text = c.in_ok-read_part.ensures.text [] ∙ c.of_input.ensures.reported (text ++ []) ∙ ap journals_of (append-nil text) in
    if_ok c.finish_input.result _ _ c.finish_input.ensures.line (λ line reported. λ journals is can. free_choice UpToVersion3 max_input text reported.0 line (sym read ∙ reported.1) reported.2 journals is can)
