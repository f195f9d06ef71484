use Rattle.std.proofs.Common.{◌≡◌, map, inl, inr, refl, Ok, Err, string_bytes}
use Rattle.std.proofs.lemmas.Result.{err_from_is_err_and}
use Rattle.thp_cli.specs.Prelude.{given_words}
use Rattle.thp_cli.proofs.PassageLaws.{keeps_same}
use Rattle.thp_run.proofs.program.serve.Goals as goal

pub returns-in_err-texts : goal.returns-in_err-texts
returns-in_err-texts g c =
    let p = err_from_is_err_and c.from_residual.result c.from_residual.ensures.1 in
    let is : given_words c.args.words.now ≡ Ok (map string_bytes c.in-Ok.words.items) = rw c.in-Ok.is refl in
    rw (is, p.1, p.2) (inr (inr (refl, (keeps_same (g.W.Write.contents c.args.output.now.device), c.requires.output, refl), (c.requires.reader, refl))))

pub returns-in-Ok-read_line : goal.returns-in-Ok-read_line
returns-in-Ok-read_line g c =
    let is : given_words c.args.words.now ≡ Ok (map string_bytes c.in-Ok.words.items) = rw c.in-Ok.is refl in
    rw is (inl (record {
      line = c.in-Ok-read_line.line;
      held = rw (c.as_slice-2.ensures.value, c.in_ok-texts.ensures, c.as_slice.ensures.value) at c.in-Ok-read_line.ensures.held;
      accepted = rw (c.as_slice-2.ensures.value, c.in_ok-texts.ensures, c.as_slice.ensures.value) at c.in-Ok-read_line.ensures.refused;
      does = c.do_line.ensures;
    }))

pub returns-in_err-answer-in-Err : goal.returns-in_err-answer-in-Err
returns-in_err-answer-in-Err g c =
    let p = err_from_is_err_and c.from_residual-in_err-answer-in-Err.result c.from_residual-in_err-answer-in-Err.ensures.1 in
    let is : given_words c.args.words.now ≡ Ok (map string_bytes c.in-Ok.words.items) = rw c.in-Ok.is refl in
    rw (is, p.1, p.2) (inr (inl (record {
      error = c.in-Err.error;
      refused = rw (c.as_slice-2.ensures.value, c.in_ok-texts.ensures, c.as_slice.ensures.value) at c.in-Err.ensures.refused;
      answer = Err c.in_err-answer-in-Err.field-0.0;
      answered = c.in_err-answer-in-Err.ensures;
      unread = (c.requires.reader, refl);
      ended = refl;
    })))

pub returns : goal.returns
returns g c =
    let is : given_words c.args.words.now ≡ Ok (map string_bytes c.in-Ok.words.items) = rw c.in-Ok.is refl in
    rw is (inr (inl (record {
      error = c.in-Err.error;
      refused = rw (c.as_slice-2.ensures.value, c.in_ok-texts.ensures, c.as_slice.ensures.value) at c.in-Err.ensures.refused;
      answer = Ok c.in_ok-answer-in-Err.field-0;
      answered = c.in_ok-answer-in-Err.ensures;
      unread = (c.requires.reader, refl);
      ended = refl;
    })))
