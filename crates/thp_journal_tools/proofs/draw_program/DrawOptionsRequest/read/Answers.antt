use Rattle.std.specs.Str.Parse.{ExplainsUnsignedError, HasUnsignedDigitsIfOk, ParsesUnsigned}
use Rattle.clap.specs.Words.{found_of}
use Rattle.thp_journal_tools.specs.DrawCommandLine.{HoldsDrawOptions, thpdraw}
use Rattle.thp_journal_tools.proofs.CommandLineLaws.{draw_free, draw_simple, flag_reported, memory_fails, number_reported, parse_done, parse_fails}
use Rattle.thp_journal_tools.proofs.draw_program.DrawOptionsRequest.read.Goals as goal

pub returns-in_err-command : goal.returns-in_err-command
returns-in_err-command c = memory_fails thpdraw draw_simple draw_free HoldsDrawOptions _ c.from_residual.result c.from_residual.ensures.1

pub returns-in_err-matches : goal.returns-in_err-matches
returns-in_err-matches c =
    parse_fails thpdraw draw_simple draw_free HoldsDrawOptions _ c.in_ok-command.field-0 c.in_ok-command.ensures c.try_get_matches_from.result c.try_get_matches_from.ensures.kinds c.in_err-matches.field-0.0
    c.from_residual-in_err-matches.result c.in_err-matches.was c.from_residual-in_err-matches.ensures.1

pub returns : goal.returns
returns c =
    let found = found_of c.in_ok-matches.matches in
    parse_done thpdraw draw_simple draw_free HoldsDrawOptions _ c.in_ok-command.field-0 c.in_ok-command.ensures c.try_get_matches_from.result c.try_get_matches_from.ensures.kinds c.in_ok-matches.matches _ c.in_ok-matches.was c.in_ok-matches.ensures.matches
    (record {
      table = flag_reported found _ _ c.get_flag.ensures.none c.get_flag.ensures.value c.get_flag.ensures.other;
      node = number_reported _ (λ bs r. ParsesUnsigned 32 10 bs r × ExplainsUnsignedError 10 bs r × HasUnsignedDigitsIfOk bs r) found _ c.get_one.result c.get_one.ensures.none c.get_one.ensures.value (λ u x g. g.0);
      progress = flag_reported found _ _ c.get_flag-2.ensures.none c.get_flag-2.ensures.value c.get_flag-2.ensures.other;
    })
