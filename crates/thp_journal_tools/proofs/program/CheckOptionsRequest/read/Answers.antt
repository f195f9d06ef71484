use Rattle.clap.specs.Words.{found_of}
use Rattle.thp_journal_tools.specs.CommandLine.{HoldsOptions, thpcheck}
use Rattle.thp_journal_tools.proofs.CommandLineLaws.{check_free, check_simple, flag_reported, memory_fails, parse_done, parse_fails}
use Rattle.thp_journal_tools.proofs.program.CheckOptionsRequest.read.Goals as goal

pub returns-in_err-command : goal.returns-in_err-command
returns-in_err-command c = memory_fails thpcheck check_simple check_free HoldsOptions _ c.from_residual.result c.from_residual.ensures.1

pub returns-in_err-matches : goal.returns-in_err-matches
returns-in_err-matches c =
    parse_fails thpcheck check_simple check_free HoldsOptions _ c.in_ok-command.field-0 c.in_ok-command.ensures c.try_get_matches_from.result c.try_get_matches_from.ensures.kinds c.in_err-matches.field-0.0
    c.from_residual-in_err-matches.result c.in_err-matches.was c.from_residual-in_err-matches.ensures.1

pub returns : goal.returns
returns c =
    let found = found_of c.in_ok-matches.matches in
    parse_done thpcheck check_simple check_free HoldsOptions _ c.in_ok-command.field-0 c.in_ok-command.ensures c.try_get_matches_from.result c.try_get_matches_from.ensures.kinds c.in_ok-matches.matches _ c.in_ok-matches.was c.in_ok-matches.ensures.matches
    (record {
      explain = flag_reported found _ _ c.get_flag.ensures.none c.get_flag.ensures.value c.get_flag.ensures.other;
      summary = flag_reported found _ _ c.get_flag-2.ensures.none c.get_flag-2.ensures.value c.get_flag-2.ensures.other;
      progress = flag_reported found _ _ c.get_flag-3.ensures.none c.get_flag-3.ensures.value c.get_flag-3.ensures.other;
      script = flag_reported found _ _ c.get_flag-4.ensures.none c.get_flag-4.ensures.value c.get_flag-4.ensures.other;
    })
