use Rattle.std.proofs.Common.{arith}
use Rattle.thp_history.specs.Prelude.{max_blocks}
use Rattle.thp_script.specs.Prelude.{max_nodes, max_workers}
use Rattle.thp_cli.proofs.CommandLineLaws.{memory_fails, parse_fails, parse_done, line_held}
use Rattle.thp_cli.proofs.line.read_line.Goals as goal

pub returns-in_err-command-clause-refused : goal.returns-in_err-command-clause-refused
returns-in_err-command-clause-refused c = memory_fails _ c.from_residual.result c.from_residual.ensures.1

pub returns-in_err-matches-clause-refused : goal.returns-in_err-matches-clause-refused
returns-in_err-matches-clause-refused c =
    parse_fails c.in_ok-command.field-0 c.in_ok-command.ensures _ c.try_get_matches_from.result c.in_err-matches.field-0.0 c.try_get_matches_from.ensures.kinds c.in_err-matches.was
    c.from_residual-in_err-matches.result c.from_residual-in_err-matches.ensures.1

pub number_of-nodes-requires : goal.number_of-nodes-requires
number_of-nodes-requires c = (max_nodes, omega arith, c.in_ok-command.ensures.nodes c.in_ok-matches.matches c.in_ok-matches.ensures.parsed)

pub number_of-blocks-requires : goal.number_of-blocks-requires
number_of-blocks-requires c = (max_blocks, omega arith, c.in_ok-command.ensures.blocks c.in_ok-matches.matches c.in_ok-matches.ensures.parsed)

pub number_of-workers-requires : goal.number_of-workers-requires
number_of-workers-requires c = (max_workers, omega arith, c.in_ok-command.ensures.workers c.in_ok-matches.matches c.in_ok-matches.ensures.parsed)

pub returns-clause-within : goal.returns-clause-within
returns-clause-within c =
    let own = c.in_ok-command.ensures in
    let parsed = c.in_ok-matches.ensures.parsed in
    record {
      least_nodes = c.number_of-nodes.ensures.least;
      most_nodes = c.number_of-nodes.ensures.most max_nodes (omega arith) (own.nodes c.in_ok-matches.matches parsed);
      least_blocks = c.number_of-blocks.ensures.least;
      most_blocks = c.number_of-blocks.ensures.most max_blocks (omega arith) (own.blocks c.in_ok-matches.matches parsed);
      least_workers = c.number_of-workers.ensures.least;
      most_workers = c.number_of-workers.ensures.most max_workers (omega arith) (own.workers c.in_ok-matches.matches parsed);
    }

pub returns-clause-held : goal.returns-clause-held
returns-clause-held c = line_held c.in_ok-command.field-0 c.in_ok-command.ensures _ c.in_ok-matches.matches c.in_ok-matches.ensures.matches _ (record {
  nodes = c.number_of-nodes.ensures.written;
  blocks = c.number_of-blocks.ensures.written;
  workers = c.number_of-workers.ensures.written;
  report = c.report_of.ensures;
  orders = c.get_str-orders.ensures;
  underused = c.get_str-underused.ensures;
  check = record { absent = c.get_flag.ensures.none; set = c.get_flag.ensures.value; unset = c.get_flag.ensures.other };
})

pub returns-clause-refused : goal.returns-clause-refused
returns-clause-refused c =
    parse_done c.in_ok-command.field-0 c.in_ok-command.ensures _ c.try_get_matches_from.result c.in_ok-matches.matches c.try_get_matches_from.ensures.kinds c.in_ok-matches.was _
