use Rattle.std.proofs.Common.{◌≡◌, length}
use Rattle.tests_texts.proofs.reports.answers.log_of.Given as goal

abbrev pub invariant-loop-command : goal.invariant-loop-command
invariant-loop-command g l =
    record {
      count : length l.answers.items ≡ l.command;
      room : l.answers.room ≡ length l.replies;
    }
