use Rattle.std.proofs.Common.{Err, None, Ok}
use Rattle.thp_journal_tools.specs.Requests.{notes_by}
use Rattle.thp_journal_tools.proofs.request.run_request.Goals as goal

pub returns-in-Ok-clause-finishes : goal.returns-in-Ok-clause-finishes
returns-in-Ok-clause-finishes g c = record {
  end = Ok c.in-Ok.done.ending;
  notes = notes_by (Ok c.in-Ok.done);
  served = c.in-Ok.ensures.served;
  reported = (c.note.ensures, c.status_of_ending.ensures);
}

pub returns-clause-finishes : goal.returns-clause-finishes
returns-clause-finishes g c = record {
  end = Err c.in-Err.fault;
  notes = None;
  served = c.in-Err.ensures.served;
  reported = rw (← c.program.ensures) c.report_fault.ensures;
}
