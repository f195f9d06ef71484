use Rattle.thp_laws.proofs.ReadingBack.{all_read_back, long_read_back, all_same, all_legal, called_legal, long_called_legal}
use Rattle.thp_laws.proofs.journals.journals_are_read_back.Goals as goal

pub returns-clause-read : goal.returns-clause-read
returns-clause-read c = all_read_back

pub returns-clause-same : goal.returns-clause-same
returns-clause-same c = all_same

pub returns-clause-legal : goal.returns-clause-legal
returns-clause-legal c = all_legal

pub returns-clause-called_legal : goal.returns-clause-called_legal
returns-clause-called_legal c = called_legal

pub returns-clause-long_read : goal.returns-clause-long_read
returns-clause-long_read c = long_read_back

pub returns-clause-long_called_legal : goal.returns-clause-long_called_legal
returns-clause-long_called_legal c = long_called_legal
