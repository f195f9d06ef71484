use Rattle.thp_history.proofs.OneAnswer.{one_answer}
use Rattle.thp_history.proofs.Requests.{decided}
use Rattle.thp_history.proofs.laws.requests_decide.Goals as goal

pub returns-clause-answer : goal.returns-clause-answer
returns-clause-answer c = one_answer

pub returns-clause-history : goal.returns-clause-history
returns-clause-history c = decided
