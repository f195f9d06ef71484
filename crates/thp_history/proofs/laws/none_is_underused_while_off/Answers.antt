use Rattle.thp_history.proofs.PartlyStands.{partly_stands, none_used, none_underused}
use Rattle.thp_history.proofs.laws.none_is_underused_while_off.Goals as goal

pub returns-clause-partly : goal.returns-clause-partly
returns-clause-partly c s h off l p e = partly_stands s h off l p e

pub returns-clause-used : goal.returns-clause-used
returns-clause-used c s h off l k e g = none_used s h off l k e g

pub returns-clause-split : goal.returns-clause-split
returns-clause-split c s h off l = none_underused s h off l
