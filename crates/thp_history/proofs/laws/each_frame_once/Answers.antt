use Rattle.thp_history.proofs.Alive.{live_holds}
use Rattle.thp_history.proofs.EachFrame.{each_frame_once}
use Rattle.thp_history.proofs.Kept.{frames_kept}
use Rattle.thp_history.proofs.laws.each_frame_once.Goals as goal

pub returns-clause-each : goal.returns-clause-each
returns-clause-each c = λ s h is l. each_frame_once s h is.most_order l

pub returns-clause-sum : goal.returns-clause-sum
returns-clause-sum c = λ s h is l. frames_kept s h is.most_order l

pub returns-clause-live : goal.returns-clause-live
returns-clause-live c = live_holds
