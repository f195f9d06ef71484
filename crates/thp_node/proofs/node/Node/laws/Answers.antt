use Rattle.std.proofs.Common.{ap, subst}
use Rattle.thp_history.specs.declared.shape.Shape.{Shape}
use Rattle.thp_history.specs.Prelude.{History, IsLegal, IsNodeShape}
use Rattle.thp_node.specs.Prelude.{NodeState}
use Rattle.thp_node.proofs.JournalFacts.{stands_once, all_stand_whole, takes_oldest, leaves_freed_alone, allocates_once, nothing_enters, has_frames_once, keeps_frames, holds_while_live, lives_apart, others_free, flights_go_on, queue_goes_on, none_is_underused}
use Rattle.thp_node.proofs.node.Node.laws.Given.{Over}
use Rattle.thp_node.proofs.node.Node.laws.Goals as goal

legal : (g : Over) (c : goal.After-shape-shape g) → IsLegal c.args.self.now.shape c.args.self.now.journal
legal g c =
    let P : Shape → Type 0 = λ s. IsLegal s c.args.self.now.journal in
    let Q : History → Type 0 = λ h. IsLegal c.self.inside.journal.shape h in
    subst P (ap (λ (n : NodeState). n.shape) c.self.view_is) (subst Q (ap (λ (n : NodeState). n.journal) c.self.view_is) c.self.invariant.legal)

shape : (g : Over) (c : goal.After-shape-shape g) → IsNodeShape c.args.self.now.shape
shape g c = let P : Shape → Type 0 = λ s. IsNodeShape s in subst P (ap (λ (n : NodeState). n.shape) c.self.view_is) c.shape-shape.ensures.valid

pub returns-clause-once : goal.returns-clause-once
returns-clause-once g c = stands_once c.args.self.now.shape c.args.self.now.journal (legal g c)

pub returns-clause-whole : goal.returns-clause-whole
returns-clause-whole g c = all_stand_whole c.args.self.now.shape c.args.self.now.journal (legal g c)

pub returns-clause-oldest : goal.returns-clause-oldest
returns-clause-oldest g c = takes_oldest c.args.self.now.shape c.args.self.now.journal (legal g c)

pub returns-clause-freed : goal.returns-clause-freed
returns-clause-freed g c = leaves_freed_alone c.args.self.now.shape c.args.self.now.journal (legal g c)

pub returns-clause-new : goal.returns-clause-new
returns-clause-new g c = allocates_once c.args.self.now.shape c.args.self.now.journal (legal g c)

pub returns-clause-closed : goal.returns-clause-closed
returns-clause-closed g c = nothing_enters c.args.self.now.shape c.args.self.now.journal (legal g c)

pub returns-clause-frames : goal.returns-clause-frames
returns-clause-frames g c = has_frames_once c.args.self.now.shape c.args.self.now.journal (legal g c) (shape g c)

pub returns-clause-sum : goal.returns-clause-sum
returns-clause-sum g c = keeps_frames c.args.self.now.shape c.args.self.now.journal (legal g c) (shape g c)

pub returns-clause-holds : goal.returns-clause-holds
returns-clause-holds g c = holds_while_live c.args.self.now.shape c.args.self.now.journal (legal g c)

pub returns-clause-apart : goal.returns-clause-apart
returns-clause-apart g c = lives_apart c.args.self.now.shape c.args.self.now.journal (legal g c)

pub returns-clause-others : goal.returns-clause-others
returns-clause-others g c = others_free c.args.self.now.shape c.args.self.now.journal (legal g c)

pub returns-clause-flights : goal.returns-clause-flights
returns-clause-flights g c = flights_go_on c.args.self.now.shape c.args.self.now.journal (legal g c)

pub returns-clause-queue : goal.returns-clause-queue
returns-clause-queue g c = queue_goes_on c.args.self.now.shape c.args.self.now.journal (legal g c)

pub returns-clause-off : goal.returns-clause-off
returns-clause-off g c = none_is_underused c.args.self.now.shape c.args.self.now.journal (legal g c)
