use Rattle.std.proofs.Common.{◌≤◌, ◌+◌, ◌∙◌, ap, Option, subst, sym, IfSome}
use Rattle.thp_journal_reader.specs.Prelude.{FollowedNodes, ReportsFirst, nodes_read, journals_in, Illegal}
use Rattle.thp_journal_reader.proofs.CheckLaws.{first_before}
use Rattle.thp_journal_reader.proofs.long_check.LongCheck.finish.Goals as goal

pub returns-clause-first : goal.returns-clause-first
returns-clause-first c =
    let nodes = nodes_read c.self.inside.text.nodes.lines in
    let P : Option Illegal → Type 0 = λ illegal. ReportsFirst nodes illegal in
    (journals_in nodes, rw (← c.self.view_is) c.in_ok-finish.ensures.reported, subst P (sym (c.illegal.ensures ∙ ap (λ (n : FollowedNodes _ _). n.follower.illegal) c.in_ok-finish.ensures.nodes)) c.self.invariant.0.follows.first)

pub returns-clause-illegal_line : goal.returns-clause-illegal_line
returns-clause-illegal_line c =
    let r = c.self.inside.text in
    let nodes = nodes_read r.nodes.lines in
    let P : Option Illegal → Type 0 = λ illegal. IfSome illegal (λ i. i.line ≤ c.args.self.text.most + 1) in
    subst P (sym (c.illegal.ensures ∙ ap (λ (n : FollowedNodes _ _). n.follower.illegal) c.in_ok-finish.ensures.nodes)) (rw (← c.self.view_is) (first_before nodes r.nodes.follower.illegal r.text.line r.text.most c.self.invariant.0.follows.first c.self.invariant.0.each c.finish.ensures.last_line))
