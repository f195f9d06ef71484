use Rattle.std.proofs.Common.{◌∙◌, ap, sym, is_some}
use Rattle.thp_journal_reader.specs.Prelude.{nodes_read}
use Rattle.thp_journal_scripts.proofs.JournalScriptLaws.{grows_now, on_ok_more, stops_now}
use Rattle.thp_journal_scripts.proofs.script_check.ScriptedNodesKeepsNodes.add.Goals as goal

pub returns-then-is_some-clause-along : goal.returns-then-is_some-clause-along
returns-then-is_some-clause-along c =
    let old = c.args.self.now in
    let new = c.add.new.self in
    on_ok_more c.end_node.result (λ ends. (
      c.in_ok-add.ensures.along,
      stops_now c.args.number c.args.line.now (nodes_read old.checked.lines) (nodes_read new.lines) c.in_ok-add.ensures.nodes old.script c.end_node.new.self old.checked.follower.illegal new.follower.illegal
          c.in_ok-add.ensures.along.follows.first c.requires.along.1 c.requires.along.0.follows.first (ap is_some (sym c.illegal.ensures) ∙ sym c.is_some.ensures ∙ c.if-is_some.true) ends,
    )) c.end_node.ensures.ends

pub returns-else-is_some-clause-along : goal.returns-else-is_some-clause-along
returns-else-is_some-clause-along c =
    let old = c.args.self.now in
    let new = c.add.new.self in
    on_ok_more c.add_line.result (λ adds. (
      c.in_ok-add.ensures.along,
      grows_now c.args.number c.args.line.now (nodes_read old.checked.lines) (nodes_read new.lines) c.in_ok-add.ensures.nodes old.script c.add_line.new.script old.checked.follower.illegal new.follower.illegal
          c.in_ok-add.ensures.along.follows.first c.requires.along.1 (ap is_some (sym c.illegal.ensures) ∙ sym c.is_some.ensures ∙ c.if-is_some.false) adds,
    )) c.add_line.ensures.adds
