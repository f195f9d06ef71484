use Rattle.std.proofs.Common.{◌++◌, Option, subst, sym}
use Rattle.thp_journal_reader.specs.Prelude.{ReportsFirst, nodes_read, journals_in}
use Rattle.thp_journal_scripts.specs.Prelude.{IsScripting, IsScriptOf, taken_of, ScriptedNodes}
use Rattle.thp_journal_reader.specs.declared.long_check.Illegal.{Illegal}
use Rattle.thp_journal_scripts.proofs.script_check.ScriptCheck.finish.Goals as goal

pub returns-in_ok-finish-in-Ok-clause-scripted : goal.returns-in_ok-finish-in-Ok-clause-scripted
returns-in_ok-finish-in-Ok-clause-scripted c =
    let nodes = nodes_read c.self.inside.text.nodes.checked.lines in
    let scripted = c.in_ok-finish-in-Ok.field-0 in
    let S : ScriptedNodes → Type 0 = λ n. IsScripting nodes n.checked.follower.illegal n.script in
    let P : Option Illegal → Type 0 = λ illegal. ReportsFirst nodes illegal in
    let F : ScriptedNodes → Type 0 = λ n. ReportsFirst nodes n.checked.follower.illegal in
    let T : ScriptedNodes → Type 0 = λ n. IsScriptOf nodes scripted.illegal (taken_of n.script ++ scripted.text.items) scripted.moved scripted.out_of_turn in (
      journals_in nodes,
      rw (← c.self.view_is) c.in-Ok.ensures.reported,
      rw (← c.self.view_is) (record {
        first = subst P (sym c.in_ok-finish-in-Ok.ensures.illegal) (subst F (sym c.in-Ok.ensures.nodes) c.self.invariant.0.follows.first);
        script = subst T c.in-Ok.ensures.nodes (c.in_ok-finish-in-Ok.ensures.script nodes (subst S (sym c.in-Ok.ensures.nodes) c.self.invariant.1));
      }),
    )
