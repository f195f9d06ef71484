use Rattle.std.proofs.Math.Seq.{drop-length}
use Rattle.std.proofs.Common.{length, drop, refl, ◌≡◌, Some, ap, ap₂, sym, ◌∙◌, arith}
use Rattle.thp_history.specs.Prelude.{History, next_page}
use Rattle.thp_node.specs.Prelude.{rest, NodeState}
use Rattle.thp_node.proofs.BatchRuns.{none_left, tried_after, did_after}
use Rattle.thp_node.proofs.Fronts.{fronts_grown, front_advanced, try_takes_none}
use Rattle.thp_node.proofs.node.Node.split_next.Goals as goal

pub next_flying-requires : goal.next_flying-requires
next_flying-requires g c = c.caller-caller.ensures.small

pub try_page-requires-clause-caller : goal.try_page-requires-clause-caller
try_page-requires-clause-caller g c = c.caller-caller.ensures.small

pub returns-in-None-clause-rest : goal.returns-in-None-clause-rest
returns-in-None-clause-rest g c =
    let h : History = c.args.self.now.journal in
    c.advance.ensures.rest ∙ ap₂ (λ ps qs. drop (length ps) qs) c.rest-in-None.ensures refl ∙ drop-length (rest c.args.batch.now) ∙ sym (none_left h c.args.batch.now.caller (rest c.args.batch.now) (ap₂ (next_page h) (sym c.caller-caller.ensures.value) (sym c.rest.ensures) ∙ c.in-None.ensures.none))

pub returns-in_ok-reserve-in-Some-clause-tried : goal.returns-in_ok-reserve-in-Some-clause-tried
returns-in_ok-reserve-in-Some-clause-tried g c =
    let h : History = c.args.self.now.journal in
    let next : next_page h c.args.batch.now.caller (rest c.args.batch.now) ≡ Some c.in-Some.page =
    ap₂ (next_page h) (sym c.caller-caller.ensures.value) (sym c.rest.ensures) ∙ c.in-Some.ensures.page in
    let same : c.reserve.new.self.events ≡ h = c.in_ok-reserve-in-Some.ensures.events ∙ ap (λ (n : NodeState). n.journal) c.self.view_is in
    tried_after c.reserve.new.self.shape c.args.self.now.shape c.reserve.new.self.events h _ _ c.in-Some.page c.try_page.result c.try_page.ensures.tried (search) (c.in_ok-reserve-in-Some.ensures.shape ∙ ap (λ (n : NodeState). n.shape) c.self.view_is) same next

pub returns-in_ok-reserve-in-Some-clause-recorded : goal.returns-in_ok-reserve-in-Some-clause-recorded
returns-in_ok-reserve-in-Some-clause-recorded g c =
    let h : History = c.args.self.now.journal in
    let next : next_page h c.args.batch.now.caller (rest c.args.batch.now) ≡ Some c.in-Some.page =
    ap₂ (next_page h) (sym c.caller-caller.ensures.value) (sym c.rest.ensures) ∙ c.in-Some.ensures.page in
    did_after c.args.self.now _ c.try_page.new.self c.caller-caller.result c.args.batch.now.caller _ c.in-Some.page _ c.try_page.ensures.did (search) c.caller-caller.ensures.value next
    (c.in_ok-reserve-in-Some.ensures.shape ∙ ap (λ (n : NodeState). n.shape) c.self.view_is)
    (c.in_ok-reserve-in-Some.ensures.events ∙ ap (λ (n : NodeState). n.journal) c.self.view_is)
    (omega (arith, c.in_ok-reserve-in-Some.ensures.room, ap (λ (n : NodeState). n.room) c.self.view_is))
    (ap (λ (n : NodeState). n.table) c.self.view_is)

pub returns-in-None-clause-front : goal.returns-in-None-clause-front
returns-in-None-clause-front g c =
    let h : History = c.args.self.now.journal in
    front_advanced h h c.args.batch.now c.advance.new.self c.advance.ensures.caller c.advance.ensures.pages (λ f. f)

pub returns-in_ok-reserve-in-Some-clause-fronts : goal.returns-in_ok-reserve-in-Some-clause-fronts
returns-in_ok-reserve-in-Some-clause-fronts g c =
    fronts_grown c.args.self.now.journal _ _ (returns-in_ok-reserve-in-Some-clause-recorded g c).journal
    (λ d. try_takes_none d c.args.self.now.shape c.args.self.now.journal c.args.batch.now.caller (rest c.args.batch.now))

pub returns-in_ok-reserve-in-Some-clause-front : goal.returns-in_ok-reserve-in-Some-clause-front
returns-in_ok-reserve-in-Some-clause-front g c =
    front_advanced c.args.self.now.journal c.try_page.new.self.journal c.args.batch.now c.advance-in-Some.new.self c.advance-in-Some.ensures.caller c.advance-in-Some.ensures.pages
    (returns-in_ok-reserve-in-Some-clause-fronts g c c.args.batch.now)
