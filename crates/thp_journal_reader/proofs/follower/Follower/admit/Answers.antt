use Rattle.std.proofs.Common.{◌≡◌, ◌∙◌, ℕ, None, ap, refl, sym}
use Rattle.std.proofs.lemmas.Result.{IfOk-weaker}
use Rattle.thp_history.proofs.Options.{not_there}
use Rattle.thp_history.specs.declared.events.Event.{Event}
use Rattle.thp_history.specs.declared.events.What.{What}
use Rattle.thp_history.specs.declared.events.What.TheVariants.{Alloc}
use Rattle.thp_history.specs.Prelude.{least_free, with_block}
use Rattle.thp_journal_reader.specs.Prelude.{on_last, with_event}
use Rattle.thp_journal_reader.proofs.FollowLaws.{at_hand_is, follows_none, none_is, still}
use Rattle.thp_journal_reader.proofs.follower.Follower.admit.Goals as goal

-- an event that is no allocation has no block
no_block : (b : ℕ) (w : What) → ((p c : ℕ) → w ≡ Alloc p c → ⊥) → w ≡ with_block b w
no_block b (Alloc p c) none = absurd (none p c refl)
no_block b w none = refl

pub returns-in_default : goal.returns-in_default
returns-in_default g c = λ nodes f.
    let F = g.F.FollowsNode in
    let old = c.args.self.now in
    let none : old.at_hand ≡ None = sym c.take.ensures.value ∙ not_there c.take.result c.in_default.not-Some in
    let kept = still F.keeps F.FOLLOWS_ALL nodes old.illegal old.kept.items c.args.event.now f.first (none_is F.keeps F.replayed F.FOLLOWS_ALL nodes old.at_hand old.next_line old.illegal old.kept.items f.known none) in
    follows_none F.keeps F.replayed F.FOLLOWS_ALL (on_last (with_event c.args.event.now) nodes) (record old { at_hand = c.take.new.self }) c.take.ensures.after kept.0 kept.1

pub returns-in-Alloc : goal.returns-in-Alloc
returns-in-Alloc g c =
    let F = g.F.FollowsNode in
    let old = c.args.self.now in
    let with_what : What → Event = λ what. record { caller = c.args.event.now.caller; what = what } in
    IfOk-weaker c.place.result _ _
    (λ u placed nodes f.
    placed nodes c.args.event.now c.in-Alloc.block (f.first, at_hand_is F.keeps F.replayed F.FOLLOWS_ALL nodes old.at_hand old.next_line old.illegal old.kept.items f.known c.in-Some.node (sym c.take.ensures.value ∙ c.in-Some.is)) (ap with_what c.in-Alloc.is))
    c.place.ensures

pub returns-in_default-what : goal.returns-in_default-what
returns-in_default-what g c =
    let F = g.F.FollowsNode in
    let old = c.args.self.now in
    let event = c.args.event.now in
    let replay = F.replayed c.in-Some.node in
    let with_what : What → Event = λ what. record { caller = event.caller; what = what } in
    IfOk-weaker c.go_on.result _ _
    (λ u goes nodes f.
    goes nodes event (f.first, at_hand_is F.keeps F.replayed F.FOLLOWS_ALL nodes old.at_hand old.next_line old.illegal old.kept.items f.known c.in-Some.node (sym c.take.ensures.value ∙ c.in-Some.is)) (ap with_what (no_block (least_free replay.shape replay.history) event.what c.in_default-what.not-Alloc)))
    c.go_on.ensures
