use Rattle.std.proofs.Common.{◌≡◌, ℕ, Bool, false, List, Option, [], ◌∷◌, ◌++◌, length, ap, sym, ◌∙◌, subst, arith}
use Rattle.std.proofs.lemmas.List.{length_push}
use Rattle.thp_history.specs.declared.events.What.{What}
use Rattle.thp_history.specs.declared.events.Outcome.{Outcome}
use Rattle.thp_history.specs.declared.page_call.Loss.{Loss}
use Rattle.thp_history.specs.declared.shape.Shape.{Shape}
use Rattle.thp_history.specs.declared.tally.SplitContext.{SplitContext}
use Rattle.thp_history.specs.Prelude.{History, by, Fits, IsContext, loss_what}
use Rattle.thp_node.specs.Prelude.{JournalState, IsJournal, leaves_of}
use Rattle.thp_node.proofs.Recording.{count_room, may_leave, journal_push, counts_lost}
use Rattle.thp_node.proofs.journal.Journal.record_loss.Goals as goal

-- what is required of the journal's value, of its fields
fits_inside : (v u : JournalState) (c : ℕ) (w : What) → v ≡ u → Fits u.shape u.events (by c w) → Fits v.shape v.events (by c w)
fits_inside v u c w e f = let F : JournalState → Type 0 = λ s. Fits s.shape s.events (by c w) in subst F (sym e) f

leaves_inside : (v u : JournalState) (c : ℕ) (w : What) (o : Option ℕ) → v ≡ u → o ≡ leaves_of u.events c w → o ≡ leaves_of v.events c w
leaves_inside v u c w o e f = f ∙ ap (λ (s : JournalState). leaves_of s.events c w) (sym e)

-- an unmap or an unpin splits no page
no_split : (s : Shape) (h : History) (p : ℕ) (l : Loss) (o : Outcome) (set : List Bool) (split : SplitContext) → IsContext s h (loss_what l p o set) split
no_split s h p x o set split = grind arith

none : SplitContext
none = record { mappings = 0; underused = false }

pub count_loss-requires-clause-room : goal.count_loss-requires-clause-room
count_loss-requires-clause-room g c =
    let h : History = g.R.Recorder.history c.self.inside.events in
    let k = c.record.ensures.history in
    count_room c.self.inside.shape h c.self.inside.tally c.self.invariant (omega (arith, c.count-events.ensures, ap length k, length_push h (by c.args.caller c.what.result)))

pub count_loss-requires-clause-leaves : goal.count_loss-requires-clause-leaves
count_loss-requires-clause-leaves g c =
    let h : History = g.R.Recorder.history c.self.inside.events in
    let done = c.args.done.now in
    let w : What = loss_what c.args.loss c.args.page done.outcome done.released in
    may_leave c.self.inside.shape h c.args.caller w c.self.inside.tally.flying c.args.left c.self.invariant.legal
    (fits_inside _ _ c.args.caller w c.self.view_is c.requires.fits)
    (leaves_inside _ _ c.args.caller w c.args.left c.self.view_is c.requires.leaves) c.self.invariant.flying_are

pub invariant_of-self : goal.invariant_of-self
invariant_of-self g c =
    let j = c.self.invariant in
    let h : History = g.R.Recorder.history c.self.inside.events in
    let done = c.args.done.now in
    let w : What = loss_what c.args.loss c.args.page done.outcome done.released in
    let P : History → Type 0 = λ k. IsJournal c.self.inside.shape k c.count_loss.new.self in
    subst P (sym (c.record.ensures.history ∙ ap (λ v. h ++ by c.args.caller v ∷ []) c.what.ensures))
    (journal_push c.self.inside.shape h c.args.caller w c.args.left none _ _ j (fits_inside _ _ c.args.caller w c.self.view_is c.requires.fits)
    (leaves_inside _ _ c.args.caller w c.args.left c.self.view_is c.requires.leaves) (no_split c.self.inside.shape h c.args.page c.args.loss done.outcome done.released none)
    (counts_lost _ _ c.args.caller c.args.page c.args.loss done.outcome done.released c.args.left none c.count_loss.ensures.flying c.count_loss.ensures.sums c.count_loss.ensures.rest))

pub returns-clause-legal : goal.returns-clause-legal
returns-clause-legal g c = (invariant_of-self g c).legal
