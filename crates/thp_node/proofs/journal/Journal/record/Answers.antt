use Rattle.std.proofs.Common.{◌≡◌, ℕ, Option, length, ap, sym, ◌∙◌, subst, arith}
use Rattle.std.proofs.lemmas.List.{length_push}
use Rattle.thp_history.specs.declared.events.What.{What}
use Rattle.thp_history.specs.declared.tally.SplitContext.{SplitContext}
use Rattle.thp_history.specs.Prelude.{History, by, Fits, IsContext}
use Rattle.thp_node.specs.Prelude.{JournalState, IsJournal, leaves_of}
use Rattle.thp_node.proofs.Recording.{count_room, may_leave, journal_push}
use Rattle.thp_node.proofs.journal.Journal.record.Goals as goal

-- what is required of the journal's value, of its fields
fits_inside : (v u : JournalState) (c : ℕ) (w : What) → v ≡ u → Fits u.shape u.events (by c w) → Fits v.shape v.events (by c w)
fits_inside v u c w e f = let F : JournalState → Type 0 = λ s. Fits s.shape s.events (by c w) in subst F (sym e) f

leaves_inside : (v u : JournalState) (c : ℕ) (w : What) (o : Option ℕ) → v ≡ u → o ≡ leaves_of u.events c w → o ≡ leaves_of v.events c w
leaves_inside v u c w o e f = f ∙ ap (λ (s : JournalState). leaves_of s.events c w) (sym e)

split_inside : (v u : JournalState) (w : What) (split : SplitContext) → v ≡ u → IsContext u.shape u.events w split → IsContext v.shape v.events w split
split_inside v u w split e f = let F : JournalState → Type 0 = λ s. IsContext s.shape s.events w split in subst F (sym e) f

pub count-requires-clause-room : goal.count-requires-clause-room
count-requires-clause-room g c =
    let h : History = g.R.Recorder.history c.self.inside.events in
    let k = c.record.ensures.history in
    count_room c.self.inside.shape h c.self.inside.tally c.self.invariant (omega (arith, c.count-events.ensures, ap length k, length_push h (by c.args.caller c.args.what)))

pub count-requires-clause-leaves : goal.count-requires-clause-leaves
count-requires-clause-leaves g c =
    may_leave c.self.inside.shape (g.R.Recorder.history c.self.inside.events) c.args.caller c.args.what c.self.inside.tally.flying _ c.self.invariant.legal
    (fits_inside _ _ c.args.caller c.args.what c.self.view_is c.requires.fits)
    (leaves_inside _ _ c.args.caller c.args.what _ c.self.view_is c.requires.leaves) c.self.invariant.flying_are

pub invariant_of-self : goal.invariant_of-self
invariant_of-self g c =
    let j = c.self.invariant in
    let h : History = g.R.Recorder.history c.self.inside.events in
    let w : What = c.args.what in
    let P : History → Type 0 = λ k. IsJournal c.self.inside.shape k c.count.new.self in
    subst P (sym c.record.ensures.history)
    (journal_push c.self.inside.shape h c.args.caller w _ c.args.split _ _ j (fits_inside _ _ c.args.caller w c.self.view_is c.requires.fits)
    (leaves_inside _ _ c.args.caller w _ c.self.view_is c.requires.leaves) (split_inside _ _ w c.args.split c.self.view_is c.requires.split) c.count.ensures)

pub returns-clause-legal : goal.returns-clause-legal
returns-clause-legal g c = (invariant_of-self g c).legal
