use Rattle.std.proofs.Common.{◌≡◌, ◌+◌, ◌<◌, ◌^◌, ◌∙◌, [], ◌∷◌, ◌++◌, length, refl, subst, sym, option_and_then}
use Rattle.thp_check.specs.Prelude.{Replayed}
use Rattle.thp_journal_writer.specs.Prelude.{event_page}
use Rattle.thp_history.specs.Prelude.{History, Fits}
use Rattle.thp_metrics.specs.Prelude.{KeepsWaits, KeepsFinds, home, Inside}
use Rattle.thp_metrics.proofs.Arriving.{absent, comes, comes_of, goes, goes_of, inside, none_moves, present, stays_in, stays_out}
use Rattle.thp_metrics.proofs.Finding.{finds_on, may_note}
use Rattle.thp_metrics.proofs.waiting.Waiting.follow.Goals.{in-None-Some, in-None-None, in-Some-None, in-Some-Some}
use Rattle.thp_metrics.proofs.waiting.Waiting.follow.Goals as goal

pub come-requires-clause-inside : goal.come-requires-clause-inside
come-requires-clause-inside c =
    let i = c.self.inside in
    let e = c.args.event.now in
    let fits : Fits i.shape i.past e = subst (λ (r : Replayed). Fits r.shape r.history e) (sym c.self.view_is) c.requires.fits in
    let room : length i.past + 1 < 2 ^ 64 = subst (λ (r : Replayed). length r.history + 1 < 2 ^ 64) (sym c.self.view_is) c.requires.room in
    let before : c.args.before ≡ option_and_then (home i.shape i.past) (event_page e.what) = subst (λ (r : Replayed). c.args.before ≡ option_and_then (home r.shape r.history) (event_page e.what)) (sym c.self.view_is) c.requires.before in
    let after : c.args.after ≡ option_and_then (home i.shape (i.past ++ e ∷ [])) (event_page e.what) = subst (λ (r : Replayed). c.args.after ≡ option_and_then (home r.shape (r.history ++ e ∷ [])) (event_page e.what)) (sym c.self.view_is) c.requires.after in
    let m = comes_of i.shape i.past e c.in-None-Some.block (event_page e.what) fits refl (sym c.in-None-Some.is-0 ∙ before) (sym c.in-None-Some.is-1 ∙ after) in
    inside i.shape i.past e i.events i.arrivals c.self.invariant.0 fits room m.0 c.in-None-Some.block m.1 m.2 m.3

pub come-requires-clause-absent : goal.come-requires-clause-absent
come-requires-clause-absent c =
    let i = c.self.inside in
    let e = c.args.event.now in
    let fits : Fits i.shape i.past e = subst (λ (r : Replayed). Fits r.shape r.history e) (sym c.self.view_is) c.requires.fits in
    let room : length i.past + 1 < 2 ^ 64 = subst (λ (r : Replayed). length r.history + 1 < 2 ^ 64) (sym c.self.view_is) c.requires.room in
    let before : c.args.before ≡ option_and_then (home i.shape i.past) (event_page e.what) = subst (λ (r : Replayed). c.args.before ≡ option_and_then (home r.shape r.history) (event_page e.what)) (sym c.self.view_is) c.requires.before in
    let after : c.args.after ≡ option_and_then (home i.shape (i.past ++ e ∷ [])) (event_page e.what) = subst (λ (r : Replayed). c.args.after ≡ option_and_then (home r.shape (r.history ++ e ∷ [])) (event_page e.what)) (sym c.self.view_is) c.requires.after in
    let m = comes_of i.shape i.past e c.in-None-Some.block (event_page e.what) fits refl (sym c.in-None-Some.is-0 ∙ before) (sym c.in-None-Some.is-1 ∙ after) in
    absent i.shape i.past e i.events i.arrivals c.self.invariant.0 fits room m.0 c.in-None-Some.block m.1 m.2 m.3

pub go-requires : goal.go-requires
go-requires c =
    let i = c.self.inside in
    let e = c.args.event.now in
    let fits : Fits i.shape i.past e = subst (λ (r : Replayed). Fits r.shape r.history e) (sym c.self.view_is) c.requires.fits in
    let room : length i.past + 1 < 2 ^ 64 = subst (λ (r : Replayed). length r.history + 1 < 2 ^ 64) (sym c.self.view_is) c.requires.room in
    let before : c.args.before ≡ option_and_then (home i.shape i.past) (event_page e.what) = subst (λ (r : Replayed). c.args.before ≡ option_and_then (home r.shape r.history) (event_page e.what)) (sym c.self.view_is) c.requires.before in
    let after : c.args.after ≡ option_and_then (home i.shape (i.past ++ e ∷ [])) (event_page e.what) = subst (λ (r : Replayed). c.args.after ≡ option_and_then (home r.shape (r.history ++ e ∷ [])) (event_page e.what)) (sym c.self.view_is) c.requires.after in
    let m = goes_of i.shape i.past e c.in-Some-None.block (event_page e.what) fits refl (sym c.in-Some-None.is-0 ∙ before) (sym c.in-Some-None.is-1 ∙ after) in
    present i.shape i.past e i.events i.arrivals c.self.invariant.0 fits room m.0 c.in-Some-None.block m.1 m.2 m.3

pub count_find-requires : goal.count_find-requires
count_find-requires c =
    let i = c.self.inside in
    let e = c.args.event.now in
    let fits : Fits i.shape i.past e = subst (λ (r : Replayed). Fits r.shape r.history e) (sym c.self.view_is) c.requires.fits in
    let room : length i.past + 1 < 2 ^ 64 = subst (λ (r : Replayed). length r.history + 1 < 2 ^ 64) (sym c.self.view_is) c.requires.room in
    let after : c.args.after ≡ option_and_then (home i.shape (i.past ++ e ∷ [])) (event_page e.what) = subst (λ (r : Replayed). c.args.after ≡ option_and_then (home r.shape (r.history ++ e ∷ [])) (event_page e.what)) (sym c.self.view_is) c.requires.after in
    may_note i.shape i.past e i.finds.items c.args.after c.self.invariant.0.legal fits c.self.invariant.1 room after

pub invariant_of-self : goal.invariant_of-self
invariant_of-self c =
    let i = c.self.inside in
    let e = c.args.event.now in
    let fits : Fits i.shape i.past e = subst (λ (r : Replayed). Fits r.shape r.history e) (sym c.self.view_is) c.requires.fits in
    let room : length i.past + 1 < 2 ^ 64 = subst (λ (r : Replayed). length r.history + 1 < 2 ^ 64) (sym c.self.view_is) c.requires.room in
    let before : c.args.before ≡ option_and_then (home i.shape i.past) (event_page e.what) = subst (λ (r : Replayed). c.args.before ≡ option_and_then (home r.shape r.history) (event_page e.what)) (sym c.self.view_is) c.requires.before in
    let after : c.args.after ≡ option_and_then (home i.shape (i.past ++ e ∷ [])) (event_page e.what) = subst (λ (r : Replayed). c.args.after ≡ option_and_then (home r.shape (r.history ++ e ∷ [])) (event_page e.what)) (sym c.self.view_is) c.requires.after in
    let found : KeepsFinds i.shape (i.past ++ e ∷ []) c.count_find.new.counts.items = finds_on i.shape i.past e i.finds.items c.self.invariant.0.legal fits c.self.invariant.1 c.args.after c.count_find.new.counts.items after c.count_find.ensures in
    let G : Inside → Type 0 = λ x. (h : History) → h ≡ x.past ++ e ∷ [] → KeepsWaits x.shape h x.events x.arrivals × KeepsFinds x.shape h x.finds.items in
    let made : G c.match-before.self-inside = elim c.match-before.branch [
      | in-None-Some w ↦
          let m = comes_of i.shape i.past e w.in-None-Some.block (event_page e.what) fits refl (sym w.in-None-Some.is-0 ∙ before) (sym w.in-None-Some.is-1 ∙ after) in
          subst G (sym w.self-inside-is) (λ h is. subst (λ (k : History). KeepsWaits i.shape k (i.events + 1) w.come.new.self × KeepsFinds i.shape k c.count_find.new.counts.items) (sym is)
          (comes i.shape i.past e i.events i.arrivals c.self.invariant.0 fits room m.0 w.in-None-Some.block m.1 m.2 m.3 (i.events + 1) w.come.new.self refl w.come.ensures.order w.come.ensures.since, found))
      | in-Some-None w ↦
          let m = goes_of i.shape i.past e w.in-Some-None.block (event_page e.what) fits refl (sym w.in-Some-None.is-0 ∙ before) (sym w.in-Some-None.is-1 ∙ after) in
          subst G (sym w.self-inside-is) (λ h is. subst (λ (k : History). KeepsWaits i.shape k (i.events + 1) w.go.new.self × KeepsFinds i.shape k c.count_find.new.counts.items) (sym is)
          (goes i.shape i.past e i.events i.arrivals c.self.invariant.0 fits room m.0 w.in-Some-None.block m.1 m.2 m.3 (i.events + 1) w.go.new.self refl w.go.ensures.order w.go.ensures.since, found))
      | in-None-None w ↦
          subst G (sym w.self-inside-is) (λ h is. subst (λ (k : History). KeepsWaits i.shape k (i.events + 1) i.arrivals × KeepsFinds i.shape k c.count_find.new.counts.items) (sym is)
          (none_moves i.shape i.past e i.events i.arrivals c.self.invariant.0 fits room (i.events + 1) refl (stays_out i.shape i.past e (event_page e.what) fits refl (sym w.in-None-None.is-0 ∙ before) (sym w.in-None-None.is-1 ∙ after)), found))
      | in-Some-Some w ↦
          subst G (sym w.self-inside-is) (λ h is. subst (λ (k : History). KeepsWaits i.shape k (i.events + 1) i.arrivals × KeepsFinds i.shape k c.count_find.new.counts.items) (sym is)
          (none_moves i.shape i.past e i.events i.arrivals c.self.invariant.0 fits room (i.events + 1) refl (stays_in i.shape i.past e _ _ (event_page e.what) c.self.invariant.0.legal fits refl (sym w.in-Some-Some.is-0 ∙ before) (sym w.in-Some-Some.is-1 ∙ after)), found))
    ] in
    made c.push.new.self c.push.ensures
