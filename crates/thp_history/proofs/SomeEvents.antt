-- Some event of a history passes a test: which one, and the tests that follow.
use Rattle.std.proofs.Common.{◌≡◌, ℕ, suc, zero, Bool, true, false, ◌||◌, [], ◌∷◌, Some, refl, ap, ◌∙◌, slice_get}
use Rattle.thp_history.specs.Prelude.{Event, What, History, some_event}
use Rattle.thp_history.proofs.Bools.{or_first, or_second}

-- an event that passes, with its place
pub record Passing (test : What → Bool) (h : History) : Type 0 where
  pub place : ℕ
  pub event : Event
  pub there : slice_get h place ≡ Some event
  pub passes : test event.what ≡ true

-- where some event passes there is one
pub passing : (test : What → Bool) (h : History) → some_event test h ≡ true → Passing test h
unfolding some_event
passing test [] s = absurd (cc)
passing test (e ∷ h) s = go (test e.what) refl s (passing test h) where
  go : (b : Bool) → test e.what ≡ b → (b || some_event test h) ≡ true → (some_event test h ≡ true → Passing test h) → Passing test (e ∷ h)
  go true y s f = record { place = 0; event = e; there = refl; passes = y }
  go false y s f = let r : Passing test h = f s in record { place = suc r.place; event = r.event; there = r.there; passes = r.passes }

-- one that passes is some
pub some_passes : (test : What → Bool) (h : History) (k : ℕ) (e : Event) → slice_get h k ≡ Some e → test e.what ≡ true → some_event test h ≡ true
unfolding some_event
some_passes test [] k e g s = absurd (cc)
some_passes test (x ∷ h) zero e g s = let same : x ≡ e = cc in or_first _ _ (ap (λ (y : Event). test y.what) same ∙ s)
some_passes test (x ∷ h) (suc k) e g s = or_second (test x.what) _ (some_passes test h k e g s)
