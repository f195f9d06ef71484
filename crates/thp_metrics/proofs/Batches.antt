-- The pages of all batches, counted.
use Rattle.std.proofs.Common.{◌≡◌, ℕ, ◌+◌, Bool, true, false, not, cond, ◌&&◌, List, [], ◌∷◌, ◌++◌, Option, Some, None, length, refl, ap, sym, ◌∙◌, arith, length-append, nat_eq, eq-eqb, filter}
use Rattle.thp_history.specs.declared.events.Event.{Event}
use Rattle.thp_history.specs.declared.events.Outcome.{Outcome}
use Rattle.thp_history.specs.declared.events.What.{What}
use Rattle.thp_history.specs.declared.shape.Shape.{Shape}
use Rattle.thp_history.specs.Prelude.{is_live, is_split, History, count_of, Fits, IsLegal, flight, flights, flights_after, flights_by, leaves, sum_below, is_partly_mapped}
use Rattle.thp_history.proofs.LegalSteps.{legal_all, legal_none, legal_push}
use Rattle.thp_history.proofs.OnePlace.{flies_stands, has_times, times_flight}
use Rattle.thp_history.proofs.Pushes.{flights_push}
use Rattle.thp_history.proofs.Standing.{Sound, flying, flying-cons, flying_push, legal_sound, stands_not}
use Rattle.thp_page.specs.declared.standing.Standing.{Standing}
use Rattle.thp_page.specs.declared.standing.Standing.TheVariants as at
use Rattle.thp_live_pages.specs.Prelude.{standing_of, is_nowhere}
use Rattle.thp_live_pages.proofs.Standings.{batch_has, queued_has, stands_is}
use Rattle.thp_metrics.specs.Prelude.{InBatch, pages_in, stage_by, stage_of}
use Rattle.thp_journal_writer.specs.Prelude.{event_page}
use Rattle.thp_metrics.proofs.Moving.{count_moves, count_stays, one}

-- what a filter takes out is of page p
filter_moves : (u : ℕ × ℕ → Bool) (p : ℕ) (fs : List (ℕ × ℕ)) → ((f : ℕ × ℕ) → u f ≡ false → nat_eq f.1 p ≡ true) → length (filter u fs) + flying p fs ≡ length fs + flying p (filter u fs)
filter_moves u p [] out = refl
filter_moves u p (f ∷ fs) out = go (u f) refl (filter_moves u p fs out) where
  go : (b : Bool) → u f ≡ b → length (filter u fs) + flying p fs ≡ length fs + flying p (filter u fs) → length (cond b (f ∷ filter u fs) (filter u fs)) + flying p (f ∷ fs) ≡ length (f ∷ fs) + flying p (cond b (f ∷ filter u fs) (filter u fs))
  go true y rest = omega (arith, flying-cons p f.0 f.1 fs, flying-cons p f.0 f.1 (filter u fs), rest)
  go false y rest = omega (arith, flying-cons p f.0 f.1 fs, ap (λ b. cond {A = ℕ} b 1 0) (out f y), rest)

second : (a b : Bool) → not (a && b) ≡ false → b ≡ true
second x y e = grind arith

leave_moves : (c p : ℕ) (fs : List (ℕ × ℕ)) → length (leaves c p fs) + flying p fs ≡ length fs + flying p (leaves c p fs)
leave_moves c p fs = filter_moves (λ (f : ℕ × ℕ). not (nat_eq f.0 c && nat_eq f.1 p)) p fs (λ f e. second (nat_eq f.0 c) (nat_eq f.1 p) e)

free_moves : (p : ℕ) (o : Outcome) (fs : List (ℕ × ℕ)) → length (flights_by fs p o) + flying p fs ≡ length fs + flying p (flights_by fs p o)
free_moves p x fs = grind (arith, filter_moves, nat_eq, second)

-- what an event takes out of the flights, or puts there, is of its page
flights_move : (c : ℕ) (w : What) (p : ℕ) (fs : List (ℕ × ℕ)) → event_page w ≡ Some p → length (flights_after fs c w) + flying p fs ≡ length fs + flying p (flights_after fs c w)
flights_move c x p fs is = grind (arith, nat_eq, eq-eqb, length-append, flying_push, flying, free_moves, leave_moves)

none_moves : (c : ℕ) (w : What) (fs : List (ℕ × ℕ)) → event_page w ≡ None → flights_after fs c w ≡ fs
none_moves c x fs e = grind arith

-- 1 for a page in a batch, by where it stands
by_place : Bool → Bool → Standing → Bool → ℕ
by_place live split place partly = one InBatch (cond live (Some (stage_by split place partly)) None)

queued_isnt : (live split partly : Bool) → by_place live split at.Queued partly ≡ 0
unfolding by_place
queued_isnt x split partly = grind arith

nowhere_isnt : (live split partly : Bool) → by_place live split at.Nowhere partly ≡ 0
unfolding by_place
nowhere_isnt x split partly = grind arith

-- a page is in a batch where it stands in the flights
batch_is_flight : (s : Shape) (h : History) (p : ℕ) → IsLegal s h → one InBatch (stage_of s h p) ≡ flying p (flights h)
unfolding by_place
batch_is_flight s h p l = go (standing_of s h p) refl where
  sound : Sound s h
  sound = legal_sound s h l

  go : (place : Standing) → standing_of s h p ≡ place → one InBatch (stage_of s h p) ≡ flying p (flights h)
  go (at.Batch c) e =
      let has = (batch_has s h p c e).0 in
      let stands = flies_stands s h c p has in
      ap (λ live. by_place live (is_split h p) (standing_of s h p) (is_partly_mapped s h p)) (sound.live p stands)
      ∙ ap (λ split. by_place true split (standing_of s h p) (is_partly_mapped s h p)) (sound.whole_page p stands)
      ∙ ap (λ place. by_place true false place (is_partly_mapped s h p)) e
      ∙ omega (arith, sound.once p, times_flight p c (flights h), has_times p (flight h c) has)
  go at.Queued e =
      ap (λ place. by_place (is_live h p) (is_split h p) place (is_partly_mapped s h p)) e
      ∙ queued_isnt (is_live h p) (is_split h p) (is_partly_mapped s h p)
      ∙ omega (arith, sound.once p, has_times p _ (queued_has s h p e))
  go at.Nowhere e =
      ap (λ place. by_place (is_live h p) (is_split h p) place (is_partly_mapped s h p)) e
      ∙ nowhere_isnt (is_live h p) (is_split h p) (is_partly_mapped s h p)
      ∙ omega (arith, stands_not s h p (stands_is s h p ∙ ap (λ place. not (is_nowhere place)) e))

-- the pages in batches are those of the flights
record Batches (s : Shape) (h : History) : Type 0 where
  legal : IsLegal s h
  same : pages_in s h InBatch ≡ length (flights h)

none_in_batches : (s : Shape) → Batches s []
unfolding flights count_of sum_below
none_in_batches s = record { legal = legal_none s; same = refl }

more_in_batches : (s : Shape) (h : History) (e : Event) → Batches s h → Fits s h e → Batches s (h ++ e ∷ [])
more_in_batches s h e b f = record { legal = legal; same = go (event_page e.what) refl } where
  legal : IsLegal s (h ++ e ∷ [])
  legal = legal_push s h e b.legal f

  go : (o : Option ℕ) → event_page e.what ≡ o → pages_in s (h ++ e ∷ []) InBatch ≡ length (flights (h ++ e ∷ []))
  go (Some p) is = omega (
    arith,
    count_moves s h e.caller e.what p InBatch b.legal f is,
    flights_move e.caller e.what p (flights h) is,
    batch_is_flight s h p b.legal,
    batch_is_flight s (h ++ e ∷ []) p legal,
    ap length (flights_push h e),
    ap (flying p) (flights_push h e),
    b.same,
  )
  go None none = count_stays s h e InBatch f none ∙ b.same ∙ sym (ap length (flights_push h e ∙ none_moves e.caller e.what (flights h) none))

pub in_batches_are : (s : Shape) (h : History) → IsLegal s h → pages_in s h InBatch ≡ length (flights h)
in_batches_are s h l = (legal_all s (Batches s) (none_in_batches s) (λ k e b f. more_in_batches s k e b f) h l).same
