-- Each definition at a history with one more event.
use Rattle.std.proofs.Common.{◌≡◌, ℕ, ◌+◌, Bool, true, false, cond, ◌||◌, [], ◌∷◌, ◌++◌, refl, ap, sym, ◌∙◌, arith, append_assoc, filter_map, fold}
use Rattle.std.proofs.lemmas.List.Elements.{filter_map-append}
use Rattle.std.proofs.lemmas.List.Sums.{sum_by_push, fold_push}
use Rattle.std.proofs.lemmas.List.Folds.{list_any-append}
use Rattle.thp_history.specs.Prelude.{Event, What, Shape, History, count_of, some_event, is_live, allocates, frees, queue, queue_after, flights, flights_after, is_taking, takes_by, thp_split_pmd, add_split_pmds, splits_pmds, thp_underused_split_page, add_split_underused, splits_underused, given, gives_back, zero_after, is_zero_filled, writes, zeroes, unmaps_some, unmaps_part, add_unmap, is_partly_mapped}
use Rattle.thp_history.proofs.Bools.{or-false, and_no}
use Rattle.thp_history.proofs.ListPlaces.{append_none}

-- how many events pass a test
pub count_of_push : (test : What → Bool) (h : History) (e : Event) → count_of test (h ++ e ∷ []) ≡ count_of test h + cond (test e.what) 1 0
unfolding count_of
count_of_push test h e = sum_by_push (λ (x : Event). cond (test x.what) 1 0) h e

-- whether some event passes a test
pub some_event_push : (test : What → Bool) (h : History) (e : Event) → some_event test (h ++ e ∷ []) ≡ (some_event test h || test e.what)
unfolding some_event
some_event_push test h e = grind (arith, list_any-append, or-false)

-- the queue
pub queue_push : (shape : Shape) (h : History) (e : Event) → queue shape (h ++ e ∷ []) ≡ queue_after shape (queue shape h) e.what
unfolding queue
queue_push shape h e = fold_push (λ ps (x : Event). queue_after shape ps x.what) [] h e

-- the flights
pub flights_push : (h : History) (e : Event) → flights (h ++ e ∷ []) ≡ flights_after (flights h) e.caller e.what
unfolding flights
flights_push h e = fold_push (λ fs (x : Event). flights_after fs x.caller x.what) [] h e

-- whether the last event is a take by c
pub is_taking_push : (h : History) (c : ℕ) (e : Event) → is_taking (h ++ e ∷ []) c ≡ takes_by c e.caller e.what
unfolding is_taking
is_taking_push h c e = fold_push (λ before (x : Event). takes_by c x.caller x.what) false h e

-- an event that doesn't pass a test
pub count_same : (test : What → Bool) (h : History) (e : Event) → test e.what ≡ false → count_of test (h ++ e ∷ []) ≡ count_of test h
count_same test h e f = grind (arith, count_of_push)

-- an event that passes
pub count_more : (test : What → Bool) (h : History) (e : Event) → test e.what ≡ true → count_of test (h ++ e ∷ []) ≡ count_of test h + 1
count_more test h e f = count_of_push test h e ∙ ap (λ b. count_of test h + cond b 1 0) f

-- an event that doesn't pass leaves whether some event did
pub some_same : (test : What → Bool) (h : History) (e : Event) → test e.what ≡ false → some_event test (h ++ e ∷ []) ≡ some_event test h
some_same test h e f = some_event_push test h e ∙ ap (λ b. some_event test h || b) f ∙ or-false (some_event test h)

-- an event that neither allocates nor frees page p leaves whether it lives
pub live_stays : (h : History) (e : Event) (p : ℕ) → allocates p e.what ≡ false → frees p e.what ≡ false → is_live (h ++ e ∷ []) p ≡ is_live h p
live_stays h e p a f = grind (arith, some_same)

-- the count of split PMD mappings goes along the history
history_of : (k : History) (n : ℕ) (h : History) → (fold add_split_pmds (k, n) h).0 ≡ k ++ h
history_of k n [] = sym (append_none k)
history_of k n (e ∷ h) = history_of (k ++ e ∷ []) (n + splits_pmds k e.what) h ∙ append_assoc k (e ∷ []) h

-- how many PMD mappings were split
pub thp_split_pmd_push : (h : History) (e : Event) → thp_split_pmd (h ++ e ∷ []) ≡ thp_split_pmd h + splits_pmds h e.what
unfolding thp_split_pmd
thp_split_pmd_push h e = grind (arith, fold_push, history_of)

-- the count of underused pages split goes along the history too
history_so : (shape : Shape) (k : History) (n : ℕ) (h : History) → (fold (add_split_underused shape) (k, n) h).0 ≡ k ++ h
history_so shape k n [] = sym (append_none k)
history_so shape k n (e ∷ h) = history_so shape (k ++ e ∷ []) (n + splits_underused shape k e.what) h ∙ append_assoc k (e ∷ []) h

-- how many pages were split as underused
pub thp_underused_split_page_push : (shape : Shape) (h : History) (e : Event) →
    thp_underused_split_page shape (h ++ e ∷ []) ≡ thp_underused_split_page shape h + splits_underused shape h e.what
unfolding thp_underused_split_page
thp_underused_split_page_push shape h e = grind (arith, fold_push, history_so)

-- at the start none was split
pub thp_underused_split_page_none : (shape : Shape) → thp_underused_split_page shape [] ≡ 0
unfolding thp_underused_split_page
thp_underused_split_page_none shape = refl

-- whether a subpage is zero-filled
pub is_zero_filled_push : (p i : ℕ) (h : History) (e : Event) → is_zero_filled (h ++ e ∷ []) p i ≡ zero_after p i (is_zero_filled h p i) e.what
unfolding is_zero_filled
is_zero_filled_push p i h e = fold_push (λ before (x : Event). zero_after p i before x.what) true h e

-- an event that fills no subpage of page p
pub zero_stays : (h : History) (e : Event) (p i : ℕ) → zeroes p i e.what ≡ false → writes p i e.what ≡ false →
    is_zero_filled (h ++ e ∷ []) p i ≡ is_zero_filled h p i
zero_stays h e p i z w = grind (arith, is_zero_filled_push)

-- whether a page is partly mapped goes along the history
history_by : (shape : Shape) (p : ℕ) (k : History) (b : Bool) (h : History) → (fold (add_unmap shape p) (k, b) h).0 ≡ k ++ h
history_by shape p k b [] = sym (append_none k)
history_by shape p k b (e ∷ h) = history_by shape p (k ++ e ∷ []) (b || unmaps_part shape p k e) h ∙ append_assoc k (e ∷ []) h

-- whether a page is partly mapped
pub is_partly_mapped_push : (shape : Shape) (h : History) (e : Event) (p : ℕ) →
    is_partly_mapped shape (h ++ e ∷ []) p ≡ (is_partly_mapped shape h p || unmaps_part shape p h e)
unfolding is_partly_mapped
is_partly_mapped_push shape h e p = grind (arith, fold_push, history_by)

-- no page of the empty history is
pub is_partly_mapped_none : (shape : Shape) (p : ℕ) → is_partly_mapped shape [] p ≡ false
unfolding is_partly_mapped
is_partly_mapped_none shape p = refl

-- an event that unmaps nothing of page p
pub partly_stays : (shape : Shape) (h : History) (e : Event) (p : ℕ) → unmaps_some p e.what ≡ false →
    is_partly_mapped shape (h ++ e ∷ []) p ≡ is_partly_mapped shape h p
partly_stays shape h e p f = grind (arith, is_partly_mapped_push, and_no, or-false)

-- the record of frames given back
pub given_push : (h : History) (e : Event) → given (h ++ e ∷ []) ≡ given h ++ filter_map gives_back (e ∷ [])
unfolding given
given_push h e = filter_map-append gives_back h (e ∷ [])
