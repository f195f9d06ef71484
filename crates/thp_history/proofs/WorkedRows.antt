-- Histories whose events are computed to fit, one after another.
use Rattle.std.proofs.Common.{[], ◌∷◌, ◌++◌, refl, lit<, subst, sym, append_assoc}
use Rattle.thp_history.specs.Prelude.{Shape, History, count_of, some_event, queue, flights, is_taking, given, Fits, IsLegal, refusal, set_of, some_below, each_below, sum_below, subpages, thp_split_pmd, thp_underused_split_page, is_zero_filled, is_partly_mapped, HasTotals, large_pages, small_pages, few_used, first_run, pinned_goes_to_the_tail, small_page_split, underused_scan, underused_pinned}
use Rattle.thp_history.proofs.LegalSteps.{legal_none, legal_push}
use Rattle.thp_history.proofs.ListPlaces.{append_none}

-- each event fits the history before it
abbrev pub AllFit : Shape → History → History → Type 0
AllFit shape h [] = Unit {0}
AllFit shape h (e ∷ es) = Fits shape h e × AllFit shape (h ++ e ∷ []) es

-- such a history goes on legally
pub legal_by : (shape : Shape) (h es : History) → IsLegal shape h → AllFit shape h es → IsLegal shape (h ++ es)
legal_by shape h [] l f = let P : History → Type 0 = λ k. IsLegal shape k in subst P (sym (append_none h)) l
legal_by shape h (e ∷ es) l f =
    let P : History → Type 0 = λ k. IsLegal shape k in
    subst P (append_assoc h (e ∷ []) es) (legal_by shape (h ++ e ∷ []) es (legal_push shape h e l f.0) f.1)

infixr 20 ◌⨟◌
-- this event fits, and then those
abbrev ◌⨟◌ : {A B : Type 0} → A → B → A × B
◌⨟◌ a b = (a, b)

-- half of a page unmapped and a scan: each event fits
pub first_run-legal : IsLegal large_pages first_run
unfolding refusal count_of some_event queue flights is_taking some_below each_below set_of subpages is_partly_mapped is_zero_filled sum_below
first_run-legal =
    legal_by large_pages [] first_run (legal_none large_pages)
    (record { allowed = refl; number = refl; inside = lit< tt; free = refl }
    ⨟ refl
    ⨟ (refl, record { outcome_is = refl; set_is = refl })
    ⨟ record { oldest = refl; may_take = refl }
    ⨟ record { in_flight = refl; worth = refl; unpinned = refl; set_is = refl }
    ⨟ tt)

-- and what it comes to
pub first_run-totals : HasTotals large_pages first_run 1 0 256 256 1 0 1 1 0
unfolding count_of some_event queue flights given sum_below some_below thp_split_pmd thp_underused_split_page set_of subpages is_partly_mapped is_zero_filled
first_run-totals = record {
  pages_are = refl;
  queue_is = refl;
  held_are = refl;
  given_are = refl;
  split_are = refl;
  failed_are = refl;
  deferred_are = refl;
  pmds_are = refl;
  underused_are = refl;
}

-- the same of a small page
pub small_page_split-legal : IsLegal small_pages small_page_split
unfolding refusal count_of some_event queue flights is_taking some_below each_below set_of subpages is_partly_mapped is_zero_filled sum_below
small_page_split-legal =
    legal_by small_pages [] small_page_split (legal_none small_pages)
    (record { allowed = refl; number = refl; inside = lit< tt; free = refl }
    ⨟ refl
    ⨟ (refl, record { outcome_is = refl; set_is = refl })
    ⨟ record { oldest = refl; may_take = refl }
    ⨟ record { in_flight = refl; worth = refl; unpinned = refl; set_is = refl }
    ⨟ tt)

-- and what it comes to
pub small_page_split-totals : HasTotals small_pages small_page_split 1 0 1 3 1 0 1 1 0
unfolding count_of some_event queue flights given sum_below some_below thp_split_pmd thp_underused_split_page set_of subpages is_partly_mapped is_zero_filled
small_page_split-totals = record {
  pages_are = refl;
  queue_is = refl;
  held_are = refl;
  given_are = refl;
  split_are = refl;
  failed_are = refl;
  deferred_are = refl;
  pmds_are = refl;
  underused_are = refl;
}

-- three queued pages, one of them pinned, and two scans: each event fits
pub pinned_goes_to_the_tail-legal : IsLegal large_pages pinned_goes_to_the_tail
unfolding refusal count_of some_event queue flights is_taking some_below each_below set_of subpages is_partly_mapped is_zero_filled sum_below
pinned_goes_to_the_tail-legal =
    legal_by large_pages [] pinned_goes_to_the_tail (legal_none large_pages)
    (record { allowed = refl; number = refl; inside = lit< tt; free = refl }
    ⨟ refl
    ⨟ (refl, record { outcome_is = refl; set_is = refl })
    ⨟ record { allowed = refl; number = refl; inside = lit< tt; free = refl }
    ⨟ refl
    ⨟ (refl, record { outcome_is = refl; set_is = refl })
    ⨟ record { allowed = refl; number = refl; inside = lit< tt; free = refl }
    ⨟ refl
    ⨟ (refl, record { outcome_is = refl; set_is = refl })
    ⨟ refl
    ⨟ record { oldest = refl; may_take = refl }
    ⨟ record { oldest = refl; may_take = refl }
    ⨟ record { oldest = refl; may_take = refl }
    ⨟ record { in_flight = refl; worth = refl; unpinned = refl; set_is = refl }
    ⨟ (refl, lit< tt, refl)
    ⨟ record { in_flight = refl; worth = refl; unpinned = refl; set_is = refl }
    ⨟ (refl, refl, refl)
    ⨟ (refl, record { outcome_is = refl; set_is = refl })
    ⨟ record { oldest = refl; may_take = refl }
    ⨟ record { in_flight = refl; worth = refl; unpinned = refl; set_is = refl }
    ⨟ tt)

-- and what it comes to
pub pinned_goes_to_the_tail-totals : HasTotals large_pages pinned_goes_to_the_tail 3 0 1533 3 3 1 3 3 0
unfolding count_of some_event queue flights given sum_below some_below thp_split_pmd thp_underused_split_page set_of subpages is_partly_mapped is_zero_filled
pinned_goes_to_the_tail-totals = record {
  pages_are = refl;
  queue_is = refl;
  held_are = refl;
  given_are = refl;
  split_are = refl;
  failed_are = refl;
  deferred_are = refl;
  pmds_are = refl;
  underused_are = refl;
}

-- a page found in use, and later split with a zero-filled subpage: each event fits
pub underused_scan-legal : IsLegal few_used underused_scan
unfolding refusal count_of some_event queue flights is_taking some_below each_below set_of subpages is_partly_mapped is_zero_filled sum_below
underused_scan-legal =
    legal_by few_used [] underused_scan (legal_none few_used)
    (record { allowed = refl; number = refl; inside = lit< tt; free = refl }
    ⨟ refl
    ⨟ record { oldest = refl; may_take = refl }
    ⨟ (refl, refl)
    ⨟ refl
    ⨟ (refl, record { outcome_is = refl; set_is = refl })
    ⨟ record { oldest = refl; may_take = refl }
    ⨟ record { in_flight = refl; worth = refl; unpinned = refl; set_is = refl }
    ⨟ (refl, record { outcome_is = refl; set_is = refl })
    ⨟ (refl, record { outcome_is = refl; set_is = refl })
    ⨟ tt)

-- and what it comes to
pub underused_scan-totals : HasTotals few_used underused_scan 1 0 0 4 1 0 1 1 0
unfolding count_of some_event queue flights given sum_below some_below thp_split_pmd thp_underused_split_page set_of subpages is_partly_mapped is_zero_filled
underused_scan-totals = record {
  pages_are = refl;
  queue_is = refl;
  held_are = refl;
  given_are = refl;
  split_are = refl;
  failed_are = refl;
  deferred_are = refl;
  pmds_are = refl;
  underused_are = refl;
}

-- two underused pages, one of them pinned: each event fits
pub underused_pinned-legal : IsLegal few_used underused_pinned
unfolding refusal count_of some_event queue flights is_taking some_below each_below set_of subpages is_partly_mapped is_zero_filled sum_below
underused_pinned-legal =
    legal_by few_used [] underused_pinned (legal_none few_used)
    (record { allowed = refl; number = refl; inside = lit< tt; free = refl }
    ⨟ record { allowed = refl; number = refl; inside = lit< tt; free = refl }
    ⨟ refl
    ⨟ refl
    ⨟ record { oldest = refl; may_take = refl }
    ⨟ record { oldest = refl; may_take = refl }
    ⨟ record { in_flight = refl; worth = refl; unpinned = refl; set_is = refl }
    ⨟ (refl, lit< tt, refl)
    ⨟ (refl, refl)
    ⨟ tt)

-- and what it comes to
pub underused_pinned-totals : HasTotals few_used underused_pinned 2 0 6 2 1 1 0 1 1
unfolding count_of some_event queue flights given sum_below some_below thp_split_pmd thp_underused_split_page set_of subpages is_partly_mapped is_zero_filled
underused_pinned-totals = record {
  pages_are = refl;
  queue_is = refl;
  held_are = refl;
  given_are = refl;
  split_are = refl;
  failed_are = refl;
  deferred_are = refl;
  pmds_are = refl;
  underused_are = refl;
}
