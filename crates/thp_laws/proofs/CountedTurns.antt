-- Tries of which none is counted as out of turn come in the order of the takes.
use Rattle.std.proofs.Common.{◌≡◌, ◌∙◌, ◌+◌, ◌&&◌, ℕ, Bool, true, false, cond, nat_eq, nat_lt, not, List, [], ◌∷◌, ◌++◌, Option, Some, ap, arith, drop, eq-eqb, length, length-append, map, refl, subst, sym, eqb-true, lt-ltb}
use Rattle.std.specs.Prelude.{⊤, slice_get, All, if◌then◌else◌}
use Rattle.std.specs.List.{fold, AllByRecursion}
use Rattle.std.proofs.lemmas.List.{append-nil, map-append}
use Rattle.std.proofs.lemmas.List.Elements.{recursion_from_All}
use Rattle.thp_history.specs.declared.events.Event.{Event}
use Rattle.thp_history.specs.declared.events.What.{What}
use Rattle.thp_history.specs.declared.events.What.TheVariants as what
use Rattle.thp_history.specs.declared.events.What.TheVariants.{Taken, Split, Pinned, Used}
use Rattle.thp_history.specs.Prelude.{by, History}
use Rattle.thp_script.specs.declared.script.Op.{Op}
use Rattle.thp_journal_scripts.specs.declared.folding.EventKind.TheVariants.{Call, Put, Try}
use Rattle.thp_journal_scripts.specs.declared.turns.UntriedPage.{UntriedPage}
use Rattle.thp_journal_scripts.specs.Prelude.{kind_of, done_page, is_other, is_out_of_turn, out_of_turn, taken_by, tried_page, turns_after, unless_done, TurnsSoFar, once_ended, place_of_call, place_of_put, place_of_try, scan_place_after, scan_place_of, Between, Elsewhere, InPuts, InTakes, InTries, IsWholeScans, ScanPlace}
use Rattle.thp_journal_scripts.specs.Turns as counted
use Rattle.thp_laws.proofs.RepeatedPlaces.{all_elsewhere}

-- ---- tries in the order of the takes

-- a try is of the page that was taken first of those not tried yet
abbrev pub IsInTurn : What → List ℕ → Type 0
IsInTurn (Split p released) untried = slice_get untried 0 ≡ Some p
IsInTurn (Pinned p) untried = slice_get untried 0 ≡ Some p
IsInTurn (Used p) untried = slice_get untried 0 ≡ Some p
IsInTurn w untried = ⊤

-- the pages taken and not tried yet, after one more event
abbrev pub untried_after : What → List ℕ → List ℕ
untried_after (Taken p) untried = untried ++ p ∷ []
untried_after (Split p released) untried = drop 1 untried
untried_after (Pinned p) untried = drop 1 untried
untried_after (Used p) untried = drop 1 untried
untried_after w untried = untried

-- pages are tried in the order in which they were taken, beginning with those not tried yet
abbrev pub AreInTurn : List ℕ → History → Type 0
AreInTurn untried [] = ⊤
AreInTurn untried (e ∷ h) = IsInTurn e.what untried × AreInTurn (untried_after e.what untried) h

-- ---- how they are counted

abbrev turns_from : List UntriedPage → ℕ → TurnsSoFar
turns_from pages n = record { untried = pages; count = n }

count_from : (h : History) (pages : List UntriedPage) (n : ℕ) → (fold turns_after (turns_from pages n) h).count ≡ n + (fold turns_after (turns_from pages 0) h).count
count_from [] pages n = omega arith
count_from (e ∷ h) pages n =
    let k : ℕ = if is_out_of_turn pages e then 1 else 0 in
    let one = count_from h (counted.untried_after pages e) (n + k) in
    let other = count_from h (counted.untried_after pages e) (0 + k) in
    omega (arith, one, other)

-- the first event of none that is out of turn isn't, and none of the others is
none_first : (e : Event) (h : History) (pages : List UntriedPage) → (fold turns_after (turns_from pages 0) (e ∷ h)).count ≡ 0 → (is_out_of_turn pages e ≡ false) × ((fold turns_after (turns_from (counted.untried_after pages e) 0) h).count ≡ 0)
none_first e h pages none = grind (arith, count_from)

-- ---- the pages of caller 0

abbrev of_0 : ℕ → UntriedPage
of_0 p = record { caller = 0; page = p }

-- a scan's pages that are not tried yet
abbrev Untried : ScanPlace → List ℕ → Type 0
Untried Between ps = ps ≡ []
Untried (InTakes c qs) ps = length ps ≡ length qs
Untried (InTries c n k qs) ps = length ps + k ≡ n
Untried (InPuts c qs) ps = ps ≡ []
Untried Elsewhere ps = ⊤

no_pages : (ps : List ℕ) → length ps ≡ 0 → ps ≡ []
no_pages [] none = refl
no_pages (p ∷ ps) none = absurd (omega (arith, none))

ended_untried : (s : ScanPlace) (ps : List ℕ) → Untried s ps → Untried (once_ended s) ps
ended_untried x ps is = grind (arith, nat_eq, no_pages, eqb-true)

-- a place that is kept on a condition, else the history leaves whole scans
if_kept : (b : Bool) (s : ScanPlace) (ps : List ℕ) → (once_ended (cond b s Elsewhere) ≡ Elsewhere → ⊥) → (b ≡ true → Untried s ps) → Untried (once_ended (cond b s Elsewhere)) ps
if_kept x s ps within is = grind (arith, ended_untried)

both_right : (a b : Bool) → (a && b) ≡ true → b ≡ true
both_right x b is = grind arith

-- ---- one event of caller 0

-- it tries the first page, and leaves the others
pub record Turned (w : What) (s : ScanPlace) (ps : List ℕ) : Type 0 where
  pub in_turn : IsInTurn w ps
  pub same : unless_done (done_page w) (map of_0 ps) ++ taken_by 0 w ≡ map of_0 (untried_after w ps)
  pub untried : Untried (once_ended (scan_place_of s (kind_of w) 0 w)) (untried_after w ps)

-- the event stays within whole scans
abbrev IsWithin : What → ScanPlace → Type 0
IsWithin w s = once_ended (scan_place_of s (kind_of w) 0 w) ≡ Elsewhere → ⊥

-- nothing is done with no pages
none_done : (done : Option ℕ) → unless_done done [] ≡ []
none_done x = grind arith

-- calls
module _ (w : What) (o : Op) (is : kind_of w ≡ Call o) where
  call_turn : (ps : List ℕ) → IsInTurn w ps
  call_turn ps = grind arith

  call_untried : (ps : List ℕ) → untried_after w ps ≡ ps
  call_untried ps = grind arith

  call_takes : taken_by 0 w ≡ []
  call_takes = grind arith

  turned_at : (s : ScanPlace) → scan_place_of s (kind_of w) 0 w ≡ place_of_call s → (ps : List ℕ) → Untried s ps → IsWithin w s → (ps ≡ []) × Untried (once_ended (scan_place_of s (kind_of w) 0 w)) []
  turned_at x place ps none within = grind arith

  call_turned : (s : ScanPlace) (ps : List ℕ) → Untried s ps → IsWithin w s → Turned w s ps
  call_turned s ps u within = grind (arith, turned_at, call_turn, none_done, call_takes, call_untried)

-- a take
take_turned : (p : ℕ) (s : ScanPlace) (ps : List ℕ) → Untried s ps → IsWithin (what.Taken p) s → Turned (what.Taken p) s ps
take_turned p s ps u within = grind (arith, map-append, if_kept, nat_eq, nat_lt, length-append)

-- the first page is done
first_done : (p : ℕ) (u : UntriedPage) (us : List UntriedPage) → nat_eq u.page p ≡ true → unless_done (Some p) (u ∷ us) ≡ us
first_done p u us is = grind (arith, nat_eq, nat_lt, lt-ltb)

-- a try that is in turn is of the first page
first_tried : (p : ℕ) (ps : List ℕ) → is_other (map of_0 ps) 0 (Some p) ≡ false → (rest : List ℕ) × (ps ≡ p ∷ rest)
first_tried p [] turn = absurd (cc)
first_tried p (q ∷ qs) turn = by_page (nat_eq q p) refl turn where
  by_page : (b : Bool) → nat_eq q p ≡ b → not (nat_eq q p) ≡ false → (rest : List ℕ) × (q ∷ qs ≡ p ∷ rest)
  by_page true is now = (qs, ap (λ r. r ∷ qs) (eqb-true q p is))
  by_page false is now = let wrong : true ≡ false = ap not (sym is) ∙ now in absurd (cc)

-- a try
module _ (w : What) (p : ℕ) (is : kind_of w ≡ Try) (turns : (ps : List ℕ) → IsInTurn w ps ≡ (slice_get ps 0 ≡ Some p)) (rests : (ps : List ℕ) → untried_after w ps ≡ drop 1 ps) (done : done_page w ≡ Some p) (takes : taken_by 0 w ≡ []) where
  try_at : (s : ScanPlace) (q : ℕ) (rest : List ℕ) → Untried s (q ∷ rest) → IsWithin w s → Untried (once_ended (place_of_try s 0 w)) rest
  try_at x q rest u within = grind (arith, if_kept, nat_eq, nat_lt)

  try_turned : (s : ScanPlace) (ps : List ℕ) → Untried s ps → IsWithin w s → is_other (map of_0 ps) 0 (Some p) ≡ false → Turned w s ps
  try_turned s ps u within turn = grind (arith, first_tried, first_done, eq-eqb, append-nil, try_at)

-- a page that is put back or dropped
module _ (w : What) (p : ℕ) (is : kind_of w ≡ Put) (turn : (ps : List ℕ) → IsInTurn w ps) (stays : (ps : List ℕ) → untried_after w ps ≡ ps) (takes : taken_by 0 w ≡ []) where
  put_at : (s : ScanPlace) (ps : List ℕ) → Untried s ps → IsWithin w s → (ps ≡ []) × Untried (once_ended (place_of_put s 0 w)) []
  put_at x ps u within = grind (arith, nat_eq, eqb-true, both_right, no_pages, ended_untried, if_kept)

  put_turned : (s : ScanPlace) (ps : List ℕ) → Untried s ps → IsWithin w s → Turned w s ps
  put_turned s ps u within = grind (arith, put_at, none_done)

turned : (w : What) (s : ScanPlace) (ps : List ℕ) → Untried s ps → IsWithin w s → is_other (map of_0 ps) 0 (tried_page w) ≡ false → Turned w s ps
turned (what.Alloc p b) s ps u within turn = call_turned (what.Alloc p b) _ refl s ps u within
turned (what.MapWhole p) s ps u within turn = call_turned (what.MapWhole p) _ refl s ps u within
turned (what.UnmapWhole o p r) s ps u within turn = call_turned (what.UnmapWhole o p r) _ refl s ps u within
turned (what.MapSub p f c) s ps u within turn = call_turned (what.MapSub p f c) _ refl s ps u within
turned (what.UnmapSub o p f c r) s ps u within turn = call_turned (what.UnmapSub o p f c r) _ refl s ps u within
turned (what.SplitPmd p) s ps u within turn = call_turned (what.SplitPmd p) _ refl s ps u within
turned (what.Pin p) s ps u within turn = call_turned (what.Pin p) _ refl s ps u within
turned (what.Unpin o p r) s ps u within turn = call_turned (what.Unpin o p r) _ refl s ps u within
turned (what.Write p f c) s ps u within turn = call_turned (what.Write p f c) _ refl s ps u within
turned (what.Zero p f c) s ps u within turn = call_turned (what.Zero p f c) _ refl s ps u within
turned (what.Taken p) s ps u within turn = take_turned p s ps u within
turned (what.Split p r) s ps u within turn = try_turned (what.Split p r) p refl (λ qs. refl) (λ qs. refl) refl refl s ps u within turn
turned (what.Pinned p) s ps u within turn = try_turned (what.Pinned p) p refl (λ qs. refl) (λ qs. refl) refl refl s ps u within turn
turned (what.Used p) s ps u within turn = try_turned (what.Used p) p refl (λ qs. refl) (λ qs. refl) refl refl s ps u within turn
turned (what.Back p) s ps u within turn = put_turned (what.Back p) p refl (λ qs. tt) (λ qs. refl) refl s ps u within
turned (what.Dropped p) s ps u within turn = put_turned (what.Dropped p) p refl (λ qs. tt) (λ qs. refl) refl s ps u within
turned what.Close s ps u within turn = call_turned what.Close _ refl s ps u within

-- ---- the whole

turns_in : (h : History) (s : ScanPlace) (ps : List ℕ) → AllByRecursion (λ (e : Event). e.caller ≡ 0) h → Untried s ps → fold scan_place_after s h ≡ Between → (fold turns_after (turns_from (map of_0 ps) 0) h).count ≡ 0 → AreInTurn ps h
turns_in [] s ps callers u end none = tt
turns_in (e ∷ h) s ps callers u end none =
    let is : by 0 e.what ≡ e = ap (λ d. by d e.what) (sym callers.0) in
    let first = none_first e h (map of_0 ps) none in
    let within : IsWithin e.what s = λ away. let wrong : Elsewhere ≡ Between = sym (all_elsewhere h) ∙ ap (λ t. fold scan_place_after t h) (sym away ∙ ap (scan_place_after s) is) ∙ end in absurd (cc) in
    let t = turned e.what s ps u within (ap (λ d. is_other (map of_0 ps) d (tried_page e.what)) (sym callers.0) ∙ first.0) in
    let after : counted.untried_after (map of_0 ps) e ≡ map of_0 (untried_after e.what ps) = ap (λ d. unless_done (done_page e.what) (map of_0 ps) ++ taken_by d e.what) callers.0 ∙ t.same in
    (t.in_turn, turns_in h (scan_place_after s e) (untried_after e.what ps) callers.1 (subst (λ x. Untried (scan_place_after s x) (untried_after e.what ps)) is t.untried) end (ap (λ us. (fold turns_after (turns_from us 0) h).count) (sym after) ∙ first.1))

pub all_in_turn : (h : History) → All (λ (e : Event). e.caller ≡ 0) h → IsWholeScans h → out_of_turn h ≡ 0 → AreInTurn [] h
all_in_turn h callers whole none = turns_in h Between [] (recursion_from_All (λ (e : Event). e.caller ≡ 0) h callers) refl whole none
