-- The events of a whole scan in a legal history are those of the model's scan.
use Rattle.std.proofs.Common.{◌≡◌, ◌<◌, ◌+◌, ℕ, true, false, nat_eq, List, [], ◌∷◌, ◌++◌, map, take, drop, length, Some, refl, ap, ap₂, sym, subst, ◌∙◌, arith, append_assoc, eq-eqb, slice_get, ne_eqb}
use Rattle.std.specs.List.{AllByRecursion}
use Rattle.std.proofs.lemmas.List.{length-map}
use Rattle.thp_history.specs.declared.events.Event.{Event}
use Rattle.thp_history.specs.declared.events.What.{What}
use Rattle.thp_history.specs.declared.events.What.TheVariants as what
use Rattle.thp_history.specs.declared.shape.Shape.{Shape}
use Rattle.thp_history.specs.Prelude.{pins, History, by, Fits, IsLegal, is_dropped, takes_of, flight, has_page, no_pages, queue, put_back_events, return_event, still_flying, take_events, try_event, unused}
use Rattle.thp_history.proofs.FlightLaws.{oldest}
use Rattle.thp_history.proofs.LegalSteps.{legal_at, legal_front}
use Rattle.thp_history.proofs.ListPlaces.{append_none}
use Rattle.thp_history.proofs.OnePlace.{flies_live}
use Rattle.thp_history.proofs.ReturnRuns.{Returned, return_as, returns_run}
use Rattle.thp_history.proofs.ScanRuns.{NextTry, scan_next_try, scan_taken, scan_tried, TakesLeave, takes_leave}
use Rattle.thp_history.proofs.TakeRuns.{more_taken, take_runs}
use Rattle.thp_history.proofs.TryRuns.{split_releases, try_as}
use Rattle.thp_script.specs.declared.script.Op.{Op}
use Rattle.thp_journal_scripts.specs.declared.folding.EventKind.TheVariants.{Call, Put, Take, Try}
use Rattle.thp_journal_scripts.specs.Prelude.{kind_of, IsBy}
use Rattle.thp_node.proofs.ScanLemmas.{all_tried}
use Rattle.thp_laws.proofs.CountedTurns.{untried_after, AreInTurn, IsInTurn}

-- ---- one event

-- the event of a caller
event_by : (e : Event) (c : ℕ) (w : What) → e.caller ≡ c → e.what ≡ w → e ≡ by c w
event_by e c w a b = ap₂ (λ d v. by d v) a b

-- a take is of a page
take_of : (w : What) → kind_of w ≡ Take → (p : ℕ) × (w ≡ what.Taken p)
take_of x kind = grind arith

-- pages that have pins aren't without
some_pins : (n : ℕ) → 0 < n → nat_eq n 0 ≡ false
some_pins n some = ne_eqb n 0 (λ none. absurd (omega (arith, some, none)))

-- the event is the model's try of page p, which is in flight
pub record TriesPage (s : Shape) (k : History) (c p : ℕ) (w : What) : Type 0 where
  pub is : by c w ≡ try_event s k c p
  pub flies : has_page p (flight k c) ≡ true

-- a try that fits is the model's
try_of : (s : Shape) (k : History) (c p : ℕ) (w : What) (left : List ℕ) → IsLegal s k → kind_of w ≡ Try → IsInTurn w (p ∷ left) → Fits s k (by c w) → TriesPage s k c p w
try_of s k c p (what.Split q set) left legal kind turn fits =
    let same : p ≡ q = cc in
    let live = flies_live s k c q legal fits.in_flight in
    let set_is : set ≡ unused s k q = fits.set_is ∙ sym (split_releases s k c q set live.0 live.1) in
    let is : by c (what.Split q set) ≡ try_event s k c q = ap (λ x. by c (what.Split q x)) set_is ∙ sym (ap₂ (λ a b. try_as s k c q a b) fits.worth (eq-eqb (pins k q) 0 fits.unpinned)) in
    subst (λ x. TriesPage s k c x (what.Split q set)) (sym same) (record { is = is; flies = fits.in_flight })
try_of s k c p (what.Pinned q) left legal kind turn fits =
    let same : p ≡ q = cc in
    let is : by c (what.Pinned q) ≡ try_event s k c q = sym (ap₂ (λ a b. try_as s k c q a b) fits.2 (some_pins (pins k q) fits.1)) in
    subst (λ x. TriesPage s k c x (what.Pinned q)) (sym same) (record { is = is; flies = fits.0 })
try_of s k c p (what.Used q) left legal kind turn fits =
    let same : p ≡ q = cc in
    let is : by c (what.Used q) ≡ try_event s k c q = sym (ap (λ a. try_as s k c q a (nat_eq (pins k q) 0)) fits.1) in
    subst (λ x. TriesPage s k c x (what.Used q)) (sym same) (record { is = is; flies = fits.0 })
try_of s k c p w left legal kind turn fits = absurd (cc)

-- a try leaves the other pages untried
untried_of_try : (w : What) (untried : List ℕ) → kind_of w ≡ Try → untried_after w untried ≡ drop 1 untried
untried_of_try x untried kind = grind arith

-- the event returns the first page of a flight
pub record Returns (s : Shape) (k : History) (c : ℕ) (w : What) : Type 0 where
  pub page : ℕ
  pub first : slice_get (flight k c) 0 ≡ Some page
  pub is : by c w ≡ return_event s k c page

-- a return that fits is the model's
return_of : (s : Shape) (k : History) (c : ℕ) (w : What) → kind_of w ≡ Put → Fits s k (by c w) → Returns s k c w
return_of s k c x kind fits = grind (arith, return_as)

-- a return leaves the same pages untried
untried_of_put : (w : What) (untried : List ℕ) → kind_of w ≡ Put → untried_after w untried ≡ untried
untried_of_put x untried kind = grind arith

-- a call changes none
pub untried_of_call : (w : What) (o : Op) (untried : List ℕ) → kind_of w ≡ Call o → untried_after w untried ≡ untried
untried_of_call x o untried kind = grind arith

-- ---- takes

-- takes are of pages
takes_are : (c : ℕ) (es : History) → AllByRecursion (IsBy c Take) es → (ps : List ℕ) × (es ≡ takes_of c ps)
takes_are c [] all = ([], refl)
takes_are c (e ∷ es) all =
    let first = take_of e.what all.0.1 in
    let rest = takes_are c es all.1 in
    (first.0 ∷ rest.0, ap₂ (λ x xs. x ∷ xs) (event_by e c (what.Taken first.0) all.0.0 first.1) rest.1)

-- these are not tried yet
takes_turn : (c : ℕ) (untried ps : List ℕ) (more : History) → AreInTurn untried (takes_of c ps ++ more) → AreInTurn (untried ++ ps) more
takes_turn c untried [] more turn = subst (λ u. AreInTurn u more) (sym (append_none untried)) turn
takes_turn c untried (p ∷ ps) more turn = subst (λ u. AreInTurn u more) (append_assoc untried (p ∷ []) ps) (takes_turn c (untried ++ p ∷ []) ps more turn.1)

-- ---- tries

-- the first of equal lists
first_is : (left : List ℕ) (p : ℕ) (ps : List ℕ) → left ≡ p ∷ ps → slice_get left 0 ≡ Some p
first_is left p ps e = ap (λ xs. slice_get xs 0) e

module _ (s : Shape) (g : History) (c n : ℕ) (legal : IsLegal s g) (none : no_pages (flight g c) ≡ true) where
  -- the tries of the pages left, after the first i
  tries_are : (i : ℕ) (left : List ℕ) (es more : History) → drop i (take n (queue s g)) ≡ left → length es ≡ length left → AllByRecursion (IsBy c Try) es →
      IsLegal s (scan_tried s g c n i ++ (es ++ more)) → AreInTurn left (es ++ more) → (es ≡ map (try_event s g c) left) × AreInTurn [] more
  tries_are i [] [] more cut same all l turn = (refl, turn)
  tries_are i (p ∷ left) [] more cut same all l turn = absurd (omega (arith, same))
  tries_are i [] (e ∷ es) more cut same all l turn = absurd (omega (arith, same))
  tries_are i (p ∷ left) (e ∷ es) more cut same all l turn =
      let k : History = scan_tried s g c n i in
      let next : NextTry s g c n i p = scan_next_try s g c n i p legal none (first_is _ p left cut) in
      let is : e ≡ by c e.what = event_by e c e.what all.0.0 refl in
      let fits : Fits s k (by c e.what) = subst (Fits s k) is (legal_at s k e (es ++ more) l) in
      let tried : TriesPage s k c p e.what = try_of s k c p e.what left (legal_front s k (e ∷ (es ++ more)) l) all.0.1 turn.0 fits in
      let event : e ≡ try_event s g c p = is ∙ tried.is ∙ next.same in
      let on : k ++ (e ∷ (es ++ more)) ≡ scan_tried s g c n (i + 1) ++ (es ++ more) = sym (append_assoc k (e ∷ []) (es ++ more)) ∙ ap (λ x. (k ++ x ∷ []) ++ (es ++ more)) event ∙ ap (λ x. x ++ (es ++ more)) (sym next.more) in
      let rest = tries_are (i + 1) left es more ((more_taken i (take n (queue s g)) p (first_is _ p left cut)).1 ∙ ap (drop 1) cut) (omega (arith, same)) all.1
      (subst (IsLegal s) on l) (subst (λ u. AreInTurn u (es ++ more)) (untried_of_try e.what (p ∷ left) all.0.1) turn.1) in
      (ap₂ (λ x xs. x ∷ xs) event rest.0, rest.1)

-- ---- pages put back

-- the flight behind its first page
behind_first : (ps : List ℕ) (p : ℕ) → slice_get ps 0 ≡ Some p → ps ≡ p ∷ drop 1 ps
behind_first x p e = grind arith

same_returns : (s : Shape) (h k : History) (c : ℕ) → ((q : ℕ) → is_dropped s k q ≡ is_dropped s h q) → (p : ℕ) → return_event s k c p ≡ return_event s h c p
same_returns s h k c same p = ap (λ b. return_as b c p) (same p)

-- where the flight ends with them, they are those of all its pages
puts_are : (s : Shape) (h k : History) (c : ℕ) (es more : History) (untried : List ℕ) → AllByRecursion (IsBy c Put) es → IsLegal s (k ++ (es ++ more)) → flight (k ++ es) c ≡ [] →
    ((q : ℕ) → is_dropped s k q ≡ is_dropped s h q) → AreInTurn untried (es ++ more) → (es ≡ map (return_event s h c) (flight k c)) × AreInTurn untried more
puts_are s h k c [] more untried all l ends same turn = (sym (ap (map (return_event s h c)) (ap (λ x. flight x c) (sym (append_none k)) ∙ ends)), turn)
puts_are s h k c (e ∷ es) more untried all l ends same turn =
    let is : e ≡ by c e.what = event_by e c e.what all.0.0 refl in
    let fits : Fits s k (by c e.what) = subst (Fits s k) is (legal_at s k e (es ++ more) l) in
    let back : Returns s k c e.what = return_of s k c e.what all.0.1 fits in
    let event : e ≡ return_event s k c back.page = is ∙ back.is in
    let pages : flight k c ≡ back.page ∷ drop 1 (flight k c) = behind_first (flight k c) back.page back.first in
    let one : Returned s k (k ++ return_event s k c back.page ∷ []) c (back.page ∷ []) (drop 1 (flight k c)) = returns_run s k c (back.page ∷ []) (drop 1 (flight k c)) (legal_front s k (e ∷ (es ++ more)) l) pages in
    let there : Returned s k (k ++ e ∷ []) c (back.page ∷ []) (drop 1 (flight k c)) = subst (λ x. Returned s k (k ++ x ∷ []) c (back.page ∷ []) (drop 1 (flight k c))) (sym event) one in
    let rest = puts_are s h (k ++ e ∷ []) c es more untried all.1 (subst (IsLegal s) (sym (append_assoc k (e ∷ []) (es ++ more))) l) (ap (λ x. flight x c) (append_assoc k (e ∷ []) es) ∙ ends)
    (λ q. there.dropped_same q ∙ same q) (subst (λ u. AreInTurn u (es ++ more)) (untried_of_put e.what untried all.0.1) turn.1) in
    (ap₂ (λ x xs. x ∷ xs) (event ∙ same_returns s h k c same back.page) (rest.0 ∙ ap (map (return_event s h c)) there.left) ∙ sym (ap (map (return_event s h c)) pages), rest.1)

-- ---- the whole

-- the events are those of a scan of n pages by caller c
pub record ScansAs (s : Shape) (g : History) (c n : ℕ) (own : History) : Type 0 where
  pub many : length (take n (queue s g)) ≡ n
  pub back : History
  pub parts : own ≡ (take_events s g c n ++ map (try_event s g c) (take n (queue s g))) ++ back
  pub back_is : back ≡ put_back_events s (scan_taken s g c n ++ map (try_event s g c) (take n (queue s g))) c (take n (queue s g))

-- as many pages as events
as_many : (c : ℕ) (ps : List ℕ) → length (takes_of c ps) ≡ length ps
as_many c ps = length-map ps (λ p. by c (what.Taken p))

map_same : (f h : ℕ → Event) → ((p : ℕ) → f p ≡ h p) → (ps : List ℕ) → map f ps ≡ map h ps
map_same f h e [] = refl
map_same f h e (p ∷ ps) = ap₂ (λ x xs. x ∷ xs) (e p) (map_same f h e ps)

pages_none : (ps : List ℕ) → ps ≡ [] → no_pages ps ≡ true
pages_none ps e = ap no_pages e

module _ (s : Shape) (g : History) (c n : ℕ) (takes tries puts more : History) (legal : IsLegal s (g ++ (((takes ++ tries) ++ puts) ++ more))) (none : flight g c ≡ []) (ends : flight (g ++ ((takes ++ tries) ++ puts)) c ≡ []) where
  pub scans_as : length takes ≡ n → AllByRecursion (IsBy c Take) takes → length tries ≡ n → AllByRecursion (IsBy c Try) tries → AllByRecursion (IsBy c Put) puts → AreInTurn [] (((takes ++ tries) ++ puts) ++ more) →
      ScansAs s g c n ((takes ++ tries) ++ puts) × AreInTurn [] more
  scans_as many_takes by_takes many_tries by_tries by_puts turn =
      let before : IsLegal s g = legal_front s g _ legal in
      let taken = takes_are c takes by_takes in
      let all : ((takes ++ tries) ++ puts) ++ more ≡ takes ++ (tries ++ (puts ++ more)) = append_assoc (takes ++ tries) puts more ∙ append_assoc takes tries (puts ++ more) in
      let l : IsLegal s (g ++ (takes ++ (tries ++ (puts ++ more)))) = subst (λ es. IsLegal s (g ++ es)) all legal in
      let l_taken : IsLegal s ((g ++ takes) ++ (tries ++ (puts ++ more))) = subst (IsLegal s) (sym (append_assoc g takes (tries ++ (puts ++ more)))) l in
      let count : length taken.0 ≡ n = sym (as_many c taken.0) ∙ sym (ap length taken.1) ∙ many_takes in
      let pages : taken.0 ≡ take n (queue s g) = oldest s g c taken.0 (subst (λ es. IsLegal s (g ++ es)) taken.1 (legal_front s (g ++ takes) _ l_taken)) ∙ ap (λ i. take i (queue s g)) count in
      let takes_is : takes ≡ take_events s g c n = taken.1 ∙ ap (takes_of c) pages in
      let at : g ++ takes ≡ scan_taken s g c n = ap (λ es. g ++ es) takes_is in
      let free : no_pages (flight g c) ≡ true = pages_none (flight g c) none in
      let turned : AreInTurn (take n (queue s g)) (tries ++ (puts ++ more)) =
      subst (λ ps. AreInTurn ps (tries ++ (puts ++ more))) pages (takes_turn c [] taken.0 (tries ++ (puts ++ more)) (subst (λ es. AreInTurn [] (es ++ (tries ++ (puts ++ more)))) taken.1 (subst (AreInTurn []) all turn))) in
      let same_many : length tries ≡ length (take n (queue s g)) = many_tries ∙ sym count ∙ ap length pages in
      let tried = tries_are s g c n before free 0 (take n (queue s g)) tries (puts ++ more) refl same_many by_tries
      (subst (λ x. IsLegal s (x ++ (tries ++ (puts ++ more)))) (at ∙ sym (append_none (scan_taken s g c n))) l_taken) turned in
      let k : History = scan_taken s g c n ++ map (try_event s g c) (take n (queue s g)) in
      let at_tried : (g ++ takes) ++ tries ≡ k = ap₂ (λ x y. x ++ y) at tried.0 in
      let l_tried : IsLegal s (k ++ (puts ++ more)) = subst (λ x. IsLegal s (x ++ (puts ++ more))) at_tried (subst (IsLegal s) (sym (append_assoc (g ++ takes) tries (puts ++ more))) l_taken) in
      let end : flight (k ++ puts) c ≡ [] = ap (λ x. flight x c) (ap (λ x. x ++ puts) (sym at_tried) ∙ ap (λ x. x ++ puts) (append_assoc g takes tries) ∙ append_assoc g (takes ++ tries) puts) ∙ ends in
      let returned = puts_are s k k c puts more [] by_puts l_tried end (λ q. refl) tried.1 in
      let flies : flight (scan_taken s g c n) c ≡ take n (queue s g) = (take_runs s g c n before free).joined ∙ ap (λ x. x ++ take n (queue s g)) none in
      let t : TakesLeave s g (scan_taken s g c n) c = takes_leave s g c (take n (queue s g)) in
      let left = all_tried s (scan_taken s g c n) k c (take n (queue s g)) (take_runs s g c n before free).legal flies
      (ap (λ es. scan_taken s g c n ++ es) (map_same (try_event s g c) (try_event s (scan_taken s g c n) c) (λ q. sym (t.tries q)) (take n (queue s g)))) in (
        record {
          many = ap length (sym pages) ∙ count;
          back = puts;
          parts = ap₂ (λ x y. (x ++ y) ++ puts) takes_is tried.0;
          back_is = returned.0 ∙ ap (map (return_event s k c)) (left.front ∙ append_none (still_flying k c (take n (queue s g))));
        },
        returned.1,
      )
