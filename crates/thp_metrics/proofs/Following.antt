-- What is kept of a node, with one more event.
use Rattle.std.proofs.Common.{◌≡◌, ℕ, ◌+◌, ◌^◌, ◌<◌, Bool, true, false, cond, List, [], ◌∷◌, ◌++◌, Option, Some, None, length, map, take, get_or, set, zero, suc, ◌-◌, nat_eq, nat_lt, refl, ap, sym, ◌∙◌, subst, arith, length-append, replicate, ◌≢◌, eq-eqb, eqb-true, ltb-false, ltb-true, option_and_then}
use Rattle.std.specs.List.{range_with_len}
use Rattle.std.proofs.lemmas.List.{ext_get_or, get_or-set_other, get_or-set_same, length-set, same_lists, take_all, take-append-le}
use Rattle.std.proofs.lemmas.List.FromFn.{get_or-map-range_with_len, length-map-range_with_len, map-range_with_len_more}
use Rattle.thp_history.specs.declared.events.Event.{Event}
use Rattle.thp_history.specs.declared.shape.Shape.{Shape}
use Rattle.thp_history.specs.Prelude.{allocations, is_live, thp_split_page, thp_split_page_failed, thp_underused_split_page, frames_given, frames_held, History, count_of, some_event, Fits, IsLegal, queue, sum_below}
use Rattle.thp_history.proofs.Alive.{legal_grown}
use Rattle.thp_history.proofs.LegalSteps.{legal_none, legal_push}
use Rattle.thp_history.proofs.Numbers.{live_below}
use Rattle.thp_history.proofs.Totals.{few_events}
use Rattle.thp_check.specs.Prelude.{Replayed, replayed_with}
use Rattle.thp_metrics.specs.Prelude.{Numbers, Stage, Allocated, PartlyMapped, Queued, InBatch, Split, stage_count, entered, left, rank, staged, GoesAlong, MayEnter, MayLeave, numbers_at, series, pages_at, pages_in, stage_of, stages_at, callers_at, longest_wait}
use Rattle.thp_journal_writer.specs.Prelude.{event_page}
use Rattle.thp_metrics.proofs.Batches.{in_batches_are}
use Rattle.thp_metrics.proofs.Moving.{count_moves, count_stays, none_named, not_named, no_more, one, part_of, stage_stays}

-- the numbers behind one more event stand behind the others
pub series_push : (s : Shape) (h : History) (e : Event) → series s (h ++ e ∷ []) ≡ series s h ++ numbers_at s (h ++ e ∷ []) ∷ []
series_push s h e =
    let k : History = h ++ e ∷ [] in
    let n : ℕ = length h + 1 in
    let at : ℕ → Numbers = λ i. numbers_at s (take i k) in
    let count : length k ≡ n = length-append h (e ∷ []) in
    let front : map at (range_with_len 0 n) ≡ series s h =
    same_lists (map at (range_with_len 0 n)) (series s h)
    (length-map-range_with_len at 0 n ∙ sym (length-map-range_with_len (λ i. numbers_at s (take i h)) 0 n))
    (λ i d below.
    let low : i < n = omega (arith, below, length-map-range_with_len at 0 n) in
    get_or-map-range_with_len at 0 n i i d low (omega arith)
    ∙ ap (λ j. numbers_at s j) (take-append-le i h (e ∷ []) (omega (arith, low)))
    ∙ sym (get_or-map-range_with_len (λ j. numbers_at s (take j h)) 0 n i i d low (omega arith))) in
    ap (λ m. map at (range_with_len 0 (m + 1))) count
    ∙ map-range_with_len_more at 0 n n (omega arith)
    ∙ ap (λ ns. ns ++ at n ∷ []) front
    ∙ ap (λ j. series s h ++ numbers_at s j ∷ []) (take_all n k (omega (arith, count)))

pub length_of_series : (s : Shape) (h : History) → length (series s h) ≡ length h + 1
length_of_series s h = length-map-range_with_len (λ i. numbers_at s (take i h)) 0 (length h + 1)

-- numbers are determined by the parts
pub numbers_are : (s : Shape) (h : History) (n : Numbers) → IsLegal s h → n.queue ≡ length (queue s h) → n.in_batches ≡ stage_count n.pages InBatch → n.held ≡ frames_held s h → n.given ≡ frames_given h
    → n.splits ≡ thp_split_page h → n.underused_splits ≡ thp_underused_split_page s h → n.pinned_tries ≡ thp_split_page_failed h → n.wait ≡ longest_wait s h → n.callers ≡ callers_at h → n.pages ≡ pages_at s h → n.stages ≡ stages_at s h → n ≡ numbers_at s h
numbers_are s h n l a b c d e f g o u i j = grind (arith, in_batches_are)

count_at : (s : Shape) (h : History) (x : Stage) → stage_count (pages_at s h) x ≡ pages_in s h x
count_at s h Allocated = refl
count_at s h PartlyMapped = refl
count_at s h Queued = refl
count_at s h InBatch = refl
count_at s h Split = refl

length_left : (n : List ℕ) (o : Option Stage) → length (left n o) ≡ length n
length_left n None = refl
length_left n (Some x) = length-set n (rank x) (stage_count n x - 1)

length_entered : (n : List ℕ) (o : Option Stage) → length (entered n o) ≡ length n
length_entered n None = refl
length_entered n (Some x) = length-set n (rank x) (stage_count n x + 1)

-- a page that leaves was counted
count_left : (n : List ℕ) (x : Stage) (o : Option Stage) → length n ≡ 5 → MayLeave n o → stage_count (left n o) x + one x o ≡ stage_count n x
count_left n x y size may = grind (arith, get_or-set_same, get_or-set_other)

count_entered : (n : List ℕ) (x : Stage) (o : Option Stage) → length n ≡ 5 → stage_count (entered n o) x ≡ stage_count n x + one x o
count_entered n x y size = grind (arith, get_or-set_same, get_or-set_other)

same_pages : (n m : List ℕ) → length n ≡ 5 → length m ≡ 5 → ((x : Stage) → stage_count n x ≡ stage_count m x) → n ≡ m
same_pages n m size other same = ext_get_or 0 n m (size ∙ sym other) (λ i low. at i (omega (arith, low, size))) where
  at : (i : ℕ) → i < 5 → get_or n i 0 ≡ get_or m i 0
  at zero low = same Allocated
  at (suc zero) low = same PartlyMapped
  at (suc (suc zero)) low = same Queued
  at (suc (suc (suc zero))) low = same InBatch
  at (suc (suc (suc (suc zero)))) low = same Split
  at (suc (suc (suc (suc (suc i))))) low = absurd (omega (arith, low))

live_of : (s : Shape) (h : History) (p : ℕ) (x : Stage) → stage_of s h p ≡ Some x → is_live h p ≡ true
live_of s h p x e = grind arith

is_itself : (x : Stage) → one x (Some x) ≡ 1
is_itself x = grind arith

some_in : (s : Shape) (h : History) (p : ℕ) (x : Stage) → IsLegal s h → stage_of s h p ≡ Some x → 0 < pages_in s h x
some_in s h p x l e =
    let below : p < allocations h = live_below h p (legal_grown s h l).numbered (live_of s h p x e) in
    let here : one x (stage_of s h p) ≡ 1 = ap (one x) e ∙ is_itself x in
    omega (arith, here, part_of (allocations h) (λ i. one x (stage_of s h i)) p below)

pub may_leave : (s : Shape) (h : History) (n : List ℕ) (o : Option Stage) (page : Option ℕ) → IsLegal s h → n ≡ pages_at s h → o ≡ option_and_then (stage_of s h) page → MayLeave n o
may_leave s h n x page l same is = grind (arith, count_at, some_in)

pub may_enter : (s : Shape) (h : History) (n m : List ℕ) (o u : Option Stage) → n ≡ pages_at s h → length h + 1 < 2 ^ 64 → MayLeave n o → m ≡ left n o → MayEnter m u
may_enter s h n m o x same few may is = grind (arith, count_left, count_at, no_more, few_events)

-- how many pages are in each stage, with one more event
pages_push : (s : Shape) (h : History) (e : Event) (n : List ℕ) (o u : Option Stage) → IsLegal s h → Fits s h e → n ≡ pages_at s h → MayLeave n o → o ≡ option_and_then (stage_of s h) (event_page e.what) → u ≡ option_and_then (stage_of s (h ++ e ∷ [])) (event_page e.what) →
    entered (left n o) u ≡ pages_at s (h ++ e ∷ [])
pages_push s h e n o u l f same may before after = same_pages (entered (left n o) u) (pages_at s k) (length_entered (left n o) u ∙ left_size) refl (λ x.
    omega (arith, count_entered (left n o) x u left_size, count_left n x o size may, ap (λ (m : List ℕ). stage_count m x) same, count_at s h x, count_at s k x, ap (one x) before, ap (one x) after, by_page x (event_page e.what) refl)) where
      k : History
      k = h ++ e ∷ []

      size : length n ≡ 5
      size = ap length same

      left_size : length (left n o) ≡ 5
      left_size = length_left n o ∙ size

      by_page : (x : Stage) (page : Option ℕ) → event_page e.what ≡ page → pages_in s k x + one x (option_and_then (stage_of s h) page) ≡ pages_in s h x + one x (option_and_then (stage_of s k) page)
      by_page x (Some p) is = count_moves s h e.caller e.what p x l f is
      by_page x None is = ap (λ i. i + 0) (count_stays s h e x f is)

-- the stages of the pages that were allocated first, with one more event
same_stages : (f g : ℕ → Option Stage) → ((i : ℕ) → i < 60 → f i ≡ g i) → map f (range_with_len 0 60) ≡ map g (range_with_len 0 60)
same_stages f g same = grind (arith, ext_get_or, length-map-range_with_len, get_or-map-range_with_len)

one_staged : (f g : ℕ → Option Stage) (p : ℕ) → p < 60 → ((i : ℕ) → (i ≢ p) → f i ≡ g i) → set (map f (range_with_len 0 60)) p (g p) ≡ map g (range_with_len 0 60)
one_staged f g p inside same =
    let count : length (map f (range_with_len 0 60)) ≡ 60 = length-map-range_with_len f 0 60 in
    let still : length (set (map f (range_with_len 0 60)) p (g p)) ≡ 60 = length-set (map f (range_with_len 0 60)) p (g p) ∙ count in
    ext_get_or None (set (map f (range_with_len 0 60)) p (g p)) (map g (range_with_len 0 60)) (still ∙ sym (length-map-range_with_len g 0 60))
    (λ i low.
    let below : i < 60 = omega (arith, low, still) in
    place i below (nat_eq i p) refl ∙ sym (get_or-map-range_with_len g 0 60 i i None below (omega arith)))
  where
    place : (i : ℕ) → i < 60 → (b : Bool) → nat_eq i p ≡ b → get_or (set (map f (range_with_len 0 60)) p (g p)) i None ≡ g i
    place i below true e =
        let is : i ≡ p = eqb-true i p e in
        rw is (get_or-set_same (map f (range_with_len 0 60)) p (g p) None (omega (arith, inside, length-map-range_with_len f 0 60)))
    place i below false e =
        let other : i ≢ p = λ z. absurd (let yes : nat_eq i p ≡ true = eq-eqb i p z in cc) in
        get_or-set_other (map f (range_with_len 0 60)) p i (g p) None other ∙ get_or-map-range_with_len f 0 60 i i None below (omega arith) ∙ same i other

stages_push : (s : Shape) (h : History) (e : Event) (ss : List (Option Stage)) (u : Option Stage) → Fits s h e → ss ≡ stages_at s h → u ≡ option_and_then (stage_of s (h ++ e ∷ [])) (event_page e.what) →
    staged ss (event_page e.what) u ≡ stages_at s (h ++ e ∷ [])
stages_push s h e ss u f same after = ap (λ xs. staged xs (event_page e.what) u) same ∙ ap (staged (stages_at s h) (event_page e.what)) after ∙ by_page (event_page e.what) refl where
  k : History
  k = h ++ e ∷ []

  by_page : (page : Option ℕ) → event_page e.what ≡ page → staged (stages_at s h) page (option_and_then (stage_of s k) page) ≡ stages_at s k
  by_page None is = same_stages (stage_of s h) (stage_of s k) (λ i low. sym (stage_stays s h e i f (none_named e.what i is)))
  by_page (Some p) is = inside (nat_lt p 60) refl where
    others : (i : ℕ) → (i ≢ p) → stage_of s h i ≡ stage_of s k i
    others i n = sym (stage_stays s h e i f (not_named e.what p i is n))

    inside : (b : Bool) → nat_lt p 60 ≡ b → cond b (set (stages_at s h) p (stage_of s k p)) (stages_at s h) ≡ stages_at s k
    inside true low = one_staged (stage_of s h) (stage_of s k) p (ltb-true p 60 low) others
    inside false high = same_stages (stage_of s h) (stage_of s k) (λ i low. others i (λ z. omega (arith, z, low, ltb-false p 60 high)))

pub goes_on : (r t : Replayed) (e : Event) (m v : List ℕ) (ss : List (Option Stage)) (cs ds : List Numbers) (old new : Numbers) (o u : Option Stage) → GoesAlong r old cs → t ≡ replayed_with r e → Fits r.shape r.history e →
    MayLeave old.pages o → o ≡ option_and_then (stage_of r.shape r.history) (event_page e.what) → u ≡ option_and_then (stage_of t.shape t.history) (event_page e.what) →
    m ≡ left old.pages o → v ≡ entered m u → ss ≡ staged old.stages (event_page e.what) u → (IsLegal t.shape t.history → v ≡ pages_at t.shape t.history → ss ≡ stages_at t.shape t.history → new ≡ numbers_at t.shape t.history) → ds ≡ cs ++ new ∷ [] → GoesAlong t new ds
goes_on r t e m v ss cs ds old new o u along is f may before after leaves enters stages reported more =
    let s : Shape = r.shape in
    let h : History = r.history in
    let legal : IsLegal s (h ++ e ∷ []) = legal_push s h e along.legal f in
    let pages : v ≡ pages_at s (h ++ e ∷ []) =
    enters ∙ ap (λ (k : List ℕ). entered k u) leaves
    ∙ pages_push s h e old.pages o u along.legal f (ap (λ (n : Numbers). n.pages) along.numbers_are) may before (after ∙ ap (λ (x : Replayed). option_and_then (stage_of x.shape x.history) (event_page e.what)) is) in
    let staged_are : ss ≡ stages_at s (h ++ e ∷ []) =
    stages ∙ stages_push s h e old.stages u f (ap (λ (n : Numbers). n.stages) along.numbers_are) (after ∙ ap (λ (x : Replayed). option_and_then (stage_of x.shape x.history) (event_page e.what)) is) in
    let numbers_is : new ≡ numbers_at s (h ++ e ∷ []) =
    subst (λ (x : Replayed). IsLegal x.shape x.history → v ≡ pages_at x.shape x.history → ss ≡ stages_at x.shape x.history → new ≡ numbers_at x.shape x.history) is reported legal pages staged_are in
    subst (λ (x : Replayed). GoesAlong x new ds) (sym is) (record {
      legal = legal;
      numbers_are = numbers_is;
      columns_are = more ∙ ap (λ ns. ns ++ new ∷ []) along.columns_are ∙ ap (λ x. series s h ++ x ∷ []) numbers_is ∙ sym (series_push s h e);
    })

pub begins_along : (r : Replayed) (n : List ℕ) (ss : List (Option Stage)) (cs : List Numbers) (numbers : Numbers) → r.history ≡ [] → n ≡ replicate 5 0 →
    ss ≡ replicate 60 None → (IsLegal r.shape r.history → n ≡ pages_at r.shape r.history → ss ≡ stages_at r.shape r.history → numbers ≡ numbers_at r.shape r.history) → cs ≡ numbers ∷ [] → GoesAlong r numbers cs
unfolding count_of sum_below some_event
begins_along r n ss cs numbers none no_page no_stage reported is =
    let P : History → Type 0 = λ h. (IsLegal r.shape h → n ≡ pages_at r.shape h → ss ≡ stages_at r.shape h → numbers ≡ numbers_at r.shape h) → GoesAlong (record { shape = r.shape; history = h }) numbers cs in
    subst P (sym none) (λ reported. record {
      legal = legal_none r.shape;
      numbers_are = reported (legal_none r.shape) no_page no_stage;
      columns_are = is ∙ ap (λ x. x ∷ []) (reported (legal_none r.shape) no_page no_stage);
    }) reported

pub same_replays : (r t : Replayed) → r.shape ≡ t.shape → r.history ≡ t.history → r ≡ t
same_replays r t shapes events = grind arith
