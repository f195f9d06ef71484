-- How a scan goes on from step to step.
use Rattle.std.proofs.Common.{◌≡◌, ℕ, ◌+◌, ◌<◌, ◌≤◌, Bool, true, false, cond, List, [], ◌∷◌, ◌++◌, length, map, ◌==◌, refl, inl, inr, arith, Option, Some, None, Ok, Err, length-append, All, filter, nat_eq, eq-eqb, ne_eqb, length-drop, length-take, eqb-true}
use Rattle.std.proofs.lemmas.List.{append-nil, map-append, length-map}
use Rattle.std.proofs.lemmas.List.Elements.{All-nil, All-head, All-tail, All-push, filter-append}
use Rattle.std.specs.List.{find, after_first, position_or_len}
use Rattle.thp_history.specs.Prelude.{max_batch, History, next_page, rest_after}
use Rattle.thp_history.specs.declared.events.Event.{Event}
use Rattle.thp_history.specs.declared.shape.Shape.{Shape}
use Rattle.thp_node.specs.Prelude.{tried}
use Rattle.thp_node.specs.declared.answers.Tried.{Tried}
use Rattle.thp_node.specs.declared.answers.Tried.TheVariants as try
use Rattle.thp_node.specs.declared.answers.ScanReply.{ScanReply}
use Rattle.thp_script.specs.declared.script.Op.{Op}
use Rattle.thp_script.specs.declared.script.Op.TheVariants as op
use Rattle.thp_worker.specs.Prelude.{Step, Take, SplitNext, PutBack, CommandProgress, Open, Reaction, Does, IsFit, StepAnswer, Turned, IsProgressAfter, StepReacts, Reacts, first_step, next_step, scan_step, goes_on, scan_goes_on, no_progress, counted, took, answered_try, if_done, FoundPage, is_split_try, is_pinned_try, is_used_try, tries_so_far, IsReady, StaysReady}
use Rattle.thp_worker.specs.declared.reply.Reply.TheVariants as reply

-- the first step of a scan
first_turned : (n : ℕ) (answer : Reaction) → StepReacts (Take n) answer → Turned (op.Scan n) (record { step = Take n; answer = answer } ∷ []) (scan_goes_on no_progress answer)
first_turned n (Err why) h = inr (record { why = why; steps = refl; answered = refl })
first_turned n (Ok (reply.Taken t)) h = record {
  count = refl;
  so_far = inr (record { count = n; is_scan = refl; taken = t; tries = []; pages = All-nil FoundPage; done = false; steps = refl; counts = refl });
}
first_turned n (Ok _) h = absurd h

-- each page that was tried was split, pinned or in use
counts_tries : (tries : List Tried) → All FoundPage tries → length (filter is_split_try tries) + length (filter is_pinned_try tries) + length (filter is_used_try tries) ≡ length tries
counts_tries [] all = refl
counts_tries (try.Split p ∷ tries) all = let more = counts_tries tries (All-tail FoundPage (try.Split p) tries all) in omega arith
counts_tries (try.Pinned p ∷ tries) all = let more = counts_tries tries (All-tail FoundPage (try.Pinned p) tries all) in omega arith
counts_tries (try.Used p ∷ tries) all = let more = counts_tries tries (All-tail FoundPage (try.Used p) tries all) in omega arith
counts_tries (try.Done ∷ tries) all = absurd (All-head FoundPage try.Done tries all)

step_is_try : (n steps tries : ℕ) → steps ≡ 1 + tries → scan_step n steps tries ≡ SplitNext
step_is_try n steps tries e = grind (arith, ne_eqb, eq-eqb)

step_is_back : (n steps tries : ℕ) → steps ≡ 2 + tries → scan_step n steps tries ≡ PutBack
step_is_back n steps tries e = grind (arith, ne_eqb)

counts_push : (test : Tried → Bool) (tries : List Tried) (t : Tried) → length (filter test (tries ++ t ∷ [])) ≡ length (filter test tries) + length (filter test (t ∷ []))
counts_push test tries t = rw (filter-append test tries (t ∷ [])) (length-append (filter test tries) (filter test (t ∷ [])))

-- one try more, of a page
page_turned : (n taken : ℕ) (tries : List Tried) (begun : CommandProgress) (reported : List StepAnswer) (t : Tried) (so_far : ScanReply) → All FoundPage tries → FoundPage t → begun.steps ≡ length reported
    → reported ≡ took n taken ∷ map answered_try tries ++ [] → so_far ≡ counted taken (tries ++ t ∷ []) → IsProgressAfter (op.Scan n) (reported ++ answered_try t ∷ []) (record { steps = begun.steps + 1; so_far = so_far })
page_turned n taken tries begun reported t so_far pages page count steps counts = record {
  count = rw (length-append reported (answered_try t ∷ []), count) refl;
  so_far = inr (record {
    count = n;
    is_scan = refl;
    taken = taken;
    tries = tries ++ t ∷ [];
    pages = All-push FoundPage tries t pages page;
    done = false;
    steps = rw (steps, map-append answered_try tries (t ∷ []), append-nil (map answered_try tries), append-nil (map answered_try tries ++ answered_try t ∷ [])) refl;
    counts = counts;
  });
}

-- a step behind some tries
try_turned : (n taken : ℕ) (tries : List Tried) (begun : CommandProgress) (reported : List StepAnswer) (answer : Reaction) → All FoundPage tries → begun.steps ≡ length reported → reported ≡ took n taken ∷ map answered_try tries ++ []
    → begun.so_far ≡ counted taken tries → StepReacts SplitNext answer → Turned (op.Scan n) (reported ++ record { step = SplitNext; answer = answer } ∷ []) (scan_goes_on begun answer)
try_turned n taken tries begun reported (Err why) pages count steps counts h = absurd h
try_turned n taken tries begun reported (Ok (reply.Tried (try.Split p))) pages count steps counts h =
    let splits : length (filter is_split_try tries) + 1 ≡ length (filter is_split_try (tries ++ try.Split p ∷ [])) = omega (arith, counts_push is_split_try tries (try.Split p)) in
    let pins : length (filter is_pinned_try tries) ≡ length (filter is_pinned_try (tries ++ try.Split p ∷ [])) = omega (arith, counts_push is_pinned_try tries (try.Split p)) in
    let uses : length (filter is_used_try tries) ≡ length (filter is_used_try (tries ++ try.Split p ∷ [])) = omega (arith, counts_push is_used_try tries (try.Split p)) in
    page_turned n taken tries begun reported (try.Split p) _ pages tt count steps (rw counts (λ i. record { taken = taken; split = splits i; pinned = pins i; back = 0; dropped = 0; used = uses i }))
try_turned n taken tries begun reported (Ok (reply.Tried (try.Pinned p))) pages count steps counts h =
    let splits : length (filter is_split_try tries) ≡ length (filter is_split_try (tries ++ try.Pinned p ∷ [])) = omega (arith, counts_push is_split_try tries (try.Pinned p)) in
    let pins : length (filter is_pinned_try tries) + 1 ≡ length (filter is_pinned_try (tries ++ try.Pinned p ∷ [])) = omega (arith, counts_push is_pinned_try tries (try.Pinned p)) in
    let uses : length (filter is_used_try tries) ≡ length (filter is_used_try (tries ++ try.Pinned p ∷ [])) = omega (arith, counts_push is_used_try tries (try.Pinned p)) in
    page_turned n taken tries begun reported (try.Pinned p) _ pages tt count steps (rw counts (λ i. record { taken = taken; split = splits i; pinned = pins i; back = 0; dropped = 0; used = uses i }))
try_turned n taken tries begun reported (Ok (reply.Tried (try.Used p))) pages count steps counts h =
    let splits : length (filter is_split_try tries) ≡ length (filter is_split_try (tries ++ try.Used p ∷ [])) = omega (arith, counts_push is_split_try tries (try.Used p)) in
    let pins : length (filter is_pinned_try tries) ≡ length (filter is_pinned_try (tries ++ try.Used p ∷ [])) = omega (arith, counts_push is_pinned_try tries (try.Used p)) in
    let uses : length (filter is_used_try tries) + 1 ≡ length (filter is_used_try (tries ++ try.Used p ∷ [])) = omega (arith, counts_push is_used_try tries (try.Used p)) in
    page_turned n taken tries begun reported (try.Used p) _ pages tt count steps (rw counts (λ i. record { taken = taken; split = splits i; pinned = pins i; back = 0; dropped = 0; used = uses i }))
try_turned n taken tries begun reported (Ok (reply.Tried try.Done)) pages count steps counts h = record {
  count = rw (length-append reported (answered_try try.Done ∷ []), count) refl;
  so_far = inr (record {
    count = n;
    is_scan = refl;
    taken = taken;
    tries = tries;
    pages = pages;
    done = true;
    steps = rw (steps, append-nil (map answered_try tries)) refl;
    counts = counts;
  });
}
try_turned n taken tries begun reported (Ok _) pages count steps counts h = absurd h

-- the put-back
back_turned : (n taken : ℕ) (tries : List Tried) (begun : CommandProgress) (reported : List StepAnswer) (answer : Reaction) → All FoundPage tries → reported ≡ took n taken ∷ map answered_try tries ++ answered_try try.Done ∷ []
    → begun.so_far ≡ counted taken tries → StepReacts PutBack answer → Turned (op.Scan n) (reported ++ record { step = PutBack; answer = answer } ∷ []) (scan_goes_on begun answer)
back_turned n taken tries begun reported x pages steps counts h = grind arith

scanning_turned : (n : ℕ) (begun : CommandProgress) (answer : Reaction) (reported : List StepAnswer) (taken : ℕ) (tries : List Tried) (done : Bool) → All FoundPage tries → begun.steps ≡ length reported
    → reported ≡ took n taken ∷ map answered_try tries ++ if_done done → begun.so_far ≡ counted taken tries → StepReacts (next_step (op.Scan n) begun) answer
    → Turned (op.Scan n) (reported ++ record { step = next_step (op.Scan n) begun; answer = answer } ∷ []) (scan_goes_on begun answer)
scanning_turned n begun answer reported taken tries x pages count steps counts reacts = grind (arith, append-nil, length-map, counts_tries, step_is_try, try_turned, length-append, step_is_back, back_turned)

same_count : (n m : ℕ) → op.Scan n ≡ op.Scan m → n ≡ m
same_count n m e = cc

turned_by : (n : ℕ) (begun : CommandProgress) (answer : Reaction) (reported : List StepAnswer) → IsProgressAfter (op.Scan n) reported begun → StepReacts (next_step (op.Scan n) begun) answer
    → Turned (op.Scan n) (reported ++ record { step = next_step (op.Scan n) begun; answer = answer } ∷ []) (scan_goes_on begun answer)
turned_by n begun answer reported is reacts =
    elim is.so_far [
      | inl none ↦
          let at : StepReacts (next_step (op.Scan n) no_progress) answer = rw none.1 at reacts in
          rw (none.0, none.1) (first_turned n answer at)
      | inr s ↦
          let same : n ≡ s.count = same_count n s.count s.is_scan in
          scanning_turned n begun answer reported s.taken s.tries s.done s.pages is.count (rw same s.steps) s.counts reacts
    ]

single : (o : Op) (begun : CommandProgress) (reported : List StepAnswer) (answer : Reaction) → ((n : ℕ) → o ≡ op.Scan n → ⊥) → IsProgressAfter o reported begun → reported ++ record { step = first_step o; answer = answer } ∷ [] ≡ record { step = first_step o; answer = answer } ∷ []
single o begun reported answer other is = elim is.so_far [ inl none ↦ rw none.0 refl | inr s ↦ absurd (other s.count s.is_scan) ]

-- one step more
pub turned : (o : Op) (begun : CommandProgress) (answer : Reaction) (reported : List StepAnswer) → IsProgressAfter o reported begun → Reacts o begun answer → Turned o (reported ++ record { step = next_step o begun; answer = answer } ∷ []) (goes_on o begun answer)
turned (op.Scan n) begun answer reported is reacts = turned_by n begun answer reported is reacts
turned o begun answer reported is reacts = single o begun reported answer (λ n e. cc) is

-- ---- what a step leaves the next one

some_left : (test : ℕ → Bool) (xs : List ℕ) (p : ℕ) → find test xs ≡ Some p → 0 < length xs
some_left test [] p e = absurd (cc)
some_left test (x ∷ xs) p e = omega arith

-- what is left behind the page that is tried
left_after : (test : ℕ → Bool) (xs : List ℕ) → length (after_first test xs) ≤ length xs
left_after test xs = omega (arith, length-drop (position_or_len test xs + 1) xs)

fewer_after : (test : ℕ → Bool) (xs : List ℕ) (p : ℕ) → find test xs ≡ Some p → length (after_first test xs) < length xs
fewer_after test xs p e = omega (arith, length-drop (position_or_len test xs + 1) xs, some_left test xs p e)

-- a try leaves the scan ready
try_ready : (s : Shape) (h : History) (page : Option ℕ) (begun : CommandProgress) (pages left behind : List ℕ) → begun.steps ≡ 1 + tries_so_far begun.so_far → tries_so_far begun.so_far + length left ≤ max_batch
    → length behind ≤ length left → ((p : ℕ) → page ≡ Some p → length behind < length left) → StaysReady (Some (record { pages = pages; left = behind })) (scan_goes_on begun (Ok (reply.Tried (tried s h page))))
try_ready s h x begun pages left behind at few less fewer = grind (arith, nat_eq)

-- what a step of a scan is answered, and how it leaves the scan
abbrev Fares : Step → CommandProgress → Reaction → Option Open → Type 0
Fares step begun answer after = StepReacts step answer × StaysReady after (scan_goes_on begun answer)

take_fares : (s : Shape) (h : History) (c n : ℕ) (batch : Option Open) (begun : CommandProgress) (own : List Event) (answer : Reaction) (after : Option Open) → n ≤ max_batch → (batch ≡ None → begun ≡ no_progress) → Does s h c batch (Take n) own answer after → Fares (Take n) begun answer after
unfolding Does
take_fares s h c n x begun own answer after le first does = grind (arith, length-take)

next_fares : (s : Shape) (h : History) (c : ℕ) (b : Open) (begun : CommandProgress) (own : List Event) (answer : Reaction) (after : Option Open) → begun.steps ≡ 1 + tries_so_far begun.so_far → tries_so_far begun.so_far + length b.left ≤ max_batch
    → Does s h c (Some b) SplitNext own answer after → Fares SplitNext begun answer after
unfolding Does
next_fares s h c b begun own answer after at few does =
    rw (does.1, does.2) (tt, try_ready s h (next_page h c b.left) begun b.pages b.left (rest_after h c b.left) at few (left_after _ b.left) (λ p e. fewer_after _ b.left p e))

back_fares : (s : Shape) (h : History) (c : ℕ) (b : Open) (begun : CommandProgress) (own : List Event) (answer : Reaction) (after : Option Open) → Does s h c (Some b) PutBack own answer after → Fares PutBack begun answer after
unfolding Does
back_fares s h c b begun own answer after does = rw does.1 (tt, tt)

scan_fares : (s : Shape) (h : History) (c n : ℕ) (batch : Option Open) (begun : CommandProgress) (own : List Event) (answer : Reaction) (after : Option Open) → n ≤ max_batch → IsReady batch begun → Does s h c batch (next_step (op.Scan n) begun) own answer after
    → Fares (next_step (op.Scan n) begun) begun answer after
scan_fares s h c n batch begun own answer after le ready does =
    elim ready [
      | inl first ↦
          let at : Does s h c batch (Take n) own answer after = rw first at does in
          let fares : Fares (Take n) no_progress answer after = take_fares s h c n batch no_progress own answer after le (λ e. refl) at in
          rw first fares
      | inr holds ↦
          let tries : ℕ = tries_so_far begun.so_far in
          let at : Does s h c (Some holds.open_batch) (scan_step n begun.steps tries) own answer after = rw holds.is at does in
          by_place holds.open_batch holds.few (begun.steps == 0) (begun.steps == 1 + tries) refl at
    ]
  where
    by_place : (b : Open) → tries_so_far begun.so_far + length b.left ≤ max_batch → (first next : Bool) → (begun.steps == 1 + tries_so_far begun.so_far) ≡ next → Does s h c (Some b) (cond first (Take n) (cond next SplitNext PutBack)) own answer after
        → Fares (cond first (Take n) (cond next SplitNext PutBack)) begun answer after
    by_place b few true next e d = take_fares s h c n (Some b) begun own answer after le (λ f. absurd (cc)) d
    by_place b few false true e d = next_fares s h c b begun own answer after (eqb-true begun.steps (1 + tries_so_far begun.so_far) e) few d
    by_place b few false false e d = back_fares s h c b begun own answer after d

-- a step of a command, and how it leaves the command
pub fares : (s : Shape) (h : History) (c : ℕ) (o : Op) (batch : Option Open) (begun : CommandProgress) (own : List Event) (answer : Reaction) (after : Option Open) → IsFit o → IsReady batch begun → Does s h c batch (next_step o begun) own answer after
    → Reacts o begun answer × StaysReady after (goes_on o begun answer)
fares s h c x batch begun own answer after fit ready does = grind (arith, scan_fares)
