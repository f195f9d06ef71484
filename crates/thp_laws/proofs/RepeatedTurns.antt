-- A run of a script that repeats histories, step by step: each command records what it repeats.
use Rattle.std.proofs.Common.{◌≡◌, ◌+◌, ◌⊎◌, ℕ, Bool, true, false, cond, not, nat_eq, List, [], ◌∷◌, ◌++◌, map, take, drop, length, Option, Some, None, Ok, Err, inl, inr, refl, ap, sym, subst, ◌∙◌, append_assoc, eq-eqb, slice_get, ne_eqb, take-append-drop}
use Rattle.std.specs.List.{after_first, AllByRecursion}
use Rattle.std.proofs.lemmas.List.Elements.{recursion_from_All}
use Rattle.thp_history.specs.declared.refusal.Refusal.TheVariants as reason
use Rattle.thp_history.specs.declared.shape.Shape.{Shape}
use Rattle.thp_history.specs.Prelude.{SameButBlocks, pins, History, Fits, IsLegal, flight, has_page, no_pages, queue, refusal, next_page, put_back_events, rest_after, still_flying, take_events, tries_of, try_event, is_worth_split}
use Rattle.thp_history.specs.Refusals as call
use Rattle.thp_history.proofs.LegalSteps.{legal_front, legal_push}
use Rattle.thp_history.proofs.ListPlaces.{append_none}
use Rattle.thp_history.proofs.ScanRuns.{NextTry, scan_next_try, scan_taken, scan_tried}
use Rattle.thp_history.proofs.TakeRuns.{more_taken, take_runs}
use Rattle.thp_history.proofs.TryRuns.{try_fits}
use Rattle.thp_node.specs.Prelude.{back_reply, tried as answer_to}
use Rattle.thp_node.specs.declared.answers.BackReply.{BackReply}
use Rattle.thp_node.specs.declared.answers.Tried.{Tried}
use Rattle.thp_node.specs.declared.answers.Tried.TheVariants as tried
use Rattle.thp_worker.specs.declared.reply.Reply.TheVariants as reply
use Rattle.thp_worker.specs.declared.steps.Step.{Step}
use Rattle.thp_worker.specs.declared.steps.Step.TheVariants.{PutBack, SplitNext, Take}
use Rattle.thp_worker.specs.Prelude.{Does, Open, Reaction, batches_after, step_results, with_batch, Made, answered_put_back, answered_try, took, FoundPage, ScanDone, ScanRefused, StepAnswer}
use Rattle.thp_laws.specs.OneStep.{IsSameStep}
use Rattle.thp_laws.proofs.RepeatedCalls.{not_refused}
use Rattle.thp_laws.proofs.RepeatedScans.{ScansAs}
use Rattle.thp_laws.proofs.SameSteps.{one_step}
use Rattle.thp_laws.proofs.SameTurns.{first_reported, none_reported, more_reported, tries_reported, IsOn}
use Rattle.thp_laws.proofs.SideBySide.{same_append}
use Rattle.thp_laws.proofs.Walks.{does_next, front_after, legal_after, walk_on, Walk}

module _ (shape : ℕ → Shape) (made : ℕ → History) (c : ℕ) (limit : ℕ → ℕ) where
  -- The run stands where node n has this history, and the others have theirs, except for blocks; these steps are still to come.
  pub record Stands (batches : ℕ → Option Open) (ms : List Made) (n : ℕ) (g : History) (other : ℕ → History) : Type 0 where
    pub front : ℕ → History
    pub walk : Walk shape made c limit front batches ms
    pub here : SameButBlocks (front n) g
    pub elsewhere : (j : ℕ) → (j ≡ n → ⊥) → SameButBlocks (front j) (other j)

  -- the next step does on node n what it would do after that history
  pub record Went (batches : ℕ → Option Open) (m : Made) (ms : List Made) (n : ℕ) (g own : History) (other : ℕ → History) (answer : Reaction) (after : Option Open) : Type 0 where
    pub answered : m.reported.answer ≡ answer
    pub opens : with_batch batches m.node m.after n ≡ after
    pub others_open : (j : ℕ) → (j ≡ n → ⊥) → with_batch batches m.node m.after j ≡ batches j
    pub stands : Stands (with_batch batches m.node m.after) ms n (g ++ own) other

  go_on : (batches : ℕ → Option Open) (m : Made) (ms : List Made) (n : ℕ) (g own : History) (other : ℕ → History) (step : Step) (answer : Reaction) (after : Option Open) →
      Stands batches (m ∷ ms) n g other → m.node ≡ n → m.reported.step ≡ step → IsLegal (shape n) (g ++ own) → Does (shape n) g c (batches n) step own answer after → Went batches m ms n g own other answer after
  go_on batches m ms n g own other step answer after at on is legal does =
      let theirs : Does (shape m.node) g c (batches m.node) m.reported.step own answer after =
      subst (λ i. Does (shape i) g c (batches i) m.reported.step own answer after) (sym on) (subst (λ (x : Step). Does (shape n) g c (batches n) x own answer after) (sym is) does) in
      let same : IsSameStep m.own own m.reported.answer answer m.after after =
      one_step (shape m.node) (at.front m.node) g c (batches m.node) m.reported.step m.own own m.reported.answer answer m.after after (subst (λ i. SameButBlocks (at.front i) g) (sym on) at.here)
      (legal_after shape made c limit at.front batches m ms at.walk) (subst (λ i. IsLegal (shape i) (g ++ own)) (sym on) legal) (does_next shape made c limit at.front batches m ms at.walk) theirs in
      record {
        answered = same.answers;
        opens = ap (λ b. cond b m.after (batches n)) (eq-eqb n m.node (sym on)) ∙ same.batches;
        others_open = λ j other_node. ap (λ b. cond b m.after (batches j)) (ne_eqb j m.node (λ there. other_node (there ∙ on)));
        stands = record {
          front = front_after at.front m;
          walk = walk_on shape made c limit at.front batches m ms at.walk;
          here = subst (λ b. SameButBlocks (cond b (at.front n ++ m.own) (at.front n)) (g ++ own)) (sym (eq-eqb m.node n on)) (same_append (at.front n) g m.own own at.here same.events);
          elsewhere = λ j other_node.
              subst (λ b. SameButBlocks (cond b (at.front j ++ m.own) (at.front j)) (other j)) (sym (ne_eqb m.node j (λ there. other_node (sym there ∙ on)))) (at.elsewhere j other_node);
        };
      }

  -- these steps were done on node n: no batch is held there after them, and no other batch changed
  pub record Done (batches : ℕ → Option Open) (steps ms : List Made) (n : ℕ) (g : History) (other : ℕ → History) : Type 0 where
    pub shut : batches_after batches steps n ≡ None
    pub others_open : (j : ℕ) → (j ≡ n → ⊥) → batches_after batches steps j ≡ batches j
    pub stands : Stands (batches_after batches steps) ms n g other

  -- one more step before them
  after_one : (batches : ℕ → Option Open) (m : Made) (steps ms : List Made) (n : ℕ) (g : History) (other : ℕ → History) → ((j : ℕ) → (j ≡ n → ⊥) → with_batch batches m.node m.after j ≡ batches j) →
      Done (with_batch batches m.node m.after) steps ms n g other → Done batches (m ∷ steps) ms n g other
  unfolding batches_after
  after_one batches m steps ms n g other same done = record { shut = done.shut; others_open = λ j away. done.others_open j away ∙ same j away; stands = done.stands }

  -- a command of one step that leaves no batch held
  pub done_once : (batches : ℕ → Option Open) (steps ms : List Made) (n : ℕ) (g own : History) (other : ℕ → History) (reported : StepAnswer) (answer : Reaction) → AllByRecursion (IsOn n) steps → step_results steps ≡ reported ∷ [] →
      IsLegal (shape n) (g ++ own) → Does (shape n) g c (batches n) reported.step own answer None → Stands batches (steps ++ ms) n g other → Done batches steps ms n (g ++ own) other
  unfolding batches_after
  done_once batches [] ms n g own other reported answer on are legal does at = absurd (none_reported reported [] are)
  done_once batches (m ∷ []) ms n g own other reported answer on are legal does at =
      let went = go_on batches m ms n g own other reported.step answer None at on.0 (ap (λ (t : StepAnswer). t.step) (first_reported m [] reported [] are).0) legal does in
      record { shut = went.opens; others_open = went.others_open; stands = went.stands }
  done_once batches (m ∷ l ∷ steps) ms n g own other reported answer on are legal does at = absurd (more_reported m l steps reported are)

  -- ---- a scan

  module _ (n count : ℕ) (g : History) (other : ℕ → History) (own : History) (legal : IsLegal (shape n) (g ++ own)) (none : flight g c ≡ []) (scans : ScansAs (shape n) g c count own) where
    abbrev pages : List ℕ
    pages = take count (queue (shape n) g)

    -- these pages are left in the batch
    abbrev batch_of : List ℕ → Option Open
    batch_of left = Some (record { pages = pages; left = left })

    -- the history after the tries of the first i pages
    abbrev tried_to : ℕ → History
    tried_to i = scan_tried (shape n) g c count i

    before : IsLegal (shape n) g
    before = legal_front (shape n) g own legal

    free : no_pages (flight g c) ≡ true
    free = ap no_pages none

    -- ---- what the steps do

    take_does : Does (shape n) g c None (Take count) (take_events (shape n) g c count) (Ok (reply.Taken (length pages))) (batch_of pages)
    unfolding Does refusal
    take_does = not_refused (refusal (shape n) g (call.take c)) _ _ None (batch_of pages) _ (ap (λ ps. cond (not (no_pages ps)) (Some reason.HasBatch) None) none) (refl, refl, refl)

    -- what is left after the first page, if that is in flight
    left_after : (t : ℕ → Bool) (p : ℕ) (left : List ℕ) → t p ≡ true → after_first t (p ∷ left) ≡ left
    left_after t p left flies = rw flies refl

    module _ (i p : ℕ) (left : List ℕ) (next : NextTry (shape n) g c count i p) where
      try_does : Does (shape n) (tried_to i) c (batch_of (p ∷ left)) SplitNext (try_event (shape n) g c p ∷ []) (Ok (reply.Tried (answer_to (shape n) (tried_to i) (Some p)))) (batch_of left)
      unfolding Does
      try_does =
          let found : next_page (tried_to i) c (p ∷ left) ≡ Some p = ap (λ b. cond b (Some p) (next_page (tried_to i) c left)) next.flies in
          let after : rest_after (tried_to i) c (p ∷ left) ≡ left = left_after (λ q. has_page q (flight (tried_to i) c)) p left next.flies in (
            ap (λ e. e ∷ []) (sym next.same) ∙ ap (tries_of (shape n) (tried_to i) c) (sym found),
            ap (λ q. Ok (reply.Tried (answer_to (shape n) (tried_to i) q))) (sym found),
            ap batch_of (sym after),
          )

    end_does : (k : History) → Does (shape n) k c (batch_of []) SplitNext [] (Ok (reply.Tried tried.Done)) (batch_of [])
    unfolding Does
    end_does k = (refl, refl, refl)

    back_does : (k : History) → Does (shape n) k c (batch_of []) PutBack (put_back_events (shape n) k c pages) (Ok (reply.Back (back_reply (shape n) k (still_flying k c pages)))) None
    unfolding Does
    back_does k = (refl, refl, refl)

    -- ---- the steps, one by one

    -- a page that was tried is one
    page_tried : (k : History) (p : ℕ) → FoundPage (answer_to (shape n) k (Some p))
    page_tried k p = go (is_worth_split (shape n) k p) (nat_eq (pins k p) 0) where
      go : (a b : Bool) → FoundPage (cond a (cond b (tried.Split p) (tried.Pinned p)) (tried.Used p))
      go true true = tt
      go true false = tt
      go false b = tt

    -- an answer to a try
    same_try : (m : Made) (t u : Tried) → m.reported ≡ answered_try t → m.reported.answer ≡ Ok (reply.Tried u) → t ≡ u
    same_try m t u reported answered =
        let both : (answered_try t).answer ≡ (answered_try u).answer = sym (ap (λ (x : StepAnswer). x.answer) reported) ∙ answered in
        cc

    -- the first of the pages left
    first_left : (p : ℕ) (left cut : List ℕ) → cut ≡ p ∷ left → slice_get cut 0 ≡ Some p
    first_left p left cut e = ap (λ xs. slice_get xs 0) e

    next_try : (i p : ℕ) (left : List ℕ) → drop i pages ≡ p ∷ left → NextTry (shape n) g c count i p
    next_try i p left cut = scan_next_try (shape n) g c count i p before free (first_left p left _ cut)

    legal_next : (i p : ℕ) (left : List ℕ) → drop i pages ≡ p ∷ left → IsLegal (shape n) (tried_to i) → IsLegal (shape n) (tried_to i ++ try_event (shape n) g c p ∷ [])
    legal_next i p left cut l =
        let next = next_try i p left cut in
        legal_push (shape n) (tried_to i) (try_event (shape n) g c p) l (subst (Fits (shape n) (tried_to i)) next.same (try_fits (shape n) (tried_to i) c p l next.flies))

    try_went : (i p : ℕ) (left : List ℕ) (batches : ℕ → Option Open) (m : Made) (ms : List Made) → drop i pages ≡ p ∷ left → IsLegal (shape n) (tried_to i) → batches n ≡ batch_of (p ∷ left) → m.node ≡ n → m.reported.step ≡ SplitNext →
        Stands batches (m ∷ ms) n (tried_to i) other → Went batches m ms n (tried_to i) (try_event (shape n) g c p ∷ []) other (Ok (reply.Tried (answer_to (shape n) (tried_to i) (Some p)))) (batch_of left)
    try_went i p left batches m ms cut l held on step at =
        go_on batches m ms n (tried_to i) (try_event (shape n) g c p ∷ []) other SplitNext _ (batch_of left) at on step (legal_next i p left cut l)
        (subst (λ b. Does (shape n) (tried_to i) c b SplitNext (try_event (shape n) g c p ∷ []) (Ok (reply.Tried (answer_to (shape n) (tried_to i) (Some p)))) (batch_of left)) (sym held) (try_does i p left (next_try i p left cut)))

    end_went : (i : ℕ) (batches : ℕ → Option Open) (m : Made) (ms : List Made) → IsLegal (shape n) (tried_to i) → batches n ≡ batch_of [] → m.node ≡ n → m.reported.step ≡ SplitNext →
        Stands batches (m ∷ ms) n (tried_to i) other → Went batches m ms n (tried_to i) [] other (Ok (reply.Tried tried.Done)) (batch_of [])
    end_went i batches m ms l held on step at =
        go_on batches m ms n (tried_to i) [] other SplitNext (Ok (reply.Tried tried.Done)) (batch_of []) at on step (subst (IsLegal (shape n)) (sym (append_none (tried_to i))) l)
        (subst (λ b. Does (shape n) (tried_to i) c b SplitNext [] (Ok (reply.Tried tried.Done)) (batch_of [])) (sym held) (end_does (tried_to i)))

    -- the history once all were tried, and the whole of the scan
    tried_all : (i : ℕ) → drop i pages ≡ [] → tried_to i ≡ scan_taken (shape n) g c count ++ map (try_event (shape n) g c) pages
    tried_all i cut = ap (λ ps. scan_taken (shape n) g c count ++ map (try_event (shape n) g c) ps) (sym (append_none (take i pages)) ∙ ap (λ ps. take i pages ++ ps) (sym cut) ∙ take-append-drop i pages)

    whole : (i : ℕ) → drop i pages ≡ [] → tried_to i ++ put_back_events (shape n) (tried_to i) c pages ≡ g ++ own
    whole i cut =
        ap (λ k. k ++ put_back_events (shape n) k c pages) (tried_all i cut)
        ∙ ap (λ es. (scan_taken (shape n) g c count ++ map (try_event (shape n) g c) pages) ++ es) (sym scans.back_is)
        ∙ ap (λ k. k ++ scans.back) (append_assoc g (take_events (shape n) g c count) (map (try_event (shape n) g c) pages))
        ∙ append_assoc g (take_events (shape n) g c count ++ map (try_event (shape n) g c) pages) scans.back ∙ ap (λ es. g ++ es) (sym scans.parts)

    back_done : (i : ℕ) (batches : ℕ → Option Open) (steps ms : List Made) (b : BackReply) → drop i pages ≡ [] → batches n ≡ batch_of [] → AllByRecursion (IsOn n) steps → step_results steps ≡ answered_put_back b ∷ [] →
        Stands batches (steps ++ ms) n (tried_to i) other → Done batches steps ms n (g ++ own) other
    back_done i batches steps ms b cut held on are at =
        subst (λ k. Done batches steps ms n k other) (whole i cut)
        (done_once batches steps ms n (tried_to i) (put_back_events (shape n) (tried_to i) c pages) other (answered_put_back b) _ on are (subst (IsLegal (shape n)) (sym (whole i cut)) legal)
        (subst (λ x. Does (shape n) (tried_to i) c x PutBack (put_back_events (shape n) (tried_to i) c pages) (Ok (reply.Back (back_reply (shape n) (tried_to i) (still_flying (tried_to i) c pages)))) None) (sym held) (back_does (tried_to i))) at)

    -- the pages left are tried, and the batch is put back
    tries_done : (i : ℕ) (left : List ℕ) (batches : ℕ → Option Open) (steps ms : List Made) (ts : List Tried) (b : BackReply) → drop i pages ≡ left → IsLegal (shape n) (tried_to i) → batches n ≡ batch_of left →
        AllByRecursion (IsOn n) steps → AllByRecursion FoundPage ts → step_results steps ≡ tries_reported ts b → Stands batches (steps ++ ms) n (tried_to i) other → Done batches steps ms n (g ++ own) other
    tries_done i left batches [] ms [] b cut l held on found are at = absurd (none_reported _ _ are)
    tries_done i left batches [] ms (t ∷ ts) b cut l held on found are at = absurd (none_reported _ _ are)
    tries_done i (p ∷ left) batches (m ∷ steps) ms [] b cut l held on found are at =
        let went = try_went i p left batches m (steps ++ ms) cut l held on.0 (ap (λ (t : StepAnswer). t.step) (first_reported m steps (answered_try tried.Done) (answered_put_back b ∷ []) are).0) at in
        absurd (subst FoundPage (sym (same_try m tried.Done _ (first_reported m steps (answered_try tried.Done) (answered_put_back b ∷ []) are).0 went.answered)) (page_tried (tried_to i) p))
    tries_done i (p ∷ left) batches (m ∷ steps) ms (t ∷ ts) b cut l held on found are at =
        let ours = first_reported m steps (answered_try t) (tries_reported ts b) are in
        let next = next_try i p left cut in
        let went = try_went i p left batches m (steps ++ ms) cut l held on.0 (ap (λ (x : StepAnswer). x.step) ours.0) at in
        after_one batches m steps ms n (g ++ own) other went.others_open
        (tries_done (i + 1) left (with_batch batches m.node m.after) steps ms ts b ((more_taken i pages p (first_left p left (drop i pages) cut)).1 ∙ ap (drop 1) cut) (subst (IsLegal (shape n)) (sym next.more) (legal_next i p left cut l)) went.opens on.1 found.1 ours.1
        (subst (λ k. Stands (with_batch batches m.node m.after) (steps ++ ms) n k other) (sym next.more) went.stands))
    tries_done i [] batches (m ∷ steps) ms (t ∷ ts) b cut l held on found are at =
        let ours = first_reported m steps (answered_try t) (tries_reported ts b) are in
        let went = end_went i batches m (steps ++ ms) l held on.0 (ap (λ (x : StepAnswer). x.step) ours.0) at in
        absurd (subst FoundPage (same_try m t tried.Done ours.0 went.answered) found.0)
    tries_done i [] batches (m ∷ steps) ms [] b cut l held on found are at =
        let ours = first_reported m steps (answered_try tried.Done) (answered_put_back b ∷ []) are in
        let went = end_went i batches m (steps ++ ms) l held on.0 (ap (λ (x : StepAnswer). x.step) ours.0) at in
        after_one batches m steps ms n (g ++ own) other went.others_open (back_done i (with_batch batches m.node m.after) steps ms b cut went.opens on.1 ours.1 (subst (λ k. Stands (with_batch batches m.node m.after) (steps ++ ms) n k other) (append_none (tried_to i)) went.stands))

    -- the history once the pages were taken
    taken_is : tried_to 0 ≡ g ++ take_events (shape n) g c count
    taken_is = append_none (scan_taken (shape n) g c count)

    taken_legal : IsLegal (shape n) (g ++ take_events (shape n) g c count)
    taken_legal = (take_runs (shape n) g c count before free).legal

    take_went : (batches : ℕ → Option Open) (m : Made) (ms : List Made) → batches n ≡ None → m.node ≡ n → m.reported.step ≡ Take count →
        Stands batches (m ∷ ms) n g other → Went batches m ms n g (take_events (shape n) g c count) other (Ok (reply.Taken (length pages))) (batch_of pages)
    take_went batches m ms held on step at =
        go_on batches m ms n g (take_events (shape n) g c count) other (Take count) (Ok (reply.Taken (length pages))) (batch_of pages) at on step taken_legal
        (subst (λ b. Does (shape n) g c b (Take count) (take_events (shape n) g c count) (Ok (reply.Taken (length pages))) (batch_of pages)) (sym held) take_does)

    -- the whole scan was done
    pub scan_done : (batches : ℕ → Option Open) (steps ms : List Made) (answer : Reaction) → batches n ≡ None → AllByRecursion (IsOn n) steps → ScanDone count (step_results steps) answer ⊎ ScanRefused count (step_results steps) answer →
        Stands batches (steps ++ ms) n g other → Done batches steps ms n (g ++ own) other
    scan_done batches [] ms answer held on (inl done) at = absurd (none_reported _ _ done.steps)
    scan_done batches [] ms answer held on (inr refused) at = absurd (none_reported _ _ refused.steps)
    scan_done batches (m ∷ steps) ms answer held on (inl done) at =
        let ours = first_reported m steps (took count done.taken) (tries_reported done.tries done.back) done.steps in
        let went = take_went batches m (steps ++ ms) held on.0 (ap (λ (x : StepAnswer). x.step) ours.0) at in
        after_one batches m steps ms n (g ++ own) other went.others_open
        (tries_done 0 pages (with_batch batches m.node m.after) steps ms done.tries done.back refl (subst (IsLegal (shape n)) (sym taken_is) taken_legal) went.opens on.1 (recursion_from_All FoundPage done.tries done.pages) ours.1
        (subst (λ k. Stands (with_batch batches m.node m.after) (steps ++ ms) n k other) (sym taken_is) went.stands))
    scan_done batches (m ∷ steps) ms answer held on (inr refused) at =
        let ours = first_reported m steps (record { step = Take count; answer = Err refused.why }) [] refused.steps in
        let went = take_went batches m (steps ++ ms) held on.0 (ap (λ (x : StepAnswer). x.step) ours.0) at in
        absurd (let both : Err refused.why ≡ Ok (reply.Taken (length pages)) = sym (ap (λ (x : StepAnswer). x.answer) ours.0) ∙ went.answered in cc)
