-- The tries of a scan, one by one, and what is behind its take, put together.
use Rattle.std.proofs.Common.{◌≡◌, ℕ, min, suc, ◌+◌, ◌*◌, ◌<◌, ◌≤◌, Bool, true, false, cond, not, ◌&&◌, ◌||◌, List, [], ◌∷◌, ◌++◌, Option, Some, None, length, map, take, drop, refl, ap, ap₂, sym, ◌∙◌, subst, arith, nat_eq, nat_lt, get_or, append_assoc, length-take-le, ◌-◌, count_by, eq-eqb, eqb-true}
use Rattle.std.specs.List.{filter, after_first}
use Rattle.std.proofs.Math.Seq.{drop-cons}
use Rattle.std.proofs.lemmas.Bool.Decides.{nat_tests}
use Rattle.std.proofs.lemmas.List.Sums.{length-filter, count_by-le-length}
use Rattle.std.proofs.lemmas.List.{map-append, take-append-drop, take_more, take_min, length-map}
use Rattle.thp_history.specs.declared.events.Event.{Event}
use Rattle.thp_history.specs.declared.events.What.TheVariants as what
use Rattle.thp_history.specs.declared.events.What.{What}
use Rattle.thp_history.specs.declared.refusal.Refusal.{Refusal}
use Rattle.thp_history.specs.declared.shape.Shape.{Shape}
use Rattle.thp_history.specs.Prelude.{History, by, count_of, pins, is_dropped as drops, is_worth_split, IsLegal, queue, flight, has_page, refusal, take_events, scan_events, try_event, is_pinned, return_event, still_flying, put_back_events, next_page, rest_after, split_next_events, tries_of, goes_back, takes_of}
use Rattle.thp_history.specs.Refusals as call
use Rattle.thp_history.proofs.Bools.{or_first, or_second}
use Rattle.thp_history.proofs.Counting.{count-cons, count_push}
use Rattle.thp_history.proofs.ListPlaces.{append_none}
use Rattle.thp_history.proofs.OnePlace.{once_flies, not_before, filter_in}
use Rattle.thp_history.proofs.ReturnRuns.{return_as}
use Rattle.thp_history.proofs.Standing.{times}
use Rattle.thp_history.proofs.ScanRuns.{TakesLeave, takes_leave}
use Rattle.thp_history.proofs.TakeRuns.{take_runs, none_flies}
use Rattle.thp_history.proofs.TryRuns.{Tried, try_as, tries_run}
use Rattle.thp_node.specs.Prelude.{IsInFront, BatchState, rest, tried as answer_of, back_reply, scan_reply, takes_page, is_split_off, is_pinned_found, is_used_found, is_back, drops_page, Tried as Answer, BackReply, ScanReply, Did, Refused, NodeState, events_after, is_tried_used, used_count}
use Rattle.thp_node.specs.declared.answers.Tried.TheVariants as answer
use Rattle.thp_node.proofs.CallLemmas.{did_then}

in_middle : (p : ℕ) (xs ys : List ℕ) → has_page p (xs ++ p ∷ ys) ≡ true
in_middle p [] ys = or_first (nat_eq p p) _ (eq-eqb p p refl)
in_middle p (x ∷ xs) ys = or_second (nat_eq x p) _ (in_middle p xs ys)

-- a try counts its page where it is in use, and so does its event
used_answer : (s : Shape) (h : History) (p : ℕ) → used_count (answer_of s h (Some p)) ≡ cond (is_tried_used s h p) 1 0
used_answer s h p = go (is_worth_split s h p) (nat_eq (pins h p) 0) where
  go : (a b : Bool) → used_count (cond a (cond b (answer.Split p) (answer.Pinned p)) (answer.Used p)) ≡ cond (not a) 1 0
  go x y = grind arith

used_of_try : (s : Shape) (h : History) (c p : ℕ) → is_used_found (try_event s h c p).what ≡ is_tried_used s h p
used_of_try s h c p = go (is_worth_split s h p) (nat_eq (pins h p) 0) where
  go : (a b : Bool) → is_used_found (try_as s h c p a b).what ≡ not a
  go x y = grind arith

pub few_used : (r : Answer) → used_count r ≤ 1
few_used x = grind arith

-- the next page of a flight whose first i pages were tried, at the history k
pub record NextTried (s : Shape) (h k : History) (c i p : ℕ) (ps : List ℕ) : Type 0 where
  pub next : next_page k c (drop i ps) ≡ Some p
  pub after : rest_after k c (drop i ps) ≡ drop (i + 1) ps
  pub same : try_event s k c p ≡ try_event s h c p
  pub more : map (try_event s h c) (take (i + 1) ps) ≡ map (try_event s h c) (take i ps) ++ try_event s h c p ∷ []

pub next_tried : (s : Shape) (h k : History) (c i : ℕ) (ps : List ℕ) → IsLegal s h → flight h c ≡ ps → k ≡ h ++ map (try_event s h c) (take i ps) → i < length ps →
    NextTried s h k c i (get_or ps i 0) ps
next_tried s h k c i ps l f is below =
    let p : ℕ = get_or ps i 0 in
    let rest : List ℕ = drop (suc i) ps in
    let cut : drop i ps ≡ p ∷ rest = drop-cons ps i 0 below in
    let whole : ps ≡ take i ps ++ p ∷ rest = sym (take-append-drop i ps) ∙ ap (λ xs. take i ps ++ xs) cut in
    let P : History → Type 0 = λ x. Tried s h x c [] (take i ps) (p ∷ rest) in
    let r : Tried s h k c [] (take i ps) (p ∷ rest) = subst P (sym is) (tries_run s h c (take i ps) (p ∷ rest) l (f ∙ whole)) in
    let flies : has_page p (flight k c) ≡ true = ap (has_page p) r.left ∙ in_middle p (filter (is_pinned s h) (take i ps)) rest in
    let O : List ℕ → Type 0 = λ xs. times p xs ≤ 1 in
    let apart : has_page p (take i ps) ≡ false = not_before p (take i ps) rest (subst O (f ∙ whole) (once_flies s h c p l)) in
    record {
      next = ap (next_page k c) cut ∙ ap (λ b. cond b (Some p) (next_page k c rest)) flies;
      after = ap (rest_after k c) cut ∙ first_after (λ q. has_page q (flight k c)) p rest flies ∙ ap (λ n. drop n ps) (let n : suc i ≡ i + 1 = omega arith in n);
      same = r.others p apart;
      more = ap (map (try_event s h c)) (take_more ps i 0 below) ∙ map-append (try_event s h c) (take i ps) (p ∷ []);
    } where
      first_after : (t : ℕ → Bool) (p : ℕ) (xs : List ℕ) → t p ≡ true → after_first t (p ∷ xs) ≡ xs
      first_after t p xs e = rw e refl

-- a try more of a batch that is all in flight
module _ (a b : NodeState) (c i : ℕ) (ps : List ℕ) (t : BatchState) (l : IsLegal a.shape a.journal) (f : flight a.journal c ≡ ps) (below : i < length ps)
    (did : Did a b c (map (try_event a.shape a.journal c) (take i ps))) (who : t.caller ≡ c) (left : rest t ≡ drop i ps) where
  one_tried : NextTried a.shape a.journal b.journal c i (get_or ps i 0) ps
  one_tried = next_tried a.shape a.journal b.journal c i ps l f did.journal below

  pub tried_more : (d : NodeState) → Did b d t.caller (split_next_events b.shape b.journal t.caller (rest t)) → Did a d c (map (try_event a.shape a.journal c) (take (i + 1) ps))
  tried_more d m =
      let p : ℕ = get_or ps i 0 in
      let C : ℕ → Type 0 = λ x. Did b d x (split_next_events b.shape b.journal x (rest t)) in
      let R : List ℕ → Type 0 = λ x. Did b d c (split_next_events b.shape b.journal c x) in
      let O : Option ℕ → Type 0 = λ x. Did b d c (tries_of b.shape b.journal c x) in
      let S : Shape → Type 0 = λ x. Did b d c (try_event x b.journal c p ∷ []) in
      let E : Event → Type 0 = λ x. Did b d c (x ∷ []) in
      let D : List Event → Type 0 = λ x. Did a d c x in
      subst D (sym one_tried.more)
      (did_then a b d c (map (try_event a.shape a.journal c) (take i ps)) (try_event a.shape a.journal c p ∷ []) did
      (subst E one_tried.same (subst S did.shape (subst O one_tried.next (subst R left (subst C who m))))))

  pub tried_after : rest_after b.journal t.caller (rest t) ≡ drop (i + 1) ps
  tried_after = ap₂ (λ x xs. rest_after b.journal x xs) who left ∙ one_tried.after

  -- whether it was found in use
  pub used_more : (r : Answer) → r ≡ answer_of b.shape b.journal (next_page b.journal t.caller (rest t)) →
      count_by (is_tried_used a.shape a.journal) (take i ps) + used_count r ≡ count_by (is_tried_used a.shape a.journal) (take (i + 1) ps)
  used_more r e =
      let p : ℕ = get_or ps i 0 in
      let next : next_page b.journal t.caller (rest t) ≡ Some p = ap₂ (next_page b.journal) who left ∙ one_tried.next in
      let reported : used_count r ≡ cond (is_tried_used b.shape b.journal p) 1 0 = ap used_count (e ∙ ap (answer_of b.shape b.journal) next) ∙ used_answer b.shape b.journal p in
      let same : is_tried_used b.shape b.journal p ≡ is_tried_used a.shape a.journal p =
      ap (λ z. is_tried_used z b.journal p) did.shape ∙ sym (used_of_try a.shape b.journal c p) ∙ ap (λ (x : Event). is_used_found x.what) one_tried.same ∙ used_of_try a.shape a.journal c p in
      sym (ap (count_by (is_tried_used a.shape a.journal)) (take_more ps i 0 below) ∙ count_push (is_tried_used a.shape a.journal) (take i ps) p
      ∙ ap (λ n. count_by (is_tried_used a.shape a.journal) (take i ps) + n) (ap (λ z. cond z 1 0) (sym same) ∙ sym reported))

-- a refusal for want of memory alone doesn't come where there is room
pub no_refusal : (a b : NodeState) (m : ℕ) (r : Refusal) → Refused a b None m r → m ≤ a.room → ⊥
no_refusal a b m r w room = grind arith

few_tries : (s : Shape) (h : History) (c : ℕ) (o : Option ℕ) → length (tries_of s h c o) ≤ 1
few_tries s h c x = grind arith

-- there is room for the next try
pub room_to_try : (s r : Shape) (h k : History) (c d i m n : ℕ) (ps qs : List ℕ) → i < length ps → length ps ≤ m → m ≤ n + length (map (try_event s h c) (take i ps)) →
    length (split_next_events r k d qs) ≤ n
room_to_try s r h k c d i m n ps qs below some kept = grind (arith, few_tries, length-map, length-take-le)

-- a page of a list is among those that pass a test where it passes
has_passed : (t : ℕ → Bool) (q : ℕ) (ps : List ℕ) → has_page q (filter t ps) ≡ (t q && has_page q ps)
has_passed t q [] = go (t q) where
  go : (b : Bool) → false ≡ (b && false)
  go true = refl
  go false = refl
has_passed t q (x ∷ ps) = go (nat_eq x q) (t x) refl refl (has_passed t q ps) where
  go : (a b : Bool) → nat_eq x q ≡ a → t x ≡ b → has_page q (filter t ps) ≡ (t q && has_page q ps) → has_page q (cond b (x ∷ filter t ps) (filter t ps)) ≡ (t q && (a || has_page q ps))
  go true true y z n = ap (λ w. w || has_page q (filter t ps)) y ∙ sym (ap (λ w. w && true) (ap t (sym (eqb-true x q y)) ∙ z))
  go true false y z n = n ∙ ap (λ w. w && has_page q ps) (ap t (sym (eqb-true x q y)) ∙ z) ∙ sym (ap (λ w. w && true) (ap t (sym (eqb-true x q y)) ∙ z))
  go false true y z n = ap (λ w. w || has_page q (filter t ps)) y ∙ n
  go false false y z n = n

-- tests that agree count the same
count_same : (t u : ℕ → Bool) (ps : List ℕ) → ((p : ℕ) → t p ≡ u p) → count_by t ps ≡ count_by u ps
count_same t u [] f = refl
count_same t u (p ∷ ps) f = count-cons t p ps ∙ ap₂ (λ b n. cond b 1 0 + n) (f p) (count_same t u ps f) ∙ sym (count-cons u p ps)

map_same : (f g : ℕ → Event) → ((p : ℕ) → f p ≡ g p) → (ps : List ℕ) → map f ps ≡ map g ps
map_same f g e [] = refl
map_same f g e (p ∷ ps) = ap₂ (λ x xs. x ∷ xs) (e p) (map_same f g e ps)

-- a batch that is all in flight, once each page of it was tried: the pinned ones are left
pub record AllTried (s : Shape) (h k : History) (c : ℕ) (ps : List ℕ) : Type 0 where
  pub still : still_flying k c ps ≡ filter (is_pinned s h) ps
  pub front : flight k c ≡ still_flying k c ps ++ []
  pub dropped : (q : ℕ) → drops s k q ≡ drops s h q
  pub returns : put_back_events s k c ps ≡ map (return_event s h c) (filter (is_pinned s h) ps)

pub all_tried : (s : Shape) (h k : History) (c : ℕ) (ps : List ℕ) → IsLegal s h → flight h c ≡ ps → k ≡ h ++ map (try_event s h c) ps → AllTried s h k c ps
all_tried s h k c ps l f is =
    let P : History → Type 0 = λ x. Tried s h x c [] ps [] in
    let r : Tried s h k c [] ps [] = subst P (sym is) (tries_run s h c ps [] l (f ∙ sym (append_none ps))) in
    let pinned : List ℕ = filter (is_pinned s h) ps in
    let left : flight k c ≡ pinned = r.left ∙ append_none pinned in
    let still : still_flying k c ps ≡ pinned =
    filter_in (λ q. has_page q (flight k c)) (is_pinned s h) ps (λ q y. ap (has_page q) left ∙ has_passed (is_pinned s h) q ps ∙ ap (λ b. is_pinned s h q && b) y ∙ and_true (is_pinned s h q)) in
    record {
      still = still;
      front = left ∙ sym (append_none (still_flying k c ps) ∙ still);
      dropped = r.dropped_same;
      returns = ap (map (return_event s k c)) still ∙ map_same (return_event s k c) (return_event s h c) (λ q. ap (λ z. return_as z c q) (r.dropped_same q)) pinned;
    } where
      and_true : (b : Bool) → (b && true) ≡ b
      and_true true = refl
      and_true false = refl

abbrev bit : Bool → ℕ
bit b = cond b 1 0

-- how many events of each kind a list has
pub record Counts (es : List Event) (taken split pinned back dropped used : ℕ) : Type 0 where
  pub taken_is : count_of takes_page es ≡ taken
  pub split_is : count_of is_split_off es ≡ split
  pub pinned_is : count_of is_pinned_found es ≡ pinned
  pub back_is : count_of is_back es ≡ back
  pub dropped_is : count_of drops_page es ≡ dropped
  pub used_is : count_of is_used_found es ≡ used

first_counts : (t : What → Bool) (e : Event) (es : List Event) (n : ℕ) → count_of t es ≡ n → count_of t (e ∷ es) ≡ cond (t e.what) 1 0 + n
unfolding count_of
first_counts t e es n y = count-cons (λ (x : Event). t x.what) e es ∙ ap (λ m. cond (t e.what) 1 0 + m) y

both_count : (t : What → Bool) (es gs : List Event) (n m : ℕ) → count_of t es ≡ n → count_of t gs ≡ m → count_of t (es ++ gs) ≡ n + m
unfolding count_of
both_count t [] gs n m y z = z ∙ omega (arith, y)
both_count t (e ∷ es) gs n m y z =
    count-cons (λ (x : Event). t x.what) e (es ++ gs)
    ∙ omega (arith, both_count t es gs (count_of t es) m refl z, sym (count-cons (λ (x : Event). t x.what) e es) ∙ y)

counts_none : Counts [] 0 0 0 0 0 0
unfolding count_of
counts_none = record { taken_is = refl; split_is = refl; pinned_is = refl; back_is = refl; dropped_is = refl; used_is = refl }

pub counts_both : (es gs : List Event) (a b d e f u i j k l m v : ℕ) → Counts es a b d e f u → Counts gs i j k l m v → Counts (es ++ gs) (a + i) (b + j) (d + k) (e + l) (f + m) (u + v)
counts_both es gs a b d e f u i j k l m v x y = grind (arith, both_count)

counts_first : (w : Event) (es : List Event) (a b d e f g : ℕ) → Counts es a b d e f g →
    Counts (w ∷ es) (cond (takes_page w.what) 1 0 + a) (cond (is_split_off w.what) 1 0 + b) (cond (is_pinned_found w.what) 1 0 + d) (cond (is_back w.what) 1 0 + e)
    (cond (drops_page w.what) 1 0 + f) (cond (is_used_found w.what) 1 0 + g)
counts_first w es a b d e f g x = grind (arith, first_counts)

-- counts that are stated otherwise
counts_as : (es : List Event) (a b d e f g i j k l m n : ℕ) → Counts es a b d e f g → a ≡ i → b ≡ j → d ≡ k → e ≡ l → f ≡ m → g ≡ n → Counts es i j k l m n
counts_as es a b d e f g i j k l m n x p q r s t u = grind arith

-- takes, tries and returns
pub counts_takes : (c : ℕ) (ps : List ℕ) → Counts (takes_of c ps) (length ps) 0 0 0 0 0
counts_takes c [] = counts_none
counts_takes c (p ∷ ps) =
    let r = counts_first (by c (what.Taken p)) (takes_of c ps) (length ps) 0 0 0 0 0 (counts_takes c ps) in
    counts_as (takes_of c (p ∷ ps)) _ _ _ _ _ _ (length (p ∷ ps)) 0 0 0 0 0 r (omega arith) refl refl refl refl refl

none_pinned : (n : ℕ) → nat_eq n 0 ≡ not (nat_lt 0 n)
none_pinned n = grind (arith, nat_tests)

-- a try of page p splits it
abbrev pub gets_split : Shape → History → ℕ → Bool
gets_split s h p = is_worth_split s h p && nat_eq (pins h p) 0

pub counts_tries : (s : Shape) (h : History) (c : ℕ) (ps : List ℕ) → Counts (map (try_event s h c) ps) 0 (count_by (gets_split s h) ps) (count_by (is_pinned s h) ps) 0 0 (count_by (is_tried_used s h) ps)
counts_tries s h c [] = counts_none
counts_tries s h c (p ∷ ps) =
    let a : Bool = is_worth_split s h p in
    let b : Bool = nat_eq (pins h p) 0 in
    let d : Bool = nat_lt 0 (pins h p) in
    let r = counts_first (try_as s h c p a b) (map (try_event s h c) ps) 0 (count_by (gets_split s h) ps) (count_by (is_pinned s h) ps) 0 0 (count_by (is_tried_used s h) ps) (counts_tries s h c ps) in
    let w = go a b d (none_pinned (pins h p)) in
    counts_as (map (try_event s h c) (p ∷ ps)) _ _ _ _ _ _ 0 (count_by (gets_split s h) (p ∷ ps)) (count_by (is_pinned s h) (p ∷ ps)) 0 0 (count_by (is_tried_used s h) (p ∷ ps)) r
    (omega (arith, w.0))
    (ap (λ n. n + count_by (gets_split s h) ps) w.1 ∙ sym (count-cons (gets_split s h) p ps))
    (ap (λ n. n + count_by (is_pinned s h) ps) w.2 ∙ sym (count-cons (is_pinned s h) p ps))
    (omega (arith, w.3)) (omega (arith, w.4))
    (ap (λ n. n + count_by (is_tried_used s h) ps) w.5 ∙ sym (count-cons (is_tried_used s h) p ps)) where
      go : (a b d : Bool) → b ≡ not d →
          (bit (takes_page (try_as s h c p a b).what) ≡ 0) × (bit (is_split_off (try_as s h c p a b).what) ≡ bit (a && b))
          × (bit (is_pinned_found (try_as s h c p a b).what) ≡ bit (a && d)) × (bit (is_back (try_as s h c p a b).what) ≡ 0)
          × (bit (drops_page (try_as s h c p a b).what) ≡ 0) × (bit (is_used_found (try_as s h c p a b).what) ≡ bit (not a))
      go true true true e = absurd (cc)
      go true true false e = (refl, refl, refl, refl, refl, refl)
      go true false true e = (refl, refl, refl, refl, refl, refl)
      go true false false e = absurd (cc)
      go false b d e = (refl, refl, refl, refl, refl, refl)

pub counts_returns : (s : Shape) (h : History) (c : ℕ) (qs : List ℕ) → Counts (map (return_event s h c) qs) 0 0 0 (count_by (goes_back s h) qs) (count_by (drops s h) qs) 0
counts_returns s h c [] = counts_none
counts_returns s h c (q ∷ qs) =
    let z : Bool = drops s h q in
    let r = counts_first (return_as z c q) (map (return_event s h c) qs) 0 0 0 (count_by (goes_back s h) qs) (count_by (drops s h) qs) 0 (counts_returns s h c qs) in
    let w = go z in
    counts_as (map (return_event s h c) (q ∷ qs)) _ _ _ _ _ _ 0 0 0 (count_by (goes_back s h) (q ∷ qs)) (count_by (drops s h) (q ∷ qs)) 0 r
    (omega (arith, w.0)) (omega (arith, w.1)) (omega (arith, w.2))
    (ap (λ n. n + count_by (goes_back s h) qs) w.3 ∙ sym (count-cons (goes_back s h) q qs))
    (ap (λ n. n + count_by (drops s h) qs) w.4 ∙ sym (count-cons (drops s h) q qs))
    (omega (arith, w.5)) where
      go : (z : Bool) →
          (bit (takes_page (return_as z c q).what) ≡ 0) × (bit (is_split_off (return_as z c q).what) ≡ 0) × (bit (is_pinned_found (return_as z c q).what) ≡ 0)
          × (bit (is_back (return_as z c q).what) ≡ bit (not z)) × (bit (drops_page (return_as z c q).what) ≡ bit z) × (bit (is_used_found (return_as z c q).what) ≡ 0)
      go true = (refl, refl, refl, refl, refl, refl)
      go false = (refl, refl, refl, refl, refl, refl)

pub counts_after : (s : Shape) (h : History) (c : ℕ) (ps : List ℕ) →
    Counts (events_after s h c ps) 0 (count_by (gets_split s h) ps) (count_by (is_pinned s h) ps)
    (count_by (goes_back s h) (filter (is_pinned s h) ps)) (count_by (drops s h) (filter (is_pinned s h) ps)) (count_by (is_tried_used s h) ps)
counts_after s h c ps =
    let qs : List ℕ = filter (is_pinned s h) ps in
    let r = counts_both (map (try_event s h c) ps) (map (return_event s h c) qs) 0 (count_by (gets_split s h) ps) (count_by (is_pinned s h) ps) 0 0 (count_by (is_tried_used s h) ps)
    0 0 0 (count_by (goes_back s h) qs) (count_by (drops s h) qs) 0 (counts_tries s h c ps) (counts_returns s h c qs) in
    counts_as (events_after s h c ps) _ _ _ _ _ _ 0 (count_by (gets_split s h) ps) (count_by (is_pinned s h) ps) (count_by (goes_back s h) qs) (count_by (drops s h) qs) (count_by (is_tried_used s h) ps) r
    (omega arith) (omega arith) (omega arith) (omega arith) (omega arith) (omega arith)

-- each page that is tried is split, found pinned or found in use
three_kinds : (s : Shape) (h : History) (ps : List ℕ) → count_by (gets_split s h) ps + count_by (is_pinned s h) ps + count_by (is_tried_used s h) ps ≡ length ps
three_kinds s h [] = refl
three_kinds s h (p ∷ ps) =
    omega (
      arith,
      count-cons (gets_split s h) p ps,
      count-cons (is_pinned s h) p ps,
      count-cons (is_tried_used s h) p ps,
      one (is_worth_split s h p) (nat_eq (pins h p) 0) (nat_lt 0 (pins h p)) (none_pinned (pins h p)),
      three_kinds s h ps,
    ) where
      one : (a b d : Bool) → b ≡ not d → bit (a && b) + bit (a && d) + bit (not a) ≡ 1
      one true true true e = absurd (cc)
      one true true false e = refl
      one true false true e = refl
      one true false false e = absurd (cc)
      one false b d e = refl

-- each page that is returned goes back or is dropped
two_kinds : (s : Shape) (h : History) (qs : List ℕ) → count_by (goes_back s h) qs + count_by (drops s h) qs ≡ length qs
two_kinds s h [] = refl
two_kinds s h (q ∷ qs) = omega (arith, count-cons (goes_back s h) q qs, count-cons (drops s h) q qs, one (drops s h q), two_kinds s h qs) where
  one : (z : Bool) → bit (not z) + bit z ≡ 1
  one true = refl
  one false = refl

-- a reply with these numbers
pub counted_reply : (es : List Event) (x : ScanReply) → Counts es x.taken x.split x.pinned x.back x.dropped x.used → scan_reply es ≡ x
counted_reply es x r = rw (r.taken_is, r.split_is, r.pinned_is, r.back_is, r.dropped_is, r.used_is) refl

abbrev the_reply : ℕ → ℕ → BackReply
the_reply b d = record { back = b; dropped = d }

abbrev the_scan : ℕ → ℕ → ℕ → ℕ → ℕ → ℕ → ScanReply
the_scan a b d e f g = record { taken = a; split = b; pinned = d; back = e; dropped = f; used = g }

-- the reply of a scan behind its take, by that of the put-back and the pages found in use
pub after_reply : (s : Shape) (h k : History) (c : ℕ) (ps : List ℕ) (back dropped n used : ℕ) → AllTried s h k c ps → the_reply back dropped ≡ back_reply s k (still_flying k c ps) →
    n ≡ length ps → used ≡ count_by (is_tried_used s h) ps →
    (used + (back + dropped) ≤ n) × (the_scan n (n - used - (back + dropped)) (back + dropped) back dropped used ≡ record (scan_reply (events_after s h c ps)) { taken = length ps })
after_reply s h k c ps back dropped n used a e is u =
    let qs : List ℕ = filter (is_pinned s h) ps in
    let backs : back ≡ count_by (goes_back s h) qs =
    ap (λ (x : BackReply). x.back) e ∙ ap (count_by (goes_back s k)) a.still ∙ count_same (goes_back s k) (goes_back s h) qs (λ q. ap not (a.dropped q)) in
    let drops_are : dropped ≡ count_by (drops s h) qs =
    ap (λ (x : BackReply). x.dropped) e ∙ ap (count_by (drops s k)) a.still ∙ count_same (drops s k) (drops s h) qs a.dropped in
    let pinned : back + dropped ≡ count_by (is_pinned s h) ps = omega (arith, backs, drops_are, two_kinds s h qs, length-filter (is_pinned s h) ps) in
    let r = counts_after s h c ps in
    let all = three_kinds s h ps in (
      omega (arith, pinned, all, is, u),
      sym (numbers (scan_reply (events_after s h c ps)) is (r.split_is ∙ omega (arith, pinned, all, is, u)) (r.pinned_is ∙ sym pinned) (r.back_is ∙ sym backs) (r.dropped_is ∙ sym drops_are) (r.used_is ∙ sym u)),
    ) where
      numbers : (x : ScanReply) → n ≡ length ps → x.split ≡ n - used - (back + dropped) → x.pinned ≡ back + dropped → x.back ≡ back → x.dropped ≡ dropped → x.used ≡ used →
          record x { taken = length ps } ≡ the_scan n (n - used - (back + dropped)) (back + dropped) back dropped used
      numbers x u v y z t w = rw (v, y, z, t, w, sym u) refl

-- a batch that was all in flight, and each page of which was tried
module _ (a b : NodeState) (t : BatchState) (c : ℕ) (ps : List ℕ) (l : IsLegal a.shape a.journal) (f : flight a.journal c ≡ ps) (did : Did a b c (map (try_event a.shape a.journal c) ps))
    (who : t.caller ≡ c) (pages : t.pages ≡ ps) where
  tried : AllTried a.shape a.journal b.journal c ps
  tried = all_tried a.shape a.journal b.journal c ps l f did.journal

  same_still : still_flying b.journal t.caller t.pages ≡ still_flying b.journal c ps
  same_still = ap₂ (still_flying b.journal) who pages

  -- it can be put back
  pub tried_front : IsInFront b.journal t
  tried_front = record { others = []; front = ap (flight b.journal) who ∙ tried.front ∙ ap (λ xs. xs ++ []) (sym same_still) }

  -- there is room for that
  pub tried_room : 2 * length ps ≤ a.room → length (put_back_events b.shape b.journal t.caller t.pages) ≤ b.room
  tried_room room = grind (arith, length-map, length-filter, count_by-le-length)

  -- what was done with it
  pub tried_returned : (d : NodeState) → Did b d t.caller (put_back_events b.shape b.journal t.caller t.pages) → Did a d c (events_after a.shape a.journal c ps)
  tried_returned d m =
      let S : Shape → Type 0 = λ z. Did b d t.caller (put_back_events z b.journal t.caller t.pages) in
      let C : ℕ → Type 0 = λ x. Did b d x (put_back_events a.shape b.journal x t.pages) in
      let P : List ℕ → Type 0 = λ x. Did b d c (put_back_events a.shape b.journal c x) in
      let D : List Event → Type 0 = λ x. Did b d c x in
      did_then a b d c (map (try_event a.shape a.journal c) ps) (map (return_event a.shape a.journal c) (filter (is_pinned a.shape a.journal) ps)) did
      (subst D tried.returns (subst P pages (subst C who (subst S did.shape m))))

  -- what is answered
  pub tried_reply : (r : BackReply) (n used : ℕ) → r ≡ back_reply b.shape b.journal (still_flying b.journal t.caller t.pages) → n ≡ length ps → used ≡ count_by (is_tried_used a.shape a.journal) ps →
      (used + (r.back + r.dropped) ≤ n)
      × (the_scan n (n - used - (r.back + r.dropped)) (r.back + r.dropped) r.back r.dropped used ≡ record (scan_reply (events_after a.shape a.journal c ps)) { taken = length ps })
  tried_reply r n used e is u =
      after_reply a.shape a.journal b.journal c ps r.back r.dropped n used tried (e ∙ ap (λ z. back_reply z b.journal (still_flying b.journal t.caller t.pages)) did.shape ∙ ap (back_reply a.shape b.journal) same_still) is u

-- a scan is refused as a take is
pub scan_as_take : (s : Shape) (h : History) (c : ℕ) → refusal s h (call.scan c) ≡ refusal s h (call.take c)
unfolding refusal
scan_as_take s h c = refl

-- a take, with what was reserved before it
pub took_reserved : (a r b : NodeState) (c n : ℕ) → r.shape ≡ a.shape → r.journal ≡ a.journal → a.room ≤ r.room → r.table.accesses ≡ a.table.accesses →
    Did r b c (take_events r.shape r.journal c n) → Did a b c (take_events a.shape a.journal c n)
took_reserved a r b c n s j g w m = grind arith

abbrev pub whole_batch : ℕ → List ℕ → BatchState
whole_batch c ps = record { caller = c; pages = ps; place = 0 }

-- a take of as many pages as are wanted and queued, with what was reserved before it
module _ (a m b : NodeState) (c n k : ℕ) (same : m ≡ record a { room = m.room }) (is : k ≡ min n (length (queue a.shape a.journal))) where
  pub took_admitted : a.room ≤ m.room → Did m b c (take_events m.shape m.journal c k) → Did a b c (take_events a.shape a.journal c n)
  took_admitted more did = grind (arith, take_min, took_reserved)

  pub batch_admitted : (t : BatchState) → t ≡ whole_batch c (take k (queue m.shape m.journal)) → t ≡ whole_batch c (take n (queue a.shape a.journal))
  batch_admitted t e = grind (arith, take_min)

-- takes leave what is behind them
after_takes : (s : Shape) (h k : History) (c : ℕ) (ps : List ℕ) → TakesLeave s h k c → events_after s k c ps ≡ events_after s h c ps
after_takes s h k c ps t = grind (arith, map_same, filter_in, return_as)

empty_list : (ps : List ℕ) → length ps ≡ 0 → ps ≡ []
empty_list [] e = refl
empty_list (p ∷ ps) e = absurd (omega arith)

-- a batch of a take by a caller that had nothing in flight
module _ (a b : NodeState) (t : BatchState) (c n : ℕ) (l : IsLegal a.shape a.journal) (none : length (flight a.journal c) ≡ 0) (took : Did a b c (take_events a.shape a.journal c n))
    (is : t ≡ whole_batch c (take n (queue a.shape a.journal))) where
  -- it is all in flight
  pub scan_flies : flight b.journal t.caller ≡ t.pages
  scan_flies = grind (arith, take_runs, none_flies, empty_list)

  after_is : events_after b.shape b.journal t.caller t.pages ≡ events_after a.shape a.journal c (take n (queue a.shape a.journal))
  after_is =
      let ps : List ℕ = take n (queue a.shape a.journal) in
      ap (λ (x : BatchState). events_after b.shape b.journal x.caller x.pages) is
      ∙ ap₂ (λ s h. events_after s h c ps) took.shape took.journal
      ∙ after_takes a.shape a.journal (a.journal ++ take_events a.shape a.journal c n) c ps (takes_leave a.shape a.journal c ps)

  whole_scan : take_events a.shape a.journal c n ++ events_after a.shape a.journal c (take n (queue a.shape a.journal)) ≡ scan_events a.shape a.journal c n
  whole_scan = grind (arith, append_assoc)

  -- with what is behind the take it is the scan
  pub scan_recorded : (d : NodeState) → Did b d t.caller (events_after b.shape b.journal t.caller t.pages) → Did a d c (scan_events a.shape a.journal c n)
  scan_recorded d m =
      let es : List Event = events_after a.shape a.journal c (take n (queue a.shape a.journal)) in
      let B : List Event → Type 0 = λ xs. Did b d t.caller xs in
      let C : ℕ → Type 0 = λ x. Did b d x es in
      let D : List Event → Type 0 = λ xs. Did a d c xs in
      subst D whole_scan (did_then a b d c (take_events a.shape a.journal c n) es took (subst C (ap (λ (x : BatchState). x.caller) is) (subst B after_is m)))

  pub scan_replied : (x : ScanReply) → x ≡ record (scan_reply (events_after b.shape b.journal t.caller t.pages)) { taken = length t.pages } →
      x ≡ scan_reply (scan_events a.shape a.journal c n)
  scan_replied x e = grind (arith, count_by, counts_after, counts_both, counts_takes, after_is, counted_reply, counts_as, whole_scan)
