-- Batches that wait, and their scans.
use Rattle.std.proofs.Common.{◌≡◌, ◌∙◌, ◌+◌, ◌-◌, ◌<◌, ◌≤◌, add-one, drop, drop-cons, get_or, set, take, ℕ, List, [], ◌∷◌, ◌++◌, length, append_assoc, append-nil, ap, arith, length-append, refl, subst, sym}
use Rattle.std.proofs.lemmas.Grind.{common_steps, flat_map-append}
use Rattle.std.proofs.lemmas.List.{drop-set, take-append-drop, take-set}
use Rattle.std.proofs.lemmas.List.Elements.{All-append, All-cons, All-nil, filter-append}
use Rattle.std.proofs.lemmas.List.Sums.{sum_by-append, sum_by-cons}
use Rattle.thp_history.specs.declared.events.Event.{Event}
use Rattle.thp_history.specs.Prelude.{History, max_batch}
use Rattle.thp_journal_scripts.specs.Prelude.{Take, WaitingFlight, Waits, AreWaiting, ExtendsLast, LosesPage, loses_none, loses_one, IsMovedBatch, MovedBatch, all_freed, all_takes, is_take, kind_of, takes_in, IsBy}

pub takes_both : (xs ys : List MovedBatch) → all_takes (xs ++ ys) ≡ all_takes xs ++ all_takes ys
takes_both xs ys = flat_map-append (λ (b : MovedBatch). b.takes) xs ys

pub freed_both : (xs ys : List MovedBatch) → all_freed (xs ++ ys) ≡ all_freed xs + all_freed ys
freed_both xs ys = sum_by-append (λ (b : MovedBatch). b.freed) xs ys

pub freed_cons : (x : MovedBatch) (xs : List MovedBatch) → all_freed (x ∷ xs) ≡ x.freed + all_freed xs
freed_cons x xs = sum_by-cons (λ (b : MovedBatch). b.freed) x xs

pub takes_more : (h : History) (e : Event) → takes_in (h ++ e ∷ []) ≡ takes_in h ++ takes_in (e ∷ [])
takes_more h e = filter-append is_take h (e ∷ [])

pub one_take : (e : Event) → kind_of e.what ≡ Take → takes_in (e ∷ []) ≡ e ∷ []
one_take e is = rw is refl

-- ---- one of the batches that wait

-- its batch, and those before and after it
pub record HasWaiting (batches : List MovedBatch) (front back : List WaitingFlight) (flight : WaitingFlight) : Type 0 where
  pub before : List MovedBatch
  pub batch : MovedBatch
  pub after : List MovedBatch
  pub batches_are : batches ≡ before ++ batch ∷ after
  pub before_waits : AreWaiting before front
  pub waits : Waits batch flight
  pub after_waits : AreWaiting after back

pub has_waiting : (bs : List MovedBatch) (front back : List WaitingFlight) (f : WaitingFlight) → AreWaiting bs (front ++ f ∷ back) → HasWaiting bs front back f
has_waiting [] [] back f are = absurd are
has_waiting [] (g ∷ front) back f are = absurd are
has_waiting (b ∷ bs) [] back f are = record { before = []; batch = b; after = bs; batches_are = refl; before_waits = tt; waits = are.0; after_waits = are.1 }
has_waiting (b ∷ bs) (g ∷ front) back f are =
    let r = has_waiting bs front back f are.1 in
    record { before = b ∷ r.before; batch = r.batch; after = r.after; batches_are = ap (λ xs. b ∷ xs) r.batches_are; before_waits = (are.0, r.before_waits); waits = r.waits; after_waits = r.after_waits }

pub are_waiting : (bs : List MovedBatch) (front : List WaitingFlight) (b : MovedBatch) (f : WaitingFlight) (cs : List MovedBatch) (back : List WaitingFlight) → AreWaiting bs front → Waits b f → AreWaiting cs back → AreWaiting (bs ++ b ∷ cs) (front ++ f ∷ back)
are_waiting [] [] b f cs back before is after = (is, after)
are_waiting [] (g ∷ front) b f cs back before is after = absurd before
are_waiting (x ∷ bs) [] b f cs back before is after = absurd before
are_waiting (x ∷ bs) (g ∷ front) b f cs back before is after = (before.0, are_waiting bs front b f cs back before.1 is after)

none_waiting : (bs : List MovedBatch) → AreWaiting bs [] → bs ≡ []
none_waiting [] are = refl
none_waiting (b ∷ bs) are = absurd are

-- ---- a page is freed

-- batches with the same takes, of which so many pages more were freed at most
pub record LateAfterFree (freed : ℕ) (old : List MovedBatch) (waiting : List WaitingFlight) : Type 0 where
  pub batches : List MovedBatch
  pub waits : AreWaiting batches waiting
  pub takes_are : all_takes batches ≡ all_takes old
  pub freed_are : all_freed batches ≤ all_freed old + freed

loses_count : (taken freed n : ℕ) → taken + freed ≡ n → (taken - 1) + (n - (taken - 1)) ≡ n
loses_count taken freed n count = omega arith

loses_freed : (taken freed n : ℕ) → taken + freed ≡ n → n - (taken - 1) ≤ freed + 1
loses_freed taken freed n count = omega arith

loses_in : (bs : List MovedBatch) (front back : List WaitingFlight) (f : WaitingFlight) → AreWaiting bs (front ++ f ∷ back) → LateAfterFree 1 bs (front ++ record f { taken = f.taken - 1 } ∷ back)
loses_in bs front back f are =
    let r = has_waiting bs front back f are in
    let b : MovedBatch = record r.batch { freed = length r.batch.takes - (f.taken - 1) } in
    let g : WaitingFlight = record f { taken = f.taken - 1 } in
    let is : Waits b g = record { takes_are = r.waits.takes_are; some = r.waits.some; in_range = (let was = r.waits.in_range in omega (arith, was)); count = loses_count f.taken r.batch.freed (length r.batch.takes) r.waits.count } in
    let more : b.freed ≤ r.batch.freed + 1 = loses_freed f.taken r.batch.freed (length r.batch.takes) r.waits.count in
    let was : all_freed bs ≡ all_freed r.before + all_freed (r.batch ∷ r.after) = ap all_freed r.batches_are ∙ freed_both r.before (r.batch ∷ r.after) in
    let now : all_freed (r.before ++ b ∷ r.after) ≡ all_freed r.before + all_freed (b ∷ r.after) = freed_both r.before (b ∷ r.after) in
    record {
      batches = r.before ++ b ∷ r.after;
      waits = are_waiting r.before front b g r.after back r.before_waits is r.after_waits;
      takes_are = takes_both r.before (b ∷ r.after) ∙ sym (takes_both r.before (r.batch ∷ r.after)) ∙ sym (ap all_takes r.batches_are);
      freed_are = let one = freed_cons r.batch r.after in let other = freed_cons b r.after in omega (arith, was, now, more, one, other);
    }

pub loses : (n : ℕ) (bs : List MovedBatch) (old new : List WaitingFlight) → LosesPage n old new → AreWaiting bs old → LateAfterFree n bs new
loses n bs old new (loses_none same) are = record { batches = bs; waits = subst (λ fs. AreWaiting bs fs) (sym same) are; takes_are = refl; freed_are = omega arith }
loses n bs old new (loses_one front back f one was now) are =
    subst (λ k. LateAfterFree k bs new) (sym one) (subst (λ fs. LateAfterFree 1 bs fs) (sym now) (loses_in bs front back f (subst (λ fs. AreWaiting bs fs) was are)))

pub as_many_wait : (n : ℕ) (old new : List WaitingFlight) → LosesPage n old new → length new ≡ length old
as_many_wait n old new (loses_none same) = ap (λ fs. length fs) same
as_many_wait n old new (loses_one front back f one was now) = ap (λ fs. length fs) now ∙ length-append front (record f { taken = f.taken - 1 } ∷ back) ∙ sym (length-append front (f ∷ back)) ∙ ap (λ fs. length fs) (sym was)

-- ---- a page is taken

-- batches with one more take
pub record LateAfterTake (old : List MovedBatch) (e : Event) (waiting : List WaitingFlight) : Type 0 where
  pub batches : List MovedBatch
  pub waits : AreWaiting batches waiting
  pub takes_are : all_takes batches ≡ all_takes old ++ e ∷ []
  pub freed_are : all_freed batches ≡ all_freed old

pub begins_with : (bs : List MovedBatch) (fs : List WaitingFlight) (c n : ℕ) (e : Event) → IsBy c Take e → AreWaiting bs fs → LateAfterTake bs e (fs ++ record { caller = c; taken = 1; flight = n } ∷ [])
begins_with bs fs c n e by are =
    let b : MovedBatch = record { takes = e ∷ []; freed = 0 } in
    let is : Waits b (record { caller = c; taken = 1; flight = n }) = record { takes_are = All-cons (IsBy c Take) e [] by (All-nil (IsBy c Take)); some = omega arith; in_range = omega arith; count = refl } in
    record {
      batches = bs ++ b ∷ [];
      waits = are_waiting bs fs b (record { caller = c; taken = 1; flight = n }) [] [] are is tt;
      takes_are = takes_both bs (b ∷ []);
      freed_are = let more = freed_both bs (b ∷ []) in omega (arith, more);
    }

pub extends_with : (bs : List MovedBatch) (front : List WaitingFlight) (f : WaitingFlight) (c : ℕ) (e : Event) → f.caller ≡ c → f.taken + 1 ≤ max_batch → IsBy c Take e → AreWaiting bs (front ++ f ∷ []) → LateAfterTake bs e (front ++ record f { taken = f.taken + 1 } ∷ [])
extends_with bs front f c e same room by are =
    let r = has_waiting bs front [] f are in
    let b : MovedBatch = record r.batch { takes = r.batch.takes ++ e ∷ [] } in
    let g : WaitingFlight = record f { taken = f.taken + 1 } in
    let longer : length b.takes ≡ length r.batch.takes + 1 = length-append r.batch.takes (e ∷ []) in
    let mine : IsBy f.caller Take e = subst (λ d. IsBy d Take e) (sym same) by in
    let is : Waits b g = record { takes_are = All-append (IsBy f.caller Take) r.batch.takes (e ∷ []) r.waits.takes_are (All-cons (IsBy f.caller Take) e [] mine (All-nil (IsBy f.caller Take))); some = omega (arith, longer); in_range = room; count = (let was = r.waits.count in omega (arith, longer, was)) } in
    let last : r.after ≡ [] = none_waiting r.after r.after_waits in
    let bs_are : bs ≡ r.before ++ r.batch ∷ [] = r.batches_are ∙ ap (λ xs. r.before ++ r.batch ∷ xs) last in
    record {
      batches = r.before ++ b ∷ [];
      waits = are_waiting r.before front b g [] [] r.before_waits is tt;
      takes_are = takes_last r.before r.batch b e refl ∙ ap (λ xs. all_takes xs ++ e ∷ []) (sym bs_are);
      freed_are = freed_both r.before (b ∷ []) ∙ sym (freed_both r.before (r.batch ∷ [])) ∙ ap all_freed (sym bs_are);
    }
  where
    takes_last : (before : List MovedBatch) (a b : MovedBatch) (e : Event) → b.takes ≡ a.takes ++ e ∷ [] → all_takes (before ++ b ∷ []) ≡ all_takes (before ++ a ∷ []) ++ e ∷ []
    takes_last before a b e more =
        takes_both before (b ∷ [])
        ∙ ap (λ es. all_takes before ++ es) (append-nil b.takes ∙ more)
        ∙ sym (append_assoc (all_takes before) a.takes (e ∷ []))
        ∙ ap (λ es. es ++ e ∷ []) (ap (λ es. all_takes before ++ es) (sym (append-nil a.takes)) ∙ sym (takes_both before (a ∷ [])))

-- ---- the scan of a batch

pub is_moved_batch : (b : MovedBatch) (f : WaitingFlight) → Waits b f → IsMovedBatch b
is_moved_batch b f is = record { caller = f.caller; takes_are = is.takes_are; some = is.some; freed_are = (let count = is.count in omega (arith, count)); in_range = (let count = is.count in let range = is.in_range in omega (arith, count, range)) }

pub counts_taken : (b : MovedBatch) (f : WaitingFlight) → Waits b f → length b.takes - b.freed ≡ f.taken
counts_taken b f is = let count = is.count in omega (arith, count)

-- ---- a flight at a place

module _ (fs : List WaitingFlight) (i : ℕ) (f : WaitingFlight) (inside : i < length fs) (is : f ≡ get_or fs i f) where
  was_at : fs ≡ take i fs ++ f ∷ drop (i + 1) fs
  was_at = sym (take-append-drop i fs) ∙ ap (λ gs. take i fs ++ gs) (drop-cons fs i f inside ∙ ap (λ n. get_or fs i f ∷ drop n fs) (sym (add-one i)) ∙ ap (λ g. g ∷ drop (i + 1) fs) (sym is))

  now_at : (g : WaitingFlight) → set fs i g ≡ take i fs ++ g ∷ drop (i + 1) fs
  now_at g = sym (take-append-drop i (set fs i g)) ∙ ap (λ gs. gs ++ drop i (set fs i g)) (take-set fs i g) ∙ ap (λ gs. take i fs ++ gs) (drop-set fs i g inside)

  pub loses_at : (taken : ℕ) → taken ≡ f.taken - 1 → LosesPage 1 fs (set fs i (record f { taken = taken }))
  loses_at taken less = loses_one (take i fs) (drop (i + 1) fs) f refl was_at (now_at (record f { taken = taken }) ∙ ap (λ n. take i fs ++ record f { taken = n } ∷ drop (i + 1) fs) less)

  pub extends_at : (c : ℕ) → length fs ≤ i + 1 → f.caller ≡ c → f.taken + 1 ≤ max_batch → ExtendsLast c fs (set fs i (record f { taken = f.taken + 1 }))
  extends_at c last own room =
      let none : drop (i + 1) fs ≡ [] = grind (arith, common_steps) in
      record {
        front = take i fs;
        last = f;
        is_own = own;
        has_room = room;
        was = was_at ∙ ap (λ gs. take i fs ++ f ∷ gs) none;
        now = now_at (record f { taken = f.taken + 1 }) ∙ ap (λ gs. take i fs ++ record f { taken = f.taken + 1 } ∷ gs) none;
      }
