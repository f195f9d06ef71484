-- The script so far, event by event.
use Rattle.std.proofs.Common.{◌≡◌, ◌∙◌, ◌+◌, ◌≤◌, ℕ, Option, List, [], ◌∷◌, ◌++◌, add-one, cond, length, map, None, Some, append_assoc, ap, arith, length-append, refl, subst, sym, All, replicate, append-nil}
use Rattle.std.proofs.lemmas.List.{map-append}
use Rattle.std.proofs.lemmas.List.Elements.{All-append, All-cons, All-nil}
use Rattle.thp_history.specs.declared.events.Event.{Event}
use Rattle.thp_history.specs.Prelude.{History}
use Rattle.thp_script.specs.declared.script.Op.{Op}
use Rattle.thp_script.specs.declared.script.Op.TheVariants as op
use Rattle.thp_journal_scripts.specs.Prelude.{EventKind, Call, Take, Try, Put, ScriptBatch, Idle, Taking, Trying, Scanned, Open, Closing, open_by, pending_ops, settled, Completes, IsPending, PutsMore, RepeatsUpTo, TakesMore, TriesMore, nothing_moved, EndsWaiting, IsFoldedTo, IsScript, Moved, MovedSoFar, MovesBy, MovesEvent, AreLateScans, AreWaiting, CountsCall, IsMovedBatch, LosesPage, MovedBatch, TakesLate, WaitingFlight, begins_late, extends_late, all_freed, all_takes, freed_in, late_scan, takes_in, IsCallOrScan, IsWholeScans, capped_count, Interleaves, IsOfBatch, IsScan, neither, first, second, call_in, calls_in, calls_of, kind_of, AreBy, IsBy, IsScanBy, Repeats, RepeatsBy}
use Rattle.thp_journal_scripts.proofs.LateScanLaws.{begins_with, counts_taken, extends_with, freed_both, freed_cons, as_many_wait, is_moved_batch, loses, one_take, takes_both, takes_more}
use Rattle.thp_journal_scripts.proofs.RepeatLaws.{calls_in_both, calls_of_more, is_plain, no_calls_in_tries, repeats_more, repeats_tries, IsPlain}

-- ---- events of one kind

one_by : (c : ℕ) (kind : EventKind) (e : Event) → IsBy c kind e → AreBy c kind 1 (e ∷ [])
one_by c kind e by = (refl, All-cons (IsBy c kind) e [] by (All-nil (IsBy c kind)))

all_more : (c : ℕ) (kind : EventKind) (own : History) (e : Event) → All (IsBy c kind) own → IsBy c kind e → All (IsBy c kind) (own ++ e ∷ [])
all_more c kind own e all by = All-append (IsBy c kind) own (e ∷ []) all (All-cons (IsBy c kind) e [] by (All-nil (IsBy c kind)))

more_by : (c : ℕ) (kind : EventKind) (n : ℕ) (own : History) (e : Event) → AreBy c kind n own → IsBy c kind e → AreBy c kind (n + 1) (own ++ e ∷ [])
more_by c kind n own e are by = (omega (arith, are.0, length-append own (e ∷ [])), all_more c kind own e are.1 by)

-- ---- commands of events without one

no_calls_pending : (b : ScriptBatch) → calls_in (pending_ops b) ≡ []
no_calls_pending x = grind (arith, no_calls_in_tries)

-- the events without a command get one command
completed : (h : History) (past : List Op) (b : ScriptBatch) (o : Op) (after : ScriptBatch) → (r : RepeatsUpTo h past b) → RepeatsBy (open_by b) o r.pending (open_by after) → IsPending after [] → RepeatsUpTo h (past ++ o ∷ []) after
completed h past b o after r by none = grind (arith, append-nil, repeats_more)

settle_trying : (h : History) (past : List Op) (c n k : ℕ) → RepeatsUpTo h past (Trying c n k) → RepeatsUpTo h (past ++ op.Take n ∷ replicate k op.SplitNext) (Open c)
settle_trying h past c n k r =
    let takes = r.pending_is.0 in
    let tries = r.pending_is.1 in
    let took : Repeats None (past ++ op.Take n ∷ []) (r.done ++ takes) (Some c) = repeats_more None past r.done None (op.Take n) takes (Some c) r.repeats (c, refl, r.pending_is.3, refl) in
    let tried : Repeats None ((past ++ op.Take n ∷ []) ++ replicate (length tries) op.SplitNext) ((r.done ++ takes) ++ tries) (Some c) = repeats_tries c None tries (past ++ op.Take n ∷ []) (r.done ++ takes) took r.pending_is.4.1 in
    record {
      done = (r.done ++ takes) ++ tries;
      pending = [];
      parts = r.parts ∙ ap (λ g. r.done ++ g) r.pending_is.2 ∙ sym (append_assoc r.done takes tries) ∙ sym (append-nil ((r.done ++ takes) ++ tries));
      repeats = subst (λ os. Repeats None os ((r.done ++ takes) ++ tries) (Some c)) (ap (λ j. (past ++ op.Take n ∷ []) ++ replicate j op.SplitNext) r.pending_is.4.0 ∙ append_assoc past (op.Take n ∷ []) (replicate k op.SplitNext)) tried;
      pending_is = refl;
    }

settle_repeats : (h : History) (past : List Op) (b : ScriptBatch) → RepeatsUpTo h past b → RepeatsUpTo h (past ++ pending_ops b) (settled b)
settle_repeats h past Idle r = rw (append-nil past) r
settle_repeats h past (Taking c n) r = completed h past (Taking c n) (op.Take n) (Open c) r (c, refl, r.pending_is, refl) refl
settle_repeats h past (Trying c n k) r = settle_trying h past c n k r
settle_repeats h past (Scanned c n) r = completed h past (Scanned c n) (op.Scan n) Idle r (c, refl, r.pending_is, refl) refl
settle_repeats h past (Open c) r = rw (append-nil past) r
settle_repeats h past (Closing c) r = completed h past (Closing c) op.PutBack Idle r (c, refl, r.pending_is, refl) refl

complete_repeats : (h : History) (past : List Op) (b : ScriptBatch) (o : Op) → Completes b o → RepeatsUpTo h past b → RepeatsUpTo h (past ++ o ∷ []) Idle
complete_repeats h past Idle o never r = absurd never
complete_repeats h past (Taking c n) o never r = absurd never
complete_repeats h past (Trying c n k) o is r = subst (λ p. RepeatsUpTo h (past ++ p ∷ []) Idle) (sym is.1) (completed h past (Trying c n k) (op.Scan n) Idle r (c, refl, scan, refl) refl)
  where
    scan : IsScanBy c n r.pending
    scan = record {
      takes = r.pending_is.0;
      tries = r.pending_is.1;
      puts = [];
      parts = r.pending_is.2 ∙ sym (append-nil (r.pending_is.0 ++ r.pending_is.1));
      takes_are = r.pending_is.3;
      tries_are = subst (λ j. AreBy c Try j r.pending_is.1) is.0 r.pending_is.4;
      puts_are = All-nil (IsBy c Put);
    }
complete_repeats h past (Scanned c n) o is r = subst (λ p. RepeatsUpTo h (past ++ p ∷ []) Idle) (sym is) (completed h past (Scanned c n) (op.Scan n) Idle r (c, refl, r.pending_is, refl) refl)
complete_repeats h past (Open c) o never r = absurd never
complete_repeats h past (Closing c) o is r = subst (λ p. RepeatsUpTo h (past ++ p ∷ []) Idle) (sym is) (completed h past (Closing c) op.PutBack Idle r (c, refl, r.pending_is, refl) refl)

-- ---- one more event without a command

-- the events without a command, with one more
pending_more : (h : History) (past : List Op) (b after : ScriptBatch) (e : Event) → (r : RepeatsUpTo h past b) → open_by b ≡ open_by after → IsPending after (r.pending ++ e ∷ []) → RepeatsUpTo (h ++ e ∷ []) past after
pending_more h past b after e r same is = grind (arith, append_assoc)

take_repeats : (h : History) (past : List Op) (b after : ScriptBatch) (by : ℕ) (e : Event) → TakesMore b by after → IsBy by Take e → RepeatsUpTo h past b → RepeatsUpTo (h ++ e ∷ []) past after
take_repeats h past Idle after by e never is r = absurd never
take_repeats h past (Taking c n) after by e more is r =
    subst (λ a. RepeatsUpTo (h ++ e ∷ []) past a) (sym more.1)
    (pending_more h past (Taking c n) (Taking c (n + 1)) e r refl (more_by c Take n r.pending e r.pending_is (subst (λ d. IsBy d Take e) (sym more.0) is)))
take_repeats h past (Trying c n k) after by e never is r = absurd never
take_repeats h past (Scanned c n) after by e never is r = absurd never
take_repeats h past (Open c) after by e never is r = absurd never
take_repeats h past (Closing c) after by e never is r = absurd never

try_repeats : (h : History) (past : List Op) (b after : ScriptBatch) (by : ℕ) (e : Event) → TriesMore b by after → IsBy by Try e → RepeatsUpTo h past b → RepeatsUpTo (h ++ e ∷ []) past after
try_repeats h past Idle after by e never is r = absurd never
try_repeats h past (Taking c n) after by e more is r =
    subst (λ a. RepeatsUpTo (h ++ e ∷ []) past a) (sym more.1)
    (pending_more h past (Taking c n) (Trying c n 1) e r refl (r.pending, e ∷ [], refl, r.pending_is, one_by c Try e (subst (λ d. IsBy d Try e) (sym more.0) is)))
try_repeats h past (Trying c n k) after by e more is r =
    let takes = r.pending_is.0 in
    let tries = r.pending_is.1 in
    subst (λ a. RepeatsUpTo (h ++ e ∷ []) past a) (sym more.1)
    (pending_more h past (Trying c n k) (Trying c n (k + 1)) e r refl
    (takes, tries ++ e ∷ [], ap (λ g. g ++ e ∷ []) r.pending_is.2 ∙ append_assoc takes tries (e ∷ []), r.pending_is.3, more_by c Try k tries e r.pending_is.4 (subst (λ d. IsBy d Try e) (sym more.0) is)))
try_repeats h past (Scanned c n) after by e never is r = absurd never
try_repeats h past (Open c) after by e never is r = absurd never
try_repeats h past (Closing c) after by e never is r = absurd never

put_repeats : (h : History) (past : List Op) (b after : ScriptBatch) (by : ℕ) (e : Event) → PutsMore b by after → IsBy by Put e → RepeatsUpTo h past b → RepeatsUpTo (h ++ e ∷ []) past after
put_repeats h past Idle after by e never is r = absurd never
put_repeats h past (Taking c n) after by e never is r = absurd never
put_repeats h past (Trying c n k) after by e more is r =
    subst (λ a. RepeatsUpTo (h ++ e ∷ []) past a) (sym more.2) (pending_more h past (Trying c n k) (Scanned c n) e r refl (record {
      takes = r.pending_is.0;
      tries = r.pending_is.1;
      puts = e ∷ [];
      parts = ap (λ g. g ++ e ∷ []) r.pending_is.2;
      takes_are = r.pending_is.3;
      tries_are = subst (λ j. AreBy c Try j r.pending_is.1) more.1 r.pending_is.4;
      puts_are = All-cons (IsBy c Put) e [] (subst (λ d. IsBy d Put e) (sym more.0) is) (All-nil (IsBy c Put));
    }))
put_repeats h past (Scanned c n) after by e more is r =
    let p : IsScanBy c n r.pending = r.pending_is in
    subst (λ a. RepeatsUpTo (h ++ e ∷ []) past a) (sym more.1) (pending_more h past (Scanned c n) (Scanned c n) e r refl (record {
      takes = p.takes;
      tries = p.tries;
      puts = p.puts ++ e ∷ [];
      parts = ap (λ g. g ++ e ∷ []) p.parts ∙ append_assoc (p.takes ++ p.tries) p.puts (e ∷ []);
      takes_are = p.takes_are;
      tries_are = p.tries_are;
      puts_are = all_more c Put p.puts e p.puts_are (subst (λ d. IsBy d Put e) (sym more.0) is);
    }))
put_repeats h past (Open c) after by e never is r = absurd never
put_repeats h past (Closing c) after by e more is r =
    subst (λ a. RepeatsUpTo (h ++ e ∷ []) past a) (sym more.1)
    (pending_more h past (Closing c) (Closing c) e r refl (all_more c Put r.pending e r.pending_is (subst (λ d. IsBy d Put e) (sym more.0) is)))

-- ---- no event without a command

-- a command repeats one more event
plain_repeats : (h : History) (past : List Op) (b : ScriptBatch) (e : Event) (o : Op) → (r : RepeatsUpTo h past b) → r.pending ≡ [] → IsPending b [] → RepeatsBy (open_by b) o (e ∷ []) (open_by b) → RepeatsUpTo (h ++ e ∷ []) (past ++ o ∷ []) b
plain_repeats h past b e o r none is by = grind (arith, append-nil, repeats_more)

-- a call
call_by : (batch : Option ℕ) (e : Event) (o : Op) → kind_of e.what ≡ Call o → RepeatsBy batch o (e ∷ []) batch
call_by batch e o is = grind (arith, IsPlain, is_plain)

call_repeats : (h : History) (past : List Op) (b : ScriptBatch) (e : Event) (o : Op) → kind_of e.what ≡ Call o → RepeatsUpTo h past (settled b) → RepeatsUpTo (h ++ e ∷ []) (past ++ o ∷ []) (settled b)
call_repeats h past Idle e o is r = plain_repeats h past Idle e o r r.pending_is refl (call_by None e o is)
call_repeats h past (Taking c n) e o is r = plain_repeats h past (Open c) e o r r.pending_is refl (call_by (Some c) e o is)
call_repeats h past (Trying c n k) e o is r = plain_repeats h past (Open c) e o r r.pending_is refl (call_by (Some c) e o is)
call_repeats h past (Scanned c n) e o is r = plain_repeats h past Idle e o r r.pending_is refl (call_by None e o is)
call_repeats h past (Open c) e o is r = plain_repeats h past (Open c) e o r r.pending_is refl (call_by (Some c) e o is)
call_repeats h past (Closing c) e o is r = plain_repeats h past Idle e o r r.pending_is refl (call_by None e o is)

-- ---- the script so far

no_call_completes : (b : ScriptBatch) (o : Op) → Completes b o → calls_in (o ∷ []) ≡ []
no_call_completes x o never = grind arith

-- commands that are no calls
batch_commands : (h : History) (past more : List Op) → calls_in past ≡ calls_of h → calls_in more ≡ [] → calls_in (past ++ more) ≡ calls_of h
batch_commands h past more calls none = calls_in_both past more ∙ ap (λ os. calls_in past ++ os) none ∙ append-nil (calls_in past) ∙ calls

-- an event that is no call
batch_event : (h : History) (past : List Op) (e : Event) → calls_in past ≡ calls_of h → call_in (kind_of e.what) ≡ [] → calls_in past ≡ calls_of (h ++ e ∷ [])
batch_event h past e calls none = calls ∙ sym (calls_of_more h e ∙ ap (λ os. calls_of h ++ os) none ∙ append-nil (calls_of h))

-- ---- kept and moved events, and their commands

module _ {X : Type 0} where
  first_more : {xs ys zs : List X} (ms : List X) → Interleaves xs ys zs → Interleaves (xs ++ ms) ys (zs ++ ms)
  first_more [] neither = neither
  first_more (m ∷ ms) neither = first (first_more ms neither)
  first_more ms (first i) = first (first_more ms i)
  first_more ms (second i) = second (first_more ms i)

  second_more : {xs ys zs : List X} (m : X) → Interleaves xs ys zs → Interleaves xs (ys ++ m ∷ []) (zs ++ m ∷ [])
  second_more m neither = second neither
  second_more m (first i) = first (second_more m i)
  second_more m (second i) = second (second_more m i)

  first_alone : {xs zs : List X} → Interleaves xs [] zs → xs ≡ zs
  first_alone neither = refl
  first_alone (first {x = x} i) = ap (λ xs. x ∷ xs) (first_alone i)

-- no fewer calls
still_called : (n : ℕ) (h : History) (e : Event) → n ≤ length (calls_of h) → n ≤ length (calls_of (h ++ e ∷ []))
still_called n h e most = let more : length (calls_of (h ++ e ∷ [])) ≡ length (calls_of h) + length (call_in (kind_of e.what)) = ap (λ os. length os) (calls_of_more h e) ∙ length-append (calls_of h) (call_in (kind_of e.what)) in omega (arith, most, more)

-- more commands, and what the kept events then have
module _ (h : History) (past : List Op) (b after : ScriptBatch) (n : MovedSoFar) (f : IsFoldedTo h past b n) where
  more_commands : (more : List Op) → calls_in more ≡ [] → RepeatsUpTo f.kept (f.here ++ more) after → IsFoldedTo h (past ++ more) after n
  more_commands more none repeats = grind (arith, batch_commands, first_more)

  more_events : (more : List Op) (e : Event) → calls_in (past ++ more) ≡ calls_of (h ++ e ∷ []) → RepeatsUpTo (f.kept ++ e ∷ []) (f.here ++ more) after → IsFoldedTo (h ++ e ∷ []) (past ++ more) after n
  more_events more e calls repeats = grind (arith, first_more, still_called)

  -- an event without a command yet
  one_event : (e : Event) → call_in (kind_of e.what) ≡ [] → RepeatsUpTo (f.kept ++ e ∷ []) f.here after → IsFoldedTo (h ++ e ∷ []) past after n
  one_event e none repeats =
      subst (λ os. IsFoldedTo (h ++ e ∷ []) os after n) (append-nil past)
      (more_events [] e (ap calls_in (append-nil past) ∙ batch_event h past e f.calls none) (subst (λ os. RepeatsUpTo (f.kept ++ e ∷ []) os after) (sym (append-nil f.here)) repeats))

-- the commands of events without one, if the batch continues
pub settled_twice : (b : ScriptBatch) → settled (settled b) ≡ settled b
settled_twice x = grind arith

pub settles : (h : History) (past : List Op) (b : ScriptBatch) (n : MovedSoFar) → IsFoldedTo h past b n → IsFoldedTo h (past ++ pending_ops b) (settled b) n
settles h past b n f = more_commands h past b (settled b) n f (pending_ops b) (no_calls_pending b) (settle_repeats f.kept f.here b f.repeats)

-- the command that completes the batch
pub completes : (h : History) (past : List Op) (b : ScriptBatch) (n : MovedSoFar) (o : Op) → Completes b o → IsFoldedTo h past b n → IsFoldedTo h (past ++ o ∷ []) Idle n
completes h past b n o is f = more_commands h past b Idle n f (o ∷ []) (no_call_completes b o is) (complete_repeats f.kept f.here b o is f.repeats)

-- one more event of the batch
pub one_more_take : (h : History) (past : List Op) (b after : ScriptBatch) (n : MovedSoFar) (by : ℕ) (e : Event) → TakesMore b by after → IsBy by Take e → IsFoldedTo h past b n → IsFoldedTo (h ++ e ∷ []) past after n
one_more_take h past b after n by e more is f = one_event h past b after n f e (ap call_in is.1) (take_repeats f.kept f.here b after by e more is f.repeats)

pub one_more_try : (h : History) (past : List Op) (b after : ScriptBatch) (n : MovedSoFar) (by : ℕ) (e : Event) → TriesMore b by after → IsBy by Try e → IsFoldedTo h past b n → IsFoldedTo (h ++ e ∷ []) past after n
one_more_try h past b after n by e more is f = one_event h past b after n f e (ap call_in is.1) (try_repeats f.kept f.here b after by e more is f.repeats)

pub one_more_put : (h : History) (past : List Op) (b after : ScriptBatch) (n : MovedSoFar) (by : ℕ) (e : Event) → PutsMore b by after → IsBy by Put e → IsFoldedTo h past b n → IsFoldedTo (h ++ e ∷ []) past after n
one_more_put h past b after n by e more is f = one_event h past b after n f e (ap call_in is.1) (put_repeats f.kept f.here b after by e more is f.repeats)

-- a call without a count, once the events before it have their commands
uncounted_call : (h : History) (past : List Op) (b : ScriptBatch) (n : MovedSoFar) (e : Event) (o : Op) → kind_of e.what ≡ Call o → IsFoldedTo h past (settled b) n → IsFoldedTo (h ++ e ∷ []) (past ++ o ∷ []) (settled b) n
uncounted_call h past b n e o is f =
    let plain : IsPlain (Call o) = subst IsPlain is (is_plain e.what) in
    let own : calls_in (o ∷ []) ≡ o ∷ [] = ap (λ t. cond t (o ∷ []) []) plain.0 in
    more_events h past (settled b) (settled b) n f (o ∷ []) e (calls_in_both past (o ∷ []) ∙ ap (λ os. os ++ calls_in (o ∷ [])) f.calls ∙ ap (λ os. calls_of h ++ os) (own ∙ sym (ap call_in is)) ∙ sym (calls_of_more h e))
    (call_repeats f.kept f.here b e o is f.repeats)

-- with it
pub one_more_call : (h : History) (past : List Op) (b : ScriptBatch) (n m : MovedSoFar) (e : Event) (o : Op) → kind_of e.what ≡ Call o → CountsCall n m → IsFoldedTo h past (settled b) n → IsFoldedTo (h ++ e ∷ []) (past ++ o ∷ []) (settled b) m
one_more_call h past b n m e o is counts f =
    let g = uncounted_call h past b n e o is f in
    let same : m ≡ record n { calls = m.calls } = counts.0 in
    let events_same : m.events ≡ n.events = ap (λ (x : MovedSoFar). x.events) same in
    let batches_same : m.batches ≡ n.batches = ap (λ (x : MovedSoFar). x.batches) same in
    let waiting_same : m.waiting ≡ n.waiting = ap (λ (x : MovedSoFar). x.waiting) same in
    let freed_same : m.freed ≡ n.freed = ap (λ (x : MovedSoFar). x.freed) same in
    record {
      calls = g.calls;
      kept = g.kept;
      away = g.away;
      here = g.here;
      late = g.late;
      ended = g.ended;
      standing = g.standing;
      events_are = g.events_are;
      commands_are = g.commands_are;
      repeats = g.repeats;
      away_are = g.away_are;
      late_are = g.late_are;
      count = events_same ∙ g.count;
      batches = batches_same ∙ g.batches ∙ ap (λ fs. capped_count (length g.late + length fs)) (sym waiting_same);
      none_late = λ zero. g.none_late (sym events_same ∙ zero);
      none_waits = λ zero. waiting_same ∙ g.none_waits (sym events_same ∙ zero);
      each = g.each;
      waits = subst (λ fs. AreWaiting g.standing fs) (sym waiting_same) g.waits;
      takes_are = g.takes_are;
      scans_are = g.scans_are;
      freed_are = let bound = g.freed_are in omega (arith, bound, freed_same);
      called = let most = f.called in let once = counts.1 in let longer : length (calls_of (h ++ e ∷ [])) ≡ length (calls_of h) + 1 = ap (λ os. length os) (calls_of_more h e) ∙ length-append (calls_of h) (call_in (kind_of e.what)) ∙ ap (λ k. length (calls_of h) + length (call_in k)) is in omega (arith, most, once, longer);
      none_called = λ zero. counts.2 (none_waiting n.batches (length g.late) n.waiting g.batches (sym batches_same ∙ zero)) ∙ g.none_called (sym batches_same ∙ zero);
    }
  where
    none_waiting : (n l : ℕ) (fs : List WaitingFlight) → n ≡ capped_count (l + length fs) → n ≡ 0 → fs ≡ []
    none_waiting n l [] count zero = refl
    none_waiting n l (x ∷ fs) count zero = let more : length fs + 1 ≡ length (x ∷ fs) = add-one (length fs) in absurd (omega (arith, count, zero, more))

-- the first take of a batch
pub first_take : (h : History) (past : List Op) (n : MovedSoFar) (c : ℕ) (e : Event) → IsBy c Take e → IsFoldedTo h past Idle n → IsFoldedTo (h ++ e ∷ []) past (Taking c 1) n
first_take h past n c e is f =
    let r : RepeatsUpTo f.kept f.here Idle = f.repeats in
    one_event h past Idle (Taking c 1) n f e (ap call_in is.1)
    (pending_more f.kept f.here Idle (Taking c 1) e r refl (subst (λ g. AreBy c Take 1 (g ++ e ∷ [])) (sym r.pending_is) (one_by c Take e is)))

-- a try of the open batch
pub open_try : (h : History) (past : List Op) (n : MovedSoFar) (c : ℕ) (e : Event) → IsBy c Try e → IsFoldedTo h past (Open c) n → IsFoldedTo (h ++ e ∷ []) (past ++ op.SplitNext ∷ []) (Open c) n
open_try h past n c e is f =
    let r : RepeatsUpTo f.kept f.here (Open c) = f.repeats in
    more_events h past (Open c) (Open c) n f (op.SplitNext ∷ []) e (batch_commands (h ++ e ∷ []) past (op.SplitNext ∷ []) (batch_event h past e f.calls (ap call_in is.1)) refl)
    (plain_repeats f.kept f.here (Open c) e op.SplitNext r r.pending_is refl (c, refl, one_by c Try e is, refl))

-- the first page of the open batch that is put back
pub open_put : (h : History) (past : List Op) (n : MovedSoFar) (c : ℕ) (e : Event) → IsBy c Put e → IsFoldedTo h past (Open c) n → IsFoldedTo (h ++ e ∷ []) past (Closing c) n
open_put h past n c e is f =
    let r : RepeatsUpTo f.kept f.here (Open c) = f.repeats in
    one_event h past (Open c) (Closing c) n f e (ap call_in is.1)
    (pending_more f.kept f.here (Open c) (Closing c) e r refl (subst (λ g. All (IsBy c Put) (g ++ e ∷ [])) (sym r.pending_is) (All-cons (IsBy c Put) e [] is (All-nil (IsBy c Put)))))

-- a put back of no page
pub puts_nothing : (h : History) (past : List Op) (n : MovedSoFar) (c : ℕ) → IsFoldedTo h past (Open c) n → IsFoldedTo h (past ++ op.PutBack ∷ []) Idle n
puts_nothing h past n c f =
    let r : RepeatsUpTo f.kept f.here (Open c) = f.repeats in
    more_commands h past (Open c) Idle n f (op.PutBack ∷ []) refl
    (completed f.kept f.here (Open c) op.PutBack Idle r (c, refl, subst (λ g. All (IsBy c Put) g) (sym r.pending_is) (All-nil (IsBy c Put)), refl) refl)

-- ---- out of order

module _ (h : History) (past : List Op) (b : ScriptBatch) (n m : MovedSoFar) (e : Event) (none : call_in (kind_of e.what) ≡ []) (f : IsFoldedTo h past b n) where
  -- a moved event, whose batches then are these
  moves : (standing : List MovedBatch) → m.events ≡ capped_count (n.events + 1) → m.freed ≡ n.freed → m.calls ≡ n.calls → (m.batches ≡ 0 → n.batches ≡ 0) → m.batches ≡ capped_count (length f.late + length m.waiting) → AreWaiting standing m.waiting → takes_in (f.away ++ e ∷ []) ≡ all_takes f.ended ++ all_takes standing → all_freed standing ≡ all_freed f.standing → IsFoldedTo (h ++ e ∷ []) past b m
  moves standing more freed called fewer batches waits takes freed_are =
      let longer : length (f.away ++ e ∷ []) ≡ length f.away + 1 = length-append f.away (e ∷ []) in
      record {
        calls = batch_event h past e f.calls none;
        kept = f.kept;
        away = f.away ++ e ∷ [];
        here = f.here;
        late = f.late;
        ended = f.ended;
        standing = standing;
        events_are = second_more e f.events_are;
        commands_are = f.commands_are;
        repeats = f.repeats;
        away_are = All-append IsOfBatch f.away (e ∷ []) f.away_are (All-cons IsOfBatch e [] none (All-nil IsOfBatch));
        late_are = f.late_are;
        count = count_more n.events m.events (length f.away) (length (f.away ++ e ∷ [])) more f.count longer;
        batches = batches;
        none_late = λ zero. absurd (never_zero n.events m.events more zero);
        none_waits = λ zero. absurd (never_zero n.events m.events more zero);
        each = f.each;
        waits = waits;
        takes_are = takes;
        scans_are = f.scans_are;
        freed_are = let bound = f.freed_are in omega (arith, bound, freed, freed_are);
        called = still_called m.calls h e (let most = f.called in omega (arith, most, called));
        none_called = λ zero. called ∙ f.none_called (fewer zero);
      }
    where
      count_more : (n m k l : ℕ) → m ≡ capped_count (n + 1) → n ≡ capped_count k → l ≡ k + 1 → m ≡ capped_count l
      count_more n m k l more count longer = omega arith

      never_zero : (n m : ℕ) → m ≡ capped_count (n + 1) → m ≡ 0 → ⊥
      never_zero n m more zero = omega arith

  takes_after : (batches : List MovedBatch) → kind_of e.what ≡ Take → all_takes batches ≡ all_takes f.standing ++ e ∷ [] → takes_in (f.away ++ e ∷ []) ≡ all_takes f.ended ++ all_takes batches
  takes_after batches is more =
      takes_more f.away e ∙ ap (λ es. takes_in f.away ++ es) (one_take e is) ∙ ap (λ es. es ++ e ∷ []) f.takes_are ∙ append_assoc (all_takes f.ended) (all_takes f.standing) (e ∷ []) ∙ ap (λ es. all_takes f.ended ++ es) (sym more)

  -- a take that is not at its place
  pub take_waits : (c : ℕ) → IsBy c Take e → m.events ≡ capped_count (n.events + 1) → m.freed ≡ n.freed → m.calls ≡ n.calls → TakesLate c n m → IsFoldedTo (h ++ e ∷ []) past b m
  take_waits c by more freed called (begins_late flight now batches) =
      let late = begins_with f.standing n.waiting c flight e by f.waits in
      let longer : length m.waiting ≡ length n.waiting + 1 = ap (λ fs. length fs) now ∙ length-append n.waiting (record { caller = c; taken = 1; flight = flight } ∷ []) in
      moves late.batches more freed called (λ zero. absurd (never n.batches m.batches batches zero)) (one_more n.batches m.batches (length f.late) (length n.waiting) (length m.waiting) f.batches batches longer) (subst (λ fs. AreWaiting late.batches fs) (sym now) late.waits) (takes_after late.batches by.1 late.takes_are) late.freed_are
    where
      never : (n m : ℕ) → m ≡ capped_count (n + 1) → m ≡ 0 → ⊥
      never n m more zero = omega arith

      one_more : (n m l v w : ℕ) → n ≡ capped_count (l + v) → m ≡ capped_count (n + 1) → w ≡ v + 1 → m ≡ capped_count (l + w)
      one_more n m l v w was now longer = omega arith
  take_waits c by more freed called (extends_late x batches) =
      let front = x.front in
      let last = x.last in
      let was = x.was in
      let now = x.now in
      let late = extends_with f.standing front last c e x.is_own x.has_room by (subst (λ fs. AreWaiting f.standing fs) was f.waits) in
      let as_long : length m.waiting ≡ length n.waiting = ap (λ fs. length fs) now ∙ length-append front (record last { taken = last.taken + 1 } ∷ []) ∙ sym (length-append front (last ∷ [])) ∙ ap (λ fs. length fs) (sym was) in
      moves late.batches more freed called (λ zero. sym batches ∙ zero) (batches ∙ f.batches ∙ ap (λ w. capped_count (length f.late + w)) (sym as_long)) (subst (λ fs. AreWaiting late.batches fs) (sym now) late.waits) (takes_after late.batches by.1 late.takes_are) late.freed_are

  -- another event
  pub other_waits : takes_in (e ∷ []) ≡ [] → m ≡ record n { events = capped_count (n.events + 1) } → IsFoldedTo (h ++ e ∷ []) past b m
  other_waits other same =
      moves f.standing (ap (λ (x : MovedSoFar). x.events) same) (ap (λ (x : MovedSoFar). x.freed) same) (ap (λ (x : MovedSoFar). x.calls) same) (λ zero. ap (λ (x : MovedSoFar). x.batches) (sym same) ∙ zero) (ap (λ (x : MovedSoFar). x.batches) same ∙ f.batches ∙ ap (λ (x : MovedSoFar). capped_count (length f.late + length x.waiting)) (sym same))
      (subst (λ (x : MovedSoFar). AreWaiting f.standing x.waiting) (sym same) f.waits)
      (takes_more f.away e ∙ ap (λ es. takes_in f.away ++ es) other ∙ append-nil (takes_in f.away) ∙ f.takes_are) refl

-- an event that is not at its place
pub waits : (h : History) (past : List Op) (b : ScriptBatch) (n m : MovedSoFar) (e : Event) (c : ℕ) (kind : EventKind) → call_in kind ≡ [] → IsBy c kind e → MovesEvent c kind n m → IsFoldedTo h past b n → IsFoldedTo (h ++ e ∷ []) past b m
waits h past b n m e c (Call o) none is more f = let never : o ∷ [] ≡ [] = none in absurd (cc)
waits h past b n m e c Take none is more f = take_waits h past b n m e (ap call_in is.1) f c is more.0 more.1 more.2 more.3
waits h past b n m e c Try none is more f = other_waits h past b n m e (ap call_in is.1) f (rw is.1 refl) more
waits h past b n m e c Put none is more f = other_waits h past b n m e (ap call_in is.1) f (rw is.1 refl) more

-- the scan of the first batch that waits
pub scans : (h : History) (past : List Op) (b : ScriptBatch) (n m : MovedSoFar) (k : ℕ) → (n.events ≡ 0 → ⊥) → EndsWaiting k n m → IsFoldedTo h past b n → IsFoldedTo h (past ++ op.Scan k ∷ []) b m
scans h past b n m k some ends f = scanned f.standing (subst (λ (x : MovedSoFar). AreWaiting f.standing x.waiting) ends.1 f.waits) f.takes_are f.freed_are
  where
    was : n ≡ record m { waiting = ends.0 ∷ m.waiting }
    was = ends.1

    one_longer : length (f.late ++ op.Scan k ∷ []) ≡ length f.late + 1
    one_longer = length-append f.late (op.Scan k ∷ [])

    batches_same : (m k l v w : ℕ) → m ≡ capped_count (k + v) → v ≡ w + 1 → l ≡ k + 1 → m ≡ capped_count (l + w)
    batches_same m k l v w count less longer = omega arith

    scanned : (standing : List MovedBatch) → AreWaiting standing (ends.0 ∷ m.waiting) → takes_in f.away ≡ all_takes f.ended ++ all_takes standing → all_freed f.ended + all_freed standing ≤ n.freed → IsFoldedTo h (past ++ op.Scan k ∷ []) b m
    scanned [] never takes freed = absurd never
    scanned (x ∷ rest) are takes freed = record {
      calls = batch_commands h past (op.Scan k ∷ []) f.calls refl;
      kept = f.kept;
      away = f.away;
      here = f.here;
      late = f.late ++ op.Scan k ∷ [];
      ended = f.ended ++ x ∷ [];
      standing = rest;
      events_are = f.events_are;
      commands_are = second_more (op.Scan k) f.commands_are;
      repeats = f.repeats;
      away_are = f.away_are;
      late_are = All-append IsScan f.late (op.Scan k ∷ []) f.late_are (All-cons IsScan (op.Scan k) [] tt (All-nil IsScan));
      count = ap (λ (x : MovedSoFar). x.events) (sym was) ∙ f.count;
      batches = batches_same m.batches (length f.late) (length (f.late ++ op.Scan k ∷ [])) (length (ends.0 ∷ m.waiting)) (length m.waiting) (subst (λ (y : MovedSoFar). y.batches ≡ capped_count (length f.late + length y.waiting)) was f.batches) (sym (add-one (length m.waiting))) one_longer;
      none_late = λ ok. absurd (some (ap (λ (y : MovedSoFar). y.events) was ∙ ok));
      none_waits = λ ok. absurd (some (ap (λ (y : MovedSoFar). y.events) was ∙ ok));
      each = All-append IsMovedBatch f.ended (x ∷ []) f.each (All-cons IsMovedBatch x [] (is_moved_batch x ends.0 are.0) (All-nil IsMovedBatch));
      waits = are.1;
      takes_are = takes ∙ sym (append_assoc (all_takes f.ended) x.takes (all_takes rest)) ∙ ap (λ es. (all_takes f.ended ++ es) ++ all_takes rest) (sym (append-nil x.takes)) ∙ ap (λ es. es ++ all_takes rest) (sym (takes_both f.ended (x ∷ [])));
      scans_are = ap (λ os. os ++ op.Scan k ∷ []) f.scans_are ∙ ap (λ j. map late_scan f.ended ++ op.Scan j ∷ []) (ends.2 ∙ sym (counts_taken x ends.0 are.0)) ∙ sym (map-append late_scan f.ended (x ∷ []));
      freed_are = let both = freed_both f.ended (x ∷ []) in let one = freed_cons x [] in let more = freed_cons x rest in let same = ap (λ (y : MovedSoFar). y.freed) was in omega (arith, both, one, more, same, freed);
      called = subst (λ (y : MovedSoFar). y.calls ≤ length (calls_of h)) was f.called;
      none_called = λ zero. ap (λ (y : MovedSoFar). y.calls) (sym was) ∙ f.none_called (ap (λ (y : MovedSoFar). y.batches) was ∙ zero);
    }

-- a call can free a page of a batch that waits
pub frees : (h : History) (past : List Op) (b : ScriptBatch) (n m : MovedSoFar) (k : ℕ) → LosesPage k n.waiting m.waiting → m.events ≡ n.events → m.batches ≡ n.batches → m.calls ≡ n.calls → m.freed ≡ n.freed + k → IsFoldedTo h past b n → IsFoldedTo h past b m
frees h past b n m k lost events batches calls freed f =
    let as_long = as_many_wait k n.waiting m.waiting lost in
    let late = loses k f.standing n.waiting m.waiting lost f.waits in
    record {
      calls = f.calls;
      kept = f.kept;
      away = f.away;
      here = f.here;
      late = f.late;
      ended = f.ended;
      standing = late.batches;
      events_are = f.events_are;
      commands_are = f.commands_are;
      repeats = f.repeats;
      away_are = f.away_are;
      late_are = f.late_are;
      count = events ∙ f.count;
      batches = batches ∙ f.batches ∙ ap (λ w. capped_count (length f.late + w)) (sym as_long);
      none_late = λ zero. f.none_late (sym events ∙ zero);
      none_waits = λ zero. no_more m.waiting n.waiting as_long (f.none_waits (sym events ∙ zero));
      each = f.each;
      waits = late.waits;
      takes_are = f.takes_are ∙ ap (λ es. all_takes f.ended ++ es) (sym late.takes_are);
      scans_are = f.scans_are;
      freed_are = let bound = f.freed_are in let more = late.freed_are in omega (arith, bound, more, freed);
      called = let most = f.called in omega (arith, most, calls);
      none_called = λ zero. calls ∙ f.none_called (sym batches ∙ zero);
    }
  where
    no_more : (new old : List WaitingFlight) → length new ≡ length old → old ≡ [] → new ≡ []
    no_more [] old same none = refl
    no_more (x ∷ new) old same none = let long : length (x ∷ new) ≡ 0 = same ∙ ap (λ fs. length fs) none in let more : length new + 1 ≡ length (x ∷ new) = add-one (length new) in absurd (omega (arith, long, more))

-- ---- the end

all_repeated : (h : History) (past : List Op) → RepeatsUpTo h past Idle → Repeats None past h None
all_repeated h past r = subst (λ g. Repeats None past g None) (sym (r.parts ∙ ap (λ g. r.done ++ g) r.pending_is ∙ append-nil r.done)) r.repeats

none_away : (away : History) → 0 ≡ capped_count (length away) → away ≡ []
none_away [] zero = refl
none_away (e ∷ es) zero = absurd (omega arith)

-- each late command is the scan of a batch moved
all_written : (n : MovedSoFar) → (n.events ≡ 0 → n.waiting ≡ []) → ((n.events ≡ 0 → ⊥) → n.waiting ≡ []) → n.waiting ≡ []
all_written n early done = grind arith

and_none : (n : ℕ) → n + 0 ≡ n
and_none n = omega arith

late_scans : (h : History) (past : List Op) (n : MovedSoFar) (f : IsFoldedTo h past Idle n) → n.waiting ≡ [] → n.freed ≡ freed_in h → AreLateScans h f.away f.late
late_scans h past n f none freed = ended f.standing (subst (λ fs. AreWaiting f.standing fs) none f.waits) f.takes_are f.freed_are
  where
    ended : (standing : List MovedBatch) → AreWaiting standing [] → takes_in f.away ≡ all_takes f.ended ++ all_takes standing → all_freed f.ended + all_freed standing ≤ n.freed → AreLateScans h f.away f.late
    ended (b ∷ bs) never takes bound = absurd never
    ended [] are takes bound = record { batches = f.ended; each = f.each; takes_are = takes ∙ append-nil (all_takes f.ended); scans_are = f.scans_are; freed_are = omega (arith, bound, freed) }

pub is_script : (h : History) (past : List Op) (moved : Moved) (n : MovedSoFar) → MovesBy moved n → n.freed ≡ freed_in h → IsFoldedTo h past Idle n → (IsWholeScans h → moved ≡ nothing_moved) → (IsWholeScans h → All IsCallOrScan past) → IsScript h past moved
is_script h past moved n same freed f none plain =
    let written : n.waiting ≡ [] = all_written n f.none_waits same.3 in
    record {
      calls = f.calls;
      repeats = grind (arith, none_away, first_alone, all_repeated);
      except = record {
        kept = f.kept;
        away = f.away;
        here = f.here;
        late = f.late;
        events_are = f.events_are;
        commands_are = f.commands_are;
        repeats = all_repeated f.kept f.here f.repeats;
        away_are = f.away_are;
        late_are = f.late_are;
        count = same.0 ∙ f.count;
        batches = same.1 ∙ f.batches ∙ ap (λ fs. capped_count (length f.late + length fs)) written ∙ ap capped_count (and_none (length f.late));
        scans = late_scans h past n f written freed;
        calls = let most = f.called in let as_many = same.2 in omega (arith, most, as_many);
        none_called = λ zero. same.2 ∙ f.none_called (sym same.1 ∙ zero);
      };
      whole = none;
      plain = plain;
    }
