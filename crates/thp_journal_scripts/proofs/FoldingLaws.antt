-- What each step of a script adds.
use Rattle.std.proofs.Common.{◌≡◌, ◌∙◌, ◌+◌, ℕ, arith, List, [], ◌∷◌, ◌++◌, append_assoc, ap, refl, subst, sym, All, append-nil}
use Rattle.std.proofs.lemmas.List.Elements.{All-append, All-cons, All-nil}
use Rattle.std.proofs.lemmas.List.Sums.{sum_by_push}
use Rattle.thp_history.specs.declared.events.Event.{Event}
use Rattle.thp_history.specs.declared.events.What.{What}
use Rattle.thp_history.specs.declared.events.What.TheVariants as what
use Rattle.thp_history.specs.Prelude.{with_block, History}
use Rattle.thp_script.specs.declared.script.Op.{Op}
use Rattle.thp_script.specs.declared.script.Op.TheVariants as op
use Rattle.thp_journal_scripts.specs.Prelude.{EventKind, Call, Take, Try, Put, Folding, ScriptBatch, Idle, Taking, Open, Closing, pending_ops, settled, Completes, PutsMore, TakesMore, TriesMore, nothing_moved, AddsCommands, AddsEvent, AddsPlain, AddsTo, EndsWaiting, FoldEnds, HasAdded, IsAtPlace, IsFoldedTo, Moved, MovedSoFar, MovesBy, MovesEvent, FollowsEvent, CountsCall, ExtendsLast, LosesPage, TakesLate, WaitingFlight, begins_late, extends_late, freed_in, moved_so_far, pages_freed, call_in, kind_of, IsBy, capped_count, scan_place, scan_place_after, Between, Elsewhere, InPuts, InTakes, InTries, IsCallOrScan, ScanPlace}
use Rattle.thp_journal_scripts.proofs.WholeScanLaws.{place_more, scans_more, stays_elsewhere}
use Rattle.thp_journal_scripts.proofs.ScriptBatchLaws.{completes, first_take, frees, is_script, one_more_call, one_more_put, one_more_take, one_more_try, open_put, open_try, puts_nothing, scans, settles, waits}

-- a command of a call is a call
abbrev pub IsPlainCall : EventKind → Type 0
IsPlainCall (Call o) = IsCallOrScan o
IsPlainCall _ = Unit {0}

-- what is the same for an allocation in any block is so for an event with any block
pub in_any_block : {X : Type 0} (f : What → X) → ((p b c : ℕ) → f (what.Alloc p b) ≡ f (what.Alloc p c)) → (b : ℕ) (w : What) → f (with_block b w) ≡ f w
in_any_block f same b (what.Alloc p c) = same p b c
in_any_block f same b w = refl

-- the same script, said of equal parts
as_said : (h : History) (ops more : List Op) (b after : ScriptBatch) (n m : MovedSoFar) → ops ≡ more → after ≡ b → m ≡ n → IsFoldedTo h ops b n → IsFoldedTo h more after m
as_said h ops more b after n m o e k f = subst (λ os. IsFoldedTo h os after m) o (subst (λ a. IsFoldedTo h ops a m) (sym e) (subst (λ j. IsFoldedTo h ops b j) (sym k) f))

-- the same is moved
pub with_freed : {x y : MovedSoFar} (k : ℕ) → x ≡ y → record x { freed = k } ≡ record y { freed = k }
with_freed k same = ap (λ (z : MovedSoFar). record z { freed = k }) same

moves_with : (k c : ℕ) (kind : EventKind) (old new : Folding) → MovesEvent c kind (moved_so_far 0 old) (moved_so_far 0 new) → MovesEvent c kind (moved_so_far k old) (moved_so_far k new)
moves_with k c (Call o) old new moves = with_freed k moves
moves_with k c Take old new moves = (moves.0, refl, moves.2, takes_with moves.3)
  where
    takes_with : TakesLate c (moved_so_far 0 old) (moved_so_far 0 new) → TakesLate c (moved_so_far k old) (moved_so_far k new)
    takes_with (begins_late flight now batches) = begins_late flight now batches
    takes_with (extends_late x batches) = extends_late x batches
moves_with k c Try old new moves = with_freed k moves
moves_with k c Put old new moves = with_freed k moves

counts_with : (k : ℕ) (old new : Folding) → CountsCall (moved_so_far 0 old) (moved_so_far 0 new) → CountsCall (moved_so_far k old) (moved_so_far k new)
counts_with k old new counts = (with_freed k counts.0, counts.1, counts.2)

ends_with : (k count : ℕ) (old new : Folding) → EndsWaiting count (moved_so_far 0 old) (moved_so_far 0 new) → EndsWaiting count (moved_so_far k old) (moved_so_far k new)
ends_with k count old new ends = (ends.0, with_freed k ends.1, ends.2)

pub same_so_far : (old new : Folding) → new.moved ≡ old.moved → new.waiting.items ≡ old.waiting.items → moved_so_far 0 new ≡ moved_so_far 0 old
same_so_far old new moved waiting = grind arith

-- a take is moved
pub take_moves : (c : ℕ) (a m b : Folding) → moved_so_far 0 m ≡ record (moved_so_far 0 a) { events = capped_count (a.moved.events + 1) } → b.moved.events ≡ m.moved.events → b.moved.calls ≡ m.moved.calls → TakesLate c (moved_so_far 0 m) (moved_so_far 0 b) → MovesEvent c Take (moved_so_far 0 a) (moved_so_far 0 b)
take_moves c a m b counted events calls takes = (events ∙ ap (λ (x : MovedSoFar). x.events) counted, refl, calls ∙ ap (λ (x : MovedSoFar). x.calls) counted, takes_late takes)
  where
    waiting : m.waiting.items ≡ a.waiting.items
    waiting = ap (λ (x : MovedSoFar). x.waiting) counted

    batches_are : m.moved.batches ≡ a.moved.batches
    batches_are = ap (λ (x : MovedSoFar). x.batches) counted

    takes_late : TakesLate c (moved_so_far 0 m) (moved_so_far 0 b) → TakesLate c (moved_so_far 0 a) (moved_so_far 0 b)
    takes_late (begins_late flight now batches) = begins_late flight (now ∙ ap (λ (fs : List WaitingFlight). fs ++ record { caller = c; taken = 1; flight = flight } ∷ []) waiting) (batches ∙ ap (λ n. capped_count (n + 1)) batches_are)
    takes_late (extends_late x batches) = extends_late (subst (λ (fs : List WaitingFlight). ExtendsLast c fs b.waiting.items) waiting x) (batches ∙ batches_are)

-- ---- calls and scans

pub no_command : (o p : List Op) → p ≡ o → HasAdded o p (All IsCallOrScan)
no_command o p same = ([], same ∙ sym (append-nil o), All-nil IsCallOrScan)

pub one_command : (o p : List Op) (x : Op) → p ≡ o ++ x ∷ [] → IsCallOrScan x → HasAdded o p (All IsCallOrScan)
one_command o p x more plain = (x ∷ [], more, All-cons IsCallOrScan x [] plain (All-nil IsCallOrScan))

pub more_commands : (o p q : List Op) → HasAdded o p (All IsCallOrScan) → HasAdded p q (All IsCallOrScan) → HasAdded o q (All IsCallOrScan)
more_commands o p q first then = (first.0 ++ then.0, then.1 ∙ ap (λ os. os ++ then.0) first.1 ∙ append_assoc o first.0 then.0, All-append IsCallOrScan first.0 then.0 first.2 then.2)

-- the command of a call is one
plain_call : (w : What) → IsPlainCall (kind_of w)
plain_call (what.Alloc p b) = tt
plain_call (what.MapWhole p) = tt
plain_call (what.UnmapWhole o p set) = tt
plain_call (what.MapSub p first count) = tt
plain_call (what.UnmapSub o p first count set) = tt
plain_call (what.SplitPmd p) = tt
plain_call (what.Pin p) = tt
plain_call (what.Unpin o p set) = tt
plain_call (what.Write p first count) = tt
plain_call (what.Zero p first count) = tt
plain_call (what.Taken p) = tt
plain_call (what.Split p set) = tt
plain_call (what.Pinned p) = tt
plain_call (what.Used p) = tt
plain_call (what.Back p) = tt
plain_call (what.Dropped p) = tt
plain_call what.Close = tt

pub call_is_plain : (w : What) (o : Op) → kind_of w ≡ Call o → IsCallOrScan o
call_is_plain w o kind = subst IsPlainCall kind (plain_call w)

-- what was added is determined
added_once : (o xs ys : List Op) → o ++ xs ≡ o ++ ys → xs ≡ ys
added_once [] xs ys same = same
added_once (x ∷ o) xs ys same = let rest : o ++ xs ≡ o ++ ys = cc in added_once o xs ys rest

-- ---- one after the other

module _ (o p q : List Op) where
  pub commands_then : (a b c d : Folding) → HasAdded o p (AddsCommands a b) → c.batch ≡ b.batch → moved_so_far 0 c ≡ moved_so_far 0 b → HasAdded p q (AddsCommands c d) → HasAdded o q (AddsCommands a d)
  commands_then a b c d first batch events then = (
    first.0 ++ then.0,
    then.1 ∙ ap (λ os. os ++ then.0) first.1 ∙ append_assoc o first.0 then.0,
    λ h past k f. as_said h ((past ++ first.0) ++ then.0) (past ++ (first.0 ++ then.0)) d.batch d.batch (moved_so_far k d) (moved_so_far k d) (append_assoc past first.0 then.0) refl refl
        (then.2 h (past ++ first.0) k (as_said h (past ++ first.0) (past ++ first.0) b.batch c.batch (moved_so_far k b) (moved_so_far k c) refl batch (with_freed k events) (first.2 h past k f))),
  )

  pub event_then : (e : Event) (a b c d : Folding) → HasAdded o p (FollowsEvent e a b) → c.batch ≡ b.batch → moved_so_far 0 c ≡ moved_so_far 0 b → HasAdded p q (AddsCommands c d) → HasAdded o q (FollowsEvent e a d)
  event_then e a b c d first batch events then = (
    first.0 ++ then.0,
    then.1 ∙ ap (λ os. os ++ then.0) first.1 ∙ append_assoc o first.0 then.0,
    λ h past k f. as_said (h ++ e ∷ []) ((past ++ first.0) ++ then.0) (past ++ (first.0 ++ then.0)) d.batch d.batch (moved_so_far (k + pages_freed e.what) d) (moved_so_far (k + pages_freed e.what) d) (append_assoc past first.0 then.0) refl refl
        (then.2 (h ++ e ∷ []) (past ++ first.0) (k + pages_freed e.what) (as_said (h ++ e ∷ []) (past ++ first.0) (past ++ first.0) b.batch c.batch (moved_so_far (k + pages_freed e.what) b) (moved_so_far (k + pages_freed e.what) c) refl batch (with_freed (k + pages_freed e.what) events) (first.2 h past k f))),
  )

-- the pages that the event frees
pub follow_then : (o p : List Op) (e : Event) (a m b : Folding) → HasAdded o p (AddsEvent e a m) → b.batch ≡ m.batch → b.moved ≡ m.moved → LosesPage (pages_freed e.what) m.waiting.items b.waiting.items → HasAdded o p (FollowsEvent e a b)
follow_then o p e a m b adds batch moved lost = (
  adds.0,
  adds.1,
  λ h past k f.
      subst (λ x. IsFoldedTo (h ++ e ∷ []) (past ++ adds.0) x (moved_so_far (k + pages_freed e.what) b)) (sym batch)
      (frees (h ++ e ∷ []) (past ++ adds.0) m.batch (moved_so_far k m) (moved_so_far (k + pages_freed e.what) b) (pages_freed e.what) lost (ap (λ (v : Moved). v.events) moved) (ap (λ (v : Moved). v.batches) moved) (ap (λ (v : Moved). v.calls) moved) refl (adds.2 h past k f)),
)

freed_more : (h : History) (e : Event) → freed_in (h ++ e ∷ []) ≡ freed_in h + pages_freed e.what
freed_more h e = sum_by_push (λ (x : Event). pages_freed x.what) h e

-- ---- single steps

module _ (o : List Op) (a b : Folding) where
  pub adds_nothing : b.batch ≡ a.batch → moved_so_far 0 b ≡ moved_so_far 0 a → HasAdded o o (AddsCommands a b)
  adds_nothing batch events = ([], sym (append-nil o), λ h past k f. as_said h past (past ++ []) a.batch b.batch (moved_so_far k a) (moved_so_far k b) (sym (append-nil past)) batch (with_freed k events) f)

  module _ (p : List Op) where
    pub adds_pending : p ≡ o ++ pending_ops a.batch → b.batch ≡ settled a.batch → moved_so_far 0 b ≡ moved_so_far 0 a → HasAdded o p (AddsCommands a b)
    adds_pending is batch events = (
      pending_ops a.batch,
      is,
      λ h past k f. as_said h (past ++ pending_ops a.batch) (past ++ pending_ops a.batch) (settled a.batch) b.batch (moved_so_far k a) (moved_so_far k b) refl batch (with_freed k events) (settles h past a.batch (moved_so_far k a) f),
    )

    pub adds_completion : (x : Op) → Completes a.batch x → p ≡ o ++ x ∷ [] → b.batch ≡ Idle → moved_so_far 0 b ≡ moved_so_far 0 a → HasAdded o p (AddsCommands a b)
    adds_completion x done is batch events = (
      x ∷ [],
      is,
      λ h past k f. as_said h (past ++ x ∷ []) (past ++ x ∷ []) Idle b.batch (moved_so_far k a) (moved_so_far k b) refl batch (with_freed k events) (completes h past a.batch (moved_so_far k a) x done f),
    )

    pub adds_put_back : (c : ℕ) → a.batch ≡ Open c → p ≡ o ++ op.PutBack ∷ [] → b.batch ≡ Idle → moved_so_far 0 b ≡ moved_so_far 0 a → HasAdded o p (AddsCommands a b)
    adds_put_back c opened is batch events = (
      op.PutBack ∷ [],
      is,
      λ h past k f. as_said h (past ++ op.PutBack ∷ []) (past ++ op.PutBack ∷ []) Idle b.batch (moved_so_far k a) (moved_so_far k b) refl batch (with_freed k events)
          (puts_nothing h past (moved_so_far k a) c (subst (λ x. IsFoldedTo h past x (moved_so_far k a)) opened f)),
    )

    pub adds_scan : (k : ℕ) → (a.moved.events ≡ 0 → ⊥) → p ≡ o ++ op.Scan k ∷ [] → b.batch ≡ a.batch → EndsWaiting k (moved_so_far 0 a) (moved_so_far 0 b) → HasAdded o p (AddsCommands a b)
    adds_scan k some is batch events = (
      op.Scan k ∷ [],
      is,
      λ h past j f. as_said h (past ++ op.Scan k ∷ []) (past ++ op.Scan k ∷ []) a.batch b.batch (moved_so_far j b) (moved_so_far j b) refl batch refl (scans h past a.batch (moved_so_far j a) (moved_so_far j b) k some (ends_with j k a b events) f),
    )

-- ---- events

module _ (o : List Op) (a b : Folding) (e : Event) where
  -- a part of the batch
  pub adds_take : (by : ℕ) (after : ScriptBatch) → TakesMore a.batch by after → IsBy by Take e → b.batch ≡ after → moved_so_far 0 b ≡ moved_so_far 0 a → HasAdded o o (AddsEvent e a b)
  adds_take by after more is batch events = (
    [],
    sym (append-nil o),
    λ h past k f. as_said (h ++ e ∷ []) past (past ++ []) after b.batch (moved_so_far k a) (moved_so_far k b) (sym (append-nil past)) batch (with_freed k events) (one_more_take h past a.batch after (moved_so_far k a) by e more is f),
  )

  pub adds_try : (by : ℕ) (after : ScriptBatch) → TriesMore a.batch by after → IsBy by Try e → b.batch ≡ after → moved_so_far 0 b ≡ moved_so_far 0 a → HasAdded o o (AddsEvent e a b)
  adds_try by after more is batch events = (
    [],
    sym (append-nil o),
    λ h past k f. as_said (h ++ e ∷ []) past (past ++ []) after b.batch (moved_so_far k a) (moved_so_far k b) (sym (append-nil past)) batch (with_freed k events) (one_more_try h past a.batch after (moved_so_far k a) by e more is f),
  )

  pub adds_put : (by : ℕ) (after : ScriptBatch) → PutsMore a.batch by after → IsBy by Put e → b.batch ≡ after → moved_so_far 0 b ≡ moved_so_far 0 a → HasAdded o o (AddsEvent e a b)
  adds_put by after more is batch events = (
    [],
    sym (append-nil o),
    λ h past k f. as_said (h ++ e ∷ []) past (past ++ []) after b.batch (moved_so_far k a) (moved_so_far k b) (sym (append-nil past)) batch (with_freed k events) (one_more_put h past a.batch after (moved_so_far k a) by e more is f),
  )

  -- an event after the commands so far
  module _ (p : List Op) (m : Folding) (so_far : HasAdded o p (AddsCommands a m)) where
    -- it is not at its place
    pub adds_waiting : (c : ℕ) (kind : EventKind) → call_in kind ≡ [] → IsBy c kind e → b.batch ≡ m.batch → MovesEvent c kind (moved_so_far 0 m) (moved_so_far 0 b) → HasAdded o p (AddsEvent e a b)
    adds_waiting c kind none is batch some = (
      so_far.0,
      so_far.1,
      λ h past k f.
          as_said (h ++ e ∷ []) (past ++ so_far.0) (past ++ so_far.0) m.batch b.batch (moved_so_far k b) (moved_so_far k b) refl batch refl
          (waits h (past ++ so_far.0) m.batch (moved_so_far k m) (moved_so_far k b) e c kind none is (moves_with k c kind m b some) (so_far.2 h past k f)),
    )

    pub adds_first_take : (c : ℕ) → IsBy c Take e → m.batch ≡ Idle → b.batch ≡ Taking c 1 → moved_so_far 0 b ≡ moved_so_far 0 m → HasAdded o p (AddsEvent e a b)
    adds_first_take c is idle batch events = (
      so_far.0,
      so_far.1,
      λ h past k f. as_said (h ++ e ∷ []) (past ++ so_far.0) (past ++ so_far.0) (Taking c 1) b.batch (moved_so_far k m) (moved_so_far k b) refl batch (with_freed k events)
          (first_take h (past ++ so_far.0) (moved_so_far k m) c e is (subst (λ x. IsFoldedTo h (past ++ so_far.0) x (moved_so_far k m)) idle (so_far.2 h past k f))),
    )

    pub adds_open_put : (c : ℕ) → IsBy c Put e → m.batch ≡ Open c → b.batch ≡ Closing c → moved_so_far 0 b ≡ moved_so_far 0 m → HasAdded o p (AddsEvent e a b)
    adds_open_put c is opened batch events = (
      so_far.0,
      so_far.1,
      λ h past k f. as_said (h ++ e ∷ []) (past ++ so_far.0) (past ++ so_far.0) (Closing c) b.batch (moved_so_far k m) (moved_so_far k b) refl batch (with_freed k events)
          (open_put h (past ++ so_far.0) (moved_so_far k m) c e is (subst (λ x. IsFoldedTo h (past ++ so_far.0) x (moved_so_far k m)) opened (so_far.2 h past k f))),
    )

    module _ (q : List Op) where
      pub adds_open_try : (c : ℕ) → IsBy c Try e → m.batch ≡ Open c → q ≡ p ++ op.SplitNext ∷ [] → b.batch ≡ m.batch → moved_so_far 0 b ≡ moved_so_far 0 m → HasAdded o q (AddsEvent e a b)
      adds_open_try c is opened more batch events = (
        so_far.0 ++ op.SplitNext ∷ [],
        more ∙ ap (λ os. os ++ op.SplitNext ∷ []) so_far.1 ∙ append_assoc o so_far.0 (op.SplitNext ∷ []),
        λ h past k f. as_said (h ++ e ∷ []) ((past ++ so_far.0) ++ op.SplitNext ∷ []) (past ++ (so_far.0 ++ op.SplitNext ∷ [])) (Open c) b.batch (moved_so_far k m) (moved_so_far k b) (append_assoc past so_far.0 (op.SplitNext ∷ [])) (batch ∙ opened) (with_freed k events)
            (open_try h (past ++ so_far.0) (moved_so_far k m) c e is (subst (λ x. IsFoldedTo h (past ++ so_far.0) x (moved_so_far k m)) opened (so_far.2 h past k f))),
      )

      -- a call
      pub adds_call : (x : Op) → kind_of e.what ≡ Call x → m.batch ≡ settled a.batch → q ≡ p ++ x ∷ [] → b.batch ≡ m.batch → CountsCall (moved_so_far 0 m) (moved_so_far 0 b) → HasAdded o q (AddsEvent e a b)
      adds_call x is quiet more batch events = (
        so_far.0 ++ x ∷ [],
        more ∙ ap (λ os. os ++ x ∷ []) so_far.1 ∙ append_assoc o so_far.0 (x ∷ []),
        λ h past k f. as_said (h ++ e ∷ []) ((past ++ so_far.0) ++ x ∷ []) (past ++ (so_far.0 ++ x ∷ [])) (settled a.batch) b.batch (moved_so_far k b) (moved_so_far k b) (append_assoc past so_far.0 (x ∷ [])) (batch ∙ quiet) refl
            (one_more_call h (past ++ so_far.0) a.batch (moved_so_far k m) (moved_so_far k b) e x is (counts_with k m b events) (subst (λ y. IsFoldedTo h (past ++ so_far.0) y (moved_so_far k m)) quiet (so_far.2 h past k f))),
      )

-- where no flight waits
pub still_plain : (f : Folding) (o p : List Op) → (f.waiting.items ≡ [] → p ≡ o) → (s : ScanPlace) → IsAtPlace s f → (s ≡ Elsewhere → ⊥) → HasAdded o p (All IsCallOrScan)
still_plain f o p same Between at ne = no_command o p (same at.quiet.none_waits)
still_plain f o p same (InTakes c ps) at ne = no_command o p (same at.quiet.none_waits)
still_plain f o p same (InTries c n k ps) at ne = no_command o p (same at.quiet.none_waits)
still_plain f o p same (InPuts c ps) at ne = no_command o p (same at.quiet.none_waits)
still_plain f o p same Elsewhere at ne = absurd (ne refl)

-- ---- the whole

-- with its whole scans, the script of one more event
pub folded_more : (o p : List Op) (e : Event) (a b : Folding) → HasAdded o p (FollowsEvent e a b) → ((s : ScanPlace) → IsAtPlace s a → IsAtPlace (scan_place_after s e) b) → AddsPlain (λ s. scan_place_after s e) a o p → HasAdded o p (AddsTo e a b)
folded_more o p e a b adds goes plain = (
  adds.0,
  adds.1,
  λ h past f.
      record {
        commands = subst (λ k. IsFoldedTo (h ++ e ∷ []) (past ++ adds.0) b.batch (moved_so_far k b)) (sym (freed_more h e)) (adds.2 h past (freed_in h) f.commands);
        scans = scans_more h e b (goes (scan_place h) f.scans);
        plain = λ whole.
            let ne : scan_place_after (scan_place h) e ≡ Elsewhere → ⊥ = λ away. whole (place_more h e ∙ away) in
            let more = plain (scan_place h) f.scans ne in
            let here : scan_place h ≡ Elsewhere → ⊥ = λ away. ne (ap (λ s. scan_place_after s e) away ∙ stays_elsewhere e) in
            All-append IsCallOrScan past adds.0 (f.plain here) (subst (All IsCallOrScan) (added_once o more.0 adds.0 (sym more.1 ∙ adds.1)) more.2);
      },
)

pub finishes : (o p : List Op) (a b : Folding) (moved : Moved) → HasAdded o p (AddsCommands a b) → b.batch ≡ Idle → MovesBy moved (moved_so_far 0 b) → (IsAtPlace Between a → moved ≡ nothing_moved) → (IsAtPlace Between a → p ≡ o) → HasAdded o p (FoldEnds a moved)
finishes o p a b moved adds idle same none still = (
  adds.0,
  adds.1,
  λ h past f.
      is_script h (past ++ adds.0) moved (moved_so_far (freed_in h) b) same refl (subst (λ x. IsFoldedTo h (past ++ adds.0) x (moved_so_far (freed_in h) b)) idle (adds.2 h past (freed_in h) f.commands))
      (λ whole. none (subst (λ s. IsAtPlace s a) whole f.scans))
      (λ whole.
      let nothing : adds.0 ≡ [] = added_once o adds.0 [] (sym adds.1 ∙ still (subst (λ s. IsAtPlace s a) whole f.scans) ∙ sym (append-nil o)) in
      let here : scan_place h ≡ Elsewhere → ⊥ = λ away. let both : Between ≡ Elsewhere = sym whole ∙ away in absurd (cc) in
      subst (All IsCallOrScan) (sym (append-nil past) ∙ ap (λ os. past ++ os) (sym nothing)) (f.plain here)),
)
