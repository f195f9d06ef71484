-- Scripts that repeat a history: which events each command repeats (this project's profile).
use Rattle.std.specs.Prelude.{◌≡◌, ◌++◌, ℕ, Bool, true, false, All, List, [], ◌∷◌, Option, Some, None, length, filter, flat_map}
use Rattle.std.specs.Option.{option_map_or}
use Rattle.thp_history.specs.declared.events.Event.{Event}
use Rattle.thp_history.specs.declared.events.What.{What}
use Rattle.thp_history.specs.declared.events.What.TheVariants.{Alloc, Taken, Split, Pinned, Used, Close}
use Rattle.thp_history.specs.Prelude.{History, recorded_call}
use Rattle.thp_script.specs.Prelude.{page_op}
use Rattle.thp_script.specs.declared.script.Op.{Op}
use Rattle.thp_script.specs.declared.script.Op.TheVariants as op
use Rattle.thp_journal_scripts.specs.declared.folding.EventKind.{EventKind}
use Rattle.thp_journal_scripts.specs.declared.folding.EventKind.TheVariants.{Call, Take, Try, Put}

-- a call, with the command that repeats it; or a part of a batch: a take, a try, or else a put back or a drop
abbrev pub kind_of : What → EventKind
kind_of (Alloc p block) = Call op.Alloc
kind_of Close = Call op.Close
kind_of (Taken p) = Take
kind_of (Split p released) = Try
kind_of (Pinned p) = Try
kind_of (Used p) = Try
kind_of w = option_map_or (λ made. Call (page_op made.1 made.0)) (recorded_call w) Put

-- an event of caller c of this kind
abbrev pub IsBy : ℕ → EventKind → Event → Type 0
IsBy c kind e = (e.caller ≡ c) × (kind_of e.what ≡ kind)

-- so many of them
abbrev pub AreBy : ℕ → EventKind → ℕ → History → Type 0
AreBy c kind n own = (length own ≡ n) × All (IsBy c kind) own

-- caller c took n pages, tried each, and put some back
pub record IsScanBy (c n : ℕ) (own : History) : Type 0 where
  pub takes : History
  pub tries : History
  pub puts : History
  pub parts : own ≡ (takes ++ tries) ++ puts
  pub takes_are : AreBy c Take n takes
  pub tries_are : AreBy c Try n tries
  pub puts_are : All (IsBy c Put) puts

-- the one event is the call that this command makes
abbrev pub IsCall : Op → History → Type 0
IsCall o own = (e : Event) × (own ≡ e ∷ []) × (kind_of e.what ≡ Call o)

-- The command repeats these events, given the caller whose batch is open before and after it. A take and a scan need that none is,
-- a try and a put back that one is.
abbrev pub RepeatsBy : Option ℕ → Op → History → Option ℕ → Type 0
RepeatsBy batch (op.Take n) own after = (c : ℕ) × (batch ≡ None) × AreBy c Take n own × (after ≡ Some c)
RepeatsBy batch (op.Scan n) own after = (c : ℕ) × (batch ≡ None) × IsScanBy c n own × (after ≡ None)
RepeatsBy batch op.SplitNext own after = (c : ℕ) × (batch ≡ Some c) × AreBy c Try 1 own × (after ≡ Some c)
RepeatsBy batch op.PutBack own after = (c : ℕ) × (batch ≡ Some c) × All (IsBy c Put) own × (after ≡ None)
RepeatsBy batch o own after = IsCall o own × (after ≡ batch)

-- the commands repeat the history, one part of it after the other
abbrev pub Repeats : Option ℕ → List Op → History → Option ℕ → Type 0
Repeats batch [] h after = (h ≡ []) × (after ≡ batch)
Repeats batch (o ∷ ops) h after = (own : History) × (rest : History) × (between : Option ℕ) × (h ≡ own ++ rest) × RepeatsBy batch o own between × Repeats between ops rest after

-- the command of a call
abbrev pub call_in : EventKind → List Op
call_in (Call o) = o ∷ []
call_in _ = []

-- the commands of the calls in a history, in order
abbrev pub calls_of : History → List Op
calls_of h = flat_map (λ (e : Event). call_in (kind_of e.what)) h

abbrev pub is_call : Op → Bool
is_call (op.Take n) = false
is_call (op.Scan n) = false
is_call op.SplitNext = false
is_call op.PutBack = false
is_call o = true

-- the calls among commands
abbrev pub calls_in : List Op → List Op
calls_in ops = filter is_call ops
