-- The batch of a script, of which some events have no command yet. No public clause cites this module.
use Rattle.std.specs.Prelude.{◌≡◌, ◌++◌, ◌+◌, ◌≤◌, ℕ, All, List, [], ◌∷◌, Option, Some, None, replicate}
use Rattle.thp_history.specs.Prelude.{History, max_batch}
use Rattle.thp_script.specs.declared.script.Op.{Op}
use Rattle.thp_script.specs.declared.script.Op.TheVariants as op
use Rattle.thp_journal_scripts.specs.declared.folding.EventKind.TheVariants.{Take, Try, Put}
use Rattle.thp_journal_scripts.specs.declared.script_batch.ScriptBatch.{ScriptBatch}
use Rattle.thp_journal_scripts.specs.declared.script_batch.ScriptBatch.TheVariants.{Idle, Taking, Trying, Scanned, Open, Closing}
use Rattle.thp_journal_scripts.specs.Repeating.{AreBy, IsBy, IsScanBy, Repeats}

-- one more take by a caller is part of the batch, which becomes this one
abbrev pub TakesMore : ScriptBatch → ℕ → ScriptBatch → Type 0
TakesMore (Taking c n) by after = (c ≡ by) × (after ≡ Taking c (n + 1))
TakesMore b by after = ⊥

-- one more try by a caller is
abbrev pub TriesMore : ScriptBatch → ℕ → ScriptBatch → Type 0
TriesMore (Taking c n) by after = (c ≡ by) × (after ≡ Trying c n 1)
TriesMore (Trying c n k) by after = (c ≡ by) × (after ≡ Trying c n (k + 1))
TriesMore b by after = ⊥

-- one more page that a caller puts back is
abbrev pub PutsMore : ScriptBatch → ℕ → ScriptBatch → Type 0
PutsMore (Trying c n k) by after = (c ≡ by) × (k ≡ n) × (after ≡ Scanned c n)
PutsMore (Scanned c n) by after = (c ≡ by) × (after ≡ Scanned c n)
PutsMore (Closing c) by after = (c ≡ by) × (after ≡ Closing c)
PutsMore b by after = ⊥

-- one more take by a caller is no part of the batch
abbrev pub EndsTakes : ScriptBatch → ℕ → Type 0
EndsTakes (Taking c n) by = c ≡ by → max_batch ≤ n
EndsTakes b by = Unit {0}

-- one more try is not
abbrev pub EndsTries : ScriptBatch → ℕ → Type 0
EndsTries (Taking c n) by = c ≡ by → ⊥
EndsTries (Trying c n k) by = c ≡ by → n ≤ k
EndsTries b by = Unit {0}

-- one more page that is put back is not
abbrev pub EndsPuts : ScriptBatch → ℕ → Type 0
EndsPuts (Trying c n k) by = c ≡ by → k ≡ n → ⊥
EndsPuts (Scanned c n) by = c ≡ by → ⊥
EndsPuts (Closing c) by = c ≡ by → ⊥
EndsPuts b by = Unit {0}

-- the batch took some pages
abbrev pub TakesSome : ScriptBatch → Type 0
TakesSome (Taking c n) = 1 ≤ n
TakesSome (Trying c n k) = 1 ≤ n
TakesSome (Scanned c n) = 1 ≤ n
TakesSome b = Unit {0}

-- the command repeats the events without a command
abbrev pub Completes : ScriptBatch → Op → Type 0
Completes (Trying c n k) o = (k ≡ n) × (o ≡ op.Scan n)
Completes (Scanned c n) o = o ≡ op.Scan n
Completes (Closing c) o = o ≡ op.PutBack
Completes b o = ⊥

-- no command does
abbrev pub IsIncomplete : ScriptBatch → Type 0
IsIncomplete (Trying c n k) = k ≡ n → ⊥
IsIncomplete (Scanned c n) = ⊥
IsIncomplete (Closing c) = ⊥
IsIncomplete b = Unit {0}

-- the commands of the events without one, if the batch continues
abbrev pub pending_ops : ScriptBatch → List Op
pending_ops Idle = []
pending_ops (Taking c n) = op.Take n ∷ []
pending_ops (Trying c n k) = op.Take n ∷ replicate k op.SplitNext
pending_ops (Scanned c n) = op.Scan n ∷ []
pending_ops (Open c) = []
pending_ops (Closing c) = op.PutBack ∷ []

-- the batch after these
abbrev pub settled : ScriptBatch → ScriptBatch
settled Idle = Idle
settled (Taking c n) = Open c
settled (Trying c n k) = Open c
settled (Scanned c n) = Idle
settled (Open c) = Open c
settled (Closing c) = Idle

-- all of its events have a command
abbrev pub IsSettled : ScriptBatch → Type 0
IsSettled b = settled b ≡ b

-- the caller whose batch the written commands leave open
abbrev pub open_by : ScriptBatch → Option ℕ
open_by (Open c) = Some c
open_by (Closing c) = Some c
open_by b = None

-- the events without a command yet
abbrev pub IsPending : ScriptBatch → History → Type 0
IsPending Idle own = own ≡ []
IsPending (Taking c n) own = AreBy c Take n own
IsPending (Trying c n k) own = (takes : History) × (tries : History) × (own ≡ takes ++ tries) × AreBy c Take n takes × AreBy c Try k tries
IsPending (Scanned c n) own = IsScanBy c n own
IsPending (Open c) own = own ≡ []
IsPending (Closing c) own = All (IsBy c Put) own

-- the commands repeat the history up to the events without a command yet
pub record RepeatsUpTo (h : History) (ops : List Op) (batch : ScriptBatch) : Type 0 where
  pub done : History
  pub pending : History
  pub parts : h ≡ done ++ pending
  pub repeats : Repeats None ops done (open_by batch)
  pub pending_is : IsPending batch pending
