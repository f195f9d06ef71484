-- The effect of the calls about open batches on the pass of a handle.
use Rattle.std.specs.Prelude.{◌≡◌, ℕ, ◌≤◌, None, IsSome, IfSome, Result, OnOk, IfOk, IfErr, length}
use Rattle.thp_history.specs.Prelude.{refusal, take as take_call, take_events, split_next_events, put_back_events}
use Rattle.thp_node.specs.Prelude.{BatchState, rest}
use Rattle.thp_cell.specs.Prelude.{Called, DidTake, DidTry, DidPutBack, HasCaller}
use Rattle.thp_capi.specs.Calls.{Batched}
use Rattle.thp_capi.specs.Codes.{Answer}
use Rattle.thp_capi.specs.Passes.{PassFails, PassFailsAsking}
use Rattle.thp_capi.specs.Replies.{tried_of}
use Rattle.thp_capi.specs.Sharing.{SharedState, OnlyFront, ChangesOnly, shared_batch_of}
use Rattle.thp_capi.specs.declared.codes.Fault.{Fault}
use Rattle.thp_capi.specs.declared.codes.Fault.TheVariants.{BadCaller, BatchOpen, NoBatch}
use Rattle.thp_node.specs.declared.answers.BackReply.{BackReply}
use Rattle.thp_capi.specs.declared.replies.ThpTried.{ThpTried}

-- ---- why calls fail: nothing was recorded, and the open batches are unchanged

-- a take of up to n pages: the caller has an open batch, or a call that requests n pages fails
abbrev pub PassFailsTaking : ℕ → ℕ → SharedState → SharedState → Fault → Type 0
PassFailsTaking n caller old new BatchOpen = IsSome (shared_batch_of old caller) × (new ≡ old)
PassFailsTaking n caller old new f =
    let s = new.pass.shape in let h = new.pass.front in
    OnlyFront old new × PassFailsAsking n caller (refusal s h (take_call caller)) (length (take_events s h caller n)) old.pass new.pass f

-- a call on the caller's open batch, which records the number of events that m gives: there is no open batch, or the call fails
abbrev pub PassFailsOnBatch : ℕ → (BatchState → ℕ) → SharedState → SharedState → Fault → Type 0
PassFailsOnBatch caller m old new NoBatch = (shared_batch_of old caller ≡ None) × (new ≡ old)
PassFailsOnBatch caller m old new BadCaller = (HasCaller old.pass caller → ⊥) × (new ≡ old)
PassFailsOnBatch caller m old new f = OnlyFront old new × IsSome (shared_batch_of old caller) × IfSome (shared_batch_of old caller) (λ b. PassFails caller None (m b) old.pass new.pass f)

-- ---- the calls

-- the caller's open batch has the oldest pages in order, at most n
abbrev pub TookBatch : ℕ → ℕ → SharedState → SharedState → ℕ → BatchState → Type 0
TookBatch caller n old new count b = Called old.pass new.pass caller (DidTake old.pass.shape caller n b) × (count ≡ length b.pages)

-- a take, which returns the number of pages in the caller's open batch
abbrev pub PassTake : ℕ → ℕ → SharedState → SharedState → Result ℕ Fault → Type 0
PassTake caller n old new answer =
    ChangesOnly caller old new
    × OnOk answer (shared_batch_of old caller ≡ None)
    × OnOk answer (IsSome (shared_batch_of new caller))
    × IfOk answer (λ count. IfSome (shared_batch_of new caller) (TookBatch caller n old new count))
    × IfErr answer (PassFailsTaking n caller old new)

-- the open batch b became c: the same pages, after a try of the next one
pub record TriedNext (caller : ℕ) (old new : SharedState) (t : ThpTried) (b c : BatchState) : Type 0 where
  pub caller_is : c.caller ≡ b.caller
  pub pages : c.pages ≡ b.pages
  pub kind : t.kind ≤ 3
  pub did : Called old.pass new.pass caller (DidTry old.pass.shape b c (tried_of t))

-- a try of the next page of the caller's open batch
abbrev pub PassNext : ℕ → SharedState → SharedState → Result ThpTried Fault → Type 0
PassNext caller old new answer =
    ChangesOnly caller old new
    × IfOk answer (λ t. Batched (shared_batch_of old caller) (shared_batch_of new caller) (TriedNext caller old new t))
    × IfErr answer (PassFailsOnBatch caller (λ b. length (split_next_events new.pass.shape new.pass.front caller (rest b))) old new)

-- the return of the pages of the caller's open batch, which is closed afterwards
abbrev pub PassBack : ℕ → SharedState → SharedState → Result BackReply Fault → Type 0
PassBack caller old new answer =
    ChangesOnly caller old new
    × OnOk answer (IsSome (shared_batch_of old caller))
    × OnOk answer (shared_batch_of new caller ≡ None)
    × IfOk answer (λ r. IfSome (shared_batch_of old caller) (λ b. Called old.pass new.pass caller (DidPutBack old.pass.shape b r)))
    × IfErr answer (PassFailsOnBatch caller (λ b. length (put_back_events new.pass.shape new.pass.front caller b.pages)) old new)

-- why a caller's batch was not closed
abbrev pub WhyKept : ℕ → SharedState → Fault → Type 0
WhyKept caller old NoBatch = shared_batch_of old caller ≡ None
WhyKept caller old BadCaller = HasCaller old.pass caller → ⊥
WhyKept caller old _ = ⊥

-- the caller's open batch is closed, and its pages don't change
abbrev pub PassAbandon : ℕ → SharedState → SharedState → Answer → Type 0
PassAbandon caller old new answer =
    ChangesOnly caller old new
    × (new.pass ≡ old.pass)
    × OnOk answer (IsSome (shared_batch_of old caller))
    × OnOk answer (shared_batch_of new caller ≡ None)
    × IfErr answer (λ f. WhyKept caller old f × (new ≡ old))
