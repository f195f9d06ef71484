-- What a step does and answers, at legal histories that are the same but for blocks.
use Rattle.std.proofs.Common.{◌≡◌, ◌+◌, ℕ, Bool, true, false, cond, not, nat_eq, List, [], ◌∷◌, ◌++◌, map, take, length, Option, Some, None, Ok, Err, refl, ap, ap₂, sym, subst, ◌∙◌}
use Rattle.std.proofs.lemmas.List.Sums.{sum_by-cons}
use Rattle.std.specs.List.{after_first, count_by, filter, find}
use Rattle.thp_history.specs.declared.events.Event.{Event}
use Rattle.thp_history.specs.declared.events.Outcome.{Outcome}
use Rattle.thp_history.specs.declared.events.What.{What}
use Rattle.thp_history.specs.declared.events.What.TheVariants as what
use Rattle.thp_history.specs.declared.refusal.Refusal.{Refusal}
use Rattle.thp_history.specs.declared.shape.Shape.{Shape}
use Rattle.thp_history.specs.Prelude.{SameButBlocks, with_block, without_blocks, allocations, pins, History, by, IsLegal, is_dropped, has_page, queue, refusal, asked, goes_back, next_page, put_back_events, rest_after, return_event, still_flying, take_events, tries_of, try_event, unused, is_worth_split, gain_what, loss_what}
use Rattle.thp_history.specs.Refusals as call
use Rattle.thp_history.proofs.Alike.{alike, dropped_alike, flight_alike, worth_alike}
use Rattle.thp_history.proofs.LegalSteps.{legal_front, legal_last}
use Rattle.thp_history.proofs.OneAnswer.{one_answer}
use Rattle.thp_history.specs.declared.page_call.Done.{Done}
use Rattle.thp_history.specs.declared.page_call.Gain.TheVariants as gain
use Rattle.thp_history.specs.declared.page_call.Loss.{Loss}
use Rattle.thp_history.specs.declared.page_call.Loss.TheVariants as loss
use Rattle.thp_node.specs.Prelude.{back_reply, tried}
use Rattle.thp_node.specs.declared.answers.BackReply.{BackReply}
use Rattle.thp_node.specs.declared.answers.Tried.TheVariants as try
use Rattle.thp_script.specs.declared.script.Op.{Op}
use Rattle.thp_script.specs.declared.script.Op.TheVariants as op
use Rattle.thp_worker.specs.declared.reply.Reply.{Reply}
use Rattle.thp_worker.specs.declared.reply.Reply.TheVariants as replied
use Rattle.thp_worker.specs.declared.steps.Step.TheVariants.{One, Take, SplitNext, PutBack}
use Rattle.thp_worker.specs.Prelude.{node_call_of, Does, DoesCall, DoesLoss, DoesOne, Nothing, Open, Reaction, Unless, refusal_of_call}
use Rattle.thp_laws.specs.OneStep.{IsSameStep, StepsHaveOneAnswer}
use Rattle.thp_laws.proofs.SameRefusals.{call_alike, take_alike}

-- ---- answers that don't look at the history

-- nothing happened in both
nothing_twice : (batch : Option Open) (own other : List Event) (answer reply said reported : Reaction) (after later : Option Open) → said ≡ reported →
    Nothing batch own answer after said → Nothing batch other reply later reported → IsSameStep own other answer reply after later
nothing_twice batch own other answer reply said reported after later e a b =
    record { events = ap without_blocks (a.0 ∙ sym b.0); answers = a.1 ∙ e ∙ sym b.1; batches = a.2 ∙ sym b.2 }

-- a refusal as an answer
refused : Refusal → Reaction
refused why = Err why

-- both were refused for one reason, or neither was
unless_twice : (r t : Option Refusal) (own other : List Event) (answer reply : Reaction) (batch after later : Option Open) (P Q : Type 0) → r ≡ t →
    (P → Q → IsSameStep own other answer reply after later) → Unless r own answer batch after P → Unless t other reply batch later Q → IsSameStep own other answer reply after later
unless_twice (Some why) (Some reason) own other answer reply batch after later P Q e f a b =
    let same : why ≡ reason = cc in
    nothing_twice batch own other answer reply (Err why) (Err reason) after later (ap refused_by same) a b where
      refused_by : Refusal → Reaction
      refused_by w = Err w
unless_twice None None own other answer reply batch after later P Q e f a b = f a b
unless_twice (Some why) None own other answer reply batch after later P Q e f a b = absurd cc
unless_twice None (Some why) own other answer reply batch after later P Q e f a b = absurd cc

-- ---- commands that are one call

-- one event of both
one_twice : (c : ℕ) (w : What) (batch : Option Open) (own other : List Event) (answer reply : Reaction) (after later : Option Open) →
    DoesOne c w own answer → DoesOne c w other reply → after ≡ batch → later ≡ batch → IsSameStep own other answer reply after later
one_twice c w batch own other answer reply after later a b e f = record { events = ap without_blocks (a.0 ∙ sym b.0); answers = a.1 ∙ sym b.1; batches = e ∙ sym f }

-- a loss: outcome and set are those that fit
loss_twice : (s : Shape) (h k : History) (c : ℕ) (w : Outcome → List Bool → What) (batch : Option Open) (own other : List Event) (answer reply : Reaction) (after later : Option Open) →
    SameButBlocks h k → IsLegal s (h ++ own) → IsLegal s (k ++ other) →
    ((o u : Outcome) (p r : List Bool) → asked (w o p) ≡ asked (w u r)) → ((o u : Outcome) (p r : List Bool) → with_block 0 (w o p) ≡ with_block 0 (w u r) → (o ≡ u) × (p ≡ r)) →
    DoesLoss c w own answer → DoesLoss c w other reply → after ≡ batch → later ≡ batch → IsSameStep own other answer reply after later
loss_twice s h k c w batch own other answer reply after later e l m asks reports a b x y =
    let ours : IsLegal s (h ++ by c (w a.0.outcome a.0.released) ∷ []) = subst (λ (es : List Event). IsLegal s (h ++ es)) a.1 l in
    let theirs : IsLegal s (k ++ by c (w b.0.outcome b.0.released) ∷ []) = subst (λ (es : List Event). IsLegal s (k ++ es)) b.1 m in
    let one : with_block 0 (w a.0.outcome a.0.released) ≡ with_block 0 (w b.0.outcome b.0.released) =
    one_answer s h k c (w a.0.outcome a.0.released) (w b.0.outcome b.0.released) e (asks _ _ _ _) (legal_last s h (by c (w a.0.outcome a.0.released)) ours) (legal_last s k (by c (w b.0.outcome b.0.released)) theirs) in
    let same : (a.0.outcome ≡ b.0.outcome) × (a.0.released ≡ b.0.released) = reports _ _ _ _ one in
    let done : a.0 ≡ b.0 = done_of a.0.outcome b.0.outcome a.0.released b.0.released same.0 same.1 in
    record {
      events = ap without_blocks (a.1 ∙ ap (λ (d : Done). by c (w d.outcome d.released) ∷ []) done ∙ sym b.1);
      answers = a.2 ∙ ap done_reply done ∙ sym b.2;
      batches = x ∙ sym y;
    }
  where
    done_of : (o u : Outcome) (p r : List Bool) → o ≡ u → p ≡ r → ◌≡◌ {A = Done} (record { outcome = o; released = p }) (record { outcome = u; released = r })
    done_of o u p r f g = ap₂ (λ (o : Outcome) (p : List Bool). record { outcome = o; released = p }) f g

    done_reply : Done → Reaction
    done_reply d = Ok (replied.Done d)

-- a loss asks for the same, whatever becomes of its page
asks_alike : (g : Loss) (p : ℕ) (o u : Outcome) (x y : List Bool) → asked (loss_what g p o x) ≡ asked (loss_what g p u y)
asks_alike loss.UnmapWhole p o u x y = refl
asks_alike (loss.UnmapSub first count) p o u x y = refl
asks_alike loss.Unpin p o u x y = refl

-- and its event reports what did
reports_alike : (g : Loss) (p : ℕ) (o u : Outcome) (x y : List Bool) → with_block 0 (loss_what g p o x) ≡ with_block 0 (loss_what g p u y) → (o ≡ u) × (x ≡ y)
reports_alike loss.UnmapWhole p o u x y f = (cc, cc)
reports_alike (loss.UnmapSub first count) p o u x y f = (cc, cc)
reports_alike loss.Unpin p o u x y f = (cc, cc)

-- a reply as an answer
said : Reply → Reaction
said r = Ok r

-- a count, and what does as little
count_twice : (s : Shape) (h k : History) (batch : Option Open) (own other : List Event) (answer reply : Reaction) (after later : Option Open) →
    SameButBlocks h k →
    ((own ≡ []) × (answer ≡ Ok (replied.Count (length (queue s h))))) × (after ≡ batch) → ((other ≡ []) × (reply ≡ Ok (replied.Count (length (queue s k))))) × (later ≡ batch) →
    IsSameStep own other answer reply after later
count_twice s h k batch own other answer reply after later e a b =
    record { events = ap without_blocks (a.0.0 ∙ sym b.0.0); answers = a.0.1 ∙ ap counted ((alike h k e).queue s) ∙ sym b.0.1; batches = a.1 ∙ sym b.1 } where
      counted : List ℕ → Reaction
      counted ps = Ok (replied.Count (length ps))

-- a loss of page p
page_loss_twice : (s : Shape) (h k : History) (c p : ℕ) (g : Loss) (batch : Option Open) (own other : List Event) (answer reply : Reaction) (after later : Option Open) →
    SameButBlocks h k → IsLegal s (h ++ own) → IsLegal s (k ++ other) →
    DoesLoss c (loss_what g p) own answer × (after ≡ batch) → DoesLoss c (loss_what g p) other reply × (later ≡ batch) → IsSameStep own other answer reply after later
page_loss_twice s h k c p g batch own other answer reply after later e l m a b =
    loss_twice s h k c (loss_what g p) batch own other answer reply after later e l m (asks_alike g p) (reports_alike g p) a.0 b.0 a.1 b.1

-- a command that is one call of a node, and isn't refused
call_twice : (s : Shape) (h k : History) (c : ℕ) (o : Op) (batch : Option Open) (own other : List Event) (answer reply : Reaction) (after later : Option Open) →
    SameButBlocks h k → IsLegal s (h ++ own) → IsLegal s (k ++ other) →
    DoesCall s h c (node_call_of o) own answer × (after ≡ batch) → DoesCall s k c (node_call_of o) other reply × (later ≡ batch) → IsSameStep own other answer reply after later
unfolding without_blocks
call_twice s h k c op.Alloc batch own other answer reply after later e l m a b =
    let pages : allocations h ≡ allocations k = (alike h k e).allocations in
    record {
      events = ap without_blocks a.0.1 ∙ ap (λ n. by c (what.Alloc n 0) ∷ []) pages ∙ sym (ap without_blocks b.0.1);
      answers = a.0.2 ∙ ap page pages ∙ sym b.0.2;
      batches = a.1 ∙ sym b.1;
    } where
      page : ℕ → Reaction
      page n = Ok (replied.Page n)
call_twice s h k c (op.MapWhole p) batch own other answer reply after later e l m a b = one_twice c (gain_what gain.MapWhole p) batch own other answer reply after later a.0 b.0 a.1 b.1
call_twice s h k c (op.UnmapWhole p) batch own other answer reply after later e l m a b = page_loss_twice s h k c p loss.UnmapWhole batch own other answer reply after later e l m a b
call_twice s h k c (op.Map first count p) batch own other answer reply after later e l m a b = one_twice c (gain_what (gain.MapSub first count) p) batch own other answer reply after later a.0 b.0 a.1 b.1
call_twice s h k c (op.Unmap first count p) batch own other answer reply after later e l m a b = page_loss_twice s h k c p (loss.UnmapSub first count) batch own other answer reply after later e l m a b
call_twice s h k c (op.Write first count p) batch own other answer reply after later e l m a b = one_twice c (gain_what (gain.Write first count) p) batch own other answer reply after later a.0 b.0 a.1 b.1
call_twice s h k c (op.Zero first count p) batch own other answer reply after later e l m a b = one_twice c (gain_what (gain.Zero first count) p) batch own other answer reply after later a.0 b.0 a.1 b.1
call_twice s h k c (op.SplitPmd p) batch own other answer reply after later e l m a b = one_twice c (gain_what gain.SplitPmd p) batch own other answer reply after later a.0 b.0 a.1 b.1
call_twice s h k c (op.Pin p) batch own other answer reply after later e l m a b = one_twice c (gain_what gain.Pin p) batch own other answer reply after later a.0 b.0 a.1 b.1
call_twice s h k c (op.Unpin p) batch own other answer reply after later e l m a b = page_loss_twice s h k c p loss.Unpin batch own other answer reply after later e l m a b
call_twice s h k c op.Close batch own other answer reply after later e l m a b = one_twice c what.Close batch own other answer reply after later a.0 b.0 a.1 b.1
call_twice s h k c (op.Scan count) batch own other answer reply after later e l m a b = count_twice s h k batch own other answer reply after later e a b
call_twice s h k c op.Count batch own other answer reply after later e l m a b = count_twice s h k batch own other answer reply after later e a b
call_twice s h k c (op.Take count) batch own other answer reply after later e l m a b = count_twice s h k batch own other answer reply after later e a b
call_twice s h k c op.SplitNext batch own other answer reply after later e l m a b = count_twice s h k batch own other answer reply after later e a b
call_twice s h k c op.PutBack batch own other answer reply after later e l m a b = count_twice s h k batch own other answer reply after later e a b

-- ---- takes, tries, put-backs

-- what a put-back answers
gave : ℕ → ℕ → BackReply
gave back dropped = record { back = back; dropped = dropped }

-- the same events of each page
same_map : (f g : ℕ → Event) → ((p : ℕ) → f p ≡ g p) → (ps : List ℕ) → map f ps ≡ map g ps
same_map f g same [] = refl
same_map f g same (p ∷ ps) = ap₂ (λ x xs. x ∷ xs) (same p) (same_map f g same ps)

-- as many pages pass the same test
same_count : (f g : ℕ → Bool) → ((p : ℕ) → f p ≡ g p) → (ps : List ℕ) → count_by f ps ≡ count_by g ps
same_count f g same [] = refl
same_count f g same (p ∷ ps) =
    sum_by-cons (λ x. cond (f x) 1 0) p ps ∙ ap₂ (λ b n. cond b 1 0 + n) (same p) (same_count f g same ps) ∙ sym (sum_by-cons (λ x. cond (g x) 1 0) p ps)

module _ (s : Shape) (h k : History) (e : SameButBlocks h k) where
  -- a take takes the same pages
  same_take : (c n : ℕ) → take_events s h c n ≡ take_events s k c n
  same_take c n = ap (λ (ps : List ℕ). map (λ p. by c (what.Taken p)) (take n ps)) ((alike h k e).queue s)

  -- the same pages of a batch are in flight
  same_flying : (c : ℕ) (ps : List ℕ) → still_flying h c ps ≡ still_flying k c ps
  same_flying c ps = ap (λ (fs : List ℕ). filter (λ p. has_page p fs) ps) (flight_alike s h k (alike h k e) c)

  -- the same page is next
  same_next : (c : ℕ) (ps : List ℕ) → next_page h c ps ≡ next_page k c ps
  same_next c ps = ap (λ (fs : List ℕ). find (λ p. has_page p fs) ps) (flight_alike s h k (alike h k e) c)

  -- and the same are left
  same_rest : (c : ℕ) (ps : List ℕ) → rest_after h c ps ≡ rest_after k c ps
  same_rest c ps = ap (λ (fs : List ℕ). after_first (λ p. has_page p fs) ps) (flight_alike s h k (alike h k e) c)

  -- a try answers the same
  same_tried : (o : Option ℕ) → tried s h o ≡ tried s k o
  same_tried None = refl
  same_tried (Some p) = ap₂ (λ b n. cond b (cond (nat_eq n 0) (try.Split p) (try.Pinned p)) (try.Used p)) (worth_alike s h k (alike h k e) p) ((alike h k e).pins p)

  -- a page leaves its batch alike
  same_return : (c p : ℕ) → return_event s h c p ≡ return_event s k c p
  same_return c p = ap (λ b. by c (cond b (what.Dropped p) (what.Back p))) (dropped_alike s h k (alike h k e) p)

  -- and so does each page of a put-back
  same_put_back : (c : ℕ) (ps : List ℕ) → put_back_events s h c ps ≡ put_back_events s k c ps
  same_put_back c ps = ap (map (return_event s h c)) (same_flying c ps) ∙ same_map (return_event s h c) (return_event s k c) (same_return c) (still_flying k c ps)

  -- which answers the same
  same_back : (ps : List ℕ) → back_reply s h ps ≡ back_reply s k ps
  unfolding gave
  same_back ps =
      ap₂ gave (same_count (goes_back s h) (goes_back s k) (λ p. ap not (dropped_alike s h k (alike h k e) p)) ps)
      (same_count (is_dropped s h) (is_dropped s k) (dropped_alike s h k (alike h k e)) ps)

-- ---- a try

-- a try asks for its page
try_asks : (s : Shape) (h : History) (c p : ℕ) → asked (try_event s h c p).what ≡ what.Pinned p
try_asks s h c p = go (is_worth_split s h p) (nat_eq (pins h p) 0) where
  go : (a b : Bool) → asked (cond a (cond b (what.Split p (unused s h p)) (what.Pinned p)) (what.Used p)) ≡ what.Pinned p
  go true true = refl
  go true false = refl
  go false b = refl

-- tries of one page that fit
tries_twice : (s : Shape) (h k : History) (c : ℕ) (o : Option ℕ) → SameButBlocks h k → IsLegal s (h ++ tries_of s h c o) → IsLegal s (k ++ tries_of s k c o) → SameButBlocks (tries_of s h c o) (tries_of s k c o)
unfolding without_blocks
tries_twice s h k c None e l m = refl
tries_twice s h k c (Some p) e l m =
    let ours : What = (try_event s h c p).what in
    let theirs : What = (try_event s k c p).what in
    let one : with_block 0 ours ≡ with_block 0 theirs = one_answer s h k c ours theirs e (try_asks s h c p ∙ sym (try_asks s k c p)) (legal_last s h (try_event s h c p) l) (legal_last s k (try_event s k c p) m) in
    ap (λ w. by c w ∷ []) one

-- ---- a take

-- the batch after a take
taken_batch : List ℕ → Option Open
taken_batch pages = Some (record { pages = pages; left = pages })

-- and its answer
taken_reply : List ℕ → Reaction
taken_reply pages = Ok (replied.Taken (length pages))

-- a take that isn't refused
taken : (s : Shape) (h k : History) (c n : ℕ) (own other : List Event) (answer reported : Reaction) (after later : Option Open) → SameButBlocks h k →
    (own ≡ take_events s h c n) × (answer ≡ Ok (replied.Taken (length (take n (queue s h))))) × (after ≡ Some (record { pages = take n (queue s h); left = take n (queue s h) })) →
    (other ≡ take_events s k c n) × (reported ≡ Ok (replied.Taken (length (take n (queue s k))))) × (later ≡ Some (record { pages = take n (queue s k); left = take n (queue s k) })) →
    IsSameStep own other answer reported after later
unfolding taken_batch taken_reply
taken s h k c n own other answer reported after later e a b =
    let pages : take n (queue s h) ≡ take n (queue s k) = ap (take n) ((alike h k e).queue s) in
    record { events = ap without_blocks (a.0 ∙ same_take s h k e c n ∙ sym b.0); answers = a.1 ∙ ap taken_reply pages ∙ sym b.1; batches = a.2 ∙ ap taken_batch pages ∙ sym b.2 }

-- ---- any step

-- a batch after a try
tried_batch : List ℕ → List ℕ → Option Open
tried_batch pages left = Some (record { pages = pages; left = left })

-- the same step of both
pub one_step : StepsHaveOneAnswer
unfolding Does said tried_batch
one_step s h k c batch (One o) own other answer reply after later e l m a b =
    unless_twice (refusal_of_call s h (node_call_of o)) (refusal_of_call s k (node_call_of o)) own other answer reply batch after later _ _ (call_alike s h k e o (legal_front s h own l) (legal_front s k other m)) (call_twice s h k c o batch own other answer reply after later e l m) a b
one_step s h k c (Some batch) (Take n) own other answer reply after later e l m a b = nothing_twice (Some batch) own other answer reply _ _ after later refl a b
one_step s h k c None (Take n) own other answer reply after later e l m a b =
    unless_twice (refusal s h (call.take c)) (refusal s k (call.take c)) own other answer reply None after later _ _ (take_alike s h k e c) (taken s h k c n own other answer reply after later e) a b
one_step s h k c None SplitNext own other answer reply after later e l m a b = nothing_twice None own other answer reply _ _ after later refl a b
one_step s h k c (Some batch) SplitNext own other answer reply after later e l m a b =
    let next : next_page h c batch.left ≡ next_page k c batch.left = same_next s h k e c batch.left in
    let theirs : other ≡ tries_of s k c (next_page h c batch.left) = b.0 ∙ ap (tries_of s k c) (sym next) in
    record {
      events = ap without_blocks a.0
          ∙ tries_twice s h k c (next_page h c batch.left) e (subst (λ (es : List Event). IsLegal s (h ++ es)) a.0 l) (subst (λ (es : List Event). IsLegal s (k ++ es)) theirs m)
          ∙ sym (ap without_blocks theirs);
      answers = a.1 ∙ ap (λ t. said (replied.Tried t)) (same_tried s h k e (next_page h c batch.left) ∙ ap (tried s k) next) ∙ sym b.1;
      batches = a.2 ∙ ap (tried_batch batch.pages) (same_rest s h k e c batch.left) ∙ sym b.2;
    }
one_step s h k c None PutBack own other answer reply after later e l m a b = nothing_twice None own other answer reply _ _ after later refl a b
one_step s h k c (Some batch) PutBack own other answer reply after later e l m a b =
    record {
      events = ap without_blocks (a.0 ∙ same_put_back s h k e c batch.pages ∙ sym b.0);
      answers = a.1 ∙ ap (λ r. said (replied.Back r)) (same_back s h k e (still_flying h c batch.pages) ∙ ap (back_reply s k) (same_flying s h k e c batch.pages)) ∙ sym b.1;
      batches = a.2 ∙ sym b.2;
    }
