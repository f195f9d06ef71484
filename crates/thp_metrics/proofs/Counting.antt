-- How many pages callers have in their batches, with one more event.
use Rattle.std.proofs.Common.{◌≡◌, ◌≢◌, ℕ, zero, suc, ◌+◌, ◌^◌, ◌<◌, ◌≤◌, Bool, true, false, cond, ◌||◌, List, [], ◌∷◌, ◌++◌, Option, Some, None, length, get_or, set, replicate, refl, ap, sym, ◌∙◌, subst, arith, inl, inr, nat_eq, nat_lt, eq-eqb, eqb-true, length-set, option_and_then}
use Rattle.std.proofs.lemmas.Bool.{cases_lt, lt-ltb, ltb-false, ltb-true}
use Rattle.std.proofs.lemmas.List.{get_or-set_same, get_or-set_other, length-replicate}
use Rattle.std.proofs.Math.Nat.{pow-suc}
use Rattle.thp_history.specs.declared.events.Event.{Event}
use Rattle.thp_history.specs.declared.events.What.{What}
use Rattle.thp_history.specs.declared.shape.Shape.{Shape}
use Rattle.thp_history.specs.Prelude.{allocations, is_alloc, is_live, History, count_of, Fits, IsLegal, flight, has_page, no_pages, sum_below}
use Rattle.thp_history.proofs.Alive.{legal_grown}
use Rattle.thp_history.proofs.Numbers.{live_below}
use Rattle.thp_history.proofs.OnePlace.{flies_live}
use Rattle.thp_history.proofs.Pushes as pushes
use Rattle.thp_history.proofs.Standing.{legal_sound}
use Rattle.thp_history.proofs.SumsBelow.{sum_below-const, sum_below-ext, sum_below_suc}
use Rattle.thp_history.proofs.Untouched.{Untouched, untouched}
use Rattle.thp_journal_writer.specs.Prelude.{event_page}
use Rattle.thp_page.specs.declared.standing.Standing.TheVariants as at
use Rattle.thp_live_pages.specs.Prelude.{standing_of}
use Rattle.thp_live_pages.proofs.Standings.{batch_has, names, standing_flying, standing_other}
use Rattle.thp_history.proofs.Totals.{few_events}
use Rattle.thp_check.specs.Prelude.{Replayed, replayed_with}
use Rattle.thp_metrics.specs.Prelude.{callers_in, count_at, count_gone, count_more, MayCount, MayGo, batched, CountsBatches, batch_by, flight_holder, is_caller, callers_at}
use Rattle.thp_metrics.proofs.Moving.{no_more, no_page, none_named, not_about, not_named, part_of, sums_differ_at, unborn, unborn_still}

-- what a caller with so many pages adds
bit : ℕ → ℕ → ℕ
bit c n = cond (nat_lt 0 n) (2 ^ c) 0

callers_are : (counts : List ℕ) → callers_in counts ≡ sum_below 64 (λ c. bit c (count_at counts c))
unfolding bit
callers_are counts = refl

no_bit : (c : ℕ) → bit c 0 ≡ 0
unfolding bit
no_bit c = refl

a_bit : (c n : ℕ) → 0 < n → bit c n ≡ 2 ^ c
unfolding bit
a_bit c n some = ap (λ b. cond b (2 ^ c) 0) (lt-ltb 0 n some)

bit_fits : (c n : ℕ) → bit c n ≤ 2 ^ c
unfolding bit
bit_fits c n = grind (arith, nat_lt)

sum_fits : (m : ℕ) (f : ℕ → ℕ) → ((c : ℕ) → f c ≤ 2 ^ c) → sum_below m f < 2 ^ m
unfolding sum_below
sum_fits zero f fits = omega arith
sum_fits (suc m) f fits = omega (arith, sum_below_suc m f, sum_fits m f fits, fits m, pow-suc 2 m)

pub callers_fit : (counts : List ℕ) → callers_in counts < 2 ^ 64
callers_fit counts = let P : ℕ → Type 0 = λ n. n < 2 ^ 64 in subst P (sym (callers_are counts)) (sum_fits 64 (λ c. bit c (count_at counts c)) (λ c. bit_fits c (count_at counts c)))

-- one count was changed
callers_set : (counts : List ℕ) (c n : ℕ) → length counts ≡ 64 → c < 64 → callers_in (set counts c n) + bit c (count_at counts c) ≡ callers_in counts + bit c n
callers_set counts c n size low =
    let new : ℕ → ℕ = λ i. bit i (count_at (set counts c n) i) in
    let old : ℕ → ℕ = λ i. bit i (count_at counts i) in
    let sums : sum_below 64 new + old c ≡ sum_below 64 old + new c = sums_differ_at 64 new old c low (λ i l ne. ap (bit i) (get_or-set_other counts c i n 0 ne)) in
    let same : new c ≡ bit c n = ap (bit c) (get_or-set_same counts c n 0 (omega (arith, size, low))) in
    omega (arith, callers_are (set counts c n), callers_are counts, sums, same)

-- a first page comes
pub callers_enter : (counts : List ℕ) (c : ℕ) → length counts ≡ 64 → c < 64 → count_at counts c ≡ 0 → callers_in (set counts c 1) ≡ callers_in counts + 2 ^ c
callers_enter counts c size low none = omega (arith, callers_set counts c 1 size low, ap (bit c) none, no_bit c, a_bit c 1 (omega arith))

-- the last page goes
pub callers_leave : (counts : List ℕ) (c : ℕ) → length counts ≡ 64 → c < 64 → 0 < count_at counts c → callers_in (set counts c 0) + 2 ^ c ≡ callers_in counts
callers_leave counts c size low some = omega (arith, callers_set counts c 0 size low, a_bit c (count_at counts c) some, no_bit c)

pub none_in : callers_in (replicate 64 0) ≡ 0
unfolding sum_below
none_in = refl

-- 1 for the caller's own
b1 : ℕ → Option ℕ → ℕ
b1 c o = cond (is_caller c o) 1 0

its_own : (c : ℕ) → b1 c (Some c) ≡ 1
unfolding b1
its_own c = ap (λ b. cond {A = ℕ} b 1 0) (eq-eqb c c refl)

gone_at : (counts : List ℕ) (o : Option ℕ) (c : ℕ) → length counts ≡ 64 → c < 64 → MayGo counts o → count_at (count_gone counts o) c + b1 c o ≡ count_at counts c
unfolding b1
gone_at counts x c size low may = grind (arith, nat_lt, nat_eq, get_or, ltb-false, eqb-true, get_or-set_same, ltb-true, get_or-set_other, eq-eqb)

more_at : (counts : List ℕ) (o : Option ℕ) (c : ℕ) → length counts ≡ 64 → c < 64 → count_at (count_more counts o) c ≡ count_at counts c + b1 c o
unfolding b1
more_at counts x c size low = grind (arith, nat_lt, nat_eq, get_or, ltb-false, eqb-true, get_or-set_same, ltb-true, get_or-set_other, eq-eqb)

gone_size : (counts : List ℕ) (o : Option ℕ) → length (count_gone counts o) ≡ length counts
gone_size counts x = grind (arith, nat_lt, get_or, length-set)

more_size : (counts : List ℕ) (o : Option ℕ) → length (count_more counts o) ≡ length counts
more_size counts x = grind (arith, nat_lt, get_or, length-set)

-- a page that an event doesn't name stays in its batch
batch_stays : (s : Shape) (h : History) (e : Event) (q : ℕ) → Fits s h e → names q e.what ≡ false → flight_holder s (h ++ e ∷ []) q ≡ flight_holder s h q
batch_stays s h e q f n =
    let u : Untouched q e.what = untouched q e.what (not_about q e.what n) in
    rw (pushes.live_stays h e q u.no_alloc u.no_free, standing_other s h e q f n) refl

in_none : (s : Shape) (h : History) (p c : ℕ) → is_live h p ≡ false → b1 c (flight_holder s h p) ≡ 0
unfolding b1
in_none s h p c e = ap (λ (b : Bool). cond {A = ℕ} (is_caller c (cond b (batch_by (standing_of s h p)) None)) 1 0) e

alloc_number : (s : Shape) (h : History) (c : ℕ) (w : What) (p : ℕ) → Fits s h (record { caller = c; what = w }) → is_alloc w ≡ true → event_page w ≡ Some p → p ≡ allocations h
alloc_number s h c x p f a is = grind arith

batched_are : (s : Shape) (h : History) (c : ℕ) → batched s h c ≡ sum_below (allocations h) (λ i. b1 c (flight_holder s h i))
unfolding b1
batched_are s h c = refl

-- of the page that an event is about the batch before and that after it is counted, and nothing else changes
batched_moves : (s : Shape) (h : History) (e : Event) (p c : ℕ) → IsLegal s h → Fits s h e → event_page e.what ≡ Some p →
    batched s (h ++ e ∷ []) c + b1 c (flight_holder s h p) ≡ batched s h c + b1 c (flight_holder s (h ++ e ∷ []) p)
batched_moves s h e p c l f is = go (is_alloc e.what) refl where
  k : History
  k = h ++ e ∷ []

  old : ℕ → ℕ
  old i = b1 c (flight_holder s h i)

  new : ℕ → ℕ
  new i = b1 c (flight_holder s k i)

  n : ℕ
  n = allocations h

  others : (i : ℕ) → (i ≢ p) → new i ≡ old i
  others i ne = ap (b1 c) (batch_stays s h e i f (not_named e.what p i is ne))

  go : (b : Bool) → is_alloc e.what ≡ b → batched s k c + old p ≡ batched s h c + new p
  go false none =
      let count : batched s k c ≡ sum_below n new = batched_are s k c ∙ ap (λ m. sum_below m new) (pushes.count_same is_alloc h e none) in
      elim (cases_lt p n) [
        | inl below ↦ omega (arith, count, batched_are s h c, sums_differ_at n new old p below (λ i low ne. others i ne))
        | inr high ↦
            let same : sum_below n new ≡ sum_below n old = sum_below-ext n new old (λ i low. others i (λ z. omega (arith, z, low, high))) in
            omega (arith, count, batched_are s h c, same, in_none s h p c (unborn s h p l high), in_none s k p c (unborn_still s h e p l none high))
      ]
  go true one =
      let number : p ≡ n = alloc_number s h e.caller e.what p f one is in
      let grown : batched s k c ≡ sum_below n new + new n = batched_are s k c ∙ ap (λ m. sum_below m new) (pushes.count_more is_alloc h e one) ∙ ap (λ m. sum_below m new) (omega arith) ∙ sum_below_suc n new in
      let same : sum_below n new ≡ sum_below n old = sum_below-ext n new old (λ i low. others i (λ z. omega (arith, z, low, number))) in
      let last : new n ≡ new p = ap new (sym number) in
      omega (arith, grown, batched_are s h c, same, last, in_none s h p c (unborn s h p l (omega (arith, number))))

batched_stays : (s : Shape) (h : History) (e : Event) (c : ℕ) → Fits s h e → event_page e.what ≡ None → batched s (h ++ e ∷ []) c ≡ batched s h c
batched_stays s h e c f none =
    batched_are s (h ++ e ∷ []) c
    ∙ ap (λ m. sum_below m (λ i. b1 c (flight_holder s (h ++ e ∷ []) i))) (pushes.count_same is_alloc h e (no_page e.what none))
    ∙ sum_below-ext (allocations h) (λ i. b1 c (flight_holder s (h ++ e ∷ []) i)) (λ i. b1 c (flight_holder s h i)) (λ i low. ap (b1 c) (batch_stays s h e i f (none_named e.what i none)))
    ∙ sym (batched_are s h c)

batch_has_it : (s : Shape) (h : History) (p c : ℕ) → flight_holder s h p ≡ Some c → (is_live h p ≡ true) × (standing_of s h p ≡ at.Batch c)
batch_has_it s h p c e = grind arith

some_batched : (s : Shape) (h : History) (p c : ℕ) → IsLegal s h → flight_holder s h p ≡ Some c → 0 < batched s h c
some_batched s h p c l e =
    let below : p < allocations h = live_below h p (legal_grown s h l).numbered (batch_has_it s h p c e).0 in
    omega (arith, batched_are s h c, part_of (allocations h) (λ i. b1 c (flight_holder s h i)) p below, ap (b1 c) e, its_own c)

pub may_go : (r : Replayed) (counts : List ℕ) (o : Option ℕ) (page : Option ℕ) → IsLegal r.shape r.history → CountsBatches r counts → o ≡ option_and_then (flight_holder r.shape r.history) page → MayGo counts o
may_go r counts x page l k is = grind (arith, some_batched)

pub may_count : (r : Replayed) (counts : List ℕ) (o u : Option ℕ) → CountsBatches r counts → length r.history + 1 < 2 ^ 64 → MayGo counts o → MayCount (count_gone counts o) u
may_count r counts o x k few may = grind (arith, gone_at, no_more, few_events)

pub counts_on : (r : Replayed) (e : Event) (counts : List ℕ) (o u : Option ℕ) → IsLegal r.shape r.history → Fits r.shape r.history e → CountsBatches r counts → MayGo counts o →
    o ≡ option_and_then (flight_holder r.shape r.history) (event_page e.what) → u ≡ option_and_then (flight_holder r.shape (r.history ++ e ∷ [])) (event_page e.what) → CountsBatches (replayed_with r e) (count_more (count_gone counts o) u)
unfolding b1
counts_on r e counts o u l f k may before after = record {
  size = more_size (count_gone counts o) u ∙ gone_size counts o ∙ k.size;
  each = λ c low.
      omega (arith, more_at (count_gone counts o) u c (gone_size counts o ∙ k.size) low, gone_at counts o c k.size low may, k.each c low, ap (b1 c) before, ap (b1 c) after, by_page c (event_page e.what) refl);
} where
  s : Shape
  s = r.shape

  h : History
  h = r.history

  by_page : (c : ℕ) (page : Option ℕ) → event_page e.what ≡ page → batched s (h ++ e ∷ []) c + b1 c (option_and_then (flight_holder s h) page) ≡ batched s h c + b1 c (option_and_then (flight_holder s (h ++ e ∷ [])) page)
  by_page c (Some p) is = batched_moves s h e p c l f is
  by_page c None is = ap (λ i. i + 0) (batched_stays s h e c f is)

none_batched : (m : ℕ) (f : ℕ → ℕ) → ((i : ℕ) → f i ≡ 0) → sum_below m f ≡ 0
none_batched m f none = sum_below-ext m f (λ i. 0) (λ i low. none i) ∙ sum_below-const m 0 ∙ omega arith

abbrev nought : ℕ
nought = 0

empty : (s : Shape) (c : ℕ) → batched s [] c ≡ 0
unfolding count_of sum_below
empty s c = refl

pub no_batches : (r : Replayed) (counts : List ℕ) → r.history ≡ [] → counts ≡ replicate 64 0 → CountsBatches r counts
no_batches r counts none is = record {
  size = ap (λ (ns : List ℕ). length ns) is ∙ length-replicate 64 nought;
  each = λ c low. ap (λ (ns : List ℕ). get_or ns c 0) is ∙ zeros 64 c ∙ sym (ap (λ h. batched r.shape h c) none ∙ empty r.shape c);
} where
  zeros : (n c : ℕ) → get_or (replicate n nought) c 0 ≡ nought
  zeros zero c = refl
  zeros (suc n) zero = refl
  zeros (suc n) (suc c) = zeros n c

-- the callers with a count are those with a batch
caller_is : (s : Shape) (h : History) (c n : ℕ) → IsLegal s h → n ≡ batched s h c → cond (nat_lt 0 n) (2 ^ c) 0 ≡ cond (no_pages (flight h c)) 0 (2 ^ c)
unfolding b1
caller_is s h c n l is = go (flight h c) refl where
  go : (ps : List ℕ) → flight h c ≡ ps → cond (nat_lt 0 n) (2 ^ c) 0 ≡ cond (no_pages ps) 0 (2 ^ c)
  go [] e = ap (λ m. cond (nat_lt 0 m) (2 ^ c) 0) (is ∙ batched_are s h c ∙ none_batched (allocations h) (λ i. b1 c (flight_holder s h i)) (λ i. isnt i (is_caller c (flight_holder s h i)) refl)) where
    own : (i : ℕ) (o : Option ℕ) → flight_holder s h i ≡ o → is_caller c o ≡ true → flight_holder s h i ≡ Some c
    own i (Some d) y z = y ∙ ap (λ x. Some x) (eqb-true d c z)
    own i None y z = absurd (cc)

    isnt : (i : ℕ) (b : Bool) → is_caller c (flight_holder s h i) ≡ b → b1 c (flight_holder s h i) ≡ 0
    isnt i false y = ap (λ b. cond {A = ℕ} b 1 0) y
    isnt i true y = absurd (
        let has = (batch_has s h i c (batch_has_it s h i c (own i (flight_holder s h i) refl y)).1).0 in
        let hasnt : has_page i (flight h c) ≡ false = ap (has_page i) e in
        cc)
  go (p ∷ ps) e = ap (λ b. cond b (2 ^ c) 0) (lt-ltb 0 n (omega (arith, is, some_batched s h p c l in_batch))) where
    has : has_page p (flight h c) ≡ true
    has = ap (has_page p) e ∙ ap (λ b. b || has_page p ps) (eq-eqb p p refl)

    in_batch : flight_holder s h p ≡ Some c
    in_batch =
        ap (λ b. cond b (batch_by (standing_of s h p)) None) (flies_live s h c p l has).0
        ∙ ap batch_by (standing_flying s h p c (legal_sound s h l) has)

pub callers_reported : (r : Replayed) (counts : List ℕ) → IsLegal r.shape r.history → CountsBatches r counts → callers_in counts ≡ callers_at r.history
callers_reported r counts l k = grind (arith, sum_below-ext, nat_lt, caller_is)
