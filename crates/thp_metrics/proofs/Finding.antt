-- How often pages were found pinned, with one more event.
use Rattle.std.proofs.Common.{◌≡◌, ◌≢◌, ℕ, zero, suc, ◌+◌, ◌<◌, ◌≤◌, ◌^◌, Bool, true, false, cond, List, [], ◌∷◌, ◌++◌, Option, Some, None, length, map, set, refl, ap, sym, ◌∙◌, subst, arith, nat_eq, eq-eqb, eqb-true, length-set, slice_get, filter, option_and_then}
use Rattle.thp_history.specs.declared.events.Event.{Event}
use Rattle.thp_history.specs.declared.events.What.{What}
use Rattle.thp_history.specs.declared.events.What.TheVariants as what
use Rattle.thp_history.specs.declared.shape.Shape.{Shape}
use Rattle.thp_history.specs.Prelude.{allocates, allocations, is_alloc, is_split, History, by, count_of, Fits, IsLegal, flight, has_page, is_partly_mapped}
use Rattle.thp_history.proofs.Alive.{legal_grown}
use Rattle.thp_history.proofs.LegalSteps.{legal_push}
use Rattle.thp_history.proofs.Numbers.{live_below}
use Rattle.thp_history.proofs.OnePlace.{flies_live}
use Rattle.thp_history.proofs.Pushes.{count_of_push, flights_push}
use Rattle.thp_history.proofs.Standing.{legal_sound}
use Rattle.thp_journal_writer.specs.Prelude.{event_page}
use Rattle.thp_live_pages.specs.Prelude.{block_after, block_of, standing_of}
use Rattle.thp_live_pages.proofs.Homing.{block_freed, block_push, block_stays, legal_homed}
use Rattle.thp_live_pages.proofs.Standings.{standing_flying}
use Rattle.thp_history.proofs.Totals.{few_events}
use Rattle.thp_metrics.specs.Prelude.{PinCount, KeepsFinds, MayNote, with_pin_count, noted, home, stage_by, finds, finds_pinned, waits, waits_in}
use Rattle.thp_metrics.proofs.Arriving.{home_waits, waits_home}

set_same : (xs : List PinCount) (i : ℕ) (v : PinCount) → i < length xs → slice_get (set xs i v) i ≡ Some v
set_same [] i v below = absurd (omega (arith, below))
set_same (x ∷ xs) zero v below = refl
set_same (x ∷ xs) (suc i) v below = set_same xs i v (omega (arith, below))

set_other : (xs : List PinCount) (i j : ℕ) (v : PinCount) → j ≢ i → slice_get (set xs i v) j ≡ slice_get xs j
set_other [] i j v ne = refl
set_other (x ∷ xs) zero zero v ne = absurd (ne refl)
set_other (x ∷ xs) zero (suc j) v ne = refl
set_other (x ∷ xs) (suc i) zero v ne = refl
set_other (x ∷ xs) (suc i) (suc j) v ne = set_other xs i j v (λ e. ne (ap suc e))

short : (xs : List PinCount) (i : ℕ) (v : PinCount) → slice_get xs i ≡ Some v → i < length xs
short [] i v e = absurd (cc)
short (x ∷ xs) zero v e = omega arith
short (x ∷ xs) (suc i) v e = omega (arith, short xs i v e)

-- finds with one more event
finds_push : (h : History) (e : Event) (p : ℕ) → finds (h ++ e ∷ []) p ≡ finds h p + cond (finds_pinned p e.what) 1 0
finds_push h e p = count_of_push (finds_pinned p) h e

some_is : (a b : ℕ) → Some a ≡ Some b → a ≡ b
some_is a b e = cc

-- a page that lies somewhere and isn't new lay there
lay_there : (h : History) (e : Event) (q b : ℕ) → allocates q e.what ≡ false → block_of (h ++ e ∷ []) q ≡ Some b → block_of h q ≡ Some b
lay_there h e q b a y = grind (arith, block_push, block_freed, block_stays)

same_flight : (h : History) (c p : ℕ) → flight (h ++ by c (what.Pinned p) ∷ []) c ≡ flight h c
same_flight h c p = ap (λ (fs : List (ℕ × ℕ)). map (λ (f : ℕ × ℕ). f.1) (filter (λ (f : ℕ × ℕ). nat_eq f.0 c) fs)) (flights_push h (by c (what.Pinned p)))

-- a page that is found pinned waits still
waits_still : (s : Shape) (h : History) (c p : ℕ) → IsLegal s h → Fits s h (by c (what.Pinned p)) → waits s (h ++ by c (what.Pinned p) ∷ []) p ≡ true
waits_still s h c p l f =
    let k : History = h ++ by c (what.Pinned p) ∷ [] in
    let legal : IsLegal s k = legal_push s h (by c (what.Pinned p)) l f in
    let has : has_page p (flight k c) ≡ true = ap (has_page p) (same_flight h c p) ∙ f.0 in
    let lives = flies_live s k c p legal has in
    ap (λ b. waits_in (cond b (Some (stage_by (is_split k p) (standing_of s k p) (is_partly_mapped s k p))) None)) lives.0
    ∙ ap (λ b. waits_in (Some (stage_by b (standing_of s k p) (is_partly_mapped s k p)))) lives.1
    ∙ ap (λ x. waits_in (Some (stage_by false x (is_partly_mapped s k p)))) (standing_flying s k p c (legal_sound s k legal) has)

-- a page lives where it was found pinned
finds_live : (s : Shape) (h : History) (e : Event) (p : ℕ) → IsLegal s h → Fits s h e → finds_pinned p e.what ≡ true → p < allocations h
finds_live s h e p l f is = go e.caller e.what f is where
  go : (c : ℕ) (w : What) → Fits s h (by c w) → finds_pinned p w ≡ true → p < allocations h
  go c (what.Pinned q) f is =
      let P : ℕ → Type 0 = λ x. x < allocations h in
      subst P (sym (eqb-true p q is)) (live_below h q (legal_grown s h l).numbered (flies_live s h c q l f.0).0)
  go c w f is = absurd (cc)

-- there is room for what happens
pub may_note : (s : Shape) (h : History) (e : Event) (found : List PinCount) (u : Option ℕ) → IsLegal s h → Fits s h e → KeepsFinds s h found → length h + 1 < 2 ^ 64 →
    u ≡ option_and_then (home s (h ++ e ∷ [])) (event_page e.what) → MayNote found e.what u
may_note s h e found u l f k few is = grind (arith, option_and_then, lay_there, home_waits, few_events)

module _ (s : Shape) (h : History) (e : Event) (found : List PinCount) (l : IsLegal s h) (f : Fits s h e) (k : KeepsFinds s h found) where
  abbrev after : History
  after = h ++ e ∷ []

  legal : IsLegal s after
  legal = legal_push s h e l f

  grows : allocations h ≤ allocations after
  grows = omega (arith, count_of_push is_alloc h e)

  never : (p : ℕ) → allocations after ≤ p → finds after p ≡ 0
  never p high = go (finds_pinned p e.what) refl where
    go : (b : Bool) → finds_pinned p e.what ≡ b → finds after p ≡ 0
    go false y = omega (arith, finds_push h e p, ap (λ (b : Bool). cond {A = ℕ} b 1 0) y, k.never p (omega (arith, high, grows)))
    go true y = absurd (omega (arith, finds_live s h e p l f y, high, grows))

  -- nothing is found, and no page is new
  unfound : (q : ℕ) → finds_pinned q e.what ≡ false → finds after q ≡ finds h q
  unfound q y = omega (arith, finds_push h e q, ap (λ (b : Bool). cond {A = ℕ} b 1 0) y)

  kept : (q b : ℕ) → allocates q e.what ≡ false → finds_pinned q e.what ≡ false → block_of after q ≡ Some b → slice_get found b ≡ Some (record { page = q; finds = finds after q })
  kept q b a y at = grind (arith, lay_there, unfound)

  pub finds_on : (u : Option ℕ) (more : List PinCount) → u ≡ option_and_then (home s after) (event_page e.what) → more ≡ noted found e.what u → KeepsFinds s after more
  finds_on u more is reported = let P : List PinCount → Type 0 = KeepsFinds s after in subst P (sym reported) (go e.caller e.what u refl f is) where
    outer : Fits s h e
    outer = f

    apart : (q p b d : ℕ) → q ≢ p → block_of after q ≡ Some b → block_of after p ≡ Some d → b ≢ d
    apart q p b d ne y z same = ne ((legal_homed s after legal).once q p b y (z ∙ ap (λ (x : ℕ). Some x) (sym same)))

    unequal : (q p : ℕ) → nat_eq q p ≡ false → q ≢ p
    unequal q p y z = absurd (let yes = eq-eqb q p z in cc)

    as_reported : ℕ → ℕ → PinCount
    as_reported q n = record { page = q; finds = n }

    found_again : (p d : ℕ) → e.what ≡ what.Pinned p → block_of after p ≡ Some d → slice_get found d ≡ Some (as_reported p (finds h p)) → KeepsFinds s after (set found d (as_reported p (finds h p + 1)))
    found_again p d same lies was = record {
      size = length-set found d (as_reported p (finds h p + 1)) ∙ k.size;
      each = λ q b at. place q b at (nat_eq q p) refl;
      never = never;
    } where
      place : (q b : ℕ) → block_of after q ≡ Some b → (t : Bool) → nat_eq q p ≡ t → slice_get (set found d (as_reported p (finds h p + 1))) b ≡ Some (as_reported q (finds after q))
      place q b at true y =
          let page : q ≡ p = eqb-true q p y in
          let block : b ≡ d = some_is b d (sym at ∙ ap (block_of after) page ∙ lies) in
          let more : finds after q ≡ finds h p + 1 = finds_push h e q ∙ ap (λ t. finds h q + cond {A = ℕ} t 1 0) (ap (finds_pinned q) same ∙ y) ∙ ap (λ x. finds h x + 1) page in
          ap (slice_get (set found d (as_reported p (finds h p + 1)))) block
          ∙ set_same found d (as_reported p (finds h p + 1)) (short found d (as_reported p (finds h p)) was)
          ∙ ap (λ (x : ℕ). Some (as_reported x (finds h p + 1))) (sym page)
          ∙ ap (λ (n : ℕ). Some (as_reported q n)) (sym more)
      place q b at false y =
          set_other found d b (as_reported p (finds h p + 1)) (apart q p b d (unequal q p y) at lies)
          ∙ kept q b (ap (allocates q) same) (ap (finds_pinned q) same ∙ y) at

    go : (c : ℕ) (w : What) (u : Option ℕ) → e.what ≡ w → Fits s h (by c w) → u ≡ option_and_then (home s after) (event_page w) → KeepsFinds s after (noted found w u)
    go c (what.Alloc p d) u same f is = record {
      size = length-set found d (as_reported p 0) ∙ k.size;
      each = λ q b at. place q b at (nat_eq q p) refl;
      never = never;
    } where
      lies : block_of after p ≡ Some d
      lies = block_push h e p ∙ ap (block_after p (block_of h p)) same ∙ ap (λ t. cond t (Some d) (block_of h p)) (eq-eqb p p refl)

      place : (q b : ℕ) → block_of after q ≡ Some b → (t : Bool) → nat_eq q p ≡ t → slice_get (set found d (as_reported p 0)) b ≡ Some (as_reported q (finds after q))
      place q b at true y =
          let page : q ≡ p = eqb-true q p y in
          let block : b ≡ d = some_is b d (sym at ∙ ap (block_of after) page ∙ lies) in
          let none : finds after q ≡ 0 = unfound q (ap (finds_pinned q) same) ∙ ap (finds h) page ∙ k.never p (omega (arith, f.number)) in
          ap (slice_get (set found d (as_reported p 0))) block
          ∙ set_same found d (as_reported p 0) (omega (arith, f.inside, k.size))
          ∙ ap (λ (x : ℕ). Some (as_reported x 0)) (sym page)
          ∙ ap (λ (n : ℕ). Some (as_reported q n)) (sym none)
      place q b at false y =
          set_other found d b (as_reported p 0) (apart q p b d (unequal q p y) at lies)
          ∙ kept q b (ap (allocates q) same ∙ y) (ap (finds_pinned q) same) at
    go c (what.Pinned p) None same f is = absurd (
        let w = waits_home s after p legal (ap (λ (x : What). waits s (h ++ by e.caller x ∷ []) p) same ∙ waits_still s h e.caller p l (let P : What → Type 0 = λ x. Fits s h (by e.caller x) in subst P same outer)) in
        let some = w.1 in
        cc)
    go c (what.Pinned p) (Some d) same f is =
        let lies : block_of after p ≡ Some d = (home_waits s after p d (sym is)).1 in
        let was : slice_get found d ≡ Some (as_reported p (finds h p)) = k.each p d (lay_there h e p d (ap (allocates p) same) lies) in
        let P : List PinCount → Type 0 = KeepsFinds s after in
        subst P (sym (ap (with_pin_count found d) was)) (found_again p d same lies was)
    go c w u same f is = record {
      size = k.size;
      each = λ q b at. kept q b (ap (allocates q) same) (ap (finds_pinned q) same) at;
      never = never;
    }

pub nothing_found : (s : Shape) (found : List PinCount) → length found ≡ s.blocks → KeepsFinds s [] found
unfolding count_of block_of
nothing_found s found size = grind (arith, never)
