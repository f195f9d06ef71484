-- A page's state along a history: after each event it is what the history says of the page.
use Rattle.std.proofs.Common.{◌≡◌, ℕ, ◌+◌, ◌^◌, ◌<◌, Bool, true, false, cond, not, ◌&&◌, ◌||◌, List, [], ◌∷◌, ◌++◌, refl, ap, sym, ◌∙◌, arith, nat_eq, nat_lt, eq-eqb, slice_index_or}
use Rattle.thp_history.specs.Prelude.{Event, Outcome, What, Shape, covers, has, subpages, History, count_of, by, maps, unmaps, maps_whole, unmaps_whole, pins_page, unpins_page, is_split, splits, total, whole, own, pins, shrinks_underused, zeroes, writes, unmaps_some, is_zero_filled, is_partly_mapped, is_worth_split, zero_filled, PageState, size, own_at, total_at, zero_at, zero_count, partly_after, is_split_candidate, KeepsZero, KeepsCounts, WholeMapped, WholeUnmapped, RangeMapped, RangeUnmapped, PmdSplit, PageSplit, RangeWritten, RangeZeroed, IsFresh, Tallies}
use Rattle.thp_history.specs.declared.events.What.TheVariants.{Alloc, MapWhole, UnmapWhole, MapSub, UnmapSub, SplitPmd, Pin, Unpin, Write, Zero, Split}
use Rattle.thp_history.specs.Pages.{Pinned}
use Rattle.thp_history.proofs.Below.{some_below-ext}
use Rattle.thp_history.proofs.Bools.{by_bool, or_first}
use Rattle.thp_history.proofs.Numbers.{Fresh}
use Rattle.thp_history.proofs.Pushes.{count_of_push, count_same, count_more, some_same, some_event_push, zero_stays, partly_stays, is_zero_filled_push, is_partly_mapped_push}
use Rattle.thp_history.proofs.SumsBelow.{sum_below-ext}
use Rattle.thp_history.proofs.Untouched.{Untouched}

-- a page has as many subpages as each page of its node
pub size_is : (shape : Shape) (h : History) (p : ℕ) (t : PageState) → Tallies shape h p t → size t ≡ subpages shape
unfolding size subpages
size_is shape h p t m = ap (λ n. 2 ^ n) m.order

-- the counts of a page, and the same of its history
pub total_is : (shape : Shape) (h : History) (p i : ℕ) (t : PageState) → Tallies shape h p t → i < subpages shape → total h p i ≡ total_at t i
total_is shape h p i t m below = omega (arith, m.totals i below)

-- the same of its pins
pub pins_is : (shape : Shape) (h : History) (p : ℕ) (t : PageState) → Tallies shape h p t → pins h p ≡ t.pins
pins_is shape h p t m = omega (arith, m.pins_of)

-- the same of its whole map count
pub whole_is : (shape : Shape) (h : History) (p : ℕ) (t : PageState) → Tallies shape h p t → whole h p ≡ t.whole
whole_is shape h p t m = grind (arith, by_bool)

-- the same of the own map count of a subpage
pub own_is : (shape : Shape) (h : History) (p i : ℕ) (t : PageState) → Tallies shape h p t → i < subpages shape → own h p i ≡ own_at t i
own_is shape h p i t m below = grind (arith, total_is, whole_is)

-- pages of one order
pub same_size : (a b : PageState) → a.order ≡ b.order → size a ≡ size b
unfolding size
same_size a b e = ap (λ n. 2 ^ n) e

-- what a call about mappings or pins leaves of what is zero-filled
zero_kept : (shape : Shape) (h : History) (e : Event) (p : ℕ) (old new : PageState) → Tallies shape h p old → KeepsZero old new →
    ((i : ℕ) → zeroes p i e.what ≡ false) → ((i : ℕ) → writes p i e.what ≡ false) → (i : ℕ) → i < subpages shape → zero_at new i ≡ is_zero_filled (h ++ e ∷ []) p i
zero_kept shape h e p old new m k z w i below = ap (λ s. has s i) k.zero ∙ m.zero i below ∙ sym (zero_stays h e p i (z i) (w i))

-- the same of what its split gave back
gave_kept : (shape : Shape) (h : History) (p : ℕ) (old new : PageState) → Tallies shape h p old → KeepsZero old new → new.split ≡ old.split →
    new.split ≡ true → new.freed_zero_frames ≡ shrinks_underused shape
gave_kept shape h p old new m k s g = k.freed_zero_frames ∙ m.freed_zero_frames (sym s ∙ g)

-- an event that unmaps nothing leaves whether the page is partly mapped
partly_kept : (shape : Shape) (h : History) (e : Event) (p : ℕ) (old new : PageState) → Tallies shape h p old → new.partly ≡ old.partly → unmaps_some p e.what ≡ false →
    new.partly ≡ is_partly_mapped shape (h ++ e ∷ []) p
partly_kept shape h e p old new m same f = same ∙ m.partly ∙ sym (partly_stays shape h e p f)

-- an unmap leaves the page partly mapped where a subpage went out of use and another is in use
partly_unmapped : (shape : Shape) (h : History) (e : Event) (p : ℕ) (old new : PageState) → Tallies shape h p old → new.order ≡ old.order →
    ((i : ℕ) → i < subpages shape → count_of (maps p i) (h ++ e ∷ []) ≡ count_of (unmaps p i) (h ++ e ∷ []) + total_at new i) →
    new.partly ≡ partly_after old new → unmaps_some p e.what ≡ true → new.partly ≡ is_partly_mapped shape (h ++ e ∷ []) p
partly_unmapped shape h e p old new m o totals is f = grind (arith, some_below-ext, total_is, nat_lt, nat_eq, size_is, same_size, is_partly_mapped_push)

-- an event that isn't about the page
pub tallies_stay : (shape : Shape) (h : History) (e : Event) (p : ℕ) (t : PageState) → Untouched p e.what → Tallies shape h p t → Tallies shape (h ++ e ∷ []) p t
tallies_stay shape h e p t u m = grind (arith, count_same, some_same, zero_stays, partly_stays)

-- a subpage of the node's pages is one of the page
in_size : (shape : Shape) (h : History) (p : ℕ) (t : PageState) → Tallies shape h p t → (i : ℕ) → i < subpages shape → i < size t
in_size shape h p t m i below = omega (arith, size_is shape h p t m)

-- the event changes no count of page p
record IsFilling (p : ℕ) (w : What) : Type 0 where
  no_maps : (i : ℕ) → maps p i w ≡ false
  no_unmaps : (i : ℕ) → unmaps p i w ≡ false
  no_maps_whole : maps_whole p w ≡ false
  no_unmaps_whole : unmaps_whole p w ≡ false
  no_pin : pins_page p w ≡ false
  no_unpin : unpins_page p w ≡ false
  no_split : splits p w ≡ false
  no_unmap : unmaps_some p w ≡ false

-- an event of page p covers what its range covers
covered : (p first count i : ℕ) → (nat_eq p p && covers first count i) ≡ covers first count i
covered p first count i = ap (λ b. b && covers first count i) (eq-eqb p p refl)

-- a new page has as many subpages as each page of its node
fresh_size : (shape : Shape) (t : PageState) → IsFresh shape.order t → size t ≡ subpages shape
unfolding size subpages
fresh_size shape t m = ap (λ n. 2 ^ n) m.order_is

-- a new page
pub tallies_alloc : (shape : Shape) (h : History) (c p b : ℕ) (new : PageState) → Fresh h p → IsFresh shape.order new → Tallies shape (h ++ by c (Alloc p b) ∷ []) p new
tallies_alloc shape h c p b new f m =
    let e : Event = by c (Alloc p b) in
    record {
      order = m.order_is;
      totals = λ i below. omega (arith, count_more (maps p i) h e (eq-eqb p p refl), count_same (unmaps p i) h e refl, f.no_maps i, f.no_unmaps i, m.whole, m.own i);
      whole_of = λ g. omega (arith, count_more (maps_whole p) h e (eq-eqb p p refl), count_same (unmaps_whole p) h e refl, f.no_maps_whole, f.no_unmaps_whole, m.whole);
      no_whole = λ g. absurd (let z : true ≡ false = sym g ∙ some_same (splits p) h e refl ∙ f.not_split in cc);
      pins_of = omega (arith, count_same (pins_page p) h e refl, count_same (unpins_page p) h e refl, f.no_pins, f.no_unpins, m.pins);
      split = m.split ∙ sym (some_same (splits p) h e refl ∙ f.not_split);
      zero = λ i below. m.zero i (omega (arith, below, fresh_size shape new m)) ∙ sym (is_zero_filled_push p i h e ∙ or_first (nat_eq p p) _ (eq-eqb p p refl));
      partly = m.partly ∙ sym (partly_stays shape h e p refl ∙ f.not_partly shape);
      freed_zero_frames = λ g. absurd (let z : true ≡ false = sym g ∙ m.split in cc);
    }

-- one more mapping of the whole page
pub tallies_map_whole : (shape : Shape) (h : History) (c p : ℕ) (old new : PageState) → Tallies shape h p old → old.split ≡ false → WholeMapped old new →
    Tallies shape (h ++ by c (MapWhole p) ∷ []) p new
tallies_map_whole shape h c p old new t s w =
    let e : Event = by c (MapWhole p) in
    record {
      order = w.order ∙ t.order;
      totals = λ i below. omega (arith, count_more (maps p i) h e (eq-eqb p p refl), count_same (unmaps p i) h e refl, t.totals i below, w.whole, w.own i (in_size shape h p old t i below));
      whole_of = λ g. omega (arith, count_more (maps_whole p) h e (eq-eqb p p refl), count_same (unmaps_whole p) h e refl, t.whole_of (sym t.split ∙ s), w.whole);
      no_whole = λ g. absurd (let z : true ≡ false = sym g ∙ some_same (splits p) h e refl ∙ sym t.split ∙ s in cc);
      pins_of = omega (arith, count_same (pins_page p) h e refl, count_same (unpins_page p) h e refl, t.pins_of, w.pins);
      split = w.split ∙ t.split ∙ sym (some_same (splits p) h e refl);
      zero = zero_kept shape h e p old new t w.kept (λ i. refl) (λ i. refl);
      partly = partly_kept shape h e p old new t w.partly refl;
      freed_zero_frames = gave_kept shape h p old new t w.kept w.split;
    }

-- one mapping of the whole page less
pub tallies_unmap_whole : (shape : Shape) (h : History) (c p : ℕ) (o : Outcome) (r : List Bool) (old new : PageState) → Tallies shape h p old → WholeUnmapped old new →
    Tallies shape (h ++ by c (UnmapWhole o p r) ∷ []) p new
tallies_unmap_whole shape h c p o r old new t w = grind (arith, count_same, count_more, eq-eqb, in_size, some_same, zero_kept, partly_unmapped, gave_kept)

-- one more mapping of each subpage of a range
pub tallies_map_sub : (shape : Shape) (h : History) (c p first count : ℕ) (old new : PageState) → Tallies shape h p old → RangeMapped first count old new →
    Tallies shape (h ++ by c (MapSub p first count) ∷ []) p new
tallies_map_sub shape h c p first count old new t u =
    let e : Event = by c (MapSub p first count) in
    record {
      order = u.order ∙ t.order;
      totals = λ i below.
          omega (arith, count_of_push (maps p i) h e ∙ ap (λ b. count_of (maps p i) h + cond b 1 0) (covered p first count i), count_same (unmaps p i) h e refl, t.totals i below, u.whole, u.own i (in_size shape h p old t i below));
      whole_of = λ g. omega (arith, count_same (maps_whole p) h e refl, count_same (unmaps_whole p) h e refl, t.whole_of (sym (some_same (splits p) h e refl) ∙ g), u.whole);
      no_whole = λ g. u.whole ∙ t.no_whole (sym (some_same (splits p) h e refl) ∙ g);
      pins_of = omega (arith, count_same (pins_page p) h e refl, count_same (unpins_page p) h e refl, t.pins_of, u.pins);
      split = u.split ∙ t.split ∙ sym (some_same (splits p) h e refl);
      zero = zero_kept shape h e p old new t u.kept (λ i. refl) (λ i. refl);
      partly = partly_kept shape h e p old new t u.partly refl;
      freed_zero_frames = gave_kept shape h p old new t u.kept u.split;
    }

-- one mapping of each subpage of a range less
pub tallies_unmap_sub : (shape : Shape) (h : History) (c p first count : ℕ) (o : Outcome) (r : List Bool) (old new : PageState) → Tallies shape h p old → RangeUnmapped first count old new →
    Tallies shape (h ++ by c (UnmapSub o p first count r) ∷ []) p new
tallies_unmap_sub shape h c p first count o r old new t u = grind (arith, count_same, count_of_push, covered, in_size, some_same, zero_kept, partly_unmapped, eq-eqb, gave_kept)

-- a mapping of the whole page made into one of each subpage
pub tallies_split_pmd : (shape : Shape) (h : History) (c p : ℕ) (old new : PageState) → Tallies shape h p old → PmdSplit old new →
    Tallies shape (h ++ by c (SplitPmd p) ∷ []) p new
tallies_split_pmd shape h c p old new t w =
    let e : Event = by c (SplitPmd p) in
    record {
      order = w.order ∙ t.order;
      totals = λ i below. omega (arith, count_same (maps p i) h e refl, count_same (unmaps p i) h e refl, t.totals i below, w.whole, w.own i (in_size shape h p old t i below));
      whole_of = λ g. omega (arith, count_same (maps_whole p) h e refl, count_more (unmaps_whole p) h e (eq-eqb p p refl), t.whole_of (sym (some_same (splits p) h e refl) ∙ g), w.whole);
      no_whole = λ g. omega (arith, t.no_whole (sym (some_same (splits p) h e refl) ∙ g), w.whole);
      pins_of = omega (arith, count_same (pins_page p) h e refl, count_same (unpins_page p) h e refl, t.pins_of, w.pins);
      split = w.split ∙ t.split ∙ sym (some_same (splits p) h e refl);
      zero = zero_kept shape h e p old new t w.kept (λ i. refl) (λ i. refl);
      partly = partly_kept shape h e p old new t w.partly refl;
      freed_zero_frames = gave_kept shape h p old new t w.kept w.split;
    }

-- one more pin
pub tallies_pin : (shape : Shape) (h : History) (c p : ℕ) (old new : PageState) → Tallies shape h p old → Pinned old new → Tallies shape (h ++ by c (Pin p) ∷ []) p new
tallies_pin shape h c p old new t w =
    let e : Event = by c (Pin p) in
    record {
      order = w.order ∙ t.order;
      totals = λ i below. omega (arith, count_same (maps p i) h e refl, count_same (unmaps p i) h e refl, t.totals i below, w.whole, w.own i (in_size shape h p old t i below));
      whole_of = λ g. omega (arith, count_same (maps_whole p) h e refl, count_same (unmaps_whole p) h e refl, t.whole_of (sym (some_same (splits p) h e refl) ∙ g), w.whole);
      no_whole = λ g. w.whole ∙ t.no_whole (sym (some_same (splits p) h e refl) ∙ g);
      pins_of = omega (arith, count_more (pins_page p) h e (eq-eqb p p refl), count_same (unpins_page p) h e refl, t.pins_of, w.pins);
      split = w.split ∙ t.split ∙ sym (some_same (splits p) h e refl);
      zero = zero_kept shape h e p old new t w.kept (λ i. refl) (λ i. refl);
      partly = partly_kept shape h e p old new t w.partly refl;
      freed_zero_frames = gave_kept shape h p old new t w.kept w.split;
    }

-- one pin less
pub tallies_unpin : (shape : Shape) (h : History) (c p : ℕ) (o : Outcome) (r : List Bool) (old new : PageState) → Tallies shape h p old → Pinned new old →
    Tallies shape (h ++ by c (Unpin o p r) ∷ []) p new
tallies_unpin shape h c p o r old new t w =
    let e : Event = by c (Unpin o p r) in
    let back : KeepsZero old new = record { zero = sym w.kept.zero; freed_zero_frames = sym w.kept.freed_zero_frames } in
    record {
      order = sym w.order ∙ t.order;
      totals = λ i below. omega (arith, count_same (maps p i) h e refl, count_same (unmaps p i) h e refl, t.totals i below, w.whole, w.own i (omega (arith, in_size shape h p old t i below, same_size old new w.order)));
      whole_of = λ g. omega (arith, count_same (maps_whole p) h e refl, count_same (unmaps_whole p) h e refl, t.whole_of (sym (some_same (splits p) h e refl) ∙ g), w.whole);
      no_whole = λ g. sym w.whole ∙ t.no_whole (sym (some_same (splits p) h e refl) ∙ g);
      pins_of = omega (arith, count_same (pins_page p) h e refl, count_more (unpins_page p) h e (eq-eqb p p refl), t.pins_of, w.pins);
      split = sym w.split ∙ t.split ∙ sym (some_same (splits p) h e refl);
      zero = zero_kept shape h e p old new t back (λ i. refl) (λ i. refl);
      partly = partly_kept shape h e p old new t (sym w.partly) refl;
      freed_zero_frames = gave_kept shape h p old new t back (sym w.split);
    }

-- the page split into base pages
pub tallies_split : (shape : Shape) (h : History) (c p : ℕ) (r : List Bool) (old new : PageState) → Tallies shape h p old → PageSplit (shrinks_underused shape) old new →
    Tallies shape (h ++ by c (Split p r) ∷ []) p new
tallies_split shape h c p r old new t w =
    let e : Event = by c (Split p r) in
    let now : is_split (h ++ e ∷ []) p ≡ true = some_event_push (splits p) h e ∙ go (is_split h p) (nat_eq p p) (eq-eqb p p refl) in
    record {
      order = w.order ∙ t.order;
      totals = λ i below. omega (arith, count_same (maps p i) h e refl, count_same (unmaps p i) h e refl, t.totals i below, w.whole, w.own i (in_size shape h p old t i below));
      whole_of = λ g. absurd (let z : true ≡ false = sym now ∙ g in cc);
      no_whole = λ g. w.whole;
      pins_of = omega (arith, count_same (pins_page p) h e refl, count_same (unpins_page p) h e refl, t.pins_of, w.pins);
      split = w.split ∙ sym now;
      zero = λ i below. ap (λ s. has s i) w.zero ∙ t.zero i below ∙ sym (zero_stays h e p i refl refl);
      partly = partly_kept shape h e p old new t w.partly refl;
      freed_zero_frames = λ g. w.freed_zero_frames;
    } where
      go : (a b : Bool) → b ≡ true → (a || b) ≡ true
      go true b e = refl
      go false b e = e

-- a write leaves the counts of the page
counts_kept : (shape : Shape) (h : History) (e : Event) (p : ℕ) (old new : PageState) → Tallies shape h p old → KeepsCounts old new → IsFilling p e.what →
    ((i : ℕ) → i < subpages shape → zero_at new i ≡ is_zero_filled (h ++ e ∷ []) p i) → Tallies shape (h ++ e ∷ []) p new
counts_kept shape h e p old new t k u zero = record {
  order = k.order ∙ t.order;
  totals = λ i below. omega (arith, count_same (maps p i) h e (u.no_maps i), count_same (unmaps p i) h e (u.no_unmaps i), t.totals i below, k.whole, ap (λ o. slice_index_or o i 0) k.own);
  whole_of = λ g. omega (arith, count_same (maps_whole p) h e u.no_maps_whole, count_same (unmaps_whole p) h e u.no_unmaps_whole, t.whole_of (sym (some_same (splits p) h e u.no_split) ∙ g), k.whole);
  no_whole = λ g. k.whole ∙ t.no_whole (sym (some_same (splits p) h e u.no_split) ∙ g);
  pins_of = omega (arith, count_same (pins_page p) h e u.no_pin, count_same (unpins_page p) h e u.no_unpin, t.pins_of, k.pins);
  split = k.split ∙ t.split ∙ sym (some_same (splits p) h e u.no_split);
  zero = zero;
  partly = partly_kept shape h e p old new t k.partly u.no_unmap;
  freed_zero_frames = λ g. k.freed_zero_frames ∙ t.freed_zero_frames (sym k.split ∙ g);
}

-- data written to a range
pub tallies_write : (shape : Shape) (h : History) (c p first count : ℕ) (old new : PageState) → Tallies shape h p old → RangeWritten first count old new →
    Tallies shape (h ++ by c (Write p first count) ∷ []) p new
tallies_write shape h c p first count old new t w =
    let e : Event = by c (Write p first count) in
    counts_kept shape h e p old new t w.kept
    (record { no_maps = λ i. refl; no_unmaps = λ i. refl; no_maps_whole = refl; no_unmaps_whole = refl; no_pin = refl; no_unpin = refl; no_split = refl; no_unmap = refl })
    (λ i below.
    w.zero i (in_size shape h p old t i below) ∙ ap (λ b. b && not (covers first count i)) (t.zero i below)
    ∙ sym (is_zero_filled_push p i h e ∙ ap (λ b. is_zero_filled h p i && not b) (covered p first count i)))

-- zeros written to a range
pub tallies_zero : (shape : Shape) (h : History) (c p first count : ℕ) (old new : PageState) → Tallies shape h p old → RangeZeroed first count old new →
    Tallies shape (h ++ by c (Zero p first count) ∷ []) p new
tallies_zero shape h c p first count old new t w =
    let e : Event = by c (Zero p first count) in
    counts_kept shape h e p old new t w.kept
    (record { no_maps = λ i. refl; no_unmaps = λ i. refl; no_maps_whole = refl; no_unmaps_whole = refl; no_pin = refl; no_unpin = refl; no_split = refl; no_unmap = refl })
    (λ i below.
    w.zero i (in_size shape h p old t i below) ∙ ap (λ b. b || covers first count i) (t.zero i below) ∙ turn (is_zero_filled h p i) (covers first count i)
    ∙ sym (is_zero_filled_push p i h e ∙ ap (λ b. b || (is_zero_filled h p i && true)) (covered p first count i))) where
      turn : (a b : Bool) → (a || b) ≡ (b || (a && true))
      turn true true = refl
      turn true false = refl
      turn false true = refl
      turn false false = refl

-- how many subpages are zero-filled
zero_count_is : (shape : Shape) (h : History) (p : ℕ) (t : PageState) → Tallies shape h p t → zero_filled shape h p ≡ zero_count t
zero_count_is shape h p t m = grind (arith, sum_below-ext, size_is)

-- whether a split of the page is worth its while
pub worth_is : (shape : Shape) (h : History) (p : ℕ) (t : PageState) → Tallies shape h p t → is_worth_split shape h p ≡ is_split_candidate shape.underused t
worth_is shape h p t m = grind (arith, zero_count_is)
