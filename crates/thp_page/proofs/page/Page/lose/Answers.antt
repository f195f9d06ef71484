use Rattle.std.proofs.Common.{◌≡◌, ◌≢◌, ◌+◌, ◌-◌, ◌<◌, ◌≤◌, ◌&&◌, ◌||◌, not, nat_eq, nat_lt, ℕ, Bool, true, false, List, cond, get_or, None, refl, ap, ap₂, sym, ◌∙◌, arith, subst, ne_eqb}
use Rattle.std.proofs.lemmas.Bool.Decides.{nat_tests}
use Rattle.thp_history.specs.declared.page_call.Loss.{Loss}
use Rattle.thp_history.specs.declared.page_call.Loss.TheVariants as loss
use Rattle.thp_history.specs.Prelude.{covers, has, set_of, get_or-set_of, some_below, PageState, size, own_at, zero_at, drops_use, gives_frames, partly_after, page_refusal, WholeUnmapped, RangeUnmapped, Loses}
use Rattle.thp_history.specs.Pages.{Pinned}
use Rattle.thp_history.proofs.WordLemmas.{set_of-ext}
use Rattle.thp_history.specs.Refusals as call
use Rattle.thp_page.specs.declared.page.Change.{Change}
use Rattle.thp_page.specs.Prelude.{Inside, state_of, FieldsAgree, IsChange}
use Rattle.thp_page.proofs.PageSizes.{size_most, whole_test}
use Rattle.thp_page.proofs.PageRefusals.{allowed_as, unmap_whole_allowed, unmap_sub_allowed, unpin_allowed}
use Rattle.thp_page.proofs.Trailing.{behind-unmap}
use Rattle.thp_page.proofs.PageChanges.{kept_else, IsPage-unmap_whole, IsPage-unmap_sub, IsPage-unpin, IsPage-partly, has_use-partly, partly_after-partly, kept_partly, zero_inside-same}
use Rattle.thp_page.proofs.PageUse.{drops_use-last, drops_use-range, drops_use-mapped, gives_frames-range, gives_frames-unsplit, unpin_change}
use Rattle.thp_page.proofs.page.Page.lose.Goals.{Joined-loss, Joined-change, in-UnmapWhole+in_ok-check-in-UnmapWhole, then-self-eq1, else-self-eq1, in-UnmapSub+in_ok-check_unmap_sub-in-UnmapSub, then-self-eq0, else-self-eq0, then-self, else-self, in-Unpin+in_ok-check-in-Unpin, then-change, else-change}
use Rattle.thp_page.proofs.page.Page.lose.Goals as goal

-- the effect of a loss on the fields, before it is known whether the page is partly mapped then
record Lessens (loss : Loss) (p q : Inside) (change : Change) : Type 0 where
  kept : FieldsAgree q
  partly : q.partly ≡ p.partly
  unused : change.unused ≡ drops_use (state_of p) (state_of q)
  done : (b : Bool) → b ≡ partly_after (state_of p) (state_of q) → Loses loss (state_of p) (record (state_of q) { partly = b }) × (change.released ≡ gives_frames (state_of p) (record (state_of q) { partly = b }))

-- a mapping of the whole page is removed
whole_done : (s : PageState) (b : Bool) → 1 ≤ s.whole → b ≡ partly_after s (record s { whole = s.whole - 1 }) → WholeUnmapped s (record s { whole = s.whole - 1; partly = b })
whole_done s b h e = record {
  order = refl;
  whole = omega arith;
  own = λ i below. refl;
  pins = refl;
  split = refl;
  partly = e ∙ sym (partly_after-partly s (record s { whole = s.whole - 1 }) b);
  kept = record { zero = refl; freed_zero_frames = refl };
}

whole : (p : Inside) (change : Change) → FieldsAgree p → page_refusal (state_of p) (call.unmap_whole 0) ≡ None → change.unused ≡ drops_use (state_of p) (record (state_of p) { whole = p.whole - 1 }) →
    change.released ≡ set_of (λ i. false) → Lessens loss.UnmapWhole p (record p { whole = p.whole - 1 }) change
whole p change k allowed unused none =
    let s : PageState = state_of p in
    let u : PageState = record s { whole = s.whole - 1 } in
    let facts = unmap_whole_allowed s 0 allowed in
    let t : PageState = record u { partly = partly_after s u } in
    record {
      kept = kept_else p (record p { whole = p.whole - 1 }) k (IsPage-partly t s.partly (IsPage-unmap_whole s t 0 k.page allowed (whole_done s _ facts.1 refl))) refl refl refl;
      partly = refl;
      unused = unused;
      done = λ b e. (whole_done s b facts.1 e, none ∙ sym (gives_frames-unsplit s (record u { partly = b }) refl facts.0 facts.0));
    }

-- a mapping of each subpage of a range is removed
range_done : (s : PageState) (own : List ℕ) (first count : ℕ) (b : Bool) → s.order ≤ 9 → ((i : ℕ) → i < 512 → own_at s i ≡ get_or own i 0 + cond (covers first count i) 1 0) →
    b ≡ partly_after s (record s { own = own }) → RangeUnmapped first count s (record s { own = own; partly = b })
range_done s own first count b most taken e = record {
  order = refl;
  whole = refl;
  own = λ i below. taken i (omega (arith, below, size_most s most));
  pins = refl;
  split = refl;
  partly = e ∙ sym (partly_after-partly s (record s { own = own }) b);
  kept = record { zero = refl; freed_zero_frames = refl };
}

range_kept : (p : Inside) (own : List ℕ) (first count : ℕ) → FieldsAgree p → ((i : ℕ) → i < 512 → own_at (state_of p) i ≡ get_or own i 0 + cond (covers first count i) 1 0) → FieldsAgree (record p { own = own })
range_kept p own first count k taken =
    let s : PageState = state_of p in
    let u : PageState = record s { own = own } in
    let t : PageState = record u { partly = partly_after s u } in
    record {
      page = IsPage-partly t s.partly (IsPage-unmap_sub s t first count k.page (range_done s own first count _ k.page.most_order taken refl));
      behind = behind-unmap s u first count refl taken k.behind;
      zero_inside = zero_inside-same s u refl refl k.zero_inside;
    }

-- what was mapped and isn't any more is what the range took out
gone : (old own : List ℕ) (first count : ℕ) (was : List Bool) (g : ℕ → Bool) → was ≡ set_of (λ i. nat_lt 0 (get_or old i 0)) →
    ((i : ℕ) → i < 512 → get_or old i 0 ≡ get_or own i 0 + cond (covers first count i) 1 0) →
    set_of (λ i. has was i && (nat_eq (get_or own i 0) 0 && g i)) ≡ set_of (λ i. has (set_of (λ j. covers first count j && nat_eq (get_or own j 0) 0)) i && g i)
gone old own first count was g e taken =
    set_of-ext _ _
    (λ i below.
    ap (λ b. b && (nat_eq (get_or own i 0) 0 && g i)) (ap (λ t. has t i) e ∙ get_or-set_of (λ j. nat_lt 0 (get_or old j 0)) i below)
    ∙ one (covers first count i) (get_or old i 0) (get_or own i 0) (g i) (taken i below)
    ∙ ap (λ b. b && g i) (sym (get_or-set_of (λ j. covers first count j && nat_eq (get_or own j 0) 0) i below))) where
      one : (c : Bool) (o n : ℕ) (g : Bool) → o ≡ n + cond c 1 0 → (nat_lt 0 o && (nat_eq n 0 && g)) ≡ ((c && nat_eq n 0) && g)
      one true o n g e = grind (arith, nat_tests)
      one false o n g e = grind (arith, nat_tests)

-- a pin is removed
unpinned : (s : PageState) (b : Bool) → 1 ≤ s.pins → s.partly ≡ b → Pinned (record s { pins = s.pins - 1; partly = b }) s
unpinned s b h e = record { order = refl; whole = refl; own = λ i below. refl; pins = omega arith; split = refl; partly = e; kept = record { zero = refl; freed_zero_frames = refl } }

pin : (p : Inside) (change : Change) → FieldsAgree p → page_refusal (state_of p) (call.unpin 0) ≡ None → change.unused ≡ false → change.released ≡ set_of (λ i. false) → Lessens loss.Unpin p (record p { pins = p.pins - 1 }) change
pin p change k allowed unused none =
    let s : PageState = state_of p in
    let u : PageState = record s { pins = s.pins - 1 } in
    let facts = unpin_allowed s 0 allowed in
    let same = unpin_change s u _ change.released (unpinned s s.partly facts.1 refl) refl none in
    record {
      kept = kept_else p (record p { pins = p.pins - 1 }) k (IsPage-unpin s u 0 k.page allowed (unpinned s s.partly facts.1 refl)) refl refl refl;
      partly = refl;
      unused = unused ∙ same.unused;
      done = λ b e. (unpinned s b facts.1 (still s.partly (drops_use s u) _ b same.unused e), none ∙ sym (gives_frames-unsplit s (record u { partly = b }) refl facts.0 facts.0));
    } where
      still : (a d h b : Bool) → false ≡ d → b ≡ (a || (d && h)) → a ≡ b
      still a true h b e f = absurd (cc)
      still true false h b e f = sym f
      still false false h b e f = sym f

pub overflow_sub-self : goal.overflow_sub-self
overflow_sub-self c =
    let s : PageState = state_of c.self.inside in
    (unmap_whole_allowed s 0 (allowed_as s _ (call.unmap_whole 0) c.self.view_is (sym (c.in_ok-check-in-UnmapWhole.ensures 0)))).1

pub overflow_sub-self-in-Unpin : goal.overflow_sub-self-in-Unpin
overflow_sub-self-in-Unpin c =
    let s : PageState = state_of c.self.inside in
    (unpin_allowed s 0 (allowed_as s _ (call.unpin 0) c.self.view_is (sym (c.in_ok-check-in-Unpin.ensures 0)))).1

pub unmap-unmapped-requires : goal.unmap-unmapped-requires
unmap-unmapped-requires c =
    let s : PageState = state_of c.self.inside in
    let facts = unmap_sub_allowed s 0 _ _ (allowed_as s _ (call.unmap_sub 0 _ _) c.self.view_is (sym (c.in_ok-check_unmap_sub-in-UnmapSub.ensures 0))) in
    record { inside = omega (arith, facts.0, size_most s c.self.invariant.page.most_order); positive = facts.1 }

pub invariant_of-self : goal.invariant_of-self
invariant_of-self c = range_kept c.self.inside c.unmap-unmapped.new.self c.in-UnmapSub.first c.in-UnmapSub.count c.self.invariant c.unmap-unmapped.ensures.taken

lessened : (c : Joined-loss) → Lessens c.args.loss c.self.inside c.match-loss.self-inside c.match-loss.change
lessened c =
    let s : PageState = state_of c.self.inside in
    let most = c.self.invariant.page.most_order in
    elim c.match-loss.branch [
      | in-UnmapWhole+in_ok-check-in-UnmapWhole w ↦
          let allowed = allowed_as s _ (call.unmap_whole 0) c.self.view_is (sym (w.in_ok-check-in-UnmapWhole.ensures 0)) in
          let facts = unmap_whole_allowed s 0 allowed in
          let u : PageState = record s { whole = s.whole - 1 } in
          let unused : w.if-self-eq1.change ≡ drops_use s u =
          elim w.if-self-eq1.branch [
            | then-self-eq1 v ↦
                v.change-is ∙ v.has_unmapped-change.ensures
                ∙ ap (λ n. some_below 512 (λ i. covers 0 n i && nat_eq (own_at s i) 0)) (v.subpages.ensures.size ∙ ap size (sym c.self.view_is))
                ∙ sym (whole_test (size s) (λ i. nat_eq (own_at s i) 0) (size_most s most))
                ∙ sym (drops_use-last s (record u { partly = partly_after s u }) (whole_done s _ facts.1 refl) v.if-self-eq1.true)
            | else-self-eq1 v ↦ v.change-is ∙ ne_eqb s.whole 1 v.if-self-eq1.false ∙ sym (drops_use-mapped s u (more s.whole facts.1 v.if-self-eq1.false))
          ] in
          rw (w.in-UnmapWhole.is, w.self-inside-is, w.change-is) (whole c.self.inside _ c.self.invariant allowed unused w.empty-change.ensures)
      | in-UnmapSub+in_ok-check_unmap_sub-in-UnmapSub w ↦
          let first : ℕ = w.in-UnmapSub.first in
          let count : ℕ = w.in-UnmapSub.count in
          let own : List ℕ = w.unmap-unmapped.new.self in
          let taken = w.unmap-unmapped.ensures.taken in
          let u : PageState = record s { own = own } in
          let inside = (unmap_sub_allowed s 0 first count (allowed_as s _ (call.unmap_sub 0 first count) c.self.view_is (sym (w.in_ok-check_unmap_sub-in-UnmapSub.ensures 0)))).0 in
          let unused : w.if-self-eq0.change ≡ drops_use s u =
          elim w.if-self-eq0.branch [
            | then-self-eq0 v ↦
                v.change-is ∙ w.unmap-unmapped.ensures.unmapped
                ∙ sym (drops_use-range s (record u { partly = partly_after s u }) first count most (range_done s own first count _ most taken refl) inside v.if-self-eq0.true)
            | else-self-eq0 v ↦ v.change-is ∙ ne_eqb s.whole 0 v.if-self-eq0.false ∙ sym (drops_use-mapped s u (omega arith))
          ] in
          let released : (b : Bool) → b ≡ partly_after s u → w.if-self.change ≡ gives_frames s (record u { partly = b }) =
          λ b e. elim w.if-self.branch [
            | then-self v ↦
                v.change-is ∙ v.gone_since-change.ensures
                ∙ gone s.own own first count w.mapped-mapped.result (λ i. not (s.freed_zero_frames && zero_at s i)) w.mapped-mapped.ensures taken
                ∙ sym (gives_frames-range s (record u { partly = b }) first count _ (range_done s own first count b most taken e) inside v.if-self.true (c.self.invariant.page.no_whole v.if-self.true) refl)
            | else-self v ↦ v.change-is ∙ v.empty-change-else-self.ensures ∙ sym (gives_frames-unsplit s (record u { partly = b }) refl v.if-self.false v.if-self.false)
          ] in
          rw (w.in-UnmapSub.is, w.self-inside-is, w.change-is) (record {
            kept = range_kept c.self.inside own first count c.self.invariant taken;
            partly = refl;
            unused = unused;
            done = λ b e. (range_done s own first count b most taken e, released b e);
          })
      | in-Unpin+in_ok-check-in-Unpin w ↦
          rw (w.in-Unpin.is, w.self-inside-is, w.change-is)
          (pin c.self.inside _ c.self.invariant (allowed_as s _ (call.unpin 0) c.self.view_is (sym (w.in_ok-check-in-Unpin.ensures 0))) refl w.empty-change-in-Unpin.ensures)
    ] where
      more : (n : ℕ) → 1 ≤ n → n ≢ 1 → 0 < n - 1
      more n h f = omega arith

pub invariant_of-self-2 : goal.invariant_of-self-2
invariant_of-self-2 c = (lessened c).kept

pub invariant_of-self-3 : goal.invariant_of-self-3
invariant_of-self-3 c = kept_partly c.match-loss.self-inside _ (lessened (goal.at.invariant_of-self-3 c).Joined-loss).kept

-- and once that is known
settled : (c : Joined-change) → Lessens c.args.loss c.self.inside c.match-loss.self-inside c.match-loss.change →
    Loses c.args.loss c.args.self.now (record (state_of c.match-loss.self-inside) { partly = c.match-loss.self-inside.partly || c.if-change.self })
    × IsChange c.args.self.now (record (state_of c.match-loss.self-inside) { partly = c.match-loss.self-inside.partly || c.if-change.self }) (record c.match-loss.change { used_left = c.has_use-change.result })
settled c l =
    let u : PageState = state_of c.match-loss.self-inside in
    let b : Bool = u.partly || c.if-change.self in
    let joined : c.if-change.self ≡ (c.match-loss.change.unused && c.has_use-change.result) =
    elim c.if-change.branch [
      | then-change w ↦ w.self-is ∙ ap (λ b. b && c.has_use-change.result) (sym w.if-change.true)
      | else-change w ↦ w.self-is ∙ not_both c.match-loss.change.unused c.has_use-change.result w.if-change.false
    ] in
    let d = l.done b (ap₂ (λ a b. a || b) l.partly (joined ∙ ap₂ (λ a b. a && b) l.unused c.has_use-change.ensures)) in
    subst (λ (t : PageState). Loses c.args.loss t (record u { partly = b }) × IsChange t (record u { partly = b }) (record c.match-loss.change { used_left = c.has_use-change.result })) c.self.view_is
    (d.0, record { unused = l.unused; used_left = c.has_use-change.ensures ∙ sym (has_use-partly u b); released = d.1 }) where
      not_both : (a b : Bool) → a ≡ false → a ≡ (a && b)
      not_both a b e = cc

pub returns-clause-counts : goal.returns-clause-counts
returns-clause-counts c = let at = goal.at.returns-clause-counts c in (settled at.Joined-change (lessened at.Joined-loss)).0

pub returns-clause-change : goal.returns-clause-change
returns-clause-change c = let at = goal.at.returns-clause-change c in (settled at.Joined-change (lessened at.Joined-loss)).1
