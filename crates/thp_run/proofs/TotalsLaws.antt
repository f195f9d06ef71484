-- Histories that are equal but for their blocks have the same totals.
use Rattle.std.proofs.Common.{◌≡◌, ℕ, ◌+◌, Bool, cond, List, [], ◌∷◌, ◌++◌, Option, Some, None, map, length, refl, ap, ap₂, sym, ◌∙◌, fold, sum_by}
use Rattle.std.proofs.lemmas.List.{map-append}
use Rattle.thp_history.specs.declared.events.Event.{Event}
use Rattle.thp_history.specs.declared.events.What.{What}
use Rattle.thp_history.specs.declared.events.What.TheVariants.{Alloc, SplitPmd, Split}
use Rattle.thp_history.specs.declared.shape.Shape.{Shape}
use Rattle.thp_history.specs.Prelude.{with_block, event_with, without_blocks, SameButBlocks, is_page_split, is_failed_try, queues, splits_pmds, add_split_pmds, splits_underused, add_split_underused, thp_split_pmd, thp_underused_split_page, allocations, is_held, gives_back, given, frames_held, History, by, set_size, sum_below, count_below, subpages, shrinks_underused}
use Rattle.thp_history.proofs.Alike.{Alike, Blind, alike, count_alike, held_alike}
use Rattle.thp_history.proofs.SumsBelow.{sum_below-ext}
use Rattle.thp_journal_writer.specs.Prelude.{Journal, totals_in, totals_of, totals_text}
use Rattle.thp_run.specs.Laws.{bare_journal}
use Rattle.thp_journal_writer.specs.Totals.{totals_lines_from}
use Rattle.thp_journal_writer.specs.declared.totals.Totals.{Totals}

-- taking the blocks out twice is as taking them out once
twice : (w : What) → with_block 0 (with_block 0 w) ≡ with_block 0 w
twice (Alloc p b) = refl
twice w = refl

-- so a history is equal to itself without its blocks, but for the blocks
bare_same : (h : History) → SameButBlocks (without_blocks h) h
unfolding without_blocks
bare_same [] = refl
bare_same (e ∷ h) = ap₂ (λ w t. by e.caller w ∷ t) (twice e.what) (bare_same h)

-- one more event of both, without its block in one of them
same_more : (k h : History) (e : Event) → SameButBlocks k h → SameButBlocks (k ++ event_with 0 e ∷ []) (h ++ e ∷ [])
unfolding without_blocks
same_more k h e s =
    map-append (event_with 0) k (event_with 0 e ∷ []) ∙ ap (λ x. x ++ event_with 0 (event_with 0 e) ∷ []) s
    ∙ ap (λ w. map (event_with 0) h ++ by e.caller w ∷ []) (twice e.what) ∙ sym (map-append (event_with 0) h (e ∷ []))

-- no statistic looks at the block
split_blind : Blind is_page_split
split_blind (Alloc p b) = refl
split_blind w = refl

-- the same of tries that failed
failed_blind : Blind is_failed_try
failed_blind (Alloc p b) = refl
failed_blind w = refl

-- the same of pages queued
queues_blind : Blind queues
queues_blind (Alloc p b) = refl
queues_blind w = refl

-- nor do the frames given back
gives_blind : (e : Event) → gives_back (event_with 0 e) ≡ gives_back e
gives_blind e = by_kind e.caller e.what where
  by_kind : (c : ℕ) (w : What) → gives_back (by c (with_block 0 w)) ≡ gives_back (by c w)
  by_kind c (Alloc p b) = refl
  by_kind c w = refl

-- so the record of frames given back is the same
given_bare : (h : History) → given (without_blocks h) ≡ given h
unfolding given without_blocks
given_bare [] = refl
given_bare (e ∷ h) = ap₂ (λ g gs. cons_onto g gs) (gives_blind e) (given_bare h) where
  cons_onto : Option (ℕ × List Bool) → List (ℕ × List Bool) → List (ℕ × List Bool)
  cons_onto None gs = gs
  cons_onto (Some g) gs = g ∷ gs

-- the PMD mappings that an event splits are as many at both
pmds_alike : (k h : History) (e : Event) → SameButBlocks k h → splits_pmds k (with_block 0 e.what) ≡ splits_pmds h e.what
pmds_alike k h e s = by_kind e.what where
  by_kind : (w : What) → splits_pmds k (with_block 0 w) ≡ splits_pmds h w
  by_kind (SplitPmd p) = refl
  by_kind (Split p set) = (alike k h s).whole p
  by_kind (Alloc p b) = refl
  by_kind w = refl

-- so they are along the histories
pmds_run : (s t : History × ℕ) (h : History) → SameButBlocks s.0 t.0 → s.1 ≡ t.1 → (fold add_split_pmds s (without_blocks h)).1 ≡ (fold add_split_pmds t h).1
unfolding without_blocks
pmds_run s t [] e f = f
pmds_run s t (x ∷ h) e f =
    pmds_run (s.0 ++ event_with 0 x ∷ [], s.1 + splits_pmds s.0 (with_block 0 x.what)) (t.0 ++ x ∷ [], t.1 + splits_pmds t.0 x.what) h (same_more s.0 t.0 x e)
    (ap₂ (λ a b. a + b) f (pmds_alike s.0 t.0 x e))

-- and at their ends
pmds_bare : (h : History) → thp_split_pmd (without_blocks h) ≡ thp_split_pmd h
unfolding thp_split_pmd
pmds_bare h = pmds_run ([], 0) ([], 0) h refl refl

-- the same of pages split as underused
underused_alike : (s : Shape) (k h : History) (e : Event) → SameButBlocks k h → splits_underused s k (with_block 0 e.what) ≡ splits_underused s h e.what
underused_alike s k h e same = by_kind e.what where
  by_kind : (w : What) → splits_underused s k (with_block 0 w) ≡ splits_underused s h w
  by_kind (Split p set) = ap (λ b. cond {A = ℕ} b 0 1) ((alike k h same).partly s p)
  by_kind (Alloc p b) = refl
  by_kind w = refl

-- along the histories
underused_run : (shape : Shape) (s t : History × ℕ) (h : History) → SameButBlocks s.0 t.0 → s.1 ≡ t.1 →
    (fold (add_split_underused shape) s (without_blocks h)).1 ≡ (fold (add_split_underused shape) t h).1
unfolding without_blocks
underused_run shape s t [] e f = f
underused_run shape s t (x ∷ h) e f =
    underused_run shape (s.0 ++ event_with 0 x ∷ [], s.1 + splits_underused shape s.0 (with_block 0 x.what)) (t.0 ++ x ∷ [], t.1 + splits_underused shape t.0 x.what) h (same_more s.0 t.0 x e)
    (ap₂ (λ a b. a + b) f (underused_alike shape s.0 t.0 x e))

-- and at their ends
underused_bare : (s : Shape) (h : History) → thp_underused_split_page s (without_blocks h) ≡ thp_underused_split_page s h
unfolding thp_underused_split_page
underused_bare s h = underused_run s ([], 0) ([], 0) h refl refl

-- as many frames are held
held_bare : (s : Shape) (h : History) → frames_held s (without_blocks h) ≡ frames_held s h
held_bare s h =
    let k = without_blocks h in
    let a : Alike (without_blocks h) h = alike (without_blocks h) h (bare_same h) in
    ap (λ n. sum_below n (λ p. count_below (subpages s) (is_held s (without_blocks h) p))) a.allocations
    ∙ sum_below-ext (allocations h) _ _ (λ p l. sum_below-ext (subpages s) _ _ (λ i m. ap (λ b. cond {A = ℕ} b 1 0) (held_alike s (without_blocks h) h a p i)))

-- the totals with these numbers
abbrev totals : ℕ → ℕ → ℕ → ℕ → ℕ → ℕ → ℕ → ℕ → Option ℕ → Totals
totals a b c d e f g i u = record {
  pages = a;
  queue = b;
  frames_held = c;
  frames_given = d;
  thp_split_page = e;
  thp_split_page_failed = f;
  thp_deferred_split_page = g;
  thp_split_pmd = i;
  thp_underused_split_page = u;
}

-- totals of the same numbers
same_totals : (a a' b b' c c' d d' e e' f f' g g' i i' : ℕ) (u u' : Option ℕ) → a ≡ a' → b ≡ b' → c ≡ c' → d ≡ d' → e ≡ e' → f ≡ f' → g ≡ g' → i ≡ i' → u ≡ u' →
    totals a b c d e f g i u ≡ totals a' b' c' d' e' f' g' i' u'
same_totals a a' b b' c c' d d' e e' f f' g g' i i' u u' p q r s t v w x y = cc

-- a node without its blocks has the same totals
node_bare : (s : Shape) (h : History) → totals_of s (without_blocks h) ≡ totals_of s h
node_bare s h =
    same_totals _ _ _ _ _ _ _ _ _ _ _ _ _ _ _ _ _ _
    ((alike (without_blocks h) h (bare_same h)).allocations)
    (ap (λ (q : List ℕ). length q) ((alike (without_blocks h) h (bare_same h)).queue s))
    (held_bare s h)
    (ap (λ (gs : List (ℕ × List Bool)). sum_by (λ (g : ℕ × List Bool). set_size g.1) gs) (given_bare h))
    (count_alike is_page_split split_blind (without_blocks h) h (bare_same h))
    (count_alike is_failed_try failed_blind (without_blocks h) h (bare_same h))
    (count_alike queues queues_blind (without_blocks h) h (bare_same h))
    (pmds_bare h)
    (ap (λ (n : ℕ). cond {A = Option ℕ} (shrinks_underused s) (Some n) None) (underused_bare s h))

-- nodes without their blocks have the same totals
totals_bare : (nodes : List Journal) → map totals_in (map bare_journal nodes) ≡ map totals_in nodes
totals_bare [] = refl
totals_bare (node ∷ nodes) = ap₂ (λ t ts. t ∷ ts) (node_bare node.0 node.1) (totals_bare nodes)

-- so nodes that are equal but for their blocks have
pub totals_blind : (nodes others : List Journal) → map bare_journal nodes ≡ map bare_journal others → totals_text nodes ≡ totals_text others
totals_blind nodes others e = ap (totals_lines_from 0) (sym (totals_bare nodes) ∙ ap (λ ns. map totals_in ns) e ∙ totals_bare others)
