-- Journals with one text are the same but for blocks, and no total looks at a block.
use Rattle.std.proofs.Common.{◌≡◌, ◌+◌, ℕ, Bool, cond, List, [], ◌∷◌, ◌++◌, length, Option, Result, Ok, refl, ap, ap₂, sym, subst, ◌∙◌}
use Rattle.std.specs.List.{AllZip, cons_option, fold, sum_by}
use Rattle.std.specs.Result.{result_unwrap_or}
use Rattle.std.proofs.lemmas.List.{length-map}
use Rattle.thp_history.specs.declared.events.Event.{Event}
use Rattle.thp_history.specs.declared.events.What.{What}
use Rattle.thp_history.specs.declared.events.What.TheVariants.{Alloc, SplitPmd, Split}
use Rattle.thp_history.specs.declared.shape.Shape.{Shape}
use Rattle.thp_history.specs.Prelude.{SameButBlocks, event_with, with_block, with_least_blocks, without_blocks, add_split_pmds, add_split_underused, is_failed_try, is_page_split, queues, splits_pmds, splits_underused, thp_split_pmd, thp_underused_split_page, allocations, frames_held, given, gives_back, is_held, History, by, count_below, set_size, sum_below, subpages}
use Rattle.thp_history.proofs.Alike.{Alike, Blind, alike, count_alike, held_alike}
use Rattle.thp_history.proofs.LeastBlocks.{least_same, without_blocks_push}
use Rattle.thp_history.proofs.SumsBelow.{sum_below-ext}
use Rattle.thp_script.specs.Prelude.{Fault, max_counted}
use Rattle.thp_journal_writer.specs.Prelude.{Journal}
use Rattle.thp_journal_reader.specs.declared.journals.ReadJournals.{ReadJournals}
use Rattle.thp_journal_reader.specs.declared.journals.ReadNode.{ReadNode}
use Rattle.thp_journal_reader.specs.Prelude.{journals_within, node_journal}
use Rattle.thp_laws.specs.ReadBack.{nodes_from, with_first_lines}
use Rattle.thp_laws.specs.SameTotals.{IsSameJournal, HaveSameTotals, OneTextIsOfOneRun, OneTextHasOneTotal}
use Rattle.thp_laws.proofs.ReadingBack.{long_read_back, long_reportable}

-- ---- totals don't look at blocks

-- a split
splits_blind : Blind is_page_split
splits_blind (Alloc p b) = refl
splits_blind w = refl

-- a failed try
tries_blind : Blind is_failed_try
tries_blind (Alloc p b) = refl
tries_blind w = refl

-- an outcome
queues_blind : Blind queues
queues_blind (Alloc p b) = refl
queues_blind w = refl

-- frames given back are determined by events that have no block
gives_blind : (c : ℕ) (w : What) → gives_back (by c (with_block 0 w)) ≡ gives_back (by c w)
gives_blind c (Alloc p b) = refl
gives_blind c w = refl

-- so the record of frames given back has no block
given_bare : (h : History) → given (without_blocks h) ≡ given h
unfolding given without_blocks
given_bare [] = refl
given_bare (e ∷ h) = more (gives_back (event_with 0 e)) (gives_back e) (gives_blind e.caller e.what) _ _ (given_bare h) where
  more : (o p : Option (ℕ × List Bool)) → o ≡ p → (gs hs : List (ℕ × List Bool)) → gs ≡ hs → cons_option o gs ≡ cons_option p hs
  more o p e gs hs f = cc

-- and is one for both histories
given_alike : (h k : History) → SameButBlocks h k → given h ≡ given k
given_alike h k e = sym (given_bare h) ∙ ap given e ∙ given_bare k

-- a step of a count that goes by the history before it, with blocks in one of two histories
same_step : (k h : History) (e : Event) → SameButBlocks k h → SameButBlocks (k ++ event_with 0 e ∷ []) (h ++ e ∷ [])
same_step k h e s = without_blocks_push k (event_with 0 e) ∙ ap₂ (λ hs x. hs ++ x ∷ []) s (ap (by e.caller) (twice e.what)) ∙ sym (without_blocks_push h e) where
  twice : (w : What) → with_block 0 (with_block 0 w) ≡ with_block 0 w
  twice (Alloc p b) = refl
  twice w = refl

-- how many PMD mappings an event splits
pmds_alike : (k h : History) (w : What) → SameButBlocks k h → splits_pmds k (with_block 0 w) ≡ splits_pmds h w
pmds_alike k h (Alloc p b) s = refl
pmds_alike k h (SplitPmd p) s = refl
pmds_alike k h (Split p set) s = (alike k h s).whole p
pmds_alike k h w s = refl

-- and all events
pmds_run : (s t : History × ℕ) (h : History) → SameButBlocks s.0 t.0 → s.1 ≡ t.1 → (fold add_split_pmds s (without_blocks h)).1 ≡ (fold add_split_pmds t h).1
unfolding without_blocks
pmds_run s t [] e f = f
pmds_run s t (x ∷ h) e f =
    pmds_run (s.0 ++ event_with 0 x ∷ [], s.1 + splits_pmds s.0 (with_block 0 x.what)) (t.0 ++ x ∷ [], t.1 + splits_pmds t.0 x.what) h (same_step s.0 t.0 x e)
    (ap₂ (λ a b. a + b) f (pmds_alike s.0 t.0 x.what e))

-- so as many were split in both
split_pmd_alike : (h k : History) → SameButBlocks h k → thp_split_pmd h ≡ thp_split_pmd k
unfolding thp_split_pmd
split_pmd_alike h k e =
    sym (pmds_run ([], 0) ([], 0) h refl refl) ∙ ap (λ x. (fold add_split_pmds ([], 0) x).1) e ∙ pmds_run ([], 0) ([], 0) k refl refl

-- how many pages an event splits as underused
underused_alike : (shape : Shape) (k h : History) (w : What) → SameButBlocks k h → splits_underused shape k (with_block 0 w) ≡ splits_underused shape h w
underused_alike shape k h (Alloc p b) s = refl
underused_alike shape k h (Split p set) s = ap (λ b. cond b 0 1) ((alike k h s).partly shape p)
underused_alike shape k h w s = refl

-- and all events
underused_run : (shape : Shape) (s t : History × ℕ) (h : History) → SameButBlocks s.0 t.0 → s.1 ≡ t.1 → (fold (add_split_underused shape) s (without_blocks h)).1 ≡ (fold (add_split_underused shape) t h).1
unfolding without_blocks
underused_run shape s t [] e f = f
underused_run shape s t (x ∷ h) e f =
    underused_run shape (s.0 ++ event_with 0 x ∷ [], s.1 + splits_underused shape s.0 (with_block 0 x.what)) (t.0 ++ x ∷ [], t.1 + splits_underused shape t.0 x.what) h (same_step s.0 t.0 x e)
    (ap₂ (λ a b. a + b) f (underused_alike shape s.0 t.0 x.what e))

-- so as many were split in both
split_underused_alike : (shape : Shape) (h k : History) → SameButBlocks h k → thp_underused_split_page shape h ≡ thp_underused_split_page shape k
unfolding thp_underused_split_page
split_underused_alike shape h k e =
    sym (underused_run shape ([], 0) ([], 0) h refl refl) ∙ ap (λ x. (fold (add_split_underused shape) ([], 0) x).1) e ∙ underused_run shape ([], 0) ([], 0) k refl refl

-- both hold the same frames
frames_alike : (shape : Shape) (h k : History) → Alike h k → frames_held shape h ≡ frames_held shape k
frames_alike shape h k a =
    sum_below-ext (allocations h) _ _ (λ p l. sum_below-ext (subpages shape) _ _ (λ i m. ap (λ b. cond b 1 0) (held_alike shape h k a p i)))
    ∙ ap (λ n. sum_below n (λ p. count_below (subpages shape) (is_held shape k p))) a.allocations

-- so what is the same but for blocks has the same totals
same_totals : (s : Shape) (h k : History) → SameButBlocks h k → HaveSameTotals (s, h) (s, k)
same_totals s h k e =
    let a : Alike h k = alike h k e in
    record {
      shape = refl;
      pages = a.allocations;
      queued = ap length (a.queue s);
      held = frames_alike s h k a;
      given = ap (λ gs. sum_by (λ (g : ℕ × List Bool). set_size g.1) gs) (given_alike h k e);
      splits = count_alike is_page_split splits_blind h k e;
      failures = count_alike is_failed_try tries_blind h k e;
      deferrals = count_alike queues queues_blind h k e;
      pmd_splits = split_pmd_alike h k e;
      underused_splits = split_underused_alike s h k e;
    }

-- as a fact of journals
totals_of_same : (j k : Journal) → IsSameJournal j k → HaveSameTotals j k
totals_of_same j k same = subst (λ (s : Shape). HaveSameTotals j (s, k.1)) same.shape (same_totals j.0 j.1 k.1 same.events)

-- ---- one text

-- what is read, where nothing is at fault
journals_read : ReadJournals → Result ReadJournals Fault
journals_read js = Ok js

-- a history without its blocks has as many events
bare_length : (h : History) → length (without_blocks h) ≡ length h
unfolding without_blocks
bare_length h = length-map h (event_with 0)

-- the journals of nodes that are read alike
same_nodes : (line : ℕ) (js ks : List Journal) → nodes_from line js ≡ nodes_from line ks → AllZip IsSameJournal js ks
same_nodes line [] [] e = tt
same_nodes line [] (k ∷ ks) e = absurd cc
same_nodes line (j ∷ js) [] e = absurd cc
same_nodes line (j ∷ js) (k ∷ ks) e =
    let one : node_journal (line + 1) j.0 j.1 ≡ node_journal (line + 1) k.0 k.1 = cc in
    let rest : nodes_from (line + 1 + length j.1) js ≡ nodes_from (line + 1 + length k.1) ks = cc in
    let shape : j.0 ≡ k.0 = ap (λ (n : ReadNode). n.shape) one in
    let events : with_least_blocks j.0 j.1 ≡ with_least_blocks k.0 k.1 = ap (λ (n : ReadNode). n.events) one in
    let same : SameButBlocks j.1 k.1 = least_same j.0 j.1 ∙ ap without_blocks events ∙ sym (least_same k.0 k.1) in
    let long : length j.1 ≡ length k.1 = as_long j.1 k.1 same in
    (record { shape = shape; events = same }, same_nodes (line + 1 + length j.1) js ks (rest ∙ ap (λ n. nodes_from (line + 1 + n) ks) (sym long)))
  where
    as_long : (h k : History) → SameButBlocks h k → length h ≡ length k
    as_long h k s = sym (bare_length h) ∙ ap length s ∙ bare_length k

-- journals with one text are the same but for blocks
pub one_run : OneTextIsOfOneRun
unfolding journals_read
one_run v most js ks le ours theirs same =
    let read : journals_read (with_first_lines js) ≡ journals_read (with_first_lines ks) = sym (long_read_back js (long_reportable v most js le ours)) ∙ ap (journals_within max_counted) same ∙ long_read_back ks (long_reportable v most ks le theirs) in
    let nodes : nodes_from 2 js ≡ nodes_from 2 ks = ap (λ r. (result_unwrap_or r (with_first_lines js)).nodes) read in
    same_nodes 2 js ks nodes

-- journals that are the same but for blocks have the same totals, one by one
each_same : (js ks : List Journal) → AllZip IsSameJournal js ks → AllZip HaveSameTotals js ks
each_same [] [] h = tt
each_same [] (k ∷ ks) h = absurd h
each_same (j ∷ js) [] h = absurd h
each_same (j ∷ js) (k ∷ ks) h = (totals_of_same j k h.0, each_same js ks h.1)

-- and have the same totals
pub one_total : OneTextHasOneTotal
one_total v most js ks le ours theirs same = each_same js ks (one_run v most js ks le ours theirs same)
