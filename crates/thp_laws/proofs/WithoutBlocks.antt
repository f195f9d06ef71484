-- No line of a journal text contains a block.
use Rattle.std.proofs.Common.{◌≡◌, ◌==◌, ◌+◌, ℕ, suc, nat_lt, length, cond, ◌&&◌, ◌||◌, List, [], ◌∷◌, ◌++◌, map, refl, ap, ap₂, sym, ◌∙◌, codes, is_some, decimal}
use Rattle.std.specs.List.{AllZip, flat_map, list_all, list_any}
use Rattle.thp_history.specs.declared.events.Event.{Event}
use Rattle.thp_history.specs.declared.events.What.{What}
use Rattle.thp_history.specs.declared.events.What.TheVariants.{Alloc}
use Rattle.thp_history.specs.declared.shape.Shape.{Shape}
use Rattle.thp_history.specs.Prelude.{event_with, max_blocks, with_block, without_blocks, History}
use Rattle.thp_history.proofs.Alike.{Blind, some_alike}
use Rattle.thp_journal_writer.specs.declared.version.Version.{Version}
use Rattle.thp_journal_writer.specs.declared.version.Version.TheVariants as writing
use Rattle.thp_journal_writer.specs.Prelude.{event_line, event_words, what_words, spaced_line, Journal, are_large, has_large_caller, is_large, has_order_9, is_access, journal_lines, journal_text, lines_of_node, reports_underused, version_of}
use Rattle.thp_journal_writer.specs.Journals as journal
use Rattle.thp_laws.specs.SameTotals.{IsSameJournal, NoBlockShows}

-- ---- one event, one history

-- the words of what happened
words_blind : (w : What) → what_words (with_block 0 w) ≡ what_words w
words_blind (Alloc p b) = refl
words_blind w = refl

-- the line of an event
line_blind : (e : Event) → event_line (event_with 0 e) ≡ event_line e
unfolding event_line event_words
line_blind e = ap (λ words. spaced_line (decimal e.caller ∷ words)) (words_blind e.what)

-- the lines of a history
lines_bare : (h : History) → map event_line (without_blocks h) ≡ map event_line h
unfolding without_blocks
lines_bare [] = refl
lines_bare (e ∷ h) = ap₂ (λ line lines. line ∷ lines) (line_blind e) (lines_bare h)

-- an access has no block
access_blind : Blind is_access
access_blind (Alloc p b) = refl
access_blind w = refl

-- ---- journals

-- the journals have one text, version and lines
record AreOneText (js ks : List Journal) : Type 0 where
  count : length js ≡ length ks
  large : list_any is_large js ≡ list_any is_large ks
  underused : list_any reports_underused js ≡ list_any reports_underused ks
  orders : list_all has_order_9 js ≡ list_all has_order_9 ks
  lines : (v : Version) (n : ℕ) → journal.journal_lines_from v n js ≡ journal.journal_lines_from v n ks

-- a caller has no block
callers_bare : (h : History) → list_any has_large_caller (without_blocks h) ≡ list_any has_large_caller h
unfolding without_blocks
callers_bare [] = refl
callers_bare (e ∷ h) = ap (λ b. has_large_caller e || b) (callers_bare h)

-- both are large or neither is
large_alike : (j k : Journal) → IsSameJournal j k → is_large j ≡ is_large k
unfolding is_large
large_alike j k same = ap₂ (λ a b. a || b) (ap (λ (s : Shape). nat_lt max_blocks s.blocks) same.shape) (sym (callers_bare j.1) ∙ ap (list_any has_large_caller) same.events ∙ callers_bare k.1)

-- both need version 3 or neither does
underused_alike : (j k : Journal) → IsSameJournal j k → reports_underused j ≡ reports_underused k
unfolding reports_underused
underused_alike j k same = ap₂ (λ a b. a || b) (ap (λ (s : Shape). is_some s.underused) same.shape) (some_alike is_access access_blind j.1 k.1 same.events)

-- both have order 9 or neither has
order_alike : (j k : Journal) → IsSameJournal j k → has_order_9 j ≡ has_order_9 k
order_alike j k same = ap (λ (s : Shape). s.order == 9) same.shape

-- the lines of a node
node_alike : (v : Version) (n : ℕ) (j k : Journal) → IsSameJournal j k → lines_of_node v n j ≡ lines_of_node v n k
unfolding lines_of_node
node_alike v n j k same =
    ap₂ (λ line lines. line ∷ lines) (ap (journal.node_line v n) same.shape) (sym (lines_bare j.1) ∙ ap (map event_line) same.events ∙ lines_bare k.1)

-- journals that are the same but for blocks
each_alike : (js ks : List Journal) → AllZip IsSameJournal js ks → AreOneText js ks
each_alike [] [] h = record { count = refl; large = refl; underused = refl; orders = refl; lines = λ v n. refl }
each_alike [] (k ∷ ks) h = absurd h
each_alike (j ∷ js) [] h = absurd h
each_alike (j ∷ js) (k ∷ ks) h =
    let rest : AreOneText js ks = each_alike js ks h.1 in
    record {
      count = ap suc rest.count;
      large = ap₂ (λ a b. a || b) (large_alike j k h.0) rest.large;
      underused = ap₂ (λ a b. a || b) (underused_alike j k h.0) rest.underused;
      orders = ap₂ (λ a b. a && b) (order_alike j k h.0) rest.orders;
      lines = λ v n. ap₂ (λ xs ys. xs ++ ys) (node_alike v n j k h.0) (rest.lines v (n + 1));
    }

-- their version
large_both : (js ks : List Journal) → AreOneText js ks → are_large js ≡ are_large ks
unfolding are_large
large_both js ks one = ap₂ (λ n b. nat_lt 8 n || b) one.count one.large

version_alike : (js ks : List Journal) → AreOneText js ks → version_of js ≡ version_of ks
unfolding version_of
version_alike js ks one = ap₂ (λ l v. cond l writing.Large v) (large_both js ks one) (ap₂ (λ a b. cond a writing.Underused (cond b writing.Plain writing.Orders)) one.underused one.orders)

-- what is the same but for blocks has one text
pub one_text : NoBlockShows
unfolding journal_text journal_lines
one_text js ks same =
    let one : AreOneText js ks = each_alike js ks same in
    ap₂ (λ v lines. flat_map journal.ended (journal.version_line v ∷ lines ++ codes "end" ∷ [])) (version_alike js ks one) (one.lines (version_of js) 0 ∙ ap (λ v. journal.journal_lines_from v 0 ks) (version_alike js ks one))
