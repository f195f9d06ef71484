-- Whole texts made line by line.
use Rattle.std.proofs.Common.{◌≡◌, ℕ, suc, ◌+◌, ◌<◌, List, [], ◌∷◌, ◌++◌, length, take, map, get_or, ap, sym, ◌∙◌, arith, append_assoc, add-one, codes, flat_map}
use Rattle.std.proofs.Math.Seq.{take-suc}
use Rattle.std.proofs.lemmas.Grind.{flat_map-append}
use Rattle.std.proofs.lemmas.List.{append-nil, map-append, length-map, length-take-le}
use Rattle.thp_history.specs.declared.events.Event.{Event}
use Rattle.thp_journal_writer.specs.Prelude.{NodeHistory, Version, event_line, journal_of, Journal, ended, version_of, version_line, node_line, lines_of_node, journal_lines, journal_text}
use Rattle.thp_journal_writer.specs.Journals.{journal_lines_from}

-- the lines of some events
abbrev pub event_lines : List Event → List ℕ
event_lines events = flat_map ended (map event_line events)

-- one more event
pub event_lines-more : (t : List ℕ) (events : List Event) (i : ℕ) (d : Event) → i < length events →
    (t ++ event_lines (take i events)) ++ ended (event_line (get_or events i d)) ≡ t ++ event_lines (take (i + 1) events)
event_lines-more t events i d h =
    append_assoc t (event_lines (take i events)) (ended (event_line (get_or events i d)))
    ∙ ap (λ s. t ++ s) (sym (ap event_lines (ap (λ k. take k events) (add-one i) ∙ take-suc events i d h) ∙ snoc (take i events) (get_or events i d))) where
      snoc : (es : List Event) (e : Event) → event_lines (es ++ e ∷ []) ≡ event_lines es ++ ended (event_line e)
      snoc es e = ap (λ ls. flat_map ended ls) (map-append event_line es (e ∷ [])) ∙ flat_map-append ended (map event_line es) (event_line e ∷ []) ∙ ap (λ s. event_lines es ++ s) (append-nil (ended (event_line e)))

-- the lines of a node, behind a text
pub node_whole : (t : List ℕ) (v : Version) (n : ℕ) (j : Journal) → (t ++ ended (node_line v n j.0)) ++ event_lines j.1 ≡ t ++ flat_map ended (lines_of_node v n j)
unfolding lines_of_node
node_whole t v n j = append_assoc t (ended (node_line v n j.0)) (event_lines j.1)

-- the lines of one more node
pub journal_lines_from-more : (v : Version) (n : ℕ) (js : List Journal) (j : Journal) → journal_lines_from v n (js ++ j ∷ []) ≡ journal_lines_from v n js ++ lines_of_node v (n + length js) j
journal_lines_from-more v n [] j = append-nil (lines_of_node v n j) ∙ ap (λ k. lines_of_node v k j) (omega arith)
journal_lines_from-more v n (x ∷ xs) j =
    ap (λ ls. lines_of_node v n x ++ ls) (journal_lines_from-more v (n + 1) xs j)
    ∙ ap (λ k. lines_of_node v n x ++ (journal_lines_from v (n + 1) xs ++ lines_of_node v k j)) (there n (length xs))
    ∙ sym (append_assoc (lines_of_node v n x) (journal_lines_from v (n + 1) xs) (lines_of_node v (n + length (x ∷ xs)) j)) where
      there : (n k : ℕ) → n + 1 + k ≡ n + suc k
      there n k = omega arith

-- the text of some nodes, without the first line and the last
abbrev pub node_texts : Version → List NodeHistory → List ℕ
node_texts v nodes = flat_map ended (journal_lines_from v 0 (map journal_of nodes))

-- one more node
pub node_texts-more : (t : List ℕ) (v : Version) (nodes : List NodeHistory) (i : ℕ) (d : NodeHistory) → i < length nodes →
    (t ++ node_texts v (take i nodes)) ++ flat_map ended (lines_of_node v i (journal_of (get_or nodes i d))) ≡ t ++ node_texts v (take (i + 1) nodes)
node_texts-more t v nodes i d h =
    append_assoc t (node_texts v (take i nodes)) (flat_map ended (lines_of_node v i (journal_of (get_or nodes i d))))
    ∙ ap (λ s. t ++ s) (sym (ap (node_texts v) (ap (λ k. take k nodes) (add-one i) ∙ take-suc nodes i d h) ∙ snoc (take i nodes) (get_or nodes i d) i (length-take-le i nodes (omega arith)))) where
      snoc : (ns : List NodeHistory) (node : NodeHistory) (k : ℕ) → length ns ≡ k → node_texts v (ns ++ node ∷ []) ≡ node_texts v ns ++ flat_map ended (lines_of_node v k (journal_of node))
      snoc ns node k e =
          ap (λ js. flat_map ended (journal_lines_from v 0 js)) (map-append journal_of ns (node ∷ []))
          ∙ ap (λ ls. flat_map ended ls) (journal_lines_from-more v 0 (map journal_of ns) (journal_of node))
          ∙ flat_map-append ended (journal_lines_from v 0 (map journal_of ns)) (lines_of_node v (0 + length (map journal_of ns)) (journal_of node))
          ∙ ap (λ m. node_texts v ns ++ flat_map ended (lines_of_node v m (journal_of node))) (omega (arith, length-map ns journal_of, e))

-- the whole text
pub journal_text-whole : (nodes : List NodeHistory) → (ended (version_line (version_of (map journal_of nodes))) ++ node_texts (version_of (map journal_of nodes)) nodes) ++ codes "end\n" ≡ journal_text (map journal_of nodes)
unfolding journal_text journal_lines
journal_text-whole nodes = grind (arith, flat_map, append_assoc, flat_map-append)

-- the same, piece by piece
pub text_whole : (t0 t1 t2 t3 : List ℕ) (v : Version) (nodes some : List NodeHistory) → t0 ≡ [] → v ≡ version_of (map journal_of nodes) → t1 ≡ t0 ++ ended (version_line v) →
    some ≡ nodes → t2 ≡ t1 ++ node_texts v some → t3 ≡ t2 ++ codes "end\n" → t3 ≡ journal_text (map journal_of nodes)
text_whole t0 t1 t2 t3 v nodes some e0 is e1 all e2 e3 = grind (arith, journal_text-whole)
