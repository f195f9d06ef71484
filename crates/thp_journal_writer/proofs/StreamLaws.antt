-- Journals written line by line: what one more line makes of a text.
use Rattle.std.proofs.Common.{◌≡◌, ℕ, ◌+◌, List, [], ◌∷◌, ◌++◌, length, map, ap, sym, ◌∙◌, arith, append_assoc, codes, flat_map}
use Rattle.std.proofs.lemmas.Grind.{flat_map-append}
use Rattle.std.proofs.lemmas.List.{append-nil, map-append}
use Rattle.thp_history.specs.declared.events.Event.{Event}
use Rattle.thp_history.specs.declared.shape.Shape.{Shape}
use Rattle.thp_history.specs.Prelude.{History}
use Rattle.thp_journal_writer.specs.Prelude.{Version, event_line, Journal, ended, journal_lines, journal_text, lines_of_node, node_line, version_line, version_of, text_begun, VersionComesFirst, NodeFollows, EventFollows, LeastVersionIsJournalText}
use Rattle.thp_journal_writer.specs.Journals.{journal_lines_from}
use Rattle.thp_journal_writer.proofs.JournalLemmas.{journal_lines_from-more}

-- with one more node
with_node : (v : Version) (journals : List Journal) (j : Journal) → text_begun v (journals ++ j ∷ []) ≡ text_begun v journals ++ flat_map ended (lines_of_node v (length journals) j)
with_node v journals j =
    ap (λ ls. flat_map ended (version_line v ∷ ls)) (journal_lines_from-more v 0 journals j)
    ∙ ap (λ k. flat_map ended (version_line v ∷ (journal_lines_from v 0 journals ++ lines_of_node v k j))) (from_none (length journals))
    ∙ flat_map-append ended (version_line v ∷ journal_lines_from v 0 journals) (lines_of_node v (length journals) j) where
      from_none : (n : ℕ) → 0 + n ≡ n
      from_none n = omega arith

-- a node of which nothing is reported yet
alone : (v : Version) (n : ℕ) (shape : Shape) → flat_map ended (lines_of_node v n (shape, [])) ≡ ended (node_line v n shape)
unfolding lines_of_node
alone v n shape = append-nil (ended (node_line v n shape))

-- a node with one more event
one_more : (v : Version) (n : ℕ) (shape : Shape) (history : History) (e : Event) →
    flat_map ended (lines_of_node v n (shape, history ++ e ∷ [])) ≡ flat_map ended (lines_of_node v n (shape, history)) ++ ended (event_line e)
unfolding lines_of_node
one_more v n shape history e =
    ap (λ ls. flat_map ended (node_line v n shape ∷ ls)) (map-append event_line history (e ∷ []))
    ∙ flat_map-append ended (node_line v n shape ∷ map event_line history) (event_line e ∷ [])
    ∙ ap (λ s. flat_map ended (node_line v n shape ∷ map event_line history) ++ s) (append-nil (ended (event_line e)))

pub version_first : VersionComesFirst
version_first v = append-nil (ended (version_line v))

pub node_follows : NodeFollows
node_follows v journals shape = with_node v journals (shape, []) ∙ ap (λ s. text_begun v journals ++ s) (alone v (length journals) shape)

pub event_follows : EventFollows
event_follows v journals shape history e =
    with_node v journals (shape, history ++ e ∷ [])
    ∙ ap (λ s. text_begun v journals ++ s) (one_more v (length journals) shape history e)
    ∙ sym (append_assoc (text_begun v journals) (flat_map ended (lines_of_node v (length journals) (shape, history))) (ended (event_line e)))
    ∙ ap (λ t. t ++ ended (event_line e)) (sym (with_node v journals (shape, history)))

pub least_is_journal_text : LeastVersionIsJournalText
unfolding journal_text journal_lines
least_is_journal_text journals =
    sym (flat_map-append ended (version_line (version_of journals) ∷ journal_lines_from (version_of journals) 0 journals) (codes "end" ∷ []))
