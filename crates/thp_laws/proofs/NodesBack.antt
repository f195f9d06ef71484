-- The first line, the lines of nodes and the last line are read back.
use Rattle.std.proofs.Common.{◌≡◌, ◌<◌, ◌≤◌, ◌-◌, ◌^◌, ℕ, true, List, [], ◌∷◌, Option, Result, Ok, Some, refl, ◌∙◌, arith, codes, decimal, le-leb}
use Rattle.std.specs.List.{list_all}
use Rattle.std.proofs.lemmas.Fmt.{decimal_digit}
use Rattle.std.proofs.Math.Pow.{pow_mono}
use Rattle.thp_history.specs.declared.shape.Shape.{Shape}
use Rattle.thp_history.specs.Prelude.{IsShapeWithin, subpages}
use Rattle.thp_script.specs.declared.fault.TextKind.{TextKind}
use Rattle.thp_script.specs.Prelude.{Text}
use Rattle.thp_journal_writer.specs.EventLines as written
use Rattle.thp_journal_writer.specs.Journals as journal
use Rattle.thp_journal_writer.specs.Prelude.{node_words, underused_word, version_limits}
use Rattle.thp_journal_reader.specs.declared.line.Line.{Line}
use Rattle.thp_journal_reader.specs.declared.line.Line.TheVariants.{Head, Node, End}
use Rattle.thp_journal_writer.specs.declared.version.Version.{Version}
use Rattle.thp_journal_writer.specs.declared.version.Version.TheVariants.{Plain, Orders, Underused, Large}
use Rattle.thp_journal_reader.specs.JournalLines as read
use Rattle.thp_journal_reader.specs.Prelude.{line_by_words, line_by, head_of, number_between, node_threshold_of, node_with, plain_node, ordered_node, underused_node}
use Rattle.thp_laws.specs.Reportable.{IsReportedShape}
use Rattle.thp_laws.proofs.PlainWords.{decimal_plain, is_plain, no_number}
use Rattle.thp_laws.proofs.EventsBack.{line_of_words, number_back}

-- the words of the first line
abbrev pub version_words : Version → List Text
version_words v = codes "thp-journal" ∷ decimal (journal.version_number v) ∷ []

-- the number of a version is small
small_version : (v : Version) → journal.version_number v < 2 ^ 64
small_version x = grind arith

-- are plain
pub version_plain : (v : Version) → list_all is_plain (version_words v) ≡ true
version_plain v = rw (decimal_plain (journal.version_number v) (small_version v)) refl

-- the version by its number
head_said : (v : Version) → line_by Plain (codes "thp-journal") (decimal (journal.version_number v) ∷ []) ≡ Ok (Head v)
unfolding line_by head_of read.parsed_version
head_said x = grind (arith, decimal_digit)

-- the first line states the version
pub version_line_back : (v : Version) → read.line_of Plain (journal.version_line v) ≡ Ok (Head v)
version_line_back v = line_of_words Plain (codes "thp-journal") (decimal (journal.version_number v) ∷ []) (version_plain v) ∙ head_said v

-- the last line states the end
pub end_line_back : (v : Version) → read.line_of v (codes "end") ≡ Ok End
unfolding line_by
end_line_back v = line_of_words v (codes "end") [] refl

-- ---- the lines of nodes

-- what a line says, where nothing is at fault
said : Line → Result Line TextKind
said line = Ok line

-- a number between bounds
between_back : (least most n : ℕ) → least ≤ n → n ≤ most → most < 2 ^ 64 → number_between least most (decimal n) ≡ Ok n
between_back least most n low high lt = rw (number_back most n high lt, le-leb least n low) refl

-- the limits of versions are small
pub small_limits : (v : Version) → ((version_limits v).last_node < 2 ^ 16) × ((version_limits v).most_blocks < 2 ^ 25)
small_limits x = grind arith

-- a node's number and its blocks
node_with_back : (v : Version) (n blocks order : ℕ) (underused : Option ℕ) → n ≤ (version_limits v).last_node → 1 ≤ blocks → blocks ≤ (version_limits v).most_blocks → node_with v (decimal n) (decimal blocks) order underused ≡ Ok (Node n (record { blocks = blocks; order = order; underused = underused }))
node_with_back v n blocks order underused few some most =
    let low = (small_limits v).0 in
    let high = (small_limits v).1 in
    rw (number_back (version_limits v).last_node n few (omega arith), between_back 1 (version_limits v).most_blocks blocks some most (omega arith)) refl

-- an order
order_back : (order : ℕ) → 2 ≤ order → order ≤ 9 → number_between 2 9 (decimal order) ≡ Ok order
order_back order low high = between_back 2 9 order low high (omega arith)

-- a threshold, or none
threshold_back : (order : ℕ) (underused : Option ℕ) → order ≤ 9 → ((t : ℕ) → underused ≡ Some t → t < 2 ^ order) → node_threshold_of order (underused_word underused) ≡ Ok underused
unfolding node_threshold_of
threshold_back order x high low = grind (arith, pow_mono, no_number, number_back)

-- the shape that the line reported is the node's
same_shape : (n order : ℕ) (s : Shape) (underused : Option ℕ) → s.order ≡ order → s.underused ≡ underused → said (Node n (record { blocks = s.blocks; order = order; underused = underused })) ≡ said (Node n s)
unfolding said
same_shape n order s underused e f = rw (← e, ← f) refl

-- node n of this shape, by its words
node_said : (v : Version) (n : ℕ) (s : Shape) → n ≤ (version_limits v).last_node → IsShapeWithin (version_limits v).most_blocks s → IsReportedShape v s → line_by_words v (node_words v n s) ≡ Ok (Node n s)
unfolding line_by plain_node ordered_node underused_node said subpages
node_said Plain n s few is reported = grind (arith, node_with_back, same_shape, order_back, threshold_back)
node_said Orders n s few is reported = grind (arith, node_with_back, same_shape, order_back, threshold_back)
node_said Underused n s few is reported = grind (arith, node_with_back, same_shape, order_back, threshold_back)
node_said Large n s few is reported = grind (arith, node_with_back, same_shape, order_back, threshold_back)

-- the word of a threshold is plain
underused_plain : {most : ℕ} (s : Shape) → IsShapeWithin most s → is_plain (underused_word s.underused) ≡ true
unfolding subpages
underused_plain s is = grind (arith, is_plain, pow_mono, decimal_plain)

-- its words are plain
pub node_plain : (v : Version) (n : ℕ) (s : Shape) → n ≤ (version_limits v).last_node → IsShapeWithin (version_limits v).most_blocks s → list_all is_plain (node_words v n s) ≡ true
node_plain v n s few is =
    let low = (small_limits v).0 in
    let high = (small_limits v).1 in
    let node : is_plain (decimal n) ≡ true = decimal_plain n (omega arith) in
    let blocks : is_plain (decimal s.blocks) ≡ true = decimal_plain s.blocks (let most = is.few_blocks in omega arith) in
    let order : is_plain (decimal s.order) ≡ true = decimal_plain s.order (let most = is.most_order in omega arith) in
    by_version v node blocks order (underused_plain s is) where
      by_version : (v : Version) → is_plain (decimal n) ≡ true → is_plain (decimal s.blocks) ≡ true → is_plain (decimal s.order) ≡ true → is_plain (underused_word s.underused) ≡ true → list_all is_plain (node_words v n s) ≡ true
      by_version Plain node blocks order threshold = rw (node, blocks) refl
      by_version Orders node blocks order threshold = rw (node, blocks, order) refl
      by_version Underused node blocks order threshold = rw (node, blocks, order, threshold) refl
      by_version Large node blocks order threshold = rw (node, blocks, order, threshold) refl

-- the line of a node states its number and its shape
pub node_line_back : (v : Version) (n : ℕ) (s : Shape) → n ≤ (version_limits v).last_node → IsShapeWithin (version_limits v).most_blocks s → IsReportedShape v s → read.line_of v (journal.node_line v n s) ≡ Ok (Node n s)
unfolding journal.node_line
node_line_back v n s few is reported = by_version v (node_plain v n s few is) (node_said v n s few is reported) where
  by_version : (v : Version) → list_all is_plain (node_words v n s) ≡ true → line_by_words v (node_words v n s) ≡ Ok (Node n s) → read.line_of v (written.spaced_line (node_words v n s)) ≡ Ok (Node n s)
  by_version Plain plain is = line_of_words Plain (codes "node") _ plain ∙ is
  by_version Orders plain is = line_of_words Orders (codes "node") _ plain ∙ is
  by_version Underused plain is = line_of_words Underused (codes "node") _ plain ∙ is
  by_version Large plain is = line_of_words Large (codes "node") _ plain ∙ is
