-- Scripts as text: a command's line, and the options of `thpsplit` in a comment (this project's script format).
use Rattle.std.specs.Prelude.{ℕ, List, [], ◌∷◌, ◌++◌, codes, length, max, flat_map, decimal}
use Rattle.thp_history.specs.declared.shape.Shape.{Shape}
use Rattle.thp_script.specs.declared.script.Command.{Command}
use Rattle.thp_script.specs.declared.script.Op.{Op}
use Rattle.thp_script.specs.declared.script.Op.TheVariants as op
use Rattle.thp_journal_writer.specs.Prelude.{spaced_line, ended, underused_word}

abbrev pub node_command_words : List ℕ → ℕ → List (List ℕ)
node_command_words name n = name ∷ decimal n ∷ []

abbrev pub page_command_words : List ℕ → ℕ → ℕ → List (List ℕ)
page_command_words name n p = name ∷ decimal n ∷ decimal p ∷ []

abbrev pub range_command_words : List ℕ → ℕ → ℕ → ℕ → ℕ → List (List ℕ)
range_command_words name n p first count = name ∷ decimal n ∷ decimal p ∷ decimal first ∷ decimal count ∷ []

-- a command on node n: its name, the node, and its operands
abbrev pub op_words : ℕ → Op → List (List ℕ)
op_words n op.Alloc = node_command_words (codes "alloc") n
op_words n (op.MapWhole p) = page_command_words (codes "mapwhole") n p
op_words n (op.UnmapWhole p) = page_command_words (codes "unmapwhole") n p
op_words n (op.Map first count p) = range_command_words (codes "map") n p first count
op_words n (op.Unmap first count p) = range_command_words (codes "unmap") n p first count
op_words n (op.Write first count p) = range_command_words (codes "write") n p first count
op_words n (op.Zero first count p) = range_command_words (codes "zero") n p first count
op_words n (op.SplitPmd p) = page_command_words (codes "splitpmd") n p
op_words n (op.Pin p) = page_command_words (codes "pin") n p
op_words n (op.Unpin p) = page_command_words (codes "unpin") n p
op_words n op.Close = node_command_words (codes "close") n
op_words n (op.Scan count) = page_command_words (codes "scan") n count
op_words n op.Count = node_command_words (codes "count") n
op_words n (op.Take count) = page_command_words (codes "take") n count
op_words n op.SplitNext = node_command_words (codes "splitnext") n
op_words n op.PutBack = node_command_words (codes "putback") n

-- the line of a command
abbrev pub command_line : Command → List ℕ
command_line c = ended (spaced_line (op_words c.node c.op))

-- the lines of commands on node n
abbrev pub commands_text : ℕ → List Op → List ℕ
commands_text n ops = flat_map (λ (o : Op). command_line (record { node = n; op = o })) ops

-- the greatest number of blocks
abbrev pub most_blocks : List Shape → ℕ
most_blocks [] = 0
most_blocks (s ∷ shapes) = max s.blocks (most_blocks shapes)

-- the orders, separated by commas (44), and a space (32)
abbrev pub orders_text : List Shape → List ℕ
orders_text [] = []
orders_text (s ∷ []) = decimal s.order ++ 32 ∷ []
orders_text (s ∷ t ∷ shapes) = decimal s.order ++ 44 ∷ orders_text (t ∷ shapes)

-- the thresholds, or `off`, separated by commas, and a line feed (10)
abbrev pub thresholds_text : List Shape → List ℕ
thresholds_text [] = 10 ∷ []
thresholds_text (s ∷ []) = underused_word s.underused ++ 10 ∷ []
thresholds_text (s ∷ t ∷ shapes) = underused_word s.underused ++ 44 ∷ thresholds_text (t ∷ shapes)

-- the number of nodes, and a space
abbrev pub count_text : List Shape → List ℕ
count_text shapes = decimal (length shapes) ++ 32 ∷ []

-- the greatest number of blocks, and a space
abbrev pub blocks_text : List Shape → List ℕ
blocks_text shapes = decimal (most_blocks shapes) ++ 32 ∷ []

-- a comment with the options for nodes of these shapes
unfoldable pub options_line : List Shape → List ℕ
options_line shapes =
    codes "# thpsplit --nodes " ++ count_text shapes ++ codes "--blocks " ++ blocks_text shapes ++ codes "--orders " ++ orders_text shapes
    ++ codes "--underused " ++ thresholds_text shapes
