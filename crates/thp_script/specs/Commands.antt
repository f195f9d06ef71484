-- The commands of scripts by their words (this project's script format).
use Rattle.std.specs.Prelude.{◌≤◌, ◌<◌, ℕ, ◌-◌, ⊤, List, [], ◌∷◌, Result, Ok, Err, codes, ok_or, if◌then◌else◌, bytes_eq}
use Rattle.thp_history.specs.Prelude.{max_batch}
use Rattle.thp_script.specs.declared.fault.TextKind.{TextKind}
use Rattle.thp_script.specs.declared.fault.TextKind.TheVariants.{BadWord, BadCount, BadNumber}
use Rattle.thp_script.specs.declared.script.Command.{Command}
use Rattle.thp_script.specs.declared.script.Op.{Op}
use Rattle.thp_script.specs.declared.script.Op.TheVariants.{Alloc, MapWhole, UnmapWhole, Map, Unmap, Write, Zero, SplitPmd, Pin, Unpin, Close, Scan, Count, Take, SplitNext, PutBack}
use Rattle.thp_script.specs.declared.settings.Settings.{Settings}
use Rattle.thp_script.specs.Limits.{max_operand}
use Rattle.thp_script.specs.Readings.{◌>>=◌}
use Rattle.thp_script.specs.Words.{Text, number_of}

-- the one word, if there is exactly one
abbrev pub one_word : List Text → Result Text TextKind
one_word (a ∷ []) = Ok a
one_word _ = Err BadCount

-- the two words, if there are exactly two
abbrev pub two_words : List Text → Result (Text × Text) TextKind
two_words (a ∷ b ∷ []) = Ok (a, b)
two_words _ = Err BadCount

-- the four words, if there are exactly four
abbrev pub four_words : List Text → Result (Text × Text × Text × Text) TextKind
four_words (a ∷ b ∷ c ∷ d ∷ []) = Ok (a, b, c, d)
four_words _ = Err BadCount

-- a number of at most `most`
abbrev pub number_up_to : ℕ → Text → Result ℕ TextKind
number_up_to most word = ok_or (number_of most word) BadNumber

-- the number of an existing node
abbrev pub node_number : Settings → Text → Result ℕ TextKind
node_number s = number_up_to (s.nodes - 1)

-- a command on a whole node, after its name: `NODE`
unfoldable pub node_command : Op → Settings → List Text → Result Command TextKind
node_command op s words = do
  word ← one_word words
  node ← node_number s word
  Ok (record { node = node; op = op })

-- a command on a page: `NODE PAGE`
unfoldable pub page_command : (ℕ → Op) → Settings → List Text → Result Command TextKind
page_command op s words = do
  word ← two_words words
  node ← node_number s word.0
  page ← number_up_to 18446744073709551615 word.1
  Ok (record { node = node; op = op page })

-- a command on a range of a page's subpages: `NODE PAGE FIRST COUNT`
unfoldable pub range_command : (ℕ → ℕ → ℕ → Op) → Settings → List Text → Result Command TextKind
range_command op s words = do
  word ← four_words words
  node ← node_number s word.0
  page ← number_up_to 18446744073709551615 word.1
  first ← number_up_to max_operand word.2
  count ← number_up_to max_operand word.3
  Ok (record { node = node; op = op page first count })

-- a scan or a take: `NODE COUNT`
unfoldable pub batch_command : (ℕ → Op) → Settings → List Text → Result Command TextKind
batch_command op s words = do
  word ← two_words words
  node ← node_number s word.0
  count ← number_up_to max_batch word.1
  Ok (record { node = node; op = op count })

-- how the operands after a command's name are parsed
abbrev pub Reading : Type 0
Reading = Settings → List Text → Result Command TextKind

-- the commands, each by its word
abbrev pub commands : List (Text × Reading)
commands =
    (codes "alloc", node_command Alloc)
    ∷ (codes "mapwhole", page_command MapWhole)
    ∷ (codes "unmapwhole", page_command UnmapWhole)
    ∷ (codes "map", range_command (λ page first count. Map first count page))
    ∷ (codes "unmap", range_command (λ page first count. Unmap first count page))
    ∷ (codes "splitpmd", page_command SplitPmd)
    ∷ (codes "pin", page_command Pin)
    ∷ (codes "unpin", page_command Unpin)
    ∷ (codes "write", range_command (λ page first count. Write first count page))
    ∷ (codes "zero", range_command (λ page first count. Zero first count page))
    ∷ (codes "close", node_command Close)
    ∷ (codes "scan", batch_command (λ count. Scan count))
    ∷ (codes "count", node_command Count)
    ∷ (codes "take", batch_command (λ count. Take count))
    ∷ (codes "splitnext", node_command SplitNext)
    ∷ (codes "putback", node_command PutBack)
    ∷ []

-- a command by its first word and the others
abbrev pub command_in : List (Text × Reading) → Settings → Text → List Text → Result Command TextKind
command_in [] s name words = Err BadWord
command_in (entry ∷ others) s name words = if bytes_eq name entry.0 then entry.1 s words else command_in others s name words

unfoldable pub command_of : Settings → Text → List Text → Result Command TextKind
command_of s name words = command_in commands s name words

-- a scan and a take are of at most as many pages as a batch holds
abbrev pub FitsBatch : Op → Type 0
FitsBatch (Scan count) = count ≤ max_batch
FitsBatch (Take count) = count ≤ max_batch
FitsBatch _ = ⊤

-- a command for an existing node
pub record IsCommandFor (nodes : ℕ) (command : Command) : Type 0 where
  pub node_exists : command.node < nodes
  pub fits_batch : FitsBatch command.op
