-- The commands that words name, by the operands that follow them. No public clause cites this module.
use Rattle.std.specs.Prelude.{◌≡◌, ℕ, List, Result}
use Rattle.thp_script.specs.declared.script.BatchCall.{BatchCall}
use Rattle.thp_script.specs.declared.script.BatchCall.TheVariants as batch
use Rattle.thp_script.specs.declared.script.RangeCall.{RangeCall}
use Rattle.thp_script.specs.declared.script.RangeCall.TheVariants as range
use Rattle.thp_script.specs.declared.fault.TextKind.{TextKind}
use Rattle.thp_script.specs.declared.script.CommandWord.{CommandWord}
use Rattle.thp_script.specs.declared.script.CommandWord.TheVariants.{OfNode, OfPage, OfRange, OfBatch}
use Rattle.thp_script.specs.declared.script.Op.{Op}
use Rattle.thp_script.specs.declared.script.Op.TheVariants.{Map, Unmap, Write, Zero, Scan, Take}
use Rattle.thp_script.specs.declared.settings.Settings.{Settings}
use Rattle.thp_script.specs.Commands.{batch_command, command_of, node_command, page_command, range_command, Reading}
use Rattle.thp_script.specs.PageCommands.{page_op}
use Rattle.thp_script.specs.Readings.{◌>>=◌}
use Rattle.thp_script.specs.Words.{Text}

-- the command on a number of pages, at most as many as a batch holds
abbrev pub batch_op : BatchCall → ℕ → Op
batch_op batch.Scan count = Scan count
batch_op batch.Take count = Take count

-- the command on a range of a page's subpages
abbrev pub range_op : RangeCall → ℕ → ℕ → ℕ → Op
range_op range.Map page first count = Map first count page
range_op range.Unmap page first count = Unmap first count page
range_op range.Write page first count = Write first count page
range_op range.Zero page first count = Zero first count page

-- how the operands after a word are parsed
abbrev pub reading_of : CommandWord → Reading
reading_of (OfNode op) = node_command op
reading_of (OfPage call) = page_command (page_op call)
reading_of (OfRange call) = range_command (range_op call)
reading_of (OfBatch call) = batch_command (batch_op call)

-- the word names this, or no command
abbrev pub Names : Text → Result CommandWord TextKind → Type 0
Names name named = (s : Settings) (words : List Text) → command_of s name words ≡ (named >>= λ word. reading_of word s words)
