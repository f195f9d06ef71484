-- The view that contracts have of the text that was taken out of a script. No public clause cites this module.
use Rattle.std.specs.Prelude.{ℕ, List, [], ◌++◌}
use Rattle.thp_journal_scripts.specs.declared.journal_script.TextChain.{TextChain}
use Rattle.thp_journal_scripts.specs.declared.journal_script.TextChain.TheVariants.{Start, Then'}

-- the parts one after the other, the oldest first
abbrev pub traced_text : TextChain → List ℕ
traced_text Start = []
traced_text (Then' text shape before) = traced_text before ++ text.value.items
