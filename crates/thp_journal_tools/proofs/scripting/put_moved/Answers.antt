use Rattle.thp_journal_tools.specs.Scripting.{moved_text}
use Rattle.thp_journal_tools.proofs.ScriptLaws.{four_texts}
use Rattle.thp_journal_tools.proofs.scripting.put_moved.Goals as goal

pub returns : goal.returns
unfolding moved_text
returns c = four_texts _ _ _ _ _ c.in_ok-put_note.ensures c.in_ok-put_note-2.ensures c.in_ok-put_note-3.ensures c.in_ok-put_note-4.ensures
