use Rattle.std.proofs.Common.{refl}
use Rattle.thp_journal_tools.specs.Scripting.{notes_text}
use Rattle.thp_journal_tools.proofs.scripting.notes_of.Goals as goal

pub returns : goal.returns
unfolding notes_text
returns c = rw (c.some_text.ensures, c.in_ok-put_note.ensures, c.in_ok-put_moved.ensures, c.in_ok-put_illegal.ensures, c.new-text.ensures.items) refl
