-- The answers to the commands of a run as text (this project's report format).
use Rattle.std.specs.Prelude.{ℕ, ◌+◌, Bool, true, false, List, [], ◌∷◌, ◌++◌, Option, Some, None, Ok, Err, codes, slice_get, flat_map, decimal}
use Rattle.thp_journal_writer.specs.Prelude.{spaced_line, outcome_word, page_words, ended, set_text}
use Rattle.thp_history.specs.declared.refusal.Refusal.{Refusal}
use Rattle.thp_history.specs.declared.refusal.Refusal.TheVariants.{NoPage, BadRange, IsSplit, NotMapped, Gone, NotPinned, TooMany, Closed, NoBlock, HasBatch, OutOfMemory}
use Rattle.thp_history.specs.declared.shape.Shape.{Shape}
use Rattle.thp_history.specs.Prelude.{shrinks_underused}
use Rattle.thp_node.specs.declared.answers.ScanReply.{ScanReply}
use Rattle.thp_node.specs.declared.answers.Tried.{Tried}
use Rattle.thp_node.specs.declared.answers.Tried.TheVariants as tried
use Rattle.thp_worker.specs.declared.reply.Answer.{Answer}
use Rattle.thp_worker.specs.declared.reply.Reply.{Reply}
use Rattle.thp_worker.specs.declared.reply.Reply.TheVariants as reply
use Rattle.thp_worker.specs.declared.reply.SectionLog.{SectionLog}
use Rattle.thp_worker.specs.Prelude.{Reaction, stored}

-- why a command was refused; there is no word for lack of memory, which ends a run without a report
abbrev pub refusal_word : Refusal → List ℕ
refusal_word NoPage = codes "no-page"
refusal_word BadRange = codes "bad-range"
refusal_word IsSplit = codes "is-split"
refusal_word NotMapped = codes "not-mapped"
refusal_word Gone = codes "gone"
refusal_word NotPinned = codes "not-pinned"
refusal_word TooMany = codes "too-many"
refusal_word Closed = codes "closed"
refusal_word NoBlock = codes "no-block"
refusal_word HasBatch = codes "has-batch"
refusal_word OutOfMemory = []

-- the result of a try
abbrev pub tried_words : Tried → List (List ℕ)
tried_words (tried.Split p) = page_words (codes "split") p
tried_words (tried.Pinned p) = page_words (codes "pinned") p
tried_words (tried.Used p) = page_words (codes "used") p
tried_words tried.Done = codes "done" ∷ []

-- the number of pages put back, and the number dropped
abbrev pub back_words : ℕ → ℕ → List (List ℕ)
back_words back dropped = codes "back" ∷ decimal back ∷ codes "dropped" ∷ decimal dropped ∷ []

-- the counts of a scan on any node
abbrev pub scan_words : ScanReply → List (List ℕ)
scan_words r = codes "taken" ∷ decimal r.taken ∷ codes "split" ∷ decimal r.split ∷ codes "pinned" ∷ decimal r.pinned ∷ back_words r.back r.dropped

-- the further count of a scan if the shrinker looks for underused pages
abbrev pub used_words : Bool → ScanReply → List (List ℕ)
used_words false r = []
used_words true r = codes "used" ∷ decimal r.used ∷ []

-- the reply to a command, on a node whose shrinker looks for underused pages or not
abbrev pub reply_words : Bool → Reply → List (List ℕ)
reply_words looks (reply.Page p) = page_words (codes "page") p
reply_words looks reply.Unit = codes "ok" ∷ []
reply_words looks (reply.Done d) = outcome_word d.outcome ∷ set_text d.released ∷ []
reply_words looks (reply.Scan r) = scan_words r ++ used_words looks r
reply_words looks (reply.Count n) = codes "count" ∷ decimal n ∷ []
reply_words looks (reply.Taken n) = codes "taken" ∷ decimal n ∷ []
reply_words looks (reply.Tried t) = tried_words t
reply_words looks (reply.Back r) = back_words r.back r.dropped
reply_words looks reply.NoBatch = codes "no-batch" ∷ []

-- the answer to a command
abbrev pub reaction_words : Bool → Reaction → List (List ℕ)
reaction_words looks (Ok r) = reply_words looks r
reaction_words looks (Err why) = codes "refused" ∷ refusal_word why ∷ []

abbrev pub looks_on : Option Shape → Bool
looks_on (Some s) = shrinks_underused s
looks_on None = false

-- the shrinker of node n looks for underused pages
abbrev pub looks : List Shape → ℕ → Bool
looks shapes n = looks_on (slice_get shapes n)

-- an answer: the section's number, the command's index in the section, counted from 1, and the answer to the command
unfoldable pub answer_line : List Shape → ℕ → Answer → List ℕ
answer_line shapes section a = ended (spaced_line (decimal section ∷ decimal (a.command + 1) ∷ reaction_words (looks shapes a.node) a.reply))

-- the answers of a section: setup is section 0, and worker k's section is k
unfoldable pub section_text : List Shape → SectionLog → List ℕ
section_text shapes section = flat_map (answer_line shapes section.worker) section.answers.items

-- the answers of all sections, in order, on nodes of these shapes
unfoldable pub answers_text : List Shape → List SectionLog → List ℕ
answers_text shapes sections = flat_map (section_text shapes) sections

-- the section with those of its answers that are stored: all or none
abbrev pub with_stored : SectionLog → SectionLog
with_stored s = record s { answers = record s.answers { items = stored s.answers } }
