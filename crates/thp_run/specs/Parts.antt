-- The text of answers in parts.
use Rattle.std.specs.Prelude.{ℕ, List, [], ◌∷◌, ◌++◌, drop, flat_map}
use Rattle.thp_history.specs.declared.shape.Shape.{Shape}
use Rattle.thp_run.specs.Answers.{answer_line, answers_text}
use Rattle.thp_worker.specs.declared.reply.SectionLog.{SectionLog}

-- the greatest length of an answer's line: two numbers, and a reply that is at most as long as an outcome with a set
abbrev pub line_room : ℕ
line_room = 4145

-- a part of this many bytes gets no further line
abbrev pub full_part : ℕ
full_part = 65536

-- the current part, and the rest of the text after it
pub record AnswersLeft : Type 0 where
  pub part : List ℕ
  pub rest : List ℕ

-- the answers of these sections, without this many at the start of the first
unfoldable pub text_from : List Shape → ℕ → List SectionLog → List ℕ
text_from shapes place [] = []
text_from shapes place (s ∷ sections) = flat_map (answer_line shapes s.worker) (drop place s.answers.items) ++ answers_text shapes sections
