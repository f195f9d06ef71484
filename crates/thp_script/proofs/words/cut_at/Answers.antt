use Rattle.std.proofs.Common.{◌≡◌, ℕ, ◌+◌, ◌-◌, List, length, take, drop, sym, ◌∙◌, length-drop}
use Rattle.std.proofs.Math.Seq.{take-length}
use Rattle.thp_script.proofs.PieceLaws.{first_piece, one_piece}
use Rattle.thp_script.proofs.words.cut_at.Goals as goal

whole_rest : (k : ℕ) (xs : List ℕ) → take (length xs - k) (drop k xs) ≡ drop k xs
whole_rest k xs = rw (← length-drop k xs) (take-length (drop k xs))

pub returns-in-Some-clause-pieces : goal.returns-in-Some-clause-pieces
returns-in-Some-clause-pieces c =
    rw (whole_rest (c.in-Some.place + 1) c.args.text.now) (first_piece c.args.separator c.args.text.now c.in-Some.place (sym c.place_of.ensures ∙ c.in-Some.is))

pub returns-in-None-clause-pieces : goal.returns-in-None-clause-pieces
returns-in-None-clause-pieces c = one_piece c.args.separator c.args.text.now (sym c.place_of.ensures ∙ c.in-None.is)
