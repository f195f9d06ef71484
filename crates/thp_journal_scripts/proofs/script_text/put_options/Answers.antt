use Rattle.std.proofs.Common.{◌≡◌, ◌++◌, [], ◌∷◌, ℕ, List, append_assoc, codes, length}
use Rattle.std.specs.Fmt.{decimal}
use Rattle.thp_journal_scripts.specs.ScriptTexts.{most_blocks}
use Rattle.thp_journal_scripts.specs.Prelude.{options_line, orders_text, thresholds_text}
use Rattle.thp_journal_scripts.proofs.script_text.put_options.Goals as goal

ten : (t a n u b m v e f g h : List ℕ) → t ++ a ++ n ++ u ++ b ++ m ++ v ++ e ++ f ++ g ++ h ≡ t ++ (a ++ (n ++ u) ++ b ++ (m ++ v) ++ e ++ f ++ g ++ h)
ten t a n u b m v e f g h = simp append_assoc

pub returns : goal.returns
unfolding options_line
returns c =
    let s = c.args.shapes.now in
    rw (c.in_ok-put_thresholds.ensures, c.in_ok-put-4.ensures.text, c.in_ok-put_orders.ensures, c.in_ok-put-3.ensures.text, c.in_ok-put_number-2.ensures.text, c.from.ensures, c.most_blocks.ensures, c.in_ok-put-2.ensures.text, c.in_ok-put_number.ensures.text, c.in_ok-put.ensures.text)
    (ten c.args.text.now.items (codes "# thpsplit --nodes ") (decimal (length s)) (32 ∷ []) (codes "--blocks ") (decimal (most_blocks s)) (32 ∷ []) (codes "--orders ") (orders_text s) (codes "--underused ") (thresholds_text s))
