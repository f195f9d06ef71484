use Rattle.std.proofs.Common.{◌∙◌, ℕ, List, Option, None, get_or, ap, sym, arith}
use Rattle.std.proofs.lemmas.List.{get_or_past, get_or_read}
use Rattle.thp_page.proofs.Paddings.{get_or-padded_default}
use Rattle.thp_page.proofs.page_numbers.PageNumbers.at.Goals as goal

pub returns : goal.returns
returns c =
    let ns = c.self.inside.trees.numbers.items in
    sym (ap (λ (os : List (Option ℕ)). get_or os c.args.block None) (sym c.self.view_is) ∙ get_or-padded_default None c.self.inside.blocks ns c.args.block
    ∙ sym (get_or_read ns c.args.block c.index.result.now (omega arith) c.index.ensures None))

pub returns-then-block-len : goal.returns-then-block-len
returns-then-block-len c =
    let ns = c.self.inside.trees.numbers.items in
    sym (ap (λ (os : List (Option ℕ)). get_or os c.args.block None) (sym c.self.view_is) ∙ get_or-padded_default None c.self.inside.blocks ns c.args.block ∙ get_or_past ns c.args.block None (omega arith))
