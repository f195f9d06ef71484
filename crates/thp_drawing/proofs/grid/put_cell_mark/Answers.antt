use Rattle.std.proofs.Common.{◌≡◌, ◌++◌, OnOk, subst, sym}
use Rattle.thp_drawing.specs.Grids.{cell_mark}
use Rattle.thp_drawing.proofs.grid.put_cell_mark.Goals as goal

pub returns-in-Some : goal.returns-in-Some
returns-in-Some c =
    subst (λ i. OnOk c.put_words.result (c.put_words.new.text.items ≡ c.args.text.now.items ++ cell_mark i)) (sym c.in-Some.is)
    (rw (sym c.from.ensures) c.put_words.ensures)
