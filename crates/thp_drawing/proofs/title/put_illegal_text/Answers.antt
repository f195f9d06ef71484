use Rattle.std.proofs.Common.{◌≡◌, ◌++◌, OnOk, subst, sym}
use Rattle.thp_drawing.specs.Titles.{illegal_title}
use Rattle.thp_drawing.proofs.title.put_illegal_text.Goals as goal

pub returns-in-Some : goal.returns-in-Some
returns-in-Some c =
    subst (λ i. OnOk c.put_words.result (c.put_words.new.text.items ≡ c.args.text.now.items ++ illegal_title i)) (sym c.in-Some.is)
    (rw (sym c.from.ensures) c.put_words.ensures)
