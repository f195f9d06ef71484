use Rattle.std.proofs.Common.{◌≡◌, ℕ, List, OnOk, subst, arith}
use Rattle.thp_journal_writer.proofs.LineLemmas.{number_of_one, number_of_two, number_of_three}
use Rattle.thp_journal_writer.proofs.numbers.put_number.Goals as goal

pub returns-then-number-lt10-clause-text : goal.returns-then-number-lt10-clause-text
returns-then-number-lt10-clause-text c =
    let P : List ℕ → Type 0 = λ t. OnOk c.put.result (c.put.new.text.items ≡ t) in
    subst P (number_of_one c.args.text.now.items c.args.number c.digit.result c.args.after (omega arith) c.digit.ensures) c.put.ensures.text

pub returns-then-number-lt100-clause-text : goal.returns-then-number-lt100-clause-text
returns-then-number-lt100-clause-text c =
    let P : List ℕ → Type 0 = λ t. OnOk c.put-then-number-lt100.result (c.put-then-number-lt100.new.text.items ≡ t) in
    subst P (number_of_two c.args.text.now.items c.args.number c.digit-then-number-lt100.result c.digit-then-number-lt100-2.result c.args.after (omega arith) (omega arith) c.digit-then-number-lt100.ensures c.digit-then-number-lt100-2.ensures)
    c.put-then-number-lt100.ensures.text

pub returns-then-number-lt1000-clause-text : goal.returns-then-number-lt1000-clause-text
returns-then-number-lt1000-clause-text c =
    let P : List ℕ → Type 0 = λ t. OnOk c.put-then-number-lt1000.result (c.put-then-number-lt1000.new.text.items ≡ t) in
    subst P (number_of_three c.args.text.now.items c.args.number c.digit-then-number-lt1000.result c.digit-then-number-lt1000-2.result c.digit-then-number-lt1000-3.result c.args.after (omega arith) (omega arith) c.digit-then-number-lt1000.ensures c.digit-then-number-lt1000-2.ensures c.digit-then-number-lt1000-3.ensures)
    c.put-then-number-lt1000.ensures.text
