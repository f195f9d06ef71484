use Rattle.std.proofs.Common.{◌≡◌, ℕ, List, OnOk, subst}
use Rattle.thp_journal_writer.specs.Prelude.{Plain, Orders}
use Rattle.thp_journal_writer.proofs.LineLemmas.{plain_node, orders_node, underused_node, has_threshold}
use Rattle.thp_journal_writer.proofs.writer.put_node_line.Goals as goal

pub returns-in-Plain : goal.returns-in-Plain
returns-in-Plain c =
    let P : List ℕ → Type 0 = λ t. OnOk c.put_number-in-Plain.result (c.put_number-in-Plain.new.text.items ≡ t) in
    let is : c.args.version ≡ Plain = cc in
    subst P (plain_node c.args.text.now.items c.put.new.text.items c.put_number.new.text.items c.put-2.new.text.items c.args.version c.args.n c.from.result c.args.shape.now is (cc) c.in_ok-put.ensures.text c.in_ok-put_number.ensures.text c.in_ok-put-2.ensures.text) c.put_number-in-Plain.ensures.text

pub returns-in-Orders : goal.returns-in-Orders
returns-in-Orders c =
    let P : List ℕ → Type 0 = λ t. OnOk c.put_order.result (c.put_order.new.text.items ≡ t) in
    let is : c.args.version ≡ Orders = cc in
    subst P (orders_node c.args.text.now.items c.put.new.text.items c.put_number.new.text.items c.put-2.new.text.items c.args.version c.args.n c.args.shape.now is c.in_ok-put.ensures.text c.in_ok-put_number.ensures.text c.in_ok-put-2.ensures.text) c.put_order.ensures

pub returns-in_ok-put_order-in_default : goal.returns-in_ok-put_order-in_default
returns-in_ok-put_order-in_default c =
    let P : List ℕ → Type 0 = λ t. OnOk c.put_underused.result (c.put_underused.new.text.items ≡ t) in
    let is = has_threshold c.args.version c.args.n c.args.shape.now c.in_default.not-Plain c.in_default.not-Orders in
    subst P (underused_node c.args.text.now.items c.put.new.text.items c.put_number.new.text.items c.put-2.new.text.items c.put_order-in_default.new.text.items c.args.version c.args.n c.args.shape.now is c.in_ok-put.ensures.text c.in_ok-put_number.ensures.text c.in_ok-put-2.ensures.text c.in_ok-put_order-in_default.ensures)
    c.put_underused.ensures
