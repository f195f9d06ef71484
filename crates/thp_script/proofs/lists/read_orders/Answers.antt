use Rattle.std.proofs.Common.{◌<◌, ◌^◌, decimal}
use Rattle.thp_script.specs.Prelude.{order_of}
use Rattle.thp_script.proofs.ListLaws.{given_refused, given_written, order_again, order_plain, order_written}
use Rattle.thp_script.proofs.lists.read_orders.Goals as goal

pub returns-clause-written : goal.returns-clause-written
returns-clause-written c = given_written order_of decimal order_written c.read_list.result c.as_bytes.result.now c.args.text.now c.as_bytes.ensures.value c.read_list.ensures

pub returns-clause-refused : goal.returns-clause-refused
returns-clause-refused c = given_refused order_of decimal (λ n. n < 2 ^ 32) order_again order_plain c.read_list.result c.as_bytes.result.now c.args.text.now c.as_bytes.ensures.value c.read_list.ensures
