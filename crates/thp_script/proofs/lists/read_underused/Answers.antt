use Rattle.thp_script.specs.Prelude.{threshold_of, threshold_text, IsWritable}
use Rattle.thp_script.proofs.ListLaws.{given_refused, given_written, threshold_again, threshold_plain, threshold_written}
use Rattle.thp_script.proofs.lists.read_underused.Goals as goal

pub returns-clause-written : goal.returns-clause-written
returns-clause-written c = given_written threshold_of threshold_text threshold_written c.read_list.result c.as_bytes.result.now c.args.text.now c.as_bytes.ensures.value c.read_list.ensures

pub returns-clause-refused : goal.returns-clause-refused
returns-clause-refused c = given_refused threshold_of threshold_text IsWritable threshold_again threshold_plain c.read_list.result c.as_bytes.result.now c.args.text.now c.as_bytes.ensures.value c.read_list.ensures
