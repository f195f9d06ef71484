use Rattle.thp_script.proofs.FastParsingLaws.{named}
use Rattle.thp_script.proofs.script.parse_named_fast.Goals as goal

pub returns : goal.returns
returns c = named c.args.settings.now c.args.name.now c.args.word c.args.text.now c.in_ok-operands.operands.now c.parse_operands_fast.result _ _ c.requires c.in_ok-operands.ensures c.parse_operands_fast.ensures
