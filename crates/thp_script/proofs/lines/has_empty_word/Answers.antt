use Rattle.std.proofs.Common.{rules, tests, ◌==◌}
use Rattle.std.proofs.lemmas.Iterator.Search.{any_from_yields_List}
use Rattle.std.proofs.lemmas.Iterator.Splits.{YieldsList-from_slice_split}
use Rattle.thp_script.specs.Prelude.{is_empty}
use Rattle.thp_script.proofs.lines.has_empty_word.Goals as goal

pub returns : goal.returns
returns c =
    any_from_yields_List is_empty _ _ _ c.any.ensures.ran
    (YieldsList-from_slice_split _ (λ b. b == 32) c.args.line.now c.split.ensures.rest c.split.ensures.done c.split.ensures.closure (λ x b q. search (rules, tests)))
    (λ x b q k. search (rules, tests))
