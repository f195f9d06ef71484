use Rattle.std.proofs.Common.{◌∙◌, ap, length, refl, sym}
use Rattle.std.proofs.lemmas.Option.{slice_get-map, slice_get_read}
use Rattle.std.specs.Prelude.{option_map}
use Rattle.thp_history.specs.Prelude.{shrinks_underused}
use Rattle.thp_run.specs.Answers.{looks_on}
use Rattle.thp_run.specs.Reports.{shape_of}
use Rattle.thp_run.proofs.answers.looks_on.Goals as goal

pub returns-in-Some : goal.returns-in-Some
returns-in-Some g c =
    let nodes = c.args.nodes.now in
    let n = c.args.node in
    let there = c.in-Some.ensures.lookup in
    let got = slice_get_read nodes (length nodes) n c.in-Some.node.now refl there.3.0 there.1 in
    c.shrinks_underused.ensures ∙ ap shrinks_underused c.shape.ensures.value
    ∙ ap looks_on (sym (slice_get-map shape_of nodes n ∙ ap (option_map shape_of) got))
