use Rattle.std.proofs.Common.{◌≡◌, ◌∙◌, ◌+◌, ◌++◌, ◌∷◌, [], List, ap, arith, replicate}
use Rattle.std.proofs.lemmas.List.{replicate_more}
use Rattle.thp_script.specs.Prelude.{Command}
use Rattle.thp_script.proofs.script_reader.empty_sections.Goals as goal

pub loop-init : goal.loop-init
loop-init c =
    c.in_ok-push.ensures.items ∙ ap (λ (sections : List (List Command)). sections ++ c.new.result ∷ []) c.new-sections.ensures.items
    ∙ ap (λ (section : List Command). section ∷ []) c.new.ensures

pub loop-preserved : goal.loop-preserved
loop-preserved c =
    c.in_ok-push-2.ensures.items ∙ ap (λ (section : List Command). c.loop.sections.items ++ section ∷ []) c.new-in-loop.ensures
    ∙ ap (λ (sections : List (List Command)). sections ++ [] ∷ []) c.loop.invariant ∙ replicate_more (c.loop.counter + 1) []

pub returns-clause-empty : goal.returns-clause-empty
returns-clause-empty c =
    let all : c.loop.counter ≡ c.args.workers = omega (arith, c.loop-test.false, c.loop.auto.counter-end) in
    c.loop.invariant ∙ ap (λ n. replicate (n + 1) []) all
