use Rattle.std.proofs.Common.{◌∙◌, ◌++◌, ◌∷◌, [], append_assoc, ap, arith, sym, replicate}
use Rattle.std.proofs.lemmas.List.{append-nil, replicate-append-replicate}
use Rattle.thp_script.specs.declared.script.Op.TheVariants.{SplitNext}
use Rattle.thp_journal_scripts.proofs.script_batch.put_tries.Goals as goal

pub loop-try-init : goal.loop-try-init
loop-try-init c = sym (append-nil c.args.ops.now.items)

pub loop-try-preserved : goal.loop-try-preserved
loop-try-preserved c =
    c.in_ok-push.ensures.items
    ∙ ap (λ os. os ++ SplitNext ∷ []) c.loop-try.invariant
    ∙ append_assoc c.args.ops.now.items (replicate c.loop-try._try SplitNext) (SplitNext ∷ [])
    ∙ ap (λ os. c.args.ops.now.items ++ os) (replicate-append-replicate c.loop-try._try 1 SplitNext)

pub returns : goal.returns
returns c = c.loop-try.invariant ∙ ap (λ n. c.args.ops.now.items ++ replicate n SplitNext) (omega (arith, c.loop-try-test.false, c.loop-try.auto._try-end))
