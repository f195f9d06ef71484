use Rattle.std.proofs.Common.{◌∙◌, ◌+◌, ◌&&◌, ap, sym, cond, nat_eq, slice_index}
use Rattle.thp_history.specs.Prelude.{has, covers, get_or-set_of}
use Rattle.thp_history.proofs.Below.{some_below-ext}
use Rattle.thp_page.proofs.map_counts.MapCounts.unmap.Goals as goal

pub unmap_each-requires-in-None : goal.unmap_each-requires-in-None
unmap_each-requires-in-None c = λ i below chosen.
    c.requires.positive i (sym (ap (λ t. has t i) c.range-in-None.ensures ∙ get_or-set_of (covers c.args.first c.args.count) i below) ∙ chosen)

pub returns-in-Some-clause-unmapped : goal.returns-in-Some-clause-unmapped
returns-in-Some-clause-unmapped c =
    c.unmap_each.ensures.unmapped ∙ some_below-ext 512 _ _ (λ i below. ap (λ b. b && nat_eq (slice_index c.args.self.now i) 1) (c.in-Some.ensures i))

pub returns-in-None-clause-taken : goal.returns-in-None-clause-taken
returns-in-None-clause-taken c = λ i below.
    c.unmap_each-in-None.ensures.taken i below
    ∙ ap (λ b. slice_index c.unmap_each-in-None.new.self i + cond b 1 0) (ap (λ t. has t i) c.range-in-None.ensures ∙ get_or-set_of (covers c.args.first c.args.count) i below)

pub returns-in-None-clause-unmapped : goal.returns-in-None-clause-unmapped
returns-in-None-clause-unmapped c =
    c.unmap_each-in-None.ensures.unmapped
    ∙ some_below-ext 512 _ _
    (λ i below. ap (λ b. b && nat_eq (slice_index c.args.self.now i) 1) (ap (λ t. has t i) c.range-in-None.ensures ∙ get_or-set_of (covers c.args.first c.args.count) i below))
