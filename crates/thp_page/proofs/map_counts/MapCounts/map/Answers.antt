use Rattle.std.proofs.Common.{◌∙◌, ◌+◌, ap, sym, cond, slice_index}
use Rattle.thp_history.specs.Prelude.{has, covers, get_or-set_of}
use Rattle.thp_page.proofs.map_counts.MapCounts.map.Goals as goal

pub map_each-requires-in-None : goal.map_each-requires-in-None
map_each-requires-in-None c = λ i below chosen.
    c.requires.small i (sym (ap (λ t. has t i) c.range-in-None.ensures ∙ get_or-set_of (covers c.args.first c.args.count) i below) ∙ chosen)

pub returns-in-None : goal.returns-in-None
returns-in-None c = λ i below.
    c.map_each-in-None.ensures i below
    ∙ ap (λ b. slice_index c.args.self.now i + cond b 1 0) (ap (λ t. has t i) c.range-in-None.ensures ∙ get_or-set_of (covers c.args.first c.args.count) i below)
