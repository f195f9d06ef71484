use Rattle.std.proofs.Common.{◌∙◌, ◌&&◌, ap, nat_eq}
use Rattle.thp_history.specs.Prelude.{has, covers, get_or-set_of}
use Rattle.thp_page.specs.Prelude.{tally}
use Rattle.thp_page.proofs.Seen.{some_found}
use Rattle.thp_page.proofs.planes.Planes.has_small_count.Goals as goal

pub returns : goal.returns
returns c =
    some_found _ (has c.with_count.result) (λ i. covers c.args.first c.args.count i && nat_eq (tally c.args.self.now i) c.args.n) c.is_empty.ensures.none
    (λ i below.
    c.with_count.ensures i below
    ∙ ap (λ b. b && nat_eq (tally c.args.self.now i) c.args.n) (ap (λ t. has t i) c.range-range.ensures ∙ get_or-set_of (covers c.args.first c.args.count) i below))
