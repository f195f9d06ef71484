-- The two accesses replace one side of the pair, and where there is no index none is made.
use Rattle.std.proofs.Common.{List, ◌∙◌, sym, ap, set, arith}
use Rattle.thp_links.specs.Prelude.{Link, between}
use Rattle.thp_links.proofs.Replacing.{with_prev-at, with_prev_none}
use Rattle.thp_links.proofs.table.set_prev.Goals as goal

pub returns-then-at-ne-NIL-clause-links : goal.returns-then-at-ne-NIL-clause-links
returns-then-at-ne-NIL-clause-links g c =
    let pair = c.link-next.result in
    c.set_link.ensures.links
    ∙ ap (λ (ks : List Link). set ks c.args.at (between c.args.prev pair.next)) c.link-next.ensures.links
    ∙ sym (with_prev-at (g.T.LinkTable.links c.args.table.now) c.args.at c.args.prev pair c.link-next.ensures.value)

pub returns-else-at-ne-NIL-clause-links : goal.returns-else-at-ne-NIL-clause-links
returns-else-at-ne-NIL-clause-links g c = sym (with_prev_none (g.T.LinkTable.links c.args.table.now) c.args.at _ (omega arith))
