-- The two accesses replace one side of the pair, and where there is no index none is made.
use Rattle.std.proofs.Common.{List, ◌∙◌, sym, ap, set, arith}
use Rattle.thp_links.specs.Prelude.{Link, between}
use Rattle.thp_links.proofs.Replacing.{with_next-at, with_next_none}
use Rattle.thp_links.proofs.table.set_next.Goals as goal

pub returns-then-at-ne-NIL-clause-links : goal.returns-then-at-ne-NIL-clause-links
returns-then-at-ne-NIL-clause-links g c =
    let pair = c.link-prev.result in
    c.set_link.ensures.links
    ∙ ap (λ (ks : List Link). set ks c.args.at (between pair.prev c.args.next)) c.link-prev.ensures.links
    ∙ sym (with_next-at (g.T.LinkTable.links c.args.table.now) c.args.at c.args.next pair c.link-prev.ensures.value)

pub returns-else-at-ne-NIL-clause-links : goal.returns-else-at-ne-NIL-clause-links
returns-else-at-ne-NIL-clause-links g c = sym (with_next_none (g.T.LinkTable.links c.args.table.now) c.args.at _ (omega arith))
