use Rattle.std.proofs.Common.{◌∙◌, ◌^◌, ◌/◌, ap, sym, ne_eqb}
use Rattle.thp_history.specs.Prelude.{covers}
use Rattle.thp_page.proofs.Chosen.{none_as_large}
use Rattle.thp_page.proofs.planes.Planes.has_count.Goals as goal

pub returns-else-from-self-eq0 : goal.returns-else-from-self-eq0
returns-else-from-self-eq0 c =
    ne_eqb _ 0 c.if-from-self-eq0.false
    ∙ sym (none_as_large c.args.self.now.sets c.args.n c.args.self.now.used (covers c.args.first c.args.count)
    (λ e. c.if-from-self-eq0.false (ap (λ m. m / 2 ^ c.args.self.now.used) c.from.ensures ∙ e)))
