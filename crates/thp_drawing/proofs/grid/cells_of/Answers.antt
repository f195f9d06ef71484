use Rattle.std.proofs.Common.{◌≡◌, ◌∙◌, ℕ, ap, take}
use Rattle.std.proofs.lemmas.List.{take_min}
use Rattle.thp_drawing.specs.Grids.{cells_of}
use Rattle.thp_drawing.proofs.grid.cells_of.Goals as goal

pub returns : goal.returns
returns c = c.split_at.ensures.front ∙ ap (λ (n : ℕ). take n c.args.nodes.now) c.min.ensures ∙ take_min 256 c.args.nodes.now
