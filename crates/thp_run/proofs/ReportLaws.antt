-- What reports show of nodes.
use Rattle.std.proofs.Common.{◌≡◌, List, [], ◌∷◌, map, refl, ap}
use Rattle.thp_node.specs.Prelude.{NodeState}
use Rattle.thp_run.specs.Reports.{reported_journal, shape_of, journal_shape}

-- the shapes of nodes that were reported are the nodes' shapes
pub shapes_reported : (nodes : List NodeState) → map journal_shape (map reported_journal nodes) ≡ map shape_of nodes
shapes_reported [] = refl
shapes_reported (n ∷ nodes) = ap (λ shapes. n.shape ∷ shapes) (shapes_reported nodes)
