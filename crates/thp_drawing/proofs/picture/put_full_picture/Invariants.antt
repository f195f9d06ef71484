use Rattle.std.proofs.Common.{◌≡◌, ◌++◌, drop}
use Rattle.thp_drawing.specs.Overviews.{overview}
use Rattle.thp_drawing.specs.Pictures.{foot_of, head, nodes_drawn}
use Rattle.thp_drawing.proofs.picture.put_full_picture.Given as goal

abbrev pub invariant-loop-number : goal.invariant-loop-number
invariant-loop-number l =
    l.text.items ++ nodes_drawn l.y l.number (drop l.number l.nodes)
    ≡ l.fn.text.items ++ head (foot_of l.top l.nodes) ++ overview l.nodes ++ nodes_drawn l.top 0 l.nodes
