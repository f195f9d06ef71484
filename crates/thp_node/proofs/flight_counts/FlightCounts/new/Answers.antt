use Rattle.std.proofs.Common.{ℕ, List, slice_index_or, ap, ◌∙◌}
use Rattle.thp_live_pages.proofs.FreeWords.{zeros-get}
use Rattle.thp_node.proofs.flight_counts.FlightCounts.new.Goals as goal

pub returns : goal.returns
returns c = λ caller. ap (λ (counts : List ℕ). slice_index_or counts caller 0) (c.in_ok-vec.ensures.items_if_clones_equal (λ y e. e)) ∙ zeros-get 4096 caller
