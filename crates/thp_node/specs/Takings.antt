-- The progress of a take. No public clause cites this module.
use Rattle.std.specs.Prelude.{◌≡◌, ℕ, true, ◌||◌, drop}
use Rattle.thp_history.specs.Prelude.{queue, flight, no_pages, is_taking, take_events}
use Rattle.thp_node.specs.Calls.{Did}
use Rattle.thp_node.specs.NodeState.{NodeState}

-- the i oldest pages were taken by caller c, who may continue
pub record Took (old now : NodeState) (c i : ℕ) : Type 0 where
  pub did : Did old now c (take_events old.shape old.journal c i)
  pub left : queue old.shape now.journal ≡ drop i (queue old.shape old.journal)
  pub may : (no_pages (flight now.journal c) || is_taking now.journal c) ≡ true
