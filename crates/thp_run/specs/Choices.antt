-- The settings that a command line selects.
use Rattle.std.specs.Prelude.{◌≡◌, ◌++◌, ℕ, List, drop, replicate, Option, Some, None, Result, Ok, Err}
use Rattle.std.specs.Borrow.{Bor}
use Rattle.thp_history.specs.Prelude.{max_order}
use Rattle.thp_cli.specs.declared.line.Line.{Line}
use Rattle.thp_script.specs.declared.settings.Settings.{Settings}
use Rattle.thp_script.specs.Prelude.{max_nodes, orders_in, thresholds_in, AreOrdersFor, AreThresholdsFor}
use Rattle.thp_cli.specs.declared.ending.ProgramFault.{ProgramFault}
use Rattle.thp_cli.specs.declared.ending.ProgramFault.TheVariants.{Orders, Underused}

-- the orders of all nodes by the option `--orders`: those that its text lists for the nodes, and the greatest if it is not given
abbrev pub HasOrders : Option (Bor (List ℕ)) → ℕ → List ℕ → Type 0
HasOrders None nodes all = all ≡ replicate max_nodes max_order
HasOrders (Some text) nodes all =
    (orders : List ℕ) × (orders_in text.now ≡ Some orders) × AreOrdersFor nodes (replicate max_nodes None) orders × (all ≡ orders ++ drop nodes (replicate max_nodes max_order))

-- the option's text is not a list of orders for the nodes
abbrev pub HasBadOrders : Option (Bor (List ℕ)) → ℕ → Type 0
HasBadOrders None nodes = ⊥
HasBadOrders (Some text) nodes = (orders : List ℕ) → orders_in text.now ≡ Some orders → ¬ AreOrdersFor nodes (replicate max_nodes None) orders

-- the thresholds of all nodes by the option `--underused`: those that its text lists for the nodes, and none if it is not given
abbrev pub HasThresholds : Option (Bor (List ℕ)) → ℕ → List ℕ → List (Option ℕ) → Type 0
HasThresholds None nodes orders all = all ≡ replicate max_nodes None
HasThresholds (Some text) nodes orders all =
    (thresholds : List (Option ℕ)) × (thresholds_in text.now ≡ Some thresholds) × AreThresholdsFor nodes orders thresholds × (all ≡ thresholds ++ drop nodes (replicate max_nodes None))

-- the option's text is not a list of thresholds for the nodes
abbrev pub HasBadThresholds : Option (Bor (List ℕ)) → ℕ → List ℕ → Type 0
HasBadThresholds None nodes orders = ⊥
HasBadThresholds (Some text) nodes orders = (thresholds : List (Option ℕ)) → thresholds_in text.now ≡ Some thresholds → ¬ AreThresholdsFor nodes orders thresholds

-- the settings are those that the line selects
pub record IsSettingsOf (line : Line) (s : Settings) : Type 0 where
  pub nodes : s.nodes ≡ line.nodes
  pub blocks : s.blocks ≡ line.blocks
  pub workers : s.workers ≡ line.workers
  pub report : s.report ≡ line.report
  pub orders : HasOrders line.orders line.nodes s.orders
  pub underused : HasThresholds line.underused line.nodes s.orders s.underused

-- the line's orders are valid, and its thresholds are not
pub record HasOnlyBadThresholds (line : Line) : Type 0 where
  pub orders : List ℕ
  pub right : HasOrders line.orders line.nodes orders
  pub bad : HasBadThresholds line.underused line.nodes orders

-- the settings that a line selects, or what is wrong with it; orders are checked first
abbrev pub Chooses : Line → Result Settings ProgramFault → Type 0
Chooses line (Ok s) = IsSettingsOf line s
Chooses line (Err Orders) = HasBadOrders line.orders line.nodes
Chooses line (Err Underused) = HasOnlyBadThresholds line
Chooses line (Err _) = ⊥
