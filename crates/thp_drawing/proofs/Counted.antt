-- What is made of the first callers, up to the last of them.
use Rattle.std.proofs.Common.{◌≡◌, ◌++◌, ◌+◌, ◌-◌, ◌<◌, ℕ, suc, List, ap, arith}
use Rattle.thp_metrics.specs.declared.column.Column.{Column}
use Rattle.thp_metrics.specs.Prelude.{shown_callers}
use Rattle.thp_drawing.specs.Lanes.{all_lanes, lane_count, lanes, lanes_below}
use Rattle.thp_drawing.specs.Scales.{step_among}
use Rattle.thp_drawing.specs.Tables.{caller_items, callers_joined}

pub joined_at : (callers k : ℕ) (t : List ℕ) → k ≡ shown_callers → t ++ caller_items callers k ≡ t ++ callers_joined callers
unfolding callers_joined
joined_at callers k t e = ap (λ (n : ℕ). t ++ caller_items callers n) e

pub lanes_at : (columns : List Column) (k : ℕ) (t : List ℕ) → k ≡ shown_callers → t ++ lanes columns k ≡ t ++ all_lanes columns
unfolding all_lanes
lanes_at columns k t e = ap (λ (n : ℕ). t ++ lanes columns n) e

pub count_at : (columns : List Column) (k : ℕ) → k ≡ shown_callers → lanes_below columns k ≡ lane_count columns
unfolding lane_count
count_at columns k e = ap (λ (n : ℕ). lanes_below columns n) e

pub one_unit : (more k i unit n : ℕ) → i < k → step_among more (k - i) unit n ≡ step_among more (suc (k - (i + 1))) unit n
one_unit more k i unit n l =
    let left : k - i ≡ suc (k - (i + 1)) = omega (arith, l) in
    ap (λ (m : ℕ). step_among more m unit n) left
