-- What the holder of passes of all nodes knows.
use Rattle.std.specs.Prelude.{◌≡◌, ℕ, ◌<◌, ◌^◌, ⊤, List, [], ◌∷◌, Option, Some, None, length, slice_get, map}
use Rattle.atomic_table.specs.Seated.{TableId}
use Rattle.thp_history.specs.declared.shape.Shape.{Shape}
use Rattle.thp_history.specs.Prelude.{History, IsLegal}
use Rattle.thp_cell.specs.Prelude.{IsJoined, PartsStay, HasAll}
use Rattle.thp_worker.specs.Does.{Open}
use Rattle.thp_worker.specs.Fronts.{Fronts}
use Rattle.thp_worker.specs.Holdings.{Held, batch_of, lower_part, upper_part, OpenStay}

-- the passes of all nodes: the number of callers, those of the passes, and each node's
pub record Passes : Type 0 where
  pub callers : ℕ
  pub first : ℕ
  pub end : ℕ
  pub held : List Held

abbrev pub shape_in : Option Held → Shape
shape_in (Some h) = h.pass.shape
shape_in None = record { blocks = 0; order = 0; underused = None }

abbrev pub front_in : Option Held → History
front_in (Some h) = h.pass.front
front_in None = []

abbrev pub batch_in : ℕ → Option Held → Option Open
batch_in c (Some h) = batch_of h c
batch_in c None = None

abbrev pub cell_in : Held → TableId
cell_in h = h.pass.cell

-- one pass for each node, each of the same callers
abbrev pub fronts_of : ℕ → ℕ → ℕ → List Held → Fronts
fronts_of callers first end held = record {
  cells = map cell_in held;
  nodes = length held;
  shape = λ n. shape_in (slice_get held n);
  front = λ n. front_in (slice_get held n);
  callers = callers;
  first = first;
  end = end;
  batches = λ c n. batch_in c (slice_get held n);
}

-- the pass has these callers
pub record IsOf (callers first end : ℕ) (h : Held) : Type 0 where
  pub callers_are : h.pass.callers ≡ callers
  pub first_is : h.pass.first ≡ first
  pub end_is : h.pass.end ≡ end

pub record Agree (callers first end : ℕ) (held : List Held) : Type 0 where
  pub few : length held < 2 ^ 32
  pub each : (n : ℕ) (h : Held) → slice_get held n ≡ Some h → IsOf callers first end h

abbrev pub fronts_in : Passes → Fronts
fronts_in p = fronts_of p.callers p.first p.end p.held

-- the callers from `at` on are some of the pass's and not all
pub record IsCut (at : ℕ) (h : Held) : Type 0 where
  pub after : h.pass.first < at
  pub before : at < h.pass.end

-- the callers below `at`, and those from `at` on
abbrev pub low_part : ℕ → Held → Held
low_part at h = lower_part h at

abbrev pub high_part : ℕ → Held → Held
high_part at h = upper_part h at

-- the pass has all callers
abbrev pub IsOfAll : Held → Type 0
IsOfAll h = HasAll h.pass

-- two passes of one cell whose callers are adjacent
pub record Adjoins (l r : Held) : Type 0 where
  pub cell : r.pass.cell ≡ l.pass.cell
  pub adjacent : l.pass.end ≡ r.pass.first

-- a pass of the callers of both, each with its part and its open batch
pub record IsJoint (l r h : Held) : Type 0 where
  pub passes : IsJoined l.pass r.pass h.pass
  pub legal : IsLegal h.pass.shape h.pass.front
  pub left_parts : PartsStay l.pass h.pass
  pub right_parts : PartsStay r.pass h.pass
  pub left_batches : OpenStay l h
  pub right_batches : OpenStay r h

unfoldable pub EachAdjoins : List Held → List Held → Type 0
EachAdjoins [] [] = ⊤
EachAdjoins [] (r ∷ rs) = ⊥
EachAdjoins (l ∷ ls) [] = ⊥
EachAdjoins (l ∷ ls) (r ∷ rs) = Adjoins l r × EachAdjoins ls rs

unfoldable pub EachJoint : List Held → List Held → List Held → Type 0
EachJoint [] [] [] = ⊤
EachJoint (l ∷ ls) (r ∷ rs) (h ∷ hs) = IsJoint l r h × EachJoint ls rs hs
EachJoint _ _ _ = ⊥
