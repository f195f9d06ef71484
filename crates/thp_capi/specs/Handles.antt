-- What a handle owns: a value in memory of its own, or nothing.
use Rattle.std.specs.Prelude.{ℕ, Option, Some, None}
use base.Fml.{Fml, fsep, ftrue, feq}
use denote.RattleType.{RattleType}
use denote.RawPtr.{Ptr}
use mir.Syntax.{Ty}
use Rattle.std.specs.declared.alloc.Global.{Global}
use Rattle.std.specs.contracts.impls.GlobalAllocator.TheImpl.{ghosts}
use Rattle.std_alloc.specs.Box.Ownership.{box_owns}

-- the program's heap, a handle to which has no bytes
abbrev pub heap : Global
heap = record { memory = record { seal = tt } }

-- the right to free memory there
abbrev pub token : Ty → Ptr → Fml
token = ghosts.dealloc_token heap

abbrev pub flag : {X : Type 0} → Option X → ℕ
flag None = 0
flag (Some x) = 1

abbrev pub boxed_at : (R : RattleType) → Ptr → Option R.Denot → Fml
boxed_at R at None = ftrue
boxed_at R at (Some x) = box_owns token R at x

abbrev pub handle_owns : (R : RattleType) → Ptr → ℕ → Option R.Denot → Fml
handle_owns R at live v = fsep (feq ℕ live (flag v)) (boxed_at R at v)
