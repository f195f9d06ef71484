-- The value in the room of a handle.
use Rattle.std.specs.Prelude.{Option, Some, None}
use Rattle.thp_capi.specs.declared.room.Room.{Room}

-- the value of a handle, if it has one
abbrev pub value_of : {X : Type 0} → Option (Room X) → Option X
value_of None = None
value_of (Some room) = room.value
