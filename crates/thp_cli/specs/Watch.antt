-- A device with a flag.
use Rattle.std.specs.Prelude.{Bool, List}
use Rattle.thp_cli.specs.declared.calls.DeviceCall.{DeviceCall}

-- a device, whether a call of it has failed, and its calls so far, in order
pub record Watch (D : Type 0) : Type 0 where
  pub device : D
  pub failed : Bool
  pub calls : List DeviceCall
