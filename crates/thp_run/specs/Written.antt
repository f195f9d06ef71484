-- The result of writing a text.
use Rattle.std.specs.Prelude.{◌≡◌, ℕ, Bool, true, false, List, Option, Result, Ok, Err}
use Rattle.std.specs.Io.KnownBytes.{Appends, Keeps}
use Rattle.thp_cli.specs.Prelude.{WritesFront}
use Rattle.thp_cli.specs.declared.fault.RunFault.{RunFault}
use Rattle.thp_cli.specs.declared.fault.RunFault.TheVariants.{Text, OutOfMemory, Read, Write}

-- All of it was written; or the writer failed, after a prefix of it; or nothing was written, since memory could not be allocated.
abbrev pub Wrote : List ℕ → Option (List ℕ) → Option (List ℕ) → Bool → Result (Unit {0}) (RunFault ℕ) → Type 0
Wrote text old new failed (Ok u) = Appends old new text × (failed ≡ false)
Wrote text old new failed (Err Write) = WritesFront old new text × (failed ≡ true)
Wrote text old new failed (Err OutOfMemory) = Keeps old new × (failed ≡ false)
Wrote text old new failed (Err Read) = ⊥
Wrote text old new failed (Err (Text line kind)) = ⊥
