-- How the program processes its input: it reads all of it, computes the result, and writes that.
use Rattle.std.specs.Prelude.{◌≡◌, ℕ, Bool, true, false, List, Option, Result, Ok, Err, IfSome}
use Rattle.std.specs.Io.KnownBytes.{Keeps, Appends}
use Rattle.thp_script.specs.Prelude.{Fault}
use Rattle.thp_cli.specs.declared.fault.RunFault.{RunFault}
use Rattle.thp_cli.specs.declared.fault.RunFault.TheVariants.{Text, OutOfMemory, Read, Write}
use Rattle.thp_cli.specs.Calls.{WritesOn}
use Rattle.thp_cli.specs.Devices.{WritesFront}
use Rattle.thp_cli.specs.declared.calls.DeviceCall.{DeviceCall}

-- How it ends, given the bytes to read, the content of the writer before and after, and whether the reader and the writer failed.
-- `IsAnswer bytes x text` specifies the text for these bytes and the further result; `HasFault bytes` specifies their first
-- error.
abbrev pub PassageEnds : {A : Type 0} → (List ℕ → A → List ℕ → Type 0) → (List ℕ → Fault → Type 0) → Option (List ℕ) → Option (List ℕ) → Option (List ℕ) → Bool → Bool → Result A (RunFault ℕ) → Type 0
PassageEnds IsAnswer HasFault input old new reader_failed writer_failed (Ok x) =
    IfSome input (λ bytes. (text : List ℕ) × IsAnswer bytes x text × Appends old new text) × (reader_failed ≡ false) × (writer_failed ≡ false)
PassageEnds IsAnswer HasFault input old new reader_failed writer_failed (Err (Text line kind)) =
    IfSome input (λ bytes. HasFault bytes (line, kind)) × Keeps old new × (reader_failed ≡ false) × (writer_failed ≡ false)
PassageEnds IsAnswer HasFault input old new reader_failed writer_failed (Err OutOfMemory) = Keeps old new × (reader_failed ≡ false) × (writer_failed ≡ false)
PassageEnds IsAnswer HasFault input old new reader_failed writer_failed (Err Read) = Keeps old new × (reader_failed ≡ true) × (writer_failed ≡ false)
PassageEnds {A} IsAnswer HasFault input old new reader_failed writer_failed (Err Write) =
    IfSome input (λ bytes. (x : A) × (text : List ℕ) × IsAnswer bytes x text × WritesFront old new text) × (reader_failed ≡ false) × (writer_failed ≡ true)

-- The calls of the writer: those of one text if a text was written or the writer failed, otherwise none.
abbrev pub WritesAnswer : {A : Type 0} → Result A (RunFault ℕ) → Bool → List DeviceCall → List DeviceCall → Type 0
WritesAnswer (Ok x) failed old new = WritesOn failed old new
WritesAnswer (Err Write) failed old new = WritesOn failed old new
WritesAnswer (Err (Text line kind)) failed old new = new ≡ old
WritesAnswer (Err OutOfMemory) failed old new = new ≡ old
WritesAnswer (Err Read) failed old new = new ≡ old
