-- The calls of a device, in order.
use Rattle.std.specs.Prelude.{◌≡◌, ◌⊎◌, ◌++◌, ◌+◌, ◌-◌, ◌≤◌, ◌<◌, ℕ, Bool, true, false, List, [], ◌∷◌, All, Some, None, ⊤, is_some, length, map, sum}
use Rattle.thp_cli.specs.declared.calls.DeviceCall.{DeviceCall}
use Rattle.thp_cli.specs.declared.calls.DeviceCall.TheVariants as call

-- the call succeeded
abbrev pub is_answered : DeviceCall → Bool
is_answered (call.Read room given) = is_some given
is_answered (call.Write offered taken) = is_some taken
is_answered (call.Flush done) = done

-- ---- reads

-- how many bytes each read has room for
abbrev pub read_room : ℕ
read_room = 65536

-- a read that gave so many bytes
abbrev pub read_giving : ℕ → DeviceCall
read_giving n = call.Read read_room (Some n)

-- the call that ends reading: the failed read, if the reader failed; otherwise a last read, or none
abbrev pub EndsReading : Bool → List DeviceCall → Type 0
EndsReading true last = last ≡ call.Read read_room None ∷ []
EndsReading false last = (last ≡ []) ⊎ ((n : ℕ) × (last ≡ read_giving n ∷ []))

-- An input was read up to `most` bytes and one read more. Each read except the last gives at least one byte, and together these give
-- at most `most`: no read follows the end of the input, the limit, or a failure.
pub record ReadsOn (most : ℕ) (failed : Bool) (old new : List DeviceCall) : Type 0 where
  pub gave : List ℕ
  pub last : List DeviceCall
  pub some : All (λ n. 0 < n) gave
  pub within : sum gave ≤ most
  pub ends : EndsReading failed last
  pub grown : new ≡ old ++ (map read_giving gave ++ last)
  pub few : length new ≤ length old + most + 1

-- ---- writes

-- the writes of n bytes, by how many each took: each offers all that is left
abbrev pub writes_of : ℕ → List ℕ → List DeviceCall
writes_of n [] = []
writes_of n (k ∷ taken) = call.Write n (Some k) ∷ writes_of (n - k) taken

-- the call that ends writing: the failed write, which offers what is left, if the writer failed; otherwise none, and nothing is left
abbrev pub EndsWriting : ℕ → Bool → List DeviceCall → Type 0
EndsWriting left true last = last ≡ call.Write left None ∷ []
EndsWriting left false last = (last ≡ []) × (left ≡ 0)

-- n bytes were written
pub record WritesAll (n : ℕ) (failed : Bool) (old new : List DeviceCall) : Type 0 where
  pub taken : List ℕ
  pub last : List DeviceCall
  pub ends : EndsWriting (n - sum taken) failed last
  pub grown : new ≡ old ++ (writes_of n taken ++ last)

-- a write that the device took
abbrev pub IsTaken : DeviceCall → Type 0
IsTaken (call.Write offered (Some n)) = ⊤
IsTaken c = ⊥

-- the calls grew by writes that the device took, and then by the last ones
pub record Follow (last old new : List DeviceCall) : Type 0 where
  pub writes : List DeviceCall
  pub taken : All IsTaken writes
  pub grown : new ≡ old ++ (writes ++ last)

-- A text was written and then flushed once; if the writer failed, the failed call is the last, and the only failed one.
abbrev pub WritesOn : Bool → List DeviceCall → List DeviceCall → Type 0
WritesOn false = Follow (call.Flush true ∷ [])
WritesOn true = λ old new. ((offered : ℕ) × Follow (call.Write offered None ∷ []) old new) ⊎ Follow (call.Flush false ∷ []) old new
