-- What a value that may be there is, where it isn't.
use Rattle.std.proofs.Common.{◌≡◌, refl, Option, Some, None}

-- what isn't there
pub not_there : {A : Type 0} (o : Option A) → ((x : A) → o ≡ Some x → ⊥) → o ≡ None
not_there None none = refl
not_there (Some x) none = absurd (none x refl)
