-- The limits of the runner (this project's profile); each is defined here only.
use Rattle.std.specs.Prelude.{ℕ}

-- the greatest number of tries of a step whose node is busy
abbrev pub max_tries : ℕ
max_tries = 64
