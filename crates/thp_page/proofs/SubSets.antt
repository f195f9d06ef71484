-- Sets of subpages that are given by a test.
use Rattle.std.proofs.Common.{◌≡◌, ℕ, ◌<◌, Bool, false, List, length, get_or, ◌∙◌}
use Rattle.std.proofs.lemmas.List.FromFn.{fill_by_all}
use Rattle.thp_history.specs.Prelude.{set_of, length-set_of, get_or-set_of}

-- a list is the set of a test where it has the test's answers
pub is_set_of : (xs : List Bool) (test : ℕ → Bool) → length xs ≡ 512 → ((i : ℕ) → i < 512 → get_or xs i false ≡ test i) → xs ≡ set_of test
unfolding set_of
is_set_of xs test size same = fill_by_all test xs 512 false size same

-- the sets of two tests with the same answers
pub set_of-ext : (f g : ℕ → Bool) → ((i : ℕ) → i < 512 → f i ≡ g i) → set_of f ≡ set_of g
set_of-ext f g same = is_set_of (set_of f) g (length-set_of f) (λ i below. get_or-set_of f i below ∙ same i below)
