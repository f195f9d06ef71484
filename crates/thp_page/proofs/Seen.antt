-- The counts that the fields stand for, and the set of the mapped subpages beside them.
use Rattle.std.proofs.Common.{◌≡◌, ne_eqb, ℕ, ◌+◌, ◌<◌, Bool, true, false, not, ◌&&◌, ◌||◌, cond, List, get_or, nat_eq, nat_lt, ap, sym, ◌∙◌, arith, replicate}
use Rattle.std.proofs.lemmas.Bool.Decides.{nat_tests}
use Rattle.std.proofs.lemmas.List.{get_or-replicate}
use Rattle.std.proofs.lemmas.Grind.{same_number_lists}
use Rattle.std.proofs.lemmas.List.FromFn.{get_or-map-range_with_len, length-map-range_with_len}
use Rattle.thp_history.specs.Prelude.{set_of, has, one_alone, some_below, get_or-set_of}
use Rattle.thp_history.proofs.Below.{some_below-ext}
use Rattle.thp_history.proofs.WordLemmas.{set_of-ext}
use Rattle.thp_page.specs.Prelude.{count_in, counts_in}
use Rattle.thp_page.proofs.Carries.{no_planes}

-- a count by its place
pub count_at : (planes : List (List Bool)) (n i : ℕ) → i < 512 → get_or (counts_in planes n) i 0 ≡ count_in planes n i
unfolding counts_in
count_at planes n i below = get_or-map-range_with_len (count_in planes n) 0 512 i i 0 below (omega arith)

-- the same of what contracts see
pub seen_at : (planes : List (List Bool)) (n i : ℕ) (now : List ℕ) → counts_in planes n ≡ now → i < 512 → get_or now i 0 ≡ count_in planes n i
seen_at planes n i now e below = ap (λ xs. get_or xs i 0) (sym e) ∙ count_at planes n i below

-- no plane stands for counts of 0
pub none_counted : (planes : List (List Bool)) → counts_in planes 0 ≡ replicate 512 0
unfolding counts_in
none_counted planes =
    same_number_lists (counts_in planes 0) (replicate 512 0) (length-map-range_with_len (count_in planes 0) 0 512)
    (λ i below. count_at planes 0 i (omega (arith, length-map-range_with_len (count_in planes 0) 0 512)) ∙ no_planes planes i ∙ sym (get_or-replicate 512 i 0 0 (omega (arith, length-map-range_with_len (count_in planes 0) 0 512))))

-- and no subpage is mapped
pub none_mapped : (planes : List (List Bool)) → set_of (λ i. false) ≡ set_of (λ i. nat_lt 0 (count_in planes 0 i))
none_mapped planes = set_of-ext _ _ (λ i below. sym (ap (λ m. nat_lt 0 m) (no_planes planes i)))

-- whether a subpage is in the set beside the planes
pub mapped_at : (planes : List (List Bool)) (n i : ℕ) (mapped : List Bool) → mapped ≡ set_of (λ j. nat_lt 0 (count_in planes n j)) → i < 512 → has mapped i ≡ nat_lt 0 (count_in planes n i)
mapped_at planes n i mapped e below = ap (λ s. has s i) e ∙ get_or-set_of (λ j. nat_lt 0 (count_in planes n j)) i below

-- a set is empty where a test that agrees with it finds none
pub some_found : (r : Bool) (chosen test : ℕ → Bool) → r ≡ not (some_below 512 chosen) → ((i : ℕ) → i < 512 → chosen i ≡ test i) → not r ≡ some_below 512 test
some_found r chosen test e same = grind (arith, some_below-ext)

-- a count is 0 where the subpage isn't mapped
pub not_mapped : (n : ℕ) → not (nat_lt 0 n) ≡ nat_eq n 0
not_mapped n = grind (arith, nat_tests)

-- one of two truths, where the other is known
alone_false : (b : Bool) → one_alone b false ≡ b
alone_false x = grind arith

alone_not : (b : Bool) → one_alone b (not b) ≡ true
alone_not x = grind arith

positive : (n : ℕ) → 0 < n → true ≡ nat_lt 0 n
positive n h = grind (arith, nat_tests)

-- the mapped subpages after those chosen were mapped once more
pub mapped_more : (mapped chosen out : Bool) (old new : ℕ) → mapped ≡ nat_lt 0 old → out ≡ (chosen && not mapped) → new ≡ old + cond chosen 1 0 → one_alone mapped out ≡ nat_lt 0 new
mapped_more mapped x out old new e f g = grind (arith, alone_not, positive, alone_false, nat_lt)

-- after those chosen lost a mapping: some of them, whose count is 0, aren't mapped any more
pub mapped_less : (mapped chosen out : Bool) (old new : ℕ) → mapped ≡ nat_lt 0 old → out ≡ (chosen && nat_eq new 0) → new + cond chosen 1 0 ≡ old → one_alone mapped out ≡ nat_lt 0 new
mapped_less mapped x out old new e f g = grind (arith, nat_eq, positive, nat_lt, ne_eqb, alone_false)

-- they were mapped once
pub was_one : (chosen out : Bool) (old new : ℕ) → out ≡ (chosen && nat_eq new 0) → new + cond chosen 1 0 ≡ old → out ≡ (chosen && nat_eq old 1)
was_one x out old new e g = grind (arith, nat_eq, nat_tests)

-- after a number was added to those chosen
pub mapped_any : (mapped chosen : Bool) (n old new : ℕ) → 0 < n → mapped ≡ nat_lt 0 old → new ≡ old + cond chosen n 0 → (mapped || chosen) ≡ nat_lt 0 new
mapped_any x y n old new some e g = grind (arith, positive, nat_lt)
