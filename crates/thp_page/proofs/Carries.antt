-- What planes count: one of them turned, one more of them, and how large a count they can keep.
use Rattle.std.proofs.Common.{◌≡◌, ◌≢◌, ℕ, suc, zero, ◌+◌, ◌^◌, ◌<◌, ◌≤◌, Bool, true, false, ◌&&◌, cond, List, [], length, set, get_or, refl, ap, sym, ◌∙◌, subst, arith, inl, inr}
use Rattle.std.proofs.lemmas.Bool.Decides.{eqb_tells}
use Rattle.std.proofs.lemmas.List.{get_or-set_same, get_or-set_other, get_or_default}
use Rattle.std.proofs.lemmas.Bool.{cases_lt}
use Rattle.std.proofs.Math.ListN.{get_or-eq_default}
use Rattle.thp_history.specs.Prelude.{get_or-set_of, length-set_of, has, one_alone, set_of, sum_below}
use Rattle.std.proofs.lemmas.Grind.{pow_more}
use Rattle.thp_history.proofs.SumsBelow.{sum_below-ext, sum_below_suc}
use Rattle.thp_page.specs.Prelude.{plane, count_in}

-- what plane k adds to the count of a subpage
abbrev pub worth : List (List Bool) → ℕ → ℕ → ℕ
worth planes i k = cond (has (plane planes k) i) (2 ^ k) 0

-- a plane that is there, read at its place
pub at_plane : (planes : List (List Bool)) (k : ℕ) (s : List Bool) → k < length planes → get_or planes k s ≡ plane planes k
at_plane planes k s inside = get_or_default planes k s [] inside

-- a subpage of a plane that was turned
pub turned_at : (planes : List (List Bool)) (k i : ℕ) (s t : List Bool) (chosen : ℕ → Bool) → k < length planes → i < 512 → t ≡ set_of (λ j. one_alone (has (get_or planes k s) j) (chosen j)) →
    has t i ≡ one_alone (has (plane planes k) i) (chosen i)
turned_at planes k i s t chosen inside below e =
    ap (λ u. has u i) e ∙ get_or-set_of (λ j. one_alone (has (get_or planes k s) j) (chosen j)) i below
    ∙ ap (λ u. one_alone (has u i) (chosen i)) (at_plane planes k s inside)

-- no plane counts nothing
pub no_planes : (planes : List (List Bool)) (i : ℕ) → count_in planes 0 i ≡ 0
unfolding count_in sum_below
no_planes planes i = refl

-- one plane more
pub one_more : (planes : List (List Bool)) (n i : ℕ) → count_in planes (n + 1) i ≡ count_in planes n i + worth planes i n
unfolding count_in
one_more planes n i = ap (λ m. sum_below m (worth planes i)) (sym (next n)) ∙ sum_below_suc n (worth planes i) where
  next : (n : ℕ) → suc n ≡ n + 1
  next n = omega arith

-- n planes count below 2 ^ n
pub counts_below : (planes : List (List Bool)) (n i : ℕ) → count_in planes n i < 2 ^ n
counts_below planes zero i = omega (arith, no_planes planes i)
counts_below planes (suc n) i = ends n (counts_below planes n i) where
  digit : (b : Bool) (p : ℕ) → cond b p 0 ≤ p
  digit true p = omega arith
  digit false p = omega arith

  ends : (n : ℕ) → count_in planes n i < 2 ^ n → count_in planes (suc n) i < 2 ^ suc n
  ends n below =
      let P : ℕ → Type 0 = λ m. count_in planes m i < 2 ^ m in
      let next : n + 1 ≡ suc n = omega arith in
      subst P next (omega (arith, one_more planes n i, digit (has (plane planes n) i) (2 ^ n), pow_more 2 n, below))

-- two sums whose parts differ at p alone
apart_at : (m : ℕ) (f g : ℕ → ℕ) (p : ℕ) → p < m → ((k : ℕ) → k < m → (k ≢ p) → f k ≡ g k) → sum_below m f + g p ≡ sum_below m g + f p
unfolding sum_below
apart_at zero f g p h same = absurd (omega arith)
apart_at (suc m) f g p h same =
    elim (eqb_tells m p) [
      | inl y ↦
          let e : m ≡ p = y.1 in
          omega (arith, ap f e, ap g e, sum_below-ext m f g (λ k below. same k (omega arith) (λ z. let w : m ≡ p = y.1 in omega arith)))
      | inr y ↦
          let lower : p < m = less m p h y.1 in
          omega (arith, same m (omega arith) y.1, apart_at m f g p lower (λ k below. same k (omega arith)))
    ] where
      less : (m p : ℕ) → p < suc m → (m ≢ p) → p < m
      less m p h f = omega arith

-- a plane replaced
pub replaced : (planes : List (List Bool)) (n k i : ℕ) (t : List Bool) → k < n → k < length planes →
    count_in (set planes k t) n i + worth planes i k ≡ count_in planes n i + cond (has t i) (2 ^ k) 0
unfolding count_in
replaced planes n k i t h inside =
    apart_at n (worth (set planes k t) i) (worth planes i) k h (λ j below other. ap (λ s. cond (has s i) (2 ^ j) 0) (get_or-set_other planes k j t [] other))
    ∙ ap (λ s. sum_below n (worth planes i) + cond (has s i) (2 ^ k) 0) (get_or-set_same planes k t [] inside)

-- a plane behind those that count isn't seen
pub behind : (planes : List (List Bool)) (n i : ℕ) (t : List Bool) → count_in (set planes n t) n i ≡ count_in planes n i
unfolding count_in
behind planes n i t = grind (arith, sum_below-ext, get_or-set_other)

-- the next plane written, and counted
pub opened : (planes : List (List Bool)) (n i : ℕ) (t : List Bool) → n < length planes → count_in (set planes n t) (n + 1) i ≡ count_in planes n i + cond (has t i) (2 ^ n) 0
opened planes n i t inside = grind (arith, one_more, behind, get_or-set_same)

-- a carry into plane k leaves one into the next where the plane had the subpage: together they count the same
pub carried : (planes : List (List Bool)) (n k i : ℕ) (t : List Bool) (carry next : Bool) (total : ℕ) → k < n → k < length planes →
    has t i ≡ one_alone (has (plane planes k) i) carry → next ≡ (carry && has (plane planes k) i) →
    count_in planes n i + cond carry (2 ^ k) 0 ≡ total → count_in (set planes k t) n i + cond next (2 ^ (k + 1)) 0 ≡ total
carried planes n k i t carry next total h inside turned left kept = grind (arith, replaced, pow_more)

-- a borrow from plane k becomes one from the next where the plane didn't have the subpage
pub borrowed : (planes : List (List Bool)) (n k i : ℕ) (t : List Bool) (borrow next : Bool) (old less : ℕ) → k < n → k < length planes →
    has t i ≡ one_alone (has (plane planes k) i) borrow → next ≡ (borrow && has t i) →
    count_in planes n i + less ≡ old + cond borrow (2 ^ k) 0 → count_in (set planes k t) n i + less ≡ old + cond next (2 ^ (k + 1)) 0
borrowed planes n k i t borrow next old less h inside turned left kept = grind (arith, replaced, pow_more)

-- sixteen planes keep a carry out of them nowhere, and none comes where counts fit 16 bits
pub no_carry_out : (new old p : ℕ) (chosen carry : Bool) → new + cond carry (2 ^ 16) 0 ≡ old + cond chosen p 0 → old < 2 ^ 16 → (chosen ≡ true → old + p ≤ 65535) → new ≡ old + cond chosen p 0
no_carry_out new old p chosen x e h small = grind arith

-- a borrow from behind the planes comes only where a count was 0
pub no_borrow_out : (new old most : ℕ) (chosen borrow : Bool) → new + cond chosen 1 0 ≡ old + cond borrow most 0 → new < most → (chosen ≡ true → 1 ≤ old) → new + cond chosen 1 0 ≡ old
no_borrow_out new old most chosen x e h positive = grind arith

-- without a carry the planes count all
pub ends_without : (count total p : ℕ) (carry : Bool) → carry ≡ false → count + cond carry p 0 ≡ total → count ≡ total
ends_without count total p x e h = grind arith

-- without a borrow as many are taken as were to be
pub ends_even : (count less old p : ℕ) (borrow : Bool) → borrow ≡ false → count + less ≡ old + cond borrow p 0 → count + less ≡ old
ends_even count less old p x e h = grind arith

-- no set of 512 truths has a number behind them
has_after : (test : ℕ → Bool) (i : ℕ) → 512 ≤ i → has (set_of test) i ≡ false
has_after test i h = get_or-eq_default (set_of test) false {n = i} (omega (arith, length-set_of test))

-- an empty plane adds nothing
pub adds_nothing : (new old : ℕ) (empty : List Bool) (i p : ℕ) → empty ≡ set_of (λ j. false) → new ≡ old + cond (has empty i) p 0 → new ≡ old
adds_nothing new old empty i p e h = h ∙ ap (λ b. old + cond b p 0) (ap (λ s. has s i) e ∙ none i) ∙ zero_more old where
  none : (i : ℕ) → has (set_of (λ j. false)) i ≡ false
  none i =
      elim (cases_lt i 512) [
        | inl y ↦ get_or-set_of (λ j. false) i y
        | inr y ↦ has_after (λ j. false) i y
      ]

  zero_more : (m : ℕ) → m + 0 ≡ m
  zero_more m = omega arith
