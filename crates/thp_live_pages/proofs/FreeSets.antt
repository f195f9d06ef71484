-- Sets of a node's free blocks, as blocks are taken and freed.
use Rattle.std.proofs.Common.{◌≡◌, ℕ, ◌+◌, ◌<◌, ◌≤◌, Bool, true, false, cond, not, ◌&&◌, nat_eq, nat_lt, List, refl, ap, sym, ◌∙◌, arith, inl, inr, lt-ltb, le-ltb, eq-eqb, ne_eqb}
use Rattle.std.proofs.lemmas.Bool.{cases_lt}
use Rattle.std.proofs.lemmas.Bool.Decides.{eqb_tells}
use Rattle.thp_history.specs.Prelude.{in_words}
use Rattle.thp_history.proofs.Bools.{by_bool}
use Rattle.thp_live_pages.specs.FreeSets.{FreeSet, IsFreedBelow, has_block}

-- whether a block is in a set, if it was used before, and if not
of_used : (f : FreeSet) (b : ℕ) → b < f.used → has_block f b ≡ in_words f.freed b
unfolding has_block
of_used f b below = ap (λ d. cond d (in_words f.freed b) (nat_lt b f.blocks)) (lt-ltb b f.used below)

of_unused : (f : FreeSet) (b : ℕ) → f.used ≤ b → has_block f b ≡ nat_lt b f.blocks
unfolding has_block
of_unused f b past = ap (λ d. cond d (in_words f.freed b) (nat_lt b f.blocks)) (le-ltb b f.used past)

-- a new set has all blocks
pub all_unused : (f : FreeSet) (b : ℕ) → f.used ≡ 0 → has_block f b ≡ nat_lt b f.blocks
all_unused f b none = of_unused f b (omega (arith, none))

-- a word set where one number was inserted or removed
changed_same : (b : ℕ) (c was : Bool) → cond (nat_eq b b) c was ≡ c
changed_same b c was = ap (λ d. cond d c was) (eq-eqb b b refl)

changed_other : (b i : ℕ) (c was : Bool) → (b ≡ i → ⊥) → cond (nat_eq b i) c was ≡ was
changed_other b i c was apart = ap (λ d. cond d c was) (ne_eqb b i apart)

-- a block that was used before is inserted, or removed
pub changed_used : (old new : FreeSet) (block b : ℕ) (c : Bool) → new.used ≡ old.used → new.blocks ≡ old.blocks → block < old.used → ((k : ℕ) → in_words new.freed k ≡ cond (nat_eq k block) c (in_words old.freed k)) →
    has_block new b ≡ cond (nat_eq b block) c (has_block old b)
changed_used old new block b c used blocks below is = elim (cases_lt b old.used) [
  | inl early ↦ of_used new b (omega (arith, early, used)) ∙ is b ∙ ap (λ w. cond (nat_eq b block) c w) (sym (of_used old b early))
  | inr late ↦
      of_unused new b (omega (arith, late, used)) ∙ ap (nat_lt b) blocks ∙ sym (of_unused old b late) ∙ sym (changed_other b block c (has_block old b) (λ same. omega (arith, same)))
]

-- a block that was not used before is in the set already
pub inserted_unused : (f : FreeSet) (block b : ℕ) → f.used ≤ block → block < f.blocks → has_block f b ≡ cond (nat_eq b block) true (has_block f b)
inserted_unused f block b past inside = elim (eqb_tells b block) [
  | inl y ↦ ap (has_block f) y.1 ∙ of_unused f block past ∙ lt-ltb block f.blocks inside ∙ sym (ap (λ d. cond d true (has_block f b)) y.0)
  | inr y ↦ sym (ap (λ d. cond d true (has_block f b)) y.0)
]

-- it is removed: those before it that were not used either are inserted as used
pub removed_unused : (old new : FreeSet) (block b : ℕ) → IsFreedBelow old → new.used ≡ block + 1 → new.blocks ≡ old.blocks → old.used ≤ block → block < old.blocks →
    ((k : ℕ) → in_words new.freed k ≡ cond (not (nat_lt k old.used) && nat_lt k block) true (in_words old.freed k)) → has_block new b ≡ cond (nat_eq b block) false (has_block old b)
removed_unused old new block b is used blocks past inside words = elim (eqb_tells b block) [
  | inl y ↦
      of_used new b (omega (arith, y.1, used)) ∙ words b ∙ ap (λ d. cond (not (nat_lt b old.used) && d) true (in_words old.freed b)) (le-ltb b block (omega (arith, y.1)))
      ∙ ap (λ d. cond d true (in_words old.freed b)) (and_false (not (nat_lt b old.used)))
      ∙ by_bool (in_words old.freed b) _ (λ there. absurd (let below : b < old.used = is.below b there in omega (arith, y.1, below))) (λ gone. gone)
      ∙ sym (ap (λ d. cond d false (has_block old b)) y.0)
  | inr y ↦ other y.1 ∙ sym (ap (λ d. cond d false (has_block old b)) y.0)
] where
  and_false : (d : Bool) → (d && false) ≡ false
  and_false true = refl
  and_false false = refl

  other : (b ≡ block → ⊥) → has_block new b ≡ has_block old b
  other apart = elim (cases_lt b old.used) [
    | inl early ↦
        of_used new b (omega (arith, early, past, used)) ∙ words b ∙ ap (λ d. cond (not d && nat_lt b block) true (in_words old.freed b)) (lt-ltb b old.used early) ∙ sym (of_used old b early)
    | inr late ↦ elim (cases_lt b block) [
      | inl between ↦
          of_used new b (omega (arith, between, used)) ∙ words b
          ∙ ap (λ d. cond (not d && nat_lt b block) true (in_words old.freed b)) (le-ltb b old.used late)
          ∙ ap (λ d. cond d true (in_words old.freed b)) (lt-ltb b block between)
          ∙ sym (of_unused old b late ∙ lt-ltb b old.blocks (omega (arith, between, inside)))
      | inr after ↦ of_unused new b (omega (arith, after, apart, used)) ∙ ap (nat_lt b) blocks ∙ sym (of_unused old b late)
    ]
  ]

-- the least block is one used before, if there is one
pub least_used : (f : FreeSet) (b : ℕ) → IsFreedBelow f → in_words f.freed b ≡ true → ((k : ℕ) → k < b → in_words f.freed k ≡ false) → (has_block f b ≡ true) × ((k : ℕ) → k < b → has_block f k ≡ false)
least_used f b is there least = (of_used f b (is.below b there) ∙ there, λ k before. of_used f k (omega (arith, before, is.below b there)) ∙ least k before)

-- else the first that was not used
pub least_unused : (f : FreeSet) → f.used < f.blocks → ((k : ℕ) → in_words f.freed k ≡ false) → (has_block f f.used ≡ true) × ((k : ℕ) → k < f.used → has_block f k ≡ false)
least_unused f some none = (of_unused f f.used (omega arith) ∙ lt-ltb f.used f.blocks some, λ k before. of_used f k before ∙ none k)

-- or none
pub least_missing : (f : FreeSet) (k : ℕ) → f.used ≡ f.blocks → ((k : ℕ) → in_words f.freed k ≡ false) → has_block f k ≡ false
least_missing f k all none = elim (cases_lt k f.used) [
  | inl early ↦ of_used f k early ∙ none k
  | inr late ↦ of_unused f k late ∙ le-ltb k f.blocks (omega (arith, late, all))
]
