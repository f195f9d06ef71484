-- Low bits of numbers, and the buckets that they choose.
use Rattle.std.proofs.Common.{bit_and, ◌≡◌, ◌≢◌, ◌∙◌, ◌<◌, ◌≤◌, ◌+◌, ◌-◌, ◌*◌, ◌/◌, ◌%◌, ◌^◌, ℕ, zero, suc, ap, sym, refl, arith, inl, inr, subst, ◌⊎◌}
use Rattle.std.proofs.Math.Nat.{pow-suc}
use Rattle.std.proofs.lemmas.Nat.{mod-pow-add, mod_low, mod_below, field_of, and_mask, pow_pos}
use Rattle.std.proofs.lemmas.Bool.{cases_lt}
use Rattle.thp_page.specs.Prelude.{bucket_in, depth_in}

-- fewer low bits
pub fewer_bits : (n k d : ℕ) → n % 2 ^ (k + d) % 2 ^ d ≡ n % 2 ^ d
fewer_bits n k d = ap (λ m. m % 2 ^ d) (mod-pow-add n k d) ∙ mod_low (n / 2 ^ d % 2 ^ k) d (n % 2 ^ d) (mod_below n (2 ^ d) (pow_pos d))

pub low_below : (n m d e : ℕ) → d ≤ e → n % 2 ^ e ≡ m % 2 ^ e → n % 2 ^ d ≡ m % 2 ^ d
low_below n m d e less same =
    let k : ℕ = e - d in
    let is : k + d ≡ e = omega (arith, less) in
    sym (fewer_bits n k d) ∙ ap (λ x. n % 2 ^ x % 2 ^ d) is ∙ ap (λ x. x % 2 ^ d) same ∙ ap (λ x. m % 2 ^ x % 2 ^ d) (sym is) ∙ fewer_bits m k d

-- one bit more
one_first : (d : ℕ) → suc d ≡ 1 + d
one_first d = omega arith

pub one_more : (n d : ℕ) → n % 2 ^ suc d ≡ (n / 2 ^ d % 2) * 2 ^ d + n % 2 ^ d
one_more n d = ap (λ x. n % 2 ^ x) (one_first d) ∙ mod-pow-add n 1 d

pub low_above : (n m d : ℕ) → n % 2 ^ d ≡ m % 2 ^ d → n / 2 ^ d % 2 ≡ m / 2 ^ d % 2 → n % 2 ^ suc d ≡ m % 2 ^ suc d
low_above n m d low bit = one_more n d ∙ ap (λ x. x * 2 ^ d + n % 2 ^ d) bit ∙ ap (λ x. (m / 2 ^ d % 2) * 2 ^ d + x) low ∙ sym (one_more m d)

pub bit_below : (n m d : ℕ) → n % 2 ^ suc d ≡ m % 2 ^ suc d → n / 2 ^ d % 2 ≡ m / 2 ^ d % 2
bit_below n m d same =
    let down : (x : ℕ) → x % 2 ^ suc d / 2 ^ d ≡ x / 2 ^ d % 2 = λ x. ap (λ k. x % 2 ^ k / 2 ^ d) (one_first d) ∙ field_of x 1 d in
    sym (down n) ∙ ap (λ x. x / 2 ^ d) same ∙ down m

-- the number of a split bucket is one of two
pub split_low : (n d : ℕ) → (n % 2 ^ suc d ≡ n % 2 ^ d) ⊎ (n % 2 ^ suc d ≡ n % 2 ^ d + 2 ^ d)
split_low n d = go (n / 2 ^ d % 2) (omega arith) (one_more n d) where
  go : (q : ℕ) → q < 2 → n % 2 ^ suc d ≡ q * 2 ^ d + n % 2 ^ d → (n % 2 ^ suc d ≡ n % 2 ^ d) ⊎ (n % 2 ^ suc d ≡ n % 2 ^ d + 2 ^ d)
  go zero few is = inl (omega (arith, is))
  go (suc zero) few is = inr (omega (arith, is))
  go (suc (suc q)) few is = absurd (omega arith)

pub double : (d : ℕ) → 2 ^ suc d ≡ 2 ^ d + 2 ^ d
double d = omega (arith, pow-suc 2 d)

-- the depth of a bucket
pub depth_split : (bits buckets j : ℕ) → j + 2 ^ bits < buckets → depth_in bits buckets j ≡ suc bits
depth_split bits buckets j less = grind arith

pub depth_high : (bits buckets j : ℕ) → 2 ^ bits ≤ j → depth_in bits buckets j ≡ suc bits
depth_high bits buckets j less = grind arith

pub depth_whole : (bits buckets j : ℕ) → buckets ≤ j + 2 ^ bits → j < 2 ^ bits → depth_in bits buckets j ≡ bits
depth_whole bits buckets j more less = grind arith

-- a number has the low bits of its bucket
pub bucket_low : (bits buckets n : ℕ) → 2 ^ bits ≤ buckets → n % 2 ^ depth_in bits buckets (bucket_in bits buckets n) ≡ bucket_in bits buckets n
bucket_low bits buckets n least = elim (cases_lt (n % 2 ^ suc bits) buckets) [
  | inl less ↦ (
      let is : bucket_in bits buckets n ≡ n % 2 ^ suc bits = grind arith in
      elim (cases_lt (n % 2 ^ suc bits) (2 ^ bits)) [
        | inl low ↦ elim (cases_lt (n % 2 ^ suc bits + 2 ^ bits) buckets) [
          | inl split ↦ ap (λ j. n % 2 ^ depth_in bits buckets j) is ∙ ap (λ d. n % 2 ^ d) (depth_split bits buckets (n % 2 ^ suc bits) split) ∙ sym is
          | inr whole ↦ (
              let same : n % 2 ^ suc bits ≡ n % 2 ^ bits = elim (split_low n bits) [
                | inl e ↦ e
                | inr e ↦ absurd (omega (arith, e, low))
              ] in
              ap (λ j. n % 2 ^ depth_in bits buckets j) is ∙ ap (λ d. n % 2 ^ d) (depth_whole bits buckets (n % 2 ^ suc bits) whole low) ∙ sym same ∙ sym is)
        ]
        | inr high ↦ ap (λ j. n % 2 ^ depth_in bits buckets j) is ∙ ap (λ d. n % 2 ^ d) (depth_high bits buckets (n % 2 ^ suc bits) high) ∙ sym is
      ])
  | inr more ↦ (
      let is : bucket_in bits buckets n ≡ n % 2 ^ bits = grind arith in
      let below : n % 2 ^ bits < 2 ^ bits = mod_below n (2 ^ bits) (pow_pos bits) in
      let whole : buckets ≤ n % 2 ^ bits + 2 ^ bits = elim (split_low n bits) [
        | inl e ↦ absurd (omega (arith, e, more, least, below))
        | inr e ↦ omega (arith, e, more)
      ] in
      ap (λ j. n % 2 ^ depth_in bits buckets j) is ∙ ap (λ d. n % 2 ^ d) (depth_whole bits buckets (n % 2 ^ bits) whole below) ∙ sym is)
]

pub bucket_inside : (bits buckets n : ℕ) → 2 ^ bits ≤ buckets → bucket_in bits buckets n < buckets
bucket_inside bits buckets n least =
    let below : n % 2 ^ bits < 2 ^ bits = mod_below n (2 ^ bits) (pow_pos bits) in
    elim (cases_lt (n % 2 ^ suc bits) buckets) [
      | inl less ↦ (let is : bucket_in bits buckets n ≡ n % 2 ^ suc bits = grind arith in omega (arith, is, less))
      | inr more ↦ (let is : bucket_in bits buckets n ≡ n % 2 ^ bits = grind arith in omega (arith, is, least, below))
    ]

-- and no other bucket's
pub bucket_is : (bits buckets n j : ℕ) → 2 ^ bits ≤ buckets → buckets ≤ 2 ^ suc bits → j < buckets → n % 2 ^ depth_in bits buckets j ≡ j → bucket_in bits buckets n ≡ j
bucket_is bits buckets n j least most inside low =
    let below : n % 2 ^ bits < 2 ^ bits = mod_below n (2 ^ bits) (pow_pos bits) in
    elim (cases_lt (j + 2 ^ bits) buckets) [
      | inl split ↦ (
          let is : n % 2 ^ suc bits ≡ j = ap (λ d. n % 2 ^ d) (sym (depth_split bits buckets j split)) ∙ low in
          let less : n % 2 ^ suc bits < buckets = omega (arith, is, inside) in
          let here : bucket_in bits buckets n ≡ n % 2 ^ suc bits = grind arith in
          here ∙ is)
      | inr whole ↦ elim (cases_lt j (2 ^ bits)) [
        | inl under ↦ (
            let is : n % 2 ^ bits ≡ j = ap (λ d. n % 2 ^ d) (sym (depth_whole bits buckets j whole under)) ∙ low in
            elim (cases_lt (n % 2 ^ suc bits) buckets) [
              | inl less ↦ (
                  let here : bucket_in bits buckets n ≡ n % 2 ^ suc bits = grind arith in
                  elim (split_low n bits) [
                    | inl e ↦ here ∙ e ∙ is
                    | inr e ↦ absurd (omega (arith, e, is, whole, less))
                  ])
              | inr more ↦ (let here : bucket_in bits buckets n ≡ n % 2 ^ bits = grind arith in here ∙ is)
            ])
        | inr high ↦ (
            let is : n % 2 ^ suc bits ≡ j = ap (λ d. n % 2 ^ d) (sym (depth_high bits buckets j high)) ∙ low in
            let less : n % 2 ^ suc bits < buckets = omega (arith, is, inside) in
            let here : bucket_in bits buckets n ≡ n % 2 ^ suc bits = grind arith in
            here ∙ is)
      ]
    ]

-- the bucket by masks
pub bucket_of_low : (bits buckets n mask : ℕ) → mask ≡ 2 ^ suc bits - 1 → bit_and n mask < buckets → bit_and n mask ≡ bucket_in bits buckets n
bucket_of_low bits buckets n mask is less =
    let low : bit_and n mask ≡ n % 2 ^ suc bits = ap (λ m. bit_and n m) is ∙ and_mask n (suc bits) in
    let below : n % 2 ^ suc bits < buckets = omega (arith, low, less) in
    let here : bucket_in bits buckets n ≡ n % 2 ^ suc bits = grind arith in
    low ∙ sym here

pub bucket_of_high : (bits buckets n mask : ℕ) → mask ≡ 2 ^ suc bits - 1 → buckets ≤ bit_and n mask → bit_and n (mask / 2) ≡ bucket_in bits buckets n
bucket_of_high bits buckets n mask is more =
    let low : bit_and n mask ≡ n % 2 ^ suc bits = ap (λ m. bit_and n m) is ∙ and_mask n (suc bits) in
    let past : buckets ≤ n % 2 ^ suc bits = omega (arith, low, more) in
    let half : mask / 2 ≡ 2 ^ bits - 1 = omega (arith, is, double bits, pow_pos bits) in
    let here : bucket_in bits buckets n ≡ n % 2 ^ bits = grind arith in
    ap (λ m. bit_and n m) half ∙ and_mask n bits ∙ sym here
