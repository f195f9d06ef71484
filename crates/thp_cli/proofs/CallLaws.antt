-- How the calls of a device grow.
use Rattle.std.proofs.Common.{◌≡◌, ◌∙◌, ◌++◌, ◌∷◌, ◌+◌, ◌-◌, ◌≤◌, ◌<◌, [], ℕ, Bool, true, false, List, Option, Some, None, ap, append_assoc, arith, inl, inr, is_some, length, refl, sym, All, map, sum, IfNone, IfSome}
use Rattle.std.proofs.lemmas.List.{append-nil, length-append, length-map, map-append}
use Rattle.std.proofs.lemmas.List.Elements.{All-append, All-cons, All-nil}
use Rattle.std.proofs.lemmas.List.Sums.{sum_by-cons, sum_by_from, sum_by_push}
use Rattle.thp_cli.specs.Prelude.{EndsReading, Follow, IsTaken, ReadsOn, WritesAll, WritesOn, read_giving, read_room, writes_of, DeviceCall}
use Rattle.thp_cli.specs.declared.calls.DeviceCall.TheVariants as call

sum_none : sum [] ≡ 0
sum_none = sym (sum_by_from (λ x. x) 0 [])

-- ---- reads

-- reads that each gave something, and together all but the last `left` of the bytes that are looked at
pub record Reading (most left : ℕ) (old new : List DeviceCall) : Type 0 where
  pub gave : List ℕ
  pub some : All (λ n. 0 < n) gave
  pub sum_is : sum gave + left ≡ most
  pub few : length gave ≤ sum gave
  pub grown : new ≡ old ++ map read_giving gave

-- no read was made
pub reading_none : (most : ℕ) (old : List DeviceCall) → Reading most most old old
reading_none most old = record { gave = []; some = All-nil (λ n. 0 < n); sum_is = omega (arith, sum_none); few = omega arith; grown = sym (append-nil old) }

-- one more read, which gave something
pub reading_more : (most left n room : ℕ) (old new last : List DeviceCall) → Reading most left old new → 0 < n → n ≤ left → room ≡ read_room → last ≡ new ++ call.Read room (Some n) ∷ [] → Reading most (left - n) old last
reading_more most left n room old new last r some le full is = record {
  gave = r.gave ++ n ∷ [];
  some = All-append (λ k. 0 < k) r.gave (n ∷ []) r.some (All-cons (λ k. 0 < k) n [] some (All-nil (λ k. 0 < k)));
  sum_is = omega (arith, sum_by_push (λ x. x) r.gave n, r.sum_is, le);
  few = omega (arith, sum_by_push (λ x. x) r.gave n, length-append r.gave (n ∷ []), r.few, some);
  grown = is ∙ rw full (ap (λ (t : List DeviceCall). t ++ read_giving n ∷ []) r.grown ∙ append_assoc old (map read_giving r.gave) (read_giving n ∷ []) ∙ ap (λ (t : List DeviceCall). old ++ t) (sym (map-append read_giving r.gave (n ∷ []))));
}

-- and what ended reading, one call at most
pub reading_ended : (most left : ℕ) (failed : Bool) (old new end last : List DeviceCall) → Reading most left old new → EndsReading failed end → length end ≤ 1 → last ≡ new ++ end → ReadsOn most failed old last
reading_ended most left failed old new end last r ends one is = grind (arith, append_assoc, length-append, length-map)

-- and one more read, by its answer
pub reads_by : (most left room : ℕ) (failed was : Bool) (o : Option ℕ) (old new last : List DeviceCall) → Reading most left old new → was ≡ false → room ≡ read_room → last ≡ new ++ call.Read room o ∷ []
    → IfNone o (failed ≡ true) → IfSome o (λ _. failed ≡ was) → ReadsOn most failed old last
reads_by most left room failed was (Some n) old new last r e full is none some =
    rw (some ∙ e) (reading_ended most left false old new (read_giving n ∷ []) last r (inr (n, refl)) (omega arith) (is ∙ rw full refl))
reads_by most left room failed was None old new last r e full is none some =
    rw none (reading_ended most left true old new (call.Read read_room None ∷ []) last r refl (omega arith) (is ∙ rw full refl))

-- ---- writes

-- writes that the device took, each of which offered all that was left of n bytes; so many are left then
pub record Writing (n left : ℕ) (old new : List DeviceCall) : Type 0 where
  pub taken : List ℕ
  pub sum_is : sum taken + left ≡ n
  pub grown : new ≡ old ++ writes_of n taken

-- one write more is the last one
writes_more : (n k : ℕ) (taken : List ℕ) → writes_of n (taken ++ k ∷ []) ≡ writes_of n taken ++ call.Write (n - sum taken) (Some k) ∷ []
writes_more n k [] = ap (λ (m : ℕ). call.Write m (Some k) ∷ []) (omega (arith, sum_none))
writes_more n k (j ∷ taken) = ap (λ (t : List DeviceCall). call.Write n (Some j) ∷ t) (writes_more (n - j) k taken ∙ ap (λ (m : ℕ). writes_of (n - j) taken ++ call.Write m (Some k) ∷ []) (omega (arith, sum_by-cons (λ x. x) j taken)))

pub writing_more : (n left k offered : ℕ) (old new last : List DeviceCall) → Writing n left old new → k ≤ left → offered ≡ left → last ≡ new ++ call.Write offered (Some k) ∷ [] → Writing n (left - k) old last
writing_more n left k offered old new last w le all is = record {
  taken = w.taken ++ k ∷ [];
  sum_is = omega (arith, sum_by_push (λ x. x) w.taken k, w.sum_is, le);
  grown = is ∙ ap (λ (t : List DeviceCall). t ++ call.Write offered (Some k) ∷ []) w.grown ∙ append_assoc old (writes_of n w.taken) (call.Write offered (Some k) ∷ [])
      ∙ ap (λ (t : List DeviceCall). old ++ t) (ap (λ (m : ℕ). writes_of n w.taken ++ call.Write m (Some k) ∷ []) (omega (arith, all, w.sum_is)) ∙ sym (writes_more n k w.taken));
}

-- all was written
pub writes_all : (n left : ℕ) (failed : Bool) (old new : List DeviceCall) → Writing n left old new → left ≡ 0 → failed ≡ false → WritesAll n failed old new
writes_all n left failed old new w none e = grind (arith, append-nil)

-- a write failed
pub writes_failed : (n left offered : ℕ) (failed : Bool) (old new last : List DeviceCall) → Writing n left old new → offered ≡ left → failed ≡ true → last ≡ new ++ call.Write offered None ∷ [] → WritesAll n failed old last
writes_failed n left offered failed old new last w all e is = grind (arith, append_assoc)

-- ---- the writes of a text, whoever offers how much

-- the device took each of them
all_taken : (n : ℕ) (taken : List ℕ) → All IsTaken (writes_of n taken)
all_taken n [] = All-nil IsTaken
all_taken n (k ∷ taken) = All-cons IsTaken (call.Write n (Some k)) (writes_of (n - k) taken) tt (all_taken (n - k) taken)

-- no call was made
pub follow_none : (old : List DeviceCall) → Follow [] old old
follow_none old = record { writes = []; taken = All-nil IsTaken; grown = sym (append-nil old) }

-- and then another one
pub follow_then : (other : DeviceCall) (old new last : List DeviceCall) → Follow [] old new → last ≡ new ++ other ∷ [] → Follow (other ∷ []) old last
follow_then other old new last f is = grind (arith, append_assoc, append-nil)

-- writes that the device took, and a flush, by its answer
pub flushes_by : (failed was : Bool) (o : Option (Unit {0})) (old new last : List DeviceCall) → Follow [] old new → was ≡ false → last ≡ new ++ call.Flush (is_some o) ∷ []
    → IfNone o (failed ≡ true) → IfSome o (λ _. failed ≡ was) → WritesOn failed old last
flushes_by failed was (Some u) old new last f e is none some = rw (some ∙ e) (follow_then (call.Flush true) old new last f is)
flushes_by failed was None old new last f e is none some = rw none (inr (follow_then (call.Flush false) old new last f is))

-- more writes, and then the last ones
follow_all : (writes last a b c : List DeviceCall) → Follow [] a b → All IsTaken writes → c ≡ b ++ (writes ++ last) → Follow last a c
follow_all writes last a b c f taken is = record {
  writes = f.writes ++ writes;
  taken = All-append IsTaken f.writes writes f.taken taken;
  grown = is ∙ ap (λ (t : List DeviceCall). t ++ (writes ++ last)) f.grown ∙ simp (append_assoc, append-nil);
}

-- the writes of a part that failed, after those of others, are those of a text
pub part_failed : (n : ℕ) (failed : Bool) (old new last : List DeviceCall) → Follow [] old new → failed ≡ true → WritesAll n failed new last → WritesOn failed old last
part_failed n failed old new last f e w =
    let w : WritesAll n true new last = rw e at w in
    rw e (inl (n - sum w.taken, follow_all (writes_of n w.taken) (call.Write (n - sum w.taken) None ∷ []) old new last f (all_taken n w.taken) (w.grown ∙ ap (λ (t : List DeviceCall). new ++ (writes_of n w.taken ++ t)) w.ends)))

-- those of a part that was written are some more
pub part_written : (n : ℕ) (failed : Bool) (old new last : List DeviceCall) → Follow [] old new → failed ≡ false → WritesAll n failed new last → Follow [] old last
part_written n failed old new last f e w = grind (arith, follow_all, all_taken)
