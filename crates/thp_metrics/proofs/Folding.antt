-- Columns with one more prefix.
use Rattle.std.proofs.Common.{◌≡◌, ◌^◌, ◌⊎◌, ℕ, suc, ◌+◌, ◌*◌, ◌-◌, ◌<◌, ◌≤◌, List, [], ◌∷◌, ◌++◌, length, map, vec_capacity, ap, sym, ◌∙◌, inl, inr, subst, arith, append_assoc, append-nil, length-append, ◌≢◌}
use Rattle.std.proofs.Math.Nat.{pow-suc}
use Rattle.std.proofs.lemmas.List.{map-append, length-map}
use Rattle.std.proofs.lemmas.List.Concat.{flat_map-append}
use Rattle.thp_metrics.specs.Prelude.{Column, Folded, Numbers, column_of, AreFull, AllLow, HasLowSums, all_of, Folds, both, in_pairs, ColumnsAreLow, AreWithin}
use Rattle.thp_metrics.proofs.Pairs.{in_twos, pairs_are_of_twos, twos_have_all, twos_are_full, length_of_twos, twos_are_low}
use Rattle.thp_metrics.proofs.Spans.{column_append, low_append}

full_more : (w : ℕ) (xss : List (List Numbers)) (xs : List Numbers) → AreFull w xss → length xs ≡ w → AreFull w (xss ++ xs ∷ [])
full_more w [] xs full e = (e, tt)
full_more w (ys ∷ xss) xs full e = (full.0, full_more w xss xs full.1 e)

pub are_low_more : (cs : List Column) (c : Column) → ColumnsAreLow cs → AreWithin (2 ^ 126) c.pages → ColumnsAreLow (cs ++ c ∷ [])
are_low_more [] c low l = (l, tt)
are_low_more (d ∷ cs) c low l = (low.0, are_low_more cs c low.1 l)

low_more : (xss : List (List Numbers)) (xs : List Numbers) → AllLow xss → HasLowSums xs → AllLow (xss ++ xs ∷ [])
low_more [] xs low l = (l, tt)
low_more (ys ∷ xss) xs low l = (low.0, low_more xss xs low.1 l)

all_more : (xss : List (List Numbers)) (xs : List Numbers) → all_of (xss ++ xs ∷ []) ≡ all_of xss ++ xs
all_more xss xs = flat_map-append (λ (ys : List Numbers). ys) xss (xs ∷ []) ∙ ap (λ ys. all_of xss ++ ys) (append-nil xs)

map_more : (xss : List (List Numbers)) (xs : List Numbers) → map column_of (xss ++ xs ∷ []) ≡ map column_of xss ++ column_of xs ∷ []
map_more xss xs = map-append column_of xss (xs ∷ [])

-- a prefix goes into the last column, which has room
pub goes_in : (past : List Numbers) (n : Numbers) (f g : Folded) → HasLowSums (n ∷ []) → Folds past f → f.room ≢ 0 → g.full ≡ f.full → g.last ≡ both f.last (column_of (n ∷ [])) → g.room ≡ f.room - 1 → g.width ≡ f.width → Folds (past ++ n ∷ []) g
goes_in past n f g small h more full last room width = record {
  full = h.full;
  last = h.last ++ n ∷ [];
  together = sym (append_assoc (all_of h.full) h.last (n ∷ [])) ∙ ap (λ ns. ns ++ n ∷ []) h.together;
  each = subst (λ (w : ℕ). AreFull w h.full) (sym width) h.each;
  some = omega (arith, length-append h.last (n ∷ []));
  room = omega (arith, length-append h.last (n ∷ []), h.room, more, room, width);
  full_are = ap (λ v. v.items) full ∙ h.full_are;
  last_is = last ∙ ap (λ c. both c (column_of (n ∷ []))) h.last_is ∙ sym (column_append h.last (n ∷ []) h.some (omega arith));
  few = h.few;
  capacity = ap vec_capacity full ∙ h.capacity;
  low = h.low;
  last_low = low_append h.last (n ∷ []) h.last_low small;
  power = h.power;
  power_is = width ∙ h.power_is;
  needed = subst (λ (w : ℕ). (w ≡ 1) ⊎ (600 ≤ 2 * length h.full)) (sym width) h.needed;
}

-- the last column is full, and a new one begins
pub begins : (past : List Numbers) (n : Numbers) (f g : Folded) → HasLowSums (n ∷ []) → Folds past f → f.room ≡ 0 → g.full.items ≡ f.full.items ++ f.last ∷ [] → length g.full.items < 600 → vec_capacity g.full ≡ 600 → g.last ≡ column_of (n ∷ []) → g.width ≡ f.width → g.room ≡ g.width - 1 → Folds (past ++ n ∷ []) g
begins past n f g small h none full few capacity last width room =
    let are : g.full.items ≡ map column_of (h.full ++ h.last ∷ []) = full ∙ ap (λ cs. cs ++ f.last ∷ []) h.full_are ∙ ap (λ c. map column_of h.full ++ c ∷ []) h.last_is ∙ sym (map_more h.full h.last) in
    let count : length g.full.items ≡ length h.full + 1 = ap length are ∙ length-map (h.full ++ h.last ∷ []) column_of ∙ length-append h.full (h.last ∷ []) in
    record {
      full = h.full ++ h.last ∷ [];
      last = n ∷ [];
      together = ap (λ ns. ns ++ n ∷ []) (all_more h.full h.last ∙ h.together);
      each = subst (λ (w : ℕ). AreFull w (h.full ++ h.last ∷ [])) (sym width) (full_more f.width h.full h.last h.each (omega (arith, h.room, none)));
      some = omega arith;
      room = omega (arith, h.room, h.some, room, width);
      full_are = are;
      last_is = last;
      few = omega (arith, few, count, length-append h.full (h.last ∷ []));
      capacity = capacity;
      low = low_more h.full h.last h.low h.last_low;
      last_low = small;
      power = h.power;
      power_is = width ∙ h.power_is;
      needed = elim h.needed [ inl one ↦ inl (width ∙ one) | inr many ↦ inr (omega (arith, many, length-append h.full (h.last ∷ []))) ];
    }

-- so it is where they were folded first
pub begins_folded : (past : List Numbers) (n : Numbers) (f g : Folded) → HasLowSums (n ∷ []) → Folds past f → f.room ≡ 0 → length (f.full.items ++ f.last ∷ []) ≡ 600 → g.full.items ≡ in_pairs (f.full.items ++ f.last ∷ []) → vec_capacity g.full ≡ 600 → g.last ≡ column_of (n ∷ []) → g.width ≡ f.width * 2 → g.room ≡ g.width - 1 → Folds (past ++ n ∷ []) g
begins_folded past n f g small h none many full capacity last width room =
    let old = h.full ++ h.last ∷ [] in
    let were : f.full.items ++ f.last ∷ [] ≡ map column_of old = ap (λ cs. cs ++ f.last ∷ []) h.full_are ∙ ap (λ c. map column_of h.full ++ c ∷ []) h.last_is ∙ sym (map_more h.full h.last) in
    let count : length old ≡ 300 + 300 = sym (length-map old column_of) ∙ sym (ap length were) ∙ many in
    let filled : AreFull f.width old = full_more f.width h.full h.last h.each (omega (arith, h.room, none)) in
    let wide : 0 < f.width = omega (arith, h.room, h.some) in
    record {
      full = in_twos old;
      last = n ∷ [];
      together = ap (λ ns. ns ++ n ∷ []) (twos_have_all old ∙ all_more h.full h.last ∙ h.together);
      each = subst (λ (w : ℕ). AreFull w (in_twos old)) (sym width) (twos_are_full f.width 300 old count filled);
      some = omega arith;
      room = omega (arith, wide, room, width);
      full_are = full ∙ ap in_pairs were ∙ pairs_are_of_twos f.width old wide filled;
      last_is = last;
      few = omega (arith, length_of_twos 300 old count);
      capacity = capacity;
      low = twos_are_low old (low_more h.full h.last h.low h.last_low);
      last_low = small;
      power = suc h.power;
      power_is = width ∙ ap (λ w. w * 2) h.power_is ∙ sym (pow-suc 2 h.power);
      needed = inr (omega (arith, length_of_twos 300 old count));
    }
