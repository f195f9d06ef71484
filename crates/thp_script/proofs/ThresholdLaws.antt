-- Orders and thresholds, place by place.
use Rattle.std.proofs.Common.{◌≡◌, ◌⊎◌, ℕ, zero, suc, ◌<◌, ◌≤◌, true, Option, List, [], ◌∷◌, ◌++◌, length, drop, get_or, arith, refl}
use Rattle.std.specs.List.{list_all}
use Rattle.std.proofs.lemmas.Bool.{and_parts, cases_lt}
use Rattle.std.proofs.lemmas.List.{get_or-append_right, get_or-drop, length-append, length-drop}
use Rattle.std.proofs.Math.ListN.{get_or-append}
use Rattle.thp_script.specs.Prelude.{is_order, AreLow}

-- orders that are left fit, too
pub orders_left : (n : ℕ) (orders : List ℕ) → list_all is_order orders ≡ true → list_all is_order (drop n orders) ≡ true
orders_left zero orders fit = fit
orders_left (suc n) [] fit = refl
orders_left (suc n) (order ∷ orders) fit = orders_left n orders (and_parts (is_order order) (list_all is_order orders) fit).1

-- what stands at a place of a front that replaces as many places of what was there before: one of the front, or what was there
pub new_or_old : {X : Type 0} → (front before : List X) (k : ℕ) (d : X) → ((k < length front) × (get_or (front ++ drop (length front) before) k d ≡ get_or front k d)) ⊎ (get_or (front ++ drop (length front) before) k d ≡ get_or before k d)
new_or_old {X} front before k d = grind (arith, cases_lt, get_or-append, get_or-append_right, get_or-drop)

-- and the list is as long as before
replaced_length : {X : Type 0} → (front before : List X) → length front ≤ length before → length (front ++ drop (length front) before) ≡ length before
replaced_length front before le = rw (length-append front (drop (length front) before), length-drop (length front) before) (omega arith)

-- new orders for the first places keep the thresholds low
pub new_orders_low : (front before : List ℕ) (thresholds : List (Option ℕ)) → length front ≤ length before → AreLow front thresholds → AreLow before thresholds → AreLow (front ++ drop (length front) before) thresholds
new_orders_low front before thresholds le new old = grind (arith, new_or_old, replaced_length)
