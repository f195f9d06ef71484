-- Numbers by block, of which only a front is stored.
use Rattle.std.proofs.Common.{◌≡◌, ◌≢◌, ◌∙◌, ◌<◌, ◌≤◌, ◌+◌, ◌-◌, ◌++◌, ℕ, zero, suc, List, [], ◌∷◌, length, get_or, replicate, Option, Some, None, IfSome, IfNone, ap, sym, refl, arith, length-append}
use Rattle.std.proofs.lemmas.List.{length-replicate}
use Rattle.thp_page.specs.Prelude.{padded}
use Rattle.thp_page.proofs.Paddings.{length-padded, get_or-padded_default}
use Rattle.thp_page.proofs.TreeSteps.{number_inside}

-- blocks without a number come to those stored
get_or-none : (k b : ℕ) → ◌≡◌ {A = Option ℕ} (get_or (replicate k None) b None) None
get_or-none zero b = refl
get_or-none (suc k) zero = refl
get_or-none (suc k) (suc b) = get_or-none k b

pub get_or-no_more : (ns : List (Option ℕ)) (k b : ℕ) → get_or (ns ++ replicate k None) b None ≡ get_or ns b None
get_or-no_more [] k b = get_or-none k b
get_or-no_more (n ∷ ns) k zero = refl
get_or-no_more (n ∷ ns) k (suc b) = get_or-no_more ns k b

pub length-reached_numbers : (ns ms : List (Option ℕ)) (b : ℕ) → ms ≡ ns ++ replicate (b + 1 - length ns) None → length ms ≡ length ns + (b + 1 - length ns)
length-reached_numbers ns ms b grown = ap (λ (os : List (Option ℕ)). length os) grown ∙ length-append ns (replicate (b + 1 - length ns) None) ∙ ap (λ k. length ns + k) (length-replicate (b + 1 - length ns) None)

-- a block's number, as callers see it
pub number_seen : (blocks : ℕ) (ns os : List (Option ℕ)) (b : ℕ) → padded blocks None ns ≡ os → get_or ns b None ≡ get_or os b None
number_seen blocks ns os b view = sym (get_or-padded_default None blocks ns b) ∙ ap (λ (xs : List (Option ℕ)). get_or xs b None) view

pub blocks_seen : (blocks : ℕ) (ns os : List (Option ℕ)) → length ns ≤ blocks → padded blocks None ns ≡ os → length os ≡ blocks
blocks_seen blocks ns os few view = ap (λ (xs : List (Option ℕ)). length xs) (sym view) ∙ length-padded {A = Option ℕ} None blocks ns few

pub found_seen : (blocks : ℕ) (ns os : List (Option ℕ)) (id : ℕ) (r : Option ℕ) → padded blocks None ns ≡ os → IfSome r (λ b. get_or ns b None ≡ Some id) → IfSome r (λ b. get_or os b None ≡ Some id)
found_seen blocks ns os id None view found = found
found_seen blocks ns os id (Some b) view found = sym (number_seen blocks ns os b view) ∙ found

pub inside_seen : (blocks : ℕ) (ns os : List (Option ℕ)) (id : ℕ) (r : Option ℕ) → length ns ≤ blocks → padded blocks None ns ≡ os → IfSome r (λ b. get_or ns b None ≡ Some id) → IfSome r (λ b. b < length os)
inside_seen blocks ns os id None few view found = found
inside_seen blocks ns os id (Some b) few view found = omega (arith, number_inside ns b id found, few, blocks_seen blocks ns os few view)

pub absent_seen : (blocks : ℕ) (ns os : List (Option ℕ)) (id : ℕ) (r : Option ℕ) → padded blocks None ns ≡ os → IfNone r ((b : ℕ) → get_or ns b None ≢ Some id) → IfNone r ((b : ℕ) → get_or os b None ≢ Some id)
absent_seen blocks ns os id None view absent = λ b e. absent b (number_seen blocks ns os b view ∙ e)
absent_seen blocks ns os id (Some b) view absent = absent
