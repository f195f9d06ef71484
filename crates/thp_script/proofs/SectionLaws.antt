-- The commands of each section, as one more command is read.
use Rattle.std.proofs.Common.{◌≡◌, ℕ, zero, suc, ◌+◌, ◌<◌, ◌==◌, Bool, cond, List, [], ◌∷◌, ◌++◌, length, map, get_or, set, refl, sym, arith, ◌∙◌, ◌≤◌, replicate, eq-eqb, ne_eqb}
use Rattle.std.specs.List.{range_with_len}
use Rattle.std.proofs.lemmas.List.{append-nil, set_past}
use Rattle.thp_script.specs.Prelude.{Command, Placed, commands_in, script_with}

cond_push : (b : Bool) (x : Command) (xs ys : List Command) → cond b (x ∷ (xs ++ ys)) (xs ++ ys) ≡ cond b (x ∷ xs) xs ++ ys
cond_push y x xs ys = grind arith

-- one more command, in section k or in another
commands_in-push : (k : ℕ) (ps : List Placed) (p : Placed) → commands_in k (ps ++ p ∷ []) ≡ commands_in k ps ++ cond (p.0 == k) (p.1 ∷ []) []
commands_in-push k [] p = refl
commands_in-push k (q ∷ qs) p = rw (commands_in-push k qs p) (cond_push (q.0 == k) q.1 (commands_in k qs) (cond (p.0 == k) (p.1 ∷ []) []))

commands_in-push_other : (k : ℕ) (ps : List Placed) (p : Placed) → (p.0 ≡ k → ⊥) → commands_in k (ps ++ p ∷ []) ≡ commands_in k ps
commands_in-push_other k ps p other = rw (commands_in-push k ps p, ne_eqb p.0 k other) (append-nil (commands_in k ps))

commands_in-push_here : (k : ℕ) (ps : List Placed) (p : Placed) → p.0 ≡ k → commands_in k (ps ++ p ∷ []) ≡ commands_in k ps ++ p.1 ∷ []
commands_in-push_here k ps p here = rw (commands_in-push k ps p, eq-eqb p.0 k here) refl

-- all sections: `setup`, and one for each worker
unfoldable pub sections_with : ℕ → List Placed → List (List Command)
sections_with workers ps = map (λ k. commands_in k ps) (range_with_len 0 (workers + 1))

-- the n sections from number a on
abbrev sections_from : ℕ → ℕ → List Placed → List (List Command)
sections_from a n ps = map (λ k. commands_in k ps) (range_with_len a n)

from-push_below : (n a : ℕ) (ps : List Placed) (p : Placed) → p.0 < a → sections_from a n (ps ++ p ∷ []) ≡ sections_from a n ps
from-push_below zero a ps p lt = refl
from-push_below (suc n) a ps p lt = rw (commands_in-push_other a ps p (λ (e : p.0 ≡ a). absurd (omega arith)), from-push_below n (a + 1) ps p (omega arith)) refl

from-push : (n a i : ℕ) (ps : List Placed) (p : Placed) → a + i ≡ p.0 → i < n → sections_from a n (ps ++ p ∷ []) ≡ set (sections_from a n ps) i (get_or (sections_from a n ps) i [] ++ p.1 ∷ [])
from-push zero a i ps p e lt = absurd (omega arith)
from-push (suc n) a zero ps p e lt = rw (commands_in-push_here a ps p (omega arith), from-push_below n (a + 1) ps p (omega arith)) refl
from-push (suc n) a (suc i) ps p e lt = rw (commands_in-push_other a ps p (λ (f : p.0 ≡ a). absurd (omega arith)), from-push n (a + 1) i ps p (omega arith) (omega arith)) refl

-- a command of section k is added at its end, and the other sections stay
pub sections_with-push : (workers k : ℕ) (ps : List Placed) (command : Command) → k < workers + 1 → sections_with workers (ps ++ (k, command) ∷ []) ≡ set (sections_with workers ps) k (get_or (sections_with workers ps) k [] ++ command ∷ [])
unfolding sections_with
sections_with-push workers k ps command lt = from-push (workers + 1) 0 k ps (k, command) (omega arith) lt

from-push_beyond : (n a : ℕ) (ps : List Placed) (p : Placed) → a + n ≤ p.0 → sections_from a n (ps ++ p ∷ []) ≡ sections_from a n ps
from-push_beyond zero a ps p le = refl
from-push_beyond (suc n) a ps p le = rw (commands_in-push_other a ps p (λ (e : p.0 ≡ a). absurd (omega arith)), from-push_beyond n (a + 1) ps p (omega arith)) refl

from-length : (n a : ℕ) (ps : List Placed) → length (sections_from a n ps) ≡ n
from-length zero a ps = refl
from-length (suc n) a ps = rw (from-length n (a + 1) ps) refl

-- there is one section for each worker, and `setup`
pub length-sections_with : (workers : ℕ) (ps : List Placed) → length (sections_with workers ps) ≡ workers + 1
unfolding sections_with
length-sections_with workers ps = from-length (workers + 1) 0 ps

same_beyond : (workers : ℕ) (ps : List Placed) (p : Placed) → workers + 1 ≤ p.0 → sections_with workers (ps ++ p ∷ []) ≡ sections_with workers ps
unfolding sections_with
same_beyond workers ps p le = from-push_beyond (workers + 1) 0 ps p (omega arith)

-- a command of a section that there isn't changes nothing
pub sections_with-push_beyond : (workers : ℕ) (ps : List Placed) (p : Placed) (commands : List Command) → workers + 1 ≤ p.0 → set (sections_with workers ps) p.0 commands ≡ sections_with workers (ps ++ p ∷ [])
sections_with-push_beyond workers ps p commands le = set_past (sections_with workers ps) p.0 commands (rw (length-sections_with workers ps) le) ∙ sym (same_beyond workers ps p le)

from-none : (n a : ℕ) → sections_from a n [] ≡ replicate n []
from-none zero a = refl
from-none (suc n) a = rw (from-none n (a + 1)) refl

-- before the first command each section is empty
pub sections_with-none : (workers : ℕ) → sections_with workers [] ≡ replicate (workers + 1) []
unfolding sections_with
sections_with-none workers = from-none (workers + 1) 0

-- the first of the sections is `setup`, and the others are the workers'
pub sections_with-script : (workers : ℕ) (ps : List Placed) → sections_with workers ps ≡ (script_with workers ps).setup ∷ (script_with workers ps).workers
unfolding sections_with script_with
sections_with-script workers ps = let one-more : workers + 1 ≡ suc workers = omega arith in rw one-more refl
