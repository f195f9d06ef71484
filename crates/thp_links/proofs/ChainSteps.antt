-- What each call of a chain does to the links and to the chain's head.
use Rattle.std.proofs.Common.{◌≡◌, ◌≢◌, ℕ, ◌<◌, List, [], ◌∷◌, length, get_or, set, drop, Some, sym, ap, ◌∙◌, arith, length-set, Contains, slice_get}
use Rattle.std.proofs.lemmas.Option.{same_Some, none-some}
use Rattle.thp_links.specs.Prelude.{Link, NIL, between, Trail, ChainStands, SameOutside, HasHead}
use Rattle.thp_links.proofs.Members.{Contains-from_rest, Distinct-cons, Distinct-behind, differ}
use Rattle.thp_links.proofs.Replacing.{slice_get-set_same, slice_get-set_other}
use Rattle.thp_links.proofs.Segments.{Trail-kept}

-- a push lets the longer list stand, and changes the pair of the new index alone
pub chain_pushed : (i h : ℕ) (xs : List ℕ) (ls ms : List Link) → ChainStands xs ls → i < length ls → (Contains xs i → ⊥) → h ≡ get_or xs 0 NIL → ms ≡ set ls i (between NIL h) → ChainStands (i ∷ xs) ms × SameOutside (i ∷ xs) ls ms
chain_pushed i h xs ls ms s inside out first links =
    let l : Link = between NIL h in
    let e : ms ≡ set ls i l = links in
    let at : slice_get ms i ≡ Some (between NIL (get_or xs 0 NIL)) = ap (λ (ks : List Link). slice_get ks i) e
    ∙ slice_get-set_same ls i l inside
    ∙ ap (λ (k : ℕ). Some (between NIL k)) first in
    let other : (j : ℕ) → j ≢ i → slice_get ms j ≡ slice_get ls j = λ j ne. ap (λ (ks : List Link). slice_get ks j) e ∙ slice_get-set_other ls i l j ne in (
      record {
        trail = ((NIL, at), Trail-kept ls ms xs (λ j m. other j (differ xs j i m out)) s.trail);
        distinct = Distinct-cons i xs out s.distinct;
      },
      record {
        same_length = ap length e ∙ length-set ls i l;
        same_pairs = λ j gone. other j (λ z. gone (0, omega arith, sym z));
      },
    )

-- the pair of the first index says where the rest begins
pub first_next : (xs : List ℕ) (ls : List Link) (i : ℕ) (l : Link) → Trail ls xs → slice_get xs 0 ≡ Some i → slice_get ls i ≡ Some l → l.next ≡ get_or (drop 1 xs) 0 NIL
first_next x ls i l t first value = grind (arith, none-some, same_Some, slice_get)

-- a pop leaves the head right
pub head_popped : (xs : List ℕ) (ls : List Link) (i h : ℕ) (l : Link) → ChainStands xs ls → slice_get xs 0 ≡ Some i → slice_get ls i ≡ Some l → HasHead h xs → HasHead l.next (drop 1 xs)
head_popped xs ls i h l s first value e = grind (arith, first_next, Contains-from_rest)

-- a pop lets the rest stand
pub chain_popped : (xs : List ℕ) (ls : List Link) → ChainStands xs ls → ChainStands (drop 1 xs) ls
chain_popped [] ls s = s
chain_popped (x ∷ xs) ls s = record { trail = s.trail.1; distinct = Distinct-behind x xs s.distinct }
