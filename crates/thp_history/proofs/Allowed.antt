-- What it says that a call isn't refused: none of its tests holds.
use Rattle.std.proofs.Common.{◌≡◌, ℕ, ◌+◌, Bool, true, false, cond, not, ◌&&◌, ◌||◌, refl, Option, Some, None, nat_eq, nat_lt}
use Rattle.thp_history.specs.Prelude.{Refusal, Shape, History, is_live, is_split, is_closed, total, whole, own, pins, is_held, block_in_use, refusal, most, some_of, some_below, each_below, subpages}
use Rattle.thp_history.specs.declared.refusal.Refusal.TheVariants as reason
use Rattle.thp_history.specs.Refusals as call

-- no refusal: none of one test holds
one : (a : Bool) (x : Refusal) → cond a (Some x) None ≡ None → a ≡ false
one true x e = absurd (cc)
one false x e = refl

-- none of two
two : (a b : Bool) (x y : Refusal) → cond a (Some x) (cond b (Some y) None) ≡ None → (a ≡ false) × (b ≡ false)
two true b x y e = absurd (cc)
two false true x y e = absurd (cc)
two false false x y e = (refl, refl)

-- none of three, the first of which is that the page isn't live
three : (a b c : Bool) (x y z : Refusal) → cond (not a) (Some x) (cond b (Some y) (cond c (Some z) None)) ≡ None → (a ≡ true) × (b ≡ false) × (c ≡ false)
three true true c x y z e = absurd (cc)
three true false true x y z e = absurd (cc)
three true false false x y z e = (refl, refl, refl)
three false b c x y z e = absurd (cc)

-- none of four
four : (a b c d : Bool) (x y z w : Refusal) → cond (not a) (Some x) (cond b (Some y) (cond c (Some z) (cond d (Some w) None))) ≡ None →
    (a ≡ true) × (b ≡ false) × (c ≡ false) × (d ≡ false)
four true true c d x y z w e = absurd (cc)
four true false true d x y z w e = absurd (cc)
four true false false true x y z w e = absurd (cc)
four true false false false x y z w e = (refl, refl, refl, refl)
four false b c d x y z w e = absurd (cc)

-- an allocation: the node is open, and some block is free
pub allowed_alloc : (shape : Shape) (h : History) → refusal shape h call.alloc_page ≡ None → (is_closed h ≡ false) × (each_below shape.blocks (block_in_use h) ≡ false)
unfolding refusal
allowed_alloc shape h e = two _ _ _ _ e

-- the page is live and not split, and no subpage is mapped most often
pub allowed_map_whole : (shape : Shape) (h : History) (p : ℕ) → refusal shape h (call.map_whole p) ≡ None →
    (is_live h p ≡ true) × (is_split h p ≡ false) × (some_below (subpages shape) (λ i. nat_eq (total h p i) most) ≡ false)
unfolding refusal
allowed_map_whole shape h p e = three (is_live h p) (is_split h p) (some_below (subpages shape) (λ i. nat_eq (total h p i) most)) reason.NoPage reason.IsSplit reason.TooMany e

-- the page is live, not split, and mapped whole
pub allowed_unmap_whole : (shape : Shape) (h : History) (p : ℕ) → refusal shape h (call.unmap_whole p) ≡ None →
    (is_live h p ≡ true) × (is_split h p ≡ false) × (nat_eq (whole h p) 0 ≡ false)
unfolding refusal
allowed_unmap_whole shape h p e = three (is_live h p) (is_split h p) (nat_eq (whole h p) 0) reason.NoPage reason.IsSplit reason.NotMapped e

-- the same for a split of a PMD mapping
pub allowed_split_pmd : (shape : Shape) (h : History) (p : ℕ) → refusal shape h (call.split_pmd p) ≡ None →
    (is_live h p ≡ true) × (is_split h p ≡ false) × (nat_eq (whole h p) 0 ≡ false)
unfolding refusal
allowed_split_pmd shape h p e = three (is_live h p) (is_split h p) (nat_eq (whole h p) 0) reason.NoPage reason.IsSplit reason.NotMapped e

-- the page is live, the range is one of it, its frames are held, and none of its subpages is mapped most often
pub allowed_map_sub : (shape : Shape) (h : History) (p first count : ℕ) → refusal shape h (call.map_sub p first count) ≡ None →
    (is_live h p ≡ true) × ((nat_eq count 0 || nat_lt (subpages shape) (first + count)) ≡ false)
    × ((is_split h p && some_of shape first count (λ i. not (is_held shape h p i))) ≡ false)
    × (some_of shape first count (λ i. nat_eq (total h p i) most) ≡ false)
unfolding refusal
allowed_map_sub shape h p first count e =
    four (is_live h p) (nat_eq count 0 || nat_lt (subpages shape) (first + count)) (is_split h p && some_of shape first count (λ i. not (is_held shape h p i)))
    (some_of shape first count (λ i. nat_eq (total h p i) most)) reason.NoPage reason.BadRange reason.Gone reason.TooMany e

-- the page is live, the range is one of it, and each of its subpages is mapped by itself
pub allowed_unmap_sub : (shape : Shape) (h : History) (p first count : ℕ) → refusal shape h (call.unmap_sub p first count) ≡ None →
    (is_live h p ≡ true) × ((nat_eq count 0 || nat_lt (subpages shape) (first + count)) ≡ false)
    × (some_of shape first count (λ i. nat_eq (own h p i) 0) ≡ false)
unfolding refusal
allowed_unmap_sub shape h p first count e =
    three (is_live h p) (nat_eq count 0 || nat_lt (subpages shape) (first + count)) (some_of shape first count (λ i. nat_eq (own h p i) 0))
    reason.NoPage reason.BadRange reason.NotMapped e

-- the page is live and not split, and can be pinned once more
pub allowed_pin : (shape : Shape) (h : History) (p : ℕ) → refusal shape h (call.pin p) ≡ None →
    (is_live h p ≡ true) × (is_split h p ≡ false) × (nat_eq (pins h p) most ≡ false)
unfolding refusal
allowed_pin shape h p e = three (is_live h p) (is_split h p) (nat_eq (pins h p) most) reason.NoPage reason.IsSplit reason.TooMany e

-- the page is live and not split, and pinned
pub allowed_unpin : (shape : Shape) (h : History) (p : ℕ) → refusal shape h (call.unpin p) ≡ None →
    (is_live h p ≡ true) × (is_split h p ≡ false) × (nat_eq (pins h p) 0 ≡ false)
unfolding refusal
allowed_unpin shape h p e = three (is_live h p) (is_split h p) (nat_eq (pins h p) 0) reason.NoPage reason.IsSplit reason.NotPinned e

-- the page is live and not split, the range is one of it, and each of its subpages is mapped
pub allowed_write : (shape : Shape) (h : History) (p first count : ℕ) → refusal shape h (call.write p first count) ≡ None →
    (is_live h p ≡ true) × ((nat_eq count 0 || nat_lt (subpages shape) (first + count)) ≡ false) × (is_split h p ≡ false)
    × (some_of shape first count (λ i. nat_eq (total h p i) 0) ≡ false)
unfolding refusal
allowed_write shape h p first count e =
    four (is_live h p) (nat_eq count 0 || nat_lt (subpages shape) (first + count)) (is_split h p)
    (some_of shape first count (λ i. nat_eq (total h p i) 0)) reason.NoPage reason.BadRange reason.IsSplit reason.NotMapped e

-- the same for a write of zeros
pub allowed_zero : (shape : Shape) (h : History) (p first count : ℕ) → refusal shape h (call.zero_fill p first count) ≡ None →
    (is_live h p ≡ true) × ((nat_eq count 0 || nat_lt (subpages shape) (first + count)) ≡ false) × (is_split h p ≡ false)
    × (some_of shape first count (λ i. nat_eq (total h p i) 0) ≡ false)
unfolding refusal
allowed_zero shape h p first count e =
    four (is_live h p) (nat_eq count 0 || nat_lt (subpages shape) (first + count)) (is_split h p)
    (some_of shape first count (λ i. nat_eq (total h p i) 0)) reason.NoPage reason.BadRange reason.IsSplit reason.NotMapped e

-- the node is open
pub allowed_close : (shape : Shape) (h : History) → refusal shape h call.close ≡ None → is_closed h ≡ false
unfolding refusal
allowed_close shape h e = one (is_closed h) reason.Closed e

-- a call about a page that doesn't live
pub refused_gone : (shape : Shape) (h : History) (p : ℕ) → is_live h p ≡ false →
    (refusal shape h (call.map_whole p) ≡ Some reason.NoPage) × (refusal shape h (call.unmap_whole p) ≡ Some reason.NoPage)
    × ((first count : ℕ) → refusal shape h (call.map_sub p first count) ≡ Some reason.NoPage)
    × ((first count : ℕ) → refusal shape h (call.unmap_sub p first count) ≡ Some reason.NoPage)
    × (refusal shape h (call.split_pmd p) ≡ Some reason.NoPage) × (refusal shape h (call.pin p) ≡ Some reason.NoPage)
    × (refusal shape h (call.unpin p) ≡ Some reason.NoPage)
    × ((first count : ℕ) → refusal shape h (call.write p first count) ≡ Some reason.NoPage)
    × ((first count : ℕ) → refusal shape h (call.zero_fill p first count) ≡ Some reason.NoPage)
unfolding refusal
refused_gone shape h p e = (
  go _ _ e,
  go _ _ e,
  λ first count. go _ _ e,
  λ first count. go _ _ e,
  go _ _ e,
  go _ _ e,
  go _ _ e,
  λ first count. go _ _ e,
  λ first count. go _ _ e,
) where
  go : (l : Bool) (r : Option Refusal) → l ≡ false → cond (not l) (Some reason.NoPage) r ≡ Some reason.NoPage
  go true r e = absurd (cc)
  go false r e = refl
