-- The passes of all nodes, divided and joined one by one.
use Rattle.std.proofs.Common.{◌≡◌, ◌∙◌, ◌++◌, ◌+◌, ◌<◌, ◌≤◌, ap, ℕ, zero, suc, List, [], ◌∷◌, length, map, set, refl, sym, subst, arith, append_assoc, get_or, Option, Some, None, slice_get, All}
use Rattle.std.proofs.lemmas.List.{append-nil, length-map}
use Rattle.std.proofs.lemmas.List.Elements.{All-nil, All-cons, All-head, All-tail}
use Rattle.std.proofs.lemmas.Option.{slice_get-get_or}
use Rattle.thp_worker.specs.Prelude.{HoldsAllCallers, AreFrontsSplit, CanJoin, AreFrontsJoined, Held, keeping_node, KeepsNode}
use Rattle.thp_run.specs.Passes.{cell_in, shape_in, front_in, batch_in, fronts_of, IsOf, Agree, IsCut, IsOfAll, low_part, high_part, Adjoins, IsJoint, EachAdjoins, EachJoint}
use Rattle.thp_history.specs.Prelude.{History, events_of, IsLegal}
use Rattle.thp_cell.specs.Prelude.{PassState}
use Rattle.thp_worker.proofs.PartLaws.{lower_open, upper_open}

-- ---- the loops

-- one more element, changed, behind those that were
pub pushed : (f : Held → Held) (all rest after : List Held) (x y : Held) (done more : List Held) → map f all ≡ done ++ map f rest → rest ≡ x ∷ after → y ≡ f x → more ≡ done ++ y ∷ [] → map f all ≡ more ++ map f after
pushed f all rest after x y done more before is same now = before ∙ ap (λ l. done ++ map f l) is ∙ sym (append_assoc done (f x ∷ []) (map f after)) ∙ ap (λ (z : Held). (done ++ z ∷ []) ++ map f after) (sym same) ∙ ap (λ l. l ++ map f after) (sym now)

-- and all are done where none is left
pub all_done : (f : Held → Held) (all rest done : List Held) → map f all ≡ done ++ map f rest → length rest ≡ 0 → done ≡ map f all
all_done f all [] done is none = sym (is ∙ append-nil done)
all_done f all (x ∷ xs) done is none = absurd (omega (arith, none))

pub adjoins_first : (xs ys : List Held) (l r : Held) (ls rs : List Held) → xs ≡ l ∷ ls → ys ≡ r ∷ rs → EachAdjoins xs ys → Adjoins l r × EachAdjoins ls rs
unfolding EachAdjoins
adjoins_first xs ys l r ls rs left right a = let b = rw (left, right) at a in b

pub adjoins_some : (xs ys : List Held) (l : Held) (ls : List Held) → xs ≡ l ∷ ls → length ys ≡ 0 → EachAdjoins xs ys → ⊥
unfolding EachAdjoins
adjoins_some xs x l ls left none a = grind arith

pub joint_more : (nodes more xs ys ls rs all : List Held) (l r h : Held) (hs : List Held) → xs ≡ l ∷ ls → ys ≡ r ∷ rs → IsJoint l r h → EachJoint ls rs hs → ((zs : List Held) → EachJoint xs ys zs → EachJoint nodes more (all ++ zs)) → EachJoint nodes more ((all ++ h ∷ []) ++ hs)
unfolding EachJoint
joint_more nodes more xs ys ls rs all l r h hs left right one rest so_far = grind (arith, append_assoc)

pub joint_end : (nodes more xs ys all : List Held) → length xs ≡ 0 → EachAdjoins xs ys → ((zs : List Held) → EachJoint xs ys zs → EachJoint nodes more (all ++ zs)) → EachJoint nodes more all
unfolding EachAdjoins EachJoint
joint_end nodes more [] [] all none a so_far = subst (EachJoint nodes more) (append-nil all) (so_far [] tt)
joint_end nodes more [] (y ∷ ys) all none a so_far = absurd a
joint_end nodes more (x ∷ xs) ys all none a so_far = absurd (omega (arith, none))

-- ---- each element

-- what is the same of each element is the same at each place
same_at : {A : Type 0} (g : Option Held → A) (f : Held → Held) (xs : List Held) → ((k : ℕ) (h : Held) → slice_get xs k ≡ Some h → g (Some (f h)) ≡ g (Some h)) → (n : ℕ) → g (slice_get (map f xs) n) ≡ g (slice_get xs n)
same_at g f [] same n = refl
same_at g f (x ∷ xs) same zero = same 0 x refl
same_at g f (x ∷ xs) same (suc n) = same_at g f xs (λ k h e. same (suc k) h e) n

same_all : {A : Type 0} (g : Held → A) (f : Held → Held) (xs : List Held) → ((h : Held) → g (f h) ≡ g h) → map g (map f xs) ≡ map g xs
same_all g f [] same = refl
same_all g f (x ∷ xs) same = λ i. same x i ∷ same_all g f xs same i

of_each : (P Q : Held → Type 0) (f : Held → Held) (xs : List Held) → ((h : Held) → P h → Q (f h)) → ((n : ℕ) (h : Held) → slice_get xs n ≡ Some h → P h) → (n : ℕ) (h : Held) → slice_get (map f xs) n ≡ Some h → Q h
of_each P Q f [] go each n h e = absurd (cc)
of_each P Q f (x ∷ xs) go each zero h e = let is : f x ≡ h = cc in subst Q is (go x (each 0 x refl))
of_each P Q f (x ∷ xs) go each (suc n) h e = of_each P Q f xs go (λ k y at. each (suc k) y at) n h e

module _ (callers first end at : ℕ) (held : List Held) (agree : Agree callers first end held) where
  pub cut_each : first < at → at < end → All (IsCut at) held
  cut_each after before k d less = let is = agree.each k (get_or held k d) (slice_get-get_or held k d less) in record { after = omega (arith, is.first_is, after); before = omega (arith, is.end_is, before) }

  pub agree_low : Agree callers first at (map (low_part at) held)
  agree_low = record {
    few = rw (length-map held (low_part at)) agree.few;
    each = of_each (IsOf callers first end) (IsOf callers first at) (low_part at) held (λ h of. record { callers_are = of.callers_are; first_is = of.first_is; end_is = refl }) agree.each;
  }

  pub agree_high : Agree callers at end (map (high_part at) held)
  agree_high = record {
    few = rw (length-map held (high_part at)) agree.few;
    each = of_each (IsOf callers first end) (IsOf callers at end) (high_part at) held (λ h of. record { callers_are = of.callers_are; first_is = refl; end_is = of.end_is }) agree.each;
  }

  pub split_fronts : first < at → AreFrontsSplit at (fronts_of callers first end held) (fronts_of callers first at (map (low_part at) held)) (fronts_of callers at end (map (high_part at) held))
  split_fronts after = record {
    left = record {
      same = record {
        cells = same_all cell_in (low_part at) held (λ h. refl);
        nodes = length-map held (low_part at);
        shape = λ i n. same_at shape_in (low_part at) held (λ k h e. refl) n i;
        callers = refl;
      };
      front = λ n. same_at front_in (low_part at) held (λ k h e. refl) n;
      batches = λ c n has. same_at (batch_in c) (low_part at) held (λ k h e. lower_open h at c (rw (agree.each k h e).first_is has.low) has.high) n;
    };
    right = record {
      same = record {
        cells = same_all cell_in (high_part at) held (λ h. refl);
        nodes = length-map held (high_part at);
        shape = λ i n. same_at shape_in (high_part at) held (λ k h e. refl) n i;
        callers = refl;
      };
      front = λ n. same_at front_in (high_part at) held (λ k h e. refl) n;
      batches = λ c n has. same_at (batch_in c) (high_part at) held (λ k h e. upper_open h at c (rw (agree.each k h e).first_is after) has.low) n;
    };
    first = refl;
    middle = (refl, refl);
    end = refl;
  }

-- ---- joins

each_adjoins_of : (ls rs : List Held) → map cell_in rs ≡ map cell_in ls → ((n m : ℕ) (l r : Held) → slice_get ls n ≡ Some l → slice_get rs m ≡ Some r → l.pass.end ≡ r.pass.first) → EachAdjoins ls rs
unfolding EachAdjoins
each_adjoins_of [] [] cells adjacent = tt
each_adjoins_of [] (r ∷ rs) cells adjacent = absurd (cc)
each_adjoins_of (l ∷ ls) [] cells adjacent = absurd (cc)
each_adjoins_of (l ∷ ls) (r ∷ rs) cells adjacent =
    let head : cell_in r ≡ cell_in l = cc in
    let tail : map cell_in rs ≡ map cell_in ls = cc in
    (record { cell = head; adjacent = adjacent 0 0 l r refl refl }, each_adjoins_of ls rs tail (λ n m x y e f. adjacent (suc n) (suc m) x y e f))

-- each node's joint pass stands at its place
at_joint : (P : Option Held → Option Held → Option Held → Type 0) → P None None None → ((l r h : Held) → IsJoint l r h → P (Some l) (Some r) (Some h)) → (ls rs hs : List Held) → EachJoint ls rs hs → (n : ℕ) → P (slice_get ls n) (slice_get rs n) (slice_get hs n)
unfolding EachJoint
at_joint P none some [] [] [] j n = none
at_joint P none some (l ∷ ls) (r ∷ rs) (h ∷ hs) j zero = some l r h j.0
at_joint P none some (l ∷ ls) (r ∷ rs) (h ∷ hs) j (suc n) = at_joint P none some ls rs hs j.1 n
at_joint P none some _ _ _ j n = absurd j

joint_cells : (ls rs hs : List Held) → EachJoint ls rs hs → map cell_in hs ≡ map cell_in ls
unfolding EachJoint
joint_cells [] [] [] j = refl
joint_cells (l ∷ ls) (r ∷ rs) (h ∷ hs) j = λ i. ap (λ (p : PassState). p.cell) j.0.passes.callers i ∷ joint_cells ls rs hs j.1 i
joint_cells _ _ _ j = absurd j

joint_length : (ls rs hs : List Held) → EachJoint ls rs hs → length hs ≡ length ls
unfolding EachJoint
joint_length [] [] [] j = refl
joint_length (l ∷ ls) (r ∷ rs) (h ∷ hs) j = ap suc (joint_length ls rs hs j.1)
joint_length _ _ _ j = absurd j

module _ (callers first end callers' first' end' : ℕ) (ls rs : List Held) (left : Agree callers first end ls) (right : Agree callers' first' end' rs) where
  pub each_adjoins : CanJoin (fronts_of callers first end ls) (fronts_of callers' first' end' rs) → EachAdjoins ls rs
  each_adjoins can = each_adjoins_of ls rs can.same.cells (λ n m l r e f. (left.each n l e).end_is ∙ can.adjoin ∙ sym (right.each m r f).first_is)

  module _ (hs : List Held) (j : EachJoint ls rs hs) where
    pub agree_joint : Agree callers first end' hs
    agree_joint = record {
      few = rw (joint_length ls rs hs j) left.few;
      each = λ n h e. at_joint (λ l r x. ((y : Held) → l ≡ Some y → IsOf callers first end y) → ((y : Held) → r ≡ Some y → IsOf callers' first' end' y) → (y : Held) → x ≡ Some y → IsOf callers first end' y)
          (λ a b y is. absurd (cc))
          (λ l r x joint a b y is.
          let same : x ≡ y = cc in
          let of = a l refl in
          let last = b r refl in
          let p = joint.passes.callers in
          subst (IsOf callers first end') same (record {
            callers_are = ap (λ (q : PassState). q.callers) p ∙ of.callers_are;
            first_is = ap (λ (q : PassState). q.first) p ∙ of.first_is;
            end_is = ap (λ (q : PassState). q.end) p ∙ last.end_is;
          }))
          ls rs hs j n (λ y is. left.each n y is) (λ y is. right.each n y is) h e;
    }

    pub join_fronts : AreFrontsJoined (fronts_of callers first end ls) (fronts_of callers' first' end' rs) (fronts_of callers first end' hs)
    join_fronts = record {
      same = record {
        cells = joint_cells ls rs hs j;
        nodes = joint_length ls rs hs j;
        shape = λ i n. at_joint (λ l r h. shape_in h ≡ shape_in l) refl (λ l r h x. ap (λ (q : PassState). q.shape) x.passes.callers) ls rs hs j n i;
        callers = refl;
      };
      first = refl;
      end = refl;
      left = record {
        grown = λ n. at_joint (λ l r h. (more : History) × (front_in h ≡ front_in l ++ more)) ([], refl) (λ l r h x. (x.passes.left.others, x.passes.left.goes_on)) ls rs hs j n;
        own = λ c has. record {
          part = λ n. at_joint (λ l r h. ((y : Held) → l ≡ Some y → IsOf callers first end y) → events_of c (front_in h) ≡ events_of c (front_in l)) (λ a. refl) (λ l r h x a. let of = a l refl in x.left_parts c (record { from = rw of.first_is has.low; below = rw of.end_is has.high })) ls rs hs j n (λ y is. left.each n y is);
          batches = λ n. at_joint (λ l r h. ((y : Held) → l ≡ Some y → IsOf callers first end y) → batch_in c h ≡ batch_in c l) (λ a. refl) (λ l r h x a. let of = a l refl in x.left_batches c (record { from = rw of.first_is has.low; below = rw of.end_is has.high })) ls rs hs j n (λ y is. left.each n y is);
        };
      };
      right = record {
        grown = λ n. at_joint (λ l r h. (more : History) × (front_in h ≡ front_in r ++ more)) ([], refl) (λ l r h x. (x.passes.right.others, x.passes.right.goes_on)) ls rs hs j n;
        own = λ c has. record {
          part = λ n. at_joint (λ l r h. ((y : Held) → r ≡ Some y → IsOf callers' first' end' y) → events_of c (front_in h) ≡ events_of c (front_in r)) (λ a. refl) (λ l r h x a. let of = a r refl in x.right_parts c (record { from = rw of.first_is has.low; below = rw of.end_is has.high })) ls rs hs j n (λ y is. right.each n y is);
          batches = λ n. at_joint (λ l r h. ((y : Held) → r ≡ Some y → IsOf callers' first' end' y) → batch_in c h ≡ batch_in c r) (λ a. refl) (λ l r h x a. let of = a r refl in x.right_batches c (record { from = rw of.first_is has.low; below = rw of.end_is has.high })) ls rs hs j n (λ y is. right.each n y is);
        };
      };
      legal = λ n. at_joint (λ l r h. IsLegal (shape_in l) (front_in l) → IsLegal (shape_in r) (front_in r) → IsLegal (shape_in h) (front_in h)) (λ a b. a) (λ l r h x a b. x.legal) ls rs hs j n;
    }

-- ---- nodes that are kept

-- the first n nodes are kept
unfoldable pub kept_to : ℕ → List Held → List Held
kept_to n [] = []
kept_to zero (h ∷ hs) = h ∷ hs
kept_to (suc n) (h ∷ hs) = keeping_node h ∷ kept_to n hs

pub kept_none : (hs : List Held) → kept_to 0 hs ≡ hs
unfolding kept_to
kept_none [] = refl
kept_none (h ∷ hs) = refl

pub length-kept : (n : ℕ) (hs : List Held) → length (kept_to n hs) ≡ length hs
unfolding kept_to
length-kept n [] = refl
length-kept zero (h ∷ hs) = refl
length-kept (suc n) (h ∷ hs) = ap suc (length-kept n hs)

-- one more
pub kept_more : (n : ℕ) (hs : List Held) (h : Held) → slice_get (kept_to n hs) n ≡ Some h → set (kept_to n hs) n (keeping_node h) ≡ kept_to (n + 1) hs
unfolding kept_to
kept_more n [] h is = refl
kept_more zero (x ∷ hs) h is = let same : x ≡ h = cc in ap (λ y. keeping_node y ∷ hs) (sym same) ∙ ap (λ l. keeping_node x ∷ l) (sym (kept_none hs))
kept_more (suc n) (x ∷ hs) h is =
    let next : suc (n + 1) ≡ suc n + 1 = omega arith in
    ap (λ l. keeping_node x ∷ l) (kept_more n hs h is) ∙ ap (λ k. kept_to k (x ∷ hs)) next

-- all of them
pub kept_all : (n : ℕ) (hs : List Held) → length hs ≤ n → kept_to n hs ≡ map keeping_node hs
unfolding kept_to
kept_all n [] le = refl
kept_all zero (h ∷ hs) le = absurd (omega (arith, le))
kept_all (suc n) (h ∷ hs) le = ap (λ l. keeping_node h ∷ l) (kept_all n hs (omega (arith, le)))

pub each_keeps : (hs : List Held) → All KeepsNode (map keeping_node hs)
each_keeps [] = All-nil KeepsNode
each_keeps (h ∷ hs) = All-cons KeepsNode (keeping_node h) (map keeping_node hs) refl (each_keeps hs)

-- their passes have all callers still
pub kept_of_all : (n k : ℕ) (hs : List Held) (h : Held) → All IsOfAll hs → slice_get (kept_to n hs) k ≡ Some h → IsOfAll h
unfolding kept_to
kept_of_all n k [] h all is = absurd (cc)
kept_of_all zero zero (x ∷ hs) h all is = let same : x ≡ h = cc in subst IsOfAll same (All-head IsOfAll x hs all)
kept_of_all zero (suc k) (x ∷ hs) h all is = kept_of_all zero k hs h (All-tail IsOfAll x hs all) (ap (λ l. slice_get l k) (kept_none hs) ∙ is)
kept_of_all (suc n) zero (x ∷ hs) h all is =
    let same : keeping_node x ≡ h = cc in
    let whole = All-head IsOfAll x hs all in
    subst IsOfAll same record { from = whole.from; to = whole.to }
kept_of_all (suc n) (suc k) (x ∷ hs) h all is = kept_of_all n k hs h (All-tail IsOfAll x hs all) is

module _ (callers first end : ℕ) (held : List Held) where
  -- and what is known of the nodes is what it was
  pub kept_fronts : fronts_of callers first end (map keeping_node held) ≡ fronts_of callers first end held
  kept_fronts = λ i. record {
    cells = same_all cell_in keeping_node held (λ h. refl) i;
    nodes = length-map held keeping_node i;
    shape = λ n. same_at shape_in keeping_node held (λ k h e. refl) n i;
    front = λ n. same_at front_in keeping_node held (λ k h e. refl) n i;
    callers = callers;
    first = first;
    end = end;
    batches = λ c n. same_at (batch_in c) keeping_node held (λ k h e. refl) n i;
  }

  pub kept_agree : Agree callers first end held → Agree callers first end (map keeping_node held)
  kept_agree agree = record {
    few = rw (length-map held keeping_node) agree.few;
    each = of_each (IsOf callers first end) (IsOf callers first end) keeping_node held (λ h of. record { callers_are = of.callers_are; first_is = of.first_is; end_is = of.end_is }) agree.each;
  }

  pub agree_of_all : HoldsAllCallers (fronts_of callers first end held) → Agree callers first end held → All IsOfAll held
  agree_of_all all agree k d less = grind (arith, get_or, slice_get-get_or)
