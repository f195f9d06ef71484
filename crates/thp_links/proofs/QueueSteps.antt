-- What each call of a queue does to the links and to the queue's ends.
use Rattle.std.proofs.Common.{◌≡◌, ◌≢◌, ℕ, ◌+◌, ◌-◌, ◌<◌, ◌≤◌, List, [], ◌∷◌, ◌++◌, length, get_or, set, drop, Some, ◌⊎◌, inl, inr, sym, ap, ◌∙◌, refl, subst, arith, length-set, length-append, Contains, slice_get}
use Rattle.std.proofs.lemmas.List.Elements.{Contains-append_left, Contains-append_right, Contains-push}
use Rattle.std.proofs.lemmas.Option.{same_Some, none-some}
use Rattle.thp_links.specs.Prelude.{Link, NIL, Distinct, Apart, without_index, last_or, between, Segment, Stands, SameOutside, HasEnds, with_next, with_prev}
use Rattle.thp_links.proofs.Members.{Contains-head, Contains-behind, Contains-cons_cases, Contains-last, parts_of, Distinct-head, Distinct-behind, Distinct-cons, Distinct-left, Distinct-right, Distinct-without, Distinct-push, Apart-from_distinct, without_index-middle, first_or-absent, last_or-append, last_or-absent, length-distinct}
use Rattle.thp_links.proofs.Replacing.{slice_get-set_same, slice_get-set_other, length-with_next, length-with_prev}
use Rattle.thp_links.proofs.Segments.{Segment-with_next, Segment-with_prev, Segment-set, Segment-inside, Segment-absent, Segment-last, Segment-first, Segment-relast, Segment-refirst, relast-other, refirst-other, Segment-append, Segment-left, Segment-right}

-- the newest index, if there is one, is an index of the table
pub tail_inside : (h t n : ℕ) (xs : List ℕ) (ls : List Link) → HasEnds h t n xs → Stands xs ls → t ≢ NIL → t < length ls
tail_inside h t n xs ls e s ne = subst (λ (k : ℕ). k < length ls) (sym e.last) (Segment-last ls NIL xs NIL s.segment (λ z. ne (e.last ∙ z)))

-- there is room for one index more, so that the length still fits
pub room : (i : ℕ) (xs : List ℕ) (ls : List Link) → Stands xs ls → i < length ls → (Contains xs i → ⊥) → length xs < length ls
room i xs ls s inside out =
    let fits = length-distinct (i ∷ xs) (length ls) (Distinct-cons i xs out s.distinct) (λ j m. go j (Contains-cons_cases i xs j m)) in
    omega (arith, fits) where
      go : (j : ℕ) → (j ≡ i) ⊎ Contains xs j → j < length ls
      go j (inl e) = omega (arith, e, inside)
      go j (inr m) = Segment-inside ls NIL xs NIL j s.segment m

-- the first index after a push
pushed_head : (xs : List ℕ) (i n h k : ℕ) → n ≡ length xs → h ≡ get_or xs 0 NIL → ((n ≡ 0) × (k ≡ i)) ⊎ ((n ≢ 0) × (k ≡ h)) → k ≡ get_or (xs ++ i ∷ []) 0 NIL
pushed_head [] i n h k l f (inl c) = c.1
pushed_head [] i n h k l f (inr c) = absurd (c.0 l)
pushed_head (x ∷ xs) i n h k l f (inl c) = let z : n ≡ 0 = c.0 in absurd (omega arith)
pushed_head (x ∷ xs) i n h k l f (inr c) = c.1 ∙ f

-- a push leaves the ends right
pub ends_pushed : (h t n k i : ℕ) (xs : List ℕ) → HasEnds h t n xs → ((n ≡ 0) × (k ≡ i)) ⊎ ((n ≢ 0) × (k ≡ h)) → HasEnds k i (n + 1) (xs ++ i ∷ [])
ends_pushed h t n k i xs e c = record {
  first = pushed_head xs i n h k e.count e.first c;
  last = sym (last_or-append NIL xs (i ∷ []));
  count = omega (arith, e.count, length-append xs (i ∷ []));
}

-- the links after a push
unfoldable pub pushed : List Link → ℕ → ℕ → List Link
pushed ls t i = set (with_next ls t i) i (between t NIL)

-- a push lets the longer list stand, and changes the pairs of the new index and of the last one alone
pub stands_pushed : (i t : ℕ) (xs : List ℕ) (ls ms : List Link) → length ls ≤ NIL → Stands xs ls → i < length ls → (Contains xs i → ⊥) → t ≡ last_or NIL xs → ms ≡ pushed ls t i → Stands (xs ++ i ∷ []) ms × SameOutside (xs ++ i ∷ []) ls ms
unfolding pushed
stands_pushed i t xs ls ms small s inside out last links =
    let p = last_or NIL xs in
    let ks : List Link = with_next ls p i in
    let l : Link = between p NIL in
    let e : ms ≡ set ks i l = links ∙ ap (λ (k : ℕ). pushed ls k i) last in
    let segment : Segment (set ks i l) NIL (xs ++ i ∷ []) NIL = Segment-append (set ks i l) NIL xs (i ∷ []) NIL
    (Segment-set ks i l NIL xs i out (Segment-relast ls NIL xs NIL i s.distinct s.segment))
    (slice_get-set_same ks i l (omega (arith, length-with_next ls p i)), tt) in (
      record {
        segment = subst (λ (zs : List Link). Segment zs NIL (xs ++ i ∷ []) NIL) (sym e) segment;
        distinct = Distinct-push xs i s.distinct out;
      },
      record {
        same_length = ap length e ∙ length-set ks i l ∙ length-with_next ls p i;
        same_pairs = λ j absent.
            ap (λ (zs : List Link). slice_get zs j) e
            ∙ slice_get-set_other ks i l j (λ z. absent (subst (λ (k : ℕ). Contains (xs ++ i ∷ []) k) (sym z) (Contains-push xs i)))
            ∙ relast-other ls xs i j small (λ m. absent (Contains-append_left xs (i ∷ []) j m));
      },
    )

-- the first index after a removal
removed_head : (ls : List Link) (xs : List ℕ) (i : ℕ) (ys : List ℕ) (p n h k : ℕ) → length ls ≤ NIL → Segment ls NIL xs i → p ≡ last_or NIL xs → n ≡ get_or ys 0 NIL → h ≡ get_or (xs ++ i ∷ ys) 0 NIL → ((p ≡ NIL) × (k ≡ n)) ⊎ ((p ≢ NIL) × (k ≡ h)) → k ≡ get_or (xs ++ ys) 0 NIL
removed_head ls [] i ys p n h k small s pe ne he (inl c) = c.1 ∙ ne
removed_head ls [] i ys p n h k small s pe ne he (inr c) = absurd (c.0 pe)
removed_head ls (x ∷ xs) i ys p n h k small s pe ne he (inl c) =
    let below : last_or x xs < length ls = Segment-inside ls NIL (x ∷ xs) i (last_or x xs) s (Contains-last x xs) in
    let z : p ≡ NIL = c.0 in
    absurd (omega arith)
removed_head ls (x ∷ xs) i ys p n h k small s pe ne he (inr c) = c.1 ∙ he

-- the last index after a removal
removed_tail : (ls : List Link) (xs : List ℕ) (i : ℕ) (ys : List ℕ) (p n t k : ℕ) → length ls ≤ NIL → Segment ls i ys NIL → p ≡ last_or NIL xs → n ≡ get_or ys 0 NIL → t ≡ last_or NIL (xs ++ i ∷ ys) → ((n ≡ NIL) × (k ≡ p)) ⊎ ((n ≢ NIL) × (k ≡ t)) → k ≡ last_or NIL (xs ++ ys)
removed_tail ls xs i [] p n t k small s pe ne te (inl c) = c.1 ∙ pe ∙ sym (last_or-append NIL xs [])
removed_tail ls xs i [] p n t k small s pe ne te (inr c) = absurd (c.0 ne)
removed_tail ls xs i (y ∷ ys) p n t k small s pe ne te (inl c) =
    let below : y < length ls = Segment-inside ls i (y ∷ ys) NIL y s (Contains-head y ys) in
    let z : n ≡ NIL = c.0 in
    absurd (omega arith)
removed_tail ls xs i (y ∷ ys) p n t k small s pe ne te (inr c) =
    c.1 ∙ te ∙ last_or-append NIL xs (i ∷ y ∷ ys) ∙ sym (last_or-append NIL xs (y ∷ ys))

-- the links after a removal
unfoldable pub unlinked : List Link → ℕ → ℕ → List Link
unlinked ls p n = with_prev (with_next ls p n) n p

-- a removal joins the parts before and after the index
Segment-removed : (ls : List Link) (xs : List ℕ) (i : ℕ) (ys : List ℕ) → length ls ≤ NIL → Distinct (xs ++ i ∷ ys) → Segment ls NIL (xs ++ i ∷ ys) NIL → Segment (unlinked ls (last_or NIL xs) (get_or ys 0 NIL)) NIL (xs ++ ys) NIL
unfolding unlinked
Segment-removed ls xs i ys small d s =
    let p = last_or NIL xs in
    let n = get_or ys 0 NIL in
    let ms : List Link = with_next ls p n in
    let left = Segment-left ls NIL xs (i ∷ ys) NIL s in
    let right = (Segment-right ls NIL xs (i ∷ ys) NIL s).1 in
    let apart : Apart xs (i ∷ ys) = Apart-from_distinct xs (i ∷ ys) d in
    let parts : Apart xs ys = record { never_both = λ j m k. apart.never_both j m (Contains-behind i ys j k) } in
    let n_out = first_or-absent NIL xs ys (Segment-absent ls NIL xs i NIL small left) parts in
    let p_out = last_or-absent NIL xs ys (Segment-absent ls i ys NIL NIL small right) parts in
    let d_xs = Distinct-left xs (i ∷ ys) d in
    let d_ys = Distinct-behind i ys (Distinct-right xs (i ∷ ys) d) in
    Segment-append (with_prev ms n p) NIL xs ys NIL
    (Segment-with_prev ms n p NIL xs n n_out (Segment-relast ls NIL xs i n d_xs left))
    (Segment-refirst ms i p ys NIL d_ys (Segment-with_next ls p n i ys NIL p_out right))

-- a member of a list that stands, between its neighbours
module _ (i : ℕ) (xs : List ℕ) (ls : List Link) (small : length ls ≤ NIL) (stands : Stands xs ls) (member : Contains xs i) (l : Link) (value : slice_get ls i ≡ Some l) where
  before : List ℕ
  before = (parts_of xs i member).0

  after : List ℕ
  after = (parts_of xs i member).1

  split : xs ≡ before ++ i ∷ after
  unfolding before after
  split = (parts_of xs i member).2

  cut : Stands (before ++ i ∷ after) ls
  cut = subst (λ (ys : List ℕ). Stands ys ls) split stands

  left : Segment ls NIL before i
  left = Segment-left ls NIL before (i ∷ after) NIL cut.segment

  right : Segment ls (last_or NIL before) (i ∷ after) NIL
  right = Segment-right ls NIL before (i ∷ after) NIL cut.segment

  pair_is : l ≡ between (last_or NIL before) (get_or after 0 NIL)
  pair_is = same_Some l _ (sym value ∙ right.0)

  prev_is : l.prev ≡ last_or NIL before
  prev_is = ap (λ (k : Link). k.prev) pair_is

  next_is : l.next ≡ get_or after 0 NIL
  next_is = ap (λ (k : Link). k.next) pair_is

  -- the neighbours are indices of the table
  pub prev_inside : l.prev ≢ NIL → l.prev < length ls
  prev_inside ne = subst (λ (t : ℕ). t < length ls) (sym prev_is) (Segment-last ls NIL before i left (λ z. ne (prev_is ∙ z)))

  pub next_inside : l.next ≢ NIL → l.next < length ls
  next_inside ne = subst (λ (t : ℕ). t < length ls) (sym next_is) (Segment-first ls i after NIL right.1 (λ z. ne (next_is ∙ z)))

  rest_is : without_index i xs ≡ before ++ after
  rest_is =
      ap (λ (zs : List ℕ). without_index i zs) split
      ∙ without_index-middle i before after
      (λ m. (Apart-from_distinct before (i ∷ after) cut.distinct).never_both i m (Contains-head i after))
      (Distinct-head i after (Distinct-right before (i ∷ after) cut.distinct))

  -- a removal leaves the ends right
  pub ends_removed : (h t n k m : ℕ) → HasEnds h t n xs → ((l.prev ≡ NIL) × (k ≡ l.next)) ⊎ ((l.prev ≢ NIL) × (k ≡ h)) → ((l.next ≡ NIL) × (m ≡ l.prev)) ⊎ ((l.next ≢ NIL) × (m ≡ t)) → HasEnds k m (n - 1) (without_index i xs)
  ends_removed h t n k m e a b =
      let e' = subst (λ (ys : List ℕ). HasEnds h t n ys) split e in
      subst (λ (ys : List ℕ). HasEnds k m (n - 1) ys) (sym rest_is) (record {
        first = removed_head ls before i after l.prev l.next h k small left prev_is next_is e'.first a;
        last = removed_tail ls before i after l.prev l.next t m small right.1 prev_is next_is e'.last b;
        count = omega (arith, e'.count, length-append before (i ∷ after), length-append before after);
      })

  -- a removal lets the shorter list stand, and changes the pairs of its neighbours alone
  pub stands_removed : (ms : List Link) → ms ≡ unlinked ls l.prev l.next → Stands (without_index i xs) ms × SameOutside xs ls ms
  unfolding unlinked
  stands_removed ms links =
      let p = last_or NIL before in
      let n = get_or after 0 NIL in
      let ks : List Link = with_next ls p n in
      let e : ms ≡ unlinked ls p n = links ∙ ap (λ (k : Link). unlinked ls k.prev k.next) pair_is in
      let gone : (j : ℕ) → (Contains xs j → ⊥) → Contains (before ++ i ∷ after) j → ⊥ = λ j out. subst (λ (ys : List ℕ). Contains ys j → ⊥) split out in (
        record {
          segment = subst (λ (ys : List ℕ). Segment ms NIL ys NIL) (sym rest_is) (subst (λ (zs : List Link). Segment zs NIL (before ++ after) NIL) (sym e) (Segment-removed ls before i after small cut.distinct cut.segment));
          distinct = Distinct-without i xs stands.distinct;
        },
        record {
          same_length = ap length e ∙ length-with_prev ks n p ∙ length-with_next ls p n;
          same_pairs = λ j out.
              ap (λ (zs : List Link). slice_get zs j) e
              ∙ refirst-other ks after p j (omega (arith, length-with_next ls p n)) (λ m. gone j out (Contains-append_right before (i ∷ after) j (Contains-behind i after j m)))
              ∙ relast-other ls before n j small (λ m. gone j out (Contains-append_left before (i ∷ after) j m));
        },
      )

-- the pair of the oldest index
front_pair : (xs : List ℕ) (ls : List Link) (i : ℕ) (l : Link) → Segment ls NIL xs NIL → slice_get xs 0 ≡ Some i → slice_get ls i ≡ Some l → l ≡ between NIL (get_or (drop 1 xs) 0 NIL)
front_pair x ls i l s first value = grind (arith, none-some, same_Some, slice_get)

-- the pop of the oldest index lets the rest stand, and changes the pair of the next index alone
pub stands_popped : (xs : List ℕ) (ls ms : List Link) (i : ℕ) (l : Link) → length ls ≤ NIL → Stands xs ls → slice_get xs 0 ≡ Some i → slice_get ls i ≡ Some l → ms ≡ with_prev ls l.next NIL → Stands (drop 1 xs) ms × SameOutside xs ls ms
stands_popped [] ls ms i l small s first value links = absurd (none-some i first)
stands_popped (x ∷ xs) ls ms i l small s first value links =
    let n = get_or xs 0 NIL in
    let e : ms ≡ with_prev ls n NIL = links ∙ ap (λ (k : Link). with_prev ls k.next NIL) (front_pair (x ∷ xs) ls i l s.segment first value) in (
      record {
        segment = subst (λ (zs : List Link). Segment zs NIL xs NIL) (sym e) (Segment-refirst ls x NIL xs NIL (Distinct-behind x xs s.distinct) s.segment.1);
        distinct = Distinct-behind x xs s.distinct;
      },
      record {
        same_length = ap length e ∙ length-with_prev ls n NIL;
        same_pairs = λ j out.
            ap (λ (zs : List Link). slice_get zs j) e ∙ refirst-other ls xs NIL j small (λ m. out (Contains-behind x xs j m));
      },
    )

-- the index after the oldest one, if there is one, is an index of the table
pub second_inside : (xs : List ℕ) (ls : List Link) (i : ℕ) (l : Link) → Stands xs ls → slice_get xs 0 ≡ Some i → slice_get ls i ≡ Some l → l.next ≢ NIL → l.next < length ls
second_inside [] ls i l s first value ne = absurd (none-some i first)
second_inside (x ∷ xs) ls i l s first value ne =
    let e : l.next ≡ get_or xs 0 NIL = ap (λ (k : Link). k.next) (front_pair (x ∷ xs) ls i l s.segment first value) in
    subst (λ (k : ℕ). k < length ls) (sym e) (Segment-first ls x xs NIL s.segment.1 (λ z. ne (e ∙ z)))

-- the pop of the oldest index leaves the ends right
pub ends_popped : (xs : List ℕ) (ls : List Link) (i : ℕ) (l : Link) (h t n m : ℕ) → length ls ≤ NIL → Stands xs ls → slice_get xs 0 ≡ Some i → slice_get ls i ≡ Some l → HasEnds h t n xs → ((l.next ≡ NIL) × (m ≡ NIL)) ⊎ ((l.next ≢ NIL) × (m ≡ t)) → HasEnds l.next m (n - 1) (drop 1 xs)
ends_popped [] ls i l h t n m small s first value e b = absurd (none-some i first)
ends_popped (x ∷ xs) ls i l h t n m small s first value e b =
    let next : l.next ≡ get_or xs 0 NIL = ap (λ (k : Link). k.next) (front_pair (x ∷ xs) ls i l s.segment first value) in
    record {
      first = next;
      last = removed_tail ls [] x xs NIL l.next t m small s.segment.1 refl next e.last b;
      count = omega (arith, e.count);
    }
