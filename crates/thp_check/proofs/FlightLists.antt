-- The lists of flights: a block joins one, or leaves it.
use Rattle.std.proofs.Common.{◌≡◌, ◌≢◌, ℕ, zero, suc, ◌%◌, ◌<◌, ◌≤◌, Bool, true, false, cond, ◌∷◌, ◌++◌, List, [], Option, Some, None, length, take, add-one, ◌+◌, refl, ap, ap₂, sym, ◌∙◌, subst, arith, nat_eq, get_or, eq-eqb, ne_eqb, eqb-true, inl, inr, ◌⊎◌, replicate, Contains, length-set, slice_get, slice_set, IfSome, filter, get_or-set_same, get_or-set_other}
use Rattle.std.proofs.lemmas.Bool.Decides.{eqb_tells}
use Rattle.std.proofs.lemmas.List.Elements.{filter-append, Contains-push_cases}
use Rattle.thp_links.specs.declared.link.Link.{Link}
use Rattle.thp_links.specs.declared.link.TheConstants.{NIL}
use Rattle.thp_links.specs.Prelude.{without_index, Stands, SameOutside, between}
use Rattle.thp_links.proofs.Members.{empty_from_first, Contains-nil, Contains-head, Contains-behind, Contains-cons_cases, Contains-from_without}
use Rattle.thp_links.proofs.OneTable.{Stands-kept, Stands-inside}
use Rattle.thp_history.proofs.ListPlaces.{append_none}
use Rattle.thp_check.specs.Prelude.{FlightsState, AreLinked, caller_at, list_at, blocks_in, flight_left}
use Rattle.thp_live_pages.proofs.Walking.{next_at, there_is, take_all, filter_more}

-- two tests that agree on a list
filter_agree : (p q : ℕ → Bool) (xs : List ℕ) → ((x : ℕ) → Contains xs x → p x ≡ q x) → filter p xs ≡ filter q xs
filter_agree p q [] e = refl
filter_agree p q (x ∷ xs) e =
    ap₂ (λ b (ys : List ℕ). cond b (x ∷ ys) ys) (e x (Contains-head x xs)) (filter_agree p q xs (λ y m. e y (Contains-behind x xs y m)))

-- a test that says yes only where another does
filter_weaker : (p q : ℕ → Bool) (xs : List ℕ) → ((x : ℕ) → p x ≡ true → q x ≡ true) → filter p (filter q xs) ≡ filter p xs
filter_weaker p q [] e = refl
filter_weaker p q (x ∷ xs) e = go (q x) (p x) refl refl (filter_weaker p q xs e) where
  go : (b a : Bool) → q x ≡ b → p x ≡ a → filter p (filter q xs) ≡ filter p xs → filter p (cond b (x ∷ filter q xs) (filter q xs)) ≡ cond a (x ∷ filter p xs) (filter p xs)
  go true a s t m = ap₂ (λ c (ys : List ℕ). cond c (x ∷ ys) ys) t m
  go false true s t m = absurd (let yes = e x t in cc)
  go false false s t m = m

-- the order of two tests
filter_swap : (p q : ℕ → Bool) (xs : List ℕ) → filter p (filter q xs) ≡ filter q (filter p xs)
filter_swap p q [] = refl
filter_swap p q (x ∷ xs) = go (q x) (p x) refl refl (filter_swap p q xs) where
  go : (b a : Bool) → q x ≡ b → p x ≡ a → filter p (filter q xs) ≡ filter q (filter p xs) → filter p (cond b (x ∷ filter q xs) (filter q xs)) ≡ filter q (cond a (x ∷ filter p xs) (filter p xs))
  go true true s t m =
      ap (λ c. cond c (x ∷ filter p (filter q xs)) (filter p (filter q xs))) t ∙ ap (λ (ys : List ℕ). x ∷ ys) m ∙ sym (ap (λ c. cond c (x ∷ filter q (filter p xs)) (filter q (filter p xs))) s)
  go true false s t m = ap (λ c. cond c (x ∷ filter p (filter q xs)) (filter p (filter q xs))) t ∙ m
  go false true s t m = m ∙ sym (ap (λ c. cond c (x ∷ filter q (filter p xs)) (filter q (filter p xs))) s)
  go false false s t m = m

-- what passes the test stays, and what stayed passes it
filter_has : (p : ℕ → Bool) (xs : List ℕ) (x : ℕ) → Contains xs x → p x ≡ true → Contains (filter p xs) x
filter_has p [] x m e = absurd (Contains-nil x m)
filter_has p (y ∷ ys) x m e = elim (Contains-cons_cases y ys x m) [
  | inl is ↦
      let P : Bool → Type 0 = λ b. Contains (cond b (y ∷ filter p ys) (filter p ys)) x in
      let Q : ℕ → Type 0 = λ z. Contains (z ∷ filter p ys) x in
      subst P (sym (ap p (sym is) ∙ e)) (subst Q is (Contains-head x (filter p ys)))
  | inr k ↦ go (p y) (filter_has p ys x k e)
] where
  go : (b : Bool) → Contains (filter p ys) x → Contains (cond b (y ∷ filter p ys) (filter p ys)) x
  go true k = Contains-behind y (filter p ys) x k
  go false k = k

filter_had : (p : ℕ → Bool) (xs : List ℕ) (x : ℕ) → Contains (filter p xs) x → Contains xs x × (p x ≡ true)
filter_had p [] x m = absurd (Contains-nil x m)
filter_had p (y ∷ ys) x m = go (p y) refl m (λ k. filter_had p ys x k) where
  behind : Contains ys x × (p x ≡ true) → Contains (y ∷ ys) x × (p x ≡ true)
  behind w = (Contains-behind y ys x w.0, w.1)

  go : (b : Bool) → p y ≡ b → Contains (cond b (y ∷ filter p ys) (filter p ys)) x → (Contains (filter p ys) x → Contains ys x × (p x ≡ true)) → Contains (y ∷ ys) x × (p x ≡ true)
  go true e m more = elim (Contains-cons_cases y (filter p ys) x m) [
    | inl is ↦ let Q : ℕ → Type 0 = λ z. Contains (z ∷ ys) x in (subst Q is (Contains-head x ys), ap p is ∙ e)
    | inr k ↦ behind (more k)
  ]
  go false e m more = behind (more m)

-- the list of a caller after another list was put in the place of that of caller c
list_after : (ls : List (List ℕ)) (c d : ℕ) (xs : List ℕ) → length ls ≡ 4096 → d % 4096 ≡ c % 4096 → list_at (slice_set ls (c % 4096) xs) (d % 4096) ≡ xs
list_after ls c d xs size same = ap (list_at (slice_set ls (c % 4096) xs)) same ∙ get_or-set_same ls (c % 4096) xs [] (omega (arith, size))

list_other : (ls : List (List ℕ)) (k n : ℕ) (xs : List ℕ) → n ≢ k → list_at (slice_set ls k xs) n ≡ list_at ls n
list_other ls k n xs other = get_or-set_other ls k n xs [] other

unequal : (c d : ℕ) → d % 4096 ≢ c % 4096 → nat_eq c d ≡ false
unequal c d other = ne_eqb c d (λ e. other (ap (λ n. n % 4096) (sym e)))

-- the caller of a block, before and after that of block b was set
caller_same : (cs : List ℕ) (b c : ℕ) → b < length cs → caller_at (slice_set cs b c) b ≡ c
caller_same cs b c inside = get_or-set_same cs b c 0 inside

caller_other : (cs : List ℕ) (b c x : ℕ) → x ≢ b → caller_at (slice_set cs b c) x ≡ caller_at cs x
caller_other cs b c x other = get_or-set_other cs b x c 0 other

module _ (cs : List ℕ) (ls : List (List ℕ)) (links : List Link) (m : AreLinked cs ls links) where
  -- a block that is in no flight is in no list
  pub listless : (b : ℕ) (f : FlightsState) → record { callers = cs; lists = ls } ≡ f → ((c : ℕ) → Contains (blocks_in f c) b → ⊥) → (k : ℕ) → Contains (list_at ls k) b → ⊥
  unfolding blocks_in
  listless b f view none k i =
      let own : caller_at cs b % 4096 ≡ k = m.own k b i in
      let P : ℕ → Type 0 = λ n. Contains (list_at ls n) b in
      let Q : FlightsState → Type 0 = λ g. Contains (blocks_in g (caller_at cs b)) b in
      none (caller_at cs b)
      (subst Q view (filter_has (λ x. nat_eq (caller_at cs x) (caller_at cs b)) (list_at ls (caller_at cs b % 4096)) b (subst P (sym own) i) (eq-eqb (caller_at cs b) (caller_at cs b) refl)))

  -- a block of a flight is in the caller's list, as the caller's
  pub listed : (b c : ℕ) (f : FlightsState) → record { callers = cs; lists = ls } ≡ f → Contains (blocks_in f c) b → Contains (list_at ls (c % 4096)) b × (caller_at cs b ≡ c)
  unfolding blocks_in
  listed b c f view i =
      let Q : FlightsState → Type 0 = λ g. Contains (blocks_in g c) b in
      let w = filter_had (λ x. nat_eq (caller_at cs x) c) (list_at ls (c % 4096)) b (subst Q (sym view) i) in
      (w.0, eqb-true (caller_at cs b) c w.1)

  -- a block joins the flight of caller c
  module _ (b c : ℕ) (inside : b < length cs) (none : (k : ℕ) → Contains (list_at ls k) b → ⊥) where
    abbrev longer : List ℕ
    longer = list_at ls (c % 4096) ++ b ∷ []

    abbrev joined : FlightsState
    joined = record { callers = slice_set cs b c; lists = slice_set ls (c % 4096) longer }

    others : (k x : ℕ) → Contains (list_at ls k) x → x ≢ b
    others k x i e = none k (let P : ℕ → Type 0 = λ y. Contains (list_at ls k) y in subst P e i)

    agrees : (k d : ℕ) → filter (λ x. nat_eq (caller_at (slice_set cs b c) x) d) (list_at ls k) ≡ filter (λ x. nat_eq (caller_at cs x) d) (list_at ls k)
    agrees k d =
        filter_agree (λ x. nat_eq (caller_at (slice_set cs b c) x) d) (λ x. nat_eq (caller_at cs x) d) (list_at ls k) (λ x i. ap (λ n. nat_eq n d) (caller_other cs b c x (others k x i)))

    pub joins : (d : ℕ) → blocks_in joined d ≡ cond (nat_eq c d) (blocks_in (record { callers = cs; lists = ls }) d ++ b ∷ []) (blocks_in (record { callers = cs; lists = ls }) d)
    unfolding blocks_in
    joins d = elim (eqb_tells (d % 4096) (c % 4096)) [
      | inl y ↦
          let test : ℕ → Bool = λ x. nat_eq (caller_at (slice_set cs b c) x) d in
          ap (filter test) (list_after ls c d longer m.count y.1) ∙ filter-append test (list_at ls (c % 4096)) (b ∷ [])
          ∙ ap₂ (λ (xs : List ℕ) a. xs ++ cond a (b ∷ []) []) (agrees (c % 4096) d ∙ ap (λ n. filter (λ x. nat_eq (caller_at cs x) d) (list_at ls n)) (sym y.1)) (ap (λ n. nat_eq n d) (caller_same cs b c inside))
          ∙ last (nat_eq c d) (filter (λ x. nat_eq (caller_at cs x) d) (list_at ls (d % 4096)))
      | inr y ↦
          ap (filter (λ x. nat_eq (caller_at (slice_set cs b c) x) d)) (list_other ls (c % 4096) (d % 4096) longer y.1) ∙ agrees (d % 4096) d
          ∙ sym (ap (λ a. cond a (filter (λ x. nat_eq (caller_at cs x) d) (list_at ls (d % 4096)) ++ b ∷ []) (filter (λ x. nat_eq (caller_at cs x) d) (list_at ls (d % 4096)))) (unequal c d y.1))
    ] where
      last : (a : Bool) (xs : List ℕ) → xs ++ cond a (b ∷ []) [] ≡ cond a (xs ++ b ∷ []) xs
      last true xs = refl
      last false xs = append_none xs

    -- what is in the longer list was there or is b
    longer_has : (x : ℕ) → Contains longer x → Contains (list_at ls (c % 4096)) x ⊎ (b ≡ x)
    longer_has x i = Contains-push_cases (list_at ls (c % 4096)) b x i

    pub joins_linked : (new : List Link) → Stands longer new → SameOutside longer links new → AreLinked (slice_set cs b c) (slice_set ls (c % 4096) longer) new
    joins_linked new stands outside = record {
      sizes = length-set cs b c ∙ m.sizes ∙ sym outside.same_length;
      count = length-set ls (c % 4096) longer ∙ m.count;
      each_stands = λ k.
          let P : List ℕ → Type 0 = λ xs. Stands xs new in
          elim (eqb_tells k (c % 4096)) [
            | inl y ↦ subst P (sym (ap (list_at (slice_set ls (c % 4096) longer)) y.1 ∙ get_or-set_same ls (c % 4096) longer [] (omega (arith, m.count)))) stands
            | inr y ↦ subst P (sym (list_other ls (c % 4096) k longer y.1)) (Stands-kept (m.each_stands k) outside (record { never_both = apart k y.1 }))
          ];
      own = λ k x i.
          elim (eqb_tells k (c % 4096)) [
            | inl y ↦
                let P : List ℕ → Type 0 = λ xs. Contains xs x in
                elim (longer_has x (subst P (ap (list_at (slice_set ls (c % 4096) longer)) y.1 ∙ get_or-set_same ls (c % 4096) longer [] (omega (arith, m.count))) i)) [
                  | inl o ↦ ap (λ n. n % 4096) (caller_other cs b c x (others (c % 4096) x o)) ∙ m.own (c % 4096) x o ∙ sym y.1
                  | inr e ↦ ap (λ z. caller_at (slice_set cs b c) z % 4096) (sym e) ∙ ap (λ n. n % 4096) (caller_same cs b c inside) ∙ sym y.1
                ]
            | inr y ↦
                let P : List ℕ → Type 0 = λ xs. Contains xs x in
                let o : Contains (list_at ls k) x = subst P (list_other ls (c % 4096) k longer y.1) i in
                ap (λ n. n % 4096) (caller_other cs b c x (others k x o)) ∙ m.own k x o
          ];
    } where
      apart : (k : ℕ) → k ≢ c % 4096 → (x : ℕ) → Contains (list_at ls k) x → Contains longer x → ⊥
      apart k other x i j = elim (longer_has x j) [
        | inl o ↦ other (sym (m.own k x i) ∙ m.own (c % 4096) x o)
        | inr e ↦ others k x i (sym e)
      ]

    -- the same, where the list and its place are given by equations
    module _ (k : ℕ) (ys : List ℕ) (place : k ≡ c % 4096) (is : ys ≡ longer) where
      pub joined_linked : (new : List Link) → Stands ys new → SameOutside ys links new → AreLinked (slice_set cs b c) (slice_set ls k ys) new
      joined_linked new stands outside = grind (arith, slice_set, joins_linked)

      pub joined_blocks : (f : FlightsState) → record { callers = cs; lists = ls } ≡ f → (d : ℕ) →
          blocks_in (record { callers = slice_set cs b c; lists = slice_set ls k ys }) d ≡ cond (nat_eq c d) (blocks_in f d ++ b ∷ []) (blocks_in f d)
      joined_blocks f view d = grind (arith, slice_set, joins, nat_eq)

  -- a block leaves the flight of caller c
  module _ (b c : ℕ) (there : Contains (list_at ls (c % 4096)) b) (its : caller_at cs b ≡ c) where
    abbrev shorter : List ℕ
    shorter = without_index b (list_at ls (c % 4096))

    abbrev left : FlightsState
    left = record { callers = cs; lists = slice_set ls (c % 4096) shorter }

    pub leaves : (d : ℕ) → blocks_in left d ≡ flight_left (Some c) b d (blocks_in (record { callers = cs; lists = ls }) d)
    unfolding blocks_in
    leaves d = grind (arith, eqb_tells, nat_eq, list_after, list_other, unequal, filter_swap, filter_weaker, ne_eqb, eqb-true, eq-eqb)

    pub leaves_linked : (new : List Link) → Stands shorter new → SameOutside (list_at ls (c % 4096)) links new → AreLinked cs (slice_set ls (c % 4096) shorter) new
    leaves_linked new stands outside = record {
      sizes = m.sizes ∙ sym outside.same_length;
      count = length-set ls (c % 4096) shorter ∙ m.count;
      each_stands = λ k.
          let P : List ℕ → Type 0 = λ xs. Stands xs new in
          elim (eqb_tells k (c % 4096)) [
            | inl y ↦ subst P (sym (ap (list_at (slice_set ls (c % 4096) shorter)) y.1 ∙ get_or-set_same ls (c % 4096) shorter [] (omega (arith, m.count)))) stands
            | inr y ↦
                subst P (sym (list_other ls (c % 4096) k shorter y.1))
                (Stands-kept (m.each_stands k) outside (record { never_both = λ x i j. y.1 (sym (m.own k x i) ∙ m.own (c % 4096) x j) }))
          ];
      own = λ k x i.
          let P : List ℕ → Type 0 = λ xs. Contains xs x in
          elim (eqb_tells k (c % 4096)) [
            | inl y ↦
                m.own (c % 4096) x
                (Contains-from_without b (list_at ls (c % 4096)) x (subst P (ap (list_at (slice_set ls (c % 4096) shorter)) y.1 ∙ get_or-set_same ls (c % 4096) shorter [] (omega (arith, m.count))) i)).0 ∙ sym y.1
            | inr y ↦ m.own k x (subst P (list_other ls (c % 4096) k shorter y.1) i)
          ];
    }

    -- the same, where the list and its place are given by equations
    module _ (k : ℕ) (ys : List ℕ) (place : k ≡ c % 4096) (is : ys ≡ shorter) where
      pub left_linked : (new : List Link) → Stands ys new → SameOutside (list_at ls (c % 4096)) links new → AreLinked cs (slice_set ls k ys) new
      left_linked new stands outside = grind (arith, slice_set, leaves_linked)

      pub left_blocks : (f : FlightsState) → record { callers = cs; lists = ls } ≡ f → (d : ℕ) →
          blocks_in (record { callers = cs; lists = slice_set ls k ys }) d ≡ flight_left (Some c) b d (blocks_in f d)
      left_blocks f view d = grind (arith, slice_set, leaves)

-- what stands at a place inside a list needs no default
any_default : (ls : List (List ℕ)) (k : ℕ) (xs ys : List ℕ) → k < length ls → get_or ls k xs ≡ get_or ls k ys
any_default [] k xs ys below = absurd (omega arith)
any_default (l ∷ ls) zero xs ys below = refl
any_default (l ∷ ls) (suc k) xs ys below = any_default ls k xs ys (omega arith)

-- the list that was read is that of the caller
pub read_list : (ls : List (List ℕ)) (k c : ℕ) (xs ys : List ℕ) → length ls ≡ 4096 → k < 4096 → k ≡ c % 4096 → xs ≡ get_or ls k ys → xs ≡ list_at ls (c % 4096)
read_list ls k c xs ys size below place is = is ∙ any_default ls k ys [] (omega (arith, size)) ∙ ap (list_at ls) place

-- no index passed the test so far: the next one does, or doesn't, or there is none
first_found : (p : ℕ → Bool) (xs : List ℕ) (k : ℕ) → k < length xs → filter p (take k xs) ≡ [] → p (get_or xs k NIL) ≡ true → slice_get (filter p xs) 0 ≡ Some (get_or xs k NIL)
first_found p [] k below none is = absurd (omega arith)
first_found p (x ∷ xs) zero below none is = ap (λ b. slice_get (cond b (x ∷ filter p xs) (filter p xs)) 0) is
first_found p (x ∷ xs) (suc k) below none is = go (p x) none (λ n. first_found p xs k (omega arith) n is) where
  go : (b : Bool) → cond b (x ∷ filter p (take k xs)) (filter p (take k xs)) ≡ [] → (filter p (take k xs) ≡ [] → slice_get (filter p xs) 0 ≡ Some (get_or xs k NIL)) →
      slice_get (cond b (x ∷ filter p xs) (filter p xs)) 0 ≡ Some (get_or xs k NIL)
  go true n more = absurd (cc)
  go false n more = more n

none_more : (p : ℕ → Bool) (xs : List ℕ) (k : ℕ) → k < length xs → filter p (take k xs) ≡ [] → p (get_or xs k NIL) ≡ false → filter p (take (suc k) xs) ≡ []
none_more p [] k below none is = absurd (omega arith)
none_more p (x ∷ xs) zero below none is = ap (λ b. cond b (x ∷ []) []) is
none_more p (x ∷ xs) (suc k) below none is = go (p x) none (λ n. none_more p xs k (omega arith) n is) where
  go : (b : Bool) → cond b (x ∷ filter p (take k xs)) (filter p (take k xs)) ≡ [] → (filter p (take k xs) ≡ [] → filter p (take (suc k) xs) ≡ []) →
      cond b (x ∷ filter p (take (suc k) xs)) (filter p (take (suc k) xs)) ≡ []
  go true n more = absurd (cc)
  go false n more = more n

none_left : (p : ℕ → Bool) (xs : List ℕ) (k : ℕ) → length xs ≤ k → filter p (take k xs) ≡ [] → slice_get (filter p xs) 0 ≡ None
none_left p [] k past none = refl
none_left p (x ∷ xs) zero past none = absurd (omega arith)
none_left p (x ∷ xs) (suc k) past none = go (p x) none (none_left p xs k (omega arith)) where
  go : (b : Bool) → cond b (x ∷ filter p (take k xs)) (filter p (take k xs)) ≡ [] → (filter p (take k xs) ≡ [] → slice_get (filter p xs) 0 ≡ None) → slice_get (cond b (x ∷ filter p xs) (filter p xs)) 0 ≡ None
  go true n more = absurd (cc)
  go false n more = more n

any_number : (ns : List ℕ) (k m n : ℕ) → k < length ns → get_or ns k m ≡ get_or ns k n
any_number [] k m n below = absurd (omega arith)
any_number (x ∷ ns) zero m n below = refl
any_number (x ∷ ns) (suc k) m n below = any_number ns k m n (omega arith)

-- the search for the first block of caller c along the list xs in which it is
module _ (cs : List ℕ) (ls : List (List ℕ)) (links : List Link) (m : AreLinked cs ls links) (f : FlightsState) (view : record { callers = cs; lists = ls } ≡ f) (c : ℕ) (xs : List ℕ)
    (read : xs ≡ list_at ls (c % 4096)) where
  abbrev is_its : ℕ → Bool
  is_its x = nat_eq (caller_at f.callers x) c

  abbrev its_list : List ℕ
  its_list = list_at f.lists (c % 4096)

  list_is : xs ≡ its_list
  list_is = read ∙ ap (λ (g : FlightsState). list_at g.lists (c % 4096)) view

  -- the block at a place, and its caller
  pub place_inside : (k b : ℕ) → b ≡ get_or its_list k NIL → k < length xs → b < length links
  place_inside k b next below =
      let P : ℕ → Type 0 = λ x. Contains (list_at ls (c % 4096)) x in
      let same : b ≡ get_or (list_at ls (c % 4096)) k NIL = next ∙ ap (λ (ys : List ℕ). get_or ys k NIL) (sym list_is ∙ read) in
      let short : k < length (list_at ls (c % 4096)) = omega (arith, below, ap (λ (ys : List ℕ). length ys) read) in
      Stands-inside b (m.each_stands (c % 4096)) (subst P (sym same) (there_is (list_at ls (c % 4096)) k short))

  caller_is : (k b n : ℕ) → b ≡ get_or its_list k NIL → k < length xs → n ≡ get_or cs b n → caller_at f.callers b ≡ n
  caller_is k b n next below is = grind (arith, any_number, place_inside)

  pub nothing_there : None ≡ slice_get xs 0 → slice_get (blocks_in f c) 0 ≡ None
  unfolding blocks_in
  nothing_there none = ap (λ (ys : List ℕ). slice_get (filter is_its ys) 0) (sym list_is ∙ empty_from_first xs (sym none))

  pub found_there : (k b n : ℕ) → b ≡ get_or its_list k NIL → filter is_its (take k its_list) ≡ [] → k < length xs → n ≡ get_or cs b n → n ≡ c → slice_get (blocks_in f c) 0 ≡ Some b
  unfolding blocks_in
  found_there k b n next passed below is same = grind (arith, first_found, list_is, eq-eqb, caller_is)

  pub none_ended : (k : ℕ) → length xs ≤ k → filter is_its (take k its_list) ≡ [] → slice_get (blocks_in f c) 0 ≡ None
  unfolding blocks_in
  none_ended k past passed = none_left is_its its_list k (omega (arith, past, ap (λ (ys : List ℕ). length ys) list_is)) passed

  pub passed_on : (k b n : ℕ) → b ≡ get_or its_list k NIL → filter is_its (take k its_list) ≡ [] → k < length xs → n ≡ get_or cs b n → n ≢ c → filter is_its (take (k + 1) its_list) ≡ []
  passed_on k b n next passed below is other = grind (arith, add-one, none_more, list_is, ne_eqb, caller_is)

  pub kept_on : (k b n : ℕ) → b ≡ get_or its_list k NIL → k < length xs → n ≡ get_or cs b n → n ≡ c → filter is_its (take (k + 1) its_list) ≡ filter is_its (take k its_list) ++ b ∷ []
  kept_on k b n next below is same =
      filter_more is_its its_list k b (omega (arith, below, ap (λ (ys : List ℕ). length ys) list_is)) next
      ∙ ap (λ y. filter is_its (take k its_list) ++ cond y (b ∷ []) []) (eq-eqb (caller_at f.callers b) c (caller_is k b n next below is ∙ same))

  pub passed_by : (k b n : ℕ) → b ≡ get_or its_list k NIL → k < length xs → n ≡ get_or cs b n → n ≢ c → filter is_its (take (k + 1) its_list) ≡ filter is_its (take k its_list)
  passed_by k b n next below is other =
      filter_more is_its its_list k b (omega (arith, below, ap (λ (ys : List ℕ). length ys) list_is)) next
      ∙ ap (λ y. filter is_its (take k its_list) ++ cond y (b ∷ []) []) (ne_eqb (caller_at f.callers b) c (λ e. other (sym (caller_is k b n next below is) ∙ e)))
      ∙ append_none (filter is_its (take k its_list))

  pub all_passed : (k : ℕ) → length xs ≤ k → filter is_its (take k its_list) ≡ blocks_in f c
  unfolding blocks_in
  all_passed k past = ap (filter is_its) (take_all its_list k (omega (arith, past, ap (λ (ys : List ℕ). length ys) list_is)))

  pub next_after : (k b v : ℕ) → b ≡ get_or its_list k NIL → k < length xs → IfSome (slice_get links b) (λ l. v ≡ l.next) → v ≡ get_or its_list (k + 1) NIL
  next_after k b v next below reported =
      let P : Option Link → Type 0 = λ o. IfSome o (λ l. v ≡ l.next) in
      let ys : List ℕ = list_at ls (c % 4096) in
      let w = next_at links NIL ys k (m.each_stands (c % 4096)).segment (omega (arith, below, ap (λ (zs : List ℕ). length zs) read)) in
      let at : slice_get links b ≡ Some (between w.0 (get_or ys (suc k) NIL)) = ap (slice_get links) (next ∙ ap (λ (zs : List ℕ). get_or zs k NIL) (sym list_is ∙ read)) ∙ w.1 in
      subst P at reported ∙ ap (λ (zs : List ℕ). get_or zs (suc k) NIL) (sym read ∙ list_is) ∙ ap (λ j. get_or its_list j NIL) (sym (add-one k))

-- lists with no block
abbrev pub no_blocks : List ℕ
no_blocks = []

pub empty_at : (n k : ℕ) → list_at (replicate n no_blocks) k ≡ []
empty_at zero k = refl
empty_at (suc n) zero = refl
empty_at (suc n) (suc k) = empty_at n k

pub empty_in : (cs : List ℕ) (n d : ℕ) → blocks_in (record { callers = cs; lists = replicate n no_blocks }) d ≡ []
unfolding blocks_in
empty_in cs n d = ap (filter (λ x. nat_eq (caller_at cs x) d)) (empty_at n (d % 4096))
