-- The blocks of pages: a block in use is that of one live page, and each page has one block.
use Rattle.std.proofs.Common.{◌≡◌, ℕ, Bool, true, false, ◌&&◌, ◌||◌, List, [], ◌∷◌, map, refl, ap, sym, ◌∙◌, nat_eq, eqb-true}
use Rattle.std.specs.List.{list_any, IsDistinct, AllByRecursion}
use Rattle.thp_history.specs.Prelude.{What, Shape, History, some_event, is_live, places, IsLegal}
use Rattle.thp_history.specs.declared.events.What.TheVariants.{Alloc}
use Rattle.thp_history.proofs.Blocks.{Placed, legal_placed, occupied, allocs, on_alloc, any_allocs, any-filter, some_event-ext}
use Rattle.thp_history.proofs.Bools.{or_second}

-- each live page was allocated in a block
pub record HasBlock (h : History) (p : ℕ) : Type 0 where
  pub block : ℕ
  pub placed : some_event (places p block) h ≡ true

-- two live pages have different blocks
outside : (b : ℕ) (x : ℕ × ℕ) (p : ℕ) (bs : List (ℕ × ℕ)) → nat_eq b x.0 ≡ true → AllByRecursion (λ y. nat_eq x.0 y ≡ false) (map (λ (f : ℕ × ℕ). f.0) bs) → list_any (λ (f : ℕ × ℕ). nat_eq p f.1 && nat_eq b f.0) bs ≡ true → ⊥
outside b x p [] y a e = absurd (cc)
outside b x p (z ∷ bs) y a e =
    let apart : nat_eq b z.0 ≡ false = ap (λ w. nat_eq w z.0) (eqb-true b x.0 y) ∙ a.0 in
    outside b x p bs y a.1 (sym (ap (λ v. v || list_any (λ (f : ℕ × ℕ). nat_eq p f.1 && nat_eq b f.0) bs) (and_no (nat_eq p z.1) (nat_eq b z.0) apart)) ∙ e) where
      and_no : (a b : Bool) → b ≡ false → (a && b) ≡ false
      and_no true b e = e
      and_no false b e = refl

-- where blocks are apart, a block has one page
one_page : (bs : List (ℕ × ℕ)) (p q b : ℕ) → IsDistinct nat_eq (map (λ (f : ℕ × ℕ). f.0) bs) → list_any (λ (f : ℕ × ℕ). nat_eq p f.1 && nat_eq b f.0) bs ≡ true → list_any (λ (f : ℕ × ℕ). nat_eq q f.1 && nat_eq b f.0) bs ≡ true → p ≡ q
unfolding IsDistinct
one_page [] p q b d e f = absurd (cc)
one_page (x ∷ bs) p q b d e f = go (nat_eq b x.0) (nat_eq p x.1) (nat_eq q x.1) refl refl refl e f (one_page bs p q b d.1) where
  go : (m u v : Bool) → nat_eq b x.0 ≡ m → nat_eq p x.1 ≡ u → nat_eq q x.1 ≡ v →
      ((u && m) || list_any (λ (f : ℕ × ℕ). nat_eq p f.1 && nat_eq b f.0) bs) ≡ true → ((v && m) || list_any (λ (f : ℕ × ℕ). nat_eq q f.1 && nat_eq b f.0) bs) ≡ true →
      (list_any (λ (f : ℕ × ℕ). nat_eq p f.1 && nat_eq b f.0) bs ≡ true → list_any (λ (f : ℕ × ℕ). nat_eq q f.1 && nat_eq b f.0) bs ≡ true → p ≡ q) → p ≡ q
  go true true true y i j e f k = eqb-true p x.1 i ∙ sym (eqb-true q x.1 j)
  go true false v y i j e f k = absurd (outside b x p bs y d.0 e)
  go true true false y i j e f k = absurd (outside b x q bs y d.0 f)
  go false true true y i j e f k = k e f
  go false true false y i j e f k = k e f
  go false false true y i j e f k = k e f
  go false false false y i j e f k = k e f

-- an allocation of a live page stands among those of live pages
any_live : (h : History) (p b : ℕ) (bs : List (ℕ × ℕ)) → is_live h p ≡ true → list_any (λ (f : ℕ × ℕ). nat_eq p f.1 && nat_eq b f.0) bs ≡ true →
    list_any (λ (f : ℕ × ℕ). is_live h f.1 && (nat_eq p f.1 && nat_eq b f.0)) bs ≡ true
any_live h p b [] l e = absurd (cc)
any_live h p b (x ∷ bs) l e = go (nat_eq p x.1) refl (nat_eq b x.0) e (any_live h p b bs l) where
  go : (u : Bool) → nat_eq p x.1 ≡ u → (m : Bool) → ((u && m) || list_any (λ (f : ℕ × ℕ). nat_eq p f.1 && nat_eq b f.0) bs) ≡ true →
      (list_any (λ (f : ℕ × ℕ). nat_eq p f.1 && nat_eq b f.0) bs ≡ true → list_any (λ (f : ℕ × ℕ). is_live h f.1 && (nat_eq p f.1 && nat_eq b f.0)) bs ≡ true) →
      ((is_live h x.1 && (u && m)) || list_any (λ (f : ℕ × ℕ). is_live h f.1 && (nat_eq p f.1 && nat_eq b f.0)) bs) ≡ true
  go true y true e k = let here : is_live h x.1 ≡ true = ap (is_live h) (sym (eqb-true p x.1 y)) ∙ l in rw here refl
  go true y false e k = or_second _ _ (k e)
  go false y m e k = or_second _ _ (k e)

-- in a legal history two live pages have different blocks
pub pages_apart : (shape : Shape) (h : History) → IsLegal shape h → (p q b : ℕ) → is_live h p ≡ true → is_live h q ≡ true →
    some_event (places p b) h ≡ true → some_event (places q b) h ≡ true → p ≡ q
pages_apart shape h l p q b live_p live_q e f =
    let s : Placed shape h = legal_placed shape h l in
    one_page (occupied h) p q b s.blocked.apart (there s p live_p e) (there s q live_q f) where
      put_as : (p : ℕ) (w : What) → places p b w ≡ on_alloc (λ (f : ℕ × ℕ). nat_eq p f.1 && nat_eq b f.0) w
      put_as p (Alloc q c) = refl
      put_as p w = refl

      there : Placed shape h → (p : ℕ) → is_live h p ≡ true → some_event (places p b) h ≡ true → list_any (λ (f : ℕ × ℕ). nat_eq p f.1 && nat_eq b f.0) (occupied h) ≡ true
      there s p l e =
          ap (λ bs. list_any (λ (f : ℕ × ℕ). nat_eq p f.1 && nat_eq b f.0) bs) s.blocked.as_live
          ∙ any-filter (λ (f : ℕ × ℕ). nat_eq p f.1 && nat_eq b f.0) (λ (f : ℕ × ℕ). is_live h f.1) (allocs h)
          ∙ any_live h p b (allocs h) l (any_allocs (λ (f : ℕ × ℕ). nat_eq p f.1 && nat_eq b f.0) h ∙ sym (some_event-ext (places p b) (on_alloc (λ (f : ℕ × ℕ). nat_eq p f.1 && nat_eq b f.0)) (put_as p) h) ∙ e)
