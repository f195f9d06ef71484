-- A caller's flight, one event at a time.
use Rattle.std.proofs.Common.{◌≡◌, ℕ, Bool, true, false, cond, not, ◌&&◌, List, [], ◌∷◌, ◌++◌, map, refl, ap, sym, ◌∙◌, arith, nat_eq, eq-eqb, eqb-true, filter}
use Rattle.thp_history.specs.Prelude.{Outcome, What, History, by, flight_after, flight_by, flight, flights_by, without, leaves}
use Rattle.std.proofs.lemmas.Bool.Decides.{nat_tests}
use Rattle.thp_history.proofs.Pushes.{flights_push}

-- the pages that c has among those in flight
abbrev of : ℕ → List (ℕ × ℕ) → List ℕ
of c fs = map (λ (f : ℕ × ℕ). f.1) (filter (λ (f : ℕ × ℕ). nat_eq f.0 c) fs)

-- one more entry in front
abbrev front : Bool → ℕ → List ℕ → List ℕ
front b p ps = cond b (p ∷ ps) ps

-- one more entry in front
of-cons : (c : ℕ) (f : ℕ × ℕ) (fs : List (ℕ × ℕ)) → of c (f ∷ fs) ≡ front (nat_eq f.0 c) f.1 (of c fs)
of-cons c f fs = grind (arith, nat_eq)

-- one more entry at the end
of_push : (c d p : ℕ) (fs : List (ℕ × ℕ)) → of c (fs ++ (d, p) ∷ []) ≡ cond (nat_eq d c) (of c fs ++ p ∷ []) (of c fs)
of_push c d p [] = of-cons c (d, p) []
of_push c d p (f ∷ fs) =
    of-cons c f (fs ++ (d, p) ∷ []) ∙ ap (λ ps. front (nat_eq f.0 c) f.1 ps) (of_push c d p fs) ∙ go (nat_eq f.0 c) (nat_eq d c) (of c fs)
    ∙ sym (ap (λ ps. cond (nat_eq d c) (ps ++ p ∷ []) ps) (of-cons c f fs)) where
      go : (a b : Bool) (ps : List ℕ) → front a f.1 (cond b (ps ++ p ∷ []) ps) ≡ cond b (front a f.1 ps ++ p ∷ []) (front a f.1 ps)
      go true true ps = refl
      go true false ps = refl
      go false b ps = refl

-- a filter of the entries, where it agrees with one of c's pages
of-filter : (c : ℕ) (u : ℕ × ℕ → Bool) (v : ℕ → Bool) (fs : List (ℕ × ℕ)) → ((f : ℕ × ℕ) → nat_eq f.0 c ≡ true → u f ≡ v f.1) → of c (filter u fs) ≡ filter v (of c fs)
of-filter c u v [] same = refl
of-filter c u v (f ∷ fs) same =
    one (u f) ∙ ap (λ ps. cond (u f) (front (nat_eq f.0 c) f.1 ps) ps) (of-filter c u v fs same)
    ∙ two (nat_eq f.0 c) (u f) (v f.1) (of c fs) (same f) ∙ sym (ap (λ ps. filter v ps) (of-cons c f fs)) where
      one : (b : Bool) → of c (cond b (f ∷ filter u fs) (filter u fs)) ≡ cond b (front (nat_eq f.0 c) f.1 (of c (filter u fs))) (of c (filter u fs))
      one true = of-cons c f (filter u fs)
      one false = refl

      two : (a b d : Bool) (ps : List ℕ) → (a ≡ true → b ≡ v f.1) → cond b (front a f.1 (filter v ps)) (filter v ps) ≡ filter v (front a f.1 ps)
      two true b d ps e = ap (λ x. cond x (f.1 ∷ filter v ps) (filter v ps)) (e refl)
      two false true d ps e = refl
      two false false d ps e = refl

-- a filter that keeps all
filter_all : (ps : List ℕ) → filter (λ p. true) ps ≡ ps
filter_all [] = refl
filter_all (p ∷ ps) = ap (λ qs. p ∷ qs) (filter_all ps)

-- a test of two numbers the other way round
turn : (c d : ℕ) → nat_eq d c ≡ false → nat_eq c d ≡ false
turn c d e = grind (arith, nat_tests)

-- an entry of caller d that leaves
of-leaves : (c d p : ℕ) (fs : List (ℕ × ℕ)) → of c (leaves d p fs) ≡ cond (nat_eq d c) (without p (of c fs)) (of c fs)
of-leaves c d p fs = go (nat_eq d c) refl where
  go : (b : Bool) → nat_eq d c ≡ b → of c (leaves d p fs) ≡ cond b (without p (of c fs)) (of c fs)
  go true e = of-filter c (λ f. not (nat_eq f.0 d && nat_eq f.1 p)) (λ q. not (nat_eq q p)) fs
      (λ f g. ap (λ b. not (b && nat_eq f.1 p)) (eq-eqb f.0 d (eqb-true f.0 c g ∙ sym (eqb-true d c e))))
  go false e = of-filter c (λ f. not (nat_eq f.0 d && nat_eq f.1 p)) (λ q. true) fs
      (λ f g. ap (λ b. not (b && nat_eq f.1 p)) (ap (λ x. nat_eq x d) (eqb-true f.0 c g) ∙ turn c d e)) ∙ filter_all (of c fs)

-- an outcome, for one caller
by_freed : (c p : ℕ) (o : Outcome) (fs : List (ℕ × ℕ)) → of c (flights_by fs p o) ≡ flight_by (of c fs) p o
by_freed c p x fs = grind (arith, of-filter, nat_eq)

-- the last event changes a flight so
pub flight_push : (h : History) (c d : ℕ) (w : What) → flight (h ++ by d w ∷ []) c ≡ flight_after c (flight h c) d w
flight_push h c d x = grind (arith, flights_push, by_freed, of_push, of-leaves)
