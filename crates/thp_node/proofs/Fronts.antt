-- Batches stay in front of their flights, whatever is done but a take by their caller.
use Rattle.std.proofs.Common.{◌≡◌, ◌≢◌, ℕ, suc, Bool, true, false, cond, not, ◌&&◌, ◌||◌, List, [], ◌∷◌, ◌++◌, map, refl, ap, sym, ◌∙◌, subst, nat_eq, eqb-true, eq-eqb, append_assoc, arith}
use Rattle.std.specs.List.{filter, list_all, All}
use Rattle.std.proofs.lemmas.List.Elements.{filter-append}
use Rattle.thp_history.specs.declared.events.Event.{Event}
use Rattle.thp_history.specs.declared.events.Outcome.{Outcome}
use Rattle.thp_history.specs.declared.events.Outcome.TheVariants.{Freed}
use Rattle.thp_history.specs.declared.events.What.{What}
use Rattle.thp_history.specs.declared.events.What.TheVariants.{UnmapWhole, UnmapSub, Unpin, Taken, Split, Used, Back, Dropped}
use Rattle.thp_history.specs.declared.shape.Shape.{Shape}
use Rattle.thp_history.specs.Prelude.{History, by, is_dropped, flight_after, flight_by, flight, has_page, takes_by, without, still_flying, split_next_events, put_back_events, return_event, gain_what, loss_what}
use Rattle.thp_history.proofs.Blocks.{filter-filter}
use Rattle.thp_history.proofs.Bools.{by_bool, and_both, and_yes, not_true}
use Rattle.thp_history.proofs.Flights.{flight_push}
use Rattle.thp_history.proofs.ListPlaces.{append_none}
use Rattle.thp_history.proofs.OnePlace.{filter_in}
use Rattle.thp_history.specs.declared.page_call.Gain.{Gain}
use Rattle.thp_history.specs.declared.page_call.Loss.{Loss}
use Rattle.thp_node.specs.Prelude.{BatchState, IsInFront, FrontsStay, OtherFrontsStay, OlderAreInFront, Did, NodeState}

filter_all : (ps : List ℕ) → filter (λ p. true) ps ≡ ps
filter_all [] = refl
filter_all (p ∷ ps) = ap (λ qs. p ∷ qs) (filter_all ps)

-- what a test keeps of a list has page p where the list has it and it passes
in_kept : (t : ℕ → Bool) (p : ℕ) (ps : List ℕ) → has_page p (filter t ps) ≡ (has_page p ps && t p)
in_kept t p [] = refl
in_kept t p (q ∷ ps) = one (t q) (nat_eq q p) refl refl (in_kept t p ps) where
  none : (x y : Bool) → y ≡ false → (x && y) ≡ y
  none true y e = refl
  none false y e = sym e

  one : (a b : Bool) → t q ≡ a → nat_eq q p ≡ b → has_page p (filter t ps) ≡ (has_page p ps && t p) → has_page p (cond a (q ∷ filter t ps) (filter t ps)) ≡ ((b || has_page p ps) && t p)
  one true true e f g = ap (λ v. v || has_page p (filter t ps)) f ∙ sym (ap t (sym (eqb-true q p f)) ∙ e)
  one true false e f g = ap (λ v. v || has_page p (filter t ps)) f ∙ g
  one false true e f g = g ∙ none (has_page p ps) (t p) (ap t (sym (eqb-true q p f)) ∙ e)
  one false false e f g = g

-- an event that isn't a take by c keeps of its flight what passes a test
record Keeps (f : List ℕ → List ℕ) : Type 0 where
  test : ℕ → Bool
  is : (ps : List ℕ) → f ps ≡ filter test ps

keeps_all : Keeps (λ ps. ps)
keeps_all = record { test = λ q. true; is = λ ps. sym (filter_all ps) }

keeps_by : (p : ℕ) (o : Outcome) → Keeps (λ ps. flight_by ps p o)
keeps_by p Freed = record { test = λ q. not (nat_eq q p); is = λ ps. refl }
keeps_by p o = keeps_all

keeps_if : (b : Bool) (p : ℕ) → Keeps (λ ps. cond b (without p ps) ps)
keeps_if true p = record { test = λ q. not (nat_eq q p); is = λ ps. refl }
keeps_if false p = keeps_all

keeps : (c d : ℕ) (w : What) → takes_by c d w ≡ false → Keeps (λ ps. flight_after c ps d w)
keeps c d (UnmapWhole o p set) e = keeps_by p o
keeps c d (UnmapSub o p first count set) e = keeps_by p o
keeps c d (Unpin o p set) e = keeps_by p o
keeps c d (Taken p) e = record { test = λ q. true; is = λ ps. ap (λ b. cond b (ps ++ p ∷ []) ps) e ∙ sym (filter_all ps) }
keeps c d (Split p set) e = keeps_if (nat_eq d c) p
keeps c d (Used p) e = keeps_if (nat_eq d c) p
keeps c d (Back p) e = keeps_if (nat_eq d c) p
keeps c d (Dropped p) e = keeps_if (nat_eq d c) p
keeps c d w e = keeps_all

-- such an event leaves a batch of c in front
front_push : (h : History) (e : Event) (b : BatchState) → takes_by b.caller e.caller e.what ≡ false → IsInFront h b → IsInFront (h ++ e ∷ []) b
front_push h e b untaken f =
    let k : Keeps (λ ps. flight_after b.caller ps e.caller e.what) = keeps b.caller e.caller e.what untaken in
    let t : ℕ → Bool = k.test in
    let now : flight (h ++ e ∷ []) b.caller ≡ filter t (flight h b.caller) = flight_push h b.caller e.caller e.what ∙ k.is (flight h b.caller) in
    record {
      others = filter t f.others;
      front =
          now ∙ ap (λ x. filter t x) f.front ∙ filter-append t (still_flying h b.caller b.pages) f.others
          ∙ ap (λ x. x ++ filter t f.others)
          (filter-filter t (λ p. has_page p (flight h b.caller)) b.pages
          ∙ filter_in _ _ b.pages (λ p y. sym (ap (λ x. has_page p x) now ∙ in_kept t p (flight h b.caller))));
    }

-- no event of a list is a take by c
abbrev pub takes_none : ℕ → History → Bool
takes_none c es = list_all (λ (e : Event). not (takes_by c e.caller e.what)) es

-- events that aren't takes by a batch's caller leave the batch in front
front_run : (h es : History) (b : BatchState) → takes_none b.caller es ≡ true → IsInFront h b → IsInFront (h ++ es) b
front_run h [] b none f = let P : History → Type 0 = λ k. IsInFront k b in subst P (sym (append_none h)) f
front_run h (e ∷ es) b none f =
    let both : (not (takes_by b.caller e.caller e.what) ≡ true) × (takes_none b.caller es ≡ true) = and_both _ _ none in
    let P : History → Type 0 = λ k. IsInFront k b in
    subst P (append_assoc h (e ∷ []) es) (front_run (h ++ e ∷ []) es b both.1 (front_push h e b (not_true _ both.0) f))

-- batches stay in front where nothing changed
pub fronts_same : (h k : History) → k ≡ h → FrontsStay h k
fronts_same h k e = λ b f. let P : History → Type 0 = λ x. IsInFront x b in subst P (sym e) f

-- and where events were recorded none of which is a take
pub fronts_grown : (h k es : History) → k ≡ h ++ es → ((d : ℕ) → takes_none d es ≡ true) → FrontsStay h k
fronts_grown h k es e none = λ b f. let P : History → Type 0 = λ x. IsInFront x b in subst P (sym e) (front_run h es b (none b.caller) f)

-- those of other callers stay in front whatever a caller did
pub fronts_did : (old new : NodeState) (c : ℕ) (es : List Event) → Did old new c es → OtherFrontsStay c old.journal new.journal
fronts_did old new c es did = λ b apart f.
    let P : History → Type 0 = λ x. IsInFront x b in subst P (sym did.journal) (front_run old.journal es b (none b.caller apart es did.own) f) where
      other : (d : ℕ) (e : Event) → (d ≢ c) → e.caller ≡ c → not (takes_by d e.caller e.what) ≡ true
      other d e apart is = go e.what where
        unlike : nat_eq e.caller d ≡ false
        unlike = by_bool (nat_eq e.caller d) _ (λ y. absurd (apart (sym (eqb-true e.caller d y) ∙ is))) (λ y. y)

        go : (w : What) → not (takes_by d e.caller w) ≡ true
        go (Taken p) = ap not unlike
        go w = refl

      none : (d : ℕ) → (d ≢ c) → (es : List Event) → All (λ (e : Event). e.caller ≡ c) es → takes_none d es ≡ true
      none d apart [] own = refl
      none d apart (e ∷ es) own = and_yes _ _ (other d e apart (own 0 e (omega arith))) (none d apart es (λ k x l. own (suc k) x (omega arith)))

-- the events of the calls that take nothing
pub gain_takes_none : (d c p : ℕ) (g : Gain) → takes_none d (by c (gain_what g p) ∷ []) ≡ true
gain_takes_none d c p x = grind arith

pub loss_takes_none : (d c p : ℕ) (l : Loss) (o : Outcome) (set : List Bool) → takes_none d (by c (loss_what l p o set) ∷ []) ≡ true
loss_takes_none d c p x o set = grind arith

pub try_takes_none : (d : ℕ) (s : Shape) (h : History) (c : ℕ) (rest : List ℕ) → takes_none d (split_next_events s h c rest) ≡ true
try_takes_none d s h c rest = grind (arith, nat_eq)

pub return_takes_none : (d : ℕ) (s : Shape) (h : History) (c : ℕ) (ps : List ℕ) → takes_none d (put_back_events s h c ps) ≡ true
return_takes_none d s h c ps = go (still_flying h c ps) where
  one : (z : Bool) (q : ℕ) (b : Bool) → b ≡ true → (not (takes_by d c (cond z (Dropped q) (Back q))) && b) ≡ true
  one true q b e = e
  one false q b e = e

  go : (qs : List ℕ) → takes_none d (map (return_event s h c) qs) ≡ true
  go [] = refl
  go (q ∷ qs) = one (is_dropped s h q) q (takes_none d (map (return_event s h c) qs)) (go qs)

-- a batch that is the whole flight of its caller is in front of it
pub front_whole : (h : History) (b : BatchState) → flight h b.caller ≡ b.pages → IsInFront h b
front_whole h b e = record {
  others = [];
  front =
      e ∙ sym (append_none (still_flying h b.caller b.pages)
      ∙ filter_in (λ p. has_page p (flight h b.caller)) (λ p. true) b.pages (λ p y. ap (λ x. has_page p x) e ∙ y)
      ∙ filter_all b.pages);
}

-- how far a batch was tried doesn't matter
pub front_advanced : (h k : History) (a b : BatchState) → b.caller ≡ a.caller → b.pages ≡ a.pages → (IsInFront h a → IsInFront k a) → IsInFront h a → IsInFront k b
front_advanced h k a b c p stays f = grind arith

-- a batch none of whose pages is in flight is in front, and so is every batch of a caller that has no flight
front_spent : (h : History) (b : BatchState) → still_flying h b.caller b.pages ≡ [] → IsInFront h b
front_spent h b e = record { others = flight h b.caller; front = ap (λ xs. xs ++ flight h b.caller) (sym e) }

filter_none : (t : ℕ → Bool) (ps : List ℕ) → All (λ p. t p ≡ false) ps → filter t ps ≡ []
filter_none t [] a = refl
filter_none t (p ∷ ps) a =
    ap (λ b. cond b (p ∷ filter t ps) (filter t ps)) (a 0 p (omega arith)) ∙ filter_none t ps (λ k d l. a (suc k) d (omega arith))

-- older batches of a caller whose flight is that of one take
pub older_in_front : (h : History) (c : ℕ) (ps : List ℕ) → flight h c ≡ ps → OlderAreInFront c ps h
older_in_front h c ps e b who none = grind (arith, front_spent, filter_none)

-- batches stay in front over the events of a caller that leave it no flight
pub fronts_emptied : (old new : NodeState) (c : ℕ) (es : List Event) → Did old new c es → flight new.journal c ≡ [] → FrontsStay old.journal new.journal
fronts_emptied old new c es did none b f =
    by_bool (nat_eq b.caller c) _
    (λ y. older_in_front new.journal c [] none b (eqb-true b.caller c y) (λ k d l. refl))
    (λ y. fronts_did old new c es did b (λ e. not_both (nat_eq b.caller c) y (eq-eqb b.caller c e)) f) where
      not_both : (x : Bool) → x ≡ false → x ≡ true → ⊥
      not_both x e g = cc
