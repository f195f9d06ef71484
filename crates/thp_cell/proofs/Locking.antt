-- The steps that end no hold keep the rule: the lock step, and the two loads.
use Rattle.std.proofs.Common.{◌≡◌, inl, ℕ, ◌+◌, ◌*◌, ◌/◌, ◌<◌, Bool, true, false, List, [], ◌∷◌, set, get_or, length, refl, sym, ap, ◌∙◌, subst, arith, true≢false, bit_or, cond, sum_by}
use Rattle.std.proofs.lemmas.List.Elements.{All-nil, All-weaker}
use mathlib.Core.Logic.{dite}
use mathlib.Core.Option.{some, none}
use native.Mathlib.Decide.{ℕ_discrete}
use lib.ListN.{get_elem?}
use Rattle.atomic_table.specs.Table.{keeps, takes, step, stepped, Allows}
use Rattle.thp_history.specs.declared.shape.Shape.{Shape}
use Rattle.thp_history.specs.Prelude.{History, IsLegal, queue}
use Rattle.thp_history.proofs.LegalSteps.{legal_front}
use Rattle.thp_node.specs.Prelude.{NodeState}
use Rattle.thp_cell.specs.Prelude.{OldFront, SeatKnowledge, Since, AllBelow, holding, OldFrontAgrees, SeatAgrees, SeatsAgree, Home, RuleHolds, SeatValue, seat_locking, seat_missing, seat_with_front, SeatTook, Locked, Counted, Looked}
use Rattle.thp_cell.proofs.Fronts.{since_same, between, below_end}
use Rattle.thp_cell.proofs.Sums.{sum_set, bit_set}
use Rattle.thp_cell.proofs.Seating.{Cell, reseated, nobody}

module _ (n : ℕ) (s : Shape) where
  -- what a seat that saw the whole history knows
  knows_all : (h : History) (v : SeatKnowledge) (has_node : Bool) → SeatAgrees n s h v → v.first < v.end → SeatsAgree n s h (seat_with_front v has_node h)
  knows_all h v has_node was live = grind (arith, since_same, All-nil)

  -- and what it knows where it took the slot, or missed it
  knows_locking : (h : History) (v : SeatKnowledge) → SeatAgrees n s h v → v.first < v.end → SeatsAgree n s h (seat_with_front (seat_locking v) true h)
  knows_locking h v was live = grind (arith, since_same, All-nil)

  knows_missing : (h : History) (v : SeatKnowledge) → SeatAgrees n s h v → v.has_node ≡ false → v.old_fronts ≡ [] → SeatsAgree n s h (seat_missing v)
  knows_missing h v was free clean = grind (arith, All-nil)

  -- a step that leaves word and slot, after which the seat knows w, of the same history
  loaded : (t : Cell) (r : RuleHolds n s t) (id : ℕ) (me : SeatValue) (w : SeatKnowledge) (found : ℕ) → found ≡ get_or t.words 0 0 → get_elem? t.views id ≡ some me.0 → me.0.has_node ≡ false → w.has_node ≡ false → w.first ≡ me.0.first → w.end ≡ me.0.end → me.0.first < me.0.end
      → SeatsAgree n s r.history w → RuleHolds n s (stepped t 0 found id me.1 w keeps)
  loaded t r id me w found word at free free' f e live mine =
      let v = me.0 in
      let x : ℕ = get_or t.words 0 0 in
      let is : x ≡ 2 * length (queue s r.history) + sum_by holding t.views = ap (λ l. get_or l 0 0) r.word in
      let sum = sum_set holding t.views id v w at in
      let a : holding v ≡ 0 = ap (λ b. cond b 1 0) free in
      let c : holding w ≡ 0 = ap (λ b. cond b 1 0) free' in
      let same : sum_by holding t.views ≡ sum_by holding (set t.views id w) = omega arith in
      reseated n s t r id v w r.history (set t.words 0 found) t.homes at (inl refl) f e live r.legal r.short
      (ap (λ l. set l 0 found) r.word ∙ ap (λ (y : ℕ). y ∷ []) (omega arith))
      (subst (λ (k : ℕ). Home k s r.history t.homes) same r.home) mine

  -- the lock step finds the bit clear and takes the node, or finds it set and changes neither word nor slot
  pub locks : (slots id : ℕ) (v : SeatKnowledge) → v.has_node ≡ false → v.first < v.end → v.old_fronts ≡ [] → Allows (RuleHolds n s) slots id (v, []) 0 (λ x. bit_or x 1) (Locked (step slots 0 1 0 none) (v, []))
  locks slots id v free live clean t r wide at small =
      let q : ℕ = length (queue s r.history) in
      let out : ℕ = sum_by holding t.views in
      let x : ℕ = get_or t.words 0 0 in
      let is : x ≡ 2 * q + out = ap (λ l. get_or l 0 0) r.word in
      let bit = bit_set x in
      let few = r.home.one_at_most in
      let was = (r.seats id v at).knows live in
      dite (ℕ_discrete out 0)
      (λ home.
      let m = r.home.in_slot home in
      let node = m.node in
      let w : SeatKnowledge = seat_with_front (seat_locking v) true node.journal in
      let sum = sum_set holding t.views id v w at in
      let none_yet : holding v ≡ 0 = ap (λ b. cond b 1 0) free in
      let now : sum_by holding (set t.views id w) ≡ 1 = omega arith in
      let to : bit_or x 1 ≡ 2 * q + sum_by holding (set t.views id w) = omega arith in
      let mine : SeatsAgree n s r.history w = subst (λ l. SeatsAgree n s r.history (seat_with_front (seat_locking v) true l)) (sym m.journal) (knows_locking r.history v was live) in
      let took : SeatTook (v, []) (w, (0, node) ∷ []) = record {
        node = node;
        now = refl;
        shape = m.shape ∙ sym was.shape;
        since = subst (Since v.first v.end v.front) (sym m.journal) was.since;
        legal = subst (λ (z : Shape × History). IsLegal z.0 z.1) (λ i. (sym was.shape i, sym m.journal i)) r.legal;
        callers = subst (λ (z : ℕ × History). AllBelow z.0 z.1) (λ i. (sym was.callers i, sym m.journal i)) (below_end 0 n r.history r.callers);
      } in (
        w,
        takes 0 node,
        ap (λ l. get_elem? l 0) m.at_home,
        reseated n s t r id v w r.history (set t.words 0 (bit_or x 1)) (set t.homes 0 none) at (inl refl) refl refl live r.legal r.short
            (ap (λ l. set l 0 (bit_or x 1)) r.word ∙ ap (λ (y : ℕ). y ∷ []) to)
            record {
              one_at_most = omega arith;
              in_slot = λ zero_now. absurd (omega arith);
              out = λ _. ap (λ l. set l 0 none) m.at_home;
            } mine,
        record { clear = λ _. took; set = λ odd. absurd (odd (omega arith)) },
      ))
      (λ away. let one_out : out ≡ 1 = omega arith in (
        seat_missing v,
        keeps,
        tt,
        loaded t r id (v, []) (seat_missing v) (bit_or x 1) (omega arith) at free free refl refl live (knows_missing r.history v was free clean),
        record {
          clear = λ even. absurd (omega arith);
          set = λ _. record { same = refl; shared = nobody n s t r id v at free live one_out };
        },
      ))

  -- the load of a count sees the whole history and its queue's length
  pub counts : (slots id : ℕ) (v : SeatKnowledge) → v.has_node ≡ false → v.first < v.end → Allows (RuleHolds n s) slots id (v, []) 0 (λ x. x) (Counted (step slots 0 0 0 none) (v, []))
  counts slots id v free live t r wide at small =
      let x : ℕ = get_or t.words 0 0 in
      let is : x ≡ 2 * length (queue s r.history) + sum_by holding t.views = ap (λ l. get_or l 0 0) r.word in
      let was = (r.seats id v at).knows live in
      let few = r.home.one_at_most in
      let short = r.short in
      let half : x / 2 ≡ length (queue s r.history) = omega arith in (
        seat_with_front v false r.history,
        keeps,
        tt,
        loaded t r id (v, []) (seat_with_front v false r.history) (get_or t.words 0 0) refl at free refl refl refl live (knows_all r.history v false was live),
        record {
          front = r.history;
          now = refl;
          since = was.since;
          legal = subst (λ z. IsLegal z r.history) (sym was.shape) r.legal;
          callers = subst (λ (k : ℕ). AllBelow k r.history) (sym was.callers) (below_end 0 n r.history r.callers);
          count = half ∙ ap (λ (z : Shape). length (queue z r.history)) (sym was.shape);
          short = omega arith;
        },
      )

  -- the load after a join finds both old fronts to begin the front
  pub looks : (slots id : ℕ) (v : SeatKnowledge) → v.has_node ≡ false → v.first < v.end → Allows (RuleHolds n s) slots id (v, []) 0 (λ x. x) (Looked (step slots 0 0 0 none) (v, []))
  looks slots id v free live t r wide at small =
      let was = (r.seats id v at).knows live in (
        seat_with_front v false v.front,
        keeps,
        tt,
        loaded t r id (v, []) (seat_with_front v false v.front) (get_or t.words 0 0) refl at free refl refl refl live
            record {
              lives = λ e. absurd (true≢false (sym e));
              knows = λ _. record {
                callers = was.callers;
                shape = was.shape;
                inside = was.inside;
                since = was.since;
                old_fronts = All-nil _;
                at_node = λ e. absurd (true≢false (sym e));
              };
            },
        record {
          now = refl;
          both = All-weaker (OldFrontAgrees r.history v) (λ (o : OldFront). Since o.first o.end o.front v.front)
              (λ o p. between o.first o.end o.front v.front r.history v.first v.end p.shorter p.since was.since) v.old_fronts was.old_fronts;
          inside = let in_n = was.inside in let all = was.callers in omega arith;
          legal = subst (λ z. IsLegal z v.front) (sym was.shape) (legal_front s v.front was.since.others (subst (IsLegal s) was.since.goes_on r.legal));
        },
      )

-- the same at a seat that is known by its parts
pub locks_at : (n : ℕ) (s : Shape) (slots id : ℕ) (m : SeatValue) → m.1 ≡ [] → m.0.has_node ≡ false → m.0.first < m.0.end → m.0.old_fronts ≡ [] → Allows (RuleHolds n s) slots id m 0 (λ x. bit_or x 1) (Locked (step slots 0 1 0 none) m)
locks_at n s slots id m e free live clean =
    subst (λ (l : List (ℕ × NodeState)). Allows (RuleHolds n s) slots id (m.0, l) 0 (λ x. bit_or x 1) (Locked (step slots 0 1 0 none) (m.0, l))) (sym e) (locks n s slots id m.0 free live clean)

pub counts_at : (n : ℕ) (s : Shape) (slots id : ℕ) (m : SeatValue) → m.1 ≡ [] → m.0.has_node ≡ false → m.0.first < m.0.end → Allows (RuleHolds n s) slots id m 0 (λ x. x) (Counted (step slots 0 0 0 none) m)
counts_at n s slots id m e free live =
    subst (λ (l : List (ℕ × NodeState)). Allows (RuleHolds n s) slots id (m.0, l) 0 (λ x. x) (Counted (step slots 0 0 0 none) (m.0, l))) (sym e) (counts n s slots id m.0 free live)

pub looks_at : (n : ℕ) (s : Shape) (slots id : ℕ) (m : SeatValue) → m.1 ≡ [] → m.0.has_node ≡ false → m.0.first < m.0.end → Allows (RuleHolds n s) slots id m 0 (λ x. x) (Looked (step slots 0 0 0 none) m)
looks_at n s slots id m e free live =
    subst (λ (l : List (ℕ × NodeState)). Allows (RuleHolds n s) slots id (m.0, l) 0 (λ x. x) (Looked (step slots 0 0 0 none) (m.0, l))) (sym e) (looks n s slots id m.0 free live)
