-- What is known of legal nodes and of the first illegal event, as one more node begins and as one more event is read.
use Rattle.std.proofs.Common.{◌≡◌, ℕ, ◌+◌, ◌<◌, ◌≤◌, List, [], ◌∷◌, ◌++◌, length, take, Option, Some, None, refl, sym, ap, subst, ◌∙◌, ◌⊎◌, arith, inl, inr, suc, zero, All, IfSome, slice_get}
use Rattle.std.proofs.lemmas.List.{take-append-le, take_at}
use Rattle.std.proofs.lemmas.List.Sums.{fold_push}
use Rattle.std.proofs.lemmas.Option.{slice_get_within}
use Rattle.thp_history.specs.declared.events.Event.{Event}
use Rattle.thp_history.specs.declared.shape.Shape.{Shape}
use Rattle.thp_history.specs.Prelude.{event_with, least_free, History, Fits, IsLegal, IsFirstMisfit}
use Rattle.thp_history.proofs.LegalSteps.{legal_none}
use Rattle.thp_history.proofs.ListPlaces.{get_push, get-append_left, get_middle, get_below}
use Rattle.thp_check.specs.declared.misfit.Misfit.{Misfit}
use Rattle.thp_check.specs.Prelude.{Explains}
use Rattle.thp_journal_reader.specs.Prelude.{ReadNode, AreLegalBefore, IsFirstIllegalEvent, IsLegalNode, ReportsFirst, first_illegal, nodes_read, LastIsIllegal, began, on_last, with_event, with_line, IsNodeBefore, Illegal, Line}
use Rattle.thp_journal_reader.proofs.AnswerLaws.{found_has, misfit_inside, misfit_is_illegal}
use Rattle.thp_journal_reader.proofs.NodeLaws.{on_last-push}

-- a node without events is legal
pub no_events_legal : (shape : Shape) → IsLegal shape []
no_events_legal shape = legal_none shape

-- the event behind a legal history is its first misfit
pub last_misfit : (shape : Shape) (h : History) (e : Event) → IsLegal shape h → (Fits shape h e → ⊥) → IsFirstMisfit shape (h ++ e ∷ []) (length h)
last_misfit shape h e legal wrong =
    let front : take (length h) (h ++ e ∷ []) ≡ h = take_at h (e ∷ []) (length h) refl in
    let L : History → Type 0 = λ k. IsLegal shape k in
    let M : History → Type 0 = λ k. Fits shape k e → ⊥ in
    record {
      legal_before = subst L (sym front) legal;
      misfit = (e, get_middle h e [], subst M (sym front) wrong);
    }

-- ---- nodes one of which is illegal

-- one more event leaves the events before it where they are
pub front_stays : (event : Event) (node : ReadNode) (place : ℕ) → place < length node.events → take place (with_event event node).events ≡ take place node.events
front_stays event node place inside = take-append-le place node.events (event_with (least_free node.shape node.events) event ∷ []) (omega (arith, inside))

event_stays : (event : Event) (node : ReadNode) (place : ℕ) (there : Event) → slice_get node.events place ≡ Some there → slice_get (with_event event node).events place ≡ Some there
event_stays event node place there here = get-append_left node.events (event_with (least_free node.shape node.events) event ∷ []) place there here

-- and so the first misfit
pub misfit_stays : (event : Event) (node : ReadNode) (place : ℕ) → IsFirstMisfit node.shape node.events place → IsFirstMisfit node.shape (with_event event node).events place
misfit_stays event node place first = grind (arith, front_stays, misfit_inside, event_stays)

-- what stands at a place once the last was changed: what stood there, or that changed
was_there : (f : ReadNode → ReadNode) (nodes : List ReadNode) (k : ℕ) (node : ReadNode) → slice_get nodes k ≡ Some node →
    (slice_get (on_last f nodes) k ≡ Some node) ⊎ (slice_get (on_last f nodes) k ≡ Some (f node))
was_there f [] k node here = absurd cc
was_there f (first ∷ []) zero node here = inr (let same : first ≡ node = cc in ap (λ n. Some (f n)) same)
was_there f (first ∷ []) (suc k) node here = absurd cc
was_there f (first ∷ next ∷ nodes) zero node here = inl here
was_there f (first ∷ next ∷ nodes) (suc k) node here = was_there f (next ∷ nodes) k node here

-- and what stands before the last stood there
stood_before : (f : ReadNode → ReadNode) (nodes : List ReadNode) (k : ℕ) (node : ReadNode) → k + 1 < length nodes → slice_get (on_last f nodes) k ≡ Some node → slice_get nodes k ≡ Some node
stood_before f [] k node lt here = absurd (omega arith)
stood_before f (first ∷ []) k node lt here = absurd (omega arith)
stood_before f (first ∷ next ∷ nodes) zero node lt here = here
stood_before f (first ∷ next ∷ nodes) (suc k) node lt here = stood_before f (next ∷ nodes) k node (omega arith) here

pub illegal_grows : (nodes : List ReadNode) (illegal : Illegal) (event : Event) → IsFirstIllegalEvent nodes illegal → IsFirstIllegalEvent (on_last (with_event event) nodes) illegal
illegal_grows nodes illegal event i =
    let f : ReadNode → ReadNode = with_event event in
    let l = i.line in
    let before : AreLegalBefore l.place (on_last f nodes) =
    λ k node lt here. l.legal_before k node lt (stood_before f nodes k node (omega (arith, get_below nodes l.place l.node l.here)) here) in
    let front = front_stays event l.node l.first.place (misfit_inside l.node.shape l.node.events l.first.place l.first.misfit) in
    let W : History → Type 0 = λ h. Explains l.node.shape h illegal.event illegal.misfit in
    elim (was_there f nodes l.place l.node l.here) [
      | inl there ↦ record { line = record { place = l.place; node = l.node; here = there; legal_before = before; first = l.first }; event = i.event; why = i.why }
      | inr there ↦ record {
        line = record { place = l.place; node = f l.node; here = there; legal_before = before; first = record { place = l.first.place; misfit = misfit_stays event l.node l.first.place l.first.misfit; line_is = l.first.line_is } };
        event = event_stays event l.node l.first.place illegal.event i.event;
        why = subst W (sym front) i.why;
      }
    ]

pub illegal_begins : (nodes : List ReadNode) (illegal : Illegal) (first_line : ℕ) (shape : Shape) → IsFirstIllegalEvent nodes illegal → IsFirstIllegalEvent (nodes ++ began first_line shape ∷ []) illegal
illegal_begins nodes illegal first_line shape i =
    let l = i.line in
    record {
      line = record {
        place = l.place;
        node = l.node;
        here = get-append_left nodes (began first_line shape ∷ []) l.place l.node l.here;
        legal_before = λ k node lt here.
            elim (get_push nodes (began first_line shape) k node here) [
              | inl w ↦ l.legal_before k node lt w.1
              | inr w ↦ absurd (omega (arith, w.0, get_below nodes l.place l.node l.here))
            ];
        first = l.first;
      };
      event = i.event;
      why = i.why;
    }

-- the line of the first illegal event stands before the next line
pub illegal_before : (nodes : List ReadNode) (illegal : Illegal) (number : ℕ) → IsFirstIllegalEvent nodes illegal → All (IsNodeBefore 16777216 number) nodes → illegal.line ≤ number
illegal_before nodes illegal number i each =
    let l = i.line in
    let node : IsNodeBefore 16777216 number l.node = found_has (λ n. IsNodeBefore 16777216 number n) nodes l.place l.node l.here each in
    let lines : l.node.first_line + length l.node.events ≤ number = node.lines in
    let inside : l.first.place < length l.node.events = misfit_inside l.node.shape l.node.events l.first.place l.first.misfit in
    omega (arith, lines, inside, l.first.line_is)

-- its line stands before the next line
pub first_before : (nodes : List ReadNode) (illegal : Option Illegal) (number most : ℕ) → ReportsFirst nodes illegal → All (IsNodeBefore 16777216 number) nodes → number ≤ most + 1 → IfSome illegal (λ i. i.line ≤ most + 1)
first_before nodes None number most reported each le = tt
first_before nodes (Some illegal) number most reported each le = omega (arith, illegal_before nodes illegal number reported each)

-- ---- the last node has an illegal event

-- one behind others
pub illegal_push : (nodes : List ReadNode) (node : ReadNode) (place : ℕ) → IsFirstMisfit node.shape node.events place → LastIsIllegal (nodes ++ node ∷ [])
illegal_push [] node place first = (place, first)
illegal_push (n ∷ []) node place first = (place, first)
illegal_push (n ∷ m ∷ nodes) node place first = illegal_push (m ∷ nodes) node place first

-- one more event leaves it illegal
pub illegal_stays : (event : Event) (nodes : List ReadNode) → LastIsIllegal nodes → LastIsIllegal (on_last (with_event event) nodes)
illegal_stays event [] last = tt
illegal_stays event (n ∷ []) last = (last.0, misfit_stays event n last.0 last.1)
illegal_stays event (n ∷ m ∷ []) last = illegal_stays event (m ∷ []) last
illegal_stays event (n ∷ m ∷ k ∷ nodes) last = illegal_stays event (m ∷ k ∷ nodes) last

-- so not all nodes are legal
last_found : (node : ReadNode) (nodes : List ReadNode) → LastIsIllegal (node ∷ nodes) → (k : ℕ) × (n : ReadNode) × (slice_get (node ∷ nodes) k ≡ Some n) × (place : ℕ) × IsFirstMisfit n.shape n.events place
last_found node [] last = (0, node, refl, last.0, last.1)
last_found node (next ∷ nodes) last = let found = last_found next nodes last in (suc found.0, found.1, found.2, found.3, found.4)

not_legal : (node : ReadNode) (nodes : List ReadNode) → LastIsIllegal (node ∷ nodes) → ReportsFirst (node ∷ nodes) None → ⊥
not_legal node nodes last all = grind (arith, last_found, misfit_is_illegal, slice_get_within)

-- ---- the first illegal event of all nodes

pub first_none : ReportsFirst [] None
first_none = λ k node lt here. absurd (omega arith)

-- one more node begins
pub first_begins : (nodes : List ReadNode) (illegal : Option Illegal) (first_line : ℕ) (shape : Shape) → ReportsFirst nodes illegal → ReportsFirst (nodes ++ began first_line shape ∷ []) illegal
first_begins nodes x first_line shape all = grind (arith, get_push, no_events_legal, illegal_begins)

-- one more event of a node that has an illegal one
pub first_stays : (nodes : List ReadNode) (illegal : Option Illegal) (event : Event) → LastIsIllegal nodes → ReportsFirst nodes illegal → ReportsFirst (on_last (with_event event) nodes) illegal
first_stays nodes (Some i) event last one = illegal_grows nodes i event one
first_stays [] None event last all = all
first_stays (n ∷ nodes) None event last all = absurd (not_legal n nodes last all)

-- the next event of a node that is legal so far
module _ (nodes before : List ReadNode) (last : ReadNode) (are : nodes ≡ before ++ last ∷ []) (reported : Event) where
  -- the nodes after it
  pub grown : on_last (with_event reported) nodes ≡ before ++ with_event reported last ∷ []
  grown = ap (on_last (with_event reported)) are ∙ on_last-push (with_event reported) before last

  -- the nodes before it are legal where all are
  pub before_legal : ReportsFirst nodes None → (k : ℕ) (node : ReadNode) → slice_get before k ≡ Some node → IsLegalNode node
  before_legal all k node here =
      let there : slice_get nodes k ≡ Some node = ap (λ (ns : List ReadNode). slice_get ns k) are ∙ get-append_left before (last ∷ []) k node here in
      all k node (slice_get_within nodes k node there) there

  -- what stands behind it: one of the nodes before, or it
  pub stands : (k : ℕ) (node : ReadNode) → slice_get (on_last (with_event reported) nodes) k ≡ Some node → ((k < length before) × (slice_get before k ≡ Some node)) ⊎ ((k ≡ length before) × (node ≡ with_event reported last))
  stands k node here = get_push before (with_event reported last) k node (sym (ap (λ (ns : List ReadNode). slice_get ns k) grown) ∙ here)

  -- it fits
  pub first_grows : (illegal : Option Illegal) → IsLegalNode (with_event reported last) → ReportsFirst nodes illegal → ReportsFirst (on_last (with_event reported) nodes) illegal
  first_grows x legal all = grind (arith, stands, before_legal, illegal_grows)

  -- it doesn't fit
  pub first_stops : (illegal : Option Illegal) (event : Event) (line : ℕ) (m : Misfit) → event ≡ event_with (least_free last.shape last.events) reported → IsFirstMisfit last.shape (with_event reported last).events (length last.events) →
      Explains last.shape last.events event m → line ≡ last.first_line + length last.events → ReportsFirst nodes illegal → ReportsFirst (on_last (with_event reported) nodes) (first_illegal illegal (record { line = line; event = event; misfit = m }))
  first_stops None event line m placed misfit why at all =
      let P : List ReadNode → Type 0 = λ ns. IsFirstIllegalEvent ns (record { line = line; event = event; misfit = m }) in
      let W : History → Type 0 = λ h. Explains last.shape h event m in
      let x : Event = event_with (least_free last.shape last.events) reported in
      subst P (sym grown) (record {
        line = record {
          place = length before;
          node = with_event reported last;
          here = get_middle before (with_event reported last) [];
          legal_before = λ k node lt here.
              elim (get_push before (with_event reported last) k node here) [
                | inl w ↦ before_legal all k node w.1
                | inr w ↦ absurd (omega (arith, lt, w.0))
              ];
          first = record { place = length last.events; misfit = misfit; line_is = at };
        };
        event = get_middle last.events x [] ∙ ap (λ (e : Event). Some e) (sym placed);
        why = subst W (sym (take_at last.events (x ∷ []) (length last.events) refl)) why;
      })
  first_stops (Some i) event line m placed misfit why at one = illegal_grows nodes i reported one

-- ---- the nodes that lines report

pub reported_push : (lines : List (ℕ × Line)) (number : ℕ) (line : Line) → nodes_read (lines ++ (number, line) ∷ []) ≡ with_line number (nodes_read lines) line
unfolding nodes_read
reported_push lines number line = fold_push (λ nodes (l : ℕ × Line). with_line l.0 nodes l.1) [] lines (number, line)

pub reported_none : nodes_read [] ≡ []
unfolding nodes_read
reported_none = refl
