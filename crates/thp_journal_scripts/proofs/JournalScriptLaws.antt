-- The script of a journal, as one more line is read.
use Rattle.std.proofs.Common.{◌≡◌, ◌∙◌, ◌++◌, ◌+◌, ℕ, List, [], ◌∷◌, Option, Some, None, append_assoc, ap, ap₂, arith, inl, inr, length, map, refl, subst, sym, take, is_some, slice_get, true, false, OnOk, Result}
use Rattle.std.proofs.lemmas.List.{map-append, take-append-le, take_at}
use Rattle.std.proofs.lemmas.Option.{slice_get_within}
use Rattle.thp_history.specs.declared.events.Event.{Event}
use Rattle.thp_history.specs.declared.shape.Shape.{Shape}
use Rattle.thp_history.specs.Prelude.{event_with, least_free, History, IsFirstMisfit}
use Rattle.thp_history.proofs.ListPlaces.{get_middle, get_push}
use Rattle.thp_journal_reader.specs.declared.long_check.Illegal.{Illegal}
use Rattle.thp_journal_scripts.specs.Prelude.{JournalScript, ended_nodes, repeated_of, shape_and_events, AddsLine, IsLegalPart, IsScripting, IsScriptOf, moved_by, node_scripts, out_of_turn_by, taken_of, untaken, BeginsNode, EndedNode, EndsAs, EndsNode, GoesOnWith, IsWriting, NodeScript}
use Rattle.thp_journal_reader.specs.declared.journals.ReadNode.{ReadNode}
use Rattle.thp_journal_reader.specs.declared.line.Line.{Line}
use Rattle.thp_journal_reader.specs.declared.line.Line.TheVariants.{Head, Node, Happened, End}
use Rattle.thp_journal_reader.specs.Prelude.{IsFirstIllegalEvent, ReportsFirst, began, on_last, with_event, with_line}
use Rattle.thp_journal_reader.proofs.AnswerLaws.{misfit_inside, misfit_is_illegal}
use Rattle.thp_journal_reader.proofs.CheckLaws.{first_begins, first_none, front_stays, misfit_stays, stands, before_legal}
use Rattle.thp_journal_reader.proofs.NodeLaws.{on_last-push}

-- ---- the last of some nodes

some_last : {X : Type 0} (x : X) (xs : List X) → (before : List X) × (last : X) × (x ∷ xs ≡ before ++ last ∷ [])
some_last x [] = ([], x, refl)
some_last x (y ∷ ys) = let rest = some_last y ys in (x ∷ rest.0, rest.1, ap (λ l. x ∷ l) rest.2)

on_later : (f : ReadNode → ReadNode) (before : List ReadNode) (node next : ReadNode) (after : List ReadNode) → on_last f (before ++ node ∷ (next ∷ after)) ≡ before ++ node ∷ on_last f (next ∷ after)
on_later f [] node next after = refl
on_later f (b ∷ []) node next after = refl
on_later f (b ∷ c ∷ before) node next after = ap (λ ns. b ∷ ns) (on_later f (c ∷ before) node next after)

-- ---- the nodes up to the first illegal event

-- lines after the illegal event change nothing
part_begins : (nodes part : List ReadNode) (node : ReadNode) → IsLegalPart nodes part → IsLegalPart (nodes ++ node ∷ []) part
part_begins nodes part node is = grind (arith, append_assoc)

part_grows : (nodes part : List ReadNode) (e : Event) → IsLegalPart nodes part → IsLegalPart (on_last (with_event e) nodes) part
part_grows nodes part e is = by_after is.after is.nodes_are where
  by_after : (after : List ReadNode) → nodes ≡ is.before ++ is.node ∷ after → IsLegalPart (on_last (with_event e) nodes) part
  by_after [] are = record {
    before = is.before;
    node = with_event e is.node;
    after = [];
    nodes_are = ap (on_last (with_event e)) are ∙ on_last-push (with_event e) is.before is.node;
    legal = is.legal;
    place = is.place;
    misfit = misfit_stays e is.node is.place is.misfit;
    part_is = is.part_is ∙ ap (λ (h : History). is.before ++ record is.node { events = h } ∷ []) (sym (front_stays e is.node is.place (misfit_inside is.node.shape is.node.events is.place is.misfit)));
  }
  by_after (next ∷ after) are = record {
    before = is.before;
    node = is.node;
    after = on_last (with_event e) (next ∷ after);
    nodes_are = ap (on_last (with_event e)) are ∙ on_later (with_event e) is.before is.node next after;
    legal = is.legal;
    place = is.place;
    misfit = is.misfit;
    part_is = is.part_is;
  }

part_stays : (number : ℕ) (line : Line) (nodes part : List ReadNode) → IsLegalPart nodes part → IsLegalPart (with_line number nodes line) part
part_stays number x nodes part is = grind (arith, part_begins, part_grows)

-- some node is illegal
not_all : (nodes part : List ReadNode) → IsLegalPart nodes part → ReportsFirst nodes None → ⊥
not_all nodes part is all =
    let there : slice_get nodes (length is.before) ≡ Some is.node = ap (λ (ns : List ReadNode). slice_get ns (length is.before)) is.nodes_are ∙ get_middle is.before is.node is.after in
    misfit_is_illegal is.node.shape is.node.events is.place is.misfit (all (length is.before) is.node (slice_get_within nodes (length is.before) is.node there) there)

-- an illegal event behind legal ones is the last
module _ (nodes before : List ReadNode) (last : ReadNode) (are : nodes ≡ before ++ last ∷ []) (e : Event) (all : ReportsFirst nodes None) where
  last_stands : slice_get nodes (length before) ≡ Some last
  last_stands = ap (λ (ns : List ReadNode). slice_get ns (length before)) are ∙ get_middle before last []

  last_events : (k : ℕ) → IsFirstMisfit last.shape (with_event e last).events k → take k (with_event e last).events ≡ last.events
  last_events k misfit = grind (arith, slice_get_within, last_stands, get_push, take-append-le, take_at)

  last_is_illegal : (illegal : Illegal) → IsFirstIllegalEvent (on_last (with_event e) nodes) illegal → (part : List ReadNode) × IsLegalPart (on_last (with_event e) nodes) part × (map shape_and_events part ≡ map shape_and_events nodes)
  last_is_illegal illegal i =
      elim (stands nodes before last are e i.line.place i.line.node i.line.here) [
        | inl w ↦ absurd (misfit_is_illegal i.line.node.shape i.line.node.events i.line.first.place i.line.first.misfit (before_legal nodes before last are e all i.line.place i.line.node w.1))
        | inr w ↦
            let k : ℕ = i.line.first.place in
            let misfit : IsFirstMisfit last.shape (with_event e last).events k = subst (λ (n : ReadNode). IsFirstMisfit n.shape n.events k) w.1 i.line.first.misfit in
            let end : ReadNode = record (with_event e last) { events = take k (with_event e last).events } in (
              before ++ end ∷ [],
              record {
                before = before;
                node = with_event e last;
                after = [];
                nodes_are = ap (on_last (with_event e)) are ∙ on_last-push (with_event e) before last;
                legal = λ j node lt here. before_legal nodes before last are e all j node here;
                place = k;
                misfit = misfit;
                part_is = refl;
              },
              map-append shape_and_events before (end ∷ []) ∙ ap (λ (h : History). map shape_and_events before ++ (last.shape, h) ∷ []) (last_events k misfit) ∙ sym (map-append shape_and_events before (last ∷ [])) ∙ ap (map shape_and_events) (sym are),
            )
      ]

-- nodes without an illegal event have none
none_illegal : (nodes : List ReadNode) → ReportsFirst nodes None → (illegal : Illegal) → IsFirstIllegalEvent nodes illegal → ⊥
none_illegal nodes all illegal i = grind (arith, misfit_is_illegal, slice_get_within)

-- the first illegal event is on this line
found_now : (number : ℕ) (line : Line) (nodes : List ReadNode) → ReportsFirst nodes None → (illegal : Illegal) → IsFirstIllegalEvent (with_line number nodes line) illegal →
    (part : List ReadNode) × IsLegalPart (with_line number nodes line) part × (map shape_and_events part ≡ map shape_and_events nodes)
found_now number (Head version) nodes all illegal i = absurd (none_illegal nodes all illegal i)
found_now number (Node n shape) nodes all illegal i = absurd (none_illegal (nodes ++ began (number + 1) shape ∷ []) (first_begins nodes None (number + 1) shape all) illegal i)
found_now number (Happened e) [] all illegal i = absurd (none_illegal [] first_none illegal i)
found_now number (Happened e) (x ∷ xs) all illegal i = let l = some_last x xs in last_is_illegal (x ∷ xs) l.0 l.1 l.2 e all illegal i
found_now number End nodes all illegal i = absurd (none_illegal nodes all illegal i)

-- ---- the script

-- the nodes with a script, once the last of them has ended
same_ended : (ended : List EndedNode) (begun : Option NodeScript) (after : List EndedNode) → EndsAs ended begun after → map repeated_of (node_scripts after None) ≡ map repeated_of (node_scripts ended begun)
same_ended ended x after is = grind (arith, map-append)

-- it ends at the illegal event, or has
pub stops : (number : ℕ) (line : Line) (nodes : List ReadNode) (old new : JournalScript) (was : Option Illegal) (illegal : Illegal) → ReportsFirst nodes was → ReportsFirst (with_line number nodes line) (Some illegal) → EndsNode old new →
    IsScripting nodes was old → IsScripting (with_line number nodes line) (Some illegal) new
stops number line nodes old new None illegal all first ends s =
    let found = found_now number line nodes all illegal first in
    let e = ends s.ended s.begun s.writing in
    record {
      part = found.0;
      legal = found.1;
      ended = e.0;
      begun = None;
      same = found.2 ∙ ap (map shape_and_events) (sym s.legal) ∙ s.same ∙ sym (same_ended s.ended s.begun e.0 e.1);
      goes_on = λ none. absurd (cc);
      writing = e.2;
    }
stops number line nodes old new (Some before) illegal all first ends s =
    let e = ends s.ended s.begun s.writing in
    record {
      part = s.part;
      legal = part_stays number line nodes s.part s.legal;
      ended = e.0;
      begun = None;
      same = s.same ∙ sym (same_ended s.ended s.begun e.0 e.1);
      goes_on = λ none. absurd (cc);
      writing = e.2;
    }

-- ends of equal lists
same_front : {X : Type 0} (xs ys : List X) (x y : X) → xs ++ x ∷ [] ≡ ys ++ y ∷ [] → (xs ≡ ys) × (x ≡ y)
same_front [] [] x y is = let here : x ≡ y = cc in (refl, here)
same_front [] (b ∷ []) x y is = absurd (cc)
same_front [] (b ∷ c ∷ ys) x y is = absurd (cc)
same_front (a ∷ []) [] x y is = absurd (cc)
same_front (a ∷ b ∷ xs) [] x y is = absurd (cc)
same_front (a ∷ xs) (b ∷ ys) x y is =
    let first : a ≡ b = cc in
    let rest : xs ++ x ∷ [] ≡ ys ++ y ∷ [] = cc in
    let more = same_front xs ys x y rest in
    (ap₂ (λ c cs. c ∷ cs) first more.0, more.1)

-- no list ends in an element and is empty
not_empty : {X : Type 0} (xs : List X) (x : X) → [] ≡ xs ++ x ∷ [] → ⊥
not_empty [] x is = cc
not_empty (y ∷ xs) x is = cc

module _ (number : ℕ) (nodes : List ReadNode) (old new : JournalScript) (s : IsScripting nodes None old) where
  node_begins : (n : ℕ) (shape : Shape) → BeginsNode shape old new → IsScripting (with_line number nodes (Node n shape)) None new
  node_begins n shape begins =
      let e = begins s.ended s.begun s.writing in
      let first : NodeScript = record { shape = shape; events = []; ops = [] } in
      record {
        part = nodes ++ began (number + 1) shape ∷ [];
        legal = refl;
        ended = e.0;
        begun = Some first;
        same = map-append shape_and_events nodes (began (number + 1) shape ∷ []) ∙ ap (λ l. l ++ (shape, []) ∷ []) (ap (map shape_and_events) (sym s.legal) ∙ s.same ∙ sym (same_ended s.ended s.begun e.0 e.1))
            ∙ sym (map-append repeated_of (ended_nodes e.0) (first ∷ []));
        goes_on = λ none ended. absurd (cc);
        writing = e.2;
      }

  -- an event of the last node
  module _ (e : Event) (adds : (block : ℕ) → GoesOnWith (event_with block e) old new) where
    of_last : (before : List ReadNode) (last : ReadNode) → nodes ≡ before ++ last ∷ [] → (n : NodeScript) → s.begun ≡ Some n → IsScripting (on_last (with_event e) nodes) None new
    of_last before last are n begun =
        let block : ℕ = least_free last.shape last.events in
        let a = adds block s.ended (Some n) (subst (λ b. IsWriting s.ended b old) begun s.writing) in
        let m : NodeScript = record { shape = n.shape; events = n.events ++ event_with block e ∷ []; ops = n.ops ++ a.1.0 } in
        let both = same_front (map shape_and_events before) (map repeated_of (ended_nodes s.ended)) (shape_and_events last) (repeated_of n)
        (sym (map-append shape_and_events before (last ∷ [])) ∙ ap (map shape_and_events) (sym are ∙ sym s.legal) ∙ s.same ∙ ap (λ b. map repeated_of (node_scripts s.ended b)) begun ∙ map-append repeated_of (ended_nodes s.ended) (n ∷ [])) in
        record {
          part = on_last (with_event e) nodes;
          legal = refl;
          ended = s.ended;
          begun = Some m;
          same = ap (λ ns. map shape_and_events (on_last (with_event e) ns)) are ∙ ap (map shape_and_events) (on_last-push (with_event e) before last) ∙ map-append shape_and_events before (with_event e last ∷ [])
              ∙ ap₂ (λ l (p : Shape × History). l ++ (p.0, p.1 ++ event_with block e ∷ []) ∷ []) both.0 both.1 ∙ sym (map-append repeated_of (ended_nodes s.ended) (m ∷ []));
          goes_on = λ none ended. absurd (cc);
          writing = subst (λ b. IsWriting s.ended b new) a.1.1 a.2;
        }

    no_node : nodes ≡ [] → s.begun ≡ None → s.ended ≡ [] → IsScripting (on_last (with_event e) nodes) None new
    no_node none begun ended =
        let a = adds 0 s.ended None (subst (λ b. IsWriting s.ended b old) begun s.writing) in
        record {
          part = on_last (with_event e) nodes;
          legal = refl;
          ended = s.ended;
          begun = None;
          same = ap (λ ns. map shape_and_events (on_last (with_event e) ns)) none ∙ ap (λ es. map repeated_of (ended_nodes es)) (sym ended);
          goes_on = λ some is. ended;
          writing = subst (λ b. IsWriting s.ended b new) a.1 a.2;
        }

    by_begun : (begun : Option NodeScript) → s.begun ≡ begun → (ns : List ReadNode) → nodes ≡ ns → IsScripting (on_last (with_event e) nodes) None new
    by_begun None is [] are = no_node are is (s.goes_on refl is)
    by_begun None is (x ∷ xs) are =
        let reported : map shape_and_events (x ∷ xs) ≡ [] = ap (map shape_and_events) (sym are ∙ sym s.legal) ∙ s.same ∙ ap₂ (λ b es. map repeated_of (node_scripts es b)) is (s.goes_on refl is) in
        absurd (cc)
    by_begun (Some n) is [] are =
        absurd (not_empty (map repeated_of (ended_nodes s.ended)) (repeated_of n) (ap (map shape_and_events) (sym are ∙ sym s.legal) ∙ s.same ∙ ap (λ b. map repeated_of (node_scripts s.ended b)) is ∙ map-append repeated_of (ended_nodes s.ended) (n ∷ [])))
    by_begun (Some n) is (x ∷ xs) are = let l = some_last x xs in of_last l.0 l.1 (are ∙ l.2) n is

    goes_on : IsScripting (on_last (with_event e) nodes) None new
    goes_on = by_begun s.begun refl nodes refl

-- it goes on with a line after which all is legal
pub grows : (number : ℕ) (line : Line) (nodes : List ReadNode) (old new : JournalScript) (was : Option Illegal) → ReportsFirst (with_line number nodes line) None → AddsLine line old new → IsScripting nodes was old →
    IsScripting (with_line number nodes line) None new
grows number line nodes old new (Some before) all adds s = absurd (not_all (with_line number nodes line) s.part (part_stays number line nodes s.part s.legal) all)
grows number (Head version) nodes old new None all same s = subst (IsScripting nodes None) (sym same) s
grows number (Node n shape) nodes old new None all begins s = node_begins number nodes old new s n shape begins
grows number (Happened e) nodes old new None all adds s = goes_on number nodes old new s e adds
grows number End nodes old new None all same s = subst (IsScripting nodes None) (sym same) s

-- the same, of nodes that lines report
module _ (number : ℕ) (line : Line) (nodes more : List ReadNode) (reported : more ≡ with_line number nodes line) (old new : JournalScript) (was now : Option Illegal) (first : ReportsFirst more now) (s : IsScripting nodes was old) where
  pub stops_now : ReportsFirst nodes was → (is_some now ≡ true) → EndsNode old new → IsScripting more now new
  stops_now before some ends = grind (arith, is_some, stops)

  pub grows_now : (is_some now ≡ false) → AddsLine line old new → IsScripting more now new
  grows_now none adds = grind (arith, is_some, grows)

pub on_ok_more : {A E P Q : Type 0} (r : Result A E) → (P → Q) → OnOk r P → OnOk r Q
on_ok_more x f p = grind arith

-- its end
pub script_ends : (nodes : List ReadNode) (illegal : Option Illegal) (old new : JournalScript) → EndsNode old new → IsScripting nodes illegal old → IsScriptOf nodes illegal (taken_of new ++ untaken new) (moved_by new) (out_of_turn_by new)
script_ends nodes illegal old new ends s = grind (arith, same_ended)

-- before the first line
pub script_begins : (illegal : Option Illegal) (s : JournalScript) → ReportsFirst [] illegal → IsWriting [] None s → IsScripting [] illegal s
script_begins None s first w = record {
  part = [];
  legal = refl;
  ended = [];
  begun = None;
  same = refl;
  goes_on = λ none is. refl;
  writing = w;
}
script_begins (Some i) s first w = absurd (none_illegal [] first_none i first)
