-- The script of several nodes, as it is written.
use Rattle.std.proofs.Common.{◌≡◌, ◌∙◌, ◌++◌, ◌+◌, ◌-◌, ◌^◌, ◌<◌, ℕ, List, [], ◌∷◌, Option, Some, None, append_assoc, ap, ap₂, arith, get_or, length, length-append, map, min, refl, subst, sym, take, if◌then◌else◌}
use Rattle.std.proofs.lemmas.Grind.{flat_map-append}
use Rattle.std.proofs.lemmas.List.{append-nil, map-append, take_more}
use Rattle.std.proofs.lemmas.List.Elements.{All-append, All-cons, All-nil}
use Rattle.std.proofs.lemmas.List.Sums.{fold_push, sum_by_push}
use Rattle.thp_history.specs.declared.events.Event.{Event}
use Rattle.thp_history.specs.declared.shape.Shape.{Shape}
use Rattle.thp_history.specs.Prelude.{History}
use Rattle.thp_script.specs.declared.script.Op.{Op}
use Rattle.thp_journal_scripts.specs.Prelude.{Folding, JournalScript, Moved, nothing_moved, AddsTo, FoldEnds, HasAdded, IsFolded, both_moved, capped_count, head_text, node_after, node_script_text, nodes_text, out_of_turn_by, out_of_turn_in, script_shape, BeginsNode, EndedNode, EndsAs, EndsNode, GoesOnAs, GoesOnWith, IsBegun, IsEnded, IsWriting, NodeScript, command_line, commands_text, is_out_of_turn, turns_after, turns_of, untried_after, TurnsSoFar, UntriedPage}

-- ---- texts

-- the lines of one more command
pub one_more_command : (n i : ℕ) (ops : List Op) (d : Op) → i < length ops → commands_text n (take (i + 1) ops) ≡ commands_text n (take i ops) ++ command_line (record { node = n; op = get_or ops i d })
one_more_command n i ops d below =
    ap (commands_text n) (take_more ops i d below) ∙ flat_map-append (λ (o : Op). command_line (record { node = n; op = o })) (take i ops) (get_or ops i d ∷ [])
    ∙ ap (λ t. commands_text n (take i ops) ++ t) (append-nil (command_line (record { node = n; op = get_or ops i d })))

-- the loop over commands appends their lines
pub line_appended : (n i : ℕ) (ops : List Op) (d : Op) (first text new : List ℕ) → i < length ops → text ≡ first ++ commands_text n (take i ops) → new ≡ text ++ command_line (record { node = n; op = get_or ops i d }) → new ≡ first ++ commands_text n (take (i + 1) ops)
line_appended n i ops d first text new below so_far line = grind (arith, get_or, append_assoc, one_more_command)

-- the lines of more commands of a node
more_text : (before : List Shape) (n : NodeScript) (later : History) (ops : List Op) → node_script_text before (record { shape = n.shape; events = later; ops = n.ops ++ ops }) ≡ node_script_text before n ++ commands_text (node_after before) ops
more_text before n later ops = grind (arith, flat_map-append, append_assoc)

-- the text of one more node
one_more_node : (before : List Shape) (nodes : List NodeScript) (n : NodeScript) → nodes_text before (nodes ++ n ∷ []) ≡ nodes_text before nodes ++ node_script_text (before ++ map script_shape nodes) n
one_more_node before [] n = append-nil (node_script_text before n) ∙ ap (λ b. node_script_text b n) (sym (append-nil before))
one_more_node before (m ∷ nodes) n =
    ap (λ t. node_script_text before m ++ t) (one_more_node (before ++ m.shape ∷ []) nodes n)
    ∙ sym (append_assoc (node_script_text before m) (nodes_text (before ++ m.shape ∷ []) nodes) (node_script_text ((before ++ m.shape ∷ []) ++ map script_shape nodes) n))
    ∙ ap (λ b. (node_script_text before m ++ nodes_text (before ++ m.shape ∷ []) nodes) ++ node_script_text b n) (append_assoc before (m.shape ∷ []) (map script_shape nodes))

-- the text of the last node's further commands
more_of_last : (nodes : List NodeScript) (n : NodeScript) (later : History) (ops : List Op) → nodes_text [] (nodes ++ record { shape = n.shape; events = later; ops = n.ops ++ ops } ∷ []) ≡ nodes_text [] (nodes ++ n ∷ []) ++ commands_text (node_after (map script_shape nodes)) ops
more_of_last nodes n later ops =
    one_more_node [] nodes (record { shape = n.shape; events = later; ops = n.ops ++ ops }) ∙ ap (λ t. nodes_text [] nodes ++ t) (more_text (map script_shape nodes) n later ops)
    ∙ sym (append_assoc (nodes_text [] nodes) (node_script_text (map script_shape nodes) n) (commands_text (node_after (map script_shape nodes)) ops))
    ∙ ap (λ t. t ++ commands_text (node_after (map script_shape nodes)) ops) (sym (one_more_node [] nodes n))

-- ---- numbers of nodes

one_more_shape : (nodes : List NodeScript) (n : NodeScript) → length (map script_shape (nodes ++ n ∷ [])) ≡ length (map script_shape nodes) + 1
one_more_shape nodes n = ap length (map-append script_shape nodes (n ∷ [])) ∙ length-append (map script_shape nodes) (n.shape ∷ [])

last_number : (count length : ℕ) → count ≡ min (length + 1) (2 ^ 32 - 1) → count - 1 ≡ min length (2 ^ 32 - 2)
last_number count length is = omega (arith, is)

-- the number of the last node
number_of_last : (nodes : List NodeScript) (n : NodeScript) (shapes : List Shape) (count : ℕ) → shapes ≡ map script_shape (nodes ++ n ∷ []) → count ≡ min (length shapes) (2 ^ 32 - 1) → count - 1 ≡ node_after (map script_shape nodes)
number_of_last nodes n shapes count are is = last_number count (length (map script_shape nodes)) (is ∙ ap (λ k. min k (2 ^ 32 - 1)) (ap length are ∙ one_more_shape nodes n))

-- ---- turns

-- an event's tries out of turn
abbrev more_out_of_turn : List UntriedPage → Event → ℕ
more_out_of_turn pages e = if is_out_of_turn pages e then 1 else 0

one_more_turn : (h : History) (e : Event) → turns_of (h ++ e ∷ []) ≡ turns_after (turns_of h) e
one_more_turn h e = fold_push turns_after (record { untried = []; count = 0 }) h e

more_counted : (old new all k : ℕ) → old ≡ capped_count all → new ≡ capped_count (old + k) → new ≡ capped_count (all + k)
more_counted old new all k is more = omega (arith, is, more)

-- the nodes' count with one more event of the last one
more_turns : (nodes : List NodeScript) (n : NodeScript) (e : Event) (m : NodeScript) → m.events ≡ n.events ++ e ∷ [] → out_of_turn_in (nodes ++ m ∷ []) ≡ out_of_turn_in (nodes ++ n ∷ []) + more_out_of_turn (turns_of n.events).untried e
more_turns nodes n e m is = grind (arith, one_more_turn, sum_by_push)

-- a node of the same events
same_turns : (nodes : List NodeScript) (n m : NodeScript) → m.events ≡ n.events → out_of_turn_in (nodes ++ m ∷ []) ≡ out_of_turn_in (nodes ++ n ∷ [])
same_turns nodes n m is = grind (arith, sum_by_push)

-- a node without an event
no_turns : (nodes : List NodeScript) (n : NodeScript) → n.events ≡ [] → out_of_turn_in (nodes ++ n ∷ []) ≡ out_of_turn_in nodes
no_turns nodes n is = grind (arith, sum_by_push)

-- ---- steps

-- the nodes that have ended
abbrev ended_nodes : List EndedNode → List NodeScript
ended_nodes ended = map (λ (e : EndedNode). e.node) ended

-- more text
more_written : (taken taken' text text' all more : List ℕ) → taken' ≡ taken → text' ≡ text ++ more → taken ++ text ≡ all → taken' ++ text' ≡ all ++ more
more_written taken taken' text text' all more same longer is = ap₂ (λ t u. t ++ u) same longer ∙ sym (append_assoc taken text more) ∙ ap (λ t. t ++ more) is

module _ (old new : JournalScript) (f : Folding) (p : List Op) (held : old.node ≡ Some f) (text : new.text.items ≡ old.text.items ++ commands_text (old.nodes - 1) p) (taken : new.taken ≡ old.taken) (nodes : new.nodes ≡ old.nodes) (shapes : new.shapes ≡ old.shapes) (none : new.ops.items ≡ []) where
  -- an event of the node that has begun
  pub goes_on : (e : Event) (g : Folding) → new.node ≡ Some g → new.moved ≡ old.moved → new.turns.untried.items ≡ untried_after old.turns.untried.items e →
      new.turns.out_of_turn ≡ capped_count (old.turns.out_of_turn + more_out_of_turn old.turns.untried.items e) → HasAdded old.ops.items p (AddsTo e f g) → GoesOnWith e old new
  goes_on e g begun moved untried count added = λ ended now w. by_node ended now w (subst (λ x. IsBegun now x) held w.begun_is) where
    by_node : (ended : List EndedNode) (now : Option NodeScript) → IsWriting ended now old → IsBegun now (Some f) → (after : Option NodeScript) × GoesOnAs e now after × IsWriting ended after new
    by_node ended None w is = absurd is
    by_node ended (Some n) w is =
        let all : p ≡ added.0 = added.1 ∙ ap (λ os. os ++ added.0) w.none_left in
        let number : old.nodes - 1 ≡ node_after (map script_shape (ended_nodes ended)) = number_of_last (ended_nodes ended) n old.shapes.items old.nodes w.shapes_are w.count in
        let m : NodeScript = record { shape = n.shape; events = n.events ++ e ∷ []; ops = n.ops ++ added.0 } in (
          Some m,
          (added.0, refl),
          record {
            each = w.each;
            begun_is = subst (λ x. IsBegun (Some m) x) (sym begun) (added.2 n.events n.ops is);
            text_is =
                more_written old.taken new.taken old.text.items new.text.items (nodes_text [] (ended_nodes ended ++ n ∷ [])) (commands_text (old.nodes - 1) p) taken text w.text_is
                ∙ ap (λ t. nodes_text [] (ended_nodes ended ++ n ∷ []) ++ t) (ap₂ (λ k os. commands_text k os) number all) ∙ sym (more_of_last (ended_nodes ended) n (n.events ++ e ∷ []) added.0);
            moved_is = moved ∙ w.moved_is;
            untried_are = untried ∙ ap (λ pages. untried_after pages e) w.untried_are ∙ ap (λ (t : TurnsSoFar). t.untried) (sym (one_more_turn n.events e));
            out_of_turn_is =
                more_counted (out_of_turn_by old) (out_of_turn_by new) (out_of_turn_in (ended_nodes ended ++ n ∷ [])) (more_out_of_turn (turns_of n.events).untried e) w.out_of_turn_is
                (count ∙ ap (λ pages. capped_count (old.turns.out_of_turn + more_out_of_turn pages e)) w.untried_are)
                ∙ ap capped_count (sym (more_turns (ended_nodes ended) n e m refl));
            shapes_are = ap (λ v. v.items) shapes ∙ w.shapes_are ∙ map-append script_shape (ended_nodes ended) (n ∷ []) ∙ sym (map-append script_shape (ended_nodes ended) (m ∷ []));
            count = nodes ∙ w.count ∙ ap (λ v. min (length v.items) (2 ^ 32 - 1)) (sym shapes);
            none_left = none;
          },
        )

  -- its end
  pub ends : (moved : Moved) → new.node ≡ None → new.moved ≡ both_moved old.moved moved → new.turns ≡ old.turns → HasAdded old.ops.items p (FoldEnds f moved) → EndsNode old new
  ends moved begun sums turns added = λ ended now w. by_node ended now w (subst (λ x. IsBegun now x) held w.begun_is) where
    by_node : (ended : List EndedNode) (now : Option NodeScript) → IsWriting ended now old → IsBegun now (Some f) → (after : List EndedNode) × EndsAs ended now after × IsWriting after None new
    by_node ended None w is = absurd is
    by_node ended (Some n) w is =
        let all : p ≡ added.0 = added.1 ∙ ap (λ os. os ++ added.0) w.none_left in
        let number : old.nodes - 1 ≡ node_after (map script_shape (ended_nodes ended)) = number_of_last (ended_nodes ended) n old.shapes.items old.nodes w.shapes_are w.count in
        let m : NodeScript = record { shape = n.shape; events = n.events; ops = n.ops ++ added.0 } in
        let last : EndedNode = record { node = m; moved = moved } in
        let nodes_are : ended_nodes (ended ++ last ∷ []) ≡ ended_nodes ended ++ m ∷ [] = map-append (λ (e : EndedNode). e.node) ended (last ∷ []) in (
          ended ++ last ∷ [],
          (added.0, (moved, refl)),
          record {
            each = All-append IsEnded ended (last ∷ []) w.each (All-cons IsEnded last [] (added.2 n.events n.ops is) (All-nil IsEnded));
            begun_is = subst (λ x. IsBegun None x) (sym begun) tt;
            text_is =
                more_written old.taken new.taken old.text.items new.text.items (nodes_text [] (ended_nodes ended ++ n ∷ [])) (commands_text (old.nodes - 1) p) taken text w.text_is
                ∙ ap (λ t. nodes_text [] (ended_nodes ended ++ n ∷ []) ++ t) (ap₂ (λ k os. commands_text k os) number all) ∙ sym (more_of_last (ended_nodes ended) n n.events added.0) ∙ ap (nodes_text []) (sym nodes_are);
            moved_is = sums ∙ ap (λ x. both_moved x moved) w.moved_is ∙ sym (fold_push (λ (x : Moved) (e : EndedNode). both_moved x e.moved) nothing_moved ended last);
            untried_are = tt;
            out_of_turn_is = ap (λ t. t.out_of_turn) turns ∙ w.out_of_turn_is ∙ ap capped_count (sym (same_turns (ended_nodes ended) n m refl) ∙ ap out_of_turn_in (sym nodes_are));
            shapes_are = ap (λ v. v.items) shapes ∙ w.shapes_are ∙ map-append script_shape (ended_nodes ended) (n ∷ []) ∙ sym (map-append script_shape (ended_nodes ended) (m ∷ [])) ∙ ap (map script_shape) (sym nodes_are);
            count = nodes ∙ w.count ∙ ap (λ v. min (length v.items) (2 ^ 32 - 1)) (sym shapes);
            none_left = none;
          },
        )

one_more_number : (count length next : ℕ) → count ≡ min length (2 ^ 32 - 1) → next ≡ min (count + 1) (2 ^ 32 - 1) → next ≡ min (length + 1) (2 ^ 32 - 1)
one_more_number count length next is more = omega (arith, is, more)

-- a node begins
pub begins : (old mid new : JournalScript) (s : Shape) (f : Folding) → EndsNode old mid → new.shapes.items ≡ mid.shapes.items ++ s ∷ [] → new.nodes ≡ min (mid.nodes + 1) (2 ^ 32 - 1) → new.taken ≡ mid.taken →
    new.text.items ≡ mid.text.items ++ head_text new.shapes.items → new.node ≡ Some f → IsFolded [] [] f → new.moved ≡ mid.moved → new.ops ≡ mid.ops → new.turns.untried.items ≡ [] → new.turns.out_of_turn ≡ mid.turns.out_of_turn → BeginsNode s old new
begins old mid new s f ended shapes nodes taken text node folded moved ops untried count = λ done now w.
    let e = ended done now w in
    let n : NodeScript = record { shape = s; events = []; ops = [] } in
    let before : List NodeScript = ended_nodes e.0 in
    let all : new.shapes.items ≡ map script_shape before ++ s ∷ [] = shapes ∙ ap (λ v. v ++ s ∷ []) e.2.shapes_are in (
      e.0,
      e.1,
      record {
        each = e.2.each;
        begun_is = subst (λ x. IsBegun (Some n) x) (sym node) folded;
        text_is =
            more_written mid.taken new.taken mid.text.items new.text.items (nodes_text [] before) (head_text new.shapes.items) taken text e.2.text_is ∙ ap (λ u. nodes_text [] before ++ head_text u) all
            ∙ ap (λ t. nodes_text [] before ++ t) (sym (append-nil (head_text (map script_shape before ++ s ∷ [])))) ∙ sym (one_more_node [] before n);
        moved_is = moved ∙ e.2.moved_is;
        untried_are = untried;
        out_of_turn_is = count ∙ e.2.out_of_turn_is ∙ ap capped_count (sym (no_turns before n refl));
        shapes_are = all ∙ sym (map-append script_shape before (n ∷ []));
        count = one_more_number mid.nodes (length mid.shapes.items) new.nodes e.2.count nodes ∙ ap (λ k. min k (2 ^ 32 - 1)) (sym (ap length shapes ∙ length-append mid.shapes.items (s ∷ [])));
        none_left = ap (λ v. v.items) ops ∙ e.2.none_left;
      },
    )
