-- What a follower knows of the nodes, as one more node begins and as one more event is read.
use Rattle.std.proofs.Common.{◌≡◌, ◌∙◌, ◌⊎◌, ℕ, ◌+◌, ◌≤◌, List, [], ◌∷◌, ◌++◌, length, Option, Some, None, refl, sym, ap, ap₂, subst, arith, inl, inr, length-append, All, Bool, IfSome, true, false, take_at}
use Rattle.std.proofs.lemmas.List.Elements.{All-nil}
use Rattle.thp_history.specs.declared.events.Event.{Event}
use Rattle.thp_history.specs.declared.shape.Shape.{Shape}
use Rattle.thp_history.specs.Prelude.{event_with, least_free, History, Fits, IsFirstMisfit}
use Rattle.thp_history.proofs.LegalSteps.{legal_push}
use Rattle.thp_history.proofs.ListPlaces.{get_middle}
use Rattle.thp_check.specs.declared.misfit.Misfit.{Misfit}
use Rattle.thp_check.specs.Prelude.{Explains, Replayed, replayed_with}
use Rattle.thp_script.specs.Prelude.{max_counted}
use Rattle.thp_journal_reader.specs.Prelude.{FollowedNodes, Follower, Illegal, ReadNode, Line, IsLegalNode, ReportsFirst, first_illegal, has_stopped, nodes_read, AreKept, EndsAt, FollowerKnows, FollowsBy, FollowsLines, HasEnded, HasNone, FollowerHasRoom, HasRoomIn, IsStored, LastIsIllegal, StopsWith, HasShapeWithin, began, on_last, with_event, with_line, IsNodeBefore}
use Rattle.thp_journal_reader.proofs.AnswerLaws.{found_has, legal_more, legal_none, misfit_inside, misfit_is_illegal}
use Rattle.thp_journal_reader.proofs.CheckLaws.{first_grows, first_none, first_stays, first_stops, front_stays, grown, illegal_grows, illegal_push, illegal_stays, last_misfit, misfit_stays, no_events_legal, reported_none, reported_push}
use Rattle.thp_journal_reader.proofs.NodeLaws.{each_step}
use Rattle.thp_journal_reader.proofs.ZipLaws.{zip_push}

-- a legal node reports no illegal event
legal_alone : (node : ReadNode) → IsLegalNode node → ReportsFirst (node ∷ []) None
legal_alone node legal = legal_more (node ∷ []) 0 node (omega arith) refl (legal_none (node ∷ [])) legal

-- where nodes are followed on, none has stopped
stopped_some : (follows_all : Bool) (illegal : Option Illegal) → has_stopped follows_all illegal ≡ true → (i : Illegal) × (illegal ≡ Some i)
stopped_some follows_all x stopped = grind arith

module _ {K : Type 0} (keeps : Shape → History → Option Illegal → K → Type 0) where
  -- ---- what is kept of nodes

  -- one more event of a node that has an illegal one changes nothing
  kept_stays : (event : Event) (node : ReadNode) (kept : K) (place : ℕ) → IsFirstMisfit node.shape node.events place → IsStored keeps node kept → IsStored keeps (with_event event node) kept
  kept_stays event node kept place first is = elim (is.legal) [
    | inl whole ↦ absurd (misfit_is_illegal node.shape node.events place first whole.0)
    | inr front ↦ record {
      front = is.front;
      illegal = is.illegal;
      legal = inr (record {
        place = front.place;
        misfit = misfit_stays event node front.place front.misfit;
        front_is = front.front_is ∙ sym (front_stays event node front.place (misfit_inside node.shape node.events front.place front.misfit));
      });
      first = first_stays (node ∷ []) is.illegal event (place, first) is.first;
      kept_is = is.kept_is;
    }
  ]

  all_stay : (event : Event) (nodes : List ReadNode) (kept : List K) → LastIsIllegal nodes → AreKept keeps nodes kept → AreKept keeps (on_last (with_event event) nodes) kept
  all_stay event [] kept last are = are
  all_stay event (n ∷ []) [] last are = absurd are
  all_stay event (n ∷ []) (k ∷ kept) last are = (kept_stays event n k last.0 last.1 are.0, are.1)
  all_stay event (n ∷ m ∷ nodes) [] last are = absurd are
  all_stay event (n ∷ m ∷ nodes) (k ∷ kept) last are = (are.0, all_stay event (m ∷ nodes) kept last are.1)

  -- ---- step by step

  -- no node is at hand: an event changes nothing
  pub still : (follows_all : Bool) (nodes : List ReadNode) (illegal : Option Illegal) (kept : List K) (event : Event) → ReportsFirst nodes illegal → HasNone keeps follows_all nodes illegal kept →
      ReportsFirst (on_last (with_event event) nodes) illegal × HasNone keeps follows_all (on_last (with_event event) nodes) illegal kept
  still follows_all nodes illegal kept event first known = grind (arith, first_stays, all_stay, illegal_stays, stopped_some, illegal_grows)

  -- the last node has no further event: it is kept
  pub ends : (nodes : List ReadNode) (replay : Replayed) (next_line : ℕ) (kept new : List K) (more : K) → EndsAt keeps nodes replay next_line kept → keeps replay.shape replay.history None more → new ≡ kept ++ more ∷ [] → AreKept keeps nodes new
  ends nodes replay next_line kept new more e is are =
      let T : Replayed → Type 0 = λ r. keeps r.shape r.history None more in
      let P : List ReadNode → Type 0 = λ ns. AreKept keeps ns new in
      let Q : List K → Type 0 = λ ks. AreKept keeps (e.before ++ e.last ∷ []) ks in
      subst P (sym e.nodes_are) (subst Q (sym are) (zip_push (IsStored keeps) e.before kept e.last more e.kept_are (record {
        front = e.last.events;
        illegal = None;
        legal = inl (e.legal, refl);
        first = legal_alone e.last e.legal;
        kept_is = subst T e.replay_is is;
      })))

  -- one more node begins behind nodes that are kept
  pub begins : (nodes : List ReadNode) (kept : List K) (replay : Replayed) (first_line : ℕ) (shape : Shape) → AreKept keeps nodes kept → replay.shape ≡ shape → replay.history ≡ [] → EndsAt keeps (nodes ++ began first_line shape ∷ []) replay first_line kept
  begins nodes kept replay first_line shape are same none = record {
    before = nodes;
    last = began first_line shape;
    nodes_are = refl;
    replay_is = let with_both : Shape → History → Replayed = λ s h. record { shape = s; history = h } in ap₂ with_both same none;
    legal = no_events_legal shape;
    next_is = omega arith;
    kept_are = are;
  }

  module _ (nodes : List ReadNode) (replay : Replayed) (next_line : ℕ) (kept : List K) (e : EndsAt keeps nodes replay next_line kept) (reported event : Event) (placed : event ≡ event_with (least_free replay.shape replay.history) reported) where
    -- the last node's event, in its block
    there : event ≡ event_with (least_free e.last.shape e.last.events) reported
    there = placed ∙ ap (λ (r : Replayed). event_with (least_free r.shape r.history) reported) e.replay_is

    -- the event fits
    module _ (new : Replayed) (is : new ≡ replayed_with replay event) (fits : Fits replay.shape replay.history event) where
      legal : IsLegalNode (with_event reported e.last)
      legal =
          let F : Event → Type 0 = λ x. Fits e.last.shape e.last.events x in
          let G : Replayed → Type 0 = λ r. Fits r.shape r.history event in
          legal_push e.last.shape e.last.events (event_with (least_free e.last.shape e.last.events) reported) e.legal (subst F there (subst G e.replay_is fits))

      pub grows : (illegal : Option Illegal) → ReportsFirst nodes illegal → ReportsFirst (on_last (with_event reported) nodes) illegal × EndsAt keeps (on_last (with_event reported) nodes) new (next_line + 1) kept
      grows illegal first = (
        first_grows nodes e.before e.last e.nodes_are reported illegal legal first,
        record {
          before = e.before;
          last = with_event reported e.last;
          nodes_are = grown nodes e.before e.last e.nodes_are reported;
          replay_is = is ∙ ap₂ replayed_with e.replay_is there;
          legal = legal;
          next_is = omega (arith, e.next_is, length-append e.last.events (event_with (least_free e.last.shape e.last.events) reported ∷ []));
          kept_are = e.kept_are;
        },
      )

    -- the event doesn't fit
    module _ (m : Misfit) (wrong : Fits replay.shape replay.history event → ⊥) (why : Explains replay.shape replay.history event m) where
      misfit : IsFirstMisfit e.last.shape (with_event reported e.last).events (length e.last.events)
      misfit =
          let F : Event → Type 0 = λ x. Fits e.last.shape e.last.events x → ⊥ in
          let G : Replayed → Type 0 = λ r. Fits r.shape r.history event → ⊥ in
          last_misfit e.last.shape e.last.events (event_with (least_free e.last.shape e.last.events) reported) e.legal (subst F there (subst G e.replay_is wrong))

      explained : Explains e.last.shape e.last.events event m
      explained = let W : Replayed → Type 0 = λ r. Explains r.shape r.history event m in subst W e.replay_is why

      -- the first illegal event of these nodes, with the last of them behind others or alone
      found : (ns before : List ReadNode) → ns ≡ before ++ e.last ∷ [] → (illegal : Option Illegal) → ReportsFirst ns illegal → ReportsFirst (on_last (with_event reported) ns) (first_illegal illegal (record { line = next_line; event = event; misfit = m }))
      found ns before are illegal first = first_stops ns before e.last are reported illegal event next_line m there misfit explained e.next_is first

      pub stops : {R : Type 0} (leaves : Replayed → R → Type 0) (rest : R) (illegal new : Option Illegal) (new_kept : List K) → ReportsFirst nodes illegal → leaves replay rest → StopsWith keeps leaves rest (record { line = next_line; event = event; misfit = m }) illegal kept new new_kept →
          ReportsFirst (on_last (with_event reported) nodes) new × AreKept keeps (on_last (with_event reported) nodes) new_kept × LastIsIllegal (on_last (with_event reported) nodes)
      stops leaves rest illegal new new_kept first left s =
          let here : Illegal = record { line = next_line; event = event; misfit = m } in
          let last : ReadNode = with_event reported e.last in
          let are = grown nodes e.before e.last e.nodes_are reported in
          let F : Option Illegal → Type 0 = λ i. ReportsFirst (on_last (with_event reported) nodes) i in
          let P : List ReadNode → Type 0 = λ ns. AreKept keeps ns new_kept in
          let Q : List K → Type 0 = λ ks. AreKept keeps (e.before ++ last ∷ []) ks in
          let L : List ReadNode → Type 0 = λ ns. LastIsIllegal ns in
          let T : Replayed → Type 0 = λ r. keeps r.shape r.history (Some here) s.more in (
            subst F (sym s.illegal_is) (found nodes e.before e.nodes_are illegal first),
            subst P (sym are) (subst Q (sym s.kept_are) (zip_push (IsStored keeps) e.before kept last s.more e.kept_are (record {
              front = e.last.events;
              illegal = Some here;
              legal = inr (record { place = length e.last.events; misfit = misfit; front_is = sym (take_at e.last.events (event_with (least_free e.last.shape e.last.events) reported ∷ []) (length e.last.events) refl) });
              first = found (e.last ∷ []) [] refl None (legal_alone e.last e.legal);
              kept_is = subst T e.replay_is (s.more_is replay left);
            }))),
            subst L (sym are) (illegal_push e.before last (length e.last.events) misfit),
          )

  -- the last node has ended, as none is at hand
  pub none_ended : (follows_all : Bool) (nodes : List ReadNode) (illegal : Option Illegal) (kept : List K) → HasNone keeps follows_all nodes illegal kept → AreKept keeps nodes kept ⊎ (has_stopped follows_all illegal ≡ true)
  none_ended follows_all nodes illegal kept known = elim known [ inl w ↦ inl w.0 | inr stopped ↦ inr stopped ]

  -- where the next node is followed, the others are kept
  pub not_stopped : (follows_all : Bool) (nodes : List ReadNode) (illegal : Option Illegal) (kept : List K) → AreKept keeps nodes kept ⊎ (has_stopped follows_all illegal ≡ true) → has_stopped follows_all illegal ≡ false → AreKept keeps nodes kept
  not_stopped follows_all nodes illegal kept known goes = elim known [ inl are ↦ are | inr stopped ↦ absurd cc ]

  -- where all nodes are followed, each is kept
  pub ended_kept : (nodes : List ReadNode) (illegal : Option Illegal) (kept : List K) → HasEnded keeps true nodes illegal kept → AreKept keeps nodes kept
  ended_kept nodes illegal kept ended = grind arith

  -- ---- the follower

  module _ {F : Type 0} (replayed : F → Replayed) (follows_all : Bool) where
    -- a node is at hand
    pub at_hand_is : (nodes : List ReadNode) (o : Option F) (next_line : ℕ) (illegal : Option Illegal) (kept : List K) → FollowsBy replayed keeps follows_all nodes o next_line illegal kept → (node : F) → o ≡ Some node → EndsAt keeps nodes (replayed node) next_line kept
    at_hand_is nodes x next_line illegal kept known node is = grind arith

    -- none is
    pub none_is : (nodes : List ReadNode) (o : Option F) (next_line : ℕ) (illegal : Option Illegal) (kept : List K) → FollowsBy replayed keeps follows_all nodes o next_line illegal kept → o ≡ None → HasNone keeps follows_all nodes illegal kept
    none_is nodes x next_line illegal kept known none = grind arith

    -- and the other way round
    pub follows_none : (nodes : List ReadNode) (new : Follower F K) → new.at_hand ≡ None → ReportsFirst nodes new.illegal → HasNone keeps follows_all nodes new.illegal new.kept.items → FollowerKnows replayed keeps follows_all nodes new
    follows_none nodes new none first known = grind arith

    -- there is room for one more event of a node whose next line has a number that is counted
    room_by : (number : ℕ) (nodes : List ReadNode) (o : Option F) (next_line : ℕ) (illegal : Option Illegal) (kept : List K) → FollowsBy replayed keeps follows_all nodes o next_line illegal kept → All (IsNodeBefore 16777216 number) nodes → number ≤ max_counted →
        IfSome o (λ node. HasRoomIn next_line (replayed node))
    room_by number nodes None next_line illegal kept known each below = tt
    room_by number nodes (Some node) next_line illegal kept e each below =
        let P : List ReadNode → Type 0 = λ ns. All (IsNodeBefore 16777216 number) ns in
        let last : IsNodeBefore 16777216 number e.last = found_has (λ n. IsNodeBefore 16777216 number n) (e.before ++ e.last ∷ []) (length e.before) e.last (get_middle e.before e.last []) (subst P e.nodes_are each) in
        let lines : e.last.first_line + length e.last.events ≤ number = last.lines in
        let events : length (replayed node).history ≡ length e.last.events = ap (λ (r : Replayed). length r.history) e.replay_is in
        (omega (arith, e.next_is, events), omega (arith, e.next_is, lines))

    pub room : (number : ℕ) (nodes : FollowedNodes F K) → FollowsLines replayed keeps follows_all number nodes → number ≤ max_counted → FollowerHasRoom replayed nodes.follower
    room number nodes along below = grind (arith, room_by)

    -- ---- the nodes that lines report

    -- before any line
    pub goes_first : (nodes : FollowedNodes F K) → nodes.lines ≡ [] → nodes.follower.at_hand ≡ None → nodes.follower.illegal ≡ None → nodes.follower.kept.items ≡ [] → FollowsLines replayed keeps follows_all 1 nodes
    goes_first nodes none no-node legal nothing = grind (arith, reported_none, All-nil, follows_none, first_none)

    -- behind one more line
    pub goes_on : (number : ℕ) (old new : FollowedNodes F K) (line : Line) → FollowsLines replayed keeps follows_all number old → HasShapeWithin 16777216 line → new.lines ≡ old.lines ++ (number, line) ∷ [] →
        FollowerKnows replayed keeps follows_all (with_line number (nodes_read old.lines) line) new.follower → FollowsLines replayed keeps follows_all (number + 1) new
    goes_on number old new line along in-range lines follows =
        let reported : nodes_read new.lines ≡ with_line number (nodes_read old.lines) line = ap nodes_read lines ∙ reported_push old.lines number line in
        let P : List ReadNode → Type 0 = λ ns. FollowerKnows replayed keeps follows_all ns new.follower in
        record { each = each_step 16777216 number (nodes_read old.lines) (nodes_read new.lines) line reported in-range along.each; follows = subst P (sym reported) follows }
