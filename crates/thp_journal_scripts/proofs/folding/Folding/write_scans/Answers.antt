use Rattle.std.proofs.Common.{◌≡◌, ◌∙◌, ◌+◌, List, ◌∷◌, add-one, ap, arith, drop, length, refl, subst, sym}
use Rattle.thp_journal_scripts.specs.Prelude.{Moved, WaitingFlight, moved_so_far}
use Rattle.thp_journal_scripts.proofs.FoldingLaws.{adds_nothing, adds_scan, commands_then}
use Rattle.thp_journal_scripts.proofs.folding.Folding.write_scans.Goals as goal

pub loop-flight-init : goal.loop-flight-init
loop-flight-init c = record { batch = refl; moved = refl; pages = refl; waiting = omega arith; adds = adds_nothing c.args.ops.now.items c.args.self.now c.args.self.now refl refl }

pub loop-flight-preserved : goal.loop-flight-preserved
loop-flight-preserved c =
    let m = c.loop-flight.self in
    let d = record m { waiting = c.pop_front.new.self } in
    let next = c.in-Some.ensures in
    let rest_are : c.pop_front.new.self.items ≡ next.others = c.pop_front.ensures.rest ∙ ap (λ (fs : List WaitingFlight). drop 1 fs) next.waiting_are in
    let popped : length c.pop_front.new.self.items + 1 ≡ length m.waiting.items = ap (λ (fs : List WaitingFlight). length fs + 1) rest_are ∙ add-one (length next.others) ∙ ap (λ (fs : List WaitingFlight). length fs) (sym next.waiting_are) in
    record {
      batch = c.loop-flight.invariant.batch;
      moved = c.loop-flight.invariant.moved;
      pages = c.loop-flight.invariant.pages;
      waiting = omega (arith, popped, c.loop-flight.invariant.waiting);
      adds = commands_then c.args.ops.now.items c.loop-flight.ops.items c.push.new.self.items c.args.self.now m m d c.loop-flight.invariant.adds refl refl
          (adds_scan c.loop-flight.ops.items m d c.push.new.self.items c.in-Some.count (λ none. c.if-self-eq0.false (subst (λ (v : Moved). v.events ≡ 0) c.loop-flight.invariant.moved none)) c.in_ok-push.ensures.items refl (next.flight, ap (λ (fs : List WaitingFlight). record (moved_so_far 0 m) { waiting = fs }) (next.waiting_are ∙ ap (λ (fs : List WaitingFlight). next.flight ∷ fs) (sym rest_are)), next.count_is));
    }

pub returns-then-self-eq0-clause-adds : goal.returns-then-self-eq0-clause-adds
returns-then-self-eq0-clause-adds c = adds_nothing c.args.ops.now.items c.args.self.now c.args.self.now refl refl
