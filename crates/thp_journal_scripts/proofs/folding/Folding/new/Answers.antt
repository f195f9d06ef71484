use Rattle.std.proofs.Common.{◌≡◌, ◌∙◌, List, [], ap, arith, length, refl, rules, subst, sym}
use Rattle.std.proofs.lemmas.List.Elements.{All-nil}
use Rattle.thp_journal_scripts.specs.Prelude.{IsCallOrScan, Moved, capped_count, neither, AreWaiting, IsMovedBatch, nothing_moved, IsOfBatch, IsScan}
use Rattle.thp_journal_scripts.specs.declared.open_flights.WaitingFlight.{WaitingFlight}
use Rattle.thp_journal_scripts.proofs.folding.Folding.new.Goals as goal

pub returns : goal.returns
returns c =
    let nothing : c.default.result ≡ nothing_moved = search rules in
    let none_wait : length c.new-2.result.items ≡ 0 = ap (λ (ws : List WaitingFlight). length ws) c.new-2.ensures.items in
    let zero_batches : c.default.result.batches ≡ capped_count (length c.new-2.result.items) = ap (λ (m : Moved). m.batches) nothing ∙ ap capped_count (sym none_wait) in
    record {
      commands = record {
        calls = refl;
        kept = [];
        away = [];
        here = [];
        late = [];
        events_are = neither;
        commands_are = neither;
        repeats = record { done = []; pending = []; parts = refl; repeats = (refl, refl); pending_is = refl };
        away_are = All-nil IsOfBatch;
        late_are = All-nil IsScan;
        count = c.default.ensures.1.1.0;
        batches = grind (arith, zero_batches);
        none_late = λ zero. refl;
        none_waits = λ zero. c.new-2.ensures.items;
        ended = [];
        standing = [];
        each = All-nil IsMovedBatch;
        waits = subst (λ fs. AreWaiting [] fs) (sym c.new-2.ensures.items) tt;
        takes_are = refl;
        scans_are = refl;
        freed_are = omega arith;
        called = let none = ap (λ (m : Moved). m.calls) nothing in omega (arith, none);
        none_called = λ zero. ap (λ (m : Moved). m.calls) nothing;
      };
      scans = record { batch_is = refl; some = tt; quiet = record { pages_are = c.new.ensures.items; none_waits = c.new-2.ensures.items; none_moved = nothing; last_flight = refl } };
      plain = λ ne. All-nil IsCallOrScan;
    }
