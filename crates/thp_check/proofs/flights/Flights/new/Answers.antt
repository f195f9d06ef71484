use Rattle.std.proofs.Common.{◌≡◌, ◌∙◌, List, [], ℕ, ap, arith, length, replicate}
use Rattle.std.proofs.lemmas.List.{length-replicate}
use Rattle.thp_check.proofs.EmptyFlights.{linked_empty}
use Rattle.thp_check.specs.Prelude.{blocks_in}
use Rattle.thp_check.proofs.FlightLists.{empty_in}
use Rattle.thp_check.proofs.flights.Flights.new.Goals as goal

pub returns-clause-empty : goal.returns-clause-empty
returns-clause-empty c = λ d.
    ap (λ (ls : List (List ℕ)). blocks_in (record { callers = c.in_ok-new.field-0; lists = ls }) d) c.loop-list.invariant.none ∙ empty_in c.in_ok-new.field-0 c.loop-list._list d

pub invariant_of-result : goal.invariant_of-result
invariant_of-result c =
    let end : c.loop-list._list ≡ 4096 = omega arith in
    linked_empty c.in_ok-new.field-0 c.loop-list.lists.items c.in_ok-new-2.field-0.pairs (omega (arith, ap length c.in_ok-new.ensures, length-replicate {A = ℕ} c.args.blocks 0, c.in_ok-new-2.ensures.length))
    (c.loop-list.invariant.none ∙ ap (λ n. replicate {A = List ℕ} n []) end)
