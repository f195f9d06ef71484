use Rattle.std.proofs.Common.{◌≡◌, ◌≤◌, ℕ, None, get_or, length, vec_capacity}
use Rattle.thp_capi.proofs.open_batches.none_open.Given as goal

abbrev pub invariant-loop : goal.invariant-loop
invariant-loop l = record {
  places : length l.places.items ≡ l.counter;
  room : l.fn.callers ≤ vec_capacity l.places;
  none : (k : ℕ) → get_or l.places.items k None ≡ None;
}
