use Rattle.std.proofs.Common.{◌≡◌, ℕ, List, OnOk, subst}
use Rattle.thp_check.proofs.Joined.{flight_after}
use Rattle.thp_check.proofs.pieces.put_flight.Goals as goal

pub returns : goal.returns
returns c =
    let P : List ℕ → Type 0 = λ t. OnOk c.put_last.result (c.put_last.new.text.items ≡ t) in
    subst P
    (flight_after c.args.text.now.items c.put.new.text.items c.put_number.new.text.items c.put-2.new.text.items c.args.words.now c.as_bytes.result.now c.args.page _ c.args.caller c.from.result
    c.in_ok-put.ensures.text (cc) c.in_ok-put_number.ensures.text c.as_bytes.ensures.value c.in_ok-put-2.ensures.text (cc))
    c.put_last.ensures
