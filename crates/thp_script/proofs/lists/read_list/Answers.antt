use Rattle.std.proofs.Common.{◌≡◌, ◌∙◌, ◌≤◌, suc, ap, arith, length, refl, rules, ◌∷◌, Some, None, option_copied, append-nil}
use Rattle.thp_script.specs.Prelude.{max_nodes, all_read, items_of, pieces_left}
use Rattle.thp_script.proofs.ListLaws.{list_fails, list_is, list_too_long}
use Rattle.thp_script.proofs.lists.read_list.Goals as goal

pub returns-then-is_full : goal.returns-then-is_full
returns-then-is_full g c =
    let more : length (pieces_left 44 (option_copied c.loop-rest.rest)) ≡ suc (length (pieces_left 44 (option_copied c.cut_at.result.1))) = rw (c.in-Some.is, c.cut_at.ensures.pieces) refl in
    let full : length c.loop-rest.items.items ≡ max_nodes = search rules in
    list_too_long g.T.Item.item_of c.args.text.now (omega (arith, more, full, c.loop-rest.invariant.count))

pub returns-in_err-read : goal.returns-in_err-read
returns-in_err-read g c =
    let pieces : pieces_left 44 (option_copied c.loop-rest.rest) ≡ c.cut_at.result.0.now ∷ pieces_left 44 (option_copied c.cut_at.result.1) = rw c.in-Some.is c.cut_at.ensures.pieces in
    let none : all_read g.T.Item.item_of (items_of c.args.text.now) ≡ None = c.loop-rest.invariant.read ∙ rw (pieces, ← c.in_err-read.ensures) refl in
    rw c.from_residual.ensures (list_fails g.T.Item.item_of c.args.text.now none)

pub returns : goal.returns
returns g c =
    let end : c.loop-rest.rest ≡ None = search rules in
    let items = c.loop-rest.items.items in
    let all : all_read g.T.Item.item_of (items_of c.args.text.now) ≡ Some items = c.loop-rest.invariant.read ∙ rw end (ap (λ xs. Some xs) (append-nil items)) in
    let few : length (items_of c.args.text.now) ≤ max_nodes =
    let none : length (pieces_left 44 (option_copied c.loop-rest.rest)) ≡ 0 = rw end refl in
    omega (arith, none, c.loop-rest.invariant.count, c.loop-rest.invariant.room)
    in
    list_is g.T.Item.item_of c.args.text.now items few all
