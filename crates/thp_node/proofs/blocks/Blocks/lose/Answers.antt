use Rattle.std.proofs.Common.{None, length, refl, ap, ◌∙◌, subst, arith, length-set}
use Rattle.thp_page.specs.Prelude.{slot_at}
use Rattle.thp_live_pages.specs.Prelude.{PageStoreState, Lost}
use Rattle.thp_page.proofs.TableSlots.{slot_at-inside}
use Rattle.thp_live_pages.proofs.FreeChains.{free_chain_kept, not_free}
use Rattle.thp_live_pages.proofs.Relinking.{edited_slot}
use Rattle.thp_node.proofs.ChainLemmas.{chain_stays, chain_pushed, freed_there, loss_keeps}
use Rattle.thp_node.proofs.blocks.Blocks.lose.Goals as goal

pub push_free-requires-clause-chain : goal.push_free-requires-clause-chain
push_free-requires-clause-chain c =
    let w = freed_there c.args.loss c.args.closed c.args.self.now c.self.inside.places c.lose.new.self c.args.block c.lose.new.done c.in_ok-left.left c.self.view_is c.requires.occupied c.in_ok-left.ensures.lost c.in-Freed.is in
    let old = c.self.inside.places in
    free_chain_kept old c.lose.new.self c.self.inside.free c.args.block None w.queue 6 c.self.invariant.chain w.edits (not_free old.table c.self.inside.free c.args.block w.slot c.self.invariant.chain w.at)

pub push_free-requires-clause-inside : goal.push_free-requires-clause-inside
push_free-requires-clause-inside c =
    let w = freed_there c.args.loss c.args.closed c.args.self.now c.self.inside.places c.lose.new.self c.args.block c.lose.new.done c.in_ok-left.left c.self.view_is c.requires.occupied c.in_ok-left.ensures.lost c.in-Freed.is in
    let old = c.self.inside.places in
    omega (arith, slot_at-inside old.table c.args.block w.slot w.at, ap length w.edits.slots, length-set old.table.slots c.args.block None)

pub push_free-requires-clause-empty : goal.push_free-requires-clause-empty
push_free-requires-clause-empty c =
    let w = freed_there c.args.loss c.args.closed c.args.self.now c.self.inside.places c.lose.new.self c.args.block c.lose.new.done c.in_ok-left.left c.self.view_is c.requires.occupied c.in_ok-left.ensures.lost c.in-Freed.is in
    edited_slot c.self.inside.places c.lose.new.self c.args.block w.slot None w.queue 6 w.at w.edits

pub invariant_of-self-in-Freed : goal.invariant_of-self-in-Freed
invariant_of-self-in-Freed c =
    let w = freed_there c.args.loss c.args.closed c.args.self.now c.self.inside.places c.lose.new.self c.args.block c.lose.new.done c.in_ok-left.left c.self.view_is c.requires.occupied c.in_ok-left.ensures.lost c.in-Freed.is in
    chain_pushed c.self.inside.places c.lose.new.self c.push_free.new.self c.self.inside.used c.self.inside.count c.self.inside.free c.push_free.new.chain c.args.block w.slot w.queue 6 c.self.invariant w.at w.edits
    c.push_free.ensures.list c.push_free.ensures.chain c.push_free.ensures.same

pub invariant_of-self-in_default : goal.invariant_of-self-in_default
invariant_of-self-in_default c =
    chain_stays c.args.self.now c.self.inside.places c.lose.new.self c.self.inside.used c.self.inside.count c.self.inside.free c.args.block c.self.invariant c.self.view_is c.requires.occupied
    (λ x at. loss_keeps c.args.loss c.args.closed x c.self.inside.places c.lose.new.self c.args.block c.lose.new.done c.in_ok-left.left (c.in_ok-left.ensures.lost x at) c.in_default.not-Freed)

pub returns-in_default-clause-lost : goal.returns-in_default-clause-lost
returns-in_default-clause-lost c = λ x e.
    let P : PageStoreState → Type 0 = λ n. Lost c.args.loss c.args.closed x n c.lose.new.self c.args.block c.lose.new.done c.in_ok-left.left in
    record {
      between = c.lose.new.self;
      lost = subst P c.self.view_is (c.in_ok-left.ensures.lost x (ap (λ (n : PageStoreState). slot_at n.table c.args.block) c.self.view_is ∙ e));
      relinks = record { slots = refl; order = refl; queue_is = refl; work = omega arith };
    }
