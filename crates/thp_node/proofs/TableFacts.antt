-- What a node's table says of its pages, for callers.
use Rattle.std.proofs.Common.{◌≡◌, ℕ, true, List, Option, sym, subst}
use Rattle.thp_history.specs.declared.shape.Shape.{Shape}
use Rattle.thp_history.specs.Prelude.{History, is_live, IsLegal}
use Rattle.thp_page.specs.Prelude.{HoldsPage, Slot, Table}
use Rattle.thp_live_pages.specs.Prelude.{IsNode, HasBlock, LiesWherePlaced}
use Rattle.thp_node.specs.Prelude.{NodeState}
use Rattle.thp_live_pages.proofs.Admitting.{Found, at_home}
use Rattle.thp_live_pages.proofs.Homing.{Homed, Lies, legal_homed, live_block}

-- each live page stands in its block
pub live_has_block : (s : Shape) (h : History) (t : Table) (q : List ℕ) → IsNode s h t q → (p : ℕ) → is_live h p ≡ true → HasBlock t p
live_has_block s h t q m p l =
    let w = live_block s h p (legal_homed s h m.legal) l in
    let there : Found s h t p w.0 = at_home s h t q p w.0 m w.1 in
    let P : Option Slot → Type 0 = λ o. HoldsPage o p in
    (w.0, subst P (sym there.at) there.id_is)

-- and that is where its allocation put it
pub lies_where_placed : (s : Shape) (h : History) → IsLegal s h → LiesWherePlaced h
lies_where_placed s h l = λ p b.
    let m : Homed s h = legal_homed s h l in
    (λ e. let w : Lies s h p b = m.from p b e in (w.live, w.put), λ w. m.at p b w.1 w.0)

-- the node that is seen from outside is the one inside
pub node_seen : (n : NodeState) (s : Shape) (h : History) (t : Table) (q : List ℕ) → s ≡ n.shape → h ≡ n.journal → t ≡ n.table → q ≡ n.queue → IsNode s h t q →
    IsNode n.shape n.journal n.table n.queue
node_seen n s h t q es eh et eq m =
    subst (λ x. IsNode x n.journal n.table n.queue) es (subst (λ x. IsNode s x n.table n.queue) eh (subst (λ x. IsNode s h x n.queue) et (subst (λ x. IsNode s h t x) eq m)))
