use Rattle.std.proofs.Common.{◌≡◌, ◌<◌, ◌+◌, ℕ, List, Option, IfSome, length, get_or, is_some, ap, sym, subst, refl, ◌∙◌, arith, slice_get}
use Rattle.thp_history.specs.Prelude.{queue}
use Rattle.thp_links.specs.declared.link.TheConstants.{NIL}
use Rattle.thp_page.specs.Prelude.{Slot, Table}
use Rattle.thp_live_pages.proofs.Walking.{inside, behind}
use Rattle.thp_capi.specs.Engines.{EngineState}
use Rattle.thp_capi.proofs.QueueReading.{first_at, length_named, queued_at, stored_all, stored_more}
use Rattle.thp_capi.proofs.engine.Engine.queue.Goals as goal

pub loop-place-init : goal.loop-place-init
loop-place-init g c = record {
  next = first_at c.queue-queue.result.now c.in-Some.first (sym c.front.ensures ∙ c.in-Some.is);
  stored = refl;
}

pub number-requires-clause-inside : goal.number-requires-clause-inside
number-requires-clause-inside g c =
    let n = c.self.inside.node in
    let q = c.queue-queue.ensures in
    let below : c.loop-place.place < length n.queue = omega (arith, c.loop-place-test.true, c.min-count.ensures, c.len.ensures, ap (λ (bs : List ℕ). length bs) q.value) in
    let is : c.loop-place.block ≡ get_or n.queue c.loop-place.place NIL = c.loop-place.invariant.next ∙ ap (λ (bs : List ℕ). get_or bs c.loop-place.place NIL) q.value in
    subst (λ (t : Table). c.loop-place.block < length t.links) (sym c.table-table.ensures.value) (inside n.queue n.table.links q.stands c.loop-place.place c.loop-place.block is below)

pub number-requires-clause-occupied : goal.number-requires-clause-occupied
number-requires-clause-occupied g c =
    let n = c.self.inside.node in
    let t = c.table-table.ensures in
    let q = c.queue-queue.ensures in
    let below : c.loop-place.place < length n.queue = omega (arith, c.loop-place-test.true, c.min-count.ensures, c.len.ensures, ap (λ (bs : List ℕ). length bs) q.value) in
    let is : c.loop-place.block ≡ get_or n.queue c.loop-place.place NIL = c.loop-place.invariant.next ∙ ap (λ (bs : List ℕ). get_or bs c.loop-place.place NIL) q.value in
    let w = queued_at n _ t.value t.slots t.homes t.live q.pages c.loop-place.place c.loop-place.block below is in
    ap is_some w.at

pub peek_next-block-requires : goal.peek_next-block-requires
peek_next-block-requires g c =
    let n = c.self.inside.node in
    let q = c.queue-queue.ensures in
    let below : c.loop-place.place < length n.queue = omega (arith, c.loop-place-test.true, c.min-count.ensures, c.len.ensures, ap (λ (bs : List ℕ). length bs) q.value) in
    let is : c.loop-place.block ≡ get_or n.queue c.loop-place.place NIL = c.loop-place.invariant.next ∙ ap (λ (bs : List ℕ). get_or bs c.loop-place.place NIL) q.value in
    subst (λ (t : Table). c.loop-place.block < length t.links) (sym c.table-table.ensures.value) (inside n.queue n.table.links q.stands c.loop-place.place c.loop-place.block is below)

pub loop-place-preserved : goal.loop-place-preserved
loop-place-preserved g c =
    let n = c.self.inside.node in
    let t = c.table-table.ensures in
    let q = c.queue-queue.ensures in
    let below : c.loop-place.place < length n.queue = omega (arith, c.loop-place-test.true, c.min-count.ensures, c.len.ensures, ap (λ (bs : List ℕ). length bs) q.value) in
    let is : c.loop-place.block ≡ get_or n.queue c.loop-place.place NIL = c.loop-place.invariant.next ∙ ap (λ (bs : List ℕ). get_or bs c.loop-place.place NIL) q.value in
    let w = queued_at n _ t.value t.slots t.homes t.live q.pages c.loop-place.place c.loop-place.block below is in
    let S : Option Slot → Type 0 = λ o. IfSome o (λ s. c.number.result ≡ s.id) in
    let page : c.number.result ≡ get_or (queue n.shape n.journal) c.loop-place.place 0 = subst S w.at c.number.ensures ∙ w.page in
    let same : queue n.shape n.journal ≡ queue c.args.self.now.node.shape c.args.self.now.node.journal = ap (λ (e : EngineState). queue e.node.shape e.node.journal) c.self.view_is in
    let long : length (queue n.shape n.journal) ≡ length n.queue = length_named _ (queue n.shape n.journal) n.queue q.pages in
    record {
      next = behind n.queue n.table.links q.stands c.loop-place.place c.loop-place.block c.peek_next-block.result is below
          (subst (λ (u : Table). IfSome (slice_get u.links c.loop-place.block) (λ l. c.peek_next-block.result ≡ l.next)) t.value c.peek_next-block.ensures)
          ∙ ap (λ (bs : List ℕ). get_or bs (c.loop-place.place + 1) NIL) (sym q.value);
      stored = stored_more _ c.args.pages.now c.loop-place.pages c.loop-place.place _ c.loop-place.invariant.stored
          (omega (arith, below, long, ap (λ (ps : List ℕ). length ps) same)) (omega (arith, c.loop-place-test.true, c.min-count.ensures))
          (c.pages.view_is ∙ page ∙ ap (λ (ps : List ℕ). get_or ps c.loop-place.place 0) same);
    }

pub returns-clause-pages : goal.returns-clause-pages
returns-clause-pages g c =
    let n = c.self.inside.node in
    let q = c.queue-queue.ensures in
    let same : queue n.shape n.journal ≡ queue c.args.self.now.node.shape c.args.self.now.node.journal = ap (λ (e : EngineState). queue e.node.shape e.node.journal) c.self.view_is in
    let long : length (queue c.args.self.now.node.shape c.args.self.now.node.journal) ≡ c.len.result =
    ap (λ (ps : List ℕ). length ps) (sym same) ∙ length_named _ (queue n.shape n.journal) n.queue q.pages ∙ ap (λ (bs : List ℕ). length bs) (sym q.value) ∙ sym c.len.ensures in
    stored_all _ c.args.pages.now c.loop-place.pages c.loop-place.place c.loop-place.invariant.stored (omega (arith, long, c.loop-place.auto.place-end, c.min-count.ensures)) (omega (arith, c.loop-place.auto.place-end, c.min-count.ensures))
    (λ below. omega (arith, below, long, c.loop-place.auto.place-end, c.loop-place-test.false, c.min-count.ensures))
