use Rattle.std.proofs.Common.{true, true≢false, ◌≡◌, ◌+◌, ℕ, ◌<◌, List, ◌∷◌, [], ◌++◌, length, ap, sym, ◌∙◌, arith, refl, subst, slice_get}
use Rattle.thp_history.specs.Prelude.{queue, flight, no_pages}
use Rattle.thp_history.proofs.TakeRuns.{more_taken}
use Rattle.thp_node.specs.Prelude.{BatchState}
use Rattle.thp_node.proofs.JournalLemmas.{flight_grows}
use Rattle.thp_node.proofs.BatchRuns.{took_none, took_more, some_left}
use Rattle.thp_node.proofs.node.Node.take_oldest.Goals as goal

none_long : (ps : List ℕ) → no_pages ps ≡ true → length ps ≡ 0
none_long [] e = refl
none_long (p ∷ ps) e = absurd (true≢false (sym e))

pub loop-taken-init : goal.loop-taken-init
loop-taken-init g c = record {
  took = took_none c.args.self.now c.args.self.now c.args.caller refl c.requires.legal c.requires.may_take;
  batch = c.clear.ensures;
  room = omega (arith, c.requires.room);
  flying = none_long (flight c.args.self.now.journal c.args.caller) c.requires.may_take;
}

pub take_one-page-requires-clause-few : goal.take_one-page-requires-clause-few
take_one-page-requires-clause-few g c = omega (arith, c.loop-taken.invariant.flying, c.requires.few)

pub take_one-page-requires-clause-queued : goal.take_one-page-requires-clause-queued
take_one-page-requires-clause-queued g c =
    subst (λ s. 0 < length (queue s c.loop-taken.self.journal)) (sym c.loop-taken.invariant.took.did.shape)
    (subst (λ (ps : List ℕ). 0 < length ps) (sym c.loop-taken.invariant.took.left)
    (some_left c.loop-taken._taken c.args.count (queue c.args.self.now.shape c.args.self.now.journal) (omega arith) c.requires.queued))

pub loop-taken-preserved : goal.loop-taken-preserved
loop-taken-preserved g c =
    let first = c.take_one-page.ensures.oldest in
    let more = (more_taken c.loop-taken._taken (queue c.args.self.now.shape c.args.self.now.journal) c.take_one-page.result (ap (λ qs. slice_get qs 0) (sym c.loop-taken.invariant.took.left) ∙ ap (λ s. slice_get (queue s c.loop-taken.self.journal) 0) (sym c.loop-taken.invariant.took.did.shape) ∙ first)).0 in
    record {
      took = took_more c.args.self.now c.loop-taken.self c.take_one-page.new.self c.args.caller c.loop-taken._taken c.take_one-page.result c.loop-taken.invariant.took first c.take_one-page.ensures.did;
      batch =
          c.push.ensures
          ∙ ap (λ (b : BatchState). record b { pages = b.pages ++ c.take_one-page.result ∷ [] }) c.loop-taken.invariant.batch
          ∙ ap (λ (ps : List ℕ). let b : BatchState = record { caller = c.args.caller; pages = ps; place = 0 } in b) (sym more);
      room = omega (arith, c.loop-taken.invariant.room, c.take_one-page.ensures.did.room);
      flying =
          ap (λ h. length (flight h c.args.caller)) c.take_one-page.ensures.did.journal
          ∙ (flight_grows c.loop-taken.self.journal c.args.caller c.take_one-page.result ∙ ap (λ n. n + 1) c.loop-taken.invariant.flying);
    }
