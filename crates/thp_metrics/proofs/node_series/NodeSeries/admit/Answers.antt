use Rattle.thp_metrics.specs.Prelude.{Numbers, count_gone, count_more, MayCount, CountsBatches, flight_holder, home}
use Rattle.std.proofs.Common.{◌≡◌, ◌+◌, ◌<◌, ◌^◌, ◌∙◌, [], ◌∷◌, ◌++◌, ℕ, List, ap, sym, subst, arith, length, option_and_then}
use Rattle.thp_history.specs.Prelude.{Fits}
use Rattle.thp_check.specs.Prelude.{Replayed, replayed_with}
use Rattle.thp_journal_writer.specs.Prelude.{event_page}
use Rattle.thp_metrics.proofs.Counting.{counts_on, may_count, may_go}
use Rattle.thp_metrics.proofs.Following.{goes_on, length_of_series, may_enter, may_leave}
use Rattle.thp_metrics.proofs.node_series.NodeSeries.admit.Goals as goal

pub leave-requires : goal.leave-requires
leave-requires c =
    let i = c.self.inside in
    may_leave i.replay.shape i.replay.history i.numbers.pages c.spot_in-before.result.stage (event_page c.args.event.now.what) c.self.invariant.0.legal (ap (λ (n : Numbers). n.pages) c.self.invariant.0.numbers_are) c.spot_in-before.ensures.stage

pub enter-requires : goal.enter-requires
enter-requires c =
    let i = c.self.inside in
    let past : length i.replay.history ≡ length c.args.self.history = ap (λ (r : Replayed). length r.history) c.self.view_is in
    may_enter i.replay.shape i.replay.history i.numbers.pages c.leave.new.pages c.spot_in-before.result.stage c.spot_in-after.result.stage (ap (λ (n : Numbers). n.pages) c.self.invariant.0.numbers_are) (omega (arith, past, c.requires.room))
    (may_leave i.replay.shape i.replay.history i.numbers.pages c.spot_in-before.result.stage (event_page c.args.event.now.what) c.self.invariant.0.legal (ap (λ (n : Numbers). n.pages) c.self.invariant.0.numbers_are) c.spot_in-before.ensures.stage)
    c.leave.ensures

pub push-requires : goal.push-requires
push-requires c =
    let i = c.self.inside in
    let past : length i.replay.history ≡ length c.args.self.history = ap (λ (r : Replayed). length r.history) c.self.view_is in
    omega (arith, past, c.requires.room, ap length c.self.invariant.0.columns_are, length_of_series i.replay.shape i.replay.history)

pub lose-requires : goal.lose-requires
lose-requires c =
    let i = c.self.inside in
    may_go i.replay i.batches c.spot_in-before.result.batch (event_page c.args.event.now.what) c.self.invariant.0.legal c.self.invariant.2 c.spot_in-before.ensures.batch

pub gain-requires : goal.gain-requires
gain-requires c =
    let i = c.self.inside in
    let past : length i.replay.history ≡ length c.args.self.history = ap (λ (r : Replayed). length r.history) c.self.view_is in
    let may = may_go i.replay i.batches c.spot_in-before.result.batch (event_page c.args.event.now.what) c.self.invariant.0.legal c.self.invariant.2 c.spot_in-before.ensures.batch in
    let P : List ℕ → Type 0 = λ counts. MayCount counts c.spot_in-after.result.batch in
    subst P (sym c.lose.ensures) (may_count i.replay i.batches c.spot_in-before.result.batch c.spot_in-after.result.batch c.self.invariant.2 (omega (arith, past, c.requires.room)) may)

pub follow-requires : goal.follow-requires
follow-requires c =
    let i = c.self.inside in
    let e = c.args.event.now in
    let waits : i.waiting ≡ i.replay = c.self.invariant.1 in
    record {
      room = subst (λ (r : Replayed). length r.history + 1 < 2 ^ 64) (sym (waits ∙ c.self.view_is)) c.requires.room;
      fits = subst (λ (r : Replayed). Fits r.shape r.history e) (sym waits) c.in-Ok.ensures.fits;
      before = c.spot_in-before.ensures.home ∙ ap (λ (r : Replayed). option_and_then (home r.shape r.history) (event_page e.what)) (sym waits);
      after =
          c.spot_in-after.ensures.home
          ∙ ap (λ (r : Replayed). option_and_then (home r.shape r.history) (event_page e.what)) c.in-Ok.ensures.admitted
          ∙ ap (λ (r : Replayed). option_and_then (home r.shape (r.history ++ e ∷ [])) (event_page e.what)) (sym waits);
    }

pub invariant_of-result : goal.invariant_of-result
invariant_of-result c =
    let i = c.self.inside in
    let e = c.args.event.now in
    let before = c.spot_in-before.result in
    let after = c.spot_in-after.result in
    let waits : c.follow.new.self ≡ c.in-Ok.replay = c.follow.ensures ∙ ap (λ (r : Replayed). replayed_with r e) c.self.invariant.1 ∙ sym c.in-Ok.ensures.admitted in
    let may = may_go i.replay i.batches before.batch (event_page e.what) c.self.invariant.0.legal c.self.invariant.2 c.spot_in-before.ensures.batch in
    let counted : c.gain.new.self ≡ count_more (count_gone i.batches before.batch) after.batch = c.gain.ensures ∙ ap (λ (ns : List ℕ). count_more ns after.batch) c.lose.ensures in
    let counts : CountsBatches c.in-Ok.replay c.gain.new.self =
    subst (λ (r : Replayed). CountsBatches r c.gain.new.self) (sym c.in-Ok.ensures.admitted)
    (subst (CountsBatches (replayed_with i.replay e)) (sym counted)
    (counts_on i.replay e i.batches before.batch after.batch c.self.invariant.0.legal c.in-Ok.ensures.fits c.self.invariant.2 may c.spot_in-before.ensures.batch
    (c.spot_in-after.ensures.batch ∙ ap (λ (r : Replayed). option_and_then (flight_holder r.shape r.history) (event_page e.what)) c.in-Ok.ensures.admitted))) in
    let along = goes_on i.replay c.in-Ok.replay e c.leave.new.pages c.enter.new.pages c.set_stage.new.stages i.columns c.push.new.self i.numbers c.numbers_of-numbers.result before.stage after.stage c.self.invariant.0
    c.in-Ok.ensures.admitted c.in-Ok.ensures.fits
    (may_leave i.replay.shape i.replay.history i.numbers.pages before.stage (event_page e.what) c.self.invariant.0.legal (ap (λ (n : Numbers). n.pages) c.self.invariant.0.numbers_are) c.spot_in-before.ensures.stage)
    c.spot_in-before.ensures.stage c.spot_in-after.ensures.stage c.leave.ensures c.enter.ensures (rw c.event_page.ensures at c.set_stage.ensures)
    (λ legal pages stages. c.numbers_of-numbers.ensures legal waits counts pages stages) c.push.ensures in
    (along, waits, counts)
