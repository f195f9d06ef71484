use Rattle.std.proofs.Common.{◌∙◌, ap, refl}
use Rattle.thp_check.specs.Prelude.{Replayed}
use Rattle.thp_history.specs.declared.tally.Counters.{Counters}
use Rattle.thp_metrics.specs.Prelude.{longest_wait}
use Rattle.thp_metrics.proofs.Counting.{callers_reported}
use Rattle.thp_metrics.proofs.Following.{numbers_are}
use Rattle.thp_metrics.proofs.node_series.numbers_of.Goals as goal

pub returns : goal.returns
returns c legal waits counts pages stages =
    numbers_are c.args.replay.now.shape c.args.replay.now.history _ legal (c.from.ensures ∙ c.queue_len.ensures) refl c.frames_held.ensures c.frames_given.ensures
    (ap (λ (k : Counters). k.split_page) c.counters-counters.ensures) (ap (λ (k : Counters). k.underused_split_page) c.counters-counters.ensures) (ap (λ (k : Counters). k.split_page_failed) c.counters-counters.ensures)
    (c.longest.ensures ∙ ap (λ (r : Replayed). longest_wait r.shape r.history) waits) (c.callers.ensures ∙ callers_reported c.args.replay.now c.args.batches.now legal counts) pages stages
