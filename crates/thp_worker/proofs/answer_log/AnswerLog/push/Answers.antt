use Rattle.std.proofs.Common.{◌≡◌, arith, refl, ◌∙◌, ◌∷◌, ◌+◌, [], ap, length, length-append}
use Rattle.thp_worker.specs.Prelude.{Answer, ShortAnswer, Refused, answer_in}
use Rattle.thp_worker.proofs.KeptLaws.{log_pushed}
use Rattle.thp_worker.specs.Logs.{LogState}
use Rattle.thp_worker.proofs.answer_log.AnswerLog.push.Goals.{in-Ok, in-Err}
use Rattle.thp_worker.proofs.answer_log.AnswerLog.push.Goals as goal

pub invariant_of-self : goal.invariant_of-self
invariant_of-self c =
    let i = c.self.inside in
    let e = c.push_reserved.ensures in
    let reported : Answer = record { command = c.args.command; node = c.args.node; reply = c.and.result } in
    elim c.match-called.branch [
      | in-Ok w ↦
          let s = w.shortened-reply.ensures in
          let last : ShortAnswer = record { command = c.args.command; node = c.args.node; reply = w.shortened-reply.result } in
          let same : reported ≡ answer_in w.shortened-reply.new.long.items last = rw (c.and.ensures, w.in-Ok.is, ← s.reply) refl in
          rw w.self-inside-is (log_pushed i.are i.reported c.push.new.self reported i.short c.push_reserved.new.self i.long w.shortened-reply.new.long i.count i.room last
          c.self.invariant c.in-Kept.is c.push.ensures (rw (w.self-inside-is, w.reply-is) at e.items) (rw w.self-inside-is at e.len) (rw w.self-inside-is at e.capacity)
          s.others s.there same s.one s.capacity)
      | in-Err w ↦
          let last : ShortAnswer = record { command = c.args.command; node = c.args.node; reply = Refused w.in-Err.refusal } in
          let same : reported ≡ answer_in i.long.items last = rw (c.and.ensures, w.in-Err.is) refl in
          rw w.self-inside-is (log_pushed i.are i.reported c.push.new.self reported i.short c.push_reserved.new.self i.long i.long i.count i.room last
          c.self.invariant c.in-Kept.is c.push.ensures (rw (w.self-inside-is, w.reply-is) at e.items) (rw w.self-inside-is at e.len) (rw w.self-inside-is at e.capacity)
          (λ r t. (t, refl)) tt same (omega arith) refl)
    ]

pub returns-in-Counted-clause-count : goal.returns-in-Counted-clause-count
returns-in-Counted-clause-count c =
    let last : Answer = record { command = c.args.command; node = c.args.node; reply = c.and.result } in
    ap length c.push.ensures ∙ length-append c.self.inside.reported (last ∷ []) ∙ ap (λ (l : LogState). length l.items + 1) c.self.view_is

pub returns-after-called-clause-count : goal.returns-after-called-clause-count
returns-after-called-clause-count c =
    let last : Answer = record { command = c.args.command; node = c.args.node; reply = c.and.result } in
    let longer = ap length c.push.ensures ∙ length-append c.self.inside.reported (last ∷ []) ∙ ap (λ (l : LogState). length l.items + 1) c.self.view_is in
    elim c.match-called.branch [ in-Ok w ↦ rw w.self-inside-is longer | in-Err w ↦ rw w.self-inside-is longer ]
