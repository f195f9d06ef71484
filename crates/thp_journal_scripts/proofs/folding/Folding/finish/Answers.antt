use Rattle.std.proofs.Common.{◌≡◌, ◌∙◌, ◌++◌, [], ap, append-nil, refl, rules, sym}
use Rattle.thp_journal_scripts.specs.Prelude.{Folding, Idle, Moved, pending_ops, settled}
use Rattle.thp_journal_scripts.proofs.FoldingLaws.{commands_then, finishes}
use Rattle.thp_journal_scripts.proofs.ScriptBatchLaws.{settled_twice}
use Rattle.thp_journal_scripts.proofs.WholeScanLaws.{nothing_moves}
use Rattle.thp_journal_scripts.proofs.folding.Folding.finish.Goals as goal

pub returns : goal.returns
returns c =
    let a = c.args.self in
    let o = c.args.ops.now.items in
    let s = c.settle.new.self in
    let m = c.put_back_nothing.new.self in
    let d = c.write_scans.new.self in
    let s_idle : a.batch ≡ Idle → s.batch ≡ Idle = λ is. c.in_ok-settle.ensures.batch ∙ ap settled is in
    let closed : m.batch ≡ Idle = c.in_ok-put_back_nothing.ensures.closes (ap (λ (f : Folding). f.pages.items) c.in_ok-settle.ensures.rest ∙ c.clear.ensures.items) (ap settled c.in_ok-settle.ensures.batch ∙ settled_twice a.batch ∙ sym c.in_ok-settle.ensures.batch) in
    let none_left : m.pages.items ≡ [] = c.in_ok-put_back_nothing.ensures.pages ∙ ap (λ (f : Folding). f.pages.items) c.in_ok-settle.ensures.rest ∙ c.clear.ensures.items in
    finishes o c.write_scans.new.ops.items a d _
    (commands_then o c.put_back_nothing.new.ops.items c.write_scans.new.ops.items a m m d
    (commands_then o c.settle.new.ops.items c.put_back_nothing.new.ops.items a s s m c.in_ok-settle.ensures.adds refl refl c.in_ok-put_back_nothing.ensures.adds) refl refl c.in_ok-write_scans.ensures.adds)
    (c.in_ok-write_scans.ensures.batch ∙ closed) (refl, refl, refl, λ some. (c.in_ok-write_scans.ensures.all none_left (λ none. some (ap (λ (v : Moved). v.events) c.in_ok-write_scans.ensures.moved ∙ none))))
    (λ at. nothing_moves a m d c.len-left.result at (λ is. ap (λ (f : Folding). f.moved) (c.in_ok-put_back_nothing.ensures.idle (s_idle is)) ∙ ap (λ (f : Folding). f.moved) c.in_ok-settle.ensures.rest) c.in_ok-write_scans.ensures.none (search rules))
    (λ at.
    let none : m.moved.events ≡ 0 = ap (λ (f : Folding). f.moved.events) (c.in_ok-put_back_nothing.ensures.idle (s_idle at.batch_is)) ∙ ap (λ (f : Folding). f.moved.events) c.in_ok-settle.ensures.rest ∙ ap (λ (v : Moved). v.events) at.quiet.none_moved in
    c.in_ok-write_scans.ensures.none_written none ∙ c.in_ok-put_back_nothing.ensures.idle_ops (s_idle at.batch_is) ∙ c.in_ok-settle.ensures.ops ∙ ap (λ b. o ++ pending_ops b) at.batch_is ∙ append-nil o)
