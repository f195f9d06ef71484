use Rattle.std.proofs.Common.{◌≡◌, ◌∙◌, ap, refl, subst, sym}
use Rattle.thp_history.specs.Prelude.{event_with}
use Rattle.thp_history.specs.declared.events.What.{What}
use Rattle.thp_journal_scripts.specs.Prelude.{LosesPage, flying_after, pages_freed, pages_in_scan, IsAtScan, IsAtPlace, kind_of, once_ended, scan_place_of, ScanPlace}
use Rattle.thp_journal_scripts.proofs.FoldingLaws.{event_then, folded_more, in_any_block, more_commands, follow_then, still_plain}
use Rattle.thp_journal_scripts.proofs.WholeScanLaws.{event_after, still_at}
use Rattle.thp_journal_scripts.proofs.folding.Folding.add.Goals as goal

pub returns : goal.returns
returns c = λ block.
    let o = c.args.ops.now.items in
    let p = c.add_kind.new.ops.items in
    let q = c.end.new.ops.items in
    let reported = c.args.event.now in
    let e = event_with block reported in
    let a = c.args.self.now in
    let m = c.add_kind.new.self in
    let b = c.follow.new.self in
    let d = c.end.new.self in
    let place : ScanPlace → ScanPlace = λ s. scan_place_of s (kind_of e.what) e.caller e.what in
    let same : (s : ScanPlace) → place s ≡ scan_place_of s (kind_of reported.what) reported.caller reported.what = λ s. in_any_block (λ (w : What). scan_place_of s (kind_of w) reported.caller w) (λ p b d. refl) block reported.what in
    let pages : b.pages.items ≡ flying_after e.what m.flights m.pages.items =
    c.in_ok-follow.ensures.pages ∙ sym (in_any_block (λ (w : What). flying_after w m.flights m.pages.items) (λ p b d. refl) block reported.what) in
    let lost : LosesPage (pages_freed e.what) m.waiting.items b.waiting.items = subst (λ k. LosesPage k m.waiting.items b.waiting.items) (sym (in_any_block (λ (w : What). pages_freed w) (λ p b d. refl) block reported.what)) c.in_ok-follow.ensures.frees in
    let goes : (s : ScanPlace) → IsAtPlace s a → IsAtScan (place s) (pages_in_scan s) m = λ s at. subst (λ t. IsAtScan t (pages_in_scan s) m) (sym (same s)) (c.in_ok-add_kind.ensures.goes_on s at) in
    let after : (s : ScanPlace) → IsAtPlace s a → IsAtPlace (place s) b = λ s at. event_after e.what m b c.follow.ensures.batch c.follow.ensures.moved pages c.follow.ensures.flights e.caller s (goes s at) in
    folded_more o c.release.new.ops.items e a c.release.new.self
    (event_then o q c.release.new.ops.items e a d d c.release.new.self
    (event_then o p q e a b b d (follow_then o p e a m b (c.in_ok-add_kind.ensures.adds block) c.follow.ensures.batch c.follow.ensures.moved lost) refl refl c.in_ok-end.ensures.adds)
    refl refl c.in_ok-release.ensures.adds)
    (λ s at. still_at d c.release.new.self c.in_ok-release.ensures.none_waits (once_ended (place s)) (c.in_ok-end.ensures.goes_on (place s) (after s at)))
    (λ s at ne.
    more_commands o q c.release.new.ops.items
    (more_commands o p q (c.in_ok-add_kind.ensures.plain s at (λ away. ne (ap once_ended (same s ∙ away)))) (c.in_ok-end.ensures.plain (place s) (after s at) ne))
    (still_plain d q c.release.new.ops.items c.in_ok-release.ensures.none_written (once_ended (place s)) (c.in_ok-end.ensures.goes_on (place s) (after s at)) ne))
