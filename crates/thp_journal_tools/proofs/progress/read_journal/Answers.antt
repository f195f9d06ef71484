use Rattle.std.proofs.Common.{◌≡◌, Bool, rules, subst, sym, true}
use Rattle.thp_cli.specs.Prelude.{device_of}
use Rattle.thp_journal_tools.specs.Progress.{may_show, ShowsProgress}
use Rattle.thp_journal_tools.proofs.ProgressLaws.{shown_all}
use Rattle.thp_journal_tools.proofs.progress.read_journal.Goals as goal

pub returns-in_ok-read-clause-shown : goal.returns-in_ok-read-clause-shown
returns-in_ok-read-clause-shown g c =
    let input = g.R.Read.remaining c.args.reader.now.device in
    let contents = g.S.Write.contents in
    let screen = c.args.screen.now.writer in
    let may : may_show c.args.asked c.args.screen.now.is_terminal ≡ true = search rules in
    let shown = c.read_on-read.ensures.shown in
    subst (λ (may : Bool). ShowsProgress c.args.program may input (device_of contents screen c.end.new.screen.writer)) (sym may)
    (shown_all contents screen c.args.program input shown.0 c.read_on-read.new.progress.stands c.read_on-read.new.screen.writer c.end.new.screen.writer shown.1 (rw c.begin-progress.ensures.program at shown.2) c.end.ensures)

pub returns-in_err-read-clause-shown : goal.returns-in_err-read-clause-shown
returns-in_err-read-clause-shown g c =
    let input = g.R.Read.remaining c.args.reader.now.device in
    let contents = g.S.Write.contents in
    let screen = c.args.screen.now.writer in
    let may : may_show c.args.asked c.args.screen.now.is_terminal ≡ true = search rules in
    let shown = c.read_on-read.ensures.shown in
    subst (λ (may : Bool). ShowsProgress c.args.program may input (device_of contents screen c.end.new.screen.writer)) (sym may)
    (shown_all contents screen c.args.program input shown.0 c.read_on-read.new.progress.stands c.read_on-read.new.screen.writer c.end.new.screen.writer shown.1 (rw c.begin-progress.ensures.program at shown.2) c.end.ensures)
