use Rattle.std.proofs.Common.{◌≡◌, ◌∙◌, ◌++◌, ℕ, List, [], Option, append_assoc, ap, arith, refl, rules, subst, sym, take, append-nil, length-append, length-take-le}
use Rattle.std.specs.Io.KnownBytes.{Appends}
use Rattle.thp_cli.proofs.CallLaws.{reading_more, reading_none, reads_by}
use Rattle.thp_cli.proofs.DeviceLaws.{read_all, read_beyond, read_more, read_nothing}
use Rattle.thp_script.specs.Prelude.{max_counted}
use Rattle.thp_journal_reader.specs.Prelude.{journals_for_scripts}
use Rattle.thp_journal_tools.proofs.ScriptLaws.{appends_more, appends_none, grows_more, grows_none}
use Rattle.thp_journal_tools.proofs.scripting.write_parts.Goals as goal

-- the text of a part behind that of those before
with_text : (a b c : Option (List ℕ)) (t u : List ℕ) → Appends a b t → (text : List ℕ) × (u ≡ t ++ text) × Appends b c text → Appends a c u
with_text a b c t u before more = subst (λ x. Appends a c x) (sym more.1) (appends_more a b c t more.0 before more.2)

pub loop-count-init : goal.loop-count-init
loop-count-init g c = record {
  taken = ([], read_nothing (g.R.Read.remaining c.args.reader.now.device), omega arith, λ more. c.new-check.ensures.reports more);
  flag = c.requires.reader;
  calls = reading_none max_counted c.args.reader.now.calls;
  grows = grows_none (g.W.Write.contents c.args.writer.now.device);
  text = subst (λ t. Appends (g.W.Write.contents c.args.writer.now.device) (g.W.Write.contents c.args.writer.now.device) t) (sym c.new-check.ensures.taken) (appends_none (g.W.Write.contents c.args.writer.now.device));
  writes = c.requires.writer;
}

pub loop-count-preserved : goal.loop-count-preserved
loop-count-preserved g c =
    let remaining = g.R.Read.remaining in
    let contents = g.W.Write.contents in
    let t = c.loop-count.invariant.taken in
    let read = rw c.in-Some.is at c.read.ensures.bytes in
    let piece = take c.in-Some.count c.read.new.buf in
    record {
      taken = (
        t.0 ++ piece,
        read_more (remaining c.args.reader.now.device) (remaining c.loop-count.reader.device) (remaining c.read.new.self.device) t.0 piece t.1 read.1,
        omega (arith, length-append t.0 piece, length-take-le c.in-Some.count c.read.new.buf read.0, t.2, c.if-count-left.false),
        λ more. c.in_ok-check.ensures.read more ∙ t.3 (piece ++ more) ∙ ap journals_for_scripts (sym (append_assoc t.0 piece more)),
      );
      flag = (rw c.in-Some.is at c.read.ensures.flag_stays) ∙ c.loop-count.invariant.flag;
      calls = reading_more max_counted c.loop-count.left c.in-Some.count _ c.args.reader.now.calls c.loop-count.reader.calls c.read.new.self.calls c.loop-count.invariant.calls (omega (arith, c.if-count-eq0.false)) (omega (arith, c.if-count-left.false)) (search rules) (rw c.in-Some.is at c.read.ensures.calls);
      grows = grows_more (contents c.args.writer.now.device) (contents c.loop-count.writer.device) (contents c.write_part.new.writer.device) c.loop-count.invariant.grows c.write_part.ensures.grows;
      text = with_text (contents c.args.writer.now.device) (contents c.loop-count.writer.device) (contents c.write_part.new.writer.device) c.loop-count.check.taken c.in_ok-check.check.taken c.loop-count.invariant.text c.in_ok-check.ensures.text;
      writes = c.in_ok-check.ensures.flag;
    }

pub returns-then-count-eq0-clause-parts : goal.returns-then-count-eq0-clause-parts
returns-then-count-eq0-clause-parts g c =
    let remaining = g.R.Read.remaining in
    let t = c.loop-count.invariant.taken in
    let read = rw c.in-Some.is at c.read.ensures.bytes in
    (t.0, read_all max_counted (remaining c.args.reader.now.device) (remaining c.loop-count.reader.device) (remaining c.read.new.self.device) t.0 _ t.1 read.1 (rw c.if-count-eq0.true refl) (search rules), t.3 [] ∙ ap journals_for_scripts (append-nil t.0))

pub returns-then-count-left-clause-parts : goal.returns-then-count-left-clause-parts
returns-then-count-left-clause-parts g c =
    let remaining = g.R.Read.remaining in
    let t = c.loop-count.invariant.taken in
    let read = rw c.in-Some.is at c.read.ensures.bytes in
    let piece = take c.in-Some.count c.read.new.buf in (
      t.0 ++ piece,
      read_beyond max_counted (remaining c.args.reader.now.device) (remaining c.read.new.self.device) (t.0 ++ piece)
          (read_more (remaining c.args.reader.now.device) (remaining c.loop-count.reader.device) (remaining c.read.new.self.device) t.0 piece t.1 read.1)
          (omega (arith, length-append t.0 piece, length-take-le c.in-Some.count c.read.new.buf read.0, t.2, c.if-count-left.true)),
      c.in_ok-check.ensures.read [] ∙ t.3 (piece ++ []) ∙ ap journals_for_scripts (sym (append_assoc t.0 piece []) ∙ append-nil (t.0 ++ piece)),
    )

pub returns-then-count-left-clause-grows : goal.returns-then-count-left-clause-grows
returns-then-count-left-clause-grows g c = grows_more (g.W.Write.contents c.args.writer.now.device) (g.W.Write.contents c.loop-count.writer.device) (g.W.Write.contents c.write_part.new.writer.device) c.loop-count.invariant.grows c.write_part.ensures.grows

pub returns-in_err-check-clause-grows : goal.returns-in_err-check-clause-grows
returns-in_err-check-clause-grows g c = grows_more (g.W.Write.contents c.args.writer.now.device) (g.W.Write.contents c.loop-count.writer.device) (g.W.Write.contents c.write_part.new.writer.device) c.loop-count.invariant.grows c.write_part.ensures.grows

pub returns-in_default-clause-reads : goal.returns-in_default-clause-reads
returns-in_default-clause-reads g c = reads_by max_counted c.loop-count.left _ c.read.new.self.failed c.loop-count.reader.failed c.read.result c.args.reader.now.calls c.loop-count.reader.calls c.read.new.self.calls c.loop-count.invariant.calls c.loop-count.invariant.flag (search rules) c.read.ensures.calls c.read.ensures.failed c.read.ensures.flag_stays

pub returns-then-count-eq0-clause-reads : goal.returns-then-count-eq0-clause-reads
returns-then-count-eq0-clause-reads g c = reads_by max_counted c.loop-count.left _ c.read.new.self.failed c.loop-count.reader.failed c.read.result c.args.reader.now.calls c.loop-count.reader.calls c.read.new.self.calls c.loop-count.invariant.calls c.loop-count.invariant.flag (search rules) c.read.ensures.calls c.read.ensures.failed c.read.ensures.flag_stays

pub returns-in_err-check-clause-reads : goal.returns-in_err-check-clause-reads
returns-in_err-check-clause-reads g c = reads_by max_counted c.loop-count.left _ c.read.new.self.failed c.loop-count.reader.failed c.read.result c.args.reader.now.calls c.loop-count.reader.calls c.read.new.self.calls c.loop-count.invariant.calls c.loop-count.invariant.flag (search rules) c.read.ensures.calls c.read.ensures.failed c.read.ensures.flag_stays

pub returns-then-count-left-clause-reads : goal.returns-then-count-left-clause-reads
returns-then-count-left-clause-reads g c = reads_by max_counted c.loop-count.left _ c.read.new.self.failed c.loop-count.reader.failed c.read.result c.args.reader.now.calls c.loop-count.reader.calls c.read.new.self.calls c.loop-count.invariant.calls c.loop-count.invariant.flag (search rules) c.read.ensures.calls c.read.ensures.failed c.read.ensures.flag_stays

pub returns-then-count-left-clause-text : goal.returns-then-count-left-clause-text
returns-then-count-left-clause-text g c = with_text (g.W.Write.contents c.args.writer.now.device) (g.W.Write.contents c.loop-count.writer.device) (g.W.Write.contents c.write_part.new.writer.device) c.loop-count.check.taken c.in_ok-check.check.taken c.loop-count.invariant.text c.in_ok-check.ensures.text
