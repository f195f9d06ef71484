-- How the drawing of a journal ends, from what its parts did.
use Rattle.std.proofs.Common.{◌≡◌, ◌∙◌, ◌≤◌, ◌∷◌, [], ℕ, Bool, List, Option, Some, None, Ok, Err, ap, false, length, refl, subst, suc, sym, true, IfNone, IfSome, IsErrAnd, Result, ok_or}
use Rattle.std.specs.List.{AllZip}
use Rattle.std.specs.Io.KnownBytes.{Appends}
use Rattle.thp_drawing.specs.declared.node.DrawnNode.{DrawnNode}
use Rattle.thp_cli.proofs.PassageLaws.{keeps_same}
use Rattle.thp_cli.specs.declared.calls.DeviceCall.{DeviceCall}
use Rattle.thp_cli.specs.declared.ending.Ending.{Ending}
use Rattle.thp_cli.specs.declared.ending.ProgramFault.{ProgramFault}
use Rattle.thp_cli.specs.declared.ending.ProgramFault.TheVariants.{Run, Usage, NoNode, NoText, Orders, Underused}
use Rattle.thp_cli.specs.declared.fault.RunFault.{RunFault}
use Rattle.thp_cli.specs.declared.fault.RunFault.TheVariants as run
use Rattle.thp_cli.specs.Prelude.{ReadsOn, WritesOn, WritesFront, Device, Source}
use Rattle.thp_journal_reader.specs.declared.journals.ReadNode.{ReadNode}
use Rattle.thp_script.specs.Prelude.{max_counted, IsFrontOf}
use Rattle.thp_journal_reader.specs.declared.line.Accepted.TheVariants.{EveryVersion}
use Rattle.thp_journal_reader.proofs.VerdictLaws.{same_journals}
use Rattle.thp_journal_tools.specs.declared.draw_program.DrawOptions.{DrawOptions}
use Rattle.thp_journal_tools.specs.Checks.{IsFindFault}
use Rattle.thp_journal_tools.specs.Drawings.{AreDrawn, Draws, IsDrawingOf, LacksNode, Shows}
use Rattle.thp_journal_tools.specs.DrawOutcomes.{DrawIsDone, IsOutputFault}
use Rattle.thp_journal_tools.specs.Nodes.{IsDrawnOf}
use Rattle.thp_journal_tools.proofs.CheckLaws.{at_writer, ends_at_find, ends_at_write, ends_reported, none_at_find}

-- the text of what was found
pub drawing_of : (options : DrawOptions) (bytes text : List ℕ) (nodes : List DrawnNode) (ending : Ending) → AreDrawn bytes nodes → Shows options.table options.node nodes ending text → IsDrawingOf options bytes ending text
drawing_of options bytes text nodes ending found shown = record { journals = found.journals; spelled = found.spelled; nodes = nodes; drawn = found.drawn; shown = shown }

-- what is drawn of what was read is drawn of the whole input
pub drawing_of_input : (options : DrawOptions) (input bytes text : List ℕ) (ending : Ending) → IsFrontOf max_counted bytes input → IsDrawingOf options bytes ending text → IsDrawingOf options input ending text
drawing_of_input options input bytes text ending read d =
    record { journals = d.journals; spelled = sym (same_journals EveryVersion max_counted input bytes read) ∙ d.spelled; nodes = d.nodes; drawn = d.drawn; shown = d.shown }

-- ---- nothing was written

-- as many nodes are drawn as the journals have
same_length : (nodes : List ReadNode) (drawn : List DrawnNode) → AllZip IsDrawnOf nodes drawn → length nodes ≡ length drawn
same_length [] [] are = refl
same_length [] (d ∷ drawn) are = absurd are
same_length (n ∷ nodes) [] are = absurd are
same_length (n ∷ nodes) (d ∷ drawn) are = ap suc (same_length nodes drawn are.1)

lacks_in : (known : Option (List ℕ)) (bytes : List ℕ) (nodes : List DrawnNode) (number : ℕ) → IfSome known (IsFrontOf max_counted bytes) → AreDrawn bytes nodes → length nodes ≤ number → IfSome known (λ input. LacksNode input number)
lacks_in None bytes nodes number read found few = tt
lacks_in (Some input) bytes nodes number read found few = record {
  journals = found.journals;
  spelled = sym (same_journals EveryVersion max_counted input bytes read) ∙ found.spelled;
  lacks = rw (same_length found.journals.nodes nodes found.drawn) few;
}

-- a device that was not called
abbrev pub same_device : Option (List ℕ) → Bool → List DeviceCall → Device
same_device content failed calls = record { before = content; after = content; failed = failed; called = calls; calls = calls }

module _ (options : DrawOptions) (input : Source) (reads : ReadsOn max_counted input.failed input.called input.calls) (content : Option (List ℕ)) (failed : Bool) (flag : failed ≡ false) (calls : List DeviceCall) where
  pub none_found : (fault : RunFault ℕ) → IsFindFault input.bytes input.failed fault → Draws options input (same_device content failed calls) (Err fault)
  none_found fault why = record {
    ends = ends_at_find (IsDrawingOf options) (drawing_of_input options) input.bytes content input.failed failed fault (Err fault) why flag refl;
    reads = reads;
    writes = none_at_find {A = Ending} input.bytes (Err fault) input.failed failed fault calls why refl;
  }

  pub no_output : (bytes : List ℕ) (nodes : List DrawnNode) → IfSome input.bytes (IsFrontOf max_counted bytes) → AreDrawn bytes nodes → input.failed ≡ false
      → (fault : ProgramFault) → IsOutputFault options.node nodes fault → DrawIsDone options input (same_device content failed calls) (Err fault)
  no_output bytes nodes read found done (Run fault) why = rw why (none_found run.OutOfMemory done)
  no_output bytes nodes read found done (NoNode number) why =
      record { asked = why.0; lacks = lacks_in input.bytes bytes nodes number read found why.1; flag = done; reads = reads; untouched = (keeps_same content, flag, refl) }
  no_output bytes nodes read found done (Usage text) why = absurd why
  no_output bytes nodes read found done NoText why = absurd why
  no_output bytes nodes read found done Orders why = absurd why
  no_output bytes nodes read found done Underused why = absurd why

-- ---- the text was written, or a prefix of it

module _ (options : DrawOptions) (input : Source) (output : Device) (reads : ReadsOn max_counted input.failed input.called input.calls) (done : input.failed ≡ false) (bytes text : List ℕ) (nodes : List DrawnNode) (ending : Ending) where
  module _ (read : IfSome input.bytes (IsFrontOf max_counted bytes)) (found : AreDrawn bytes nodes) (shown : Shows options.table options.node nodes ending text) (writes : WritesOn output.failed output.called output.calls) (o : Option (Unit {0})) where
    pub cut : o ≡ None → IfNone o (WritesFront output.before output.after text) → IfNone o (output.failed ≡ true) → Draws options input output (Err run.Write)
    cut none front failed = record {
      ends = ends_at_write (IsDrawingOf options) (drawing_of_input options) input.bytes bytes read output.before output.after input.failed output.failed ending text o (Err run.Write) (drawing_of options bytes text nodes ending found shown) none front failed done refl;
      reads = reads;
      writes = writes;
    }

    pub drawn : (u : Unit {0}) → ok_or o at_writer ≡ Ok u → IfSome o (λ _. Appends output.before output.after text) → IfSome o (λ _. output.failed ≡ false) → Draws options input output (Ok ending)
    drawn u some appends flag = record {
      ends = ends_reported (IsDrawingOf options) (drawing_of_input options) input.bytes bytes read output.before output.after input.failed output.failed ending text o u (drawing_of options bytes text nodes ending found shown) some appends flag done;
      reads = reads;
      writes = writes;
    }

-- ---- the end

-- an error ends it
pub does_err : (options : DrawOptions) (input : Source) (output : Device) (fault : ProgramFault) (r : Result Ending ProgramFault) → IsErrAnd r (λ e. e ≡ fault) → DrawIsDone options input output (Err fault) → DrawIsDone options input output r
does_err options input output fault (Ok ending) is does = absurd is
does_err options input output fault (Err e) is does = subst (λ (f : ProgramFault). DrawIsDone options input output (Err f)) (sym is) does
