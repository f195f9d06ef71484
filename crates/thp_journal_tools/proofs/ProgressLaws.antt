-- What a screen has taken, line by line.
use Rattle.std.proofs.Common.{◌≡◌, ◌∙◌, ◌++◌, ◌∷◌, ◌+◌, [], ℕ, Bool, false, List, Option, Some, None, ap, append_assoc, get_or, inl, inr, length, refl, subst, sym, arith, true, All}
use Rattle.std.specs.Io.KnownBytes.{Appends, Consumes}
use Rattle.std.proofs.lemmas.List.{append-nil, length-append, map-append}
use Rattle.std.proofs.lemmas.List.Elements.{All-append, All-nil}
use Rattle.std.proofs.lemmas.List.Folds.{concat-append}
use Rattle.thp_cli.specs.Prelude.{Follow, IsTaken, WritesOn, device_of, Device, WriterTakes, Watch}
use Rattle.thp_cli.specs.declared.calls.DeviceCall.{DeviceCall}
use Rattle.thp_cli.specs.declared.ending.Program.{Program}
use Rattle.thp_cli.specs.declared.calls.DeviceCall.TheVariants as call
use Rattle.thp_journal_tools.specs.Counting.{begins_after, events_from}
use Rattle.thp_journal_tools.specs.Progress.{last_removed, progress_line, progress_text, removal, AreAnswered, CallSucceeded, IsReached, Reached, ShowsLines, DeviceTook}
use Rattle.thp_journal_tools.specs.Reaching.{is_some_line, HasCounted, HasShown, IsReadOf, Looks, Removes}
use Rattle.thp_journal_tools.specs.declared.progress.Progress.{Progress}
use Rattle.thp_journal_tools.proofs.CountLaws.{begins-append, events-append}

-- ---- what was counted

-- more bytes are counted
pub counts_more : (old new : Progress) (text bytes : List ℕ) → HasCounted old text → new.bytes ≡ old.bytes + length bytes
    → new.counted.events ≡ old.counted.events + events_from old.counted.begins bytes → new.counted.begins ≡ begins_after old.counted.begins bytes → HasCounted new (text ++ bytes)
counts_more old new text bytes was more_bytes events begins = grind (arith, length-append, events-append, begins-append)

-- ---- calls

one_answered : (c : DeviceCall) → CallSucceeded c → All CallSucceeded (c ∷ [])
one_answered c answered x d inside = grind arith

-- a write that the device took was answered
taken_answered : (c : DeviceCall) → IsTaken c → CallSucceeded c
taken_answered x taken = grind arith

-- the calls of one text that was taken were answered
answered_of : (last : DeviceCall) (old new : List DeviceCall) → CallSucceeded last → Follow (last ∷ []) old new → AreAnswered false old new
answered_of last old new last_is f = (f.writes ++ last ∷ [], f.grown, All-append CallSucceeded f.writes (last ∷ []) (λ k c inside. taken_answered (get_or f.writes k c) (f.taken k c inside)) (one_answered last last_is))

refused_of : (last : DeviceCall) (old new : List DeviceCall) → ¬ (CallSucceeded last) → Follow (last ∷ []) old new → AreAnswered true old new
refused_of last old new not f = (f.writes, last, f.grown, (λ k c inside. taken_answered (get_or f.writes k c) (f.taken k c inside)), not)

pub answers_of : (failed : Bool) (old new : List DeviceCall) → WritesOn failed old new → AreAnswered failed old new
answers_of false old new f = answered_of (call.Flush true) old new refl f
answers_of true old new (inl f) = refused_of (call.Write f.0 None) old new (λ e. absurd cc) f.1
answers_of true old new (inr f) = refused_of (call.Flush false) old new (λ e. absurd cc) f

-- calls behind others
pub answers_more : (failed : Bool) (old mid new : List DeviceCall) → AreAnswered false old mid → AreAnswered failed mid new → AreAnswered failed old new
answers_more false old mid new a b = (
  a.0 ++ b.0,
  b.1 ∙ ap (λ (t : List DeviceCall). t ++ b.0) a.1 ∙ append_assoc old a.0 b.0,
  All-append CallSucceeded a.0 b.0 a.2 b.2,
)
answers_more true old mid new a b = (
  a.0 ++ b.0,
  b.1,
  b.2 ∙ ap (λ (t : List DeviceCall). t ++ (b.0 ++ b.1 ∷ [])) a.1 ∙ append_assoc old a.0 (b.0 ++ b.1 ∷ []) ∙ ap (λ (t : List DeviceCall). old ++ t) (sym (append_assoc a.0 b.0 (b.1 ∷ []))),
  All-append CallSucceeded a.0 b.0 a.2 b.3,
  b.4,
)

-- ---- texts that a screen takes one behind the other

appends_nothing : (a : Option (List ℕ)) → Appends a a []
appends_nothing x = grind (arith, append-nil)

pub appends_more : (a b c : Option (List ℕ)) (front piece : List ℕ) → Appends a b front → Appends b c piece → Appends a c (front ++ piece)
appends_more x b c front piece h k = grind (arith, append_assoc)

-- nothing was taken
pub took_nothing : (a : Option (List ℕ)) (failed : Bool) (calls : List DeviceCall) → failed ≡ false → DeviceTook (record { before = a; after = a; failed = failed; called = calls; calls = calls }) []
took_nothing a failed calls e = rw e (record { bytes = appends_nothing a; calls = ([], sym (append-nil calls), All-nil CallSucceeded) })

-- one more text
took_more : (a b c : Option (List ℕ)) (failed : Bool) (called mid calls : List DeviceCall) (text piece : List ℕ)
    → DeviceTook (record { before = a; after = b; failed = false; called = called; calls = mid }) text
    → WriterTakes (record { before = b; after = c; failed = failed; called = mid; calls = calls }) piece
    → DeviceTook (record { before = a; after = c; failed = failed; called = called; calls = calls }) (text ++ piece)
took_more a b c x called mid calls text piece t k = grind (arith, appends_more, answers_more, answers_of, append_assoc)

-- of more than was taken where the screen failed
took_front : (w : Device) (text more : List ℕ) → w.failed ≡ true → DeviceTook w text → DeviceTook w (text ++ more)
took_front w text more e t = grind (arith, append_assoc)

-- ---- lines

text_more : (program : Program) (lines : List Reached) (line : Reached) → progress_text program (lines ++ line ∷ []) ≡ progress_text program lines ++ progress_line program line
text_more program lines line = grind (arith, map-append, concat-append, append-nil)

some_more : (lines : List Reached) (line : Reached) → is_some_line (lines ++ line ∷ []) ≡ true
some_more [] line = refl
some_more (first ∷ lines) line = refl

last_stands : (lines : List Reached) → is_some_line lines ≡ true → last_removed lines ≡ removal
last_stands x e = grind arith

none_stands : (lines : List Reached) → is_some_line lines ≡ false → last_removed lines ≡ []
none_stands x e = grind arith

-- what a line shows of a text's front, it shows of a longer text
reached_more : (text more : List ℕ) (line : Reached) → IsReached text line → IsReached (text ++ more) line
reached_more text more line r = grind (arith, append_assoc)

each_more : (text more : List ℕ) (lines : List Reached) → All (IsReached text) lines → All (IsReached (text ++ more)) lines
each_more text more lines each = λ k d inside. reached_more text more _ (each k d inside)

one_reached : (text : List ℕ) (line : Reached) → IsReached text line → All (IsReached text) (line ∷ [])
one_reached text line is x d inside = grind arith

-- a line that reports what was counted
reached_now : (progress : Progress) (text : List ℕ) (rate : ℕ) → HasCounted progress text → IsReached text (record { bytes = progress.bytes; events = progress.counted.events; rate = rate })
reached_now progress text rate c = record { front = text; rest = []; parts = sym (append-nil text); bytes_are = c.bytes_are; events_are = c.events_are }

module _ {S : Type 0} (contents : S → Option (List ℕ)) (start : Watch S) (program : Program) where
  -- nothing was shown
  pub shown_none : (stands : Bool) → start.failed ≡ false → stands ≡ false → HasShown program [] stands (device_of contents start start)
  shown_none stands ok none = record { lines = []; reached = All-nil (IsReached []); took = took_nothing (contents start.device) start.failed start.calls ok; stands_is = none }

  took_line : (old new : Watch S) (text line : List ℕ) → old.failed ≡ false → DeviceTook (device_of contents start old) text → WriterTakes (device_of contents old new) line → DeviceTook (device_of contents start new) (text ++ line)
  took_line old new text line ok took takes =
      took_more (contents start.device) (contents old.device) (contents new.device) new.failed start.calls old.calls new.calls text line (rw ok at took) takes

  -- more has come, and was looked at
  pub shown_more : (progress : Progress) → progress.program ≡ program → (text more : List ℕ) (stood : Bool) (old new : Watch S) → HasShown program text stood (device_of contents start old) → HasCounted progress (text ++ more)
      → Looks contents stood progress old new → HasShown program (text ++ more) progress.stands (device_of contents start new)
  shown_more progress own text more stood old new shown counted (inl (same, stands)) =
      let P : Watch S → Type 0 = λ w. DeviceTook (device_of contents start w) (progress_text program shown.lines) in
      record { lines = shown.lines; reached = each_more text more shown.lines shown.reached; took = subst P (sym same) shown.took; stands_is = stands ∙ shown.stands_is }
  shown_more progress own text more stood old new shown counted (inr (ok, stands, reported)) =
      let line : Reached = record { bytes = progress.bytes; events = progress.counted.events; rate = reported.0 } in
      let P : List ℕ → Type 0 = λ t. DeviceTook (device_of contents start new) t in
      record {
        lines = shown.lines ++ line ∷ [];
        reached = All-append (IsReached (text ++ more)) shown.lines (line ∷ []) (each_more text more shown.lines shown.reached) (one_reached (text ++ more) line (reached_now progress (text ++ more) reported.0 counted));
        took = subst P (sym (text_more program shown.lines line)) (took_line old new (progress_text program shown.lines) (progress_line program line) ok shown.took (rw own at reported.1));
        stands_is = stands ∙ sym (some_more shown.lines line);
      }

  took_all : (stood : Bool) (old new : Watch S) (lines : List Reached) → DeviceTook (device_of contents start old) (progress_text program lines) → stood ≡ is_some_line lines → Removes contents stood old new
      → DeviceTook (device_of contents start new) (progress_text program lines ++ last_removed lines)
  took_all stood old new lines took is (inl (ok, stands, takes)) =
      let P : List ℕ → Type 0 = λ t. DeviceTook (device_of contents start new) (progress_text program lines ++ t) in
      subst P (sym (last_stands lines (sym is ∙ stands))) (took_line old new (progress_text program lines) removal ok took takes)
  took_all stood old new lines took is (inr (same, inl none)) =
      let P : Watch S → Type 0 = λ w. DeviceTook (device_of contents start w) (progress_text program lines ++ last_removed lines) in
      let Q : List ℕ → Type 0 = λ t. DeviceTook (device_of contents start old) t in
      subst P (sym same) (subst Q (sym (ap (λ (t : List ℕ). progress_text program lines ++ t) (none_stands lines (sym is ∙ none)) ∙ append-nil (progress_text program lines))) took)
  took_all stood old new lines took is (inr (same, inr failed)) =
      let P : Watch S → Type 0 = λ w. DeviceTook (device_of contents start w) (progress_text program lines ++ last_removed lines) in
      subst P (sym same) (took_front (device_of contents start old) (progress_text program lines) (last_removed lines) failed took)

  -- no more has come, and what stood there was taken away
  pub shown_all : (known : Option (List ℕ)) (text : List ℕ) (stood : Bool) (old new : Watch S) → IsReadOf known text → HasShown program text stood (device_of contents start old) → Removes contents stood old new
      → ShowsLines program known (device_of contents start new)
  shown_all None text stood old new read shown removes = record { lines = shown.lines; reached = tt; took = took_all stood old new shown.lines shown.took shown.stands_is removes }
  shown_all (Some all) text stood old new read shown removes =
      let P : List ℕ → Type 0 = λ t. All (IsReached t) shown.lines in
      record { lines = shown.lines; reached = subst P (sym read.1) (each_more text read.0 shown.lines shown.reached); took = took_all stood old new shown.lines shown.took shown.stands_is removes }

-- what a reader has given is a front of what it had to give
pub read_of : (a b : Option (List ℕ)) (bytes : List ℕ) → Consumes a b bytes → IsReadOf a bytes
read_of x b bytes h = grind arith
