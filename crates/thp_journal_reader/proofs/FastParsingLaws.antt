-- Events at the front of a text: what was read of its bytes in one walk is what its first line says.
use Rattle.std.proofs.Common.{◌≡◌, ℕ, Bool, false, List, [], ◌∷◌, ◌++◌, Option, Some, None, Result, Ok, arith, codes, refl, IfSome, bytes_eq, length-append}
use Rattle.std.specs.Result.{result_ok}
use Rattle.std.proofs.lemmas.Slice.Eq.{bytes_eq-Decides}
use Rattle.thp_history.specs.declared.events.Event.{Event}
use Rattle.thp_history.specs.declared.events.Outcome.{Outcome}
use Rattle.thp_history.specs.declared.events.Outcome.TheVariants.{Stays, Queued, Freed}
use Rattle.thp_history.specs.declared.events.What.TheVariants as what
use Rattle.thp_history.specs.Prelude.{by, loss_what, set_of}
use Rattle.thp_script.specs.declared.fault.TextKind.{TextKind}
use Rattle.thp_script.specs.Prelude.{Text, number_of, pieces_at, FastNumber}
use Rattle.thp_script.proofs.FastParsingLaws.{number_whole, of_some, whole_front}
use Rattle.thp_script.proofs.TextLaws.{pieces-append}
use Rattle.thp_history.specs.declared.page_call.Loss.{Loss}
use Rattle.thp_journal_writer.specs.Prelude.{version_limits}
use Rattle.thp_journal_reader.specs.Prelude.{EventWord, PageWord, RangeWord, Happened, Version, FastEvent, FastJournalLine, FastEventOperands, FastOutcome, FastSet, FastWord, event_by, event_of, loss_event, page_event, range_event, split_event, unmap_event, outcome_and_word, event_word, outcome_of, page_what, range_what, line_by_words, line_by, set_of_text, set_with}
use Rattle.thp_journal_reader.proofs.PlainLines.{line_of-read}
use Rattle.thp_journal_reader.proofs.PlainWords.{event_word_letters, letters_whole}

-- ---- lines of words

-- a word more in front
word_more : (word : Text) (words : List Text) (text behind rest : Text) → pieces_at 32 word ≡ word ∷ [] → pieces_at 10 word ≡ word ∷ [] → text ≡ word ++ 32 ∷ behind → FastJournalLine words behind rest → FastJournalLine (word ∷ words) text rest
word_more word words text behind rest apart lines e l = record {
  line = word ++ 32 ∷ l.line;
  words_are = rw (whole_front 32 word l.line apart, l.words_are) refl;
  lines = rw (e, pieces-append 10 word (32 ∷ behind), lines, l.lines) refl;
  shorter = rw (e, length-append word (32 ∷ behind)) (omega (arith, l.shorter));
}

number_more : (most n : ℕ) (words : List Text) (text behind rest : Text) (a : FastNumber 32 most text n behind) → FastJournalLine words behind rest → FastJournalLine (a.word ∷ words) text rest
number_more most n words text behind rest a l = word_more a.word words text behind rest (number_whole 32 most n a.word (omega arith) a.reads) (number_whole 10 most n a.word (omega arith) a.reads) a.stands l

-- a line of one number
last_number : (most n : ℕ) (text rest : Text) (a : FastNumber 10 most text n rest) → FastJournalLine (a.word ∷ []) text rest
last_number most n text rest a = grind (arith, number_whole, whole_front, length-append)

outcome_more : (outcome : Outcome) (words : List Text) (text behind rest : Text) (a : FastOutcome text outcome behind) → FastJournalLine words behind rest → FastJournalLine (a.word ∷ words) text rest
outcome_more outcome words text behind rest a l = word_more a.word words text behind rest a.one_word a.one_line a.stands l

-- ---- words of outcomes

pub parse_stays_fast : (text rest : Text) → text ≡ codes "stays" ++ 32 ∷ rest → FastOutcome text Stays rest
unfolding outcome_of
parse_stays_fast text rest e = record { word = codes "stays"; one_word = refl; one_line = refl; reads = refl; stands = e }

pub parse_queued_fast : (text rest : Text) → text ≡ codes "queued" ++ 32 ∷ rest → FastOutcome text Queued rest
unfolding outcome_of
parse_queued_fast text rest e = record { word = codes "queued"; one_word = refl; one_line = refl; reads = refl; stands = e }

pub parse_freed_fast : (text rest : Text) → text ≡ codes "freed" ++ 32 ∷ rest → FastOutcome text Freed rest
unfolding outcome_of
parse_freed_fast text rest e = record { word = codes "freed"; one_word = refl; one_line = refl; reads = refl; stands = e }

-- a word that is read as a set says that set
pub set_read : (word : Text) (read : Result (List Bool) TextKind) (some : Option (List Bool)) (set : List Bool) → read ≡ set_of_text word → some ≡ result_ok read → some ≡ Some set → set_of_text word ≡ Ok set
set_read word x some set e f g = grind arith

-- a dash alone on a line says the set of no subpage
pub parse_no_frame_fast : (text rest : Text) → text ≡ 45 ∷ 10 ∷ rest → FastSet (set_of (λ i. false)) text rest
unfolding set_of_text set_with
parse_no_frame_fast text rest e = record {
  word = 45 ∷ [];
  line = record {
    line = 45 ∷ [];
    words_are = refl;
    lines = rw e (whole_front 10 (45 ∷ []) rest refl);
    shorter = rw e (omega arith);
  };
  reads = refl;
}

pub parse_set_fast : (set : List Bool) (word text rest : Text) → FastJournalLine (word ∷ []) text rest → set_of_text word ≡ Ok set → FastSet set text rest
parse_set_fast set word text rest line reads = record { word = word; line = line; reads = reads }

-- ---- operands

pub parse_page_fast : (v : Version) (name : PageWord) (caller p : ℕ) (text rest : Text) → FastNumber 10 18446744073709551615 text p rest → FastEventOperands v (page_event v name) caller text (by caller (page_what name p)) rest
unfolding page_event
parse_page_fast v name caller p text rest a = record {
  words = a.word ∷ [];
  line = last_number 18446744073709551615 p text rest a;
  reads = λ w c. rw (c, a.reads) refl;
}

pub parse_range_fast : (v : Version) (name : RangeWord) (caller p first count : ℕ) (text t1 t2 rest : Text)
    → FastNumber 32 18446744073709551615 text p t1 → FastNumber 32 65535 t1 first t2 → FastNumber 10 65535 t2 count rest
    → FastEventOperands v (range_event v name) caller text (by caller (range_what name p first count)) rest
unfolding range_event
parse_range_fast v name caller p first count text t1 t2 rest a b d = record {
  words = a.word ∷ b.word ∷ d.word ∷ [];
  line = number_more 18446744073709551615 p (b.word ∷ d.word ∷ []) text t1 rest a (number_more 65535 first (d.word ∷ []) t1 t2 rest b (last_number 65535 count t2 rest d));
  reads = λ w c. rw (c, a.reads, b.reads, d.reads) refl;
}

pub parse_loss_fast : (v : Version) (name : Loss) (caller p : ℕ) (outcome : Outcome) (set : List Bool) (text t1 t2 rest : Text)
    → FastNumber 32 18446744073709551615 text p t1 → FastOutcome t1 outcome t2 → FastSet set t2 rest
    → FastEventOperands v (loss_event v name) caller text (by caller (loss_what name p outcome set)) rest
unfolding loss_event outcome_and_word
parse_loss_fast v name caller p outcome set text t1 t2 rest a o s = record {
  words = a.word ∷ o.word ∷ s.word ∷ [];
  line = number_more 18446744073709551615 p (o.word ∷ s.word ∷ []) text t1 rest a (outcome_more outcome (s.word ∷ []) t1 t2 rest o s.line);
  reads = λ w c. rw (o.reads, c, a.reads, s.reads) refl;
}

pub parse_unmap_fast : (v : Version) (caller p first count : ℕ) (outcome : Outcome) (set : List Bool) (text t1 t2 t3 t4 rest : Text)
    → FastNumber 32 18446744073709551615 text p t1 → FastNumber 32 65535 t1 first t2 → FastNumber 32 65535 t2 count t3 → FastOutcome t3 outcome t4 → FastSet set t4 rest
    → FastEventOperands v (unmap_event v) caller text (by caller (what.UnmapSub outcome p first count set)) rest
unfolding unmap_event outcome_and_word
parse_unmap_fast v caller p first count outcome set text t1 t2 t3 t4 rest a b d o s = record {
  words = a.word ∷ b.word ∷ d.word ∷ o.word ∷ s.word ∷ [];
  line = number_more 18446744073709551615 p (b.word ∷ d.word ∷ o.word ∷ s.word ∷ []) text t1 rest a
      (number_more 65535 first (d.word ∷ o.word ∷ s.word ∷ []) t1 t2 rest b
      (number_more 65535 count (o.word ∷ s.word ∷ []) t2 t3 rest d (outcome_more outcome (s.word ∷ []) t3 t4 rest o s.line)));
  reads = λ w c. rw (o.reads, c, a.reads, b.reads, d.reads, s.reads) refl;
}

pub parse_split_fast : (v : Version) (caller p : ℕ) (set : List Bool) (text t1 rest : Text) → FastNumber 32 18446744073709551615 text p t1 → FastSet set t1 rest
    → FastEventOperands v (split_event v) caller text (by caller (what.Split p set)) rest
unfolding split_event
parse_split_fast v caller p set text t1 rest a s = record {
  words = a.word ∷ s.word ∷ [];
  line = number_more 18446744073709551615 p (s.word ∷ []) text t1 rest a s.line;
  reads = λ w c. rw (c, a.reads, s.reads) refl;
}

-- ---- words of events

-- a word that names an event, and a space behind it
pub word_stands : (v : Version) (name text rest : Text) (word : EventWord) → event_word v name ≡ Ok word → text ≡ name ++ 32 ∷ rest → FastWord v text word rest
word_stands v name text rest word reads e = grind (arith, event_word_letters, letters_whole)

-- an event's word and its operands
of_word : (v : Version) (word : EventWord) (caller : ℕ) (text operands rest : Text) (event : Event) (a : FastWord v text word operands) → FastEventOperands v (event_by v word) caller operands event rest → FastEventOperands v (event_of v) caller text event rest
of_word v word caller text operands rest event a o = record {
  words = a.name ∷ o.words;
  line = word_more a.name o.words text operands rest a.one_word a.one_line a.stands o.line;
  reads = λ w c. rw a.reads (o.reads w c);
}

-- ---- events

-- no number is this word
other_word : (word name : Text) (most n : ℕ) → number_of most word ≡ Some n → number_of most name ≡ None → bytes_eq word name ≡ false
other_word word name most n is none = grind (arith, bytes_eq, bytes_eq-Decides)

after_caller : (v : Version) (word : Text) (words : List Text) (caller : ℕ) (event : Event) → number_of (version_limits v).last_caller word ≡ Some caller → event_of v word words ≡ Ok event → Ok (Happened event) ≡ line_by_words v (word ∷ words)
unfolding line_by number_of
after_caller v word words caller event is says = grind (arith, other_word)

-- a caller and an event's words behind it
event_is : (v : Version) (text behind rest : Text) (caller : ℕ) (event : Event) → FastNumber 32 (version_limits v).last_caller text caller behind → FastEventOperands v (event_of v) caller behind event rest → FastEvent v text event rest
event_is v text behind rest caller event a o =
    let l = number_more (version_limits v).last_caller caller o.words text behind rest a o.line in
    let says = after_caller v a.word o.words caller event a.reads (o.reads a.word (rw a.reads refl)) in
    record {
      line = l.line;
      lines = l.lines;
      shorter = l.shorter;
      says = line_of-read v l.line (Happened event) (rw l.words_are says);
    }

pub event_read : {A : Type 0} (v : Version) (text behind operands : Text) (caller : ℕ) (word : EventWord) (read : Option A) (event : A → Event) (rest : A → Text) → FastNumber 32 (version_limits v).last_caller text caller behind → FastWord v behind word operands
    → IfSome read (λ r. FastEventOperands v (event_by v word) caller operands (event r) (rest r)) → IfSome read (λ r. FastEvent v text (event r) (rest r))
event_read v text behind operands caller word read event rest a b h =
    of_some read (λ r. FastEventOperands v (event_by v word) caller operands (event r) (rest r)) (λ r. FastEvent v text (event r) (rest r))
    (λ r o. event_is v text behind (rest r) caller (event r) a (of_word v word caller behind operands (rest r) (event r) b o)) h
