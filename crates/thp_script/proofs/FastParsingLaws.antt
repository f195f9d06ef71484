-- Commands at the front of a text: what was read of its bytes in one walk is what its first line says.
use Rattle.std.proofs.Common.{◌≡◌, ◌∙◌, ◌==◌, ◌<◌, ◌≤◌, ◌-◌, ◌+◌, ◌*◌, ℕ, true, false, List, [], ◌∷◌, ◌++◌, length, Option, Some, Ok, append_assoc, ap, arith, codes, drop, get_or, refl, suc, sym, take, IfSome, nat_le, append-nil, length-append}
use Rattle.std.specs.Char.{digit_value, is_ascii_digit}
use Rattle.std.specs.List.{list_all}
use Rattle.std.specs.Str.Parse.{digits_value}
use Rattle.std.proofs.lemmas.Bool.{and_from, and_parts, eq-eqb, leb-true, lt-ltb, ne_eqb}
use Rattle.std.proofs.lemmas.Int.Digits.{digits_value_push}
use Rattle.std.proofs.lemmas.List.Folds.{list_all-append}
use Rattle.std.proofs.lemmas.Option.{cond_some}
use Rattle.std.proofs.Math.Seq.{take-length}
use Rattle.thp_history.specs.Prelude.{max_batch}
use Rattle.thp_script.specs.Prelude.{Command, Op, CommandWord, OfNode, OfPage, OfRange, OfBatch, Settings, Call, FastCommand, FastLine, IsName, FastOperands, FastNumber, batch_command, command_of, node_command, page_command, range_command, Reading, reading_of, by_words, section_or_call, Text, is_numeral, lines_of, number_of, pieces_at, words_in_line}
use Rattle.thp_script.specs.declared.script.Op.TheVariants.{Alloc, Close, Count, SplitNext, PutBack}
use Rattle.thp_script.specs.declared.script.BatchCall.TheVariants as batch
use Rattle.thp_script.specs.declared.script.RangeCall.TheVariants as range
use Rattle.thp_history.specs.declared.page_call.Gain.TheVariants as gain
use Rattle.thp_history.specs.declared.page_call.Loss.TheVariants as loss
use Rattle.thp_history.specs.declared.page_call.PageCall.TheVariants as either
use Rattle.thp_script.proofs.GrammarLaws.{statement_of-read}
use Rattle.thp_script.proofs.NumberLaws.{numeral_parts, some_of_numeral}
use Rattle.thp_script.proofs.TextLaws.{pieces-append}

-- ---- bytes in front

-- what follows the first byte
abbrev pub after_first : Text → Text
after_first text = take (length text - 1) (drop 1 text)

pub first_is : (text : Text) (b : ℕ) → 1 ≤ length text → get_or text 0 0 ≡ b → text ≡ b ∷ after_first text
first_is [] b some e = absurd (omega arith)
first_is (byte ∷ text) b some e = let rest : suc (length text) - 1 ≡ length text = omega arith in rw (rest, take-length text, e) refl

-- ---- numbers

-- the text begins with digits that write this value, a zero not first, and goes on with `rest`
pub record FastDigits (text : Text) (value : ℕ) (rest : Text) : Type 0 where
  pub first : ℕ
  pub others : Text
  pub stands : text ≡ (first ∷ others) ++ rest
  pub digits : list_all is_ascii_digit (first ∷ others) ≡ true
  pub no_zero : (first == 48) ≡ false
  pub value_is : value ≡ digits_value 10 (first ∷ others)

pub digits_go_on : (text rest after : Text) (before value byte : ℕ) → FastDigits text before rest → rest ≡ byte ∷ after → is_ascii_digit byte ≡ true → value ≡ before * 10 + digit_value byte → FastDigits text value after
digits_go_on text rest after before value byte d e digit is = record {
  first = d.first;
  others = d.others ++ byte ∷ [];
  stands = d.stands ∙ rw e (sym (append_assoc (d.first ∷ d.others) (byte ∷ []) after));
  digits = rw (list_all-append is_ascii_digit (d.first ∷ d.others) (byte ∷ []), d.digits) (and_from (is_ascii_digit byte) true digit refl);
  no_zero = d.no_zero;
  value_is = is ∙ rw d.value_is (sym (digits_value_push 10 (d.first ∷ d.others) byte));
}

numeral_is : (first : ℕ) (others : Text) → list_all is_ascii_digit (first ∷ others) ≡ true → (first == 48) ≡ false → is_numeral (first ∷ others) ≡ true
numeral_is first others digits no-zero = rw (digits, no-zero, lt-ltb 0 (length (first ∷ others)) (omega arith)) refl

pub digits_end : (end most : ℕ) (text rest after : Text) (value : ℕ) → FastDigits text value rest → rest ≡ end ∷ after → value ≤ most → FastNumber end most text value after
digits_end end most text rest after value d e le = record {
  word = d.first ∷ d.others;
  reads = some_of_numeral most (d.first ∷ d.others) value (numeral_is d.first d.others d.digits d.no_zero) d.value_is le;
  stands = d.stands ∙ ap (λ (t : Text). (d.first ∷ d.others) ++ t) e;
}

pub zero_alone : (end most : ℕ) (text rest after : Text) → text ≡ 48 ∷ rest → rest ≡ end ∷ after → FastNumber end most text 0 after
zero_alone end most text rest after e f = record {
  word = 48 ∷ [];
  reads = some_of_numeral most (48 ∷ []) 0 refl refl (omega arith);
  stands = e ∙ ap (λ (t : Text). 48 ∷ t) f;
}

-- ---- words that are apart

-- digits aren't cut at a byte below them
digits_whole : (c : ℕ) (word : Text) → c < 48 → list_all is_ascii_digit word ≡ true → pieces_at c word ≡ word ∷ []
digits_whole c [] below digits = refl
digits_whole c (b ∷ word) below digits =
    let p = and_parts (is_ascii_digit b) (list_all is_ascii_digit word) digits in
    let q = and_parts (nat_le 48 b) (nat_le b 57) p.0 in
    let low : 48 ≤ b = leb-true 48 b q.0 in
    rw (digits_whole c word below p.1, ne_eqb b c (λ e. absurd (omega arith))) refl

pub number_whole : (c most n : ℕ) (word : Text) → c < 48 → number_of most word ≡ Some n → pieces_at c word ≡ word ∷ []
unfolding number_of
number_whole c most n word below e = grind (arith, and_parts, cond_some, digits_whole, numeral_parts)

-- ---- lines of words

pub whole_front : (c : ℕ) (word rest : Text) → pieces_at c word ≡ word ∷ [] → pieces_at c (word ++ c ∷ rest) ≡ word ∷ pieces_at c rest
whole_front c word rest whole = rw (pieces-append c word (c ∷ rest), whole, eq-eqb c c refl, append-nil word) refl

-- a line of one word
last_word : (word text rest : Text) → pieces_at 32 word ≡ word ∷ [] → pieces_at 10 word ≡ word ∷ [] → text ≡ word ++ 10 ∷ rest → FastLine (word ∷ []) text rest
last_word word text rest words lines e = record { line = word; words_are = words; one_line = lines; stands = e }

-- a word more in front
word_more : (word : Text) (words : List Text) (text behind rest : Text) → pieces_at 32 word ≡ word ∷ [] → pieces_at 10 word ≡ word ∷ [] → text ≡ word ++ 32 ∷ behind → FastLine words behind rest → FastLine (word ∷ words) text rest
word_more word words text behind rest apart lines e l = record {
  line = word ++ 32 ∷ l.line;
  words_are = rw (whole_front 32 word l.line apart, l.words_are) refl;
  one_line = rw (pieces-append 10 word (32 ∷ l.line), lines, l.one_line) refl;
  stands = e ∙ rw l.stands (sym (append_assoc word (32 ∷ l.line) (10 ∷ rest)));
}

last_number : (most n : ℕ) (text rest : Text) (a : FastNumber 10 most text n rest) → FastLine (a.word ∷ []) text rest
last_number most n text rest a = last_word a.word text rest (number_whole 32 most n a.word (omega arith) a.reads) (number_whole 10 most n a.word (omega arith) a.reads) a.stands

number_more : (most n : ℕ) (words : List Text) (text behind rest : Text) (a : FastNumber 32 most text n behind) → FastLine words behind rest → FastLine (a.word ∷ words) text rest
number_more most n words text behind rest a l = word_more a.word words text behind rest (number_whole 32 most n a.word (omega arith) a.reads) (number_whole 10 most n a.word (omega arith) a.reads) a.stands l

-- ---- operands

pub parse_node_fast : (s : Settings) (op : Op) (text rest : Text) (node : ℕ) → FastNumber 10 (s.nodes - 1) text node rest → FastOperands (node_command op s) text (record { node = node; op = op }) rest
unfolding node_command
parse_node_fast s op text rest node a = record { words = a.word ∷ []; line = last_number (s.nodes - 1) node text rest a; reads = rw a.reads refl }

pub parse_page_fast : (s : Settings) (op : ℕ → Op) (text behind rest : Text) (node page : ℕ) → FastNumber 32 (s.nodes - 1) text node behind → FastNumber 10 18446744073709551615 behind page rest
    → FastOperands (page_command op s) text (record { node = node; op = op page }) rest
unfolding page_command
parse_page_fast s op text behind rest node page a b = record {
  words = a.word ∷ b.word ∷ [];
  line = number_more (s.nodes - 1) node (b.word ∷ []) text behind rest a (last_number 18446744073709551615 page behind rest b);
  reads = rw (a.reads, b.reads) refl;
}

pub parse_batch_fast : (s : Settings) (op : ℕ → Op) (text behind rest : Text) (node count : ℕ) → FastNumber 32 (s.nodes - 1) text node behind → FastNumber 10 max_batch behind count rest
    → FastOperands (batch_command op s) text (record { node = node; op = op count }) rest
unfolding batch_command
parse_batch_fast s op text behind rest node count a b = record {
  words = a.word ∷ b.word ∷ [];
  line = number_more (s.nodes - 1) node (b.word ∷ []) text behind rest a (last_number max_batch count behind rest b);
  reads = rw (a.reads, b.reads) refl;
}

pub parse_range_fast : (s : Settings) (op : ℕ → ℕ → ℕ → Op) (text t1 t2 t3 rest : Text) (node page first count : ℕ)
    → FastNumber 32 (s.nodes - 1) text node t1 → FastNumber 32 18446744073709551615 t1 page t2 → FastNumber 32 65535 t2 first t3 → FastNumber 10 65535 t3 count rest
    → FastOperands (range_command op s) text (record { node = node; op = op page first count }) rest
unfolding range_command
parse_range_fast s op text t1 t2 t3 rest node page first count a b d f = record {
  words = a.word ∷ b.word ∷ d.word ∷ f.word ∷ [];
  line = number_more (s.nodes - 1) node (b.word ∷ d.word ∷ f.word ∷ []) text t1 rest a
      (number_more 18446744073709551615 page (d.word ∷ f.word ∷ []) t1 t2 rest b (number_more 65535 first (f.word ∷ []) t2 t3 rest d (last_number 65535 count t3 rest f)));
  reads = rw (a.reads, b.reads, d.reads, f.reads) refl;
}

-- ---- names

-- what holds of each value holds of the one that there is
pub of_some : {A : Type 0} (o : Option A) (P Q : A → Type 0) → ((x : A) → P x → Q x) → IfSome o P → IfSome o Q
of_some x y z f h = grind arith

begins_with_line : (text line rest : Text) → lines_of line ≡ line ∷ [] → text ≡ line ++ 10 ∷ rest → lines_of text ≡ line ∷ lines_of rest
begins_with_line text line rest one e = rw e (whole_front 10 line rest one)

is_shorter : (text line rest : Text) → text ≡ line ++ 10 ∷ rest → length rest < length text
is_shorter text line rest e = rw (e, length-append line (10 ∷ rest)) (omega arith)

-- a command's name and its operands are a line that says the command
pub command_of_name : (s : Settings) (name : Text) (reading : Reading) (text operands rest : Text) (command : Command) → IsName s name reading → text ≡ name ++ 32 ∷ operands → FastOperands (reading s) operands command rest
    → FastCommand s text command rest
unfolding word_more
command_of_name s name reading text operands rest command n e o =
    let line = word_more name o.words text operands rest n.one_word n.one_line e o.line in
    let read : Ok (Call command) ≡ by_words s (words_in_line line.line) = rw (line.words_are, n.reads o.words, o.reads) refl in
    record {
      line = line.line;
      lines = begins_with_line text line.line rest line.one_line line.stands;
      shorter = is_shorter text line.line rest line.stands;
      says = statement_of-read s line.line (Call command) (n.says o.line.line) read;
    }

-- and so they are where operands were read
pub named : {A : Type 0} (s : Settings) (name : Text) (word : CommandWord) (text operands : Text) (read : Option A) (command : A → Command) (rest : A → Text) → IsName s name (reading_of word) → text ≡ name ++ 32 ∷ operands
    → IfSome read (λ r. FastOperands (reading_of word s) operands (command r) (rest r)) → IfSome read (λ r. FastCommand s text (command r) (rest r))
named s name word text operands read command rest n e h = grind (arith, of_some, command_of_name)

module _ (s : Settings) where
  pub alloc_is : IsName s (codes "alloc") (reading_of (OfNode Alloc))
  unfolding section_or_call command_of
  alloc_is = record { one_word = refl; one_line = refl; says = λ line. refl; reads = λ words. refl }

  pub mapwhole_is : IsName s (codes "mapwhole") (reading_of (OfPage (either.Gain gain.MapWhole)))
  unfolding section_or_call command_of
  mapwhole_is = record { one_word = refl; one_line = refl; says = λ line. refl; reads = λ words. refl }

  pub unmapwhole_is : IsName s (codes "unmapwhole") (reading_of (OfPage (either.Loss loss.UnmapWhole)))
  unfolding section_or_call command_of
  unmapwhole_is = record { one_word = refl; one_line = refl; says = λ line. refl; reads = λ words. refl }

  pub map_is : IsName s (codes "map") (reading_of (OfRange range.Map))
  unfolding section_or_call command_of
  map_is = record { one_word = refl; one_line = refl; says = λ line. refl; reads = λ words. refl }

  pub unmap_is : IsName s (codes "unmap") (reading_of (OfRange range.Unmap))
  unfolding section_or_call command_of
  unmap_is = record { one_word = refl; one_line = refl; says = λ line. refl; reads = λ words. refl }

  pub splitpmd_is : IsName s (codes "splitpmd") (reading_of (OfPage (either.Gain gain.SplitPmd)))
  unfolding section_or_call command_of
  splitpmd_is = record { one_word = refl; one_line = refl; says = λ line. refl; reads = λ words. refl }

  pub pin_is : IsName s (codes "pin") (reading_of (OfPage (either.Gain gain.Pin)))
  unfolding section_or_call command_of
  pin_is = record { one_word = refl; one_line = refl; says = λ line. refl; reads = λ words. refl }

  pub unpin_is : IsName s (codes "unpin") (reading_of (OfPage (either.Loss loss.Unpin)))
  unfolding section_or_call command_of
  unpin_is = record { one_word = refl; one_line = refl; says = λ line. refl; reads = λ words. refl }

  pub write_is : IsName s (codes "write") (reading_of (OfRange range.Write))
  unfolding section_or_call command_of
  write_is = record { one_word = refl; one_line = refl; says = λ line. refl; reads = λ words. refl }

  pub zero_is : IsName s (codes "zero") (reading_of (OfRange range.Zero))
  unfolding section_or_call command_of
  zero_is = record { one_word = refl; one_line = refl; says = λ line. refl; reads = λ words. refl }

  pub close_is : IsName s (codes "close") (reading_of (OfNode Close))
  unfolding section_or_call command_of
  close_is = record { one_word = refl; one_line = refl; says = λ line. refl; reads = λ words. refl }

  pub scan_is : IsName s (codes "scan") (reading_of (OfBatch batch.Scan))
  unfolding section_or_call command_of
  scan_is = record { one_word = refl; one_line = refl; says = λ line. refl; reads = λ words. refl }

  pub count_is : IsName s (codes "count") (reading_of (OfNode Count))
  unfolding section_or_call command_of
  count_is = record { one_word = refl; one_line = refl; says = λ line. refl; reads = λ words. refl }

  pub take_is : IsName s (codes "take") (reading_of (OfBatch batch.Take))
  unfolding section_or_call command_of
  take_is = record { one_word = refl; one_line = refl; says = λ line. refl; reads = λ words. refl }

  pub splitnext_is : IsName s (codes "splitnext") (reading_of (OfNode SplitNext))
  unfolding section_or_call command_of
  splitnext_is = record { one_word = refl; one_line = refl; says = λ line. refl; reads = λ words. refl }

  pub putback_is : IsName s (codes "putback") (reading_of (OfNode PutBack))
  unfolding section_or_call command_of
  putback_is = record { one_word = refl; one_line = refl; says = λ line. refl; reads = λ words. refl }
