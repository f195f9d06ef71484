-- What the grammar reads: each command is in range, and each line that reads as a statement is printable and has no empty
-- word.
use Rattle.std.proofs.Common.{◌≡◌, ◌<◌, ◌≤◌, ℕ, Bool, true, false, cond, List, [], ◌∷◌, Option, Result, Ok, Err, arith, subst, refl, sym, inl, inr, codes, All}
use Rattle.std.specs.List.{AllByRecursion, list_all, list_any}
use Rattle.std.proofs.lemmas.List.Elements.{All-cons}
use Rattle.thp_history.specs.Prelude.{max_batch}
use Rattle.thp_script.specs.Prelude.{TextKind, BadByte, BadWord, Command, Op, Settings, Statement, Section, batch_command, command_in, command_of, commands, node_command, node_number, page_command, range_command, FitsBatch, IsCommandFor, Reading, is_empty, is_printable, by_words, call_statement, says_nothing, section_of, section_or_call, statement_in, statement_of, worker_number, worker_of, worker_or_call, IsInRange, IsSectionFor, Text, words_in_line}
use Rattle.thp_script.specs.declared.script.Op.TheVariants.{Alloc, MapWhole, UnmapWhole, Map, Unmap, Write, Zero, SplitPmd, Pin, Unpin, Close, Scan, Count, Take, SplitNext, PutBack}
use Rattle.thp_script.specs.Statements.{setup_of}
use Rattle.thp_script.proofs.LineLaws.{IsPlain, bind_ok, none_empty, number_read, ok_value, one_plain, pieces_printable, plain_word, read, word_cases}

-- ---- commands

-- what is known of a command that was read
pub record IsReadCommand (s : Settings) (name : Text) (words : List Text) (command : Command) : Type 0 where
  pub name_plain : IsPlain name
  pub words_plain : All IsPlain words
  pub in_range : IsCommandFor s.nodes command

abbrev made_command : ℕ → Op → Command
made_command node op = record { node = node; op = op }

module _ (s : Settings) where
  node_exists : (node : ℕ) (word : Text) → node_number s word ≡ Ok node → IsPlain word × (node < s.nodes)
  node_exists node word e = grind (arith, read, number_read)

  command_in_range : (node : ℕ) (op : Op) (command : Command) → node < s.nodes → FitsBatch op → read (made_command node op) ≡ read command → IsCommandFor s.nodes command
  command_in_range node op command lt fits e = grind (arith, ok_value, node_exists)

  node_read : (op : Op) (name : Text) (words : List Text) (command : Command) → IsPlain name → FitsBatch op → node_command op s words ≡ Ok command → IsReadCommand s name words command
  unfolding node_command
  node_read op name x command plain fits e = grind (arith, bind_ok, node_exists, one_plain, command_in_range)

  batch_read : (op : ℕ → Op) (name : Text) (words : List Text) (command : Command) → IsPlain name → ((n : ℕ) → n ≤ max_batch → FitsBatch (op n)) → batch_command op s words ≡ Ok command → IsReadCommand s name words command
  unfolding batch_command
  batch_read op name x command plain fits e = grind (arith, bind_ok, node_exists, number_read, All-cons, IsPlain, one_plain, command_in_range)

  page_read : (op : ℕ → Op) (name : Text) (words : List Text) (command : Command) → IsPlain name → ((page : ℕ) → FitsBatch (op page)) → page_command op s words ≡ Ok command → IsReadCommand s name words command
  unfolding page_command
  page_read op name x command plain fits e = grind (arith, bind_ok, node_exists, number_read, All-cons, IsPlain, one_plain, command_in_range)

  range_read : (op : ℕ → ℕ → ℕ → Op) (name : Text) (words : List Text) (command : Command) → IsPlain name → ((page first count : ℕ) → FitsBatch (op page first count)) → range_command op s words ≡ Ok command → IsReadCommand s name words command
  unfolding range_command
  range_read op name x command plain fits e = grind (arith, bind_ok, node_exists, number_read, All-cons, IsPlain, one_plain, command_in_range)

section_is : (n k : ℕ) → section_of n ≡ Ok k → n ≡ k
section_is x k e = grind (arith, ok_value)

first_section : (s : Settings) → IsSectionFor s 0
first_section s = omega arith

-- an entry of the table: its word is plain, and what it reads is in range
record IsEntry (s : Settings) (entry : Text × Reading) : Type 0 where
  pub plain : IsPlain entry.0
  pub reads : (words : List Text) (command : Command) → entry.1 s words ≡ Ok command → IsReadCommand s entry.0 words command

module _ (s : Settings) (word : Text) (plain : IsPlain word) where
  of_node : (op : Op) → FitsBatch op → IsEntry s (word, node_command op)
  of_node op fits = record { plain = plain; reads = λ words command e. node_read s op word words command plain fits e }

  of_page : (op : ℕ → Op) → ((page : ℕ) → FitsBatch (op page)) → IsEntry s (word, page_command op)
  of_page op fits = record { plain = plain; reads = λ words command e. page_read s op word words command plain fits e }

  of_range : (op : ℕ → ℕ → ℕ → Op) → ((page first count : ℕ) → FitsBatch (op page first count)) → IsEntry s (word, range_command op)
  of_range op fits = record { plain = plain; reads = λ words command e. range_read s op word words command plain fits e }

  of_batch : (op : ℕ → Op) → ((n : ℕ) → n ≤ max_batch → FitsBatch (op n)) → IsEntry s (word, batch_command op)
  of_batch op fits = record { plain = plain; reads = λ words command e. batch_read s op word words command plain fits e }

entries : (s : Settings) → AllByRecursion (IsEntry s) commands
entries s = (
  of_node s (codes "alloc") (record { printable = refl; some = refl }) Alloc tt,
  (
    of_page s (codes "mapwhole") (record { printable = refl; some = refl }) (λ page. MapWhole page) (λ page. tt),
    (
      of_page s (codes "unmapwhole") (record { printable = refl; some = refl }) (λ page. UnmapWhole page) (λ page. tt),
      (
        of_range s (codes "map") (record { printable = refl; some = refl }) (λ page first count. Map first count page) (λ page first count. tt),
        (
          of_range s (codes "unmap") (record { printable = refl; some = refl }) (λ page first count. Unmap first count page) (λ page first count. tt),
          (
            of_page s (codes "splitpmd") (record { printable = refl; some = refl }) (λ page. SplitPmd page) (λ page. tt),
            (
              of_page s (codes "pin") (record { printable = refl; some = refl }) (λ page. Pin page) (λ page. tt),
              (
                of_page s (codes "unpin") (record { printable = refl; some = refl }) (λ page. Unpin page) (λ page. tt),
                (
                  of_range s (codes "write") (record { printable = refl; some = refl }) (λ page first count. Write first count page) (λ page first count. tt),
                  (
                    of_range s (codes "zero") (record { printable = refl; some = refl }) (λ page first count. Zero first count page) (λ page first count. tt),
                    (
                      of_node s (codes "close") (record { printable = refl; some = refl }) Close tt,
                      (
                        of_batch s (codes "scan") (record { printable = refl; some = refl }) (λ count. Scan count) (λ n le. le),
                        (
                          of_node s (codes "count") (record { printable = refl; some = refl }) Count tt,
                          (
                            of_batch s (codes "take") (record { printable = refl; some = refl }) (λ count. Take count) (λ n le. le),
                            (
                              of_node s (codes "splitnext") (record { printable = refl; some = refl }) SplitNext tt,
                              (
                                of_node s (codes "putback") (record { printable = refl; some = refl }) PutBack tt,
                                tt,
                              ),
                            ),
                          ),
                        ),
                      ),
                    ),
                  ),
                ),
              ),
            ),
          ),
        ),
      ),
    ),
  ),
)

in_table : (s : Settings) (table : List (Text × Reading)) (name : Text) (words : List Text) (command : Command) → AllByRecursion (IsEntry s) table → command_in table s name words ≡ Ok command → IsReadCommand s name words command
in_table s [] name words command all e = absurd cc
in_table s (entry ∷ others) name words command all e =
    elim (word_cases name entry.0 _ _ command e) [
      | inl h ↦ subst (λ n. IsReadCommand s n words command) (sym h.0) (all.0.reads words command h.1)
      | inr rest ↦ in_table s others name words command all.1 rest
    ]

-- a command that is read has plain words, and is for a node that there is
pub command_read : (s : Settings) (name : Text) (words : List Text) (command : Command) → command_of s name words ≡ Ok command → IsReadCommand s name words command
unfolding command_of
command_read s name words command e = in_table s commands name words command (entries s) e

-- ---- lines

-- what is known of a line's words and of what they say
pub record IsReadLine (s : Settings) (words : List Text) (statement : Statement) : Type 0 where
  pub words_plain : All IsPlain words
  pub in_range : IsInRange s statement

setup_read : (s : Settings) (name : Text) (words : List Text) (statement : Statement) → IsPlain name → setup_of words ≡ Ok statement → IsReadLine s (name ∷ words) statement
setup_read s name x statement plain e = grind (arith, ok_value, one_plain, first_section)

worker_in_range : (s : Settings) (word : Text) (k : ℕ) → worker_number s word ≡ Ok k → IsPlain word × (k ≤ s.workers)
worker_in_range s word k e = grind (arith, bind_ok, read, number_read, section_is)

worker_read : (s : Settings) (name : Text) (words : List Text) (statement : Statement) → IsPlain name → worker_of s words ≡ Ok statement → IsReadLine s (name ∷ words) statement
unfolding worker_of
worker_read s name [] statement plain e = absurd cc
worker_read s name (a ∷ []) statement plain e =
    let number = bind_ok (worker_number s a) _ statement e in
    let read = worker_in_range s a number.0 number.1 in
    let is : Section number.0 ≡ statement = ok_value (Section number.0) statement number.2 in
    record { words_plain = All-cons IsPlain name (a ∷ []) plain (one_plain a read.0); in_range = subst (λ t. IsInRange s t) is read.1 }
worker_read s name (a ∷ b ∷ words) statement plain e = absurd cc

call_read : (s : Settings) (name : Text) (words : List Text) (statement : Statement) → call_statement s name words ≡ Ok statement → IsReadLine s (name ∷ words) statement
call_read s name words statement e = grind (arith, bind_ok, read, command_read, ok_value, All-cons, IsPlain)

later_read : (s : Settings) (name : Text) (words : List Text) (statement : Statement) → worker_or_call s name words ≡ Ok statement → IsReadLine s (name ∷ words) statement
later_read s name words statement e =
    elim (word_cases name (codes "worker") _ _ statement e) [
      | inl h ↦ worker_read s name words statement (plain_word name (codes "worker") h.0 (record { printable = refl; some = refl })) h.1
      | inr e1 ↦ call_read s name words statement e1
    ]

-- a line that reads as a statement has plain words
pub line_read : (s : Settings) (words : List Text) (statement : Statement) → by_words s words ≡ Ok statement → IsReadLine s words statement
unfolding section_or_call
line_read s [] statement e = absurd cc
line_read s (name ∷ words) statement e =
    elim (word_cases name (codes "setup") _ _ statement e) [
      | inl h ↦ setup_read s name words statement (plain_word name (codes "setup") h.0 (record { printable = refl; some = refl })) h.1
      | inr e1 ↦ later_read s name words statement e1
    ]

-- a line that reads as a statement is printable and has no empty word
pub read_is_printable : (s : Settings) (line : Text) (statement : Statement) → by_words s (words_in_line line) ≡ Ok statement → list_all is_printable line ≡ true
read_is_printable s line statement e = pieces_printable line (line_read s (words_in_line line) statement e).words_plain

pub read_has_no_empty : (s : Settings) (line : Text) (statement : Statement) → by_words s (words_in_line line) ≡ Ok statement → list_any is_empty (words_in_line line) ≡ false
read_has_no_empty s line statement e = none_empty (words_in_line line) (line_read s (words_in_line line) statement e).words_plain

-- a line that says something and reads as a statement says that
pub statement_of-read : (s : Settings) (line : Text) (statement : Statement) → says_nothing line ≡ false → Ok statement ≡ by_words s (words_in_line line) → Ok statement ≡ statement_of s line
unfolding statement_of
statement_of-read s line statement says e = grind (arith, read_is_printable, read_has_no_empty)

-- and one that doesn't has the first fault that applies
pub statement_of-fails : (s : Settings) (line : Text) (reading : TextKind) → says_nothing line ≡ false → Err reading ≡ by_words s (words_in_line line)
    → Err (cond (list_all is_printable line) (cond (list_any is_empty (words_in_line line)) BadWord reading) BadByte) ≡ statement_of s line
unfolding statement_of
statement_of-fails s line reading says e = grind arith

-- ---- a line in its place

cond_err : {A : Type 0} (b : Bool) (kind : TextKind) (others : Result A TextKind) (x : A) → cond b (Err kind) others ≡ Ok x → others ≡ Ok x
cond_err y kind others x e = grind arith

statement_in_range_of : (s : Settings) (line : Text) (statement : Statement) → statement_of s line ≡ Ok statement → IsInRange s statement
unfolding statement_of
statement_in_range_of s line statement e = grind (arith, cond_err, ok_value, line_read)

-- what a line says in its place is in range
pub statement_in_range : (s : Settings) (section : Option ℕ) (line : Text) (statement : Statement) → statement_in s section line ≡ Ok statement → IsInRange s statement
unfolding statement_in
statement_in_range s section line statement e = grind (arith, read, bind_ok, statement_in_range_of, ok_value)
