-- What `clap` makes of the words of a command line.
use Rattle.std.proofs.Common.{◌≡◌, ◌∙◌, ◌<◌, ◌^◌, ap, refl, subst, sym, true, false, ℕ, List, Option, None, Some, Ok, Err, codes, inl, Result, Bool, IsErrAnd}
use Rattle.std.specs.Str.Parse.{IsNumeral, ParsesUnsigned, digits_value, without_leading_plus}
use Rattle.clap.specs.Simple.{app_of_fields}
use Rattle.clap.specs.Words.{App, AddsArg, FailsBy, ReadsOne, Row, Rule, HasKind, HasMatchesOf, app_of, fault_of, found_of, is_simple, is_simple_and_free, kind_of, matches_of, new_app, one_of, one_text, rows_of, with_rule}
use Rattle.clap.specs.declared.builder.arg.Arg.{Arg}
use Rattle.clap.specs.declared.builder.command.Command.{Command}
use Rattle.clap.specs.declared.builder.command.Command.TheViews.{out-Command}
use Rattle.clap.specs.declared.error.Error.{Error}
use Rattle.clap.specs.declared.error.kind.ErrorKind.TheVariants.{OutOfMemory}
use Rattle.clap.specs.declared.parser.matches.ArgMatches.{ArgMatches}
use Rattle.clap.specs.declared.parser.matches.Found.{Found}
use Rattle.clap.proofs.OnLiterals.{clap_on_literals}
use Rattle.clap.proofs.WalkLemmas.{one_text-rows}
use Rattle.thp_cli.specs.Prelude.{bare_app, IsOption, ReportsFlag, ReportsNumber}
use Rattle.thp_journal_tools.specs.CommandLine.{thpcheck}
use Rattle.thp_journal_tools.specs.DrawCommandLine.{thpdraw}
use Rattle.thp_journal_tools.specs.Words.{ReadsWords}

-- ---- the command

-- a new command that was given a version and what its help says
pub started : (name : List ℕ) (new start : Command) (version : _) (about after_help : _) → out-Command start ≡ record (out-Command new) { about = about; version = Some version; after_help = after_help } → app_of new ≡ new_app name → app_of start ≡ bare_app name
started name new start version about after_help is app = ap app_of_fields is ∙ ap (λ (a : App). record a { top = record a.top { has_version = true } }) app

-- an option is added
pub added : (old new : Command) (app : App) (option : Arg) (rule : Rule) → app_of old ≡ app → IsOption option rule → AddsArg old option new → app_of new ≡ with_rule app rule
added old new app option rule was o adds = adds.shape o.local ∙ ap (with_rule (app_of old)) o.rules ∙ ap (λ (a : App). with_rule a rule) was

pub check_simple : is_simple thpcheck ≡ true
unfolding clap_on_literals
check_simple = refl

pub check_free : is_simple_and_free thpcheck ≡ true
unfolding clap_on_literals
check_free = refl

pub draw_simple : is_simple thpdraw ≡ true
unfolding clap_on_literals
draw_simple = refl

pub draw_free : is_simple_and_free thpdraw ≡ true
unfolding clap_on_literals
draw_free = refl

-- ---- its options

pub flag_reported : (found : Found) (id : List ℕ) (flag : Bool) → (one_text found id ≡ None → flag ≡ false) → (one_text found id ≡ Some (codes "true") → flag ≡ true) → (one_text found id ≡ Some (codes "false") → flag ≡ false)
    → ReportsFlag (one_of id (rows_of found)) flag
flag_reported found id flag absent set unset = subst (λ o. ReportsFlag o flag) (one_text-rows found id) (record { absent = absent; set = set; unset = unset })

-- a number that a text represents is read as that
number_of_text : (E : Type 0) (G : List ℕ → Result ℕ E → Type 0) (text : List ℕ) (number : Option ℕ) → ReadsOne G text number → ((u : List ℕ) (x : Result ℕ E) → G u x → ParsesUnsigned 32 10 u x)
    → (n : ℕ) → n < 2 ^ 32 → IsNumeral 10 (without_leading_plus text) → digits_value 10 (without_leading_plus text) ≡ n → number ≡ Some n
number_of_text E G text (Some v) reads only n small numeral value = ap (λ (k : ℕ). Some k) ((only text (Ok v) reads).1 ∙ value)
number_of_text E G text None reads only n small numeral value = absurd (only text (Err reads.0) reads.1 (numeral, rw value small))

pub number_reported : (E : Type 0) (G : List ℕ → Result ℕ E → Type 0) (found : Found) (id : List ℕ) (number : Option ℕ) → (one_text found id ≡ None → number ≡ None) → ((text : List ℕ) → one_text found id ≡ Some text → ReadsOne G text number)
    → ((u : List ℕ) (x : Result ℕ E) → G u x → ParsesUnsigned 32 10 u x) → ReportsNumber (one_of id (rows_of found)) number
number_reported E G found id number absent reads only =
    subst (λ o. ReportsNumber o number) (one_text-rows found id)
    (record { absent = absent; given = λ n small writes. number_of_text E G writes.0 number (reads writes.0 writes.1) only n small writes.2 writes.3 })

-- ---- what is answered to its words

module _ {O : Type 0} (own : App) (simple : is_simple own ≡ true) (free : is_simple_and_free own ≡ true) (HoldsOptions : List Row → O → Type 0) (words : List (List ℕ)) where
  -- want of memory is an answer to any words
  pub memory_fails : (r : Result O Error) → IsErrAnd r (λ e. kind_of e ≡ OutOfMemory) → ReadsWords own HoldsOptions words r
  memory_fails (Ok options) h = absurd h
  memory_fails (Err e) h = record { fails = inl h; holds = tt }

  module _ (command : Command) (is : app_of command ≡ own) (parse : Result ArgMatches Error) (kinds : is_simple_and_free (app_of command) ≡ true → FailsBy (fault_of (app_of command) words) parse) where
    fails : FailsBy (fault_of own words) parse
    fails =
        let P : App → Type 0 = λ app. is_simple_and_free app ≡ true → FailsBy (fault_of app words) parse in
        subst P is kinds free

    pub parse_fails : (e : Error) (r : Result O Error) → parse ≡ Err e → IsErrAnd r (λ d. d ≡ e) → ReadsWords own HoldsOptions words r
    parse_fails e (Ok options) was h = absurd h
    parse_fails e (Err d) was h = record { fails = subst (λ x. HasKind (fault_of own words) x) (sym h) (subst (λ p. FailsBy (fault_of own words) p) was fails); holds = tt }

    pub parse_done : (matches : ArgMatches) (options : O) → parse ≡ Ok matches → HasMatchesOf (app_of command) words matches → HoldsOptions (rows_of (found_of matches)) options → ReadsWords own HoldsOptions words (Ok options)
    parse_done matches options was has held =
        let rows : rows_of (found_of matches) ≡ matches_of own words = (subst (λ a. HasMatchesOf a words matches) is has simple).0 in
        record {
          fails = subst (λ p. FailsBy (fault_of own words) p) was fails;
          holds = subst (λ (rows : List Row). HoldsOptions rows options) rows held;
        }
