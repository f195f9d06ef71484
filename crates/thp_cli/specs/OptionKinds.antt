-- Options of a command line, as `clap` reads them.
use Rattle.std.specs.Prelude.{◌≡◌, ◌<◌, ◌^◌, ℕ, Bool, true, false, List, [], Option, None, Some, codes}
use Rattle.std.specs.Str.Parse.{IsNumeral, digits_value, without_leading_plus}
use Rattle.clap.specs.Words.{App, IsPlainArg, Rule, new_app, new_rule, rule_of}
use Rattle.clap.specs.declared.builder.action.ArgAction.TheVariants.{Set, SetTrue}
use Rattle.clap.specs.declared.builder.arg.Arg.{Arg}

-- the command of this name without options of its own; it has a version
abbrev pub bare_app : List ℕ → App
bare_app name =
    let new = new_app name in
    record new { top = record new.top { has_version = true } }

-- an option with these rules, whose default is unconditional, and which excludes nothing
pub record IsOption (arg : Arg) (rule : Rule) : Type 0 where
  pub rules : rule_of arg ≡ rule
  pub plain : IsPlainArg arg
  pub local : arg.global ≡ false
  pub default_always : arg.default_vals_ifs.items ≡ []
  pub one_value : arg.val_delim ≡ None

-- `--NAME`: a flag
abbrev pub flag_rule : List ℕ → Rule
flag_rule name = record (new_rule name) { long = Some name; action = Some SetTrue }

-- `--NAME VALUE`
abbrev pub valued_rule : List ℕ → Rule
valued_rule name = record (new_rule name) { long = Some name; action = Some Set; value_names = 1 }

-- a flag as `clap` represents it: not given, `true` or `false`
pub record ReportsFlag (text : Option (List ℕ)) (flag : Bool) : Type 0 where
  pub absent : text ≡ None → flag ≡ false
  pub set : text ≡ Some (codes "true") → flag ≡ true
  pub unset : text ≡ Some (codes "false") → flag ≡ false

-- a text exists and represents this number
abbrev pub WritesNumber : Option (List ℕ) → ℕ → Type 0
WritesNumber o n = (text : List ℕ) × (o ≡ Some text) × IsNumeral 10 (without_leading_plus text) × (digits_value 10 (without_leading_plus text) ≡ n)

-- a number that may be given, as `clap` represents it: the one that the text represents
pub record ReportsNumber (text : Option (List ℕ)) (number : Option ℕ) : Type 0 where
  pub absent : text ≡ None → number ≡ None
  pub given : (n : ℕ) → n < 2 ^ 32 → WritesNumber text n → number ≡ Some n
