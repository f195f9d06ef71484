-- Options that are added to a command one after another.
use Rattle.std.proofs.Common.{◌≡◌, ◌⊎◌, ◌∙◌, ◌+◌, ◌++◌, ◌||◌, ◌<◌, ◌≤◌, zero, suc, ap, subst, ℕ, Bool, true, false, cond, List, [], ◌∷◌, length, map, Some, None, codes, refl, sym, arith, ltb-true, count_by, nat_lt, slice_index_or, bytes_eq}
use Rattle.std.proofs.lemmas.List.{append-nil, append_assoc, get_or_default, length-map}
use Rattle.std.proofs.lemmas.List.Sums.{sum_by-cons}
use Rattle.std.proofs.lemmas.Bool.{or_left, or_right}
use Rattle.std.proofs.lemmas.Slice.Eq.{bytes_eq-Decides}
use Rattle.clap.specs.Built.{AddsInTurn, IsPlain, IsParsedFrom, AddsArg, SameRules}
use Rattle.clap.specs.Facts.{args_of, least_values}
use Rattle.clap.specs.Matches.{found_of}
use Rattle.clap.specs.Simple.{app_of, with_rule}
use Rattle.clap.specs.Texts.{items_of}
use Rattle.clap.specs.Walk.{Rule, rule_of}
use Rattle.clap.specs.declared.builder.action.ArgAction.TheVariants.{Set}
use Rattle.clap.specs.declared.builder.arg.Arg.{Arg}
use Rattle.clap.specs.declared.builder.command.Command.{Command}
use Rattle.clap.specs.declared.builder.command.Command.TheViews.{out-Command}
use Rattle.clap.specs.declared.builder.value_parser.ValueParser.{ValueParser}
use Rattle.clap.specs.declared.parser.matches.ArgMatches.{ArgMatches}
use Rattle.clap.proofs.CallerLemmas.{added_plain}
use Rattle.thp_cli.specs.Prelude.{with_rules, IsOption, HasValue}
use Rattle.thp_cli.proofs.OptionLaws.{valued}

-- the arguments are options of these rules, one by one
abbrev pub AreOptions : List Arg → List Rule → Type 0
AreOptions [] [] = Unit {0}
AreOptions [] (r ∷ rules) = ⊥
AreOptions (x ∷ xs) [] = ⊥
AreOptions (x ∷ xs) (r ∷ rules) = IsOption x r × AreOptions xs rules

-- a command's argument, the caller's of which it keeps the rules, and these
pub record Place (ys : List Arg) (rules : List Rule) (k : ℕ) : Type 0 where
  pub kept : Arg
  pub given : Arg
  pub rule : Rule
  pub kept_at : slice_index_or ys k kept ≡ kept
  pub rule_at : slice_index_or rules k rule ≡ rule
  pub option : IsOption given rule
  pub same : SameRules given kept

-- what a chain of options makes of a command
pub record IsChained (c d : Command) (rules : List Rule) : Type 0 where
  pub added : List Arg
  pub args : args_of d ≡ args_of c ++ added
  pub count : length added ≡ length rules
  pub places : (k : ℕ) → k < length rules → Place added rules k
  pub plain : IsPlain d
  pub globals : (out-Command d).has_globals ≡ false

later : (y : Arg) (ys : List Arg) (r : Rule) (rules : List Rule) (x : Arg) → IsOption x r → SameRules x y → ((k : ℕ) → k < length rules → Place ys rules k) → (k : ℕ) → k < length (r ∷ rules) → Place (y ∷ ys) (r ∷ rules) k
later y ys r rules x option same rest zero lt = record { kept = y; given = x; rule = r; kept_at = refl; rule_at = refl; option = option; same = same }
later y ys r rules x option same rest (suc k) lt =
    let p = rest k (omega arith) in
    record { kept = p.kept; given = p.given; rule = p.rule; kept_at = p.kept_at; rule_at = p.rule_at; option = p.option; same = p.same }

pub chained : (c d : Command) (xs : List Arg) (rules : List Rule) → AddsInTurn AddsArg c xs d → AreOptions xs rules → IsPlain c → (out-Command c).has_globals ≡ false → IsChained c d rules
chained c d [] [] h options plain globals = record {
  added = [];
  args = rw h (sym (append-nil (args_of d)));
  count = refl;
  places = λ k lt. absurd (omega arith);
  plain = rw (← h) plain;
  globals = rw (← h) globals;
}
chained c d [] (r ∷ rules) h options plain globals = absurd options
chained c d (x ∷ xs) [] h options plain globals = absurd options
chained c d (x ∷ xs) (r ∷ rules) h options plain globals =
    let added = h.1 in
    let option = options.0 in
    let globals-next : (out-Command h.0).has_globals ≡ false = added.globals ∙ (ap (λ b. b || x.global) globals ∙ ap (λ b. false || b) option.local) in
    let rest = chained h.0 d xs rules h.2 options.1 (added_plain c h.0 x added plain option.plain) globals-next in
    record {
      added = added.arg ∷ rest.added;
      args = rest.args ∙ (ap (λ l. l ++ rest.added) added.args ∙ append_assoc (args_of c) (added.arg ∷ []) rest.added);
      count = ap suc rest.count;
      places = later added.arg rest.added r rules x option added.rules rest.places;
      plain = rest.plain;
      globals = rest.globals;
    }

pub chained_app : (c d : Command) (xs : List Arg) (rules : List Rule) → AddsInTurn AddsArg c xs d → AreOptions xs rules → app_of d ≡ with_rules (app_of c) rules
chained_app c d [] [] h options = ap app_of (sym h)
chained_app c d [] (r ∷ rules) h options = absurd options
chained_app c d (x ∷ xs) [] h options = absurd options
chained_app c d (x ∷ xs) (r ∷ rules) h options =
    chained_app h.0 d xs rules h.2 options.1 ∙ ap (λ a. with_rules a rules) (h.1.shape options.0.local ∙ ap (with_rule (app_of c)) options.0.rules)

-- ---- one rule of several

count-cons : {X : Type 0} (t : X → Bool) (x : X) (xs : List X) → count_by t (x ∷ xs) ≡ cond (t x) 1 0 + count_by t xs
count-cons t x xs = sum_by-cons (λ y. cond (t y) 1 0) x xs

none_passes : {X : Type 0} (t : X → Bool) (xs : List X) (j : ℕ) (d : X) → count_by t xs ≡ 0 → j < length xs → t (slice_index_or xs j d) ≡ true → ⊥
none_passes t [] j d none lt hit = absurd (omega arith)
none_passes t (x ∷ xs) zero d none lt hit =
    let one : cond {A = ℕ} (t x) 1 0 ≡ 1 = rw hit refl in
    absurd (omega (arith, count-cons t x xs))
none_passes t (x ∷ xs) (suc j) d none lt hit = none_passes t xs j d (omega (arith, count-cons t x xs)) (omega arith) hit

-- where one element passes a test, it stands in one place
only_place : {X : Type 0} (t : X → Bool) (xs : List X) (j k : ℕ) (d e : X) → count_by t xs ≡ 1 → j < length xs → k < length xs → t (slice_index_or xs j d) ≡ true → t (slice_index_or xs k e) ≡ true → j ≡ k
only_place t [] j k d e one lt lt' hit hit' = absurd (omega arith)
only_place t (x ∷ xs) zero zero d e one lt lt' hit hit' = refl
only_place t (x ∷ xs) zero (suc k) d e one lt lt' hit hit' =
    let here : cond {A = ℕ} (t x) 1 0 ≡ 1 = rw hit refl in
    absurd (none_passes t xs k e (omega (arith, count-cons t x xs)) (omega arith) hit')
only_place t (x ∷ xs) (suc j) zero d e one lt lt' hit hit' =
    let here : cond {A = ℕ} (t x) 1 0 ≡ 1 = rw hit' refl in
    absurd (none_passes t xs j d (omega (arith, count-cons t x xs)) (omega arith) hit)
only_place {X} t (x ∷ xs) (suc j) (suc k) d e one lt lt' hit hit' =
    ap suc (go (t x) refl (λ rest. only_place t xs j k d e rest (omega arith) (omega arith) hit hit') (none_passes t xs j d))
  where
    go : (b : Bool) → t x ≡ b → (count_by t xs ≡ 1 → j ≡ k) → (count_by t xs ≡ 0 → j < length xs → t (slice_index_or xs j d) ≡ true → ⊥) → j ≡ k
    go true is rest none =
        let here : cond {A = ℕ} (t x) 1 0 ≡ 1 = rw is refl in
        absurd (none (omega (arith, count-cons t x xs)) (omega arith) hit)
    go false is rest none =
        let here : cond {A = ℕ} (t x) 1 0 ≡ 0 = rw is refl in
        rest (omega (arith, count-cons t x xs))

-- a rule with a default of its own, by tests that compute: the k-th of the rules, with one value that this parser reads
pub record IsDefaultRule (rules : List Rule) (k : ℕ) (rule : Rule) (parser : ValueParser) : Type 0 where
  pub within : k < length rules
  pub here : (d : Rule) → slice_index_or rules k d ≡ rule
  pub once : count_by (λ r. bytes_eq r.id rule.id) rules ≡ 1
  pub set : rule.action ≡ Some Set
  pub range : rule.range ≡ None
  pub default : nat_lt 0 (length rule.defaults) ≡ true
  pub reads : rule.parser ≡ Some parser
  pub exact_case : rule.ignore_case ≡ false
  pub named : nat_lt 0 (length rule.id) ≡ true
  pub own : (bytes_eq rule.id (codes "help") || bytes_eq rule.id (codes "version")) ≡ false

is_text : (a b : List ℕ) → a ≡ b → bytes_eq a b ≡ true
is_text a b same = (bytes_eq-Decides a b).1 same

-- arguments of the command with one id have one place
one_place : (added : List Arg) (rules : List Rule) (k : ℕ) (rule : Rule) (q : ValueParser) (id : List ℕ) → length added ≡ length rules → ((j : ℕ) → j < length rules → Place added rules j) → IsDefaultRule rules k rule q → id ≡ rule.id
    → (j : ℕ) (e : Arg) → j < length added → bytes_eq (slice_index_or added j e).id.now id ≡ true → j ≡ k
one_place added rules k rule q id count places r is j e lt same =
    let below : j < length rules = omega arith in
    let place = places j below in
    let kept-is : slice_index_or added j e ≡ place.kept = get_or_default added j e place.kept lt ∙ place.kept_at in
    let rule-is : rule_of place.given ≡ slice_index_or rules j rule = place.option.rules ∙ sym place.rule_at ∙ get_or_default rules j place.rule rule below in
    let id-is : (slice_index_or added j e).id.now ≡ (slice_index_or rules j rule).id = ap (λ x. x.id.now) kept-is ∙ ap (λ x. x.now) place.same.id ∙ ap (λ x. x.id) rule-is in
    let hit : bytes_eq (slice_index_or rules j rule).id rule.id ≡ true = rw (← id-is, ← is) same in
    let here : bytes_eq (slice_index_or rules k rule).id rule.id ≡ true = is_text _ _ (ap (λ x. x.id) (r.here rule)) in
    only_place (λ x. bytes_eq x.id rule.id) rules j k rule rule r.once below r.within hit here

not_auto : (id : List ℕ) → (bytes_eq id (codes "help") || bytes_eq id (codes "version")) ≡ false → (id ≡ codes "help") ⊎ (id ≡ codes "version") → ⊥
not_auto id own x = grind (arith, or_left, bytes_eq, is_text, or_right)

not_empty : (id : List ℕ) → nat_lt 0 (length id) ≡ true → id ≡ [] → ⊥
not_empty x named empty = grind arith

-- the option of such a rule has a value in every parse of the command
pub option_value : (start cmd : Command) (rules : List Rule) (k : ℕ) (rule : Rule) (q : ValueParser) (m : ArgMatches) → IsChained start cmd rules → args_of start ≡ [] → IsDefaultRule rules k rule q → IsParsedFrom cmd m
    → HasValue (found_of m) rule.id q
option_value start cmd rules k rule q m chain none r p =
    let place = chain.places k r.within in
    let a = place.kept in
    let list : args_of cmd ≡ chain.added = chain.args ∙ ap (λ l. l ++ chain.added) none in
    let is-rule : rule_of place.given ≡ rule = place.option.rules ∙ sym place.rule_at ∙ r.here place.rule in
    let given-id : place.given.id.now ≡ rule.id = ap (λ x. x.id) is-rule in
    let kept-id : a.id.now ≡ rule.id = ap (λ x. x.now) place.same.id ∙ given-id in
    let defaults : map (λ s. s.now) (items_of place.given.default_vals) ≡ rule.defaults = ap (λ x. x.defaults) is-rule in
    let some : 0 < length rule.defaults = ltb-true _ _ r.default in
    let given-default : 0 < length (items_of place.given.default_vals) = rw (← length-map (items_of place.given.default_vals) (λ s. s.now), defaults) some in
    let given-set : place.given.action ≡ Some Set = ap (λ x. x.action) is-rule ∙ r.set in
    let given-range : place.given.num_vals ≡ None = ap (λ x. x.range) is-rule ∙ r.range in
    let given-least : 1 ≤ least_values place.given = rw given-range (omega arith) in
    let value = valued cmd m p chain.plain chain.globals k a q (record {
      within = rw list (omega (arith, chain.count, r.within));
      is_arg = rw list place.kept_at;
      default = (place.same.ifs ∙ place.option.default_always, rw (place.same.defaults given-default) given-default);
      set = place.same.action Set given-set;
      one_value = place.same.val_delim ∙ place.option.one_value;
      least = place.same.least given-set given-least;
      parser = place.same.parser q (ap (λ x. x.parser) is-rule ∙ r.reads);
      exact_case = place.same.ignore_case ∙ ap (λ x. x.ignore_case) is-rule ∙ r.exact_case;
      unique = λ j e lt same. one_place chain.added rules k rule q a.id.now chain.count chain.places r kept-id j e (rw (← list) lt) (rw list at same);
      named = λ empty. not_empty rule.id r.named (sym kept-id ∙ empty);
      own = λ auto. not_auto rule.id r.own (rw (← kept-id) auto);
    }) in
    subst (λ id. HasValue (found_of m) id q) kept-id value
