-- What a parse gives an option that has one value and a default: a value that passed the option's parser.
use Rattle.std.proofs.Common.{◌≡◌, ◌∙◌, ◌<◌, ◌≤◌, zero, suc, ap, subst, ℕ, Bool, true, false, List, [], ◌∷◌, length, map, is_some, Option, Some, None, refl, sym, inl, inr, arith, All, slice_index_or, bytes_eq, find, option_map, Bor}
use Rattle.std.proofs.lemmas.Slice.Eq.{bytes_eq-Decides}
use Rattle.clap.specs.Built.{IsPlain, IsParsedFrom, IsAuto, SameRules}
use Rattle.clap.specs.Facts.{args_of, groups_of, Entry, EntryPasses, HasIn, HasReading, IsParsed, PassesArg, WantsDefault, least_values, parser_of, parser_of_value}
use Rattle.clap.specs.Matches.{found_of, has_subcommand, matched_of}
use Rattle.clap.specs.Values.{Accepts, reading_of}
use Rattle.clap.specs.declared.builder.action.ArgAction.TheVariants.{Set}
use Rattle.clap.specs.declared.builder.arg.Arg.{Arg}
use Rattle.clap.specs.declared.builder.command.Command.{Command}
use Rattle.clap.specs.declared.builder.command.Command.TheViews.{out-Command}
use Rattle.clap.specs.declared.builder.value_parser.ValueParser.{ValueParser}
use Rattle.clap.specs.declared.builder.value_parser.Reading.{Reading}
use Rattle.clap.specs.declared.parser.matches.ArgMatches.{ArgMatches}
use Rattle.clap.specs.declared.parser.matches.MatchedArg.{MatchedArg}
use Rattle.clap.proofs.CallerLemmas.{default_present, entry_by_id, same_rules_by_id}
use Rattle.thp_cli.specs.Prelude.{HasValue}

-- where an entry has the id, one is found
found_by_id : (xs : List Entry) (id : List ℕ) → HasIn xs id → is_some (option_map (λ e. e.1) (find (λ e. bytes_eq e.0.now id) xs)) ≡ true
found_by_id [] id h = absurd (omega (arith, h.1))
found_by_id (x ∷ xs) id h = go (bytes_eq x.0.now id) refl h.0 h.1 h.2 (found_by_id xs id)
  where
    go : (t : Bool) → bytes_eq x.0.now id ≡ t → (i : ℕ) → i < length (x ∷ xs) → ((d : Entry) → bytes_eq (slice_index_or (x ∷ xs) i d).0.now id ≡ true)
        → (HasIn xs id → is_some (option_map (λ e. e.1) (find (λ e. bytes_eq e.0.now id) xs)) ≡ true)
        → is_some (option_map (λ e. e.1) (find (λ e. bytes_eq e.0.now id) (x ∷ xs))) ≡ true
    go true e i lt same later = rw e refl
    go false e zero lt same later =
        let bad : false ≡ true = sym e ∙ same x in
        absurd cc
    go false e (suc i) lt same later = rw e (later (i, omega arith, same))

-- a list with elements has a first
first_of : (vs : List (Bor (List ℕ))) → 0 < length vs → (v : Bor (List ℕ)) × (rest : List (Bor (List ℕ))) × (vs ≡ v ∷ rest)
first_of [] lt = absurd (omega arith)
first_of (v ∷ vs) lt = (v, vs, refl)

-- an argument of the command that has values under a condition of no kind: what `option_value` asks of it
pub record IsValued (old : Command) (k : ℕ) (a : Arg) (q : ValueParser) : Type 0 where
  pub within : k < length (args_of old)
  pub is_arg : slice_index_or (args_of old) k a ≡ a
  pub default : WantsDefault a
  pub set : a.action ≡ Some Set
  pub one_value : a.val_delim ≡ None
  pub least : 1 ≤ least_values a
  pub parser : a.value_parser ≡ Some q
  pub exact_case : a.ignore_case ≡ false
  pub unique : (j : ℕ) (e : Arg) → j < length (args_of old) → bytes_eq (slice_index_or (args_of old) j e).id.now a.id.now ≡ true → j ≡ k
  pub named : a.id.now ≡ [] → ⊥
  pub own : IsAuto a → ⊥

module _ (old : Command) (m : ArgMatches) (p : IsParsedFrom old m) (plain : IsPlain old) (globals : (out-Command old).has_globals ≡ false) (k : ℕ) (a : Arg) (q : ValueParser) (v : IsValued old k a q) where
  -- an argument of the built command with this id has the rules of the caller's
  same_rules : (j : ℕ) (x : Arg) → j < length (args_of p.built) → slice_index_or (args_of p.built) j x ≡ x → bytes_eq x.id.now a.id.now ≡ true → SameRules a x
  same_rules j x high at same =
      subst (λ b. SameRules b x) v.is_arg
      (same_rules_by_id old m p k a v.within
      (λ j e low is. v.unique j e low (rw v.is_arg at is))
      (λ auto. v.own (rw v.is_arg at auto))
      j x high at (rw v.is_arg same))

  parser_of_same : (x : Arg) → SameRules a x → parser_of x ≡ q
  parser_of_same x s = ap parser_of_value (s.parser q v.parser)

  -- a value of the argument's entry passed the caller's parser
  passed_of : (id value : List ℕ) → id ≡ a.id.now → PassesArg p.built id value → Accepts false q value
  passed_of id value is pass = grind (arith, same_rules, parser_of_same)

  reading_of_same : (id : List ℕ) (r : Reading) → id ≡ a.id.now → HasReading p.built id r → r ≡ reading_of q
  reading_of_same id r is has = grind (arith, same_rules, parser_of_same)

  no_groups : groups_of p.built ≡ []
  no_groups = (p.from.plain plain).1

  -- the entry isn't a group's
  no_group : (e : Entry) → e.0.now ≡ a.id.now → EntryPasses p.built e → e.1.is_group ≡ true → ⊥
  no_group e is pass group = grind (arith, no_groups)

  -- the entry has values
  some_value : (e : Entry) → e.0.now ≡ a.id.now → EntryPasses p.built e → 0 < length e.1.vals.items
  some_value e is pass = grind (arith, no_group, same_rules)

  value_of_entry : (x : MatchedArg) → matched_of (found_of m) a.id.now ≡ Some x → (e : Entry) → e.1 ≡ x → e.0.now ≡ a.id.now → EntryPasses p.built e → HasValue (found_of m) a.id.now q
  value_of_entry x found e same is pass =
      let first = first_of x.vals.items (rw same at (some_value e is pass)) in
      let all : All (λ w. PassesArg p.built e.0.now w.now) e.1.vals.items = elim pass.0 [
        | inl group ↦ absurd (no_group e is pass group)
        | inr vals ↦ vals
      ] in
      let of-x : All (λ w. PassesArg p.built e.0.now w.now) (first.0 ∷ first.1) = rw (same, first.2) at all in
      let reading : e.1.reading ≡ reading_of q = elim pass.4 [
        | inl group ↦ absurd (no_group e is pass group)
        | inr has ↦ reading_of_same e.0.now e.1.reading is has
      ] in
      record {
        entry = x;
        is_entry = found;
        value = first.0.now;
        others = map (λ w. w.now) first.1;
        values = ap (map (λ w. w.now)) first.2;
        passed = passed_of e.0.now first.0.now is (of-x 0 first.0 (omega arith));
        read = ap (λ (y : MatchedArg). y.reading) (sym same) ∙ reading;
      }

  -- the matches have a value for the argument, which passed its parser
  pub valued : HasValue (found_of m) a.id.now q
  valued =
      let parsed = p.parsed (p.from.globals ∙ globals) in
      let has = default_present old m p globals k a v.within (rw v.is_arg v.default) in
      go (matched_of (found_of m) a.id.now) refl (found_by_id (found_of m).entries.items a.id.now (rw v.is_arg at has)) parsed
    where
      go : (o : Option MatchedArg) → matched_of (found_of m) a.id.now ≡ o → is_some (matched_of (found_of m) a.id.now) ≡ true → IsParsed p.built (found_of m) (has_subcommand m) → HasValue (found_of m) a.id.now q
      go None e some parsed =
          let bad : false ≡ true = rw e at some in
          absurd cc
      go (Some x) e some parsed =
          let got = entry_by_id (EntryPasses p.built) (found_of m).entries.items a.id.now x parsed.values e in
          value_of_entry x e got.0 got.1 ((bytes_eq-Decides got.0.0.now a.id.now).0 got.2) got.3
