use Rattle.std.proofs.Common.{◌≡◌, ◌≢◌, ◌∙◌, ◌||◌, Bool, true, false, [], ◌∷◌, List, ℕ, Option, Some, ap, refl, sym, map, option_map, unwrap_or, bytes_eq}
use Rattle.std.specs.List.{list_any}
use Rattle.std.proofs.lemmas.Slice.Eq.{bytes_eq-Decides}
use Rattle.clap.specs.Words.{found_of}
use Rattle.thp_cli.specs.Prelude.{report_name, report_names}
use Rattle.thp_script.specs.declared.settings.Report.{Report}
use Rattle.thp_script.specs.declared.settings.Report.TheVariants.{Totals, Journal, Answers}
use Rattle.thp_cli.proofs.LineLaws.{first_value-value, one_of_names}
use Rattle.thp_cli.proofs.line.report_of.Goals as goal

-- one of the names of reports is a report's
report_with : (reports : List Report) (name : List ℕ) → list_any (λ s. bytes_eq s name) (map report_name reports) ≡ true → (report : Report) × (name ≡ report_name report)
report_with [] name any = absurd cc
report_with (report ∷ reports) name any = go (bytes_eq (report_name report) name) refl any (report_with reports name)
  where
    go : (b : Bool) → bytes_eq (report_name report) name ≡ b → (b || list_any (λ s. bytes_eq s name) (map report_name reports)) ≡ true → (list_any (λ s. bytes_eq s name) (map report_name reports) ≡ true → (r : Report) × (name ≡ report_name r)) → (r : Report) × (name ≡ report_name r)
    go true is e later = (report, sym ((bytes_eq-Decides (report_name report) name).0 is))
    go false is e later = later e

-- the name of a report that is not the first or the second is the third's
third : (report : Report) (name : List ℕ) → name ≡ report_name report → name ≢ report_name Totals → name ≢ report_name Journal → name ≡ report_name Answers
third Totals name is not_first not_second = absurd (not_first is)
third Journal name is not_first not_second = absurd (not_second is)
third Answers name is not_first not_second = is

pub returns-in_default : goal.returns-in_default
returns-in_default c =
    let found = found_of c.args.matches.now in
    let value = c.requires.2.value in
    let given = ap (option_map (λ s. s.now)) c.unwrap.ensures in
    let read : Some c.unwrap.result.now ≡ Some value = sym given ∙ c.get_str.ensures ∙ first_value-value found _ _ c.requires.2 in
    let is : c.unwrap.result.now ≡ value = ap (λ (o : Option (List ℕ)). unwrap_or o value) read in
    let among : list_any (λ s. bytes_eq s value) report_names ≡ true = one_of_names c.requires.0 report_names value c.requires.1 c.requires.2.passed in
    let report = report_with (Totals ∷ Journal ∷ Answers ∷ []) value among in
    sym (sym given ∙ c.get_str.ensures) ∙ ap (λ (name : List ℕ). Some name) (third report.0 c.unwrap.result.now (is ∙ report.1) c.in_default.not-totals c.in_default.not-journal)
