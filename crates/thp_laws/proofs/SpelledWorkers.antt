-- How many workers a script has that a text spells.
use Rattle.std.proofs.Common.{◌≡◌, ℕ, List, length, Ok, ◌∙◌, arith, nat_lt}
use Rattle.std.specs.List.{range_with_len}
use Rattle.std.proofs.lemmas.List.{length-map}
use Rattle.std.proofs.lemmas.List.FromFn.{length-range_with_len}
use Rattle.thp_script.specs.declared.script.ScriptSections.{ScriptSections}
use Rattle.thp_script.specs.declared.settings.Settings.{Settings}
use Rattle.thp_script.specs.Prelude.{Placed, commands_in, script_of, script_with}
use Rattle.thp_laws.proofs.WorkersApart.{one_is_apart, place_of}
use Rattle.thp_laws.specs.OneReport.{OneSettingIsApart, OneWorkerIsApart}

-- a section for each worker of the settings
workers_with : (workers : ℕ) (placed : List Placed) → length (script_with workers placed).workers ≡ workers
unfolding script_with
workers_with workers placed = length-map (range_with_len 1 workers) (λ k. commands_in k placed) ∙ length-range_with_len 1 workers

-- as many workers as the settings say
as_many : (s : Settings) (input : List ℕ) (script : ScriptSections) → script_of s input ≡ Ok script → length script.workers ≡ s.workers
unfolding script_of
as_many s input script e = grind (arith, nat_lt, workers_with)

-- one worker keeps to nodes of its own
pub one_is_spelled : OneWorkerIsApart
one_is_spelled s input sole script spelled = one_is_apart script (sole script spelled)

-- no worker but the first has commands where there is no other
pub setting_is_apart : OneSettingIsApart
setting_is_apart s input few = grind (arith, one_is_spelled, as_many, place_of)
