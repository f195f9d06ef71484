-- Runs whose `setup` comes in parts.
use Rattle.std.proofs.Common.{◌≡◌, ◌∙◌, ◌+◌, ◌++◌, ◌≤◌, ap, ℕ, List, length, map, sym, subst, arith}
use Rattle.atomic_table.specs.Seated.{TableId}
use Rattle.thp_cell.specs.Prelude.{PassState}
use Rattle.thp_script.specs.declared.script.Command.{Command}
use Rattle.thp_script.specs.declared.script.ScriptSections.{ScriptSections}
use Rattle.thp_script.specs.declared.settings.Settings.{Settings}
use Rattle.thp_script.specs.Prelude.{after_setup, IsScriptFor, max_nodes}
use Rattle.thp_worker.specs.declared.reply.SectionOutcome.{SectionOutcome}
use Rattle.thp_worker.specs.declared.reply.SectionLog.{SectionLog}
use Rattle.thp_worker.specs.declared.reply.SectionOutcome.{SectionOutcome}
use Rattle.thp_worker.specs.Prelude.{Fronts, Goes, HoldsAllCallers, DidFirst, Works}
use Rattle.thp_run.specs.Passes.{fronts_in, Agree, Passes}
use Rattle.thp_worker.proofs.StepLaws.{goes_trans}
use Rattle.thp_run.specs.InParts.{AreNew, HasBegun, StartsOn}
use Rattle.thp_run.specs.Sections.{IsNew, IsSetUp, RunsTo}
use Rattle.thp_run.specs.Sharing.{pass_of, AreFew, IsUnused, RunsOn}
use Rattle.thp_run.proofs.NodeLaws.{pairs_length}
use Rattle.thp_run.proofs.SharingLaws.{is_new, runs_on, script_fits}

-- ---- new nodes

module _ (s : Settings) (cells : List TableId) (passes : List PassState) (new : AreNew s cells passes) where
  pub new_few : length passes ≤ max_nodes
  new_few = omega (arith, new.count, s.within_limits.most_nodes)

  module _ (f : Fronts) (starts : StartsOn s passes f) where
    pub starts_new : (workers : ℕ) → workers ≡ s.workers → IsNew workers f
    starts_new workers is = subst (IsNew workers) (sym starts.are) (is_new (s.workers + 1) passes starts.held starts.unused new.fresh workers (omega (arith, is)))

    pub starts_nodes : f.nodes ≡ s.nodes
    starts_nodes = ap (λ (x : Fronts). x.nodes) starts.are ∙ sym (pairs_length IsUnused passes starts.held starts.unused) ∙ new.count

-- ---- a run that has begun

module _ (s : Settings) (cells : List TableId) (old : List PassState) (first : Fronts) (before : List Command) (now : Fronts) (setup : SectionOutcome) (b : HasBegun s cells old first before now setup) where
  pub begun_all : HoldsAllCallers now
  begun_all = grind (arith, starts_new)

  pub begun_nodes : now.nodes ≡ s.nodes
  begun_nodes = b.goes.same.nodes ∙ starts_nodes s cells old b.new first b.starts

  module _ (script : ScriptSections) (for-it : IsScriptFor s script) (few : AreFew script) (then end : Fronts) (done : SectionOutcome) (worked : SectionOutcome) (goes : Goes 0 now then) (ends : Goes 0 then end) (did : DidFirst 0 first then (before ++ script.setup) done) (works : Works 0 first end (before ++ script.setup) worked) where
    pub begun_set_up : IsSetUp first end (before ++ script.setup) script.workers worked
    begun_set_up =
        let fits = script_fits s script first.nodes for-it few (starts_nodes s cells old b.new first b.starts) s.within_limits.least_workers s.within_limits.most_workers in
        record {
          new = starts_new s cells old b.new first b.starts (length script.workers) for-it.sections;
          fits = record { setup = record { few = did.few; fit = did.fit }; workers = fits.workers; some = fits.some; most = fits.most };
          goes = goes_trans 0 first then end (goes_trans 0 first now then b.goes goes) ends;
          works = works;
        }

    pub begun_runs : (q : Passes) (sections : List SectionLog) → Agree q.callers q.first q.end q.held → RunsTo first (fronts_in q) (after_setup before script) sections → RunsOn old (map pass_of q.held) (after_setup before script) sections
    begun_runs q sections agree runs =
        runs_on (s.workers + 1) old b.starts.held q (after_setup before script) sections b.starts.unused b.new.fresh (omega (arith, for-it.sections)) agree
        (subst (λ f. RunsTo f (fronts_in q) (after_setup before script) sections) b.starts.are runs)
