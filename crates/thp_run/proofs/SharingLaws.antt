-- From nodes in cells to passes of all nodes, and back.
use Rattle.std.proofs.Common.{◌≡◌, ◌∙◌, ◌+◌, ◌<◌, ◌≤◌, ap, ℕ, zero, suc, List, [], ◌∷◌, length, get_or, map, refl, sym, subst, arith, Some, None, All, slice_get}
use Rattle.std.proofs.lemmas.List.{length-map}
use Rattle.std.proofs.lemmas.List.Elements.{All-nil, All-cons, All-head, All-tail}
use Rattle.std.proofs.lemmas.Option.{get_or_from_slice_get, slice_get-get_or, slice_get_within}
use Rattle.thp_history.specs.declared.events.Event.{Event}
use Rattle.atomic_table.specs.Seated.{TableId}
use Rattle.thp_node.specs.Prelude.{NodeState}
use Rattle.thp_cell.specs.Prelude.{AllBelow, PassState}
use Rattle.thp_script.specs.declared.script.Command.{Command}
use Rattle.thp_script.specs.declared.script.Op.{Op}
use Rattle.thp_script.specs.declared.script.ScriptSections.{ScriptSections}
use Rattle.thp_script.specs.declared.settings.Settings.{Settings}
use Rattle.thp_script.specs.Prelude.{FitsBatch, max_nodes, max_workers, IsScriptFor}
use Rattle.thp_script.specs.Commands as text
use Rattle.thp_worker.specs.declared.reply.SectionLog.{SectionLog}
use Rattle.thp_worker.specs.Prelude.{IsFit, Fronts, Held, IsWorkFor}
use Rattle.thp_run.specs.Passes.{Agree, Passes, batch_in, cell_in, front_in, fronts_in, fronts_of, shape_in}
use Rattle.thp_run.specs.NewNodes.{AreNodesFor, histories_of, journal_in, shapes_of}
use Rattle.thp_run.specs.NewNodes as new
use Rattle.thp_run.specs.InParts.{AreNew}
use Rattle.thp_run.specs.Runs.{IsRun}
use Rattle.thp_run.specs.Sections.{IsFitScript, IsNew, RunsTo}
use Rattle.thp_run.specs.Sharing.{AreFew, IsFreshPass, IsNodeOf, IsUnused, IsWhole, Pairs, RunsOn, cell_of, front_at, pass_of, shape_at}
use Rattle.thp_run.proofs.NodeLaws.{pairs_at, pairs_length, pairs_map, pairs_same}
use Rattle.thp_run.proofs.RunLaws.{run_of}

-- what holds of all holds at a place
all_at : {A : Type 0} (P : A → Type 0) (xs : List A) (n : ℕ) (x : A) → All P xs → slice_get xs n ≡ Some x → P x
all_at P xs n x all at = subst P (get_or_from_slice_get xs n x x at) (all n x (slice_get_within xs n x at))

pub fresh_some : (callers : ℕ) (ps : List PassState) → All (IsFreshPass callers) ps → All (λ (p : PassState). p.first ≤ p.end) ps
fresh_some callers ps fresh = λ k d lt. let one = fresh k d lt in let first = one.whole.first_is in omega (arith, first)

fresh_fronts : (callers : ℕ) (ps : List PassState) → All (IsFreshPass callers) ps → (n : ℕ) → front_at (slice_get ps n) ≡ []
fresh_fronts callers [] fresh n = refl
fresh_fronts callers (p ∷ ps) fresh zero = (All-head (IsFreshPass callers) p ps fresh).front
fresh_fronts callers (p ∷ ps) fresh (suc n) = fresh_fronts callers ps (All-tail (IsFreshPass callers) p ps fresh) n

module _ (callers : ℕ) (ps : List PassState) (held : List Held) (pairs : Pairs IsUnused ps held) (fresh : All (IsFreshPass callers) ps) where
  pub agree_new : length ps ≤ max_nodes → Agree callers 0 callers held
  agree_new few = record {
    few = let same = pairs_length IsUnused ps held pairs in omega (arith, same, few);
    each = λ n h at.
        let x = pairs_at IsUnused ps held n h pairs at in
        let one = all_at (IsFreshPass callers) ps n x.0 fresh x.1 in
        record {
          callers_are = ap (λ (p : PassState). p.callers) x.2.pass ∙ one.whole.callers_are;
          first_is = ap (λ (p : PassState). p.first) x.2.pass ∙ one.whole.first_is;
          end_is = ap (λ (p : PassState). p.end) x.2.pass ∙ one.whole.end_is;
        };
  }

  fronts_new : Fronts
  fronts_new = fronts_of callers 0 callers held

  pub is_new : (workers : ℕ) → callers ≡ 1 + workers → IsNew workers (fronts_of callers 0 callers held)
  is_new workers count = record {
    front = λ n. sym (pairs_same IsUnused front_at front_in refl (λ p h r. ap (λ (p : PassState). p.front) (sym r.pass)) ps held pairs n) ∙ fresh_fronts callers ps fresh n;
    batches = λ c n. sym (pairs_same IsUnused (λ o. None) (batch_in c) refl (λ p h r. sym (r.shut c)) ps held pairs n);
    first = refl;
    end = count;
    callers = count;
  }

shapes_after : (held : List Held) (n : ℕ) → shape_in (slice_get held n) ≡ shape_at (slice_get (map pass_of held) n)
shapes_after [] n = refl
shapes_after (h ∷ held) zero = refl
shapes_after (h ∷ held) (suc n) = shapes_after held n

fronts_after : (held : List Held) (n : ℕ) → front_in (slice_get held n) ≡ front_at (slice_get (map pass_of held) n)
fronts_after [] n = refl
fronts_after (h ∷ held) zero = refl
fronts_after (h ∷ held) (suc n) = fronts_after held n

cells_after : (held : List Held) → map cell_of (map pass_of held) ≡ map cell_in held
cells_after [] = refl
cells_after (h ∷ held) = ap (λ l. cell_in h ∷ l) (cells_after held)

whole_after : (callers : ℕ) (held : List Held) → ((n : ℕ) (h : Held) → slice_get held n ≡ Some h → IsWhole callers h.pass) → All (IsWhole callers) (map pass_of held)
whole_after callers [] each = All-nil (IsWhole callers)
whole_after callers (h ∷ held) each = All-cons (IsWhole callers) h.pass (map pass_of held) (each 0 h refl) (whole_after callers held (λ n h at. each (suc n) h at))

-- the passes of a run, before and after it
pub runs_on : (callers : ℕ) (ps : List PassState) (held : List Held) (q : Passes) (script : ScriptSections) (sections : List SectionLog) → Pairs IsUnused ps held → All (IsFreshPass callers) ps → callers ≡ 1 + length script.workers
    → Agree q.callers q.first q.end q.held → RunsTo (fronts_of callers 0 callers held) (fronts_in q) script sections → RunsOn ps (map pass_of q.held) script sections
runs_on callers ps held q script sections pairs fresh count agree r =
    let same = r.goes.same in
    let start = r.begins.same in
    let lengths = pairs_length IsUnused ps held pairs in
    record {
      before = fronts_of callers 0 callers held;
      after = fronts_in q;
      starts = is_new callers ps held pairs fresh (length script.workers) count;
      runs = r;
      nodes = sym lengths;
      shapes_before = λ n. sym (pairs_same IsUnused shape_at shape_in refl (λ p h u. ap (λ (p : PassState). p.shape) (sym u.pass)) ps held pairs n);
      shapes = shapes_after q.held;
      fronts = fronts_after q.held;
      count = length-map q.held pass_of ∙ same.nodes ∙ start.nodes ∙ sym lengths;
      cells = cells_after q.held ∙ same.cells ∙ start.cells ∙ sym (pairs_map IsUnused cell_of cell_in (λ p h u. ap cell_of (sym u.pass)) ps held pairs);
      whole = whole_after (1 + length script.workers) q.held (λ n h at.
          let of = agree.each n h at in
          record {
            callers_are = of.callers_are ∙ same.callers ∙ start.callers ∙ count;
            first_is = of.first_is ∙ same.first ∙ start.first;
            end_is = of.end_is ∙ same.end ∙ start.end ∙ count;
          });
    }

-- ---- scripts

fit_op : (o : Op) → FitsBatch o → IsFit o
fit_op x fits = grind arith

pub commands_fit : (nodes : ℕ) (commands : List Command) → All (text.IsCommandFor nodes) commands → All (IsWorkFor nodes) commands
commands_fit nodes commands fit = λ k d lt. let one = fit k d lt in record { node_exists = one.node_exists; fits = fit_op (get_or commands k d).op one.fits_batch }

pub script_fits : (s : Settings) (script : ScriptSections) (nodes : ℕ) → IsScriptFor s script → AreFew script → nodes ≡ s.nodes → 1 ≤ s.workers → s.workers ≤ max_workers → IsFitScript nodes script
script_fits s script nodes for-it few is least most = grind (arith, commands_fit, get_or)

-- ---- nodes again

events_below : (callers : ℕ) (ps : List PassState) (nodes : List NodeState) → Pairs IsNodeOf ps nodes → All (IsWhole callers) ps → (n : ℕ) → AllBelow callers (front_at (slice_get ps n))
unfolding Pairs
events_below callers [] nodes p whole n = All-nil (λ (e : Event). e.caller < callers)
events_below callers (x ∷ ps) [] p whole n = absurd p
events_below callers (x ∷ ps) (node ∷ nodes) p whole zero =
    let one = All-head (IsWhole callers) x ps whole in
    let own : AllBelow x.callers x.front = subst (AllBelow x.callers) p.0.journal p.0.callers in
    subst (λ n. AllBelow n x.front) one.callers_are own
events_below callers (x ∷ ps) (node ∷ nodes) p whole (suc n) = events_below callers ps nodes p.1 (All-tail (IsWhole callers) x ps whole) n

module _ (s : Settings) (script : ScriptSections) (cells : List TableId) (old new-passes : List PassState) (nodes : List NodeState) (sections : List SectionLog)
    (began : AreNew s cells old) (run : RunsOn old new-passes script sections) (ends : Pairs IsNodeOf new-passes nodes) where
  count : length nodes ≡ s.nodes
  count = sym (pairs_length IsNodeOf new-passes nodes ends) ∙ run.count ∙ began.count

  shapes_same : (n : ℕ) → run.before.shape n ≡ shapes_of nodes n
  shapes_same n =
      sym (ap (λ shape. shape n) (run.runs.goes.same.shape ∙ run.runs.begins.same.shape)) ∙ run.shapes n ∙ pairs_same IsNodeOf shape_at new.state_shape refl (λ p node r. sym r.shape) new-passes nodes ends n

  pub nodes_asked : AreNodesFor s nodes
  nodes_asked = record {
    count = count;
    shapes = λ n node at.
        let within = slice_get_within nodes n node at in
        let later = pairs_at IsNodeOf new-passes nodes n node ends at in
        let there = slice_get-get_or old n later.0 (omega (arith, within, count, began.count)) in
        let here : shapes_of nodes n ≡ node.shape = ap new.state_shape at in
        sym here ∙ sym (shapes_same n) ∙ run.shapes_before n ∙ ap shape_at there ∙ began.shapes n (get_or old n later.0) there;
  }

  fronts_same : (n : ℕ) → run.after.front n ≡ histories_of nodes n
  fronts_same n = run.fronts n ∙ pairs_same IsNodeOf front_at journal_in refl (λ p node r. sym r.journal) new-passes nodes ends n

  below : (n : ℕ) → All (λ (e : Event). e.caller < 1 + length script.workers) (run.after.front n)
  below n = subst (AllBelow (1 + length script.workers)) (sym (run.fronts n)) (events_below (1 + length script.workers) new-passes nodes ends run.whole n)

  pub is_run : IsRun s.nodes (shapes_of nodes) script (histories_of nodes) sections
  is_run =
      let by = run_of run.before run.after script sections run.starts run.runs below in
      let counted : run.before.nodes ≡ s.nodes = run.nodes ∙ began.count in
      let a = subst (λ k. IsRun k run.before.shape script run.after.front sections) counted by in
      let b = subst (λ shape. IsRun s.nodes shape script run.after.front sections) (λ i n. shapes_same n i) a in
      subst (λ history. IsRun s.nodes (shapes_of nodes) script history sections) (λ i n. fronts_same n i) b
