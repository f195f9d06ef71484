-- Reports of runs that are the same but for blocks.
use Rattle.std.proofs.Common.{◌≡◌, ◌<◌, ◌≤◌, ℕ, zero, suc, List, [], ◌∷◌, ◌++◌, map, length, None, Ok, refl, ap, ap₂, sym, subst, ◌∙◌, arith, slice_get}
use Rattle.std.specs.List.{AllZip, flat_map}
use Rattle.std.proofs.lemmas.Bool.{cases_lt}
use Rattle.thp_history.specs.declared.shape.Shape.{Shape}
use Rattle.thp_history.specs.Prelude.{SameButBlocks}
use Rattle.thp_journal_writer.specs.Prelude.{Journal}
use Rattle.thp_laws.specs.SameTotals.{IsSameJournal}
use Rattle.thp_laws.proofs.WithoutBlocks.{one_text}
use Rattle.thp_node.specs.Prelude.{NodeState}
use Rattle.thp_run.specs.Answers.{answer_line, answers_text, section_text}
use Rattle.thp_run.specs.Reports.{journal_shape, report_of, reported_journal}
use Rattle.thp_run.proofs.TotalsLaws.{totals_blind}
use Rattle.thp_laws.proofs.OneTotals.{all_bare}
use Rattle.thp_script.specs.declared.script.ScriptSections.{ScriptSections}
use Rattle.thp_script.specs.declared.settings.Report.{Report}
use Rattle.thp_script.specs.declared.settings.Report.TheVariants as report
use Rattle.thp_script.specs.declared.settings.Settings.{Settings}
use Rattle.thp_script.specs.Prelude.{script_of}
use Rattle.thp_worker.specs.declared.reply.SectionLog.{SectionLog}
use Rattle.thp_run.specs.NewNodes.{AreNodesFor, histories_of, shapes_of}
use Rattle.thp_run.specs.NewNodes as nodes
use Rattle.thp_run.specs.Runs.{IsRun}
use Rattle.thp_laws.specs.OneRun.{IsSameRun, IsSameSection}
use Rattle.thp_laws.proofs.WorkersApart.{one_run, some_at}
use Rattle.thp_laws.specs.OneReport.{WorkersApartHaveOneReport, WorkersApartWriteOneText}

-- ---- nodes

-- nothing stands beyond the end
none_at : {A : Type 0} (xs : List A) (k : ℕ) → length xs ≤ k → slice_get xs k ≡ None
none_at [] k le = refl
none_at (x ∷ xs) zero le = absurd (omega (arith, le))
none_at (x ∷ xs) (suc k) le = none_at xs k (omega (arith, le))

-- a node has the shape that the settings say
shape_at : (s : Settings) (ns : List NodeState) (n : ℕ) → AreNodesFor s ns → n < s.nodes → shapes_of ns n ≡ nodes.new_shape s n
shape_at s ns n are lt =
    let count = are.count in
    let there = some_at ns n (omega (arith, count, lt)) in
    ap nodes.state_shape there.1 ∙ are.shapes n there.0 there.1

-- nodes for the same settings have the same shapes
same_shape : (s : Settings) (ns ms : List NodeState) → AreNodesFor s ns → AreNodesFor s ms → (n : ℕ) → shapes_of ns n ≡ shapes_of ms n
same_shape s ns ms a b n = grind (arith, cases_lt, shape_at, none_at)

-- nodes with the same shapes whose histories are the same but for blocks
same_reported : (ns ms : List NodeState) → length ns ≡ length ms → ((n : ℕ) → shapes_of ns n ≡ shapes_of ms n) → ((n : ℕ) → SameButBlocks (histories_of ns n) (histories_of ms n)) → AllZip IsSameJournal (map reported_journal ns) (map reported_journal ms)
same_reported [] [] e shapes histories = tt
same_reported [] (m ∷ ms) e shapes histories = absurd (omega (arith, e))
same_reported (n ∷ ns) [] e shapes histories = absurd (omega (arith, e))
same_reported (n ∷ ns) (m ∷ ms) e shapes histories = (
  record { shape = shapes 0; events = histories 0 },
  same_reported ns ms (omega (arith, e)) (λ i. shapes (suc i)) (λ i. histories (suc i)),
)

-- ---- reports

-- their shapes are the same
reported_shapes : (js ks : List Journal) → AllZip IsSameJournal js ks → map journal_shape js ≡ map journal_shape ks
reported_shapes [] [] same = refl
reported_shapes [] (k ∷ ks) same = absurd same
reported_shapes (j ∷ js) [] same = absurd same
reported_shapes (j ∷ js) (k ∷ ks) same = ap₂ (λ s ss. s ∷ ss) same.0.shape (reported_shapes js ks same.1)

-- sections with the same answers have one text
same_section : (shapes : List Shape) (x y : SectionLog) → IsSameSection x y → section_text shapes x ≡ section_text shapes y
unfolding section_text
same_section shapes x y same = ap₂ (λ k answers. flat_map (answer_line shapes k) answers) same.number same.answers

-- and so have all sections
same_sections : (shapes : List Shape) (xs ys : List SectionLog) → AllZip IsSameSection xs ys → answers_text shapes xs ≡ answers_text shapes ys
unfolding answers_text
same_sections shapes [] [] same = refl
same_sections shapes [] (y ∷ ys) same = absurd same
same_sections shapes (x ∷ xs) [] same = absurd same
same_sections shapes (x ∷ xs) (y ∷ ys) same = ap₂ (λ a b. a ++ b) (same_section shapes x y same.0) (same_sections shapes xs ys same.1)

-- each report is the same
same_report : (r : Report) (js ks : List Journal) (xs ys : List SectionLog) → AllZip IsSameJournal js ks → AllZip IsSameSection xs ys → report_of r js xs ≡ report_of r ks ys
same_report x js ks xs ys nodes sections = grind (arith, totals_blind, all_bare, one_text, reported_shapes, same_sections)

-- an input spells one script
one_script : (script other : ScriptSections) (s : Settings) (input : List ℕ) → script_of s input ≡ Ok script → script_of s input ≡ Ok other → other ≡ script
one_script script other s input e f = cc

-- a script whose workers keep to nodes of their own has one report
pub one_report : WorkersApartHaveOneReport
one_report s input text other apart r t =
    let shapes : shapes_of t.nodes ≡ shapes_of r.nodes = λ i n. same_shape s t.nodes r.nodes t.nodes_are r.nodes_are n i in
    let theirs : IsRun s.nodes (shapes_of r.nodes) r.script (histories_of t.nodes) t.sections =
    subst (λ x. IsRun s.nodes (shapes_of r.nodes) x (histories_of t.nodes) t.sections) (one_script r.script t.script s input r.spelled t.spelled) (subst (λ f. IsRun s.nodes f t.script (histories_of t.nodes) t.sections) shapes t.is_run) in
    let same : IsSameRun (histories_of r.nodes) (histories_of t.nodes) r.sections t.sections = one_run s.nodes (shapes_of r.nodes) r.script (histories_of r.nodes) (histories_of t.nodes) r.sections t.sections (apart r.script r.spelled) r.is_run theirs in
    let count : length r.nodes ≡ length t.nodes = r.nodes_are.count ∙ sym t.nodes_are.count in
    let reported = same_reported r.nodes t.nodes count (same_shape s r.nodes t.nodes r.nodes_are t.nodes_are) same.histories in
    r.written ∙ same_report s.report (map reported_journal r.nodes) (map reported_journal t.nodes) r.sections t.sections reported same.answers ∙ sym t.written

-- and is written as one text
pub one_writing : WorkersApartWriteOneText
one_writing s input old new other apart a b = a.0.2 ∙ ap (λ text. old ++ text) (one_report s input a.0.0 b.0.0 apart a.0.1 b.0.1) ∙ sym b.0.2
