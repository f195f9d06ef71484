-- The version of a journal text has a line for each event of its legal histories, and reports their shapes.
use Rattle.std.proofs.Common.{◌≡◌, ◌≤◌, ◌+◌, ◌||◌, arith, length, ℕ, Bool, true, false, cond, List, [], ◌∷◌, Option, Some, None, refl, sym, ◌∙◌, slice_get, is_some}
use Rattle.std.specs.List.{AllByRecursion, list_all, list_any}
use Rattle.std.proofs.lemmas.Bool.{and_parts, eqb-true, false_from_ne_true, le-ltb, ltb-false, or_parts}
use Rattle.thp_history.specs.declared.events.Event.{Event}
use Rattle.thp_history.specs.declared.events.What.{What}
use Rattle.thp_history.specs.declared.events.What.TheVariants.{Write, Zero, Used}
use Rattle.thp_history.specs.declared.shape.Shape.{Shape}
use Rattle.thp_history.specs.Prelude.{some_event, max_blocks, History, IsLegal, shrinks_underused, finds_used}
use Rattle.thp_history.proofs.PartlyStands.{none_used}
use Rattle.thp_history.proofs.SomeEvents.{some_passes}
use Rattle.thp_journal_writer.specs.Prelude.{Journal, are_large, has_large_caller, has_order_9, includes, is_access, is_large, reports_underused, version_limits, version_of}
use Rattle.thp_journal_writer.specs.declared.version.Version.{Version}
use Rattle.thp_journal_writer.specs.declared.version.Version.TheVariants.{Plain, Orders, Underused, Large}
use Rattle.thp_laws.specs.Reportable.{IsOfVersion, IsReportedShape}

-- the version has a line for each event, and reports the shape, within its limits
pub record IsReportedBy (v : Version) (j : Journal) : Type 0 where
  pub shape : IsReportedShape v j.0
  pub events : (k : ℕ) (e : Event) → slice_get j.1 k ≡ Some e → IsOfVersion v e.what
  pub few_blocks : j.0.blocks ≤ (version_limits v).most_blocks
  pub callers : AllByRecursion (λ (e : Event). e.caller ≤ (version_limits v).last_caller) j.1

-- versions 3 and 4 have a line for each event
each_in_3 : (w : What) → IsOfVersion Underused w
each_in_3 (Write p first count) = tt
each_in_3 (Zero p first count) = tt
each_in_3 (Used p) = tt
each_in_3 _ = tt

each_in_4 : (w : What) → IsOfVersion Large w
each_in_4 (Write p first count) = tt
each_in_4 (Zero p first count) = tt
each_in_4 (Used p) = tt
each_in_4 _ = tt

-- a node within the limits of the versions before 4
record IsSmall (j : Journal) : Type 0 where
  few_blocks : j.0.blocks ≤ 4096
  callers : AllByRecursion (λ (e : Event). e.caller ≤ 63) j.1

small_callers : (h : History) → list_any has_large_caller h ≡ false → AllByRecursion (λ (e : Event). e.caller ≤ 63) h
small_callers [] few = tt
small_callers (e ∷ h) few = let t = or_parts _ _ few in (ltb-false 63 e.caller t.0, small_callers h t.1)

-- such a node is not large
small : (j : Journal) → is_large j ≡ false → IsSmall j
unfolding is_large
small j few = let t = or_parts _ _ few in record { few_blocks = ltb-false max_blocks j.0.blocks t.0; callers = small_callers j.1 t.1 }

each_small : (js : List Journal) → list_any is_large js ≡ false → AllByRecursion IsSmall js
each_small [] few = tt
each_small (j ∷ js) few = let t = or_parts _ _ few in (small j t.0, each_small js t.1)

-- nodes that are not large: there are at most 8
record AreSmall (js : List Journal) : Type 0 where
  few : length js ≤ 8
  each : AllByRecursion IsSmall js

are_small : (js : List Journal) → are_large js ≡ false → AreSmall js
unfolding are_large
are_small js few = let t = or_parts _ _ few in record { few = ltb-false 8 (length js) t.0; each = each_small js t.1 }

-- the others for those that neither access a page nor find it in use
quiet_in : (v : Version) (w : What) → is_access w ≡ false → finds_used w ≡ false → IsOfVersion v w
quiet_in v (Write p first count) access used = absurd cc
quiet_in v (Zero p first count) access used = absurd cc
quiet_in v (Used p) access used = absurd cc
quiet_in v _ access used = tt

-- what isn't there is none
no_threshold : (u : Option ℕ) → is_some u ≡ false → u ≡ None
no_threshold None e = refl
no_threshold (Some t) e = absurd cc

-- without a threshold the switch is off
switch_off : (s : Shape) → s.underused ≡ None → shrinks_underused s ≡ false
switch_off s off = rw off refl

-- a node without the switch and without accesses
record IsQuiet (j : Journal) : Type 0 where
  off : j.0.underused ≡ None
  events : (v : Version) (k : ℕ) (e : Event) → slice_get j.1 k ≡ Some e → IsOfVersion v e.what

-- such a node, if version 3 has nothing more to show of it
quiet : (j : Journal) → IsLegal j.0 j.1 → reports_underused j ≡ false → IsQuiet j
unfolding reports_underused
quiet j legal no_more =
    let t = or_parts _ _ no_more in
    let off : j.0.underused ≡ None = no_threshold j.0.underused t.0 in
    record {
      off = off;
      events = λ v k e at. quiet_in v e.what (false_from_ne_true _ (λ access. let some : some_event is_access j.1 ≡ true = some_passes is_access j.1 k e at access in let bad : true ≡ false = sym some ∙ t.1 in absurd cc)) (none_used j.0 j.1 (switch_off j.0 off) legal k e at);
    }

-- what happened on the node is legal
abbrev pub Legal : Journal → Type 0
Legal j = IsLegal j.0 j.1

-- what happened on the node is legal, within the limits of version 4
pub record IsWithinLarge (j : Journal) : Type 0 where
  pub legal : IsLegal j.0 j.1
  pub few_blocks : j.0.blocks ≤ 16777216
  pub callers : AllByRecursion (λ (e : Event). e.caller ≤ 65535) j.1

-- such nodes
each_quiet : (js : List Journal) → AllByRecursion IsWithinLarge js → list_any reports_underused js ≡ false → AllByRecursion IsQuiet js
each_quiet [] legal e = tt
each_quiet (j ∷ js) legal e = let t = or_parts _ _ e in (quiet j legal.0.legal t.0, each_quiet js legal.1 t.1)

-- version 4 has lines for all of them
in_4 : (js : List Journal) → AllByRecursion IsWithinLarge js → AllByRecursion (IsReportedBy Large) js
in_4 [] h = tt
in_4 (j ∷ js) h = (record { shape = tt; events = λ k e at. each_in_4 e.what; few_blocks = h.0.few_blocks; callers = h.0.callers }, in_4 js h.1)

-- version 3 for small ones
in_3 : (js : List Journal) → AllByRecursion IsSmall js → AllByRecursion (IsReportedBy Underused) js
in_3 [] h = tt
in_3 (j ∷ js) h = (record { shape = tt; events = λ k e at. each_in_3 e.what; few_blocks = h.0.few_blocks; callers = h.0.callers }, in_3 js h.1)

-- version 2 reports small nodes without the switch and without accesses
in_2 : (js : List Journal) → AllByRecursion IsSmall js → AllByRecursion IsQuiet js → AllByRecursion (IsReportedBy Orders) js
in_2 [] few h = tt
in_2 (j ∷ js) few h = (record { shape = h.0.off; events = h.0.events Orders; few_blocks = few.0.few_blocks; callers = few.0.callers }, in_2 js few.1 h.1)

-- version 1 reports those of order 9
in_1 : (js : List Journal) → AllByRecursion IsSmall js → AllByRecursion IsQuiet js → list_all has_order_9 js ≡ true → AllByRecursion (IsReportedBy Plain) js
in_1 [] few h e = tt
in_1 (j ∷ js) few h e = let t = and_parts _ _ e in (record { shape = (eqb-true j.0.order 9 t.0, h.0.off); events = h.0.events Plain; few_blocks = few.0.few_blocks; callers = few.0.callers }, in_1 js few.1 h.1 t.1)

-- the version has lines for so many nodes, and for each of them
pub record AreReportedBy (v : Version) (js : List Journal) : Type 0 where
  pub few : length js ≤ (version_limits v).last_node + 1
  pub each : AllByRecursion (IsReportedBy v) js

few_small : {n : ℕ} → n ≤ 8 → n ≤ 7 + 1
few_small le = omega arith

-- the version that is written has lines for legal journals
pub version_reports : (js : List Journal) → length js ≤ 65536 → AllByRecursion IsWithinLarge js → AreReportedBy ((version_of js)) js
unfolding version_of
version_reports js few legal = go (are_large js) (list_any reports_underused js) (list_all has_order_9 js) refl refl refl where
  go : (l a b : Bool) → are_large js ≡ l → list_any reports_underused js ≡ a → list_all has_order_9 js ≡ b → AreReportedBy ((cond l Large (cond a Underused (cond b Plain Orders)))) js
  go true a b l e f = record { few = omega arith; each = in_4 js legal }
  go false true b l e f = let s = are_small js l in record { few = few_small s.few; each = in_3 js s.each }
  go false false true l e f = let s = are_small js l in record { few = few_small s.few; each = in_1 js s.each (each_quiet js legal e) f }
  go false false false l e f = let s = are_small js l in record { few = few_small s.few; each = in_2 js s.each (each_quiet js legal e) }

-- ---- the versions of inputs

-- journals within the limits of the versions before 4
pub record AreWithinEarlier (js : List Journal) : Type 0 where
  pub few : length js ≤ 8
  pub each : AllByRecursion (λ (j : Journal). (j.0.blocks ≤ 4096) × AllByRecursion (λ (e : Event). e.caller ≤ 63) j.1) js

no_large_caller : (h : History) → AllByRecursion (λ (e : Event). e.caller ≤ 63) h → list_any has_large_caller h ≡ false
no_large_caller [] few = refl
no_large_caller (e ∷ h) few = or_false (has_large_caller e) (list_any has_large_caller h) (le-ltb _ _ few.0) (no_large_caller h few.1)
  where
    or_false : (a b : Bool) → a ≡ false → b ≡ false → (a || b) ≡ false
    or_false a b e f = rw (e, f) refl

none_large : (js : List Journal) → AllByRecursion (λ (j : Journal). (j.0.blocks ≤ 4096) × AllByRecursion (λ (e : Event). e.caller ≤ 63) j.1) js → list_any is_large js ≡ false
unfolding is_large
none_large [] few = refl
none_large (j ∷ js) few = rw (le-ltb max_blocks j.0.blocks few.0.0, no_large_caller j.1 few.0.1, none_large js few.1) refl

-- their text can be an input
pub earlier_version : (js : List Journal) → AreWithinEarlier js → includes Underused (version_of js) ≡ true
unfolding version_of are_large
earlier_version js within = rw (le-ltb 8 (length js) within.few, none_large js within.each) (go (list_any reports_underused js) (list_all has_order_9 js)) where
  go : (a b : Bool) → includes Underused (cond a Underused (cond b Plain Orders)) ≡ true
  go true b = refl
  go false true = refl
  go false false = refl
