use Rattle.std.proofs.Common.{◌≡◌, inl, inr, rules, ap, sym, ◌∙◌}
use Rattle.thp_history.proofs.WordLemmas.{same_set-Decides}
use Rattle.thp_check.proofs.PageEvents.{frames_in, outcome_in, reported_by}
use Rattle.thp_check.proofs.node_state.is_recorded.Goals as goal

pub returns-then-eq : goal.returns-then-eq
returns-then-eq c = λ l p o set is.
    let outcome : outcome_in c.args.what.now ≡ c.in-UnmapWhole.outcome =
    elim c.in-UnmapWhole.is [
      | inl w ↦ ap outcome_in w.1
      | inr rest ↦ elim rest [
        | inl w ↦ ap outcome_in w.3
        | inr w ↦ ap outcome_in w.1
      ]
    ] in
    let frames : frames_in c.args.what.now ≡ c.in-UnmapWhole.released =
    elim c.in-UnmapWhole.is [
      | inl w ↦ ap frames_in w.1
      | inr rest ↦ elim rest [
        | inl w ↦ ap frames_in w.3
        | inr w ↦ ap frames_in w.1
      ]
    ] in
    let reported = reported_by l p o set in
    let o_is : c.in-UnmapWhole.outcome ≡ o = sym outcome ∙ ap outcome_in is ∙ reported.0 in
    let set_is : c.in-UnmapWhole.released ≡ set = sym frames ∙ ap frames_in is ∙ reported.1 in
    let same = same_set-Decides c.args.done.now.released c.in-UnmapWhole.released in (
      λ e. ((search rules) ∙ o_is, same.0 (sym c.eq-then-eq.ensures ∙ e) ∙ set_is),
      λ w. c.eq-then-eq.ensures ∙ same.1 (w.1 ∙ sym set_is),
    )
