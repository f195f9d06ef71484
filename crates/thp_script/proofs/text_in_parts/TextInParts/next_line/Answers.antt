use Rattle.std.proofs.Common.{◌≡◌, ◌∙◌, ◌++◌, ◌∷◌, [], arith, length, rules, sym, true, None, vec_len, eqb-true}
use Rattle.std.specs.Cow.{cow_slice_items}
use Rattle.thp_script.specs.Prelude.{lines_of}
use Rattle.thp_history.proofs.Options.{not_there}
use Rattle.thp_script.proofs.TextLaws.{nothing_begun, still_one_line, whole_line}
use Rattle.thp_script.proofs.text_in_parts.TextInParts.next_line.Goals as goal
use Rattle.thp_script.proofs.text_in_parts.TextInParts.next_line.Goals.{then-is_empty, else-is_empty+in_ok-extend_from_slice-2}

pub invariant_of-self-in_default : goal.invariant_of-self-in_default
invariant_of-self-in_default c =
    let text = c.in_ok-extend_from_slice.ensures.items in
    let piece = c.cut_at.result.0.now in
    let end : c.cut_at.result.1 ≡ None = not_there c.cut_at.result.1 c.in_default.not-Some in
    let whole : piece ≡ c.args.rest.now.now = rw end at c.cut_at.ensures.whole in
    let one : lines_of piece ≡ piece ∷ [] = rw end at (rw (← whole) at c.cut_at.ensures.pieces) in
    record {
      one_line = rw text (still_one_line c.self.inside.begun.items piece c.self.invariant.one_line one);
      lines = omega arith;
      most = omega arith;
      first = c.self.invariant.first;
      counted = c.self.invariant.counted;
      fault_inside = c.self.invariant.fault_inside;
    }

pub returns-clause-line : goal.returns-clause-line
returns-clause-line c = λ more.
    let begun = c.self.inside.begun in
    let piece = c.cut_at.result.0.now in
    let none-begun : c.is_empty.result ≡ true → length begun.items ≡ 0 = λ empty. omega (arith, begun.ok.0, eqb-true (vec_len begun) 0 (sym c.is_empty.ensures ∙ empty)) in
    let whole : cow_slice_items c.if-is_empty.bytes ≡ begun.items ++ piece = elim c.if-is_empty.branch [
      | then-is_empty w ↦ rw w.bytes-is (sym (nothing_begun begun.items piece (none-begun w.if-is_empty.true)))
      | else-is_empty+in_ok-extend_from_slice-2 w ↦ rw (w.bytes-is, w.replace.ensures.value) w.in_ok-extend_from_slice-2.ensures.items
    ] in
    rw (← c.self.view_is, whole) (whole_line begun.items c.args.rest.now.now more piece c.in-Some.after.now c.self.invariant.one_line (search rules))
