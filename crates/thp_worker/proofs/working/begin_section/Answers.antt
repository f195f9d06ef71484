use Rattle.std.proofs.Common.{◌∙◌, ap, arith, false, length, replicate}
use Rattle.std.proofs.lemmas.List.Elements.{All-nil}
use Rattle.thp_worker.specs.Prelude.{IsWorkFor}
use Rattle.thp_worker.proofs.SectionLaws.{begins_first}
use Rattle.thp_worker.proofs.working.begin_section.Goals as goal

pub returns-clause-did : goal.returns-clause-did
returns-clause-did g c = record {
  begins = begins_first _ _ _ _ _ c.in_ok-new.ensures.items (c.in_ok-vec.ensures.items_if_clones_equal (λ y h. h) ∙ ap (λ k. replicate k false) c.nodes.ensures) c.requires;
  each = ap length c.in_ok-new.ensures.items;
  few = omega arith;
  fit = All-nil (IsWorkFor _);
  room = omega arith;
}
