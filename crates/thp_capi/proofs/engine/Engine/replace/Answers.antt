-- Where no batch is open none has to be in front of a flight.
use Rattle.std.proofs.Common.{◌≡◌, ◌∙◌, ◌+◌, ℕ, None, get_or, length, subst, sym}
use Rattle.thp_history.specs.Prelude.{max_callers}
use Rattle.thp_node.specs.Prelude.{NodeState}
use Rattle.thp_capi.specs.Engines.{IsEngine, NoneOpen}
use Rattle.thp_capi.proofs.Places.{Batches, for_none}
use Rattle.thp_capi.proofs.engine.Engine.replace.Goals as goal

shut_engine : (m : NodeState) (bs : Batches) → length bs ≡ max_callers → ((k : ℕ) → get_or bs k None ≡ None) → IsEngine (record { node = m; batches = bs })
shut_engine m bs places none = record { places = places; each = λ k b within is. for_none m.journal (0 + k) b (sym (none k) ∙ is) }

pub invariant_of-self : goal.invariant_of-self
invariant_of-self g c = shut_engine c.args.node c.self.inside.batches.items c.self.invariant.places (subst (λ x. NoneOpen x) (sym c.self.view_is) c.requires.none_open)
