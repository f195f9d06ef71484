-- Lists of blocks before the first take.
use Rattle.std.proofs.Common.{◌≡◌, ℕ, List, [], Contains, length, replicate, ap, sym, ◌∙◌, subst}
use Rattle.std.proofs.lemmas.List.{length-replicate}
use Rattle.thp_links.specs.declared.link.Link.{Link}
use Rattle.thp_links.specs.Prelude.{Stands}
use Rattle.thp_links.proofs.Members.{Contains-nil}
use Rattle.thp_links.proofs.OneTable.{Stands-nil}
use Rattle.thp_check.specs.Prelude.{AreLinked, list_at}
use Rattle.thp_check.proofs.FlightLists.{empty_at}

-- any links hold 4096 empty lists
pub linked_empty : (callers : List ℕ) (lists : List (List ℕ)) (links : List Link) → length callers ≡ length links → ◌≡◌ {A = List (List ℕ)} lists (replicate 4096 []) → AreLinked callers lists links
linked_empty callers lists links size are = record {
  sizes = size;
  count = ap (λ (ls : List (List ℕ)). length ls) are ∙ length-replicate {A = List ℕ} 4096 [];
  each_stands = λ k. subst (λ (xs : List ℕ). Stands xs links) (sym (at k)) (Stands-nil links);
  own = λ k b i. absurd (Contains-nil b (subst (λ (xs : List ℕ). Contains xs b) (at k) i));
} where
  at : (k : ℕ) → list_at lists k ≡ []
  at k = ap (λ (ls : List (List ℕ)). list_at ls k) are ∙ empty_at 4096 k
