use Rattle.std.proofs.Common.{ℕ, List, Option, None, ap, ◌∙◌, slice_get, nat_cmp, is_eq}
use Rattle.std.specs.Map.{lookup}
use Rattle.thp_journal_reader.specs.LastAllocations.{last_allocation, first_entry}
use Rattle.thp_journal_reader.proofs.page_blocks.LastAllocations.new.Goals as goal

pub returns : goal.returns
unfolding last_allocation
returns c = λ p.
    ap (λ (xs : List (Option ℕ)). first_entry (slice_get xs p) (lookup (λ q. is_eq (nat_cmp p q)) c.new-2.result.entries)) c.new.ensures.items
    ∙ ap (λ (es : List (ℕ × Option ℕ)). first_entry None (lookup (λ q. is_eq (nat_cmp p q)) es)) c.new-2.ensures.empty
