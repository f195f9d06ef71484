-- A call is refused alike at histories that are the same but for blocks.
use Rattle.std.proofs.Common.{◌≡◌, ℕ, Bool, false, cond, not, Some, None, refl, ap, arith}
use Rattle.thp_history.specs.declared.refusal.Refusal.TheVariants as reason
use Rattle.thp_history.specs.declared.shape.Shape.{Shape}
use Rattle.thp_history.specs.Prelude.{SameButBlocks, block_in_use, History, IsLegal, no_pages, refusal, each_below, page_call}
use Rattle.thp_history.specs.Refusals as call
use Rattle.thp_history.proofs.Alike.{alike, flight_alike}
use Rattle.thp_history.proofs.LeastBlocks.{as_many, free_by_number}
use Rattle.thp_history.specs.declared.page_call.Gain.TheVariants as gain
use Rattle.thp_history.specs.declared.page_call.Loss.TheVariants as loss
use Rattle.thp_history.specs.declared.page_call.PageCall.{PageCall}
use Rattle.thp_history.specs.declared.page_call.PageCall.TheVariants as either
use Rattle.thp_script.specs.declared.script.Op.{Op}
use Rattle.thp_script.specs.declared.script.Op.TheVariants as op
use Rattle.thp_worker.specs.Prelude.{node_call_of, refusal_of_call}
use Rattle.thp_laws.proofs.Atoms.{same_allocated, same_closed, same_freed, same_maps, same_pins, same_split, same_unmapped, same_unmaps, same_unpins, same_whole}

-- a test that fails at both or at neither
both_or_none : (a b : Bool) → (a ≡ false → b ≡ false) → (b ≡ false → a ≡ false) → a ≡ b
both_or_none x y f g = grind arith

module _ (s : Shape) (h k : History) (e : SameButBlocks h k) where
  -- a block is free at both or at neither
  all_held : IsLegal s h → IsLegal s k → each_below s.blocks (block_in_use h) ≡ each_below s.blocks (block_in_use k)
  all_held l m = both_or_none _ _ (λ f. (free_by_number s k m).1 (let few = (free_by_number s h l).0 f in omega (arith, as_many h k e))) (λ f. (free_by_number s h l).1 (let few = (free_by_number s k m).0 f in omega (arith, as_many h k e)))

  -- an allocation is refused for one reason at both, or at neither
  alloc_alike : IsLegal s h → IsLegal s k → refusal s h call.alloc_page ≡ refusal s k call.alloc_page
  unfolding refusal
  alloc_alike l m = rw (same_closed h k e, all_held l m) refl

  -- and a mapping of a whole page
  map_whole_alike : (p : ℕ) → refusal s h (call.map_whole p) ≡ refusal s k (call.map_whole p)
  unfolding refusal
  map_whole_alike p = simp (same_allocated h k e, same_freed h k e, same_split h k e, same_maps h k e, same_unmaps h k e)

  -- a take is refused at both or at neither
  pub take_alike : (c : ℕ) → refusal s h (call.take c) ≡ refusal s k (call.take c)
  unfolding refusal
  take_alike c = ap (λ ps. cond (not (no_pages ps)) (Some reason.HasBatch) None) (flight_alike s h k (alike h k e) c)

  -- a call of a page is refused for one reason at both, or at neither
  page_call_alike : (p : ℕ) (c : PageCall) → refusal s h (page_call c p) ≡ refusal s k (page_call c p)
  unfolding refusal
  page_call_alike p (either.Gain gain.MapWhole) = map_whole_alike p
  page_call_alike p (either.Loss loss.UnmapWhole) = simp (same_allocated h k e, same_freed h k e, same_split h k e, same_whole h k e, same_unmapped h k e)
  page_call_alike p (either.Gain (gain.MapSub first count)) = simp (same_allocated h k e, same_freed h k e, same_split h k e, same_maps h k e, same_unmaps h k e, (alike h k e).zero)
  page_call_alike p (either.Loss (loss.UnmapSub first count)) = simp (same_allocated h k e, same_freed h k e, same_split h k e, same_maps h k e, same_unmaps h k e, same_whole h k e, same_unmapped h k e)
  page_call_alike p (either.Gain (gain.Write first count)) = simp (same_allocated h k e, same_freed h k e, same_split h k e, same_maps h k e, same_unmaps h k e)
  page_call_alike p (either.Gain (gain.Zero first count)) = simp (same_allocated h k e, same_freed h k e, same_split h k e, same_maps h k e, same_unmaps h k e)
  page_call_alike p (either.Gain gain.SplitPmd) = simp (same_allocated h k e, same_freed h k e, same_split h k e, same_whole h k e, same_unmapped h k e)
  page_call_alike p (either.Gain gain.Pin) = simp (same_allocated h k e, same_freed h k e, same_split h k e, same_pins h k e, same_unpins h k e)
  page_call_alike p (either.Loss loss.Unpin) = simp (same_allocated h k e, same_freed h k e, same_split h k e, same_pins h k e, same_unpins h k e)

  -- a command that is one call of a node is refused for one reason at both, or at neither
  pub call_alike : (o : Op) → IsLegal s h → IsLegal s k → refusal_of_call s h (node_call_of o) ≡ refusal_of_call s k (node_call_of o)
  unfolding refusal
  call_alike op.Alloc l m = alloc_alike l m
  call_alike (op.MapWhole p) l m = page_call_alike p (either.Gain gain.MapWhole)
  call_alike (op.UnmapWhole p) l m = page_call_alike p (either.Loss loss.UnmapWhole)
  call_alike (op.Map first count p) l m = page_call_alike p (either.Gain (gain.MapSub first count))
  call_alike (op.Unmap first count p) l m = page_call_alike p (either.Loss (loss.UnmapSub first count))
  call_alike (op.Write first count p) l m = page_call_alike p (either.Gain (gain.Write first count))
  call_alike (op.Zero first count p) l m = page_call_alike p (either.Gain (gain.Zero first count))
  call_alike (op.SplitPmd p) l m = page_call_alike p (either.Gain gain.SplitPmd)
  call_alike (op.Pin p) l m = page_call_alike p (either.Gain gain.Pin)
  call_alike (op.Unpin p) l m = page_call_alike p (either.Loss loss.Unpin)
  call_alike op.Close l m = rw (same_closed h k e) refl
  call_alike (op.Scan count) l m = refl
  call_alike op.Count l m = refl
  call_alike (op.Take count) l m = refl
  call_alike op.SplitNext l m = refl
  call_alike op.PutBack l m = refl
