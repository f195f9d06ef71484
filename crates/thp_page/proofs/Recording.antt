-- The laws of the bridge from a page to the history of its node.
use Rattle.std.proofs.Common.{◌≡◌, ℕ, true, false, [], ◌∷◌, ◌++◌, refl, sym, ◌∙◌, eq-eqb, arith}
use Rattle.thp_history.specs.declared.events.Event.{Event}
use Rattle.thp_history.specs.declared.events.Outcome.{Outcome}
use Rattle.thp_history.specs.declared.events.What.TheVariants.{Alloc, MapWhole, UnmapWhole, MapSub, UnmapSub, SplitPmd, Pin, Unpin, Write, Zero, Split}
use Rattle.thp_history.specs.Prelude.{History, by, some_event, is_live, is_closed, frees, allocates, allocations, stands, gives_frames, Tallies, page_outcome, page_released}
use Rattle.thp_history.proofs.Alive.{legal_grown}
use Rattle.thp_history.proofs.Numbers.{Fresh}
use Rattle.thp_history.proofs.PageOutcomes.{gives_is, lives_by, lives_on, released_alive}
use Rattle.thp_history.proofs.PageRefusals.{refusal_map_whole, refusal_unmap_whole, refusal_map_sub, refusal_unmap_sub, refusal_split_pmd, refusal_pin, refusal_unpin, refusal_write, refusal_zero}
use Rattle.thp_history.proofs.Pushes.{some_event_push, live_stays}
use Rattle.thp_history.proofs.Tallying.{tallies_alloc, tallies_map_whole, tallies_unmap_whole, tallies_map_sub, tallies_unmap_sub, tallies_split_pmd, tallies_pin, tallies_unpin, tallies_write, tallies_zero, tallies_split, tallies_stay, pins_is, worth_is}
use Rattle.thp_history.proofs.Untouched.{Untouched, untouched}
use Rattle.thp_page.specs.Prelude.{OthersLeavePages, RefusalsAgree, FreshPageIsRecorded, GainIsRecorded, LossIsRecorded, CandidatesAgree, SplitIsRecorded}
use Rattle.thp_history.specs.declared.page_call.Gain.TheVariants as gain
use Rattle.thp_history.specs.declared.page_call.Loss.TheVariants as loss
use Rattle.thp_page.proofs.PageRefusals.{map_whole_unsplit}

pub refusals_agree : RefusalsAgree
refusals_agree shape h p t at x = grind (arith, refusal_map_whole, refusal_map_sub, refusal_split_pmd, refusal_pin, refusal_write, refusal_zero, refusal_unmap_whole, refusal_unmap_sub, refusal_unpin)

pub others_leave_pages : OthersLeavePages
others_leave_pages shape h e p t at other =
    let apart : Untouched p e.what = untouched p e.what other in
    record { live = live_stays h e p apart.no_alloc apart.no_free ∙ at.live; tallies = tallies_stay shape h e p t apart at.tallies }

-- a page that is allocated for the first time lives
lives_new : (h : History) (e : Event) (p : ℕ) → allocates p e.what ≡ true → frees p e.what ≡ false → some_event (frees p) h ≡ false → is_live (h ++ e ∷ []) p ≡ true
lives_new h e p new kept never = grind (arith, some_event_push)

pub fresh_page_is_recorded : FreshPageIsRecorded
fresh_page_is_recorded shape h c b new legal fresh =
    let p : ℕ = allocations h in
    let never : Fresh h p = (legal_grown shape h legal).numbered.fresh p (omega arith) in
    record {
      live = lives_new h (by c (Alloc p b)) p (eq-eqb p p refl) refl never.not_freed;
      tallies = tallies_alloc shape h c p b new never fresh;
    }

pub gain_is_recorded : GainIsRecorded
gain_is_recorded shape h c p gain.MapWhole old new at allowed r = record {
  fits = refusal_map_whole shape h p old at.tallies at.live ∙ allowed;
  tallies = tallies_map_whole shape h c p old new at.tallies (map_whole_unsplit old p allowed) r;
  live = lives_on h (by c (MapWhole p)) p at.live refl;
}
gain_is_recorded shape h c p (gain.MapSub first count) old new at allowed r = record {
  fits = refusal_map_sub shape h p first count old at.tallies at.live ∙ allowed;
  tallies = tallies_map_sub shape h c p first count old new at.tallies r;
  live = lives_on h (by c (MapSub p first count)) p at.live refl;
}
gain_is_recorded shape h c p gain.SplitPmd old new at allowed r = record {
  fits = refusal_split_pmd shape h p old at.tallies at.live ∙ allowed;
  tallies = tallies_split_pmd shape h c p old new at.tallies r;
  live = lives_on h (by c (SplitPmd p)) p at.live refl;
}
gain_is_recorded shape h c p gain.Pin old new at allowed r = record {
  fits = refusal_pin shape h p old at.tallies at.live ∙ allowed;
  tallies = tallies_pin shape h c p old new at.tallies r;
  live = lives_on h (by c (Pin p)) p at.live refl;
}
gain_is_recorded shape h c p (gain.Write first count) old new at allowed r = record {
  fits = refusal_write shape h p first count old at.tallies at.live ∙ allowed;
  tallies = tallies_write shape h c p first count old new at.tallies r;
  live = lives_on h (by c (Write p first count)) p at.live refl;
}
gain_is_recorded shape h c p (gain.Zero first count) old new at allowed r = record {
  fits = refusal_zero shape h p first count old at.tallies at.live ∙ allowed;
  tallies = tallies_zero shape h c p first count old new at.tallies r;
  live = lives_on h (by c (Zero p first count)) p at.live refl;
}

pub loss_is_recorded : LossIsRecorded
loss_is_recorded shape h c p loss.UnmapWhole old new at allowed r =
    let o : Outcome = page_outcome old new (is_closed h) (stands shape h p) in
    let e : Event = by c (UnmapWhole o p (page_released old new o)) in
    let reported : Tallies shape (h ++ e ∷ []) p new = tallies_unmap_whole shape h c p o (page_released old new o) old new at.tallies r in
    record {
      fits = (refusal_unmap_whole shape h p old at.tallies at.live ∙ allowed, gives_is shape h (h ++ e ∷ []) p o old new at.tallies reported at.live (lives_by h e p o at.live refl refl) refl);
      tallies = reported;
      live = lives_on h e p at.live refl;
    }
loss_is_recorded shape h c p (loss.UnmapSub first count) old new at allowed r =
    let o : Outcome = page_outcome old new (is_closed h) (stands shape h p) in
    let e : Event = by c (UnmapSub o p first count (page_released old new o)) in
    let reported : Tallies shape (h ++ e ∷ []) p new = tallies_unmap_sub shape h c p first count o (page_released old new o) old new at.tallies r in
    record {
      fits = (refusal_unmap_sub shape h p first count old at.tallies at.live ∙ allowed, gives_is shape h (h ++ e ∷ []) p o old new at.tallies reported at.live (lives_by h e p o at.live refl refl) refl);
      tallies = reported;
      live = lives_on h e p at.live refl;
    }
loss_is_recorded shape h c p loss.Unpin old new at allowed r =
    let o : Outcome = page_outcome old new (is_closed h) (stands shape h p) in
    let e : Event = by c (Unpin o p (page_released old new o)) in
    let reported : Tallies shape (h ++ e ∷ []) p new = tallies_unpin shape h c p o (page_released old new o) old new at.tallies r in
    record {
      fits = (refusal_unpin shape h p old at.tallies at.live ∙ allowed, gives_is shape h (h ++ e ∷ []) p o old new at.tallies reported at.live (lives_by h e p o at.live refl refl) refl);
      tallies = reported;
      live = lives_on h e p at.live refl;
    }

pub candidates_agree : CandidatesAgree
candidates_agree shape h p t at = worth_is shape h p t at.tallies

pub split_is_recorded : SplitIsRecorded
split_is_recorded shape h c p old new at flying worth whole unpinned r =
    let e : Event = by c (Split p (gives_frames old new)) in
    let reported : Tallies shape (h ++ e ∷ []) p new = tallies_split shape h c p (gives_frames old new) old new at.tallies r in
    let lives : is_live (h ++ e ∷ []) p ≡ true = lives_on h e p at.live refl in
    record {
      fits = record {
        in_flight = flying;
        worth = worth_is shape h p old at.tallies ∙ worth;
        unpinned = pins_is shape h p old at.tallies ∙ unpinned;
        set_is = sym (released_alive shape h (h ++ e ∷ []) p old new at.tallies reported at.live lives);
      };
      tallies = reported;
      live = lives;
    }
