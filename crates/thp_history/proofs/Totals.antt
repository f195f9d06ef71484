-- What the events of a history add up to, with one more event.
use Rattle.std.proofs.Common.{◌≡◌, ℕ, ◌+◌, ◌*◌, ◌^◌, ◌<◌, ◌≤◌, Bool, List, [], ◌∷◌, ◌++◌, length, ap, ap₂, sym, ◌∙◌, arith}
use Rattle.std.specs.Int.{from_bool}
use Rattle.std.proofs.Math.Nat.{mul-le-mul}
use Rattle.std.proofs.lemmas.List.{length_push}
use Rattle.std.proofs.lemmas.List.Sums.{count_by-le-length}
use Rattle.thp_history.specs.declared.events.Event.{Event}
use Rattle.thp_history.specs.declared.events.Outcome.{Outcome}
use Rattle.thp_history.specs.declared.events.What.{What}
use Rattle.thp_history.specs.declared.page_call.Loss.{Loss}
use Rattle.thp_history.specs.declared.shape.Shape.{Shape}
use Rattle.thp_history.specs.Prelude.{splits_pmds, thp_split_pmd, splits_underused, thp_underused_split_page, counters_of, loss_what, allocations, is_alloc, given, frames_given, frames_held, History, count_of, IsLegal, subpages}
use Rattle.thp_history.proofs.Kept.{frames_given_push, frames_kept, size_given}
use Rattle.thp_history.proofs.Pushes.{count_of_push, thp_split_pmd_push, thp_underused_split_page_push}
use Rattle.thp_history.proofs.Sizes.{few_subpages}
use Rattle.thp_history.specs.declared.tally.Counters.{Counters}
use Rattle.thp_history.specs.declared.tally.SplitContext.{SplitContext}
use Rattle.thp_history.specs.declared.tally.Tally.{Tally}
use Rattle.thp_history.specs.Totals.{AddsUp, HasRoom, Adds, IsContext, frames_of, pmds_of, underused_of, with_loss}

-- no more events pass a test than there are
pub few_events : (test : What → Bool) (h : History) → count_of test h ≤ length h
unfolding count_of
few_events test h = count_by-le-length (λ (e : Event). test e.what) h

-- no event adds up to nothing
pub adds_none : (s : Shape) → AddsUp s [] (record { frames_given = 0; counters = record { split_page = 0; split_page_failed = 0; deferred_split_page = 0; underused_split_page = 0; split_pmd = 0 } })
unfolding count_of given thp_split_pmd thp_underused_split_page
adds_none s = grind arith

-- each page had 512 frames at most to give back
few_frames : (s : Shape) (h : History) → s.order ≤ 9 → IsLegal s h → frames_given h ≤ 512 * length h
few_frames s h small l = omega (arith, frames_kept s h small l, mul-le-mul (few_subpages s small) (few_events is_alloc h))

-- so few events that each number has room for one more
pub has_room : (s : Shape) (h : History) (t : Tally) → s.order ≤ 9 → IsLegal s h → AddsUp s h t → length h + 1 < 2 ^ 64 → HasRoom t
has_room s h t small l a few = grind (arith, few_frames, few_events)

-- a count of the events that pass a test
counted : (test : What → Bool) (h : History) (e : Event) (n m : ℕ) → n ≡ count_of test h → m ≡ n + from_bool (test e.what) → m ≡ count_of test (h ++ e ∷ [])
counted test h e n m i f = grind (arith, count_of_push)

-- the frames given back
frames_counted : (h : History) (e : Event) (n m : ℕ) → n ≡ frames_given h → m ≡ n + frames_of e.what → m ≡ frames_given (h ++ e ∷ [])
frames_counted h e n m i f = grind (arith, frames_given_push, size_given)

-- what is unsaid shows how many PMD mappings an event splits, and whether it splits an underused page
pmds_reported : (s : Shape) (h : History) (w : What) (u : SplitContext) → IsContext s h w u → pmds_of w u ≡ splits_pmds h w
pmds_reported s h x u i = grind arith

underused_reported : (s : Shape) (h : History) (w : What) (u : SplitContext) → IsContext s h w u → underused_of w u ≡ splits_underused s h w
underused_reported s h x u i = grind arith

few_one : (w : What) (u : SplitContext) → underused_of w u ≤ 1
few_one x u = grind arith

-- the numbers with one more event
pub adds_push : (s : Shape) (h : History) (e : Event) (u : SplitContext) (old new : Tally) → AddsUp s h old → IsContext s h e.what u → Adds old new e.what u → AddsUp s (h ++ e ∷ []) new
adds_push s h e u old new a said d = grind (arith, pmds_reported, underused_reported, frames_counted, counted, thp_underused_split_page_push, thp_split_pmd_push, few_one, length_push)

-- an unmap or an unpin adds frames and queued pages alone
pub adds_loss : (old : Tally) (p : ℕ) (l : Loss) (o : Outcome) (set : List Bool) (u : SplitContext) → Adds old (with_loss o set old) (loss_what l p o set) u
adds_loss old p x o set u = grind arith

-- the frames of all pages ever allocated are those held and those given back
pub all_frames : (s : Shape) (h : History) (n m g : ℕ) → s.order ≤ 9 → IsLegal s h → n ≡ subpages s → m ≡ allocations h → g ≡ frames_given h → n * m ≡ frames_held s h + g
all_frames s h n m g small l e f i = ap₂ (λ x y. x * y) e f ∙ frames_kept s h small l ∙ ap (λ x. frames_held s h + x) (sym i)

-- the statistics are those of the history
pub counters_are : (s : Shape) (h : History) (t : Tally) → AddsUp s h t → t.counters ≡ counters_of s h
counters_are s h t a = same _ _ _ _ _ _ _ _ _ _ a.split_page a.split_page_failed a.deferred_split_page a.underused_split_page a.split_pmd where
  same : (a b c d e f g h i j : ℕ) → a ≡ f → b ≡ g → c ≡ h → d ≡ i → e ≡ j →
      ◌≡◌ {A = Counters} (record { split_page = a; split_page_failed = b; deferred_split_page = c; underused_split_page = d; split_pmd = e })
      (record { split_page = f; split_page_failed = g; deferred_split_page = h; underused_split_page = i; split_pmd = j })
  same a b c d e f g h i j k l m n o = cc
