use Rattle.std.proofs.Common.{rules, inl, inr, ◌≡◌, ℕ, Bool, not, ◌&&◌, nat_eq, ap, sym, ◌∙◌, subst}
use Rattle.thp_history.specs.Prelude.{block_in_use, covers, most, own, refusal, refusal_of, some_below, total}
use Rattle.thp_history.specs.declared.events.What.{What}
use Rattle.thp_history.proofs.Asked.{each_where}
use Rattle.thp_model.proofs.slow_check.kinds.refusal.Goals as goal
use Rattle.thp_model.proofs.slow_check.kinds.refusal.Goals.{in-UnmapWhole, in-UnmapWhole-2, in-Write, in-Write-2}

pub returns-in-Alloc : goal.returns-in-Alloc
unfolding refusal
returns-in-Alloc c =
    let test : ℕ → Bool = block_in_use c.args.events.now in
    let full = ap not (c.any_below-is_full.ensures (λ b. not (test b)) (λ i b below k. search rules)) ∙ each_where c.args.shape.blocks test in
    let P : What → Type 0 = λ w. c.first_of.result ≡ refusal_of c.args.shape c.args.events.now w in
    subst P (sym c.in-Alloc.is) (rw (c.is_closed.ensures, full) at c.first_of.ensures)

pub returns-in-MapWhole : goal.returns-in-MapWhole
unfolding refusal
returns-in-MapWhole c =
    let test : ℕ → Bool = λ i. nat_eq (total c.args.events.now c.in-MapWhole.page i) most in
    let full = c.any_below-is_full-in-MapWhole.ensures test (λ i b below k. search rules) ∙ ap (λ n. some_below n test) c.subpages.ensures in
    let P : What → Type 0 = λ w. c.of_whole.result ≡ refusal_of c.args.shape c.args.events.now w in
    subst P (sym c.in-MapWhole.is) (rw full at c.of_whole.ensures)

pub returns-in-UnmapSub : goal.returns-in-UnmapSub
unfolding refusal
returns-in-UnmapSub c =
    let test : ℕ → Bool = λ i. covers c.in-UnmapSub.first c.in-UnmapSub.count i && nat_eq (own c.args.events.now c.in-UnmapSub.page i) 0 in
    let unmapped = c.any_below-is_unmapped.ensures test (λ i b below k. search rules) ∙ ap (λ n. some_below n test) c.subpages-in-UnmapSub.ensures in
    let P : What → Type 0 = λ w. c.first_of-in-UnmapSub.result ≡ refusal_of c.args.shape c.args.events.now w in
    subst P (sym c.in-UnmapSub.is) (rw (c.no_page.ensures, c.bad_range-bad.ensures, unmapped) at c.first_of-in-UnmapSub.ensures)

pub returns-in-Pin : goal.returns-in-Pin
unfolding refusal
returns-in-Pin c =
    let P : What → Type 0 = λ w. c.of_whole-in-Pin.result ≡ refusal_of c.args.shape c.args.events.now w in
    subst P (sym c.in-Pin.is) (rw c.pins.ensures at c.of_whole-in-Pin.ensures)

pub returns-in-Unpin : goal.returns-in-Unpin
unfolding refusal
returns-in-Unpin c =
    let P : What → Type 0 = λ w. c.of_whole-in-Unpin.result ≡ refusal_of c.args.shape c.args.events.now w in
    subst P (sym c.in-Unpin.is) (rw c.pins-in-Unpin.ensures at c.of_whole-in-Unpin.ensures)

pub returns-in-Close : goal.returns-in-Close
unfolding refusal
returns-in-Close c =
    let P : What → Type 0 = λ w. c.first_of-in-Close.result ≡ refusal_of c.args.shape c.args.events.now w in
    subst P (sym c.in-Close.is) (rw c.is_closed-in-Close.ensures at c.first_of-in-Close.ensures)

pub returns-in-Write : goal.returns-in-Write
unfolding refusal
returns-in-Write c =
    let test : ℕ → Bool = λ i. covers c.in-Write-1.first c.in-Write-1.count i && nat_eq (total c.args.events.now c.in-Write-1.page i) 0 in
    let unmapped = c.any_below-is_unmapped-in-Write.ensures test (λ i b below k. search rules) ∙ ap (λ n. some_below n test) c.subpages-in-Write.ensures in
    let P : What → Type 0 = λ w. c.first_of-in-Write.result ≡ refusal_of c.args.shape c.args.events.now w in
    let reasons = rw (c.no_page-in-Write.ensures, c.bad_range.ensures, c.is_split.ensures, unmapped) at c.first_of-in-Write.ensures in
    elim c.in-Write-1.branch [
      | in-Write w ↦ let r = rw (w.page-is, w.first-is, w.count-is) at reasons in elim w.in-Write.is [ inl e ↦ subst P (sym e) r | inr e ↦ subst P (sym e) r ]
      | in-Write-2 w ↦ let r = rw (w.page-is, w.first-is, w.count-is) at reasons in elim w.in-Write.is [ inl e ↦ subst P (sym e) r | inr e ↦ subst P (sym e) r ]
    ]

pub returns-in-UnmapWhole : goal.returns-in-UnmapWhole
unfolding refusal
returns-in-UnmapWhole c =
    let P : What → Type 0 = λ w. c.of_whole-in-UnmapWhole.result ≡ refusal_of c.args.shape c.args.events.now w in
    let reasons = rw c.whole.ensures at c.of_whole-in-UnmapWhole.ensures in
    elim c.in-UnmapWhole-1.branch [
      | in-UnmapWhole w ↦ let r = rw w.page-is at reasons in elim w.in-UnmapWhole.is [ inl e ↦ subst P (sym e.2) r | inr e ↦ subst P (sym e) r ]
      | in-UnmapWhole-2 w ↦ let r = rw w.page-is at reasons in elim w.in-UnmapWhole.is [ inl e ↦ subst P (sym e.2) r | inr e ↦ subst P (sym e) r ]
    ]
