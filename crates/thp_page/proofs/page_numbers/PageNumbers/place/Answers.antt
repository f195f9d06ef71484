use Rattle.std.proofs.Common.{◌≡◌, ◌∙◌, ◌<◌, ◌≤◌, ◌+◌, ◌-◌, ℕ, List, length, get_or, set, Option, Some, None, ap, sym, arith}
use Rattle.thp_page.specs.Prelude.{padded}
use Rattle.thp_page.proofs.Paddings.{padded-set, padded-grown}
use Rattle.thp_page.proofs.PaddedNumbers.{number_seen, blocks_seen, get_or-no_more, length-reached_numbers}
use Rattle.thp_page.proofs.page_numbers.PageNumbers.place.Goals as goal

pub reach-requires-clause-inside : goal.reach-requires-clause-inside
reach-requires-clause-inside c =
    let s = c.self.inside in
    let ns = s.trees.numbers.items in
    let b = c.args.block in
    let all : length c.args.self.now ≡ s.blocks = blocks_seen s.blocks ns c.args.self.now c.self.invariant.1.few c.self.view_is in
    omega (arith, all, c.requires.inside)

pub place-requires-clause-inside : goal.place-requires-clause-inside
place-requires-clause-inside c =
    let s = c.self.inside in
    let ns = s.trees.numbers.items in
    let b = c.args.block in
    let all : length c.args.self.now ≡ s.blocks = blocks_seen s.blocks ns c.args.self.now c.self.invariant.1.few c.self.view_is in
    let ms = c.reach.new.trees.numbers.items in
    let size : length ms ≡ length ns + (b + 1 - length ns) = length-reached_numbers ns ms b c.reach.ensures.grown in
    omega (arith, size)

pub place-requires-clause-empty : goal.place-requires-clause-empty
place-requires-clause-empty c =
    let s = c.self.inside in
    let ns = s.trees.numbers.items in
    let b = c.args.block in
    let all : length c.args.self.now ≡ s.blocks = blocks_seen s.blocks ns c.args.self.now c.self.invariant.1.few c.self.view_is in
    let ms = c.reach.new.trees.numbers.items in
    let size : length ms ≡ length ns + (b + 1 - length ns) = length-reached_numbers ns ms b c.reach.ensures.grown in
    let seen : (x : ℕ) → get_or ms x None ≡ get_or c.args.self.now x None = λ x.
    ap (λ (os : List (Option ℕ)). get_or os x None) c.reach.ensures.grown ∙ get_or-no_more ns (b + 1 - length ns) x ∙ number_seen s.blocks ns c.args.self.now x c.self.view_is in
    seen b ∙ c.requires.empty

pub place-requires-clause-new : goal.place-requires-clause-new
place-requires-clause-new c x e =
    let s = c.self.inside in
    let ns = s.trees.numbers.items in
    let b = c.args.block in
    let all : length c.args.self.now ≡ s.blocks = blocks_seen s.blocks ns c.args.self.now c.self.invariant.1.few c.self.view_is in
    let ms = c.reach.new.trees.numbers.items in
    let size : length ms ≡ length ns + (b + 1 - length ns) = length-reached_numbers ns ms b c.reach.ensures.grown in
    let seen : (x : ℕ) → get_or ms x None ≡ get_or c.args.self.now x None = λ x.
    ap (λ (os : List (Option ℕ)). get_or os x None) c.reach.ensures.grown ∙ get_or-no_more ns (b + 1 - length ns) x ∙ number_seen s.blocks ns c.args.self.now x c.self.view_is in
    c.requires.new x (sym (seen x) ∙ e)

pub invariant_of-self : goal.invariant_of-self
invariant_of-self c = (c.place.ensures.searchable, c.place.ensures.room c.self.inside.blocks c.reach.ensures.room)

pub returns : goal.returns
returns c =
    let s = c.self.inside in
    let ns = s.trees.numbers.items in
    let b = c.args.block in
    let all : length c.args.self.now ≡ s.blocks = blocks_seen s.blocks ns c.args.self.now c.self.invariant.1.few c.self.view_is in
    let ms = c.reach.new.trees.numbers.items in
    let size : length ms ≡ length ns + (b + 1 - length ns) = length-reached_numbers ns ms b c.reach.ensures.grown in
    ap (λ (os : List (Option ℕ)). padded s.blocks None os) c.place.ensures.numbers ∙ padded-set None s.blocks ms b (Some c.args.id) (omega (arith, size))
    ∙ ap (λ (os : List (Option ℕ)). set os b (Some c.args.id))
    (ap (λ (os : List (Option ℕ)). padded s.blocks None os) c.reach.ensures.grown ∙ padded-grown None s.blocks ns (b + 1 - length ns) (omega (arith, all, c.requires.inside, c.self.invariant.1.few)) ∙ c.self.view_is)
