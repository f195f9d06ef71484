use Rattle.std.proofs.Common.{◌≡◌, ◌≢◌, ◌∙◌, ◌<◌, ◌+◌, ◌-◌, ◌/◌, ◌^◌, ℕ, suc, List, Option, Some, None, length, get_or, set, ap, sym, refl, arith, inl, inr, length-set}
use Rattle.std.proofs.lemmas.Bool.{cases_eq}
use Rattle.std.proofs.lemmas.List.{get_or_read, get_or-set_same, get_or-set_other}
use Rattle.std.proofs.lemmas.Nat.{pow_pos}
use Rattle.thp_links.specs.declared.link.TheConstants.{NIL}
use Rattle.thp_page.specs.Prelude.{Root, block_in, number_at}
use Rattle.thp_page.proofs.LowBits.{double}
use Rattle.thp_page.proofs.Hanging.{no_number}
use Rattle.thp_page.proofs.TreeSteps.{number_inside}
use Rattle.thp_page.proofs.SplitSteps.{grown_trees, parted_trees, room_parted, same_items, same_room, set_back}
use Rattle.thp_page.proofs.number_trees.NumberTrees.split.Goals as goal

pub returns-then-root-clause-searchable : goal.returns-then-root-clause-searchable
returns-then-root-clause-searchable c =
    let t = c.args.self.now in
    let s = c.requires.searchable in
    let ns = t.numbers.items in
    let b = c.index-root.result.now in
    let j : ℕ = c.len.result - 1 - t.mask / 2 in
    let size : j + 2 ^ t.bits ≡ length t.roots.items = omega (arith, s.mask, s.hung.least, double t.bits, pow_pos t.bits) in
    let more : length t.roots.items < 2 ^ suc t.bits = omega (arith, s.mask, c.requires.below, pow_pos (suc t.bits)) in
    let root : b ≡ block_in t (Root j) = get_or_read t.roots.items j b (omega (arith, size, pow_pos t.bits)) c.index-root.ensures NIL in
    grown_trees t _ j s size more (sym root ∙ c.if-root.true) refl refl c.push_reserved.ensures.items refl refl

pub index-requires : goal.index-requires
index-requires c =
    let t = c.args.self.now in
    let s = c.requires.searchable in
    let ns = t.numbers.items in
    let b = c.index-root.result.now in
    let j : ℕ = c.len.result - 1 - t.mask / 2 in
    let size : j + 2 ^ t.bits ≡ length t.roots.items = omega (arith, s.mask, s.hung.least, double t.bits, pow_pos t.bits) in
    let more : length t.roots.items < 2 ^ suc t.bits = omega (arith, s.mask, c.requires.below, pow_pos (suc t.bits)) in
    let root : b ≡ block_in t (Root j) = get_or_read t.roots.items j b (omega (arith, size, pow_pos t.bits)) c.index-root.ensures NIL in
    let k = s.hung.held (Root j) (λ z. c.if-root.false (root ∙ z)) in
    let inside : b < length ns = omega (arith, root, number_inside ns (block_in t (Root j)) k.number k.numbered) in
    omega (arith, inside)

pub unreachable-requires : goal.unreachable-requires
unreachable-requires c =
    let t = c.args.self.now in
    let s = c.requires.searchable in
    let ns = t.numbers.items in
    let b = c.index-root.result.now in
    let j : ℕ = c.len.result - 1 - t.mask / 2 in
    let size : j + 2 ^ t.bits ≡ length t.roots.items = omega (arith, s.mask, s.hung.least, double t.bits, pow_pos t.bits) in
    let more : length t.roots.items < 2 ^ suc t.bits = omega (arith, s.mask, c.requires.below, pow_pos (suc t.bits)) in
    let root : b ≡ block_in t (Root j) = get_or_read t.roots.items j b (omega (arith, size, pow_pos t.bits)) c.index-root.ensures NIL in
    let k = s.hung.held (Root j) (λ z. c.if-root.false (root ∙ z)) in
    let inside : b < length ns = omega (arith, root, number_inside ns (block_in t (Root j)) k.number k.numbered) in
    no_number c.index.result.now k.number c.in_default.is (get_or_read ns b c.index.result.now inside c.index.ensures None ∙ ap (λ (x : ℕ). number_at t x) root ∙ k.numbered)

pub index_mut-requires : goal.index_mut-requires
index_mut-requires c =
    let t = c.args.self.now in
    let s = c.requires.searchable in
    let ns = t.numbers.items in
    let b = c.index-root.result.now in
    let j : ℕ = c.len.result - 1 - t.mask / 2 in
    let size : j + 2 ^ t.bits ≡ length t.roots.items = omega (arith, s.mask, s.hung.least, double t.bits, pow_pos t.bits) in
    let more : length t.roots.items < 2 ^ suc t.bits = omega (arith, s.mask, c.requires.below, pow_pos (suc t.bits)) in
    let root : b ≡ block_in t (Root j) = get_or_read t.roots.items j b (omega (arith, size, pow_pos t.bits)) c.index-root.ensures NIL in
    let k = s.hung.held (Root j) (λ z. c.if-root.false (root ∙ z)) in
    let inside : b < length ns = omega (arith, root, number_inside ns (block_in t (Root j)) k.number k.numbered) in
    omega (arith, inside)

pub part-requires-clause-root : goal.part-requires-clause-root
part-requires-clause-root c =
    let t = c.args.self.now in
    let s = c.requires.searchable in
    let ns = t.numbers.items in
    let b = c.index-root.result.now in
    let j : ℕ = c.len.result - 1 - t.mask / 2 in
    let size : j + 2 ^ t.bits ≡ length t.roots.items = omega (arith, s.mask, s.hung.least, double t.bits, pow_pos t.bits) in
    let more : length t.roots.items < 2 ^ suc t.bits = omega (arith, s.mask, c.requires.below, pow_pos (suc t.bits)) in
    let root : b ≡ block_in t (Root j) = get_or_read t.roots.items j b (omega (arith, size, pow_pos t.bits)) c.index-root.ensures NIL in
    let k = s.hung.held (Root j) (λ z. c.if-root.false (root ∙ z)) in
    let inside : b < length ns = omega (arith, root, number_inside ns (block_in t (Root j)) k.number k.numbered) in
    omega (arith, inside, length-set ns b None)

pub place-requires-clause-searchable : goal.place-requires-clause-searchable
place-requires-clause-searchable c =
    let t = c.args.self.now in
    let s = c.requires.searchable in
    let ns = t.numbers.items in
    let b = c.index-root.result.now in
    let j : ℕ = c.len.result - 1 - t.mask / 2 in
    let size : j + 2 ^ t.bits ≡ length t.roots.items = omega (arith, s.mask, s.hung.least, double t.bits, pow_pos t.bits) in
    let more : length t.roots.items < 2 ^ suc t.bits = omega (arith, s.mask, c.requires.below, pow_pos (suc t.bits)) in
    let root : b ≡ block_in t (Root j) = get_or_read t.roots.items j b (omega (arith, size, pow_pos t.bits)) c.index-root.ensures NIL in
    let k = s.hung.held (Root j) (λ z. c.if-root.false (root ∙ z)) in
    let inside : b < length ns = omega (arith, root, number_inside ns (block_in t (Root j)) k.number k.numbered) in
    let has : number_at t b ≡ Some c.in-Some.id = sym (get_or_read ns b c.index.result.now inside c.index.ensures None) ∙ c.in-Some.is in
    parted_trees t _ c.part.new.self j b c.in-Some.id s size more (sym root) c.if-root.false has refl refl refl refl refl (same_items _ c.part.new.self _ _ c.part.ensures) c.part.ensures

pub place-requires-clause-inside : goal.place-requires-clause-inside
place-requires-clause-inside c =
    let t = c.args.self.now in
    let s = c.requires.searchable in
    let ns = t.numbers.items in
    let b = c.index-root.result.now in
    let j : ℕ = c.len.result - 1 - t.mask / 2 in
    let size : j + 2 ^ t.bits ≡ length t.roots.items = omega (arith, s.mask, s.hung.least, double t.bits, pow_pos t.bits) in
    let more : length t.roots.items < 2 ^ suc t.bits = omega (arith, s.mask, c.requires.below, pow_pos (suc t.bits)) in
    let root : b ≡ block_in t (Root j) = get_or_read t.roots.items j b (omega (arith, size, pow_pos t.bits)) c.index-root.ensures NIL in
    let k = s.hung.held (Root j) (λ z. c.if-root.false (root ∙ z)) in
    let inside : b < length ns = omega (arith, root, number_inside ns (block_in t (Root j)) k.number k.numbered) in
    omega (arith, inside, length-set ns b None, ap (λ (os : List (Option ℕ)). length os) (same_items _ c.part.new.self _ _ c.part.ensures))

pub place-requires-clause-new : goal.place-requires-clause-new
place-requires-clause-new c x e =
    let t = c.args.self.now in
    let s = c.requires.searchable in
    let ns = t.numbers.items in
    let b = c.index-root.result.now in
    let j : ℕ = c.len.result - 1 - t.mask / 2 in
    let size : j + 2 ^ t.bits ≡ length t.roots.items = omega (arith, s.mask, s.hung.least, double t.bits, pow_pos t.bits) in
    let more : length t.roots.items < 2 ^ suc t.bits = omega (arith, s.mask, c.requires.below, pow_pos (suc t.bits)) in
    let root : b ≡ block_in t (Root j) = get_or_read t.roots.items j b (omega (arith, size, pow_pos t.bits)) c.index-root.ensures NIL in
    let k = s.hung.held (Root j) (λ z. c.if-root.false (root ∙ z)) in
    let inside : b < length ns = omega (arith, root, number_inside ns (block_in t (Root j)) k.number k.numbered) in
    let has : number_at t b ≡ Some c.in-Some.id = sym (get_or_read ns b c.index.result.now inside c.index.ensures None) ∙ c.in-Some.is in
    let items : c.part.new.self.numbers.items ≡ set ns b None = same_items _ c.part.new.self _ _ c.part.ensures in
    elim (cases_eq x b) [
      | inl y ↦ no_number (number_at c.part.new.self x) c.in-Some.id (ap (λ (os : List (Option ℕ)). get_or os x None) items ∙ ap (λ (n : ℕ). get_or (set ns b None) n None) y ∙ get_or-set_same ns b None None inside) e
      | inr ne ↦ ne (s.hung.single x b c.in-Some.id (sym (ap (λ (os : List (Option ℕ)). get_or os x None) items ∙ get_or-set_other ns b x None None ne) ∙ e) has)
    ]

pub returns-clause-numbers : goal.returns-clause-numbers
returns-clause-numbers c =
    let t = c.args.self.now in
    let s = c.requires.searchable in
    let ns = t.numbers.items in
    let b = c.index-root.result.now in
    let j : ℕ = c.len.result - 1 - t.mask / 2 in
    let size : j + 2 ^ t.bits ≡ length t.roots.items = omega (arith, s.mask, s.hung.least, double t.bits, pow_pos t.bits) in
    let more : length t.roots.items < 2 ^ suc t.bits = omega (arith, s.mask, c.requires.below, pow_pos (suc t.bits)) in
    let root : b ≡ block_in t (Root j) = get_or_read t.roots.items j b (omega (arith, size, pow_pos t.bits)) c.index-root.ensures NIL in
    let k = s.hung.held (Root j) (λ z. c.if-root.false (root ∙ z)) in
    let inside : b < length ns = omega (arith, root, number_inside ns (block_in t (Root j)) k.number k.numbered) in
    let has : number_at t b ≡ Some c.in-Some.id = sym (get_or_read ns b c.index.result.now inside c.index.ensures None) ∙ c.in-Some.is in
    c.place.ensures.numbers ∙ ap (λ (os : List (Option ℕ)). set os b (Some c.in-Some.id)) (same_items _ c.part.new.self _ _ c.part.ensures) ∙ set_back ns b c.in-Some.id has

pub returns-clause-room : goal.returns-clause-room
returns-clause-room c =
    let t = c.args.self.now in
    let s = c.requires.searchable in
    let ns = t.numbers.items in
    let b = c.index-root.result.now in
    let j : ℕ = c.len.result - 1 - t.mask / 2 in
    let size : j + 2 ^ t.bits ≡ length t.roots.items = omega (arith, s.mask, s.hung.least, double t.bits, pow_pos t.bits) in
    let more : length t.roots.items < 2 ^ suc t.bits = omega (arith, s.mask, c.requires.below, pow_pos (suc t.bits)) in
    let root : b ≡ block_in t (Root j) = get_or_read t.roots.items j b (omega (arith, size, pow_pos t.bits)) c.index-root.ensures NIL in
    c.place.ensures.room c.args.blocks
    (room_parted c.args.blocks t _ c.part.new.self j b c.requires.room (length-set ns b None) refl refl refl
    (ap (λ (os : List (Option ℕ)). length os) (same_items _ c.part.new.self _ _ c.part.ensures)) (same_room _ c.part.new.self _ _ c.part.ensures) c.part.ensures)
