use Rattle.std.proofs.Common.{◌≡◌, ◌∙◌, ◌<◌, ℕ, zero, suc, List, [], ◌∷◌, length, Option, None, IsSome, get_or, ap, sym, subst, arith}
use Rattle.std.proofs.lemmas.List.{get_or_read}
use Rattle.thp_page.proofs.PaddedNumbers.{number_seen}
use Rattle.thp_page.proofs.page_numbers.PageNumbers.number.Goals as goal

inside : (ns : List (Option ℕ)) (b : ℕ) → IsSome (get_or ns b None) → b < length ns
inside [] b is = absurd (cc is)
inside (n ∷ ns) zero is = omega arith
inside (n ∷ ns) (suc b) is = omega (arith, inside ns b is)

pub index-requires : goal.index-requires
index-requires c =
    let ns = c.self.inside.trees.numbers.items in
    omega (arith, inside ns c.args.block (subst IsSome (sym (number_seen c.self.inside.blocks ns c.args.self.now c.args.block c.self.view_is)) c.requires))

pub unreachable-requires : goal.unreachable-requires
unreachable-requires c =
    let ns = c.self.inside.trees.numbers.items in
    let read = get_or_read ns c.args.block c.index.result.now (omega (arith, inside ns c.args.block (subst IsSome (sym (number_seen c.self.inside.blocks ns c.args.self.now c.args.block c.self.view_is)) c.requires))) c.index.ensures None in
    absurd (cc (subst IsSome (sym (number_seen c.self.inside.blocks ns c.args.self.now c.args.block c.self.view_is) ∙ sym read ∙ c.in-None.is) c.requires))

pub returns : goal.returns
returns c =
    let ns = c.self.inside.trees.numbers.items in
    let read = get_or_read ns c.args.block c.index.result.now (omega (arith, inside ns c.args.block (subst IsSome (sym (number_seen c.self.inside.blocks ns c.args.self.now c.args.block c.self.view_is)) c.requires))) c.index.ensures None in
    sym (number_seen c.self.inside.blocks ns c.args.self.now c.args.block c.self.view_is) ∙ sym read ∙ c.in-Some.is
