use Rattle.std.proofs.Common.{◌≡◌, ◌∙◌, ℕ, arith, sym, refl, ap, subst, unwrap_or}
use Rattle.std.specs.Str.Parse.{ExplainsUnsignedError, HasUnsignedDigitsIfOk, ParsesUnsigned}
use Rattle.clap.specs.Words.{found_of, one_text}
use Rattle.thp_cli.specs.Prelude.{WritesNumber}
use Rattle.thp_cli.proofs.LineLaws.{number_read}
use Rattle.thp_cli.proofs.line.number_of.Goals as goal

pub unwrap-requires : goal.unwrap-requires
unwrap-requires c =
    let got = number_read _ (λ bs r. ParsesUnsigned 32 10 bs r × ExplainsUnsignedError 10 bs r × HasUnsignedDigitsIfOk bs r) 1 c.requires.0 (found_of c.args.matches.now) c.args.id.now c.get_one.result c.get_one.ensures.value (λ u x g. g.0) c.requires.1 c.requires.2 in
    rw got.1 refl

pub returns-clause-written : goal.returns-clause-written
returns-clause-written c =
    let found = found_of c.args.matches.now in
    let got = number_read _ (λ bs r. ParsesUnsigned 32 10 bs r × ExplainsUnsignedError 10 bs r × HasUnsignedDigitsIfOk bs r) 1 c.requires.0 found c.args.id.now c.get_one.result c.get_one.ensures.value (λ u x g. g.0) c.requires.1 c.requires.2 in
    let same : got.0 ≡ c.unwrap.result = ap (λ o. unwrap_or o 0) (sym got.1 ∙ c.unwrap.ensures) in
    subst (λ (n : ℕ). WritesNumber (one_text found c.args.id.now) n) same got.4

pub returns-clause-least : goal.returns-clause-least
returns-clause-least c =
    let got = number_read _ (λ bs r. ParsesUnsigned 32 10 bs r × ExplainsUnsignedError 10 bs r × HasUnsignedDigitsIfOk bs r) 1 c.requires.0 (found_of c.args.matches.now) c.args.id.now c.get_one.result c.get_one.ensures.value (λ u x g. g.0) c.requires.1 c.requires.2 in
    let same : got.0 ≡ c.unwrap.result = ap (λ o. unwrap_or o 0) (sym got.1 ∙ c.unwrap.ensures) in
    omega arith

pub returns-clause-most : goal.returns-clause-most
returns-clause-most c = λ high fits value.
    let got = number_read _ (λ bs r. ParsesUnsigned 32 10 bs r × ExplainsUnsignedError 10 bs r × HasUnsignedDigitsIfOk bs r) 1 high (found_of c.args.matches.now) c.args.id.now c.get_one.result c.get_one.ensures.value (λ u x g. g.0) fits value in
    let same : got.0 ≡ c.unwrap.result = ap (λ o. unwrap_or o 0) (sym got.1 ∙ c.unwrap.ensures) in
    omega arith
