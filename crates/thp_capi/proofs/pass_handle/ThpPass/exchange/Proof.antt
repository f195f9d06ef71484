-- `exchange` is the walk that all handles share.
use Rattle.std.proofs.Common.{refl}
use Rattle.thp_capi.specs.Rows.{pass_row}
use Rattle.thp_capi.specs.contracts.pass_handle.ThpPass.{the_type}
use Rattle.thp_capi.specs.contracts.pass_handle.ThpPass.exchange.Key.{name as #self}
use Rattle.thp_capi.proofs.Exchanges.{Seen, exchanged}
use Rattle.thp_capi.proofs.pass_handle.ThpPass.exchange.Statement.{statement}
use Rattle.thp_capi.proofs.pass_handle.ThpPass.exchange.Code as code

abbrev seen : Seen
seen = record {
  R = pass_row;
  type = the_type;
  at = λ d. d.at;
  live = λ d. d.live;
  held = λ d. d.held;
  make = λ p n v. record { at = p; live = n; held = v };
  at_is = λ p n v. refl;
  live_is = λ p n v. refl;
  held_is = λ p n v. refl;
}

pub exchange_spec : {M : Type 1} → statement M
exchange_spec 𝓤 𝓛 𝓜 𝓡 wired = exchanged seen 𝓤 𝓛 𝓜 𝓡 #self (code.unfolded 𝓤 𝓛.H 𝓜 𝓡 wired)
