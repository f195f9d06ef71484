use Rattle.thp_check.specs.Prelude.{ExpectedFits}
use Rattle.thp_check.proofs.Fitting.{fits_in_place}
use Rattle.thp_check.proofs.laws.what_is_expected_fits.Goals as goal

pub returns : goal.returns
unfolding ExpectedFits
returns c = fits_in_place
