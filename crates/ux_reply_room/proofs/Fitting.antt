-- What fits into a room fits into a larger one.
use Rattle.std.proofs.Common.{arith}
use Rattle.ux_model.specs.Rooms.{Size, Fits}

pub fits_trans : (a b c : Size) → Fits a b → Fits b c → Fits a c
fits_trans a b c small large = record {
  data_fits = omega (arith, small.data_fits, large.data_fits);
  control_fits =
      omega (arith, small.control_fits, large.control_fits);
  name_fits = omega (arith, small.name_fits, large.name_fits);
}
