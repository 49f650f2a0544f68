-- What the code has found in a buffer, its numbers read.
use Rattle.std.specs.Prelude.{option_map}
use Rattle.ux_model.specs.ControlReading.{Found, numbers_in}
use Rattle.ux_cmsg.specs.declared.reading.Parts.{Parts}

abbrev pub parts_view : Parts → Found
parts_view parts = record { cred = parts.cred; rights = option_map (λ payload. numbers_in payload.now) parts.rights }
