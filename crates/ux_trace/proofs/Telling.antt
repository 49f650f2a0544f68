-- The texts of fields that a request lends.
use Rattle.std.proofs.Common.{◌≡◌, List, [], ◌∷◌, Option, map, refl, ap}
use Rattle.ux_model.specs.Control.{Control}
use Rattle.ux_fields.specs.declared.Field.{Field}
use Rattle.ux_fields.specs.Seen.{seen}
use Rattle.ux_trace.specs.Echoes.{telling}

pub each_told : (read : Option Control) (fields : List Field) →
    map (λ field. telling read (seen field)) fields ≡ map (telling read) (map seen fields)
each_told read [] = refl
each_told read (field ∷ fields) = ap (λ texts. telling read (seen field) ∷ texts) (each_told read fields)
