-- What was found in the entries of a history.
use Rattle.std.specs.Prelude.{List, length}
use Rattle.ux_model.specs.Types.{Entry}
use Rattle.ux_model.specs.State.{State}
use Rattle.ux_model.specs.History.{replay, IsLegal}
use Rattle.ux_audit.specs.Flags.{AreFlags, AreSmall}
use Rattle.ux_audit.specs.Givers.{AreGivers}
use Rattle.ux_audit.specs.declared.index.Index.{Index}

pub record IsIndex (entries : List Entry) (index : Index) : Type 0 where
  pub givers : AreGivers entries (length entries) index.births.items index.rows.items
  pub flags : (boot : State) → IsLegal boot entries → AreFlags (replay boot entries) index.tables.items
  pub small : AreSmall index.tables.items
