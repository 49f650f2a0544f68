use Rattle.std.proofs.Common.{take}
use Rattle.ux_model.specs.State.{State}
use Rattle.ux_model.specs.History.{replay, IsLegal}
use Rattle.ux_audit.specs.Flags.{AreFlags, AreSmall}
use Rattle.ux_audit.specs.Givers.{AreGivers}
use Rattle.ux_audit.proofs.index.Index.of.Given as goal

abbrev pub invariant-loop-place : goal.invariant-loop-place
invariant-loop-place l = record {
  givers : AreGivers l.entries l.place l.index.births.items l.index.rows.items;
  flags : (boot : State) → IsLegal boot l.entries → AreFlags (replay boot (take l.place l.entries)) l.index.tables.items;
  small : AreSmall l.index.tables.items;
}
