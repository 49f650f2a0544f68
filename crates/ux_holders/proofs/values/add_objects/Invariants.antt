use Rattle.std.proofs.Common.{◌≡◌, ◌++◌, codes, map, take}
use Rattle.serde_json.specs.Find.{get}
use Rattle.serde_json.specs.View.{view}
use Rattle.ux_holders.specs.Kinds.{each}
use Rattle.ux_holders.proofs.values.add_objects.Given as goal

-- those of the rows so far were added
abbrev pub invariant-loop-row : goal.invariant-loop-row
invariant-loop-row l =
    map (λ v. get (codes "kind") (view v)) l.values.items
    ≡ map (λ v. get (codes "kind") (view v)) l.fn.values.items ++ each (codes "object") (take l.row-index l.rows)
