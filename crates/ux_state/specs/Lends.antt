-- What the processes of a state end as, where a `&mut` to one of them is returned.
use denote.RattleType.{RattleType}
use Rattle.std.specs.Prelude.{ℕ, ◌-◌}
use Rattle.std.specs.Borrow.{Lends, Fml, MutBor}
use Rattle.std.specs.Vec.{with_item}
use Rattle.std.specs.contracts.alloc.Global as global
use Rattle.std.specs.contracts.vec.Vec as vec
use Rattle.std.specs.contracts.impls.GlobalAllocator.TheImpl.{ghosts}
use Rattle.ux_state.specs.contracts.process.Process as process

-- the processes, as the logic holds them
abbrev pub processes_row : RattleType
processes_row = vec.the_row process.the_row global.the_row ghosts

-- once the borrow r ends, process p has the last value written through r
abbrev pub lends_process : MutBor processes_row.Denot → ℕ → MutBor process.the_row.Denot → Fml
lends_process processes p r = Lends processes_row process.the_row processes r (with_item processes.now (p - 1))
