-- What an entry reports of the numbers that it gave, without the state in which its call was made.
use Rattle.std.specs.Prelude.{ℕ, Bool, ◌==◌, ◌&&◌, ◌||◌, List, []}
use Rattle.std.specs.List.{list_any}
use Rattle.ux_model.specs.Types.{Request, Reply, Entry}
use Rattle.ux_model.specs.ControlReading.{control_in}
use Rattle.ux_model.specs.State.{State}
use Rattle.ux_model.specs.History.{makes, IsLegal}
use Rattle.ux_model.specs.Giving.{numbers_told, rights_in}

-- a legal history of some boot state
abbrev pub IsHistory : List Entry → Type 0
IsHistory entries = (boot : State) × IsLegal boot entries

-- the numbers that the control buffer of a receive spells
abbrev pub numbers_read : Reply → List ℕ
numbers_read (Reply.Received flags count bytes control from) = rights_in (control_in control)
numbers_read _ = []

-- the numbers that the call gave its process anew, in order
abbrev pub shown : Request → Reply → List ℕ
shown (Request.RecvMsg fd n space flags) reply = numbers_read reply
shown request reply = numbers_told request reply

-- the entry gave its own process the number
abbrev pub shows : Entry → ℕ → ℕ → Bool
shows e p n = (e.pid.0 == p) && list_any (λ m. m == n) (shown e.request e.reply)

-- the entry gave process p the number; fork(2) gives a child each of its numbers
abbrev pub gave : Entry → ℕ → ℕ → Bool
gave e p n = makes p e.request e.reply || shows e p n
