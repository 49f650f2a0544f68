-- What contracts see of an object that never fails.
use Rattle.std.specs.Prelude.{ℕ, Bool, true, List}
use Rattle.ux_model.specs.Object.{memory, counter, pipe, View}

-- whether it is open, and what is in it
pub record Faultless (A : Type 0) : Type 0 where
  pub opened : Bool
  pub content : A

-- one that was just made
abbrev pub opened_with : {A : Type 0} → A → Faultless A
opened_with content = record { opened = true; content = content }

abbrev pub memory_view : Faultless (List ℕ) → View
memory_view f = record { opened = f.opened; body = memory f.content; faults = 0 }

-- of a counter: whether it is a semaphore, and its value
abbrev pub counter_view : Faultless (Bool × ℕ) → View
counter_view c = record { opened = c.opened; body = counter c.content.0 c.content.1; faults = 0 }

abbrev pub pipe_view : Faultless (List ℕ) → View
pipe_view p = record { opened = p.opened; body = pipe p.content; faults = 0 }
