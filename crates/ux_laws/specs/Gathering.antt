-- What the calls of a history do, gathered call by call.
use Rattle.std.specs.Prelude.{ℕ, ◌+◌, List, [], ◌∷◌, ◌++◌}
use Rattle.ux_model.specs.Types.{Entry}
use Rattle.ux_model.specs.State.{State}
use Rattle.ux_model.specs.Step.{after}

-- by what each does, given by its number and the state that it is made in, where the first has number n
abbrev pub gather_from : {X : Type 0} → (ℕ → State → Entry → List X) → ℕ → State → List Entry → List X
gather_from does n S [] = []
gather_from does n S (e ∷ es) = does n S e ++ gather_from does (n + 1) (after S e.pid.0 n e.request e.reply) es

abbrev pub gathered : {X : Type 0} → (ℕ → State → Entry → List X) → State → List Entry → List X
gathered does boot entries = gather_from does 0 boot entries
