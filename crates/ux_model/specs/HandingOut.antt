-- What is handed out with a reply: the file objects that go with it.
use Rattle.std.specs.Prelude.{◌≡◌, ℕ, Option, Some, IsSomeAnd}
use Rattle.std.specs.List.{AllByRecursion}
use Rattle.ux_model.specs.Types.{Request, Reply}
use Rattle.ux_model.specs.Places.{place}
use Rattle.ux_model.specs.Object.{View, closed}
use Rattle.ux_model.specs.State.{State}
use Rattle.ux_model.specs.Release.{released_objects}
use Rattle.ux_model.specs.Outcome.{Chosen}
use Rattle.ux_model.specs.Step.{outcome}

-- a file object that is handed out is the one that was held under its number, closed
abbrev pub IsHandedOut : State → ℕ × Option View → Type 0
IsHandedOut S r = IsSomeAnd (place S.objects r.0) (λ view. r.1 ≡ Some (closed view))

-- so each that goes at the end of a call, of whatever state
abbrev pub HandsOutWhatWasHeld : Type 0
HandsOutWhatWasHeld = (S T : State) (p tag : ℕ) (request : Request) (reply : Reply) → Chosen S (outcome S p tag request) reply T →
    AllByRecursion (IsHandedOut S) (released_objects T)
