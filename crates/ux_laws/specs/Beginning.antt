-- Processes of the start.
use Rattle.std.specs.Prelude.{◌≡◌, ◌≢◌, ◌⊎◌, ℕ, ◌<◌, ◌≤◌, true, List, length, Some}
use Rattle.std.specs.List.{slice_get}
use Rattle.ux_model.specs.Types.{Request, Entry}
use Rattle.ux_model.specs.State.{State}
use Rattle.ux_model.specs.History.{makes, IsLegal}

-- one of them has this number
abbrev pub IsOfTheStart : State → ℕ → Type 0
IsOfTheStart boot p = (1 ≤ p) × (p ≤ length boot.processes)

-- no fork makes one of them
abbrev pub NobodyMakesThem : Type 0
NobodyMakesThem = (boot : State) (entries : List Entry) (j q : ℕ) (e : Entry) → IsLegal boot entries → slice_get entries j ≡ Some e →
    makes q e.request e.reply ≡ true → length boot.processes < q

-- where they never fork, each call is theirs, or the layer's end
abbrev pub AllCallsAreTheirs : Type 0
AllCallsAreTheirs = (boot : State) (entries : List Entry) (j : ℕ) (e : Entry) → IsLegal boot entries →
    ((i : ℕ) (x : Entry) → slice_get entries i ≡ Some x → IsOfTheStart boot x.pid.0 → x.request ≢ Request.Fork) →
    slice_get entries j ≡ Some e → (e.request ≡ Request.Off) ⊎ IsOfTheStart boot e.pid.0
