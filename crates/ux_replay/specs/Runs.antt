-- Which histories are runs of a script by threads.
use Rattle.std.specs.Prelude.{◌≡◌, ◌≤◌, ℕ, zero, suc, ◌==◌, List, [], ◌∷◌, ◌++◌, map, filter, if◌then◌else◌}
use Rattle.ux_model.specs.Types.{Request, Entry}
use Rattle.ux_model.specs.State.{State}
use Rattle.ux_model.specs.History.{IsLegal}
use Rattle.ux_syntax.specs.declared.script.Act.{Act}
use Rattle.ux_syntax.specs.Lines.{Line}
use Rattle.ux_syntax.specs.Spelling.{Plan, known_count}
use Rattle.ux_syntax.specs.Turns.{has_exited}

-- what a process asked for, in order
abbrev pub requests_of : ℕ → List Entry → List Request
requests_of p entries = map (λ e. e.request) (filter (λ e. e.pid.0 == p) entries)

-- what a line asks for, before these calls; a wait is none
abbrev pub called : Act → List Request → List Request
called (Act.Call request) more = request ∷ more
called (Act.Wait pid calls) more = more

-- the calls of a process's lines, in order
abbrev pub asked : ℕ → List Line → List Request
asked p [] = []
asked p (l ∷ ls) = if l.pid.0 == p then called l.act (asked p ls) else asked p ls

-- what follows them: the exit of a process that has no line for it, and of nobody the end of the layer, where the script has it
abbrev pub ending : Plan → ℕ → List Request
ending s zero = if s.off then Request.Off ∷ [] else []
ending s (suc p) = if has_exited s.lines (suc p) then [] else Request.Exit ∷ []

-- the calls of a process, in order
abbrev pub turns : Plan → ℕ → List Request
turns s p = asked p s.lines ++ ending s p

-- each process, those that are forked included, makes the script's calls for it, in order and no others
abbrev pub MakesAll : Plan → List Entry → Type 0
MakesAll s entries = (p : ℕ) → p ≤ known_count s → requests_of p entries ≡ turns s p

-- a legal history from this state, in which they do
pub record Runs (boot : State) (s : Plan) (entries : List Entry) : Type 0 where
  pub legal : IsLegal boot entries
  pub calls : MakesAll s entries

-- the one list is the first of the other
abbrev pub IsFront : List Request → List Request → Type 0
IsFront front whole = (more : List Request) × (front ++ more ≡ whole)

-- each process, those that are forked included, makes the first of the script's calls for it, in order and no others
abbrev pub MakesFirst : Plan → List Entry → Type 0
MakesFirst s entries = (p : ℕ) → p ≤ known_count s → IsFront (requests_of p entries) (turns s p)

-- a legal history from this state, in which they do
pub record HasBegun (boot : State) (s : Plan) (entries : List Entry) : Type 0 where
  pub legal : IsLegal boot entries
  pub calls : MakesFirst s entries
