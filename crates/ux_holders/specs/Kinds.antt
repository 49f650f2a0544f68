-- What is told of each thing of a snapshot.
use Rattle.std.specs.Prelude.{ℕ, List, map, Option, Some}
use Rattle.serde_json.specs.Data.{Data, string}

-- this word as often as there are rows
abbrev pub each : {A : Type 0} → List ℕ → List A → List (Option Data)
each word rows = map (λ _. Some (string word)) rows
