-- Where processes wait for one another, in the words of a report.
use Rattle.std.specs.Prelude.{ℕ, List, [], ◌∷◌, ◌++◌, codes, decimal}
use Rattle.std.specs.List.{flat_map}
use Rattle.ux_model.specs.Types.{Pid}

abbrev pub place_text : Pid × ℕ → List ℕ
place_text p = codes "process " ++ (decimal p.0.0 ++ (codes " waits in line " ++ decimal p.1))

abbrev pub further_places : List (Pid × ℕ) → List ℕ
further_places places = flat_map (λ p. codes ", " ++ place_text p) places

-- processes and the lines that they wait in, joined by a comma and a blank
abbrev pub waiting_text : List (Pid × ℕ) → List ℕ
waiting_text [] = []
waiting_text (p ∷ ps) = place_text p ++ further_places ps
