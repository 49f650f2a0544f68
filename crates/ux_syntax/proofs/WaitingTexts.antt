-- The text of processes that wait, as far as a loop has come.
use Rattle.std.proofs.Common.{◌≡◌, ℕ, ◌+◌, ◌<◌, get_or, take, codes, List, [], ◌++◌, length}
use Rattle.std.proofs.lemmas.List.{take_more, flat_map_more}
use Rattle.ux_model.specs.Types.{Pid}
use Rattle.ux_syntax.specs.WaitingPlaces.{place_text, further_places}

abbrev no_place : Pid × ℕ
no_place = (record { 0 = 0 }, 0)

-- one more process that waits
pub place_more : (places : List (Pid × ℕ)) (i : ℕ) → i < length places
    → further_places (take i places) ++ (codes ", " ++ place_text (get_or places i no_place)) ≡ further_places (take (i + 1) places)
place_more places i lt = rw (take_more places i no_place lt)
    (flat_map_more (λ p. codes ", " ++ place_text p) [] (take i places) (get_or places i no_place))
