-- The objects of a poll's descriptors, as far as a loop has come.
use Rattle.std.proofs.Common.{◌≡◌, ℕ, ◌+◌, ◌<◌, List, [], ◌∷◌, ◌++◌, Some, get_or, length, take, map, codes, sym, ap, ◌∙◌}
use Rattle.std.proofs.lemmas.List.{map-append, map_more}
use Rattle.serde_json.specs.Data.{number, unsigned}
use Rattle.serde_json.specs.Find.{get}
use Rattle.serde_json.specs.View.{view}
use Rattle.serde_json.specs.declared.value.Value.{Value}
use Rattle.ux_model.specs.Types.{PollFd}
use Rattle.ux_json.specs.Arguments.{AreAsked}

-- one more descriptor
pub asked_more : (fds : List PollFd) (i : ℕ) (none : PollFd) (values more : List Value) (v : Value) → i < length fds →
    AreAsked (take i fds) (map view values) → get (codes "fd") (view v) ≡ Some (number (unsigned (get_or fds i none).fd.0)) →
    more ≡ values ++ v ∷ [] → AreAsked (take (i + 1) fds) (map view more)
asked_more fds i none values more v lt so_far here e =
    ap (λ (vs : List Value). map (get (codes "fd")) (map view vs)) e ∙ ap (map (get (codes "fd"))) (map-append view values (v ∷ []))
    ∙ map-append (get (codes "fd")) (map view values) (view v ∷ [])
    ∙ rw (so_far, here) (sym (map_more (λ (asked : PollFd). Some (number (unsigned asked.fd.0))) fds i none lt))
