-- What becomes of a call under a token of the trail.
use Rattle.std.specs.Prelude.{◌≡◌, ℕ, List, [], ◌∷◌, ◌++◌, length, map, Option}
use Rattle.std.specs.List.{AllByRecursion}
use Rattle.atomic_table.specs.Seated.{TableId}
use Rattle.ux_model.specs.Types.{Pid, Request, Reply}
use Rattle.ux_model.specs.Object.{View}
use Rattle.ux_model.specs.HandingOut.{IsHandedOut}
use Rattle.ux_book.specs.Books.{KeptHistory, state_of, entry_of, Adds}
use Rattle.ux_book.specs.Trails.{Owned, Placed}

-- one more entry of the book, which stands at this place, and one more call of the token
pub record IsAppended (id : TableId) (old new : KeptHistory) (before after : Owned) (pid : Pid) (k : ℕ) (request : Request) (reply : Reply)
    (place : Placed) (released : List (ℕ × Option View)) : Type 0 where
  pub adds : Adds old new (entry_of (state_of old) pid k request reply (map (λ o. o.0) released))
  pub token : after ≡ record before { past = before.past ++ record { request = request; reply = reply } ∷ [] }
  pub place_is : place
      ≡ record { id = id; number = length old.entries; entry = entry_of (state_of old) pid k request reply (map (λ o. o.0) released) }
  pub handed_out : AllByRecursion (IsHandedOut (state_of old)) released

-- nothing has changed, and nothing went
pub record IsIdle (old new : KeptHistory) (before after : Owned) (released : List (ℕ × Option View)) : Type 0 where
  pub book : new ≡ old
  pub token : after ≡ before
  pub none : released ≡ []
