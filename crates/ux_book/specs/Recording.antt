-- What becomes of a call through a book: it is made, or nothing changes.
use Rattle.std.specs.Prelude.{◌≡◌, ℕ, List, [], map, Option}
use Rattle.std.specs.List.{AllByRecursion}
use Rattle.ux_model.specs.Types.{Request, Reply}
use Rattle.ux_model.specs.Object.{View}
use Rattle.ux_model.specs.State.{State}
use Rattle.ux_model.specs.HandingOut.{IsHandedOut}
use Rattle.ux_model.specs.History.{IsLegal}
use Rattle.ux_book.specs.Pasts.{Caller, calls_by, made, IsOf}
use Rattle.ux_book.specs.Books.{KeptHistory, state_of, entry_of, call_by, Adds}

-- The book began in this state, its entries are a legal history, and the caller knows exactly its process's calls in them.
pub record Knows (boot : State) (book : KeptHistory) (c : Caller) : Type 0 where
  pub boot_is : book.boot ≡ boot
  pub legal : IsLegal book.boot book.entries
  pub exactly : calls_by c.pid.0 book.entries ≡ c.past

-- The caller, who knew its process's calls, made this one and got this reply: one more entry of the book, and one more call of the caller.
-- Some legal history from the boot state has exactly its calls then. These file objects went with it.
pub record IsCall (boot : State) (old new : KeptHistory) (before after : Caller) (request : Request) (reply : Reply)
    (released : List (ℕ × Option View)) : Type 0 where
  pub past : before.past ≡ calls_by before.pid.0 old.entries
  pub entry : Adds old new (call_by old before request reply (map (λ o. o.0) released))
  pub share : after ≡ made before request reply
  pub is_of : IsOf boot after
  pub handed_out : AllByRecursion (IsHandedOut (state_of old)) released

-- nothing has changed, and nothing went
pub record IsKept (old new : KeptHistory) (before after : Caller) (released : List (ℕ × Option View)) : Type 0 where
  pub book : new ≡ old
  pub share : after ≡ before
  pub none : released ≡ []

-- the layer was ended: one more entry, of nobody, and these file objects went with it
pub record IsEnd (old new : KeptHistory) (released : List (ℕ × Option View)) : Type 0 where
  pub entry : Adds old new (entry_of (state_of old) (record { 0 = 0 }) 0 Request.Off Reply.Ok (map (λ o. o.0) released))
  pub handed_out : AllByRecursion (IsHandedOut (state_of old)) released
