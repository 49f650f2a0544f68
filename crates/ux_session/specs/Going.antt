-- Pending calls that go on, one after another.
use Rattle.std.specs.Prelude.{◌≡◌, ℕ, ◌<◌, ◌≤◌, Bool, true, List, [], ◌∷◌, ◌++◌, map, Option, Some, slice_get, slice_index_or}
use Rattle.std.specs.List.{remove}
use Rattle.ux_book.specs.Books.{KeptHistory}
use Rattle.ux_session.specs.declared.pending.Pending.{Pending}
use Rattle.ux_session.specs.Sessions.{IsHeld, IsMade}

-- a history, and the calls that are pending there
pub record Desk : Type 0 where
  pub book : KeptHistory
  pub pending : List Pending

abbrev pub desk : KeptHistory → List Pending → Desk
desk book pending = record { book = book; pending = pending }

-- the calls at these places have to wait
abbrev pub WaitBetween : KeptHistory → List Pending → ℕ → ℕ → Type 0
WaitBetween book pending from to = (k : ℕ) (d : Pending) → from ≤ k → k < to → IsHeld book (slice_index_or pending k d)

-- the call at this place was made, and needed not wait
pub record GoesAt (old : KeptHistory) (pending : List Pending) (place : ℕ) (new : KeptHistory) : Type 0 where
  pub call : Pending
  pub stands : slice_get pending place ≡ Some call
  pub made : IsMade old new call

-- The call that was asked for under this number was made, needed not wait, and isn't pending any more. Where it goes by asking, each that
-- was asked for before has to wait.
pub record GoesOn (asked : Bool) (old : Desk) (number : ℕ) (new : Desk) : Type 0 where
  pub place : ℕ
  pub goes : GoesAt old.book old.pending place new.book
  pub named : goes.call.number ≡ number
  pub left : new.pending ≡ remove old.pending place
  pub first : asked ≡ true → WaitBetween old.book old.pending 0 place

-- calls with these numbers went on, one after another
pub data Wakes (asked : Bool) (old : Desk) : List ℕ → Desk → Type 0 where
  none : Wakes asked old [] old
  further : {numbers : List ℕ} {mid : Desk} (number : ℕ) (new : Desk) → Wakes asked old numbers mid → GoesOn asked mid number new →
      Wakes asked old (numbers ++ number ∷ []) new

-- so did calls whose numbers were noted behind what was noted before
pub record WakesMore (asked : Bool) (old : Desk) (before : List (Option ℕ)) (new : Desk) (after : List (Option ℕ)) : Type 0 where
  pub numbers : List ℕ
  pub noted : after ≡ before ++ map (λ n. Some n) numbers
  pub wakes : Wakes asked old numbers new
