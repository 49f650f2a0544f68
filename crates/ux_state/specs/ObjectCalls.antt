-- Calls of a file object through its place in the state.
use Rattle.std.specs.Prelude.{◌≡◌, ℕ, true, List, take, Option, Some, None, Result, Ok, Err, MatchResult}
use Rattle.ux_model.specs.Object.{View}
use Rattle.ux_model.specs.Places.{place}
use Rattle.ux_model.specs.State.{State, with_object}
use Rattle.ux_object.specs.Calls.{GivesRead, GivesWrite, RefusesRead, RefusesWrite}
use Rattle.ux_object.specs.declared.ObjError.{ObjError}

-- an object that is there is open
abbrev pub IsOpen : Option View → Type 0
IsOpen None = Unit {0}
IsOpen (Some view) = view.opened ≡ true

-- what was read into the front of a buffer
abbrev pub bytes_read : Result ℕ ObjError → List ℕ → Result (List ℕ) ObjError
bytes_read (Ok n) buffer = Ok (take n buffer)
bytes_read (Err e) buffer = Err e

-- a read of n bytes at `at`, and what it leaves
pub record Reads (old : Option View) (at n : ℕ) (answer : Result (List ℕ) ObjError) (new : Option View) : Type 0 where
  pub before : View
  pub after : View
  pub found : old ≡ Some before
  pub gives : MatchResult answer (λ bytes. GivesRead before at n bytes after) (λ e. RefusesRead before at n e after)
  pub kept : new ≡ Some after

-- a write of these bytes at `at`, and what it leaves
pub record Writes (old : Option View) (at : ℕ) (bytes : List ℕ) (answer : Result ℕ ObjError) (new : Option View) : Type 0 where
  pub before : View
  pub after : View
  pub found : old ≡ Some before
  pub gives : MatchResult answer (λ count. GivesWrite before at bytes count after) (λ e. RefusesWrite before at bytes e after)
  pub kept : new ≡ Some after

-- the same of object o in a state, in which everything else stays
pub record ReadsObject (S : State) (o at n : ℕ) (answer : Result (List ℕ) ObjError) (T : State) : Type 0 where
  pub before : View
  pub after : View
  pub found : place S.objects o ≡ Some before
  pub gives : MatchResult answer (λ bytes. GivesRead before at n bytes after) (λ e. RefusesRead before at n e after)
  pub kept : T ≡ with_object S o after

pub record WritesObject (S : State) (o at : ℕ) (bytes : List ℕ) (answer : Result ℕ ObjError) (T : State) : Type 0 where
  pub before : View
  pub after : View
  pub found : place S.objects o ≡ Some before
  pub gives : MatchResult answer (λ count. GivesWrite before at bytes count after) (λ e. RefusesWrite before at bytes e after)
  pub kept : T ≡ with_object S o after
