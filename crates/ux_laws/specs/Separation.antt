-- Privilege separation: one process opens a file and may pass it on, and the others can't open it (unix(7), SCM_RIGHTS).
use Rattle.std.specs.Prelude.{◌≡◌, ◌≢◌, ℕ, Bool, true, false, not, ◌==◌, ◌&&◌, ◌||◌, List, Some}
use Rattle.std.specs.List.{slice_get}
use Rattle.ux_model.specs.Types.{Fd, Name, Request, Reply, Entry}
use Rattle.ux_model.specs.Flags.{can_write}
use Rattle.ux_model.specs.Object.{Body, memory}
use Rattle.ux_model.specs.Names.{file, named, same_name}
use Rattle.ux_model.specs.State.{State}
use Rattle.ux_model.specs.History.{IsLegal}
use Rattle.ux_model.specs.Pedigree.{before}
use Rattle.ux_model.specs.PedigreeLaws.{WasSentNothing}
use Rattle.ux_laws.specs.Files.{body_at, object_behind, IsRunOf}
use Rattle.ux_laws.specs.Beginning.{IsOfTheStart}

-- The request of process p leaves the path to the keeper: it is no fork, nor an open of the path, but the keeper's that isn't to write.
abbrev pub leaves_to : ℕ → Name → ℕ → Request → Bool
leaves_to keeper path p Request.Fork = false
leaves_to keeper path p (Request.Open other mode flags) = not (same_name other path) || ((p == keeper) && not (can_write mode))
leaves_to keeper path p _ = true

-- What anybody can tell of the file is what it had at the start, and only the keeper and those who were sent something can.
pub record IsSeparated (boot : State) (entries : List Entry) (keeper o : ℕ) (bytes : List ℕ) : Type 0 where
  -- it has its bytes at each moment, as long as it is there
  pub unchanged : (j : ℕ) (body : Body) → body_at (before boot entries j) o ≡ Some body → body ≡ memory bytes
  -- what a read of it is answered is a run of them
  pub read : (j n : ℕ) (e : Entry) (fd : Fd) (given : List ℕ) → slice_get entries j ≡ Some e → e.request ≡ Request.Read fd n →
      object_behind (before boot entries j) e.pid.0 fd ≡ Some o → e.reply ≡ Reply.Bytes given → IsRunOf given bytes
  -- no number of another process that was sent nothing leads to it
  pub withheld : (j q : ℕ) (fd : Fd) → IsOfTheStart boot q → q ≢ keeper → WasSentNothing boot entries q →
      object_behind (before boot entries j) q fd ≢ Some o

-- so it is where each request of a process of the start leaves the path of a memory file to the keeper
abbrev pub KeptFilesAreSeparated : Type 0
KeptFilesAreSeparated = (boot : State) (entries : List Entry) (path : Name) (keeper o : ℕ) (bytes : List ℕ) → IsLegal boot entries →
    named path boot.paths ≡ Some (file o) → body_at boot o ≡ Some (memory bytes) →
    ((j : ℕ) (e : Entry) → slice_get entries j ≡ Some e → IsOfTheStart boot e.pid.0 → leaves_to keeper path e.pid.0 e.request ≡ true) →
    IsSeparated boot entries keeper o bytes
