-- Making a file object: a pipe, a counter, or a file (pipe2(2), eventfd(2), memfd_create(2); open(2) with O_CREAT and O_EXCL).
use Rattle.std.specs.Prelude.{ℕ, suc, Bool, not, ◌||◌, nat_le, if◌then◌else◌, [], ◌∷◌, ◌++◌, length, Some, None, is_some}
use Rattle.ux_model.specs.Types.{Errno, Name, Mode, OpenFlags, Reply}
use Rattle.ux_model.specs.Flags.{asks_append, asks_nonblock}
use Rattle.ux_model.specs.Limits.{raised_object_limit}
use Rattle.ux_model.specs.Places.{filled}
use Rattle.ux_model.specs.Object.{Body, memory, counter, pipe, new_view}
use Rattle.ux_model.specs.Names.{file, named, is_valid_path}
use Rattle.ux_model.specs.Process.{lowest_free, two_lowest_free, fd_of, descriptor}
use Rattle.ux_model.specs.State.{State, table_of, next_description, with_table, with_new}
use Rattle.ux_model.specs.Outcome.{Outcome, refuse, taking_memory}
use Rattle.ux_model.specs.Opening.{file_description}

-- ---- a new file object

-- the number of the next file object
abbrev pub next_object : State → ℕ
next_object S = length S.objects

-- as many were made as one layer may have, those that were closed counted
abbrev pub object_table_full : State → Bool
object_table_full S = nat_le raised_object_limit (next_object S)

-- with a new file object, which gets the next number
abbrev pub with_made : State → Body → State
with_made S body = record S { objects = S.objects ++ Some (new_view body) ∷ [] }

-- with one more path, which leads to file object o
abbrev pub with_path : State → Name → ℕ → State
with_path S path o = record S { paths = S.paths ++ (path, file o) ∷ [] }

-- ---- with one descriptor

-- What is answered where T is S with a new file object: a new description of that, at the lowest number that is free.
abbrev pub open_made : State → State → ℕ → Mode → OpenFlags → Outcome
open_made S T p mode flags = elim (lowest_free (table_of S p)) [
  | None ↦ refuse S Errno.EMFILE
  | Some n ↦ if object_table_full S then refuse S Errno.ENFILE else
      taking_memory (Reply.Fd (fd_of n))
      (with_table (with_new T (file_description (next_object S) mode flags)) p
      (filled (table_of S p) n (descriptor flags (next_description S))))
]

-- a new file object with this body, unless a flag is asked for that the call doesn't have
unfoldable pub make_object : State → ℕ → Bool → Body → OpenFlags → Outcome
make_object S p unknown body flags = if unknown then refuse S Errno.EINVAL else open_made S (with_made S body) p Mode.Both flags

-- eventfd(2): EFD_CLOEXEC, EFD_NONBLOCK and EFD_SEMAPHORE
abbrev pub make_counter : State → ℕ → ℕ → Bool → OpenFlags → Outcome
make_counter S p value semaphore flags = make_object S p (asks_append flags) (counter semaphore value) flags

-- memfd_create(2): MFD_CLOEXEC
abbrev pub make_file : State → ℕ → OpenFlags → Outcome
make_file S p flags = make_object S p (asks_append flags || asks_nonblock flags) (memory []) flags

-- open(2) with O_CREAT and O_EXCL: a new, empty file under a path that nothing has
unfoldable pub create_file : State → ℕ → Name → Mode → OpenFlags → Outcome
create_file S p path mode flags =
    if not (is_valid_path path) then refuse S Errno.EINVAL else
    if is_some (named path S.paths) then refuse S Errno.EEXIST else
    open_made S (with_path (with_made S (memory [])) path (next_object S)) p mode flags

-- ---- with two

-- with a new pipe, and a description of each of its ends
abbrev pub with_pipe : State → OpenFlags → State
with_pipe S flags =
    let o : ℕ = next_object S in
    with_new (with_new (with_made S (pipe [])) (file_description o Mode.Read flags)) (file_description o Mode.Write flags)

abbrev pub open_pipe : State → ℕ → OpenFlags → Outcome
open_pipe S p flags = elim (two_lowest_free (table_of S p)) [
  | None ↦ refuse S Errno.EMFILE
  | Some n ↦ if object_table_full S then refuse S Errno.ENFILE else
      let d : ℕ = next_description S in
      taking_memory (Reply.Fds (fd_of n.0) (fd_of n.1))
      (with_table (with_pipe S flags) p
      (filled (filled (table_of S p) n.0 (descriptor flags d)) n.1 (descriptor flags (suc d))))
]

-- pipe2(2): O_CLOEXEC and O_NONBLOCK
unfoldable pub make_pipe : State → ℕ → OpenFlags → Outcome
make_pipe S p flags = if asks_append flags then refuse S Errno.EINVAL else open_pipe S p flags
