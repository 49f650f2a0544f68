-- open(2) of a file object.
use Rattle.std.specs.Prelude.{ℕ, not, if◌then◌else◌, Some, None}
use Rattle.ux_model.specs.Types.{Errno, Name, Mode, OpenFlags, Reply}
use Rattle.ux_model.specs.Places.{filled}
use Rattle.ux_model.specs.Flags.{asks_append, asks_nonblock}
use Rattle.ux_model.specs.Description.{Description, to_object}
use Rattle.ux_model.specs.Process.{lowest_free, fd_of, descriptor}
use Rattle.ux_model.specs.State.{State, table_of, next_description, with_table, with_new}
use Rattle.ux_model.specs.Outcome.{Outcome, refuse, taking_memory}
use Rattle.ux_model.specs.Names.{file, bound, named, is_valid_path}

abbrev pub file_description : ℕ → Mode → OpenFlags → Description
file_description o mode flags =
    record { offset = 0; mode = mode; append = asks_append flags; nonblock = asks_nonblock flags; target = to_object o }

-- a new description of file object o, at the lowest number that is free
abbrev pub open_object : State → ℕ → ℕ → Mode → OpenFlags → Outcome
open_object S p o mode flags = elim (lowest_free (table_of S p)) [
  | None ↦ refuse S Errno.EMFILE
  | Some n ↦ taking_memory (Reply.Fd (fd_of n))
      (with_table (with_new S (file_description o mode flags)) p (filled (table_of S p) n (descriptor flags (next_description S))))
]

-- open(2) of a file object by its path
unfoldable pub open_file : State → ℕ → Name → Mode → OpenFlags → Outcome
open_file S p path mode flags =
    if not (is_valid_path path) then refuse S Errno.EINVAL else
    elim (named path S.paths) [
      | None ↦ refuse S Errno.ENOENT
      | Some target ↦ elim target [ file o ↦ open_object S p o mode flags | bound d ↦ refuse S Errno.EOPNOTSUPP ]
    ]
