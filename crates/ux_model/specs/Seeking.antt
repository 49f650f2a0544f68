-- lseek(2).
use Rattle.std.specs.Prelude.{ℕ, not, nat_lt, if◌then◌else◌, ℤ, pos, negsuc, ◌+ℤ◌}
use Rattle.ux_model.specs.Types.{Errno, Fd, Whence, Reply}
use Rattle.ux_model.specs.Limits.{offset_limit}
use Rattle.ux_model.specs.Object.{View, size_of_body, is_memory}
use Rattle.ux_model.specs.Description.{Description, to_object, to_socket}
use Rattle.ux_model.specs.State.{State, with_description}
use Rattle.ux_model.specs.Outcome.{Outcome, refuse, answer, on_descriptor}
use Rattle.ux_model.specs.FileObjects.{on_object}

abbrev pub seek_base : Whence → Description → View → ℕ
seek_base Whence.Set D view = 0
seek_base Whence.Cur D view = D.offset
seek_base Whence.End D view = size_of_body view.body

-- an offset is at least 0 and at most 2^63 - 1
abbrev pub seek_to : State → ℕ → Description → ℤ → Outcome
seek_to S d D (pos n) =
    if nat_lt offset_limit n then refuse S Errno.EINVAL else answer (Reply.At n) (with_description S d (record D { offset = n }))
seek_to S d D (negsuc n) = refuse S Errno.EINVAL

abbrev pub seek_object : State → ℕ → Description → View → ℤ → Whence → Outcome
seek_object S d D view offset whence =
    if not (is_memory view.body) then refuse S Errno.ESPIPE else
    seek_to S d D (pos (seek_base whence D view) +ℤ offset)

-- lseek(2)
unfoldable pub lseek : State → ℕ → Fd → ℤ → Whence → Outcome
lseek S p fd offset whence = on_descriptor S p fd (λ e D. elim D.target [
  | to_object o ↦ on_object S o (λ view. seek_object S e.description D view offset whence)
  | to_socket s ↦ refuse S Errno.ESPIPE
])
