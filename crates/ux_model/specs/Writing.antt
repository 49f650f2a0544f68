-- write(2).
use Rattle.std.specs.Prelude.{ℕ, ◌+◌, not, ◌&&◌, ◌==◌, if◌then◌else◌, List, length, None, Ok, Err, Result}
use Rattle.ux_model.specs.Types.{Errno, Fd, Reply}
use Rattle.ux_model.specs.Flags.{can_read, can_write}
use Rattle.ux_model.specs.Object.{Body, View, ObjectError, write_body, size_of_body, is_memory, is_pipe, with_body}
use Rattle.ux_model.specs.Description.{Description, to_object, to_socket}
use Rattle.ux_model.specs.State.{State, with_object, with_description}
use Rattle.ux_model.specs.Outcome.{Outcome, refuse, answer, on_descriptor, as_process}
use Rattle.ux_model.specs.Sending.{sending, write_socket}
use Rattle.ux_model.specs.FileObjects.{is_open_for, error_of, or_failing, holds_bytes, on_object}

-- a memory file is written at the offset, or with `append` at its end
abbrev pub write_place : Description → View → ℕ
write_place D view = if D.append then size_of_body view.body else D.offset

abbrev pub offset_after_write : Description → View → ℕ → ℕ
offset_after_write D view count = if is_memory view.body then write_place D view + count else D.offset

abbrev pub after_write : State → ℕ → Description → ℕ → View → ℕ × Body → State
after_write S d D o view made =
    with_object (with_description S d (record D { offset = offset_after_write D view made.0 })) o (with_body view made.1)

-- what the object answers to a write; only a memory file may lack memory
abbrev pub write_answer : State → ℕ → Description → ℕ → View → Result (ℕ × Body) ObjectError → Outcome
write_answer S d D o view (Ok made) =
    record (answer (Reply.Count made.0) (after_write S d D o view made)) { may_lack_memory = is_memory view.body }
write_answer S d D o view (Err error) = refuse S (error_of error)

abbrev pub write_object : State → ℕ → Description → ℕ → View → List ℕ → Outcome
write_object S d D o view bytes =
    if not (can_write D.mode) then refuse S Errno.EBADF else
    if holds_bytes view.body && (length bytes == 0) then answer (Reply.Count 0) S else
    if is_pipe view.body && not (is_open_for can_read S o) then refuse S Errno.EPIPE else
    or_failing S o view (write_answer S d D o view (write_body view.body (write_place D view) bytes))

-- write(2), as the call with number tag
unfoldable pub write : State → ℕ → ℕ → Fd → List ℕ → Outcome
write S p tag fd bytes = on_descriptor S p fd (λ e D. elim D.target [
  | to_object o ↦ on_object S o (λ view. write_object S e.description D o view bytes)
  | to_socket s ↦ as_process S p (λ P. write_socket S (sending tag p P None bytes) e.description s)
])
