-- read(2).
use Rattle.std.specs.Prelude.{ℕ, ◌+◌, min, Bool, false, not, ◌&&◌, ◌==◌, nat_lt, if◌then◌else◌, List, [], length, Ok, Err, Result}
use Rattle.ux_model.specs.Types.{Errno, Fd, Reply}
use Rattle.ux_model.specs.Limits.{read_limit}
use Rattle.ux_model.specs.Flags.{can_read, can_write}
use Rattle.ux_model.specs.Object.{Body, memory, counter, pipe, View, counter_len, ObjectError, would_block, full, invalid, read_body}
use Rattle.ux_model.specs.Object.{is_memory, is_pipe, with_body}
use Rattle.ux_model.specs.Description.{Description, to_object, to_socket}
use Rattle.ux_model.specs.State.{State, with_object, with_description}
use Rattle.ux_model.specs.Outcome.{Outcome, refuse, answer, taking_memory, on_descriptor}
use Rattle.ux_model.specs.Receiving.{read_socket}
use Rattle.ux_model.specs.FileObjects.{is_open_for, or_failing, holds_bytes, on_object}

-- a counter gives all its bytes or none
abbrev pub is_short_read : Body → ℕ → Bool
is_short_read (memory bytes) n = false
is_short_read (counter semaphore value) n = nat_lt n counter_len
is_short_read (pipe bytes) n = false

-- what a read leaves: the body, and of a memory file the offset behind what was read
abbrev pub offset_after_read : Description → View → List ℕ → ℕ
offset_after_read D view bytes = if is_memory view.body then D.offset + length bytes else D.offset

abbrev pub after_read : State → ℕ → Description → ℕ → View → List ℕ × Body → State
after_read S d D o view found =
    with_object (with_description S d (record D { offset = offset_after_read D view found.0 })) o (with_body view found.1)

-- a pipe that would block and that nobody can write to has ended
abbrev pub read_error : State → ℕ → View → ObjectError → Outcome
read_error S o view would_block =
    if is_pipe view.body && not (is_open_for can_write S o) then answer (Reply.Bytes []) S else refuse S Errno.EAGAIN
read_error S o view full = refuse S Errno.EFBIG
read_error S o view invalid = refuse S Errno.EINVAL

-- What a read answers, by what is found in the object. That is reached, and may fail, only where it has something to give.
abbrev pub read_answer : State → ℕ → Description → ℕ → View → Result (List ℕ × Body) ObjectError → Outcome
read_answer S d D o view (Ok found) = or_failing S o view (taking_memory (Reply.Bytes found.0) (after_read S d D o view found))
read_answer S d D o view (Err error) = read_error S o view error

abbrev pub read_object : State → ℕ → Description → ℕ → View → ℕ → Outcome
read_object S d D o view n =
    if not (can_read D.mode) then refuse S Errno.EBADF else
    if is_short_read view.body n then refuse S Errno.EINVAL else
    if holds_bytes view.body && (n == 0) then answer (Reply.Bytes []) S else
    read_answer S d D o view (read_body view.body D.offset n)

-- read(2)
unfoldable pub read : State → ℕ → Fd → ℕ → Outcome
read S p fd n = on_descriptor S p fd (λ e D. elim D.target [
  | to_object o ↦ on_object S o (λ view. read_object S e.description D o view (min read_limit n))
  | to_socket s ↦ read_socket S p e.description s (min read_limit n)
])
