-- What the calls on a file object have in common.
use Rattle.std.specs.Prelude.{ℕ, Bool, false, ◌&&◌, ◌||◌, nat_lt, if◌then◌else◌, count_by, Some, None, Option}
use Rattle.ux_model.specs.Types.{Errno, Mode}
use Rattle.ux_model.specs.Places.{place}
use Rattle.ux_model.specs.Object.{Body, View, ObjectError, would_block, full, invalid, is_memory, is_pipe, can_fail, after_failure}
use Rattle.ux_model.specs.Description.{Description}
use Rattle.ux_model.specs.References.{leads_to}
use Rattle.ux_model.specs.State.{State, with_object}
use Rattle.ux_model.specs.Outcome.{Outcome, refuse}

abbrev pub is_opening : (Mode → Bool) → ℕ → Option Description → Bool
is_opening allows o None = false
is_opening allows o (Some D) = leads_to o D.target && allows D.mode

-- how many descriptions of object o are open for this
abbrev pub openings : (Mode → Bool) → State → ℕ → ℕ
openings allows S o = count_by (is_opening allows o) S.descriptions

abbrev pub is_open_for : (Mode → Bool) → State → ℕ → Bool
is_open_for allows S o = nat_lt 0 (openings allows S o)

abbrev pub error_of : ObjectError → Errno
error_of would_block = Errno.EAGAIN
error_of full = Errno.EFBIG
error_of invalid = Errno.EINVAL

-- a call of the object, which may fail in place of what it answers
abbrev pub or_failing : State → ℕ → View → Outcome → Outcome
or_failing S o view outcome = record outcome { failure = if can_fail view then Some (with_object S o (after_failure view)) else None }

abbrev pub holds_bytes : Body → Bool
holds_bytes body = is_memory body || is_pipe body

-- what the rest says of object o
abbrev pub on_object : State → ℕ → (View → Outcome) → Outcome
on_object S o rest = elim (place S.objects o) [ None ↦ refuse S Errno.EBADF | Some view ↦ rest view ]
