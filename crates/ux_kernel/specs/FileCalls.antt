-- Calls on a file object by what is known of its description, which may be gone.
use Rattle.std.specs.Prelude.{◌≡◌, ℕ, ◌+◌, ◌≤◌, ◌<◌, ◌^◌, true, false, not, ◌&&◌, ◌==◌, nat_lt, if◌then◌else◌, List, length, Option, Some}
use Rattle.std.specs.Prelude.{None, ℤ, pos, negsuc}
use Rattle.ux_model.specs.Types.{Errno, Refusal}
use Rattle.ux_model.specs.Limits.{offset_limit, read_limit}
use Rattle.ux_model.specs.Places.{place}
use Rattle.ux_model.specs.Flags.{can_read, can_write}
use Rattle.ux_model.specs.Object.{View, ready, read_body, is_pipe}
use Rattle.ux_object.specs.Kind.{kind_of}
use Rattle.ux_object.specs.declared.ObjKind.{ObjKind}
use Rattle.ux_object.specs.declared.ObjError.{ObjError}
use Rattle.ux_model.specs.Description.{Description, to_object, to_socket}
use Rattle.ux_model.specs.State.{State, description_at}
use Rattle.ux_model.specs.Outcome.{Outcome, refuse, as_process}
use Rattle.ux_model.specs.Sending.{sending, write_socket}
use Rattle.ux_model.specs.Receiving.{read_socket}
use Rattle.ux_model.specs.FileObjects.{on_object, holds_bytes, is_open_for}
use Rattle.ux_model.specs.Reading.{read_object, is_short_read}
use Rattle.ux_model.specs.Writing.{write_object, write_place}
use Rattle.ux_kernel.specs.declared.open_file.OpenFile.{OpenFile}

-- the offset, if it is at least 0 and has 63 bits
abbrev pub seek_target : ℤ → Option ℕ
seek_target (pos n) = if nat_lt offset_limit n then None else Some n
seek_target (negsuc n) = None

-- the description of an open file object
abbrev pub description_of : OpenFile → Description
description_of f = record { offset = f.offset; mode = f.mode; append = f.append; nonblock = f.nonblock; target = to_object f.object }

-- the refusal that stands for an error of a file object
abbrev pub refusal_of : ObjError → Refusal
refusal_of ObjError.WouldBlock = Refusal.Answer Errno.EAGAIN
refusal_of ObjError.Io = Refusal.Answer Errno.EIO
refusal_of ObjError.Full = Refusal.Answer Errno.EFBIG
refusal_of ObjError.NoMemory = Refusal.NoMemory
refusal_of ObjError.Invalid = Refusal.Answer Errno.EINVAL

-- ---- read

abbrev pub read_file : State → OpenFile → ℕ → Outcome
read_file S f n = on_object S f.object (λ view. read_object S f.id (description_of f) f.object view n)

abbrev pub read_of : State → ℕ → ℕ → Description → ℕ → Outcome
read_of S p d D n = elim D.target [
  | to_object o ↦ on_object S o (λ view. read_object S d D o view n)
  | to_socket s ↦ read_socket S p d s n
]

abbrev pub read_at : State → ℕ → ℕ → ℕ → Outcome
read_at S p d n = elim (description_at S d) [ None ↦ refuse S Errno.EBADF | Some D ↦ read_of S p d D n ]

-- A read of n bytes will be answered by the object itself: it is there, may be read, and has something to give. So many bytes are
-- wanted of it as are asked for, or as a memory file has behind the offset.
pub record IsReadable (S : State) (f : OpenFile) (kind : ObjKind) (n wanted : ℕ) : Type 0 where
  pub view : View
  pub held : place S.objects f.object ≡ Some view
  pub same_kind : kind ≡ kind_of view.body
  pub allowed : can_read f.mode ≡ true
  pub long : is_short_read view.body n ≡ false
  pub some : (holds_bytes view.body && (n == 0)) ≡ false
  pub is_ready : (ready view.body).0 ≡ true
  pub enough : read_body view.body f.offset wanted ≡ read_body view.body f.offset n
  pub fits : kind ≡ ObjKind.Memory → f.offset + wanted < 2 ^ 64
  pub few : wanted ≤ read_limit

-- ---- write

abbrev pub write_file : State → OpenFile → List ℕ → Outcome
write_file S f bytes = on_object S f.object (λ view. write_object S f.id (description_of f) f.object view bytes)

abbrev pub write_of : State → ℕ → ℕ → ℕ → Description → List ℕ → Outcome
write_of S p tag d D bytes = elim D.target [
  | to_object o ↦ on_object S o (λ view. write_object S d D o view bytes)
  | to_socket s ↦ as_process S p (λ P. write_socket S (sending tag p P None bytes) d s)
]

abbrev pub write_at : State → ℕ → ℕ → ℕ → List ℕ → Outcome
write_at S p tag d bytes = elim (description_at S d) [ None ↦ refuse S Errno.EBADF | Some D ↦ write_of S p tag d D bytes ]

-- A write of these bytes at `at` will be answered by the object itself: it is there, may be written, and gives somebody to read it.
pub record IsWritable (S : State) (f : OpenFile) (kind : ObjKind) (at : ℕ) (bytes : List ℕ) : Type 0 where
  pub view : View
  pub held : place S.objects f.object ≡ Some view
  pub same_kind : kind ≡ kind_of view.body
  pub allowed : can_write f.mode ≡ true
  pub some : (holds_bytes view.body && (length bytes == 0)) ≡ false
  pub read_by : (is_pipe view.body && not (is_open_for can_read S f.object)) ≡ false
  pub same_place : at ≡ write_place (description_of f) view
