-- When a read or a write of a pipe or a counter has to wait (pipe(7), eventfd(2), read(2), write(2)).
use Rattle.std.specs.Prelude.{◌≡◌, ◌≢◌, ◌↔◌, ℕ, Bool, true, nat_lt, nat_le, List, [], Some, Ok}
use Rattle.std.specs.List.{slice_get}
use Rattle.ux_model.specs.Types.{Errno, Fd, Request, Reply, Entry}
use Rattle.ux_model.specs.Flags.{can_read, can_write}
use Rattle.ux_model.specs.Object.{Body, memory, counter, pipe, counter_len, lacks_room, is_pipe}
use Rattle.ux_model.specs.Description.{Description, to_object}
use Rattle.ux_model.specs.Process.{Descriptor}
use Rattle.ux_model.specs.State.{State}
use Rattle.ux_model.specs.FileObjects.{is_open_for}
use Rattle.ux_model.specs.Outcome.{find_description}
use Rattle.ux_model.specs.History.{IsLegal}
use Rattle.ux_model.specs.Pedigree.{before}
use Rattle.ux_laws.specs.Files.{body_at}
use Rattle.ux_laws.specs.FileReads.{IsReadOf}

-- ---- reads

-- Nothing is in file object o, which holds this, and something may still come: a pipe that somebody can write to, or a counter.
pub data IsDry (S : State) (o : ℕ) (body : Body) : Type 0 where
  of_pipe : body ≡ pipe [] → is_open_for can_write S o ≡ true → IsDry S o body
  of_counter : (semaphore : Bool) → body ≡ counter semaphore 0 → IsDry S o body

-- a read of n bytes asks for something: of a pipe for a byte, of a counter for its value
abbrev pub asks_some : Body → ℕ → Bool
asks_some (memory bytes) n = true
asks_some (counter semaphore value) n = nat_le counter_len n
asks_some (pipe bytes) n = nat_lt 0 n

-- Through a descriptor that is open for reading it has to wait exactly then; at a memory file never.
abbrev pub FileReadsWaitWhile : Type 0
FileReadsWaitWhile = (boot : State) (entries : List Entry) (j n o : ℕ) (e : Entry) (x : Descriptor) (D : Description) (body : Body) →
    IsLegal boot entries → IsReadOf boot entries j e n x D o body → can_read D.mode ≡ true → asks_some body n ≡ true →
    (e.reply ≡ Reply.Err Errno.EAGAIN) ↔ IsDry (before boot entries j) o body

-- ---- writes

-- File object o, which holds this, has no room for these bytes, and room may still come: a pipe that somebody can read from, or a counter.
pub record IsCrowded (S : State) (o : ℕ) (body : Body) (bytes : List ℕ) : Type 0 where
  pub full : lacks_room body bytes ≡ true
  pub reader : is_pipe body ≡ true → is_open_for can_read S o ≡ true

-- Through a descriptor that is open for writing a write that doesn't fail (EIO) has to wait exactly then.
abbrev pub FileWritesWaitWhile : Type 0
FileWritesWaitWhile = (boot : State) (entries : List Entry) (j o : ℕ) (e : Entry) (fd : Fd) (bytes : List ℕ) (x : Descriptor)
    (D : Description) (body : Body) → IsLegal boot entries → slice_get entries j ≡ Some e → e.request ≡ Request.Write fd bytes →
    find_description (before boot entries j) e.pid.0 fd ≡ Ok (x, D) → D.target ≡ to_object o →
    body_at (before boot entries j) o ≡ Some body → can_write D.mode ≡ true → e.reply ≢ Reply.Err Errno.EIO →
    (e.reply ≡ Reply.Err Errno.EAGAIN) ↔ IsCrowded (before boot entries j) o body bytes
