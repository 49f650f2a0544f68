-- What a read of a file object gives, and when it tells the end (read(2), pipe(7), eventfd(2); POSIX.1-2017, read).
use Rattle.std.specs.Prelude.{◌≡◌, ℕ, suc, ◌+◌, ◌<◌, ◌≤◌, min, false, List, [], length, take, drop, Some, Ok}
use Rattle.std.specs.List.{slice_get}
use Rattle.ux_model.specs.Types.{Fd, Request, Reply, Entry}
use Rattle.ux_model.specs.Limits.{read_limit}
use Rattle.ux_model.specs.Flags.{can_write}
use Rattle.ux_model.specs.Object.{Body, memory, pipe}
use Rattle.ux_model.specs.Description.{Description, to_object}
use Rattle.ux_model.specs.Process.{Descriptor}
use Rattle.ux_model.specs.State.{State, description_at}
use Rattle.ux_model.specs.FileObjects.{is_open_for}
use Rattle.ux_model.specs.Outcome.{find_description}
use Rattle.ux_model.specs.History.{IsLegal}
use Rattle.ux_model.specs.Pedigree.{before}
use Rattle.ux_laws.specs.Files.{body_at}

-- Call j, which is e, is a read of at most n bytes through a descriptor of description D, which leads to a file object that holds this.
pub record IsReadOf (boot : State) (entries : List Entry) (j : ℕ) (e : Entry) (n : ℕ) (x : Descriptor) (D : Description) (o : ℕ)
    (body : Body) : Type 0 where
  pub fd : Fd
  pub call : slice_get entries j ≡ Some e
  pub asked : e.request ≡ Request.Read fd n
  pub through : find_description (before boot entries j) e.pid.0 fd ≡ Ok (x, D)
  pub leads : D.target ≡ to_object o
  pub holds : body_at (before boot entries j) o ≡ Some body

-- ---- what is given

-- Of a memory file it gives the bytes at the offset, as many as there are, at most n; and the offset is behind them.
pub record IsReadAt (T : State) (d : ℕ) (D : Description) (held : List ℕ) (n : ℕ) (bytes : List ℕ) : Type 0 where
  pub given : bytes ≡ take n (drop D.offset held)
  pub moved : (E : Description) → description_at T d ≡ Some E → E.offset ≡ D.offset + length bytes

abbrev pub ReadsGiveTheFile : Type 0
ReadsGiveTheFile = (boot : State) (entries : List Entry) (j n o : ℕ) (e : Entry) (x : Descriptor) (D : Description) (held bytes : List ℕ) →
    IsLegal boot entries → IsReadOf boot entries j e n x D o (memory held) → e.reply ≡ Reply.Bytes bytes →
    IsReadAt (before boot entries (suc j)) x.description D held (min read_limit n) bytes

-- Of a pipe it takes the first bytes, as many as there are, at most n.
pub record IsTakenOff (T : State) (o : ℕ) (held : List ℕ) (n : ℕ) (bytes : List ℕ) : Type 0 where
  pub given : bytes ≡ take n held
  pub left : (body : Body) → body_at T o ≡ Some body → body ≡ pipe (drop n held)

abbrev pub ReadsTakeOffThePipe : Type 0
ReadsTakeOffThePipe = (boot : State) (entries : List Entry) (j n o : ℕ) (e : Entry) (x : Descriptor) (D : Description)
    (held bytes : List ℕ) → IsLegal boot entries → IsReadOf boot entries j e n x D o (pipe held) → e.reply ≡ Reply.Bytes bytes →
    IsTakenOff (before boot entries (suc j)) o held (min read_limit n) bytes

-- ---- the end

-- Nothing more comes of it: the offset is at the end of a memory file, or behind it; or a pipe is empty, and nobody can write to it.
pub data IsFileOver (S : State) (D : Description) (o : ℕ) (body : Body) : Type 0 where
  of_memory : (held : List ℕ) → body ≡ memory held → length held ≤ D.offset → IsFileOver S D o body
  of_pipe : body ≡ pipe [] → is_open_for can_write S o ≡ false → IsFileOver S D o body

-- A read of some bytes is given none only there.
abbrev pub FileReadsEndTruly : Type 0
FileReadsEndTruly = (boot : State) (entries : List Entry) (j n o : ℕ) (e : Entry) (x : Descriptor) (D : Description) (body : Body) →
    IsLegal boot entries → IsReadOf boot entries j e n x D o body → 0 < n → e.reply ≡ Reply.Bytes [] →
    IsFileOver (before boot entries j) D o body
