-- Worked examples, evaluated: file objects that a process makes.
use Rattle.std.proofs.Common.{arith}
use Rattle.std.specs.Prelude.{◌≡◌, ℕ, true, false, List, [], ◌∷◌, length, None, refl, codes, pos}
use Rattle.ux_model.specs.Types.{Errno, Mode, Whence, Request, Reply, Entry}
use Rattle.ux_model.specs.Outcome.{own}
use Rattle.ux_model.specs.Boot.{boot_state, IsBootState}
use Rattle.ux_model.specs.History.{MayFollow, IsLegal, replay}
use Rattle.ux_model.specs.Invariants.{LosesLast}
use Rattle.ux_model.proofs.Examples.Play.{computing, play_released, one_process, process, fd, open_flags, refused}
use Rattle.ux_model.proofs.Lists.Appending.{legal_empty, legal_push}
use Rattle.ux_model.proofs.Invariants.Closed.{closed_once}
use Rattle.ux_model.proofs.Invariants.MadeObjects.{these_alone_make_objects}

-- what is written at one end of a pipe is read at the other; it ends when that is closed, and goes with its last end
a_pipe_has_two_ends : play_released one_process 0 (
    (1, Request.Pipe (open_flags 0)) ∷
    (1, Request.Read (fd 0) 8) ∷
    (1, Request.Write (fd 1) (codes "ab")) ∷
    (1, Request.Write (fd 0) (codes "ab")) ∷
    (1, Request.Read (fd 1) 8) ∷
    (1, Request.Read (fd 0) 8) ∷
    (1, Request.Close (fd 1)) ∷
    (1, Request.Read (fd 0) 8) ∷
    (1, Request.Close (fd 0)) ∷
    (1, Request.Pipe (open_flags 4)) ∷
    (1, Request.GetFlags (fd 1)) ∷
    (1, Request.Close (fd 0)) ∷
    (1, Request.Write (fd 1) (codes "ab")) ∷
    (1, Request.Exit) ∷ [])
    ≡
    (Reply.Fds (fd 0) (fd 1), []) ∷
    (refused Errno.EAGAIN, []) ∷
    (Reply.Count 2, []) ∷
    (refused Errno.EBADF, []) ∷
    (refused Errno.EBADF, []) ∷
    (Reply.Bytes (codes "ab"), []) ∷
    (Reply.Ok, []) ∷
    (Reply.Bytes [], []) ∷
    (Reply.Ok, 0 ∷ []) ∷
    (Reply.Fds (fd 0) (fd 1), []) ∷
    (Reply.Flags (open_flags 4), []) ∷
    (Reply.Ok, []) ∷
    (refused Errno.EPIPE, []) ∷
    (Reply.Ok, 1 ∷ []) ∷ []
unfolding computing
a_pipe_has_two_ends = refl

-- a counter begins with the value asked for, and a file without a path goes with its descriptor
a_counter_and_a_file : play_released one_process 0 (
    (1, Request.EventFd 3 false (open_flags 0)) ∷
    (1, Request.Read (fd 0) 8) ∷
    (1, Request.Read (fd 0) 8) ∷
    (1, Request.MemFd (open_flags 0)) ∷
    (1, Request.Write (fd 1) (codes "ab")) ∷
    (1, Request.Lseek (fd 1) (pos 1) Whence.Set) ∷
    (1, Request.Read (fd 1) 8) ∷
    (1, Request.Close (fd 1)) ∷
    (1, Request.Exit) ∷ [])
    ≡
    (Reply.Fd (fd 0), []) ∷
    (Reply.Bytes (3 ∷ 0 ∷ 0 ∷ 0 ∷ 0 ∷ 0 ∷ 0 ∷ 0 ∷ []), []) ∷
    (refused Errno.EAGAIN, []) ∷
    (Reply.Fd (fd 1), []) ∷
    (Reply.Count 2, []) ∷
    (Reply.At 1, []) ∷
    (Reply.Bytes (codes "b"), []) ∷
    (Reply.Ok, 1 ∷ []) ∷
    (Reply.Ok, 0 ∷ []) ∷ []
unfolding computing
a_counter_and_a_file = refl

-- a semaphore is taken by one at a time
a_semaphore : play_released one_process 0 (
    (1, Request.EventFd 2 true (open_flags 0)) ∷
    (1, Request.Read (fd 0) 8) ∷
    (1, Request.Read (fd 0) 8) ∷
    (1, Request.Read (fd 0) 8) ∷ [])
    ≡
    (Reply.Fd (fd 0), []) ∷
    (Reply.Bytes (1 ∷ 0 ∷ 0 ∷ 0 ∷ 0 ∷ 0 ∷ 0 ∷ 0 ∷ []), []) ∷
    (Reply.Bytes (1 ∷ 0 ∷ 0 ∷ 0 ∷ 0 ∷ 0 ∷ 0 ∷ 0 ∷ []), []) ∷
    (refused Errno.EAGAIN, []) ∷ []
unfolding computing
a_semaphore = refl

-- a path that was made keeps its file until it is taken away, and can be made once at a time
a_path_keeps_its_file : play_released one_process 0 (
    (1, Request.Create (codes "f") Mode.Write (open_flags 0)) ∷
    (1, Request.Create (codes "f") Mode.Both (open_flags 0)) ∷
    (1, Request.Create [] Mode.Both (open_flags 0)) ∷
    (1, Request.Read (fd 0) 8) ∷
    (1, Request.Write (fd 0) (codes "ab")) ∷
    (1, Request.Close (fd 0)) ∷
    (1, Request.Open (codes "f") Mode.Read (open_flags 0)) ∷
    (1, Request.Unlink (codes "f")) ∷
    (1, Request.Create (codes "f") Mode.Both (open_flags 0)) ∷
    (1, Request.Read (fd 1) 8) ∷
    (1, Request.Read (fd 0) 8) ∷
    (1, Request.Close (fd 0)) ∷
    (1, Request.Close (fd 1)) ∷
    (1, Request.Unlink (codes "f")) ∷ [])
    ≡
    (Reply.Fd (fd 0), []) ∷
    (refused Errno.EEXIST, []) ∷
    (refused Errno.EINVAL, []) ∷
    (refused Errno.EBADF, []) ∷
    (Reply.Count 2, []) ∷
    (Reply.Ok, []) ∷
    (Reply.Fd (fd 0), []) ∷
    (Reply.Ok, []) ∷
    (Reply.Fd (fd 1), []) ∷
    (Reply.Bytes [], []) ∷
    (Reply.Bytes (codes "ab"), []) ∷
    (Reply.Ok, 0 ∷ []) ∷
    (Reply.Ok, []) ∷
    (Reply.Ok, 1 ∷ []) ∷ []
unfolding computing
a_path_keeps_its_file = refl

-- a process whose table is full makes nothing
a_full_table : play_released (boot_state [] (process 1 ∷ [])) 0 (
    (1, Request.Pipe (open_flags 0)) ∷
    (1, Request.MemFd (open_flags 0)) ∷
    (1, Request.EventFd 0 false (open_flags 0)) ∷
    (1, Request.Create (codes "f") Mode.Both (open_flags 0)) ∷
    (1, Request.Open (codes "f") Mode.Both (open_flags 0)) ∷ [])
    ≡
    (refused Errno.EMFILE, []) ∷
    (Reply.Fd (fd 0), []) ∷
    (refused Errno.EMFILE, []) ∷
    (refused Errno.EMFILE, []) ∷
    (refused Errno.ENOENT, []) ∷ []
unfolding computing
a_full_table = refl

-- ---- what the laws say of one: none of their premises is empty

abbrev entry : ℕ → Request → Reply → List ℕ → Entry
entry k request reply released = record {
  pid = record { 0 = 1 };
  k = k;
  request = request;
  reply = reply;
  released = released;
  delivered = None;
}

abbrev making : Entry
making = entry 0 (Request.MemFd (open_flags 0)) (Reply.Fd (fd 0)) []

abbrev closing : Entry
closing = entry 1 (Request.Close (fd 0)) Reply.Ok (0 ∷ [])

boots : IsBootState one_process
boots = record {
  no_descriptions = refl;
  no_abstract_names = refl;
  live_processes = refl;
  empty_tables = refl;
  small_tables = (omega arith, tt);
  open_objects = refl;
  paths = refl;
  own_paths = refl;
}

first : MayFollow one_process [] making
unfolding computing
first = record { steps = (_, own refl refl, refl, refl); numbered = refl; allowed = refl; delivers = refl }

second : MayFollow one_process (making ∷ []) closing
unfolding computing
second = record { steps = (_, own refl refl, refl, refl); numbered = refl; allowed = refl; delivers = refl }

is_legal : IsLegal one_process (making ∷ closing ∷ [])
is_legal = legal_push one_process _ _ (legal_push one_process [] _ (legal_empty one_process boots) first) second

-- it was closed by the entry with which its last reference went, and had one from the call that made it until then
last_reference : LosesLast one_process (making ∷ closing ∷ []) 1 0
last_reference = (closed_once one_process _ 0 is_legal).only_at_the_last 1 closing refl (omega arith)

one_was_made : length (replay one_process (making ∷ [])).objects ≡ 1
one_was_made = these_alone_make_objects one_process _ 1 0 making.request making.reply [] first.steps
