-- A worked example, evaluated: one process opens a file for reading, and another, which doesn't, has no way to it.
use Rattle.std.specs.Prelude.{◌≡◌, List, [], ◌∷◌, Some, None, refl, codes}
use Rattle.ux_model.specs.Types.{Errno, SockType, Mode, Request, Reply, Entry, How}
use Rattle.ux_model.specs.Flags.{can_read}
use Rattle.ux_model.specs.Object.{memory}
use Rattle.ux_model.specs.State.{State}
use Rattle.ux_model.specs.History.{replay}
use Rattle.ux_laws.specs.Files.{body_at, object_behind, IsMaking, IsRunOf}
use Rattle.ux_laws.proofs.Play.{computing, made, replies, with_files, pair_of, fd}

abbrev boot : State
boot = with_files ((codes "f", memory (codes "abc")) ∷ [])

-- a write by the reader is refused, one by the stranger goes to a socket of its own
abbrev calls : List Entry
calls = made boot 0 (
    (1, Request.Open (codes "f") Mode.Read (record { 0 = 0 })) ∷
    (1, Request.Write (fd 0) (codes "x")) ∷
    (1, Request.Read (fd 0) 2) ∷
    (2, pair_of SockType.Stream) ∷
    (2, Request.Write (fd 0) (codes "x")) ∷ [])

what_was_answered : replies calls ≡ Reply.Fd (fd 0) ∷ Reply.Err Errno.EBADF ∷ Reply.Bytes (codes "ab") ∷ Reply.Fds (fd 0)
    (fd 1) ∷ Reply.Count 1 ∷ []
unfolding computing
what_was_answered = refl

the_file_stays : body_at (replay boot calls) 0 ≡ Some (memory (codes "abc"))
unfolding computing
the_file_stays = refl

-- what was read of it are bytes of it
what_was_read : IsRunOf (codes "ab") (codes "abc")
what_was_read = record { ahead = []; behind = codes "c"; joined = refl }

-- once the second process opens it for writing, it stays no longer
abbrev more_calls : List Entry
more_calls = made boot 0 (
    (1, Request.Open (codes "f") Mode.Read (record { 0 = 0 })) ∷
    (2, Request.Open (codes "f") Mode.Write (record { 0 = 0 })) ∷
    (2, Request.Write (fd 0) (codes "x")) ∷ [])

the_file_changes : body_at (replay boot more_calls) 0 ≡ Some (memory (codes "xbc"))
unfolding computing
the_file_changes = refl

-- the reader's number leads to it, the stranger's to no file object
who_has_a_way : object_behind (replay boot calls) 1 (fd 0) ≡ Some 0
unfolding computing
who_has_a_way = refl

who_has_none : object_behind (replay boot calls) 2 (fd 0) ≡ None
unfolding computing
who_has_none = refl

-- ---- what a process makes itself

-- a pipe, and a file under a path that its maker takes away before another can open it
abbrev own_calls : List Entry
own_calls = made boot 0 (
    (1, Request.Pipe (record { 0 = 0 })) ∷
    (1, Request.Write (fd 1) (codes "x")) ∷
    (1, Request.Create (codes "g") Mode.Write (record { 0 = 0 })) ∷
    (1, Request.Write (fd 2) (codes "yz")) ∷
    (1, Request.Unlink (codes "g")) ∷
    (2, Request.Open (codes "g") Mode.Read (record { 0 = 0 })) ∷ [])

own_answers : replies own_calls ≡ Reply.Fds (fd 0) (fd 1) ∷ Reply.Count 1 ∷ Reply.Fd (fd 2) ∷ Reply.Count 2 ∷ Reply.Ok
    ∷ Reply.Err Errno.ENOENT ∷ []
unfolding computing
own_answers = refl

-- each of its numbers leads to what its call made, and the other process has none
pipes_are_behind : object_behind (replay boot own_calls) 1 (fd 0) ≡ Some 1
unfolding computing
pipes_are_behind = refl

what_was_written : body_at (replay boot own_calls) 2 ≡ Some (memory (codes "yz"))
unfolding computing
what_was_written = refl

nothing_for_others : object_behind (replay boot own_calls) 2 (fd 0) ≡ None
unfolding computing
nothing_for_others = refl

-- the reading end is open for reading, as the first of the two that the call gave
reading_end : IsMaking boot own_calls can_read 1 (record { entry = 0; pid = record { 0 = 1 }; fd = fd 0; how = How.Made })
unfolding computing
reading_end = record {
  call = _;
  place = 0;
  mode = Mode.Read;
  there = refl;
  number = refl;
  opens = refl;
  new = refl;
  allowed = refl;
}
