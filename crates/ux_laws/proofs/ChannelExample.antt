-- Worked examples, evaluated: the channels that are left between processes that are apart. In each, process 1 makes the same calls twice,
-- in the second run after calls of process 2, with which it shares no description, file object or name; and it can tell.
use Rattle.std.proofs.Common.{◌≡◌, ◌⊎◌, inl, inr, ℕ, true, false, List, [], ◌∷◌, map, replicate, length, Option, Some, None, refl, sym, ◌∙◌}
use Rattle.std.specs.Prelude.{nat_le, if◌then◌else◌, codes}
use Rattle.std.proofs.lemmas.Bool.{false≢true}
use Rattle.ux_model.specs.Types.{Errno, Addr, Mode, SockType, OpenFlags, Request, Reply, Entry}
use Rattle.ux_model.specs.Limits.{made_limit}
use Rattle.ux_model.specs.Object.{Body}
use Rattle.ux_model.specs.Control.{rights_item, cred_item, item_bytes}
use Rattle.ux_model.specs.Process.{Process, lowest_free, pid_of}
use Rattle.ux_model.specs.State.{State, process_at, table_of, next_process, with_child}
use Rattle.ux_model.specs.Binding.{bind, get_sock_name}
use Rattle.ux_model.specs.Connecting.{make_socket}
use Rattle.ux_model.specs.Making.{object_table_full, make_object}
use Rattle.ux_model.specs.Outcome.{Outcome, refuse, taking_memory}
use Rattle.ux_model.specs.Forking.{child_of, fork}
use Rattle.ux_model.specs.Boot.{boot_state}
use Rattle.ux_model.proofs.Changes.Walk.{either, maybe}
use Rattle.ux_laws.proofs.Play.{computing, Call, made, replies, process, with_files, pair_of, fd, flags}

abbrev none : OpenFlags
none = record { 0 = 0 }

-- what the calls are answered from the start on
abbrev answers : List Call → List Reply
answers calls = replies (made (with_files []) 0 calls)

-- ---- process numbers: a fork of another moves the next one on

a_child_has_the_next_number : answers ((1, Request.Fork) ∷ []) ≡ Reply.Child (record { 0 = 3 }) ∷ []
unfolding computing
a_child_has_the_next_number = refl

after_a_fork_of_another : answers ((2, Request.Fork) ∷ (1, Request.Fork) ∷ [])
    ≡ Reply.Child (record { 0 = 3 }) ∷ Reply.Child (record { 0 = 4 }) ∷ []
unfolding computing
after_a_fork_of_another = refl

-- and who lives: a privileged process may tell credentials of one that does
abbrev first_is_privileged : State
first_is_privileged = boot_state [] (record process { privileged = true } ∷ process ∷ [])

abbrev tell_second : Request
tell_second = Request.SendMsg (fd 0) None (codes "a") (item_bytes (cred_item (record { pid = record { 0 = 2 }; uid = 1000; gid = 1000 })))
    (flags 0)

while_it_lives : replies (made first_is_privileged 0 ((1, pair_of SockType.Stream) ∷ (1, tell_second) ∷ []))
    ≡ Reply.Fds (fd 0) (fd 1) ∷ Reply.Count 1 ∷ []
unfolding computing
while_it_lives = refl

after_its_exit : replies (made first_is_privileged 0 ((2, Request.Exit) ∷ (1, pair_of SockType.Stream) ∷ (1, tell_second) ∷ []))
    ≡ Reply.Ok ∷ Reply.Fds (fd 0) (fd 1) ∷ Reply.Err Errno.ESRCH ∷ []
unfolding computing
after_its_exit = refl

-- ---- autobind: it gives the least name that is free

abbrev autobinds : ℕ → List Call → List Call
autobinds p rest = (p, Request.Socket SockType.Dgram none) ∷ (p, Request.Bind (fd 0) Addr.Unnamed) ∷ (p, Request.GetSockName (fd 0)) ∷ rest

the_first_name : answers (autobinds 1 [])
    ≡ Reply.Fd (fd 0) ∷ Reply.Ok ∷ Reply.Addr (Addr.Abstract (codes "00000")) ∷ []
unfolding computing bind make_socket get_sock_name
the_first_name = refl

the_second_name : answers (autobinds 2 (autobinds 1 []))
    ≡ Reply.Fd (fd 0) ∷ Reply.Ok ∷ Reply.Addr (Addr.Abstract (codes "00000"))
    ∷ Reply.Fd (fd 0) ∷ Reply.Ok ∷ Reply.Addr (Addr.Abstract (codes "00001")) ∷ []
unfolding computing bind make_socket get_sock_name
the_second_name = refl

-- ---- names: one that another has bound is in use, and a path that another made is found

abbrev binds : ℕ → Addr → List Call → List Call
binds p addr rest = (p, Request.Socket SockType.Dgram none) ∷ (p, Request.Bind (fd 0) addr) ∷ rest

a_path_is_free : answers (binds 1 (Addr.Path (codes "/p")) []) ≡ Reply.Fd (fd 0) ∷ Reply.Ok ∷ []
unfolding computing bind make_socket
a_path_is_free = refl

a_path_is_in_use : answers (binds 2 (Addr.Path (codes "/p")) (binds 1 (Addr.Path (codes "/p")) []))
    ≡ Reply.Fd (fd 0) ∷ Reply.Ok ∷ Reply.Fd (fd 0) ∷ Reply.Err Errno.EADDRINUSE ∷ []
unfolding computing bind make_socket
a_path_is_in_use = refl

an_abstract_name_is_in_use : answers (binds 2 (Addr.Abstract (codes "a")) (binds 1 (Addr.Abstract (codes "a")) []))
    ≡ Reply.Fd (fd 0) ∷ Reply.Ok ∷ Reply.Fd (fd 0) ∷ Reply.Err Errno.EADDRINUSE ∷ []
unfolding computing bind make_socket
an_abstract_name_is_in_use = refl

nothing_has_the_path : answers ((1, Request.Open (codes "/p") Mode.Read none) ∷ []) ≡ Reply.Err Errno.ENOENT ∷ []
unfolding computing
nothing_has_the_path = refl

another_made_it : answers ((2, Request.Create (codes "/p") Mode.Both none) ∷ (1, Request.Open (codes "/p") Mode.Read none) ∷ [])
    ≡ Reply.Fd (fd 0) ∷ Reply.Fd (fd 0) ∷ []
unfolding computing
another_made_it = refl

-- ---- rights in flight of a common user

abbrev passing : ℕ → Request
passing count = Request.SendMsg (fd 0) None (codes "a") (item_bytes (rights_item (replicate count 0))) (flags 0)

one_right_goes : answers ((1, pair_of SockType.Stream) ∷ (1, passing 1) ∷ []) ≡ Reply.Fds (fd 0) (fd 1) ∷ Reply.Count 1 ∷ []
unfolding computing
one_right_goes = refl

too_many_are_in_flight : answers ((2, pair_of SockType.Stream) ∷ (2, passing 16) ∷ (1, pair_of SockType.Stream) ∷ (1, passing 1) ∷ [])
    ≡ Reply.Fds (fd 0) (fd 1) ∷ Reply.Count 1 ∷ Reply.Fds (fd 0) (fd 1) ∷ Reply.Err Errno.ETOOMANYREFS ∷ []
unfolding computing
too_many_are_in_flight = refl

-- ---- numbers of file objects, by which it is reported that one was closed

abbrev makes_and_closes : List Call → List Call
makes_and_closes calls = (1, Request.MemFd none) ∷ (1, Request.Close (fd 0)) ∷ calls

abbrev closed_by : List Call → List (List ℕ)
closed_by calls = map (λ (e : Entry). e.released) (made (with_files []) 0 calls)

its_first_object : closed_by (makes_and_closes []) ≡ [] ∷ (0 ∷ []) ∷ []
unfolding computing make_object
its_first_object = refl

its_second_object : closed_by ((2, Request.MemFd none) ∷ makes_and_closes []) ≡ [] ∷ [] ∷ (1 ∷ []) ∷ []
unfolding computing make_object
its_second_object = refl

-- ---- tables that all share, which take more calls to fill: of file objects, and of processes

no_object_is_left : (S : State) (p : ℕ) (body : Body) (flags : OpenFlags) → object_table_full S ≡ true →
    ((make_object S p false body flags).reply ≡ Reply.Err Errno.EMFILE) ⊎
    ((make_object S p false body flags).reply ≡ Reply.Err Errno.ENFILE)
unfolding make_object
no_object_is_left S p body flags full = maybe Q (lowest_free (table_of S p)) _ _ (inl refl)
    (λ n low. either Q (object_table_full S) _ _ (λ b. inr refl) (λ b. absurd (false≢true (sym b ∙ full))))
  where
    Q : Outcome → Type 0
    Q o = (o.reply ≡ Reply.Err Errno.EMFILE) ⊎ (o.reply ≡ Reply.Err Errno.ENFILE)

no_process_is_left : (S : State) (p : ℕ) (P : Process) → process_at S p ≡ Some P → nat_le made_limit (length S.processes) ≡ true →
    (fork S p).reply ≡ Reply.Err Errno.EAGAIN
unfolding fork
no_process_is_left S p P here full = go (process_at S p) here
  where
    Q : Outcome → Type 0
    Q o = o.reply ≡ Reply.Err Errno.EAGAIN

    go : (x : Option Process) → x ≡ Some P → Q (elim x as (λ _. Outcome) [
      | None ↦ refuse S Errno.ESRCH
      | Some R ↦ if nat_le made_limit (length S.processes) then refuse S Errno.EAGAIN
          else taking_memory (Reply.Child (pid_of (next_process S))) (with_child S (child_of R))
    ])
    go None h = absurd (cc h)
    go (Some R) h = either Q (nat_le made_limit (length S.processes)) _ _ (λ b. refl) (λ b. absurd (false≢true (sym b ∙ full)))
