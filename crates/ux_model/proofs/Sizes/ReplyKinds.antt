-- Each reply is a refusal, or of the kind of its request. One lemma a call, and one line of `each_is`, at the end.
use Rattle.std.proofs.Common.{◌≡◌, ℕ, Bool, true, not, ◌&&◌, ◌||◌, ◌==◌, if◌then◌else◌, List, length, min, Option, Some, None, Result, Ok}
use Rattle.std.proofs.Common.{Err, refl, ap, ◌∙◌, [], map}
use Rattle.std.specs.Prelude.{nat_le, nat_lt, ℤ, pos, negsuc, ◌+ℤ◌, is_none, is_some, slice_get}
use Rattle.ux_model.specs.Making.{next_object, object_table_full, with_made, with_path, open_made, make_object, create_file, make_pipe}
use mathlib.Core.Bool.{or-true}
use Rattle.ux_model.specs.Types.{Errno, Fd, PollFds, Cred, Name, Addr, SockType, SockOpt, Mode, OpenFlags, MsgFlags, Whence, Request, Reply}
use Rattle.ux_model.specs.Places.{place}
use Rattle.ux_model.specs.Limits.{made_limit, read_limit, offset_limit, record_bytes_limit, poll_limit}
use Rattle.ux_model.specs.Flags.{asks_append, can_read, can_write, are_send_flags, are_receive_flags, no_flags}
use Rattle.ux_model.specs.Object.{Body, View, ObjectError, would_block, full, invalid, read_body, write_body, is_memory, is_pipe}
use Rattle.ux_model.specs.Object.{memory, counter, bytes_ahead}
use Rattle.ux_model.specs.Names.{named, is_valid_path, is_valid_addr, is_unnamed_addr, free_name}
use Rattle.ux_model.specs.Message.{Message}
use Rattle.ux_model.specs.Control.{Control}
use Rattle.ux_model.specs.ControlReading.{control_in}
use Rattle.ux_model.specs.Front.{Front, front_of}
use Rattle.ux_model.specs.Socket.{Socket, is_stream, is_dgram, peer_of, pending_ends, association_of, tied_socket, takes_from, has_room}
use Rattle.ux_model.specs.Description.{Description}
use Rattle.ux_model.specs.Process.{own_cred, lowest_free, lowest_free_from, two_lowest_free}
use Rattle.ux_model.specs.State.{State, process_at, socket_at, table_of}
use Rattle.ux_model.specs.Outcome.{Outcome, Chosen, own, lacking_memory, failing, refuse, descriptor_at}
use Rattle.ux_model.specs.Naming.{unlink}
use Rattle.ux_model.specs.Pairing.{make_pair}
use Rattle.ux_model.specs.Binding.{bind_to, bind, get_sock_name}
use Rattle.ux_model.specs.Connecting.{make_socket, listener_of, listen, connect_stream, connect_datagram, connect, get_peer_name, shutdown}
use Rattle.ux_model.specs.Accepting.{accept_first, accept}
use Rattle.ux_model.specs.Sending.{Sending, sending, descriptions_behind, message_of, flight_limit, is_over_limit, enqueue, is_too_long}
use Rattle.ux_model.specs.Sending.{send_to_peer, send_stream, send_from, is_sendable_addr, is_sendable_control, sender_cred_refusal}
use Rattle.ux_model.specs.Sending.{sent_cred, send_as, send_with, send_read, send_msg}
use Rattle.ux_model.proofs.Messages.Datagrams.{send_to_target, send_by_association, send_by}
use Rattle.ux_model.specs.Receiving.{Incoming, incoming, at_end, receive_nothing, receive_front, receive, read_socket, recv_msg}
use Rattle.ux_model.specs.Receiving.{bytes_alone}
use Rattle.ux_model.specs.FileObjects.{holds_bytes, is_open_for}
use Rattle.ux_model.specs.Opening.{open_file}
use Rattle.ux_model.specs.Reading.{is_short_read, read_error, read_answer, read}
use Rattle.ux_model.specs.Writing.{write_place, write_answer, write}
use Rattle.ux_model.specs.Seeking.{seek_base, seek_to, lseek}
use Rattle.ux_model.specs.Descriptors.{dup, dup2, dup_from, get_flags, set_flags}
use Rattle.ux_model.specs.QueueLengths.{in_queue, out_queue}
use Rattle.ux_model.specs.Options.{tell_cred, tell_option, get_opt, pass_cred_on, may_limit, change_option, set_opt}
use Rattle.ux_model.specs.Readiness.{poll}
use Rattle.ux_model.specs.Polling.{revents, some_ready, poll_many}
use Rattle.ux_model.specs.Users.{no_id, may_become, set_ids}
use Rattle.ux_model.specs.Forking.{fork, exec}
use Rattle.ux_model.specs.Closing.{close, exit, off}
use Rattle.ux_model.specs.Step.{Step, outcome}
use Rattle.ux_model.proofs.Changes.Walk.{either, maybe, by_target, by_path, by_queue, found, found_socket, found_named, found_peer}
use Rattle.ux_model.specs.ReplyKinds.{is_done, is_fd, is_fds, is_count, is_bytes, is_offset, is_message, is_accepted, is_addr, is_value}
use Rattle.ux_model.specs.ReplyKinds.{is_cred, is_ready, is_polled, is_child, is_flags, is_refusal, option_kind, kind_of, RepliesAreOfTheirKind}

-- of an outcome's own reply
abbrev pub Is : (Reply → Bool) → Outcome → Type 0
Is kind o = (kind o.reply || is_refusal o.reply) ≡ true

open_is : (S : State) (p : ℕ) (path : Name) (mode : Mode) (flags : OpenFlags) → Is is_fd (open_file S p path mode flags)
unfolding open_file
open_is S p path mode flags = either (Is is_fd) (not (is_valid_path path)) _ _ (λ b. refl)
    (λ b. maybe (Is is_fd) (named path S.paths) _ _ refl
    (λ t is. by_path (Is is_fd) t _ _ (λ o led. maybe (Is is_fd) (lowest_free (table_of S p)) _ _ refl (λ n low. refl)) (λ d led. refl)))

write_answer_is : (S : State) (d : ℕ) (D : Description) (o : ℕ) (view : View) (r : Result (ℕ × Body) ObjectError) →
    Is is_count (write_answer S d D o view r)
write_answer_is S d D o view (Ok made) = refl
write_answer_is S d D o view (Err e) = refl

seek_to_is : (S : State) (d : ℕ) (D : Description) (to : ℤ) → Is is_offset (seek_to S d D to)
seek_to_is S d D (pos n) = either (Is is_offset) (nat_lt offset_limit n) _ _ (λ b. refl) (λ b. refl)
seek_to_is S d D (negsuc n) = refl

lseek_is : (S : State) (p : ℕ) (fd : Fd) (offset : ℤ) (whence : Whence) → Is is_offset (lseek S p fd offset whence)
unfolding lseek
lseek_is S p fd offset whence = found (Is is_offset) S p fd _ refl (λ e D g h. by_target (Is is_offset) D.target _ _
    (λ o t. maybe (Is is_offset) (place S.objects o) _ _ refl
    (λ view there. either (Is is_offset) (not (is_memory view.body)) _ _ (λ b. refl)
    (λ b. seek_to_is S e.description D (pos (seek_base whence D view) +ℤ offset))))
    (λ s t. refl))

dup_is : (S : State) (p : ℕ) (fd : Fd) → Is is_fd (dup S p fd)
unfolding dup
dup_is S p fd = found (Is is_fd) S p fd _ refl (λ e D g h. maybe (Is is_fd) (lowest_free (table_of S p)) _ _ refl (λ n low. refl))

dup2_is : (S : State) (p : ℕ) (fd to : Fd) → Is is_fd (dup2 S p fd to)
unfolding dup2
dup2_is S p fd to = found (Is is_fd) S p fd _ refl (λ e D g h. either (Is is_fd) (nat_le (length (table_of S p)) to.0) _ _ (λ b. refl)
    (λ b. either (Is is_fd) (to.0 == fd.0) _ _ (λ b. refl) (λ b. refl)))

dup_from_is : (S : State) (p : ℕ) (fd minimum : Fd) → Is is_fd (dup_from S p fd minimum)
unfolding dup_from
dup_from_is S p fd minimum = found (Is is_fd) S p fd _ refl
    (λ e D g h. either (Is is_fd) (nat_le (length (table_of S p)) minimum.0) _ _ (λ b. refl)
    (λ b. maybe (Is is_fd) (lowest_free_from minimum.0 (table_of S p)) _ _ refl (λ n low. refl)))

get_flags_is : (S : State) (p : ℕ) (fd : Fd) → Is is_flags (get_flags S p fd)
unfolding get_flags
get_flags_is S p fd = found (Is is_flags) S p fd _ refl (λ e D g h. refl)

flags_is : (S : State) (p : ℕ) (fd : Fd) (flags : OpenFlags) → Is is_done (set_flags S p fd flags)
unfolding set_flags
flags_is S p fd flags = found (Is is_done) S p fd _ refl (λ e D g h. refl)

in_queue_is : (S : State) (p : ℕ) (fd : Fd) → Is is_count (in_queue S p fd)
unfolding in_queue
in_queue_is S p fd = found (Is is_count) S p fd _ refl (λ e D g h. by_target (Is is_count) D.target _ _
    (λ o t. maybe (Is is_count) (place S.objects o) _ _ refl
    (λ view there. maybe (Is is_count) (bytes_ahead view.body D.offset) _ _ refl (λ n is. refl)))
    (λ s t. either (Is is_count) (is_some (listener_of s.phase)) _ _ (λ b. refl) (λ b. refl)))

out_queue_is : (S : State) (p : ℕ) (fd : Fd) → Is is_count (out_queue S p fd)
unfolding out_queue
out_queue_is S p fd = found (Is is_count) S p fd _ refl (λ e D g h. by_target (Is is_count) D.target _ _ (λ o t. refl)
    (λ s t. either (Is is_count) (is_dgram s.kind) _ _ (λ b. refl) (λ b. refl)))

close_is : (S : State) (p : ℕ) (fd : Fd) → Is is_done (close S p fd)
unfolding close
close_is S p fd = found (Is is_done) S p fd _ refl (λ e D g h. refl)

unlink_is : (S : State) (path : Name) → Is is_done (unlink S path)
unfolding unlink
unlink_is S path = either (Is is_done) (not (is_valid_path path)) _ _ (λ b. refl)
    (λ b. either (Is is_done) (not (is_some (named path S.paths))) _ _ (λ b. refl) (λ b. refl))

exit_is : (S : State) (p : ℕ) → Is is_done (exit S p)
unfolding exit
exit_is S p = maybe (Is is_done) (process_at S p) _ _ refl (λ P h. refl)

fork_is : (S : State) (p : ℕ) → Is is_child (fork S p)
unfolding fork
fork_is S p = maybe (Is is_child) (process_at S p) _ _ refl
    (λ P h. either (Is is_child) (nat_le made_limit (length S.processes)) _ _ (λ b. refl) (λ b. refl))

exec_is : (S : State) (p : ℕ) → Is is_done (exec S p)
unfolding exec
exec_is S p = maybe (Is is_done) (process_at S p) _ _ refl (λ P h. refl)

ids_are_done : (S : State) (p uid gid : ℕ) → Is is_done (set_ids S p uid gid)
unfolding set_ids
ids_are_done S p uid gid = maybe (Is is_done) (process_at S p) _ _ refl
    (λ P h. either (Is is_done) ((uid == no_id) || (gid == no_id)) _ _ (λ b. refl)
    (λ b. either (Is is_done) (not (may_become uid gid P)) _ _ (λ b. refl) (λ b. refl)))

off_is : (S : State) → Is is_done (off S)
unfolding off
off_is S = refl

-- ---- of names and connections

socket_is : (S : State) (p : ℕ) (kind : SockType) (flags : OpenFlags) → Is is_fd (make_socket S p kind flags)
unfolding make_socket
socket_is S p kind flags = maybe (Is is_fd) (lowest_free (table_of S p)) _ _ refl (λ n low. refl)

made_is : (S T : State) (p : ℕ) (mode : Mode) (flags : OpenFlags) → Is is_fd (open_made S T p mode flags)
made_is S T p mode flags = maybe (Is is_fd) (lowest_free (table_of S p)) _ _ refl
    (λ n low. either (Is is_fd) (object_table_full S) _ _ (λ b. refl) (λ b. refl))

create_is : (S : State) (p : ℕ) (path : Name) (mode : Mode) (flags : OpenFlags) → Is is_fd (create_file S p path mode flags)
unfolding create_file
create_is S p path mode flags = either (Is is_fd) (not (is_valid_path path)) _ _ (λ b. refl)
    (λ b. either (Is is_fd) (is_some (named path S.paths)) _ _ (λ c. refl)
    (λ c. made_is S (with_path (with_made S (memory [])) path (next_object S)) p mode flags))

object_is : (S : State) (p : ℕ) (unknown : Bool) (body : Body) (flags : OpenFlags) → Is is_fd (make_object S p unknown body flags)
unfolding make_object
object_is S p unknown body flags = either (Is is_fd) unknown _ _ (λ b. refl) (λ b. made_is S (with_made S body) p Mode.Both flags)

pipe_is : (S : State) (p : ℕ) (flags : OpenFlags) → Is is_fds (make_pipe S p flags)
unfolding make_pipe
pipe_is S p flags = either (Is is_fds) (asks_append flags) _ _ (λ b. refl)
    (λ b. maybe (Is is_fds) (two_lowest_free (table_of S p)) _ _ refl
    (λ n low. either (Is is_fds) (object_table_full S) _ _ (λ c. refl) (λ c. refl)))

pair_is : (S : State) (p : ℕ) (kind : SockType) (flags : OpenFlags) → Is is_fds (make_pair S p kind flags)
unfolding make_pair
pair_is S p kind flags = maybe (Is is_fds) (process_at S p) _ _ refl
    (λ P h. maybe (Is is_fds) (two_lowest_free P.table) _ _ refl (λ n low. refl))

bind_to_is : (S : State) (d : ℕ) (addr : Addr) → Is is_done (bind_to S d addr)
bind_to_is S d Addr.Unnamed = maybe (Is is_done) (free_name S.abstract_names) _ _ refl (λ name free. refl)
bind_to_is S d (Addr.Path name) = either (Is is_done) (is_some (named name S.paths)) _ _ (λ b. refl) (λ b. refl)
bind_to_is S d (Addr.Abstract name) = either (Is is_done) (is_some (named name S.abstract_names)) _ _ (λ b. refl) (λ b. refl)

bind_is : (S : State) (p : ℕ) (fd : Fd) (addr : Addr) → Is is_done (bind S p fd addr)
unfolding bind
bind_is S p fd addr = found_socket (Is is_done) S p fd _ refl refl
    (λ d s h. either (Is is_done) (not (is_unnamed_addr s.name) || not (is_valid_addr addr)) _ _ (λ b. refl) (λ b. bind_to_is S d addr))

listen_is : (S : State) (p : ℕ) (fd : Fd) (backlog : ℤ) → Is is_done (listen S p fd backlog)
unfolding listen
listen_is S p fd backlog = maybe (Is is_done) (process_at S p) _ _ refl (λ P here. found_socket (Is is_done) S p fd _ refl refl
    (λ d s h. either (Is is_done) (is_dgram s.kind) _ _ (λ a. refl) (λ a. either (Is is_done) (is_some (peer_of s.phase)) _ _ (λ b. refl)
    (λ b. either (Is is_done) (is_unnamed_addr s.name) _ _ (λ c. refl) (λ c. refl)))))

stream_is : (S : State) (d : ℕ) (s : Socket) (addr : Addr) (cred : Cred) → Is is_done (connect_stream S d s addr cred)
stream_is S d s addr cred = either (Is is_done) (not (is_valid_addr addr) || is_unnamed_addr addr || is_some (listener_of s.phase)) _ _
    (λ b. refl)
    (λ b. either (Is is_done) (is_some (peer_of s.phase)) _ _ (λ c. refl) (λ c. found_named (Is is_done) S s.kind addr _ refl refl refl refl
    (λ l other there. maybe (Is is_done) (listener_of other.phase) _ _ refl
    (λ kept listens. either (Is is_done) (nat_le kept.backlog.limit (length kept.backlog.pending)) _ _ (λ e. refl) (λ e. refl)))))

datagram_is : (S : State) (d : ℕ) (kind : SockType) (addr : Addr) → Is is_done (connect_datagram S d kind addr)
datagram_is S d kind addr = either (Is is_done) (not (is_valid_addr addr)) _ _ (λ b. refl)
    (λ b. either (Is is_done) (is_unnamed_addr addr) _ _ (λ c. refl)
    (λ c. found_named (Is is_done) S kind addr _ refl refl refl refl
    (λ t target there. either (Is is_done) (takes_from d target.phase) _ _ (λ e. refl) (λ e. refl))))

connect_is : (S : State) (p : ℕ) (fd : Fd) (addr : Addr) → Is is_done (connect S p fd addr)
unfolding connect
connect_is S p fd addr = maybe (Is is_done) (process_at S p) _ _ refl (λ P here. found_socket (Is is_done) S p fd _ refl refl
    (λ d s h. either (Is is_done) (is_dgram s.kind) _ _ (λ b. datagram_is S d s.kind addr) (λ b. stream_is S d s addr (own_cred p P))))

shutdown_is : (S : State) (p : ℕ) (fd : Fd) (how : Mode) → Is is_done (shutdown S p fd how)
unfolding shutdown
shutdown_is S p fd how = found_socket (Is is_done) S p fd _ refl refl
    (λ d s h. either (Is is_done) (is_none (tied_socket s.phase)) _ _ (λ b. refl) (λ b. refl))

-- ---- of options and readiness

passcred_is : (S : State) (d : ℕ) (s : Socket) → Is is_done (pass_cred_on S d s)
passcred_is S d s = either (Is is_done) (not (is_unnamed_addr s.name) || is_some (tied_socket s.phase)) _ _ (λ b. refl)
    (λ b. maybe (Is is_done) (free_name S.abstract_names) _ _ refl (λ name free. refl))

change_is : (S : State) (d : ℕ) (s : Socket) (value : ℕ) (opt : SockOpt) → Is is_done (change_option S d s value opt)
change_is S d s value SockOpt.Kind = refl
change_is S d s value SockOpt.Error = refl
change_is S d s value SockOpt.PassCred = either (Is is_done) (value == 0) _ _ (λ b. refl) (λ b. passcred_is S d s)
change_is S d s value SockOpt.PeerCred = refl
change_is S d s value SockOpt.AcceptConn = refl
change_is S d s value SockOpt.QueueLimit =
    either (Is is_done) (not (is_stream s.kind)) _ _ (λ b. refl)
    (λ b. either (Is is_done) (not (may_limit value)) _ _ (λ c. refl) (λ c. refl))

set_opt_is : (S : State) (p : ℕ) (fd : Fd) (opt : SockOpt) (value : ℕ) → Is is_done (set_opt S p fd opt value)
unfolding set_opt
set_opt_is S p fd opt value = found_socket (Is is_done) S p fd _ refl refl (λ d s h. change_is S d s value opt)

poll_is : (S : State) (p : ℕ) (fd : Fd) → Is is_ready (poll S p fd)
unfolding poll
poll_is S p fd = maybe (Is is_ready) (descriptor_at S p fd) _ _ refl (λ e h. refl)

poll_many_is : (S : State) (p : ℕ) (fds : PollFds) (waits : Bool) → Is is_polled (poll_many S p fds waits)
unfolding poll_many
poll_many_is S p fds waits = either (Is is_polled) (nat_lt poll_limit (length fds)) _ _ (λ b. refl)
    (λ b. either (Is is_polled) (waits && not (some_ready (map (revents S p) fds))) _ _ (λ c. refl) (λ c. refl))

-- ---- of sends

enqueue_is : (S : State) (limit : Option ℕ) (d : ℕ) (other : Socket) (m : Message) → Is is_count (enqueue S limit d other m)
enqueue_is S limit d other m = either (Is is_count) (is_stream other.kind && (length m.bytes == 0)) _ _ (λ b. refl)
    (λ b. either (Is is_count) (is_over_limit S limit m) _ _ (λ c. refl)
    (λ c. either (Is is_count) (not (has_room other)) _ _ (λ e. refl) (λ e. refl)))

to_peer_is : (S : State) (limit : Option ℕ) (shut : Bool) (d : ℕ) (m : Message) → Is is_count (send_to_peer S limit shut d m)
to_peer_is S limit shut d m = maybe (Is is_count) (socket_at S d) _ _ refl
    (λ other h. either (Is is_count) (shut || other.read_shut) _ _ (λ b. refl)
    (λ b. either (Is is_count) (is_too_long other m) _ _ (λ c. refl) (λ c. enqueue_is S limit d other m)))

to_stream_is : (S : State) (limit : Option ℕ) (shut : Bool) (peer : Option ℕ) (addr : Option Addr) (m : Message) →
    Is is_count (send_stream S limit shut peer addr m)
to_stream_is S limit shut None None m = refl
to_stream_is S limit shut (Some peer) None m = to_peer_is S limit shut peer m
to_stream_is S limit shut peer (Some addr) m = refl

to_target_is : (S : State) (limit : Option ℕ) (d t : ℕ) (target : Socket) (m : Message) → Is is_count (send_to_target S limit d t target m)
to_target_is S limit d t target m = either (Is is_count) (not (takes_from d target.phase)) _ _ (λ b. refl)
    (λ b. either (Is is_count) target.read_shut _ _ (λ c. refl) (λ c. enqueue_is S limit t target m))

by_association_is : (S : State) (limit : Option ℕ) (d : ℕ) (tied : Option ℕ) (m : Message) →
    Is is_count (send_by_association S limit d tied m)
by_association_is S limit d None m = refl
by_association_is S limit d (Some t) m = maybe (Is is_count) (socket_at S t) _ _ refl (λ target h. to_target_is S limit d t target m)

by_is : (S : State) (limit : Option ℕ) (d : ℕ) (s : Socket) (addr : Option Addr) (m : Message) → Is is_count (send_by S limit d s addr m)
by_is S limit d s None m = by_association_is S limit d (association_of s.phase) m
by_is S limit d s (Some addr) m = found_named (Is is_count) S s.kind addr _ refl refl refl refl
    (λ t target there. to_target_is S limit d t target m)

from_is : (S : State) (limit : Option ℕ) (d : ℕ) (s : Socket) (addr : Option Addr) (m : Message) →
    Is is_count (send_from S limit d s addr m)
from_is S limit d s addr m = either (Is is_count) (is_dgram s.kind) _ _
    (λ b. either (Is is_count) (nat_lt record_bytes_limit (length m.bytes)) _ _ (λ c. refl)
    (λ c. either (Is is_count) s.write_shut _ _ (λ e. refl) (λ e. by_is S limit d s addr (record m { from = Some s.name }))))
    (λ b. to_stream_is S limit s.write_shut (peer_of s.phase) addr m)

given_is : (S : State) (k : Sending) (d : ℕ) (s : Socket) (given : Option Cred) (rights : List ℕ) →
    Is is_count (send_as S k d s given rights)
given_is S k d s given rights = maybe_not (sender_cred_refusal S k.caller k.process given)
  where
    maybe_not : (o : Option Errno) → Is is_count (elim o as (λ _. Outcome) [
      | Some e ↦ refuse S e
      | None ↦ if not (is_sendable_addr k.addr) then refuse S Errno.EINVAL
          else send_from S (flight_limit k.process) d s k.addr (message_of k (sent_cred k.caller k.process given) rights)
    ])
    maybe_not (Some e) = refl
    maybe_not None = either (Is is_count) (not (is_sendable_addr k.addr)) _ _ (λ b. refl)
        (λ b. from_is S (flight_limit k.process) d s k.addr _)

read_is : (S : State) (k : Sending) (d : ℕ) (s : Socket) (control : Option Control) → Is is_count (send_read S k d s control)
unfolding send_read send_with
read_is S k d s None = refl
read_is S k d s (Some control) = either (Is is_count) (not (is_sendable_control s.kind k.bytes control)) _ _ (λ b. refl)
    (λ b. maybe (Is is_count) (descriptions_behind (table_of S k.caller) control.rights) _ _ refl
    (λ rights behind. given_is S k d s control.cred rights))

send_is : (S : State) (p tag : ℕ) (fd : Fd) (addr : Option Addr) (bytes control : List ℕ) (flags : MsgFlags) →
    Is is_count (send_msg S p tag fd addr bytes control flags)
unfolding send_msg
send_is S p tag fd addr bytes control flags =
    maybe (Is is_count) (process_at S p) _ _ refl (λ P here. found_socket (Is is_count) S p fd _ refl refl
    (λ d s h. either (Is is_count) (not (are_send_flags flags)) _ _ (λ b. refl)
    (λ b. read_is S (sending tag p P addr bytes) d s (control_in control))))

write_is : (S : State) (p tag : ℕ) (fd : Fd) (bytes : List ℕ) → Is is_count (write S p tag fd bytes)
unfolding write
write_is S p tag fd bytes = found (Is is_count) S p fd _ refl (λ e D g h. by_target (Is is_count) D.target _ _
    (λ o t. maybe (Is is_count) (place S.objects o) _ _ refl (λ view there. either (Is is_count) (not (can_write D.mode)) _ _ (λ b. refl)
    (λ b. either (Is is_count) (holds_bytes view.body && (length bytes == 0)) _ _ (λ b. refl)
    (λ b. either (Is is_count) (is_pipe view.body && not (is_open_for can_read S o)) _ _ (λ b. refl)
    (λ b. (write_answer_is S e.description D o view (write_body view.body (write_place D view) bytes)))))))
    (λ s t. maybe (Is is_count) (process_at S p) _ _ refl (λ P here. from_is S (flight_limit P) e.description s None _)))

-- ---- options, names and connections

option_is : (S : State) (d : ℕ) (s : Socket) (opt : SockOpt) → Is (option_kind opt) (tell_option S d s opt)
option_is S d s SockOpt.Kind = refl
option_is S d s SockOpt.Error = refl
option_is S d s SockOpt.PassCred = refl
option_is S d s SockOpt.PeerCred = cred_is S s.peer_cred
  where
    cred_is : (S : State) (cred : Option Cred) → Is is_cred (tell_cred S cred)
    cred_is S None = refl
    cred_is S (Some cred) = refl
option_is S d s SockOpt.AcceptConn = refl
option_is S d s SockOpt.QueueLimit = either (Is is_value) (is_stream s.kind) _ _ (λ b. refl) (λ b. refl)

get_opt_is : (S : State) (p : ℕ) (fd : Fd) (opt : SockOpt) → Is (option_kind opt) (get_opt S p fd opt)
unfolding get_opt
get_opt_is S p fd opt = found_socket (Is (option_kind opt)) S p fd _ (or-true (option_kind opt (Reply.Err Errno.EBADF)))
    (or-true (option_kind opt (Reply.Err Errno.ENOTSOCK))) (λ d s h. option_is S d s opt)

sock_name_is : (S : State) (p : ℕ) (fd : Fd) → Is is_addr (get_sock_name S p fd)
unfolding get_sock_name
sock_name_is S p fd = found_socket (Is is_addr) S p fd _ refl refl (λ d s h. refl)

peer_name_is : (S : State) (p : ℕ) (fd : Fd) → Is is_addr (get_peer_name S p fd)
unfolding get_peer_name
peer_name_is S p fd = found_socket (Is is_addr) S p fd _ refl refl
    (λ d s h. found_peer (Is is_addr) S s.phase _ refl (λ peer other there. refl))

accept_first_is : (S : State) (p n d : ℕ) (flags : OpenFlags) (first : Option ℕ) → Is is_accepted (accept_first S p n d flags first)
accept_first_is S p n d flags None = refl
accept_first_is S p n d flags (Some e) = refl

accept_is : (S : State) (p : ℕ) (fd : Fd) (flags : OpenFlags) → Is is_accepted (accept S p fd flags)
unfolding accept
accept_is S p fd flags = found_socket (Is is_accepted) S p fd _ refl refl
    (λ d s h. either (Is is_accepted) (is_dgram s.kind) _ _ (λ a. refl)
    (λ a. either (Is is_accepted) (is_none (listener_of s.phase)) _ _ (λ b. refl)
    (λ b. maybe (Is is_accepted) (lowest_free (table_of S p)) _ _ refl
    (λ n low. accept_first_is S p n d flags (slice_get (pending_ends s.phase) 0)))))

-- ---- receives, of which read(2) reports the bytes alone

record Receives (o : Outcome) : Type 0 where
  message : Is is_message o
  alone : (is_bytes (bytes_alone o.reply) || is_refusal (bytes_alone o.reply)) ≡ true

front_is : (S : State) (p d : ℕ) (s : Socket) (asked : Incoming) (front : Front) → Receives (receive_front S p d s asked front)
unfolding receive_front
front_is S p d s asked front = record { message = refl; alone = refl }

nothing_is : (S : State) (d : ℕ) (s : Socket) (peer : ℕ) → Receives (receive_nothing S d s peer)
nothing_is S d s peer = either Receives s.reset _ _ (λ b. record { message = refl; alone = refl })
    (λ b. either Receives (at_end S s peer) _ _ (λ c. record { message = refl; alone = refl })
    (λ c. record { message = refl; alone = refl }))

receive_is : (S : State) (p d : ℕ) (s : Socket) (asked : Incoming) → Receives (receive S p d s asked)
receive_is S p d s asked = either Receives (is_dgram s.kind) _ _
    (λ b. by_queue Receives s.queue _ _ (λ none. either Receives s.read_shut _ _ (λ c. record { message = refl; alone = refl })
    (λ c. record { message = refl; alone = refl }))
    (λ m ms q. front_is S p d s asked (front_of asked.n s m ms)))
    (λ b. maybe Receives (peer_of s.phase) _ _ (record { message = refl; alone = refl })
    (λ peer is. either Receives (is_stream s.kind && (asked.n == 0)) _ _
    (λ c. record { message = refl; alone = refl })
    (λ c. by_queue Receives s.queue _ _ (λ none. nothing_is S d s peer) (λ m ms q. front_is S p d s asked (front_of asked.n s m ms)))))

recv_is : (S : State) (p : ℕ) (fd : Fd) (n space : ℕ) (flags : MsgFlags) → Is is_message (recv_msg S p fd n space flags)
unfolding recv_msg
recv_is S p fd n space flags = found_socket (Is is_message) S p fd _ refl refl
    (λ d s h. either (Is is_message) (not (are_receive_flags flags)) _ _ (λ b. refl)
    (λ b. (receive_is S p d s (incoming n space flags)).message))

-- ---- reads

read_error_is : (S : State) (o : ℕ) (view : View) (error : ObjectError) → Is is_bytes (read_error S o view error)
read_error_is S o view would_block = either (Is is_bytes) (is_pipe view.body && not (is_open_for can_write S o)) _ _ (λ b. refl) (λ b. refl)
read_error_is S o view full = refl
read_error_is S o view invalid = refl

read_answer_is : (S : State) (d : ℕ) (D : Description) (o : ℕ) (view : View) (r : Result (List ℕ × Body) ObjectError) →
    Is is_bytes (read_answer S d D o view r)
read_answer_is S d D o view (Ok found) = refl
read_answer_is S d D o view (Err error) = read_error_is S o view error

read_file_is : (S : State) (p : ℕ) (fd : Fd) (n : ℕ) → Is is_bytes (read S p fd n)
unfolding read
read_file_is S p fd n = found (Is is_bytes) S p fd _ refl (λ e D g h. by_target (Is is_bytes) D.target _ _
    (λ o t. maybe (Is is_bytes) (place S.objects o) _ _ refl (λ view there. either (Is is_bytes) (not (can_read D.mode)) _ _ (λ b. refl)
    (λ b. either (Is is_bytes) (is_short_read view.body (min read_limit n)) _ _ (λ c. refl)
    (λ c. either (Is is_bytes) (holds_bytes view.body && (min read_limit n == 0)) _ _ (λ x. refl)
    (λ x. read_answer_is S e.description D o view (read_body view.body D.offset (min read_limit n)))))))
    (λ s t. maybe_socket e.description s))
  where
    maybe_socket : (d : ℕ) (s : Socket) → Is is_bytes (read_socket S p d s (min read_limit n))
    maybe_socket d s = (receive_is S p d s (incoming (min read_limit n) 0 no_flags)).alone

-- ---- the law

pub each_is : (S : State) (p tag : ℕ) (request : Request) → Is (kind_of request) (outcome S p tag request)
unfolding outcome
each_is S p tag (Request.Open path mode flags) = open_is S p path mode flags
each_is S p tag (Request.Create path mode flags) = create_is S p path mode flags
each_is S p tag (Request.MemFd flags) = object_is S p _ (memory []) flags
each_is S p tag (Request.EventFd value semaphore flags) = object_is S p _ (counter semaphore value) flags
each_is S p tag (Request.Pipe flags) = pipe_is S p flags
each_is S p tag (Request.Read fd n) = read_file_is S p fd n
each_is S p tag (Request.Write fd bytes) = write_is S p tag fd bytes
each_is S p tag (Request.Lseek fd offset whence) = lseek_is S p fd offset whence
each_is S p tag (Request.Dup fd) = dup_is S p fd
each_is S p tag (Request.Dup2 fd to) = dup2_is S p fd to
each_is S p tag (Request.DupFrom fd minimum) = dup_from_is S p fd minimum
each_is S p tag (Request.GetFlags fd) = get_flags_is S p fd
each_is S p tag (Request.InQueue fd) = in_queue_is S p fd
each_is S p tag (Request.OutQueue fd) = out_queue_is S p fd
each_is S p tag (Request.SetFlags fd flags) = flags_is S p fd flags
each_is S p tag (Request.Close fd) = close_is S p fd
each_is S p tag (Request.Unlink path) = unlink_is S path
each_is S p tag (Request.Socket kind flags) = socket_is S p kind flags
each_is S p tag (Request.SocketPair kind flags) = pair_is S p kind flags
each_is S p tag (Request.Bind fd addr) = bind_is S p fd addr
each_is S p tag (Request.Listen fd backlog) = listen_is S p fd backlog
each_is S p tag (Request.Connect fd addr) = connect_is S p fd addr
each_is S p tag (Request.Accept fd flags) = accept_is S p fd flags
each_is S p tag (Request.Shutdown fd how) = shutdown_is S p fd how
each_is S p tag (Request.GetOpt fd opt) = get_opt_is S p fd opt
each_is S p tag (Request.SetOpt fd opt value) = set_opt_is S p fd opt value
each_is S p tag (Request.GetSockName fd) = sock_name_is S p fd
each_is S p tag (Request.GetPeerName fd) = peer_name_is S p fd
each_is S p tag (Request.SendMsg fd addr bytes control flags) = send_is S p tag fd addr bytes control flags
each_is S p tag (Request.RecvMsg fd n space flags) = recv_is S p fd n space flags
each_is S p tag (Request.Poll fd) = poll_is S p fd
each_is S p tag (Request.PollMany fds waits) = poll_many_is S p fds waits
each_is S p tag (Request.SetIds uid gid) = ids_are_done S p uid gid
each_is S p tag Request.Fork = fork_is S p
each_is S p tag Request.Exec = exec_is S p
each_is S p tag Request.Exit = exit_is S p
each_is S p tag Request.Off = off_is S

chosen_is : (S T : State) (kind : Reply → Bool) (o : Outcome) (reply : Reply) → Is kind o → Chosen S o reply T →
    (kind reply || is_refusal reply) ≡ true
chosen_is S T kind o reply w (own e f) = ap (λ r. kind r || is_refusal r) e ∙ w
chosen_is S T kind o reply w (lacking_memory e may f) = ap (λ r. kind r || is_refusal r) e ∙ or-true (kind (Reply.Err Errno.ENOMEM))
chosen_is S T kind o reply w (failing e f) = ap (λ r. kind r || is_refusal r) e ∙ or-true (kind (Reply.Err Errno.EIO))

pub replies_are_of_their_kind : RepliesAreOfTheirKind
unfolding Step
replies_are_of_their_kind S T p tag request reply gone s =
    chosen_is S s.0 (kind_of request) (outcome S p tag request) reply (each_is S p tag request) s.1
