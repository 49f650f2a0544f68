-- Each call leaves the processes of others, but for the end of the layer. One lemma a call that touches its own, and one line of
-- `act_leaves`.
use Rattle.std.proofs.Common.{◌≡◌, ℕ, zero, suc, ◌==◌, Bool, true, false, not, ◌&&◌, ◌||◌, List, [], ◌∷◌, ◌++◌, length, min, Option, Some}
use Rattle.std.proofs.Common.{None}
use Rattle.std.proofs.Common.{Result, Ok, Err, refl, ap, sym, ◌∙◌, subst, slice_get, if◌then◌else◌}
use Rattle.std.specs.Prelude.{nat_le, nat_lt, ℤ, pos, negsuc, ◌+ℤ◌, is_some, is_none, cond}
use Rattle.std.proofs.lemmas.Bool.{eqb-false, false≢true}
use Rattle.ux_model.specs.Types.{Errno, Fd, Cred, Name, Addr, SockType, Mode, OpenFlags, MsgFlags, SockOpt, Whence, Request, Reply}
use Rattle.ux_model.specs.Limits.{made_limit, read_limit, offset_limit, record_bytes_limit}
use Rattle.ux_model.specs.Places.{place}
use Rattle.ux_model.specs.Flags.{asks_append, can_read, can_write, no_flags, are_receive_flags, are_send_flags, asks_peek}
use Rattle.ux_model.specs.Object.{Body, View, memory, counter, ObjectError, would_block, full, invalid, read_body, write_body}
use Rattle.ux_model.specs.Object.{is_memory, is_pipe}
use Rattle.ux_model.specs.Names.{PathTarget, file, named, is_valid_path, is_valid_addr, is_unnamed_addr, free_name}
use Rattle.ux_model.specs.Message.{Message}
use Rattle.ux_model.specs.Front.{front_of}
use Rattle.ux_model.specs.Control.{Control}
use Rattle.ux_model.specs.ControlReading.{control_in}
use Rattle.ux_model.specs.Socket.{Socket, is_stream, is_dgram, peer_of, association_of, tied_socket, pending_ends, with_queue}
use Rattle.ux_model.specs.Socket.{takes_from, has_room}
use Rattle.ux_model.specs.Description.{Description}
use Rattle.ux_model.specs.Process.{Process, Descriptor, own_cred, lowest_free, lowest_free_from, two_lowest_free}
use Rattle.ux_model.specs.State.{State, process_at, socket_at, table_of, with_process, with_table, with_new, with_socket_by}
use Rattle.ux_model.specs.Outcome.{Outcome, Chosen, own, lacking_memory, failing, refuse}
use Rattle.ux_model.specs.FileObjects.{holds_bytes, is_open_for}
use Rattle.ux_model.specs.Opening.{open_file, file_description}
use Rattle.ux_model.specs.Making.{next_object, object_table_full, with_pipe, open_made, make_object, create_file, make_pipe}
use Rattle.ux_model.specs.Reading.{read, read_answer, is_short_read}
use Rattle.ux_model.specs.Descriptors.{dup, dup2, dup_from, set_flags}
use Rattle.ux_model.specs.Pairing.{make_pair}
use Rattle.ux_model.specs.Connecting.{make_socket, listener_of, listen, connect_to, connect_stream, connect_datagram, connect, shutdown}
use Rattle.ux_model.specs.Accepting.{accept_first, accept}
use Rattle.ux_model.specs.Receiving.{Incoming, incoming, receive_front, receive, recv_msg}
use Rattle.ux_model.specs.Writing.{write, write_answer, write_place}
use Rattle.ux_model.specs.Seeking.{lseek, seek_to, seek_base}
use Rattle.ux_model.specs.Naming.{unlink}
use Rattle.ux_model.specs.Binding.{bind_to, bind}
use Rattle.ux_model.specs.Options.{tell_cred, tell_option, get_opt, change_option, may_limit, set_opt}
use Rattle.ux_model.specs.Sending.{sending, message_of, flight_limit, is_over_limit, enqueue, is_too_long, send_connected, send_stream}
use Rattle.ux_model.specs.Sending.{send_from, is_sendable_addr, is_sendable_control, sender_cred_refusal, sent_cred, send_as, send_read}
use Rattle.ux_model.specs.Sending.{send_with, send_msg, descriptions_behind}
use Rattle.ux_model.specs.Users.{no_id, may_become, set_ids}
use Rattle.ux_model.specs.Forking.{child_of, fork, exec}
use Rattle.ux_model.specs.Closing.{close, exit}
use Rattle.ux_model.specs.Step.{outcome}
use Rattle.ux_model.specs.Asking.{asks}
use Rattle.ux_model.specs.History.{is_off}
use Rattle.ux_model.proofs.Changes.Walk.{either, maybe, by_path, by_target, found}
use Rattle.ux_model.proofs.Lists.ByPlace.{get_set_other}
use Rattle.ux_model.proofs.Steps.Asking.{each_asks}
use Rattle.ux_model.proofs.Steps.Calls.{each_obeys}
use Rattle.ux_model.proofs.Steps.MakingCalls.{made_so}
use Rattle.ux_model.proofs.Messages.Datagrams.{send_to_target, send_by_association, send_by}
use Rattle.ux_model.proofs.Tables.Shows.{by_socket}
use Rattle.ux_model.proofs.Tables.MessageShows.{by_receive}
use Rattle.ux_laws.proofs.Doing.Naming.{by_addr}

-- ---- states

pub record Leaves (S : State) (p : ℕ) (U : State) : Type 0 where
  pub each : (q : ℕ) (P : Process) → (p == q) ≡ false → process_at S q ≡ Some P → process_at U q ≡ Some P

pub by_list : (q : ℕ) (S U : State) → U.processes ≡ S.processes → process_at U q ≡ process_at S q
by_list zero S U same = refl
by_list (suc i) S U same = ap (λ (Ps : List Process). slice_get Ps i) same

pub same_processes : {S : State} {p : ℕ} (U : State) → U.processes ≡ S.processes → Leaves S p U
same_processes {S} U same = record { each = λ q P other h. by_list q S U same ∙ h }

pub all_left : {S : State} {p : ℕ} → Leaves S p S
all_left {S} = same_processes S refl

process_left : {S : State} {p : ℕ} (T : State) (P : Process) → T.processes ≡ S.processes → Leaves S p (with_process T p P)
process_left {S} {p} T P same = record { each = λ q R other h. go p q other ∙ by_list q S T same ∙ h }
  where
    go : (p q : ℕ) → (p == q) ≡ false → process_at (with_process T p P) q ≡ process_at T q
    go zero q other = refl
    go (suc i) zero other = refl
    go (suc i) (suc j) other = get_set_other T.processes i j P (λ e. eqb-false (suc i) (suc j) other (ap suc e))

pub table_left : {S : State} {p : ℕ} (T : State) (table : List (Option Descriptor)) → T.processes ≡ S.processes →
    Leaves S p (with_table T p table)
table_left {S} {p} T table same = go (process_at T p)
  where
    go : (x : Option Process) → Leaves S p (elim x as (λ _. State) [
      | Some P ↦ with_process T p (record P { table = table })
      | None ↦ T
    ])
    go None = same_processes T same
    go (Some P) = process_left T (record P { table = table }) same

-- what changes afterwards are no processes
then_left : {S : State} {p : ℕ} {T : State} (U : State) → U.processes ≡ T.processes → Leaves S p T → Leaves S p U
then_left {S} {p} {T} U same left = record { each = λ q P other h. by_list q T U same ∙ left.each q P other h }

-- ---- calls that touch their own process

open_leaves : (S : State) (p : ℕ) (path : Name) (mode : Mode) (flags : OpenFlags) → Leaves S p (open_file S p path mode flags).next
unfolding open_file
open_leaves S p path mode flags = either Q (not (is_valid_path path)) _ _ (λ b. all_left)
    (λ b. maybe Q (named path S.paths) _ _ all_left
    (λ t is. by_path Q t _ _
    (λ o led. maybe Q (lowest_free (table_of S p)) _ _ all_left (λ n low. table_left (with_new S (file_description o mode flags)) _ refl))
    (λ d led. all_left)))
  where
    Q : Outcome → Type 0
    Q o = Leaves S p o.next

made_leaves : (S : State) (p : ℕ) (body : Body) (names : List (Name × PathTarget)) (mode : Mode) (flags : OpenFlags) →
    Leaves S p (open_made S (made_so S body names) p mode flags).next
made_leaves S p body names mode flags = maybe Q (lowest_free (table_of S p)) _ _ all_left
    (λ n low. either Q (object_table_full S) _ _ (λ b. all_left)
    (λ b. table_left (with_new (made_so S body names) (file_description (next_object S) mode flags)) _ refl))
  where
    Q : Outcome → Type 0
    Q o = Leaves S p o.next

create_leaves : (S : State) (p : ℕ) (path : Name) (mode : Mode) (flags : OpenFlags) → Leaves S p (create_file S p path mode flags).next
unfolding create_file
create_leaves S p path mode flags = either Q (not (is_valid_path path)) _ _ (λ b. all_left)
    (λ b. either Q (is_some (named path S.paths)) _ _ (λ c. all_left)
    (λ c. made_leaves S p (memory []) (S.paths ++ (path, file (next_object S)) ∷ []) mode flags))
  where
    Q : Outcome → Type 0
    Q o = Leaves S p o.next

object_leaves : (S : State) (p : ℕ) (unknown : Bool) (body : Body) (flags : OpenFlags) → Leaves S p
    (make_object S p unknown body flags).next
unfolding make_object
object_leaves S p unknown body flags = either (λ o. Leaves S p o.next) unknown _ _ (λ b. all_left)
    (λ b. made_leaves S p body S.paths Mode.Both flags)

pipe_leaves : (S : State) (p : ℕ) (flags : OpenFlags) → Leaves S p (make_pipe S p flags).next
unfolding make_pipe
pipe_leaves S p flags = either Q (asks_append flags) _ _ (λ b. all_left)
    (λ b. maybe Q (two_lowest_free (table_of S p)) _ _ all_left (λ n low. either Q (object_table_full S) _ _ (λ c. all_left)
    (λ c. table_left (with_pipe S flags) _ refl)))
  where
    Q : Outcome → Type 0
    Q o = Leaves S p o.next

socket_leaves : (S : State) (p : ℕ) (kind : SockType) (flags : OpenFlags) → Leaves S p (make_socket S p kind flags).next
unfolding make_socket
socket_leaves S p kind flags = maybe (λ o. Leaves S p o.next) (lowest_free (table_of S p)) _ _ all_left (λ n low. table_left _ _ refl)

pair_leaves : (S : State) (p : ℕ) (kind : SockType) (flags : OpenFlags) → Leaves S p (make_pair S p kind flags).next
unfolding make_pair
pair_leaves S p kind flags = maybe Q (process_at S p) _ _ all_left
    (λ P h. maybe Q (two_lowest_free P.table) _ _ all_left (λ n low. table_left _ _ refl))
  where
    Q : Outcome → Type 0
    Q o = Leaves S p o.next

dup_leaves : (S : State) (p : ℕ) (fd : Fd) → Leaves S p (dup S p fd).next
unfolding dup
dup_leaves S p fd = found Q S p fd _ all_left
    (λ e D g h. maybe Q (lowest_free (table_of S p)) _ _ all_left (λ n low. table_left S _ refl))
  where
    Q : Outcome → Type 0
    Q o = Leaves S p o.next

dup2_leaves : (S : State) (p : ℕ) (fd to : Fd) → Leaves S p (dup2 S p fd to).next
unfolding dup2
dup2_leaves S p fd to = found Q S p fd _ all_left (λ e D g h. either Q (nat_le (length (table_of S p)) to.0) _ _ (λ b. all_left)
    (λ b. either Q (to.0 == fd.0) _ _ (λ b. all_left) (λ b. table_left S _ refl)))
  where
    Q : Outcome → Type 0
    Q o = Leaves S p o.next

dup_from_leaves : (S : State) (p : ℕ) (fd minimum : Fd) → Leaves S p (dup_from S p fd minimum).next
unfolding dup_from
dup_from_leaves S p fd minimum = found Q S p fd _ all_left
    (λ e D g h. either Q (nat_le (length (table_of S p)) minimum.0) _ _ (λ b. all_left)
    (λ b. maybe Q (lowest_free_from minimum.0 (table_of S p)) _ _ all_left (λ n low. table_left S _ refl)))
  where
    Q : Outcome → Type 0
    Q o = Leaves S p o.next

flags_leave : (S : State) (p : ℕ) (fd : Fd) (flags : OpenFlags) → Leaves S p (set_flags S p fd flags).next
unfolding set_flags
flags_leave S p fd flags = found (λ o. Leaves S p o.next) S p fd _ all_left (λ e D g h. table_left _ _ refl)

close_leaves : (S : State) (p : ℕ) (fd : Fd) → Leaves S p (close S p fd).next
unfolding close
close_leaves S p fd = found (λ o. Leaves S p o.next) S p fd _ all_left (λ e D g h. table_left S _ refl)

accept_leaves : (S : State) (p : ℕ) (fd : Fd) (flags : OpenFlags) → Leaves S p (accept S p fd flags).next
unfolding accept
accept_leaves S p fd flags = by_socket Q S p fd _ (λ e. all_left) (λ d s led there. either Q (is_dgram s.kind) _ _ (λ a. all_left)
    (λ a. either Q (is_none (listener_of s.phase)) _ _ (λ b. all_left)
    (λ b. maybe Q (lowest_free (table_of S p)) _ _ all_left (λ n low. oldest d n (slice_get (pending_ends s.phase) 0)))))
  where
    Q : Outcome → Type 0
    Q o = Leaves S p o.next

    oldest : (d n : ℕ) (o : Option ℕ) → Leaves S p (accept_first S p n d flags o).next
    oldest d n None = all_left
    oldest d n (Some e) = then_left _ refl (table_left S _ refl)

front_leaves : (S : State) (p d : ℕ) (s : Socket) (asked : Incoming) (m : Message) (ms : List Message) →
    Leaves S p (receive_front S p d s asked (front_of asked.n s m ms)).next
unfolding receive_front
front_leaves S p d s asked m ms = go (asks_peek asked.flags) _ (table_left S _ refl)
  where
    go : (b : Bool) (T : State) → Leaves S p T → Leaves S p (cond b T (with_socket_by T d (with_queue (front_of asked.n s m ms).rest)))
    go true T left = left
    go false T left = then_left _ refl left

receive_leaves : (S : State) (p d : ℕ) (s : Socket) (asked : Incoming) → Leaves S p (receive S p d s asked).next
receive_leaves S p d s asked = by_receive (λ o. Leaves S p o.next) S p d s asked (λ e. all_left) (same_processes _ refl) (λ none. all_left)
    (λ m ms q. front_leaves S p d s asked m ms)

recv_leaves : (S : State) (p : ℕ) (fd : Fd) (n space : ℕ) (flags : MsgFlags) → Leaves S p (recv_msg S p fd n space flags).next
unfolding recv_msg
recv_leaves S p fd n space flags = by_socket Q S p fd _ (λ e. all_left)
    (λ d s led there. either Q (not (are_receive_flags flags)) _ _ (λ b. all_left)
    (λ b. receive_leaves S p d s (incoming n space flags)))
  where
    Q : Outcome → Type 0
    Q o = Leaves S p o.next

read_leaves : (S : State) (p : ℕ) (fd : Fd) (n : ℕ) → Leaves S p (read S p fd n).next
unfolding read
read_leaves S p fd n = found Q S p fd _ all_left (λ e D g h. by_target Q D.target _ _
    (λ o t. maybe Q (place S.objects o) _ _ all_left (λ view there. either Q (not (can_read D.mode)) _ _ (λ b. all_left)
    (λ b. either Q (is_short_read view.body (min read_limit n)) _ _ (λ b. all_left)
    (λ b. either Q (holds_bytes view.body && (min read_limit n == 0)) _ _ (λ b. all_left)
    (λ b. by_answer o e D view (read_body view.body D.offset (min read_limit n)))))))
    (λ s t. receive_leaves S p e.description s (incoming (min read_limit n) 0 no_flags)))
  where
    Q : Outcome → Type 0
    Q o = Leaves S p o.next

    by_answer : (o : ℕ) (e : Descriptor) (D : Description) (view : View) (r : Result (List ℕ × Body) ObjectError) →
        Q (read_answer S e.description D o view r)
    by_answer o e D view (Ok given) = same_processes _ refl
    by_answer o e D view (Err would_block) = either Q (is_pipe view.body && not (is_open_for can_write S o)) _ _ (λ b. all_left)
        (λ b. all_left)
    by_answer o e D view (Err full) = all_left
    by_answer o e D view (Err invalid) = all_left

ids_leave : (S : State) (p uid gid : ℕ) → Leaves S p (set_ids S p uid gid).next
unfolding set_ids
ids_leave S p uid gid = maybe Q (process_at S p) _ _ all_left (λ P h. either Q ((uid == no_id) || (gid == no_id)) _ _ (λ b. all_left)
    (λ b. either Q (not (may_become uid gid P)) _ _ (λ b. all_left) (λ b. process_left S _ refl)))
  where
    Q : Outcome → Type 0
    Q o = Leaves S p o.next

fork_leaves : (S : State) (p : ℕ) → Leaves S p (fork S p).next
unfolding fork
fork_leaves S p = maybe Q (process_at S p) _ _ all_left (λ P h. either Q (nat_le made_limit (length S.processes)) _ _ (λ b. all_left)
    (λ b. record { each = λ q R other here. by_number (child_of P) q R here }))
  where
    Q : Outcome → Type 0
    Q o = Leaves S p o.next

    front_stays : (Ps : List Process) (C R : Process) (j : ℕ) → slice_get Ps j ≡ Some R → slice_get (Ps ++ C ∷ []) j ≡ Some R
    front_stays [] C R j h = absurd (cc h)
    front_stays (P ∷ Ps) C R zero h = h
    front_stays (P ∷ Ps) C R (suc j) h = front_stays Ps C R j h

    by_number : (C : Process) (q : ℕ) (R : Process) → process_at S q ≡ Some R →
        process_at (record S { processes = S.processes ++ C ∷ [] }) q ≡ Some R
    by_number C zero R h = absurd (cc h)
    by_number C (suc j) R h = front_stays S.processes C R j h

exec_leaves : (S : State) (p : ℕ) → Leaves S p (exec S p).next
unfolding exec
exec_leaves S p = maybe (λ o. Leaves S p o.next) (process_at S p) _ _ all_left (λ P h. table_left S _ refl)

exit_leaves : (S : State) (p : ℕ) → Leaves S p (exit S p).next
unfolding exit
exit_leaves S p = maybe (λ o. Leaves S p o.next) (process_at S p) _ _ all_left (λ P h. process_left S _ refl)

-- ---- calls that touch no process

calm : {S : State} {p : ℕ} (d : ℕ) (change : Socket → Socket) → Leaves S p (with_socket_by S d change)
calm d change = same_processes _ refl

lseek_leaves : (S : State) (p : ℕ) (fd : Fd) (offset : ℤ) (whence : Whence) → Leaves S p (lseek S p fd offset whence).next
unfolding lseek
lseek_leaves S p fd offset whence = found Q S p fd _ all_left (λ e D g h. by_target Q D.target _ _
    (λ o t. maybe Q (place S.objects o) _ _ all_left
    (λ view there. either Q (not (is_memory view.body)) _ _ (λ b. all_left) (λ b. seek e D (pos (seek_base whence D view) +ℤ offset))))
    (λ s t. all_left))
  where
    Q : Outcome → Type 0
    Q o = Leaves S p o.next

    seek : (e : Descriptor) (D : Description) (to : ℤ) → Leaves S p (seek_to S e.description D to).next
    seek e D (pos n) = either Q (nat_lt offset_limit n) _ _ (λ b. all_left) (λ b. same_processes _ refl)
    seek e D (negsuc n) = all_left

unlink_leaves : (S : State) (p : ℕ) (path : Name) → Leaves S p (unlink S path).next
unfolding unlink
unlink_leaves S p path = either Q (not (is_valid_path path)) _ _ (λ b. all_left)
    (λ b. either Q (not (is_some (named path S.paths))) _ _ (λ b. all_left) (λ b. same_processes _ refl))
  where
    Q : Outcome → Type 0
    Q o = Leaves S p o.next

bind_leaves : (S : State) (p : ℕ) (fd : Fd) (addr : Addr) → Leaves S p (bind S p fd addr).next
unfolding bind
bind_leaves S p fd addr = by_socket Q S p fd _ (λ e. all_left)
    (λ d s led there. either Q (not (is_unnamed_addr s.name) || not (is_valid_addr addr)) _ _ (λ b. all_left) (λ b. to d addr))
  where
    Q : Outcome → Type 0
    Q o = Leaves S p o.next

    to : (d : ℕ) (a : Addr) → Leaves S p (bind_to S d a).next
    to d Addr.Unnamed = maybe Q (free_name S.abstract_names) _ _ all_left (λ name h. same_processes _ refl)
    to d (Addr.Path name) = either Q (is_some (named name S.paths)) _ _ (λ b. all_left) (λ b. same_processes _ refl)
    to d (Addr.Abstract name) = either Q (is_some (named name S.abstract_names)) _ _ (λ b. all_left) (λ b. same_processes _ refl)

listen_leaves : (S : State) (p : ℕ) (fd : Fd) (backlog : ℤ) → Leaves S p (listen S p fd backlog).next
unfolding listen
listen_leaves S p fd backlog = maybe Q (process_at S p) _ _ all_left (λ P here. by_socket Q S p fd _ (λ e. all_left)
    (λ d s led there. either Q (is_dgram s.kind) _ _ (λ b. all_left) (λ b. either Q (is_some (peer_of s.phase)) _ _ (λ c. all_left)
    (λ c. either Q (is_unnamed_addr s.name) _ _ (λ f. all_left) (λ f. calm d _)))))
  where
    Q : Outcome → Type 0
    Q o = Leaves S p o.next

shutdown_leaves : (S : State) (p : ℕ) (fd : Fd) (how : Mode) → Leaves S p (shutdown S p fd how).next
unfolding shutdown
shutdown_leaves S p fd how = by_socket Q S p fd _ (λ e. all_left)
    (λ d s led there. either Q (is_none (tied_socket s.phase)) _ _ (λ b. all_left) (λ b. calm d _))
  where
    Q : Outcome → Type 0
    Q o = Leaves S p o.next

connect_leaves : (S : State) (p : ℕ) (fd : Fd) (addr : Addr) → Leaves S p (connect S p fd addr).next
unfolding connect
connect_leaves S p fd addr = maybe Q (process_at S p) _ _ all_left (λ P here. by_socket Q S p fd _ (λ e. all_left)
    (λ d s led there. either Q (is_dgram s.kind) _ _ (λ b. datagram d s.kind) (λ b. stream d s (own_cred p P))))
  where
    Q : Outcome → Type 0
    Q o = Leaves S p o.next

    datagram : (d : ℕ) (kind : SockType) → Leaves S p (connect_datagram S d kind addr).next
    datagram d kind = either Q (not (is_valid_addr addr)) _ _ (λ b. all_left)
        (λ b. either Q (is_unnamed_addr addr) _ _ (λ c. calm d _) (λ c. by_addr Q S kind addr _ (λ e. all_left)
        (λ t target is at. either Q (takes_from d target.phase) _ _ (λ e. calm d _) (λ e. all_left))))

    to_one : (d : ℕ) (cred : Cred) (l : ℕ) (other : Socket) → Leaves S p (connect_to S d cred l other).next
    to_one d cred l other = maybe Q (listener_of other.phase) _ _ all_left
        (λ kept h. either Q (nat_le kept.backlog.limit (length kept.backlog.pending)) _ _ (λ b. all_left) (λ b. same_processes _ refl))

    stream : (d : ℕ) (s : Socket) (cred : Cred) → Leaves S p (connect_stream S d s addr cred).next
    stream d s cred = either Q (not (is_valid_addr addr) || is_unnamed_addr addr || is_some (listener_of s.phase)) _ _ (λ b. all_left)
        (λ b. either Q (is_some (peer_of s.phase)) _ _ (λ c. all_left)
        (λ c. by_addr Q S s.kind addr _ (λ e. all_left) (λ l other is at. to_one d cred l other)))

get_opt_leaves : (S : State) (p : ℕ) (fd : Fd) (opt : SockOpt) → Leaves S p (get_opt S p fd opt).next
unfolding get_opt
get_opt_leaves S p fd opt = by_socket (λ o. Leaves S p o.next) S p fd _ (λ e. all_left) (λ d s led there. by_option d s opt)
  where
    by_cred : (cred : Option Cred) → Leaves S p (tell_cred S cred).next
    by_cred None = all_left
    by_cred (Some c) = all_left

    by_option : (d : ℕ) (s : Socket) (o : SockOpt) → Leaves S p (tell_option S d s o).next
    by_option d s SockOpt.PeerCred = by_cred s.peer_cred
    by_option d s SockOpt.QueueLimit = either (λ o. Leaves S p o.next) (is_stream s.kind) _ _ (λ b. all_left) (λ b. all_left)
    by_option d s SockOpt.Kind = all_left
    by_option d s SockOpt.Error = calm d _
    by_option d s SockOpt.PassCred = all_left
    by_option d s SockOpt.AcceptConn = all_left

set_opt_leaves : (S : State) (p : ℕ) (fd : Fd) (opt : SockOpt) (value : ℕ) → Leaves S p (set_opt S p fd opt value).next
unfolding set_opt
set_opt_leaves S p fd opt value = by_socket Q S p fd _ (λ e. all_left) (λ d s led there. by_option d s opt)
  where
    Q : Outcome → Type 0
    Q o = Leaves S p o.next

    by_option : (d : ℕ) (s : Socket) (o : SockOpt) → Leaves S p (change_option S d s value o).next
    by_option d s SockOpt.Kind = all_left
    by_option d s SockOpt.Error = all_left
    by_option d s SockOpt.PassCred = either Q (value == 0) _ _ (λ b. calm d _)
        (λ b. either Q (not (is_unnamed_addr s.name) || is_some (tied_socket s.phase)) _ _ (λ b. calm d _)
        (λ b. maybe Q (free_name S.abstract_names) _ _ all_left (λ name free. same_processes _ refl)))
    by_option d s SockOpt.PeerCred = all_left
    by_option d s SockOpt.AcceptConn = all_left
    by_option d s SockOpt.QueueLimit = either Q (not (is_stream s.kind)) _ _ (λ b. all_left)
        (λ b. either Q (not (may_limit value)) _ _ (λ c. all_left) (λ c. calm d _))

enqueue_leaves : (S : State) (p : ℕ) (limit : Option ℕ) (t : ℕ) (other : Socket) (m : Message) →
    Leaves S p (enqueue S limit t other m).next
enqueue_leaves S p limit t other m = either Q (is_stream other.kind && (length m.bytes == 0)) _ _ (λ b. all_left)
    (λ b. either Q (is_over_limit S limit m) _ _ (λ c. all_left)
    (λ c. either Q (not (has_room other)) _ _ (λ f. all_left) (λ f. calm t _)))
  where
    Q : Outcome → Type 0
    Q o = Leaves S p o.next

from_leaves : (S : State) (p : ℕ) (limit : Option ℕ) (d : ℕ) (s : Socket) (addr : Option Addr) (m : Message) →
    Leaves S p (send_from S limit d s addr m).next
from_leaves S p limit d s addr m = either Q (is_dgram s.kind) _ _
    (λ b. either Q (nat_lt record_bytes_limit (length m.bytes)) _ _ (λ c. all_left)
    (λ c. either Q s.write_shut _ _ (λ e. all_left) (λ e. by_address addr (record m { from = Some s.name }))))
    (λ b. stream addr)
  where
    Q : Outcome → Type 0
    Q o = Leaves S p o.next

    to_target : (t : ℕ) (target : Socket) (m : Message) → Leaves S p (send_to_target S limit d t target m).next
    to_target t target m = either Q (not (takes_from d target.phase)) _ _ (λ b. all_left)
        (λ b. either Q target.read_shut _ _ (λ c. all_left) (λ c. enqueue_leaves S p limit t target m))

    by_association : (target : Option ℕ) (m : Message) → Leaves S p (send_by_association S limit d target m).next
    by_association None m = all_left
    by_association (Some t) m = maybe Q (socket_at S t) _ _ (calm d _) (λ target h. to_target t target m)

    by_address : (addr : Option Addr) (m : Message) → Leaves S p (send_by S limit d s addr m).next
    by_address None m = by_association (association_of s.phase) m
    by_address (Some a) m = by_addr Q S s.kind a _ (λ e. all_left) (λ t target is there. to_target t target m)

    to_peer : (peer : Option ℕ) → Leaves S p (send_connected S limit s.write_shut peer m).next
    to_peer None = all_left
    to_peer (Some t) = maybe Q (socket_at S t) _ _ all_left
        (λ other h. either Q (s.write_shut || other.read_shut) _ _ (λ b. all_left) (λ b. either Q (is_too_long other m) _ _ (λ c. all_left)
        (λ c. enqueue_leaves S p limit t other m)))

    stream : (addr : Option Addr) → Leaves S p (send_stream S limit s.write_shut (peer_of s.phase) addr m).next
    stream None = to_peer (peer_of s.phase)
    stream (Some a) = all_left

send_leaves : (S : State) (p tag : ℕ) (fd : Fd) (addr : Option Addr) (bytes control : List ℕ) (flags : MsgFlags) →
    Leaves S p (send_msg S p tag fd addr bytes control flags).next
unfolding send_msg send_read send_with
send_leaves S p tag fd addr bytes control flags = maybe Q (process_at S p) _ _ all_left (λ P here. by_socket Q S p fd _ (λ e. all_left)
    (λ d s led there. either Q (not (are_send_flags flags)) _ _ (λ b. all_left) (λ b. by_control P d s (control_in control))))
  where
    Q : Outcome → Type 0
    Q o = Leaves S p o.next

    by_given : (P : Process) (d : ℕ) (s : Socket) (given : Option Cred) (rights : List ℕ) →
        Q (send_as S (sending tag p P addr bytes) d s given rights)
    by_given P d s given rights = go (sender_cred_refusal S p P given)
      where
        go : (o : Option Errno) → Q (elim o as (λ _. Outcome) [
          | Some e ↦ refuse S e
          | None ↦ if not (is_sendable_addr addr) then refuse S Errno.EINVAL
              else send_from S (flight_limit P) d s addr (message_of (sending tag p P addr bytes) (sent_cred p P given) rights)
        ])
        go (Some e) = all_left
        go None = either Q (not (is_sendable_addr addr)) _ _ (λ b. all_left) (λ b. from_leaves S p (flight_limit P) d s addr _)

    by_control : (P : Process) (d : ℕ) (s : Socket) (o : Option Control) → Q (send_read S (sending tag p P addr bytes) d s o)
    by_control P d s None = all_left
    by_control P d s (Some c) = either Q (not (is_sendable_control s.kind bytes c)) _ _ (λ b. all_left)
        (λ b. maybe Q (descriptions_behind (table_of S p) c.rights) _ _ all_left (λ rights behind. by_given P d s c.cred rights))

write_leaves : (S : State) (p tag : ℕ) (fd : Fd) (bytes : List ℕ) → Leaves S p (write S p tag fd bytes).next
unfolding write
write_leaves S p tag fd bytes = found Q S p fd _ all_left (λ e D g h. by_target Q D.target _ _
    (λ o t. maybe Q (place S.objects o) _ _ all_left (λ view there. either Q (not (can_write D.mode)) _ _ (λ b. all_left)
    (λ b. either Q (holds_bytes view.body && (length bytes == 0)) _ _ (λ b. all_left)
    (λ b. either Q (is_pipe view.body && not (is_open_for can_read S o)) _ _ (λ b. all_left)
    (λ b. by_answer o e D view (write_body view.body (write_place D view) bytes))))))
    (λ s t. maybe Q (process_at S p) _ _ all_left (λ P here. from_leaves S p (flight_limit P) e.description s None _)))
  where
    Q : Outcome → Type 0
    Q o = Leaves S p o.next

    by_answer : (o : ℕ) (e : Descriptor) (D : Description) (view : View) (r : Result (ℕ × Body) ObjectError) →
        Q (write_answer S e.description D o view r)
    by_answer o e D view (Ok made) = same_processes _ refl
    by_answer o e D view (Err error) = all_left

-- ---- all calls

act_leaves : (S : State) (p tag : ℕ) (request : Request) → is_off request ≡ false → asks request ≡ false →
    Leaves S p (outcome S p tag request).next
unfolding outcome
act_leaves S p tag (Request.Open path mode flags) on h = open_leaves S p path mode flags
act_leaves S p tag (Request.Create path mode flags) on h = create_leaves S p path mode flags
act_leaves S p tag (Request.MemFd flags) on h = object_leaves S p _ (memory []) flags
act_leaves S p tag (Request.EventFd value semaphore flags) on h = object_leaves S p _ (counter semaphore value) flags
act_leaves S p tag (Request.Pipe flags) on h = pipe_leaves S p flags
act_leaves S p tag (Request.Read fd n) on h = read_leaves S p fd n
act_leaves S p tag (Request.Write fd bytes) on h = write_leaves S p tag fd bytes
act_leaves S p tag (Request.Lseek fd offset whence) on h = lseek_leaves S p fd offset whence
act_leaves S p tag (Request.Dup fd) on h = dup_leaves S p fd
act_leaves S p tag (Request.Dup2 fd to) on h = dup2_leaves S p fd to
act_leaves S p tag (Request.DupFrom fd minimum) on h = dup_from_leaves S p fd minimum
act_leaves S p tag (Request.SetFlags fd flags) on h = flags_leave S p fd flags
act_leaves S p tag (Request.Close fd) on h = close_leaves S p fd
act_leaves S p tag (Request.Unlink path) on h = unlink_leaves S p path
act_leaves S p tag (Request.Socket kind flags) on h = socket_leaves S p kind flags
act_leaves S p tag (Request.SocketPair kind flags) on h = pair_leaves S p kind flags
act_leaves S p tag (Request.Bind fd addr) on h = bind_leaves S p fd addr
act_leaves S p tag (Request.Listen fd backlog) on h = listen_leaves S p fd backlog
act_leaves S p tag (Request.Connect fd addr) on h = connect_leaves S p fd addr
act_leaves S p tag (Request.Accept fd flags) on h = accept_leaves S p fd flags
act_leaves S p tag (Request.Shutdown fd how) on h = shutdown_leaves S p fd how
act_leaves S p tag (Request.GetOpt fd opt) on h = get_opt_leaves S p fd opt
act_leaves S p tag (Request.SetOpt fd opt value) on h = set_opt_leaves S p fd opt value
act_leaves S p tag (Request.SendMsg fd addr bytes control flags) on h = send_leaves S p tag fd addr bytes control flags
act_leaves S p tag (Request.RecvMsg fd n space flags) on h = recv_leaves S p fd n space flags
act_leaves S p tag (Request.SetIds uid gid) on h = ids_leave S p uid gid
act_leaves S p tag Request.Fork on h = fork_leaves S p
act_leaves S p tag Request.Exec on h = exec_leaves S p
act_leaves S p tag Request.Exit on h = exit_leaves S p
act_leaves S p tag Request.Off on h = absurd (false≢true (sym on))
act_leaves S p tag request on h = absurd (false≢true (sym h))

each_leaves : (S : State) (p tag : ℕ) (request : Request) → is_off request ≡ false → Leaves S p (outcome S p tag request).next
each_leaves S p tag request on = go (asks request) refl
  where
    go : (b : Bool) → asks request ≡ b → Leaves S p (outcome S p tag request).next
    go true h = subst (Leaves S p) (sym (each_asks S p tag request h).next) all_left
    go false h = act_leaves S p tag request on h

pub chosen_leaves : (S T : State) (p tag : ℕ) (request : Request) (reply : Reply) → is_off request ≡ false →
    Chosen S (outcome S p tag request) reply T → Leaves S p T
chosen_leaves S T p tag request reply on (own e f) = subst (Leaves S p) (sym f) (each_leaves S p tag request on)
chosen_leaves S T p tag request reply on (lacking_memory e may f) = subst (Leaves S p) (sym f) all_left
chosen_leaves S T p tag request reply on (failing e f) =
    same_processes T (ap (λ (U : State). U.processes) ((each_obeys S p tag request).failed T f).0.left)
