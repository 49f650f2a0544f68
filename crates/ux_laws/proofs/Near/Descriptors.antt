-- Calls on descriptors, processes and files change what is near alone.
use Rattle.std.proofs.Common.{◌≡◌, ℕ, Bool, zero, suc, ◌==◌, true, false, not, ◌||◌, List}
use Rattle.std.proofs.Common.{length, Option, Some, None, Ok, refl, ap, sym, ◌∙◌, subst, inl}
use Rattle.std.proofs.Common.{slice_get, arith, [], ◌∷◌, ◌++◌}
use Rattle.std.specs.Prelude.{nat_le, ℤ, is_some, is_none}
use Rattle.std.proofs.lemmas.Bool.{false≢true}
use Rattle.std.proofs.lemmas.List.{length_push}
use Rattle.ux_model.specs.Types.{Fd, Cred, Name, Addr, SockType, Mode, OpenFlags, Request}
use Rattle.ux_model.specs.Flags.{asks_append}
use Rattle.ux_model.specs.Places.{place, filled}
use Rattle.ux_model.specs.Limits.{made_limit}
use Rattle.ux_model.specs.Object.{Body, memory, pipe}
use Rattle.ux_model.specs.Names.{named as named_in, is_valid_path, is_valid_addr, is_unnamed_addr, free_name, PathTarget, file}
use Rattle.ux_model.specs.Backlog.{backlog_of}
use Rattle.ux_model.specs.Socket.{Socket, is_dgram, pending_ends, peer_of}
use Rattle.ux_model.specs.Socket.{tied_socket, takes_from, awaiting}
use Rattle.ux_model.specs.Socket.{with_association, shut_down, new_socket}
use Rattle.ux_model.specs.Socket.{pair_end}
use Rattle.ux_model.specs.Description.{Description, Target, to_object, to_socket, changed, changed_target}
use Rattle.ux_model.specs.Process.{Process, own_cred, lowest_free, lowest_free_from, two_lowest_free, descriptor}
use Rattle.ux_model.specs.State.{State, process_at, socket_at, table_of, next_description, with_description}
use Rattle.ux_model.specs.State.{with_socket_by, with_process, with_table, with_new}
use Rattle.ux_model.specs.Outcome.{Outcome}
use Rattle.ux_model.specs.Naming.{unlink}
use Rattle.ux_model.specs.Pairing.{make_pair, with_pair, socket_description}
use Rattle.ux_model.specs.Binding.{look_up, bind_to, bind, with_name}
use Rattle.ux_model.specs.Connecting.{make_socket, listener_of, with_listening, listen, connect_to, connect_stream, connect_datagram}
use Rattle.ux_model.specs.Connecting.{connect, get_peer_name, shutdown, server_end, tied as tied_by, no_open_flags}
use Rattle.ux_model.specs.Making.{next_object, object_table_full, with_made, with_pipe, open_made, make_object, create_file, make_pipe}
use Rattle.ux_model.specs.Accepting.{accept_first, accept, without_first_end, as_accepted, accepted_with}
use Rattle.ux_model.specs.Opening.{open_file, file_description}
use Rattle.ux_model.specs.Descriptors.{dup, dup2, dup_from, set_flags, with_flags}
use Rattle.ux_model.specs.Users.{no_id, may_become, set_ids}
use Rattle.ux_model.specs.Forking.{fork, exec}
use Rattle.ux_model.specs.Closing.{close, exit, off}
use Rattle.ux_model.specs.Giving.{description_of}
use Rattle.ux_model.proofs.Changes.Walk.{either, maybe, by_path, found, found_peer}
use Rattle.ux_model.proofs.Lists.ChangedPlaces.{length-changed}
use Rattle.ux_model.proofs.Lists.Rising.{place_mapped}
use Rattle.ux_model.proofs.Steps.MakingCalls.{made_so}
use Rattle.ux_laws.specs.Reach.{held, pending, named}
use Rattle.ux_laws.proofs.Doing.Naming.{by_addr}
use Rattle.ux_laws.proofs.Near.Single.{reset_of, shut_of, is_shutdown, awaits_of, is_connect, awaits_again, awaits_first, limit_of}
use Rattle.ux_laws.proofs.Near.Single.{full_of, may_give_place, sets_option, NearAt, gone, Near, near_same, near_by, near_socket}
use Rattle.ux_laws.proofs.Near.Single.{near_put, near_new, near_table, still, name_of, offset_of, KeepsOwn}
use Rattle.ux_laws.proofs.Near.Leading.{by_fd, by_own}

pub dup_near : (S : State) (p : ℕ) (fd : Fd) → Near S p (Request.Dup fd) (dup S p fd).next
unfolding dup
dup_near S p fd = found (λ o. Near S p (Request.Dup fd) o.next) S p fd _ still
    (λ e D g h. maybe (λ o. Near S p (Request.Dup fd) o.next) (lowest_free (table_of S p)) _ _ still (λ n low. near_table S p _ still))

pub dup2_near : (S : State) (p : ℕ) (fd to : Fd) → Near S p (Request.Dup2 fd to) (dup2 S p fd to).next
unfolding dup2
dup2_near S p fd to = found Q S p fd _ still
    (λ e D g h. either Q (nat_le (length (table_of S p)) to.0) _ _ (λ b. still)
    (λ b. either Q (to.0 == fd.0) _ _ (λ b. still) (λ b. near_table S p _ still)))
  where
    Q : Outcome → Type 0
    Q o = Near S p (Request.Dup2 fd to) o.next

pub dup_from_near : (S : State) (p : ℕ) (fd minimum : Fd) → Near S p (Request.DupFrom fd minimum) (dup_from S p fd minimum).next
unfolding dup_from
dup_from_near S p fd minimum = found Q S p fd _ still (λ e D g h. either Q (nat_le (length (table_of S p)) minimum.0) _ _ (λ b. still)
    (λ b. maybe Q (lowest_free_from minimum.0 (table_of S p)) _ _ still (λ n low. near_table S p _ still)))
  where
    Q : Outcome → Type 0
    Q o = Near S p (Request.DupFrom fd minimum) o.next

pub flags_near : (S : State) (p : ℕ) (fd : Fd) (flags : OpenFlags) → Near S p (Request.SetFlags fd flags) (set_flags S p fd flags).next
unfolding set_flags
flags_near S p fd flags = found (λ o. Near S p (Request.SetFlags fd flags) o.next) S p fd _ still
    (λ e D g h. near_table (with_description S e.description (with_flags flags D)) p _
    (near_put e.description D (with_flags flags D) h refl (λ calm. absurd (false≢true (sym calm))) (λ calm. refl) (by_fd fd e g)))

pub close_near : (S : State) (p : ℕ) (fd : Fd) → Near S p (Request.Close fd) (close S p fd).next
unfolding close
close_near S p fd = found (λ o. Near S p (Request.Close fd) o.next) S p fd _ still (λ e D g h. near_table S p _ still)

with_process_same : (S : State) (p : ℕ) (P : Process) → (with_process S p P).descriptions ≡ S.descriptions
with_process_same S zero P = refl
with_process_same S (suc i) P = refl

pub exit_near : (S : State) (p : ℕ) → Near S p Request.Exit (exit S p).next
unfolding exit
exit_near S p = maybe (λ o. Near S p Request.Exit o.next) (process_at S p) _ _ still (λ P h. near_same (with_process_same S p _))

pub fork_near : (S : State) (p : ℕ) → Near S p Request.Fork (fork S p).next
unfolding fork
fork_near S p = maybe (λ o. Near S p Request.Fork o.next) (process_at S p) _ _ still
    (λ P h. either (λ o. Near S p Request.Fork o.next) (nat_le made_limit (length S.processes)) _ _ (λ b. still) (λ b. near_same refl))

pub exec_near : (S : State) (p : ℕ) → Near S p Request.Exec (exec S p).next
unfolding exec
exec_near S p = maybe (λ o. Near S p Request.Exec o.next) (process_at S p) _ _ still (λ P h. near_table S p _ still)

pub ids_near : (S : State) (p uid gid : ℕ) → Near S p (Request.SetIds uid gid) (set_ids S p uid gid).next
unfolding set_ids
ids_near S p uid gid = maybe Q (process_at S p) _ _ still (λ P h. either Q ((uid == no_id) || (gid == no_id)) _ _ (λ b. still)
    (λ b. either Q (not (may_become uid gid P)) _ _ (λ b. still) (λ b. near_same (with_process_same S p _))))
  where
    Q : Outcome → Type 0
    Q o = Near S p (Request.SetIds uid gid) o.next

pub off_near : (S : State) (p : ℕ) → Near S p Request.Off (off S).next
unfolding off
off_near S p = record { each = λ d. gone refl (place_mapped (λ D. None) S.descriptions d refl) }

pub open_near : (S : State) (p : ℕ) (path : Name) (mode : Mode) (flags : OpenFlags) →
    Near S p (Request.Open path mode flags) (open_file S p path mode flags).next
unfolding open_file
open_near S p path mode flags = either Q (not (is_valid_path path)) _ _ (λ b. still)
    (λ b. maybe Q (named_in path S.paths) _ _ still
    (λ t is. by_path Q t _ _
    (λ o led. maybe Q (lowest_free (table_of S p)) _ _ still
    (λ n low. near_table (with_new S (file_description o mode flags)) p _
    (near_new S (file_description o mode flags) still (omega arith) refl refl refl)))
    (λ d led. still)))
  where
    Q : Outcome → Type 0
    Q o = Near S p (Request.Open path mode flags) o.next

made_near : (S : State) (p : ℕ) (request : Request) (body : Body) (names : List (Name × PathTarget)) (mode : Mode) (flags : OpenFlags) →
    Near S p request (open_made S (made_so S body names) p mode flags).next
made_near S p request body names mode flags = maybe Q (lowest_free (table_of S p)) _ _ still
    (λ n low. either Q (object_table_full S) _ _ (λ b. still)
    (λ b. near_table (with_new (made_so S body names) (file_description (next_object S) mode flags)) p _
    (near_new (made_so S body names) (file_description (next_object S) mode flags) (near_same refl) (omega arith) refl refl refl)))
  where
    Q : Outcome → Type 0
    Q o = Near S p request o.next

pub create_near : (S : State) (p : ℕ) (path : Name) (mode : Mode) (flags : OpenFlags) →
    Near S p (Request.Create path mode flags) (create_file S p path mode flags).next
unfolding create_file
create_near S p path mode flags = either Q (not (is_valid_path path)) _ _ (λ b. still)
    (λ b. either Q (is_some (named_in path S.paths)) _ _ (λ c. still)
    (λ c. made_near S p (Request.Create path mode flags) (memory []) (S.paths ++ (path, file (next_object S)) ∷ []) mode flags))
  where
    Q : Outcome → Type 0
    Q o = Near S p (Request.Create path mode flags) o.next

pub object_near : (S : State) (p : ℕ) (request : Request) (unknown : Bool) (body : Body) (flags : OpenFlags) →
    Near S p request (make_object S p unknown body flags).next
unfolding make_object
object_near S p request unknown body flags = either Q unknown _ _ (λ b. still)
    (λ b. made_near S p request body S.paths Mode.Both flags)
  where
    Q : Outcome → Type 0
    Q o = Near S p request o.next

pub pipe_near : (S : State) (p : ℕ) (flags : OpenFlags) → Near S p (Request.Pipe flags) (make_pipe S p flags).next
unfolding make_pipe
pipe_near S p flags = either Q (asks_append flags) _ _ (λ b. still)
    (λ b. maybe Q (two_lowest_free (table_of S p)) _ _ still (λ n low. either Q (object_table_full S) _ _ (λ c. still)
    (λ c.
    let R : State = with_made S (pipe []) in
    let one : Description = file_description (next_object S) Mode.Read flags in
    let two : Description = file_description (next_object S) Mode.Write flags in
    let long = length_push S.descriptions (Some one) in
    near_table (with_pipe S flags) p _
    (near_new (with_new R one) two (near_new R one (near_same refl) (omega arith) refl refl refl) (omega (arith, long)) refl refl refl))))
  where
    Q : Outcome → Type 0
    Q o = Near S p (Request.Pipe flags) o.next

pub socket_near : (S : State) (p : ℕ) (kind : SockType) (flags : OpenFlags) →
    Near S p (Request.Socket kind flags) (make_socket S p kind flags).next
unfolding make_socket
socket_near S p kind flags = maybe (λ o. Near S p (Request.Socket kind flags) o.next) (lowest_free (table_of S p)) _ _ still
    (λ n low. near_table (with_new S (socket_description flags (new_socket kind))) p _
    (near_new S (socket_description flags (new_socket kind)) still (omega arith) refl refl refl))

pub pair_near : (S : State) (p : ℕ) (kind : SockType) (flags : OpenFlags) →
    Near S p (Request.SocketPair kind flags) (make_pair S p kind flags).next
unfolding make_pair
pair_near S p kind flags = maybe Q (process_at S p) _ _ still (λ P h. maybe Q (two_lowest_free P.table) _ _ still
    (λ n low.
    let one : Description = socket_description flags (pair_end kind (suc (next_description S)) (own_cred p P)) in
    let two : Description = socket_description flags (pair_end kind (next_description S) (own_cred p P)) in
    let long = length_push S.descriptions (Some one) in
    near_table (with_pair S kind flags (own_cred p P)) p _
    (near_new (with_new S one) two (near_new S one still (omega arith) refl refl refl) (omega (arith, long)) refl refl refl)))
  where
    Q : Outcome → Type 0
    Q o = Near S p (Request.SocketPair kind flags) o.next

pub unlink_near : (S : State) (p : ℕ) (path : Name) → Near S p (Request.Unlink path) (unlink S path).next
unfolding unlink
unlink_near S p path = either Q (not (is_valid_path path)) _ _ (λ b. still)
    (λ b. either Q (not (is_some (named_in path S.paths))) _ _ (λ b. still) (λ b. near_same refl))
  where
    Q : Outcome → Type 0
    Q o = Near S p (Request.Unlink path) o.next

-- the same descriptions
pub alike : {S : State} {p : ℕ} {request : Request} {T : State} (U : State) → U.descriptions ≡ T.descriptions → Near S p request T →
    Near S p request U
alike {S} {p} {request} {T} U same near =
    record { each = λ d. subst (NearAt S p request d) (ap (λ (ds : List (Option Description)). place ds d) (sym same)) (near.each d) }

pub bind_near : (S : State) (p : ℕ) (fd : Fd) (addr : Addr) → Near S p (Request.Bind fd addr) (bind S p fd addr).next
unfolding bind
bind_near S p fd addr = by_own Q S p (Request.Bind fd addr) fd _ (λ e. still)
    (λ d s mine there. either Q (not (is_unnamed_addr s.name) || not (is_valid_addr addr)) _ _ (λ b. still) (λ b. to d mine addr))
  where
    Q : Outcome → Type 0
    Q o = Near S p (Request.Bind fd addr) o.next

    called : (d : ℕ) (name : Addr) → description_of S p fd.0 ≡ Some d →
        Near S p (Request.Bind fd addr) (with_socket_by S d (with_name name))
    called d name mine = near_socket S d (with_name name) still (inl (held fd.0 mine))
        (λ s. (λ h. h, λ elsewhere. refl, λ other h. h, λ set. refl, λ apart h. h, λ calm. absurd (false≢true (sym calm))))

    to : (d : ℕ) → description_of S p fd.0 ≡ Some d → (name : Addr) → Near S p (Request.Bind fd addr) (bind_to S d name).next
    to d mine Addr.Unnamed = maybe Q (free_name S.abstract_names) _ _ still (λ name h. alike _ refl (called d (Addr.Abstract name) mine))
    to d mine (Addr.Path name) = either Q (is_some (named_in name S.paths)) _ _ (λ b. still)
        (λ b. alike _ refl (called d (Addr.Path name) mine))
    to d mine (Addr.Abstract name) = either Q (is_some (named_in name S.abstract_names)) _ _ (λ b. still)
        (λ b. alike _ refl (called d (Addr.Abstract name) mine))

pub peer_name_near : (S : State) (p : ℕ) (fd : Fd) → Near S p (Request.GetPeerName fd) (get_peer_name S p fd).next
unfolding get_peer_name
peer_name_near S p fd = by_own Q S p (Request.GetPeerName fd) fd _ (λ e. still)
    (λ d s mine there. found_peer Q S s.phase _ still (λ peer other at. still))
  where
    Q : Outcome → Type 0
    Q o = Near S p (Request.GetPeerName fd) o.next

pub listen_near : (S : State) (p : ℕ) (fd : Fd) (backlog : ℤ) → Near S p (Request.Listen fd backlog) (listen S p fd backlog).next
unfolding listen
listen_near S p fd backlog = maybe Q (process_at S p) _ _ still (λ P here. by_own Q S p (Request.Listen fd backlog) fd _ (λ e. still)
    (λ d s mine there. either Q (is_dgram s.kind) _ _ (λ b. still)
    (λ b. either Q (is_some (peer_of s.phase)) _ _ (λ c. still)
    (λ c. either Q (is_unnamed_addr s.name) _ _ (λ f. still)
    (λ f. near_socket S d (with_listening (backlog_of backlog) (own_cred p P)) still (inl (held fd.0 mine))
    (λ s. (
      λ h. h,
      λ elsewhere. refl,
      λ other h. awaits_again (backlog_of backlog) (own_cred p P) s.phase h,
      λ set. refl,
      λ apart h. absurd (false≢true (sym apart)),
      λ calm. refl,
    )))))))
  where
    Q : Outcome → Type 0
    Q o = Near S p (Request.Listen fd backlog) o.next

pub shutdown_near : (S : State) (p : ℕ) (fd : Fd) (how : Mode) → Near S p (Request.Shutdown fd how) (shutdown S p fd how).next
unfolding shutdown
shutdown_near S p fd how = by_own Q S p (Request.Shutdown fd how) fd _ (λ e. still)
    (λ d s mine there. either Q (is_none (tied_socket s.phase)) _ _ (λ b. still)
    (λ b. near_socket S d (shut_down how) still (inl (held fd.0 mine))
    (λ s. (λ h. h, λ on. absurd (false≢true (sym on)), λ other h. h, λ set. refl, λ apart h. h, λ calm. refl))))
  where
    Q : Outcome → Type 0
    Q o = Near S p (Request.Shutdown fd how) o.next

pub connect_near : (S : State) (p : ℕ) (fd : Fd) (addr : Addr) → Near S p (Request.Connect fd addr) (connect S p fd addr).next
unfolding connect
connect_near S p fd addr = maybe Q (process_at S p) _ _ still (λ P here. by_own Q S p (Request.Connect fd addr) fd _ (λ e. still)
    (λ d s mine there. either Q (is_dgram s.kind) _ _ (λ b. datagram d mine s.kind) (λ b. stream d mine s (own_cred p P))))
  where
    Q : Outcome → Type 0
    Q o = Near S p (Request.Connect fd addr) o.next

    associates : (d : ℕ) (target : Option ℕ) → description_of S p fd.0 ≡ Some d →
        Near S p (Request.Connect fd addr) (with_socket_by S d (with_association target))
    associates d target mine = near_socket S d (with_association target) still (inl (held fd.0 mine))
        (λ s. (
          λ h. h,
          λ elsewhere. refl,
          λ other h. absurd (false≢true (sym other)),
          λ set. refl,
          λ apart h. absurd (false≢true (sym apart)),
          λ calm. refl,
        ))

    datagram : (d : ℕ) → description_of S p fd.0 ≡ Some d → (kind : SockType) →
        Near S p (Request.Connect fd addr) (connect_datagram S d kind addr).next
    datagram d mine kind = either Q (not (is_valid_addr addr)) _ _ (λ b. still)
        (λ b. either Q (is_unnamed_addr addr) _ _ (λ c. associates d None mine)
        (λ c. by_addr Q S kind addr _ (λ e. still)
        (λ t target is at. either Q (takes_from d target.phase) _ _ (λ e. associates d (Some t) mine) (λ e. still))))

    to_one : (d : ℕ) → description_of S p fd.0 ≡ Some d → (kind : SockType) (cred : Cred) (l : ℕ) (other : Socket) →
        look_up S kind addr ≡ Ok (l, other) → Near S p (Request.Connect fd addr) (connect_to S d cred l other).next
    to_one d mine kind cred l other is = maybe Q (listener_of other.phase) _ _ still
        (λ kept h. either Q (nat_le kept.backlog.limit (length kept.backlog.pending)) _ _ (λ b. still)
        (λ b.
        let e : ℕ = next_description S in
        let U : State = with_socket_by S l (awaiting e) in
        let D : Description = socket_description no_open_flags (server_end other d cred) in
        let long = length-changed S.descriptions l (changed (awaiting e)) in
        near_socket (with_new U D) d (tied_by e kept.cred)
        (near_new U D (near_socket S l (awaiting e) still (inl (named kind addr other refl is))
        (λ s. (
          λ h. h,
          λ elsewhere. refl,
          λ other h. absurd (false≢true (sym other)),
          λ set. refl,
          λ apart h. absurd (false≢true (sym apart)),
          λ calm. refl,
        ))) (omega (arith, long)) refl refl refl) (inl (held fd.0 mine))
        (λ s. (
          λ h. h,
          λ elsewhere. refl,
          λ other h. absurd (false≢true (sym other)),
          λ set. refl,
          λ apart h. absurd (false≢true (sym apart)),
          λ calm. refl,
        ))))

    stream : (d : ℕ) → description_of S p fd.0 ≡ Some d → (s : Socket) (cred : Cred) →
        Near S p (Request.Connect fd addr) (connect_stream S d s addr cred).next
    stream d mine s cred = either Q (not (is_valid_addr addr) || is_unnamed_addr addr || is_some (listener_of s.phase)) _ _ (λ b. still)
        (λ b. either Q (is_some (peer_of s.phase)) _ _ (λ c. still)
        (λ c. by_addr Q S s.kind addr _ (λ e. still) (λ l other is at. to_one d mine s.kind cred l other is)))

pub accept_near : (S : State) (p : ℕ) (fd : Fd) (flags : OpenFlags) → Near S p (Request.Accept fd flags) (accept S p fd flags).next
unfolding accept
accept_near S p fd flags = by_own Q S p (Request.Accept fd flags) fd _ (λ e. still)
    (λ d s mine there. either Q (is_dgram s.kind) _ _ (λ a. still)
    (λ a. either Q (is_none (listener_of s.phase)) _ _ (λ b. still)
    (λ b. maybe Q (lowest_free (table_of S p)) _ _ still (λ n low. oldest d s mine there n (slice_get (pending_ends s.phase) 0) refl))))
  where
    Q : Outcome → Type 0
    Q o = Near S p (Request.Accept fd flags) o.next

    oldest : (d : ℕ) (s : Socket) → description_of S p fd.0 ≡ Some d → socket_at S d ≡ Some s → (n : ℕ) (o : Option ℕ) →
        slice_get (pending_ends s.phase) 0 ≡ o → Near S p (Request.Accept fd flags) (accept_first S p n d flags o).next
    oldest d s mine there n None first = still
    oldest d s mine there n (Some e) first =
        let T : State = with_table S p (filled (table_of S p) n (descriptor flags e)) in
        let U : State = with_socket_by T d without_first_end in
        near_by U e (accepted_with flags) (near_socket T d without_first_end (near_table S p _ still) (inl (held fd.0 mine))
        (λ s. (λ h. h, λ elsewhere. refl, λ other h. awaits_first s.phase h, λ set. refl, λ apart h. absurd (false≢true (sym apart)), λ calm. refl)))
        (inl (pending fd.0 d s mine there first))
        (λ D. let a = at_target D.target in (a.0, a.1, a.2, a.3, a.4, accepted_own D D.target refl))
      where
        at_target : (u : Target) → (reset_of (changed_target as_accepted u) ≡ true → reset_of u ≡ true)
            × (is_shutdown (Request.Accept fd flags) ≡ false → shut_of (changed_target as_accepted u) ≡ shut_of u)
            × (is_connect (Request.Accept fd flags) ≡ false → awaits_of u ≡ true → awaits_of (changed_target as_accepted u) ≡ true)
            × (sets_option (Request.Accept fd flags) ≡ false → limit_of (changed_target as_accepted u) ≡ limit_of u)
            × (may_give_place (Request.Accept fd flags) ≡ false → full_of u ≡ true → full_of (changed_target as_accepted u) ≡ true)
        at_target (to_object o) = (λ h. h, λ elsewhere. refl, λ other h. h, λ set. refl, λ apart h. h)
        at_target (to_socket s) = (λ h. h, λ elsewhere. refl, λ other h. h, λ set. refl, λ apart h. h)

        accepted_own : (D : Description) (t : Target) → D.target ≡ t →
            KeepsOwn (Request.Accept fd flags) (Some D) (Some (accepted_with flags D))
        accepted_own D t is = record {
          named = λ calm name h. ap name_of (ap (changed_target as_accepted) is) ∙ name_kept t ∙ sym (ap name_of is) ∙ h;
          appends = λ calm append h. absurd (false≢true (sym calm));
          stands = λ calm offset h. ap (offset_of D.offset) (ap (changed_target as_accepted) is) ∙ offset_kept t
              ∙ sym (ap (offset_of D.offset) is) ∙ h;
        }
          where
            name_kept : (u : Target) → name_of (changed_target as_accepted u) ≡ name_of u
            name_kept (to_object o) = refl
            name_kept (to_socket s) = refl

            offset_kept : (u : Target) → offset_of D.offset (changed_target as_accepted u) ≡ offset_of D.offset u
            offset_kept (to_object o) = refl
            offset_kept (to_socket s) = refl
