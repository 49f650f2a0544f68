-- Where nothing is there, no end waits or no place is free, the call has to wait.
use Rattle.std.proofs.Common.{◌≡◌, ◌≢◌, ℕ, suc, ◌==◌, Bool, true, false, not, ◌&&◌, ◌||◌, if◌then◌else◌, is_some, min, List, [], ◌∷◌}
use Rattle.std.proofs.Common.{length, Option, Some, None, Result, Ok, Err, refl, ap, sym, ◌∙◌, subst, arith, slice_get}
use Rattle.std.specs.Prelude.{is_none}
use Rattle.std.proofs.lemmas.Bool.{eqb-false, ne_eqb, le-leb}
use Rattle.ux_model.specs.Types.{Errno, Fd, Addr, OpenFlags, MsgFlags, Request, Reply}
use Rattle.ux_model.specs.Limits.{read_limit}
use Rattle.ux_model.specs.Flags.{are_receive_flags, no_flags}
use Rattle.ux_model.specs.Names.{is_valid_addr, is_unnamed_addr}
use Rattle.ux_model.specs.Message.{Message}
use Rattle.ux_model.specs.Front.{front_of}
use Rattle.ux_model.specs.Socket.{Socket, is_stream, is_dgram, peer_of, pending_ends, with_reset}
use Rattle.ux_model.specs.Process.{Process, lowest_free, own_cred}
use Rattle.ux_model.specs.State.{State, table_of, process_at, with_socket_by}
use Rattle.ux_model.specs.Outcome.{Outcome, refuse, answer, taking_memory, find_socket}
use Rattle.ux_model.specs.Receiving.{Incoming, incoming, receive_front, nothing_received, at_end, receive_nothing, receive_connected}
use Rattle.ux_model.specs.Receiving.{receive_from_peer, receive_datagram, receive, recv_msg, bytes_alone}
use Rattle.ux_model.specs.Reading.{read}
use Rattle.ux_model.specs.Accepting.{accept_first, accept}
use Rattle.ux_model.specs.Connecting.{Listener, listener_of, connect_to_listener, connect_to, connect_by, connect_stream, connect_datagram, connect}
use Rattle.ux_model.specs.Connecting.{with_connection}
use Rattle.ux_model.specs.Step.{Step, outcome}
use Rattle.ux_model.specs.Pedigree.{before}
use Rattle.ux_model.proofs.Pedigrees.Moments.{moment}
use Rattle.ux_laws.specs.Talking.{socket_through}
use Rattle.ux_laws.specs.Waits.{IsWaiting, for_peer, for_datagram, AwaitsEnds, FindsNoPlace}
use Rattle.ux_laws.specs.Progress.{ReceivesWaitWhile, ReadsWaitWhile, AcceptsWaitWhile, ConnectsWaitWhile}
use Rattle.ux_laws.proofs.Telling.{LeadsToSocket, socket_is_found, leads_to_socket, has_process, read_is, chosen_refusal}
use Rattle.ux_laws.proofs.WaitEnds.{receives_wait, reads_wait}
use Rattle.ux_laws.proofs.AcceptWaits.{accepts_wait}
use Rattle.ux_laws.proofs.ConnectWaits.{connects_wait}

-- ---- receives

receive_again : (S : State) (p d : ℕ) (s : Socket) (asked : Incoming) → IsWaiting S d s → (is_stream s.kind && (asked.n == 0)) ≡ false →
    receive S p d s asked ≡ refuse S Errno.EAGAIN
receive_again S p d s asked (for_peer peer other k to at none clear unshut others) some =
    ap (λ b. if b then receive_datagram S p d s asked else receive_from_peer S p d s asked) k
    ∙ ap (λ (o : Option ℕ). elim o as (λ _. Outcome) [ None ↦ refuse S Errno.ENOTCONN | Some q ↦ receive_connected S p d s q asked ]) to
    ∙ ap (λ b. if b then answer nothing_received S else of_queue s.queue) some
    ∙ ap of_queue none
    ∙ ap (λ b. if b then answer (Reply.Err Errno.ECONNRESET) (with_socket_by S d (with_reset false))
    else if at_end S s peer then answer nothing_received S else refuse S Errno.EAGAIN) clear
    ∙ ap (λ b. if b then answer nothing_received S else refuse S Errno.EAGAIN) goes_on
  where
    of_queue : List Message → Outcome
    of_queue q = elim q as (λ _. Outcome) [
      | [] ↦ receive_nothing S d s peer
      | m ∷ ms ↦ receive_front S p d s asked (front_of asked.n s m ms)
    ]

    goes_on : at_end S s peer ≡ false
    goes_on = ap (λ (o : Option Socket). elim o as (λ _. Bool) [ None ↦ true | Some u ↦ s.read_shut || u.write_shut ]) at
        ∙ ap (λ b. b || other.write_shut) unshut ∙ others
receive_again S p d s asked (for_datagram k none unshut) some =
    ap (λ b. if b then receive_datagram S p d s asked else receive_from_peer S p d s asked) k
    ∙ ap (λ (q : List Message). elim q as (λ _. Outcome) [
      | [] ↦ if s.read_shut then answer nothing_received S else refuse S Errno.EAGAIN
      | m ∷ ms ↦ receive_front S p d s asked (front_of asked.n s m ms)
    ]) none
    ∙ ap (λ b. if b then answer nothing_received S else refuse S Errno.EAGAIN) unshut

recv_again : (S : State) (p n space d : ℕ) (fd : Fd) (flags : MsgFlags) (s : Socket) → find_socket S p fd ≡ Ok (d, s) →
    are_receive_flags flags ≡ true → (is_stream s.kind && (n == 0)) ≡ false → IsWaiting S d s →
    recv_msg S p fd n space flags ≡ refuse S Errno.EAGAIN
unfolding recv_msg
recv_again S p n space d fd flags s found fine some waits =
    ap (λ (r : Result (ℕ × Socket) Errno). elim r as (λ _. Outcome) [
      | Err e ↦ refuse S e
      | Ok w ↦ if not (are_receive_flags flags) then refuse S Errno.EINVAL else receive S p w.0 w.1 (incoming n space flags)
    ]) found
    ∙ ap (λ b. if not b then refuse S Errno.EINVAL else receive S p d s (incoming n space flags)) fine
    ∙ receive_again S p d s (incoming n space flags) waits some

read_again : (S : State) (p n d : ℕ) (fd : Fd) (s : Socket) → LeadsToSocket S p fd d s → (is_stream s.kind && (n == 0)) ≡ false →
    IsWaiting S d s → read S p fd n ≡ refuse S Errno.EAGAIN
read_again S p n d fd s l some waits = read_is S p n d fd s l ∙ ap (λ (o : Outcome). record o { reply = bytes_alone o.reply })
    (receive_again S p d s (incoming (min read_limit n) 0 no_flags) waits (as_many (is_stream s.kind) some))
  where
    as_many : (b : Bool) → (b && (n == 0)) ≡ false → (b && (min read_limit n == 0)) ≡ false
    as_many false h = refl
    as_many true h = ne_eqb (min read_limit n) 0 (λ z. eqb-false n 0 h (omega (arith, z)))

step_recv_again : (S T : State) (p tag n space d : ℕ) (fd : Fd) (flags : MsgFlags) (s : Socket) (reply : Reply) (gone : List ℕ) →
    Step S p tag (Request.RecvMsg fd n space flags) reply gone T → find_socket S p fd ≡ Ok (d, s) →
    are_receive_flags flags ≡ true → (is_stream s.kind && (n == 0)) ≡ false → IsWaiting S d s → reply ≡ Reply.Err Errno.EAGAIN
unfolding Step outcome
step_recv_again S T p tag n space d fd flags s reply gone step found fine some waits =
    chosen_refusal S step.0 (recv_msg S p fd n space flags) Errno.EAGAIN reply (recv_again S p n space d fd flags s found fine some waits) step.1

step_read_again : (S T : State) (p tag n d : ℕ) (fd : Fd) (s : Socket) (reply : Reply) (gone : List ℕ) →
    Step S p tag (Request.Read fd n) reply gone T → LeadsToSocket S p fd d s → (is_stream s.kind && (n == 0)) ≡ false → IsWaiting S d s →
    reply ≡ Reply.Err Errno.EAGAIN
unfolding Step outcome
step_read_again S T p tag n d fd s reply gone step l some waits =
    chosen_refusal S step.0 (read S p fd n) Errno.EAGAIN reply (read_again S p n d fd s l some waits) step.1

pub receives_wait_while : ReceivesWaitWhile
receives_wait_while boot es j n space d e fd flags s legal at request fine some through = (
  receives_wait boot es j n space d e fd flags s legal at request through,
  λ waits.
      let led : socket_through S e.pid.0 (Request.RecvMsg fd n space flags) ≡ Some (d, s) = sym (ap (socket_through S e.pid.0) request)
      ∙ through in
      step_recv_again S (before boot es (suc j)) e.pid.0 j n space d fd flags s e.reply e.released
      (subst (λ (r : Request). Step S e.pid.0 j r e.reply e.released (before boot es (suc j))) request (moment boot es j e legal at).steps)
      (socket_is_found S e.pid.0 d fd s (Request.RecvMsg fd n space flags) refl led) fine some waits,
)
  where
    S : State
    S = before boot es j

pub reads_wait_while : ReadsWaitWhile
reads_wait_while boot es j n d e fd s legal at request some through = (
  reads_wait boot es j n d e fd s legal at request through,
  λ waits.
      let led : socket_through S e.pid.0 (Request.Read fd n) ≡ Some (d, s) = sym (ap (socket_through S e.pid.0) request) ∙ through in
      step_read_again S (before boot es (suc j)) e.pid.0 j n d fd s e.reply e.released
      (subst (λ (r : Request). Step S e.pid.0 j r e.reply e.released (before boot es (suc j))) request (moment boot es j e legal at).steps)
      (leads_to_socket S e.pid.0 d fd s (socket_is_found S e.pid.0 d fd s (Request.Read fd n) refl led)) some waits,
)
  where
    S : State
    S = before boot es j

-- ---- accepts

accept_again : (S : State) (p d : ℕ) (fd : Fd) (flags : OpenFlags) (s : Socket) → find_socket S p fd ≡ Ok (d, s) → is_dgram s.kind ≡ false →
    lowest_free (table_of S p) ≢ None → AwaitsEnds s → accept S p fd flags ≡ refuse S Errno.EAGAIN
unfolding accept
accept_again S p d fd flags s found kind free a =
    ap (λ (r : Result (ℕ × Socket) Errno). elim r as (λ _. Outcome) [ Err e ↦ refuse S e | Ok w ↦ of_socket w.0 w.1 ]) found
    ∙ ap (λ b. if b then refuse S Errno.EOPNOTSUPP else of_listener d s (is_none (listener_of s.phase))) kind
    ∙ ap (of_listener d s) (listens (listener_of s.phase) a.listens)
    ∙ of_number (lowest_free (table_of S p)) free
  where
    of_free : ℕ → Socket → Option ℕ → Outcome
    of_free d s o = elim o as (λ _. Outcome) [
      | None ↦ refuse S Errno.EMFILE
      | Some n ↦ accept_first S p n d flags (slice_get (pending_ends s.phase) 0)
    ]

    of_listener : ℕ → Socket → Bool → Outcome
    of_listener d s b = if b then refuse S Errno.EINVAL else of_free d s (lowest_free (table_of S p))

    of_socket : ℕ → Socket → Outcome
    of_socket d s = if is_dgram s.kind then refuse S Errno.EOPNOTSUPP else of_listener d s (is_none (listener_of s.phase))

    listens : (o : Option Listener) → o ≢ None → is_none o ≡ false
    listens None h = absurd (h refl)
    listens (Some kept) h = refl

    of_number : (o : Option ℕ) → o ≢ None → of_free d s o ≡ refuse S Errno.EAGAIN
    of_number None h = absurd (h refl)
    of_number (Some n) h = ap (λ (l : List ℕ). accept_first S p n d flags (slice_get l 0)) a.none

step_accept_again : (S T : State) (p tag d : ℕ) (fd : Fd) (flags : OpenFlags) (s : Socket) (reply : Reply) (gone : List ℕ) →
    Step S p tag (Request.Accept fd flags) reply gone T → find_socket S p fd ≡ Ok (d, s) → is_dgram s.kind ≡ false →
    lowest_free (table_of S p) ≢ None → AwaitsEnds s → reply ≡ Reply.Err Errno.EAGAIN
unfolding Step outcome
step_accept_again S T p tag d fd flags s reply gone step found kind free a =
    chosen_refusal S step.0 (accept S p fd flags) Errno.EAGAIN reply (accept_again S p d fd flags s found kind free a) step.1

pub accepts_wait_while : AcceptsWaitWhile
accepts_wait_while boot es j d e fd flags s legal at request found kind free = (
  accepts_wait boot es j d e fd flags s legal at request found,
  λ a. step_accept_again (before boot es j) (before boot es (suc j)) e.pid.0 j d fd flags s e.reply e.released
      (subst (λ (r : Request). Step (before boot es j) e.pid.0 j r e.reply e.released (before boot es (suc j))) request
      (moment boot es j e legal at).steps) found kind free a,
)

-- ---- connects

connect_again : (S : State) (p d : ℕ) (fd : Fd) (addr : Addr) (s : Socket) (P : Process) → process_at S p ≡ Some P →
    find_socket S p fd ≡ Ok (d, s) → is_dgram s.kind ≡ false → listener_of s.phase ≡ None → peer_of s.phase ≡ None →
    is_valid_addr addr ≡ true → is_unnamed_addr addr ≡ false → FindsNoPlace S s addr → connect S p fd addr ≡ refuse S Errno.EAGAIN
unfolding connect
connect_again S p d fd addr s P here found kind idles alone valid named f =
    ap (λ (o : Option Process). elim o as (λ _. Outcome) [ None ↦ refuse S Errno.ESRCH | Some X ↦ by_number X (find_socket S p fd) ]) here
    ∙ ap (by_number P) found
    ∙ ap (λ b. if b then connect_datagram S d s.kind addr else connect_stream S d s addr (own_cred p P)) kind
    ∙ ap (λ b. if not b || is_unnamed_addr addr || is_some (listener_of s.phase) then refuse S Errno.EINVAL else rest (peer_of s.phase)) valid
    ∙ ap (λ b. if b || is_some (listener_of s.phase) then refuse S Errno.EINVAL else rest (peer_of s.phase)) named
    ∙ ap (λ (o : Option Listener). if is_some o then refuse S Errno.EINVAL else rest (peer_of s.phase)) idles
    ∙ ap rest alone
    ∙ ap (λ (r : Result (ℕ × Socket) Errno). elim r as (λ _. Outcome) [ Err e ↦ refuse S e | Ok w ↦ connect_to S d (own_cred p P) w.0 w.1 ])
    f.led
    ∙ ap (λ (o : Option Listener). elim o as (λ _. Outcome) [
      | None ↦ refuse S Errno.ECONNREFUSED
      | Some kept ↦ connect_to_listener S d (own_cred p P) f.number f.listener kept
    ]) f.none.listens
    ∙ ap (λ b. if b then refuse S Errno.EAGAIN else taken f.none.kept)
    (le-leb f.none.kept.backlog.limit (length f.none.kept.backlog.pending) f.none.full)
  where
    by_number : Process → Result (ℕ × Socket) Errno → Outcome
    by_number X r = elim r as (λ _. Outcome) [
      | Err e ↦ refuse S e
      | Ok w ↦ if is_dgram w.1.kind then connect_datagram S w.0 w.1.kind addr else connect_stream S w.0 w.1 addr (own_cred p X)
    ]

    rest : Option ℕ → Outcome
    rest o = if is_some o then refuse S Errno.EISCONN else connect_by S d s.kind addr (own_cred p P)

    taken : Listener → Outcome
    taken kept = taking_memory Reply.Ok (with_connection S (record {
      client = d;
      client_cred = own_cred p P;
      listener = f.number;
      socket = f.listener;
      listener_cred = kept.cred;
    }))

step_connect_again : (S T : State) (p tag d : ℕ) (fd : Fd) (addr : Addr) (s : Socket) (reply : Reply) (gone : List ℕ) →
    Step S p tag (Request.Connect fd addr) reply gone T → find_socket S p fd ≡ Ok (d, s) → is_dgram s.kind ≡ false →
    listener_of s.phase ≡ None → peer_of s.phase ≡ None → is_valid_addr addr ≡ true → is_unnamed_addr addr ≡ false →
    FindsNoPlace S s addr → reply ≡ Reply.Err Errno.EAGAIN
unfolding Step outcome
step_connect_again S T p tag d fd addr s reply gone step found kind idles alone valid named f =
    let l = leads_to_socket S p d fd s found in
    let P = has_process S p fd l.entry l.description l.found in
    chosen_refusal S step.0 (connect S p fd addr) Errno.EAGAIN reply
    (connect_again S p d fd addr s P.0 P.1 found kind idles alone valid named f) step.1

pub connects_wait_while : ConnectsWaitWhile
connects_wait_while boot es j d e fd addr s legal at request found kind idles alone valid named = (
  connects_wait boot es j d e fd addr s legal at request found kind,
  λ f. step_connect_again (before boot es j) (before boot es (suc j)) e.pid.0 j d fd addr s e.reply e.released
      (subst (λ (r : Request). Step (before boot es j) e.pid.0 j r e.reply e.released (before boot es (suc j))) request
      (moment boot es j e legal at).steps) found kind idles alone valid named f,
)
