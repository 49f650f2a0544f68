-- Each reply fits the room of its request: by its kind, where that holds neither bytes nor names.
use Rattle.std.proofs.Common.{◌≡◌, ℕ, ◌≤◌, Bool, true, false, not, ◌&&◌, ◌||◌, ◌==◌, if◌then◌else◌, List, [], ◌∷◌, length, min, Option}
use Rattle.std.proofs.Common.{◌-◌, Some, None, Result, Ok, Err, refl, ap, sym, subst, ◌∙◌, arith}
use Rattle.std.specs.Prelude.{nat_lt, take, drop, is_none, slice_get}
use Rattle.std.specs.Int.{w64, to_le_bytes}
use Rattle.std.proofs.lemmas.Bool.{ltb-false, false≢true}
use Rattle.std.proofs.lemmas.List.{length-take}
use Rattle.ux_model.specs.Types.{Errno, Fd, Addr, SockOpt, OpenFlags, MsgFlags, Request, Reply}
use Rattle.ux_model.specs.Places.{place}
use Rattle.ux_model.specs.Limits.{name_limit, read_limit, greatest_queue_limit}
use Rattle.ux_model.specs.Flags.{can_read, can_write, are_receive_flags, no_flags}
use Rattle.ux_model.specs.Object.{Body, memory, counter, pipe, View, ObjectError, would_block, full, invalid, taken_of, read_body}
use Rattle.ux_model.specs.Object.{is_pipe}
use Rattle.ux_model.specs.Message.{Message}
use Rattle.ux_model.specs.Front.{Front, front_of}
use Rattle.ux_model.specs.Socket.{Socket, is_stream, is_dgram, peer_of, pending_ends}
use Rattle.ux_model.specs.Description.{Description, to_socket, socket_of, socket_in}
use Rattle.ux_model.specs.Process.{lowest_free}
use Rattle.ux_model.specs.State.{State, description_at, socket_at, table_of}
use Rattle.ux_model.specs.Outcome.{Outcome, Chosen, own, lacking_memory, failing}
use Rattle.ux_model.specs.Binding.{get_sock_name}
use Rattle.ux_model.specs.Connecting.{listener_of, get_peer_name}
use Rattle.ux_model.specs.Accepting.{client_name, name_of_peer, present_name, accept_first, accept}
use Rattle.ux_model.specs.Receiving.{Incoming, incoming, at_end, receive_nothing, receive_front, receive, recv_msg, bytes_alone}
use Rattle.ux_model.specs.FileObjects.{holds_bytes, is_open_for, or_failing}
use Rattle.ux_model.specs.Reading.{is_short_read, read_error, read_answer, read}
use Rattle.ux_model.specs.Step.{Step, outcome}
use Rattle.ux_model.specs.ReplyKinds.{is_value, is_cred, is_refusal, option_kind, kind_of}
use Rattle.ux_model.proofs.Sizes.ReplyKinds.{each_is}
use Rattle.ux_model.specs.Rooms.{name_bytes, sender_bytes, Size, no_bytes, size_of, control_limit, room_for, Fits}
use Rattle.ux_model.specs.RoomLaws.{RepliesFit}
use Rattle.ux_model.specs.History.{replay}
use Rattle.ux_model.proofs.Changes.Walk.{either, maybe, by_target, by_queue, found, found_socket, found_peer}
use Rattle.ux_model.proofs.Changes.Bounds.{HasBounds, AreBounded, socket_bounded}
use Rattle.ux_model.proofs.Invariants.StaysBounded.{stays_bounded}
use Rattle.ux_model.proofs.Sizes.ReceivedSizes.{front_small, control_small}

-- ---- replies without bytes

abbrev is_plain : Reply → Bool
is_plain (Reply.Bytes bytes) = false
is_plain (Reply.Received flags count bytes control from) = false
is_plain (Reply.Accepted fd addr) = false
is_plain (Reply.Addr addr) = false
is_plain _ = true

nothing_fits : (room : Size) → Fits no_bytes room
nothing_fits room = record { data_fits = omega arith; control_fits = omega arith; name_fits = omega arith }

plain_fits : (reply : Reply) (room : Size) → is_plain reply ≡ true → Fits (size_of reply) room
unfolding size_of
plain_fits Reply.Ok room h = nothing_fits room
plain_fits (Reply.Fd a) room h = nothing_fits room
plain_fits (Reply.Fds a b) room h = nothing_fits room
plain_fits (Reply.Count n) room h = nothing_fits room
plain_fits (Reply.Bytes bytes) room h = absurd (cc h)
plain_fits (Reply.At n) room h = nothing_fits room
plain_fits (Reply.Received flags count bytes control from) room h = absurd (cc h)
plain_fits (Reply.Accepted fd addr) room h = absurd (cc h)
plain_fits (Reply.Addr addr) room h = absurd (cc h)
plain_fits (Reply.Opt value) room h = nothing_fits room
plain_fits (Reply.Cred cred) room h = nothing_fits room
plain_fits (Reply.Poll flags) room h = nothing_fits room
plain_fits (Reply.Polled found) room h = nothing_fits room
plain_fits (Reply.Child pid) room h = nothing_fits room
plain_fits (Reply.Flags flags) room h = nothing_fits room
plain_fits (Reply.Err e) room h = nothing_fits room

-- of an outcome's own reply
record Within (room : Size) (o : Outcome) : Type 0 where
  fits : Fits (size_of o.reply) room

plain : {room : Size} {o : Outcome} → is_plain o.reply ≡ true → Within room o
plain {room} {o} h = record { fits = plain_fits o.reply room h }

failing_within : (room : Size) (S : State) (o : ℕ) (view : View) (x : Outcome) → Within room x → Within room (or_failing S o view x)
failing_within room S o view x w = record { fits = w.fits }

-- ---- calls without bytes

-- a kind of replies that hold neither bytes nor names
of_kind : (kind : Reply → Bool) (reply : Reply) → ((bytes : List ℕ) → kind (Reply.Bytes bytes) ≡ false) →
    ((flags : MsgFlags) (count : ℕ) (bytes control : List ℕ) (from : Option Addr) →
    kind (Reply.Received flags count bytes control from) ≡ false) →
    ((fd : Fd) (addr : Addr) → kind (Reply.Accepted fd addr) ≡ false) → ((addr : Addr) → kind (Reply.Addr addr) ≡ false) →
    (kind reply || is_refusal reply) ≡ true → is_plain reply ≡ true
of_kind kind (Reply.Bytes bytes) some message accepted name h = absurd (false≢true (sym (ap (λ k. k || false) (some bytes)) ∙ h))
of_kind kind (Reply.Received flags count bytes control from) some message accepted name h =
    absurd (false≢true (sym (ap (λ k. k || false) (message flags count bytes control from)) ∙ h))
of_kind kind (Reply.Accepted fd addr) some message accepted name h =
    absurd (false≢true (sym (ap (λ k. k || false) (accepted fd addr)) ∙ h))
of_kind kind (Reply.Addr addr) some message accepted name h = absurd (false≢true (sym (ap (λ k. k || false) (name addr)) ∙ h))
of_kind kind reply some message accepted name h = refl

option_plain : (opt : SockOpt) (reply : Reply) → (option_kind opt reply || is_refusal reply) ≡ true → is_plain reply ≡ true
option_plain SockOpt.PeerCred reply h =
    of_kind is_cred reply (λ bytes. refl) (λ flags count bytes control from. refl) (λ fd addr. refl) (λ addr. refl) h
option_plain opt reply h =
    of_kind is_value reply (λ bytes. refl) (λ flags count bytes control from. refl) (λ fd addr. refl) (λ addr. refl) h

-- ---- calls that report a name

abbrev name_room : Size
name_room = record no_bytes { name = name_limit }

addr_fits : (addr : Addr) → name_bytes addr ≤ name_limit → Fits (size_of (Reply.Addr addr)) name_room
unfolding size_of
addr_fits addr short = record { data_fits = omega arith; control_fits = omega arith; name_fits = short }

accepted_fits : (fd : Fd) (addr : Addr) → name_bytes addr ≤ name_limit → Fits (size_of (Reply.Accepted fd addr)) name_room
unfolding size_of
accepted_fits fd addr short = record { data_fits = omega arith; control_fits = omega arith; name_fits = short }

sock_name_within : (S : State) (p : ℕ) (fd : Fd) → AreBounded S → Within name_room (get_sock_name S p fd)
unfolding get_sock_name
sock_name_within S p fd all = found_socket (Within name_room) S p fd _ (plain refl) (plain refl)
    (λ d s h. record { fits = addr_fits s.name (socket_bounded S d s all h).short })

peer_name_within : (S : State) (p : ℕ) (fd : Fd) → AreBounded S → Within name_room (get_peer_name S p fd)
unfolding get_peer_name
peer_name_within S p fd all = found_socket (Within name_room) S p fd _ (plain refl) (plain refl)
    (λ d s h. found_peer (Within name_room) S s.phase _ (plain refl)
    (λ peer other there. record { fits = addr_fits other.name (socket_bounded S peer other all there).short }))

present_short : (S : State) (d : ℕ) → AreBounded S → name_bytes (present_name S d) ≤ name_limit
present_short S d all = go (socket_at S d) refl
  where
    go : (o : Option Socket) → socket_at S d ≡ o → name_bytes (elim o as (λ _. Addr) [ None ↦ Addr.Unnamed | Some s ↦ s.name ]) ≤ name_limit
    go None h = omega arith
    go (Some s) h = (socket_bounded S d s all h).short

client_short : (S : State) (e : ℕ) → AreBounded S → name_bytes (client_name S e) ≤ name_limit
client_short S e all = go (socket_at S e)
  where
    by_peer : (peer : Option ℕ) → name_bytes (name_of_peer S peer) ≤ name_limit
    by_peer None = omega arith
    by_peer (Some peer) = present_short S peer all

    go : (o : Option Socket) → name_bytes (elim o as (λ _. Addr) [ None ↦ Addr.Unnamed | Some s ↦ name_of_peer S (peer_of s.phase) ]) ≤
        name_limit
    go None = omega arith
    go (Some s) = by_peer (peer_of s.phase)

accept_first_within : (S : State) (p n d : ℕ) (flags : OpenFlags) (first : Option ℕ) → AreBounded S →
    Within name_room (accept_first S p n d flags first)
accept_first_within S p n d flags None all = plain refl
accept_first_within S p n d flags (Some e) all = record { fits = accepted_fits _ (client_name S e) (client_short S e all) }

accept_within : (S : State) (p : ℕ) (fd : Fd) (flags : OpenFlags) → AreBounded S → Within name_room (accept S p fd flags)
unfolding accept
accept_within S p fd flags all = found_socket (Within name_room) S p fd _ (plain refl) (plain refl)
    (λ d s h. either (Within name_room) (is_dgram s.kind) _ _ (λ a. plain refl)
    (λ a. either (Within name_room) (is_none (listener_of s.phase)) _ _ (λ b. plain refl)
    (λ b. maybe (Within name_room) (lowest_free (table_of S p)) _ _ (plain refl)
    (λ n low. accept_first_within S p n d flags (slice_get (pending_ends s.phase) 0) all))))

-- ---- receives

abbrev message_room : ℕ → ℕ → Size
message_room n space = record { data_bytes = min greatest_queue_limit n; control = min control_limit space; name = name_limit }

abbrev data_room : ℕ → Size
data_room n = record no_bytes { data_bytes = n }

bytes_fit : (n : ℕ) (bytes : List ℕ) → length bytes ≤ n → Fits (size_of (Reply.Bytes bytes)) (data_room n)
unfolding size_of
bytes_fit n bytes few = record { data_fits = few; control_fits = omega arith; name_fits = omega arith }

-- of a receive of n bytes, which read(2) makes too and reports the bytes alone of
record Receives (n space : ℕ) (o : Outcome) : Type 0 where
  fits : Fits (size_of o.reply) (message_room n space)
  alone : Fits (size_of (bytes_alone o.reply)) (data_room n)

no_message : {n space : ℕ} {o : Outcome} → is_plain o.reply ≡ true → is_plain (bytes_alone o.reply) ≡ true → Receives n space o
no_message {n} {space} {o} h k = record {
  fits = plain_fits o.reply (message_room n space) h;
  alone =
      plain_fits (bytes_alone o.reply) (data_room n) k;
}

-- a message of these parts
received : (n space count : ℕ) (bytes control : List ℕ) (flags : MsgFlags) (from : Option Addr) (T : State) (grows : Bool) →
    length bytes ≤ n → length bytes ≤ greatest_queue_limit → length control ≤ min control_limit space →
    sender_bytes from ≤ name_limit → Receives n space
    (record { reply = Reply.Received flags count bytes control from; next = T; may_lack_memory = grows; failure = None })
unfolding size_of
received n space count bytes control flags from T grows few limited small short = record {
  fits = record { data_fits = omega (arith, few, limited); control_fits = small; name_fits = short };
  alone = record { data_fits = few; control_fits = omega arith; name_fits = omega arith };
}

nothing_received : {n space : ℕ} (S : State) →
    Receives n space (record { reply = Reply.Received no_flags 0 [] [] None; next = S; may_lack_memory = false; failure = None })
nothing_received {n} {space} S = received n space 0 [] [] no_flags None S false (omega arith) (omega arith) (omega arith) (omega arith)

front_within : (S : State) (p d : ℕ) (s : Socket) (asked : Incoming) (m : Message) (ms : List Message) →
    HasBounds s.kind s.name s.queue_limit s.queue → s.queue ≡ m ∷ ms →
    Receives asked.n asked.space (receive_front S p d s asked (front_of asked.n s m ms))
unfolding receive_front
front_within S p d s asked m ms bounds q =
    let front : Front = front_of asked.n s m ms in
    let small = front_small asked.n s m ms (subst (λ (l : List Message). HasBounds s.kind s.name s.queue_limit l) q bounds) in
    received asked.n asked.space _ _ _ _ _ _ true small.few small.limited
    (control_small s.passcred front.cred front.rights asked.space (table_of S p) small.few_rights) small.short

receive_within : (S : State) (p d : ℕ) (s : Socket) (asked : Incoming) → HasBounds s.kind s.name s.queue_limit s.queue →
    Receives asked.n asked.space (receive S p d s asked)
receive_within S p d s asked bounds = either Q (is_dgram s.kind) _ _
    (λ b. by_queue Q s.queue _ _ (λ none. either Q s.read_shut _ _ (λ c. nothing_received S) (λ c. no_message refl refl))
    (λ m ms q. front_within S p d s asked m ms bounds q))
    (λ b. maybe Q (peer_of s.phase) _ _ (no_message refl refl)
    (λ peer is. either Q (is_stream s.kind && (asked.n == 0)) _ _ (λ c. nothing_received S)
    (λ c. by_queue Q s.queue _ _ (λ none. nothing_within peer) (λ m ms q. front_within S p d s asked m ms bounds q))))
  where
    Q : Outcome → Type 0
    Q = Receives asked.n asked.space

    nothing_within : (peer : ℕ) → Q (receive_nothing S d s peer)
    nothing_within peer = either Q s.reset _ _ (λ b. no_message refl refl)
        (λ b. either Q (at_end S s peer) _ _ (λ c. nothing_received S) (λ c. no_message refl refl))

recv_within : (S : State) (p : ℕ) (fd : Fd) (n space : ℕ) (flags : MsgFlags) → AreBounded S →
    Within (message_room n space) (recv_msg S p fd n space flags)
unfolding recv_msg
recv_within S p fd n space flags all = found_socket (Within (message_room n space)) S p fd _ (plain refl) (plain refl)
    (λ d s h. either (Within (message_room n space)) (not (are_receive_flags flags)) _ _ (λ b. plain refl)
    (λ b. record { fits = (receive_within S p d s (incoming n space flags) (socket_bounded S d s all h)).fits }))

-- ---- reads

abbrev FewRead : ℕ → Result (List ℕ × Body) ObjectError → Type 0
FewRead n (Ok found) = length found.0 ≤ n
FewRead n (Err error) = Unit {0}

few_counted : (semaphore : Bool) (value n : ℕ) → FewRead n (read_body (counter semaphore value) 0 n)
few_counted semaphore value n = go (nat_lt n 8) refl (value == 0)
  where
    go : (b : Bool) → nat_lt n 8 ≡ b → (c : Bool) → FewRead n (if b then Err invalid else if c then Err would_block else
        Ok (to_le_bytes w64 (taken_of semaphore value), counter semaphore (value - taken_of semaphore value)))
    go true h c = tt
    go false h true = tt
    go false h false = ltb-false n 8 h

few_piped : (bytes : List ℕ) (n : ℕ) → FewRead n (read_body (pipe bytes) 0 n)
few_piped bytes n = go (n == 0) (length bytes == 0)
  where
    go : (b c : Bool) → FewRead n (if b then Ok ([], pipe bytes) else if c then Err would_block else Ok (take n bytes, pipe (drop n bytes)))
    go true c = omega arith
    go false true = tt
    go false false = let cut = length-take n bytes in omega (arith, cut)

few_read : (body : Body) (at n : ℕ) → FewRead n (read_body body at n)
few_read (memory bytes) at n = let cut = length-take n (drop at bytes) in omega (arith, cut)
few_read (counter semaphore value) at n = few_counted semaphore value n
few_read (pipe bytes) at n = few_piped bytes n

read_error_within : (n : ℕ) (S : State) (o : ℕ) (view : View) (e : ObjectError) → Within (data_room n) (read_error S o view e)
read_error_within n S o view would_block =
    either (Within (data_room n)) (is_pipe view.body && not (is_open_for can_write S o)) _ _
    (λ b. record { fits = bytes_fit n [] (omega arith) }) (λ b. plain refl)
read_error_within n S o view full = plain refl
read_error_within n S o view invalid = plain refl

read_answer_within : (n : ℕ) (S : State) (d : ℕ) (D : Description) (o : ℕ) (view : View) (r : Result (List ℕ × Body) ObjectError) →
    FewRead n r → Within (data_room n) (read_answer S d D o view r)
read_answer_within n S d D o view (Ok found) few = record { fits = bytes_fit n found.0 few }
read_answer_within n S d D o view (Err e) few = read_error_within n S o view e

socket_is : (S : State) (d : ℕ) (D : Description) (s : Socket) → description_at S d ≡ Some D → D.target ≡ to_socket s →
    socket_at S d ≡ Some s
socket_is S d D s h t = ap socket_in h ∙ ap socket_of t

read_within : (S : State) (p : ℕ) (fd : Fd) (n : ℕ) → AreBounded S → Within (data_room (min read_limit n)) (read S p fd n)
unfolding read
read_within S p fd n all = found Q S p fd _ (plain refl) (λ e D g h. by_target Q D.target _ _
    (λ o t. maybe Q (place S.objects o) _ _ (plain refl) (λ view there. either Q (not (can_read D.mode)) _ _ (λ b. plain refl)
    (λ b. either Q (is_short_read view.body most) _ _ (λ b. plain refl)
    (λ b. either Q (holds_bytes view.body && (most == 0)) _ _ (λ b. record { fits = bytes_fit most [] (omega arith) })
    (λ b. read_answer_within most S e.description D o view (read_body view.body D.offset most) (few_read view.body D.offset most))))))
    (λ s t. record {
      fits = (receive_within S p e.description s (incoming most 0 no_flags)
          (socket_bounded S e.description s all (socket_is S e.description D s h t))).alone;
    }))
  where
    most : ℕ
    most = min read_limit n

    Q : Outcome → Type 0
    Q = Within (data_room most)

-- ---- all calls

each_within : (S : State) (p tag : ℕ) (request : Request) → AreBounded S → Within (room_for request) (outcome S p tag request)
unfolding outcome room_for
each_within S p tag (Request.Read fd n) all = read_within S p fd n all
each_within S p tag (Request.Accept fd flags) all = accept_within S p fd flags all
each_within S p tag (Request.GetSockName fd) all = sock_name_within S p fd all
each_within S p tag (Request.GetPeerName fd) all = peer_name_within S p fd all
each_within S p tag (Request.RecvMsg fd n space flags) all = recv_within S p fd n space flags all
each_within S p tag (Request.GetOpt fd opt) all = plain (option_plain opt _ (each_is S p tag (Request.GetOpt fd opt)))
each_within S p tag request all = plain (of_kind (kind_of request) (outcome S p tag request).reply (λ bytes. refl)
    (λ flags count bytes control from. refl) (λ fd addr. refl) (λ addr. refl) (each_is S p tag request))

-- ---- the law

chosen_fits : (S T : State) (o : Outcome) (reply : Reply) (room : Size) → Within room o → Chosen S o reply T → Fits (size_of reply) room
chosen_fits S T o reply room w (own e f) = subst (λ r. Fits (size_of r) room) (sym e) w.fits
chosen_fits S T o reply room w (lacking_memory e may f) =
    subst (λ r. Fits (size_of r) room) (sym e) (plain_fits (Reply.Err Errno.ENOMEM) room refl)
chosen_fits S T o reply room w (failing e f) = subst (λ r. Fits (size_of r) room) (sym e) (plain_fits (Reply.Err Errno.EIO) room refl)

step_fits : (S T : State) (p tag : ℕ) (request : Request) (reply : Reply) (gone : List ℕ) → AreBounded S →
    Step S p tag request reply gone T → Fits (size_of reply) (room_for request)
unfolding Step
step_fits S T p tag request reply gone all s =
    chosen_fits S s.0 (outcome S p tag request) reply (room_for request) (each_within S p tag request all) s.1

pub replies_fit : RepliesFit
replies_fit boot es e legal may = step_fits (replay boot es) _ e.pid.0 (length es) e.request e.reply e.released
    (stays_bounded boot es legal) may.steps
