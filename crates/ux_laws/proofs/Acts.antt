-- What a call does to descriptions, as far as Parts sees them: one case a kind of change, and what is known of the call then.
use Rattle.std.proofs.Common.{◌≡◌, ◌⊎◌, ℕ, Bool, true, false, if◌then◌else◌, List, [], ◌∷◌, length, take, Option, Some, None, Ok, refl, ap}
use Rattle.std.proofs.Common.{sym, ◌∙◌, inl, ◌==◌, ◌&&◌}
use Rattle.std.specs.Prelude.{ℤ}
use Rattle.std.proofs.lemmas.Bool.{false≢true}
use Rattle.ux_model.specs.Types.{Fd, Name, Addr, SockType, Mode, OpenFlags, Request, Reply}
use Rattle.ux_model.specs.Names.{file, named}
use Rattle.ux_model.specs.Message.{Message}
use Rattle.ux_model.specs.Front.{front_of}
use Rattle.ux_model.specs.Socket.{Socket, is_stream, is_dgram, peer_of, has_room, sent_part, sent, new_socket, with_queue, with_association}
use Rattle.ux_model.specs.Process.{Process, own_cred}
use Rattle.ux_model.specs.State.{State, process_at, socket_at, table_of, with_socket_by, with_new}
use Rattle.ux_model.specs.Outcome.{find_socket}
use Rattle.ux_model.specs.Pairing.{with_pair, socket_description}
use Rattle.ux_model.specs.Opening.{file_description}
use Rattle.ux_model.specs.Making.{next_object}
use Rattle.ux_model.specs.Binding.{look_up}
use Rattle.ux_model.specs.Connecting.{Listener, listener_of, with_listening, with_connection}
use Rattle.ux_model.specs.Sending.{descriptions_behind}
use Rattle.ux_model.specs.Giving.{sent_by}
use Rattle.ux_model.proofs.Lists.ByPlace.{take_none}
use Rattle.ux_laws.specs.Talking.{offered_bytes, request_addr, is_peek, taken_count, given_bytes, socket_through, goes_to, is_number}
use Rattle.ux_laws.specs.Talking.{is_first, destination, sends_to, receives_through}
use Rattle.ux_laws.specs.Files.{made_modes}
use Rattle.ux_laws.specs.Streams.{sent_now, received_now}
use Rattle.ux_laws.specs.Records.{is_count, is_given}
use Rattle.ux_laws.specs.Credentials.{MaySend}
use Rattle.ux_laws.proofs.Parts.{Shrinks, shrunk_after}

-- ---- nothing goes out or comes in

abbrev pub is_silent : Reply → Bool
is_silent (Reply.Count n) = false
is_silent (Reply.Bytes bytes) = false
is_silent (Reply.Received flags count bytes control from) = false
is_silent _ = true

pub record MovesNothing (S : State) (p : ℕ) (request : Request) (reply : Reply) : Type 0 where
  pub bytes_out : (d : ℕ) → sent_now d S p request reply ≡ []
  pub bytes_in : (d : ℕ) → received_now d S p request reply ≡ []
  -- What is taken all the same is nothing, which was offered to a stream, and what is given where nothing waits.
  pub record_out : (d : ℕ) → sends_to S d p request ≡ true → is_count reply ≡ true →
      (t : Socket) × (socket_at S d ≡ Some t) × (is_stream t.kind ≡ true) × (offered_bytes request ≡ []) × (reply ≡ Reply.Count 0)
  pub goes_out : is_count reply ≡ true → (socket_through S p request ≡ None) ⊎ ((t : ℕ) × (destination S p request ≡ Some t))
  pub record_in : (d : ℕ) → receives_through S d p request ≡ true → is_peek request ≡ false → is_given reply ≡ true →
      (s : Socket) × (socket_through S p request ≡ Some (d, s)) × (socket_at S d ≡ Some s) × ((s.queue ≡ []) ⊎ (is_stream s.kind ≡ true))

silent_count : (reply : Reply) → is_silent reply ≡ true → (taken_count reply ≡ 0) × (is_count reply ≡ false)
silent_count (Reply.Count n) h = absurd (false≢true h)
silent_count _ h = (refl, refl)

silent_bytes : (reply : Reply) → is_silent reply ≡ true → (given_bytes reply ≡ []) × (is_given reply ≡ false)
silent_bytes (Reply.Bytes bytes) h = absurd (false≢true h)
silent_bytes (Reply.Received flags count bytes control from) h = absurd (false≢true h)
silent_bytes _ h = (refl, refl)

pub either_none : {X : Type 0} (b : Bool) (xs : List X) → xs ≡ [] → (if b then xs else []) ≡ []
either_none true xs h = h
either_none false xs h = refl

pub none_either : {X : Type 0} (b : Bool) (xs : List X) → xs ≡ [] → (if b then [] else xs) ≡ []
none_either true xs h = refl
none_either false xs h = h

pub silent : {S : State} {p : ℕ} {request : Request} {reply : Reply} → is_silent reply ≡ true → MovesNothing S p request reply
silent {S} {p} {request} {reply} h =
    let counts = silent_count reply h in
    let gives = silent_bytes reply h in
    record {
      bytes_out = λ d. either_none (sends_to S d p request) (take (taken_count reply) (offered_bytes request))
          (ap (λ n. take n (offered_bytes request)) counts.0 ∙ take_none (offered_bytes request));
      bytes_in = λ d. none_either (is_peek request) _ (either_none (receives_through S d p request) (given_bytes reply) gives.0);
      record_out = λ d to count. absurd (false≢true (sym counts.1 ∙ count));
      goes_out = λ count. absurd (false≢true (sym counts.1 ∙ count));
      record_in = λ d by peek given. absurd (false≢true (sym gives.1 ∙ given));
    }

-- what is no call at a socket
pub at_no_socket : {S : State} {p : ℕ} {request : Request} {reply : Reply} → socket_through S p request ≡ None →
    MovesNothing S p request reply
at_no_socket {S} {p} {request} {reply} h = record {
  bytes_out = λ d. ap (λ b. if b then take (taken_count reply) (offered_bytes request) else []) (nowhere d);
  bytes_in = λ d. none_either (is_peek request) _ (ap (λ b. if b then given_bytes reply else []) (by_none d));
  record_out = λ d to count. absurd (false≢true (sym (nowhere d) ∙ to));
  goes_out = λ count. inl h;
  record_in = λ d by peek given. absurd (false≢true (sym (by_none d) ∙ by));
}
  where
    nowhere : (d : ℕ) → sends_to S d p request ≡ false
    nowhere d = ap (λ (o : Option (ℕ × Socket)). is_number d
        (elim o as (λ _. Option ℕ) [ None ↦ None | Some found ↦ goes_to S found.1 (request_addr request) ])) h

    by_none : (d : ℕ) → receives_through S d p request ≡ false
    by_none d = ap (is_first d) h

-- ---- a send, and a receive that takes

pub record IsSending (S : State) (p tag : ℕ) (request : Request) (reply : Reply) (t : ℕ) (m : Message) : Type 0 where
  pub end : ℕ
  pub socket : Socket
  pub process : Process
  pub target : Socket
  pub caller : process_at S p ≡ Some process
  pub through : socket_through S p request ≡ Some (end, socket)
  pub goes : goes_to S socket (request_addr request) ≡ Some t
  pub there : socket_at S t ≡ Some target
  pub tagged : m.tag ≡ tag
  pub bytes : m.bytes ≡ offered_bytes request
  pub rights : descriptions_behind (table_of S p) (sent_by request) ≡ Some m.rights
  pub cred : MaySend p process request m.cred
  pub from : m.from ≡ (if is_dgram socket.kind then Some socket.name else None)
  pub answered : reply ≡ Reply.Count (length (sent_part target m).bytes)
  pub room : has_room target ≡ true
  pub some : (is_stream target.kind && (length m.bytes == 0)) ≡ false

pub record IsTaking (S : State) (p : ℕ) (request : Request) (reply : Reply) (d n : ℕ) (s : Socket) (m : Message) (ms : List Message) : Type
    0 where
  pub through : socket_through S p request ≡ Some (d, s)
  pub there : socket_at S d ≡ Some s
  pub waiting : s.queue ≡ m ∷ ms
  pub takes : is_peek request ≡ false
  pub given : given_bytes reply ≡ (front_of n s m ms).bytes
  pub gives : is_given reply ≡ true

-- ---- all kinds

-- the descriptions of both ends of a new pipe
abbrev pub with_ends : State → OpenFlags → State
with_ends S flags =
    with_new (with_new S (file_description (next_object S) Mode.Read flags)) (file_description (next_object S) Mode.Write flags)

-- where a datagram socket is associated, if it is, is another one
abbrev pub IsDatagrams : State → Option ℕ → Type 0
IsDatagrams S target = (t : ℕ) → target ≡ Some t → (u : Socket) × (socket_at S t ≡ Some u) × (is_dgram u.kind ≡ true)

-- What the call may leave, of which some goes at its end.
pub data Did (S : State) (p tag : ℕ) (request : Request) (reply : Reply) (U : State) : Type 0 where
  quiet : Shrinks S U → MovesNothing S p request reply → Did S p tag request reply U
  opened : (path : Name) (mode : Mode) (flags : OpenFlags) (o : ℕ) → request ≡ Request.Open path mode flags →
      named path S.paths ≡ Some (file o) → is_silent reply ≡ true →
      Shrinks (with_new S (file_description o mode flags)) U → Did S p tag request reply U
  -- a file object is made, and opened once, or is a pipe
  file_made : (mode : Mode) (flags : OpenFlags) → made_modes request ≡ mode ∷ [] → is_silent reply ≡ true →
      Shrinks (with_new S (file_description (next_object S) mode flags)) U → Did S p tag request reply U
  pipe_made : (flags : OpenFlags) → made_modes request ≡ Mode.Read ∷ Mode.Write ∷ [] → is_silent reply ≡ true →
      Shrinks (with_ends S flags) U → Did S p tag request reply U
  one_made : (kind : SockType) (flags : OpenFlags) → request ≡ Request.Socket kind flags → is_silent reply ≡ true →
      Shrinks (with_new S (socket_description flags (new_socket kind))) U → Did S p tag request reply U
  pair_made : (kind : SockType) (flags : OpenFlags) (P : Process) (a b : Fd) → request ≡ Request.SocketPair kind flags →
      reply ≡ Reply.Fds a b → process_at S p ≡ Some P →
      Shrinks (with_pair S kind flags (own_cred p P)) U → Did S p tag request reply U
  listened : (fd : Fd) (backlog : ℤ) (P : Process) (d limit : ℕ) (s : Socket) → request ≡ Request.Listen fd backlog → reply ≡ Reply.Ok →
      process_at S p ≡ Some P →
      find_socket S p fd ≡ Ok (d, s) → socket_at S d ≡ Some s → peer_of s.phase ≡ None →
      Shrinks (with_socket_by S d (with_listening limit (own_cred p P))) U → Did S p tag request reply U
  tied_to : (d : ℕ) (target : Option ℕ) (s : Socket) → is_silent reply ≡ true → socket_at S d ≡ Some s → IsDatagrams S target →
      Shrinks (with_socket_by S d (with_association target)) U → Did S p tag request reply U
  connected : (fd : Fd) (addr : Addr) (P : Process) (d l : ℕ) (s other : Socket) (kept : Listener) → request ≡ Request.Connect fd addr →
      reply ≡ Reply.Ok → process_at S p ≡ Some P →
      find_socket S p fd ≡ Ok (d, s) → socket_at S d ≡ Some s → peer_of s.phase ≡ None → look_up S s.kind addr ≡ Ok (l, other) →
      socket_at S l ≡ Some other → listener_of other.phase ≡ Some kept →
      Shrinks (with_connection S (record {
        client = d;
        client_cred = own_cred p P;
        listener = l;
        socket = other;
        listener_cred =
            kept.cred;
      })) U → Did S p tag request reply U
  put : (t : ℕ) (m : Message) → IsSending S p tag request reply t m → Shrinks (with_socket_by S t (sent m)) U → Did S p tag request reply U
  took : (d n : ℕ) (s : Socket) (m : Message) (ms : List Message) → IsTaking S p request reply d n s m ms →
      Shrinks (with_socket_by S d (with_queue (front_of n s m ms).rest)) U →
      Did S p tag request reply U

pub did_after : (S U T : State) (p tag : ℕ) (request : Request) (reply : Reply) → Did S p tag request reply U → Shrinks U T →
    Did S p tag request reply T
did_after S U T p tag request reply (quiet a b) g = quiet (shrunk_after S U T a g) b
did_after S U T p tag request reply (opened path mode flags o a b c k) g = opened path mode flags o a b c (shrunk_after _ U T k g)
did_after S U T p tag request reply (file_made mode flags a b k) g = file_made mode flags a b (shrunk_after _ U T k g)
did_after S U T p tag request reply (pipe_made flags a b k) g = pipe_made flags a b (shrunk_after _ U T k g)
did_after S U T p tag request reply (one_made kind flags a b k) g = one_made kind flags a b (shrunk_after _ U T k g)
did_after S U T p tag request reply (pair_made kind flags P x y a b c k) g = pair_made kind flags P x y a b c (shrunk_after _ U T k g)
did_after S U T p tag request reply (listened fd backlog P d limit s a b c e f h k) g =
    listened fd backlog P d limit s a b c e f h (shrunk_after _ U T k g)
did_after S U T p tag request reply (tied_to d target s a b to k) g = tied_to d target s a b to (shrunk_after _ U T k g)
did_after S U T p tag request reply (connected fd addr P d l s other kept a b c e f h i j m k) g =
    connected fd addr P d l s other kept a b c e f h i j m (shrunk_after _ U T k g)
did_after S U T p tag request reply (put t m a k) g = put t m a (shrunk_after _ U T k g)
did_after S U T p tag request reply (took d n s m ms a k) g = took d n s m ms a (shrunk_after _ U T k g)
