-- What calls on names, connections and options do.
use Rattle.std.proofs.Common.{◌≡◌, ℕ, ◌==◌, Bool, true, false, not, ◌||◌, if◌then◌else◌, [], ◌∷◌, ◌++◌, length}
use Rattle.std.proofs.Common.{Option, Some, None, Result, Ok, Err, refl, ap, sym, ◌∙◌, slice_get}
use Rattle.std.specs.Prelude.{nat_le, ℤ, is_some, is_none}
use Rattle.std.proofs.lemmas.Bool.{false≢true}
use Rattle.ux_model.specs.Types.{Errno, Fd, Cred, Name, Addr, SockType, SockOpt, Mode, OpenFlags, Request}
use Rattle.ux_model.specs.Places.{filled}
use Rattle.ux_model.specs.Names.{PathTarget, file, bound, named, is_valid_path, is_valid_addr, is_unnamed_addr, free_name}
use Rattle.ux_model.specs.Backlog.{backlog_of}
use Rattle.ux_model.specs.Socket.{Socket, is_stream, is_dgram, pending_ends, peer_of, tied_socket, takes_from}
use Rattle.ux_model.specs.Socket.{with_reset, with_passcred, with_queue_limit, shut_down}
use Rattle.ux_model.specs.Process.{Process, own_cred, lowest_free, descriptor}
use Rattle.ux_model.specs.State.{State, process_at, socket_at, table_of}
use Rattle.ux_model.specs.State.{with_socket_by, with_table}
use Rattle.ux_model.specs.Outcome.{Outcome, refuse, find_socket}
use Rattle.ux_model.specs.Naming.{unlink}
use Rattle.ux_model.specs.Binding.{same_kind, socket_of_target, look_up, bind_to, bind, with_name}
use Rattle.ux_model.specs.Connecting.{listener_of, listen, connect_to, connect_stream, connect_datagram, connect}
use Rattle.ux_model.specs.Connecting.{get_peer_name, shutdown}
use Rattle.ux_model.specs.Accepting.{accept_first, accept, without_first_end, as_accepted, accepted_with}
use Rattle.ux_model.specs.Options.{tell_cred, tell_option, get_opt, pass_cred_on, may_limit, change_option, set_opt}
use Rattle.ux_model.proofs.Changes.Walk.{either, maybe, found_peer}
use Rattle.ux_model.proofs.Tables.Shows.{by_socket}
use Rattle.ux_laws.proofs.Parts.{Kept, kept_same, kept_after, kept_table, kept_by, kept_socket, same_target, left_parts}
use Rattle.ux_laws.proofs.Parts.{kept_shrinks}
use Rattle.ux_laws.proofs.Acts.{Did}
use Rattle.ux_laws.proofs.Acts.{listened, tied_to, connected as connecting}
use Rattle.ux_laws.proofs.Doing.Outcomes.{refuses, answers, unchanged}

pub unlink_did : (S : State) (p tag : ℕ) (path : Name) → Did S p tag (Request.Unlink path) (unlink S path).reply (unlink S path).next
unfolding unlink
unlink_did S p tag path = either Q (not (is_valid_path path)) _ _ (λ b. refuses)
    (λ b. either Q (not (is_some (named path S.paths))) _ _ (λ b. refuses) (λ b. answers refl (kept_same S _ refl)))
  where
    Q : Outcome → Type 0
    Q o = Did S p tag (Request.Unlink path) o.reply o.next

named_kept : (S : State) (d : ℕ) (name : Addr) → Kept S (with_socket_by S d (with_name name))
named_kept S d name = kept_socket S d (with_name name) (λ s. refl)

pub also_kept : {S T : State} (U : State) → U.descriptions ≡ T.descriptions → Kept S T → Kept S U
also_kept {S} {T} U same k = kept_after S T U k (kept_same T U same)

pub bind_did : (S : State) (p tag : ℕ) (fd : Fd) (addr : Addr) →
    Did S p tag (Request.Bind fd addr) (bind S p fd addr).reply (bind S p fd addr).next
unfolding bind
bind_did S p tag fd addr = by_socket Q S p fd _ (λ e. refuses)
    (λ d s h there. either Q (not (is_unnamed_addr s.name) || not (is_valid_addr addr)) _ _ (λ b. refuses) (λ b. to d addr))
  where
    Q : Outcome → Type 0
    Q o = Did S p tag (Request.Bind fd addr) o.reply o.next

    to : (d : ℕ) (name : Addr) → Did S p tag (Request.Bind fd addr) (bind_to S d name).reply (bind_to S d name).next
    to d Addr.Unnamed = maybe Q (free_name S.abstract_names) _ _ refuses
        (λ name h. answers refl (also_kept _ refl (named_kept S d (Addr.Abstract name))))
    to d (Addr.Path name) = either Q (is_some (named name S.paths)) _ _ (λ b. refuses)
        (λ b. answers refl (also_kept _ refl (named_kept S d (Addr.Path name))))
    to d (Addr.Abstract name) = either Q (is_some (named name S.abstract_names)) _ _ (λ b. refuses)
        (λ b. answers refl (also_kept _ refl (named_kept S d (Addr.Abstract name))))

pub peer_name_did : (S : State) (p tag : ℕ) (fd : Fd) →
    Did S p tag (Request.GetPeerName fd) (get_peer_name S p fd).reply (get_peer_name S p fd).next
unfolding get_peer_name
peer_name_did S p tag fd = by_socket Q S p fd _ (λ e. refuses)
    (λ d s h there. found_peer Q S s.phase _ refuses (λ peer other there. unchanged refl))
  where
    Q : Outcome → Type 0
    Q o = Did S p tag (Request.GetPeerName fd) o.reply o.next

no_peer : (o : Option ℕ) → is_some o ≡ false → o ≡ None
no_peer None h = refl
no_peer (Some d) h = absurd (false≢true (sym h))

pub listen_did : (S : State) (p tag : ℕ) (fd : Fd) (backlog : ℤ) →
    Did S p tag (Request.Listen fd backlog) (listen S p fd backlog).reply (listen S p fd backlog).next
unfolding listen
listen_did S p tag fd backlog = maybe Q (process_at S p) _ _ refuses (λ P here. by_socket Q S p fd _ (λ e. refuses)
    (λ d s h there. either Q (is_dgram s.kind) _ _ (λ b. refuses)
    (λ b. either Q (is_some (peer_of s.phase)) _ _ (λ c. refuses)
    (λ c. either Q (is_unnamed_addr s.name) _ _ (λ f. refuses)
    (λ f. listened fd backlog P d (backlog_of backlog) s refl refl here h there (no_peer (peer_of s.phase) c)
    (kept_shrinks (kept_same _ _ refl)))))))
  where
    Q : Outcome → Type 0
    Q o = Did S p tag (Request.Listen fd backlog) o.reply o.next

pub shutdown_did : (S : State) (p tag : ℕ) (fd : Fd) (how : Mode) →
    Did S p tag (Request.Shutdown fd how) (shutdown S p fd how).reply (shutdown S p fd how).next
unfolding shutdown
shutdown_did S p tag fd how = by_socket Q S p fd _ (λ e. refuses)
    (λ d s h there. either Q (is_none (tied_socket s.phase)) _ _ (λ b. refuses)
    (λ b. answers refl (kept_socket S d (shut_down how) (λ s. refl))))
  where
    Q : Outcome → Type 0
    Q o = Did S p tag (Request.Shutdown fd how) o.reply o.next

abbrev typed : ℕ → Socket → Bool → Result (ℕ × Socket) Errno
typed d s b = if b then Ok (d, s) else Err Errno.EPROTOTYPE

-- what an address leads to is there
pub look_up_there : (S : State) (kind : SockType) (addr : Addr) (d : ℕ) (s : Socket) → look_up S kind addr ≡ Ok (d, s) →
    (socket_at S d ≡ Some s) × (same_kind kind s.kind ≡ true)
look_up_there S kind addr d s h = by_addr addr h
  where
    by_kind : (e : ℕ) (u : Socket) → socket_at S e ≡ Some u → (b : Bool) → same_kind kind u.kind ≡ b → typed e u b ≡ Ok (d, s) →
        (socket_at S d ≡ Some s) × (same_kind kind s.kind ≡ true)
    by_kind e u there false is f = absurd (cc f)
    by_kind e u there true is f =
        let number : e ≡ d = ap (λ r. elim r as (λ _. ℕ) [ Err x ↦ 0 | Ok w ↦ w.0 ]) f in
        let socket : u ≡ s = ap (λ r. elim r as (λ _. Socket) [ Err x ↦ u | Ok w ↦ w.1 ]) f in
        (ap (λ (k : ℕ). socket_at S k) (sym number) ∙ there ∙ ap Some socket, sym (ap (λ (w : Socket). same_kind kind w.kind) socket) ∙ is)

    by_number : (e : ℕ) (o : Option Socket) → socket_at S e ≡ o →
        (elim o as (λ _. Result (ℕ × Socket) Errno) [ None ↦ Err Errno.ECONNREFUSED | Some u ↦ typed e u (same_kind kind u.kind) ]) ≡ Ok
        (d, s) →
        (socket_at S d ≡ Some s) × (same_kind kind s.kind ≡ true)
    by_number e None there f = absurd (cc f)
    by_number e (Some u) there f = by_kind e u there (same_kind kind u.kind) refl f

    by_name : (o : Option ℕ) → (elim o as (λ _. Result (ℕ × Socket) Errno) [
      | None ↦ Err Errno.ECONNREFUSED
      | Some e ↦ elim (socket_at S e) as (λ _. Result (ℕ × Socket) Errno)
          [ None ↦ Err Errno.ECONNREFUSED | Some u ↦ typed e u (same_kind kind u.kind) ]
    ]) ≡ Ok (d, s) → (socket_at S d ≡ Some s) × (same_kind kind s.kind ≡ true)
    by_name None f = absurd (cc f)
    by_name (Some e) f = by_number e (socket_at S e) refl f

    by_path_target : (o : Option PathTarget) →
        (elim o as (λ _. Result (ℕ × Socket) Errno) [ None ↦ Err Errno.ENOENT | Some t ↦ socket_of_target S kind t ]) ≡ Ok (d, s) →
        (socket_at S d ≡ Some s) × (same_kind kind s.kind ≡ true)
    by_path_target None f = absurd (cc f)
    by_path_target (Some (file o)) f = absurd (cc f)
    by_path_target (Some (bound e)) f = by_number e (socket_at S e) refl f

    by_addr : (a : Addr) → look_up S kind a ≡ Ok (d, s) → (socket_at S d ≡ Some s) × (same_kind kind s.kind ≡ true)
    by_addr Addr.Unnamed f = absurd (cc f)
    by_addr (Addr.Path name) f = by_path_target (named name S.paths) f
    by_addr (Addr.Abstract name) f = by_name (named name S.abstract_names) f

pub by_addr : (Q : Outcome → Type 0) (S : State) (kind : SockType) (addr : Addr) (rest : ℕ → Socket → Outcome) →
    ((e : Errno) → Q (refuse S e)) →
    ((d : ℕ) (s : Socket) → look_up S kind addr ≡ Ok (d, s) → socket_at S d ≡ Some s → Q (rest d s)) →
    Q (elim (look_up S kind addr) as (λ _. Outcome) [ Err e ↦ refuse S e | Ok w ↦ rest w.0 w.1 ])
by_addr Q S kind addr rest bad rest_of = go (look_up S kind addr) refl
  where
    go : (r : Result (ℕ × Socket) Errno) → look_up S kind addr ≡ r →
        Q (elim r as (λ _. Outcome) [ Err e ↦ refuse S e | Ok w ↦ rest w.0 w.1 ])
    go (Err e) h = bad e
    go (Ok w) h = rest_of w.0 w.1 h (look_up_there S kind addr w.0 w.1 h).0

-- sockets of the same kind as a datagram socket
pub dgrams_too : (a b : SockType) → same_kind a b ≡ true → is_dgram a ≡ true → is_dgram b ≡ true
dgrams_too SockType.Stream b same h = absurd (false≢true h)
dgrams_too SockType.Dgram SockType.Dgram same h = refl
dgrams_too SockType.Dgram SockType.Stream same h = absurd (false≢true same)
dgrams_too SockType.Dgram SockType.Seq same h = absurd (false≢true same)
dgrams_too SockType.Seq b same h = absurd (false≢true h)

pub connect_did : (S : State) (p tag : ℕ) (fd : Fd) (addr : Addr) →
    Did S p tag (Request.Connect fd addr) (connect S p fd addr).reply (connect S p fd addr).next
unfolding connect
connect_did S p tag fd addr = maybe Q (process_at S p) _ _ refuses (λ P here. by_socket Q S p fd _ (λ e. refuses)
    (λ d s h there. either Q (is_dgram s.kind) _ _ (λ b. datagram d s there b) (λ b. stream P here d s h there)))
  where
    Q : Outcome → Type 0
    Q o = Did S p tag (Request.Connect fd addr) o.reply o.next

    datagram : (d : ℕ) (s : Socket) → socket_at S d ≡ Some s → is_dgram s.kind ≡ true →
        Did S p tag (Request.Connect fd addr) (connect_datagram S d s.kind addr).reply (connect_datagram S d s.kind addr).next
    datagram d s there kind = either Q (not (is_valid_addr addr)) _ _ (λ b. refuses) (λ b. either Q (is_unnamed_addr addr) _ _
        (λ c. tied_to d None s refl there (λ k is. absurd (cc is)) (kept_shrinks (kept_same _ _ refl)))
        (λ c. by_addr Q S s.kind addr _ (λ e. refuses)
        (λ t target is at. either Q (takes_from d target.phase) _ _
        (λ e. tied_to d (Some t) s refl there (λ k to. (
          target,
          ap (λ (o : Option ℕ). elim o as (λ _. Option Socket) [ None ↦ None | Some i ↦ socket_at S i ]) (sym to) ∙ at,
          dgrams_too s.kind target.kind (look_up_there S s.kind addr t target is).1 kind,
        )) (kept_shrinks (kept_same _ _ refl))) (λ e. refuses))))

    to_one : (P : Process) → process_at S p ≡ Some P → (d : ℕ) (s : Socket) → find_socket S p fd ≡ Ok (d, s) → socket_at S d ≡ Some s →
        peer_of s.phase ≡ None → (l : ℕ) (other : Socket) → look_up S s.kind addr ≡ Ok (l, other) → socket_at S l ≡ Some other →
        Did S p tag (Request.Connect fd addr) (connect_to S d (own_cred p P) l other).reply (connect_to S d (own_cred p P) l other).next
    to_one P here d s h there free l other led at = maybe Q (listener_of other.phase) _ _ refuses
        (λ kept is. either Q (nat_le kept.backlog.limit (length kept.backlog.pending)) _ _ (λ b. refuses)
        (λ b. connecting fd addr P d l s other kept refl refl here h there free led at is (kept_shrinks (kept_same _ _ refl))))

    stream : (P : Process) → process_at S p ≡ Some P → (d : ℕ) (s : Socket) → find_socket S p fd ≡ Ok (d, s) → socket_at S d ≡ Some s →
        Did S p tag (Request.Connect fd addr) (connect_stream S d s addr (own_cred p P)).reply
        (connect_stream S d s addr (own_cred p P)).next
    stream P here d s h there = either Q (not (is_valid_addr addr) || is_unnamed_addr addr || is_some (listener_of s.phase)) _ _
        (λ b. refuses)
        (λ b. either Q (is_some (peer_of s.phase)) _ _ (λ c. refuses)
        (λ c. by_addr Q S s.kind addr _ (λ e. refuses)
        (λ l other led at. to_one P here d s h there (no_peer (peer_of s.phase) c) l other led at)))

pub accept_did : (S : State) (p tag : ℕ) (fd : Fd) (flags : OpenFlags) →
    Did S p tag (Request.Accept fd flags) (accept S p fd flags).reply (accept S p fd flags).next
unfolding accept
accept_did S p tag fd flags = by_socket Q S p fd _ (λ e. refuses)
    (λ d s h there. either Q (is_dgram s.kind) _ _ (λ a. refuses)
    (λ a. either Q (is_none (listener_of s.phase)) _ _ (λ b. refuses)
    (λ b. maybe Q (lowest_free (table_of S p)) _ _ refuses (λ n low. oldest d n (slice_get (pending_ends s.phase) 0)))))
  where
    Q : Outcome → Type 0
    Q o = Did S p tag (Request.Accept fd flags) o.reply o.next

    oldest : (d n : ℕ) (o : Option ℕ) → Did S p tag (Request.Accept fd flags) (accept_first S p n d flags o).reply
        (accept_first S p n d flags o).next
    oldest d n None = refuses
    oldest d n (Some e) =
        let T : State = with_table S p (filled (table_of S p) n (descriptor flags e)) in
        let U : State = with_socket_by T d without_first_end in
        answers refl (kept_after S U _ (kept_after S T U (kept_table S p _) (kept_socket T d without_first_end left_parts))
        (kept_by U e (accepted_with flags) (λ D. same_target as_accepted (λ s. refl) D.mode D.target)))

-- ---- options and readiness

cred_did : (S : State) (p tag : ℕ) (request : Request) (cred : Option Cred) →
    Did S p tag request (tell_cred S cred).reply (tell_cred S cred).next
cred_did S p tag request None = refuses
cred_did S p tag request (Some cred) = unchanged refl

option_did : (S : State) (p tag d : ℕ) (s : Socket) (request : Request) (opt : SockOpt) →
    Did S p tag request (tell_option S d s opt).reply (tell_option S d s opt).next
option_did S p tag d s request SockOpt.Kind = unchanged refl
option_did S p tag d s request SockOpt.Error = answers refl (kept_socket S d (with_reset false) (λ s. refl))
option_did S p tag d s request SockOpt.PassCred = unchanged refl
option_did S p tag d s request SockOpt.PeerCred = cred_did S p tag request s.peer_cred
option_did S p tag d s request SockOpt.AcceptConn = unchanged refl
option_did S p tag d s request SockOpt.QueueLimit =
    either (λ o. Did S p tag request o.reply o.next) (is_stream s.kind) _ _ (λ b. unchanged refl) (λ b. refuses)

pub get_opt_did : (S : State) (p tag : ℕ) (fd : Fd) (opt : SockOpt) →
    Did S p tag (Request.GetOpt fd opt) (get_opt S p fd opt).reply (get_opt S p fd opt).next
unfolding get_opt
get_opt_did S p tag fd opt = by_socket (λ o. Did S p tag (Request.GetOpt fd opt) o.reply o.next) S p fd _ (λ e. refuses)
    (λ d s h there. option_did S p tag d s (Request.GetOpt fd opt) opt)

change_did : (S : State) (p tag d : ℕ) (s : Socket) (request : Request) (value : ℕ) (opt : SockOpt) →
    Did S p tag request (change_option S d s value opt).reply (change_option S d s value opt).next
change_did S p tag d s request value opt = by_option opt
  where
    Q : Outcome → Type 0
    Q o = Did S p tag request o.reply o.next

    passing : (on : Bool) → Kept S (with_socket_by S d (with_passcred on))
    passing on = kept_socket S d (with_passcred on) (λ s. refl)

    on : Did S p tag request (pass_cred_on S d s).reply (pass_cred_on S d s).next
    on = either Q (not (is_unnamed_addr s.name) || is_some (tied_socket s.phase)) _ _ (λ b. answers refl (passing true))
        (λ b. maybe Q (free_name S.abstract_names) _ _ refuses
        (λ name free.
        let T : State = record (with_socket_by S d (with_name (Addr.Abstract name))) { abstract_names = S.abstract_names ++ (name, d) ∷ [] }
        in
        answers refl (kept_after S T _ (also_kept T refl (named_kept S d (Addr.Abstract name)))
        (kept_socket T d (with_passcred true) (λ s. refl)))))

    by_option : (o : SockOpt) → Did S p tag request (change_option S d s value o).reply (change_option S d s value o).next
    by_option SockOpt.Kind = refuses
    by_option SockOpt.Error = refuses
    by_option SockOpt.PassCred = either Q (value == 0) _ _ (λ b. answers refl (passing false)) (λ b. on)
    by_option SockOpt.PeerCred = refuses
    by_option SockOpt.AcceptConn = refuses
    by_option SockOpt.QueueLimit = either Q (not (is_stream s.kind)) _ _ (λ b. refuses)
        (λ b. either Q (not (may_limit value)) _ _ (λ c. refuses)
        (λ c. answers refl (kept_socket S d (with_queue_limit value) (λ s. refl))))

pub set_opt_did : (S : State) (p tag : ℕ) (fd : Fd) (opt : SockOpt) (value : ℕ) →
    Did S p tag (Request.SetOpt fd opt value) (set_opt S p fd opt value).reply (set_opt S p fd opt value).next
unfolding set_opt
set_opt_did S p tag fd opt value = by_socket (λ o. Did S p tag (Request.SetOpt fd opt value) o.reply o.next) S p fd _ (λ e. refuses)
    (λ d s h there. change_did S p tag d s (Request.SetOpt fd opt value) value opt)
