-- So do calls that make sockets, name and connect them, or look at them.
use Rattle.std.proofs.Common.{◌≡◌, ℕ, suc, Bool, true, false, not, ◌||◌, ◌==◌, List, []}
use Rattle.std.proofs.Common.{◌∷◌, ◌++◌, length, take, Option, Some, None, Ok, Err, refl, ap, sym, ◌∙◌, subst}
use Rattle.std.proofs.Common.{arith, slice_get}
use Rattle.std.specs.Prelude.{nat_le, ℤ, is_some, is_none}
use Rattle.ux_model.specs.Types.{Fd, Cred, Name, Addr, SockType, SockOpt, Mode, OpenFlags, Request, Reply}
use Rattle.ux_model.specs.Places.{filled}
use Rattle.ux_model.specs.Flags.{asks_cloexec}
use Rattle.ux_model.specs.Object.{View}
use Rattle.ux_model.specs.Names.{PathTarget, named, is_valid_path, is_valid_addr, is_unnamed_addr, free_name}
use Rattle.ux_model.specs.Backlog.{backlog_of}
use Rattle.ux_model.specs.Socket.{Socket, new_socket, pair_end, is_stream, is_dgram, pending_ends, peer_of, tied_socket}
use Rattle.ux_model.specs.Socket.{takes_from, with_reset, with_association, with_passcred, with_queue_limit}
use Rattle.ux_model.specs.Socket.{shut_down, awaiting}
use Rattle.ux_model.specs.Description.{Description}
use Rattle.ux_model.specs.Process.{Process, Descriptor, own_cred, lowest_free, two_lowest_free, descriptor}
use Rattle.ux_model.specs.Process.{fd_of}
use Rattle.ux_model.specs.Delivery.{installed}
use Rattle.ux_model.specs.State.{State, process_at, table_of, next_description}
use Rattle.ux_model.specs.State.{with_socket_by, with_table, with_new}
use Rattle.ux_model.specs.Outcome.{Outcome, answer, taking_memory, find_socket}
use Rattle.ux_model.specs.Naming.{unlink}
use Rattle.ux_model.specs.Pairing.{make_pair, with_pair, socket_description}
use Rattle.ux_model.specs.Binding.{bind_to, bind, with_name}
use Rattle.ux_model.specs.Connecting.{make_socket, listener_of, with_listening, listen, connect_to, connect_stream, connect_datagram}
use Rattle.ux_model.specs.Connecting.{connect, shutdown, with_connection, server_end, tied, no_open_flags}
use Rattle.ux_model.specs.Accepting.{Acceptance, accept_first, accept, with_accepted, without_first_end, as_accepted, accepted_with}
use Rattle.ux_model.specs.Accepting.{client_name}
use Rattle.ux_model.specs.Opening.{open_file, file_description}
use Rattle.ux_model.specs.Options.{tell_cred, tell_option, get_opt, pass_cred_on, may_limit, change_option, set_opt}
use Rattle.ux_model.specs.Giving.{given}
use Rattle.ux_model.specs.Changes.{cloexec_of, sources, oldest_end}
use Rattle.ux_model.proofs.Changes.Walk.{either, maybe, by_path, found_named}
use Rattle.ux_model.proofs.Changes.Named.{table_in}
use Rattle.ux_model.proofs.Lists.ByPlace.{take_none}
use Rattle.ux_model.proofs.Lists.Rising.{Rise, rise_one, two_rise, lowest_below}
use Rattle.ux_model.proofs.Tables.Queues.{queue_of, Quiet, quiet_mail, quiet_after, quiet_table, quiet_new}
use Rattle.ux_model.proofs.Tables.Queues.{quiet_by, quiet_socket, quiet_target}
use Rattle.ux_model.proofs.Tables.Replacing.{Replaces, replaced_table, replaced_alike, tells_child}
use Rattle.ux_model.proofs.Tables.Replacing.{IsPlain, installs}
use Rattle.ux_model.proofs.Tables.Shows.{Shows, silent, refuses, answers, by_socket}

-- ---- new descriptions

-- with these file objects and paths
abbrev pub with_files : State → List (Option View) → List (Name × PathTarget) → State
with_files S objects names = record S { objects = objects; paths = names }

-- a new one of no queue, at the lowest free number, which may have come with a file object or a path
pub made_shows : (S : State) (p tag n : ℕ) (request : Request) (objects : List (Option View)) (names : List (Name × PathTarget))
    (D : Description) (flags : OpenFlags) (Q : Process) → process_at S p ≡ Some Q →
    IsPlain request → lowest_free (table_of S p) ≡ Some n →
    queue_of D.target ≡ [] → sources S p request ≡ next_description S ∷ [] → cloexec_of request ≡ asks_cloexec flags →
    given S p request (Reply.Fd (fd_of n)) ≡ n ∷ [] →
    Shows S p tag request (taking_memory (Reply.Fd (fd_of n))
    (with_table (with_new (with_files S objects names) D) p (filled (table_of S p) n (descriptor flags (next_description S)))))
made_shows S p tag n request objects names D flags Q here plain low none source flag tells =
    let table : List (Option Descriptor) = filled (table_of S p) n (descriptor flags (next_description S)) in
    let U : State = with_new (with_files S objects names) D in
    let r = replaced_table U p table Q here in
    let long : length (sources S p request) ≡ 1 = ap (λ (l : List ℕ). length l) source in
    record {
      tables = installs S (with_table U p table) p request (Reply.Fd (fd_of n)) (n ∷ []) plain
          (subst (λ (ds : List ℕ). Replaces S p (installed (cloexec_of request) (n ∷ []) ds (table_of S p))
          (with_table U p table)) (sym source)
          (subst (λ (c : Bool). Replaces S p (installed c (n ∷ []) (next_description S ∷ []) (table_of S p))
          (with_table U p table)) (sym flag) (record { same = r.same; other = r.other })))
          (rise_one n (length (table_of S p)) (lowest_below (table_of S p) n low)) (omega (arith, long)) tells refl;
      mail = quiet_after S U (with_table U p table) p tag request (quiet_table U p table)
          (quiet_mail S U p tag request (quiet_new (with_files S objects names) D none));
    }

pub open_shows : (S : State) (p tag : ℕ) (path : Name) (mode : Mode) (flags : OpenFlags) (Q : Process) → process_at S p ≡ Some Q →
    Shows S p tag (Request.Open path mode flags) (open_file S p path mode flags)
unfolding open_file
open_shows S p tag path mode flags Q here =
    either (Shows S p tag (Request.Open path mode flags)) (not (is_valid_path path)) _ _ (λ b. refuses refl)
    (λ b. maybe (Shows S p tag (Request.Open path mode flags)) (named path S.paths) _ _ (refuses refl)
    (λ t is. by_path (Shows S p tag (Request.Open path mode flags)) t _ _
    (λ o led. maybe (Shows S p tag (Request.Open path mode flags)) (lowest_free (table_of S p)) _ _ (refuses refl)
    (λ n low. made_shows S p tag n (Request.Open path mode flags) S.objects S.paths (file_description o mode flags) flags Q here
    (record { no_end = refl; keeps = λ n held. refl }) low refl refl refl refl))
    (λ d led. refuses refl)))

pub socket_shows : (S : State) (p tag : ℕ) (kind : SockType) (flags : OpenFlags) (Q : Process) → process_at S p ≡ Some Q →
    Shows S p tag (Request.Socket kind flags) (make_socket S p kind flags)
unfolding make_socket
socket_shows S p tag kind flags Q here = maybe (Shows S p tag (Request.Socket kind flags)) (lowest_free (table_of S p)) _ _ (refuses refl)
    (λ n low. made_shows S p tag n (Request.Socket kind flags) S.objects S.paths (socket_description flags (new_socket kind)) flags Q here
    (record { no_end = refl; keeps = λ n held. refl }) low refl refl refl refl)

pub pair_shows : (S : State) (p tag : ℕ) (kind : SockType) (flags : OpenFlags) →
    Shows S p tag (Request.SocketPair kind flags) (make_pair S p kind flags)
unfolding make_pair
pair_shows S p tag kind flags = maybe (Shows S p tag (Request.SocketPair kind flags)) (process_at S p) _ _ (refuses refl)
    (λ P h. maybe (Shows S p tag (Request.SocketPair kind flags)) (two_lowest_free P.table) _ _ (refuses refl) (λ n low. both P h n low))
  where
    both : (P : Process) → process_at S p ≡ Some P → (n : ℕ × ℕ) → two_lowest_free P.table ≡ Some n →
        Shows S p tag (Request.SocketPair kind flags)
        (taking_memory (Reply.Fds (fd_of n.0) (fd_of n.1)) (with_table (with_pair S kind flags (own_cred p P)) p
        (filled (filled P.table n.0 (descriptor flags (next_description S))) n.1 (descriptor flags (suc (next_description S))))))
    both P h n low =
        let U : State = with_pair S kind flags (own_cred p P) in
        let one : State = with_new S (socket_description flags (pair_end kind (suc (next_description S)) (own_cred p P))) in
        let table : List (Option Descriptor) = filled (filled P.table n.0 (descriptor flags (next_description S))) n.1
        (descriptor flags (suc (next_description S))) in
        let same : P.table ≡ table_of S p = sym (ap table_in h) in
        let r = replaced_table U p table P h in
        record {
          tables = installs S (with_table U p table) p (Request.SocketPair kind flags) (Reply.Fds (fd_of n.0) (fd_of n.1)) (n.0 ∷ n.1 ∷ [])
              (record { no_end = refl; keeps = λ n held. refl })
              (subst (λ (t : List (Option Descriptor)). Replaces S p
              (installed (asks_cloexec flags) (n.0 ∷ n.1 ∷ []) (next_description S ∷ suc (next_description S) ∷ []) t)
              (with_table U p table)) same
              (record { same = r.same; other = r.other }))
              (subst (λ (t : List (Option Descriptor)). Rise 0 (length t) (n.0 ∷ n.1 ∷ [])) same (two_rise P.table n low)) (omega arith)
              refl refl;
          mail = quiet_after S U (with_table U p table) p tag (Request.SocketPair kind flags) (quiet_table U p table)
              (quiet_after S one U p tag (Request.SocketPair kind flags)
              (quiet_new one (socket_description flags (pair_end kind (next_description S) (own_cred p P))) refl)
              (quiet_mail S one p tag (Request.SocketPair kind flags)
              (quiet_new S (socket_description flags (pair_end kind (suc (next_description S)) (own_cred p P))) refl)));
        }

-- ---- accept

first_taken : (xs : List ℕ) (e : ℕ) → slice_get xs 0 ≡ Some e → take 1 xs ≡ e ∷ []
first_taken [] e h = absurd (cc h)
first_taken (x ∷ xs) e h = let same : x ≡ e = cc h in ap (λ l. x ∷ l) (take_none xs) ∙ ap (λ k. k ∷ []) same

pub accept_shows : (S : State) (p tag : ℕ) (fd : Fd) (flags : OpenFlags) (Q : Process) → process_at S p ≡ Some Q →
    Shows S p tag (Request.Accept fd flags) (accept S p fd flags)
unfolding accept
accept_shows S p tag fd flags Q here = by_socket (Shows S p tag (Request.Accept fd flags)) S p fd _ (λ e. refuses refl)
    (λ d s h there. either (Shows S p tag (Request.Accept fd flags)) (is_dgram s.kind) _ _ (λ a. refuses refl)
    (λ a. either (Shows S p tag (Request.Accept fd flags)) (is_none (listener_of s.phase)) _ _ (λ b. refuses refl)
    (λ b. maybe (Shows S p tag (Request.Accept fd flags)) (lowest_free (table_of S p)) _ _ (refuses refl)
    (λ n low. oldest d s h n low (slice_get (pending_ends s.phase) 0) refl))))
  where
    oldest : (d : ℕ) (s : Socket) → find_socket S p fd ≡ Ok (d, s) → (n : ℕ) → lowest_free (table_of S p) ≡ Some n → (o : Option ℕ) →
        slice_get (pending_ends s.phase) 0 ≡ o →
        Shows S p tag (Request.Accept fd flags) (accept_first S p n d flags o)
    oldest d s h n low None first = refuses refl
    oldest d s h n low (Some e) first =
        let table : List (Option Descriptor) = filled (table_of S p) n (descriptor flags e) in
        let T : State = with_table S p table in
        let U : State = with_socket_by T d without_first_end in
        let accepted : Acceptance = record { process = p; number = n; flags = flags; listener = d; oldest = e } in
        let source : oldest_end S p fd ≡ e ∷ [] =
        ap (λ r. elim r as (λ _. List ℕ) [ Err x ↦ [] | Ok w ↦ take 1 (pending_ends w.1.phase) ]) h
        ∙ first_taken (pending_ends s.phase) e first in
        let long : length (oldest_end S p fd) ≡ 1 = ap (λ (l : List ℕ). length l) source in
        let r = replaced_table S p table Q here in
        record {
          tables = installs S (with_accepted S accepted) p (Request.Accept fd flags) (Reply.Accepted (fd_of n) (client_name S e)) (n ∷ [])
              (record { no_end = refl; keeps = λ n held. refl })
              (subst (λ (ds : List ℕ). Replaces S p (installed (asks_cloexec flags) (n ∷ []) ds (table_of S p)) (with_accepted S accepted))
              (sym source)
              (replaced_alike S T (with_accepted S accepted) p table refl r))
              (rise_one n (length (table_of S p)) (lowest_below (table_of S p) n low)) (omega (arith, long)) refl refl;
          mail = quiet_after S U (with_accepted S accepted) p tag (Request.Accept fd flags)
              (quiet_by U e (accepted_with flags) (λ D. quiet_target as_accepted (λ s. refl) D.target))
              (quiet_after S T U p tag (Request.Accept fd flags) (quiet_socket T d without_first_end (λ s. refl))
              (quiet_mail S T p tag (Request.Accept fd flags) (quiet_table S p table)));
        }

-- ---- names and connections

-- what was learnt of a call that touches no table, and leaves the processes
silent_answer : {S : State} {p tag : ℕ} {request : Request} {reply : Reply} → IsPlain request → given S p request reply ≡ [] →
    tells_child reply ≡ false → Shows S p tag request (taking_memory reply S)
silent_answer {S} {p} {tag} {request} {reply} plain none childless = answers plain refl none childless (silent S)

pub unlink_shows : (S : State) (p tag : ℕ) (path : Name) → Shows S p tag (Request.Unlink path) (unlink S path)
unfolding unlink
unlink_shows S p tag path = either (Shows S p tag (Request.Unlink path)) (not (is_valid_path path)) _ _ (λ b. refuses refl)
    (λ b. either (Shows S p tag (Request.Unlink path)) (not (is_some (named path S.paths))) _ _ (λ b. refuses refl)
    (λ b. answers (record { no_end = refl; keeps = λ n held. refl }) refl refl refl (λ d. refl)))

bound_shows : (S : State) (p tag d : ℕ) (fd : Fd) (asked addr : Addr) → Shows S p tag (Request.Bind fd asked) (bind_to S d addr)
bound_shows S p tag d fd asked Addr.Unnamed = maybe (Shows S p tag (Request.Bind fd asked)) (free_name S.abstract_names) _ _ (refuses refl)
    (λ name h. answers (record { no_end = refl; keeps = λ n held. refl }) refl refl refl
    (quiet_socket S d (with_name (Addr.Abstract name)) (λ s. refl)))
bound_shows S p tag d fd asked (Addr.Path name) =
    either (Shows S p tag (Request.Bind fd asked)) (is_some (named name S.paths)) _ _ (λ b. refuses refl)
    (λ b. answers (record { no_end = refl; keeps = λ n held. refl }) refl refl refl
    (quiet_socket S d (with_name (Addr.Path name)) (λ s. refl)))
bound_shows S p tag d fd asked (Addr.Abstract name) =
    either (Shows S p tag (Request.Bind fd asked)) (is_some (named name S.abstract_names)) _ _ (λ b. refuses refl)
    (λ b. answers (record { no_end = refl; keeps = λ n held. refl }) refl refl refl
    (quiet_socket S d (with_name (Addr.Abstract name)) (λ s. refl)))

pub bind_shows : (S : State) (p tag : ℕ) (fd : Fd) (addr : Addr) → Shows S p tag (Request.Bind fd addr) (bind S p fd addr)
unfolding bind
bind_shows S p tag fd addr = by_socket (Shows S p tag (Request.Bind fd addr)) S p fd _ (λ e. refuses refl)
    (λ d s h there. either (Shows S p tag (Request.Bind fd addr)) (not (is_unnamed_addr s.name) || not (is_valid_addr addr)) _ _
    (λ b. refuses refl) (λ b. bound_shows S p tag d fd addr addr))

pub listen_shows : (S : State) (p tag : ℕ) (fd : Fd) (backlog : ℤ) → Shows S p tag (Request.Listen fd backlog) (listen S p fd backlog)
unfolding listen
listen_shows S p tag fd backlog = maybe (Shows S p tag (Request.Listen fd backlog)) (process_at S p) _ _ (refuses refl)
    (λ P here. by_socket (Shows S p tag (Request.Listen fd backlog)) S p fd _ (λ e. refuses refl)
    (λ d s h there. either (Shows S p tag (Request.Listen fd backlog)) (is_dgram s.kind) _ _ (λ b. refuses refl)
    (λ b. either (Shows S p tag (Request.Listen fd backlog)) (is_some (peer_of s.phase)) _ _ (λ b. refuses refl)
    (λ b. either (Shows S p tag (Request.Listen fd backlog)) (is_unnamed_addr s.name) _ _ (λ b. refuses refl)
    (λ b. answers (record { no_end = refl; keeps = λ n held. refl }) refl refl refl
    (quiet_socket S d (with_listening (backlog_of backlog) (own_cred p P)) (λ s. refl)))))))

pub shutdown_shows : (S : State) (p tag : ℕ) (fd : Fd) (how : Mode) → Shows S p tag (Request.Shutdown fd how) (shutdown S p fd how)
unfolding shutdown
shutdown_shows S p tag fd how = by_socket (Shows S p tag (Request.Shutdown fd how)) S p fd _ (λ e. refuses refl)
    (λ d s h there. either (Shows S p tag (Request.Shutdown fd how)) (is_none (tied_socket s.phase)) _ _ (λ b. refuses refl)
    (λ b. answers (record { no_end = refl; keeps = λ n held. refl }) refl refl refl (quiet_socket S d (shut_down how) (λ s. refl))))

quiet_connection : (S : State) (d : ℕ) (cred : Cred) (l : ℕ) (listener : Socket) (listener_cred : Cred) →
    Quiet S (with_connection S (record { client = d; client_cred = cred; listener = l; socket = listener; listener_cred = listener_cred }))
quiet_connection S d cred l listener listener_cred i =
    let e : ℕ = next_description S in
    let T : State = with_socket_by S l (awaiting e) in
    let D : Description = socket_description no_open_flags (server_end listener d cred) in
    quiet_socket (with_new T D) d (tied e listener_cred) (λ s. refl) i ∙ quiet_new T D refl i ∙ quiet_socket S l (awaiting e) (λ s. refl) i

pub connect_shows : (S : State) (p tag : ℕ) (fd : Fd) (addr : Addr) → Shows S p tag (Request.Connect fd addr) (connect S p fd addr)
unfolding connect
connect_shows S p tag fd addr = maybe Q (process_at S p) _ _ (refuses refl) (λ P here. by_socket Q S p fd _ (λ e. refuses refl)
    (λ d s h there. either Q (is_dgram s.kind) _ _ (λ b. datagram d s.kind) (λ b. stream d s (own_cred p P))))
  where
    Q : Outcome → Type 0
    Q o = Shows S p tag (Request.Connect fd addr) o

    plain : IsPlain (Request.Connect fd addr)
    plain = record { no_end = refl; keeps = λ n held. refl }

    associated : (d : ℕ) (target : Option ℕ) →
        Shows S p tag (Request.Connect fd addr) (answer Reply.Ok (with_socket_by S d (with_association target)))
    associated d target = answers plain refl refl refl (quiet_socket S d (with_association target) (λ s. refl))

    datagram : (d : ℕ) (kind : SockType) → Shows S p tag (Request.Connect fd addr) (connect_datagram S d kind addr)
    datagram d kind = either Q (not (is_valid_addr addr)) _ _ (λ b. refuses refl)
        (λ b. either Q (is_unnamed_addr addr) _ _ (λ c. associated d None)
        (λ c. found_named Q S kind addr _ (refuses refl) (refuses refl) (refuses refl) (refuses refl)
        (λ t target there. either Q (takes_from d target.phase) _ _ (λ e. associated d (Some t)) (λ e. refuses refl))))

    connected_to : (d : ℕ) (cred : Cred) (l : ℕ) (other : Socket) → Shows S p tag (Request.Connect fd addr) (connect_to S d cred l other)
    connected_to d cred l other = maybe Q (listener_of other.phase) _ _ (refuses refl)
        (λ kept h. either Q (nat_le kept.backlog.limit (length kept.backlog.pending)) _ _ (λ b. refuses refl)
        (λ b. answers plain refl refl refl (quiet_connection S d cred l other kept.cred)))

    stream : (d : ℕ) (s : Socket) (cred : Cred) → Shows S p tag (Request.Connect fd addr) (connect_stream S d s addr cred)
    stream d s cred = either Q (not (is_valid_addr addr) || is_unnamed_addr addr || is_some (listener_of s.phase)) _ _ (λ b. refuses refl)
        (λ b. either Q (is_some (peer_of s.phase)) _ _ (λ c. refuses refl)
        (λ c. found_named Q S s.kind addr _ (refuses refl) (refuses refl) (refuses refl) (refuses refl)
        (λ l other there. connected_to d cred l other)))

-- ---- options and readiness

cred_shows : (S : State) (p tag : ℕ) (fd : Fd) (opt : SockOpt) (cred : Option Cred) →
    Shows S p tag (Request.GetOpt fd opt) (tell_cred S cred)
cred_shows S p tag fd opt None = refuses refl
cred_shows S p tag fd opt (Some cred) = answers (record { no_end = refl; keeps = λ n held. refl }) refl refl refl (silent S)

option_shows : (S : State) (p tag d : ℕ) (fd : Fd) (s : Socket) (asked opt : SockOpt) →
    Shows S p tag (Request.GetOpt fd asked) (tell_option S d s opt)
option_shows S p tag d fd s asked SockOpt.Kind = answers (record { no_end = refl; keeps = λ n held. refl }) refl refl refl (silent S)
option_shows S p tag d fd s asked SockOpt.Error =
    answers (record { no_end = refl; keeps = λ n held. refl }) refl refl refl (quiet_socket S d (with_reset false) (λ s. refl))
option_shows S p tag d fd s asked SockOpt.PassCred = answers (record { no_end = refl; keeps = λ n held. refl }) refl refl refl (silent S)
option_shows S p tag d fd s asked SockOpt.PeerCred = cred_shows S p tag fd asked s.peer_cred
option_shows S p tag d fd s asked SockOpt.AcceptConn = answers (record { no_end = refl; keeps = λ n held. refl }) refl refl refl (silent S)
option_shows S p tag d fd s asked SockOpt.QueueLimit = either (Shows S p tag (Request.GetOpt fd asked)) (is_stream s.kind) _ _
    (λ b. answers (record { no_end = refl; keeps = λ n held. refl }) refl refl refl (silent S)) (λ b. refuses refl)

pub get_opt_shows : (S : State) (p tag : ℕ) (fd : Fd) (opt : SockOpt) → Shows S p tag (Request.GetOpt fd opt) (get_opt S p fd opt)
unfolding get_opt
get_opt_shows S p tag fd opt = by_socket (Shows S p tag (Request.GetOpt fd opt)) S p fd _ (λ e. refuses refl)
    (λ d s h there. option_shows S p tag d fd s opt opt)

change_shows : (S : State) (p tag d : ℕ) (fd : Fd) (s : Socket) (asked opt : SockOpt) (value : ℕ) →
    Shows S p tag (Request.SetOpt fd asked value) (change_option S d s value opt)
change_shows S p tag d fd s asked opt value = by_option opt
  where
    Q : Outcome → Type 0
    Q o = Shows S p tag (Request.SetOpt fd asked value) o

    plain : IsPlain (Request.SetOpt fd asked value)
    plain = record { no_end = refl; keeps = λ n held. refl }

    passing : (on : Bool) → Shows S p tag (Request.SetOpt fd asked value) (answer Reply.Ok (with_socket_by S d (with_passcred on)))
    passing on = answers plain refl refl refl (quiet_socket S d (with_passcred on) (λ s. refl))

    bound : (name : Name) → Quiet S (with_socket_by
        (record (with_socket_by S d (with_name (Addr.Abstract name))) { abstract_names = S.abstract_names ++ (name, d) ∷ [] }) d
        (with_passcred true))
    bound name i = quiet_socket (with_socket_by S d (with_name (Addr.Abstract name))) d (with_passcred true) (λ s. refl) i
        ∙ quiet_socket S d (with_name (Addr.Abstract name)) (λ s. refl) i

    on : Shows S p tag (Request.SetOpt fd asked value) (pass_cred_on S d s)
    on = either Q (not (is_unnamed_addr s.name) || is_some (tied_socket s.phase)) _ _ (λ b. passing true)
        (λ b. maybe Q (free_name S.abstract_names) _ _ (refuses refl) (λ name free. answers plain refl refl refl (bound name)))

    by_option : (o : SockOpt) → Shows S p tag (Request.SetOpt fd asked value) (change_option S d s value o)
    by_option SockOpt.Kind = refuses refl
    by_option SockOpt.Error = refuses refl
    by_option SockOpt.PassCred = either Q (value == 0) _ _ (λ b. passing false) (λ b. on)
    by_option SockOpt.PeerCred = refuses refl
    by_option SockOpt.AcceptConn = refuses refl
    by_option SockOpt.QueueLimit = either Q (not (is_stream s.kind)) _ _ (λ b. refuses refl)
        (λ b. either Q (not (may_limit value)) _ _ (λ c. refuses refl)
        (λ c. answers plain refl refl refl (quiet_socket S d (with_queue_limit value) (λ s. refl))))

pub set_opt_shows : (S : State) (p tag : ℕ) (fd : Fd) (opt : SockOpt) (value : ℕ) →
    Shows S p tag (Request.SetOpt fd opt value) (set_opt S p fd opt value)
unfolding set_opt
set_opt_shows S p tag fd opt value = by_socket (Shows S p tag (Request.SetOpt fd opt value)) S p fd _ (λ e. refuses refl)
    (λ d s h there. change_shows S p tag d fd s opt opt value)
