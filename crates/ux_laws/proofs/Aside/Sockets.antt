-- Calls on sockets that send and receive nothing agree, and so do those that only ask.
use Rattle.std.proofs.Common.{◌≡◌, ℕ, ◌==◌, Bool, true, false, not, if◌then◌else◌, List, [], ◌∷◌, map, length}
use Rattle.std.proofs.Common.{Option}
use Rattle.std.proofs.Common.{Some, None, Result, Ok, Err, refl, ap, sym, ◌∙◌, subst, arith}
use Rattle.std.specs.Prelude.{is_some, is_none, ℤ}
use Rattle.std.specs.List.{AllByRecursion}
use Rattle.std.proofs.lemmas.Bool.{false≢true}
use Rattle.std.proofs.lemmas.List.Sums.{sum_by-cons}
use Rattle.ux_model.specs.Types.{Errno, Fd, Cred, Addr, Mode, SockOpt, Reply}
use Rattle.ux_model.specs.Places.{place}
use Rattle.ux_model.specs.Object.{View, bytes_ahead}
use Rattle.ux_model.specs.Message.{Message, queued_bytes}
use Rattle.ux_model.specs.Backlog.{backlog_of}
use Rattle.ux_model.specs.Names.{is_unnamed_addr}
use Rattle.ux_model.specs.Socket.{Socket, is_stream, is_dgram, peer_of, tied_socket, pending_ends}
use Rattle.ux_model.specs.Socket.{Phase, shut_down, with_reset, with_passcred, with_queue_limit}
use Rattle.ux_model.specs.Description.{Description, to_object, to_socket, socket_of, socket_in}
use Rattle.ux_model.specs.Process.{Process, Descriptor, own_cred}
use Rattle.ux_model.specs.State.{State, process_at, with_socket_by}
use Rattle.ux_model.specs.Outcome.{Outcome, refuse, answer}
use Rattle.ux_model.specs.QueueLengths.{next_length, waiting_bytes, socket_in_queue, object_in_queue, in_queue, unreceived, sent_bytes}
use Rattle.ux_model.specs.QueueLengths.{socket_out_queue, out_queue}
use Rattle.ux_model.specs.Binding.{get_sock_name}
use Rattle.ux_model.specs.Connecting.{listener_of, with_listening, listen, name_at, peer_name, get_peer_name, shutdown}
use Rattle.ux_model.specs.Options.{tell_cred, tell_option, get_opt, change_option, may_limit, set_opt}
use Rattle.ux_laws.specs.Apartness.{Sides, SocketIsOn, untold, untold_in, may_set}
use Rattle.ux_laws.proofs.Aside.Rounds.{tied_peer}
use Rattle.ux_laws.proofs.Aside.Twins.{Twins, target_cases, socket_cases, object_cases, socket_on, twins_socket}
use Rattle.ux_laws.proofs.Aside.Agreeing.{Agrees, refused, answered, remembered, both, maybe_both, found_both, socket_both}

-- ---- queues, but for who sent

pub by_untold : {X : Type 0} (f : List Message → X) → ((ms : List Message) → f (map untold ms) ≡ f ms) → (q r : List Message) →
    map untold q ≡ map untold r → f q ≡ f r
by_untold f same q r alike = sym (same q) ∙ ap f alike ∙ same r

pub same_bytes : (ms : List Message) → queued_bytes (map untold ms) ≡ queued_bytes ms
same_bytes [] = refl
same_bytes (m ∷ ms) =
    let new = sum_by-cons (λ (m : Message). length m.bytes) (untold m) (map untold ms) in
    let old = sum_by-cons (λ (m : Message). length m.bytes) m ms in
    let rest = same_bytes ms in
    omega (arith, new, old, rest)

same_next : (ms : List Message) → next_length (map untold ms) ≡ next_length ms
same_next [] = refl
same_next (m ∷ ms) = refl

-- ---- sockets that change, but not in what they refer to

on_alike : {sides : Sides} {side : Bool} (s t : Socket) → t.phase ≡ s.phase → t.queue ≡ s.queue → SocketIsOn sides side s →
    SocketIsOn sides side t
on_alike {sides} {side} s t phase queue on = record {
  tied = λ d is. on.tied d (ap tied_socket (sym phase) ∙ is);
  pending = subst (λ (x : Phase). AllByRecursion (λ d. sides.description d ≡ side) (pending_ends x)) (sym phase) on.pending;
  rights = subst (λ (q : List Message). AllByRecursion (λ (m : Message). AllByRecursion (λ d. sides.description d ≡ side) m.rights) q)
      (sym queue) on.rights;
}

pub calm_twins : {sides : Sides} (S T : State) (d : ℕ) (f : Socket → Socket) → Twins sides S T → sides.description d ≡ true →
    ((s : Socket) → (f s).phase ≡ s.phase) → ((s : Socket) → (f s).queue ≡ s.queue) →
    ((s : Socket) → untold_in (f s) ≡ f (untold_in s)) → Twins sides (with_socket_by S d f) (with_socket_by T d f)
calm_twins S T d f twins mine phase queue plain = twins_socket S T d f f twins mine
    (λ s q on on_too here there same. (
      on_alike s (f s) (phase s) (queue s) on,
      on_alike (record s { queue = q }) (f (record s { queue = q })) (phase (record s { queue = q })) (queue
          (record s { queue = q })) on_too,
      plain (record s { queue = q }) ∙ ap (λ (ms : List Message). f (record s { queue = ms })) same ∙ sym (plain s),
    ))

-- ---- how much waits

abbrev pub on_view : State → (View → Outcome) → Option View → Outcome
on_view S rest x = elim x [ None ↦ refuse S Errno.EBADF | Some view ↦ rest view ]

pub in_queue_agrees : {sides : Sides} (S T : State) (p : ℕ) (fd : Fd) → Twins sides S T → sides.process p ≡ true →
    Agrees sides (in_queue S p fd) (in_queue T p fd)
unfolding in_queue
in_queue_agrees {sides} S T p fd twins mine = found_both Q sides S T p fd _ _ twins mine (refused twins)
    (λ e D E on g here there shown. target_cases (λ (D E : Description). Q (at S e D) (at T e E)) S T D E shown
    (λ o is led body. object_cases (λ x y. Q (on_view S (told S D) x) (on_view T (told T D) y)) S T o body (refused twins)
    (λ view opened faults held held_too. told_both D view))
    (λ s q is led same. both Q (is_some (listener_of s.phase)) _ _ _ _ _ refl (λ b. refused twins)
    (λ b. answered _ _ (ap Reply.Count (waiting s q same)) twins)))
  where
    Q : Outcome → Outcome → Type 0
    Q = Agrees sides

    told : State → Description → View → Outcome
    told U D view = object_in_queue U (bytes_ahead view.body D.offset)

    at : State → Descriptor → Description → Outcome
    at U e D = elim D.target as (λ _. Outcome) [
      | to_object o ↦ on_view U (told U D) (place U.objects o)
      | to_socket s ↦ socket_in_queue U s
    ]

    told_both : (D : Description) (view : View) → Q (told S D view) (told T D view)
    told_both D view = go (bytes_ahead view.body D.offset)
      where
        go : (x : Option ℕ) → Q (object_in_queue S x) (object_in_queue T x)
        go None = refused twins
        go (Some n) = answered _ _ refl twins

    waiting : (s : Socket) (q : List Message) → map untold q ≡ map untold s.queue → waiting_bytes (record s { queue = q }) ≡ waiting_bytes s
    waiting s q same = ap (λ n. if is_dgram s.kind then n else queued_bytes q) (by_untold next_length same_next q s.queue same)
        ∙ ap (λ n. if is_dgram s.kind then next_length s.queue else n) (by_untold queued_bytes same_bytes q s.queue same)

pub out_queue_agrees : {sides : Sides} (S T : State) (p : ℕ) (fd : Fd) → Twins sides S T → sides.process p ≡ true →
    Agrees sides (out_queue S p fd) (out_queue T p fd)
unfolding out_queue
out_queue_agrees {sides} S T p fd twins mine = found_both Q sides S T p fd _ _ twins mine (refused twins)
    (λ e D E on g here there shown. target_cases (λ (D E : Description). Q (at S e D) (at T e E)) S T D E shown
    (λ o is led body. refused twins)
    (λ s q is led same. both Q (is_dgram s.kind) _ _ _ _ _ refl (λ b. refused twins)
    (λ b. answered _ _ (ap Reply.Count (sent s (socket_on sides S e.description s twins.left on (ap socket_in here ∙ ap socket_of is))
    (peer_of s.phase) refl)) twins)))
  where
    Q : Outcome → Outcome → Type 0
    Q = Agrees sides

    at : State → Descriptor → Description → Outcome
    at U e D = elim D.target as (λ _. Outcome) [ to_object o ↦ refuse U Errno.ENOTTY | to_socket s ↦ socket_out_queue U s ]

    sent : (s : Socket) → SocketIsOn sides true s → (x : Option ℕ) → peer_of s.phase ≡ x → sent_bytes T x ≡ sent_bytes S x
    sent s on None is = refl
    sent s on (Some peer) is = socket_cases (λ x y. unreceived y ≡ unreceived x) S T peer
        (twins.descriptions peer (on.tied peer (tied_peer s.phase peer is))) refl
        (λ u q here there same. by_untold queued_bytes same_bytes q u.queue same)

-- ---- names

pub sock_name_agrees : {sides : Sides} (S T : State) (p : ℕ) (fd : Fd) → Twins sides S T → sides.process p ≡ true →
    Agrees sides (get_sock_name S p fd) (get_sock_name T p fd)
unfolding get_sock_name
sock_name_agrees {sides} S T p fd twins mine = socket_both (Agrees sides) sides S T p fd _ _ twins mine (λ e. refused twins)
    (λ d s q on here there same. remembered _ _ refl twins)

pub peer_name_agrees : {sides : Sides} (S T : State) (p : ℕ) (fd : Fd) → Twins sides S T → sides.process p ≡ true →
    Agrees sides (get_peer_name S p fd) (get_peer_name T p fd)
unfolding get_peer_name
peer_name_agrees {sides} S T p fd twins mine = socket_both Q sides S T p fd _ _ twins mine (λ e. refused twins)
    (λ d s q on here there same. subst (λ (r : Result Addr Errno). Q (told S (peer_name S s.phase)) (told T r))
    (sym (named s (socket_on sides S d s twins.left on here) (tied_socket s.phase) refl)) (told_both (peer_name S s.phase)))
  where
    Q : Outcome → Outcome → Type 0
    Q = Agrees sides

    told : State → Result Addr Errno → Outcome
    told U r = elim r as (λ _. Outcome) [ Err e ↦ refuse U e | Ok name ↦ record (answer (Reply.Addr name) U) { may_lack_memory = true } ]

    told_both : (r : Result Addr Errno) → Q (told S r) (told T r)
    told_both (Err e) = refused twins
    told_both (Ok name) = remembered _ _ refl twins

    by_tied : State → Option ℕ → Result Addr Errno
    by_tied U x = elim x as (λ _. Result Addr Errno) [ None ↦ Err Errno.ENOTCONN | Some peer ↦ name_at U peer ]

    named : (s : Socket) → SocketIsOn sides true s → (x : Option ℕ) → tied_socket s.phase ≡ x → by_tied T x ≡ by_tied S x
    named s on None is = refl
    named s on (Some peer) is = socket_cases (λ x y. name_of y ≡ name_of x) S T peer (twins.descriptions peer (on.tied peer is)) refl
        (λ u q here there same. refl)
      where
        name_of : Option Socket → Result Addr Errno
        name_of x = elim x as (λ _. Result Addr Errno) [ None ↦ Err Errno.ENOTCONN | Some s ↦ Ok s.name ]

-- ---- changes of a socket

pub shutdown_agrees : {sides : Sides} (S T : State) (p : ℕ) (fd : Fd) (how : Mode) → Twins sides S T → sides.process p ≡ true →
    Agrees sides (shutdown S p fd how) (shutdown T p fd how)
unfolding shutdown
shutdown_agrees {sides} S T p fd how twins mine = socket_both (Agrees sides) sides S T p fd _ _ twins mine (λ e. refused twins)
    (λ d s q on here there same. both (Agrees sides) (is_none (tied_socket s.phase)) _ _ _ _ _ refl (λ b. refused twins)
    (λ b. answered _ _ refl (calm_twins S T d (shut_down how) twins on (λ s. refl) (λ s. refl) (λ s. refl))))

pub get_opt_agrees : {sides : Sides} (S T : State) (p : ℕ) (fd : Fd) (opt : SockOpt) → Twins sides S T → sides.process p ≡ true →
    Agrees sides (get_opt S p fd opt) (get_opt T p fd opt)
unfolding get_opt
get_opt_agrees {sides} S T p fd opt twins mine = socket_both Q sides S T p fd _ _ twins mine (λ e. refused twins)
    (λ d s q on here there same. by_option d s q on opt)
  where
    Q : Outcome → Outcome → Type 0
    Q = Agrees sides

    by_cred : (cred : Option Cred) → Q (tell_cred S cred) (tell_cred T cred)
    by_cred None = refused twins
    by_cred (Some c) = answered _ _ refl twins

    by_option : (d : ℕ) (s : Socket) (q : List Message) → sides.description d ≡ true → (o : SockOpt) →
        Q (tell_option S d s o) (tell_option T d (record s { queue = q }) o)
    by_option d s q on SockOpt.PeerCred = by_cred s.peer_cred
    by_option d s q on SockOpt.QueueLimit = both Q (is_stream s.kind) _ _ _ _ _ refl (λ b. answered _ _ refl twins) (λ b. refused twins)
    by_option d s q on SockOpt.Kind = answered _ _ refl twins
    by_option d s q on SockOpt.Error = answered _ _ refl
        (calm_twins S T d (with_reset false) twins on (λ s. refl) (λ s. refl) (λ s. refl))
    by_option d s q on SockOpt.PassCred = answered _ _ refl twins
    by_option d s q on SockOpt.AcceptConn = answered _ _ refl twins

-- but for SO_PASSCRED turned on, which may bind a name
pub set_opt_agrees : {sides : Sides} (S T : State) (p : ℕ) (fd : Fd) (opt : SockOpt) (value : ℕ) → Twins sides S T →
    sides.process p ≡ true → may_set opt value ≡ true → Agrees sides (set_opt S p fd opt value) (set_opt T p fd opt value)
unfolding set_opt
set_opt_agrees {sides} S T p fd opt value twins mine may = socket_both Q sides S T p fd _ _ twins mine (λ e. refused twins)
    (λ d s q on here there same. by_option d s q on opt may)
  where
    Q : Outcome → Outcome → Type 0
    Q = Agrees sides

    by_option : (d : ℕ) (s : Socket) (q : List Message) → sides.description d ≡ true → (o : SockOpt) → may_set o value ≡ true →
        Q (change_option S d s value o) (change_option T d (record s { queue = q }) value o)
    by_option d s q on SockOpt.Kind h = refused twins
    by_option d s q on SockOpt.Error h = refused twins
    by_option d s q on SockOpt.PassCred h = both Q (value == 0) _ _ _ _ _ refl
        (λ b. answered _ _ refl (calm_twins S T d (with_passcred false) twins on (λ s. refl) (λ s. refl) (λ s. refl)))
        (λ b. absurd (false≢true (sym b ∙ h)))
    by_option d s q on SockOpt.PeerCred h = refused twins
    by_option d s q on SockOpt.AcceptConn h = refused twins
    by_option d s q on SockOpt.QueueLimit h = both Q (not (is_stream s.kind)) _ _ _ _ _ refl (λ b. refused twins)
        (λ b. both Q (not (may_limit value)) _ _ _ _ _ refl (λ c. refused twins)
        (λ c. answered _ _ refl (calm_twins S T d (with_queue_limit value) twins on (λ s. refl) (λ s. refl) (λ s. refl))))

pub listen_agrees : {sides : Sides} (S T : State) (p : ℕ) (fd : Fd) (backlog : ℤ) → Twins sides S T → sides.process p ≡ true →
    Agrees sides (listen S p fd backlog) (listen T p fd backlog)
unfolding listen
listen_agrees {sides} S T p fd backlog twins mine =
    maybe_both Q (process_at S p) (process_at T p) _ _ _ _ (twins.processes p mine) (refused twins)
    (λ P at. socket_both Q sides S T p fd _ _ twins mine (λ e. refused twins)
    (λ d s q on here there same. both Q (is_dgram s.kind) _ _ _ _ _ refl (λ b. refused twins)
    (λ b. both Q (is_some (peer_of s.phase)) _ _ _ _ _ refl (λ c. refused twins)
    (λ c. both Q (is_unnamed_addr s.name) _ _ _ _ _ refl (λ f. refused twins)
    (λ f. answered _ _ refl (twins_socket S T d (listens P) (listens P) twins on
    (λ s q on on_too here there same. (
      record { tied = λ e is. absurd (cc is); pending = on.pending; rights = on.rights },
      record { tied = λ e is. absurd (cc is); pending = on_too.pending; rights = on_too.rights },
      ap (λ (ms : List Message). listens P (record s { queue = ms })) same,
    ))))))))
  where
    Q : Outcome → Outcome → Type 0
    Q = Agrees sides

    listens : Process → Socket → Socket
    listens P s = with_listening (backlog_of backlog) (own_cred p P) s
