-- Sends that give no address and no control buffer agree.
use Rattle.std.proofs.Common.{◌≡◌, ℕ, ◌-◌, ◌==◌, true, false, not, ◌&&◌, ◌||◌, if◌then◌else◌, List, [], ◌∷◌, ◌++◌, map, length, take}
use Rattle.std.proofs.Common.{Option}
use Rattle.std.proofs.Common.{Some, None, refl, ap, sym, ◌∙◌, subst}
use Rattle.std.specs.Prelude.{nat_lt}
use Rattle.std.specs.List.{AllByRecursion}
use Rattle.ux_model.specs.Types.{Errno, Fd, Cred, Addr, MsgFlags, Reply}
use Rattle.ux_model.specs.Limits.{record_bytes_limit}
use Rattle.ux_model.specs.Flags.{are_send_flags}
use Rattle.ux_model.specs.Message.{Message, message, queued_bytes}
use Rattle.ux_model.specs.Socket.{Socket, Phase, idle, listening, connected, associated, is_stream, is_dgram, peer_of, tied_socket}
use Rattle.ux_model.specs.Socket.{association_of, takes_from, has_room, stream_room, sent_part, sent, pending_ends}
use Rattle.ux_model.specs.Socket.{phase_with_association, with_association}
use Rattle.ux_model.specs.Process.{own_cred}
use Rattle.ux_model.specs.State.{State, socket_at, process_at, with_socket_by}
use Rattle.ux_model.specs.Outcome.{Outcome, refuse, answer}
use Rattle.ux_model.specs.ControlReading.{with_items, control_in}
use Rattle.ux_model.specs.Sending.{flight_limit, is_over_limit, enqueue, is_too_long, send_connected}
use Rattle.ux_model.specs.Sending.{send_from, is_sendable_control, send_with, send_read, send_msg}
use Rattle.ux_model.proofs.Messages.Datagrams.{send_to_target, send_by_association}
use Rattle.ux_laws.specs.Apartness.{Sides, SocketIsOn, untold, untold_in}
use Rattle.ux_laws.proofs.Aside.Rounds.{tied_peer}
use Rattle.ux_laws.proofs.Aside.Twins.{Twins, socket_cases, socket_on, twins_socket}
use Rattle.ux_laws.proofs.Aside.Agreeing.{Agrees, refused, answered, remembered, both, maybe_both, socket_both}
use Rattle.ux_laws.proofs.Aside.Sockets.{by_untold, same_bytes}
use Rattle.ux_laws.proofs.Aside.Readiness.{room_alike, tied_target}

-- a message without rights, by the number of the call that sends it
abbrev plain : ℕ → List ℕ → Cred → ℕ → Option Addr → Message
plain tag bytes cred uid from = message tag bytes [] cred uid from

pushed_untold : (ms : List Message) (m : Message) → map untold (ms ++ m ∷ []) ≡ map untold ms ++ untold m ∷ []
pushed_untold [] m = refl
pushed_untold (x ∷ ms) m = ap (λ l. untold x ∷ l) (pushed_untold ms m)

pushed_on : (sides : Sides) (ms : List Message) (m : Message) →
    AllByRecursion (λ (k : Message). AllByRecursion (λ d. sides.description d ≡ true) k.rights) ms → m.rights ≡ [] →
    AllByRecursion (λ (k : Message). AllByRecursion (λ d. sides.description d ≡ true) k.rights) (ms ++ m ∷ [])
pushed_on sides [] m on none = (subst (AllByRecursion (λ d. sides.description d ≡ true)) (sym none) tt, tt)
pushed_on sides (x ∷ ms) m on none = (on.0, pushed_on sides ms m on.1 none)

stream_room_alike : (s : Socket) (q : List Message) → map untold q ≡ map untold s.queue → stream_room
    (record s { queue = q }) ≡ stream_room s
stream_room_alike s q same = ap (λ n. s.queue_limit - n) (by_untold queued_bytes same_bytes q s.queue same)

never_over : (S : State) (limit : Option ℕ) (tag : ℕ) (bytes : List ℕ) (cred : Cred) (uid : ℕ) (from : Option Addr) →
    is_over_limit S limit (plain tag bytes cred uid from) ≡ false
never_over S None tag bytes cred uid from = refl
never_over S (Some limit) tag bytes cred uid from = refl

-- ---- into a queue

enqueue_agrees : {sides : Sides} (S T : State) (limit : Option ℕ) (t tag other : ℕ) (s : Socket) (q : List Message) (bytes : List ℕ)
    (cred : Cred) (uid : ℕ) (from : Option Addr) → Twins sides S T → sides.description t ≡ true → map untold q ≡ map untold s.queue →
    Agrees sides (enqueue S limit t s (plain tag bytes cred uid from))
    (enqueue T limit t (record s { queue = q }) (plain other bytes cred uid from))
enqueue_agrees {sides} S T limit t tag other s q bytes cred uid from twins on same =
    both Q (is_stream s.kind && (length bytes == 0)) _ _ _ _ _ refl (λ b. answered _ _ refl twins)
    (λ b. both Q (is_over_limit S limit m) (is_over_limit T limit k) _ _ _ _
    (never_over T limit other bytes cred uid from ∙ sym (never_over S limit tag bytes cred uid from)) (λ c. refused twins)
    (λ c. both Q (not (has_room s)) (not (has_room (record s { queue = q }))) _ _ _ _ (ap not (room_alike s q same)) (λ e. refused twins)
    (λ e. remembered _ _ (ap (λ n. Reply.Count (length (if is_stream s.kind then take n bytes else bytes))) (stream_room_alike s q same))
    (twins_socket S T t (sent m) (sent k) twins on
    (λ u r one two here there alike. (
      record { tied = one.tied; pending = one.pending; rights = pushed_on sides u.queue (sent_part u m) one.rights refl },
      record { tied = two.tied; pending = two.pending; rights = pushed_on sides r (sent_part (record u { queue = r }) k) two.rights refl },
      queued_alike u r alike,
    ))))))
  where
    Q : Outcome → Outcome → Type 0
    Q = Agrees sides

    m : Message
    m = message tag bytes [] cred uid from

    k : Message
    k = message other bytes [] cred uid from

    queued_alike : (u : Socket) (r : List Message) → map untold r ≡ map untold u.queue →
        untold_in (sent (message other bytes [] cred uid from) (record u { queue = r })) ≡ untold_in (sent
        (message tag bytes [] cred uid from) u)
    queued_alike u r alike =
        ap (λ (l : List Message). record u { queue = l }) (pushed_untold r (sent_part (record u { queue = r }) k)
        ∙ ap (λ (l : List Message). l ++ untold (sent_part (record u { queue = r }) k) ∷ []) alike
        ∙ ap (λ n. map untold u.queue ++ message 0 (if is_stream u.kind then take n bytes else bytes) [] cred uid
        (if is_stream u.kind then None else from) ∷ []) (stream_room_alike u r alike)
        ∙ sym (pushed_untold u.queue (sent_part u m)))

-- ---- where it goes

to_target_agrees : {sides : Sides} (S T : State) (limit : Option ℕ) (d t tag other : ℕ) (s : Socket) (q : List Message) (bytes : List ℕ)
    (cred : Cred) (uid : ℕ) (from : Option Addr) → Twins sides S T → sides.description t ≡ true → map untold q ≡ map untold s.queue →
    Agrees sides (send_to_target S limit d t s (plain tag bytes cred uid from))
    (send_to_target T limit d t (record s { queue = q }) (plain other bytes cred uid from))
to_target_agrees {sides} S T limit d t tag other s q bytes cred uid from twins on same =
    both (Agrees sides) (not (takes_from d s.phase)) _ _ _ _ _ refl (λ b. refused twins)
    (λ b. both (Agrees sides) s.read_shut _ _ _ _ _ refl (λ c. refused twins)
    (λ c. enqueue_agrees S T limit t tag other s q bytes cred uid from twins on same))

-- an association that is over
unassociated : {sides : Sides} (s : Socket) → SocketIsOn sides true s → SocketIsOn sides true (with_association None s)
unassociated {sides} s on = record {
  tied = λ d is. go s.phase on.tied d is;
  pending = ends s.phase on.pending;
  rights = on.rights;
}
  where
    go : (x : Phase) → ((d : ℕ) → tied_socket x ≡ Some d → sides.description d ≡ true) → (d : ℕ) →
        tied_socket (phase_with_association None x) ≡ Some d → sides.description d ≡ true
    go idle h d is = absurd (cc is)
    go (listening backlog cred) h d is = absurd (cc is)
    go (connected peer) h d is = h d is
    go (associated target) h d is = absurd (cc is)

    ends : (x : Phase) → AllByRecursion (λ d. sides.description d ≡ true) (pending_ends x) →
        AllByRecursion (λ d. sides.description d ≡ true) (pending_ends (phase_with_association None x))
    ends idle h = tt
    ends (listening backlog cred) h = h
    ends (connected peer) h = tt
    ends (associated target) h = tt

pub from_agrees : {sides : Sides} (S T : State) (limit : Option ℕ) (d tag other : ℕ) (s : Socket) (q : List Message) (bytes : List ℕ)
    (cred : Cred) (uid : ℕ) → Twins sides S T → sides.description d ≡ true → socket_at S d ≡ Some s →
    Agrees sides (send_from S limit d s None (plain tag bytes cred uid None))
    (send_from T limit d (record s { queue = q }) None (plain other bytes cred uid None))
from_agrees {sides} S T limit d tag other s q bytes cred uid twins on here = both Q (is_dgram s.kind) _ _ _ _ _ refl
    (λ b. both Q (nat_lt record_bytes_limit (length bytes)) _ _ _ _ _ refl (λ c. refused twins)
    (λ c. both Q s.write_shut _ _ _ _ _ refl (λ e. refused twins) (λ e. by_association (association_of s.phase) refl)))
    (λ b. to_peer (peer_of s.phase) refl)
  where
    Q : Outcome → Outcome → Type 0
    Q = Agrees sides

    left : SocketIsOn sides true s
    left = socket_on sides S d s twins.left on here

    m : Option Addr → Message
    m from = message tag bytes [] cred uid from

    k : Option Addr → Message
    k from = message other bytes [] cred uid from

    by_association : (x : Option ℕ) → association_of s.phase ≡ x →
        Q (send_by_association S limit d x (m (Some s.name))) (send_by_association T limit d x (k (Some s.name)))
    by_association None is = refused twins
    by_association (Some t) is = socket_cases (λ x y. Q (to S x (m (Some s.name))) (to T y (k (Some s.name)))) S T t
        (twins.descriptions t mine)
        (answered _ _ refl (twins_socket S T d (with_association None) (with_association None) twins on
        (λ u r one two at at_too alike. (
          unassociated u one,
          unassociated (record u { queue = r }) two,
          ap (λ (ms : List Message). with_association None (record u { queue = ms })) alike,
        ))))
        (λ u r at at_too alike. to_target_agrees S T limit d t tag other u r bytes cred uid (Some s.name) twins mine alike)
      where
        mine : sides.description t ≡ true
        mine = left.tied t (tied_target s.phase t is)

        to : State → Option Socket → Message → Outcome
        to U x message = elim x as (λ _. Outcome) [
          | None ↦ answer (Reply.Err Errno.ECONNREFUSED) (with_socket_by U d (with_association None))
          | Some target ↦ send_to_target U limit d t target message
        ]

    to_peer : (x : Option ℕ) → peer_of s.phase ≡ x →
        Q (send_connected S limit s.write_shut x (m None)) (send_connected T limit s.write_shut x (k None))
    to_peer None is = refused twins
    to_peer (Some t) is = socket_cases (λ x y. Q (to S x (m None)) (to T y (k None))) S T t (twins.descriptions t mine) (refused twins)
        (λ u r at at_too alike. both Q (s.write_shut || u.read_shut) _ _ _ _ _ refl (λ b. refused twins)
        (λ b. both Q (is_too_long u (m None)) _ _ _ _ _ refl (λ c. refused twins)
        (λ c. enqueue_agrees S T limit t tag other u r bytes cred uid None twins mine alike)))
      where
        mine : sides.description t ≡ true
        mine = left.tied t (tied_peer s.phase t is)

        to : State → Option Socket → Message → Outcome
        to U x message = elim x as (λ _. Outcome) [
          | None ↦ refuse U Errno.EPIPE
          | Some target ↦ if s.write_shut || target.read_shut then refuse U Errno.EPIPE else
              (if is_too_long target message then refuse U Errno.EMSGSIZE else enqueue U limit t target message)
        ]

pub send_agrees : {sides : Sides} (S T : State) (p tag other : ℕ) (fd : Fd) (bytes : List ℕ) (flags : MsgFlags) → Twins sides S T →
    sides.process p ≡ true → Agrees sides (send_msg S p tag fd None bytes [] flags) (send_msg T p other fd None bytes [] flags)
unfolding send_msg send_read send_with control_in with_items
send_agrees {sides} S T p tag other fd bytes flags twins mine =
    maybe_both Q (process_at S p) (process_at T p) _ _ _ _ (twins.processes p mine) (refused twins)
    (λ P at. socket_both Q sides S T p fd _ _ twins mine (λ e. refused twins)
    (λ d s q on here there same. both Q (not (are_send_flags flags)) _ _ _ _ _ refl (λ b. refused twins)
    (λ b. remembering _ _ (both Q (not (is_sendable_control s.kind bytes (record { cred = None; rights = [] }))) _ _ _ _ _ refl
    (λ c. refused twins)
    (λ c. from_agrees S T (flight_limit P) d tag other s q bytes (own_cred p P) P.uid twins on here)))))
  where
    Q : Outcome → Outcome → Type 0
    Q = Agrees sides

    -- whether memory may lack is no part of it
    remembering : (o q : Outcome) → Q o q → Q (record o { may_lack_memory = o.may_lack_memory })
        (record q { may_lack_memory = q.may_lack_memory })
    remembering o q a = record { reply = a.reply; next = a.next; failure = a.failure }
