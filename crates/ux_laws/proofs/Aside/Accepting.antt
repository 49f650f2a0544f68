-- Accepts agree: the end that waits first is on the listener's side.
use Rattle.std.proofs.Common.{◌≡◌, ℕ, true, List, [], ◌∷◌, drop, Option, Some, None, refl, ap, subst, slice_get}
use Rattle.std.specs.Prelude.{is_none}
use Rattle.std.specs.List.{AllByRecursion}
use Rattle.ux_model.specs.Types.{Fd, Addr, OpenFlags, Reply}
use Rattle.ux_model.specs.Object.{Body}
use Rattle.ux_model.specs.Message.{Message}
use Rattle.ux_model.specs.Socket.{Socket, Phase, idle, listening, connected, associated, is_dgram, pending_ends, peer_of, tied_socket}
use Rattle.ux_model.specs.Description.{Description, Target, to_object, to_socket, changed_target}
use Rattle.ux_model.specs.Process.{lowest_free, fd_of, descriptor}
use Rattle.ux_model.specs.State.{State, table_of, with_description_by}
use Rattle.ux_model.specs.Outcome.{Outcome}
use Rattle.ux_model.specs.Descriptors.{with_flags}
use Rattle.ux_model.specs.Connecting.{listener_of}
use Rattle.ux_model.specs.Accepting.{name_of_peer, client_name, as_accepted, accepted_with, phase_without_first_end}
use Rattle.ux_model.specs.Accepting.{without_first_end, accept_first, accept}
use Rattle.ux_laws.specs.Apartness.{Sides, SocketIsOn, TargetIsOn, shown_as}
use Rattle.ux_laws.proofs.Aside.Unseen.{each_of}
use Rattle.ux_laws.proofs.Aside.Rounds.{tied_peer}
use Rattle.ux_laws.proofs.Aside.Twins.{Twins, target_cases, socket_cases, socket_on, twins_socket, twins_by}
use Rattle.ux_laws.proofs.Aside.Agreeing.{Agrees, refused, remembered, both, maybe_both, socket_both, same_table}
use Rattle.ux_laws.proofs.Aside.Descriptors.{agree_filled}

-- the name of the client
name_alike : {sides : Sides} (S T : State) (e : ℕ) → Twins sides S T → sides.description e ≡ true → client_name T e ≡ client_name S e
name_alike {sides} S T e twins mine = socket_cases (λ x y. named T y ≡ named S x) S T e (twins.descriptions e mine) refl
    (λ s q here there same. by_peer s (socket_on sides S e s twins.left mine here) (peer_of s.phase) refl)
  where
    named : State → Option Socket → Addr
    named U x = elim x as (λ _. Addr) [ None ↦ Addr.Unnamed | Some s ↦ name_of_peer U (peer_of s.phase) ]

    by_peer : (s : Socket) → SocketIsOn sides true s → (x : Option ℕ) → peer_of s.phase ≡ x → name_of_peer T x ≡ name_of_peer S x
    by_peer s on None is = refl
    by_peer s on (Some peer) is = socket_cases (λ x y. present y ≡ present x) S T peer
        (twins.descriptions peer (on.tied peer (tied_peer s.phase peer is))) refl (λ u r here there same. refl)
      where
        present : Option Socket → Addr
        present x = elim x as (λ _. Addr) [ None ↦ Addr.Unnamed | Some s ↦ s.name ]

-- what a listener without its first end refers to
one_less : {sides : Sides} (s : Socket) → SocketIsOn sides true s → SocketIsOn sides true (without_first_end s)
one_less {sides} s on = record {
  tied = λ d is. on.tied d (ties s.phase d is);
  pending = ends s.phase on.pending;
  rights = on.rights;
}
  where
    ties : (x : Phase) (d : ℕ) → tied_socket (phase_without_first_end x) ≡ Some d → tied_socket x ≡ Some d
    ties idle d h = h
    ties (listening backlog cred) d h = absurd (cc h)
    ties (connected peer) d h = h
    ties (associated target) d h = h

    rest : (ns : List ℕ) → AllByRecursion (λ d. sides.description d ≡ true) ns → AllByRecursion (λ d. sides.description d ≡ true)
        (drop 1 ns)
    rest [] h = h
    rest (n ∷ []) h = tt
    rest (n ∷ m ∷ ns) h = h.1

    ends : (x : Phase) → AllByRecursion (λ d. sides.description d ≡ true) (pending_ends x) →
        AllByRecursion (λ d. sides.description d ≡ true) (pending_ends (phase_without_first_end x))
    ends idle h = h
    ends (listening backlog cred) h = rest backlog.pending h
    ends (connected peer) h = h
    ends (associated target) h = h

accepted_on : (sides : Sides) (t : Target) → TargetIsOn sides true t → TargetIsOn sides true (changed_target as_accepted t)
accepted_on sides (to_object o) on = on
accepted_on sides (to_socket s) on = record { tied = on.tied; pending = on.pending; rights = on.rights }

accepted_twins : {sides : Sides} (S T : State) (e : ℕ) (flags : OpenFlags) → Twins sides S T → sides.description e ≡ true →
    Twins sides (with_description_by S e (accepted_with flags)) (with_description_by T e (accepted_with flags))
accepted_twins {sides} S T e flags twins mine = twins_by S T e (accepted_with flags) (accepted_with flags) twins mine
    (λ D E here there shown. (
      accepted_on sides D.target (subst (λ b. TargetIsOn sides b D.target) mine (twins.left.descriptions e D here)),
      accepted_on sides E.target (subst (λ b. TargetIsOn sides b E.target) mine (twins.right.descriptions e E there)),
      target_cases Q S T D E shown
          (λ o is led body. ap (λ (b : Option Body). (with_flags flags (record D { target = to_object o }), b)) body)
          (λ s q is led same. ap (λ (ms : List Message).
          (with_flags flags (record D { target = to_socket (as_accepted (record s { queue = ms })) }), none_behind)) same),
    ))
  where
    Q : Description → Description → Type 0
    Q D E = shown_as T (accepted_with flags E) ≡ shown_as S (accepted_with flags D)

    none_behind : Option Body
    none_behind = None

pub accept_agrees : {sides : Sides} (S T : State) (p : ℕ) (fd : Fd) (flags : OpenFlags) → Twins sides S T → sides.process p ≡ true →
    Agrees sides (accept S p fd flags) (accept T p fd flags)
unfolding accept
accept_agrees {sides} S T p fd flags twins mine = socket_both Q sides S T p fd _ _ twins mine (λ e. refused twins)
    (λ d s q on here there same. both Q (is_dgram s.kind) _ _ _ _ _ refl (λ b. refused twins)
    (λ b. both Q (is_none (listener_of s.phase)) _ _ _ _ _ refl (λ c. refused twins)
    (λ c. maybe_both Q (lowest_free (table_of S p)) (lowest_free (table_of T p)) _ _ _ _ (ap lowest_free (same_table p twins mine))
    (refused twins)
    (λ n low. oldest d n on (slice_get (pending_ends s.phase) 0)
    (λ e first. each_of (λ d. sides.description d ≡ true) (pending_ends s.phase) 0 e
    (socket_on sides S d s twins.left on here).pending first)))))
  where
    Q : Outcome → Outcome → Type 0
    Q = Agrees sides

    oldest : (d n : ℕ) → sides.description d ≡ true → (x : Option ℕ) → ((e : ℕ) → x ≡ Some e → sides.description e ≡ true) →
        Q (accept_first S p n d flags x) (accept_first T p n d flags x)
    oldest d n on None theirs = refused twins
    oldest d n on (Some e) theirs = remembered _ _ (ap (Reply.Accepted (fd_of n)) (name_alike S T e twins (theirs e refl)))
        (accepted_twins _ _ e flags (twins_socket _ _ d without_first_end without_first_end
        (agree_filled S T p n (descriptor flags e) twins mine (theirs e refl)) on
        (λ u r one two here there alike. (
          one_less u one,
          one_less (record u { queue = r }) two,
          ap (λ (ms : List Message). without_first_end (record u { queue = ms })) alike,
        ))) (theirs e refl))
