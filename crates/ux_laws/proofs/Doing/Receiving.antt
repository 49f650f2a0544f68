-- What a receive does.
use Rattle.std.proofs.Common.{◌≡◌, ℕ, Bool, true, false, not, if◌then◌else◌, List, ◌∷◌}
use Rattle.std.proofs.Common.{Option, Some, refl, ap}
use Rattle.ux_model.specs.Types.{Fd, MsgFlags, Request, Reply}
use Rattle.ux_model.specs.Places.{changed_place}
use Rattle.ux_model.specs.Flags.{asks_peek, are_receive_flags}
use Rattle.ux_model.specs.Message.{Message}
use Rattle.ux_model.specs.Front.{front_of}
use Rattle.ux_model.specs.Socket.{Socket}
use Rattle.ux_model.specs.Socket.{with_reset, with_queue}
use Rattle.ux_model.specs.Description.{Description, changed}
use Rattle.ux_model.specs.Process.{Descriptor}
use Rattle.ux_model.specs.State.{State, socket_at}
use Rattle.ux_model.specs.State.{with_socket_by, with_table}
use Rattle.ux_model.specs.Outcome.{Outcome}
use Rattle.ux_model.specs.Receiving.{Incoming, incoming, receive_front, recv_msg}
use Rattle.ux_model.proofs.Changes.Walk.{either}
use Rattle.ux_model.proofs.Tables.Shows.{by_socket}
use Rattle.ux_model.proofs.Tables.MessageShows.{by_receive}
use Rattle.ux_model.proofs.Steps.NameCalls.{same_descriptions}
use Rattle.ux_laws.specs.Talking.{is_peek, taken_count, given_bytes, socket_through}
use Rattle.ux_laws.proofs.Parts.{kept_same, kept_table, kept_socket}
use Rattle.ux_laws.proofs.Parts.{kept_shrinks}
use Rattle.ux_laws.specs.Records.{is_count, is_given}
use Rattle.ux_laws.proofs.Acts.{Did, quiet}
use Rattle.ux_laws.proofs.Acts.{took}
use Rattle.ux_laws.proofs.Doing.Outcomes.{refuses, answers, through_is, empty_handed, peeked}

-- the front of a queue is taken, or looked at
pub taking_did : (S : State) (p tag d n : ℕ) (request : Request) (reply : Reply) (s : Socket) (m : Message) (ms : List Message)
    (peek : Bool) (table : List (Option Descriptor)) →
    socket_through S p request ≡ Some (d, s) → socket_at S d ≡ Some s → s.queue ≡ m ∷ ms → is_peek request ≡ peek →
    given_bytes reply ≡ (front_of n s m ms).bytes → is_given reply ≡ true →
    taken_count reply ≡ 0 → is_count reply ≡ false →
    Did S p tag request reply (if peek then with_table S p table
    else with_socket_by (with_table S p table) d (with_queue (front_of n s m ms).rest))
taking_did S p tag d n request reply s m ms true table through there q peek bytes gives count counts =
    quiet (kept_shrinks (kept_table S p table)) (peeked peek count counts)
taking_did S p tag d n request reply s m ms false table through there q peek bytes gives count counts =
    took d n s m ms (record { through = through; there = there; waiting = q; takes = peek; given = bytes; gives = gives })
    (kept_shrinks (kept_same _ _ (ap (λ (ds : List (Option Description)). changed_place ds d
    (changed (with_queue (front_of n s m ms).rest))) (same_descriptions S p table))))

front_did : (S : State) (p tag d : ℕ) (request : Request) (s : Socket) (asked : Incoming) (m : Message) (ms : List Message) →
    socket_through S p request ≡ Some (d, s) → socket_at S d ≡ Some s → s.queue ≡ m ∷ ms →
    is_peek request ≡ asks_peek asked.flags →
    Did S p tag request (receive_front S p d s asked (front_of asked.n s m ms)).reply
    (receive_front S p d s asked (front_of asked.n s m ms)).next
unfolding receive_front
front_did S p tag d request s asked m ms through there q peek =
    taking_did S p tag d asked.n request _ s m ms (asks_peek asked.flags) _ through there q peek refl refl refl refl

pub recv_did : (S : State) (p tag : ℕ) (fd : Fd) (n space : ℕ) (flags : MsgFlags) →
    Did S p tag (Request.RecvMsg fd n space flags) (recv_msg S p fd n space flags).reply (recv_msg S p fd n space flags).next
unfolding recv_msg
recv_did S p tag fd n space flags = by_socket Q S p fd _ (λ e. refuses)
    (λ d s h there. either Q (not (are_receive_flags flags)) _ _ (λ b. refuses)
    (λ b. by_receive Q S p d s (incoming n space flags) (λ e. refuses) (answers refl (kept_socket S d (with_reset false) (λ s. refl)))
    (λ none. quiet (kept_shrinks (kept_same S S refl))
    (empty_handed d n s (through_is S p d fd s (Request.RecvMsg fd n space flags) refl h) there none refl refl refl))
    (λ m ms q. front_did S p tag d (Request.RecvMsg fd n space flags) s (incoming n space flags) m ms
    (through_is S p d fd s (Request.RecvMsg fd n space flags) refl h) there q refl)))
  where
    Q : Outcome → Type 0
    Q o = Did S p tag (Request.RecvMsg fd n space flags) o.reply o.next
