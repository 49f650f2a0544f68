-- What a send comes to that is in order.
use Rattle.std.proofs.Common.{◌≡◌, ℕ, ◌+◌, ◌<◌, ◌≤◌, ◌==◌, Bool, true, false, not, ◌&&◌, if◌then◌else◌, List, [], length}
use Rattle.std.proofs.Common.{Option, Some, None, Result, Ok, Err, refl, ap, sym, ◌∙◌, arith}
use Rattle.std.specs.Prelude.{nat_lt}
use Rattle.std.proofs.lemmas.Bool.{lt-ltb, le-ltb, ltb-true, ltb-false}
use Rattle.ux_model.specs.Types.{Errno, Fd, Addr, MsgFlags}
use Rattle.ux_model.specs.Flags.{are_send_flags}
use Rattle.ux_model.specs.Message.{Message}
use Rattle.ux_model.specs.Control.{Control}
use Rattle.ux_model.specs.ControlReading.{control_in}
use Rattle.ux_model.specs.Socket.{Socket, is_stream}
use Rattle.ux_model.specs.Process.{Process}
use Rattle.ux_model.specs.State.{State, process_at, table_of}
use Rattle.ux_model.specs.Flight.{in_flight}
use Rattle.ux_model.specs.Outcome.{Outcome, refuse, find_socket}
use Rattle.ux_model.specs.Sending.{Sending, sending, message_of, flight_limit, is_over_limit, descriptions_behind, send_from}
use Rattle.ux_model.specs.Sending.{is_sendable_addr, sent_cred, send_as, send_with, send_read}
use Rattle.ux_model.specs.Sending.{reading_control, send_msg}
use Rattle.ux_laws.specs.MessageWaits.{IsInOrder}
use Rattle.ux_laws.proofs.Sends.{nothing_spelled}

-- ---- the limit of rights in flight

-- it is kept, by what a process may send
pub is_under : (S : State) (P : Process) (m : Message) → is_over_limit S (flight_limit P) m ≡ false → P.privileged ≡ false →
    0 < length m.rights → in_flight S m.uid + length m.rights ≤ length P.table
is_under S P m few plain some = ltb-false (length P.table) (in_flight S m.uid + length m.rights)
    (sym (ap (λ b. b && nat_lt (length P.table) (in_flight S m.uid + length m.rights)) (lt-ltb 0 (length m.rights) some))
    ∙ sym (ap (λ b. is_over_limit S (if b then None else Some (length P.table)) m) plain) ∙ few)

pub not_over : (S : State) (P : Process) (m : Message) →
    (P.privileged ≡ false → 0 < length m.rights → in_flight S m.uid + length m.rights ≤ length P.table) →
    is_over_limit S (flight_limit P) m ≡ false
not_over S P m few = by_kind P.privileged refl
  where
    by_count : P.privileged ≡ false → (b : Bool) → nat_lt 0 (length m.rights) ≡ b →
        (b && nat_lt (length P.table) (in_flight S m.uid + length m.rights)) ≡ false
    by_count plain true is = le-ltb (length P.table) (in_flight S m.uid + length m.rights) (few plain (ltb-true 0 (length m.rights) is))
    by_count plain false is = refl

    by_kind : (b : Bool) → P.privileged ≡ b → is_over_limit S (if b then None else Some (length P.table)) m ≡ false
    by_kind true is = refl
    by_kind false is = by_count is (nat_lt 0 (length m.rights)) refl

-- ---- a send

-- the message that goes out
abbrev pub message_in : {S : State} {p : ℕ} {s : Socket} {addr : Option Addr} {bytes control : List ℕ} {flags : MsgFlags} → ℕ →
    IsInOrder S p s addr bytes control flags → Message
message_in {S} {p} {s} {addr} {bytes} tag o =
    message_of (sending tag p o.process addr bytes) (sent_cred p o.process o.said.cred) o.rights

pub ordered_send : (S : State) (p tag d : ℕ) (fd : Fd) (addr : Option Addr) (bytes control : List ℕ) (flags : MsgFlags) (s : Socket) →
    find_socket S p fd ≡ Ok (d, s) → (o : IsInOrder S p s addr bytes control flags) →
    send_msg S p tag fd addr bytes control flags
    ≡ reading_control control (send_from S (flight_limit o.process) d s addr (message_in tag o))
unfolding send_msg send_read send_with
ordered_send S p tag d fd addr bytes control flags s found o =
    ap (λ (x : Option Process). elim x as (λ _. Outcome) [ None ↦ refuse S Errno.ESRCH | Some X ↦ by_number X (find_socket S p fd) ])
    o.caller
    ∙ ap (by_number o.process) found
    ∙ ap (λ b. if not b then refuse S Errno.EINVAL else reading_control control (send_read S offer d s (control_in control))) o.known
    ∙ ap (λ (c : Option Control). reading_control control (send_read S offer d s c)) o.spelled
    ∙ ap (λ b. reading_control control (if not b then refuse S Errno.EINVAL else
    by_rights (descriptions_behind (table_of S p) o.said.rights))) o.sendable
    ∙ ap (λ (x : Option (List ℕ)). reading_control control (by_rights x)) o.opened
    ∙ ap (λ (x : Option Errno). reading_control control (by_cred x)) o.may_tell
    ∙ ap (λ b. reading_control control (if not b then refuse S Errno.EINVAL else sent)) o.address
  where
    offer : Sending
    offer = sending tag p o.process addr bytes

    sent : Outcome
    sent = send_from S (flight_limit o.process) d s addr (message_in tag o)

    by_cred : Option Errno → Outcome
    by_cred x = elim x as (λ _. Outcome) [
      | Some e ↦ refuse S e
      | None ↦ if not (is_sendable_addr addr) then refuse S Errno.EINVAL else sent
    ]

    by_rights : Option (List ℕ) → Outcome
    by_rights x = elim x as (λ _. Outcome) [ None ↦ refuse S Errno.EBADF | Some rights ↦ send_as S offer d s o.said.cred rights ]

    by_number : Process → Result (ℕ × Socket) Errno → Outcome
    by_number X r = elim r as (λ _. Outcome) [
      | Err e ↦ refuse S e
      | Ok w ↦ if not (are_send_flags flags) then refuse S Errno.EINVAL
          else reading_control control (send_read S (sending tag p X addr bytes) w.0 w.1 (control_in control))
    ]

-- a plain send is in order
pub plain_order : (S : State) (p : ℕ) (s : Socket) (addr : Option Addr) (bytes : List ℕ) (flags : MsgFlags) (P : Process) →
    process_at S p ≡ Some P → are_send_flags flags ≡ true → is_sendable_addr addr ≡ true → IsInOrder S p s addr bytes [] flags
plain_order S p s addr bytes flags P here fine valid = record {
  known = fine;
  process = P;
  caller = here;
  said = record { cred = None; rights = [] };
  spelled = nothing_spelled;
  sendable = sendable (is_stream s.kind);
  rights = [];
  opened = refl;
  may_tell = refl;
  address = valid;
  few_in_flight = λ plain some. absurd (omega (arith, some));
}
  where
    sendable : (b : Bool) → (not false && not (b && (false && (length bytes == 0)))) ≡ true
    sendable true = refl
    sendable false = refl
