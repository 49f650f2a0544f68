-- What a descriptor leads to is near its process.
use Rattle.std.proofs.Common.{◌≡◌, ℕ}
use Rattle.std.proofs.Common.{Option, Some, None, Result, Ok, Err, refl, ap, ◌∙◌}
use Rattle.ux_model.specs.Types.{Errno, Fd, Request}
use Rattle.ux_model.specs.Socket.{Socket}
use Rattle.ux_model.specs.Description.{Description, socket_of}
use Rattle.ux_model.specs.Process.{Descriptor}
use Rattle.ux_model.specs.State.{State, description_at, socket_at}
use Rattle.ux_model.specs.Outcome.{Outcome, refuse, descriptor_at, find_socket}
use Rattle.ux_model.specs.Giving.{description_in, description_of}
use Rattle.ux_model.proofs.Tables.Shows.{socket_found}
use Rattle.ux_laws.specs.Reach.{IsInReach, held}

pub by_fd : {S : State} {p : ℕ} {request : Request} (fd : Fd) (e : Descriptor) → descriptor_at S p fd ≡ Some e →
    IsInReach S p request e.description
by_fd fd e g = held fd.0 (ap description_in g)

-- the number of a socket that was found
number_led : (S : State) (p : ℕ) (fd : Fd) (d : ℕ) (s : Socket) (x : Option Descriptor) → descriptor_at S p fd ≡ x →
    (elim (elim x as (λ _. Result (Descriptor × Description) Errno) [
      | None ↦ Err Errno.EBADF
      | Some e ↦ elim (description_at S e.description) as
          (λ _. Result (Descriptor × Description) Errno) [ None ↦ Err Errno.EBADF | Some D ↦ Ok (e, D) ]
    ]) as (λ _. Result (ℕ × Socket) Errno) [
      | Err f ↦ Err f
      | Ok w ↦ elim (socket_of w.1.target) as
          (λ _. Result (ℕ × Socket) Errno) [ None ↦ Err Errno.ENOTSOCK | Some s ↦ Ok (w.0.description, s) ]
    ]) ≡ Ok (d, s) →
    description_of S p fd.0 ≡ Some d
number_led S p fd d s None g h = absurd (cc h)
number_led S p fd d s (Some e) g h = ap description_in g ∙ ap Some (at_place (description_at S e.description) h)
  where
    at_target : (o : Option Socket) → (elim o as
        (λ _. Result (ℕ × Socket) Errno) [ None ↦ Err Errno.ENOTSOCK | Some u ↦ Ok (e.description, u) ]) ≡ Ok (d, s) → e.description ≡ d
    at_target None h = absurd (cc h)
    at_target (Some u) h = ap (λ r. elim r as (λ _. ℕ) [ Err f ↦ 0 | Ok w ↦ w.0 ]) h

    at_place : (x : Option Description) →
        (elim (elim x as (λ _. Result (Descriptor × Description) Errno) [ None ↦ Err Errno.EBADF | Some D ↦ Ok (e, D) ]) as
        (λ _. Result (ℕ × Socket) Errno) [
          | Err f ↦ Err f
          | Ok w ↦ elim (socket_of w.1.target) as
              (λ _. Result (ℕ × Socket) Errno) [ None ↦ Err Errno.ENOTSOCK | Some s ↦ Ok (w.0.description, s) ]
        ]) ≡ Ok (d, s) →
        e.description ≡ d
    at_place None h = absurd (cc h)
    at_place (Some D) h = at_target (socket_of D.target) h

pub own_number : (S : State) (p d : ℕ) (fd : Fd) (s : Socket) → find_socket S p fd ≡ Ok (d, s) → description_of S p fd.0 ≡ Some d
own_number S p d fd s h = number_led S p fd d s (descriptor_at S p fd) refl h

-- the socket, and that it is in reach
pub by_own : (Q : Outcome → Type 0) (S : State) (p : ℕ) (request : Request) (fd : Fd) (rest : ℕ → Socket → Outcome) →
    ((e : Errno) → Q (refuse S e)) →
    ((d : ℕ) (s : Socket) → description_of S p fd.0 ≡ Some d → socket_at S d ≡ Some s → Q (rest d s)) →
    Q (elim (find_socket S p fd) as (λ _. Outcome) [ Err e ↦ refuse S e | Ok w ↦ rest w.0 w.1 ])
by_own Q S p request fd rest bad rest_of = go (find_socket S p fd) refl
  where
    go : (r : Result (ℕ × Socket) Errno) → find_socket S p fd ≡ r →
        Q (elim r as (λ _. Outcome) [ Err e ↦ refuse S e | Ok w ↦ rest w.0 w.1 ])
    go (Err e) h = bad e
    go (Ok w) h = rest_of w.0 w.1 (own_number S p w.0 fd w.1 h) (socket_found S p w.0 fd w.1 h)
