-- Of each call: what its outcome shows of the tables, and which messages it leaves.
use Rattle.std.proofs.Common.{◌≡◌, ℕ, false, []}
use Rattle.std.proofs.Common.{Option, Some, None, Result, Ok, Err, refl, ap, ◌∙◌, subst}
use Rattle.ux_model.specs.Types.{Errno, Fd, Request}
use Rattle.ux_model.specs.Socket.{Socket}
use Rattle.ux_model.specs.Description.{Description, Target, to_object, to_socket, socket_of, socket_in}
use Rattle.ux_model.specs.Process.{Descriptor}
use Rattle.ux_model.specs.State.{State, description_at, socket_at}
use Rattle.ux_model.specs.Outcome.{Outcome, refuse, descriptor_at, find_socket}
use Rattle.ux_model.specs.Outcome.{on_socket}
use Rattle.ux_model.specs.History.{is_off}
use Rattle.ux_model.specs.Giving.{given}
use Rattle.ux_model.specs.Changes.{ChangesTables}
use Rattle.ux_model.proofs.Changes.Walk.{found}
use Rattle.ux_model.proofs.Tables.Queues.{Quiet, Mail, quiet_mail}
use Rattle.ux_model.proofs.Tables.Replacing.{replaced_none, tells_child}
use Rattle.ux_model.proofs.Tables.Replacing.{IsPlain, refusal, keeps_table}

-- of an outcome in S
pub record Shows (S : State) (p tag : ℕ) (request : Request) (o : Outcome) : Type 0 where
  pub tables : ChangesTables S p request o.reply o.next
  pub mail : Mail S p tag request o.next

-- ---- by what an outcome is made of

pub silent : (S : State) → Quiet S S
silent S d = refl

pub refuses : {S : State} {p tag : ℕ} {request : Request} {e : Errno} → is_off request ≡ false → Shows S p tag request (refuse S e)
refuses {S} {p} {tag} {request} {e} on =
    record { tables = refusal S S p request e (replaced_none S S p refl) on; mail = quiet_mail S S p tag request (silent S) }

-- a call that touches no table and leaves the queues as they were
pub answers : {S : State} {p tag : ℕ} {request : Request} {o : Outcome} → IsPlain request → o.next.processes ≡ S.processes →
    given S p request o.reply ≡ [] → tells_child o.reply ≡ false →
    Quiet S o.next → Shows S p tag request o
answers {S} {p} {tag} {request} {o} plain same none childless quiet = record {
  tables = keeps_table S o.next p request o.reply plain (replaced_none S o.next p same) none childless;
  mail = quiet_mail S o.next p tag request quiet;
}

-- ---- what a descriptor leads to

abbrev target_led : Descriptor → Target → Result (ℕ × Socket) Errno
target_led e t = elim (socket_of t) as (λ _. Result (ℕ × Socket) Errno) [ None ↦ Err Errno.ENOTSOCK | Some s ↦ Ok (e.description, s) ]

abbrev description_led : Descriptor → Option Description → Result (ℕ × Socket) Errno
description_led e x = elim (elim x as (λ _. Result (Descriptor × Description) Errno) [ None ↦ Err Errno.EBADF | Some D ↦ Ok (e, D) ]) as
    (λ _. Result (ℕ × Socket) Errno) [ Err f ↦ Err f | Ok w ↦ target_led w.0 w.1.target ]

abbrev descriptor_led : State → Option Descriptor → Result (ℕ × Socket) Errno
descriptor_led S o = elim (elim o as (λ _. Result (Descriptor × Description) Errno) [
  | None ↦ Err Errno.EBADF
  | Some e ↦ elim (description_at S e.description) as
      (λ _. Result (Descriptor × Description) Errno) [ None ↦ Err Errno.EBADF | Some D ↦ Ok (e, D) ]
]) as (λ _. Result (ℕ × Socket) Errno) [ Err f ↦ Err f | Ok w ↦ target_led w.0 w.1.target ]

-- the socket that was found is there
pub socket_found : (S : State) (p d : ℕ) (fd : Fd) (s : Socket) → find_socket S p fd ≡ Ok (d, s) → socket_at S d ≡ Some s
socket_found S p d fd s found = there (descriptor_at S p fd) found
  where
    at_target : (e : Descriptor) (D : Description) (t : Target) → D.target ≡ t → description_at S e.description ≡ Some D →
        target_led e t ≡ Ok (d, s) → socket_at S d ≡ Some s
    at_target e D (to_object o) is h same = absurd (cc same)
    at_target e D (to_socket u) is h same =
        let number : e.description ≡ d = ap (λ r. elim r as (λ _. ℕ) [ Err f ↦ 0 | Ok w ↦ w.0 ]) same in
        let socket : u ≡ s = ap (λ r. elim r as (λ _. Socket) [ Err f ↦ u | Ok w ↦ w.1 ]) same in
        subst (λ (k : ℕ). socket_at S k ≡ Some s) number (ap socket_in h ∙ ap socket_of is ∙ ap Some socket)

    at_place : (e : Descriptor) (x : Option Description) → description_at S e.description ≡ x → description_led e x ≡ Ok (d, s) →
        socket_at S d ≡ Some s
    at_place e None h same = absurd (cc same)
    at_place e (Some D) h same = at_target e D D.target refl h same

    there : (o : Option Descriptor) → descriptor_led S o ≡ Ok (d, s) → socket_at S d ≡ Some s
    there None same = absurd (cc same)
    there (Some e) same = at_place e (description_at S e.description) refl same

pub by_socket : (Q : Outcome → Type 0) (S : State) (p : ℕ) (fd : Fd) (rest : ℕ → Socket → Outcome) → ((e : Errno) → Q (refuse S e)) →
    ((d : ℕ) (s : Socket) → find_socket S p fd ≡ Ok (d, s) → socket_at S d ≡ Some s → Q (rest d s)) → Q (on_socket S p fd rest)
by_socket Q S p fd rest bad rest_of = go (find_socket S p fd) refl
  where
    go : (r : Result (ℕ × Socket) Errno) → find_socket S p fd ≡ r →
        Q (elim r as (λ _. Outcome) [ Err e ↦ refuse S e | Ok w ↦ rest w.0 w.1 ])
    go (Err e) h = bad e
    go (Ok w) h = rest_of w.0 w.1 h (socket_found S p w.0 fd w.1 h)
