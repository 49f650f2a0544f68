-- What an outcome does, by what it is made of.
use Rattle.std.proofs.Common.{◌≡◌, ◌⊎◌, ℕ, ◌==◌, true, false, ◌&&◌, if◌then◌else◌, []}
use Rattle.std.proofs.Common.{take, Option, Some, None, Ok, refl, ap, sym, ◌∙◌, inl, inr, ⊎_elim}
use Rattle.std.proofs.lemmas.Bool.{eqb-true, false≢true, and_parts}
use Rattle.ux_model.specs.Types.{Errno, Fd, Request, Reply}
use Rattle.ux_model.specs.Socket.{Socket, is_stream}
use Rattle.ux_model.specs.State.{State, socket_at}
use Rattle.ux_model.specs.Outcome.{find_socket}
use Rattle.ux_model.proofs.Lists.ByPlace.{take_none}
use Rattle.ux_laws.specs.Talking.{endpoint, offered_bytes, is_peek, taken_count, given_bytes, if_found, socket_through}
use Rattle.ux_laws.specs.Talking.{is_first, sends_to, receives_through}
use Rattle.ux_laws.proofs.Parts.{Kept, kept_same}
use Rattle.ux_laws.proofs.Parts.{kept_shrinks}
use Rattle.ux_laws.specs.Records.{is_count}
use Rattle.ux_laws.proofs.Acts.{is_silent, MovesNothing, either_none, none_either, silent, Did, quiet}

pub refuses : {S : State} {p tag : ℕ} {request : Request} {e : Errno} → Did S p tag request (Reply.Err e) S
refuses {S} = quiet (kept_shrinks (kept_same S S refl)) (silent refl)

pub answers : {S : State} {p tag : ℕ} {request : Request} {reply : Reply} {U : State} → is_silent reply ≡ true → Kept S U →
    Did S p tag request reply U
answers h k = quiet (kept_shrinks k) (silent h)

pub unchanged : {S : State} {p tag : ℕ} {request : Request} {reply : Reply} → is_silent reply ≡ true → Did S p tag request reply S
unchanged {S} h = quiet (kept_shrinks (kept_same S S refl)) (silent h)

-- ---- what a call goes through

pub through_is : (S : State) (p d : ℕ) (fd : Fd) (s : Socket) (request : Request) → endpoint request ≡ Some fd →
    find_socket S p fd ≡ Ok (d, s) → socket_through S p request ≡ Some (d, s)
through_is S p d fd s request asked h =
    ap (λ (o : Option Fd). elim o as (λ _. Option (ℕ × Socket)) [ None ↦ None | Some fd ↦ if_found (find_socket S p fd) ]) asked
    ∙ ap if_found h

-- what is given where a socket has nothing to give
abbrev TakesNothing : Socket → ℕ → Type 0
TakesNothing s n = (s.queue ≡ []) ⊎ ((is_stream s.kind && (n == 0)) ≡ true)

found_is : (d e : ℕ) (s u : Socket) (o : Option (ℕ × Socket)) → o ≡ Some (d, s) → is_first e o ≡ true → d ≡ e
found_is d e s u o h by = eqb-true d e (sym (ap (is_first e) h) ∙ by)

pub empty_handed : {S : State} {p : ℕ} {request : Request} {reply : Reply} (d n : ℕ) (s : Socket) →
    socket_through S p request ≡ Some (d, s) →
    socket_at S d ≡ Some s → TakesNothing s n →
    taken_count reply ≡ 0 → given_bytes reply ≡ [] → is_count reply ≡ false → MovesNothing S p request reply
empty_handed {S} {p} {request} {reply} d n s through there none count bytes counts = record {
  bytes_out = λ d. either_none (sends_to S d p request) (take (taken_count reply) (offered_bytes request))
      (ap (λ n. take n (offered_bytes request)) count ∙ take_none (offered_bytes request));
  bytes_in = λ d. none_either (is_peek request) _ (either_none (receives_through S d p request) (given_bytes reply) bytes);
  record_out = λ d to count. absurd (false≢true (sym counts ∙ count));
  goes_out = λ count. absurd (false≢true (sym counts ∙ count));
  record_in = λ e by peek given.
      let at : d ≡ e = found_is d e s s (socket_through S p request) through by in (
        s,
        through ∙ ap (λ (k : ℕ). Some (k, s)) at,
        ap (λ (k : ℕ). socket_at S k) (sym at) ∙ there,
        ⊎_elim {C = (s.queue ≡ []) ⊎ (is_stream s.kind ≡ true)} (λ q. inl q) (λ b. inr (and_parts (is_stream s.kind) (n == 0) b).0) none,
      );
}

pub peeked : {S : State} {p : ℕ} {request : Request} {reply : Reply} → is_peek request ≡ true → taken_count reply ≡ 0 →
    is_count reply ≡ false →
    MovesNothing S p request reply
peeked {S} {p} {request} {reply} peek count counts = record {
  bytes_out = λ d. either_none (sends_to S d p request) (take (taken_count reply) (offered_bytes request))
      (ap (λ n. take n (offered_bytes request)) count ∙ take_none (offered_bytes request));
  bytes_in = λ d. ap (λ b. if b then [] else if receives_through S d p request then given_bytes reply else []) peek;
  record_out = λ d to count. absurd (false≢true (sym counts ∙ count));
  goes_out = λ count. absurd (false≢true (sym counts ∙ count));
  record_in = λ e by takes given. absurd (false≢true (sym takes ∙ peek));
}
