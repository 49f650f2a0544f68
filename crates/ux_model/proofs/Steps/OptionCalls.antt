-- Of the calls that ask for options and readiness, and set options: that their outcomes obey what all do.
use Rattle.std.proofs.Common.{◌≡◌, ℕ, ◌≤◌, Bool, true, false, not, ◌||◌, Option, Some, None, refl, arith}
use Rattle.std.specs.Prelude.{◌==◌, nat_le, is_some}
use Rattle.std.proofs.lemmas.Bool.{not-false, leb-true, and_parts}
use Rattle.ux_model.specs.Types.{Fd, Cred, SockOpt}
use Rattle.ux_model.specs.Names.{is_unnamed_addr, free_name}
use Rattle.ux_model.specs.Limits.{greatest_queue_limit}
use Rattle.ux_model.specs.Socket.{Socket, is_stream, tied_socket, with_reset, with_passcred, with_queue_limit}
use Rattle.ux_model.specs.State.{State, socket_at, with_socket_by}
use Rattle.ux_model.specs.Options.{tell_cred, tell_option, get_opt, pass_cred_named, pass_cred_on, may_limit, limit_queue, change_option}
use Rattle.ux_model.specs.Options.{set_opt}
use Rattle.ux_model.proofs.Changes.Walk.{either, maybe, found_socket}
use Rattle.ux_model.proofs.Changes.Bounds.{free_short}
use Rattle.ux_model.proofs.Steps.NameCalls.{first_holds, abstract_given}
use Rattle.ux_model.proofs.Changes.Reaching.{names_too, Reaches, still, KeepsSocket, pending_changed, with_socket_reached}
use Rattle.ux_model.proofs.Changes.Obeying.{Obeys, Call, refuses, answers}

-- ---- getsockopt

cred_obeys : (S : State) (cred : Option Cred) → Call S (tell_cred S cred)
cred_obeys S None = refuses refl refl
cred_obeys S (Some cred) = answers refl refl refl refl still

option_obeys : (S : State) (d : ℕ) (s : Socket) (opt : SockOpt) → Call S (tell_option S d s opt)
option_obeys S d s SockOpt.Kind = answers refl refl refl refl still
option_obeys S d s SockOpt.Error = answers refl refl refl refl
    (with_socket_reached S d (with_reset false) still (λ sound t here. pending_changed S d t false))
option_obeys S d s SockOpt.PassCred = answers refl refl refl refl still
option_obeys S d s SockOpt.PeerCred = cred_obeys S s.peer_cred
option_obeys S d s SockOpt.AcceptConn = answers refl refl refl refl still
option_obeys S d s SockOpt.QueueLimit = either (Call S) (is_stream s.kind) _ _ (λ b. answers refl refl refl refl still)
    (λ b. refuses refl refl)

pub get_opt_obeys : (S : State) (p : ℕ) (fd : Fd) (opt : SockOpt) → Call S (get_opt S p fd opt)
unfolding get_opt
get_opt_obeys S p fd opt = found_socket (Call S) S p fd _ (refuses refl refl) (refuses refl refl) (λ d s h. option_obeys S d s opt)

-- ---- setsockopt

passcred_keeps : (S : State) (d : ℕ) (s : Socket) (on : Bool) → KeepsSocket S d s (with_passcred on s)
passcred_keeps S d s on = record {
  holds = λ k gone. omega arith;
  peer = refl;
  pending = λ k. omega arith;
  waits = λ w. omega arith;
  flies =
      λ u limit are within. omega (arith, within);
  bounds = λ all own. own;
  named = λ a has. has;
}

passcred_set : {S : State} {T : State} (d : ℕ) (on : Bool) → Reaches S names_too T →
    Reaches S names_too (with_socket_by T d (with_passcred on))
passcred_set {S} {T} d on before = with_socket_reached T d (with_passcred on) before (λ sound t here. passcred_keeps T d t on)

named_obeys : (S : State) (d : ℕ) (s : Socket) → socket_at S d ≡ Some s → is_unnamed_addr s.name ≡ true → Obeys S names_too (pass_cred_named S d)
named_obeys S d s h unnamed = maybe (Obeys S names_too) (free_name S.abstract_names) _ _ (refuses refl refl)
    (λ name free. answers refl refl refl refl
    (passcred_set d true (abstract_given S d s name h unnamed (free_short S.abstract_names name free) refl)))

on_obeys : (S : State) (d : ℕ) (s : Socket) → socket_at S d ≡ Some s → Obeys S names_too (pass_cred_on S d s)
on_obeys S d s h = either (Obeys S names_too) (not (is_unnamed_addr s.name) || is_some (tied_socket s.phase)) _ _
    (λ b. answers refl refl refl refl (passcred_set d true still))
    (λ b. named_obeys S d s h (first_holds (is_unnamed_addr s.name) (is_some (tied_socket s.phase)) b))

limit_keeps : (S : State) (d : ℕ) (s : Socket) (limit : ℕ) → limit ≤ greatest_queue_limit → KeepsSocket S d s (with_queue_limit limit s)
limit_keeps S d s limit few = record {
  holds = λ k gone. omega arith;
  peer = refl;
  pending = λ k. omega arith;
  waits = λ w. omega arith;
  flies = λ u limit are within. omega (arith, within);
  bounds = λ all own. record { short = own.short; each = own.each; limited = few; all = own.all };
  named = λ a has. has;
}

limit_obeys : (S : State) (d : ℕ) (s : Socket) (value : ℕ) → Obeys S names_too (limit_queue S d s value)
limit_obeys S d s value = either (Obeys S names_too) (not (is_stream s.kind)) _ _ (λ b. refuses refl refl)
    (λ b. either (Obeys S names_too) (not (may_limit value)) _ _ (λ c. refuses refl refl)
    (λ c. answers refl refl refl refl (with_socket_reached S d (with_queue_limit value) still
    (λ sound t here. limit_keeps S d t value (few c)))))
  where
    few : not (may_limit value) ≡ false → value ≤ greatest_queue_limit
    few h = leb-true value greatest_queue_limit
        (and_parts (nat_le 1 value) (nat_le value greatest_queue_limit) (not-false (may_limit value) h)).1

change_obeys : (S : State) (d : ℕ) (s : Socket) (value : ℕ) (opt : SockOpt) → socket_at S d ≡ Some s →
    Obeys S names_too (change_option S d s value opt)
change_obeys S d s value SockOpt.Kind h = refuses refl refl
change_obeys S d s value SockOpt.Error h = refuses refl refl
change_obeys S d s value SockOpt.PassCred h =
    either (Obeys S names_too) (value == 0) _ _ (λ b. answers refl refl refl refl (passcred_set d false still)) (λ b. on_obeys S d s h)
change_obeys S d s value SockOpt.PeerCred h = refuses refl refl
change_obeys S d s value SockOpt.AcceptConn h = refuses refl refl
change_obeys S d s value SockOpt.QueueLimit h = limit_obeys S d s value

pub set_opt_obeys : (S : State) (p : ℕ) (fd : Fd) (opt : SockOpt) (value : ℕ) → Obeys S names_too (set_opt S p fd opt value)
unfolding set_opt
set_opt_obeys S p fd opt value = found_socket (Obeys S names_too) S p fd _ (refuses refl refl) (refuses refl refl)
    (λ d s h. change_obeys S d s value opt h)
