-- So do calls on options, and poll.
use Rattle.std.proofs.Common.{◌≡◌, ℕ, ◌==◌, Bool, true, false, not, ◌||◌, []}
use Rattle.std.proofs.Common.{◌∷◌, ◌++◌, Option, Some, None, refl, sym, inl}
use Rattle.std.specs.Prelude.{is_some}
use Rattle.std.proofs.lemmas.Bool.{false≢true}
use Rattle.ux_model.specs.Types.{Fd, Cred, Addr, SockOpt, Request}
use Rattle.ux_model.specs.Names.{is_unnamed_addr, free_name}
use Rattle.ux_model.specs.Socket.{Socket, is_stream}
use Rattle.ux_model.specs.Socket.{tied_socket, with_reset}
use Rattle.ux_model.specs.Socket.{with_passcred, with_queue_limit}
use Rattle.ux_model.specs.State.{State}
use Rattle.ux_model.specs.State.{with_socket_by}
use Rattle.ux_model.specs.Outcome.{Outcome}
use Rattle.ux_model.specs.Binding.{with_name}
use Rattle.ux_model.specs.Options.{tell_cred, tell_option, get_opt, may_limit, change_option, set_opt}
use Rattle.ux_model.specs.Giving.{description_of}
use Rattle.ux_model.proofs.Changes.Walk.{either, maybe}
use Rattle.ux_laws.specs.Reach.{held}
use Rattle.ux_laws.proofs.Near.Single.{Near, near_socket, still}
use Rattle.ux_laws.proofs.Near.Leading.{by_own}
use Rattle.ux_laws.proofs.Near.Descriptors.{alike}

pub get_opt_near : (S : State) (p : ℕ) (fd : Fd) (opt : SockOpt) → Near S p (Request.GetOpt fd opt) (get_opt S p fd opt).next
unfolding get_opt
get_opt_near S p fd opt = by_own (λ o. Near S p (Request.GetOpt fd opt) o.next) S p (Request.GetOpt fd opt) fd _ (λ e. still)
    (λ d s mine there. by_option d mine s opt)
  where
    by_cred : (cred : Option Cred) → Near S p (Request.GetOpt fd opt) (tell_cred S cred).next
    by_cred None = still
    by_cred (Some c) = still

    by_option : (d : ℕ) → description_of S p fd.0 ≡ Some d → (s : Socket) (o : SockOpt) →
        Near S p (Request.GetOpt fd opt) (tell_option S d s o).next
    by_option d mine s SockOpt.PeerCred = by_cred s.peer_cred
    by_option d mine s SockOpt.QueueLimit = either (λ o. Near S p (Request.GetOpt fd opt) o.next) (is_stream s.kind) _ _ (λ b. still)
        (λ b. still)
    by_option d mine s SockOpt.Kind = still
    by_option d mine s SockOpt.Error = near_socket S d (with_reset false) still (inl (held fd.0 mine))
        (λ s. (λ h. absurd (false≢true h), λ elsewhere. refl, λ other h. h, λ set. refl, λ apart h. h, λ calm. refl))
    by_option d mine s SockOpt.PassCred = still
    by_option d mine s SockOpt.AcceptConn = still

pub set_opt_near : (S : State) (p : ℕ) (fd : Fd) (opt : SockOpt) (value : ℕ) →
    Near S p (Request.SetOpt fd opt value) (set_opt S p fd opt value).next
unfolding set_opt
set_opt_near S p fd opt value = by_own Q S p (Request.SetOpt fd opt value) fd _ (λ e. still) (λ d s mine there. by_option d mine s opt)
  where
    Q : Outcome → Type 0
    Q o = Near S p (Request.SetOpt fd opt value) o.next

    passing : (T : State) (d : ℕ) (on : Bool) → description_of S p fd.0 ≡ Some d → Near S p (Request.SetOpt fd opt value) T →
        Near S p (Request.SetOpt fd opt value) (with_socket_by T d (with_passcred on))
    passing T d on mine near = near_socket T d (with_passcred on) near (inl (held fd.0 mine))
        (λ s. (λ h. h, λ elsewhere. refl, λ other h. h, λ set. refl, λ apart h. h, λ calm. refl))

    by_option : (d : ℕ) → description_of S p fd.0 ≡ Some d → (s : Socket) (o : SockOpt) →
        Near S p (Request.SetOpt fd opt value) (change_option S d s value o).next
    by_option d mine s SockOpt.Kind = still
    by_option d mine s SockOpt.Error = still
    by_option d mine s SockOpt.PassCred = either Q (value == 0) _ _ (λ b. passing S d false mine still)
        (λ b. either Q (not (is_unnamed_addr s.name) || is_some (tied_socket s.phase)) _ _ (λ b. passing S d true mine still)
        (λ b. maybe Q (free_name S.abstract_names) _ _ still
        (λ name free.
        let T : State = record (with_socket_by S d (with_name (Addr.Abstract name))) { abstract_names = S.abstract_names ++ (name, d) ∷ [] }
        in
        passing T d true mine (alike T refl (near_socket S d (with_name (Addr.Abstract name)) still (inl (held fd.0 mine))
        (λ s. (λ h. h, λ elsewhere. refl, λ other h. h, λ set. refl, λ apart h. h, λ calm. absurd (false≢true (sym calm)))))))))
    by_option d mine s SockOpt.PeerCred = still
    by_option d mine s SockOpt.AcceptConn = still
    by_option d mine s SockOpt.QueueLimit = either Q (not (is_stream s.kind)) _ _ (λ b. still)
        (λ b. either Q (not (may_limit value)) _ _ (λ c. still)
        (λ c. near_socket S d (with_queue_limit value) still (inl (held fd.0 mine))
        (λ s. (λ h. h, λ elsewhere. refl, λ other h. h, λ set. absurd (false≢true (sym set)), λ apart h. h, λ calm. refl))))
