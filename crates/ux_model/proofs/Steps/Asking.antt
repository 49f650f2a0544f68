-- Of each call that asks: it leaves the state as it was, and reports no number. All laws on what calls leave follow for it.
use Rattle.std.proofs.Common.{◌≡◌, ℕ, Bool, true, false, not, ◌&&◌, length, map, None, refl, ap, sym, subst}
use Rattle.std.specs.Prelude.{is_some, nat_lt}
use Rattle.std.proofs.lemmas.Bool.{false≢true}
use Rattle.ux_model.specs.Types.{Errno, Fd, PollFds, Request, Reply}
use Rattle.ux_model.specs.Places.{place}
use Rattle.ux_model.specs.State.{State}
use Rattle.ux_model.specs.Outcome.{Outcome, Chosen, own, lacking_memory, failing, refuse, descriptor_at}
use Rattle.ux_model.specs.Object.{bytes_ahead}
use Rattle.ux_model.specs.Descriptors.{get_flags}
use Rattle.ux_model.specs.QueueLengths.{in_queue, out_queue}
use Rattle.ux_model.specs.Binding.{get_sock_name}
use Rattle.ux_model.specs.Socket.{is_dgram}
use Rattle.ux_model.specs.Connecting.{listener_of, get_peer_name}
use Rattle.ux_model.specs.Limits.{poll_limit}
use Rattle.ux_model.specs.Readiness.{poll}
use Rattle.ux_model.specs.Polling.{revents, some_ready, poll_many}
use Rattle.ux_model.specs.Step.{outcome}
use Rattle.ux_model.specs.Asking.{asks}
use Rattle.ux_model.specs.Invariants.{LeftByRefusal}
use Rattle.ux_model.proofs.Changes.Walk.{either, maybe, by_target, found, found_socket, found_peer}
use Rattle.ux_model.proofs.Changes.Reaching.{May, Reaches, still}
use Rattle.ux_model.proofs.Changes.HeldOpen.{same_objects}
use Rattle.ux_model.proofs.Changes.Obeying.{failures, tells_choice, is_error, Obeys}
use Rattle.ux_model.proofs.Tables.Replacing.{IsPlain, tells_child, tells_number}

pub record Asks (S : State) (o : Outcome) : Type 0 where
  pub next : o.next ≡ S
  pub failure : o.failure ≡ None
  pub own_reply : tells_choice o.reply ≡ false
  pub refused : (e : Errno) → o.reply ≡ Reply.Err e → LeftByRefusal S e S
  pub numberless : tells_number o.reply ≡ false
  pub childless : tells_child o.reply ≡ false

refuses : {S : State} {e : Errno} → tells_choice (Reply.Err e) ≡ false → LeftByRefusal S e S → Asks S (refuse S e)
refuses {S} {e} own_one left = record {
  next = refl;
  failure = refl;
  own_reply = own_one;
  refused = λ f h. let same : e ≡ f = cc h in subst (λ g. LeftByRefusal S g S) same left;
  numberless = refl;
  childless = refl;
}

tells : {S : State} {o : Outcome} → o.next ≡ S → o.failure ≡ None → tells_choice o.reply ≡ false → is_error o.reply ≡ false →
    tells_number o.reply ≡ false → tells_child o.reply ≡ false → Asks S o
tells {S} {o} next failure own_one told numberless childless = record {
  next = next;
  failure = failure;
  own_reply = own_one;
  refused = λ e h. let one : is_error o.reply ≡ true = ap is_error h in absurd (cc (one, told));
  numberless = numberless;
  childless = childless;
}

-- ---- the calls

get_flags_asks : (S : State) (p : ℕ) (fd : Fd) → Asks S (get_flags S p fd)
unfolding get_flags
get_flags_asks S p fd = found (Asks S) S p fd _ (refuses refl refl) (λ e D g h. tells refl refl refl refl refl refl)

in_queue_asks : (S : State) (p : ℕ) (fd : Fd) → Asks S (in_queue S p fd)
unfolding in_queue
in_queue_asks S p fd = found (Asks S) S p fd _ (refuses refl refl) (λ e D g h. by_target (Asks S) D.target _ _
    (λ o t. maybe (Asks S) (place S.objects o) _ _ (refuses refl refl) (λ view there.
    maybe (Asks S) (bytes_ahead view.body D.offset) _ _ (refuses refl refl) (λ n is. tells refl refl refl refl refl refl)))
    (λ s t. either (Asks S) (is_some (listener_of s.phase)) _ _ (λ b. refuses refl refl) (λ b. tells refl refl refl refl refl refl)))

out_queue_asks : (S : State) (p : ℕ) (fd : Fd) → Asks S (out_queue S p fd)
unfolding out_queue
out_queue_asks S p fd = found (Asks S) S p fd _ (refuses refl refl) (λ e D g h. by_target (Asks S) D.target _ _
    (λ o t. refuses refl refl)
    (λ s t. either (Asks S) (is_dgram s.kind) _ _ (λ b. refuses refl refl) (λ b. tells refl refl refl refl refl refl)))

sock_name_asks : (S : State) (p : ℕ) (fd : Fd) → Asks S (get_sock_name S p fd)
unfolding get_sock_name
sock_name_asks S p fd = found_socket (Asks S) S p fd _ (refuses refl refl) (refuses refl refl)
    (λ d s h. tells refl refl refl refl refl refl)

peer_name_asks : (S : State) (p : ℕ) (fd : Fd) → Asks S (get_peer_name S p fd)
unfolding get_peer_name
peer_name_asks S p fd = found_socket (Asks S) S p fd _ (refuses refl refl) (refuses refl refl)
    (λ d s h. found_peer (Asks S) S s.phase _ (refuses refl refl) (λ peer other there. tells refl refl refl refl refl refl))

poll_asks : (S : State) (p : ℕ) (fd : Fd) → Asks S (poll S p fd)
unfolding poll
poll_asks S p fd = maybe (Asks S) (descriptor_at S p fd) _ _ (tells refl refl refl refl refl refl)
    (λ e h. tells refl refl refl refl refl refl)

poll_many_asks : (S : State) (p : ℕ) (fds : PollFds) (waits : Bool) → Asks S (poll_many S p fds waits)
unfolding poll_many
poll_many_asks S p fds waits = either (Asks S) (nat_lt poll_limit (length fds)) _ _ (λ b. refuses refl refl)
    (λ b. either (Asks S) (waits && not (some_ready (map (revents S p) fds))) _ _ (λ c. refuses refl refl)
    (λ c. tells refl refl refl refl refl refl))

pub each_asks : (S : State) (p tag : ℕ) (request : Request) → asks request ≡ true → Asks S (outcome S p tag request)
unfolding outcome
each_asks S p tag (Request.GetFlags fd) h = get_flags_asks S p fd
each_asks S p tag (Request.InQueue fd) h = in_queue_asks S p fd
each_asks S p tag (Request.OutQueue fd) h = out_queue_asks S p fd
each_asks S p tag (Request.GetSockName fd) h = sock_name_asks S p fd
each_asks S p tag (Request.GetPeerName fd) h = peer_name_asks S p fd
each_asks S p tag (Request.Poll fd) h = poll_asks S p fd
each_asks S p tag (Request.PollMany fds waits) h = poll_many_asks S p fds waits
each_asks S p tag request h = absurd (false≢true h)

pub asking_plain : (request : Request) → asks request ≡ true → IsPlain request
asking_plain (Request.GetFlags fd) h = record { no_end = refl; keeps = λ n held. refl }
asking_plain (Request.InQueue fd) h = record { no_end = refl; keeps = λ n held. refl }
asking_plain (Request.OutQueue fd) h = record { no_end = refl; keeps = λ n held. refl }
asking_plain (Request.GetSockName fd) h = record { no_end = refl; keeps = λ n held. refl }
asking_plain (Request.GetPeerName fd) h = record { no_end = refl; keeps = λ n held. refl }
asking_plain (Request.Poll fd) h = record { no_end = refl; keeps = λ n held. refl }
asking_plain (Request.PollMany fds waits) h = record { no_end = refl; keeps = λ n held. refl }
asking_plain request h = absurd (false≢true h)

-- ---- what follows

pub asking_obeys : {S : State} {may : May} {o : Outcome} → Asks S o → Obeys S may o
asking_obeys {S} {may} {o} a = record {
  own_reply = a.own_reply;
  refused = λ e h. subst (LeftByRefusal S e) (sym a.next) (a.refused e h);
  failed = λ T h. absurd (cc (h, a.failure));
  fails = λ T h. absurd (cc (h, a.failure));
  reached = subst (Reaches S may) (sym a.next) still;
  objects = same_objects S o.next (ap (λ (U : State). U.objects) a.next);
  alike = λ n was. ap (λ (U : State). failures (place U.objects n)) a.next;
}

pub chosen_asked : (S T : State) (o : Outcome) (reply : Reply) → Asks S o → Chosen S o reply T → T ≡ S
chosen_asked S T o reply a (own e f) = subst (λ (U : State). U ≡ S) (sym f) a.next
chosen_asked S T o reply a (lacking_memory e may f) = f
chosen_asked S T o reply a (failing e f) = absurd (cc (f, a.failure))
