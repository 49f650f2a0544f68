-- The two free choices: which calls never lack memory, and what a failure reports.
use Rattle.std.proofs.Common.{◌≡◌, ◌⊎◌, inl, inr, ⊎_elim, ℕ, ◌+◌, ◌==◌, Bool, true, false, ◌&&◌, not, if◌then◌else◌, Option, Some, length, map}
use Rattle.std.proofs.Common.{None, refl, ap, sym, subst, ◌∙◌, arith, ◌||◌}
use Rattle.std.specs.Prelude.{ℤ, pos, negsuc, ◌+ℤ◌, nat_lt, is_some, is_none}
use Rattle.std.proofs.lemmas.Bool.{cases_eq, or_parts, false≢true}
use Rattle.std.proofs.lemmas.List.{get_or-set_same, get_or-set_other}
use Rattle.ux_model.specs.Types.{Errno, Fd, PollFds, Cred, Name, SockOpt, Mode, OpenFlags, Whence, Request, Reply}
use Rattle.ux_model.specs.Places.{place}
use Rattle.ux_model.specs.Limits.{offset_limit, poll_limit}
use Rattle.ux_model.specs.Object.{View, is_memory, bytes_ahead, after_failure}
use Rattle.ux_model.specs.Names.{named, is_valid_path, is_unnamed_addr}
use Rattle.ux_model.specs.Socket.{Socket, is_stream, is_dgram, peer_of, tied_socket}
use Rattle.ux_model.specs.Description.{Description}
use Rattle.ux_model.specs.State.{State, process_at}
use Rattle.ux_model.specs.References.{orefs}
use Rattle.ux_model.specs.Release.{drop_unreferenced, settled}
use Rattle.ux_model.specs.Outcome.{Outcome, Chosen, own, lacking_memory, failing, descriptor_at}
use Rattle.ux_model.specs.Seeking.{lseek, seek_to, seek_base}
use Rattle.ux_model.specs.Descriptors.{get_flags, set_flags}
use Rattle.ux_model.specs.QueueLengths.{in_queue, out_queue}
use Rattle.ux_model.specs.Naming.{unlink}
use Rattle.ux_model.specs.Connecting.{listener_of, listen, shutdown}
use Rattle.ux_model.specs.Options.{get_opt, tell_option, tell_cred, may_limit, set_opt}
use Rattle.ux_model.specs.Readiness.{poll}
use Rattle.ux_model.specs.Polling.{revents, some_ready, poll_many}
use Rattle.ux_model.specs.Users.{no_id, may_become, set_ids}
use Rattle.ux_model.specs.Forking.{exec}
use Rattle.ux_model.specs.Closing.{close, exit, off}
use Rattle.ux_model.specs.Step.{Step, outcome, lacks_memory, fails}
use Rattle.ux_model.specs.Invariants.{OneMoreFailure}
use Rattle.ux_model.specs.FreeChoices.{takes_no_memory, NeverLacksMemory, HasFailed, FailedAsOften, ReportsFailure}
use Rattle.ux_model.specs.FreeChoices.{FailsWhereAnObjectFailed}
use Rattle.ux_model.proofs.Changes.Reaching.{May, may_change}
use Rattle.ux_model.proofs.Changes.Walk.{either, maybe, by_target, found, found_socket}
use Rattle.ux_model.proofs.Lists.ChangedPlaces.{place_within}
use Rattle.ux_model.proofs.Changes.HeldOpen.{KeepsObjects}
use Rattle.ux_model.proofs.Changes.Obeying.{failures, FailAlike, tells_choice, Obeys}
use Rattle.ux_model.proofs.Steps.Calls.{each_obeys}
use Rattle.ux_model.proofs.Invariants.HandingOut.{left_there, held_stays}

-- ---- out of memory

abbrev IsSparing : Outcome → Type 0
IsSparing o = o.may_lack_memory ≡ false

seek_spares : (S : State) (d : ℕ) (D : Description) (to : ℤ) → IsSparing (seek_to S d D to)
seek_spares S d D (pos n) = either IsSparing (nat_lt offset_limit n) _ _ (λ b. refl) (λ b. refl)
seek_spares S d D (negsuc n) = refl

lseek_spares : (S : State) (p : ℕ) (fd : Fd) (offset : ℤ) (whence : Whence) → IsSparing (lseek S p fd offset whence)
unfolding lseek
lseek_spares S p fd offset whence = found IsSparing S p fd _ refl (λ e D g h. by_target IsSparing D.target _ _
    (λ o t. maybe IsSparing (place S.objects o) _ _ refl (λ view there. either IsSparing (not (is_memory view.body)) _ _ (λ b. refl)
    (λ b. seek_spares S e.description D (pos (seek_base whence D view) +ℤ offset))))
    (λ s t. refl))

flags_spare : (S : State) (p : ℕ) (fd : Fd) (flags : OpenFlags) → IsSparing (set_flags S p fd flags)
unfolding set_flags
flags_spare S p fd flags = found IsSparing S p fd _ refl (λ e D g h. refl)

get_flags_spare : (S : State) (p : ℕ) (fd : Fd) → IsSparing (get_flags S p fd)
unfolding get_flags
get_flags_spare S p fd = found IsSparing S p fd _ refl (λ e D g h. refl)

in_queue_spares : (S : State) (p : ℕ) (fd : Fd) → IsSparing (in_queue S p fd)
unfolding in_queue
in_queue_spares S p fd = found IsSparing S p fd _ refl (λ e D g h. by_target IsSparing D.target _ _
    (λ o t. maybe IsSparing (place S.objects o) _ _ refl
    (λ view there. maybe IsSparing (bytes_ahead view.body D.offset) _ _ refl (λ n is. refl)))
    (λ s t. either IsSparing (is_some (listener_of s.phase)) _ _ (λ b. refl) (λ b. refl)))

out_queue_spares : (S : State) (p : ℕ) (fd : Fd) → IsSparing (out_queue S p fd)
unfolding out_queue
out_queue_spares S p fd = found IsSparing S p fd _ refl (λ e D g h. by_target IsSparing D.target _ _ (λ o t. refl)
    (λ s t. either IsSparing (is_dgram s.kind) _ _ (λ b. refl) (λ b. refl)))

close_spares : (S : State) (p : ℕ) (fd : Fd) → IsSparing (close S p fd)
unfolding close
close_spares S p fd = found IsSparing S p fd _ refl (λ e D g h. refl)

unlink_spares : (S : State) (path : Name) → IsSparing (unlink S path)
unfolding unlink
unlink_spares S path = either IsSparing (not (is_valid_path path)) _ _ (λ b. refl)
    (λ b. either IsSparing (not (is_some (named path S.paths))) _ _ (λ c. refl) (λ c. refl))

listen_spares : (S : State) (p : ℕ) (fd : Fd) (backlog : ℤ) → IsSparing (listen S p fd backlog)
unfolding listen
listen_spares S p fd backlog = maybe IsSparing (process_at S p) _ _ refl
    (λ P here. found_socket IsSparing S p fd _ refl refl
    (λ d s h. either IsSparing (is_dgram s.kind) _ _ (λ a. refl)
    (λ a. either IsSparing (is_some (peer_of s.phase)) _ _ (λ b. refl)
    (λ b. either IsSparing (is_unnamed_addr s.name) _ _ (λ c. refl) (λ c. refl)))))

shutdown_spares : (S : State) (p : ℕ) (fd : Fd) (how : Mode) → IsSparing (shutdown S p fd how)
unfolding shutdown
shutdown_spares S p fd how = found_socket IsSparing S p fd _ refl refl
    (λ d s h. either IsSparing (is_none (tied_socket s.phase)) _ _ (λ b. refl) (λ b. refl))

cred_spares : (S : State) (cred : Option Cred) → IsSparing (tell_cred S cred)
cred_spares S None = refl
cred_spares S (Some cred) = refl

option_spares : (S : State) (d : ℕ) (s : Socket) (opt : SockOpt) → IsSparing (tell_option S d s opt)
option_spares S d s SockOpt.Kind = refl
option_spares S d s SockOpt.Error = refl
option_spares S d s SockOpt.PassCred = refl
option_spares S d s SockOpt.PeerCred = cred_spares S s.peer_cred
option_spares S d s SockOpt.AcceptConn = refl
option_spares S d s SockOpt.QueueLimit = either IsSparing (is_stream s.kind) _ _ (λ b. refl) (λ b. refl)

get_opt_spares : (S : State) (p : ℕ) (fd : Fd) (opt : SockOpt) → IsSparing (get_opt S p fd opt)
unfolding get_opt
get_opt_spares S p fd opt = found_socket IsSparing S p fd _ refl refl (λ d s h. option_spares S d s opt)

limit_spares : (S : State) (p : ℕ) (fd : Fd) (value : ℕ) → IsSparing (set_opt S p fd SockOpt.QueueLimit value)
unfolding set_opt
limit_spares S p fd value = found_socket IsSparing S p fd _ refl refl
    (λ d s h. either IsSparing (not (is_stream s.kind)) _ _ (λ b. refl)
    (λ b. either IsSparing (not (may_limit value)) _ _ (λ c. refl) (λ c. refl)))

poll_spares : (S : State) (p : ℕ) (fd : Fd) → IsSparing (poll S p fd)
unfolding poll
poll_spares S p fd = maybe IsSparing (descriptor_at S p fd) _ _ refl (λ e h. refl)

poll_many_spares : (S : State) (p : ℕ) (fds : PollFds) (waits : Bool) → IsSparing (poll_many S p fds waits)
unfolding poll_many
poll_many_spares S p fds waits = either IsSparing (nat_lt poll_limit (length fds)) _ _ (λ b. refl)
    (λ b. either IsSparing (waits && not (some_ready (map (revents S p) fds))) _ _ (λ c. refl) (λ c. refl))

exit_spares : (S : State) (p : ℕ) → IsSparing (exit S p)
unfolding exit
exit_spares S p = maybe IsSparing (process_at S p) _ _ refl (λ P h. refl)

ids_spare : (S : State) (p uid gid : ℕ) → IsSparing (set_ids S p uid gid)
unfolding set_ids
ids_spare S p uid gid = maybe IsSparing (process_at S p) _ _ refl
    (λ P h. either IsSparing ((uid == no_id) || (gid == no_id)) _ _ (λ b. refl)
    (λ b. either IsSparing (not (may_become uid gid P)) _ _ (λ c. refl) (λ c. refl)))

exec_spares : (S : State) (p : ℕ) → IsSparing (exec S p)
unfolding exec
exec_spares S p = maybe IsSparing (process_at S p) _ _ refl (λ P h. refl)

off_spares : (S : State) → IsSparing (off S)
unfolding off
off_spares S = refl

-- those that take none
each_spares : (S : State) (p tag : ℕ) (request : Request) → takes_no_memory request ≡ true → IsSparing (outcome S p tag request)
unfolding outcome
each_spares S p tag (Request.Lseek fd offset whence) h = lseek_spares S p fd offset whence
each_spares S p tag (Request.GetFlags fd) h = get_flags_spare S p fd
each_spares S p tag (Request.InQueue fd) h = in_queue_spares S p fd
each_spares S p tag (Request.OutQueue fd) h = out_queue_spares S p fd
each_spares S p tag (Request.SetFlags fd flags) h = flags_spare S p fd flags
each_spares S p tag (Request.Close fd) h = close_spares S p fd
each_spares S p tag (Request.Unlink path) h = unlink_spares S path
each_spares S p tag (Request.Listen fd backlog) h = listen_spares S p fd backlog
each_spares S p tag (Request.Shutdown fd how) h = shutdown_spares S p fd how
each_spares S p tag (Request.GetOpt fd opt) h = get_opt_spares S p fd opt
each_spares S p tag (Request.SetOpt fd SockOpt.QueueLimit value) h = limit_spares S p fd value
each_spares S p tag (Request.SetOpt fd opt value) h = absurd (cc h)
each_spares S p tag (Request.Poll fd) h = poll_spares S p fd
each_spares S p tag (Request.PollMany fds waits) h = poll_many_spares S p fds waits
each_spares S p tag (Request.SetIds uid gid) h = ids_spare S p uid gid
each_spares S p tag Request.Exec h = exec_spares S p
each_spares S p tag Request.Exit h = exit_spares S p
each_spares S p tag Request.Off h = off_spares S
each_spares S p tag request h = absurd (false≢true h)

-- an outcome's own reply is neither ENOMEM nor EIO
own_tells : (o : Outcome) → tells_choice o.reply ≡ false → (lacks_memory o.reply ≡ false) × (fails o.reply ≡ false)
own_tells o told = or_parts (lacks_memory o.reply) (fails o.reply) told

not_lacking : (S T : State) (o : Outcome) (reply : Reply) → tells_choice o.reply ≡ false → IsSparing o → Chosen S o reply T →
    ¬ (reply ≡ Reply.Err Errno.ENOMEM)
not_lacking S T o reply told sparing (own e f) h = absurd (cc (sym (own_tells o told).0 ∙ ap lacks_memory (sym e ∙ h)))
not_lacking S T o reply told sparing (lacking_memory e may f) h = absurd (cc (sym sparing ∙ may))
not_lacking S T o reply told sparing (failing e f) h = absurd (cc (sym e ∙ h))

pub never_lacks_memory : NeverLacksMemory
unfolding Step
never_lacks_memory S T p tag request reply gone takes_none s =
    not_lacking S s.0 (outcome S p tag request) reply (each_obeys S p tag request).own_reply (each_spares S p tag request takes_none) s.1

-- ---- failures

-- of the state before anything is released: an object has failed, and is held open if it changed, or all have failed as often
abbrev HasOneFailed : State → State → Reply → Type 0
HasOneFailed S U reply = (reply ≡ Reply.Err Errno.EIO) × OneMoreFailure S U × KeepsObjects S U

abbrev HasNoneFailed : State → State → Reply → Type 0
HasNoneFailed S U reply = (fails reply ≡ false) × FailAlike S U

which : (S U : State) (may : May) (o : Outcome) (reply : Reply) → Obeys S may o → Chosen S o reply U →
    HasOneFailed S U reply ⊎ HasNoneFailed S U reply
which S U may o reply obeys (own e f) = inr
    (ap fails e ∙ (own_tells o obeys.own_reply).1, λ n was. ap (λ (R : State). failures (place R.objects n)) f ∙ obeys.alike n was)
which S U may o reply obeys (lacking_memory e lacks f) = inr (ap fails e, λ n was. ap (λ (R : State). failures (place R.objects n)) f)
which S U may o reply obeys (failing e f) = let left = obeys.failed U f in inl (e, left.0, left.1)

-- ---- and when the call has ended

-- what is there then was there before
was_there : (U : State) (o : ℕ) (view : View) → place (settled U).objects o ≡ Some view → place U.objects o ≡ Some view
was_there U o view h = go (orefs (drop_unreferenced U) o == 0) (place U.objects o) (sym (left_there U o) ∙ h)
  where
    go : (b : Bool) (x : Option View) → (if is_some x && b then None else x) ≡ Some view → x ≡ Some view
    go b None e = absurd (cc e)
    go true (Some x) e = absurd (cc e)
    go false (Some x) e = e

-- ---- where one has failed

failed_twice : (view : View) → after_failure view ≡ view → ⊥
failed_twice view e = let n : view.faults + 1 ≡ view.faults = ap View.faults e in omega (arith, n)

same_view : {a b : View} → ◌≡◌ {A = Option View} (Some a) (Some b) → a ≡ b
same_view e = cc e

after_it : (S U : State) (one : OneMoreFailure S U) → place U.objects one.object ≡ Some (after_failure one.view)
after_it S U one = ap (λ (R : State). place R.objects one.object) one.left
    ∙ get_or-set_same S.objects one.object (Some (after_failure one.view)) None (place_within S.objects one.object one.view one.there)

elsewhere : (S U : State) (one : OneMoreFailure S U) (o : ℕ) → (o ≡ one.object → ⊥) → place U.objects o ≡ place S.objects o
elsewhere S U one o other = ap (λ (R : State). place R.objects o) one.left
    ∙ get_or-set_other S.objects one.object o (Some (after_failure one.view)) None other

has_failed : (S U : State) (one : OneMoreFailure S U) → KeepsObjects S U → HasFailed S (settled U) one.object
has_failed S U one kept = (
  one.view,
  one.there,
  ⊎_elim {C = place (settled U).objects one.object ≡ Some (after_failure one.view)}
      (λ same. absurd (failed_twice one.view (same_view (sym (after_it S U one) ∙ same ∙ one.there))))
      (λ held. held_stays U one.object held ∙ after_it S U one)
      (kept one.object),
)

-- no other has
is_that : (S U : State) (one : OneMoreFailure S U) (o : ℕ) → HasFailed S (settled U) o → o ≡ one.object
is_that S U one o failed = ⊎_elim {C = o ≡ one.object}
    (λ same. same)
    (λ other. absurd (failed_twice failed.0 (same_view
    (sym (was_there U o (after_failure failed.0) failed.2) ∙ elsewhere S U one o other ∙ failed.1))))
    (cases_eq o one.object)

but_one_alike : (S U : State) (one : OneMoreFailure S U) → KeepsObjects S U → (o : ℕ) → ¬ (HasFailed S (settled U) o) →
    FailedAsOften S (settled U) o
but_one_alike S U one kept o not_failed old new was is = ⊎_elim {C = new.faults ≡ old.faults}
    (λ same. absurd (not_failed (subst (HasFailed S (settled U)) (sym same) (has_failed S U one kept))))
    (λ other. ap View.faults (same_view (sym (was_there U o new is) ∙ elsewhere S U one o other ∙ was)))
    (cases_eq o one.object)

one_tells : (S U : State) (reply : Reply) → HasOneFailed S U reply → ReportsFailure S reply (settled U)
one_tells S U reply h = record {
  reported = (λ e. (h.1.object, has_failed S U h.1 h.2), λ failed. h.0);
  one_alone = λ o n first second. is_that S U h.1 o first ∙ sym (is_that S U h.1 n second);
  others_alike = but_one_alike S U h.1 h.2;
}

-- ---- where none has

same_count : {a b : ℕ} → ◌≡◌ {A = Option ℕ} (Some a) (Some b) → a ≡ b
same_count e = cc e

all_alike : (S U : State) → FailAlike S U → (o : ℕ) → FailedAsOften S (settled U) o
all_alike S U alike o old new was is = same_count (sym (ap failures (was_there U o new is)) ∙ alike o (ap is_some was) ∙ ap failures was)

none_failed : (S U : State) → FailAlike S U → (o : ℕ) → HasFailed S (settled U) o → ⊥
none_failed S U alike o failed =
    let n : failed.0.faults + 1 ≡ failed.0.faults = all_alike S U alike o failed.0 (after_failure failed.0) failed.1 failed.2 in
    omega (arith, n)

none_tells : (S U : State) (reply : Reply) → HasNoneFailed S U reply → ReportsFailure S reply (settled U)
none_tells S U reply h = record {
  reported = (λ e. absurd (cc (sym h.0 ∙ ap fails e)), λ failed. absurd (none_failed S U h.1 failed.0 failed.1));
  one_alone = λ o n first second. absurd (none_failed S U h.1 o first);
  others_alike = λ o not_failed. all_alike S U h.1 o;
}

-- ---- the law

pub fails_where_an_object_failed : FailsWhereAnObjectFailed
unfolding Step
fails_where_an_object_failed S T p tag request reply gone s =
    subst (ReportsFailure S reply) (sym s.3) (⊎_elim {C = ReportsFailure S reply (settled s.0)}
    (one_tells S s.0 reply)
    (none_tells S s.0 reply)
    (which S s.0 (may_change request) (outcome S p tag request) reply (each_obeys S p tag request) s.1))
