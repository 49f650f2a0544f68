-- The same call in two states that look alike is answered the same.
use Rattle.std.proofs.Common.{◌≡◌, ℕ, suc, Bool, true, false, List, [], Some, None, refl, ap, sym, ◌∙◌, subst, slice_get}
use Rattle.std.proofs.lemmas.Bool.{false≢true, or_parts}
use Rattle.ux_model.specs.Types.{Errno, Pid, Request, Reply, Entry}
use Rattle.ux_model.specs.State.{State}
use Rattle.ux_model.specs.Release.{settled}
use Rattle.ux_model.specs.Outcome.{Outcome, Chosen, own, lacking_memory, failing}
use Rattle.ux_model.specs.Step.{Step, outcome, lacks_memory, fails}
use Rattle.ux_model.specs.History.{IsLegal}
use Rattle.ux_model.specs.Pedigree.{before}
use Rattle.ux_model.specs.Invariants.{IsWhole}
use Rattle.ux_model.proofs.Changes.Obeying.{tells_choice}
use Rattle.ux_model.proofs.Steps.Calls.{each_obeys}
use Rattle.ux_model.proofs.Pedigrees.Moments.{moment}
use Rattle.ux_laws.specs.Apartness.{Sides, AreApart, LookAlike, ChoseAlike, goes_by_descriptors, SameCallsAreAnsweredAlike}
use Rattle.ux_laws.proofs.Aside.Unseen.{whole_before}
use Rattle.ux_laws.proofs.Aside.Twins.{Twins}
use Rattle.ux_laws.proofs.Aside.Settling.{settled_twins}
use Rattle.ux_laws.proofs.Aside.Agreeing.{Agrees}
use Rattle.ux_laws.proofs.Aside.Descriptors.{dup_agrees, dup2_agrees, dup_from_agrees, get_flags_agree, set_flags_agree, close_agrees}
use Rattle.ux_laws.proofs.Aside.Accepting.{accept_agrees}
use Rattle.ux_laws.proofs.Aside.Messages.{recv_agrees}
use Rattle.ux_laws.proofs.Aside.Sends.{send_agrees}
use Rattle.ux_laws.proofs.Aside.Files.{lseek_agrees, read_agrees, write_agrees}
use Rattle.ux_laws.proofs.Aside.Readiness.{poll_agrees, poll_many_agrees}
use Rattle.ux_laws.proofs.Aside.Sockets.{in_queue_agrees, out_queue_agrees, sock_name_agrees, peer_name_agrees, shutdown_agrees}
use Rattle.ux_laws.proofs.Aside.Sockets.{get_opt_agrees, set_opt_agrees, listen_agrees}
use Rattle.ux_laws.proofs.Aside.Descriptors.{exec_agrees, exit_agrees, ids_agree}

-- ---- calls

pub call_agrees : {sides : Sides} (S T : State) (p tag other : ℕ) (request : Request) → Twins sides S T → sides.process p ≡ true →
    goes_by_descriptors request ≡ true → Agrees sides (outcome S p tag request) (outcome T p other request)
unfolding outcome
call_agrees S T p tag other (Request.Dup fd) twins mine by = dup_agrees S T p fd twins mine
call_agrees S T p tag other (Request.Dup2 fd to) twins mine by = dup2_agrees S T p fd to twins mine
call_agrees S T p tag other (Request.DupFrom fd minimum) twins mine by = dup_from_agrees S T p fd minimum twins mine
call_agrees S T p tag other (Request.GetFlags fd) twins mine by = get_flags_agree S T p fd twins mine
call_agrees S T p tag other (Request.SetFlags fd flags) twins mine by = set_flags_agree S T p fd flags twins mine
call_agrees S T p tag other (Request.Close fd) twins mine by = close_agrees S T p fd twins mine
call_agrees S T p tag other (Request.InQueue fd) twins mine by = in_queue_agrees S T p fd twins mine
call_agrees S T p tag other (Request.OutQueue fd) twins mine by = out_queue_agrees S T p fd twins mine
call_agrees S T p tag other (Request.GetSockName fd) twins mine by = sock_name_agrees S T p fd twins mine
call_agrees S T p tag other (Request.GetPeerName fd) twins mine by = peer_name_agrees S T p fd twins mine
call_agrees S T p tag other (Request.Shutdown fd how) twins mine by = shutdown_agrees S T p fd how twins mine
call_agrees S T p tag other (Request.GetOpt fd opt) twins mine by = get_opt_agrees S T p fd opt twins mine
call_agrees S T p tag other (Request.SetOpt fd opt value) twins mine by = set_opt_agrees S T p fd opt value twins mine by
call_agrees S T p tag other (Request.Listen fd backlog) twins mine by = listen_agrees S T p fd backlog twins mine
call_agrees S T p tag other (Request.Poll fd) twins mine by = poll_agrees S T p fd twins mine
call_agrees S T p tag other (Request.PollMany fds waits) twins mine by = poll_many_agrees S T p fds waits twins mine
call_agrees S T p tag other (Request.RecvMsg fd n space flags) twins mine by = recv_agrees S T p fd n space flags twins mine
call_agrees S T p tag other (Request.SendMsg fd None bytes [] flags) twins mine by = send_agrees S T p tag other fd bytes flags twins mine
call_agrees S T p tag other (Request.Read fd n) twins mine by = read_agrees S T p fd n twins mine
call_agrees S T p tag other (Request.Write fd bytes) twins mine by = write_agrees S T p tag other fd bytes twins mine
call_agrees S T p tag other (Request.Lseek fd offset whence) twins mine by = lseek_agrees S T p fd offset whence twins mine
call_agrees S T p tag other (Request.Accept fd flags) twins mine by = accept_agrees S T p fd flags twins mine
call_agrees S T p tag other (Request.SetIds uid gid) twins mine by = ids_agree S T p uid gid twins mine
call_agrees S T p tag other Request.Exec twins mine by = exec_agrees S T p twins mine
call_agrees S T p tag other Request.Exit twins mine by = exit_agrees S T p twins mine
call_agrees S T p tag other request twins mine by = absurd (false≢true by)

-- ---- what was chosen

-- no outcome's own reply tells a choice
plain : (o : Outcome) → tells_choice o.reply ≡ false → (lacks_memory o.reply ≡ false) × (fails o.reply ≡ false)
plain o tells = or_parts (lacks_memory o.reply) (fails o.reply) tells

clash : (told : Reply → Bool) (r s t : Reply) → told s ≡ told r → told t ≡ false → r ≡ t → told s ≡ true → ⊥
clash told r s t same none is so = false≢true (sym none ∙ sym (ap told is) ∙ sym same ∙ so)

chosen_agree : {sides : Sides} (S T U V : State) (o q : Outcome) (r s : Reply) → Twins sides S T → Agrees sides o q →
    tells_choice o.reply ≡ false → tells_choice q.reply ≡ false → Chosen S o r U → Chosen T q s V → ChoseAlike r s →
    (s ≡ r) × Twins sides U V
chosen_agree {sides} S T U V o q r s twins agrees one two (own a b) (own c d) alike = (
  c ∙ agrees.reply ∙ sym a,
  subst (λ (X : State). Twins sides X V) (sym b) (subst (λ (Y : State). Twins sides o.next Y)
      (sym d) agrees.next),
)
chosen_agree S T U V o q r s twins agrees one two (own a b) (lacking_memory c may d) alike =
    absurd (clash lacks_memory r s o.reply alike.0 (plain o one).0 a (ap lacks_memory c))
chosen_agree S T U V o q r s twins agrees one two (own a b) (failing c d) alike =
    absurd (clash fails r s o.reply alike.1 (plain o one).1 a (ap fails c))
chosen_agree S T U V o q r s twins agrees one two (lacking_memory a may b) (own c d) alike =
    absurd (clash lacks_memory s r q.reply (sym alike.0) (plain q two).0 c (ap lacks_memory a))
chosen_agree {sides} S T U V o q r s twins agrees one two (lacking_memory a may b) (lacking_memory c also d) alike =
    (c ∙ sym a, subst (λ (X : State). Twins sides X V) (sym b) (subst (λ (Y : State). Twins sides S Y) (sym d) twins))
chosen_agree S T U V o q r s twins agrees one two (lacking_memory a may b) (failing c d) alike =
    absurd (clash fails r s (Reply.Err Errno.ENOMEM) alike.1 refl a (ap fails c))
chosen_agree S T U V o q r s twins agrees one two (failing a b) (own c d) alike =
    absurd (clash fails s r q.reply (sym alike.1) (plain q two).1 c (ap fails a))
chosen_agree S T U V o q r s twins agrees one two (failing a b) (lacking_memory c may d) alike =
    absurd (clash fails s r (Reply.Err Errno.ENOMEM) (sym alike.1) refl c (ap fails a))
chosen_agree S T U V o q r s twins agrees one two (failing a b) (failing c d) alike = (c ∙ sym a, agrees.failure U V b d)

step_agrees : {sides : Sides} (S T A B : State) (p tag other : ℕ) (request : Request) (r s : Reply) (gone went : List ℕ) →
    Step S p tag request r gone A → Step T p other request s went B → IsWhole A → IsWhole B → Twins sides S T →
    sides.process p ≡ true → goes_by_descriptors request ≡ true → ChoseAlike r s → (s ≡ r) × Twins sides A B
unfolding Step
step_agrees {sides} S T A B p tag other request r s gone went step also whole as_well twins mine by alike =
    let w = chosen_agree S T step.0 also.0 (outcome S p tag request) (outcome T p other request) r s twins
    (call_agrees S T p tag other request twins mine by) (each_obeys S p tag request).own_reply (each_obeys T p other request).own_reply
    step.1 also.1 alike in (
      w.0,
      subst (λ (X : State). Twins sides X B) (sym step.3) (subst (λ (Y : State). Twins sides (settled step.0) Y) (sym also.3)
          (settled_twins step.0 also.0 w.1 (subst IsWhole step.3 whole) (subst IsWhole also.3 as_well))),
    )

pub twins_are : {sides : Sides} {S T : State} → AreApart sides S → AreApart sides T → LookAlike sides S T → Twins sides S T
twins_are apart aside alike = record { left = apart; right = aside; processes = alike.processes; descriptions = alike.descriptions }

pub look_alike : {sides : Sides} {S T : State} → Twins sides S T → LookAlike sides S T
look_alike twins = record { processes = twins.processes; descriptions = twins.descriptions }

-- of two histories
pub entries_agree : {sides : Sides} (boot other : State) (es fs : List Entry) (j k : ℕ) (e f : Entry) → IsLegal boot es →
    IsLegal other fs → slice_get es j ≡ Some e → slice_get fs k ≡ Some f → Twins sides (before boot es j) (before other fs k) →
    goes_by_descriptors e.request ≡ true → sides.process e.pid.0 ≡ true → f.pid ≡ e.pid → f.request ≡ e.request →
    ChoseAlike e.reply f.reply → (f.reply ≡ e.reply) × Twins sides (before boot es (suc j)) (before other fs (suc k))
entries_agree {sides} boot other es fs j k e f legal also at there twins by mine pid request chose =
    step_agrees (before boot es j) (before other fs k) (before boot es (suc j)) (before other fs (suc k)) e.pid.0 j k e.request e.reply
    f.reply e.released f.released (moment boot es j e legal at).steps
    (subst (λ (x : Pid). Step (before other fs k) x.0 k e.request f.reply f.released (before other fs (suc k))) pid
    (subst (λ (x : Request). Step (before other fs k) f.pid.0 k x f.reply f.released (before other fs (suc k))) request
    (moment other fs k f also there).steps)) (whole_before boot es (suc j) legal) (whole_before other fs (suc k) also) twins mine by chose

pub same_calls_are_answered_alike : SameCallsAreAnsweredAlike
same_calls_are_answered_alike boot other es fs sides j k e f legal also at there apart aside alike by mine pid request chose =
    let w = entries_agree boot other es fs j k e f legal also at there (twins_are apart aside alike) by mine pid request chose in
    (w.0, look_alike w.1)
