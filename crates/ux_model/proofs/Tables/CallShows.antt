-- So does each call, whatever was chosen, and each message with rights that waits was sent.
use Rattle.std.proofs.Common.{◌≡◌, ℕ, Bool, true, false, not, ◌&&◌, ◌==◌, if◌then◌else◌, List}
use Rattle.std.proofs.Common.{length, Option, Some, None, refl, ap, sym, ◌∙◌, subst}
use Rattle.std.specs.Prelude.{IsTrue}
use Rattle.std.proofs.lemmas.Bool.{false≢true}
use Rattle.ux_model.specs.Types.{Errno, Request, Reply}
use Rattle.ux_model.specs.Places.{place}
use Rattle.ux_model.specs.Description.{Description}
use Rattle.ux_model.specs.Process.{Process}
use Rattle.ux_model.specs.State.{State, process_at, is_live}
use Rattle.ux_model.specs.Outcome.{Outcome, Chosen, own, lacking_memory, failing}
use Rattle.ux_model.specs.Closing.{off}
use Rattle.ux_model.specs.Release.{settled, drop_unreferenced}
use Rattle.ux_model.specs.Step.{Step, outcome}
use Rattle.ux_model.specs.Asking.{asks}
use Rattle.ux_model.specs.History.{is_off, has_live, is_allowed}
use Rattle.ux_model.specs.Changes.{ChangesTables, StepChangesTables}
use Rattle.ux_model.proofs.Changes.Reaching.{may_change}
use Rattle.ux_model.proofs.Changes.Obeying.{Obeys}
use Rattle.ux_model.proofs.Steps.Calls.{each_obeys}
use Rattle.ux_model.proofs.Steps.Asking.{Asks, each_asks, asking_plain}
use Rattle.ux_model.proofs.Processes.Living.{settled_keeps}
use Rattle.ux_model.proofs.Tables.Queues.{queue_in, Quiet, Mail, quiet_mail}
use Rattle.ux_model.proofs.Tables.Queues.{Waits, settled_waits}
use Rattle.ux_model.proofs.Tables.Replacing.{replaced_none, IsPlain, gives_none}
use Rattle.ux_model.proofs.Tables.Replacing.{live_process, held_alike, refusal}
use Rattle.ux_model.proofs.Tables.Shows.{Shows, silent, answers}
use Rattle.ux_model.proofs.Tables.DescriptorShows.{dup_shows, dup2_shows, dup_from_shows, flags_show, close_shows}
use Rattle.ux_model.proofs.Tables.DescriptorShows.{exit_shows, exec_shows, ids_show, fork_shows, off_shows}
use Rattle.ux_model.proofs.Tables.SocketShows.{open_shows, socket_shows, pair_shows, accept_shows, unlink_shows, bind_shows}
use Rattle.ux_model.proofs.Tables.SocketShows.{listen_shows, shutdown_shows, connect_shows, get_opt_shows}
use Rattle.ux_model.proofs.Tables.SocketShows.{set_opt_shows}
use Rattle.ux_model.proofs.Tables.MakingShows.{create_shows, memory_shows, counter_shows, pipe_shows}
use Rattle.ux_model.proofs.Tables.MessageShows.{shown_alike, send_shows, recv_shows}
use Rattle.ux_model.proofs.Tables.FileShows.{read_shows, write_shows, lseek_shows}

-- ---- all calls

-- those that don't only ask
act_shows : (S : State) (p tag : ℕ) (request : Request) (P : Process) → process_at S p ≡ Some P → asks request ≡ false →
    Shows S p tag request (outcome S p tag request)
unfolding outcome
act_shows S p tag (Request.Open path mode flags) P here h = open_shows S p tag path mode flags P here
act_shows S p tag (Request.Create path mode flags) P here h = create_shows S p tag path mode flags P here
act_shows S p tag (Request.MemFd flags) P here h = memory_shows S p tag flags P here
act_shows S p tag (Request.EventFd value semaphore flags) P here h = counter_shows S p tag value semaphore flags P here
act_shows S p tag (Request.Pipe flags) P here h = pipe_shows S p tag flags P here
act_shows S p tag (Request.Read fd n) P here h = read_shows S p tag fd n P here
act_shows S p tag (Request.Write fd bytes) P here h = write_shows S p tag fd bytes
act_shows S p tag (Request.Lseek fd offset whence) P here h = lseek_shows S p tag fd offset whence
act_shows S p tag (Request.Dup fd) P here h = dup_shows S p tag fd P here
act_shows S p tag (Request.Dup2 fd to) P here h = dup2_shows S p tag fd to P here
act_shows S p tag (Request.DupFrom fd minimum) P here h = dup_from_shows S p tag fd minimum P here
act_shows S p tag (Request.SetFlags fd flags) P here h = flags_show S p tag fd flags P here
act_shows S p tag (Request.Close fd) P here h = close_shows S p tag fd P here
act_shows S p tag (Request.Unlink path) P here h = unlink_shows S p tag path
act_shows S p tag (Request.Socket kind flags) P here h = socket_shows S p tag kind flags P here
act_shows S p tag (Request.SocketPair kind flags) P here h = pair_shows S p tag kind flags
act_shows S p tag (Request.Bind fd addr) P here h = bind_shows S p tag fd addr
act_shows S p tag (Request.Listen fd backlog) P here h = listen_shows S p tag fd backlog
act_shows S p tag (Request.Connect fd addr) P here h = connect_shows S p tag fd addr
act_shows S p tag (Request.Accept fd flags) P here h = accept_shows S p tag fd flags P here
act_shows S p tag (Request.Shutdown fd how) P here h = shutdown_shows S p tag fd how
act_shows S p tag (Request.GetOpt fd opt) P here h = get_opt_shows S p tag fd opt
act_shows S p tag (Request.SetOpt fd opt value) P here h = set_opt_shows S p tag fd opt value
act_shows S p tag (Request.SendMsg fd addr bytes control flags) P here h = send_shows S p tag fd addr bytes control flags
act_shows S p tag (Request.RecvMsg fd n space flags) P here h = recv_shows S p tag fd n space flags P here
act_shows S p tag (Request.SetIds uid gid) P here h = ids_show S p tag uid gid
act_shows S p tag Request.Fork P here h = fork_shows S p tag
act_shows S p tag Request.Exec P here h = exec_shows S p tag
act_shows S p tag Request.Exit P here h = exit_shows S p tag
act_shows S p tag Request.Off P here h = off_shows S p tag
act_shows S p tag request P here h = absurd (false≢true (sym h))

asking_shows : (S : State) (p tag : ℕ) (request : Request) (o : Outcome) → IsPlain request → Asks S o → Shows S p tag request o
asking_shows S p tag request o plain a = answers plain (ap (λ (U : State). U.processes) a.next)
    (gives_none S p request o.reply a.numberless) a.childless (subst (Quiet S) (sym a.next) (silent S))

pub each_shows : (S : State) (p tag : ℕ) (request : Request) (P : Process) → process_at S p ≡ Some P →
    Shows S p tag request (outcome S p tag request)
each_shows S p tag request P here = go (asks request) refl
  where
    go : (b : Bool) → asks request ≡ b → Shows S p tag request (outcome S p tag request)
    go true h = asking_shows S p tag request (outcome S p tag request) (asking_plain request h) (each_asks S p tag request h)
    go false h = act_shows S p tag request P here h

-- ---- what was chosen

-- an error that leaves the processes and the queues
error_shows : (S T : State) (p tag : ℕ) (request : Request) (e : Errno) → is_off request ≡ false → T.processes ≡ S.processes → Quiet S T →
    ChangesTables S p request (Reply.Err e) T × Mail S p tag request T
error_shows S T p tag request e on same quiet = (refusal S T p request e (replaced_none S T p same) on, quiet_mail S T p tag request quiet)

quiet_same : (S T : State) → T.descriptions ≡ S.descriptions → Quiet S T
quiet_same S T same d = ap (λ (ds : List (Option Description)). queue_in (place ds d)) same

pub chosen_shows : (S T : State) (p tag : ℕ) (request : Request) (reply : Reply) → Shows S p tag request (outcome S p tag request) →
    Obeys S (may_change request) (outcome S p tag request) →
    is_off request ≡ false → Chosen S (outcome S p tag request) reply T → ChangesTables S p request reply T × Mail S p tag request T
chosen_shows S T p tag request reply shows obeys on (own e f) =
    let s : Shows S p tag request (record (outcome S p tag request) { reply = reply; next = T }) =
    shown_alike (outcome S p tag request) (record (outcome S p tag request) { reply = reply; next = T }) e f shows in
    (s.tables, s.mail)
chosen_shows S T p tag request reply shows obeys on (lacking_memory e may f) =
    subst (λ (x : Reply). ChangesTables S p request x T × Mail S p tag request T) (sym e)
    (error_shows S T p tag request Errno.ENOMEM on (ap (λ (U : State). U.processes) f)
    (quiet_same S T (ap (λ (U : State). U.descriptions) f)))
chosen_shows S T p tag request reply shows obeys on (failing e f) =
    let one = (obeys.failed T f).0 in
    subst (λ (x : Reply). ChangesTables S p request x T × Mail S p tag request T) (sym e)
    (error_shows S T p tag request Errno.EIO on (ap (λ (U : State). U.processes) one.left)
    (quiet_same S T (ap (λ (U : State). U.descriptions) one.left)))

-- the end of the layer makes no choice
off_lacks_none : (S : State) → IsTrue (off S).may_lack_memory → ⊥
unfolding off
off_lacks_none S may = cc may

off_fails_not : (S : State) → (off S).failure ≡ None
unfolding off
off_fails_not S = refl

off_chosen : (S T : State) (p tag : ℕ) (reply : Reply) → Chosen S (off S) reply T →
    ChangesTables S p Request.Off reply T × Mail S p tag Request.Off T
off_chosen S T p tag reply (own e f) =
    let s : Shows S p tag Request.Off (record (off S) { reply = reply; next = T }) =
    shown_alike (off S) (record (off S) { reply = reply; next = T }) e f (off_shows S p tag) in
    (s.tables, s.mail)
off_chosen S T p tag reply (lacking_memory e may f) = absurd (off_lacks_none S may)
off_chosen S T p tag reply (failing e f) = absurd (cc (f, off_fails_not S))

allowed_live : (S : State) (p k : ℕ) (request : Request) → is_off request ≡ false → is_allowed S p k request ≡ true → is_live S p ≡ true
allowed_live S p k request on may = sym (ap (λ b. if b then (p == 0) && ((k == 0) && not (has_live S)) else is_live S p) on) ∙ may

call_shows : (S T : State) (p k tag : ℕ) (request : Request) (reply : Reply) → is_allowed S p k request ≡ true →
    Chosen S (outcome S p tag request) reply T →
    ChangesTables S p request reply T × Mail S p tag request T
unfolding outcome
call_shows S T p k tag Request.Off reply may c = off_chosen S T p tag reply c
call_shows S T p k tag request reply may c =
    let P = live_process S p (allowed_live S p k request refl may) in
    chosen_shows S T p tag request reply (each_shows S p tag request P.0 P.1) (each_obeys S p tag request) refl c

-- what goes at the end of a call changes no table
settled_mail : (S U T : State) (p tag : ℕ) (request : Request) → T ≡ settled U → Mail S p tag request U → Mail S p tag request T
settled_mail S U T p tag request is mail m rich w = mail m rich (settled_waits U m (subst (λ (V : State). Waits V m) is w))

settled_tables : (S U T : State) (p : ℕ) (request : Request) (reply : Reply) → T.processes ≡ U.processes →
    ChangesTables S p request reply U → ChangesTables S p request reply T
settled_tables S U T p request reply same c = record {
  others = λ q n d m. held_alike U T q n same ∙ c.others q n d m;
  child = λ q n m. held_alike U T q n same ∙ c.child q n m;
  own = λ n g. held_alike U T p n same ∙ c.own n g;
  new = λ i n g. let w = c.new i n g in (w.0, w.1, held_alike U T p n same ∙ w.2);
  once = c.once;
}

step_shows : (S T : State) (p k tag : ℕ) (request : Request) (reply : Reply) (gone : List ℕ) → Step S p tag request reply gone T →
    is_allowed S p k request ≡ true →
    ChangesTables S p request reply T × Mail S p tag request T
unfolding Step settled drop_unreferenced
step_shows S T p k tag request reply gone s may =
    let shown = call_shows S s.0 p k tag request reply may s.1 in
    let same : T.processes ≡ (State.processes s.0) = ap State.processes s.3 ∙ settled_keeps (length (State.descriptions s.0)) s.0 in
    (settled_tables S s.0 T p request reply same shown.0, settled_mail S s.0 T p tag request s.3 shown.1)

pub step_changes_tables : StepChangesTables
step_changes_tables S T p k tag request reply gone s may = (step_shows S T p k tag request reply gone s may).0

pub step_mail : (S T : State) (p k tag : ℕ) (request : Request) (reply : Reply) (gone : List ℕ) → Step S p tag request reply gone T →
    is_allowed S p k request ≡ true → Mail S p tag request T
step_mail S T p k tag request reply gone s may = (step_shows S T p k tag request reply gone s may).1
