-- Each message that waits was sent with its credentials, and what a receive reports of them is that of all the bytes that it gives.
use Rattle.std.proofs.Common.{◌≡◌, ℕ, zero, suc, ◌+◌, ◌≤◌, ◌<◌, ◌==◌, Bool, true, false, not, if◌then◌else◌, List, [], ◌∷◌, ◌++◌, length}
use Rattle.std.proofs.Common.{take, min, Option, Some, None, refl, ap, sym, ◌∙◌, subst, ⊎_elim, arith, slice_get}
use Rattle.std.proofs.lemmas.Bool.{and_parts, false≢true}
use Rattle.std.proofs.lemmas.List.{length-take}
use Rattle.std.proofs.lemmas.List.Sums.{sum_by-cons}
use Rattle.ux_model.specs.Types.{Fd, Cred, MsgFlags, Request, Reply, Entry}
use Rattle.ux_model.specs.Places.{place}
use Rattle.ux_model.specs.Message.{Message, same_cred, queued_bytes, all_bytes}
use Rattle.ux_model.specs.Stream.{front_with_cred, front_to_barrier, joined_run}
use Rattle.ux_model.specs.Front.{front_of, stream_front, record_front}
use Rattle.ux_model.specs.Flags.{are_receive_flags}
use Rattle.ux_model.specs.Socket.{Socket, is_stream}
use Rattle.ux_model.specs.Process.{Descriptor}
use Rattle.ux_model.specs.Delivery.{delivery, writes_cred, control_bytes}
use Rattle.ux_model.specs.State.{State, process_at, socket_at, table_of}
use Rattle.ux_model.specs.Outcome.{Outcome, Chosen, own, lacking_memory, failing}
use Rattle.ux_model.specs.Receiving.{Incoming, incoming, receive_front, recv_msg}
use Rattle.ux_model.specs.Boot.{IsBootState}
use Rattle.ux_model.specs.Step.{Step, outcome}
use Rattle.ux_model.specs.History.{replay, IsLegal}
use Rattle.ux_model.specs.Pedigree.{before}
use Rattle.ux_model.proofs.Changes.Walk.{either}
use Rattle.ux_model.proofs.Messages.FrontRights.{run_front}
use Rattle.ux_model.proofs.Lists.Fronts.{front_is_legal, in_front}
use Rattle.ux_model.proofs.Lists.ByPlace.{get_below, get_before, take_before, take_few, length_front}
use Rattle.ux_model.proofs.Lists.Induction.{IsKept, kept_throughout, get_pushed, take_pushed}
use Rattle.ux_model.proofs.Steps.Replays.{step_replay}
use Rattle.ux_model.proofs.Pedigrees.Moments.{moment}
use Rattle.ux_model.proofs.Tables.Shows.{by_socket}
use Rattle.ux_model.proofs.Tables.MessageShows.{by_receive}
use Rattle.ux_laws.specs.Talking.{socket_through}
use Rattle.ux_laws.specs.Credentials.{SentWith, IsHonest, no_cred, of_sender, CredentialsAreTheSenders}
use Rattle.ux_laws.proofs.Doing.Outcomes.{through_is}
use Rattle.ux_laws.proofs.Doing.Sending.{same_creds}
use Rattle.ux_laws.proofs.Acts.{IsSending}
use Rattle.ux_laws.proofs.Parts.{glance}
use Rattle.ux_laws.proofs.Flows.{waiting_in, waiting_at, waiting_is, step_flow, flow_waits, IsOf}

-- ---- each message that waits

-- the state is that of the history, and each message that waits was sent with its credentials
record AllWith (boot : State) (es : List Entry) (S : State) : Type 0 where
  pub reached : S ≡ replay boot es
  pub each : (d k : ℕ) (m : Message) → slice_get (waiting_at S d) k ≡ Some m → SentWith boot es m.tag m.cred

with_more : (boot : State) (es : List Entry) (e : Entry) (tag : ℕ) (cred : Cred) → SentWith boot es tag cred →
    SentWith boot (es ++ e ∷ []) tag cred
with_more boot es e tag cred s =
    let below = get_below es tag s.sending s.there in
    record {
      sending = s.sending;
      process = s.process;
      there = get_before es (e ∷ []) tag below ∙ s.there;
      sender = ap (λ (l : List Entry). process_at (replay boot l) s.sending.pid.0) (take_before es (e ∷ []) tag (omega (arith, below)))
          ∙ s.sender;
      may = s.may;
    }

sent_now : (boot : State) (es : List Entry) (e : Entry) (d : ℕ) (m : Message) →
    IsSending (replay boot es) e.pid.0 (length es) e.request e.reply d m → SentWith boot (es ++ e ∷ []) m.tag m.cred
sent_now boot es e d m a = record {
  sending = e;
  process = a.process;
  there = ap (λ k. slice_get (es ++ e ∷ []) k) a.tagged ∙ get_pushed es e;
  sender = ap (λ k. process_at (before boot (es ++ e ∷ []) k) e.pid.0) a.tagged
      ∙ ap (λ (l : List Entry). process_at (replay boot l) e.pid.0) (take_pushed es (e ∷ [])) ∙ a.caller;
  may = a.cred;
}

same_message : (boot : State) (es : List Entry) (m x : Message) → IsOf m x → SentWith boot es x.tag x.cred → SentWith boot es m.tag m.cred
same_message boot es m x is s = subst (λ (t : ℕ). SentWith boot es t m.cred) (sym is.tag)
    (subst (λ (c : Cred). SentWith boot es x.tag c) (sym is.cred) s)

nothing_waits : (boot : State) (d k : ℕ) (m : Message) → IsBootState boot → slice_get (waiting_at boot d) k ≡ Some m → ⊥
nothing_waits boot d k m boots h =
    let none : slice_get [] k ≡ Some m = sym (ap (λ ds. slice_get (waiting_in (glance (place ds d)).0) k) boots.no_descriptions) ∙ h in
    cc none

with_kept : (boot : State) → IsKept boot (AllWith boot)
with_kept boot = record {
  at_boot = λ boots. record { reached = refl; each = λ d k m h. absurd (nothing_waits boot d k m boots h) };
  by_entry = λ es e S T so_far step may. further es e S T so_far step;
}
  where
    further : (es : List Entry) (e : Entry) (S T : State) → AllWith boot es S → Step S e.pid.0 (length es) e.request e.reply e.released T →
        AllWith boot (es ++ e ∷ []) T
    further es e S T so_far step = record {
      reached = step_replay boot T es e (subst
          (λ (R : State). Step R e.pid.0 (length es) e.request e.reply e.released T) so_far.reached step);
      each = λ d k m h. ⊎_elim {C = SentWith boot (es ++ e ∷ []) m.tag m.cred}
          (λ old. same_message boot (es ++ e ∷ []) m old.1 old.3
          (with_more boot es e old.1.tag old.1.cred (so_far.each d old.0 old.1 old.2)))
          (λ new. same_message boot (es ++ e ∷ []) m new.0 new.2
          (sent_now boot es e d new.0 (subst (λ (R : State). IsSending R e.pid.0 (length es) e.request e.reply d new.0) so_far.reached
          new.1)))
          (flow_waits S T e.pid.0 (length es) e.request e.reply d k m (step_flow S T e.pid.0 (length es) e.request e.reply e.released step)
          h);
    }

-- what waits when call j is made
pub sent_before : (boot : State) (es : List Entry) (j d k : ℕ) (m : Message) → IsLegal boot es → j ≤ length es →
    slice_get (waiting_at (before boot es j) d) k ≡ Some m → (m.tag < j) × SentWith boot es m.tag m.cred
sent_before boot es j d k m legal within h =
    let s = (kept_throughout boot (AllWith boot) (with_kept boot) (take j es) (front_is_legal boot es j legal)).each d k m h in
    let f = in_front es j m.tag s.sending s.there in
    let below = get_below (take j es) m.tag s.sending s.there in
    let long = length_front es j within in (
      omega (arith, below, long),
      record {
        sending = s.sending;
        process = s.process;
        there = f.0;
        sender = ap (λ (l : List Entry). process_at (replay boot l) s.sending.pid.0) (sym f.1) ∙ s.sender;
        may = s.may;
      },
    )

-- ---- what a receive gives

-- the control bytes and the bytes that it reports
data Reports (S : State) (p : ℕ) (request : Request) (bytes control : List ℕ) : Type 0 where
  nothing : control ≡ [] → Reports S p request bytes control
  of_front : (d n space : ℕ) (s : Socket) (m : Message) (ms : List Message) → socket_through S p request ≡ Some (d, s) →
      socket_at S d ≡ Some s → s.queue ≡ m ∷ ms →
      control ≡ (delivery s.passcred (front_of n s m ms).cred (front_of n s m ms).rights space (table_of S p)).control →
      bytes ≡ (front_of n s m ms).bytes → Reports S p request bytes control

abbrev control_of : Reply → List ℕ
control_of (Reply.Received flags count bytes control from) = control
control_of _ = []

abbrev bytes_of : Reply → List ℕ
bytes_of (Reply.Received flags count bytes control from) = bytes
bytes_of _ = []

front_reports : (S : State) (p d : ℕ) (request : Request) (s : Socket) (asked : Incoming) (m : Message) (ms : List Message) →
    socket_through S p request ≡ Some (d, s) → socket_at S d ≡ Some s → s.queue ≡ m ∷ ms →
    Reports S p request (bytes_of (receive_front S p d s asked (front_of asked.n s m ms)).reply)
    (control_of (receive_front S p d s asked (front_of asked.n s m ms)).reply)
unfolding receive_front
front_reports S p d request s asked m ms through there q = of_front d asked.n asked.space s m ms through there q refl refl

recv_reports : (S : State) (p n space : ℕ) (fd : Fd) (flags : MsgFlags) →
    Reports S p (Request.RecvMsg fd n space flags) (bytes_of (recv_msg S p fd n space flags).reply)
    (control_of (recv_msg S p fd n space flags).reply)
unfolding recv_msg
recv_reports S p n space fd flags = by_socket Q S p fd _ (λ e. nothing refl)
    (λ d s h there. either Q (not (are_receive_flags flags)) _ _ (λ b. nothing refl)
    (λ b. by_receive Q S p d s (incoming n space flags) (λ e. nothing refl) (nothing refl) (λ none. nothing refl)
    (λ m ms q. front_reports S p d (Request.RecvMsg fd n space flags) s (incoming n space flags) m ms
    (through_is S p d fd s (Request.RecvMsg fd n space flags) refl h) there q)))
  where
    Q : Outcome → Type 0
    Q o = Reports S p (Request.RecvMsg fd n space flags) (bytes_of o.reply) (control_of o.reply)

-- ---- the bytes are all of one sender

bytes_first : (m : Message) (ms : List Message) → queued_bytes (m ∷ ms) ≡ length m.bytes + queued_bytes ms
bytes_first m ms = sum_by-cons (λ m. length (Message.bytes m)) m ms

-- a message with fewer bytes before it than a front has is in that front
in_run : (run rest : List Message) (k : ℕ) (x : Message) → slice_get (run ++ rest) k ≡ Some x →
    queued_bytes (take k (run ++ rest)) < queued_bytes run → slice_get run k ≡ Some x
in_run [] rest k x h few = absurd (omega (arith, few))
in_run (m ∷ run) rest zero x h few = h
in_run (m ∷ run) rest (suc k) x h few =
    let a = bytes_first m (take k (run ++ rest)) in
    let b = bytes_first m run in
    in_run run rest k x h (omega (arith, few, a, b))

in_barrier : (q : List Message) (k : ℕ) (x : Message) → slice_get (front_to_barrier q) k ≡ Some x → slice_get q k ≡ Some x
in_barrier [] k x h = h
in_barrier (m ∷ ms) k x h = go (in_barrier ms) (length m.rights == 0) k h
  where
    go : ((k : ℕ) (x : Message) → slice_get (front_to_barrier ms) k ≡ Some x → slice_get ms k ≡ Some x) → (b : Bool) (k : ℕ) →
        slice_get (if b then m ∷ front_to_barrier ms else m ∷ []) k ≡ Some x → slice_get (m ∷ ms) k ≡ Some x
    go rest true zero h = h
    go rest true (suc k) h = rest k x h
    go rest false zero h = h
    go rest false (suc k) h = absurd (cc h)

all_alike : (cred : Cred) (q : List Message) (k : ℕ) (x : Message) → slice_get (front_with_cred cred q) k ≡ Some x → x.cred ≡ cred
all_alike cred [] k x h = absurd (cc h)
all_alike cred (m ∷ ms) k x h = go (all_alike cred ms) (same_cred m.cred cred) refl k h
  where
    go : ((k : ℕ) (x : Message) → slice_get (front_with_cred cred ms) k ≡ Some x → x.cred ≡ cred) → (b : Bool) → same_cred m.cred cred ≡ b →
        (k : ℕ) →
        slice_get (if b then m ∷ front_with_cred cred ms else []) k ≡ Some x → x.cred ≡ cred
    go rest true same zero h = let e : m ≡ x = cc h in sym (ap (λ (w : Message). w.cred) e) ∙ same_creds m.cred cred same
    go rest true same (suc k) h = rest k x h
    go rest false same k h = absurd (cc h)

-- where credentials are wanted, each message of which a byte is given has those of the first
given_alike : (n : ℕ) (s : Socket) (m : Message) (ms : List Message) (k : ℕ) (x : Message) → s.passcred ≡ true →
    slice_get (m ∷ ms) k ≡ Some x → queued_bytes (take k (m ∷ ms)) < length (front_of n s m ms).bytes → x.cred ≡ m.cred
given_alike n s m ms k x wants h few = go (is_stream s.kind) few
  where
    of_stream : (wants : Bool) → wants ≡ true → queued_bytes (take k (m ∷ ms)) < length (stream_front wants n m ms).bytes → x.cred ≡ m.cred
    of_stream false w few = absurd (false≢true w)
    of_stream true w few =
        let run : List Message = joined_run true m ms in
        let f = run_front true m ms in
        let t = take_few (min n (queued_bytes run)) (all_bytes run) in
        let fewer : queued_bytes (take k (run ++ f.rest)) < queued_bytes run =
        subst (λ (q : List Message). queued_bytes (take k q) < queued_bytes run) (sym f.is) (omega (arith, few, t)) in
        let at : slice_get run k ≡ Some x = in_run run f.rest k x (ap (λ (q : List Message). slice_get q k) f.is ∙ h) fewer in
        all_alike m.cred (m ∷ ms) k x (in_barrier (front_with_cred m.cred (m ∷ ms)) k x at)

    of_record : (k : ℕ) → slice_get (m ∷ ms) k ≡ Some x → queued_bytes (take k (m ∷ ms)) < length (take n m.bytes) → x.cred ≡ m.cred
    of_record zero h few = let e : m ≡ x = cc h in sym (ap (λ (w : Message). w.cred) e)
    of_record (suc k) h few =
        let a = bytes_first m (take k ms) in
        let t = length-take n m.bytes in
        absurd (omega (arith, few, a, t))

    go : (b : Bool) → queued_bytes (take k (m ∷ ms)) < length (if b then stream_front s.passcred n m ms else record_front n m ms).bytes →
        x.cred ≡ m.cred
    go true few = of_stream s.passcred wants few
    go false few = of_record k h few

first_cred : (n : ℕ) (s : Socket) (m : Message) (ms : List Message) → (front_of n s m ms).cred ≡ m.cred
first_cred n s m ms = go (is_stream s.kind)
  where
    go : (b : Bool) → (if b then stream_front s.passcred n m ms else record_front n m ms).cred ≡ m.cred
    go true = refl
    go false = refl

-- what is written to the control buffer
data Writes (wanted : Bool) (cred : Cred) (control : List ℕ) : Type 0 where
  rights_alone : (numbers : List ℕ) → control ≡ control_bytes None numbers → Writes wanted cred control
  cred_first : (numbers : List ℕ) → wanted ≡ true → control ≡ control_bytes (Some cred) numbers → Writes wanted cred control

delivery_writes : (wanted : Bool) (cred : Cred) (rights : List ℕ) (space : ℕ) (table : List (Option Descriptor)) →
    Writes wanted cred (delivery wanted cred rights space table).control
unfolding delivery
delivery_writes wanted cred rights space table = go (writes_cred wanted space) refl _
  where
    go : (b : Bool) → writes_cred wanted space ≡ b → (numbers : List ℕ) →
        Writes wanted cred (control_bytes (if b then Some cred else None) numbers)
    go true h numbers = cred_first numbers (and_parts wanted _ h).0 refl
    go false h numbers = rights_alone numbers refl

-- ---- the law

honest : (boot : State) (es : List Entry) (j : ℕ) (e : Entry) (bytes control : List ℕ) → IsLegal boot es → slice_get es j ≡ Some e →
    Reports (before boot es j) e.pid.0 e.request bytes control → IsHonest boot es j e bytes control
honest boot es j e bytes control legal at (nothing h) = no_cred [] h
honest boot es j e bytes control legal at (of_front d n space s m ms through there q told bs) =
    let within = get_below es j e at in
    let wait : waiting_at (before boot es j) d ≡ m ∷ ms = waiting_is (before boot es j) d s there ∙ q in
    let sent = λ (k : ℕ) (x : Message) (h : slice_get (m ∷ ms) k ≡ Some x). sent_before boot es j d k x legal (omega (arith, within))
    (ap (λ l. slice_get l k) wait ∙ h) in
    by_writes sent (subst (Writes s.passcred m.cred) (sym told)
    (subst (λ (c : Cred). Writes s.passcred m.cred
    (delivery s.passcred c (front_of n s m ms).rights space (table_of (before boot es j) e.pid.0)).control) (sym (first_cred n s m ms))
    (delivery_writes s.passcred m.cred (front_of n s m ms).rights space (table_of (before boot es j) e.pid.0))))
  where
    by_writes : ((k : ℕ) (x : Message) → slice_get (m ∷ ms) k ≡ Some x → (x.tag < j) × SentWith boot es x.tag x.cred) →
        Writes s.passcred m.cred control → IsHonest boot es j e bytes control
    by_writes sent (rights_alone numbers h) = no_cred numbers h
    by_writes sent (cred_first numbers wants h) = of_sender (record {
      number = d;
      socket = s;
      oldest = m;
      later = ms;
      numbers = numbers;
      through = through;
      waits = q;
      reported = h;
      earlier = (sent 0 m refl).0;
      sent = (sent 0 m refl).1;
      each = λ k x here few.
          let there_now : slice_get (m ∷ ms) k ≡ Some x = sym (ap (λ l. slice_get l k) q) ∙ here in
          let long : length bytes ≡ length (front_of n s m ms).bytes = ap (λ (l : List ℕ). length l) bs in
          let few_now : queued_bytes (take k (m ∷ ms)) < length bytes =
          subst (λ (l : List Message). queued_bytes (take k l) < length bytes) q few in
          subst (λ (c : Cred). SentWith boot es x.tag c) (given_alike n s m ms k x wants there_now (omega (arith, few_now, long)))
          (sent k x there_now).1;
    })

chosen_reports : (S T : State) (p : ℕ) (request : Request) (o : Outcome) (reply : Reply) →
    Reports S p request (bytes_of o.reply) (control_of o.reply) → Chosen S o reply T →
    Reports S p request (bytes_of reply) (control_of reply)
chosen_reports S T p request o reply r (own e f) = subst (λ (x : Reply). Reports S p request (bytes_of x) (control_of x)) (sym e) r
chosen_reports S T p request o reply r (lacking_memory e may f) = nothing (ap control_of e)
chosen_reports S T p request o reply r (failing e f) = nothing (ap control_of e)

step_reports : (S T : State) (p tag n space : ℕ) (fd : Fd) (flags : MsgFlags) (reply : Reply) (gone : List ℕ) →
    Step S p tag (Request.RecvMsg fd n space flags) reply gone T →
    Reports S p (Request.RecvMsg fd n space flags) (bytes_of reply) (control_of reply)
unfolding Step outcome
step_reports S T p tag n space fd flags reply gone s =
    chosen_reports S s.0 p (Request.RecvMsg fd n space flags) (recv_msg S p fd n space flags) reply (recv_reports S p n space fd flags) s.1

pub credentials_are_the_senders : CredentialsAreTheSenders
credentials_are_the_senders boot es j n space count e fd asked flags bytes control from legal at request reply =
    let s = (moment boot es j e legal at).steps in
    let moved : Step (before boot es j) e.pid.0 j (Request.RecvMsg fd n space asked) (Reply.Received flags count bytes control from)
    e.released (before boot es (suc j)) =
    subst (λ (r : Request). Step (before boot es j) e.pid.0 j r (Reply.Received flags count bytes control from) e.released
    (before boot es (suc j))) request
    (subst (λ (r : Reply). Step (before boot es j) e.pid.0 j e.request r e.released (before boot es (suc j))) reply s) in
    honest boot es j e bytes control legal at (subst (λ (r : Request). Reports (before boot es j) e.pid.0 r bytes control) (sym request)
    (step_reports (before boot es j) (before boot es (suc j)) e.pid.0 j n space fd asked (Reply.Received flags count bytes control from)
    e.released moved))
