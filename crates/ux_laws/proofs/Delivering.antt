-- What was sent to a stream socket is what was received from it, and then what waits.
use Rattle.std.proofs.Common.{◌≡◌, ℕ, zero, suc, ◌+◌, ◌-◌, ◌==◌, Bool, true, false, cond, if◌then◌else◌, List, [], ◌∷◌, ◌++◌, length, take}
use Rattle.std.proofs.Common.{drop, min, Option, Some, None, refl, ap, sym, ◌∙◌, subst, arith}
use Rattle.std.specs.Prelude.{nat_le}
use Rattle.std.proofs.lemmas.Bool.{eqb-true, false≢true, leb-true, leb-false}
use Rattle.std.proofs.lemmas.List.{append-nil, append_assoc, take-append-drop, take-append-le, drop-append-le}
use Rattle.std.proofs.lemmas.List.Concat.{length-flat_map}
use Rattle.std.proofs.lemmas.Grind.{flat_map-append}
use Rattle.std.proofs.Math.Seq.{take-length, drop-append-add}
use Rattle.std.proofs.Math.Nat.{min-le_right}
use Rattle.ux_model.specs.Types.{Request, Reply, Entry}
use Rattle.ux_model.specs.Message.{Message, queued_bytes, all_bytes}
use Rattle.ux_model.specs.Stream.{joined_run, without_first}
use Rattle.ux_model.specs.Front.{front_of, stream_front, record_front}
use Rattle.ux_model.specs.Places.{place}
use Rattle.ux_model.specs.Socket.{Socket, is_stream, stream_room, sent_part, sent, with_queue}
use Rattle.ux_model.specs.State.{State, socket_at}
use Rattle.ux_model.specs.Step.{Step}
use Rattle.ux_model.specs.History.{replay}
use Rattle.ux_model.proofs.Messages.FrontRights.{run_front}
use Rattle.ux_model.proofs.Lists.ByPlace.{take_none}
use Rattle.ux_model.proofs.Lists.ChangedPlaces.{bool_cases}
use Rattle.ux_model.proofs.Lists.Induction.{IsKept, kept_throughout}
use Rattle.ux_model.proofs.Steps.Replays.{step_replay}
use Rattle.ux_laws.specs.Talking.{offered_bytes, request_addr, is_peek, taken_count, given_bytes, goes_to, is_number, is_first, sends_to}
use Rattle.ux_laws.specs.Talking.{receives_through}
use Rattle.ux_laws.specs.Streams.{sent_now, received_now, bytes_sent, bytes_received, StreamsAreReliable}
use Rattle.ux_laws.proofs.Parts.{glance}
use Rattle.ux_laws.specs.Records.{is_given}
use Rattle.ux_laws.proofs.Acts.{either_none, none_either, IsSending, IsTaking}
use Rattle.ux_laws.proofs.Flows.{waiting_in, waiting_at, waiting_is, Flow, calm, put_in, taken, step_flow, IsAt, at_socket, kind_there}
use Rattle.ux_laws.proofs.Flows.{at_shrunk, at_calm, at_changed, changed_waiting}
use Rattle.ux_laws.proofs.Gathers.{gathered_push}

-- ---- bytes

take_again : (n : ℕ) (xs : List ℕ) → take (length (take n xs)) xs ≡ take n xs
take_again zero [] = refl
take_again (suc n) [] = refl
take_again zero (x ∷ xs) = refl
take_again (suc n) (x ∷ xs) = ap (λ l. x ∷ l) (take_again n xs)

drop_nil : (n : ℕ) → ◌≡◌ {A = List ℕ} (drop n []) []
drop_nil zero = refl
drop_nil (suc n) = refl

-- a queue without its first bytes
rest_bytes : (n : ℕ) (q : List Message) → all_bytes (without_first n q) ≡ drop n (all_bytes q)
rest_bytes n [] = sym (drop_nil n)
rest_bytes zero (m ∷ ms) = refl
rest_bytes (suc n) (m ∷ ms) = go (rest_bytes (suc n - length m.bytes) ms) (nat_le (length m.bytes) (suc n)) refl
  where
    go : all_bytes (without_first (suc n - length m.bytes) ms) ≡ drop (suc n - length m.bytes) (all_bytes ms) → (b : Bool) →
        nat_le (length m.bytes) (suc n) ≡ b →
        all_bytes (if b then without_first (suc n - length m.bytes) ms else record m { bytes = drop (suc n) m.bytes; rights = [] } ∷ ms) ≡
        drop (suc n) (m.bytes ++ all_bytes ms)
    go rest true h =
        let le = leb-true (length m.bytes) (suc n) h in
        let sum : length m.bytes + (suc n - length m.bytes) ≡ suc n = omega (arith, le) in
        rest ∙ sym (drop-append-add m.bytes (all_bytes ms) (suc n - length m.bytes)) ∙ ap (λ k. drop k (m.bytes ++ all_bytes ms)) sum
    go rest false h = let lt = leb-false (length m.bytes) (suc n) h in
        sym (drop-append-le (suc n) m.bytes (all_bytes ms) (omega (arith, lt)))

-- what is taken and what is left are the whole
pub front_bytes : (wants : Bool) (n : ℕ) (m : Message) (ms : List Message) →
    (stream_front wants n m ms).bytes ++ all_bytes (stream_front wants n m ms).rest ≡ all_bytes (m ∷ ms)
front_bytes wants n m ms =
    let run : List Message = joined_run wants m ms in
    let k : ℕ = min n (queued_bytes run) in
    let f = run_front wants m ms in
    let whole : all_bytes run ++ all_bytes f.rest ≡ all_bytes (m ∷ ms) = sym (flat_map-append (λ m. Message.bytes m) run f.rest)
    ∙ ap (λ (q : List Message). all_bytes q) f.is in
    let long = length-flat_map (λ m. Message.bytes m) run in
    let few = min-le_right n (queued_bytes run) in
    let same : take k (all_bytes run) ≡ take k (all_bytes (m ∷ ms)) =
    sym (take-append-le k (all_bytes run) (all_bytes f.rest) (omega (arith, long, few))) ∙ ap (λ (l : List ℕ). take k l) whole in
    ap (λ (l : List ℕ). l ++ all_bytes (without_first k (m ∷ ms))) same
    ∙ ap (λ (l : List ℕ). take k (all_bytes (m ∷ ms)) ++ l) (rest_bytes k (m ∷ ms)) ∙ take-append-drop k (all_bytes (m ∷ ms))

-- ---- a call

pub given_no_count : (reply : Reply) → is_given reply ≡ true → taken_count reply ≡ 0
given_no_count (Reply.Count n) h = absurd (false≢true h)
given_no_count _ h = refl

pub sends_there : (S : State) (p tag t d : ℕ) (request : Request) (reply : Reply) (m : Message) → IsSending S p tag request reply t m →
    sends_to S d p request ≡ (t == d)
sends_there S p tag t d request reply m a =
    ap (λ (o : Option (ℕ × Socket)). is_number d
    (elim o as (λ _. Option ℕ) [ None ↦ None | Some found ↦ goes_to S found.1 (request_addr request) ])) a.through ∙ ap (is_number d) a.goes

pub receives_there : (S : State) (p t d n : ℕ) (request : Request) (reply : Reply) (s : Socket) (m : Message) (ms : List Message) →
    IsTaking S p request reply t n s m ms → receives_through S d p request ≡ (t == d)
receives_there S p t d n request reply s m ms a = ap (is_first d) a.through

-- the bytes that came, and those that went
abbrev Balance : State → State → ℕ → ℕ → Request → Reply → Type 0
Balance S T d p request reply = all_bytes (waiting_at S d) ++ sent_now d S p request reply ≡ received_now d S p request reply ++ all_bytes
    (waiting_at T d)

balance : (S T : State) (d p : ℕ) (request : Request) (reply : Reply) (sent received : List ℕ) → sent_now d S p request reply ≡ sent →
    received_now d S p request reply ≡ received →
    all_bytes (waiting_at S d) ++ sent ≡ received ++ all_bytes (waiting_at T d) → Balance S T d p request reply
balance S T d p request reply sent received h k e = ap (λ (l : List ℕ). all_bytes (waiting_at S d) ++ l) h ∙ e
    ∙ sym (ap (λ (l : List ℕ). l ++ all_bytes (waiting_at T d)) k)

still_balance : (S T : State) (d p : ℕ) (request : Request) (reply : Reply) → sent_now d S p request reply ≡ [] →
    received_now d S p request reply ≡ [] → waiting_at T d ≡ waiting_at S d → Balance S T d p request reply
still_balance S T d p request reply h k same =
    balance S T d p request reply [] [] h k (append-nil (all_bytes (waiting_at S d)) ∙ sym (ap (λ (q : List Message). all_bytes q) same))

part_bytes : (s : Socket) (m : Message) → take (length (sent_part s m).bytes) m.bytes ≡ (sent_part s m).bytes
part_bytes s m = go (is_stream s.kind)
  where
    go : (b : Bool) → take (length (if b then take (stream_room s) m.bytes else m.bytes))
        m.bytes ≡ (if b then take (stream_room s) m.bytes else m.bytes)
    go true = take_again (stream_room s) m.bytes
    go false = take-length m.bytes

pub flow_balance : (S T : State) (p tag : ℕ) (request : Request) (reply : Reply) (d : ℕ) → Flow S p tag request reply T →
    IsAt is_stream T d → IsAt is_stream S d × Balance S T d p request reply
flow_balance S T p tag request reply d (calm V c moves sh) at =
    let a = at_shrunk is_stream V T d sh at in
    (at_calm is_stream S V d c a.0, still_balance S T d p request reply (moves.bytes_out d) (moves.bytes_in d) (a.1 ∙ c.waiting d))
flow_balance S T p tag request reply d (put_in t m a sh) at =
    let b = at_shrunk is_stream _ T d sh at in
    let none : received_now d S p request reply ≡ [] =
    none_either (is_peek request) _ (either_none (receives_through S d p request) (given_bytes reply) (ap given_bytes a.answered)) in
    let queue = changed_waiting S t d (sent m) a.target a.there in
    let whither = sends_there S p tag t d request reply m a in (
      at_changed is_stream S t d (sent m) (λ s. refl) b.0,
      bool_cases (t == d)
          (λ e.
          let part : Message = sent_part a.target m in
          let here : waiting_at S d ≡ a.target.queue = ap (λ (i : ℕ). waiting_at S i) (sym (eqb-true t d e))
          ∙ waiting_is S t a.target a.there in
          let there : waiting_at T d ≡ a.target.queue ++ part ∷ [] = b.1 ∙ queue
          ∙ ap (λ c. cond c (sent m a.target).queue (waiting_at S d)) e in
          let bytes : sent_now d S p request reply ≡ part.bytes =
          ap (λ c. if c then take (taken_count reply) (offered_bytes request) else []) (whither ∙ e)
          ∙ ap (λ (r : Reply). take (taken_count r) (offered_bytes request)) a.answered
          ∙ sym (ap (λ (l : List ℕ). take (length part.bytes) l) a.bytes) ∙ part_bytes a.target m in
          balance S T d p request reply part.bytes [] bytes none
          (ap (λ (q : List Message). all_bytes q ++ part.bytes) here
          ∙ ap (λ (l : List ℕ). all_bytes a.target.queue ++ l) (sym (append-nil part.bytes))
          ∙ sym (flat_map-append (λ m. Message.bytes m) a.target.queue (part ∷ [])) ∙ sym (ap (λ (q : List Message). all_bytes q) there)))
          (λ e. still_balance S T d p request reply
          (ap (λ c. if c then take (taken_count reply) (offered_bytes request) else []) (whither ∙ e)) none
          (b.1 ∙ queue ∙ ap (λ c. cond c (sent m a.target).queue (waiting_at S d)) e)),
    )
flow_balance S T p tag request reply d (taken t n s m ms a sh) at =
    let b = at_shrunk is_stream _ T d sh at in
    let before = at_changed is_stream S t d (with_queue (front_of n s m ms).rest) (λ s. refl) b.0 in
    let none : sent_now d S p request reply ≡ [] = either_none (sends_to S d p request) (take (taken_count reply) (offered_bytes request))
    (ap (λ k. take k (offered_bytes request)) (given_no_count reply a.gives) ∙ take_none (offered_bytes request)) in
    let queue = changed_waiting S t d (with_queue (front_of n s m ms).rest) s a.there in
    let through = receives_there S p t d n request reply s m ms a in (
      before,
      bool_cases (t == d)
          (λ e.
          let same : t ≡ d = eqb-true t d e in
          let streams : is_stream s.kind ≡ true = kind_there is_stream S d s (ap (λ (i : ℕ). socket_at S i) (sym same) ∙ a.there) before in
          let here : waiting_at S d ≡ m ∷ ms = ap (λ (i : ℕ). waiting_at S i) (sym same) ∙ waiting_is S t s a.there ∙ a.waiting in
          let there : waiting_at T d ≡ (front_of n s m ms).rest = b.1 ∙ queue
          ∙ ap (λ c. cond c (front_of n s m ms).rest (waiting_at S d)) e in
          let bytes : received_now d S p request reply ≡ (front_of n s m ms).bytes =
          ap (λ c. if c then [] else if receives_through S d p request then given_bytes reply else []) a.takes
          ∙ ap (λ c. if c then given_bytes reply else []) (through ∙ e) ∙ a.given in
          balance S T d p request reply [] (front_of n s m ms).bytes none bytes
          (append-nil (all_bytes (waiting_at S d)) ∙ ap (λ (q : List Message). all_bytes q) here ∙ sym (whole (is_stream s.kind) streams)
          ∙ ap (λ (q : List Message). (front_of n s m ms).bytes ++ all_bytes q) (sym there)))
          (λ e. still_balance S T d p request reply none
          (ap (λ c. if c then [] else if receives_through S d p request then given_bytes reply else []) a.takes
          ∙ ap (λ c. if c then given_bytes reply else []) (through ∙ e))
          (b.1 ∙ queue ∙ ap (λ c. cond c (front_of n s m ms).rest (waiting_at S d)) e)),
    )
  where
    whole : (b : Bool) → b ≡ true → (if b then stream_front s.passcred n m ms else record_front n m ms).bytes ++ all_bytes
        (if b then stream_front s.passcred n m ms else record_front n m ms).rest ≡ all_bytes (m ∷ ms)
    whole true h = front_bytes s.passcred n m ms
    whole false h = absurd (false≢true h)

-- ---- throughout

record AllReliable (boot : State) (es : List Entry) (S : State) : Type 0 where
  pub reached : S ≡ replay boot es
  pub each : (d : ℕ) → IsAt is_stream S d → bytes_sent boot d es ≡ bytes_received boot d es ++ all_bytes (waiting_at S d)

reliable_kept : (boot : State) → IsKept boot (AllReliable boot)
reliable_kept boot = record {
  at_boot = λ boots. record {
    reached = refl;
    each =
        λ d at. sym (ap (λ ds. all_bytes (waiting_in (glance (place ds d)).0)) boots.no_descriptions);
  };
  by_entry = λ es e S T so_far step may. further es e S T so_far step;
}
  where
    further : (es : List Entry) (e : Entry) (S T : State) → AllReliable boot es S →
        Step S e.pid.0 (length es) e.request e.reply e.released T → AllReliable boot (es ++ e ∷ []) T
    further es e S T so_far step =
        let R : State = replay boot es in
        let here : Step R e.pid.0 (length es) e.request e.reply e.released T =
        subst (λ (U : State). Step U e.pid.0 (length es) e.request e.reply e.released T) so_far.reached step in
        let all : AllReliable boot es R = subst (AllReliable boot es) so_far.reached so_far in
        record {
          reached = step_replay boot T es e here;
          each = λ d at.
              let w = flow_balance R T e.pid.0 (length es) e.request e.reply d
              (step_flow R T e.pid.0 (length es) e.request e.reply e.released here) at in
              let old = all.each d w.0 in
              let out : List ℕ = sent_now d R e.pid.0 e.request e.reply in
              let in_now : List ℕ = received_now d R e.pid.0 e.request e.reply in
              gathered_push (λ n S e. sent_now d S e.pid.0 e.request e.reply) boot es e
              ∙ ap (λ (l : List ℕ). l ++ out) old
              ∙ append_assoc (bytes_received boot d es) (all_bytes (waiting_at R d)) out
              ∙ ap (λ (l : List ℕ). bytes_received boot d es ++ l) w.1
              ∙ sym (append_assoc (bytes_received boot d es) in_now (all_bytes (waiting_at T d)))
              ∙ ap (λ (l : List ℕ). l ++ all_bytes (waiting_at T d))
              (sym (gathered_push (λ n S e. received_now d S e.pid.0 e.request e.reply) boot es e));
        }

pub streams_are_reliable : StreamsAreReliable
streams_are_reliable boot es d s legal there streams =
    (kept_throughout boot (AllReliable boot) (reliable_kept boot) es legal).each d (at_socket is_stream (replay boot es) d s there streams)
    ∙ ap (λ (q : List Message). bytes_received boot d es ++ all_bytes q) (waiting_is (replay boot es) d s there)
