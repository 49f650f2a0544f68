-- What waits at a stream has at least a byte, and so a receive there gives one.
use Rattle.std.proofs.Common.{◌≡◌, ℕ, zero, suc, ◌-◌, ◌≤◌, ◌<◌, ◌==◌, Bool, true, false, not, ◌&&◌, cond, if◌then◌else◌, List, []}
use Rattle.std.proofs.Common.{◌∷◌, ◌++◌, length, take, drop, min, Some, refl, ap, sym, ◌∙◌, subst, arith}
use Rattle.std.specs.Prelude.{nat_le, nat_lt}
use Rattle.std.proofs.lemmas.Bool.{eqb-true, eqb-false, eq-eqb, not-true, false≢true, leb-false}
use Rattle.std.proofs.lemmas.List.{length-take, length-drop}
use Rattle.std.proofs.lemmas.List.Concat.{length-flat_map}
use Rattle.std.proofs.lemmas.List.Sums.{sum_by-cons}
use Rattle.ux_model.specs.Types.{Cred, Request, Reply, Entry}
use Rattle.ux_model.specs.Places.{place}
use Rattle.ux_model.specs.Limits.{record_limit}
use Rattle.ux_model.specs.Message.{Message, same_cred, queued_bytes, all_bytes}
use Rattle.ux_model.specs.Stream.{front_with_cred, front_to_barrier, joined_run, without_first}
use Rattle.ux_model.specs.Front.{front_of, stream_front, record_front}
use Rattle.ux_model.specs.Socket.{Socket, is_stream, stream_room, has_room, sent_part, sent, with_queue}
use Rattle.ux_model.specs.State.{State, socket_at}
use Rattle.ux_model.specs.Step.{Step}
use Rattle.ux_model.specs.History.{replay, IsLegal}
use Rattle.ux_model.proofs.Lists.ChangedPlaces.{bool_cases}
use Rattle.ux_model.proofs.Lists.Induction.{IsKept, kept_throughout}
use Rattle.ux_model.proofs.Steps.Replays.{step_replay}
use Rattle.ux_laws.proofs.Parts.{glance}
use Rattle.ux_laws.proofs.Flows.{waiting_in, waiting_at, waiting_is, Flow, calm, put_in, taken, step_flow, IsAt, at_socket, kind_there}
use Rattle.ux_laws.proofs.Flows.{at_shrunk, at_calm, at_changed, changed_waiting}

-- ---- a queue

abbrev pub AllHaveBytes : List Message → Type 0
AllHaveBytes [] = Unit {0}
AllHaveBytes (m ∷ ms) = (0 < length m.bytes) × AllHaveBytes ms

have_pushed : (q : List Message) (x : Message) → AllHaveBytes q → 0 < length x.bytes → AllHaveBytes (q ++ x ∷ [])
have_pushed [] x all h = (h, tt)
have_pushed (m ∷ ms) x all h = (all.0, have_pushed ms x all.1 h)

have_without : (n : ℕ) (q : List Message) → AllHaveBytes q → AllHaveBytes (without_first n q)
have_without n [] all = tt
have_without zero (m ∷ ms) all = all
have_without (suc n) (m ∷ ms) all = go (nat_le (length m.bytes) (suc n)) refl (have_without (suc n - length m.bytes) ms all.1)
  where
    go : (b : Bool) → nat_le (length m.bytes) (suc n) ≡ b → AllHaveBytes (without_first (suc n - length m.bytes) ms) →
        AllHaveBytes (if b then without_first (suc n - length m.bytes) ms else record m { bytes = drop (suc n) m.bytes; rights = [] } ∷ ms)
    go true is rest = rest
    go false is rest =
        let more = leb-false (length m.bytes) (suc n) is in
        let left = length-drop (suc n) m.bytes in
        (omega (arith, more, left), all.1)

have_rest : (n : ℕ) (s : Socket) (m : Message) (ms : List Message) → AllHaveBytes (m ∷ ms) → AllHaveBytes (front_of n s m ms).rest
have_rest n s m ms all = go (is_stream s.kind)
  where
    go : (b : Bool) → AllHaveBytes (if b then stream_front s.passcred n m ms else record_front n m ms).rest
    go true = have_without (min n (queued_bytes (joined_run s.passcred m ms))) (m ∷ ms) all
    go false = all.1

-- what a stream takes of some bytes
pub part_has : (s : Socket) (m : Message) → is_stream s.kind ≡ true → has_room s ≡ true →
    (is_stream s.kind && (length m.bytes == 0)) ≡ false → 0 < length (sent_part s m).bytes
part_has s m kind room some = go (is_stream s.kind) kind room some
  where
    go : (b : Bool) → b ≡ true → has_room s ≡ true → (b && (length m.bytes == 0)) ≡ false →
        0 < length (if b then take (stream_room s) m.bytes else m.bytes)
    go true h room some =
        let free : not (stream_room s == 0) ≡ true = sym (ap (λ c. if c then not (stream_room s == 0) else nat_lt (length s.queue) record_limit) kind) ∙ room in
        let more = eqb-false (stream_room s) 0 (not-true (stream_room s == 0) free) in
        let here = eqb-false (length m.bytes) 0 some in
        let long = length-take (stream_room s) m.bytes in
        omega (arith, more, here, long)
    go false h room some = absurd (false≢true h)

-- ---- throughout

record AllSome (boot : State) (es : List Entry) (S : State) : Type 0 where
  pub reached : S ≡ replay boot es
  pub each : (d : ℕ) → IsAt is_stream S d → AllHaveBytes (waiting_at S d)

flow_some : (S T : State) (p tag : ℕ) (request : Request) (reply : Reply) (d : ℕ) → Flow S p tag request reply T →
    ((k : ℕ) → IsAt is_stream S k → AllHaveBytes (waiting_at S k)) → IsAt is_stream T d → AllHaveBytes (waiting_at T d)
flow_some S T p tag request reply d (calm V c moves sh) all at =
    let a = at_shrunk is_stream V T d sh at in
    subst AllHaveBytes (sym (a.1 ∙ c.waiting d)) (all d (at_calm is_stream S V d c a.0))
flow_some S T p tag request reply d (put_in t m a sh) all at =
    let b = at_shrunk is_stream _ T d sh at in
    let was = at_changed is_stream S t d (sent m) (λ s. refl) b.0 in
    let queue = b.1 ∙ changed_waiting S t d (sent m) a.target a.there in
    bool_cases (t == d)
    (λ e.
    let same : t ≡ d = eqb-true t d e in
    let here : waiting_at S d ≡ a.target.queue = ap (λ (i : ℕ). waiting_at S i) (sym same) ∙ waiting_is S t a.target a.there in
    let streams : is_stream a.target.kind ≡ true =
    kind_there is_stream S d a.target (ap (λ (i : ℕ). socket_at S i) (sym same) ∙ a.there) was in
    subst AllHaveBytes (sym (queue ∙ ap (λ c. cond c (sent m a.target).queue (waiting_at S d)) e))
    (have_pushed a.target.queue (sent_part a.target m) (subst AllHaveBytes here (all d was)) (part_has a.target m streams a.room a.some)))
    (λ e. subst AllHaveBytes (sym (queue ∙ ap (λ c. cond c (sent m a.target).queue (waiting_at S d)) e)) (all d was))
flow_some S T p tag request reply d (taken t n s m ms a sh) all at =
    let b = at_shrunk is_stream _ T d sh at in
    let was = at_changed is_stream S t d (with_queue (front_of n s m ms).rest) (λ s. refl) b.0 in
    let queue = b.1 ∙ changed_waiting S t d (with_queue (front_of n s m ms).rest) s a.there in
    bool_cases (t == d)
    (λ e.
    let here : waiting_at S d ≡ m ∷ ms = ap (λ (i : ℕ). waiting_at S i) (sym (eqb-true t d e)) ∙ waiting_is S t s a.there ∙ a.waiting in
    subst AllHaveBytes (sym (queue ∙ ap (λ c. cond c (front_of n s m ms).rest (waiting_at S d)) e))
    (have_rest n s m ms (subst AllHaveBytes here (all d was))))
    (λ e. subst AllHaveBytes (sym (queue ∙ ap (λ c. cond c (front_of n s m ms).rest (waiting_at S d)) e)) (all d was))

some_kept : (boot : State) → IsKept boot (AllSome boot)
some_kept boot = record {
  at_boot = λ boots. record {
    reached = refl;
    each = λ d at. subst AllHaveBytes (sym (ap (λ ds. waiting_in (glance (place ds d)).0) boots.no_descriptions)) tt;
  };
  by_entry = λ es e S T so_far step may. further es e S T so_far step;
}
  where
    further : (es : List Entry) (e : Entry) (S T : State) → AllSome boot es S →
        Step S e.pid.0 (length es) e.request e.reply e.released T → AllSome boot (es ++ e ∷ []) T
    further es e S T so_far step =
        let R : State = replay boot es in
        let here : Step R e.pid.0 (length es) e.request e.reply e.released T =
        subst (λ (U : State). Step U e.pid.0 (length es) e.request e.reply e.released T) so_far.reached step in
        let all : AllSome boot es R = subst (AllSome boot es) so_far.reached so_far in
        record {
          reached = step_replay boot T es e here;
          each = λ d at. flow_some R T e.pid.0 (length es) e.request e.reply d
              (step_flow R T e.pid.0 (length es) e.request e.reply e.released here) all.each at;
        }

pub streams_have_bytes : (boot : State) (es : List Entry) (d : ℕ) (s : Socket) → IsLegal boot es →
    socket_at (replay boot es) d ≡ Some s → is_stream s.kind ≡ true → AllHaveBytes s.queue
streams_have_bytes boot es d s legal there streams =
    subst AllHaveBytes (waiting_is (replay boot es) d s there)
    ((kept_throughout boot (AllSome boot) (some_kept boot) es legal).each d (at_socket is_stream (replay boot es) d s there streams))

-- ---- what a receive joins of it

same_creds_are : (c : Cred) → same_cred c c ≡ true
same_creds_are c = ap (λ b. (b && (c.uid == c.uid)) && (c.gid == c.gid)) (eq-eqb c.pid.0 c.pid.0 refl)
    ∙ ap (λ b. b && (c.gid == c.gid)) (eq-eqb c.uid c.uid refl) ∙ eq-eqb c.gid c.gid refl

-- the oldest message among others
barrier_head : (m : Message) (ms : List Message) → length m.bytes ≤ queued_bytes (front_to_barrier (m ∷ ms))
barrier_head m ms = go (length m.rights == 0)
  where
    go : (b : Bool) → length m.bytes ≤ queued_bytes (if b then m ∷ front_to_barrier ms else m ∷ [])
    go true = let sum = sum_by-cons (λ m. length (Message.bytes m)) m (front_to_barrier ms) in omega (arith, sum)
    go false = let sum = sum_by-cons (λ m. length (Message.bytes m)) m [] in omega (arith, sum)

run_head : (wants : Bool) (m : Message) (ms : List Message) → length m.bytes ≤ queued_bytes (joined_run wants m ms)
run_head false m ms = barrier_head m ms
run_head true m ms =
    subst (λ b. length m.bytes ≤ queued_bytes (front_to_barrier (if b then m ∷ front_with_cred m.cred ms else [])))
    (sym (same_creds_are m.cred)) (barrier_head m (front_with_cred m.cred ms))

-- so some bytes are given where some are wanted
pub gives_some : (n : ℕ) (s : Socket) (m : Message) (ms : List Message) → is_stream s.kind ≡ true → AllHaveBytes (m ∷ ms) → 0 < n →
    0 < length (front_of n s m ms).bytes
gives_some n s m ms streams all some =
    subst (λ b. 0 < length (if b then stream_front s.passcred n m ms else record_front n m ms).bytes) (sym streams) of_stream
  where
    of_stream : 0 < length (stream_front s.passcred n m ms).bytes
    of_stream =
        let run : List Message = joined_run s.passcred m ms in
        let head = run_head s.passcred m ms in
        let first = all.0 in
        let whole = length-flat_map (λ m. Message.bytes m) run in
        let long = length-take (min n (queued_bytes run)) (all_bytes run) in
        omega (arith, head, first, whole, long, some)
