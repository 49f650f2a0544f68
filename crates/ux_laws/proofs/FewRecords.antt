-- No more datagrams or records wait in a queue than may.
use Rattle.std.proofs.Common.{◌≡◌, ℕ, ◌≤◌, ◌==◌, false, cond, if◌then◌else◌, List, [], ◌∷◌, ◌++◌, length, refl, ap, sym, ◌∙◌}
use Rattle.std.proofs.Common.{Some, subst, arith}
use Rattle.std.specs.Prelude.{not, nat_lt}
use Rattle.std.proofs.lemmas.Bool.{eqb-true, not-true, ltb-true}
use Rattle.std.proofs.lemmas.List.{length_push}
use Rattle.ux_model.specs.Types.{Request, Reply, Entry}
use Rattle.ux_model.specs.Places.{place}
use Rattle.ux_model.specs.Limits.{record_limit}
use Rattle.ux_model.specs.Message.{Message}
use Rattle.ux_model.specs.Front.{front_of, stream_front, record_front}
use Rattle.ux_model.specs.Socket.{Socket, is_stream, stream_room, has_room, sent_part, sent, with_queue}
use Rattle.ux_model.specs.State.{State, socket_at}
use Rattle.ux_model.specs.Step.{Step}
use Rattle.ux_model.specs.History.{replay, IsLegal}
use Rattle.ux_model.proofs.Lists.ChangedPlaces.{bool_cases}
use Rattle.ux_model.proofs.Lists.Induction.{IsKept, kept_throughout}
use Rattle.ux_model.proofs.Steps.Replays.{step_replay}
use Rattle.ux_laws.proofs.Parts.{glance}
use Rattle.ux_laws.proofs.Flows.{waiting_in, waiting_at, waiting_is, Flow, calm, put_in, taken, step_flow, IsAt, at_socket, kind_there}
use Rattle.ux_laws.proofs.Flows.{at_shrunk, at_calm, at_changed, changed_waiting}
use Rattle.ux_laws.proofs.Packets.{of_records}

abbrev AreFew : List Message → Type 0
AreFew q = length q ≤ record_limit

-- room for a record is for one more of them
pub record_room : (s : Socket) → is_stream s.kind ≡ false → has_room s ≡ nat_lt (length s.queue) record_limit
record_room s kind = ap (λ b. if b then not (stream_room s == 0) else nat_lt (length s.queue) record_limit) kind

flow_few : (S T : State) (p tag : ℕ) (request : Request) (reply : Reply) (d : ℕ) → Flow S p tag request reply T →
    ((k : ℕ) → IsAt of_records S k → AreFew (waiting_at S k)) → IsAt of_records T d → AreFew (waiting_at T d)
flow_few S T p tag request reply d (calm V c moves sh) all at =
    let a = at_shrunk of_records V T d sh at in
    subst AreFew (sym (a.1 ∙ c.waiting d)) (all d (at_calm of_records S V d c a.0))
flow_few S T p tag request reply d (put_in t m a sh) all at =
    let b = at_shrunk of_records _ T d sh at in
    let was = at_changed of_records S t d (sent m) (λ s. refl) b.0 in
    let queue = b.1 ∙ changed_waiting S t d (sent m) a.target a.there in
    bool_cases (t == d)
    (λ e.
    let there : socket_at S d ≡ Some a.target = ap (λ (i : ℕ). socket_at S i) (sym (eqb-true t d e)) ∙ a.there in
    let kind : is_stream a.target.kind ≡ false = not-true (is_stream a.target.kind) (kind_there of_records S d a.target there was) in
    let few = ltb-true (length a.target.queue) record_limit (sym (record_room a.target kind) ∙ a.room) in
    let long = length_push a.target.queue (sent_part a.target m) in
    subst AreFew (sym (queue ∙ ap (λ c. cond c (sent m a.target).queue (waiting_at S d)) e)) (omega (arith, few, long)))
    (λ e. subst AreFew (sym (queue ∙ ap (λ c. cond c (sent m a.target).queue (waiting_at S d)) e)) (all d was))
flow_few S T p tag request reply d (taken t n s m ms a sh) all at =
    let b = at_shrunk of_records _ T d sh at in
    let was = at_changed of_records S t d (with_queue (front_of n s m ms).rest) (λ s. refl) b.0 in
    let queue = b.1 ∙ changed_waiting S t d (with_queue (front_of n s m ms).rest) s a.there in
    bool_cases (t == d)
    (λ e.
    let there : socket_at S d ≡ Some s = ap (λ (i : ℕ). socket_at S i) (sym (eqb-true t d e)) ∙ a.there in
    let kind : is_stream s.kind ≡ false = not-true (is_stream s.kind) (kind_there of_records S d s there was) in
    let old : AreFew (m ∷ ms) = subst AreFew (waiting_is S d s there ∙ a.waiting) (all d was) in
    subst AreFew (sym (queue ∙ ap (λ c. cond c (front_of n s m ms).rest (waiting_at S d)) e
    ∙ ap (λ c. (if c then stream_front s.passcred n m ms else record_front n m ms).rest) kind)) (omega (arith, old)))
    (λ e. subst AreFew (sym (queue ∙ ap (λ c. cond c (front_of n s m ms).rest (waiting_at S d)) e)) (all d was))

-- ---- throughout

record AllFew (boot : State) (es : List Entry) (S : State) : Type 0 where
  pub reached : S ≡ replay boot es
  pub each : (d : ℕ) → IsAt of_records S d → AreFew (waiting_at S d)

few_kept : (boot : State) → IsKept boot (AllFew boot)
few_kept boot = record {
  at_boot = λ boots. record {
    reached = refl;
    each = λ d at. subst AreFew (sym (ap (λ ds. waiting_in (glance (place ds d)).0) boots.no_descriptions)) (omega arith);
  };
  by_entry = λ es e S T so_far step may. further es e S T so_far step;
}
  where
    further : (es : List Entry) (e : Entry) (S T : State) → AllFew boot es S →
        Step S e.pid.0 (length es) e.request e.reply e.released T → AllFew boot (es ++ e ∷ []) T
    further es e S T so_far step =
        let R : State = replay boot es in
        let here : Step R e.pid.0 (length es) e.request e.reply e.released T =
        subst (λ (U : State). Step U e.pid.0 (length es) e.request e.reply e.released T) so_far.reached step in
        let all : AllFew boot es R = subst (AllFew boot es) so_far.reached so_far in
        record {
          reached = step_replay boot T es e here;
          each = λ d at. flow_few R T e.pid.0 (length es) e.request e.reply d
              (step_flow R T e.pid.0 (length es) e.request e.reply e.released here) all.each at;
        }

pub records_are_few : (boot : State) (es : List Entry) (d : ℕ) (s : Socket) → IsLegal boot es →
    socket_at (replay boot es) d ≡ Some s → is_stream s.kind ≡ false → length s.queue ≤ record_limit
records_are_few boot es d s legal there kind =
    subst AreFew (waiting_is (replay boot es) d s there)
    ((kept_throughout boot (AllFew boot) (few_kept boot) es legal).each d
    (at_socket of_records (replay boot es) d s there (ap (λ b. not b) kind)))
