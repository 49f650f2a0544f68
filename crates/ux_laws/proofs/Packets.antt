-- What was sent to a socket of records was taken from it, once and in order, or waits; and what a receive gives of a message.
use Rattle.std.proofs.Common.{◌≡◌, ℕ, zero, suc, ◌+◌, ◌≤◌, ◌<◌, ◌==◌, Bool, true, false, not, ◌&&◌, cond, if◌then◌else◌, List, [], ◌∷◌}
use Rattle.std.proofs.Common.{◌++◌, length, map, take, Option, Some, None, refl, ap, sym, ◌∙◌, subst, ⊎_elim, arith, slice_get}
use Rattle.std.proofs.lemmas.Bool.{eqb-true, false≢true, and_parts}
use Rattle.std.proofs.lemmas.List.{append-nil, append_assoc}
use Rattle.ux_model.specs.Types.{Addr, SockType, Request, Reply, Entry}
use Rattle.ux_model.specs.Places.{place}
use Rattle.ux_model.specs.Message.{Message}
use Rattle.ux_model.specs.Front.{front_of, stream_front, record_front}
use Rattle.ux_model.specs.Socket.{is_stream, sent_part, stream_room, sent, with_queue}
use Rattle.ux_model.specs.State.{State, socket_at}
use Rattle.ux_model.specs.Step.{Step, after}
use Rattle.ux_model.specs.History.{replay}
use Rattle.ux_model.proofs.Lists.ChangedPlaces.{bool_cases}
use Rattle.ux_model.proofs.Lists.Induction.{IsKept, kept_throughout}
use Rattle.ux_model.proofs.Steps.Replays.{step_replay}
use Rattle.ux_laws.specs.Gathering.{gather_from}
use Rattle.ux_laws.specs.Talking.{offered_bytes, is_peek, socket_through, sends_to, receives_through}
use Rattle.ux_laws.specs.Records.{Packet, packet_of, name_of_sender, packet_sent, is_count, is_given, oldest_at, sent_packet, taken_packet}
use Rattle.ux_laws.specs.Records.{packets_sent, packets_taken, RecordsArriveInOrder, RecordsArriveOnce}
use Rattle.ux_laws.proofs.Parts.{glance}
use Rattle.ux_laws.proofs.Acts.{either_none, none_either, MovesNothing, IsSending}
use Rattle.ux_laws.proofs.Flows.{waiting_in, waiting_at, waiting_is, Flow, calm, put_in, taken, step_flow, IsAt, at_socket, kind_there}
use Rattle.ux_laws.proofs.Flows.{at_shrunk, at_calm, at_changed, changed_waiting}
use Rattle.ux_laws.proofs.Gathers.{gathered_push}
use Rattle.ux_laws.proofs.Delivering.{sends_there, receives_there}

abbrev pub of_records : SockType → Bool
of_records kind = not (is_stream kind)

no_stream : (b : Bool) → b ≡ true → not b ≡ true → ⊥
no_stream true h k = false≢true k
no_stream false h k = false≢true h

not_true : (b : Bool) → not b ≡ true → b ≡ false
not_true true h = absurd (false≢true h)
not_true false h = refl

is_not : (b : Bool) → b ≡ false → not b ≡ true
is_not true h = absurd (false≢true (sym h))
is_not false h = refl

map_append : {X Y : Type 0} (f : X → Y) (xs ys : List X) → map f (xs ++ ys) ≡ map f xs ++ map f ys
map_append f [] ys = refl
map_append f (x ∷ xs) ys = ap (λ l. f x ∷ l) (map_append f xs ys)

-- ---- a call

abbrev waiting_packets : State → ℕ → List Packet
waiting_packets S d = map packet_of (waiting_at S d)

abbrev Balance : ℕ → State → State → ℕ → ℕ → Request → Reply → Type 0
Balance n S T d p request reply = waiting_packets S d ++ sent_packet d n S p request reply ≡ taken_packet d S p request
    reply ++ waiting_packets T d

balance : (n : ℕ) (S T : State) (d p : ℕ) (request : Request) (reply : Reply) (out back : List Packet) →
    sent_packet d n S p request reply ≡ out → taken_packet d S p request reply ≡ back →
    waiting_packets S d ++ out ≡ back ++ waiting_packets T d → Balance n S T d p request reply
balance n S T d p request reply out back h k e = ap (λ (l : List Packet). waiting_packets S d ++ l) h ∙ e
    ∙ sym (ap (λ (l : List Packet). l ++ waiting_packets T d) k)

still_balance : (n : ℕ) (S T : State) (d p : ℕ) (request : Request) (reply : Reply) → sent_packet d n S p request reply ≡ [] →
    taken_packet d S p request reply ≡ [] → waiting_at T d ≡ waiting_at S d → Balance n S T d p request reply
still_balance n S T d p request reply h k same =
    balance n S T d p request reply [] [] h k (append-nil (waiting_packets S d) ∙ sym (ap (λ (q : List Message). map packet_of q) same))

-- a call that moves nothing sends no packet and takes none
calm_out : (n : ℕ) (S : State) (d p : ℕ) (request : Request) (reply : Reply) → MovesNothing S p request reply → IsAt of_records S d →
    sent_packet d n S p request reply ≡ []
calm_out n S d p request reply moves at = bool_cases (sends_to S d p request && is_count reply)
    (λ e. let parts = and_parts (sends_to S d p request) (is_count reply) e in
    let w = moves.record_out d parts.0 parts.1 in absurd (no_stream (is_stream w.0.kind) w.2 (kind_there of_records S d w.0 w.1 at)))
    (λ e. ap (λ b. if b then packet_sent n S p request ∷ [] else []) e)

calm_in : (S : State) (d p : ℕ) (request : Request) (reply : Reply) → MovesNothing S p request reply → IsAt of_records S d →
    taken_packet d S p request reply ≡ []
calm_in S d p request reply moves at = bool_cases (is_peek request)
    (λ e. ap (λ b. if b then [] else if receives_through S d p request && is_given reply then oldest_at (socket_through S p request)
    else []) e)
    (λ e. bool_cases (receives_through S d p request && is_given reply)
    (λ f.
    let parts = and_parts (receives_through S d p request) (is_given reply) f in
    let w = moves.record_in d parts.0 e parts.1 in
    none_either (is_peek request) _ (either_none (receives_through S d p request && is_given reply) (oldest_at (socket_through S p request))
    (ap oldest_at w.1 ∙ ⊎_elim {C = take 1 (map packet_of w.0.queue) ≡ []} (λ q. ap (λ (l : List Message). take 1 (map packet_of l)) q)
    (λ k. absurd (no_stream (is_stream w.0.kind) k (kind_there of_records S d w.0 w.2 at))) w.3)))
    (λ f. none_either (is_peek request) _ (ap (λ b. if b then oldest_at (socket_through S p request) else []) f)))

count_no_gift : (reply : Reply) (n : ℕ) → reply ≡ Reply.Count n → (is_given reply ≡ false) × (is_count reply ≡ true)
count_no_gift reply n h = (ap is_given h, ap is_count h)

gift_no_count : (reply : Reply) → is_given reply ≡ true → is_count reply ≡ false
gift_no_count (Reply.Count n) h = absurd (false≢true h)
gift_no_count _ h = refl

take_one : (xs : List Packet) → take 0 xs ≡ []
take_one [] = refl
take_one (x ∷ xs) = refl

flow_balance : (S T : State) (p n : ℕ) (request : Request) (reply : Reply) (d : ℕ) → Flow S p n request reply T → IsAt of_records T d →
    IsAt of_records S d × Balance n S T d p request reply
flow_balance S T p n request reply d (calm V c moves sh) at =
    let a = at_shrunk of_records V T d sh at in
    let here = at_calm of_records S V d c a.0 in (
      here,
      still_balance n S T d p request reply (calm_out n S d p request reply moves here) (calm_in S d p request reply moves here)
          (a.1 ∙ c.waiting d),
    )
flow_balance S T p n request reply d (put_in t m a sh) at =
    let b = at_shrunk of_records _ T d sh at in
    let told = count_no_gift reply _ a.answered in
    let none : taken_packet d S p request reply ≡ [] = none_either (is_peek request) _
    (ap (λ c. if c then oldest_at (socket_through S p request) else [])
    (ap (λ c. receives_through S d p request && c) told.0 ∙ and_no (receives_through S d p request))) in
    let queue = changed_waiting S t d (sent m) a.target a.there in
    let whither = sends_there S p n t d request reply m a in
    let before = at_changed of_records S t d (sent m) (λ s. refl) b.0 in (
      before,
      bool_cases (t == d)
          (λ e.
          let same : t ≡ d = eqb-true t d e in
          let kind : is_stream a.target.kind ≡ false =
          not_true (is_stream a.target.kind) (kind_there of_records S d a.target (ap (λ (i : ℕ). socket_at S i) (sym same) ∙ a.there)
          before) in
          let part : Message = sent_part a.target m in
          let here : waiting_at S d ≡ a.target.queue = ap (λ (i : ℕ). waiting_at S i) (sym same) ∙ waiting_is S t a.target a.there in
          let there : waiting_at T d ≡ a.target.queue ++ part ∷ [] = b.1 ∙ queue
          ∙ ap (λ c. cond c (sent m a.target).queue (waiting_at S d)) e in
          let out : sent_packet d n S p request reply ≡ packet_of part ∷ [] =
          ap (λ c. if c then packet_sent n S p request ∷ [] else []) (ap (λ c. c && is_count reply) (whither ∙ e) ∙ told.1)
          ∙ ap (λ (x : Packet). x ∷ []) (packet_is a kind) in
          balance n S T d p request reply (packet_of part ∷ []) [] out none
          (ap (λ (q : List Message). map packet_of q ++ packet_of part ∷ []) here ∙ sym (map_append packet_of a.target.queue (part ∷ []))
          ∙ sym (ap (λ (q : List Message). map packet_of q) there)))
          (λ e. still_balance n S T d p request reply
          (ap (λ c. if c then packet_sent n S p request ∷ [] else []) (ap (λ c. c && is_count reply) (whither ∙ e))) none
          (b.1 ∙ queue ∙ ap (λ c. cond c (sent m a.target).queue (waiting_at S d)) e)),
    )
  where
    and_no : (b : Bool) → (b && false) ≡ false
    and_no true = refl
    and_no false = refl

    packet_is : (a : IsSending S p n request reply t m) → is_stream a.target.kind ≡ false →
        packet_sent n S p request ≡ packet_of (sent_part a.target m)
    packet_is a kind =
        let bytes : offered_bytes request ≡ (sent_part a.target m).bytes = sym a.bytes
        ∙ sym (ap (λ c. if c then take (stream_room a.target) m.bytes else m.bytes) kind) in
        let from : name_of_sender (socket_through S p request) ≡ (sent_part a.target m).from = ap name_of_sender a.through ∙ sym a.from
        ∙ sym (ap (λ c. if c then None else m.from) kind) in
        ap (λ (l : List ℕ). let x : Packet = record { call = n; bytes = l; from = name_of_sender (socket_through S p request) } in x) bytes
        ∙ ap (λ (f : Option Addr). let x : Packet = record { call = n; bytes = (sent_part a.target m).bytes; from = f } in x) from
        ∙ ap (λ (k : ℕ). let x : Packet = record { call = k; bytes = (sent_part a.target m).bytes; from = (sent_part a.target m).from } in
        x) (sym a.tagged)
flow_balance S T p n request reply d (taken t k s m ms a sh) at =
    let b = at_shrunk of_records _ T d sh at in
    let before = at_changed of_records S t d (with_queue (front_of k s m ms).rest) (λ s. refl) b.0 in
    let none : sent_packet d n S p request reply ≡ [] =
    ap (λ c. if c then packet_sent n S p request ∷ [] else [])
    (ap (λ c. sends_to S d p request && c) (gift_no_count reply a.gives) ∙ and_no (sends_to S d p request)) in
    let queue = changed_waiting S t d (with_queue (front_of k s m ms).rest) s a.there in
    let through = receives_there S p t d k request reply s m ms a in (
      before,
      bool_cases (t == d)
          (λ e.
          let same : t ≡ d = eqb-true t d e in
          let kind : is_stream s.kind ≡ false = not_true (is_stream s.kind)
          (kind_there of_records S d s (ap (λ (i : ℕ). socket_at S i) (sym same) ∙ a.there) before) in
          let here : waiting_at S d ≡ m ∷ ms = ap (λ (i : ℕ). waiting_at S i) (sym same) ∙ waiting_is S t s a.there ∙ a.waiting in
          let there : waiting_at T d ≡ ms = b.1 ∙ queue ∙ ap (λ c. cond c (front_of k s m ms).rest (waiting_at S d)) e
          ∙ ap (λ c. (if c then stream_front s.passcred k m ms else record_front k m ms).rest) kind in
          let back : taken_packet d S p request reply ≡ packet_of m ∷ [] =
          ap (λ c. if c then [] else if receives_through S d p request && is_given reply then oldest_at (socket_through S p request)
          else []) a.takes
          ∙ ap (λ c. if c then oldest_at (socket_through S p request) else []) (ap (λ c. c && is_given reply) (through ∙ e) ∙ a.gives)
          ∙ ap oldest_at a.through ∙ ap (λ (q : List Message). take 1 (map packet_of q)) a.waiting
          ∙ ap (λ (l : List Packet). packet_of m ∷ l) (take_one (map packet_of ms)) in
          balance n S T d p request reply [] (packet_of m ∷ []) none back
          (append-nil (waiting_packets S d) ∙ ap (λ (q : List Message). map packet_of q) here
          ∙ ap (λ (q : List Message). packet_of m ∷ map packet_of q) (sym there)))
          (λ e. still_balance n S T d p request reply none
          (ap (λ c. if c then [] else if receives_through S d p request && is_given reply then oldest_at (socket_through S p request)
          else []) a.takes
          ∙ ap (λ c. if c then oldest_at (socket_through S p request) else []) (ap (λ c. c && is_given reply) (through ∙ e)))
          (b.1 ∙ queue ∙ ap (λ c. cond c (front_of k s m ms).rest (waiting_at S d)) e)),
    )
  where
    and_no : (b : Bool) → (b && false) ≡ false
    and_no true = refl
    and_no false = refl

-- ---- throughout

record AllInOrder (boot : State) (es : List Entry) (S : State) : Type 0 where
  pub reached : S ≡ replay boot es
  pub each : (d : ℕ) → IsAt of_records S d → packets_sent boot d es ≡ packets_taken boot d es ++ waiting_packets S d

order_kept : (boot : State) → IsKept boot (AllInOrder boot)
order_kept boot = record {
  at_boot = λ boots. record {
    reached = refl;
    each =
        λ d at. sym (ap (λ ds. map packet_of (waiting_in (glance (place ds d)).0)) boots.no_descriptions);
  };
  by_entry = λ es e S T so_far step may. further es e S T so_far step;
}
  where
    further : (es : List Entry) (e : Entry) (S T : State) → AllInOrder boot es S →
        Step S e.pid.0 (length es) e.request e.reply e.released T → AllInOrder boot (es ++ e ∷ []) T
    further es e S T so_far step =
        let R : State = replay boot es in
        let here : Step R e.pid.0 (length es) e.request e.reply e.released T =
        subst (λ (U : State). Step U e.pid.0 (length es) e.request e.reply e.released T) so_far.reached step in
        let all : AllInOrder boot es R = subst (AllInOrder boot es) so_far.reached so_far in
        record {
          reached = step_replay boot T es e here;
          each = λ d at.
              let w = flow_balance R T e.pid.0 (length es) e.request e.reply d
              (step_flow R T e.pid.0 (length es) e.request e.reply e.released here) at in
              let old = all.each d w.0 in
              let out : List Packet = sent_packet d (length es) R e.pid.0 e.request e.reply in
              let back : List Packet = taken_packet d R e.pid.0 e.request e.reply in
              gathered_push (λ n S e. sent_packet d n S e.pid.0 e.request e.reply) boot es e
              ∙ ap (λ (l : List Packet). l ++ out) old
              ∙ append_assoc (packets_taken boot d es) (waiting_packets R d) out
              ∙ ap (λ (l : List Packet). packets_taken boot d es ++ l) w.1
              ∙ sym (append_assoc (packets_taken boot d es) back (waiting_packets T d))
              ∙ ap (λ (l : List Packet). l ++ waiting_packets T d)
              (sym (gathered_push (λ n S e. taken_packet d S e.pid.0 e.request e.reply) boot es e));
        }

pub records_arrive_in_order : RecordsArriveInOrder
records_arrive_in_order boot es d s legal there kind =
    (kept_throughout boot (AllInOrder boot) (order_kept boot) es legal).each d
    (at_socket of_records (replay boot es) d s there (is_not (is_stream s.kind) kind))
    ∙ ap (λ (q : List Message). packets_taken boot d es ++ map packet_of q) (waiting_is (replay boot es) d s there)

-- ---- once

-- the numbers of what is sent rise
record Rising (low : ℕ) (xs : List Packet) : Type 0 where
  pub above : (i : ℕ) (a : Packet) → slice_get xs i ≡ Some a → low ≤ a.call
  pub rise : (i k : ℕ) (a b : Packet) → slice_get xs i ≡ Some a → slice_get xs k ≡ Some b → i < k → a.call < b.call

rising_none : (low : ℕ) → Rising low []
rising_none low = record { above = λ i a h. absurd (cc h); rise = λ i k a b h g low. absurd (cc h) }

rising_more : (low : ℕ) (x : Packet) (xs : List Packet) → x.call ≡ low → Rising (suc low) xs → Rising low (x ∷ xs)
rising_more low x xs is r = record { above = λ i a h. above i a h; rise = λ i k a b h g less. rise i k a b h g less }
  where
    above : (i : ℕ) (a : Packet) → slice_get (x ∷ xs) i ≡ Some a → low ≤ a.call
    above zero a h = let e : x ≡ a = cc h in let same : x.call ≡ a.call = ap (λ (y : Packet). y.call) e in omega (arith, same, is)
    above (suc i) a h = let b = r.above i a h in omega (arith, b)

    rise : (i k : ℕ) (a b : Packet) → slice_get (x ∷ xs) i ≡ Some a → slice_get (x ∷ xs) k ≡ Some b → i < k → a.call < b.call
    rise zero zero a b h g less = absurd (omega (arith, less))
    rise zero (suc k) a b h g less = let e : x ≡ a = cc h in let same : x.call ≡ a.call = ap (λ (y : Packet). y.call) e in
        let c = r.above k b g in omega (arith, same, is, c)
    rise (suc i) zero a b h g less = absurd (omega (arith, less))
    rise (suc i) (suc k) a b h g less = r.rise i k a b h g (omega (arith, less))

rising_lower : (low high : ℕ) (xs : List Packet) → low ≤ high → Rising high xs → Rising low xs
rising_lower low high xs less r = record { above = λ i a h. let b = r.above i a h in omega (arith, b, less); rise = r.rise }

rising_sent : (d n : ℕ) (S : State) (es : List Entry) → Rising n (gather_from (λ n S e. sent_packet d n S e.pid.0 e.request e.reply) n S es)
rising_sent d n S [] = rising_none n
rising_sent d n S (e ∷ es) = go (sends_to S d e.pid.0 e.request && is_count e.reply)
    (rising_sent d (n + 1) (after S e.pid.0 n e.request e.reply) es)
  where
    go : (b : Bool) {rest : List Packet} → Rising (n + 1) rest →
        Rising n ((if b then packet_sent n S e.pid.0 e.request ∷ [] else []) ++ rest)
    go true {rest} r = rising_more n (packet_sent n S e.pid.0 e.request) rest refl (rising_lower (suc n) (n + 1) rest (omega arith) r)
    go false {rest} r = rising_lower n (n + 1) rest (omega arith) r

front_get : {X : Type 0} (xs ys : List X) (i : ℕ) (x : X) → slice_get xs i ≡ Some x → slice_get (xs ++ ys) i ≡ Some x
front_get [] ys i x h = absurd (cc h)
front_get (y ∷ xs) ys zero x h = h
front_get (y ∷ xs) ys (suc i) x h = front_get xs ys i x h

pub records_arrive_once : RecordsArriveOnce
records_arrive_once boot es d i k s a b legal there kind h g less =
    let all = records_arrive_in_order boot es d s legal there kind in
    let r = rising_sent d 0 boot es in
    r.rise i k a b (ap (λ (l : List Packet). slice_get l i) all ∙ front_get (packets_taken boot d es) (map packet_of s.queue) i a h)
    (ap (λ (l : List Packet). slice_get l k) all ∙ front_get (packets_taken boot d es) (map packet_of s.queue) k b g) less
