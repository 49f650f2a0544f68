-- Which messages with rights wait after a call: those that waited before it, and what it sends.
use Rattle.std.proofs.Common.{◌≡◌, ◌⊎◌, ℕ, zero, suc, ◌-◌, ◌<◌, Bool, true, false, ◌==◌, cond, if◌then◌else◌, List, [], ◌∷◌, ◌++◌, length}
use Rattle.std.proofs.Common.{drop, min, Option, Some, None, option_map, refl, ap, sym, ◌∙◌, subst, inl, inr, ⊎_elim, arith, slice_get}
use Rattle.std.specs.Prelude.{nat_le}
use Rattle.std.proofs.lemmas.Bool.{eqb-true}
use Rattle.ux_model.specs.Types.{Request}
use Rattle.ux_model.specs.Places.{place}
use Rattle.ux_model.specs.Message.{Message, queued_bytes}
use Rattle.ux_model.specs.Stream.{joined_run, without_first}
use Rattle.ux_model.specs.Front.{front_of, stream_front, record_front}
use Rattle.ux_model.specs.Socket.{Socket, is_stream, sent_part, sent, with_queue}
use Rattle.ux_model.specs.Description.{Description, Target, to_object, to_socket, socket_of, socket_in, changed, changed_target}
use Rattle.ux_model.specs.Process.{Descriptor}
use Rattle.ux_model.specs.State.{State, description_at, socket_at, table_of, with_description, with_description_by, with_socket_by}
use Rattle.ux_model.specs.State.{with_table, with_new}
use Rattle.ux_model.specs.Release.{without, is_unreferenced, drop_all, drop_rounds, drop_unreferenced, has_unreferenced, settled}
use Rattle.ux_model.proofs.Releasing.Losses.{target_after_loss, description_after_loss}
use Rattle.ux_model.specs.Sending.{descriptions_behind}
use Rattle.ux_model.specs.Giving.{sent_by}
use Rattle.ux_model.proofs.Releasing.ReleaseLaws.{description_at-without}
use Rattle.ux_model.proofs.Lists.ChangedPlaces.{bool_cases, place-changed}
use Rattle.ux_model.proofs.Lists.OnePlace.{same_at}
use Rattle.ux_model.proofs.Lists.Appending.{get_push}
use Rattle.ux_model.proofs.Steps.NameCalls.{same_descriptions}

abbrev pub queue_of : Target → List Message
queue_of (to_object o) = []
queue_of (to_socket s) = s.queue

abbrev pub queue_in : Option Description → List Message
queue_in None = []
queue_in (Some D) = queue_of D.target

-- what waits at the socket with this number
abbrev pub queue_at : State → ℕ → List Message
queue_at S d = queue_in (description_at S d)

pub queue_is : (S : State) (d : ℕ) (s : Socket) → socket_at S d ≡ Some s → queue_at S d ≡ s.queue
queue_is S d s h = at_place (description_at S d) h
  where
    at_target : (t : Target) → socket_of t ≡ Some s → queue_of t ≡ s.queue
    at_target (to_object o) h = absurd (cc h)
    at_target (to_socket u) h = let same : u ≡ s = cc h in ap (λ (w : Socket). w.queue) same

    at_place : (x : Option Description) → socket_in x ≡ Some s → queue_in x ≡ s.queue
    at_place None h = absurd (cc h)
    at_place (Some D) h = at_target D.target h

-- the message waits somewhere
abbrev pub Waits : State → Message → Type 0
Waits S m = (d : ℕ) × (k : ℕ) × (slice_get (queue_at S d) k ≡ Some m)

-- it is what this request of process p sends, with its rights
abbrev pub IsNew : State → ℕ → ℕ → Request → Message → Type 0
IsNew S p tag request m = (m.tag ≡ tag) × (descriptions_behind (table_of S p) (sent_by request) ≡ Some m.rights)

-- each message with rights that waits in T waited in S, or was sent now
abbrev pub Mail : State → ℕ → ℕ → Request → State → Type 0
Mail S p tag request T = (m : Message) → 0 < length m.rights → Waits T m → Waits S m ⊎ IsNew S p tag request m

-- ---- queues that stay

-- each queue of T is that of S
abbrev pub Quiet : State → State → Type 0
Quiet S T = (d : ℕ) → queue_at T d ≡ queue_at S d

pub quiet_mail : (S T : State) (p tag : ℕ) (request : Request) → Quiet S T → Mail S p tag request T
quiet_mail S T p tag request quiet m rich (d, k, h) = inl (d, k, sym (ap (λ q. slice_get q k) (quiet d)) ∙ h)

-- the queues of U are those of T, from which each message was in S or is new
pub quiet_after : (S T U : State) (p tag : ℕ) (request : Request) → Quiet T U → Mail S p tag request T → Mail S p tag request U
quiet_after S T U p tag request quiet mail m rich (d, k, h) = mail m rich (d, k, sym (ap (λ q. slice_get q k) (quiet d)) ∙ h)

pub quiet_table : (S : State) (p : ℕ) (table : List (Option Descriptor)) → Quiet S (with_table S p table)
quiet_table S p table d = ap (λ (ds : List (Option Description)). queue_in (place ds d)) (same_descriptions S p table)

queue_pushed : (ds : List (Option Description)) (D : Description) (d : ℕ) → queue_of D.target ≡ [] →
    queue_in (place (ds ++ Some D ∷ []) d) ≡ queue_in (place ds d)
queue_pushed [] D zero none = none
queue_pushed [] D (suc d) none = refl
queue_pushed (x ∷ ds) D zero none = refl
queue_pushed (x ∷ ds) D (suc d) none = queue_pushed ds D d none

pub quiet_new : (S : State) (D : Description) → queue_of D.target ≡ [] → Quiet S (with_new S D)
quiet_new S D none d = queue_pushed S.descriptions D d none

pub quiet_put : (S : State) (d : ℕ) (D E : Description) → description_at S d ≡ Some D → queue_of E.target ≡ queue_of D.target →
    Quiet S (with_description S d E)
quiet_put S d D E here same i = same_at queue_in S.descriptions d i (Some E) (same ∙ sym (ap queue_in here))

pub quiet_by : (S : State) (d : ℕ) (change : Description → Description) →
    ((D : Description) → queue_of (change D).target ≡ queue_of D.target) → Quiet S (with_description_by S d change)
quiet_by S d change same i = same_at queue_in S.descriptions d i (option_map change (description_at S d)) (at_place (description_at S d))
  where
    at_place : (x : Option Description) → queue_in (option_map change x) ≡ queue_in x
    at_place None = refl
    at_place (Some D) = same D

pub quiet_target : (change : Socket → Socket) → ((s : Socket) → (change s).queue ≡ s.queue) → (t : Target) →
    queue_of (changed_target change t) ≡ queue_of t
quiet_target change same (to_object o) = refl
quiet_target change same (to_socket s) = same s

pub quiet_socket : (S : State) (d : ℕ) (change : Socket → Socket) → ((s : Socket) → (change s).queue ≡ s.queue) →
    Quiet S (with_socket_by S d change)
quiet_socket S d change same = quiet_by S d (changed change) (λ D. quiet_target change same D.target)

-- ---- a queue that changes

-- what waits where one socket was changed: at another it waited before
changed_waits : (S : State) (d i k : ℕ) (change : Socket → Socket) (m : Message) →
    slice_get (queue_at (with_socket_by S d change) i) k ≡ Some m →
    (slice_get (queue_at S i) k ≡ Some m) ⊎ (slice_get (queue_in (option_map (changed change) (description_at S d))) k ≡ Some m)
changed_waits S d i k change m h =
    let all : queue_at (with_socket_by S d change) i ≡ queue_in
    (cond (d == i) (option_map (changed change) (description_at S i)) (description_at S i)) =
    ap queue_in (place-changed S.descriptions d i (changed change)) in
    let there : slice_get (queue_in (cond (d == i) (option_map (changed change) (description_at S i)) (description_at S i))) k ≡ Some m =
    sym (ap (λ q. slice_get q k) all) ∙ h in
    bool_cases (d == i)
    (λ same.
    let here : d ≡ i = eqb-true d i same in
    inr (subst (λ (j : ℕ). slice_get (queue_in (option_map (changed change) (description_at S j))) k ≡ Some m) (sym here)
    (sym (ap (λ b. slice_get (queue_in (cond b (option_map (changed change) (description_at S i)) (description_at S i))) k) same) ∙ there)))
    (λ other. inl (sym (ap (λ b. slice_get (queue_in (cond b (option_map (changed change) (description_at S i)) (description_at S i))) k)
    other) ∙ there))

-- the message that is put into a queue reports what this request sends, if it has rights
abbrev pub MayCarry : State → ℕ → ℕ → Request → Message → Type 0
MayCarry S p tag request m = (m.tag ≡ tag) × (0 < length m.rights → descriptions_behind (table_of S p) (sent_by request) ≡ Some m.rights)

pub sent_mail : (S : State) (p tag d : ℕ) (request : Request) (m : Message) → MayCarry S p tag request m →
    Mail S p tag request (with_socket_by S d (sent m))
sent_mail S p tag d request m may x rich (i, k, h) =
    ⊎_elim {C = Waits S x ⊎ IsNew S p tag request x} (λ old. inl (i, k, old)) (at_place (description_at S d) refl)
    (changed_waits S d i k (sent m) x h)
  where
    new : (s : Socket) → x ≡ sent_part s m → IsNew S p tag request x
    new s is =
        let rights : x.rights ≡ m.rights = ap (λ (w : Message). w.rights) is in
        let many : length x.rights ≡ length m.rights = ap (λ (r : List ℕ). length r) rights in
        (ap (λ (w : Message). w.tag) is ∙ may.0, may.1 (omega (arith, rich, many)) ∙ ap Some (sym rights))

    at_target : (t : Target) → queue_at S d ≡ queue_of t → slice_get (queue_of (changed_target (sent m) t)) k ≡ Some x →
        Waits S x ⊎ IsNew S p tag request x
    at_target (to_object o) here h = absurd (cc h)
    at_target (to_socket s) here h = ⊎_elim {C = Waits S x ⊎ IsNew S p tag request x} (λ w. inl (d, k, ap (λ q. slice_get q k) here ∙ w.0))
        (λ w. inr (new s w.0))
        (get_push s.queue (sent_part s m) x k h)

    at_place : (o : Option Description) → description_at S d ≡ o → slice_get (queue_in (option_map (changed (sent m)) o)) k ≡ Some x →
        Waits S x ⊎ IsNew S p tag request x
    at_place None here h = absurd (cc h)
    at_place (Some D) here h = at_target D.target (ap queue_in here) h

-- ---- a receive

-- what stands in a queue without its first bytes, with rights, stood in the queue
kept_rich : (n : ℕ) (q : List Message) (k : ℕ) (x : Message) → 0 < length x.rights → slice_get (without_first n q) k ≡ Some x →
    (j : ℕ) × (slice_get q j ≡ Some x)
kept_rich n [] k x rich h = absurd (cc h)
kept_rich zero (m ∷ ms) k x rich h = (k, h)
kept_rich (suc n) (m ∷ ms) k x rich h = go (kept_rich (suc n - length m.bytes) ms k x rich) (nat_le (length m.bytes) (suc n)) h
  where
    cut : (k : ℕ) → slice_get (record m { bytes = drop (suc n) m.bytes; rights = [] } ∷ ms) k ≡ Some x →
        (j : ℕ) × (slice_get (m ∷ ms) j ≡ Some x)
    cut zero h =
        let same : record m { bytes = drop (suc n) m.bytes; rights = [] } ≡ x = cc h in
        let none : length {A = ℕ} [] ≡ length x.rights = ap (λ (w : Message). length w.rights) same in
        absurd (omega (arith, rich, none))
    cut (suc k) h = (suc k, h)

    go : (slice_get (without_first (suc n - length m.bytes) ms) k ≡ Some x → (j : ℕ) × (slice_get ms j ≡ Some x)) → (b : Bool) →
        slice_get (if b then without_first (suc n - length m.bytes) ms else record m { bytes = drop (suc n) m.bytes; rights = [] } ∷ ms)
        k ≡ Some x → (j : ℕ) × (slice_get (m ∷ ms) j ≡ Some x)
    go rest true h = let w = rest h in (suc w.0, w.1)
    go rest false h = cut k h

-- what a receive leaves stood in the queue
rest_rich : (n : ℕ) (s : Socket) (m : Message) (ms : List Message) (k : ℕ) (x : Message) → 0 < length x.rights →
    slice_get (front_of n s m ms).rest k ≡ Some x →
    (j : ℕ) × (slice_get (m ∷ ms) j ≡ Some x)
rest_rich n s m ms k x rich h = go (is_stream s.kind) h
  where
    go : (b : Bool) → slice_get (if b then stream_front s.passcred n m ms else record_front n m ms).rest k ≡ Some x →
        (j : ℕ) × (slice_get (m ∷ ms) j ≡ Some x)
    go true h = kept_rich (min n (queued_bytes (joined_run s.passcred m ms))) (m ∷ ms) k x rich h
    go false h = (suc k, h)

pub taken_mail : (S T : State) (p tag d n : ℕ) (request : Request) (s : Socket) (m : Message) (ms : List Message) → Quiet S T →
    socket_at S d ≡ Some s → s.queue ≡ m ∷ ms →
    Mail S p tag request (with_socket_by T d (with_queue (front_of n s m ms).rest))
taken_mail S T p tag d n request s m ms quiet here q x rich (i, k, h) = ⊎_elim {C = Waits S x ⊎ IsNew S p tag request x}
    (λ old. inl (i, k, sym (ap (λ l. slice_get l k) (quiet i)) ∙ old))
    (λ new. inl (left (description_at T d) new)) (changed_waits T d i k (with_queue (front_of n s m ms).rest) x h)
  where
    there : slice_get (front_of n s m ms).rest k ≡ Some x → Waits S x
    there h = let w = rest_rich n s m ms k x rich h in (d, w.0, ap (λ l. slice_get l w.0) (queue_is S d s here ∙ q) ∙ w.1)

    at_target : (t : Target) → slice_get (queue_of (changed_target (with_queue (front_of n s m ms).rest) t)) k ≡ Some x → Waits S x
    at_target (to_object o) h = absurd (cc h)
    at_target (to_socket u) h = there h

    left : (o : Option Description) → slice_get (queue_in (option_map (changed (with_queue (front_of n s m ms).rest)) o)) k ≡ Some x →
        Waits S x
    left None h = absurd (cc h)
    left (Some D) h = at_target D.target h

-- ---- what goes at the end of a call

-- a queue stays, or goes with its socket
queue_lost : (gone : ℕ → Bool) (S : State) (d : ℕ) → (queue_at (without gone S) d ≡ queue_at S d) ⊎ (queue_at (without gone S) d ≡ [])
queue_lost gone S d = go (gone d) (description_at S d) (ap queue_in (description_at-without gone S d))
  where
    at_target : (t : Target) → queue_of (target_after_loss gone S t) ≡ queue_of t
    at_target (to_object o) = refl
    at_target (to_socket s) = refl

    go : (b : Bool) (x : Option Description) →
        queue_at (without gone S) d ≡ queue_in (if b then None else option_map (description_after_loss gone S) x) →
        (queue_at (without gone S) d ≡ queue_in x) ⊎ (queue_at (without gone S) d ≡ [])
    go true x h = inr h
    go false None h = inl h
    go false (Some D) h = inl (h ∙ at_target D.target)

lost_waits : (gone : ℕ → Bool) (S : State) (m : Message) → Waits (without gone S) m → Waits S m
lost_waits gone S m (d, k, h) = ⊎_elim {C = Waits S m} (λ same. (d, k, sym (ap (λ q. slice_get q k) same) ∙ h))
    (λ none. let nowhere : slice_get [] k ≡ Some m = sym (ap (λ q. slice_get q k) none) ∙ h in absurd (cc nowhere)) (queue_lost gone S d)

rounds_wait : (n : ℕ) (S : State) (m : Message) → Waits (drop_rounds n S) m → Waits S m
unfolding drop_rounds
rounds_wait zero S m w = w
rounds_wait (suc n) S m w = go (rounds_wait n (drop_all S) m) (has_unreferenced S) w
  where
    go : (Waits (drop_rounds n (drop_all S)) m → Waits (drop_all S) m) → (b : Bool) →
        Waits (elim b as (λ _. State) [ true ↦ drop_rounds n (drop_all S) | false ↦ S ]) m → Waits S m
    go rest true w = lost_waits (is_unreferenced S) S m (rest w)
    go rest false w = w

pub settled_waits : (S : State) (m : Message) → Waits (settled S) m → Waits S m
unfolding settled drop_unreferenced
settled_waits S m w = rounds_wait (length S.descriptions) S m w
