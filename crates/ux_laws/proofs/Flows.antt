-- What a call does to the messages that wait: it puts one behind all others, takes from the front of one queue, or leaves them, where some
-- go with
-- their sockets.
use Rattle.std.proofs.Common.{◌≡◌, ◌⊎◌, ℕ, zero, suc, ◌≤◌, ◌==◌, Bool, true, false, cond, if◌then◌else◌, List, [], ◌∷◌, ◌++◌, length}
use Rattle.std.proofs.Common.{Option, Some, None, option_map, refl, ap, sym, ◌∙◌, inl, inr, ⊎_elim, subst, slice_get, drop, min, ◌-◌, arith}
use Rattle.std.specs.Prelude.{nat_le}
use Rattle.std.proofs.lemmas.Bool.{eqb-true}
use Rattle.std.proofs.lemmas.List.{length_push}
use Rattle.ux_model.specs.Types.{SockType, Mode, Request, Reply}
use Rattle.ux_model.specs.Places.{place}
use Rattle.ux_model.specs.Message.{Message, queued_bytes}
use Rattle.ux_model.specs.Stream.{joined_run, without_first}
use Rattle.ux_model.specs.Front.{front_of, stream_front, record_front}
use Rattle.ux_model.specs.Socket.{Socket, is_stream, awaiting, sent_part, sent, with_queue, with_association, new_socket, pair_end}
use Rattle.ux_model.specs.Description.{Description, Target, to_object, to_socket, changed, changed_target}
use Rattle.ux_model.specs.State.{State, description_at, socket_at, next_description, with_socket_by, with_new}
use Rattle.ux_model.specs.Pairing.{socket_description}
use Rattle.ux_model.specs.Opening.{file_description}
use Rattle.ux_model.specs.Connecting.{with_listening, server_end, tied, no_open_flags}
use Rattle.ux_model.specs.Process.{own_cred}
use Rattle.ux_model.specs.Making.{next_object}
use Rattle.ux_model.proofs.Lists.ChangedPlaces.{bool_cases, length-changed}
use Rattle.ux_model.specs.Step.{Step}
use Rattle.ux_model.proofs.Lists.OnePlace.{same_at}
use Rattle.ux_model.proofs.Lists.Appending.{get_push}
use Rattle.ux_laws.proofs.Parts.{SocketParts, socket_parts, Glance, glance_target, glance, glance_at, glance_socket, Kept, Shrinks}
use Rattle.ux_laws.proofs.Parts.{glance_changed, glance_new}
use Rattle.ux_laws.proofs.Acts.{is_silent, MovesNothing, silent, IsSending, IsTaking, Did, quiet, opened, file_made, pipe_made, one_made}
use Rattle.ux_laws.proofs.Acts.{pair_made, listened}
use Rattle.ux_laws.proofs.Acts.{tied_to, connected, put, took}
use Rattle.ux_laws.proofs.Doing.Calls.{step_did}

abbrev pub waiting_in : Option SocketParts → List Message
waiting_in None = []
waiting_in (Some q) = q.waiting

-- what waits at the socket with this number
abbrev pub waiting_at : State → ℕ → List Message
waiting_at S d = waiting_in (glance_at S d).0

pub waiting_is : (S : State) (d : ℕ) (s : Socket) → socket_at S d ≡ Some s → waiting_at S d ≡ s.queue
waiting_is S d s h = ap (λ (g : Glance). waiting_in g.0) (glance_socket S d s h)

abbrev pub kind_in : Option SocketParts → Option SockType
kind_in None = None
kind_in (Some q) = Some q.kind

abbrev pub kind_at : State → ℕ → Option SockType
kind_at S d = kind_in (glance_at S d).0

-- beyond all descriptions there is nothing
pub unmade : (S : State) (d : ℕ) → length S.descriptions ≤ d → glance_at S d ≡ (None, None)
unmade S d h = ap glance (nothing S.descriptions d h)
  where
    nothing : (ds : List (Option Description)) (d : ℕ) → length ds ≤ d → place ds d ≡ None
    nothing [] d h = refl
    nothing (x ∷ ds) zero h = absurd (omega (arith, h))
    nothing (x ∷ ds) (suc d) h = nothing ds d (omega (arith, h))

-- ---- what stays

-- Each queue is as it was, that of what is new is empty, and sockets keep their kinds.
pub record Calm (S V : State) : Type 0 where
  pub waiting : (d : ℕ) → waiting_at V d ≡ waiting_at S d
  pub kind : (d : ℕ) → (kind_at V d ≡ kind_at S d) ⊎ (length S.descriptions ≤ d)
  pub more : length S.descriptions ≤ length V.descriptions

pub calm_same : (S : State) → Calm S S
calm_same S = record { waiting = λ d. refl; kind = λ d. inl refl; more = omega arith }

pub calm_after : (S T V : State) → Calm S T → Calm T V → Calm S V
calm_after S T V a b = record {
  waiting = λ d. b.waiting d ∙ a.waiting d;
  kind = λ d. ⊎_elim {C = (kind_at V d ≡ kind_at S d) ⊎ (length S.descriptions ≤ d)}
      (λ same. ⊎_elim {C = (kind_at V d ≡ kind_at S d) ⊎ (length S.descriptions ≤ d)} (λ before. inl (same ∙ before))
      (λ new. inr new) (a.kind d))
      (λ new. let m = a.more in inr (omega (arith, m, new))) (b.kind d);
  more = let m = a.more in let n = b.more in omega (arith, m, n);
}

calm_kept : (S V : State) → Kept S V → Calm S V
calm_kept S V k = record {
  waiting = λ d. ap (λ (g : Glance). waiting_in g.0) (k.each d);
  kind = λ d. inl (ap (λ (g : Glance). kind_in g.0) (k.each d));
  more = let l = k.long in omega (arith, l);
}

-- one socket changes, and not in its queue or kind
pub calm_change : (S : State) (t : ℕ) (change : Socket → Socket) → ((s : Socket) → (change s).queue ≡ s.queue) →
    ((s : Socket) → (change s).kind ≡ s.kind) → Calm S (with_socket_by S t change)
calm_change S t change queue kind = record {
  waiting = λ d. same_at (λ x. waiting_in (glance x).0) S.descriptions t d (option_map (changed change) (description_at S t))
      (at_place (λ o. waiting_in o) queue (description_at S t));
  kind = λ d. inl (same_at (λ x. kind_in (glance x).0) S.descriptions t d (option_map (changed change) (description_at S t))
      (at_place (λ o. kind_in o) (λ s. ap Some (kind s)) (description_at S t)));
  more = let l = length-changed S.descriptions t (changed change) in omega (arith, l);
}
  where
    at_target : {X : Type 0} (of : Option SocketParts → X) →
        ((s : Socket) → of (Some (socket_parts (change s))) ≡ of (Some (socket_parts s))) → (mode : Mode) (t : Target) →
        of (glance_target mode (changed_target change t)).0 ≡ of (glance_target mode t).0
    at_target of same mode (to_object o) = refl
    at_target of same mode (to_socket s) = same s

    at_place : {X : Type 0} (of : Option SocketParts → X) →
        ((s : Socket) → of (Some (socket_parts (change s))) ≡ of (Some (socket_parts s))) → (x : Option Description) →
        of (glance (option_map (changed change) x)).0 ≡ of (glance x).0
    at_place of same None = refl
    at_place of same (Some D) = at_target of same D.mode D.target

pub calm_new : (S : State) (D : Description) → waiting_in (glance (Some D)).0 ≡ [] → Calm S (with_new S D)
calm_new S D none = record {
  waiting = λ d. bool_cases (length S.descriptions == d)
      (λ e.
      let at : length S.descriptions ≡ d = eqb-true (length S.descriptions) d e in
      ap (λ (g : Glance). waiting_in g.0) (glance_new S D d ∙ ap (λ b. cond b (glance (Some D)) (glance_at S d)) e) ∙ none
      ∙ sym (ap (λ (g : Glance). waiting_in g.0) (unmade S d (omega (arith, at)))))
      (λ e. ap (λ (g : Glance). waiting_in g.0) (glance_new S D d ∙ ap (λ b. cond b (glance (Some D)) (glance_at S d)) e));
  kind = λ d. bool_cases (length S.descriptions == d)
      (λ e. let at : length S.descriptions ≡ d = eqb-true (length S.descriptions) d e in inr (omega (arith, at)))
      (λ e. inl (ap (λ (g : Glance). kind_in g.0) (glance_new S D d ∙ ap (λ b. cond b (glance (Some D)) (glance_at S d)) e)));
  more = let l = length_push S.descriptions (Some D) in omega (arith, l);
}

-- ---- a call

-- the queues of a call that neither sends nor takes, of one that sends, and of one that takes
pub data Flow (S : State) (p tag : ℕ) (request : Request) (reply : Reply) (T : State) : Type 0 where
  calm : (V : State) → Calm S V → MovesNothing S p request reply → Shrinks V T → Flow S p tag request reply T
  put_in : (t : ℕ) (m : Message) → IsSending S p tag request reply t m → Shrinks (with_socket_by S t (sent m)) T →
      Flow S p tag request reply T
  taken : (d n : ℕ) (s : Socket) (m : Message) (ms : List Message) → IsTaking S p request reply d n s m ms →
      Shrinks (with_socket_by S d (with_queue (front_of n s m ms).rest)) T →
      Flow S p tag request reply T

pub flow_of : (S T : State) (p tag : ℕ) (request : Request) (reply : Reply) → Did S p tag request reply T → Flow S p tag request reply T
flow_of S T p tag request reply (quiet k moves) = calm S (calm_same S) moves k
flow_of S T p tag request reply (opened path mode flags o a b c k) = calm _ (calm_new S (file_description o mode flags) refl) (silent c) k
flow_of S T p tag request reply (file_made mode flags a b k) =
    calm _ (calm_new S (file_description (next_object S) mode flags) refl) (silent b) k
flow_of S T p tag request reply (pipe_made flags a b k) =
    let one : Description = file_description (next_object S) Mode.Read flags in
    let two : Description = file_description (next_object S) Mode.Write flags in
    calm _ (calm_after S (with_new S one) (with_new (with_new S one) two) (calm_new S one refl) (calm_new (with_new S one) two refl))
    (silent b) k
flow_of S T p tag request reply (one_made kind flags is a k) =
    calm _ (calm_new S (socket_description flags (new_socket kind)) refl) (silent a) k
flow_of S T p tag request reply (pair_made kind flags P x y a b c k) =
    let one : State = with_new S (socket_description flags (pair_end kind (suc (next_description S)) (own_cred p P))) in
    let two : Description = socket_description flags (pair_end kind (next_description S) (own_cred p P)) in
    calm _ (calm_after S one (with_new one two) (calm_new S _ refl) (calm_new one two refl)) (silent (ap is_silent b)) k
flow_of S T p tag request reply (listened fd backlog P d limit s a b c e f h k) =
    calm _ (calm_change S d (with_listening limit (own_cred p P)) (λ s. refl) (λ s. refl)) (silent (ap is_silent b)) k
flow_of S T p tag request reply (tied_to d target s a b to k) =
    calm _ (calm_change S d (with_association target) (λ s. refl) (λ s. refl)) (silent a) k
flow_of S T p tag request reply (connected fd addr P d l s other kept a b c e f h i j m k) =
    let e : ℕ = next_description S in
    let U : State = with_socket_by S l (awaiting e) in
    let D : Description = socket_description no_open_flags (server_end other d (own_cred p P)) in
    let V : State = with_new U D in
    calm _ (calm_after S V (with_socket_by V d (tied e kept.cred))
    (calm_after S U V (calm_change S l (awaiting e) (λ s. refl) (λ s. refl)) (calm_new U D refl))
    (calm_change V d (tied e kept.cred) (λ s. refl) (λ s. refl))) (silent (ap is_silent b)) k
flow_of S T p tag request reply (put t m a k) = put_in t m a k
flow_of S T p tag request reply (took d n s m ms a k) = taken d n s m ms a k

pub step_flow : (S T : State) (p tag : ℕ) (request : Request) (reply : Reply) (gone : List ℕ) → Step S p tag request reply gone T →
    Flow S p tag request reply T
step_flow S T p tag request reply gone s = flow_of S T p tag request reply (step_did S T p tag request reply gone s)

-- ---- which messages wait then

-- it is the other one, or what was left of that where its first bytes were taken
pub record IsOf (m x : Message) : Type 0 where
  pub tag : m.tag ≡ x.tag
  pub cred : m.cred ≡ x.cred
  pub uid : m.uid ≡ x.uid

pub of_itself : (m : Message) → IsOf m m
of_itself m = record { tag = refl; cred = refl; uid = refl }

-- what waits in one queue waited there, or was sent there now
abbrev pub CameFrom : State → ℕ → ℕ → Request → Reply → ℕ → Message → Type 0
CameFrom S p tag request reply d m = ((k : ℕ) × (x : Message) × (slice_get (waiting_at S d) k ≡ Some x) × IsOf m x)
    ⊎ ((x : Message) × IsSending S p tag request reply d x × IsOf m x)

left_of : (n : ℕ) (q : List Message) (k : ℕ) (m : Message) → slice_get (without_first n q) k ≡ Some m →
    (j : ℕ) × (x : Message) × (slice_get q j ≡ Some x) × IsOf m x
left_of n [] k m h = absurd (cc h)
left_of zero (x ∷ xs) k m h = (k, m, h, of_itself m)
left_of (suc n) (x ∷ xs) k m h = go (left_of (suc n - length x.bytes) xs k m) (nat_le (length x.bytes) (suc n)) h
  where
    cut : (k : ℕ) → slice_get (record x { bytes = drop (suc n) x.bytes; rights = [] } ∷ xs) k ≡ Some m →
        (j : ℕ) × (y : Message) × (slice_get (x ∷ xs) j ≡ Some y) × IsOf m y
    cut zero h =
        let same : record x { bytes = drop (suc n) x.bytes; rights = [] } ≡ m = cc h in (
          0,
          x,
          refl,
          record {
            tag = sym (ap (λ (w : Message). w.tag) same);
            cred = sym (ap (λ (w : Message). w.cred) same);
            uid =
                sym (ap (λ (w : Message). w.uid) same);
          },
        )
    cut (suc k) h = (suc k, m, h, of_itself m)

    go : (slice_get (without_first (suc n - length x.bytes) xs) k ≡ Some m →
        (j : ℕ) × (y : Message) × (slice_get xs j ≡ Some y) × IsOf m y) → (b : Bool) →
        slice_get (if b then without_first (suc n - length x.bytes) xs else record x { bytes = drop (suc n) x.bytes; rights = [] } ∷ xs)
        k ≡ Some m → (j : ℕ) × (y : Message) × (slice_get (x ∷ xs) j ≡ Some y) × IsOf m y
    go rest true h = let w = rest h in (suc w.0, w.1, w.2, w.3)
    go rest false h = cut k h

rest_of : (n : ℕ) (s : Socket) (m : Message) (ms : List Message) (k : ℕ) (x : Message) → slice_get (front_of n s m ms).rest k ≡ Some x →
    (j : ℕ) × (y : Message) × (slice_get (m ∷ ms) j ≡ Some y) × IsOf x y
rest_of n s m ms k x h = go (is_stream s.kind) h
  where
    go : (b : Bool) → slice_get (if b then stream_front s.passcred n m ms else record_front n m ms).rest k ≡ Some x →
        (j : ℕ) × (y : Message) × (slice_get (m ∷ ms) j ≡ Some y) × IsOf x y
    go true h = left_of (min n (queued_bytes (joined_run s.passcred m ms))) (m ∷ ms) k x h
    go false h = (suc k, x, h, of_itself x)

-- what waits in what is left waited before something went
pub shrunk_waits : (V T : State) (d k : ℕ) (m : Message) → Shrinks V T → slice_get (waiting_at T d) k ≡ Some m →
    slice_get (waiting_at V d) k ≡ Some m
shrunk_waits V T d k m sh h = ⊎_elim {C = slice_get (waiting_at V d) k ≡ Some m}
    (λ same. sym (ap (λ (g : Glance). slice_get (waiting_in g.0) k) same) ∙ h)
    (λ none. let nowhere : slice_get [] k ≡ Some m = sym (ap (λ (g : Glance). slice_get (waiting_in g.0) k) none) ∙ h in
    absurd (cc nowhere)) (sh.each d)

-- a queue of a socket that is there still
pub still_waits : (V T : State) (d : ℕ) (t : Socket) → Shrinks V T → socket_at T d ≡ Some t → t.queue ≡ waiting_at V d
still_waits V T d t sh there = sym (waiting_is T d t there) ∙ ⊎_elim {C = waiting_at T d ≡ waiting_at V d}
    (λ same. ap (λ (g : Glance). waiting_in g.0) same)
    (λ gone. let clash : Some (socket_parts t) ≡ None = sym (ap (λ (g : Glance). g.0) (glance_socket T d t there))
    ∙ ap (λ (g : Glance). g.0) gone in absurd (cc clash)) (sh.each d)

-- the queue of the socket that was changed, and the others
pub changed_waiting : (S : State) (t d : ℕ) (change : Socket → Socket) (s : Socket) → socket_at S t ≡ Some s →
    waiting_at (with_socket_by S t change) d ≡ cond (t == d) (change s).queue (waiting_at S d)
changed_waiting S t d change s there = bool_cases (t == d)
    (λ e. ap (λ (g : Glance). waiting_in g.0)
    (glance_changed S t d change s there ∙ ap (λ b. cond b (Some (socket_parts (change s)), None) (glance_at S d)) e)
    ∙ sym (ap (λ b. cond b (change s).queue (waiting_at S d)) e))
    (λ e. ap (λ (g : Glance). waiting_in g.0)
    (glance_changed S t d change s there ∙ ap (λ b. cond b (Some (socket_parts (change s)), None) (glance_at S d)) e)
    ∙ sym (ap (λ b. cond b (change s).queue (waiting_at S d)) e))

pub flow_waits : (S T : State) (p tag : ℕ) (request : Request) (reply : Reply) (d k : ℕ) (m : Message) → Flow S p tag request reply T →
    slice_get (waiting_at T d) k ≡ Some m → CameFrom S p tag request reply d m
flow_waits S T p tag request reply d k m (calm V c moves sh) h =
    inl (k, m, sym (ap (λ q. slice_get q k) (c.waiting d)) ∙ shrunk_waits V T d k m sh h, of_itself m)
flow_waits S T p tag request reply d k m (put_in t x a sh) h = bool_cases (t == d)
    (λ e.
    let at : t ≡ d = eqb-true t d e in
    let there : slice_get (a.target.queue ++ sent_part a.target x ∷ []) k ≡ Some m =
    sym (ap (λ q. slice_get q k) (changed_waiting S t d (sent x) a.target a.there
    ∙ ap (λ b. cond b (sent x a.target).queue (waiting_at S d)) e)) ∙ shrunk_waits _ T d k m sh h in
    let queue : waiting_at S d ≡ a.target.queue = ap (λ (i : ℕ). waiting_at S i) (sym at) ∙ waiting_is S t a.target a.there in
    ⊎_elim {C = CameFrom S p tag request reply d m} (λ old. inl (k, m, ap (λ q. slice_get q k) queue ∙ old.0, of_itself m))
    (λ new. inr (
      x,
      subst (λ (i : ℕ). IsSending S p tag request reply i x) at a,
      record {
        tag = ap (λ (w : Message). w.tag) new.0;
        cred = ap (λ (w : Message). w.cred) new.0;
        uid = ap (λ (w : Message). w.uid) new.0;
      },
    ))
    (get_push a.target.queue (sent_part a.target x) m k there))
    (λ e. inl (
      k,
      m,
      sym (ap (λ q. slice_get q k)
          (changed_waiting S t d (sent x) a.target a.there ∙ ap (λ b. cond b (sent x a.target).queue (waiting_at S d)) e))
          ∙ shrunk_waits _ T d k m sh h,
      of_itself m,
    ))
flow_waits S T p tag request reply d k m (taken t n s x xs a sh) h = bool_cases (t == d)
    (λ e.
    let at : t ≡ d = eqb-true t d e in
    let there : slice_get (front_of n s x xs).rest k ≡ Some m =
    sym (ap (λ q. slice_get q k) (changed_waiting S t d (with_queue (front_of n s x xs).rest) s a.there
    ∙ ap (λ b. cond b (front_of n s x xs).rest (waiting_at S d)) e)) ∙ shrunk_waits _ T d k m sh h in
    let w = rest_of n s x xs k m there in
    let queue : waiting_at S d ≡ x ∷ xs = ap (λ (i : ℕ). waiting_at S i) (sym at) ∙ waiting_is S t s a.there ∙ a.waiting in
    inl (w.0, w.1, ap (λ q. slice_get q w.0) queue ∙ w.2, w.3))
    (λ e. inl (
      k,
      m,
      sym (ap (λ q. slice_get q k)
          (changed_waiting S t d (with_queue (front_of n s x xs).rest) s a.there
          ∙ ap (λ b. cond b (front_of n s x xs).rest (waiting_at S d)) e))
          ∙ shrunk_waits _ T d k m sh h,
      of_itself m,
    ))

-- ---- what stays of kinds

pub kind_kept : (S : State) (t d : ℕ) (change : Socket → Socket) → ((s : Socket) → (change s).kind ≡ s.kind) →
    kind_at (with_socket_by S t change) d ≡ kind_at S d
kind_kept S t d change kind = same_at (λ x. kind_in (glance x).0) S.descriptions t d (option_map (changed change) (description_at S t))
    (at_place (description_at S t))
  where
    at_target : (mode : Mode) (t : Target) → kind_in (glance_target mode (changed_target change t)).0 ≡ kind_in (glance_target mode t).0
    at_target mode (to_object o) = refl
    at_target mode (to_socket s) = ap Some (kind s)

    at_place : (x : Option Description) → kind_in (glance (option_map (changed change) x)).0 ≡ kind_in (glance x).0
    at_place None = refl
    at_place (Some D) = at_target D.mode D.target

-- a socket of such a kind is there, or none was made yet
abbrev pub IsAt : (SockType → Bool) → State → ℕ → Type 0
IsAt of S d = ((k : SockType) × (kind_at S d ≡ Some k) × (of k ≡ true)) ⊎ (length S.descriptions ≤ d)

pub at_socket : (of : SockType → Bool) (S : State) (d : ℕ) (s : Socket) → socket_at S d ≡ Some s → of s.kind ≡ true → IsAt of S d
at_socket of S d s there h = inl (s.kind, ap (λ (g : Glance). kind_in g.0) (glance_socket S d s there), h)

pub kind_there : (of : SockType → Bool) (S : State) (d : ℕ) (s : Socket) → socket_at S d ≡ Some s → IsAt of S d → of s.kind ≡ true
kind_there of S d s there at = ⊎_elim {C = of s.kind ≡ true}
    (λ w. let both : Some s.kind ≡ Some w.0 = sym (ap (λ (g : Glance). kind_in g.0) (glance_socket S d s there)) ∙ w.1 in
    let same : s.kind ≡ w.0 = cc both in ap of same ∙ w.2)
    (λ new. let none : Some (socket_parts s) ≡ None = sym (ap (λ (g : Glance). g.0) (glance_socket S d s there))
    ∙ ap (λ (g : Glance). g.0) (unmade S d new) in absurd (cc none)) at

pub at_shrunk : (of : SockType → Bool) (V T : State) (d : ℕ) → Shrinks V T → IsAt of T d → IsAt of V d × (waiting_at T d ≡ waiting_at V d)
at_shrunk of V T d sh at = ⊎_elim {C = IsAt of V d × (waiting_at T d ≡ waiting_at V d)}
    (λ w. ⊎_elim {C = IsAt of V d × (waiting_at T d ≡ waiting_at V d)}
    (λ same. (inl (w.0, sym (ap (λ (g : Glance). kind_in g.0) same) ∙ w.1, w.2), ap (λ (g : Glance). waiting_in g.0) same))
    (λ none. let clash : None ≡ Some w.0 = sym (ap (λ (g : Glance). kind_in g.0) none) ∙ w.1 in absurd (cc clash)) (sh.each d))
    (λ new.
    let long = sh.long in
    let before : length V.descriptions ≤ d = omega (arith, long, new) in
    (inr before, ap (λ (g : Glance). waiting_in g.0) (unmade T d new) ∙ sym (ap (λ (g : Glance). waiting_in g.0) (unmade V d before)))) at

pub at_calm : (of : SockType → Bool) (S V : State) (d : ℕ) → Calm S V → IsAt of V d → IsAt of S d
at_calm of S V d c at = ⊎_elim {C = IsAt of S d}
    (λ w. ⊎_elim {C = IsAt of S d} (λ same. inl (w.0, sym same ∙ w.1, w.2)) (λ new. inr new) (c.kind d))
    (λ new. let m = c.more in inr (omega (arith, m, new))) at

pub at_changed : (of : SockType → Bool) (S : State) (t d : ℕ) (change : Socket → Socket) → ((s : Socket) → (change s).kind ≡ s.kind) →
    IsAt of (with_socket_by S t change) d → IsAt of S d
at_changed of S t d change kind at = ⊎_elim {C = IsAt of S d}
    (λ w. inl (w.0, sym (kind_kept S t d change kind) ∙ w.1, w.2))
    (λ new. let l = length-changed S.descriptions t (changed change) in inr (omega (arith, l, new))) at
