-- Once a receive has installed rights of a message, no message that waits has those rights.
use Rattle.std.proofs.Common.{◌≡◌, ◌⊎◌, ℕ, zero, suc, ◌-◌, ◌≤◌, ◌<◌, ◌==◌, Bool, true, false, cond, if◌then◌else◌, List, [], ◌∷◌, ◌++◌}
use Rattle.std.proofs.Common.{length, drop, take, min, Option, Some, None, refl, ap, sym, ◌∙◌, subst, inl, inr, ⊎_elim, arith, slice_get}
use Rattle.std.specs.Prelude.{nat_le, nat_lt}
use Rattle.std.proofs.lemmas.Bool.{eqb-true, eqb-false, ltb-true, ltb-false}
use Rattle.std.proofs.lemmas.List.{length_push}
use Rattle.ux_model.specs.Types.{Request, Reply, Entry}
use Rattle.ux_model.specs.Places.{place}
use Rattle.ux_model.specs.Message.{Message, queued_bytes}
use Rattle.ux_model.specs.Stream.{joined_run, without_first}
use Rattle.ux_model.specs.Front.{stream_front, record_front, front_of}
use Rattle.ux_model.specs.Socket.{Socket, is_stream, sent_part, sent, with_queue}
use Rattle.ux_model.specs.State.{State, with_socket_by}
use Rattle.ux_model.specs.Boot.{IsBootState}
use Rattle.ux_model.specs.Step.{Step}
use Rattle.ux_model.specs.History.{replay}
use Rattle.ux_model.specs.Pedigree.{before, delivered}
use Rattle.ux_model.proofs.Lists.ChangedPlaces.{bool_cases}
use Rattle.ux_model.proofs.Lists.Appending.{get_push}
use Rattle.ux_model.proofs.Lists.ByPlace.{get_below, get_before, take_before}
use Rattle.ux_model.proofs.Lists.Induction.{IsKept, kept_throughout, get_pushed, take_pushed}
use Rattle.ux_model.proofs.Steps.Replays.{step_replay}
use Rattle.ux_model.proofs.Pedigrees.Moments.{moment}
use Rattle.ux_laws.specs.Talking.{is_peek, given_bytes, request_addr, goes_to, destination}
use Rattle.ux_laws.specs.Rights.{TakesRights, RightsComeOnce, RightsComeWithTheirMessage}
use Rattle.ux_laws.proofs.Parts.{glance, Shrinks}
use Rattle.ux_laws.proofs.Acts.{IsSending}
use Rattle.ux_laws.proofs.Flows.{waiting_in, waiting_at, waiting_is, Flow, calm, put_in, taken, step_flow, flow_waits, shrunk_waits}
use Rattle.ux_laws.proofs.Flows.{changed_waiting}
use Rattle.ux_laws.proofs.Installing.{Installs, rest_rich, step_installs}

-- ---- the tags of a queue rise

abbrev Rises : ℕ → List Message → Type 0
Rises low [] = Unit {0}
Rises low (m ∷ ms) = (low ≤ m.tag) × Rises (suc m.tag) ms

rises_from : (low high : ℕ) (q : List Message) → low ≤ high → Rises high q → Rises low q
rises_from low high [] h r = tt
rises_from low high (m ∷ ms) h r = let a = r.0 in (omega (arith, a, h), r.1)

rises_at : (low : ℕ) (q : List Message) (i : ℕ) (m : Message) → Rises low q → slice_get q i ≡ Some m → low ≤ m.tag
rises_at low [] i m r h = absurd (cc h)
rises_at low (x ∷ xs) zero m r h = let e : x ≡ m = cc h in let same : x.tag ≡ m.tag = ap (λ (w : Message). w.tag) e in let a = r.0 in
    omega (arith, a, same)
rises_at low (x ∷ xs) (suc i) m r h = let a = r.0 in let b = rises_at (suc x.tag) xs i m r.1 h in omega (arith, a, b)

-- so a tag stands in one place
one_place : (low : ℕ) (q : List Message) (i k : ℕ) (a b : Message) → Rises low q → slice_get q i ≡ Some a → slice_get q k ≡ Some b →
    a.tag ≡ b.tag → i ≡ k
one_place low [] i k a b r h g same = absurd (cc h)
one_place low (x ∷ xs) zero zero a b r h g same = refl
one_place low (x ∷ xs) zero (suc k) a b r h g same =
    let e : x ≡ a = cc h in let t : x.tag ≡ a.tag = ap (λ (w : Message). w.tag) e in let c = rises_at (suc x.tag) xs k b r.1 g in
    absurd (omega (arith, t, c, same))
one_place low (x ∷ xs) (suc i) zero a b r h g same =
    let e : x ≡ b = cc g in let t : x.tag ≡ b.tag = ap (λ (w : Message). w.tag) e in let c = rises_at (suc x.tag) xs i a r.1 h in
    absurd (omega (arith, t, c, same))
one_place low (x ∷ xs) (suc i) (suc k) a b r h g same = ap suc (one_place (suc x.tag) xs i k a b r.1 h g same)

rises_pushed : (low : ℕ) (q : List Message) (x : Message) → Rises low q → low ≤ x.tag →
    ((i : ℕ) (m : Message) → slice_get q i ≡ Some m → m.tag < x.tag) → Rises low (q ++ x ∷ [])
rises_pushed low [] x r h all = (h, tt)
rises_pushed low (m ∷ ms) x r h all = let a = all 0 m refl in
    (r.0, rises_pushed (suc m.tag) ms x r.1 (omega (arith, a)) (λ i y g. all (suc i) y g))

rises_without : (n low : ℕ) (q : List Message) → Rises low q → Rises low (without_first n q)
rises_without n low [] r = tt
rises_without zero low (m ∷ ms) r = r
rises_without (suc n) low (m ∷ ms) r = go (nat_le (length m.bytes) (suc n)) (rises_without (suc n - length m.bytes) (suc m.tag) ms r.1)
  where
    go : (b : Bool) → Rises (suc m.tag) (without_first (suc n - length m.bytes) ms) →
        Rises low (if b then without_first (suc n - length m.bytes) ms else record m { bytes = drop (suc n) m.bytes; rights = [] } ∷ ms)
    go true rest = let a = r.0 in rises_from low (suc m.tag) (without_first (suc n - length m.bytes) ms) (omega (arith, a)) rest
    go false rest = (r.0, r.1)

rises_rest : (n low : ℕ) (s : Socket) (m : Message) (ms : List Message) → Rises low (m ∷ ms) → Rises low (front_of n s m ms).rest
rises_rest n low s m ms r = go (is_stream s.kind)
  where
    go : (b : Bool) → Rises low (if b then stream_front s.passcred n m ms else record_front n m ms).rest
    go true = rises_without (min n (queued_bytes (joined_run s.passcred m ms))) low (m ∷ ms) r
    go false = let a = r.0 in rises_from low (suc m.tag) ms (omega (arith, a)) r.1

-- ---- where a message was sent to

record Home (boot : State) (es : List Entry) (d tag : ℕ) : Type 0 where
  pub sending : Entry
  pub there : slice_get es tag ≡ Some sending
  pub to : destination (before boot es tag) sending.pid.0 sending.request ≡ Some d

home_before : (boot : State) (es : List Entry) (e : Entry) (d tag : ℕ) → Home boot es d tag → Home boot (es ++ e ∷ []) d tag
home_before boot es e d tag h =
    let below = get_below es tag h.sending h.there in
    record {
      sending = h.sending;
      there = get_before es (e ∷ []) tag below ∙ h.there;
      to = ap (λ (l : List Entry). destination (replay boot l) h.sending.pid.0 h.sending.request)
          (take_before es (e ∷ []) tag (omega (arith, below))) ∙ h.to;
    }

home_now : (boot : State) (es : List Entry) (e : Entry) (d : ℕ) (m : Message) →
    IsSending (replay boot es) e.pid.0 (length es) e.request e.reply d m → Home boot (es ++ e ∷ []) d m.tag
home_now boot es e d m a = record {
  sending = e;
  there = ap (λ k. slice_get (es ++ e ∷ []) k) a.tagged ∙ get_pushed es e;
  to = ap (λ k. destination (before boot (es ++ e ∷ []) k) e.pid.0 e.request) a.tagged
      ∙ ap (λ (l : List Entry). destination (replay boot l) e.pid.0 e.request) (take_pushed es (e ∷ []))
      ∙ ap (λ (o : Option (ℕ × Socket)). elim o as
      (λ _. Option ℕ) [ None ↦ None | Some found ↦ goes_to (replay boot es) found.1 (request_addr e.request) ]) a.through ∙ a.goes;
}

one_home : (boot : State) (es : List Entry) (d k tag : ℕ) → Home boot es d tag → Home boot es k tag → d ≡ k
one_home boot es d k tag h g =
    let both : Some h.sending ≡ Some g.sending = sym h.there ∙ g.there in
    let same : h.sending ≡ g.sending = cc both in
    let to : Some d ≡ Some k = sym h.to ∙ ap (λ (e : Entry). destination (before boot es tag) e.pid.0 e.request) same ∙ g.to in
    cc to

-- ---- throughout

-- call i installed rights of the message, and isn't a peek
record Took (boot : State) (es : List Entry) (i tag : ℕ) : Type 0 where
  pub call : Entry
  pub there : slice_get es i ≡ Some call
  pub takes : is_peek call.request ≡ false
  pub told : delivered (before boot es i) call ≡ Some tag

record AllSpent (boot : State) (es : List Entry) (S : State) : Type 0 where
  pub reached : S ≡ replay boot es
  pub homes : (d k : ℕ) (m : Message) → slice_get (waiting_at S d) k ≡ Some m → Home boot es d m.tag
  pub rises : (d : ℕ) → Rises 0 (waiting_at S d)
  pub spent : (i tag d k : ℕ) (m : Message) → Took boot es i tag → slice_get (waiting_at S d) k ≡ Some m → m.tag ≡ tag →
      0 < length m.rights → ⊥
  pub early : (i tag : ℕ) → Took boot es i tag → tag < length es
  pub once : (i j tag : ℕ) → Took boot es i tag → Took boot es j tag → i ≡ j

-- what was taken earlier, or now
took_cases : (boot : State) (es : List Entry) (e : Entry) (i tag : ℕ) → Took boot (es ++ e ∷ []) i tag →
    Took boot es i tag ⊎ ((i ≡ length es) × (is_peek e.request ≡ false) × (delivered (replay boot es) e ≡ Some tag))
took_cases boot es e i tag t = bool_cases (nat_lt i (length es))
    (λ b.
    let less = ltb-true i (length es) b in
    inl (record {
      call = t.call;
      there = sym (get_before es (e ∷ []) i less) ∙ t.there;
      takes = t.takes;
      told = ap (λ (l : List Entry). delivered (replay boot l) t.call) (sym (take_before es (e ∷ []) i (omega (arith, less)))) ∙ t.told;
    }))
    (λ b.
    let more = ltb-false i (length es) b in
    let below = get_below (es ++ e ∷ []) i t.call t.there in
    let long = length_push es e in
    let at : i ≡ length es = omega (arith, more, below, long) in
    let both : Some t.call ≡ Some e = sym t.there ∙ ap (slice_get (es ++ e ∷ [])) at ∙ get_pushed es e in
    let same : t.call ≡ e = cc both in
    inr (
      at,
      sym (ap (λ (x : Entry). is_peek x.request) same) ∙ t.takes,
      sym (ap (λ (l : List Entry). delivered (replay boot l) e) (ap (λ (k : ℕ). take k (es ++ e ∷ [])) at ∙ take_pushed es (e ∷ [])))
          ∙ sym (ap (λ (x : Entry). delivered (before boot (es ++ e ∷ []) i) x) same) ∙ t.told,
    ))

rises_flow : (S T : State) (p tag : ℕ) (request : Request) (reply : Reply) (d : ℕ) → Flow S p tag request reply T →
    Rises 0 (waiting_at S d) → ((i : ℕ) (m : Message) → slice_get (waiting_at S d) i ≡ Some m → m.tag < tag) → Rises 0 (waiting_at T d)
rises_flow S T p tag request reply d f r all = by_flow f
  where
    by_queue : (V : State) → Shrinks V T → Rises 0 (waiting_at V d) → Rises 0 (waiting_at T d)
    by_queue V sh r = ⊎_elim {C = Rises 0 (waiting_at T d)} (λ same. subst (Rises 0) (sym (ap (λ g. waiting_in g.0) same)) r)
        (λ none. subst (Rises 0) (sym (ap (λ g. waiting_in g.0) none)) tt) (sh.each d)

    by_flow : Flow S p tag request reply T → Rises 0 (waiting_at T d)
    by_flow (calm V c moves sh) = by_queue V sh (subst (Rises 0) (sym (c.waiting d)) r)
    by_flow (put_in t m a sh) = by_queue (with_socket_by S t (sent m)) sh (bool_cases (t == d)
        (λ e.
        let here : waiting_at S d ≡ a.target.queue = ap (λ (i : ℕ). waiting_at S i) (sym (eqb-true t d e))
        ∙ waiting_is S t a.target a.there in
        subst (Rises 0) (sym (changed_waiting S t d (sent m) a.target a.there
        ∙ ap (λ c. cond c (sent m a.target).queue (waiting_at S d)) e))
        (rises_pushed 0 a.target.queue (sent_part a.target m) (subst (Rises 0) here r) (omega arith)
        (λ i x h. let few = all i x (ap (λ q. slice_get q i) here ∙ h) in let t = a.tagged in omega (arith, few, t))))
        (λ e. subst (Rises 0) (sym (changed_waiting S t d (sent m) a.target a.there
        ∙ ap (λ c. cond c (sent m a.target).queue (waiting_at S d)) e)) r))
    by_flow (taken t n s m ms a sh) = by_queue (with_socket_by S t (with_queue (front_of n s m ms).rest)) sh (bool_cases (t == d)
        (λ e.
        let here : waiting_at S d ≡ m ∷ ms = ap (λ (i : ℕ). waiting_at S i) (sym (eqb-true t d e)) ∙ waiting_is S t s a.there ∙ a.waiting in
        subst (Rises 0) (sym (changed_waiting S t d (with_queue (front_of n s m ms).rest) s a.there
        ∙ ap (λ c. cond c (front_of n s m ms).rest (waiting_at S d)) e)) (rises_rest n 0 s m ms (subst (Rises 0) here r)))
        (λ e. subst (Rises 0) (sym (changed_waiting S t d (with_queue (front_of n s m ms).rest) s a.there
        ∙ ap (λ c. cond c (front_of n s m ms).rest (waiting_at S d)) e)) r))

-- a message with rights that waits after a call waited before, with them, or was sent now
rich_came : (S T : State) (p tag : ℕ) (request : Request) (reply : Reply) (d k : ℕ) (m : Message) → Flow S p tag request reply T →
    slice_get (waiting_at T d) k ≡ Some m → 0 < length m.rights →
    ((j : ℕ) × (slice_get (waiting_at S d) j ≡ Some m)) ⊎ (m.tag ≡ tag)
rich_came S T p tag request reply d k m (calm V c moves sh) h rich =
    inl (k, sym (ap (λ q. slice_get q k) (c.waiting d)) ∙ shrunk_waits V T d k m sh h)
rich_came S T p tag request reply d k m (put_in t x a sh) h rich = bool_cases (t == d)
    (λ e.
    let there : slice_get (a.target.queue ++ sent_part a.target x ∷ []) k ≡ Some m =
    sym (ap (λ q. slice_get q k) (changed_waiting S t d (sent x) a.target a.there
    ∙ ap (λ b. cond b (sent x a.target).queue (waiting_at S d)) e)) ∙ shrunk_waits _ T d k m sh h in
    let queue : waiting_at S d ≡ a.target.queue = ap (λ (i : ℕ). waiting_at S i) (sym (eqb-true t d e)) ∙ waiting_is S t a.target a.there in
    ⊎_elim {C = ((j : ℕ) × (slice_get (waiting_at S d) j ≡ Some m)) ⊎ (m.tag ≡ tag)} (λ old. inl (k, ap (λ q. slice_get q k) queue ∙ old.0))
    (λ new. inr (ap (λ (w : Message). w.tag) new.0 ∙ a.tagged))
    (get_push a.target.queue (sent_part a.target x) m k there))
    (λ e. inl (
      k,
      sym (ap (λ q. slice_get q k)
          (changed_waiting S t d (sent x) a.target a.there ∙ ap (λ b. cond b (sent x a.target).queue (waiting_at S d)) e))
          ∙ shrunk_waits _ T d k m sh h,
    ))
rich_came S T p tag request reply d k m (taken t n s x xs a sh) h rich = bool_cases (t == d)
    (λ e.
    let there : slice_get (front_of n s x xs).rest k ≡ Some m =
    sym (ap (λ q. slice_get q k) (changed_waiting S t d (with_queue (front_of n s x xs).rest) s a.there
    ∙ ap (λ b. cond b (front_of n s x xs).rest (waiting_at S d)) e)) ∙ shrunk_waits _ T d k m sh h in
    let w = rest_rich n s x xs k m rich there in
    let queue : waiting_at S d ≡ x ∷ xs = ap (λ (i : ℕ). waiting_at S i) (sym (eqb-true t d e)) ∙ waiting_is S t s a.there ∙ a.waiting in
    inl (w.0, ap (λ q. slice_get q w.0) queue ∙ w.1))
    (λ e. inl (
      k,
      sym (ap (λ q. slice_get q k)
          (changed_waiting S t d (with_queue (front_of n s x xs).rest) s a.there
          ∙ ap (λ b. cond b (front_of n s x xs).rest (waiting_at S d)) e))
          ∙ shrunk_waits _ T d k m sh h,
    ))

spent_kept : (boot : State) → IsKept boot (AllSpent boot)
spent_kept boot = record {
  at_boot = λ boots. record {
    reached = refl;
    homes = λ d k m h. absurd (nothing_waits d k m boots h);
    rises = λ d. subst (Rises 0) (sym (ap (λ ds. waiting_in (glance (place ds d)).0) boots.no_descriptions)) tt;
    spent = λ i tag d k m t h same rich. nothing_waits d k m boots h;
    early = λ i tag t. absurd (nobody i tag t);
    once = λ i j tag t u. absurd (nobody i tag t);
  };
  by_entry = λ es e S T so_far step may. further es e S T so_far step;
}
  where
    nothing_waits : (d k : ℕ) (m : Message) → IsBootState boot → slice_get (waiting_at boot d) k ≡ Some m → ⊥
    nothing_waits d k m boots h =
        let none : slice_get [] k ≡ Some m = sym (ap (λ ds. slice_get (waiting_in (glance (place ds d)).0) k) boots.no_descriptions) ∙ h in
        cc none

    nobody : (i tag : ℕ) → Took boot [] i tag → ⊥
    nobody i tag t = cc t.there

    further : (es : List Entry) (e : Entry) (S T : State) → AllSpent boot es S → Step S e.pid.0 (length es) e.request e.reply e.released T →
        AllSpent boot (es ++ e ∷ []) T
    further es e S T so_far given_step = record {
      reached = step_replay boot T es e step;
      homes = λ d k m h. ⊎_elim {C = Home boot (es ++ e ∷ []) d m.tag}
          (λ old. subst (Home boot (es ++ e ∷ []) d) (sym old.3.tag) (home_before boot es e d old.1.tag (all.homes d old.0 old.1 old.2)))
          (λ new. subst (Home boot (es ++ e ∷ []) d) (sym new.2.tag) (home_now boot es e d new.0 new.1))
          (flow_waits R T e.pid.0 (length es) e.request e.reply d k m flow h);
      rises = λ d. rises_flow R T e.pid.0 (length es) e.request e.reply d flow (all.rises d)
          (λ i m h. let home = all.homes d i m h in get_below es m.tag home.sending home.there);
      spent = λ i tag d k m t h same rich. ⊎_elim {C = ⊥}
          (λ old. ⊎_elim {C = ⊥} (λ w. all.spent i tag d w.0 m old w.1 same rich)
          (λ new. let few = all.early i tag old in omega (arith, few, new, same))
          (rich_came R T e.pid.0 (length es) e.request e.reply d k m flow h rich))
          (λ now. gone d k m tag now.1 now.2 h same rich) (took_cases boot es e i tag t);
      early = λ i tag t.
          let long = length_push es e in
          ⊎_elim {C = tag < length (es ++ e ∷ [])} (λ old. let few = all.early i tag old in omega (arith, few, long))
          (λ now.
          let w = installs tag now.2 in
          let home = all.homes w.number w.carried.number w.carried.message (waited tag w) in
          let below = get_below es w.carried.message.tag home.sending home.there in
          let same = w.tagged in
          omega (arith, below, same, long)) (took_cases boot es e i tag t);
      once = λ i j tag t u. ⊎_elim {C = i ≡ j}
          (λ old. ⊎_elim {C = i ≡ j} (λ other. all.once i j tag old other)
          (λ now. absurd (not_again i tag old now.2)) (took_cases boot es e j tag u))
          (λ now. ⊎_elim {C = i ≡ j} (λ other. absurd (not_again j tag other now.2))
          (λ later. now.0 ∙ sym later.0) (took_cases boot es e j tag u))
          (took_cases boot es e i tag t);
    }
      where
        R : State
        R = replay boot es

        step : Step R e.pid.0 (length es) e.request e.reply e.released T
        step = subst (λ (U : State). Step U e.pid.0 (length es) e.request e.reply e.released T) so_far.reached given_step

        all : AllSpent boot es R
        all = subst (AllSpent boot es) so_far.reached so_far

        flow : Flow R e.pid.0 (length es) e.request e.reply T
        flow = step_flow R T e.pid.0 (length es) e.request e.reply e.released step

        -- what a call installs now waited with its rights before it
        installs : (tag : ℕ) → delivered R e ≡ Some tag → Installs R e.pid.0 e.request e.reply T tag
        installs tag told = step_installs R T e.pid.0 (length es) e.request e.reply e.released step tag told

        waited : (tag : ℕ) (w : Installs R e.pid.0 e.request e.reply T tag) →
            slice_get (waiting_at R w.number) w.carried.number ≡ Some w.carried.message
        waited tag w = ap (λ q. slice_get q w.carried.number) (waiting_is R w.number w.socket w.there ∙ w.queue) ∙ w.carried.there

        not_again : (i tag : ℕ) → Took boot es i tag → delivered R e ≡ Some tag → ⊥
        not_again i tag old told =
            let w = installs tag told in
            all.spent i tag w.number w.carried.number w.carried.message old (waited tag w) w.tagged w.rich

        gone : (d k : ℕ) (m : Message) (tag : ℕ) → is_peek e.request ≡ false → delivered R e ≡ Some tag →
            slice_get (waiting_at T d) k ≡ Some m → m.tag ≡ tag → 0 < length m.rights → ⊥
        gone d k m tag takes told h same rich =
            let w = installs tag told in
            let c = w.carried in
            let V : State = with_socket_by R w.number (with_queue (front_of w.n w.socket w.first w.rest).rest) in
            let h' : slice_get (waiting_at V d) k ≡ Some m = shrunk_waits V T d k m (w.takes takes) h in
            let change = changed_waiting R w.number d (with_queue (front_of w.n w.socket w.first w.rest).rest) w.socket w.there in
            bool_cases (w.number == d)
            (λ b.
            let there : slice_get (front_of w.n w.socket w.first w.rest).rest k ≡ Some m =
            sym (ap (λ q. slice_get q k) (change ∙ ap (λ c. cond c (front_of w.n w.socket w.first w.rest).rest (waiting_at R d)) b)) ∙ h' in
            let l = c.left k m rich there in
            let queue : waiting_at R w.number ≡ w.first ∷ w.rest = waiting_is R w.number w.socket w.there ∙ w.queue in
            l.2 (one_place 0 (w.first ∷ w.rest) l.0 c.number m c.message (subst (Rises 0) queue (all.rises w.number)) l.1 c.there
            (same ∙ sym w.tagged)))
            (λ b.
            let there : slice_get (waiting_at R d) k ≡ Some m =
            sym (ap (λ q. slice_get q k) (change ∙ ap (λ c. cond c (front_of w.n w.socket w.first w.rest).rest (waiting_at R d)) b)) ∙ h' in
            let one = all.homes d k m there in
            let two = all.homes w.number c.number c.message (waited tag w) in
            eqb-false w.number d b (one_home boot es w.number d tag (subst (Home boot es w.number) w.tagged two)
            (subst (Home boot es d) same one)))

-- ---- the laws

pub rights_come_once : RightsComeOnce
rights_come_once boot es i j tag legal t u =
    (kept_throughout boot (AllSpent boot) (spent_kept boot) es legal).once i j tag (took i t) (took j u)
  where
    took : (k : ℕ) → TakesRights es k tag → Took boot es k tag
    took k t = record { call = t.call; there = t.there; takes = t.takes; told = sym (legal.each k t.call t.there).delivers ∙ t.delivers }

pub rights_come_with_their_message : RightsComeWithTheirMessage
rights_come_with_their_message boot es j n space count tag e fd asked flags bytes control from legal at request reply told =
    let S : State = before boot es j in
    let step = (moment boot es j e legal at).steps in
    let delivers : delivered S e ≡ Some tag = sym (legal.each j e at).delivers ∙ told in
    let w = step_installs S (before boot es (suc j)) e.pid.0 j e.request e.reply e.released step tag delivers in
    let c = w.carried in
    let given : bytes ≡ (front_of w.n w.socket w.first w.rest).bytes = sym (ap given_bytes reply) ∙ w.bytes in
    let long : length bytes ≡ length (front_of w.n w.socket w.first w.rest).bytes = ap (λ (l : List ℕ). length l) given in
    let queue = w.queue in
    let begun = c.begun in
    let last = c.last in
    record {
      number = w.number;
      socket = w.socket;
      place = c.number;
      message = c.message;
      through = w.through;
      waits = ap (λ (q : List Message). slice_get q c.number) queue ∙ c.there;
      sent = w.tagged;
      rights = w.sources_are;
      begun = λ streams. let few = begun streams in
          subst (λ (q : List Message). queued_bytes (take c.number q) < length bytes) (sym queue) (omega (arith, few, long));
      oldest = c.oldest;
      last = subst (λ (q : List Message). length bytes ≤ queued_bytes (take (suc c.number) q)) (sym queue) (omega (arith, last, long));
      others = λ i m less h. c.others i m less (sym (ap (λ (q : List Message). slice_get q i) queue) ∙ h);
    }
