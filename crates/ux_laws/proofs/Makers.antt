-- The credentials that a socket has of its peer, and a listening socket of who listens, are of the process that made the pair, connected or
-- listened.
use Rattle.std.proofs.Common.{◌≡◌, ◌⊎◌, ℕ, suc, ◌≤◌, ◌<◌, ◌==◌, true, false, cond, List, [], ◌∷◌, ◌++◌, length, take, Option, Some, None}
use Rattle.std.proofs.Common.{Result, Ok, refl, ap, sym, ◌∙◌, subst, inl, inr, ⊎_elim, arith, slice_get}
use Rattle.std.specs.Prelude.{ℤ, is_some}
use Rattle.std.proofs.lemmas.Bool.{eqb-true, eqb-false}
use Rattle.std.proofs.lemmas.List.{length_push}
use Rattle.ux_model.specs.Types.{Errno, Fd, Cred, SockType, SockOpt, Request, Reply, Entry, Mode}
use Rattle.ux_model.specs.Places.{place}
use Rattle.ux_model.specs.Names.{is_unnamed_addr}
use Rattle.ux_model.specs.Backlog.{backlog_of}
use Rattle.ux_model.specs.Socket.{Socket, Phase, idle, listening, connected as joined, associated, awaiting, sent, with_queue}
use Rattle.ux_model.specs.Socket.{phase_with_association, with_association, new_socket, pair_end, is_dgram, peer_of}
use Rattle.ux_model.specs.Description.{Description, changed}
use Rattle.ux_model.specs.Process.{Process, own_cred}
use Rattle.ux_model.specs.State.{State, process_at, socket_at, next_description, with_socket_by, with_new}
use Rattle.ux_model.specs.Outcome.{Outcome, Chosen, own, lacking_memory, failing, find_socket}
use Rattle.ux_model.specs.Pairing.{socket_description}
use Rattle.ux_model.specs.Binding.{look_up}
use Rattle.ux_model.specs.Opening.{file_description}
use Rattle.ux_model.specs.Connecting.{Listener, listener_of, with_listening, listen, server_end, tied, no_open_flags}
use Rattle.ux_model.specs.Making.{next_object}
use Rattle.ux_model.specs.Options.{tell_cred, get_opt}
use Rattle.ux_model.specs.Boot.{IsBootState}
use Rattle.ux_model.specs.Step.{Step, outcome}
use Rattle.ux_model.specs.History.{replay}
use Rattle.ux_model.specs.Pedigree.{before}
use Rattle.ux_model.proofs.Lists.ChangedPlaces.{bool_cases, length-changed}
use Rattle.ux_model.proofs.Changes.Walk.{either, maybe}
use Rattle.ux_model.proofs.Lists.Fronts.{front_is_legal, in_front}
use Rattle.ux_model.proofs.Lists.ByPlace.{get_below, get_within, get_before, take_before}
use Rattle.ux_model.proofs.Lists.Induction.{IsKept, kept_throughout, get_pushed, take_pushed}
use Rattle.ux_model.proofs.Steps.Replays.{step_replay}
use Rattle.ux_model.proofs.Pedigrees.Moments.{moment}
use Rattle.ux_model.proofs.Tables.Shows.{by_socket}
use Rattle.ux_laws.specs.Talking.{if_found, is_number}
use Rattle.ux_laws.specs.Credentials.{listening_cred, socket_behind, listens_on, IsCallBy, HasListened, IsPeersCred, of_maker, of_client}
use Rattle.ux_laws.specs.Credentials.{of_listener, PeersAreTheMakers}
use Rattle.ux_laws.proofs.Parts.{SocketParts, socket_parts, awaiting_parts, Glance, glance, glance_at, glance_changed, Shrinks}
use Rattle.ux_laws.proofs.Parts.{settled_shrinks, Seen, seen_changed, seen_new, seen_shrunk, seen_socket}
use Rattle.ux_laws.proofs.Acts.{Did, quiet, opened, file_made, pipe_made, one_made, pair_made, listened, tied_to, connected, put, took}
use Rattle.ux_laws.proofs.Doing.Calls.{step_did}

-- ---- longer histories

abbrev called_before : (boot : State) (es : List Entry) (e : Entry) (at : ℕ) (request : Request) (reply : Reply) (cred : Cred) →
    IsCallBy boot es at request reply cred → IsCallBy boot (es ++ e ∷ []) at request reply cred
called_before boot es e at request reply cred c =
    let below = get_below es at c.call c.there in
    record {
      call = c.call;
      process = c.process;
      there = get_before es (e ∷ []) at below ∙ c.there;
      asked = c.asked;
      answered = c.answered;
      caller = ap (λ (l : List Entry). process_at (replay boot l) c.call.pid.0) (take_before es (e ∷ []) at (omega (arith, below)))
          ∙ c.caller;
      own = c.own;
    }

earlier_state : (boot : State) (es : List Entry) (e : Entry) (at : ℕ) → at < length es → before boot (es ++ e ∷ []) at ≡ before boot es at
earlier_state boot es e at below = ap (λ (l : List Entry). replay boot l) (take_before es (e ∷ []) at (omega (arith, below)))

heard_before : (boot : State) (es : List Entry) (e : Entry) (l until : ℕ) (cred : Cred) → until ≤ length es →
    HasListened boot es l until cred → HasListened boot (es ++ e ∷ []) l until cred
heard_before boot es e l until cred within h =
    let below = get_below es h.at h.called.call h.called.there in
    record {
      at = h.at;
      fd = h.fd;
      backlog = h.backlog;
      called = called_before boot es e h.at (Request.Listen h.fd h.backlog) Reply.Ok cred h.called;
      on = ap (λ (S : State). socket_behind S h.called.call.pid.0 h.fd) (earlier_state boot es e h.at below) ∙ h.on;
      earlier = h.earlier;
      last = λ j x low high at.
          let less : j < length es = omega (arith, high, within) in
          ap (λ (S : State). listens_on S l x.pid.0 x.request x.reply) (earlier_state boot es e j less)
          ∙ h.last j x low high (sym (get_before es (e ∷ []) j less) ∙ at);
    }

-- one call later, which is no listen there
later : (boot : State) (es : List Entry) (e : Entry) (l : ℕ) (cred : Cred) →
    listens_on (replay boot es) l e.pid.0 e.request e.reply ≡ false → HasListened boot (es ++ e ∷ []) l (length es) cred →
    HasListened boot (es ++ e ∷ []) l (length (es ++ e ∷ [])) cred
later boot es e l cred elsewhere h =
    let early = h.earlier in
    let long = length_push es e in
    record {
      at = h.at;
      fd = h.fd;
      backlog = h.backlog;
      called = h.called;
      on = h.on;
      earlier = omega (arith, early, long);
      last = λ j x low high at. bool_cases (j == length es)
          (λ b.
          let is : j ≡ length es = eqb-true j (length es) b in
          let both : Some x ≡ Some e = sym at ∙ ap (slice_get (es ++ e ∷ [])) is ∙ get_pushed es e in
          let one : x ≡ e = cc both in
          ap (λ (i : ℕ). listens_on (before boot (es ++ e ∷ []) i) l x.pid.0 x.request x.reply) is
          ∙ ap (λ (S : State). listens_on S l x.pid.0 x.request x.reply) (ap (λ (k : List Entry). replay boot k) (take_pushed es (e ∷ [])))
          ∙ ap (λ (y : Entry). listens_on (replay boot es) l y.pid.0 y.request y.reply) one ∙ elsewhere)
          (λ b. let ne = eqb-false j (length es) b in h.last j x low (omega (arith, high, long, ne)) at);
    }

met_before : (boot : State) (es : List Entry) (e : Entry) (d : ℕ) (cred : Cred) → IsPeersCred boot es d cred →
    IsPeersCred boot (es ++ e ∷ []) d cred
met_before boot es e d cred (of_maker at kind flags first second c is) =
    let state = earlier_state boot es e at (get_below es at c.call c.there) in
    of_maker at kind flags first second (called_before boot es e at (Request.SocketPair kind flags) (Reply.Fds first second) cred c)
    (subst (λ (S : State). (d ≡ next_description S) ⊎ (d ≡ suc (next_description S))) (sym state) is)
met_before boot es e d cred (of_client at fd addr c is) =
    let state = earlier_state boot es e at (get_below es at c.call c.there) in
    of_client at fd addr (called_before boot es e at (Request.Connect fd addr) Reply.Ok cred c)
    (subst (λ (S : State). d ≡ next_description S) (sym state) is)
met_before boot es e d cred (of_listener c) =
    let state = earlier_state boot es e c.at (get_below es c.at c.called.call c.called.there) in
    of_listener (record {
      at = c.at;
      fd = c.fd;
      addr = c.addr;
      client = c.client;
      called = called_before boot es e c.at (Request.Connect c.fd c.addr) Reply.Ok c.client c.called;
      on = ap (λ (S : State). socket_behind S c.called.call.pid.0 c.fd) state ∙ c.on;
      kind = c.kind;
      listener = c.listener;
      socket = c.socket;
      to = ap (λ (S : State). look_up S c.kind c.addr) state ∙ c.to;
      listened = let below = get_below es c.at c.called.call c.called.there in
          heard_before boot es e c.listener c.at cred (omega (arith, below)) c.listened;
    })

abbrev called_now : (boot : State) (es : List Entry) (e : Entry) (request : Request) (reply : Reply) (P : Process) → e.request ≡ request →
    e.reply ≡ reply → process_at (replay boot es) e.pid.0 ≡ Some P →
    IsCallBy boot (es ++ e ∷ []) (length es) request reply (own_cred e.pid.0 P)
called_now boot es e request reply P asked answered here = record {
  call = e;
  process = P;
  there = get_pushed es e;
  asked = asked;
  answered = answered;
  caller = ap (λ (l : List Entry). process_at (replay boot l) e.pid.0) (take_pushed es (e ∷ [])) ∙ here;
  own = refl;
}

-- what stands in a front of a history stands in it
state_in_front : (boot : State) (es : List Entry) (j at : ℕ) (call : Entry) → slice_get (take j es) at ≡ Some call →
    before boot (take j es) at ≡ before boot es at
state_in_front boot es j at call there = ap (λ (l : List Entry). replay boot l) (in_front es j at call there).1

abbrev called_in_front : (boot : State) (es : List Entry) (j at : ℕ) (request : Request) (reply : Reply) (cred : Cred) →
    IsCallBy boot (take j es) at request reply cred →
    IsCallBy boot es at request reply cred × (before boot (take j es) at ≡ before boot es at)
called_in_front boot es j at request reply cred c =
    let state = state_in_front boot es j at c.call c.there in (
      record {
        call = c.call;
        process = c.process;
        there = (in_front es j at c.call c.there).0;
        asked = c.asked;
        answered = c.answered;
        caller = ap (λ (S : State). process_at S c.call.pid.0) (sym state) ∙ c.caller;
        own = c.own;
      },
      state,
    )

now_state : (boot : State) (es : List Entry) (e : Entry) → before boot (es ++ e ∷ []) (length es) ≡ replay boot es
now_state boot es e = ap (λ (l : List Entry). replay boot l) (take_pushed es (e ∷ []))

-- ---- what each socket has

record AllMet (boot : State) (es : List Entry) (S : State) : Type 0 where
  pub reached : S ≡ replay boot es
  pub peers : (d : ℕ) (q : SocketParts) (cred : Cred) → Seen S d q → q.peer_cred ≡ Some cred → IsPeersCred boot es d cred
  pub listeners : (d : ℕ) (q : SocketParts) (cred : Cred) → Seen S d q → q.tie.listener ≡ Some cred → HasListened boot es d (length es) cred

-- of one socket, after one more entry
abbrev Met : State → List Entry → Entry → ℕ → SocketParts → Type 0
Met boot es e d q = ((cred : Cred) → q.peer_cred ≡ Some cred → IsPeersCred boot (es ++ e ∷ []) d cred)
    × (listens_on (replay boot es) d e.pid.0 e.request e.reply ≡ false → (cred : Cred) → q.tie.listener ≡ Some cred →
    HasListened boot (es ++ e ∷ []) d (length (es ++ e ∷ [])) cred)

old_met : (boot : State) (es : List Entry) (e : Entry) (S : State) (d : ℕ) (q : SocketParts) → AllMet boot es S → Seen S d q →
    Met boot es e d q
old_met boot es e S d q all h = (
  (λ cred told. met_before boot es e d cred (all.peers d q cred h told)),
  (λ elsewhere cred told. later boot es e d cred elsewhere
      (heard_before boot es e d (length es) cred (omega arith) (all.listeners d q cred h told))),
)

-- nothing is known of whoever has neither
none_met : (boot : State) (es : List Entry) (e : Entry) (d : ℕ) (q : SocketParts) → q.peer_cred ≡ None → q.tie.listener ≡ None →
    Met boot es e d q
none_met boot es e d q told tie = (
  (λ cred h. let nobody : None ≡ Some cred = sym told ∙ h in absurd (cc nobody)),
  (λ elsewhere cred h. let nobody : None ≡ Some cred = sym tie ∙ h in absurd (cc nobody)),
)

-- it has what another has
alike_met : (boot : State) (es : List Entry) (e : Entry) (d : ℕ) (q r : SocketParts) → q.peer_cred ≡ r.peer_cred →
    q.tie.listener ≡ r.tie.listener →
    Met boot es e d r → Met boot es e d q
alike_met boot es e d q r told tie m = ((λ cred h. m.0 cred (sym told ∙ h)), (λ elsewhere cred h. m.1 elsewhere cred (sym tie ∙ h)))

same_listener : (target : Option ℕ) (phase : Phase) → listening_cred (phase_with_association target phase) ≡ listening_cred phase
same_listener None idle = refl
same_listener (Some t) idle = refl
same_listener target (listening backlog cred) = refl
same_listener target (joined peer) = refl
same_listener None (associated old) = refl
same_listener (Some t) (associated old) = refl

listener_cred : (phase : Phase) (kept : Listener) → listener_of phase ≡ Some kept → listening_cred phase ≡ Some kept.cred
listener_cred idle kept h = absurd (cc h)
listener_cred (listening backlog cred) kept h =
    ap (λ (o : Option Listener). elim o as (λ _. Option Cred) [ None ↦ None | Some k ↦ Some k.cred ]) h
listener_cred (joined peer) kept h = absurd (cc h)
listener_cred (associated old) kept h = absurd (cc h)

pub behind_is : (S : State) (p d : ℕ) (fd : Fd) (s : Socket) → find_socket S p fd ≡ Ok (d, s) → socket_behind S p fd ≡ Some d
behind_is S p d fd s h = ap (λ (r : Result (ℕ × Socket) Errno). elim (if_found r) as
    (λ _. Option ℕ) [ None ↦ None | Some found ↦ Some found.0 ]) h

-- a change that touches neither
changed_met : (boot : State) (es : List Entry) (e : Entry) (S T : State) (t d : ℕ) (change : Socket → Socket) (q : SocketParts) →
    AllMet boot es S →
    ((s : Socket) → (change s).peer_cred ≡ s.peer_cred) → ((s : Socket) → listening_cred (change s).phase ≡ listening_cred s.phase) →
    Shrinks (with_socket_by S t change) T → Seen T d q → Met boot es e d q
changed_met boot es e S T t d change q all told tie k h = ⊎_elim {C = Met boot es e d q}
    (λ w. alike_met boot es e d q (socket_parts w.1) (ap (λ (r : SocketParts). r.peer_cred) w.3 ∙ told w.1)
    (ap (λ (r : SocketParts). r.tie.listener) w.3 ∙ tie w.1) (old_met boot es e S d (socket_parts w.1) all (seen_socket S d w.1 w.2)))
    (λ old. old_met boot es e S d q all old) (seen_changed S t d change q (seen_shrunk _ T d q k h))

new_met : (boot : State) (es : List Entry) (e : Entry) (S T : State) (d : ℕ) (D : Description) (q : SocketParts) → AllMet boot es S →
    ((glance (Some D)).0 ≡ Some q → Met boot es e d q) →
    Shrinks (with_new S D) T → Seen T d q → Met boot es e d q
new_met boot es e S T d D q all of k h =
    ⊎_elim {C = Met boot es e d q} (λ w. of w.1) (λ old. old_met boot es e S d q all old) (seen_new S D d q (seen_shrunk _ T d q k h))

did_met : (boot : State) (es : List Entry) (e : Entry) (T : State) (d : ℕ) (q : SocketParts) → AllMet boot es (replay boot es) →
    Did (replay boot es) e.pid.0 (length es) e.request e.reply T → Seen T d q → Met boot es e d q
did_met boot es e T d q all (quiet k moves) h = old_met boot es e (replay boot es) d q all (seen_shrunk (replay boot es) T d q k h)
did_met boot es e T d q all (opened path mode flags o a b c k) h =
    new_met boot es e (replay boot es) T d (file_description o mode flags) q all (λ none. absurd (cc none)) k h
did_met boot es e T d q all (file_made mode flags a b k) h =
    new_met boot es e (replay boot es) T d (file_description (next_object (replay boot es)) mode flags) q all (λ none. absurd (cc none)) k h
did_met boot es e T d q all (pipe_made flags a b k) h =
    let S : State = replay boot es in
    let one : Description = file_description (next_object S) Mode.Read flags in
    let two : Description = file_description (next_object S) Mode.Write flags in
    ⊎_elim {C = Met boot es e d q} (λ w. let none = w.1 in absurd (cc none))
    (λ old. ⊎_elim {C = Met boot es e d q} (λ w. let none = w.1 in absurd (cc none))
    (λ older. old_met boot es e S d q all older) (seen_new S one d q old))
    (seen_new (with_new S one) two d q (seen_shrunk _ T d q k h))
did_met boot es e T d q all (one_made kind flags is a k) h =
    new_met boot es e (replay boot es) T d (socket_description flags (new_socket kind)) q all
    (λ is. let same : socket_parts (new_socket kind) ≡ q = cc is in
    none_met boot es e d q (sym (ap (λ (r : SocketParts). r.peer_cred) same)) (sym (ap (λ (r : SocketParts). r.tie.listener) same))) k h
did_met boot es e T d q all (pair_made kind flags P x y asked answered here k) h =
    ⊎_elim {C = Met boot es e d q} (λ w. made (next_description S) (inr (w.0 ∙ long)) w.1)
    (λ old. ⊎_elim {C = Met boot es e d q} (λ w. made (suc (next_description S)) (inl w.0) w.1)
    (λ older. old_met boot es e S d q all older) (seen_new S one d q old))
    (seen_new (with_new S one) two d q (seen_shrunk _ T d q k h))
  where
    S : State
    S = replay boot es

    one : Description
    one = socket_description flags (pair_end kind (suc (next_description S)) (own_cred e.pid.0 P))

    two : Description
    two = socket_description flags (pair_end kind (next_description S) (own_cred e.pid.0 P))

    long : length (with_new S one).descriptions ≡ suc (next_description S)
    long = let l = length_push S.descriptions (Some one) in omega (arith, l)

    no_listener : (kind : SockType) (peer : ℕ) (cred : Cred) → listening_cred (pair_end kind peer cred).phase ≡ None
    no_listener SockType.Stream peer cred = refl
    no_listener SockType.Dgram peer cred = refl
    no_listener SockType.Seq peer cred = refl

    made : (peer : ℕ) → (d ≡ next_description S) ⊎ (d ≡ suc (next_description S)) →
        (glance (Some (socket_description flags (pair_end kind peer (own_cred e.pid.0 P))))).0 ≡ Some q → Met boot es e d q
    made peer number is =
        let same : socket_parts (pair_end kind peer (own_cred e.pid.0 P)) ≡ q = cc is in (
          (λ cred told.
              let both : Some (own_cred e.pid.0 P) ≡ Some cred = ap (λ (r : SocketParts). r.peer_cred) same ∙ told in
              subst (λ (c : Cred). IsPeersCred boot (es ++ e ∷ []) d c) (cc both)
              (of_maker (length es) kind flags x y (called_now boot es e (Request.SocketPair kind flags) (Reply.Fds x y) P asked answered
              here)
              (subst (λ (U : State). (d ≡ next_description U) ⊎ (d ≡ suc (next_description U))) (sym (now_state boot es e)) number))),
          (λ elsewhere cred told. let nobody : None ≡ Some cred = sym (no_listener kind peer (own_cred e.pid.0 P))
              ∙ ap (λ (r : SocketParts). r.tie.listener) same ∙ told in absurd (cc nobody)),
        )
did_met boot es e T d q all (listened fd backlog P t limit s asked answered here found there free k) h =
    ⊎_elim {C = Met boot es e d q}
    (λ w. (
      (λ cred told. met_before boot es e d cred
          (all.peers d (socket_parts w.1) cred (seen_socket S d w.1 w.2) (sym (ap (λ (r : SocketParts). r.peer_cred) w.3) ∙ told))),
      (λ elsewhere cred told.
          let both : Some (own_cred e.pid.0 P) ≡ Some cred = sym (ap (λ (r : SocketParts). r.tie.listener) w.3) ∙ told in
          subst (λ (c : Cred). HasListened boot (es ++ e ∷ []) d (length (es ++ e ∷ [])) c) (cc both) (record {
            at = length es;
            fd = fd;
            backlog = backlog;
            called = called_now boot es e (Request.Listen fd backlog) Reply.Ok P asked answered here;
            on = ap (λ (U : State). socket_behind U e.pid.0 fd) (now_state boot es e) ∙ behind_is S e.pid.0 t fd s found ∙ ap Some w.0;
            earlier = let l = length_push es e in omega (arith, l);
            last = λ j x low high at. let l = length_push es e in absurd (omega (arith, low, high, l));
          })),
    ))
    (λ old. old_met boot es e S d q all old) (seen_changed S t d (with_listening limit (own_cred e.pid.0 P)) q (seen_shrunk _ T d q k h))
  where
    S : State
    S = replay boot es
did_met boot es e T d q all (tied_to t target s a b to k) h =
    changed_met boot es e (replay boot es) T t d (with_association target) q all (λ s. refl) (λ s. same_listener target s.phase) k h
did_met boot es e T d q all (connected fd addr P t l s other kept asked answered here found there free led at is k) h =
    ⊎_elim {C = Met boot es e d q} (λ w. client w.0 w.1 w.3)
    (λ old. ⊎_elim {C = Met boot es e d q} (λ w. server (w.0 ∙ long) w.1)
    (λ older. ⊎_elim {C = Met boot es e d q}
    (λ w. let same : q ≡ socket_parts w.1 = w.3 ∙ awaiting_parts new w.1 in
    alike_met boot es e d q (socket_parts w.1) (ap (λ (r : SocketParts). r.peer_cred) same) (ap (λ (r : SocketParts). r.tie.listener) same)
    (old_met boot es e S d (socket_parts w.1) all (seen_socket S d w.1 w.2)))
    (λ oldest. old_met boot es e S d q all oldest) (seen_changed S l d (awaiting new) q older))
    (seen_new U D d q old))
    (seen_changed (with_new U D) t d (tied new kept.cred) q (seen_shrunk _ T d q k h))
  where
    S : State
    S = replay boot es

    new : ℕ
    new = next_description S

    U : State
    U = with_socket_by S l (awaiting new)

    D : Description
    D = socket_description no_open_flags (server_end other t (own_cred e.pid.0 P))

    long : length U.descriptions ≡ new
    long = length-changed S.descriptions l (changed (awaiting new))

    server : d ≡ new → (glance (Some D)).0 ≡ Some q → Met boot es e d q
    server number is =
        let same : socket_parts (server_end other t (own_cred e.pid.0 P)) ≡ q = cc is in (
          (λ cred told.
              let both : Some (own_cred e.pid.0 P) ≡ Some cred = ap (λ (r : SocketParts). r.peer_cred) same ∙ told in
              subst (λ (c : Cred). IsPeersCred boot (es ++ e ∷ []) d c) (cc both)
              (of_client (length es) fd addr (called_now boot es e (Request.Connect fd addr) Reply.Ok P asked answered here)
              (subst (λ (V : State). d ≡ next_description V) (sym (now_state boot es e)) number))),
          (λ elsewhere cred told. let nobody : None ≡ Some cred = ap (λ (r : SocketParts). r.tie.listener) same ∙ told in
              absurd (cc nobody)),
        )

    client : t ≡ d → (u : Socket) → q ≡ socket_parts (tied new kept.cred u) → Met boot es e d q
    client number u same = (
      (λ cred told.
          let both : Some kept.cred ≡ Some cred = sym (ap (λ (r : SocketParts). r.peer_cred) same) ∙ told in
          subst (λ (c : Cred). IsPeersCred boot (es ++ e ∷ []) d c) (cc both) (of_listener (record {
            at = length es;
            fd = fd;
            addr = addr;
            client = own_cred e.pid.0 P;
            called = called_now boot es e (Request.Connect fd addr) Reply.Ok P asked answered here;
            on = ap (λ (V : State). socket_behind V e.pid.0 fd) (now_state boot es e) ∙ behind_is S e.pid.0 t fd s found ∙ ap Some number;
            kind = s.kind;
            listener = l;
            socket = other;
            to = ap (λ (V : State). look_up V s.kind addr) (now_state boot es e) ∙ led;
            listened = heard_before boot es e l (length es) kept.cred (omega arith)
                (all.listeners l (socket_parts other) kept.cred (seen_socket S l other at) (listener_cred other.phase kept is));
          }))),
      (λ elsewhere cred told. let nobody : None ≡ Some cred = sym (ap (λ (r : SocketParts). r.tie.listener) same) ∙ told in
          absurd (cc nobody)),
    )
did_met boot es e T d q all (put t m a k) h = changed_met boot es e (replay boot es) T t d (sent m) q all (λ s. refl) (λ s. refl) k h
did_met boot es e T d q all (took t n s m ms a k) h =
    changed_met boot es e (replay boot es) T t d (with_queue _) q all (λ s. refl) (λ s. refl) k h

-- ---- a listen

-- what one that is answered leaves
abbrev IfListened : State → ℕ → Fd → Outcome → Type 0
IfListened S p fd o = o.reply ≡ Reply.Ok →
    (d : ℕ) × (s : Socket) × (P : Process) × (limit : ℕ) × (find_socket S p fd ≡ Ok (d, s)) × (socket_at S d ≡ Some s)
    × (process_at S p ≡ Some P)
    × (o.next ≡ with_socket_by S d (with_listening limit (own_cred p P)))

listen_leaves : (S : State) (p : ℕ) (fd : Fd) (backlog : ℤ) → IfListened S p fd (listen S p fd backlog)
unfolding listen
listen_leaves S p fd backlog = maybe (IfListened S p fd) (process_at S p) _ _ (λ h. absurd (cc h))
    (λ P here. by_socket (IfListened S p fd) S p fd _ (λ e h. absurd (cc h))
    (λ d s found there. either (IfListened S p fd) (is_dgram s.kind) _ _ (λ b h. absurd (cc h))
    (λ b. either (IfListened S p fd) (is_some (peer_of s.phase)) _ _ (λ c h. absurd (cc h))
    (λ c. either (IfListened S p fd) (is_unnamed_addr s.name) _ _ (λ f h. absurd (cc h))
    (λ f h. (d, s, P, backlog_of backlog, found, there, here, refl))))))

-- the listener has the caller's credentials then
listened_now : (boot : State) (es : List Entry) (e : Entry) (T : State) (d : ℕ) (q : SocketParts) (cred : Cred) →
    Step (replay boot es) e.pid.0 (length es) e.request e.reply e.released T →
    listens_on (replay boot es) d e.pid.0 e.request e.reply ≡ true → Seen T d q → q.tie.listener ≡ Some cred →
    HasListened boot (es ++ e ∷ []) d (length (es ++ e ∷ [])) cred
unfolding Step outcome
listened_now boot es e T d q cred step on seen told = by_call e.request e.reply refl refl step on
  where
    S : State
    S = replay boot es

    by_listen : (fd : Fd) (backlog : ℤ) → e.request ≡ Request.Listen fd backlog → e.reply ≡ Reply.Ok →
        Step S e.pid.0 (length es) (Request.Listen fd backlog) Reply.Ok e.released T → is_number d (socket_behind S e.pid.0 fd) ≡ true →
        HasListened boot (es ++ e ∷ []) d (length (es ++ e ∷ [])) cred
    by_listen fd backlog asked answered step on =
        let w = chosen_leaves step.1 in
        let t : ℕ = w.0 in
        let behind : socket_behind S e.pid.0 fd ≡ Some t = behind_is S e.pid.0 t fd w.1 w.4 in
        let same : (t == d) ≡ true = sym (ap (is_number d) behind) ∙ on in
        let change : Socket → Socket = with_listening w.3 (own_cred e.pid.0 w.2) in
        let before_end : Seen (with_socket_by S t change) d q =
        subst (λ (V : State). Seen V d q) w.7 (seen_shrunk step.0 T d q
        (subst (λ (V : State). Shrinks step.0 V) (sym step.3) (settled_shrinks step.0)) seen) in
        let is : Some (socket_parts (change w.1)) ≡ Some q =
        sym (ap (λ (g : Glance). g.0) (glance_changed S t d change w.1 w.5
        ∙ ap (λ b. cond b (Some (socket_parts (change w.1)), None) (glance_at S d)) same)) ∙ before_end in
        let parts : socket_parts (change w.1) ≡ q = cc is in
        let both : Some (own_cred e.pid.0 w.2) ≡ Some cred = ap (λ (r : SocketParts). r.tie.listener) parts ∙ told in
        subst (λ (c : Cred). HasListened boot (es ++ e ∷ []) d (length (es ++ e ∷ [])) c) (cc both) (record {
          at = length es;
          fd = fd;
          backlog = backlog;
          called = called_now boot es e (Request.Listen fd backlog) Reply.Ok w.2 asked answered w.6;
          on = ap (λ (U : State). socket_behind U e.pid.0 fd) (now_state boot es e) ∙ behind ∙ ap Some (eqb-true t d same);
          earlier = let l = length_push es e in omega (arith, l);
          last = λ j x low high at. let l = length_push es e in absurd (omega (arith, low, high, l));
        })
      where
        chosen_leaves : {U : State} → Chosen S (listen S e.pid.0 fd backlog) Reply.Ok U →
            (t : ℕ) × (s : Socket) × (P : Process) × (limit : ℕ) × (find_socket S e.pid.0 fd ≡ Ok (t, s)) × (socket_at S t ≡ Some s)
            × (process_at S e.pid.0 ≡ Some P)
            × (U ≡ with_socket_by S t (with_listening limit (own_cred e.pid.0 P)))
        chosen_leaves (own r f) = let w = listen_leaves S e.pid.0 fd backlog (sym r) in (w.0, w.1, w.2, w.3, w.4, w.5, w.6, f ∙ w.7)
        chosen_leaves (lacking_memory r may f) = absurd (cc r)
        chosen_leaves (failing r f) = absurd (cc r)

    by_call : (request : Request) (reply : Reply) → e.request ≡ request → e.reply ≡ reply →
        Step S e.pid.0 (length es) request reply e.released T → listens_on S d e.pid.0 request reply ≡ true →
        HasListened boot (es ++ e ∷ []) d (length (es ++ e ∷ [])) cred
    by_call (Request.Listen fd backlog) Reply.Ok asked answered step on = by_listen fd backlog asked answered step on
    by_call _ _ asked answered step on = absurd (cc on)

-- ---- throughout

met_kept : (boot : State) → IsKept boot (AllMet boot)
met_kept boot = record {
  at_boot = λ boots. record {
    reached = refl;
    peers = λ d q cred h told. absurd (nobody d q boots h);
    listeners = λ d q cred h told. absurd (nobody d q boots h);
  };
  by_entry = λ es e S T so_far step may. further es e S T so_far step;
}
  where
    nobody : (d : ℕ) (q : SocketParts) → IsBootState boot → Seen boot d q → ⊥
    nobody d q boots h = let none : None ≡ Some q = sym (ap (λ ds. (glance (place ds d)).0) boots.no_descriptions) ∙ h in cc none

    further : (es : List Entry) (e : Entry) (S T : State) → AllMet boot es S → Step S e.pid.0 (length es) e.request e.reply e.released T →
        AllMet boot (es ++ e ∷ []) T
    further es e S T so_far step =
        let here : Step (replay boot es) e.pid.0 (length es) e.request e.reply e.released T =
        subst (λ (R : State). Step R e.pid.0 (length es) e.request e.reply e.released T) so_far.reached step in
        let all : AllMet boot es (replay boot es) = subst (AllMet boot es) so_far.reached so_far in
        let did = step_did (replay boot es) T e.pid.0 (length es) e.request e.reply e.released here in
        record {
          reached = step_replay boot T es e here;
          peers = λ d q cred h told. (did_met boot es e T d q all did h).0 cred told;
          listeners = λ d q cred h told. bool_cases (listens_on (replay boot es) d e.pid.0 e.request e.reply)
              (λ on. listened_now boot es e T d q cred here on h told)
              (λ elsewhere. (did_met boot es e T d q all did h).1 elsewhere cred told);
        }

-- ---- the law

met_in_front : (boot : State) (es : List Entry) (j d : ℕ) (cred : Cred) → IsPeersCred boot (take j es) d cred → IsPeersCred boot es d cred
met_in_front boot es j d cred (of_maker at kind flags first second c is) =
    let w = called_in_front boot es j at (Request.SocketPair kind flags) (Reply.Fds first second) cred c in
    of_maker at kind flags first second w.0 (subst (λ (S : State). (d ≡ next_description S) ⊎ (d ≡ suc (next_description S))) w.1 is)
met_in_front boot es j d cred (of_client at fd addr c is) =
    let w = called_in_front boot es j at (Request.Connect fd addr) Reply.Ok cred c in
    of_client at fd addr w.0 (subst (λ (S : State). d ≡ next_description S) w.1 is)
met_in_front boot es j d cred (of_listener c) =
    let state = state_in_front boot es j c.at c.called.call c.called.there in
    let h = c.listened in
    let heard = state_in_front boot es j h.at h.called.call h.called.there in
    of_listener (record {
      at = c.at;
      fd = c.fd;
      addr = c.addr;
      client = c.client;
      called = (called_in_front boot es j c.at (Request.Connect c.fd c.addr) Reply.Ok c.client c.called).0;
      on = ap (λ (S : State). socket_behind S c.called.call.pid.0 c.fd) (sym state) ∙ c.on;
      kind = c.kind;
      listener = c.listener;
      socket = c.socket;
      to = ap (λ (S : State). look_up S c.kind c.addr) (sym state) ∙ c.to;
      listened = record {
        at = h.at;
        fd = h.fd;
        backlog = h.backlog;
        called = (called_in_front boot es j h.at (Request.Listen h.fd h.backlog) Reply.Ok cred h.called).0;
        on = ap (λ (S : State). socket_behind S h.called.call.pid.0 h.fd) (sym heard) ∙ h.on;
        earlier = h.earlier;
        last = λ i x low high at.
            let within = get_below (take j es) c.at c.called.call c.called.there in
            let w = get_within (take j es) i (omega (arith, high, within)) in
            let f = in_front es j i w.0 w.1 in
            let both : Some x ≡ Some w.0 = sym at ∙ f.0 in
            let one : x ≡ w.0 = cc both in
            ap (λ (l : List Entry). listens_on (replay boot l) c.listener x.pid.0 x.request x.reply) (sym f.1)
            ∙ ap (λ (y : Entry). listens_on (before boot (take j es) i) c.listener y.pid.0 y.request y.reply) one
            ∙ h.last i w.0 low high w.1;
      };
    })

-- the socket whose credentials are reported has them
abbrev HasCred : State → ℕ → Fd → Reply → Type 0
HasCred S p fd reply = (cred : Cred) → reply ≡ Reply.Cred cred →
    (d : ℕ) × (s : Socket) × (socket_behind S p fd ≡ Some d) × (socket_at S d ≡ Some s) × (s.peer_cred ≡ Some cred)

get_opt_tells : (S : State) (p : ℕ) (fd : Fd) → HasCred S p fd (get_opt S p fd SockOpt.PeerCred).reply
unfolding get_opt
get_opt_tells S p fd = by_socket (λ o. HasCred S p fd o.reply) S p fd _ (λ e cred h. absurd (cc h))
    (λ d s found there. told d s found there s.peer_cred refl)
  where
    told : (d : ℕ) (s : Socket) → find_socket S p fd ≡ Ok (d, s) → socket_at S d ≡ Some s → (o : Option Cred) → s.peer_cred ≡ o →
        HasCred S p fd (tell_cred S o).reply
    told d s found there None is cred h = absurd (cc h)
    told d s found there (Some c) is cred h = let same : c ≡ cred = cc h in (d, s, behind_is S p d fd s found, there, is ∙ ap Some same)

step_tells : (S T : State) (p tag : ℕ) (fd : Fd) (reply : Reply) (gone : List ℕ) →
    Step S p tag (Request.GetOpt fd SockOpt.PeerCred) reply gone T → HasCred S p fd reply
unfolding Step outcome
step_tells S T p tag fd reply gone s = chosen reply s.1
  where
    chosen : (reply : Reply) → Chosen S (get_opt S p fd SockOpt.PeerCred) reply s.0 → HasCred S p fd reply
    chosen reply (own e f) = subst (HasCred S p fd) (sym e) (get_opt_tells S p fd)
    chosen reply (lacking_memory e may f) = λ cred h. let clash : Reply.Err Errno.ENOMEM ≡ Reply.Cred cred = sym e ∙ h in absurd (cc clash)
    chosen reply (failing e f) = λ cred h. let clash : Reply.Err Errno.EIO ≡ Reply.Cred cred = sym e ∙ h in absurd (cc clash)

pub peers_are_the_makers : PeersAreTheMakers
peers_are_the_makers boot es j e fd cred legal at request reply =
    let s = (moment boot es j e legal at).steps in
    let moved : Step (before boot es j) e.pid.0 j (Request.GetOpt fd SockOpt.PeerCred) e.reply e.released (before boot es (suc j)) =
    subst (λ (r : Request). Step (before boot es j) e.pid.0 j r e.reply e.released (before boot es (suc j))) request s in
    let w = step_tells (before boot es j) (before boot es (suc j)) e.pid.0 j fd e.reply e.released moved cred reply in
    let all = kept_throughout boot (AllMet boot) (met_kept boot) (take j es) (front_is_legal boot es j legal) in
    record {
      number = w.0;
      on = w.2;
      of = met_in_front boot es j w.0 cred
          (all.peers w.0 (socket_parts w.1) cred (seen_socket (before boot es j) w.0 w.1 w.3) w.4);
    }
