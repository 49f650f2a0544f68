-- Once its peer is gone, a socket stays without one, sends find nobody, and receives tell what is queued and then the end.
use Rattle.std.proofs.Common.{◌≡◌, ◌⊎◌, ℕ, zero, suc, ◌≤◌, ◌<◌, ◌==◌, Bool, true, false, ◌||◌, if◌then◌else◌, cond, is_some, List, length}
use Rattle.std.proofs.Common.{take, Option, Some, None, option_map, refl, ap, sym, ◌∙◌, subst, inl, inr, ⊎_elim, arith}
use Rattle.std.proofs.lemmas.Bool.{eqb-true, eqb-false, eq-eqb, false≢true}
use Rattle.std.proofs.lemmas.List.{length_push}
use Rattle.ux_model.specs.Types.{Mode, Request, Reply, Entry}
use Rattle.ux_model.specs.Socket.{Socket, Phase, idle, listening, connected as joined, associated, phase_with_association, awaiting, sent}
use Rattle.ux_model.specs.Socket.{with_queue, with_association, new_socket, pair_end, is_dgram, peer_of, with_reset}
use Rattle.ux_model.specs.Description.{Description, Target, to_object, to_socket, socket_of, socket_in, changed, changed_target}
use Rattle.ux_model.specs.Process.{own_cred}
use Rattle.ux_model.specs.State.{State, description_at, socket_at, next_description, with_socket_by, with_new}
use Rattle.ux_model.specs.Peers.{target_peer, peer_in}
use Rattle.ux_model.specs.Pairing.{socket_description}
use Rattle.ux_model.specs.Opening.{file_description}
use Rattle.ux_model.specs.Connecting.{with_listening, server_end, tied, no_open_flags}
use Rattle.ux_model.specs.Making.{next_object}
use Rattle.ux_model.specs.Step.{Step}
use Rattle.ux_model.specs.History.{IsLegal}
use Rattle.ux_model.specs.Pedigree.{before}
use Rattle.ux_model.proofs.Lists.ChangedPlaces.{bool_cases, place_within, length-changed}
use Rattle.ux_model.proofs.Lists.OnePlace.{same_at}
use Rattle.ux_model.proofs.Lists.Fronts.{front_is_legal}
use Rattle.ux_model.proofs.Lists.ByPlace.{get_within}
use Rattle.ux_model.proofs.Invariants.Dangling.{nothing_dangles}
use Rattle.ux_model.proofs.Pedigrees.Moments.{moment}
use Rattle.ux_model.proofs.Changes.Walk.{found}
use Rattle.ux_laws.specs.Talking.{request_addr, socket_through, named_target, goes_to, is_number, sends_to}
use Rattle.ux_laws.specs.Records.{is_count, is_given}
use Rattle.ux_laws.specs.Ends.{HasEnded, StaysEnded, EndsAreForEver, ResetsAreOfLosses, SendsFindNobody}
use Rattle.ux_laws.proofs.Parts.{PhaseParts, SocketParts, socket_parts, socket_seen, Glance, glance, glance_target, glance_at, glance_new}
use Rattle.ux_laws.proofs.Parts.{Shrinks, Seen, seen_changed, seen_new, seen_shrunk, seen_socket, awaiting_parts}
use Rattle.ux_laws.proofs.Acts.{is_silent, Did, quiet, opened, file_made, pipe_made, one_made, pair_made, listened, tied_to, connected, put}
use Rattle.ux_laws.proofs.Acts.{took}
use Rattle.ux_laws.proofs.Doing.Calls.{step_between, step_did}
use Rattle.ux_laws.proofs.Near.Single.{reset_of, reset_in, NearAt, stays, reached, new, gone as dropped}
use Rattle.ux_laws.proofs.Near.Calls.{chosen_near}
use Rattle.ux_laws.proofs.LeftAlone.{Lost, same as unchanged, lost, reset, settled_lost}
use Rattle.ux_laws.proofs.Opened.{did_at, made_more}

-- ---- what stays of a socket

-- A socket was of the same kind before, and connected to the same peer if it was to one; or it is new.
abbrev pub Was : State → ℕ → SocketParts → Type 0
Was S d q = ((r : SocketParts) × Seen S d r × (q.kind ≡ r.kind) × ((peer : ℕ) → r.tie.peer ≡ Some peer → q.tie.peer ≡ Some peer))
    ⊎ (length S.descriptions ≤ d)

was_itself : (S : State) (d : ℕ) (q : SocketParts) → Seen S d q → Was S d q
was_itself S d q h = inl (q, h, refl, λ peer is. is)

-- where one was changed that keeps its kind and its peer
was_changed : (S T : State) (t d : ℕ) (change : Socket → Socket) (q : SocketParts) → ((s : Socket) → (change s).kind ≡ s.kind) →
    ((s : Socket) (peer : ℕ) → peer_of s.phase ≡ Some peer → peer_of (change s).phase ≡ Some peer) →
    ((r : SocketParts) → Seen T d r → Was S d r) → Seen (with_socket_by T t change) d q → Was S d q
was_changed S T t d change q kind keeps before h = ⊎_elim {C = Was S d q}
    (λ w. ⊎_elim {C = Was S d q}
    (λ old. inl (
      old.0,
      old.1,
      ap (λ (r : SocketParts). r.kind) w.3 ∙ kind w.1 ∙ old.2,
      λ peer is. ap (λ (r : SocketParts). r.tie.peer) w.3
          ∙ keeps w.1 peer (old.3 peer is),
    ))
    (λ more. inr more) (before (socket_parts w.1) (seen_socket T d w.1 w.2)))
    (λ old. before q old) (seen_changed T t d change q h)

was_new : (S T : State) (D : Description) (d : ℕ) (q : SocketParts) → length S.descriptions ≤ length T.descriptions →
    ((r : SocketParts) → Seen T d r → Was S d r) → Seen (with_new T D) d q → Was S d q
was_new S T D d q more before h = ⊎_elim {C = Was S d q} (λ w. let at = w.0 in inr (omega (arith, more, at)))
    (λ old. before q old) (seen_new T D d q h)

keeps_associated : (target : Option ℕ) (phase : Phase) (peer : ℕ) → peer_of phase ≡ Some peer →
    peer_of (phase_with_association target phase) ≡ Some peer
keeps_associated target idle peer h = absurd (cc h)
keeps_associated target (listening backlog cred) peer h = h
keeps_associated target (joined x) peer h = h
keeps_associated target (associated old) peer h = absurd (cc h)

pub did_was : (S T : State) (p tag : ℕ) (request : Request) (reply : Reply) (d : ℕ) (q : SocketParts) → Did S p tag request reply T →
    Seen T d q → Was S d q
did_was S T p tag request reply d q (quiet k moves) h = was_itself S d q (seen_shrunk S T d q k h)
did_was S T p tag request reply d q (opened path mode flags o a b c k) h =
    was_new S S (file_description o mode flags) d q (omega arith) (λ r g. was_itself S d r g) (seen_shrunk _ T d q k h)
did_was S T p tag request reply d q (file_made mode flags a b k) h =
    was_new S S (file_description (next_object S) mode flags) d q (omega arith) (λ r g. was_itself S d r g) (seen_shrunk _ T d q k h)
did_was S T p tag request reply d q (pipe_made flags a b k) h =
    let one : Description = file_description (next_object S) Mode.Read flags in
    let two : Description = file_description (next_object S) Mode.Write flags in
    let long = length_push S.descriptions (Some one) in
    was_new S (with_new S one) two d q (omega (arith, long))
    (λ r g. was_new S S one d r (omega arith) (λ u f. was_itself S d u f) g) (seen_shrunk _ T d q k h)
did_was S T p tag request reply d q (one_made kind flags is a k) h =
    was_new S S (socket_description flags (new_socket kind)) d q (omega arith) (λ r g. was_itself S d r g) (seen_shrunk _ T d q k h)
did_was S T p tag request reply d q (pair_made kind flags P x y a b c k) h =
    let one : Description = socket_description flags (pair_end kind (suc (next_description S)) (own_cred p P)) in
    let two : Description = socket_description flags (pair_end kind (next_description S) (own_cred p P)) in
    let long = length_push S.descriptions (Some one) in
    was_new S (with_new S one) two d q (omega (arith, long))
    (λ r g. was_new S S one d r (omega arith) (λ u f. was_itself S d u f) g) (seen_shrunk _ T d q k h)
did_was S T p tag request reply d q (listened fd backlog P t limit s a b c e there free k) h = ⊎_elim {C = Was S d q}
    (λ w. inl (
      socket_parts w.1,
      seen_socket S d w.1 w.2,
      ap (λ (r : SocketParts). r.kind) w.3,
      λ peer is.
          let at : socket_at S t ≡ Some w.1 = ap (λ (i : ℕ). socket_at S i) w.0 ∙ w.2 in
          let both : Some s ≡ Some w.1 = sym there ∙ at in
          let one : s ≡ w.1 = cc both in
          let clash : None ≡ Some peer = sym free ∙ ap (λ (u : Socket). peer_of u.phase) one ∙ is in
          absurd (cc clash),
    ))
    (λ old. was_itself S d q old) (seen_changed S t d (with_listening limit (own_cred p P)) q (seen_shrunk _ T d q k h))
did_was S T p tag request reply d q (tied_to t target s a b to k) h =
    was_changed S S t d (with_association target) q (λ s. refl) (λ s peer is. keeps_associated target s.phase peer is)
    (λ r g. was_itself S d r g) (seen_shrunk _ T d q k h)
did_was S T p tag request reply d q (connected fd addr P t l s other kept a b c e there free led at is k) h = ⊎_elim {C = Was S d q}
    (λ w. ⊎_elim {C = Was S d q} (λ more. inr more)
    (λ old. inl (old.0, old.1, ap (λ (r : SocketParts). r.kind) w.3 ∙ old.2, λ peer has. absurd (free_before w.0 old.0 old.1 peer has)))
    (swap (earlier (socket_parts w.1) (seen_socket V d w.1 w.2))))
    (λ old. earlier q old) (seen_changed V t d (tied new_end kept.cred) q (seen_shrunk _ T d q k h))
  where
    new_end : ℕ
    new_end = next_description S

    U : State
    U = with_socket_by S l (awaiting new_end)

    D : Description
    D = socket_description no_open_flags (server_end other t (own_cred p P))

    V : State
    V = with_new U D

    earlier : (r : SocketParts) → Seen V d r → Was S d r
    earlier r g = was_new S U D d r (let l = length-changed S.descriptions l (changed (awaiting new_end)) in omega (arith, l))
        (λ u f. was_changed S S l d (awaiting new_end) u (λ s. refl)
        (λ s peer is. ap (λ (ph : PhaseParts). ph.peer) (ap (λ (x : SocketParts). x.tie) (awaiting_parts new_end s)) ∙ is)
        (λ x y. was_itself S d x y) f) g

    swap : {A B : Type 0} → A ⊎ B → B ⊎ A
    swap (inl a) = inr a
    swap (inr b) = inl b

    free_before : t ≡ d → (r : SocketParts) → Seen S d r → (peer : ℕ) → r.tie.peer ≡ Some peer → ⊥
    free_before same r g peer has =
        let mine : Some r ≡ Some (socket_parts s) = sym g ∙ sym (ap (λ (i : ℕ). (glance_at S i).0) same) ∙ seen_socket S t s there in
        let is_mine : r ≡ socket_parts s = cc mine in
        let clash : None ≡ Some peer = sym free ∙ sym (ap (λ (x : SocketParts). x.tie.peer) is_mine) ∙ has in
        cc clash
did_was S T p tag request reply d q (put t m a k) h =
    was_changed S S t d (sent m) q (λ s. refl) (λ s peer is. is) (λ r g. was_itself S d r g) (seen_shrunk _ T d q k h)
did_was S T p tag request reply d q (took t n s m ms a k) h =
    was_changed S S t d (with_queue _) q (λ s. refl) (λ s peer is. is) (λ r g. was_itself S d r g) (seen_shrunk _ T d q k h)

-- ---- what is there

abbrev is_there : Glance → Bool
is_there g = is_some g.0 || is_some g.1

there_is : (x : Option Description) → is_some x ≡ is_there (glance x)
there_is None = refl
there_is (Some D) = at_target D.mode D.target
  where
    at_target : (mode : Mode) (t : Target) → true ≡ is_there (glance_target mode t)
    at_target mode (to_object o) = refl
    at_target mode (to_socket s) = refl

abbrev There : State → ℕ → Type 0
There S d = is_there (glance_at S d) ≡ true

there_changed : (S : State) (t d : ℕ) (change : Socket → Socket) → There (with_socket_by S t change) d → There S d
there_changed S t d change h = sym (same_at
    (λ x. is_there (glance x)) S.descriptions t d (option_map (changed change) (description_at S t)) (at_place (description_at S t))) ∙ h
  where
    at_target : (mode : Mode) (t : Target) → is_there (glance_target mode (changed_target change t)) ≡ is_there (glance_target mode t)
    at_target mode (to_object o) = refl
    at_target mode (to_socket s) = refl

    at_place : (x : Option Description) → is_there (glance (option_map (changed change) x)) ≡ is_there (glance x)
    at_place None = refl
    at_place (Some D) = at_target D.mode D.target

there_new : (S : State) (D : Description) (d : ℕ) → There (with_new S D) d → There S d ⊎ (d ≡ length S.descriptions)
there_new S D d h = bool_cases (length S.descriptions == d)
    (λ e. inr (sym (eqb-true (length S.descriptions) d e)))
    (λ e. inl (sym (ap is_there (glance_new S D d ∙ ap (λ b. cond b (glance (Some D)) (glance_at S d)) e)) ∙ h))

there_shrunk : (V T : State) (d : ℕ) → Shrinks V T → There T d → There V d
there_shrunk V T d sh h = ⊎_elim {C = There V d} (λ e. sym (ap is_there e) ∙ h)
    (λ none. absurd (false≢true (sym (ap is_there none) ∙ h))) (sh.each d)

abbrev OrNew : State → ℕ → Type 0
OrNew S d = There S d ⊎ (length S.descriptions ≤ d)

or_new : (S T : State) (D : Description) (d : ℕ) → length S.descriptions ≤ length T.descriptions → (There T d → OrNew S d) →
    There (with_new T D) d → OrNew S d
or_new S T D d more before h = ⊎_elim {C = OrNew S d} (λ old. before old) (λ at. inr (omega (arith, more, at))) (there_new T D d h)

did_there : (S T : State) (p tag : ℕ) (request : Request) (reply : Reply) (d : ℕ) → Did S p tag request reply T → There T d → OrNew S d
did_there S T p tag request reply d (quiet k moves) h = inl (there_shrunk S T d k h)
did_there S T p tag request reply d (opened path mode flags o a b c k) h =
    or_new S S (file_description o mode flags) d (omega arith) (λ g. inl g) (there_shrunk _ T d k h)
did_there S T p tag request reply d (file_made mode flags a b k) h =
    or_new S S (file_description (next_object S) mode flags) d (omega arith) (λ g. inl g) (there_shrunk _ T d k h)
did_there S T p tag request reply d (pipe_made flags a b k) h =
    let one : Description = file_description (next_object S) Mode.Read flags in
    let two : Description = file_description (next_object S) Mode.Write flags in
    let long = length_push S.descriptions (Some one) in
    or_new S (with_new S one) two d (omega (arith, long)) (λ g. or_new S S one d (omega arith) (λ f. inl f) g) (there_shrunk _ T d k h)
did_there S T p tag request reply d (one_made kind flags is a k) h =
    or_new S S (socket_description flags (new_socket kind)) d (omega arith) (λ g. inl g) (there_shrunk _ T d k h)
did_there S T p tag request reply d (pair_made kind flags P x y a b c k) h =
    let one : Description = socket_description flags (pair_end kind (suc (next_description S)) (own_cred p P)) in
    let two : Description = socket_description flags (pair_end kind (next_description S) (own_cred p P)) in
    let long = length_push S.descriptions (Some one) in
    or_new S (with_new S one) two d (omega (arith, long)) (λ g. or_new S S one d (omega arith) (λ f. inl f) g) (there_shrunk _ T d k h)
did_there S T p tag request reply d (listened fd backlog P t limit s a b c e f g k) h =
    inl (there_changed S t d (with_listening limit (own_cred p P)) (there_shrunk _ T d k h))
did_there S T p tag request reply d (tied_to t target s a b to k) h =
    inl (there_changed S t d (with_association target) (there_shrunk _ T d k h))
did_there S T p tag request reply d (connected fd addr P t l s other kept a b c e f g i j m k) h =
    let n : ℕ = next_description S in
    let U : State = with_socket_by S l (awaiting n) in
    let D : Description = socket_description no_open_flags (server_end other t (own_cred p P)) in
    let long = length-changed S.descriptions l (changed (awaiting n)) in
    or_new S U D d (omega (arith, long)) (λ y. inl (there_changed S l d (awaiting n) y))
    (there_changed (with_new U D) t d (tied n kept.cred) (there_shrunk _ T d k h))
did_there S T p tag request reply d (put t m a k) h = inl (there_changed S t d (sent m) (there_shrunk _ T d k h))
did_there S T p tag request reply d (took t n s m ms a k) h = inl (there_changed S t d (with_queue _) (there_shrunk _ T d k h))

-- what is gone stays so
gone_after : (S T : State) (p tag : ℕ) (request : Request) (reply : Reply) (d : ℕ) → Did S p tag request reply T →
    d < length S.descriptions → description_at S d ≡ None → description_at T d ≡ None
gone_after S T p tag request reply d did known none = go (description_at T d) refl
  where
    go : (x : Option Description) → description_at T d ≡ x → x ≡ None
    go None h = refl
    go (Some D) h = ⊎_elim {C = Some D ≡ None}
        (λ there. absurd (false≢true (sym (ap is_some none) ∙ there_is (description_at S d) ∙ there)))
        (λ more. absurd (omega (arith, known, more)))
        (did_there S T p tag request reply d did (sym (there_is (description_at T d)) ∙ ap is_some h))

-- ---- a peer that is gone

-- the peer, by the description
pub peer_seen : (S : State) (d peer : ℕ) (s : Socket) → socket_at S d ≡ Some s → peer_of s.phase ≡ Some peer →
    peer_in (description_at S d) ≡ Some peer
peer_seen S d peer s there is = at_place (description_at S d) there
  where
    at_target : (t : Target) → socket_of t ≡ Some s → target_peer t ≡ Some peer
    at_target (to_object o) h = absurd (cc h)
    at_target (to_socket u) h = let one : u ≡ s = cc h in ap (λ (w : Socket). peer_of w.phase) one ∙ is

    at_place : (x : Option Description) → socket_in x ≡ Some s → peer_in x ≡ Some peer
    at_place None h = absurd (cc h)
    at_place (Some D) h = at_target D.target h

-- a peer has a number that was given before
pub peer_known : (boot : State) (es : List Entry) (j d peer : ℕ) (s : Socket) → IsLegal boot es → socket_at (before boot es j) d ≡ Some s →
    peer_of s.phase ≡ Some peer → peer < length (before boot es j).descriptions
peer_known boot es j d peer s legal there is =
    (nothing_dangles boot (take j es) (front_is_legal boot es j legal)).connections_mutual.known d peer
    (peer_seen (before boot es j) d peer s there is)

pub socket_known : (S : State) (d : ℕ) (s : Socket) → socket_at S d ≡ Some s → d < length S.descriptions
socket_known S d s there = at_place (description_at S d) refl there
  where
    at_place : (x : Option Description) → description_at S d ≡ x → socket_in x ≡ Some s → d < length S.descriptions
    at_place None is h = absurd (cc h)
    at_place (Some D) is h = place_within S.descriptions d D is

-- ECONNRESET, by the socket
pub reset_is : (S : State) (d : ℕ) (s : Socket) → socket_at S d ≡ Some s → reset_in (description_at S d) ≡ s.reset
reset_is S d s there = at_place (description_at S d) there
  where
    at_target : (t : Target) → socket_of t ≡ Some s → reset_of t ≡ s.reset
    at_target (to_object o) h = absurd (cc h)
    at_target (to_socket u) h = let one : u ≡ s = cc h in ap (λ (w : Socket). w.reset) one

    at_place : (x : Option Description) → socket_in x ≡ Some s → reset_in x ≡ s.reset
    at_place None h = absurd (cc h)
    at_place (Some D) h = at_target D.target h

-- what goes at the end of a call resets no socket whose peer was gone
pub lost_reset : (U T : State) (d : ℕ) →
    ((u : Socket) (peer : ℕ) → socket_at U d ≡ Some u → peer_of u.phase ≡ Some peer → description_at U peer ≡ None) → Lost U T d →
    reset_in (description_at T d) ≡ true → reset_in (description_at U d) ≡ true
lost_reset U T d none (unchanged e) h = sym (ap reset_in e) ∙ h
lost_reset U T d none (lost e) h = absurd (false≢true (sym (ap reset_in e) ∙ h))
lost_reset U T d none (reset r had) h = absurd (false≢true (sym (ap is_some (none r.socket r.peer r.connected r.to)) ∙ had))

-- one call
ended_step : (S T : State) (p tag d : ℕ) (request : Request) (reply : Reply) (gone : List ℕ) (u t : Socket) →
    Step S p tag request reply gone T → (e : HasEnded S d u) → e.peer < length S.descriptions → socket_at T d ≡ Some t → StaysEnded T d u t
ended_step S T p tag d request reply gone u t step e known there =
    let b = step_between S T p tag request reply gone step in
    let U : State = b.0 in
    let did = step_did S T p tag request reply gone step in
    let none = gone_after S T p tag request reply e.peer did known e.gone in
    let here = socket_known S d u e.there in
    let w = keeps did (socket_parts t) (seen_socket T d t there) here in
    let peer : peer_of t.phase ≡ Some e.peer = w.1 e.peer e.connected in
    record {
      ended = record { peer = e.peer; there = there; connected = peer; gone = none; kind = ap is_dgram w.0 ∙ e.kind };
      reset = λ pending.
          let at_end : reset_in (description_at T d) ≡ true = reset_is T d t there ∙ pending in
          let passed : reset_in (description_at U d) ≡ true =
          lost_reset U T d (λ v q is has. none_then U b.2 v q is has here) (subst (λ (V : State). Lost U V d) (sym b.3) (settled_lost U d))
          at_end in
          sym (reset_is S d u e.there) ∙ by_near here ((chosen_near S U p tag request reply b.1).each d) passed;
    }
  where
    keeps : {V : State} → Did S p tag request reply V → (q : SocketParts) → Seen V d q → d < length S.descriptions →
        (q.kind ≡ u.kind) × ((peer : ℕ) → peer_of u.phase ≡ Some peer → q.tie.peer ≡ Some peer)
    keeps {V} did q seen here = ⊎_elim {C = (q.kind ≡ u.kind) × ((peer : ℕ) → peer_of u.phase ≡ Some peer → q.tie.peer ≡ Some peer)}
        (λ w.
        let mine : Some w.0 ≡ Some (socket_parts u) = sym w.1 ∙ seen_socket S d u e.there in
        let is_mine : w.0 ≡ socket_parts u = cc mine in
        (w.2 ∙ ap (λ (r : SocketParts). r.kind) is_mine, λ peer is. w.3 peer (ap (λ (r : SocketParts). r.tie.peer) is_mine ∙ is)))
        (λ more. absurd (omega (arith, here, more))) (did_was S V p tag request reply d q did seen)

    none_then : (U : State) → Did S p tag request reply U → (v : Socket) (q : ℕ) → socket_at U d ≡ Some v → peer_of v.phase ≡ Some q →
        d < length S.descriptions → description_at U q ≡ None
    none_then U did v q is has here =
        let w = keeps did (socket_parts v) (seen_socket U d v is) here in
        let both : Some e.peer ≡ Some q = sym (w.1 e.peer e.connected) ∙ has in
        let one : e.peer ≡ q = cc both in
        subst (λ (k : ℕ). description_at U k ≡ None) one (gone_after S U p tag request reply e.peer did known e.gone)

    by_near : {x : Option Description} → d < length S.descriptions → NearAt S p request d x → reset_in x ≡ true →
        reset_in (description_at S d) ≡ true
    by_near here (stays is) h = sym (ap reset_in is) ∙ h
    by_near here (reached r still) h = still.0 h
    by_near here (new more still) h = absurd (omega (arith, here, more))
    by_near here (dropped off is) h = absurd (false≢true (sym (ap reset_in is) ∙ h))

-- ---- for ever

-- a socket that is there was there before, once it was made
pub was_there : (S T : State) (p tag : ℕ) (request : Request) (reply : Reply) (d : ℕ) (t : Socket) → Did S p tag request reply T →
    d < length S.descriptions → socket_at T d ≡ Some t → (u : Socket) × (socket_at S d ≡ Some u)
was_there S T p tag request reply d t did known there = ⊎_elim {C = (u : Socket) × (socket_at S d ≡ Some u)}
    (λ w. let s = socket_seen S d w.0 w.1 in (s.0, s.1))
    (λ more. absurd (omega (arith, known, more))) (did_was S T p tag request reply d (socket_parts t) did (seen_socket T d t there))

pub ends_are_for_ever : EndsAreForEver
ends_are_for_ever boot es j zero d s t legal low within e there =
    let at : j ≡ zero = omega (arith, low) in
    let same_state : before boot es j ≡ before boot es zero = ap (λ (i : ℕ). before boot es i) at in
    let both : Some s ≡ Some t = sym e.there ∙ ap (λ (S : State). socket_at S d) same_state ∙ there in
    let one : s ≡ t = cc both in
    record {
      ended = subst (λ (u : Socket). HasEnded (before boot es zero) d u) one (subst (λ (S : State). HasEnded S d s) same_state e);
      reset = λ h. ap (λ (u : Socket). u.reset) one ∙ h;
    }
ends_are_for_ever boot es j (suc k) d s t legal low within e there = bool_cases (j == suc k)
    (λ b.
    let at : j ≡ suc k = eqb-true j (suc k) b in
    let same_state : before boot es j ≡ before boot es (suc k) = ap (λ (i : ℕ). before boot es i) at in
    let both : Some s ≡ Some t = sym e.there ∙ ap (λ (S : State). socket_at S d) same_state ∙ there in
    let one : s ≡ t = cc both in
    record {
      ended = subst (λ (u : Socket). HasEnded (before boot es (suc k)) d u) one (subst (λ (S : State). HasEnded S d s) same_state e);
      reset = λ h. ap (λ (u : Socket). u.reset) one ∙ h;
    })
    (λ b.
    let ne = eqb-false j (suc k) b in
    let x = get_within es k (omega (arith, within)) in
    let f : Entry = x.0 in
    let S : State = before boot es k in
    let T : State = before boot es (suc k) in
    let first = socket_known (before boot es j) d s e.there in
    let more = made_more boot es j k legal (omega (arith, low, ne)) (omega (arith, within)) in
    let u = was_there S T f.pid.0 k f.request f.reply d t (did_at boot es k f legal x.1) (omega (arith, first, more)) there in
    let so_far = ends_are_for_ever boot es j k d s u.0 legal (omega (arith, low, ne)) (omega (arith, within)) e u.1 in
    let known = peer_known boot es k d so_far.ended.peer u.0 legal u.1 so_far.ended.connected in
    let now = ended_step S T f.pid.0 k d f.request f.reply f.released u.0 t (moment boot es k f legal x.1).steps so_far.ended known there in
    record { ended = now.ended; reset = λ h. so_far.reset (now.reset h) })

pub resets_are_of_losses : ResetsAreOfLosses
resets_are_of_losses boot es j d e s t legal at there left clear pending =
    let S : State = before boot es j in
    let T : State = before boot es (suc j) in
    let b = step_between S T e.pid.0 j e.request e.reply e.released (moment boot es j e legal at).steps in
    by_lost b.0 (subst (λ (V : State). Lost b.0 V d) (sym b.3) (settled_lost b.0 d))
    ((chosen_near S b.0 e.pid.0 j e.request e.reply b.1).each d)
  where
    at_end : reset_in (description_at (before boot es (suc j)) d) ≡ true
    at_end = reset_is (before boot es (suc j)) d t left ∙ pending

    not_by_call : {x : Option Description} → NearAt (before boot es j) e.pid.0 e.request d x → reset_in x ≡ true → ⊥
    not_by_call near h = false≢true (sym (reset_is (before boot es j) d s there ∙ clear) ∙ by_near near h)
      where
        by_near : {x : Option Description} → NearAt (before boot es j) e.pid.0 e.request d x → reset_in x ≡ true →
            reset_in (description_at (before boot es j) d) ≡ true
        by_near (stays is) h = sym (ap reset_in is) ∙ h
        by_near (reached r still) h = still.0 h
        by_near (new more still) h = still.0 h
        by_near (dropped off is) h = absurd (false≢true (sym (ap reset_in is) ∙ h))

    by_lost : (U : State) → Lost U (before boot es (suc j)) d → NearAt (before boot es j) e.pid.0 e.request d (description_at U d) →
        HasEnded (before boot es (suc j)) d t ⊎ (is_dgram t.kind ≡ true)
    by_lost U (unchanged is) near = absurd (not_by_call near (sym (ap reset_in is) ∙ at_end))
    by_lost U (lost is) near = absurd (false≢true (sym (ap reset_in is) ∙ at_end))
    by_lost U (reset r had) near = bool_cases (is_dgram t.kind) (λ k. inr k)
        (λ k. inl (record { peer = r.peer; there = left; connected = peer_kept; gone = r.lost; kind = k }))
      where
        at_target : (u : Target) → socket_of u ≡ Some r.socket →
            socket_of (changed_target (with_reset true) u) ≡ Some (with_reset true r.socket)
        at_target (to_object o) h = absurd (cc h)
        at_target (to_socket v) h = let one : v ≡ r.socket = cc h in ap (λ (w : Socket). Some (with_reset true w)) one

        peer_kept : peer_of t.phase ≡ Some r.peer
        peer_kept =
            let was : socket_of r.description.target ≡ Some r.socket = sym (ap socket_in r.there) ∙ r.connected in
            let is : Some t ≡ Some (with_reset true r.socket) = sym left ∙ ap socket_in r.left ∙ at_target r.description.target was in
            let one : t ≡ with_reset true r.socket = cc is in
            ap (λ (w : Socket). peer_of w.phase) one ∙ r.to

-- ---- sends

silent_no_count : (reply : Reply) → is_silent reply ≡ true → is_count reply ≡ false
silent_no_count (Reply.Count n) h = absurd (false≢true h)
silent_no_count _ h = refl

given_no_count : (reply : Reply) → is_given reply ≡ true → is_count reply ≡ false
given_no_count (Reply.Count n) h = absurd (false≢true h)
given_no_count _ h = refl

no_socket : (S : State) (d : ℕ) → description_at S d ≡ None → socket_at S d ≡ None
no_socket S d h = ap socket_in h

finds_nobody : (S T : State) (p tag d : ℕ) (request : Request) (reply : Reply) (s : Socket) → socket_through S p request ≡ Some (d, s) →
    HasEnded S d s → Did S p tag request reply T → is_count reply ≡ false
finds_nobody S T p tag d request reply s through e did = by_did did
  where
    goes : goes_to S s (request_addr request) ≡ Some e.peer
    goes = ap (λ b. if b then named_target S s (request_addr request) else peer_of s.phase) e.kind ∙ e.connected

    to : sends_to S e.peer p request ≡ true
    to = ap (λ (o : Option (ℕ × Socket)). is_number e.peer
        (elim o as (λ _. Option ℕ) [ None ↦ None | Some found ↦ goes_to S found.1 (request_addr request) ])) through
        ∙ ap (is_number e.peer) goes ∙ eq-eqb e.peer e.peer refl

    nobody : (t : Socket) → socket_at S e.peer ≡ Some t → ⊥
    nobody t h = let clash : None ≡ Some t = sym (no_socket S e.peer e.gone) ∙ h in cc clash

    by_did : Did S p tag request reply T → is_count reply ≡ false
    by_did (quiet k moves) = bool_cases (is_count reply) (λ b. let w = moves.record_out e.peer to b in absurd (nobody w.0 w.1)) (λ b. b)
    by_did (opened path mode flags o a b c k) = silent_no_count reply c
    by_did (file_made mode flags a b k) = silent_no_count reply b
    by_did (pipe_made flags a b k) = silent_no_count reply b
    by_did (one_made kind flags is a k) = silent_no_count reply a
    by_did (pair_made kind flags P x y a b c k) = ap is_count b
    by_did (listened fd backlog P t limit u a b c f g h k) = ap is_count b
    by_did (tied_to t target u a b to k) = silent_no_count reply a
    by_did (connected fd addr P t l u other kept a b c f g h i j m k) = ap is_count b
    by_did (put t m a k) =
        let sender : Some (d, s) ≡ Some (a.end, a.socket) = sym through ∙ a.through in
        let one : s ≡ a.socket = ap (λ (x : Option (ℕ × Socket)). elim x as (λ _. Socket) [ None ↦ s | Some w ↦ w.1 ]) sender in
        let both : Some e.peer ≡ Some t = sym goes ∙ ap (λ (u : Socket). goes_to S u (request_addr request)) one ∙ a.goes in
        let at : e.peer ≡ t = cc both in
        absurd (nobody a.target (ap (λ (i : ℕ). socket_at S i) at ∙ a.there))
    by_did (took t n u m ms a k) = given_no_count reply a.gives

pub sends_find_nobody : SendsFindNobody
sends_find_nobody boot es j d e s legal at through ended =
    finds_nobody (before boot es j) (before boot es (suc j)) e.pid.0 j d e.request e.reply s through ended (did_at boot es j e legal at)
