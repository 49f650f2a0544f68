-- What is connected stays so, to the same peer, which is connected to it.
use Rattle.std.proofs.Common.{◌≡◌, ◌≢◌, ℕ, zero, suc, ◌≤◌, ◌<◌, ◌==◌, is_some, List, length, take, Option, Some, None, refl, ap}
use Rattle.std.proofs.Common.{sym, ◌∙◌, arith}
use Rattle.std.proofs.lemmas.Bool.{eqb-true, eqb-false}
use Rattle.ux_model.specs.Types.{Entry}
use Rattle.ux_model.specs.Socket.{Socket, peer_of}
use Rattle.ux_model.specs.Description.{Description, Target, to_object, to_socket, socket_of, socket_in}
use Rattle.ux_model.specs.State.{State, description_at, socket_at}
use Rattle.ux_model.specs.Peers.{target_peer, peer_in}
use Rattle.ux_model.specs.Invariants.{IsWhole}
use Rattle.ux_model.specs.History.{IsLegal}
use Rattle.ux_model.specs.Pedigree.{before}
use Rattle.ux_model.proofs.Lists.ChangedPlaces.{bool_cases}
use Rattle.ux_model.proofs.Lists.Fronts.{front_is_legal}
use Rattle.ux_model.proofs.Lists.ByPlace.{get_within}
use Rattle.ux_model.proofs.Invariants.Dangling.{nothing_dangles}
use Rattle.ux_laws.specs.Connections.{ConnectionsStay}
use Rattle.ux_laws.proofs.Opened.{did_at, made_more}
use Rattle.ux_laws.proofs.Ended.{peer_seen, socket_known, was_there}
use Rattle.ux_laws.proofs.WaitEnds.{parts_stay}

abbrev Stays : ℕ → Socket → Socket → Type 0
Stays peer s t = (t.kind ≡ s.kind) × (peer_of t.phase ≡ Some peer)

same_moment : (boot : State) (es : List Entry) (j k d peer : ℕ) (s t : Socket) → j ≡ k → socket_at (before boot es j) d ≡ Some s →
    peer_of s.phase ≡ Some peer → socket_at (before boot es k) d ≡ Some t → Stays peer s t
same_moment boot es j k d peer s t at here to there =
    let both : Some t ≡ Some s = sym there ∙ sym (ap (λ (i : ℕ). socket_at (before boot es i) d) at) ∙ here in
    let one : t ≡ s = cc both in
    (ap (λ (u : Socket). u.kind) one, ap (λ (u : Socket). peer_of u.phase) one ∙ to)

stays : (boot : State) (es : List Entry) (j k d peer : ℕ) (s t : Socket) → IsLegal boot es → j ≤ k → k ≤ length es →
    socket_at (before boot es j) d ≡ Some s → peer_of s.phase ≡ Some peer → socket_at (before boot es k) d ≡ Some t → Stays peer s t
stays boot es j zero d peer s t legal low within here to there = same_moment boot es j zero d peer s t (omega (arith, low)) here to there
stays boot es j (suc k) d peer s t legal low within here to there = bool_cases (j == suc k)
    (λ b. same_moment boot es j (suc k) d peer s t (eqb-true j (suc k) b) here to there)
    (λ b.
    let ne = eqb-false j (suc k) b in
    let x = get_within es k (omega (arith, within)) in
    let f : Entry = x.0 in
    let did = did_at boot es k f legal x.1 in
    let first = socket_known (before boot es j) d s here in
    let more = made_more boot es j k legal (omega (arith, low, ne)) (omega (arith, within)) in
    let u = was_there (before boot es k) (before boot es (suc k)) f.pid.0 k f.request f.reply d t did (omega (arith, first, more)) there in
    let so_far = stays boot es j k d peer s u.0 legal (omega (arith, low, ne)) (omega (arith, within)) here to u.1 in
    let now = parts_stay (before boot es k) (before boot es (suc k)) f.pid.0 k d f.request f.reply u.0 t did u.1 there in
    (now.0 ∙ so_far.0, now.1 peer so_far.1))

-- a socket that was made before a moment was one then
pub socket_before : (boot : State) (es : List Entry) (j k d : ℕ) (t : Socket) → IsLegal boot es → j ≤ k → k ≤ length es →
    d < length (before boot es j).descriptions → socket_at (before boot es k) d ≡ Some t →
    (s : Socket) × (socket_at (before boot es j) d ≡ Some s)
socket_before boot es j zero d t legal low within known there = let at : j ≡ zero = omega (arith, low) in
    (t, ap (λ (i : ℕ). socket_at (before boot es i) d) at ∙ there)
socket_before boot es j (suc k) d t legal low within known there = bool_cases (j == suc k)
    (λ b. (t, ap (λ (i : ℕ). socket_at (before boot es i) d) (eqb-true j (suc k) b) ∙ there))
    (λ b.
    let ne = eqb-false j (suc k) b in
    let x = get_within es k (omega (arith, within)) in
    let f : Entry = x.0 in
    let more = made_more boot es j k legal (omega (arith, low, ne)) (omega (arith, within)) in
    let u = was_there (before boot es k) (before boot es (suc k)) f.pid.0 k f.request f.reply d t (did_at boot es k f legal x.1)
    (omega (arith, known, more)) there in
    socket_before boot es j k d u.0 legal (omega (arith, low, ne)) (omega (arith, within)) known u.1)

-- the peer of a socket, while it is there
pub joined_back : (S : State) (d peer : ℕ) (s : Socket) → IsWhole S → socket_at S d ≡ Some s → peer_of s.phase ≡ Some peer →
    description_at S peer ≢ None → (u : Socket) × (socket_at S peer ≡ Some u) × (peer_of u.phase ≡ Some d)
joined_back S d peer s whole here to there = at_place (description_at S peer) refl
  where
    at_target : (D : Description) (t : Target) → D.target ≡ t → description_at S peer ≡ Some D → target_peer t ≡ Some d →
        (u : Socket) × (socket_at S peer ≡ Some u) × (peer_of u.phase ≡ Some d)
    at_target D (to_object o) is at back = absurd (cc back)
    at_target D (to_socket u) is at back = (u, ap socket_in at ∙ ap socket_of is, back)

    at_place : (x : Option Description) → description_at S peer ≡ x →
        (u : Socket) × (socket_at S peer ≡ Some u) × (peer_of u.phase ≡ Some d)
    at_place None is = absurd (there is)
    at_place (Some D) is = at_target D D.target refl is
        (sym (ap peer_in is) ∙ whole.connections_mutual.returned d peer (peer_seen S d peer s here to) (ap is_some is))

pub connections_stay : ConnectionsStay
connections_stay boot es j k d peer s t legal low within here to there =
    let w = stays boot es j k d peer s t legal low within here to there in
    record {
      kind = w.0;
      to = w.1;
      back = joined_back (before boot es k) d peer t (nothing_dangles boot (take k es) (front_is_legal boot es k legal)) there w.1;
    }
