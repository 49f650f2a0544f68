-- What goes at the end of a call, and what is left of the rest; so a call leaves alone what is not in its reach.
use Rattle.std.proofs.Common.{◌≡◌, ◌≢◌, ℕ, zero, suc, ◌≤◌, Bool, true, false, ◌||◌, if◌then◌else◌, is_some, List, [], ◌∷◌, length, Option}
use Rattle.std.proofs.Common.{Some, None, option_map, refl, ap, sym, ◌∙◌, subst, arith}
use Rattle.std.proofs.lemmas.Bool.{false≢true, and_parts, ne_eqb}
use Rattle.ux_model.specs.Types.{Request, Reply}
use Rattle.ux_model.specs.Places.{place}
use Rattle.ux_model.specs.Socket.{Phase, idle, listening, connected, associated, peer_of, with_reset}
use Rattle.ux_model.specs.Description.{Description, Target, to_object, to_socket, socket_of, socket_in, changed, changed_target}
use Rattle.ux_model.specs.Process.{Descriptor}
use Rattle.ux_model.specs.State.{State, description_at, socket_at}
use Rattle.ux_model.specs.Release.{resets_peer, place_after_loss, without, is_unreferenced, drop_all, drop_rounds, drop_unreferenced}
use Rattle.ux_model.specs.Release.{has_unreferenced, settled}
use Rattle.ux_model.proofs.Releasing.Losses.{is_reset_by_loss, target_after_loss, description_after_loss}
use Rattle.ux_model.specs.Step.{Step}
use Rattle.ux_model.specs.History.{is_off}
use Rattle.ux_model.specs.Giving.{held_at}
use Rattle.ux_model.specs.Changes.{is_err, others_left_by, left_to_others}
use Rattle.ux_model.specs.Pedigree.{before}
use Rattle.ux_model.proofs.Releasing.ReleaseLaws.{description_at-without}
use Rattle.ux_model.proofs.Lists.ChangedPlaces.{bool_cases}
use Rattle.ux_model.proofs.Pedigrees.Moments.{moment}
use Rattle.ux_laws.specs.Reach.{LosesPeer, IsLeft, alone, in_reach, freed, loses_peer, CallsLeaveOthersAlone, CallsLeaveTablesAlone}
use Rattle.ux_laws.proofs.Near.Single.{NearAt, stays, reached, new, gone as dropped, Near}
use Rattle.ux_laws.proofs.Near.Calls.{chosen_near}

-- ---- what goes at the end of a call

-- what is left of a description where some go
pub data Lost (S T : State) (d : ℕ) : Type 0 where
  same : description_at T d ≡ description_at S d → Lost S T d
  lost : description_at T d ≡ None → Lost S T d
  -- by the loss of its peer, which was there
  reset : (r : LosesPeer S T d) → is_some (description_at S r.peer) ≡ true → Lost S T d

pub or_none : (b : Bool) → (b || false) ≡ b
or_none true = refl
or_none false = refl

or_one : (b : Bool) → (b || true) ≡ true
or_one true = refl
or_one false = refl

was_there : (x : Option Description) → resets_peer (socket_in x) ≡ true → is_some x ≡ true
was_there None h = absurd (false≢true h)
was_there (Some D) h = refl

-- whose loss resets a socket in this phase
reset_by : (gone : ℕ → Bool) (S : State) (phase : Phase) → is_reset_by_loss gone S phase ≡ true →
    (peer : ℕ) × (peer_of phase ≡ Some peer) × (gone peer ≡ true) × (is_some (description_at S peer) ≡ true)
reset_by gone S idle h = absurd (false≢true h)
reset_by gone S (listening backlog cred) h = absurd (false≢true h)
reset_by gone S (connected peer) h = let parts = and_parts (gone peer) (resets_peer (socket_at S peer)) h in
    (peer, refl, parts.0, was_there (description_at S peer) parts.1)
reset_by gone S (associated target) h = absurd (false≢true h)

pub round_lost : (gone : ℕ → Bool) (S : State) (d : ℕ) → Lost S (without gone S) d
round_lost gone S d = go (gone d) refl (description_at S d) refl (description_at-without gone S d)
  where
    T : State
    T = without gone S

    there : (peer : ℕ) → gone peer ≡ true → description_at T peer ≡ None
    there peer h = description_at-without gone S peer
        ∙ ap (λ b. if b then None else option_map (description_after_loss gone S) (description_at S peer)) h

    at_target : (D : Description) (t : Target) → D.target ≡ t → description_at S d ≡ Some D →
        description_at T d ≡ Some (record D { target = target_after_loss gone S t }) → Lost S T d
    at_target D (to_object o) is here left = same (left ∙ ap (λ (u : Target). Some (record D { target = u })) (sym is) ∙ sym here)
    at_target D (to_socket s) is here left = bool_cases (is_reset_by_loss gone S s.phase)
        (λ e.
        let w = reset_by gone S s.phase e in
        reset (record {
          description = D;
          socket = s;
          peer = w.0;
          there = here;
          connected = ap socket_in here ∙ ap socket_of is;
          to = w.1;
          lost = there w.0 w.2;
          left = left ∙ ap (λ b. Some (record D { target = to_socket (with_reset (s.reset || b) s) })) e
              ∙ ap (λ b. Some (record D { target = to_socket (with_reset b s) })) (or_one s.reset)
              ∙ ap (λ (u : Target). Some (record D { target = changed_target (with_reset true) u })) (sym is);
        }) w.3)
        (λ e. same (left ∙ ap (λ b. Some (record D { target = to_socket (with_reset (s.reset || b) s) })) e
        ∙ ap (λ b. Some (record D { target = to_socket (with_reset b s) })) (or_none s.reset)
        ∙ ap (λ (u : Target). Some (record D { target = u })) (sym is) ∙ sym here))

    go : (b : Bool) → gone d ≡ b → (x : Option Description) → description_at S d ≡ x →
        description_at T d ≡ place_after_loss gone S (d, description_at S d) → Lost S T d
    go true h x is left = lost (left ∙ ap (λ b. if b then None else option_map (description_after_loss gone S) (description_at S d)) h)
    go false h None is left = same (left ∙ ap (λ b. if b then None else option_map (description_after_loss gone S) (description_at S d)) h
        ∙ ap (λ y. option_map (description_after_loss gone S) y) is ∙ sym is)
    go false h (Some D) is left = at_target D D.target refl is
        (left ∙ ap (λ b. if b then None else option_map (description_after_loss gone S) (description_at S d)) h
        ∙ ap (λ y. option_map (description_after_loss gone S) y) is)

-- what was gone stays so
pub stays_gone : (S T : State) (d : ℕ) → Lost S T d → description_at S d ≡ None → description_at T d ≡ None
stays_gone S T d (same e) h = e ∙ h
stays_gone S T d (lost e) h = e
stays_gone S T d (reset r had) h = let clash : None ≡ Some r.description = sym h ∙ r.there in absurd (cc clash)

reset_twice : (D : Description) → changed (with_reset true) (changed (with_reset true) D) ≡ changed (with_reset true) D
reset_twice D = ap (λ (t : Target). record D { target = t }) (at_target D.target)
  where
    at_target : (t : Target) → changed_target (with_reset true) (changed_target (with_reset true) t) ≡ changed_target (with_reset true) t
    at_target (to_object o) = refl
    at_target (to_socket s) = refl

-- and what is there was there
was_before : (S T : State) (d : ℕ) → Lost S T d → is_some (description_at T d) ≡ true → is_some (description_at S d) ≡ true
was_before S T d (same e) h = sym (ap is_some e) ∙ h
was_before S T d (lost e) h = absurd (false≢true (sym (ap is_some e) ∙ h))
was_before S T d (reset r had) h = ap is_some r.there

pub lost_after : (S T U : State) (d : ℕ) → ((e : ℕ) → Lost S T e) → ((e : ℕ) → Lost T U e) → Lost S T d → Lost T U d → Lost S U d
lost_after S T U d first all (same e) (same f) = same (f ∙ e)
lost_after S T U d first all (same e) (lost f) = lost f
lost_after S T U d first all (same e) (reset r had) =
    reset (record {
      description = r.description;
      socket = r.socket;
      peer = r.peer;
      there = sym e ∙ r.there;
      connected = sym (ap socket_in e)
          ∙ r.connected;
      to = r.to;
      lost = r.lost;
      left = r.left;
    }) (was_before S T r.peer (first r.peer) had)
lost_after S T U d first all (lost e) g = lost (stays_gone T U d g e)
lost_after S T U d first all (reset r had) (same f) =
    reset (record {
      description = r.description;
      socket = r.socket;
      peer = r.peer;
      there = r.there;
      connected = r.connected;
      to =
          r.to;
      lost = stays_gone T U r.peer (all r.peer) r.lost;
      left = f ∙ r.left;
    }) had
lost_after S T U d first all (reset r had) (lost f) = lost f
lost_after S T U d first all (reset r had) (reset q also) =
    let both : Some q.description ≡ Some (changed (with_reset true) r.description) = sym q.there ∙ r.left in
    let is : q.description ≡ changed (with_reset true) r.description = cc both in
    reset (record {
      description = r.description;
      socket = r.socket;
      peer = r.peer;
      there = r.there;
      connected = r.connected;
      to = r.to;
      lost = stays_gone T U r.peer (all r.peer) r.lost;
      left = q.left ∙ ap (λ (D : Description). Some (changed (with_reset true) D)) is
          ∙ ap (λ (D : Description). Some D) (reset_twice r.description);
    }) had

pub rounds_lost : (n : ℕ) (S : State) (d : ℕ) → Lost S (drop_rounds n S) d
unfolding drop_rounds
rounds_lost zero S d = same refl
rounds_lost (suc n) S d = go (λ e. rounds_lost n (drop_all S) e) (has_unreferenced S)
  where
    go : ((e : ℕ) → Lost (drop_all S) (drop_rounds n (drop_all S)) e) → (b : Bool) →
        Lost S (elim b as (λ _. State) [ true ↦ drop_rounds n (drop_all S) | false ↦ S ]) d
    go rest true = lost_after S (drop_all S) (drop_rounds n (drop_all S)) d
        (λ e. round_lost (is_unreferenced S) S e) rest (round_lost (is_unreferenced S) S d) (rest d)
    go rest false = same refl

-- where the descriptions are the same
alike_lost : (S T U : State) (d : ℕ) → U.descriptions ≡ T.descriptions → Lost S T d → Lost S U d
alike_lost S T U d h (same e) = same (ap (λ ds. place ds d) h ∙ e)
alike_lost S T U d h (lost e) = lost (ap (λ ds. place ds d) h ∙ e)
alike_lost S T U d h (reset r had) = reset
    (record {
      description = r.description;
      socket = r.socket;
      peer = r.peer;
      there = r.there;
      connected = r.connected;
      to = r.to;
      lost =
          ap (λ ds. place ds r.peer) h ∙ r.lost;
      left = ap (λ ds. place ds d) h ∙ r.left;
    }) had

pub settled_lost : (S : State) (d : ℕ) → Lost S (settled S) d
unfolding settled drop_unreferenced
settled_lost S d = alike_lost S (drop_unreferenced S) (settled S) d refl (rounds_lost (length S.descriptions) S d)

-- ---- a call

pub record Passed (S : State) (p : ℕ) (request : Request) (T : State) : Type 0 where
  pub between : State
  pub near : Near S p request between
  pub lost_then : (d : ℕ) → Lost between T d

pub step_passed : (S T : State) (p tag : ℕ) (request : Request) (reply : Reply) (gone : List ℕ) → Step S p tag request reply gone T →
    Passed S p request T
unfolding Step
step_passed S T p tag request reply gone s = record {
  between = s.0;
  near = chosen_near S s.0 p tag request reply s.1;
  lost_then = λ d. subst (λ (U : State). Lost s.0 U d) (sym s.3) (settled_lost s.0 d);
}

pub none_beyond : (ds : List (Option Description)) (d : ℕ) → length ds ≤ d → place ds d ≡ None
none_beyond [] d h = refl
none_beyond (x ∷ ds) zero h = absurd (omega (arith, h))
none_beyond (x ∷ ds) (suc d) h = none_beyond ds d (omega (arith, h))

passed_left : (S T : State) (p : ℕ) (request : Request) (d : ℕ) → Passed S p request T → description_at S d ≢ None → IsLeft S p request T d
passed_left S T p request d w there = by_near (w.near.each d) (w.lost_then d)
  where
    U : State
    U = w.between

    stayed : description_at U d ≡ description_at S d → Lost U T d → IsLeft S p request T d
    stayed is (same e) = alone (e ∙ is)
    stayed is (lost e) = freed e
    stayed is (reset r had) = loses_peer (record {
      description = r.description;
      socket = r.socket;
      peer = r.peer;
      there = sym is
          ∙ r.there;
      connected = sym (ap socket_in is) ∙ r.connected;
      to = r.to;
      lost = r.lost;
      left = r.left;
    })

    by_near : NearAt S p request d (description_at U d) → Lost U T d → IsLeft S p request T d
    by_near (stays is) l = stayed is l
    by_near (reached r still) l = in_reach r
    by_near (new more still) l = absurd (there (none_beyond S.descriptions d more))
    by_near (dropped off is) l = freed (stays_gone U T d l is)

pub calls_leave_others_alone : CallsLeaveOthersAlone
calls_leave_others_alone boot es j d e legal at there =
    passed_left (before boot es j) (before boot es (suc j)) e.pid.0 e.request d
    (step_passed (before boot es j) (before boot es (suc j)) e.pid.0 j e.request e.reply e.released (moment boot es j e legal at).steps)
    there

-- ---- tables

others_stay : (request : Request) (reply : Reply) (x : Option Descriptor) → is_off request ≡ false → left_to_others request reply x ≡ x
others_stay request reply x on = go (is_err reply) (kept request on)
  where
    kept : (r : Request) → is_off r ≡ false → others_left_by r x ≡ x
    kept Request.Off h = absurd (false≢true (sym h))
    kept _ h = refl

    go : (b : Bool) → others_left_by request x ≡ x → (if b then x else others_left_by request x) ≡ x
    go true h = refl
    go false h = h

pub calls_leave_tables_alone : CallsLeaveTablesAlone
calls_leave_tables_alone boot es j q n e legal at on other childless =
    (moment boot es j e legal at).changes.others q n (ne_eqb e.pid.0 q other) childless
    ∙ others_stay e.request e.reply (held_at (before boot es j) q n) on
