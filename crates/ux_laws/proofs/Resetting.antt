-- Whether the loss of a peer resets a socket.
use Rattle.std.proofs.Common.{◌≡◌, ℕ, zero, suc, ◌==◌, Bool, true, false, ◌&&◌, ◌||◌, if◌then◌else◌, List, length, map, Option, Some, None}
use Rattle.std.proofs.Common.{option_map, refl, ap, sym, ◌∙◌}
use Rattle.std.specs.Prelude.{nat_le, is_none}
use Rattle.std.proofs.lemmas.Bool.{false≢true}
use Rattle.ux_model.specs.Types.{Fd, Request, Reply}
use Rattle.ux_model.specs.Places.{place}
use Rattle.ux_model.specs.Socket.{Socket, Phase, idle, listening, connected, associated, peer_of, with_reset}
use Rattle.ux_model.specs.Description.{Description, Target, to_object, to_socket, socket_of, socket_in}
use Rattle.ux_model.specs.Process.{Process, kept_on_exec}
use Rattle.ux_model.specs.State.{State, process_at, description_at, socket_at, table_of, with_process}
use Rattle.ux_model.specs.Outcome.{Outcome, Chosen, own, lacking_memory, failing}
use Rattle.ux_model.specs.Descriptors.{dup2}
use Rattle.ux_model.specs.Forking.{exec}
use Rattle.ux_model.specs.Closing.{close, exit}
use Rattle.ux_model.specs.Release.{resets_peer, without, is_unreferenced, drop_all, drop_rounds, drop_unreferenced, has_unreferenced}
use Rattle.ux_model.specs.Release.{settled}
use Rattle.ux_model.proofs.Releasing.Losses.{is_reset_by_loss, target_after_loss, description_after_loss}
use Rattle.ux_model.specs.Step.{Step, outcome}
use Rattle.ux_model.specs.Pedigree.{before}
use Rattle.ux_model.proofs.Releasing.ReleaseLaws.{description_at-without}
use Rattle.ux_model.proofs.Changes.Walk.{either, maybe, found}
use Rattle.ux_model.proofs.Steps.NameCalls.{same_descriptions}
use Rattle.ux_model.proofs.Steps.Calls.{each_obeys}
use Rattle.ux_model.proofs.Pedigrees.Moments.{moment}
use Rattle.ux_laws.specs.Ends.{is_closing, LossesReset}
use Rattle.ux_laws.proofs.LeftAlone.{Lost, same, lost, reset, stays_gone, rounds_lost}

-- ---- a round

-- what is left of a socket that stays
socket_left : (gone : ℕ → Bool) (S : State) (d : ℕ) (t : Socket) → socket_at (without gone S) d ≡ Some t →
    (s : Socket) × (socket_at S d ≡ Some s) × (t ≡ with_reset (s.reset || is_reset_by_loss gone S s.phase) s)
socket_left gone S d t h = go (gone d) (description_at S d) (sym (ap socket_in (description_at-without gone S d)) ∙ h)
  where
    at_target : (u : Target) → socket_of (target_after_loss gone S u) ≡ Some t →
        (s : Socket) × (socket_of u ≡ Some s) × (t ≡ with_reset (s.reset || is_reset_by_loss gone S s.phase) s)
    at_target (to_object o) h = absurd (cc h)
    at_target (to_socket s) h = let alike : with_reset (s.reset || is_reset_by_loss gone S s.phase) s ≡ t = cc h in (s, refl, sym alike)

    go : (b : Bool) (x : Option Description) → socket_in (if b then None else option_map (description_after_loss gone S) x) ≡ Some t →
        (s : Socket) × (socket_in x ≡ Some s) × (t ≡ with_reset (s.reset || is_reset_by_loss gone S s.phase) s)
    go true x h = absurd (cc h)
    go false None h = absurd (cc h)
    go false (Some D) h = at_target D.target h

-- what the loss of a peer resets, by the phase
reset_connected : (gone : ℕ → Bool) (S : State) (phase : Phase) (peer : ℕ) → peer_of phase ≡ Some peer →
    is_reset_by_loss gone S phase ≡ (gone peer && resets_peer (socket_at S peer))
reset_connected gone S idle peer h = absurd (cc h)
reset_connected gone S (listening backlog cred) peer h = absurd (cc h)
reset_connected gone S (connected p) peer h = let alike : p ≡ peer = cc h in ap (λ (k : ℕ). gone k && resets_peer (socket_at S k)) alike
reset_connected gone S (associated target) peer h = absurd (cc h)

-- what a peer that stays left unread stays so
resets_left : (gone : ℕ → Bool) (S : State) (peer : ℕ) → gone peer ≡ false →
    resets_peer (socket_at (without gone S) peer) ≡ resets_peer (socket_at S peer)
resets_left gone S peer stays =
    ap (λ x. resets_peer (socket_in x)) (description_at-without gone S peer
    ∙ ap (λ b. if b then None else option_map (description_after_loss gone S) (description_at S peer)) stays)
    ∙ at_place (description_at S peer)
  where
    at_target : (u : Target) → resets_peer (socket_of (target_after_loss gone S u)) ≡ resets_peer (socket_of u)
    at_target (to_object o) = refl
    at_target (to_socket s) = refl

    at_place : (x : Option Description) → resets_peer (socket_in (option_map (description_after_loss gone S) x)) ≡ resets_peer (socket_in x)
    at_place None = refl
    at_place (Some D) = at_target D.target

-- ---- all rounds

-- a socket that stays is reset exactly where it was, or where its peer goes and left something
abbrev IsReset : State → State → ℕ → ℕ → Socket → Socket → Type 0
IsReset S T d peer s t = t.reset ≡ (s.reset || (is_none (description_at T peer) && resets_peer (socket_at S peer)))

-- nothing goes, so nothing is reset
none_goes : (r : Bool) (x : Option Description) → r ≡ (r || (is_none x && resets_peer (socket_in x)))
none_goes true x = refl
none_goes false None = refl
none_goes false (Some D) = refl

or_assoc_none : (r x : Bool) → ((r || x) || (true && false)) ≡ (r || (true && x))
or_assoc_none true x = refl
or_assoc_none false true = refl
or_assoc_none false false = refl

drop_false : (r y : Bool) → ((r || false) || y) ≡ (r || y)
drop_false true y = refl
drop_false false y = refl

rounds_reset : (n : ℕ) (S : State) (d peer : ℕ) (s t : Socket) → socket_at S d ≡ Some s → peer_of s.phase ≡ Some peer →
    socket_at (drop_rounds n S) d ≡ Some t → IsReset S (drop_rounds n S) d peer s t
unfolding drop_rounds
rounds_reset zero S d peer s t here is there =
    let both : Some s ≡ Some t = sym here ∙ there in
    let alike : s ≡ t = cc both in
    sym (ap (λ (u : Socket). u.reset) alike) ∙ none_goes s.reset (description_at S peer)
rounds_reset (suc n) S d peer s t here is there =
    go (λ u t found tied left. rounds_reset n (drop_all S) d peer u t found tied left) (has_unreferenced S) there
  where
    gone : ℕ → Bool
    gone = is_unreferenced S

    one : State
    one = drop_all S

    Rest : Type 0
    Rest = (u t : Socket) → socket_at (drop_all S) d ≡ Some u → peer_of u.phase ≡ Some peer →
        socket_at (drop_rounds n (drop_all S)) d ≡ Some t → IsReset (drop_all S) (drop_rounds n (drop_all S)) d peer u t

    at_first : Rest → (u : Socket) → socket_at one d ≡ Some u → (t : Socket) → socket_at (drop_rounds n one) d ≡ Some t →
        IsReset S (drop_rounds n one) d peer s t
    at_first more u found t there =
        let w = socket_left gone S d u found in
        let both : Some w.0 ≡ Some s = sym w.1 ∙ here in
        let alike : w.0 ≡ s = cc both in
        let u_is : u ≡ with_reset (s.reset || is_reset_by_loss gone S s.phase) s = w.2
        ∙ ap (λ (x : Socket). with_reset (x.reset || is_reset_by_loss gone S x.phase) x) alike in
        let peer_is : peer_of u.phase ≡ Some peer = ap (λ (x : Socket). peer_of x.phase) u_is ∙ is in
        let reset_is : u.reset ≡ (s.reset || (gone peer && resets_peer (socket_at S peer))) = ap (λ (x : Socket). x.reset) u_is
        ∙ ap (λ b. s.reset || b) (reset_connected gone S s.phase peer is) in
        let rest = more u t found peer_is there in
        by_peer (gone peer) refl u reset_is rest
      where
        by_peer : (b : Bool) → gone peer ≡ b → (u : Socket) → u.reset ≡ (s.reset || (gone peer && resets_peer (socket_at S peer))) →
            IsReset one (drop_rounds n one) d peer u t → IsReset S (drop_rounds n one) d peer s t
        by_peer true h u reset_is rest =
            let lost_now : description_at one peer ≡ None = description_at-without gone S peer
            ∙ ap (λ b. if b then None else option_map (description_after_loss gone S) (description_at S peer)) h in
            let lost_then : description_at (drop_rounds n one) peer ≡ None =
            stays_gone one (drop_rounds n one) peer (rounds_lost n one peer) lost_now in
            rest ∙ ap (λ x. u.reset || (is_none x && resets_peer (socket_at one peer))) lost_then
            ∙ ap (λ x. u.reset || (true && resets_peer (socket_in x))) lost_now
            ∙ ap (λ b. b || (true && false)) (reset_is ∙ ap (λ b. s.reset || (b && resets_peer (socket_at S peer))) h)
            ∙ or_assoc_none s.reset (resets_peer (socket_at S peer))
            ∙ sym (ap (λ x. s.reset || (is_none x && resets_peer (socket_at S peer))) lost_then)
        by_peer false h u reset_is rest =
            rest ∙ ap (λ b. u.reset || (is_none (description_at (drop_rounds n one) peer) && b)) (resets_left gone S peer h)
            ∙ ap (λ b. b || (is_none (description_at (drop_rounds n one) peer) && resets_peer (socket_at S peer)))
            (reset_is ∙ ap (λ b. s.reset || (b && resets_peer (socket_at S peer))) h)
            ∙ drop_false s.reset (is_none (description_at (drop_rounds n one) peer) && resets_peer (socket_at S peer))

    still_there : Rest → (x : Option Socket) → socket_at one d ≡ x → (t : Socket) → socket_at (drop_rounds n one) d ≡ Some t →
        IsReset S (drop_rounds n one) d peer s t
    still_there more None h t there = absurd (gone_stays h t there)
      where
        gone_stays : socket_at one d ≡ None → (t : Socket) → socket_at (drop_rounds n one) d ≡ Some t → ⊥
        gone_stays h t there = by_lost (rounds_lost n one d)
          where
            by_lost : Lost one (drop_rounds n one) d → ⊥
            by_lost (same e) = let clash : None ≡ Some t = sym h ∙ sym (ap socket_in e) ∙ there in cc clash
            by_lost (lost e) = let clash : None ≡ Some t = sym (ap socket_in e) ∙ there in cc clash
            by_lost (reset r had) = let clash : None ≡ Some r.socket = sym h ∙ r.connected in cc clash
    still_there more (Some u) h t there = at_first more u h t there

    go : Rest → (b : Bool) → socket_at (elim b as (λ _. State) [ true ↦ drop_rounds n one | false ↦ S ]) d ≡ Some t →
        IsReset S (elim b as (λ _. State) [ true ↦ drop_rounds n one | false ↦ S ]) d peer s t
    go more true there = still_there more (socket_at one d) refl t there
    go more false there =
        let both : Some s ≡ Some t = sym here ∙ there in
        let alike : s ≡ t = cc both in
        sym (ap (λ (u : Socket). u.reset) alike) ∙ none_goes s.reset (description_at S peer)

settled_reset : (S : State) (d peer : ℕ) (s t : Socket) → socket_at S d ≡ Some s → peer_of s.phase ≡ Some peer →
    socket_at (settled S) d ≡ Some t → IsReset S (settled S) d peer s t
unfolding settled drop_unreferenced
settled_reset S d peer s t here is there = rounds_reset (length S.descriptions) S d peer s t here is there

-- ---- calls that close descriptors

abbrev SameDescriptions : State → Outcome → Type 0
SameDescriptions S o = o.next.descriptions ≡ S.descriptions

close_same : (S : State) (p : ℕ) (fd : Fd) → SameDescriptions S (close S p fd)
unfolding close
close_same S p fd = found (SameDescriptions S) S p fd _ refl (λ e D g h. same_descriptions S p _)

dup2_same : (S : State) (p : ℕ) (fd to : Fd) → SameDescriptions S (dup2 S p fd to)
unfolding dup2
dup2_same S p fd to = found (SameDescriptions S) S p fd _ refl
    (λ e D g h. either (SameDescriptions S) (nat_le (length (table_of S p)) to.0) _ _ (λ b. refl)
    (λ b. either (SameDescriptions S) (to.0 == fd.0) _ _ (λ b. refl) (λ b. same_descriptions S p _)))

exec_same : (S : State) (p : ℕ) → SameDescriptions S (exec S p)
unfolding exec
exec_same S p = maybe (SameDescriptions S) (process_at S p) _ _ refl (λ P h. same_descriptions S p (map kept_on_exec P.table))

exit_same : (S : State) (p : ℕ) → SameDescriptions S (exit S p)
unfolding exit
exit_same S p = maybe (SameDescriptions S) (process_at S p) _ _ refl (λ P h. with_process_same p _)
  where
    with_process_same : (p : ℕ) (P : Process) → (with_process S p P).descriptions ≡ S.descriptions
    with_process_same zero P = refl
    with_process_same (suc i) P = refl

closing_same : (S : State) (p tag : ℕ) (request : Request) → is_closing request ≡ true → SameDescriptions S (outcome S p tag request)
unfolding outcome
closing_same S p tag (Request.Close fd) h = close_same S p fd
closing_same S p tag (Request.Dup2 fd to) h = dup2_same S p fd to
closing_same S p tag Request.Exec h = exec_same S p
closing_same S p tag Request.Exit h = exit_same S p
closing_same S p tag request h = absurd (false≢true h)

chosen_same : (S T : State) (p tag : ℕ) (request : Request) (reply : Reply) → is_closing request ≡ true →
    Chosen S (outcome S p tag request) reply T → T.descriptions ≡ S.descriptions
chosen_same S T p tag request reply closing (own e f) = ap (λ (U : State). U.descriptions) f ∙ closing_same S p tag request closing
chosen_same S T p tag request reply closing (lacking_memory e may f) = ap (λ (U : State). U.descriptions) f
chosen_same S T p tag request reply closing (failing e f) =
    ap (λ (U : State). U.descriptions) ((each_obeys S p tag request).failed T f).0.left

step_reset : (S T : State) (p tag d peer : ℕ) (request : Request) (reply : Reply) (gone : List ℕ) (s t : Socket) →
    is_closing request ≡ true → Step S p tag request reply gone T → socket_at S d ≡ Some s → peer_of s.phase ≡ Some peer →
    socket_at T d ≡ Some t →
    t.reset ≡ (s.reset || (is_none (description_at T peer) && resets_peer (socket_at S peer)))
unfolding Step
step_reset S T p tag d peer request reply gone s t closing step here is there =
    let U : State = step.0 in
    let alike : U.descriptions ≡ S.descriptions = chosen_same S U p tag request reply closing step.1 in
    let at_d : socket_at U d ≡ Some s = ap (λ ds. socket_in (place ds d)) alike ∙ here in
    let at_peer : socket_at U peer ≡ socket_at S peer = ap (λ ds. socket_in (place ds peer)) alike in
    let left : socket_at (settled U) d ≡ Some t = ap (λ (V : State). socket_at V d) (sym step.3) ∙ there in
    settled_reset U d peer s t at_d is left ∙ ap
    (λ (V : State). s.reset || (is_none (description_at V peer) && resets_peer (socket_at U peer))) (sym step.3)
    ∙ ap (λ x. s.reset || (is_none (description_at T peer) && resets_peer x)) at_peer

pub losses_reset : LossesReset
losses_reset boot es j d peer e s t u legal at closing here is peer_here lost_peer there =
    step_reset (before boot es j) (before boot es (suc j)) e.pid.0 j d peer e.request e.reply e.released s t closing
    (moment boot es j e legal at).steps here is there
    ∙ ap (λ x. s.reset || (is_none x && resets_peer (socket_at (before boot es j) peer))) lost_peer
    ∙ ap (λ x. s.reset || (true && resets_peer x)) peer_here
