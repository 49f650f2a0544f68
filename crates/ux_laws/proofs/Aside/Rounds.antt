-- What goes at the end of a call is nothing that one side refers to, where that was left as it was.
use Rattle.std.proofs.Common.{◌≡◌, ℕ, zero, suc, ◌<◌, ◌==◌, Bool, true, false, ◌&&◌, ◌||◌, if◌then◌else◌, length, Option}
use Rattle.std.proofs.Common.{Some}
use Rattle.std.proofs.Common.{None, option_map, refl, ap, ◌∙◌, subst, is_some, arith}
use Rattle.std.proofs.lemmas.Bool.{ne_eqb}
use Rattle.ux_model.specs.Socket.{Phase, Socket, idle, listening, connected, associated, peer_of, tied_socket, with_reset}
use Rattle.ux_model.specs.Description.{Description, Target, to_object, to_socket, changed, changed_target}
use Rattle.ux_model.specs.State.{State, description_at, process_at, socket_at}
use Rattle.ux_model.specs.References.{description_refs, refs}
use Rattle.ux_model.specs.Release.{resets_peer, socket_after_loss, without, is_unreferenced, has_unreferenced, drop_all}
use Rattle.ux_model.specs.Release.{drop_rounds, drop_unreferenced, settled}
use Rattle.ux_model.proofs.Releasing.ReleaseLaws.{description_at-without}
use Rattle.ux_laws.specs.Apartness.{Sides, SocketIsOn, TargetIsOn, AreApart}
use Rattle.ux_laws.proofs.LeftAlone.{or_none}
use Rattle.ux_laws.proofs.Aside.Counting.{table_counts, refs_least}
use Rattle.ux_laws.proofs.Aside.Processes.{by_list}

-- U has the processes and descriptions of a side as S has them
pub record Alike (sides : Sides) (S U : State) : Type 0 where
  pub processes : (p : ℕ) → sides.process p ≡ true → process_at U p ≡ process_at S p
  pub descriptions : (d : ℕ) → sides.description d ≡ true → description_at U d ≡ description_at S d

-- none of a side lacks a reference
abbrev pub AllReferred : Sides → State → Type 0
AllReferred sides S = (d : ℕ) → sides.description d ≡ true → is_some (description_at S d) ≡ true → 0 < refs S d

-- a side of which S has all referred to loses none
none_goes : (sides : Sides) (S U : State) (d : ℕ) → AreApart sides S → AllReferred sides S → Alike sides S U →
    sides.description d ≡ true → is_unreferenced U d ≡ false
none_goes sides S U d apart referred alike mine = go (is_some (description_at S d)) refl
  where
    go : (b : Bool) → is_some (description_at S d) ≡ b → is_unreferenced U d ≡ false
    go false h = ap (λ x. x && (refs U d == 0)) (ap is_some (alike.descriptions d mine) ∙ h)
    go true h =
        let some = referred d mine h in
        let least = refs_least sides S U d apart mine
        (λ p on. let same : table_counts d (process_at U p) ≡ table_counts d (process_at S p) = ap (table_counts d)
        (alike.processes p on) in
        omega (arith, same))
        (λ x on. let same : description_refs d (description_at U x) ≡ description_refs d (description_at S x) =
        ap (description_refs d) (alike.descriptions x on) in omega (arith, same)) in
        let not_zero : (refs U d == 0) ≡ false = ne_eqb (refs U d) 0 (λ (z : refs U d ≡ 0). omega (arith, some, least, z)) in
        ap (λ x. x && (refs U d == 0)) (ap is_some (alike.descriptions d mine) ∙ h) ∙ not_zero

pub tied_peer : (phase : Phase) (peer : ℕ) → peer_of phase ≡ Some peer → tied_socket phase ≡ Some peer
tied_peer idle peer h = absurd (cc h)
tied_peer (listening backlog cred) peer h = absurd (cc h)
tied_peer (connected other) peer h = h
tied_peer (associated target) peer h = absurd (cc h)

-- nor is a socket of that side reset
not_reset : (sides : Sides) (gone : ℕ → Bool) (U : State) (s : Socket) → ((d : ℕ) → sides.description d ≡ true → gone d ≡ false) →
    SocketIsOn sides true s → socket_after_loss gone U s ≡ s
not_reset sides gone U s stay on = go (peer_of s.phase) refl
  where
    go : (x : Option ℕ) → peer_of s.phase ≡ x →
        with_reset (s.reset || elim x as (λ _. Bool) [ None ↦ false | Some peer ↦ gone peer && resets_peer (socket_at U peer) ]) s ≡ s
    go None is = ap (λ b. with_reset b s) (or_none s.reset)
    go (Some peer) is =
        ap (λ b. with_reset (s.reset || (b && resets_peer (socket_at U peer))) s) (stay peer (on.tied peer (tied_peer s.phase peer is)))
        ∙ ap (λ b. with_reset b s) (or_none s.reset)

kept_target : (sides : Sides) (gone : ℕ → Bool) (U : State) (t : Target) → ((d : ℕ) → sides.description d ≡ true → gone d ≡ false) →
    TargetIsOn sides true t → changed_target (socket_after_loss gone U) t ≡ t
kept_target sides gone U (to_object o) stay on = refl
kept_target sides gone U (to_socket s) stay on = ap to_socket (not_reset sides gone U s stay on)

pub without_keeps : (gone : ℕ → Bool) (U : State) → (without gone U).processes ≡ U.processes
unfolding without
without_keeps gone U = refl

-- a round in which none of that side goes
pub round_leaves : (sides : Sides) (S U : State) → AreApart sides S → Alike sides S U →
    ((d : ℕ) → sides.description d ≡ true → is_unreferenced U d ≡ false) → Alike sides S (drop_all U)
round_leaves sides S U apart alike stay = record {
  processes = λ p on. by_list p U (drop_all U) (without_keeps (is_unreferenced U) U) ∙ alike.processes p on;
  descriptions = λ d mine. description_at-without (is_unreferenced U) U d
      ∙ ap (λ b. if b then None else option_map (changed (socket_after_loss (is_unreferenced U) U)) (description_at U d)) (stay d mine)
      ∙ ap (λ x. option_map (changed (socket_after_loss (is_unreferenced U) U)) x) (alike.descriptions d mine)
      ∙ at_one d mine (description_at S d) refl;
}
  where
    at_one : (d : ℕ) → sides.description d ≡ true → (x : Option Description) → description_at S d ≡ x →
        option_map (changed (socket_after_loss (is_unreferenced U) U)) x ≡ x
    at_one d mine None is = refl
    at_one d mine (Some D) is = ap (λ (t : Target). Some (record D { target = t }))
        (kept_target sides (is_unreferenced U) U D.target stay
        (subst (λ b. TargetIsOn sides b D.target) mine (apart.descriptions d D is)))

round_alike : (sides : Sides) (S U : State) → AreApart sides S → AllReferred sides S → Alike sides S U → Alike sides S (drop_all U)
round_alike sides S U apart referred alike =
    round_leaves sides S U apart alike (λ d mine. none_goes sides S U d apart referred alike mine)

rounds_alike : (n : ℕ) (sides : Sides) (S U : State) → AreApart sides S → AllReferred sides S → Alike sides S U →
    Alike sides S (drop_rounds n U)
unfolding drop_rounds
rounds_alike zero sides S U apart referred alike = alike
rounds_alike (suc n) sides S U apart referred alike =
    go (rounds_alike n sides S (drop_all U) apart referred (round_alike sides S U apart referred alike)) (has_unreferenced U)
  where
    go : Alike sides S (drop_rounds n (drop_all U)) → (b : Bool) →
        Alike sides S (elim b as (λ _. State) [ true ↦ drop_rounds n (drop_all U) | false ↦ U ])
    go rest true = rest
    go rest false = alike

-- where what is open is the same
pub settled_alike : (sides : Sides) (S U : State) → AreApart sides S → AllReferred sides S → Alike sides S U → Alike sides S (settled U)
unfolding settled drop_unreferenced
settled_alike sides S U apart referred alike =
    let rounds = rounds_alike (length U.descriptions) sides S U apart referred alike in
    record {
      processes = λ p on. by_list p (drop_unreferenced U) (settled U) refl ∙ rounds.processes p on;
      descriptions = λ d mine. rounds.descriptions d mine;
    }
