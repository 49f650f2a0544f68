-- Nothing dangles, whatever calls were made, so not in the states of legal histories.
use Rattle.std.proofs.Common.{◌≡◌, ℕ, zero, suc, ◌+◌, ◌==◌, true, false, cond, List, [], ◌∷◌, length, map, sum_by, count_by, Option, Some}
use Rattle.std.proofs.Common.{None, refl, ap, sym, ◌∙◌, subst, arith}
use Rattle.std.specs.Prelude.{is_some, replicate}
use Rattle.std.specs.List.{slice_get, list_all}
use Rattle.std.proofs.lemmas.Bool.{ne_eqb, and_parts}
use Rattle.std.proofs.lemmas.List.Sums.{sum_by-cons}
use Rattle.ux_model.specs.Types.{Name, Addr, Request, Reply, Entry}
use Rattle.ux_model.specs.Places.{place}
use Rattle.ux_model.specs.Object.{View}
use Rattle.ux_model.specs.Description.{Description}
use Rattle.ux_model.specs.Process.{Process}
use Rattle.ux_model.specs.State.{State, description_at}
use Rattle.ux_model.specs.References.{table_refs, description_refs, is_open_of, refs, orefs}
use Rattle.ux_model.specs.Release.{settled}
use Rattle.ux_model.specs.Step.{Step}
use Rattle.ux_model.specs.Boot.{is_open, IsBootState}
use Rattle.ux_model.specs.Peers.{Paired}
use Rattle.ux_model.specs.History.{replay, Chain, no_call, another_call, IsLegal}
use Rattle.ux_model.specs.Invariants.{pends_at_all, IsWhole, WholeAfterAnyCalls, NothingDangles}
use Rattle.ux_model.proofs.Changes.Reaching.{may_change}
use Rattle.ux_model.proofs.Releasing.Settling.{numbers_from, paths_count, none_left, chain_settled}
use Rattle.ux_model.proofs.Lists.Induction.{IsKept, kept_throughout}
use Rattle.ux_model.proofs.Changes.Sound.{IsSound, name_in}
use Rattle.ux_model.proofs.Changes.Named.{entry_counts, right_counts, opening_counts, path_counts, exactly, named_open, described}
use Rattle.ux_model.proofs.Changes.Named.{pending_listed, at_most_one, waiting_socket, named_socket}
use Rattle.ux_model.proofs.Steps.Calls.{step_reached}
use Rattle.ux_model.proofs.Invariants.ReachedSound.{reached_sound}
use Rattle.ux_model.proofs.Invariants.ReleasedSound.{settled_sound}

-- ---- boot states

nothing_held : (d n : ℕ) → table_refs d (replicate n None) ≡ 0
nothing_held d zero = refl
nothing_held d (suc n) = nothing_held d n

all_empty : (d : ℕ) (Ps : List Process) → map (λ P. P.table) Ps ≡ map (λ P. replicate (length P.table) None) Ps →
    sum_by (λ P. table_refs d (Process.table P)) Ps ≡ 0
all_empty d [] h = refl
all_empty d (P ∷ Ps) h =
    let first : P.table ≡ replicate (length P.table) None = cc h in
    let others : map (λ P. Process.table P) Ps ≡ map (λ P. replicate (length (Process.table P)) None) Ps = cc h in
    let s = sum_by-cons (λ P. table_refs d (Process.table P)) P Ps in
    let none : table_refs d P.table ≡ 0 = ap (table_refs d) first ∙ nothing_held d (length P.table) in
    let rest = all_empty d Ps others in
    omega (arith, s, none, rest)

beyond : (k i : ℕ) (xs : List (Option View)) → list_all is_open xs ≡ true → is_some (place xs i) ≡ false →
    count_by (λ n. n == k + i) (numbers_from k xs) ≡ 0
beyond k i [] all gone = refl
beyond k zero (None ∷ xs) all gone = absurd (cc all)
beyond k zero (Some x ∷ xs) all gone = absurd (cc gone)
beyond k (suc i) (x ∷ xs) all gone =
    let s = sum_by-cons (λ n. cond (n == k + suc i) 1 0) k (numbers_from (k + 1) xs) in
    let none : cond {A = ℕ} (k == k + suc i) 1 0 ≡ 0 = ap (λ b. cond {A = ℕ} b 1 0) (ne_eqb k (k + suc i) (λ e. omega (arith, e))) in
    let e : (k + 1) + i ≡ k + suc i = omega arith in
    let rest : count_by (λ n. n == k + suc i) (numbers_from (k + 1) xs) ≡ 0 =
    subst (λ m. count_by (λ n. n == m) (numbers_from (k + 1) xs) ≡ 0) e
    (beyond (k + 1) i xs (and_parts (is_open x) (list_all is_open xs) all).1 gone) in
    omega (arith, s, none, rest)

open_at : (xs : List (Option View)) (o : ℕ) (view : View) → list_all is_open xs ≡ true → place xs o ≡ Some view → view.opened ≡ true
open_at [] o view all h = absurd (cc h)
open_at (x ∷ xs) zero view all h = sym (ap is_open h) ∙ (and_parts (is_open x) (list_all is_open xs) all).0
open_at (x ∷ xs) (suc o) view all h = open_at xs o view (and_parts (is_open x) (list_all is_open xs) all).1 h

boot_refs : (boot : State) → IsBootState boot → (d : ℕ) → refs boot d ≡ 0
unfolding refs
boot_refs boot boots d =
    let tables = all_empty d boot.processes boots.empty_tables in
    let none : sum_by (description_refs d) boot.descriptions ≡ 0 = ap (sum_by (description_refs d)) boots.no_descriptions in
    omega (arith, tables, none)

boot_orefs : (boot : State) → IsBootState boot → (o : ℕ) → is_some (place boot.objects o) ≡ false → orefs boot o ≡ 0
unfolding orefs
boot_orefs boot boots o gone =
    let e : 0 + o ≡ o = omega arith in
    let none : count_by (λ n. n == o) (numbers_from 0 boot.objects) ≡ 0 =
    subst (λ m. count_by (λ n. n == m) (numbers_from 0 boot.objects) ≡ 0) e (beyond 0 o boot.objects boots.open_objects gone) in
    let same = paths_count boot boots o in
    let nobody : count_by (is_open_of o) boot.descriptions ≡ 0 = ap (count_by (is_open_of o)) boots.no_descriptions in
    omega (arith, none, same, nobody)

-- where nothing is listed, nothing stands
no_names : (ds : List (Option Description)) (i : ℕ) (e : Name × ℕ) → slice_get [] i ≡ Some e →
    name_in (place ds e.1) ≡ Some (Addr.Abstract e.0)
no_names ds zero e h = absurd (cc h)
no_names ds (suc i) e h = absurd (cc h)

no_peers : Paired []
no_peers = record { returned = λ i p e there. absurd (cc e); known = λ i p e. absurd (cc e) }

boot_sound : (boot : State) → IsBootState boot → IsSound boot
boot_sound boot boots = record {
  held = record {
    no_description_dangles = λ d gone. boot_refs boot boots d;
    no_object_dangles = boot_orefs boot boots;
    all_open = λ o view h. open_at boot.objects o view boots.open_objects h;
    ends_wait = λ d. let none : pends_at_all d boot.descriptions ≡ 0 = ap (pends_at_all d) boots.no_descriptions in omega (arith, none);
    names_owned = λ i e h. no_names boot.descriptions i e (sym (ap (λ (ns : List (Name × ℕ)). slice_get ns i) boots.no_abstract_names) ∙ h);
  };
  paired = subst Paired (sym boots.no_descriptions) no_peers;
}

-- ---- over a chain of calls

step_sound : (S T : State) (p tag : ℕ) (request : Request) (reply : Reply) (gone : List ℕ) → IsSound S → Step S p tag request reply gone T →
    IsSound T
step_sound S T p tag request reply gone sound step =
    let r = step_reached S T p tag request reply gone step in
    subst IsSound (sym r.3) (settled_sound r.0 (reached_sound S (may_change request) r.0 sound r.1))

chain_sound : (boot T : State) → IsBootState boot → Chain boot T → IsSound T
chain_sound boot T boots no_call = boot_sound boot boots
chain_sound boot T boots (another_call {S = S} p tag request reply gone U before step) =
    step_sound S U p tag request reply gone (chain_sound boot S boots before) step

-- ---- over a history

abbrev HasSound : List Entry → State → Type 0
HasSound es S = IsSound S

pub keeps_sound : (boot : State) → IsKept boot HasSound
keeps_sound boot = record {
  at_boot = boot_sound boot;
  by_entry =
      λ es e S T sound step allowed. step_sound S T e.pid.0 (length es) e.request e.reply e.released sound step;
}

-- the entries are a chain of calls
legal_chain : (boot : State) (es : List Entry) → IsLegal boot es → Chain boot (replay boot es)
legal_chain boot es legal = kept_throughout boot (λ so_far S. Chain boot S) (record {
  at_boot = λ boots. no_call;
  by_entry = λ so_far e S T before step allowed. another_call e.pid.0 (length so_far) e.request e.reply e.released T before step;
}) es legal

-- ---- the laws

sound_whole : (S : State) → IsSound S → settled S ≡ S → IsWhole S
sound_whole S sound here = record {
  descriptions_referenced = λ d. exactly (is_some (description_at S d)) (refs S d) (sound.held.no_description_dangles d)
      ((none_left S here).descriptions d);
  objects_referenced = λ o. exactly (is_some (place S.objects o)) (orefs S o) (sound.held.no_object_dangles o)
      ((none_left S here).objects o);
  objects_open = sound.held.all_open;
  descriptors_lead = λ p n e h. described S sound.held e.description (entry_counts S p n e h);
  rights_lead = λ d i j r s m h waits brings. described S sound.held r (right_counts S d i j r s m h waits brings);
  descriptions_lead = λ d o D h t. named_open S sound.held o (opening_counts S d o D h t);
  paths_lead = λ i o path h. named_open S sound.held o (path_counts S i o path h);
  pending_ends_wait = λ d i e s h waits.
      let one = pending_listed S d i e s h waits in
      let all = sound.held.ends_wait e in
      waiting_socket (description_at S e) (omega (arith, one, all));
  pending_once = λ e.
      let all = sound.held.ends_wait e in
      let one = at_most_one (description_at S e) in
      omega (arith, all, one);
  connections_mutual = sound.paired;
  abstract_names_lead = λ i e h. named_socket (description_at S e.1) (Addr.Abstract e.0) (sound.held.names_owned i e h);
}

pub whole_after_any_calls : WholeAfterAnyCalls
whole_after_any_calls boot T boots calls = sound_whole T (chain_sound boot T boots calls) (chain_settled boot T boots calls)

pub nothing_dangles : NothingDangles
nothing_dangles boot es legal = whole_after_any_calls boot (replay boot es) legal.boots (legal_chain boot es legal)
