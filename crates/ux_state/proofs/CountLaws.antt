-- The kept counts where no description is left.
use Rattle.std.proofs.Common.{◌≡◌, ℕ, zero, suc, ◌+◌, Bool, List, [], ◌∷◌, length, map, Option, None, ◌∙◌, sym, ap, refl, arith}
use Rattle.std.specs.List.{count_by, sum_by}
use Rattle.std.proofs.lemmas.List.Sums.{sum_by-cons}
use Rattle.std.proofs.lemmas.List.{length-map}
use Rattle.ux_number_sets.specs.Sets.{IsEmptySet}
use Rattle.ux_state.proofs.Settling.{none_settled}
use Rattle.ux_model.specs.Types.{Mode, Name}
use Rattle.ux_model.specs.Names.{PathTarget}
use Rattle.ux_model.specs.Flags.{can_read, can_write}
use Rattle.ux_model.specs.Places.{place}
use Rattle.ux_model.specs.Object.{View}
use Rattle.ux_model.specs.Description.{Description}
use Rattle.ux_model.specs.Process.{Process}
use Rattle.ux_model.specs.FileObjects.{is_opening}
use Rattle.ux_model.specs.References.{table_refs, description_refs, refs}
use Rattle.ux_model.specs.Closing.{with_nothing_open}
use Rattle.ux_model.specs.Peers.{peer_in, Paired}
use Rattle.ux_model.specs.Flight.{flying_in, in_flight}
use Rattle.ux_slots.specs.Held.{Held, count_at}
use Rattle.ux_state.specs.declared.openings.Openings.{Openings}
use Rattle.ux_state.specs.Counting.{one_if, counts_of, Counted}
use Rattle.ux_state.specs.Counting as counts
use Rattle.ux_model.proofs.Counting.Owning.{owned_none}
use Rattle.ux_state.specs.Keeping.{state_of, IsState}
use Rattle.ux_state.specs.Links.{AreLinked, links_of}
use Rattle.ux_state.proofs.TableCounts.{none_open}

count_none : (allows : Mode → Bool) (o : ℕ) (ds : List (Option Description)) → count_by (is_opening allows o) (map (λ _. None) ds) ≡ 0
count_none allows o [] = refl
count_none allows o (D ∷ ds) = sum_by-cons (λ x. one_if (is_opening allows o x)) None (map (λ _. None) ds)
    ∙ ap (λ n. 0 + n) (count_none allows o ds)

counts_none : (openings : List Openings) (o : ℕ) → counts_of (map (λ _. counts.none_open) openings) o ≡ counts.none_open
counts_none [] o = refl
counts_none (x ∷ xs) zero = refl
counts_none (x ∷ xs) (suc o) = counts_none xs o

pub Counted-none : (ds : List (Option Description)) (openings : List Openings) →
    Counted (map (λ _. None) ds) (map (λ _. counts.none_open) openings)
unfolding Counted
Counted-none ds openings = record {
  readers = λ o. ap (λ (x : Openings). x.readers) (counts_none openings o) ∙ sym (count_none can_read o ds);
  writers = λ o. ap (λ (x : Openings). x.writers) (counts_none openings o) ∙ sym (count_none can_write o ds);
}

no_place : (ds : List (Option Description)) (i : ℕ) → place (map {B = Option Description} (λ _. None) ds) i ≡ None
no_place [] i = refl
no_place (x ∷ xs) zero = refl
no_place (x ∷ xs) (suc i) = no_place xs i

pub nobody : (ds : List (Option Description)) → Paired (map (λ _. None) ds)
nobody ds = record {
  returned = λ i p e there. absurd (cc (sym (ap peer_in (no_place ds i)) ∙ e));
  known =
      λ i p e. absurd (cc (sym (ap peer_in (no_place ds i)) ∙ e));
}

-- what nothing holds
held_by_none : (k : ℕ) (ds : List (Option Description)) → ◌≡◌ {A = ℕ} (sum_by (description_refs k) (map (λ _. None) ds)) 0
held_by_none k [] = refl
held_by_none k (D ∷ ds) = sum_by-cons (description_refs k) None (map (λ _. None) ds) ∙ ap (λ n. 0 + n) (held_by_none k ds)

none_flying : (u : ℕ) (ds : List (Option Description)) → ◌≡◌ {A = ℕ} (sum_by (flying_in u) (map (λ _. None) ds)) 0
none_flying u [] = refl
none_flying u (D ∷ ds) = sum_by-cons (flying_in u) None (map (λ _. None) ds) ∙ ap (λ n. 0 + n) (none_flying u ds)

nothing_open : (k : ℕ) (ps : List Process) → sum_by (λ P. table_refs k (Process.table P)) (map with_nothing_open ps) ≡ 0
nothing_open k [] = refl
nothing_open k (P ∷ ps) =
    let a = sum_by-cons (λ P. table_refs k (Process.table P)) (with_nothing_open P) (map with_nothing_open ps) in
    let b = none_open k P.table in
    let c = nothing_open k ps in
    omega (arith, a, b, c)

links_none : (ls : List ℕ) (o : ℕ) → links_of (map (λ _. 0) ls) o ≡ 0
links_none [] o = refl
links_none (l ∷ ls) zero = refl
links_none (l ∷ ls) (suc o) = links_none ls o

-- all descriptors, all descriptions and all names went
pub forgotten_kept : {ks ns : List Bool} {fs gs : ℕ → ℕ} (xs ys : List Openings) (ls ms : List ℕ) (H K : Held Description)
    (os : List (Option View)) (ps qs : List Process) (old new : List (Name × PathTarget)) (names left : List (Name × ℕ)) →
    IsState ks xs ls H fs (state_of os H ps old names) → qs ≡ map with_nothing_open ps → K.places ≡ map (λ _. None) H.places →
    ((k : ℕ) → count_at K k ≡ 0) → ys ≡ map (λ _. counts.none_open) xs →
    ms ≡ map (λ _. 0) ls → new ≡ [] → left ≡ [] → ((u : ℕ) → gs u ≡ 0) → IsEmptySet (length ks) ns →
    IsState ns ys ms K gs (state_of os K qs new left)
unfolding refs in_flight AreLinked
forgotten_kept {ks = ks} {ns = ns} xs ys ls ms H K os ps qs old new names left state cleared places counts counted unlinked no_paths
    no_names flights none = record {
      few_objects = state.few_objects;
      few_processes = let e = ap length cleared ∙ length-map ps with_nothing_open in let few = state.few_processes in omega (arith, e, few);
      one_each = rw (counted, length-map) state.one_each;
      link_each = rw (unlinked, length-map) state.link_each;
      opened = rw (places, counted) (Counted-none H.places xs);
      linked = rw no_paths (record { once = refl; counted = λ o. ap (λ ns. links_of ns o) unlinked ∙ links_none ls o });
      settled = none_settled ns ys ms os (length ks) none state.settled.long;
      counted = λ k.
          let a = counts k in
          let b : sum_by (description_refs k) K.places ≡ 0 = ap (sum_by (description_refs k)) places ∙ held_by_none k H.places in
          let c : sum_by (λ P. table_refs k (Process.table P)) qs ≡ 0 = ap (sum_by (λ P. table_refs k (Process.table P))) cleared
          ∙ nothing_open k ps in
          omega (arith, a, b, c);
      flying = λ u. flights u ∙ sym (ap (sum_by (flying_in u)) places ∙ none_flying u H.places);
      paired = rw places (nobody H.places);
      owned = rw no_names (owned_none K.places);
    }
