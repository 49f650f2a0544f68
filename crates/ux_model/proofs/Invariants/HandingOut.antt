-- What is handed out was held before the call: an object that the call changed is held open, so it stays.
use Rattle.std.proofs.Common.{◌≡◌, ⊎_elim, ℕ, zero, suc, ◌+◌, ◌<◌, ◌==◌, Bool, true, false, ◌&&◌, if◌then◌else◌, List, [], ◌∷◌, length, map}
use Rattle.std.proofs.Common.{Option, Some, None, refl, ap, sym, ◌∙◌, arith}
use Rattle.std.specs.Prelude.{is_some, filter, option_map, IsSomeAnd}
use Rattle.std.specs.List.{enumerate_from, AllByRecursion}
use Rattle.std.proofs.lemmas.Bool.{eqb-true, ne_eqb, and_right}
use Rattle.ux_model.specs.Places.{place}
use Rattle.ux_model.specs.Object.{View, closed}
use Rattle.ux_model.specs.State.{State, description_at, table_of}
use Rattle.ux_model.specs.References.{refs, orefs}
use Rattle.ux_model.specs.Release.{without, is_unreferenced, has_unreferenced, drop_all, drop_rounds, drop_unreferenced, released_objects}
use Rattle.ux_model.specs.Release.{settled}
use Rattle.ux_model.proofs.Releasing.Losses.{target_after_loss, description_after_loss}
use Rattle.ux_model.specs.Step.{outcome}
use Rattle.ux_model.specs.HandingOut.{IsHandedOut, HandsOutWhatWasHeld}
use Rattle.ux_model.proofs.Changes.Reaching.{may_change}
use Rattle.ux_model.proofs.Releasing.ReleaseLaws.{description_at-without}
use Rattle.ux_model.proofs.Releasing.Settling.{drop_keeps, object_left}
use Rattle.ux_model.proofs.Changes.Named.{entry_counts, opening_counts}
use Rattle.ux_model.proofs.Changes.HeldOpen.{IsHeldOpen, KeepsObjects}
use Rattle.ux_model.proofs.Steps.Calls.{each_obeys, chosen_objects}

-- ---- what is held open stays

same_tables : (G : ℕ → Bool) (S : State) (p : ℕ) → table_of (without G S) p ≡ table_of S p
unfolding without
same_tables G S p = refl

-- where its description does
held_without : (G : ℕ → Bool) (S : State) (o : ℕ) (held : IsHeldOpen S o) → G held.entry.description ≡ false → IsHeldOpen (without G S) o
held_without G S o held stays = record {
  process = held.process;
  number = held.number;
  entry = held.entry;
  description = description_after_loss G S held.description;
  named = ap (λ t. place t held.number) (same_tables G S held.process) ∙ held.named;
  there = description_at-without G S held.entry.description
      ∙ ap (λ b. if b then None else option_map (description_after_loss G S) (description_at S held.entry.description)) stays
      ∙ ap (option_map (description_after_loss G S)) held.there;
  leads = ap (target_after_loss G S) held.leads;
}

-- and the description has a reference
held_referenced : (S : State) (o : ℕ) (held : IsHeldOpen S o) → is_unreferenced S held.entry.description ≡ false
held_referenced S o held =
    let d : ℕ = held.entry.description in
    let counted = entry_counts S held.process held.number held.entry held.named in
    and_right (is_some (description_at S d)) (refs S d == 0) (ne_eqb (refs S d) 0 (λ z. omega (arith, z, counted)))

held_rounds : (n : ℕ) (S : State) (o : ℕ) → IsHeldOpen S o → IsHeldOpen (drop_rounds n S) o
unfolding drop_rounds
held_rounds zero S o held = held
held_rounds (suc n) S o held = go (has_unreferenced S)
    (held_rounds n (drop_all S) o (held_without (is_unreferenced S) S o held (held_referenced S o held)))
  where
    go : (b : Bool) → IsHeldOpen (drop_rounds n (drop_all S)) o →
        IsHeldOpen (elim b as (λ _. State) [ true ↦ drop_rounds n (drop_all S) | false ↦ S ]) o
    go true h = h
    go false h = held

-- so something leads to the object
pub held_led : (S : State) (o : ℕ) → IsHeldOpen S o → 0 < orefs (drop_unreferenced S) o
unfolding drop_unreferenced
held_led S o held = let h = held_rounds (length S.descriptions) S o held in
    opening_counts (drop_unreferenced S) h.entry.description o h.description h.there h.leads

-- what is left of an object when a call has ended
pub left_there : (U : State) (o : ℕ) → place (settled U).objects
    o ≡ (if is_some (place U.objects o) && (orefs (drop_unreferenced U) o == 0) then None else place U.objects o)
unfolding settled
left_there U o = object_left (drop_unreferenced U) o
    ∙ ap (λ (os : List (Option View)). if is_some (place os o) && (orefs (drop_unreferenced U) o == 0) then None else place os o)
    (drop_keeps U)

-- so what is held open stays
pub held_stays : (U : State) (o : ℕ) → IsHeldOpen U o → place (settled U).objects o ≡ place U.objects o
held_stays U o held =
    let led = held_led U o held in
    let some : (orefs (drop_unreferenced U) o == 0) ≡ false = ne_eqb (orefs (drop_unreferenced U) o) 0 (λ z. omega (arith, z, led)) in
    left_there U o ∙ ap (λ b. if b then None else place U.objects o)
    (and_right (is_some (place U.objects o)) (orefs (drop_unreferenced U) o == 0) some)

-- ---- the file objects that go

-- one that goes isn't held open, so it is as it was
handed : (S T : State) (o : ℕ) (view : View) → KeepsObjects S T → place (drop_unreferenced T).objects o ≡ Some view →
    (orefs (drop_unreferenced T) o == 0) ≡ true →
    IsHandedOut S (o, Some (closed view))
handed S T o view kept there none = ⊎_elim {C = IsHandedOut S (o, Some (closed view))}
    (λ same. is_there (place S.objects o) (sym same ∙ sym (ap (λ (os : List (Option View)). place os o) (drop_keeps T)) ∙ there))
    (λ held. let some = held_led T o held in let zero_left = eqb-true (orefs (drop_unreferenced T) o) 0 none in
    absurd (omega (arith, some, zero_left)))
    (kept o)
  where
    is_there : (x : Option View) → x ≡ Some view → IsSomeAnd x (λ was. Some (closed view) ≡ Some (closed was))
    is_there None h = absurd (cc h)
    is_there (Some was) h = let same : was ≡ view = cc h in ap (λ (v : View). Some (closed v)) (sym same)

abbrev closing : ℕ × Option View → ℕ × Option View
closing e = (e.0, option_map closed e.1)

-- what holds of each that goes holds of all that go, where the first place has number k
each_closed : (P : ℕ × Option View → Type 0) (f : ℕ → Bool) (k : ℕ) (xs : List (Option View)) →
    ((n i : ℕ) (view : View) → n ≡ k + i → place xs i ≡ Some view → f n ≡ true → P (n, Some (closed view))) →
    AllByRecursion P (map closing (filter (λ e. is_some e.1 && f e.0) (enumerate_from k xs)))
each_closed P f k [] each = tt
each_closed P f k (x ∷ xs) each =
    at_head x (f k) _ (λ view h b. each k 0 view (omega arith) h b)
    (each_closed P f (k + 1) xs (λ n i view e h b. each n (suc i) view (omega (arith, e)) h b))
  where
    at_head : (x : Option View) (b : Bool) (rest : List (ℕ × Option View)) →
        ((view : View) → x ≡ Some view → b ≡ true → P (k, Some (closed view))) →
        AllByRecursion P (map closing rest) → AllByRecursion P (map closing (if is_some x && b then (k, x) ∷ rest else rest))
    at_head None b rest here all = all
    at_head (Some view) true rest here all = (here view refl refl, all)
    at_head (Some view) false rest here all = all

all_handed : (S T : State) → KeepsObjects S T → AllByRecursion (IsHandedOut S) (released_objects T)
unfolding released_objects
all_handed S T kept = each_closed (IsHandedOut S) (λ o. orefs (drop_unreferenced T) o == 0) 0 (drop_unreferenced T).objects
    (λ o i view e h none. let same : o ≡ i = omega (arith, e) in
    handed S T o view kept (ap (place (drop_unreferenced T).objects) same ∙ h) none)

-- ---- the law

pub handed_out : HandsOutWhatWasHeld
handed_out S T p tag request reply chosen =
    all_handed S T (chosen_objects S T (may_change request) (outcome S p tag request) reply (each_obeys S p tag request) chosen)
