-- Lemmas on what keeps a `Slots` in order, and which slot each number leads to then.
use Rattle.std.proofs.Common.{◌≡◌, ◌≢◌, ℕ, ◌+◌, ◌<◌, ◌≤◌, Option, Some, None, inl, inr, refl, sym, ap, ◌∙◌, subst, arith}
use Rattle.std.specs.Prelude.{IsSome, is_some, true, false, option_and_then, slice_index_or}
use Rattle.std.proofs.lemmas.Bool.{cases_eq}
use Rattle.std.proofs.lemmas.Option.{same_Some}
use Rattle.ux_slots.specs.Kept.{IsAmong, value_in, number_in, count_in, slot_of, seen, IsReleaseList, IsReleased, IsKept, Puts}
use Rattle.ux_model.specs.Places.{place}
use Rattle.ux_slots.proofs.Looking.{seen_at}
use Rattle.ux_slots.proofs.Releasing.{none_released, head_released, not_chained, released_apart, released_push}
use Rattle.ux_slots.specs.declared.slot.Slot.{Slot}

module _ {T : Type 0} where
  nothing_known : (slot : ℕ → Option (Slot T)) (key : ℕ → Option ℕ) (d : ℕ) → key d ≡ None → slot_of slot key d ≡ None
  nothing_known slot key d e = ap (option_and_then slot) e

  at_slot : (slot : ℕ → Option (Slot T)) (key : ℕ → Option ℕ) (d k : ℕ) → key d ≡ Some k → slot_of slot key d ≡ slot k
  at_slot slot key d k e = ap (option_and_then slot) e

  -- nothing has a number that is still to come
  pub none_past : (slot : ℕ → Option (Slot T)) (key : ℕ → Option ℕ) (next : ℕ) → ((d k : ℕ) → key d ≡ Some k → d < next) → (d : ℕ) →
      next ≤ d → slot_of slot key d ≡ None
  none_past slot key next young d past = go (key d) refl
    where
      go : (o : Option ℕ) → key d ≡ o → slot_of slot key d ≡ None
      go None e = nothing_known slot key d e
      go (Some k) e = absurd (omega (arith, past, young d k e))

  -- ---- what a look-up finds

  module _ (slot : ℕ → Option (Slot T)) (key : ℕ → Option ℕ) (next : ℕ) (head : Option ℕ) (kept : IsKept slot key next head) where
    pub place_is : (d : ℕ) → place (seen value_in (slot_of slot key) next) d ≡ value_in (slot_of slot key d)
    place_is d = seen_at value_in (slot_of slot key) next (none_past slot key next kept.young) d

    pub count_is : (d : ℕ) → slice_index_or (seen count_in (slot_of slot key) next) d 0 ≡ count_in (slot_of slot key d)
    count_is d = seen_at count_in (slot_of slot key) next (none_past slot key next kept.young) d

    -- a vacant slot is found by no number
    pub not_vacant : (d k : ℕ) → slot k ≡ None → key d ≡ Some k → ⊥
    not_vacant d k none e = let clash : None ≡ Some d = sym (ap number_in none) ∙ kept.found d k e in absurd (cc clash)

    -- the slot that a number leads to has it
    pub number_of_found : (d k : ℕ) (s : Slot T) → key d ≡ Some k → slot k ≡ Some s → s.number ≡ d
    number_of_found d k s e was = same_Some s.number d (sym (ap number_in was) ∙ kept.found d k e)

    pub slot_found : (d k : ℕ) → key d ≡ Some k → (s : Slot T) × (slot k ≡ Some s)
    slot_found d k e = go (slot k) refl
      where
        go : (o : Option (Slot T)) → slot k ≡ o → (s : Slot T) × (slot k ≡ Some s)
        go None none = absurd (not_vacant d k none e)
        go (Some s) was = (s, was)

    -- a number that leads to a slot has what stands there
    pub present : (d k : ℕ) (o : Option (Slot T)) → key d ≡ Some k → slot k ≡ o → slot_of slot key d ≡ o
    present d k o e f = at_slot slot key d k e ∙ f

    pub absent : (d : ℕ) → key d ≡ None → slot_of slot key d ≡ None
    absent d e = nothing_known slot key d e

    -- what is counted is there
    pub key_found : (d : ℕ) → 0 < count_in (slot_of slot key d) → IsSome (key d)
    key_found d some = go (key d) refl
      where
        go : (o : Option ℕ) → key d ≡ o → IsSome (key d)
        go None e = absurd (omega (arith, some, ap count_in (absent d e)))
        go (Some k) e = rw e

    -- what is counted isn't on the release list
    pub counted_apart : (d k : ℕ) (s : Slot T) → 0 < count_in (slot_of slot key d) → key d ≡ Some k → slot k ≡ Some s →
        IsAmong k kept.released.keys → ⊥
    counted_apart d k s some e was = not_chained slot head kept.released.keys k s kept.released.chain was
        (omega (arith, some, ap count_in (present d k (Some s) e was)))

    -- with an empty release list every value has a reference
    pub none_dead : head ≡ None → (d : ℕ) → IsSome (place (seen value_in (slot_of slot key) next) d) →
        0 < slice_index_or (seen count_in (slot_of slot key) next) d 0
    none_dead empty d there = go (key d) refl
      where
        go : (o : Option ℕ) → key d ≡ o → 0 < slice_index_or (seen count_in (slot_of slot key) next) d 0
        go None e = let clash : false ≡ true = sym (ap is_some (place_is d ∙ ap value_in (absent d e))) ∙ there in absurd (cc clash)
        go (Some k) e =
            let found = slot_found d k e in
            let busy : found.0.count ≢ 0 = none_released slot (subst (IsReleaseList slot) empty kept.released) k found.0 found.1 in
            omega (arith, busy, count_is d, ap count_in (present d k (Some found.0) e found.1))

    -- the slot at the head is found by its number, and has count 0
    pub head_dead : (k : ℕ) (s : Slot T) → head ≡ Some k → slot k ≡ Some s → (slot_of slot key s.number ≡ Some s) × (s.count ≡ 0)
    head_dead k s first was =
        let there = head_released slot head k kept.released first in
        let same : s ≡ there.0 = same_Some s there.0 (sym was ∙ there.1.0) in
        (present s.number k (Some s) (kept.indexed k s was) was, ap (λ (t : Slot T). t.count) same ∙ there.1.1)

    -- with a head some value has none
    pub some_dead : (k : ℕ) (s : Slot T) → head ≡ Some k → slot k ≡ Some s
        → ((d : ℕ) → IsSome (place (seen value_in (slot_of slot key) next) d) →
        0 < slice_index_or (seen count_in (slot_of slot key) next) d 0) → ⊥
    some_dead k s first was none =
        let dead = head_dead k s first was in
        let there : IsSome (place (seen value_in (slot_of slot key) next) s.number) = ap is_some (place_is s.number ∙ ap value_in dead.0) in
        absurd (omega (arith, none s.number there, count_is s.number, ap count_in dead.0, dead.1))

  -- ---- the index has the same keys, in another order

  pub reordered_kept : (slot : ℕ → Option (Slot T)) (key index : ℕ → Option ℕ) (next : ℕ) (head : Option ℕ) → IsKept slot key next head →
      ((q : ℕ) → index q ≡ key q) → IsKept slot index next head
  reordered_kept slot key index next head kept same = record {
    found = λ d k e. kept.found d k (sym (same d) ∙ e);
    indexed = λ k s e. same s.number ∙ kept.indexed k s e;
    young = λ d k e. kept.young d k (sym (same d) ∙ e);
    released = kept.released;
  }

  pub reordered_slot_of : (slot : ℕ → Option (Slot T)) (key index : ℕ → Option ℕ) → ((q : ℕ) → index q ≡ key q) → (d : ℕ) →
      slot_of slot index d ≡ slot_of slot key d
  reordered_slot_of slot key index same d = ap (option_and_then slot) (same d)

  -- ---- a slot changes, and keeps its number

  module _ (old new : ℕ → Option (Slot T)) (key : ℕ → Option ℕ) (next : ℕ) (head : Option ℕ) (i k : ℕ) (s t : Slot T)
      (kept : IsKept old key next head) (leads : key i ≡ Some k) (was : old k ≡ Some s) (puts : Puts old new k (Some t)) where
    pub changed_kept : (later : Option ℕ) → t.number ≡ s.number → IsReleaseList new later → IsKept new key next later
    changed_kept later same released = record {
      found = λ d q e. elim (cases_eq q k) [
        | inl here ↦ ap number_in (ap new here ∙ puts.here) ∙ (ap Some same ∙ (sym (ap number_in (ap old here ∙ was)) ∙ kept.found d q e))
        | inr other ↦ ap number_in (puts.others q other) ∙ kept.found d q e
      ];
      indexed = λ q u e. elim (cases_eq q k) [
        | inl here ↦
            let is_new : u ≡ t = same_Some u t (sym e ∙ (ap new here ∙ puts.here)) in
            ap key (ap (λ (x : Slot T). x.number) is_new ∙ same) ∙ (kept.indexed k s was ∙ ap Some (sym here))
        | inr other ↦ kept.indexed q u (sym (puts.others q other) ∙ e)
      ];
      young = kept.young;
      released = released;
    }

    -- a slot that has references and still has some
    pub counted_kept : 0 < count_in (slot_of old key i) → t.number ≡ s.number → t.count ≢ 0 → IsKept new key next head
    counted_kept some same busy = changed_kept head same
        (released_apart old new head k (Some t) kept.released (counted_apart old key next head kept i k s some leads was) puts
        (λ u e none. busy (ap (λ (x : Slot T). x.count) (same_Some t u e) ∙ none)))

    -- a slot that has references loses the last
    pub uncounted_kept : 0 < count_in (slot_of old key i) → t.number ≡ s.number → t.count ≡ 0 → t.next ≡ head → IsKept new key next (Some k)
    uncounted_kept some same none link = changed_kept (Some k) same
        (released_push old new head k t kept.released (counted_apart old key next head kept i k s some leads was) puts none link)

    pub changed_puts : Puts (slot_of old key) (slot_of new key) i (Some t)
    changed_puts = record { here = at_slot new key i k leads ∙ puts.here; others = λ d other. go d other (key d) refl }
      where
        go : (d : ℕ) → d ≢ i → (o : Option ℕ) → key d ≡ o → slot_of new key d ≡ slot_of old key d
        go d other None e = nothing_known new key d e ∙ sym (nothing_known old key d e)
        go d other (Some q) e =
            let apart : q ≢ k = λ same. other (sym (number_of_found old key next head kept d k s (e ∙ ap Some same) was)
            ∙ number_of_found old key next head kept i k s leads was) in
            at_slot new key d q e ∙ puts.others q apart ∙ sym (at_slot old key d q e)

  -- ---- a value is put in

  module _ (old new : ℕ → Option (Slot T)) (key index : ℕ → Option ℕ) (next : ℕ) (head : Option ℕ) (k : ℕ) (t : Slot T)
      (kept : IsKept old key next head) (was : old k ≡ None) (puts : Puts old new k (Some t)) (indexes : Puts key index next (Some k)) where
    pub inserted_kept : t.number ≡ next → IsReleaseList new head → IsKept new index (next + 1) head
    inserted_kept same released = record {
      found = λ d q e. elim (cases_eq d next) [
        | inl here ↦
            let is_new : q ≡ k = same_Some q k (sym e ∙ (ap index here ∙ indexes.here)) in
            ap number_in (ap new is_new ∙ puts.here) ∙ ap Some (same ∙ sym here)
        | inr other ↦
            let leads : key d ≡ Some q = sym (indexes.others d other) ∙ e in
            let apart : q ≢ k = λ here. not_vacant old key next head kept d k was (leads ∙ ap Some here) in
            ap number_in (puts.others q apart) ∙ kept.found d q leads
      ];
      indexed = λ q u e. elim (cases_eq q k) [
        | inl here ↦
            let is_new : u ≡ t = same_Some u t (sym e ∙ (ap new here ∙ puts.here)) in
            ap index (ap (λ (x : Slot T). x.number) is_new ∙ same) ∙ (indexes.here ∙ ap Some (sym here))
        | inr other ↦
            let there : key u.number ≡ Some q = kept.indexed q u (sym (puts.others q other) ∙ e) in
            let low : u.number < next = kept.young u.number q there in
            let apart : u.number ≢ next = omega arith in
            indexes.others u.number apart ∙ there
      ];
      young = λ d q e. elim (cases_eq d next) [
        | inl here ↦ omega (arith, here)
        | inr other ↦ let low : d < next = kept.young d q (sym (indexes.others d other) ∙ e) in omega arith
      ];
      released = released;
    }

    pub inserted_puts : Puts (slot_of old key) (slot_of new index) next (Some t)
    inserted_puts = record { here = at_slot new index next k indexes.here ∙ puts.here; others = λ d other. go d other (key d) refl }
      where
        go : (d : ℕ) → d ≢ next → (o : Option ℕ) → key d ≡ o → slot_of new index d ≡ slot_of old key d
        go d other None e = nothing_known new index d (indexes.others d other ∙ e) ∙ sym (nothing_known old key d e)
        go d other (Some q) e =
            let apart : q ≢ k = λ same. not_vacant old key next head kept d k was (e ∙ ap Some same) in
            at_slot new index d q (indexes.others d other ∙ e) ∙ puts.others q apart ∙ sym (at_slot old key d q e)

  -- ---- a value is taken out

  module _ (old new : ℕ → Option (Slot T)) (key index : ℕ → Option ℕ) (next : ℕ) (head : Option ℕ) (k : ℕ) (s : Slot T)
      (kept : IsKept old key next head) (was : old k ≡ Some s) (puts : Puts old new k None) (indexes : Puts key index s.number None) where
    led_elsewhere : (d q : ℕ) → d ≢ s.number → key d ≡ Some q → q ≢ k
    led_elsewhere d q other leads same = other (sym (number_of_found old key next head kept d k s (leads ∙ ap Some same) was))

    forgotten : (d q : ℕ) → index d ≡ Some q → d ≢ s.number
    forgotten d q e same = let clash : None ≡ Some q = sym (ap index same ∙ indexes.here) ∙ e in absurd (cc clash)

    pub taken_kept : (later : Option ℕ) → IsReleaseList new later → IsKept new index next later
    taken_kept later released = record {
      found = λ d q e.
          let other : d ≢ s.number = forgotten d q e in
          let leads : key d ≡ Some q = sym (indexes.others d other) ∙ e in
          ap number_in (puts.others q (led_elsewhere d q other leads)) ∙ kept.found d q leads;
      indexed = λ q u e.
          let apart : q ≢ k = λ here. let clash : None ≡ Some u = sym (ap new here ∙ puts.here) ∙ e in absurd (cc clash) in
          let leads : key u.number ≡ Some q = kept.indexed q u (sym (puts.others q apart) ∙ e) in
          let other : u.number ≢ s.number = λ same. apart (same_Some q k (sym leads ∙ (ap key same ∙ kept.indexed k s was))) in
          indexes.others u.number other ∙ leads;
      young = λ d q e. kept.young d q (sym (indexes.others d (forgotten d q e)) ∙ e);
      released = released;
    }

    pub taken_puts : Puts (slot_of old key) (slot_of new index) s.number None
    taken_puts = record { here = nothing_known new index s.number indexes.here; others = λ d other. go d other (key d) refl }
      where
        go : (d : ℕ) → d ≢ s.number → (o : Option ℕ) → key d ≡ o → slot_of new index d ≡ slot_of old key d
        go d other None e = nothing_known new index d (indexes.others d other ∙ e) ∙ sym (nothing_known old key d e)
        go d other (Some q) e = at_slot new index d q (indexes.others d other ∙ e) ∙ puts.others q (led_elsewhere d q other e)
            ∙ sym (at_slot old key d q e)

  -- ---- all are released

  module _ (old new : ℕ → Option (Slot T)) (key : ℕ → Option ℕ) (next : ℕ) (head later : Option ℕ) (kept : IsKept old key next head)
      (r : IsReleased old new later) where
    pub released_kept : IsKept new key next later
    released_kept = record {
      found = λ d k e. r.numbers k ∙ kept.found d k e;
      indexed = λ k s e. go k s e (old k) refl;
      young = kept.young;
      released = r.released;
    }
      where
        go : (k : ℕ) (s : Slot T) → new k ≡ Some s → (o : Option (Slot T)) → old k ≡ o → key s.number ≡ Some k
        go k s e None f = let clash : Some s.number ≡ None = sym (ap number_in e) ∙ r.numbers k ∙ ap number_in f in absurd (cc clash)
        go k s e (Some u) f =
            let same : s.number ≡ u.number = same_Some s.number u.number (sym (ap number_in e) ∙ r.numbers k ∙ ap number_in f) in
            ap key same ∙ kept.indexed k u f

    pub released_values : (d : ℕ) → value_in (slot_of new key d) ≡ value_in (slot_of old key d)
    released_values d = go (key d) refl
      where
        go : (o : Option ℕ) → key d ≡ o → value_in (slot_of new key d) ≡ value_in (slot_of old key d)
        go None e = ap value_in (nothing_known new key d e ∙ sym (nothing_known old key d e))
        go (Some k) e = ap value_in (at_slot new key d k e) ∙ r.values k ∙ sym (ap value_in (at_slot old key d k e))

    pub released_counts : (d : ℕ) → count_in (slot_of new key d) ≡ 0
    released_counts d = go (key d) refl
      where
        go : (o : Option ℕ) → key d ≡ o → count_in (slot_of new key d) ≡ 0
        go None e = ap count_in (nothing_known new key d e)
        go (Some k) e = ap count_in (at_slot new key d k e) ∙ r.counts k
