-- Lemmas on a walk over all slots, each of which is put on a new release list.
use Rattle.std.proofs.Common.{◌≡◌, ◌≢◌, ℕ, ◌+◌, ◌<◌, ◌≤◌, [], Option, Some, None, inl, inr, refl, sym, ap, ◌∙◌, subst, arith}
use Rattle.std.specs.Prelude.{nat_lt, is_some, if◌then◌else◌}
use Rattle.std.proofs.lemmas.Bool.{cases_eq, cases_lt, lt-ltb, le-ltb}
use Rattle.ux_slots.specs.Kept.{value_in, number_in, count_in, put_in_front, IsReleaseList, IsReleased, Puts}
use Rattle.ux_slots.proofs.Releasing.{chain_kept, vacant_not_chained, released_push}
use Rattle.ux_slots.specs.declared.slot.Slot.{Slot}

module _ {T : Type 0} where
  -- the slots of the keys below k
  abbrev pub slots_below : ℕ → (ℕ → Option (Slot T)) → ℕ → Option (Slot T)
  slots_below k slot q = if nat_lt q k then slot q else None

  -- the slots below k were released, and have a release list
  pub record AreReleasedBelow (k : ℕ) (old new : ℕ → Option (Slot T)) (head : Option ℕ) : Type 0 where
    pub numbers : (q : ℕ) → number_in (new q) ≡ number_in (old q)
    pub values : (q : ℕ) → value_in (new q) ≡ value_in (old q)
    pub counts : (q : ℕ) → q < k → count_in (new q) ≡ 0
    pub released : IsReleaseList (slots_below k new) head

  below : (k q : ℕ) (slot : ℕ → Option (Slot T)) → q < k → slots_below k slot q ≡ slot q
  below k q slot low = rw (lt-ltb q k low) refl

  not_below : (k q : ℕ) (slot : ℕ → Option (Slot T)) → k ≤ q → slots_below k slot q ≡ None
  not_below k q slot high = rw (le-ltb q k high) refl

  -- a release list of the same slots
  pub released_alike : (old new : ℕ → Option (Slot T)) (head : Option ℕ) → ((q : ℕ) → new q ≡ old q) → IsReleaseList old head →
      IsReleaseList new head
  released_alike old new head same r = record {
    keys = r.keys;
    chain = chain_kept old new head r.keys (λ q s among e. (s, (same q ∙ e, (refl, refl)))) r.chain;
    once = r.once;
    all = λ k s e none. r.all k s (sym (same k) ∙ e) none;
  }

  pub none_released_below : (slot : ℕ → Option (Slot T)) → AreReleasedBelow 0 slot slot None
  none_released_below slot = record {
    numbers = λ q. refl;
    values = λ q. refl;
    counts = λ q low. absurd (omega (arith, low));
    released = record {
      keys = [];
      chain = refl;
      once = tt;
      all = λ q s e none. let clash : None ≡ Some s = sym (not_below 0 q slot (omega arith)) ∙ e in absurd (cc clash);
    };
  }

  -- the slot of one key more
  pub released_more : (k : ℕ) (old now new : ℕ → Option (Slot T)) (head later : Option ℕ) → AreReleasedBelow k old now head
      → Puts now new k (put_in_front head (now k)) → later ≡ (if is_some (now k) then Some k else head) →
      AreReleasedBelow (k + 1) old new later
  released_more k old now new head later r puts first = record {
    numbers = λ q. elim (cases_eq q k) [
      | inl here ↦ rw here (ap number_in puts.here ∙ same_number (now k) ∙ r.numbers k)
      | inr other ↦ ap number_in (puts.others q other) ∙ r.numbers q
    ];
    values = λ q. elim (cases_eq q k) [
      | inl here ↦ rw here (ap value_in puts.here ∙ same_value (now k) ∙ r.values k)
      | inr other ↦ ap value_in (puts.others q other) ∙ r.values q
    ];
    counts = λ q low. elim (cases_eq q k) [
      | inl here ↦ rw here (ap count_in puts.here ∙ no_count (now k))
      | inr other ↦ ap count_in (puts.others q other) ∙ r.counts q (omega arith)
    ];
    released = go (now k) refl;
  }
    where
      same_number : (o : Option (Slot T)) → number_in (put_in_front head o) ≡ number_in o
      same_number None = refl
      same_number (Some s) = refl

      same_value : (o : Option (Slot T)) → value_in (put_in_front head o) ≡ value_in o
      same_value None = refl
      same_value (Some s) = refl

      no_count : (o : Option (Slot T)) → count_in (put_in_front head o) ≡ 0
      no_count None = refl
      no_count (Some s) = refl

      others : (q : ℕ) → q ≢ k → slots_below (k + 1) new q ≡ slots_below k now q
      others q other = elim (cases_lt q k) [
        | inl low ↦ below (k + 1) q new (omega arith) ∙ puts.others q other ∙ sym (below k q now low)
        | inr high ↦ not_below (k + 1) q new (omega arith) ∙ sym (not_below k q now high)
      ]

      go : (o : Option (Slot T)) → now k ≡ o → IsReleaseList (slots_below (k + 1) new) later
      go None e =
          let same : (q : ℕ) → slots_below (k + 1) new q ≡ slots_below k now q = λ q. elim (cases_eq q k) [
            | inl here ↦ rw here (below (k + 1) k new (omega arith) ∙ puts.here ∙ ap (put_in_front head) e
                ∙ sym (not_below k k now (omega arith)))
            | inr other ↦ others q other
          ] in
          let stays : later ≡ head = first ∙ ap (λ (o : Option (Slot T)). if is_some o then Some k else head) e in
          subst (IsReleaseList (slots_below (k + 1) new)) (sym stays)
          (released_alike (slots_below k now) (slots_below (k + 1) new) head same r.released)
      go (Some s) e =
          let t : Slot T = record s { count = 0; next = head } in
          let at_front : later ≡ Some k = first ∙ ap (λ (o : Option (Slot T)). if is_some o then Some k else head) e in
          let put : Puts (slots_below k now) (slots_below (k + 1) new) k (Some t) =
          record { here = below (k + 1) k new (omega arith) ∙ puts.here ∙ ap (put_in_front head) e; others = others } in
          subst (IsReleaseList (slots_below (k + 1) new)) (sym at_front)
          (released_push (slots_below k now) (slots_below (k + 1) new) head k t r.released
          (vacant_not_chained (slots_below k now) head r.released.keys k r.released.chain (not_below k k now (omega arith))) put refl refl)

  -- all slots have keys below n
  pub all_released : (n : ℕ) (old new : ℕ → Option (Slot T)) (head : Option ℕ) → AreReleasedBelow n old new head →
      ((q : ℕ) → n ≤ q → new q ≡ None) → IsReleased old new head
  all_released n old new head r past = record {
    numbers = r.numbers;
    values = r.values;
    counts = λ q. elim (cases_lt q n) [ inl low ↦ r.counts q low | inr high ↦ ap count_in (past q high) ];
    released = released_alike (slots_below n new) new head
        (λ q. elim (cases_lt q n) [ inl low ↦ sym (below n q new low) | inr high ↦ past q high ∙ sym (not_below n q new high) ]) r.released;
  }
