-- Lemmas on what is seen in the slots of all numbers.
use Rattle.std.proofs.Common.{◌≡◌, ◌≢◌, ℕ, ◌+◌, ◌<◌, ◌≤◌, List, ◌∷◌, [], ◌++◌, length, map, set, get_or, Option, Some, None, refl, sym, ap}
use Rattle.std.proofs.Common.{◌∙◌, inl, inr, arith}
use Rattle.std.specs.List.{range_with_len}
use Rattle.std.proofs.lemmas.Bool.{cases_lt, cases_eq, ne_eqb}
use Rattle.std.proofs.lemmas.List.{get_or_past, get_or-set_same, get_or-set_other, length-set}
use Rattle.std.proofs.lemmas.List.FromFn.{length-map-range_with_len, get_or-map-range_with_len, map-range_with_len_more, fill_by_all}
use Rattle.std.proofs.lemmas.Bool.Decides.{nat_tests}
use Rattle.ux_slots.specs.Held.{once}
use Rattle.ux_slots.specs.Kept.{Puts, seen, count_in}
use Rattle.ux_slots.specs.declared.slot.Slot.{Slot}

-- ---- lists made from a function

-- the function changes at one number
pub changed_at : {X : Type 0} (f g : ℕ → X) (n i : ℕ) (x : X) → ((q : ℕ) → q ≢ i → g q ≡ f q) → g i ≡ x →
    map g (range_with_len 0 n) ≡ set (map f (range_with_len 0 n)) i x
changed_at {X} f g n i x others here =
    let old : List X = map f (range_with_len 0 n) in
    let long : length old ≡ n = length-map-range_with_len f 0 n in
    sym (fill_by_all g (set old i x) n x (length-set old i x ∙ long) (λ k low. elim (cases_eq k i) [
      | inl e ↦ rw e (get_or-set_same old i x x (omega (arith, e, low, long)) ∙ sym here)
      | inr ne ↦ get_or-set_other old i k x x ne ∙ get_or-map-range_with_len f 0 n k k x low (omega arith) ∙ sym (others k ne)
    ]))

-- functions that agree below n have the same list
pub same_below : {X : Type 0} (f g : ℕ → X) (n : ℕ) (x : X) → ((q : ℕ) → q < n → g q ≡ f q) →
    map g (range_with_len 0 n) ≡ map f (range_with_len 0 n)
same_below f g n x same = sym (fill_by_all g (map f (range_with_len 0 n)) n x (length-map-range_with_len f 0 n)
    (λ k low. get_or-map-range_with_len f 0 n k k x low (omega arith) ∙ sym (same k low)))

-- ---- what is seen

pub seen_at : {T X : Type 0} (see : Option (Slot T) → X) (f : ℕ → Option (Slot T)) (next : ℕ) → ((d : ℕ) → next ≤ d → f d ≡ None) →
    (d : ℕ) → get_or (seen see f next) d (see None) ≡ see (f d)
seen_at see f next past d = elim (cases_lt d next) [
  | inl low ↦ get_or-map-range_with_len (λ q. see (f q)) 0 next d d (see None) low (omega arith)
  | inr high ↦ get_or_past (seen see f next) d (see None) (omega (arith, high, length-map-range_with_len (λ q. see (f q)) 0 next))
      ∙ sym (ap see (past d high))
]

module _ {T X : Type 0} (see : Option (Slot T) → X) (f g : ℕ → Option (Slot T)) where
  pub seen_put : (next i : ℕ) (o : Option (Slot T)) → Puts f g i o → seen see g next ≡ set (seen see f next) i (see o)
  seen_put next i o puts = changed_at (λ q. see (f q)) (λ q. see (g q)) next i (see o)
      (λ q other. ap see (puts.others q other)) (ap see puts.here)

  pub seen_same : (next : ℕ) → ((d : ℕ) → see (g d) ≡ see (f d)) → seen see g next ≡ seen see f next
  seen_same next same = same_below (λ q. see (f q)) (λ q. see (g q)) next (see None) (λ q low. same q)

  -- what is seen there stays
  pub seen_same_but : (next i : ℕ) (o : Option (Slot T)) → Puts f g i o → see o ≡ see (f i) → seen see g next ≡ seen see f next
  seen_same_but next i o puts same = seen_same next (λ d. elim (cases_eq d i) [
    | inl e ↦ rw e (ap see puts.here ∙ same)
    | inr other ↦ ap see (puts.others d other)
  ])

  pub seen_more : (next : ℕ) (o : Option (Slot T)) → Puts f g next o → seen see g (next + 1) ≡ seen see f next ++ see o ∷ []
  seen_more next o puts =
      map-range_with_len_more (λ q. see (g q)) 0 next next (omega arith)
      ∙ ap (λ x. seen see g next ++ x ∷ []) (ap see puts.here)
      ∙ ap (λ xs. xs ++ see o ∷ []) (same_below (λ q. see (f q)) (λ q. see (g q)) next (see None)
      (λ q low. let apart : q ≢ next = omega arith in ap see (puts.others q apart)))

-- ---- counts

module _ {T : Type 0} (f g : ℕ → Option (Slot T)) where
  -- one number is counted once more
  pub counted_more : (m n : ℕ) → ((d : ℕ) → m ≤ d → f d ≡ None) → ((d : ℕ) → n ≤ d → g d ≡ None) → (i : ℕ) (o : Option (Slot T))
      → Puts f g i o → count_in o ≡ count_in (f i) + 1 → (d : ℕ) →
      get_or (seen count_in g n) d 0 ≡ get_or (seen count_in f m) d 0 + once i d
  counted_more m n past later i o puts more d = elim (cases_eq i d) [
    | inl e ↦ rw (← e) (seen_at count_in g n later i ∙ ap count_in puts.here ∙ more ∙ sym (ap (λ k. k + 1) (seen_at count_in f m past i))
        ∙ ap (λ k. get_or (seen count_in f m) i 0 + k) (grind (arith, nat_tests)))
    | inr ne ↦
        let apart : d ≢ i = λ e. ne (sym e) in
        let none : once i d ≡ 0 = rw (ne_eqb i d ne) in
        omega (arith, none, seen_at count_in g n later d, ap count_in (puts.others d apart), seen_at count_in f m past d)
  ]

  -- one number is given, and counted once
  pub counted_new : (n : ℕ) → ((d : ℕ) → n ≤ d → f d ≡ None) → (s : Slot T) → s.count ≡ 1 → Puts f g n (Some s) → (d : ℕ) →
      get_or (seen count_in g (n + 1)) d 0 ≡ get_or (seen count_in f n) d 0 + once n d
  counted_new n past s one puts =
      counted_more n (n + 1) past (λ d high. let apart : d ≢ n = omega arith in puts.others d apart ∙ past d (omega arith)) n (Some s) puts
      (one ∙ sym (ap (λ o. count_in o + 1) (past n (omega arith))))

module _ {T : Type 0} (f g : ℕ → Option (Slot T)) where
  -- one number is counted once less
  pub counted_less : (n : ℕ) → ((d : ℕ) → n ≤ d → f d ≡ None) → ((d : ℕ) → n ≤ d → g d ≡ None) → (i : ℕ) (o : Option (Slot T))
      → Puts f g i o → count_in (f i) ≡ count_in o + 1 → (d : ℕ) →
      get_or (seen count_in f n) d 0 ≡ get_or (seen count_in g n) d 0 + once i d
  counted_less n past later i o puts less =
      counted_more g f n n later past i (f i) (record { here = refl; others = λ q other. sym (puts.others q other) })
      (less ∙ sym (ap (λ p. count_in p + 1) puts.here))
