-- What the comments of a text expect, as far as a loop has come.
use Rattle.std.proofs.Common.{◌≡◌, ℕ, zero, suc, ◌+◌, ◌-◌, ◌<◌, ◌≤◌, ◌⊎◌, inl, inr, ◌&&◌, Bool, Bor, true, false, cond, not, None, map}
use Rattle.std.proofs.Common.{List, [], ◌∷◌, ◌++◌, length, refl, ap, sym, ◌∙◌, subst, append_assoc, arith}
use Rattle.std.specs.Prelude.{slice_index_or}
use Rattle.std.specs.List.{flat_map, range_with_len}
use Rattle.std.specs.Option.{is_some}
use Rattle.std.proofs.lemmas.Bool.{cases_lt}
use Rattle.std.proofs.lemmas.List.{append-nil, get_or-map, get_or_past, length-map}
use Rattle.ux_syntax.specs.declared.expectations.Expectation.{Expectation}
use Rattle.ux_syntax.specs.declared.fault.ScriptFault.{ScriptFault}
use Rattle.ux_syntax.specs.Reading.{item_at}
use Rattle.ux_syntax.specs.Expectations.{line_numbered, asks_call, expected_in, expecting, expectation_of, expectations, is_misplaced}
use Rattle.ux_syntax.specs.Expectations.{IsFaultOfPlace}

no_call : false ≡ asks_call []
unfolding asks_call item_at
no_call = refl

flat_more : {A : Type 0} (f : ℕ → List A) (a len n : ℕ) → a + len ≡ n
    → flat_map f (range_with_len a (suc len)) ≡ flat_map f (range_with_len a len) ++ f n
flat_more f a zero n at = let here : a ≡ n = omega (arith, at) in append-nil (f a) ∙ ap f here
flat_more f a (suc len) n at =
    ap (λ l. f a ++ l) (flat_more f (a + 1) len n (omega (arith, at)))
    ∙ sym (append_assoc (f a) (flat_map f (range_with_len (a + 1) len)) (f n))

flat_next : {A : Type 0} (f : ℕ → List A) (len : ℕ) → flat_map f (range_with_len 0 (len + 1)) ≡ flat_map f (range_with_len 0 len) ++ f len
flat_next f len = let next : len + 1 ≡ suc len = omega arith in rw next (flat_more f 0 len len (omega arith))

-- the first i lines were read: whether the last of them is a call's, and what was found
pub record HasCome (texts : List (List ℕ)) (i : ℕ) (behind : Bool) (found : List Expectation) : Type 0 where
  pub within : i ≤ length texts
  pub call : behind ≡ asks_call (line_numbered texts i)
  pub all : found ≡ flat_map (expectation_of texts) (range_with_len 0 i)
  pub placed : (m : ℕ) → m < i + 1 → is_misplaced texts m ≡ false

pub begun : (texts : List (List ℕ)) (found : List Expectation) → found ≡ [] → HasCome texts 0 false found
begun texts found e = record {
  within = omega arith;
  call = no_call;
  all = e;
  placed = λ m lt. let is : m ≡ 0 = omega (arith, lt) in subst (λ (k : ℕ). is_misplaced texts k ≡ false) (sym is) refl;
}

-- the line behind the first i
pub next_line : (texts : List (Bor (List ℕ))) (i : ℕ) (none : Bor (List ℕ)) → i < length texts
    → (line_numbered (map (λ l. l.now) texts) (i + 1) ≡ (slice_index_or texts i none).now) × (i + 1 ≤ length (map (λ l. l.now) texts))
next_line texts i none lt =
    let next : i + 1 ≡ suc i = omega arith in (
      rw next (get_or-map (λ (l : Bor (List ℕ)). l.now) texts i none [] lt),
      omega (arith, lt, length-map texts (λ (l : Bor (List ℕ)). l.now)),
    )

-- whether the line behind the first i is misplaced
placed_next : (texts : List (List ℕ)) (i : ℕ) (behind b : Bool) (text : List ℕ)
    → behind ≡ asks_call (line_numbered texts i) → line_numbered texts (i + 1) ≡ text
    → is_some (expected_in text) && not behind ≡ b → is_misplaced texts (i + 1) ≡ b
placed_next texts i behind b text call line p = let before : i + 1 - 1 ≡ i = omega arith in rw (before, line, ← call) p

pub has_more : (texts : List (List ℕ)) (i : ℕ) (behind next : Bool) (found more : List Expectation) (text : List ℕ)
    → HasCome texts i behind found → (line_numbered texts (i + 1) ≡ text) × (i + 1 ≤ length texts)
    → more ≡ found ++ cond behind (expecting i (expected_in text)) []
    → is_some (expected_in text) && not behind ≡ false → next ≡ asks_call text → HasCome texts (i + 1) next more
has_more texts i behind next found more text h line e p n = record {
  within = line.1;
  call = n ∙ ap asks_call (sym line.0);
  all = e ∙ rw (← line.0, h.call, h.all) (sym (flat_next (expectation_of texts) i));
  placed = λ m lt. elim (cases_lt m (i + 1)) [
    | inl low ↦ h.placed m low
    | inr high ↦
        let is : m ≡ i + 1 = omega (arith, lt, high) in
        subst (λ (k : ℕ). is_misplaced texts k ≡ false) (sym is) (placed_next texts i behind false text h.call line.0 p)
  ];
}

pub place_fault : (texts : List (List ℕ)) (i : ℕ) (behind : Bool) (found : List Expectation) (text : List ℕ) (f : ScriptFault)
    → HasCome texts i behind found → line_numbered texts (i + 1) ≡ text
    → (f ≡ ScriptFault.NoMemory) ⊎ ((f ≡ ScriptFault.BadLine (i + 1)) × (is_some (expected_in text) && not behind ≡ true))
    → IsFaultOfPlace texts f
place_fault texts i behind found text f h line (inl e) = inl e
place_fault texts i behind found text f h line (inr p) = inr (i + 1, p.0, placed_next texts i behind true text h.call line p.1, h.placed)

pub all_found : (texts : List (List ℕ)) (i : ℕ) (behind : Bool) (found : List Expectation)
    → HasCome texts i behind found → length texts ≤ i → found ≡ expectations texts
all_found texts i behind found h end = let is : length texts ≡ i = omega (arith, end, h.within) in rw is h.all

pub all_placed : (texts : List (List ℕ)) (i : ℕ) (behind : Bool) (found : List Expectation)
    → HasCome texts i behind found → length texts ≤ i → (n : ℕ) → is_misplaced texts n ≡ false
all_placed texts i behind found h end n = elim (cases_lt n (i + 1)) [
  | inl low ↦ h.placed n low
  | inr high ↦ rw (get_or_past ([] ∷ texts) n [] (omega (arith, high, end))) refl
]
