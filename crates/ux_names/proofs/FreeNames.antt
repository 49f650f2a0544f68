-- Lemmas on the names that autobind gives.
use Rattle.std.proofs.Common.{◌≡◌, ◌≢◌, ℕ, zero, suc, ◌+◌, ◌*◌, ◌/◌, ◌%◌, ◌<◌, ◌≤◌, Bool, true, false, not, List, [], ◌∷◌, ◌++◌, length}
use Rattle.std.proofs.Common.{Option, Some, None, inl, inr, refl, ap, sym, ◌∙◌, arith}
use Rattle.std.specs.Prelude.{is_some, is_none, option_map}
use Rattle.std.proofs.lemmas.Bool.{cases_eq, cases_lt, lt-ltb, le-ltb}
use Rattle.ux_model.specs.Types.{Name}
use Rattle.ux_model.specs.Limits.{autobind_names}
use Rattle.ux_model.specs.Names.{named, without_name, hex_digit, autobind_name, lowest_from, free_name}
use Rattle.ux_number_sets.specs.Sets.{has_number, IsEmptySet, IsFirstFree, FindsFirstFree, PutsNumber}
use Rattle.ux_names.specs.NumbersInUse.{AreInUse, PutsName}
use Rattle.ux_names.proofs.NameLaws.{same_name_tells, named_appended, other_appended, named_without, other_without}

-- ---- the lowest number that passes a test

passes_here : (test : ℕ → Bool) (start more : ℕ) (b : Bool) → test start ≡ b →
    lowest_from test start (suc more) ≡ elim b [ true ↦ Some start | false ↦ lowest_from test (suc start) more ]
passes_here test start more b e = ap (λ (t : Bool). elim t [ true ↦ Some start | false ↦ lowest_from test (suc start) more ]) e

lowest_found : (test : ℕ → Bool) (start more n : ℕ) → start ≤ n → n < start + more → test n ≡ true →
    ((i : ℕ) → start ≤ i → i < n → test i ≡ false) → lowest_from test start more ≡ Some n
lowest_found test start zero n low high passes before = absurd (omega (arith, low, high))
lowest_found test start (suc more) n low high passes before = elim (cases_eq start n) [
  | inl here ↦ passes_here test start more true (ap test here ∙ passes) ∙ ap (λ (k : ℕ). Some k) here
  | inr other ↦ passes_here test start more false (before start (omega arith) (omega (arith, low, other)))
      ∙ lowest_found test (suc start) more n (omega (arith, low, other)) (omega (arith, high)) passes
      (λ i after small. before i (omega (arith, after)) small)
]

none_found : (test : ℕ → Bool) (start more : ℕ) → ((i : ℕ) → start ≤ i → i < start + more → test i ≡ false) →
    lowest_from test start more ≡ None
none_found test start zero fails = refl
none_found test start (suc more) fails =
    passes_here test start more false (fails start (omega arith) (omega arith))
    ∙ none_found test (suc start) more (λ i after small. fails i (omega (arith, after)) (omega (arith, small)))

is_none_from : {X : Type 0} (o : Option X) (b : Bool) → is_some o ≡ b → is_none o ≡ not b
is_none_from None b e = ap not e
is_none_from (Some x) b e = ap not e

free_name_at : (names : List (Name × ℕ)) (numbers : List Bool) (n : ℕ) → AreInUse names numbers → IsFirstFree numbers 0 n →
    free_name names ≡ Some (autobind_name n)
unfolding free_name
free_name_at names numbers n in_use first =
    let inside : n < autobind_names = omega (arith, first.within, in_use.all) in
    ap (option_map autobind_name) (lowest_found
    (λ i. is_none (named (autobind_name i) names)) 0 autobind_names n (omega arith) (omega (arith, inside))
    (is_none_from (named (autobind_name n) names) false (sym (in_use.agrees n inside) ∙ first.free))
    (λ i after low. is_none_from (named (autobind_name i) names) true
    (sym (in_use.agrees i (omega (arith, low, inside))) ∙ first.before i after low)))

pub first_unused : (names : List (Name × ℕ)) (numbers : List Bool) (n : ℕ) → AreInUse names numbers → IsFirstFree numbers 0 n →
    named (autobind_name n) names ≡ None
first_unused names numbers n in_use first =
    none_from (named (autobind_name n) names) (sym (in_use.agrees n (omega (arith, first.within, in_use.all))) ∙ first.free)
  where
    none_from : (o : Option ℕ) → is_some o ≡ false → o ≡ None
    none_from None e = refl
    none_from (Some d) e = absurd (cc e)

no_free_name : (names : List (Name × ℕ)) (numbers : List Bool) → AreInUse names numbers →
    ((i : ℕ) → 0 ≤ i → i < length numbers → has_number numbers i ≡ true) → free_name names ≡ None
unfolding free_name
no_free_name names numbers in_use full =
    ap (option_map autobind_name) (none_found (λ i. is_none (named (autobind_name i) names)) 0 autobind_names
    (λ i after low. is_none_from (named (autobind_name i) names) true
    (sym (in_use.agrees i (omega (arith, low))) ∙ full i after (omega (arith, low, in_use.all)))))

-- what a search for a number finds is the name that is free
pub free_name_found : (names : List (Name × ℕ)) (numbers : List Bool) (answer : Option ℕ) → AreInUse names numbers →
    FindsFirstFree numbers 0 answer → option_map autobind_name answer ≡ free_name names
free_name_found names numbers None in_use full = sym (no_free_name names numbers in_use full)
free_name_found names numbers (Some n) in_use first = sym (free_name_at names numbers n in_use first)

-- ---- numbers have names of their own

digit_apart : (a b : ℕ) → a < 16 → b < 16 → hex_digit a ≡ hex_digit b → a ≡ b
digit_apart a b small low same = elim (cases_lt a 10) [
  | inl decimal ↦ elim (cases_lt b 10) [
    | inl also ↦ let e : 48 + a ≡ 48 + b = rw (lt-ltb a 10 decimal, lt-ltb b 10 also) at same in omega (arith, e)
    | inr beyond ↦ let e : 48 + a ≡ 87 + b = rw (lt-ltb a 10 decimal, le-ltb b 10 beyond) at same in
        absurd (omega (arith, e, decimal, beyond))
  ]
  | inr above ↦ elim (cases_lt b 10) [
    | inl also ↦ let e : 87 + a ≡ 48 + b = rw (le-ltb a 10 above, lt-ltb b 10 also) at same in absurd (omega (arith, e, above, also))
    | inr beyond ↦ let e : 87 + a ≡ 87 + b = rw (le-ltb a 10 above, le-ltb b 10 beyond) at same in omega (arith, e)
  ]
]

-- the number that five digits spell
number_from : (n : ℕ) → n < autobind_names →
    n ≡ 65536 * (n / 65536 % 16) + 4096 * (n / 4096 % 16) + 256 * (n / 256 % 16) + 16 * (n / 16 % 16) + n % 16
number_from n small =
    let a : n / 4096 ≡ 16 * (n / 65536) + n / 4096 % 16 = omega arith in
    let b : n / 256 ≡ 16 * (n / 4096) + n / 256 % 16 = omega arith in
    let c : n / 16 ≡ 16 * (n / 256) + n / 16 % 16 = omega arith in
    let d : n / 65536 % 16 ≡ n / 65536 = omega arith in
    omega (arith, a, b, c, d)

name_apart : (n m : ℕ) → n < autobind_names → m < autobind_names → autobind_name n ≡ autobind_name m → n ≡ m
name_apart n m small low same =
    let a : n / 65536 % 16 ≡ m / 65536 % 16 = digit_apart (n / 65536 % 16) (m / 65536 % 16) (omega arith) (omega arith) (cc same) in
    let b : n / 4096 % 16 ≡ m / 4096 % 16 = digit_apart (n / 4096 % 16) (m / 4096 % 16) (omega arith) (omega arith) (cc same) in
    let c : n / 256 % 16 ≡ m / 256 % 16 = digit_apart (n / 256 % 16) (m / 256 % 16) (omega arith) (omega arith) (cc same) in
    let d : n / 16 % 16 ≡ m / 16 % 16 = digit_apart (n / 16 % 16) (m / 16 % 16) (omega arith) (omega arith) (cc same) in
    let e : n % 16 ≡ m % 16 = digit_apart (n % 16) (m % 16) (omega arith) (omega arith) (cc same) in
    omega (arith, number_from n small, number_from m low, a, b, c, d, e)

-- ---- numbers in use

pub none_in_use : (numbers : List Bool) → IsEmptySet autobind_names numbers → AreInUse [] numbers
none_in_use numbers empty = record { all = empty.len; agrees = λ n low. empty.none n }

-- the one number that has a name
pub number_put : (old new : List Bool) (name : Name) (number : ℕ) (is_in : Bool) → number < autobind_names → autobind_name number ≡ name →
    PutsNumber old new number is_in → PutsName old new name is_in
number_put old new name number is_in small is put = record {
  same_length = put.same_length;
  this = λ n low same. let here : n ≡ number = name_apart n number low small (same ∙ sym is) in ap (has_number new) here ∙ put.this;
  others = λ n low apart. put.others n (λ here. apart (ap autobind_name here ∙ is));
}

pub nothing_put : (numbers : List Bool) (name : Name) (is_in : Bool) → ((n : ℕ) → n < autobind_names → autobind_name n ≢ name) →
    PutsName numbers numbers name is_in
nothing_put numbers name is_in apart = record {
  same_length = refl;
  this = λ n low same. absurd (apart n low same);
  others = λ n low other. refl;
}

module _ (names : List (Name × ℕ)) (name : Name) (old new : List Bool) (in_use : AreInUse names old) where
  pub bound_in_use : (d : ℕ) → PutsName old new name true → AreInUse (names ++ (name, d) ∷ []) new
  bound_in_use d put = record {
    all = put.same_length ∙ in_use.all;
    agrees = λ n low. elim (same_name_tells (autobind_name n) name) [
      | inl here ↦ put.this n low here.1 ∙ sym
          (ap (λ (k : Name). is_some (named k (names ++ (name, d) ∷ []))) here.1 ∙ named_appended name d names)
      | inr other ↦ put.others n low other.1 ∙ in_use.agrees n low ∙ sym (other_appended name (autobind_name n) d names other.1)
    ];
  }

  pub released_free : PutsName old new name false → AreInUse (without_name name names) new
  released_free put = record {
    all = put.same_length ∙ in_use.all;
    agrees = λ n low. elim (same_name_tells (autobind_name n) name) [
      | inl here ↦ put.this n low here.1 ∙ sym
          (ap (λ (k : Name). is_some (named k (without_name name names))) here.1 ∙ ap is_some (named_without name names))
      | inr other ↦ put.others n low other.1 ∙ in_use.agrees n low ∙ sym (ap is_some (other_without name (autobind_name n) names other.1))
    ];
  }
