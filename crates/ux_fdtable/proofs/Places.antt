-- The places of a table that are kept as far as they were used.
use Rattle.std.proofs.Common.{◌≡◌, ℕ, ◌+◌, ◌-◌, ◌<◌, ◌≤◌, max, Bool, true, List, [], ◌∷◌, ◌++◌, length, get_or, set, take, drop, map}
use Rattle.std.proofs.Common.{replicate, Option, Some, None, inl, inr, ap, sym, refl, ◌∙◌, arith}
use Rattle.std.specs.Prelude.{is_some}
use Rattle.std.proofs.lemmas.Bool.{cases_eq, cases_lt}
use Rattle.std.proofs.lemmas.List.{append_assoc, replicate-append-replicate, length-append, length-replicate, length-set, length-map}
use Rattle.std.proofs.lemmas.List.{length-take-le, get_or_append_left, get_or-append_right, get_or-replicate, get_or_past, get_or-set_same}
use Rattle.std.proofs.lemmas.List.{get_or-set_other, set-append_left, set-append_right, set-get_or, drop_more, map_more}
use Rattle.ux_model.specs.Places.{place}
use Rattle.ux_model.specs.Process.{Descriptor}
use Rattle.ux_number_sets.specs.Sets.{PutsNumber}
use Rattle.ux_fdtable.specs.Padded.{padded, IsTable}

pub length-padded : (xs : List (Option Descriptor)) (n : ℕ) → length (padded xs n) ≡ max (length xs) n
length-padded xs n = omega (
  arith,
  length-append xs (replicate (n - length xs) None),
  length-replicate {A = Option Descriptor} (n - length xs) None,
)

-- an empty place beyond the last is like one that isn't there
nothing_there : (n i : ℕ) → get_or (replicate {A = Option Descriptor} n None) i None ≡ None
nothing_there n i = elim (cases_lt i n) [
  | inl inside ↦ get_or-replicate n i None None inside
  | inr past ↦ get_or_past (replicate n None) i None (omega (arith, length-replicate {A = Option Descriptor} n None))
]

pub place_padded : (xs : List (Option Descriptor)) (n i : ℕ) → place (padded xs n) i ≡ place xs i
place_padded xs n i = elim (cases_lt i (length xs)) [
  | inl inside ↦ get_or_append_left xs (replicate (n - length xs) None) None i inside
  | inr past ↦ get_or-append_right xs (replicate (n - length xs) None) (length xs) i None refl past
      ∙ nothing_there (n - length xs) (i - length xs) ∙ sym (get_or_past xs i None past)
]

pub padded_padded : (xs : List (Option Descriptor)) (n limit : ℕ) → n ≤ limit → length xs ≤ limit →
    padded (padded xs n) limit ≡ padded xs limit
padded_padded xs n limit small within =
    let rest : (n - length xs) + (limit - length (padded xs n)) ≡ limit - length xs = omega (arith, length-padded xs n) in
    append_assoc xs (replicate (n - length xs) None) (replicate (limit - length (padded xs n)) None)
    ∙ ap (λ ys. xs ++ ys) (replicate-append-replicate (n - length xs) (limit - length (padded xs n)) None)
    ∙ ap (λ k. xs ++ replicate k None) rest

pub set_padded : (xs : List (Option Descriptor)) (limit n : ℕ) (x : Option Descriptor) → n < length xs →
    padded (set xs n x) limit ≡ set (padded xs limit) n x
set_padded xs limit n x inside =
    rw (length-set xs n x) (sym (set-append_left xs (replicate (limit - length xs) None) n x inside))

-- to empty a place behind those that are kept changes nothing
pub emptied_behind : (xs : List (Option Descriptor)) (limit n : ℕ) → length xs ≤ n → padded xs limit ≡ set (padded xs limit) n None
emptied_behind xs limit n past =
    let nothing : get_or (padded xs limit) n None ≡ None = place_padded xs limit n ∙ get_or_past xs n None past in
    sym (ap (set (padded xs limit) n) (sym nothing) ∙ set-get_or (padded xs limit) n None)

pub filled_up_to : (xs : List (Option Descriptor)) (limit n : ℕ) (x : Option Descriptor) → n < limit → length xs ≤ limit →
    padded (set (padded xs (n + 1)) n x) limit ≡ set (padded xs limit) n x
filled_up_to xs limit n x small within =
    let inside : n < length (padded xs (n + 1)) = omega (arith, length-padded xs (n + 1)) in
    set_padded (padded xs (n + 1)) limit n x inside ∙ ap (λ ys. set ys n x) (padded_padded xs (n + 1) limit (omega arith) within)

pub table_with : (xs : List (Option Descriptor)) (limit n : ℕ) (in_use new : List Bool) (e : Descriptor) → n < limit →
    IsTable xs limit in_use → PutsNumber in_use new n true → IsTable (set (padded xs (n + 1)) n (Some e)) limit new
table_with xs limit n in_use new e small table put =
    let reached : length (padded xs (n + 1)) ≡ max (length xs) (n + 1) = length-padded xs (n + 1) in
    record {
      within = omega (arith, reached, length-set (padded xs (n + 1)) n (Some e), table.within);
      small = table.small;
      covered = omega (arith, table.covered, put.same_length);
      agrees = λ i inside. elim (cases_eq i n) [
        | inl same ↦ rw (same, get_or-set_same (padded xs (n + 1)) n (Some e) None (omega (arith, reached))) put.this
        | inr other ↦ put.others i other ∙ table.agrees i inside
            ∙ sym (ap is_some (get_or-set_other (padded xs (n + 1)) n i (Some e) None other ∙ place_padded xs (n + 1) i))
      ];
    }

-- ---- a change of each place in turn

pub place_of_rest : (f : Option Descriptor → Option Descriptor) (xs : List (Option Descriptor)) (i : ℕ) → i < length xs →
    place (map f (take i xs) ++ drop i xs) i ≡ place xs i
place_of_rest f xs i inside =
    let front : length (map f (take i xs)) ≡ i = length-map (take i xs) f ∙ length-take-le i xs (omega arith) in
    let here : i - i ≡ 0 = omega arith in
    get_or-append_right (map f (take i xs)) (drop i xs) i i None front (omega arith)
    ∙ rw (here, drop_more xs i None inside)

pub change_here : (f : Option Descriptor → Option Descriptor) (xs : List (Option Descriptor)) (i : ℕ) → i < length xs →
    set (map f (take i xs) ++ drop i xs) i (f (place xs i)) ≡ map f (take (i + 1) xs) ++ drop (i + 1) xs
change_here f xs i inside =
    let front : length (map f (take i xs)) ≡ i = length-map (take i xs) f ∙ length-take-le i xs (omega arith) in
    let here : i - i ≡ 0 = omega arith in
    set-append_right (map f (take i xs)) (drop i xs) i i (f (place xs i)) front (omega arith)
    ∙ rw (here, drop_more xs i None inside, map_more f xs i None inside)
    (sym (append_assoc (map f (take i xs)) (f (place xs i) ∷ []) (drop (i + 1) xs)))

pub map_to_none : (T : List (Option Descriptor)) → replicate (length T) None ≡ map {B = Option Descriptor} (λ _. None) T
map_to_none [] = refl
map_to_none (x ∷ xs) = ap (λ ys. None ∷ ys) (map_to_none xs)

pub cleared : (xs T : List (Option Descriptor)) (limit : ℕ) → xs ≡ [] → length T ≡ limit →
    padded xs limit ≡ map {B = Option Descriptor} (λ _. None) T
cleared xs T limit e long =
    let all : limit - 0 ≡ length T = omega arith in
    ap (λ ys. padded ys limit) e ∙ ap (λ n. replicate n None) all ∙ map_to_none T

-- what is open is kept
pub held_inside : (xs : List (Option Descriptor)) (limit n : ℕ) (e : Descriptor) → place (padded xs limit) n ≡ Some e → n < length xs
held_inside xs limit n e held = elim (cases_lt n (length xs)) [
  | inl inside ↦ inside
  | inr past ↦ let nothing : None ≡ Some e = sym (get_or_past xs n None past) ∙ sym (place_padded xs limit n) ∙ held in cc
]
