-- What a table counts once rights are installed at its lowest free numbers.
use Rattle.std.proofs.Common.{◌≡◌, ℕ, zero, suc, ◌+◌, ◌<◌, ◌≤◌, Bool, cond, List, [], ◌∷◌, length, map, take, Option, Some, None, refl, ap}
use Rattle.std.proofs.Common.{sym, ◌∙◌, arith}
use Rattle.std.specs.Prelude.{◌==◌}
use Rattle.std.proofs.lemmas.List.Sums.{sum_by-cons}
use Rattle.std.proofs.lemmas.List.{length-map}
use Rattle.ux_model.specs.Types.{Fd}
use Rattle.ux_model.specs.Places.{place, filled, empty_places_from}
use Rattle.ux_model.specs.Process.{Descriptor, free_numbers}
use Rattle.ux_model.specs.Delivery.{installed}
use Rattle.ux_model.specs.References.{times, table_refs}
use Rattle.ux_model.proofs.Counting.Moves.{one, table_filled}

-- the first empty place: once it is filled, the others are left
pub record IsFirstEmpty (i n : ℕ) (rest : List ℕ) (T : List (Option Descriptor)) : Type 0 where
  pub at : ℕ
  pub number : n ≡ i + at
  pub inside : at < length T
  pub empty : place T at ≡ None
  pub others : (e : Descriptor) → empty_places_from i (filled T at e) ≡ rest

first_empty : (i n : ℕ) (rest : List ℕ) (T : List (Option Descriptor)) → empty_places_from i T ≡ n ∷ rest → IsFirstEmpty i n rest T
first_empty i n rest [] h = absurd (cc h)
first_empty i n rest (None ∷ xs) h =
    let same : i ≡ n = cc h in
    let left : empty_places_from (suc i) xs ≡ rest = cc h in
    record { at = zero; number = omega (arith, same); inside = omega arith; empty = refl; others = λ e. left }
first_empty i n rest (Some x ∷ xs) h =
    let f = first_empty (suc i) n rest xs h in
    let number = f.number in
    let inside = f.inside in
    record { at = suc f.at; number = omega (arith, number); inside = omega (arith, inside); empty = f.empty; others = f.others }

all_counted : (k : ℕ) (cloexec : Bool) (ns ds free : List ℕ) (T : List (Option Descriptor)) → free_numbers T ≡ free →
    ns ≡ take (length ns) free → length ns ≤ length ds →
    table_refs k (installed cloexec ns ds T) ≡ table_refs k T + times k (take (length ns) ds)
all_counted k cloexec [] ds free T is front enough = omega arith
all_counted k cloexec (n ∷ ns) [] free T is front enough = absurd (omega (arith, enough))
all_counted k cloexec (n ∷ ns) (d ∷ ds) [] T is front enough = absurd (cc front)
all_counted k cloexec (n ∷ ns) (d ∷ ds) (f ∷ free) T is front enough =
    let e : Descriptor = record { description = d; cloexec = cloexec } in
    let same : n ≡ f = cc front in
    let left : ns ≡ take (length ns) free = cc front in
    let first = first_empty 0 f free T is in
    let number = first.number in
    let here : first.at ≡ n = omega (arith, number, same) in
    let others : free_numbers (filled T n e) ≡ free = ap (λ m. free_numbers (filled T m e)) (sym here) ∙ first.others e in
    let rest = all_counted k cloexec ns ds free (filled T n e) others left (omega (arith, enough)) in
    let inside = first.inside in
    let put = table_filled k T n e (omega (arith, inside, here)) in
    let nothing : one k (place T n) ≡ 0 = ap (λ m. one k (place T m)) (sym here) ∙ ap (one k) first.empty in
    let both : times k (d ∷ take (length ns) ds) ≡ one k (Some e) + times k (take (length ns) ds) =
    sum_by-cons (λ m. cond {A = ℕ} (m == k) 1 0) d (take (length ns) ds) in
    omega (arith, rest, put, nothing, both)

pub installed_counted : (k : ℕ) (cloexec : Bool) (ns ds : List ℕ) (T : List (Option Descriptor)) → ns ≡ take (length ns) (free_numbers T) →
    length ns ≤ length ds →
    table_refs k (installed cloexec ns ds T) ≡ table_refs k T + times k (take (length ns) ds)
installed_counted k cloexec ns ds T front enough = all_counted k cloexec ns ds (free_numbers T) T refl front enough

-- the numbers as the code has them
pub as_front : (numbers : List Fd) (free : List ℕ) → map (λ fd. Fd.0 fd) numbers ≡ take (length numbers) free →
    map (λ fd. Fd.0 fd) numbers ≡ take (length (map (λ fd. Fd.0 fd) numbers)) free
as_front numbers free h = h ∙ ap (λ n. take n free) (sym (length-map numbers (λ fd. Fd.0 fd)))
