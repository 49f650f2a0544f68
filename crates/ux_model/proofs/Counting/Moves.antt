-- By how much the references change, where one part of a state does.
use Rattle.std.proofs.Common.{◌≡◌, ℕ, zero, suc, ◌+◌, ◌<◌, Bool, true, false, not, cond, List, [], ◌∷◌, length, get_or, Option, Some, None}
use Rattle.std.proofs.Common.{option_map, refl, ap, arith}
use Rattle.std.proofs.lemmas.Option.{slice_get_within, get_or_from_slice_get}
use Rattle.std.proofs.lemmas.List.Sums.{sum_by-cons, sum_by-set, sum_by_push}
use Rattle.std.proofs.lemmas.List.Filters.{sum_by-filter_both}
use Rattle.ux_model.specs.Types.{Name}
use Rattle.ux_model.specs.Names.{PathTarget, same_name}
use Rattle.ux_model.specs.Description.{Description}
use Rattle.ux_model.specs.Places.{place, filled, emptied}
use Rattle.ux_model.specs.Process.{Process, Descriptor}
use Rattle.ux_model.specs.References.{path_names, names_description, is_open_of, table_refs, description_refs, refs, orefs}
use Rattle.ux_model.specs.Moves.{ProcessCounts, ChildCounts, NewCounts, NewCountsAtObject, SameTargetCountsAlike, TakenPathCountsNot}
use Rattle.ux_model.proofs.Lists.ChangedPlaces.{sum_by-changed}

-- ---- a table

-- what one place counts
abbrev pub one : ℕ → Option Descriptor → ℕ
one d e = cond (names_description d e) 1 0

pub table_filled : (d : ℕ) (table : List (Option Descriptor)) (n : ℕ) (e : Descriptor) → n < length table →
    table_refs d (filled table n e) + one d (place table n) ≡ table_refs d table + one d (Some e)
table_filled d table n e inside = sum_by-set (one d) table n (Some e) None inside

pub table_emptied : (d : ℕ) (table : List (Option Descriptor)) (n : ℕ) →
    table_refs d (emptied table n) + one d (place table n) ≡ table_refs d table + 0
table_emptied d [] n = refl
table_emptied d (x ∷ xs) zero =
    let new : table_refs d (None ∷ xs) ≡ 0 + table_refs d xs = sum_by-cons (one d) None xs in
    let old : table_refs d (x ∷ xs) ≡ one d x + table_refs d xs = sum_by-cons (one d) x xs in
    omega (arith, new, old)
table_emptied d (x ∷ xs) (suc n) =
    let new : table_refs d (x ∷ emptied xs n) ≡ one d x + table_refs d (emptied xs n) = sum_by-cons (one d) x (emptied xs n) in
    let old : table_refs d (x ∷ xs) ≡ one d x + table_refs d xs = sum_by-cons (one d) x xs in
    let rest = table_emptied d xs n in
    omega (arith, new, old, rest)

-- ---- a process

pub process_counts : ProcessCounts
unfolding refs
process_counts S zero d P Q h = absurd (cc h)
process_counts S (suc i) d P Q h =
    let s = sum_by-set (λ P. table_refs d (Process.table P)) S.processes i Q P (slice_get_within S.processes i P h) in
    let here : table_refs d (get_or S.processes i P).table ≡ table_refs d P.table =
    ap (λ R. table_refs d (Process.table R)) (get_or_from_slice_get S.processes i P P h) in
    omega (arith, s, here)

pub child_counts : ChildCounts
unfolding refs
child_counts S P d = let s = sum_by_push (λ P. table_refs d (Process.table P)) S.processes P in omega (arith, s)

-- ---- descriptions

pub new_counts : NewCounts
unfolding refs
new_counts S D d = let s = sum_by_push (description_refs d) S.descriptions (Some D) in omega (arith, s)

-- what one description counts at a file object
abbrev opens : ℕ → Option Description → ℕ
opens o D = cond (is_open_of o D) 1 0

pub new_counts_at_object : NewCountsAtObject
unfolding orefs
new_counts_at_object S D o = let s = sum_by_push (opens o) S.descriptions (Some D) in omega (arith, s)

pub same_target_counts_alike : SameTargetCountsAlike
unfolding orefs
same_target_counts_alike S n o change same =
    let s = sum_by-changed (opens o) change (λ x. 0) (λ x. 0) alike S.descriptions n in
    omega (arith, s)
  where
    alike : (x : Option Description) → opens o (option_map change x) + 0 ≡ opens o x + 0
    alike None = refl
    alike (Some D) = ap (λ b. cond {A = ℕ} b 1 0 + 0) (same D)

-- ---- paths

pub taken_path_counts_not : TakenPathCountsNot
unfolding orefs
taken_path_counts_not S name o =
    let s = sum_by-filter_both (λ e. not (same_name e.0 name)) (λ e. same_name e.0 name) twice (λ e. cond (path_names o e.1) 1 0) S.paths in
    omega (arith, s)
  where
    back : (b : Bool) → b ≡ not (not b)
    back true = refl
    back false = refl

    twice : (e : Name × PathTarget) → same_name e.0 name ≡ not (not (same_name e.0 name))
    twice e = back (same_name e.0 name)
