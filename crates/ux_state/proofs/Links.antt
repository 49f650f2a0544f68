-- How many paths name each file object.
use Rattle.std.proofs.Common.{◌≡◌, ℕ, zero, suc, ◌+◌, ◌<◌, ◌≤◌, ◌==◌, true, List, [], ◌∷◌, ◌++◌, length, get_or, map, Option, Some, None}
use Rattle.std.proofs.Common.{refl, sym, ◌∙◌, ap, nat_lt, arith}
use Rattle.std.specs.Prelude.{count_by}
use Rattle.std.specs.List.{enumerate_from, list_any}
use Rattle.std.proofs.lemmas.Bool.{eq-eqb, ne_eqb}
use Rattle.std.proofs.lemmas.List.{get_or_read}
use Rattle.std.proofs.lemmas.List.Sums.{sum_by-cons, sum_by_push}
use Rattle.ux_model.specs.Types.{Name}
use Rattle.ux_model.specs.Names.{PathTarget, file, bound, named, without_name}
use Rattle.ux_model.specs.Boot.{are_distinct}
use Rattle.ux_model.specs.References.{path_names}
use Rattle.ux_model.proofs.Counting.Owning.{IsOnce, counted, sum_without, once-filter, once-push, not_before}
use Rattle.ux_state.specs.Counting.{one_if}
use Rattle.ux_state.specs.Links.{links_of, link_at, LosesLink, AreLinked}
use Rattle.ux_state.proofs.Settling.{by_links, beyond_zero}
use Rattle.ux_state.proofs.Orphans.{any_counted}

-- ---- a path less

taken : (o : ℕ) (t : Option PathTarget) → counted (λ t. one_if (path_names o t)) t ≡ link_at o t
taken o None = refl
taken o (Some t) = refl

left_paths : (o : ℕ) (name : Name) (paths : List (Name × PathTarget)) → IsOnce paths →
    count_by (λ e. path_names o e.1) (without_name name paths) + link_at o (named name paths) ≡ count_by (λ e. path_names o e.1) paths
left_paths o name paths once =
    let a = sum_without (λ t. one_if (path_names o t)) name paths once in
    let b = taken o (named name paths) in
    omega (arith, a, b)

pub link_counted : (name : Name) (paths : List (Name × PathTarget)) (ls : List ℕ) (target : Option PathTarget) → AreLinked paths ls →
    target ≡ named name paths → (o : ℕ) → o < length ls → link_at o target ≤ links_of ls o
unfolding AreLinked
link_counted name paths ls target linked found o inside =
    let a = left_paths o name paths linked.once in
    let b = linked.counted o in
    let c = ap (link_at o) found in
    omega (arith, a, b, c)

pub link_gone : (name : Name) (paths left : List (Name × PathTarget)) (ls ms : List ℕ) (target : Option PathTarget) → AreLinked paths ls →
    target ≡ named name paths → left ≡ without_name name paths → LosesLink target ls ms → AreLinked left ms
unfolding AreLinked
link_gone name paths left ls ms target linked found is less = rw is (record {
  once = once-filter _ paths linked.once;
  counted = λ o.
      let a = left_paths o name paths linked.once in
      let b = linked.counted o in
      let c = ap (link_at o) found in
      by_links ls o (λ inside. let d = less.counts o inside in omega (arith, a, b, c, d))
      (λ beyond none. let long = less.long in let new = beyond_zero ms o (omega (arith, long, beyond)) in omega (arith, a, b, none, new));
})

-- ---- a path more, of a socket

pub socket_linked : (name : Name) (d : ℕ) (paths : List (Name × PathTarget)) (ls : List ℕ) → named name paths ≡ None → AreLinked paths ls →
    AreLinked (paths ++ (name, bound d) ∷ []) ls
unfolding AreLinked
socket_linked name d paths ls none linked = record {
  once = once-push name (bound d) paths none linked.once;
  counted = λ o.
      let a = sum_by_push (λ (e : Name × PathTarget). one_if (path_names o e.1)) paths (name, bound d) in
      let b = linked.counted o in
      omega (arith, a, b);
}

-- ---- those of a new state

abbrev pub file_paths : {X : Type 0} → ℕ → List (Name × X) → List (Name × PathTarget)
file_paths i xs = map (λ e. (e.1.0, file e.0)) (enumerate_from i xs)

no_file : {X : Type 0} (o i : ℕ) (xs : List (Name × X)) → o < i → count_by (λ e. path_names o e.1) (file_paths i xs) ≡ 0
no_file o i [] before = refl
no_file o i (x ∷ xs) before =
    let a = sum_by-cons (λ (e : Name × PathTarget). one_if (path_names o e.1)) (x.0, file i) (file_paths (i + 1) xs) in
    let b : one_if (i == o) ≡ 0 = ap one_if (ne_eqb i o (λ h. omega (arith, h, before))) in
    let c = no_file o (i + 1) xs (omega (arith, before)) in
    omega (arith, a, b, c)

one_file : {X : Type 0} (o i k : ℕ) (xs : List (Name × X)) → o ≡ i + k → k < length xs →
    count_by (λ e. path_names o e.1) (file_paths i xs) ≡ 1
one_file o i k [] at inside = absurd (omega (arith, inside))
one_file o i zero (x ∷ xs) at inside =
    let a = sum_by-cons (λ (e : Name × PathTarget). one_if (path_names o e.1)) (x.0, file i) (file_paths (i + 1) xs) in
    let b : one_if (i == o) ≡ 1 = ap one_if (eq-eqb i o (omega (arith, at))) in
    let c = no_file o (i + 1) xs (omega (arith, at)) in
    omega (arith, a, b, c)
one_file o i (suc k) (x ∷ xs) at inside =
    let a = sum_by-cons (λ (e : Name × PathTarget). one_if (path_names o e.1)) (x.0, file i) (file_paths (i + 1) xs) in
    let b : one_if (i == o) ≡ 0 = ap one_if (ne_eqb i o (λ h. omega (arith, h, at))) in
    let c = one_file o (i + 1) k xs (omega (arith, at)) (omega (arith, inside)) in
    omega (arith, a, b, c)

pub one_path_each : {X : Type 0} (o : ℕ) (xs : List (Name × X)) → o < length xs → count_by (λ e. path_names o e.1) (file_paths 0 xs) ≡ 1
one_path_each o xs inside = one_file o 0 o xs (omega arith) inside

no_later_file : {X : Type 0} (o i : ℕ) (xs : List (Name × X)) → i + length xs ≤ o → count_by (λ e. path_names o e.1) (file_paths i xs) ≡ 0
no_later_file o i [] past = refl
no_later_file o i (x ∷ xs) past =
    let a = sum_by-cons (λ (e : Name × PathTarget). one_if (path_names o e.1)) (x.0, file i) (file_paths (i + 1) xs) in
    let b : one_if (i == o) ≡ 0 = ap one_if (ne_eqb i o (λ h. omega (arith, h, past))) in
    let c = no_later_file o (i + 1) xs (omega (arith, past)) in
    omega (arith, a, b, c)

pub no_path_beyond : {X : Type 0} (o : ℕ) (xs : List (Name × X)) → length xs ≤ o → count_by (λ e. path_names o e.1) (file_paths 0 xs) ≡ 0
no_path_beyond o xs past = no_later_file o 0 xs (omega (arith, past))

pub names_of : {X : Type 0} (i : ℕ) (xs : List (Name × X)) → map (λ e. e.0) (file_paths i xs) ≡ map (λ x. x.0) xs
names_of i [] = refl
names_of i (x ∷ xs) = ap (λ l. x.0 ∷ l) (names_of (i + 1) xs)

-- the next isn't there yet
pub next_file : {X : Type 0} (all left rest : List (Name × X)) (paths : List (Name × PathTarget)) (k : ℕ) (x : Name × X) → left ≡ x ∷ rest →
    paths ++ file_paths k left ≡ file_paths 0 all → are_distinct (map (λ o. o.0) all) ≡ true → named x.0 paths ≡ None
next_file all left rest paths k x next so_far once =
    not_before x.0 (file k) paths (file_paths (k + 1) rest)
    (ap (λ es. are_distinct (map (λ e. e.0) es)) ((λ j. paths ++ file_paths k (sym next j)) ∙ so_far) ∙ ap are_distinct (names_of 0 all)
    ∙ once)

-- ---- whether any does

pub any_link : (paths : List (Name × PathTarget)) (ls : List ℕ) (o x : ℕ) → o < length ls → x ≡ get_or ls o x → AreLinked paths ls →
    list_any (λ e. path_names o e.1) paths ≡ nat_lt 0 x
unfolding AreLinked
any_link paths ls o x inside here linked =
    any_counted (λ e. path_names o e.1) paths ∙ ap (nat_lt 0) (sym (linked.counted o) ∙ sym (get_or_read ls o x inside here 0))
