-- The numbers of the file objects that a call releases rise.
use Rattle.std.proofs.Common.{◌≡◌, ℕ, ◌+◌, ◌<◌, List, [], ◌∷◌, map, get_or, refl, ap, sym, subst, arith}
use Rattle.std.specs.Prelude.{Option, option_map}
use Rattle.std.specs.List.{enumerate_from, AllPairs}
use Rattle.std.proofs.lemmas.List.{get_or-map, length-map}
use Rattle.std.proofs.lemmas.List.FromFn.{get_or-enumerate_from, length-enumerate_from}
use Rattle.std.proofs.lemmas.List.Kept.{AllPairs-filter}
use Rattle.ux_model.specs.Types.{Request, Reply}
use Rattle.ux_model.specs.Object.{View, closed}
use Rattle.ux_model.specs.State.{State}
use Rattle.ux_model.specs.Release.{released, released_objects, orphans, is_orphan, drop_unreferenced}
use Rattle.ux_model.specs.Step.{Step}

-- an object before another
abbrev Before : ℕ × Option View → ℕ × Option View → Type 0
Before a b = a.0 < b.0

numbers_rise : (xs : List (Option View)) → AllPairs Before (enumerate_from 0 xs)
numbers_rise xs i j d below inside =
    let long = length-enumerate_from 0 xs in
    let first : (get_or (enumerate_from 0 xs) i d).0 ≡ 0 + i =
    ap (λ (e : ℕ × Option View). e.0) (get_or-enumerate_from 0 xs i d (omega (arith, long, below, inside))) in
    let second : (get_or (enumerate_from 0 xs) j d).0 ≡ 0 + j =
    ap (λ (e : ℕ × Option View). e.0) (get_or-enumerate_from 0 xs j d (omega (arith, long, inside))) in
    omega (arith, first, second, below)

rise_mapped : (es : List (ℕ × Option View)) → AllPairs Before es → AllPairs (λ (a b : ℕ). a < b) (map (λ e. e.0) es)
rise_mapped [] h i j d below inside = absurd (omega (arith, inside))
rise_mapped (e ∷ es) h i j d below inside =
    let long = length-map (e ∷ es) (λ (e : ℕ × Option View). e.0) in
    let first = get_or-map (λ (e : ℕ × Option View). e.0) (e ∷ es) i e d (omega (arith, long, below, inside)) in
    let second = get_or-map (λ (e : ℕ × Option View). e.0) (e ∷ es) j e d (omega (arith, long, inside)) in
    omega (arith, first, second, h i j e below (omega (arith, long, inside)))

same_numbers : (es : List (ℕ × Option View)) →
    map (λ (e : ℕ × Option View). e.0) (map (λ (e : ℕ × Option View). (e.0, option_map closed e.1)) es) ≡ map (λ e. e.0) es
same_numbers [] = refl
same_numbers (e ∷ es) = ap (λ ns. e.0 ∷ ns) (same_numbers es)

pub released_rise : (T : State) → AllPairs (λ (a b : ℕ). a < b) (released T)
unfolding released_objects
released_rise T =
    let D = drop_unreferenced T in
    subst (AllPairs (λ (a b : ℕ). a < b)) (sym (same_numbers (orphans D)))
    (rise_mapped (orphans D) (AllPairs-filter Before (is_orphan D) (enumerate_from 0 D.objects) (numbers_rise D.objects)))

pub step_releases_rising : (S S' : State) (p tag : ℕ) (request : Request) (reply : Reply) (gone : List ℕ) →
    Step S p tag request reply gone S' → AllPairs (λ (a b : ℕ). a < b) gone
unfolding Step
step_releases_rising S S' p tag request reply gone h = subst (AllPairs (λ (a b : ℕ). a < b)) (sym h.2) (released_rise h.0)
