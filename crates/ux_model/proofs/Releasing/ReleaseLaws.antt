-- Dropping descriptions in two goes is dropping them at once.
use Rattle.std.specs.Prelude.{◌≡◌, ℕ, zero, suc, ◌+◌, Bool, true, false, not, ◌&&◌, ◌||◌, if◌then◌else◌, List, [], ◌∷◌, map, filter, Option}
use Rattle.std.specs.Prelude.{Some, None, option_map, option_and_then, cond, refl}
use Rattle.std.specs.List.{enumerate_from}
use Rattle.std.proofs.Common.{sym, ◌∙◌, ap, arith}
use Rattle.ux_model.specs.Places.{place}
use Rattle.ux_model.specs.Socket.{Socket, Phase, idle, listening, connected, associated}
use Rattle.ux_model.specs.Description.{Description, Target, to_object, to_socket, socket_of}
use Rattle.ux_model.specs.State.{State, description_at, socket_at}
use Rattle.ux_model.specs.Release.{resets_peer, place_after_loss, without}
use Rattle.ux_model.proofs.Releasing.Losses.{is_reset_by_loss, target_after_loss, description_after_loss}

-- ---- lists of places

pub map_twice : {X Y Z : Type 0} (f : ℕ × Y → Z) (g : ℕ × X → Y) (h : ℕ × X → Z) → ((i : ℕ) (x : X) → f (i, g (i, x)) ≡ h (i, x)) →
    (i : ℕ) (xs : List X) → map f (enumerate_from i (map g (enumerate_from i xs))) ≡ map h (enumerate_from i xs)
map_twice f g h same i [] = refl
map_twice f g h same i (x ∷ xs) = λ j. same i x j ∷ map_twice f g h same (i + 1) xs j

pub place-map : {X Y : Type 0} (g : ℕ × Option X → Option Y) → ((i : ℕ) → g (i, None) ≡ None) →
    (k d : ℕ) (xs : List (Option X)) → place (map g (enumerate_from k xs)) d ≡ g (k + d, place xs d)
place-map g none k d [] = sym (none (k + d))
place-map g none k zero (x ∷ xs) = let e : k ≡ k + 0 = omega arith in ap (λ n. g (n, x)) e
place-map g none k (suc d) (x ∷ xs) = let e : (k + 1) + d ≡ k + suc d = omega arith in
    place-map g none (k + 1) d xs ∙ ap (λ n. g (n, place xs d)) e

-- ---- one description

none_stays : (gone : ℕ → Bool) (S : State) (i : ℕ) → place_after_loss gone S (i, None) ≡ None
none_stays gone S i = elim (gone i) as (λ b. (if b then None else option_map (description_after_loss gone S) None) ≡ None)
    [ true ↦ refl | false ↦ refl ]

pub description_at-without : (gone : ℕ → Bool) (S : State) (d : ℕ) →
    description_at (without gone S) d ≡ place_after_loss gone S (d, description_at S d)
unfolding without
description_at-without gone S d =
    let e : 0 + d ≡ d = omega arith in
    place-map (place_after_loss gone S) (none_stays gone S) 0 d S.descriptions ∙ ap (λ n. place_after_loss gone S (n, description_at S d)) e

-- what a socket loses nothing of, when its own peer goes: its queue, and whether it was accepted
resets-target : (gone : ℕ → Bool) (S : State) (t : Target) →
    resets_peer (socket_of (target_after_loss gone S t)) ≡ resets_peer (socket_of t)
resets-target gone S (to_object o) = refl
resets-target gone S (to_socket s) = refl

abbrev socket_in : Option Description → Option Socket
socket_in D = option_and_then (λ D. socket_of (Description.target D)) D

resets-place : (gone : ℕ → Bool) (S : State) (b : Bool) (D : Option Description) →
    resets_peer (socket_in (if b then None else option_map (description_after_loss gone S) D)) ≡
    (if b then false else resets_peer (socket_in D))
resets-place gone S true D = refl
resets-place gone S false None = refl
resets-place gone S false (Some D) = resets-target gone S D.target

resets-without : (gone : ℕ → Bool) (S : State) (p : ℕ) →
    resets_peer (socket_at (without gone S) p) ≡ (if gone p then false else resets_peer (socket_at S p))
resets-without gone S p = ap (λ D. resets_peer (socket_in D)) (description_at-without gone S p)
    ∙ resets-place gone S (gone p) (description_at S p)

-- ---- in two goes

-- what goes now or later
abbrev pub either : (ℕ → Bool) → (ℕ → Bool) → ℕ → Bool
either now later d = now d || later d

flags : (r y x q : Bool) → (r || (y && q)) || (x && (if y then false else q)) ≡ r || ((y || x) && q)
flags true y x q = refl
flags false true true true = refl
flags false true true false = refl
flags false true false true = refl
flags false true false false = refl
flags false false x q = refl

reset_twice : (now later : ℕ → Bool) (S : State) (r : Bool) (phase : Phase) →
    (r || is_reset_by_loss now S phase) || is_reset_by_loss later (without now S) phase ≡ r || is_reset_by_loss (either now later) S phase
reset_twice now later S r (connected p) =
    ap (λ q. (r || (now p && resets_peer (socket_at S p))) || (later p && q)) (resets-without now S p)
    ∙ flags r (now p) (later p) (resets_peer (socket_at S p))
reset_twice now later S true idle = refl
reset_twice now later S true (listening backlog cred) = refl
reset_twice now later S true (associated target) = refl
reset_twice now later S false idle = refl
reset_twice now later S false (listening backlog cred) = refl
reset_twice now later S false (associated target) = refl

target_twice : (now later : ℕ → Bool) (S : State) (t : Target) →
    target_after_loss later (without now S) (target_after_loss now S t) ≡ target_after_loss (either now later) S t
target_twice now later S (to_object o) = refl
target_twice now later S (to_socket s) = ap (λ b. to_socket (record s { reset = b })) (reset_twice now later S s.reset s.phase)

place_twice : (now later : ℕ → Bool) (S : State) (i : ℕ) (D : Option Description) (y x : Bool) →
    (if x then None else option_map (description_after_loss later (without now S))
    (if y then None else option_map (description_after_loss now S) D))
    ≡ (if y || x then None else option_map (description_after_loss (either now later) S) D)
place_twice now later S i D true true = refl
place_twice now later S i D true false = refl
place_twice now later S i D false true = refl
place_twice now later S i None false false = refl
place_twice now later S i (Some D) false false = ap (λ t. Some (record D { target = t })) (target_twice now later S D.target)

filter_step : {X : Type 0} (q : X → Bool) (x : X) (a : Bool) (ys zs : List X) → filter (λ x. not (q x)) ys ≡ zs →
    filter (λ x. not (q x)) (cond (not a) (x ∷ ys) ys) ≡ cond (not (a || q x)) (x ∷ zs) zs
filter_step q x true ys zs e = e
filter_step q x false ys zs e = ap (λ l. cond (not (q x)) (x ∷ l) l) e

filter_twice : {X : Type 0} (p q : X → Bool) (xs : List X) →
    filter (λ x. not (q x)) (filter (λ x. not (p x)) xs) ≡ filter (λ x. not (p x || q x)) xs
filter_twice p q [] = refl
filter_twice p q (x ∷ xs) = filter_step q x (p x) (filter (λ x. not (p x)) xs) (filter (λ x. not (p x || q x)) xs) (filter_twice p q xs)

pub without-without : (now later : ℕ → Bool) (S : State) → without later (without now S) ≡ without (either now later) S
unfolding without
without-without now later S = λ j. record S {
  descriptions = map_twice (place_after_loss later (without now S)) (place_after_loss now S) (place_after_loss (either now later) S)
      (λ i D. place_twice now later S i D (now i) (later i)) 0 S.descriptions j;
  abstract_names = filter_twice (λ e. now e.1) (λ e. later e.1) S.abstract_names j;
}
