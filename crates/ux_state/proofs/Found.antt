-- The counts of a file object that is there.
use Rattle.std.proofs.Common.{◌≡◌, ℕ, zero, suc, ◌<◌, true, List, [], ◌∷◌, length, get_or, Option, is_some, ◌∙◌, ap, arith}
use Rattle.std.specs.Prelude.{count_by}
use Rattle.std.proofs.lemmas.List.{get_or_read}
use Rattle.std.specs.Prelude.{Bool}
use Rattle.ux_model.specs.Places.{place}
use Rattle.ux_model.specs.Flags.{can_read, can_write}
use Rattle.ux_model.specs.Description.{Description}
use Rattle.ux_model.specs.State.{State}
use Rattle.ux_model.specs.FileObjects.{is_opening}
use Rattle.ux_slots.specs.Held.{Held}
use Rattle.ux_state.specs.declared.openings.Openings.{Openings}
use Rattle.ux_state.specs.Counting.{Counted, none_open}
use Rattle.ux_state.specs.Keeping.{IsState}

pub held_inside : {X : Type 0} (xs : List (Option X)) (o : ℕ) → is_some (place xs o) ≡ true → o < length xs
held_inside [] o e = absurd (cc e)
held_inside (x ∷ xs) zero e = omega arith
held_inside (x ∷ xs) (suc o) e = let h = held_inside xs o e in omega (arith, h)

pub readers_there : {ks : List Bool} {fs : ℕ → ℕ} (xs : List Openings) (ls : List ℕ) (H : Held Description) (S : State) (o : ℕ)
    (x : Openings) →
    IsState ks xs ls H fs S → is_some (place S.objects o) ≡ true → x ≡ get_or xs o x →
    x.readers ≡ count_by (is_opening can_read o) S.descriptions
unfolding Counted
readers_there xs ls H S o x state held e =
    let inside = held_inside S.objects o held in
    let each = state.one_each in
    let within : o < length xs = omega (arith, inside, each) in
    ap (λ (y : Openings). y.readers) (get_or_read xs o x within e none_open) ∙ state.opened.readers o

pub writers_there : {ks : List Bool} {fs : ℕ → ℕ} (xs : List Openings) (ls : List ℕ) (H : Held Description) (S : State) (o : ℕ)
    (x : Openings) →
    IsState ks xs ls H fs S → is_some (place S.objects o) ≡ true → x ≡ get_or xs o x →
    x.writers ≡ count_by (is_opening can_write o) S.descriptions
unfolding Counted
writers_there xs ls H S o x state held e =
    let inside = held_inside S.objects o held in
    let each = state.one_each in
    let within : o < length xs = omega (arith, inside, each) in
    ap (λ (y : Openings). y.writers) (get_or_read xs o x within e none_open) ∙ state.opened.writers o
