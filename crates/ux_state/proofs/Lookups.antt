-- A process, a descriptor or a description by its number.
use Rattle.std.proofs.Common.{◌≡◌, ℕ, zero, suc, ◌-◌, ◌<◌, ◌≤◌, Bool, true, false, not, List, [], length, get_or, set, Option, Some, None}
use Rattle.std.proofs.Common.{sym, ◌∙◌, ap, subst, refl, arith}
use Rattle.std.specs.List.{slice_get}
use Rattle.std.specs.Option.{unwrap_or}
use Rattle.std.proofs.lemmas.Option.{slice_get_within, get_or_from_slice_get, unwrap_or-slice_get}
use Rattle.std.proofs.lemmas.Bool.{false≢true}
use Rattle.ux_model.specs.Places.{place}
use Rattle.ux_model.specs.Process.{Process, Descriptor}
use Rattle.ux_model.specs.State.{State, process_at, is_live, table_of, with_process, with_table}

-- ---- processes

pub record IsAt (S : State) (p : ℕ) (P : Process) : Type 0 where
  pub positive : 0 < p
  pub inside : p - 1 < length S.processes
  pub here : slice_get S.processes (p - 1) ≡ Some P
  pub found : process_at S p ≡ Some P
  pub live : P.exited ≡ false

-- a live process has a place
pub live_at : (S : State) (p : ℕ) → is_live S p ≡ true → (P : Process) × IsAt S p P
live_at S zero e = absurd (false≢true e)
live_at S (suc i) e = go (slice_get S.processes i) refl e
  where
    go : (o : Option Process) → slice_get S.processes i ≡ o → (elim o [ Some P ↦ not P.exited | None ↦ false ]) ≡ true →
        (P : Process) × IsAt S (suc i) P
    go None f h = absurd (false≢true h)
    go (Some P) f h =
        let back : suc i - 1 ≡ i = omega arith in (
          P,
          record {
            positive = omega arith;
            inside = subst (λ n. n < length S.processes) (sym back) (slice_get_within S.processes i P f);
            here = ap (slice_get S.processes) back ∙ f;
            found = f;
            live = not_true P.exited h;
          },
        )
      where
        not_true : (b : Bool) → not b ≡ true → b ≡ false
        not_true true e = absurd (false≢true e)
        not_true false e = refl

pub live_inside : (S : State) (p : ℕ) → is_live S p ≡ true → p - 1 < length S.processes
live_inside S p live = (live_at S p live).1.inside

pub live_positive : (S : State) (p : ℕ) → is_live S p ≡ true → 0 < p
live_positive S p live = (live_at S p live).1.positive

-- the process that stands in the place of a live one
pub found_process : (S : State) (p : ℕ) (P : Process) → is_live S p ≡ true → P ≡ get_or S.processes (p - 1) P → process_at S p ≡ Some P
found_process S p P live e =
    let at : IsAt S p (live_at S p live).0 = (live_at S p live).1 in
    at.found ∙ ap (λ x. Some x) (sym (e ∙ get_or_from_slice_get S.processes (p - 1) (live_at S p live).0 P at.here))

pub with_process_is : (S : State) (p : ℕ) (P : Process) → 0 < p → record S { processes = set S.processes (p - 1) P } ≡ with_process S p P
with_process_is S zero P h = absurd (omega (arith, h))
with_process_is S (suc i) P h = let back : suc i - 1 ≡ i = omega arith in ap (λ n. record S { processes = set S.processes n P }) back

-- the table of the process that stands in the place of a live one, and another put for it
pub table_here : (S : State) (p : ℕ) (P : Process) → is_live S p ≡ true → P ≡ get_or S.processes (p - 1) P → table_of S p ≡ P.table
table_here S p P live e = ap (λ o. elim o as (λ _. List (Option Descriptor)) [ Some P ↦ P.table | None ↦ [] ]) (found_process S p P live e)

pub table_put : (S : State) (p : ℕ) (P : Process) (table : List (Option Descriptor)) → is_live S p ≡ true →
    P ≡ get_or S.processes (p - 1) P →
    record S { processes = set S.processes (p - 1) (record P { table = table }) } ≡ with_table S p table
table_put S p P table live e =
    with_process_is S p (record P { table = table }) (live_positive S p live)
    ∙ sym (ap (λ o. elim o as (λ _. State) [ Some P ↦ with_process S p (record P { table = table }) | None ↦ S ])
    (found_process S p P live e))

-- a changed process that stands in the place of a live one, through the parts of a state
pub process_put : (V S : State) (p : ℕ) (R P Q : Process) (change : Process → Process) → is_live S p ≡ true → V ≡ S →
    R ≡ get_or V.processes (p - 1) R → process_at S p ≡ Some P → Q ≡ change R →
    record V { processes = set V.processes (p - 1) Q } ≡ with_process S p (change P)
process_put V S p R P Q change live same here found changed =
    let lives : is_live V p ≡ true = ap (λ U. is_live U p) same ∙ live in
    let one : Some R ≡ Some P = sym (found_process V p R lives here) ∙ ap (λ U. process_at U p) same ∙ found in
    let is : R ≡ P = cc one in
    ap (λ q. record V { processes = set V.processes (p - 1) q }) (changed ∙ ap change is)
    ∙ with_process_is V p (change P) (live_positive V p lives)
    ∙ ap (λ U. with_process U p (change P)) same

-- a process through its parts
pub at_view : (ps : List Process) (i : ℕ) (P R : Process) → P ≡ get_or ps i P → R ≡ P → R ≡ get_or ps i R
at_view ps i P R at same = subst (λ Q. Q ≡ get_or ps i Q) (sym same) at

-- ---- places

pub place_found : {X : Type 0} (xs : List (Option X)) (i : ℕ) (x : Option X) → slice_get xs i ≡ Some x → place xs i ≡ x
place_found xs i x e = get_or_from_slice_get xs i x None e

pub place_past : {X : Type 0} (xs : List (Option X)) (i : ℕ) → slice_get xs i ≡ None → place xs i ≡ None
place_past xs i e = sym (unwrap_or-slice_get xs i None) ∙ ap (λ o. unwrap_or o None) e

-- ---- whether a process is live

process_at_is : (S : State) (p : ℕ) → 0 < p → process_at S p ≡ slice_get S.processes (p - 1)
process_at_is S zero some = absurd (omega (arith, some))
process_at_is S (suc i) some = let back : i ≡ suc i - 1 = omega arith in ap (slice_get S.processes) back

-- a process that is found stands in its place, through the parts of a state
pub stands_at : (V S : State) (p : ℕ) (P : Process) → V ≡ S → process_at S p ≡ Some P → P ≡ get_or V.processes (p - 1) P
stands_at V S zero P same found = absurd (cc found)
stands_at V S (suc i) P same found =
    sym (get_or_from_slice_get V.processes (suc i - 1) P P
    (sym (process_at_is V (suc i) (omega arith)) ∙ ap (λ U. process_at U (suc i)) same ∙ found))

pub live_is : (S : State) (p : ℕ) (P : Process) → 0 < p → slice_get S.processes (p - 1) ≡ Some P → not P.exited ≡ is_live S p
live_is S p P some e = sym (ap (λ o. elim o as (λ _. Bool) [ Some P ↦ not P.exited | None ↦ false ]) (process_at_is S p some ∙ e))

pub live_none : (S : State) (p : ℕ) → 0 < p → slice_get S.processes (p - 1) ≡ None → false ≡ is_live S p
live_none S p some e = sym (ap (λ o. elim o as (λ _. Bool) [ Some P ↦ not P.exited | None ↦ false ]) (process_at_is S p some ∙ e))

pub live_zero : (S : State) (p : ℕ) → p ≤ 0 → false ≡ is_live S p
live_zero S zero none = refl
live_zero S (suc i) none = absurd (omega (arith, none))
