-- Rows that grow and change place by place.
use Rattle.std.proofs.Common.{◌≡◌, ◌≢◌, ℕ, zero, suc, ◌<◌, ◌≤◌, ◌==◌, cond, List, [], ◌∷◌, ◌++◌, length, get_or, set, Option, None, Some}
use Rattle.std.proofs.Common.{Result, Ok, Err, OnOk, refl, ap, sym, ◌∙◌, Bool, arith}
use Rattle.std.specs.Prelude.{IfOk, IfSome}
use Rattle.std.specs.List.{slice_get}
use Rattle.std.proofs.lemmas.Bool.{eqb-true, eqb-false}
use Rattle.std.specs.Global.{Vec}
use Rattle.ux_model.specs.Places.{place}
use Rattle.ux_model.proofs.Lists.ChangedPlaces.{bool_cases}
use Rattle.ux_audit.specs.Flags.{flag_in, flag_at}
use Rattle.ux_audit.specs.Givers.{items_in, items_at}

pub OnOk_then : {T E P Q : Type 0} (r : Result T E) → OnOk r P → (P → Q) → OnOk r Q
OnOk_then (Ok x) h f = f h
OnOk_then (Err e) h f = tt

pub IfOk_then : {X E : Type 0} {P Q : X → Type 0} (r : Result (Option X) E) → IfOk r (λ o. IfSome o P) → ((x : X) → P x → Q x) →
    IfOk r (λ o. IfSome o Q)
IfOk_then (Ok None) h f = tt
IfOk_then (Ok (Some x)) h f = f x h
IfOk_then (Err e) h f = tt

-- ---- places

-- one more empty place changes nothing
pub place-push : {X : Type 0} (xs : List (Option X)) (k : ℕ) → place (xs ++ None ∷ []) k ≡ place xs k
place-push [] zero = refl
place-push [] (suc k) = refl
place-push (x ∷ xs) zero = refl
place-push (x ∷ xs) (suc k) = place-push xs k

-- ---- lists by number

-- one more list, which is empty, changes nothing
pub items_at-push : {X : Type 0} (lists : List (Vec X)) (more : Vec X) (k : ℕ) → more.items ≡ [] →
    items_at (lists ++ more ∷ []) k ≡ items_at lists k
items_at-push [] more zero h = h
items_at-push [] more (suc k) h = refl
items_at-push (l ∷ lists) more zero h = refl
items_at-push (l ∷ lists) more (suc k) h = items_at-push lists more k h

-- a list that was read
pub items_at-read : {X : Type 0} (lists : List (Vec X)) (p : ℕ) (row : Vec X) → p < length lists → row ≡ get_or lists p row →
    row.items ≡ items_at lists p
items_at-read [] p row h e = absurd (omega (arith, h))
items_at-read (l ∷ lists) zero row h e = ap (λ (r : Vec _). r.items) e
items_at-read (l ∷ lists) (suc p) row h e = items_at-read lists p row (omega (arith, h)) e

items_at-same : {X : Type 0} (lists : List (Vec X)) (p : ℕ) (row : Vec X) → p < length lists → items_at (set lists p row) p ≡ row.items
items_at-same [] p row h = absurd (omega (arith, h))
items_at-same (l ∷ lists) zero row h = refl
items_at-same (l ∷ lists) (suc p) row h = items_at-same lists p row (omega (arith, h))

items_at-other : {X : Type 0} (lists : List (Vec X)) (p q : ℕ) (row : Vec X) → p ≢ q → items_at (set lists p row) q ≡ items_at lists q
items_at-other [] p q row h = refl
items_at-other (l ∷ lists) zero zero row h = absurd (h refl)
items_at-other (l ∷ lists) zero (suc q) row h = refl
items_at-other (l ∷ lists) (suc p) zero row h = refl
items_at-other (l ∷ lists) (suc p) (suc q) row h = items_at-other lists p q row (λ e. h (ap suc e))

-- another list in the place of one
pub items_at-set : {X : Type 0} (lists : List (Vec X)) (p q : ℕ) (row : Vec X) → p < length lists →
    items_at (set lists p row) q ≡ cond (p == q) row.items (items_at lists q)
items_at-set lists p q row h = bool_cases (p == q)
    (λ e.
    let same : p ≡ q = eqb-true p q e in
    ap (λ (k : ℕ). items_at (set lists p row) k) (sym same) ∙ items_at-same lists p row h
    ∙ sym (ap (λ b. cond b row.items (items_at lists q)) e))
    (λ e. items_at-other lists p q row (eqb-false p q e) ∙ sym (ap (λ b. cond b row.items (items_at lists q)) e))

pub items_past : {X : Type 0} (lists : List (Vec X)) (k : ℕ) → length lists ≤ k → items_at lists k ≡ []
items_past [] k h = refl
items_past (l ∷ lists) zero h = absurd (omega (arith, h))
items_past (l ∷ lists) (suc k) h = items_past lists k (omega (arith, h))

-- ---- flags

-- what a list of places has at one of them
pub mark_is : (tables : List (Vec (Option Bool))) (p n : ℕ) → flag_at tables p n ≡ place (items_at tables p) n
mark_is tables p n = go (slice_get tables p)
  where
    go : (o : Option (Vec (Option Bool))) → flag_in o n ≡ place (items_in o) n
    go None = refl
    go (Some row) = refl

pub flag_at-push : (tables : List (Vec (Option Bool))) (row : Vec (Option Bool)) (q n : ℕ) → row.items ≡ [] →
    flag_at (tables ++ row ∷ []) q n ≡ flag_at tables q n
flag_at-push tables row q n h = mark_is (tables ++ row ∷ []) q n ∙ ap (λ xs. place xs n) (items_at-push tables row q h)
    ∙ sym (mark_is tables q n)

-- one row in another's place, of which each place is known
pub flag_at-set : (tables : List (Vec (Option Bool))) (p q n : ℕ) (row : Vec (Option Bool)) (here : Option Bool) → p < length tables →
    (p ≡ q → place row.items n ≡ here) →
    flag_at (set tables p row) q n ≡ cond (p == q) here (flag_at tables q n)
flag_at-set tables p q n row here h each = mark_is (set tables p row) q n ∙ ap (λ xs. place xs n) (items_at-set tables p q row h)
    ∙ bool_cases (p == q)
    (λ e. ap (λ b. place (cond b row.items (items_at tables q)) n) e ∙ each (eqb-true p q e)
    ∙ sym (ap (λ b. cond b here (flag_at tables q n)) e))
    (λ e. ap (λ b. place (cond b row.items (items_at tables q)) n) e ∙ sym (mark_is tables q n)
    ∙ sym (ap (λ b. cond b here (flag_at tables q n)) e))

-- a row that was read
pub mark_at_read : (tables : List (Vec (Option Bool))) (p n : ℕ) (row : Vec (Option Bool)) → p < length tables → row ≡ get_or tables p row →
    place row.items n ≡ flag_at tables p n
mark_at_read tables p n row h e = ap (λ xs. place xs n) (items_at-read tables p row h e) ∙ sym (mark_is tables p n)
