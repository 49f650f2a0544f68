-- What boot states have and each further entry keeps holds at the end of every legal history.
use Rattle.std.proofs.Common.{◌≡◌, ℕ, zero, suc, true, List, [], ◌∷◌, ◌++◌, length, take, Option, Some, None, refl, ap, sym, subst, arith}
use Rattle.std.specs.List.{slice_get}
use Rattle.std.proofs.lemmas.List.{take_all}
use Rattle.ux_model.specs.Types.{Entry}
use Rattle.ux_model.specs.State.{State}
use Rattle.ux_model.specs.Boot.{IsBootState}
use Rattle.ux_model.specs.Step.{Step}
use Rattle.ux_model.specs.History.{replay, is_allowed, IsLegal, MayFollow}
use Rattle.ux_model.proofs.Lists.Fronts.{front_is_legal}

-- of a property of the entries so far and the state that they lead to, where a history starts in this boot state
pub record IsKept (boot : State) (P : List Entry → State → Type 0) : Type 0 where
  pub at_boot : IsBootState boot → P [] boot
  pub by_entry : (before : List Entry) (e : Entry) (S T : State) → P before S →
      Step S e.pid.0 (length before) e.request e.reply e.released T → is_allowed S e.pid.0 e.k e.request ≡ true → P (before ++ e ∷ []) T

pub take_past : {X : Type 0} (xs : List X) (n : ℕ) → slice_get xs n ≡ None → take (suc n) xs ≡ take n xs
take_past [] zero h = refl
take_past [] (suc n) h = refl
take_past (x ∷ xs) zero h = absurd (cc h)
take_past (x ∷ xs) (suc n) h = ap (λ l. x ∷ l) (take_past xs n h)

pub take_next : {X : Type 0} (xs : List X) (n : ℕ) (x : X) → slice_get xs n ≡ Some x → take (suc n) xs ≡ take n xs ++ x ∷ []
take_next [] n x h = absurd (cc h)
take_next (y ∷ xs) zero x h = let e : y ≡ x = cc h in ap (λ z. z ∷ []) e
take_next (y ∷ xs) (suc n) x h = ap (λ l. y ∷ l) (take_next xs n x h)

kept_in_front : (boot : State) (P : List Entry → State → Type 0) → IsKept boot P → (es : List Entry) (n : ℕ) → IsLegal boot es →
    P (take n es) (replay boot (take n es))
kept_in_front boot P keeps es zero legal = keeps.at_boot legal.boots
kept_in_front boot P keeps es (suc n) legal = go (slice_get es n) refl (kept_in_front boot P keeps es n legal)
  where
    go : (o : Option Entry) → slice_get es n ≡ o → P (take n es) (replay boot (take n es)) →
        P (take (suc n) es) (replay boot (take (suc n) es))
    go None h so_far = subst (λ (l : List Entry). P l (replay boot l)) (sym (take_past es n h)) so_far
    go (Some e) h so_far =
        let may = legal.each n e h in
        subst (λ (l : List Entry). P l (replay boot l)) (sym (take_next es n e h))
        (keeps.by_entry (take n es) e (replay boot (take n es)) (replay boot (take n es ++ e ∷ [])) so_far may.steps may.allowed)

pub kept_throughout : (boot : State) (P : List Entry → State → Type 0) → IsKept boot P → (es : List Entry) → IsLegal boot es →
    P es (replay boot es)
kept_throughout boot P keeps es legal =
    subst (λ (l : List Entry). P l (replay boot l)) (take_all (length es) es (omega arith))
    (kept_in_front boot P keeps es (length es) legal)

-- ---- the last entry

pub get_pushed : {X : Type 0} (xs : List X) (x : X) → slice_get (xs ++ x ∷ []) (length xs) ≡ Some x
get_pushed [] x = refl
get_pushed (y ∷ xs) x = get_pushed xs x

pub take_pushed : {X : Type 0} (xs ys : List X) → take (length xs) (xs ++ ys) ≡ xs
take_pushed [] ys = refl
take_pushed (y ∷ xs) ys = ap (λ l. y ∷ l) (take_pushed xs ys)

pub legal_before : (boot : State) (es : List Entry) (e : Entry) → IsLegal boot (es ++ e ∷ []) → IsLegal boot es
legal_before boot es e legal = subst (IsLegal boot) (take_pushed es (e ∷ [])) (front_is_legal boot (es ++ e ∷ []) (length es) legal)

pub last_may : (boot : State) (es : List Entry) (e : Entry) → IsLegal boot (es ++ e ∷ []) → MayFollow boot es e
last_may boot es e legal = subst (λ (l : List Entry). MayFollow boot l e) (take_pushed es (e ∷ []))
    (legal.each (length es) e (get_pushed es e))
