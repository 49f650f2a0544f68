-- How long the lines of a script may be.
use Rattle.std.proofs.Common.{◌≡◌, ◌⊎◌, ℕ, suc, ◌≤◌, Bool, true, false, cond, ◌&&◌, ◌||◌}
use Rattle.std.proofs.Common.{List, [], ◌∷◌, ◌++◌, length, map, filter, take, codes, Result, Ok, Err, refl, ap, sym, ◌∙◌, subst}
use Rattle.std.proofs.Common.{append_assoc, arith, inl, inr}
use Rattle.std.specs.List.{AllByRecursion}
use Rattle.std.proofs.lemmas.List.{append-nil}
use Rattle.ux_syntax.specs.declared.fault.Fault.{Fault}
use Rattle.ux_syntax.specs.declared.fault.ScriptFault.{ScriptFault}
use Rattle.ux_syntax.specs.Text.{plain_line}
use Rattle.ux_syntax.specs.Spelling.{Plan}
use Rattle.ux_syntax.specs.Spelling.{serial_lines, is_meant, line_limit}
use Rattle.ux_syntax.specs.Spelling.{AreShort}

pub each_more : {X : Type 0} (P : X → Type 0) (xs : List X) (x : X) → AllByRecursion P xs → P x → AllByRecursion P (xs ++ x ∷ [])
each_more P [] x h p = (p, tt)
each_more P (y ∷ ys) x h p = (h.0, each_more P ys x h.1 p)

pub each_less : {X : Type 0} (P : X → Type 0) (xs : List X) (x : X) → AllByRecursion P (xs ++ x ∷ []) → AllByRecursion P xs × P x
each_less P [] x h = (tt, h.0)
each_less P (y ∷ ys) x h = let p = each_less P ys x h.1 in ((h.0, p.0), p.1)

abbrev pub HasLast : {X : Type 0} → List X → Type 0
HasLast {X} xs = (ys : List X) × (y : X) × (xs ≡ ys ++ y ∷ [])

last_more : {X : Type 0} (x : X) (xs : List X) → (xs ≡ []) ⊎ HasLast xs → HasLast (x ∷ xs)
last_more {X = X} x xs (inl e) = ([], x, ap (λ (ys : List X). x ∷ ys) e)
last_more {X = X} x xs (inr h) = (x ∷ h.0, h.1, ap (λ (ys : List X). x ∷ ys) h.2)

pub last_view : {X : Type 0} (xs : List X) → (xs ≡ []) ⊎ HasLast xs
last_view [] = inl refl
last_view (x ∷ xs) = inr (last_more x xs (last_view xs))

pub same_ends : {X : Type 0} (xs ys : List X) (x y : X) → xs ++ x ∷ [] ≡ ys ++ y ∷ [] → (xs ≡ ys) × (x ≡ y)
same_ends [] [] x y e = (refl, cc)
same_ends [] (b ∷ []) x y e = absurd cc
same_ends [] (b ∷ c ∷ ys) x y e = absurd cc
same_ends (a ∷ []) [] x y e = absurd cc
same_ends (a ∷ c ∷ xs) [] x y e = absurd cc
same_ends {X = X} (a ∷ xs) (b ∷ ys) x y e =
    let head : a ≡ b = cc in
    let tail : xs ++ x ∷ [] ≡ ys ++ y ∷ [] = cc in
    let p = same_ends xs ys x y tail in
    (ap (λ (z : X). z ∷ xs) head ∙ ap (λ (zs : List X). b ∷ zs) p.0, p.1)

-- what holds of no line, and with each further line, holds of all lines
pub by_lines_from : (P : List (List ℕ) → Type 0) → ((ls : List (List ℕ)) (l : List ℕ) → P ls → P (ls ++ l ∷ [])) →
    (front rest : List (List ℕ)) → P front → P (front ++ rest)
by_lines_from P step front [] h = subst P (sym (append-nil front)) h
by_lines_from P step front (l ∷ ls) h = subst P (append_assoc front (l ∷ []) ls)
    (by_lines_from P step (front ++ l ∷ []) ls (step front l h))

abbrev read_plan : Plan → Result Plan ScriptFault
read_plan s = Ok s

abbrev no_plan : ScriptFault → Result Plan ScriptFault
no_plan e = Err e

pub same_plan : (s t : Plan) → read_plan s ≡ read_plan t → s ≡ t
same_plan s t e = cc

pub same_fault : (e f : ScriptFault) → no_plan e ≡ no_plan f → e ≡ f
same_fault e f k = cc

pub ok_no_err : (s : Plan) (e : ScriptFault) → read_plan s ≡ no_plan e → ⊥
ok_no_err s e k = cc

pub not_both : (r : Result Plan Fault) (f : Fault) (t : Plan) → r ≡ Err f → r ≡ Ok t → ⊥
not_both r f t a b = cc

pub no_end : (xs : List (List ℕ)) (x : List ℕ) → xs ++ x ∷ [] ≡ [] → ⊥
no_end [] x e = cc
no_end (y ∷ ys) x e = cc

pub take_next : (front : List (List ℕ)) (l : List ℕ) (ls : List (List ℕ)) → take (suc (length front)) (front ++ l ∷ ls) ≡ front ++ l ∷ []
take_next [] l ls = refl
take_next (x ∷ xs) l ls = ap (λ (ys : List (List ℕ)). x ∷ ys) (take_next xs l ls)

-- ---- how long lines are

-- whether a line behind these comes behind one that says something
abbrev pub behind_all : Bool → List (List ℕ) → Bool
behind_all behind [] = behind
behind_all behind (l ∷ ls) = behind_all (behind || is_meant l) ls

pub short_more : (serial behind : Bool) (ls : List (List ℕ)) (l : List ℕ) → AreShort serial behind ls →
    length l ≤ line_limit (serial && behind_all behind ls) → AreShort serial behind (ls ++ l ∷ [])
short_more serial behind [] l h p = (p, tt)
short_more serial behind (x ∷ xs) l h p = (h.0, short_more serial (behind || is_meant x) xs l h.1 p)

pub short_less : (serial behind : Bool) (ls : List (List ℕ)) (l : List ℕ) → AreShort serial behind (ls ++ l ∷ []) →
    AreShort serial behind ls × (length l ≤ line_limit (serial && behind_all behind ls))
short_less serial behind [] l h = (tt, h.0)
short_less serial behind (x ∷ xs) l h = let p = short_less serial (behind || is_meant x) xs l h.1 in ((h.0, p.0), p.1)

behind_true : (ls : List (List ℕ)) → behind_all true ls ≡ true
behind_true [] = refl
behind_true (l ∷ ls) = behind_true ls

-- the plain lines of those that say something
abbrev pub meant_lines : List (List ℕ) → List (List ℕ)
meant_lines ls = map plain_line (filter is_meant ls)

behind_some : (ls : List (List ℕ)) (x : List ℕ) (xs : List (List ℕ)) → meant_lines ls ≡ x ∷ xs → behind_all false ls ≡ true
behind_some [] x xs e = absurd cc
behind_some (l ∷ ls) x xs e = go (is_meant l) (behind_some ls x xs) e
  where
    go : (m : Bool) → (meant_lines ls ≡ x ∷ xs → behind_all false ls ≡ true) →
        map plain_line (cond m (l ∷ filter is_meant ls) (filter is_meant ls)) ≡ x ∷ xs → behind_all m ls ≡ true
    go true later k = behind_true ls
    go false later k = later k

pub behind_none : (ls : List (List ℕ)) → meant_lines ls ≡ [] → behind_all false ls ≡ false
behind_none [] e = refl
behind_none (l ∷ ls) e = go (is_meant l) (behind_none ls) e
  where
    go : (m : Bool) → (meant_lines ls ≡ [] → behind_all false ls ≡ false) →
        map plain_line (cond m (l ∷ filter is_meant ls) (filter is_meant ls)) ≡ [] → behind_all m ls ≡ false
    go true later k = absurd cc
    go false later k = later k

-- the common limit is the least
pub common_least : (serial : Bool) (n : ℕ) → n ≤ 4096 → n ≤ line_limit serial
common_least true n h = omega (arith, h)
common_least false n h = h

pub limit_within : (serial behind : Bool) (n : ℕ) → n ≤ line_limit (serial && behind) → n ≤ line_limit serial
limit_within true true n h = h
limit_within true false n h = omega (arith, h)
limit_within false behind n h = h

-- a first line has the common limit
pub common_first : (serial : Bool) → line_limit (serial && false) ≡ 4096
common_first true = refl
common_first false = refl

-- where no line says anything, all have the common limit
pub short_as : (serial other : Bool) (ls : List (List ℕ)) → meant_lines ls ≡ [] → AreShort serial false ls → AreShort other false ls
short_as serial other [] e h = tt
short_as serial other (l ∷ ls) e h = (
  subst (λ n. length l ≤ n) (common_first serial ∙ sym (common_first other)) h.0,
  go (is_meant l) (short_as serial other ls) e h.1,
)
  where
    go : (m : Bool) → (meant_lines ls ≡ [] → AreShort serial false ls → AreShort other false ls) →
        map plain_line (cond m (l ∷ filter is_meant ls) (filter is_meant ls)) ≡ [] → AreShort serial m ls → AreShort other m ls
    go true later k p = absurd cc
    go false later k p = later k p

-- behind the lines of a script its own limit holds
pub limit_is : (ls rest : List (List ℕ)) (serial : Bool) → meant_lines ls ≡ serial_lines serial ++ rest →
    line_limit (serial && behind_all false ls) ≡ line_limit serial
limit_is ls rest true e = ap (λ (b : Bool). line_limit b) (behind_some ls (codes "serial") rest e)
limit_is ls rest false e = refl
