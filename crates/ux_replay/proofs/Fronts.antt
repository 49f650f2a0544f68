-- Calls that are the first of others, and those that follow them.
use Rattle.std.proofs.Common.{◌≡◌, ◌≤◌, ℕ, zero, suc, Bool, true, false, List, [], ◌∷◌, ◌++◌, length, refl, sym, ap, ◌∙◌, append_assoc, inl}
use Rattle.std.proofs.Common.{inr, ◌⊎◌, ⊎_elim, arith}
use Rattle.std.specs.Prelude.{if◌then◌else◌}
use Rattle.std.proofs.lemmas.List.{append_cancel_left}
use Rattle.ux_model.specs.Types.{Request}
use Rattle.ux_syntax.specs.Spelling.{Plan}
use Rattle.ux_syntax.specs.Turns.{has_exited}
use Rattle.ux_replay.specs.Runs.{IsFront, ending}

pub front_more : (a b c : List Request) → IsFront a b → IsFront a (b ++ c)
front_more a b c front = (front.0 ++ c, sym (append_assoc a front.0 c) ∙ ap (λ (t : List Request). t ++ c) front.1)

-- of two wholes that begin alike, one is the other exactly where what follows is the same
pub same_behind : (a b c whole : List Request) → a ++ b ≡ whole → (b ≡ c → whole ≡ a ++ c) × (whole ≡ a ++ c → b ≡ c)
same_behind a b c whole e =
    (λ same. sym e ∙ ap (λ (t : List Request). a ++ t) same, λ same. append_cancel_left a b c (e ∙ same))

-- what begins a list and at most one thing more begins the list, or is all of it
pub front_or_all : (r a e : List Request) → length e ≤ 1 → IsFront r (a ++ e) → IsFront r a ⊎ (r ≡ a ++ e)
front_or_all [] a e few front = inl (a, refl)
front_or_all (x ∷ r) [] [] few front = inl (front.0, front.1)
front_or_all (x ∷ []) [] (y ∷ []) few front = let all : x ∷ front.0 ≡ y ∷ [] = front.1 in
    inr (let head : x ≡ y = cc in ap (λ (z : Request). z ∷ []) head)
front_or_all (x ∷ z ∷ r) [] (y ∷ []) few front = let all : x ∷ z ∷ (r ++ front.0) ≡ y ∷ [] = front.1 in absurd cc
front_or_all (x ∷ r) [] (y ∷ w ∷ e) few front = absurd (omega arith)
front_or_all (x ∷ r) (y ∷ a) e few front =
    let all : x ∷ (r ++ front.0) ≡ y ∷ (a ++ e) = front.1 in
    let head : x ≡ y = cc in
    let tail : r ++ front.0 ≡ a ++ e = cc in
    ⊎_elim {C = IsFront (x ∷ r) (y ∷ a) ⊎ (x ∷ r ≡ y ∷ (a ++ e))}
    (λ f. inl (f.0, ap (λ (t : Request). t ∷ (r ++ f.0)) head ∙ ap (λ (t : List Request). y ∷ t) f.1))
    (λ s. inr (ap (λ (t : Request). t ∷ r) head ∙ ap (λ (t : List Request). y ∷ t) s))
    (front_or_all r a e few (front.0, tail))

-- one call at most
ending_by : (b : Bool) (xs ys : List Request) → length xs ≤ 1 → length ys ≤ 1 → length (if b then xs else ys) ≤ 1
ending_by true xs ys one other = one
ending_by false xs ys one other = other

pub ending_short : (s : Plan) (p : ℕ) → length (ending s p) ≤ 1
ending_short s zero = ending_by s.off (Request.Off ∷ []) [] (omega arith) (omega arith)
ending_short s (suc p) = ending_by (has_exited s.lines (suc p)) [] (Request.Exit ∷ []) (omega arith) (omega arith)
