-- Words as a loop reads them.
use Rattle.std.proofs.Common.{◌≡◌, ℕ, ◌+◌, ◌-◌, ◌*◌, ◌≤◌, length, get_or, take, drop, arith, List, [], ◌∷◌, ◌++◌, Result, Ok, Err, refl, ap}
use Rattle.std.proofs.Common.{sym, ◌∙◌, append_assoc}
use Rattle.std.proofs.lemmas.List.{take_all}
use Rattle.ux_syntax.specs.declared.fault.Fault.{Fault}
use Rattle.ux_syntax.specs.Reading.{◌>>=◌, digit_at, pairs_at}

-- what was read before, and what is still read
abbrev pub with_front : {A : Type 0} → List A → Result (List A) Fault → Result (List A) Fault
with_front front read = read >>= λ x. Ok (front ++ x)

pub regroup : {A : Type 0} (front : List A) (n : A) (read : Result (List A) Fault) →
    with_front front (read >>= λ x. Ok (n ∷ x)) ≡ with_front (front ++ n ∷ []) read
regroup {A = A} front n (Ok x) = ap (λ (ns : List A). Ok ns) (simp append_assoc)
regroup front n (Err f) = refl

pub pairs_more : (front rest : List ℕ) (high low : ℕ) (total : Result (List ℕ) Fault) → 2 ≤ length rest →
    digit_at (get_or rest 0 0) ≡ Ok high → digit_at (get_or rest 1 0) ≡ Ok low
    → with_front front (pairs_at rest) ≡ total →
    with_front (front ++ (16 * high + low) ∷ []) (pairs_at (take (length rest - 2) (drop 2 rest))) ≡ total
pairs_more front [] high low total long p q so_far = absurd (omega arith)
pairs_more front (h ∷ []) high low total long p q so_far = absurd (omega arith)
pairs_more front (h ∷ l ∷ rest) high low total long p q so_far =
    let one : with_front front (pairs_at (h ∷ l ∷ rest)) ≡ with_front (front ++ (16 * high + low) ∷ []) (pairs_at rest) =
    rw (p, q) (regroup front (16 * high + low) (pairs_at rest)) in
    let same : take (length (h ∷ l ∷ rest) - 2) rest ≡ rest = take_all _ rest (omega arith) in
    rw same (sym one ∙ so_far)
