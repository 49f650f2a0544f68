-- Lists that are kept in two parts, the first of which is filled first, are equal exactly where both parts are.
use Rattle.std.proofs.Common.{◌≡◌, ◌≤◌, ◌<◌, ◌==◌, ◌++◌, ◌&&◌, ℕ, zero, suc, Bool, true, false, List, [], ◌∷◌, length, refl, ap, sym, subst, ◌∙◌, arith}
use Rattle.std.specs.Cmp.Lexicographic.{pointwise}

joined_and : (e p q : Bool) → ((e && p) && q) ≡ (e && (p && q))
joined_and true p q = refl
joined_and false p q = refl

pub joined_equal : (n : ℕ) (a b c d : List ℕ) → length a ≤ n → length c ≤ n → (length a < n → b ≡ []) → (length c < n → d ≡ []) →
    (pointwise ◌==◌ a c && pointwise ◌==◌ b d) ≡ pointwise ◌==◌ (a ++ b) (c ++ d)
joined_equal n [] b [] d la lc ea ec = refl
joined_equal n [] b (y ∷ ys) d la lc ea ec =
    subst (λ (l : List ℕ). false ≡ pointwise ◌==◌ l (y ∷ (ys ++ d))) (sym (ea (omega (arith, lc)))) refl
joined_equal n (x ∷ xs) b [] d la lc ea ec =
    subst (λ (l : List ℕ). false ≡ pointwise ◌==◌ (x ∷ (xs ++ b)) l) (sym (ec (omega (arith, la)))) refl
joined_equal zero (x ∷ xs) b (y ∷ ys) d la lc ea ec = absurd (omega (arith, la))
joined_equal (suc m) (x ∷ xs) b (y ∷ ys) d la lc ea ec =
    joined_and (x == y) (pointwise ◌==◌ xs ys) (pointwise ◌==◌ b d)
    ∙ ap (λ (q : Bool). (x == y) && q)
    (joined_equal m xs b ys d (omega (arith, la)) (omega (arith, lc)) (λ h. ea (omega (arith, h))) (λ h. ec (omega (arith, h))))
