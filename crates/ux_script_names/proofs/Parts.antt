-- What the parts of a text stand for.
use Rattle.std.proofs.Common.{◌≡◌, ℕ, ◌==◌, Bor, List, [], ◌∷◌, ◌++◌, map, drop, refl, ap, sym, ◌∙◌, append_assoc}
use Rattle.std.specs.List.{flat_map, slice_split}
use Rattle.ux_syntax.proofs.Tidying.{flat_of_map}
use Rattle.ux_script_names.specs.Words.{joined, each_between}

-- the first was added, and with the others it is all
pub begun : (separator : ℕ) (stands : List ℕ → List ℕ) (text old out : List ℕ) (parts rest : List (Bor (List ℕ))) (first : Bor (List ℕ)) →
    map (λ p. p.now) parts ≡ slice_split (λ b. b == separator) text → parts ≡ first ∷ rest → out ≡ old ++ stands first.now →
    out ++ flat_map (λ (p : Bor (List ℕ)). separator ∷ stands p.now) rest ≡ old ++ each_between separator stands text
begun separator stands text old out parts rest first split is added =
    rw (added, ← split, is)
    (append_assoc old (stands first.now) (flat_map (λ (p : Bor (List ℕ)). separator ∷ stands p.now) rest)
    ∙ ap (λ m. old ++ (stands first.now ++ m)) (flat_of_map (λ p. separator ∷ stands p) (λ (p : Bor (List ℕ)). p.now) rest))
