-- The lines that the lines of a text stand for.
use Rattle.std.proofs.Common.{◌≡◌, ℕ, Bor, List, [], ◌∷◌, ◌++◌, map, refl, ap}
use Rattle.std.specs.List.{flat_map}
use Rattle.ux_syntax.specs.Spelling.{lines_of}
use Rattle.ux_syntax.specs.Tidy.{tidy_line, feed, tidy_text}

pub flat_of_map : {A B C : Type 0} (f : B → List C) (g : A → B) (l : List A) → flat_map (λ a. f (g a)) l ≡ flat_map f (map g l)
flat_of_map f g [] = refl
flat_of_map f g (a ∷ l) = ap (λ m. f (g a) ++ m) (flat_of_map f g l)

-- the first line was read, and with the others it is all
pub begun : (text line : List ℕ) (lines rest : List (Bor (List ℕ))) (first : Bor (List ℕ)) →
    map (λ l. l.now) lines ≡ lines_of text → lines ≡ first ∷ rest → line ≡ tidy_line first.now →
    line ++ flat_map (λ (l : Bor (List ℕ)). feed (tidy_line l.now)) rest ≡ tidy_text text
begun text line lines rest first split is tidy =
    rw (tidy, ← split, is) (ap (λ m. tidy_line first.now ++ m) (flat_of_map (λ l. feed (tidy_line l)) (λ (l : Bor (List ℕ)). l.now) rest))
