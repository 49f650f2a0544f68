-- What is written in place of letters begins no tag.
use Rattle.std.proofs.Common.{◌≡◌, ℕ, Bool, true, false, not, ◌&&◌, ◌==◌, if◌then◌else◌, List, [], ◌∷◌, ◌++◌, refl, ap, ◌∙◌}
use Rattle.std.specs.Prelude.{codes}
use Rattle.std.proofs.lemmas.Bool.{and_parts}
use Rattle.std.specs.List.{flat_map}
use Rattle.ux_page.specs.Escaping.{between_tags, in_script, begins_no_tag, TextStaysText}

joined : (xs ys : List ℕ) → begins_no_tag xs ≡ true → begins_no_tag ys ≡ true → begins_no_tag (xs ++ ys) ≡ true
joined [] ys first second = second
joined (x ∷ xs) ys first second = let parts = and_parts (not (x == 60)) (begins_no_tag xs) first in
    ap (λ b. b && begins_no_tag (xs ++ ys)) parts.0 ∙ joined xs ys parts.1 second

each : (text : ℕ → List ℕ) → ((letter : ℕ) → begins_no_tag (text letter) ≡ true) → (letters : List ℕ) →
    begins_no_tag (flat_map text letters) ≡ true
each text safe [] = refl
each text safe (letter ∷ letters) = joined (text letter) (flat_map text letters) (safe letter) (each text safe letters)

references : (letter : ℕ) → begins_no_tag (between_tags letter) ≡ true
references letter = go (letter == 38) (letter == 60) refl (letter == 62)
  where
    go : (amp less : Bool) → (letter == 60) ≡ less → (more : Bool) →
        begins_no_tag (if amp then codes "&amp;" else (if less then codes "&lt;" else (if more then codes "&gt;" else letter ∷ []))) ≡ true
    go true less is more = refl
    go false true is more = refl
    go false false is true = refl
    go false false is false = ap (λ b. not b && true) is

escapes : (letter : ℕ) → begins_no_tag (in_script letter) ≡ true
escapes letter = go (letter == 60) refl
  where
    go : (less : Bool) → (letter == 60) ≡ less → begins_no_tag (if less then codes "\\u003c" else letter ∷ []) ≡ true
    go true is = refl
    go false is = ap (λ b. not b && true) is

pub text_stays_text : TextStaysText
text_stays_text letters = (each between_tags references letters, each in_script escapes letters)
