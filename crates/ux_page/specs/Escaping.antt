-- Text in a page (HTML, Living Standard, sections 13.1.2 to 13.1.4).
use Rattle.std.specs.Prelude.{◌≡◌, ℕ, Bool, true, not, ◌&&◌, ◌==◌, if◌then◌else◌, List, [], ◌∷◌, codes}
use Rattle.std.specs.List.{flat_map}

-- a letter between tags: `&`, `<` and `>` as references, every other as itself
abbrev pub between_tags : ℕ → List ℕ
between_tags letter =
    if letter == 38 then codes "&amp;"
    else (if letter == 60 then codes "&lt;"
    else (if letter == 62 then codes "&gt;" else letter ∷ []))

-- a letter of JSON in a script: `<`, which stands in its strings alone, as an escape of these
abbrev pub in_script : ℕ → List ℕ
in_script letter = if letter == 60 then codes "\\u003c" else letter ∷ []

-- no letter is a `<`, with which each tag, each comment and each end of a script begins
abbrev pub begins_no_tag : List ℕ → Bool
begins_no_tag [] = true
begins_no_tag (letter ∷ letters) = not (letter == 60) && begins_no_tag letters

-- so it is with text in a page, whatever its letters are
abbrev pub TextStaysText : Type 0
TextStaysText = (letters : List ℕ) →
    (begins_no_tag (flat_map between_tags letters) ≡ true) × (begins_no_tag (flat_map in_script letters) ≡ true)
