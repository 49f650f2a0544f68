-- The first call whose line has a number, as far as a loop has come.
use Rattle.std.proofs.Common.{◌≡◌, ℕ, suc, ◌+◌, ◌<◌, ◌≤◌, Bool, true, false, List, [], ◌∷◌, ◌++◌, length, get_or, take, drop, drop-cons}
use Rattle.std.proofs.Common.{refl, ap, sym, ◌∙◌, arith}
use Rattle.std.specs.Prelude.{Option, Some, None, nat_eq}
use Rattle.std.specs.Option.{option_eq}
use Rattle.std.proofs.lemmas.List.{drop_all, take_all, take_more, flat_map_more}
use Rattle.ux_model.specs.Types.{Entry}
use Rattle.ux_trace.specs.Echoes.{answer}
use Rattle.ux_syntax.specs.declared.expectations.Expectation.{Expectation}
use Rattle.ux_script.specs.Comparing.{is_line, answer_at, difference, differences}

-- what is looked for among these calls is what is looked for among all
abbrev pub IsLeft : ℕ → List (Option ℕ) → List Entry → List (Option ℕ) → List Entry → Type 0
IsLeft n left rest lines es = answer_at n left rest ≡ answer_at n lines es

pub is_line_number : (n : ℕ) (line : Option ℕ) → is_line n line ≡ option_eq nat_eq line (Some n)
is_line_number n None = refl
is_line_number n (Some m) = refl

-- the next call
front : (es : List Entry) (i : ℕ) (e : Entry) → i < length es → e ≡ get_or es i e → drop i es ≡ e ∷ drop (suc i) es
front es i e lt item = drop-cons es i e lt ∙ ap (λ d. d ∷ drop (suc i) es) (sym item)

next : (n : ℕ) (left lines more : List (Option ℕ)) (line : Option ℕ) (es : List Entry) (i : ℕ) (e : Entry) →
    IsLeft n left (drop i es) lines es → left ≡ line ∷ more
    → i < length es → e ≡ get_or es i e → IsLeft n (line ∷ more) (e ∷ drop (suc i) es) lines es
next n left lines more line es i e h is lt item = rw (is, front es i e lt item) at h

pub found : (n : ℕ) (left lines more : List (Option ℕ)) (line : Option ℕ) (es : List Entry) (i : ℕ) (e : Entry) →
    IsLeft n left (drop i es) lines es → left ≡ line ∷ more
    → i < length es → e ≡ get_or es i e → is_line n line ≡ true → Some (answer e) ≡ answer_at n lines es
found n left lines more line es i e h is lt item same = rw same at (next n left lines more line es i e h is lt item)

pub passed_over : (n : ℕ) (left lines more : List (Option ℕ)) (line : Option ℕ) (es : List Entry) (i : ℕ) (e : Entry) →
    IsLeft n left (drop i es) lines es → left ≡ line ∷ more
    → i < length es → e ≡ get_or es i e → is_line n line ≡ false → IsLeft n more (drop (i + 1) es) lines es
passed_over n left lines more line es i e h is lt item other =
    let step : i + 1 ≡ suc i = omega arith in
    rw step (rw other at (next n left lines more line es i e h is lt item))

pub no_line : (n : ℕ) (left lines : List (Option ℕ)) (es : List Entry) (i : ℕ) (e : Entry) → IsLeft n left (drop i es) lines es →
    length left ≡ 0
    → i < length es → e ≡ get_or es i e → None ≡ answer_at n lines es
no_line n left lines es i e h none lt item =
    let empty : left ≡ [] = drop_all 0 left (omega (arith, none)) in
    rw (empty, front es i e lt item) at h

pub no_call : (n : ℕ) (left lines : List (Option ℕ)) (es : List Entry) (i : ℕ) → IsLeft n left (drop i es) lines es → length es ≤ i →
    None ≡ answer_at n lines es
no_call n left lines es i h end = let empty : drop i es ≡ [] = drop_all i es end in rw empty at h

-- one more expectation
pub more_differences : (lines : List (Option ℕ)) (es : List Entry) (expected : List Expectation) (i : ℕ) (x : Expectation)
    (got : Option (List ℕ)) (before after : List ℕ)
    → before ≡ differences lines es (take i expected) → i < length expected → x ≡ get_or expected i x → got ≡ answer_at x.line lines es
    → after ≡ before ++ difference x got → after ≡ differences lines es (take (i + 1) expected)
more_differences lines es expected i x got before after so_far lt item said e =
    let more : take (i + 1) expected ≡ take i expected ++ x ∷ [] = take_more expected i x lt
    ∙ ap (λ d. take i expected ++ d ∷ []) (sym item) in
    e ∙ rw (more, so_far, said) (flat_map_more (λ (y : Expectation). difference y (answer_at y.line lines es)) [] (take i expected) x)

pub all_differences : (lines : List (Option ℕ)) (es : List Entry) (expected : List Expectation) (i : ℕ) (text : List ℕ)
    → text ≡ differences lines es (take i expected) → length expected ≤ i → text ≡ differences lines es expected
all_differences lines es expected i text so_far end = so_far ∙ ap (differences lines es) (take_all i expected end)
