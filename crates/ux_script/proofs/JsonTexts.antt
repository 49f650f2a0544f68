-- The lines of calls as far as a loop has come.
use Rattle.std.proofs.Common.{◌≡◌, ℕ, ◌+◌, ◌<◌, ◌≤◌, List, [], ◌∷◌, ◌++◌, length, get_or, take, refl, ap, sym, subst, ◌∙◌, append_assoc}
use Rattle.std.proofs.Common.{arith}
use Rattle.std.specs.Prelude.{Option, None, slice_index_or}
use Rattle.std.specs.Io.KnownBytes.{Appends}
use Rattle.std.proofs.lemmas.List.{append-nil, length-take, take_more, take_all}
use Rattle.ux_model.specs.Types.{Entry}
use Rattle.ux_syntax.specs.declared.expectations.Expectation.{Expectation}
use Rattle.ux_script.specs.Comparing.{answer_at, is_met}
use Rattle.ux_script.specs.JsonLines.{CallLine, CallLines, DifferenceText, DifferenceLines}
use Rattle.ux_script.proofs.Traces.{appends_then}

-- what was written of these calls
abbrev pub Wrote : Option (List ℕ) → Option (List ℕ) → List (Option ℕ) → List Entry → Type 0
Wrote old new lines es = (text : List ℕ) × CallLines lines 0 es text × Appends old new text

-- one call more
lines_then : (lines : List (Option ℕ)) (n : ℕ) (es : List Entry) (e : Entry) (text line : List ℕ) → CallLines lines n es text
    → CallLine (n + length es) (slice_index_or lines (n + length es) None) e line → CallLines lines n (es ++ e ∷ []) (text ++ line)
lines_then lines n [] e text line so_far one =
    let here : n + 0 ≡ n = omega arith in
    let empty : text ≡ [] = so_far in
    (line, [], subst (λ (i : ℕ). CallLine i (slice_index_or lines i None) e line) here one, refl, rw empty (sym (append-nil line)))
lines_then lines n (x ∷ xs) e text line so_far one =
    let here : n + length (x ∷ xs) ≡ n + 1 + length xs = omega arith in
    let next = subst (λ (i : ℕ). CallLine i (slice_index_or lines i None) e line) here one in (
      so_far.0,
      so_far.1 ++ line,
      so_far.2,
      lines_then lines (n + 1) xs e so_far.1 line so_far.3 next,
      ap (λ (t : List ℕ). t ++ line) so_far.4 ∙ append_assoc so_far.0 so_far.1 line,
    )

pub wrote_more : (a b c : Option (List ℕ)) (lines : List (Option ℕ)) (es : List Entry) (i : ℕ) (e : Entry) (line : List ℕ) → i < length es →
    e ≡ get_or es i e
    → Wrote a b lines (take i es) → CallLine i (slice_index_or lines i None) e line → Appends b c line → Wrote a c lines (take (i + 1) es)
wrote_more a b c lines es i e line lt item so_far one more =
    let long : 0 + length (take i es) ≡ i = omega (arith, length-take i es) in
    let whole : take (i + 1) es ≡ take i es ++ e ∷ [] = take_more es i e lt ∙ ap (λ d. take i es ++ d ∷ []) (sym item) in
    let next = subst (λ (n : ℕ). CallLine n (slice_index_or lines n None) e line) (sym long) one in (
      so_far.0 ++ line,
      rw whole (lines_then lines 0 (take i es) e so_far.0 line so_far.1 next),
      appends_then a b c so_far.0 line (so_far.0 ++ line) so_far.2 more refl,
    )

pub wrote_all : (a b : Option (List ℕ)) (lines : List (Option ℕ)) (es : List Entry) (i : ℕ) → length es ≤ i → Wrote a b lines (take i es) →
    Wrote a b lines es
wrote_all a b lines es i end so_far = rw (take_all i es end) at so_far

-- what was written of these expectations
abbrev pub Compared : Option (List ℕ) → Option (List ℕ) → List (Option ℕ) → List Entry → List Expectation → Type 0
Compared old new lines es xs = (text : List ℕ) × DifferenceLines lines es xs text × Appends old new text

-- one expectation more
differences_then : (lines : List (Option ℕ)) (es : List Entry) (xs : List Expectation) (x : Expectation) (text line : List ℕ) →
    DifferenceLines lines es xs text
    → DifferenceText (is_met x.reply (answer_at x.line lines es)) x line → DifferenceLines lines es (xs ++ x ∷ []) (text ++ line)
differences_then lines es [] x text line so_far one = let empty : text ≡ [] = so_far in
    (line, [], one, refl, rw empty (sym (append-nil line)))
differences_then lines es (y ∷ ys) x text line so_far one = (
  so_far.0,
  so_far.1 ++ line,
  so_far.2,
  differences_then lines es ys x so_far.1 line so_far.3 one,
  ap (λ (t : List ℕ). t ++ line) so_far.4 ∙ append_assoc so_far.0 so_far.1 line,
)

pub compared_more : (a b c : Option (List ℕ)) (lines : List (Option ℕ)) (es : List Entry) (xs : List Expectation) (i : ℕ) (x : Expectation)
    (line : List ℕ) → i < length xs → x ≡ get_or xs i x
    → Compared a b lines es (take i xs) → DifferenceText (is_met x.reply (answer_at x.line lines es)) x line → Appends b c line →
    Compared a c lines es (take (i + 1) xs)
compared_more a b c lines es xs i x line lt item so_far one more =
    let whole : take (i + 1) xs ≡ take i xs ++ x ∷ [] = take_more xs i x lt ∙ ap (λ d. take i xs ++ d ∷ []) (sym item) in (
      so_far.0 ++ line,
      rw whole (differences_then lines es (take i xs) x so_far.0 line so_far.1 one),
      appends_then a b c so_far.0 line (so_far.0 ++ line) so_far.2 more refl,
    )

pub compared_all : (a b : Option (List ℕ)) (lines : List (Option ℕ)) (es : List Entry) (xs : List Expectation) (i : ℕ) → length xs ≤ i →
    Compared a b lines es (take i xs) → Compared a b lines es xs
compared_all a b lines es xs i end so_far = rw (take_all i xs end) at so_far
