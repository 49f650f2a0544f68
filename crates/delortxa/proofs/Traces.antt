-- A trace as far as a loop has come.
use Rattle.std.proofs.Common.{◌≡◌, ℕ, ◌+◌, ◌<◌, List, [], ◌∷◌, ◌++◌, length, get_or, take, ap, sym, ◌∙◌, append_assoc, arith}
use Rattle.std.proofs.lemmas.List.{append-nil, length-take, take_more}
use Rattle.ux_model.specs.Types.{Entry}
use Rattle.ux_trace.specs.Trace.{entry_line, trace_from, trace}

trace_from-append : (n : ℕ) (xs ys : List Entry) → trace_from n (xs ++ ys) ≡ trace_from n xs ++ trace_from (n + length xs) ys
trace_from-append n [] ys = ap (λ k. trace_from k ys) (omega arith)
trace_from-append n (x ∷ xs) ys = ap (λ t. entry_line n x ++ t)
    (trace_from-append (n + 1) xs ys ∙ ap (λ k. trace_from (n + 1) xs ++ trace_from k ys) (omega arith))
    ∙ sym (append_assoc (entry_line n x) (trace_from (n + 1) xs) (trace_from (n + length (x ∷ xs)) ys))

-- one more line
pub trace_more : (es : List Entry) (i : ℕ) (e : Entry) → i < length es → e ≡ get_or es i e →
    trace (take i es) ++ entry_line i e ≡ trace (take (i + 1) es)
trace_more es i e lt item =
    let front = take i es in
    let long : 0 + length front ≡ i = omega (arith, length-take i es) in
    let more : take (i + 1) es ≡ front ++ e ∷ [] = take_more es i e lt ∙ ap (λ d. front ++ d ∷ []) (sym item) in
    sym (ap trace more ∙ trace_from-append 0 front (e ∷ []) ∙ ap (λ k. trace front ++ trace_from k (e ∷ [])) long
    ∙ ap (λ (t : List ℕ). trace front ++ t) (append-nil (entry_line i e)))
