-- A trace as far as a loop has come.
use Rattle.std.proofs.Common.{◌≡◌, ℕ, ◌+◌, ◌<◌, List, [], ◌∷◌, ◌++◌, suc, ◌-◌, length, get_or, take, drop, drop-cons, length-drop, refl, ap}
use Rattle.std.proofs.Common.{sym, ◌∙◌, append_assoc, arith}
use Rattle.std.specs.Prelude.{Option, Some, None}
use Rattle.std.specs.Io.KnownBytes.{Appends, Keeps}
use Rattle.std.proofs.lemmas.List.{append-nil, take-append-drop, length-take, take_more, take_all}
use Rattle.ux_model.specs.Types.{Entry}
use Rattle.ux_trace.specs.Trace.{entry_line, trace_from, trace}
use Rattle.ux_script.specs.Writes.{AppendsBeginning}

pub appends_then : (a b c : Option (List ℕ)) (x y z : List ℕ) → Appends a b x → Appends b c y → x ++ y ≡ z → Appends a c z
appends_then None b c x y z p q e = tt
appends_then (Some a) None c x y z p q e = elim p [ ]
appends_then (Some a) (Some b) None x y z p q e = elim q [ ]
appends_then (Some a) (Some b) (Some c) x y z p q e = q ∙ ap (λ t. t ++ y) p ∙ append_assoc a x y ∙ ap (λ t. a ++ t) e

pub keeps_then : (a b c : Option (List ℕ)) (x : List ℕ) → Appends a b x → Keeps b c → Appends a c x
keeps_then None b c x p q = tt
keeps_then (Some a) None c x p q = elim p [ ]
keeps_then (Some a) (Some b) None x p q = elim q [ ]
keeps_then (Some a) (Some b) (Some c) x p q = q ∙ p

pub appends_none : (a : Option (List ℕ)) → Appends a a []
appends_none None = tt
appends_none (Some a) = sym (append-nil a)

pub trace_from-append : (n : ℕ) (xs ys : List Entry) → trace_from n (xs ++ ys) ≡ trace_from n xs ++ trace_from (n + length xs) ys
trace_from-append n [] ys = ap (λ k. trace_from k ys) (omega arith)
trace_from-append n (x ∷ xs) ys = ap (λ t. entry_line n x ++ t)
    (trace_from-append (n + 1) xs ys ∙ ap (λ k. trace_from (n + 1) xs ++ trace_from k ys) (omega arith))
    ∙ sym (append_assoc (entry_line n x) (trace_from (n + 1) xs) (trace_from (n + length (x ∷ xs)) ys))

-- what is left of a trace, behind its first entries and the line of the next
pub trace_line : (es : List Entry) (i : ℕ) (e : Entry) → i < length es → e ≡ get_or es i e →
    (rest : List ℕ) × (trace es ≡ trace (take i es) ++ (entry_line i e ++ rest))
trace_line es i e lt item =
    let front = take i es in
    let back = drop (suc i) es in
    let parts : es ≡ front ++ e ∷ back = sym (take-append-drop i es)
    ∙ ap (λ (t : List Entry). front ++ t) (drop-cons es i e lt ∙ ap (λ d. d ∷ back) (sym item)) in
    let long : 0 + length front ≡ i = omega (arith, length-take i es) in
    (trace_from (i + 1) back, ap trace parts ∙ trace_from-append 0 front (e ∷ back) ∙ ap (λ k. trace front ++ trace_from k (e ∷ back)) long)

pub trace_more : (es : List Entry) (i : ℕ) (e : Entry) → i < length es → e ≡ get_or es i e →
    trace (take i es) ++ entry_line i e ≡ trace (take (i + 1) es)
trace_more es i e lt item =
    let front = take i es in
    let long : 0 + length front ≡ i = omega (arith, length-take i es) in
    let more : take (i + 1) es ≡ front ++ e ∷ [] = take_more es i e lt ∙ ap (λ d. front ++ d ∷ []) (sym item) in
    sym (ap trace more ∙ trace_from-append 0 front (e ∷ []) ∙ ap (λ k. trace front ++ trace_from k (e ∷ [])) long
    ∙ ap (λ (t : List ℕ). trace front ++ t) (append-nil (entry_line i e)))

-- a front of the trace and a beginning of the next line
pub line_begun : (a b c : Option (List ℕ)) (es : List Entry) (i : ℕ) (e : Entry) (line : List ℕ) → i < length es → e ≡ get_or es i e →
    line ≡ entry_line i e → Appends a b (trace (take i es)) → AppendsBeginning b c line → AppendsBeginning a c (trace es)
line_begun a b c es i e line lt item written so_far begun =
    let whole = trace_line es i e lt item in
    let front = trace (take i es) in
    let split : entry_line i e ≡ begun.0 ++ begun.1 = sym written ∙ begun.2 in (
      front ++ begun.0,
      begun.1 ++ whole.0,
      whole.1 ∙ ap (λ (t : List ℕ). front ++ (t ++ whole.0)) split ∙ ap (λ (t : List ℕ). front ++ t) (append_assoc begun.0 begun.1 whole.0)
          ∙ sym (append_assoc front begun.0 (begun.1 ++ whole.0)),
      appends_then a b c front begun.0 (front ++ begun.0) so_far begun.3 refl,
    )

-- a front of the trace
pub line_unbegun : (a b : Option (List ℕ)) (es : List Entry) (i : ℕ) (e : Entry) → i < length es → e ≡ get_or es i e →
    Appends a b (trace (take i es)) → AppendsBeginning a b (trace es)
line_unbegun a b es i e lt item so_far =
    let whole = trace_line es i e lt item in
    (trace (take i es), entry_line i e ++ whole.0, whole.1, so_far)

pub rest_split : (bytes front rest : List ℕ) (n : ℕ) → bytes ≡ front ++ rest →
    bytes ≡ (front ++ take n rest) ++ take (length rest - n) (drop n rest)
rest_split bytes front rest n e =
    let all : take (length rest - n) (drop n rest) ≡ drop n rest = take_all _ (drop n rest) (omega (arith, length-drop n rest)) in
    rw (all, append_assoc front (take n rest) (drop n rest), take-append-drop n rest) e
