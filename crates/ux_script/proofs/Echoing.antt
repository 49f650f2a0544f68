-- A history beside its script as far as a loop has come.
use Rattle.std.proofs.Common.{◌≡◌, ℕ, zero, suc, ◌+◌, ◌<◌, List, [], ◌∷◌, ◌++◌, length, get_or, take, refl, ap, sym, ◌∙◌, append_assoc}
use Rattle.std.proofs.Common.{arith}
use Rattle.std.specs.Prelude.{Option, Some, None, slice_index_or}
use Rattle.std.specs.Io.KnownBytes.{Appends}
use Rattle.std.proofs.lemmas.List.{append-nil}
use Rattle.ux_model.specs.Types.{Entry}
use Rattle.ux_trace.specs.Echoes.{echo_line, echo}
use Rattle.ux_script.specs.Writes.{AppendsBeginning}
use Rattle.ux_script.proofs.Traces.{appends_then}

-- what comes behind the first entries: the line of the next, and the rest
pub record Comes (lines : List (Option ℕ)) (es : List Entry) (i : ℕ) (line : List ℕ) : Type 0 where
  pub rest : List ℕ
  pub whole : echo lines es ≡ echo lines (take i es) ++ (line ++ rest)
  pub more : echo lines (take (suc i) es) ≡ echo lines (take i es) ++ line

behind : (first : List ℕ) (all front line rest : List ℕ) → all ≡ front ++ (line ++ rest) → first ++ all ≡ (first ++ front) ++ (line ++ rest)
behind first all front line rest e = ap (λ (t : List ℕ). first ++ t) e ∙ sym (append_assoc first front (line ++ rest))

behind_more : (first all front line : List ℕ) → all ≡ front ++ line → first ++ all ≡ (first ++ front) ++ line
behind_more first all front line e = ap (λ (t : List ℕ). first ++ t) e ∙ sym (append_assoc first front line)

comes : (lines : List (Option ℕ)) (es : List Entry) (i : ℕ) (d : Entry) → i < length es →
    Comes lines es i (echo_line (slice_index_or lines i None) (get_or es i d))
comes lines [] i d lt = absurd (omega (arith, lt))
comes [] (e ∷ es) zero d lt = record { rest = echo [] es; whole = refl; more = append-nil (echo_line None e) }
comes (n ∷ ns) (e ∷ es) zero d lt = record { rest = echo ns es; whole = refl; more = append-nil (echo_line n e) }
comes [] (e ∷ es) (suc i) d lt =
    let next = comes [] es i d (omega (arith, lt)) in
    record {
      rest = next.rest;
      whole = behind (echo_line None e) (echo [] es) (echo [] (take i es)) (echo_line None (get_or es i d)) next.rest next.whole;
      more = behind_more (echo_line None e) (echo [] (take (suc i) es)) (echo [] (take i es)) _ next.more;
    }
comes (n ∷ ns) (e ∷ es) (suc i) d lt =
    let next = comes ns es i d (omega (arith, lt)) in
    record {
      rest = next.rest;
      whole = behind (echo_line n e) (echo ns es) (echo ns (take i es)) (echo_line (slice_index_or ns i None) (get_or es i d)) next.rest
          next.whole;
      more = behind_more (echo_line n e) (echo ns (take (suc i) es)) (echo ns (take i es)) _ next.more;
    }

-- the line of the entry at this place comes
pub next_comes : (lines : List (Option ℕ)) (es : List Entry) (i : ℕ) (e : Entry) (line : List ℕ) → i < length es → e ≡ get_or es i e
    → line ≡ echo_line (slice_index_or lines i None) e → Comes lines es i line
next_comes lines es i e line lt item said =
    let next = comes lines es i e lt in
    rw (said ∙ ap (echo_line (slice_index_or lines i None)) item) next

pub echo_more : (lines : List (Option ℕ)) (es : List Entry) (i : ℕ) (line : List ℕ) → Comes lines es i line →
    echo lines (take i es) ++ line ≡ echo lines (take (i + 1) es)
echo_more lines es i line next = let e : i + 1 ≡ suc i = omega arith in rw e (sym next.more)

-- the first lines and a beginning of the next
pub next_begun : (a b c : Option (List ℕ)) (lines : List (Option ℕ)) (es : List Entry) (i : ℕ) (line : List ℕ) → Comes lines es i line
    → Appends a b (echo lines (take i es)) → AppendsBeginning b c line → AppendsBeginning a c (echo lines es)
next_begun a b c lines es i line next so_far begun =
    let front = echo lines (take i es) in (
      front ++ begun.0,
      begun.1 ++ next.rest,
      next.whole ∙ ap (λ (t : List ℕ). front ++ (t ++ next.rest)) begun.2
          ∙ ap (λ (t : List ℕ). front ++ t) (append_assoc begun.0 begun.1 next.rest)
          ∙ sym (append_assoc front begun.0 (begun.1 ++ next.rest)),
      appends_then a b c front begun.0 (front ++ begun.0) so_far begun.3 refl,
    )

-- the first lines alone
pub next_unbegun : (a b : Option (List ℕ)) (lines : List (Option ℕ)) (es : List Entry) (i : ℕ) (e : Entry) → i < length es
    → Appends a b (echo lines (take i es)) → AppendsBeginning a b (echo lines es)
next_unbegun a b lines es i e lt so_far =
    let next = comes lines es i e lt in
    (echo lines (take i es), _, next.whole, so_far)
