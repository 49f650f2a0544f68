-- A text with what its calls answered, as far as a loop has come.
use Rattle.std.proofs.Common.{◌≡◌, ℕ, suc, ◌+◌, ◌<◌, ◌≤◌, Bool, Bor, List, [], ◌∷◌, ◌++◌, length, map, drop, drop-cons}
use Rattle.std.proofs.Common.{ap, sym, ◌∙◌, append_assoc, arith}
use Rattle.std.specs.Prelude.{Option, slice_index_or}
use Rattle.std.proofs.lemmas.List.{get_or-map, length-map}
use Rattle.ux_model.specs.Types.{Entry}
use Rattle.ux_syntax.specs.Expectations.{asks_call}
use Rattle.ux_script.specs.Comparing.{answer_at}
use Rattle.ux_script.specs.Updating.{behind, updated_from}

abbrev answers : List (Option ℕ) → List Entry → ℕ → Option (List ℕ)
answers lines es = λ n. answer_at n lines es

-- so many of the lines behind the first were written, of which the last asks for a call or doesn't: with the others it is the whole
pub record HasWritten (lines : List (Option ℕ)) (es : List Entry) (whole : List ℕ) (rest : List (List ℕ)) (i : ℕ) (asked : Bool)
    (out : List ℕ) : Type 0 where
  pub within : i ≤ length rest
  pub all : out ++ updated_from (answers lines es) (i + 1) asked (drop i rest) ≡ whole

-- the next line
pub next_text : (texts : List (Bor (List ℕ))) (i : ℕ) (none : Bor (List ℕ)) → i < length texts → (i < length (map (λ l. l.now) texts))
    × (drop i (map (λ l. l.now) texts) ≡ (slice_index_or texts i none).now ∷ drop (i + 1) (map (λ l. l.now) texts))
next_text texts i none lt =
    let step : i + 1 ≡ suc i = omega arith in
    let within : i < length (map (λ (l : Bor (List ℕ)). l.now) texts) = omega (arith, lt, length-map texts (λ (l : Bor (List ℕ)). l.now)) in (
      within,
      rw step (drop-cons (map (λ (l : Bor (List ℕ)). l.now) texts) i [] within
          ∙ ap (λ t. t ∷ drop (suc i) (map (λ (l : Bor (List ℕ)). l.now) texts))
          (get_or-map (λ (l : Bor (List ℕ)). l.now) texts i none [] lt)),
    )

pub more : (lines : List (Option ℕ)) (es : List Entry) (whole : List ℕ) (rest : List (List ℕ)) (i : ℕ) (asked next : Bool)
    (out after text : List ℕ) (got : Option (List ℕ)) → HasWritten lines es whole rest i asked out →
    (i < length rest) × (drop i rest ≡ text ∷ drop (i + 1) rest) → got ≡ answer_at (i + 1) lines es → after ≡ out ++ behind asked text got → next ≡ asks_call text →
    HasWritten lines es whole rest (i + 1) next after
more lines es whole rest i asked next out after text got h line said is asks =
    let two : i + 1 + 1 ≡ suc (i + 1) = omega arith in
    record {
      within = omega (arith, line.0);
      all = rw (is, two, asks, said)
          (append_assoc out (behind asked text (answer_at (i + 1) lines es))
          (updated_from (answers lines es) (suc (i + 1)) (asks_call text) (drop (i + 1) rest))
          ∙ ap (λ d. out ++ updated_from (answers lines es) (i + 1) asked d) (sym line.1)
          ∙ h.all);
    }
