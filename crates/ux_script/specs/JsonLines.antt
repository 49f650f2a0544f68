-- A run as JSON.
use Rattle.std.specs.Prelude.{◌≡◌, ◌+◌, ◌++◌, ◌∷◌, [], List, ℕ, Bool, true, false, Option, Some, None, codes, slice_index_or}
use Rattle.serde_json.specs.Data.{Data, number, unsigned, string}
use Rattle.serde_json.specs.Find.{get}
use Rattle.ux_model.specs.Types.{Entry}
use Rattle.ux_syntax.specs.declared.expectations.Expectation.{Expectation}
use Rattle.ux_trace.specs.Trace.{word_text, request_word}
use Rattle.ux_json.specs.Lines.{IsLineOf, or_null}
use Rattle.ux_script.specs.Comparing.{answer_at, is_met}

-- one line, which reads as an object for this call: its place in the history, its script's line, its process, its number among that
-- process's, and its word
abbrev pub CallLine : ℕ → Option ℕ → Entry → List ℕ → Type 0
CallLine place line e text =
    (d : Data) × (get (codes "kind") d ≡ Some (string (codes "call"))) × (get (codes "call") d ≡ Some (number (unsigned place)))
    × (get (codes "line") d ≡ Some (or_null line)) × (get (codes "pid") d ≡ Some (number (unsigned e.pid.0)))
    × (get (codes "k") d ≡ Some (number (unsigned e.k))) × (get (codes "word") d ≡ Some (string (word_text (request_word e.request))))
    × IsLineOf d text

-- a line for each call, in order, the first of which has this place in its history; beside each call stands its line in the script
abbrev pub CallLines : List (Option ℕ) → ℕ → List Entry → List ℕ → Type 0
CallLines lines place [] text = text ≡ []
CallLines lines place (e ∷ es) text =
    (first rest : List ℕ) × CallLine place (slice_index_or lines place None) e first × CallLines lines (place + 1) es rest
    × (text ≡ first ++ rest)

-- one line, which reads as an object that says that the call of this line didn't answer as expected; or nothing where it did
abbrev pub DifferenceText : Bool → Expectation → List ℕ → Type 0
DifferenceText true x text = text ≡ []
DifferenceText false x text =
    (d : Data) × (get (codes "kind") d ≡ Some (string (codes "difference"))) × (get (codes "line") d ≡ Some (number (unsigned x.line)))
    × IsLineOf d text

-- a line for each call that didn't answer as expected, in the order of the expectations
abbrev pub DifferenceLines : List (Option ℕ) → List Entry → List Expectation → List ℕ → Type 0
DifferenceLines lines es [] text = text ≡ []
DifferenceLines lines es (x ∷ xs) text =
    (first rest : List ℕ) × DifferenceText (is_met x.reply (answer_at x.line lines es)) x first × DifferenceLines lines es xs rest
    × (text ≡ first ++ rest)
