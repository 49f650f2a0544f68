-- The first line at fault.
use Rattle.std.proofs.Common.{◌≡◌, ℕ, suc, ◌-◌}
use Rattle.std.proofs.Common.{List, [], ◌∷◌, ◌++◌, length, take, Result, Ok, Err, refl, ap, ◌∙◌, subst}
use Rattle.std.proofs.Common.{append_assoc, arith}
use Rattle.std.specs.Prelude.{slice_index_or}
use Rattle.std.proofs.lemmas.List.{length-append, take_at}
use Rattle.ux_syntax.specs.declared.fault.Fault.{Fault}
use Rattle.ux_syntax.specs.declared.fault.Fault.TheVariants.{BadLine, UnknownProcess, TooLong}
use Rattle.ux_syntax.specs.declared.fault.ScriptFault.{ScriptFault}
use Rattle.ux_syntax.specs.Spelling.{Plan}
use Rattle.ux_syntax.specs.Spelling.{SpellScript, IsFirstFault}
use Rattle.ux_syntax.specs.Reading.{line_fault}
use Rattle.ux_syntax.specs.Reading.{line_at, on_line, lines_at, no_lines}
use Rattle.ux_syntax.specs.Results.{HasFault}
use Rattle.ux_syntax.proofs.Scripts.Limits.{same_fault, ok_no_err, not_both, take_next}
use Rattle.ux_syntax.proofs.Scripts.Reading.{line_takes, line_again}
use Rattle.ux_syntax.proofs.Scripts.Whole.{none_spelled, script_unique}
use Rattle.ux_syntax.proofs.Scripts.Faults.{fault_is}

at_end : (front : List (List ℕ)) (l : List ℕ) (ls : List (List ℕ)) → slice_index_or (front ++ l ∷ ls) (length front) [] ≡ l
at_end [] l ls = refl
at_end (x ∷ xs) l ls = at_end xs l ls

first_fault : (front : List (List ℕ)) (s : Plan) (l : List ℕ) (ls : List (List ℕ)) (f : Fault) → SpellScript front s → line_at s l ≡ Err f →
    IsFirstFault (front ++ l ∷ ls) (suc (length front)) f
first_fault front s l ls f h e =
    let before : take (length front) (front ++ l ∷ ls) ≡ front = take_at front (l ∷ ls) (length front) refl in
    let with : take (suc (length front)) (front ++ l ∷ ls) ≡ front ++ l ∷ [] = take_next front l ls in
    let back : suc (length front) - 1 ≡ length front = omega arith in
    let this : slice_index_or (front ++ l ∷ ls) (length front) [] ≡ l = at_end front l ls in
    record {
      first = omega arith;
      last = omega (arith, length-append front (l ∷ ls));
      script = s;
      before = rw (back, before) h;
      here = λ t k.
          let p = line_again front l t (subst (λ (xs : List (List ℕ)). SpellScript xs t) with k) in
          let same : p.0 ≡ s = script_unique front p.0 s p.1 h in
          not_both (line_at s l) f t e (subst (λ (y : Plan). line_at y l ≡ Ok t) same p.2);
      why = rw (back, this) (fault_is s l f h.orderly e);
    }

named : (lines : List (List ℕ)) (n : ℕ) (f : Fault) → IsFirstFault lines n f → HasFault lines (line_fault n f)
named lines n BadLine h = h
named lines n UnknownProcess h = h
named lines n TooLong h = h

refused_on : (front : List (List ℕ)) (s : Plan) (l : List ℕ) (ls : List (List ℕ)) (e : ScriptFault) → SpellScript front s →
    (r : Result Plan Fault) → line_at s l ≡ r
    → ((t : Plan) → line_at s l ≡ Ok t → lines_at (suc (suc (length front))) t ls ≡ Err e → HasFault (front ++ l ∷ ls) e)
    → on_line (suc (length front)) (λ t. lines_at (suc (suc (length front))) t ls) r ≡ Err e → HasFault (front ++ l ∷ ls) e
refused_on front s l ls e h (Ok t) g later k = later t g k
refused_on front s l ls e h (Err f) g later k =
    subst (λ (x : ScriptFault). HasFault (front ++ l ∷ ls) x) (same_fault (line_fault (suc (length front)) f) e k)
    (named (front ++ l ∷ ls) (suc (length front)) f (first_fault front s l ls f h g))

lines_refused : (front : List (List ℕ)) (s : Plan) (lines : List (List ℕ)) (e : ScriptFault) → SpellScript front s →
    lines_at (suc (length front)) s lines ≡ Err e → HasFault (front ++ lines) e
lines_refused front s [] e h k = absurd (ok_no_err s e k)
lines_refused front s (l ∷ ls) e h k = refused_on front s l ls e h (line_at s l) refl (λ t g q.
    let long : length (front ++ l ∷ []) ≡ suc (length front) = omega (arith, length-append front (l ∷ [])) in
    subst (λ (xs : List (List ℕ)). HasFault xs e) (append_assoc front (l ∷ []) ls)
    (lines_refused (front ++ l ∷ []) t ls e (line_takes front s l t h g) (ap (λ (n : ℕ). lines_at (suc n) t ls) long ∙ q))) k

pub script_fault : (lines : List (List ℕ)) (e : ScriptFault) → lines_at 1 no_lines lines ≡ Err e → HasFault lines e
script_fault lines e k = lines_refused [] no_lines lines e none_spelled k
