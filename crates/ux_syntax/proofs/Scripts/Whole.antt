-- All lines of a script.
use Rattle.std.proofs.Common.{◌≡◌, ℕ, suc, Bool, true, false}
use Rattle.std.proofs.Common.{List, [], ◌∷◌, ◌++◌, map, Result, Ok, Err, refl, ap, sym, ◌∙◌, subst}
use Rattle.std.proofs.Common.{append_assoc}
use Rattle.std.proofs.lemmas.List.{append-nil}
use Rattle.ux_syntax.specs.declared.fault.Fault.{Fault}
use Rattle.ux_syntax.specs.declared.fault.ScriptFault.{ScriptFault}
use Rattle.ux_syntax.specs.declared.script.Header.{Header}
use Rattle.ux_syntax.specs.Spelling.{Turn, line_of, Plan}
use Rattle.ux_syntax.specs.Spelling.{SpellScript}
use Rattle.ux_syntax.specs.Reading.{line_at, on_line, lines_at, no_lines}
use Rattle.ux_syntax.proofs.Scripts.Limits.{by_lines_from, same_plan}
use Rattle.ux_syntax.proofs.Scripts.Lines.{texts_of}
use Rattle.ux_syntax.proofs.Scripts.Headers.{plan_from, plan_is}
use Rattle.ux_syntax.proofs.Scripts.Reading.{line_takes, line_again}

pub none_spelled : SpellScript [] no_lines
none_spelled = record {
  headers = [];
  turns = [];
  short = tt;
  spelled = refl;
  objects = refl;
  procs = refl;
  meant = refl;
  fit_headers =
      tt;
  fit_turns = tt;
  orderly = record { processes = tt; forks = tt; exits = tt; calls = tt; recorded = tt };
}

on_ok : (n : ℕ) (go : Plan → Result Plan ScriptFault) (r : Result Plan Fault) (t : Plan) → on_line n go r ≡ Ok t →
    (s : Plan) × (r ≡ Ok s) × (go s ≡ Ok t)
on_ok n go (Ok s) t e = (s, refl, e)
on_ok n go (Err f) t e = absurd cc

lines_found : (n : ℕ) (front : List (List ℕ)) (s : Plan) (lines : List (List ℕ)) (t : Plan) → SpellScript front s →
    lines_at n s lines ≡ Ok t → SpellScript (front ++ lines) t
lines_found n front s [] t h e = subst (λ (ls : List (List ℕ)). SpellScript ls t) (sym (append-nil front))
    (subst (λ (y : Plan). SpellScript front y) (same_plan s t e) h)
lines_found n front s (l ∷ ls) t h e =
    let a = on_ok n (λ u. lines_at (suc n) u ls) (line_at s l) t e in
    subst (λ (xs : List (List ℕ)). SpellScript xs t) (append_assoc front (l ∷ []) ls)
    (lines_found (suc n) (front ++ l ∷ []) a.0 ls t (line_takes front s l a.0 h a.1) a.2)

pub script_found : (lines : List (List ℕ)) (t : Plan) → lines_at 1 no_lines lines ≡ Ok t → SpellScript lines t
script_found lines t e = lines_found 1 [] no_lines lines t none_spelled e

lines_more : (n : ℕ) (s : Plan) (ls : List (List ℕ)) (l : List ℕ) (u t : Plan) → lines_at n s ls ≡ Ok u → line_at u l ≡ Ok t →
    lines_at n s (ls ++ l ∷ []) ≡ Ok t
lines_more n s [] l u t e k = let same : s ≡ u = same_plan s u e in rw (same, k) refl
lines_more n s (x ∷ xs) l u t e k =
    let a = on_ok n (λ v. lines_at (suc n) v xs) (line_at s x) u e in
    rw a.1 (lines_more (suc n) a.0 xs l u t a.2 k)

no_spelling : (serial : Bool) (hs : List Header) (ts : List Turn) (off : Bool) → [] ≡ texts_of serial hs ts off →
    (serial ≡ false) × (hs ≡ []) × (ts ≡ []) × (off ≡ false)
no_spelling false [] [] false e = (refl, refl, refl, refl)
no_spelling false [] [] true e = absurd cc
no_spelling false [] (t ∷ ts) off e = absurd cc
no_spelling false (h ∷ hs) ts off e = absurd cc
no_spelling true hs ts off e = absurd cc

empty_only : (t : Plan) → SpellScript [] t → t ≡ no_lines
empty_only t h =
    let p = no_spelling t.serial h.headers h.turns t.off h.spelled in
    let none : t.lines ≡ [] = sym h.meant ∙ ap (λ (ts : List Turn). map line_of ts) p.2 in
    plan_is t h.headers h.objects h.procs none p.3 ∙ ap (λ (hs : List Header). plan_from t.serial hs) p.1
    ∙ ap (λ (b : Bool). plan_from b []) p.0

abbrev IsRead : List (List ℕ) → Type 0
IsRead ls = (t : Plan) → SpellScript ls t → lines_at 1 no_lines ls ≡ Ok t

pub script_only : (lines : List (List ℕ)) (t : Plan) → SpellScript lines t → lines_at 1 no_lines lines ≡ Ok t
script_only lines = by_lines_from IsRead
    (λ ls l h t k. let p = line_again ls l t k in lines_more 1 no_lines ls l p.0 t (h p.0 p.1) p.2) [] lines
    (λ t h. ap (λ (y : Plan). Ok y) (sym (empty_only t h)))

pub script_unique : (lines : List (List ℕ)) (a b : Plan) → SpellScript lines a → SpellScript lines b → a ≡ b
script_unique lines a b p q = same_plan a b (sym (script_only lines a p) ∙ script_only lines b q)
