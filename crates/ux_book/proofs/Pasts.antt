-- A process's own calls among all entries.
use Rattle.std.proofs.Common.{◌≡◌, ◌≢◌, ℕ, zero, suc, ◌+◌, ◌-◌, ◌<◌, ◌==◌, ◌&&◌, ◌||◌, List, [], ◌∷◌, ◌++◌, length, Bool, true, false, cond}
use Rattle.std.proofs.Common.{refl, ap, sym, ◌∙◌, arith}
use Rattle.std.specs.Prelude.{if◌then◌else◌}
use Rattle.std.proofs.lemmas.Bool.{eq-eqb, ne_eqb}
use Rattle.std.proofs.lemmas.List.{nil_from_length}
use Rattle.std.proofs.lemmas.List.Sums.{sum_by-cons}
use Rattle.ux_model.specs.Types.{Entry}
use Rattle.ux_model.specs.History.{calls_of, is_exit, has_exited}
use Rattle.ux_book.specs.declared.call.Call.{Call}
use Rattle.ux_book.specs.Pasts.{call_of, calls_by, has_exit, fresh}

-- one entry more
pub calls_push : (p : ℕ) (es : List Entry) (e : Entry) →
    calls_by p (es ++ e ∷ []) ≡ (if e.pid.0 == p then calls_by p es ++ call_of e ∷ [] else calls_by p es)
calls_push p [] e = refl
calls_push p (x ∷ es) e =
    ap (λ (l : List Call). if x.pid.0 == p then call_of x ∷ l else l) (calls_push p es e) ∙ both (x.pid.0 == p) (e.pid.0 == p)
  where
    both : (a b : Bool) → (if a then call_of x ∷ (if b then calls_by p es ++ call_of e ∷ [] else calls_by p es)
        else (if b then calls_by p es ++ call_of e ∷ [] else calls_by p es))
        ≡ (if b then (if a then call_of x ∷ calls_by p es else calls_by p es) ++ call_of e ∷ []
        else (if a then call_of x ∷ calls_by p es else calls_by p es))
    both true true = refl
    both true false = refl
    both false true = refl
    both false false = refl

pub calls_more : (p : ℕ) (es : List Entry) (e : Entry) → e.pid.0 ≡ p → calls_by p (es ++ e ∷ []) ≡ calls_by p es ++ call_of e ∷ []
calls_more p es e is = calls_push p es e
    ∙ ap (λ (b : Bool). if b then calls_by p es ++ call_of e ∷ [] else calls_by p es) (eq-eqb e.pid.0 p is)

pub calls_same : (p : ℕ) (es : List Entry) (e : Entry) → e.pid.0 ≢ p → calls_by p (es ++ e ∷ []) ≡ calls_by p es
calls_same p es e is = calls_push p es e
    ∙ ap (λ (b : Bool). if b then calls_by p es ++ call_of e ∷ [] else calls_by p es) (ne_eqb e.pid.0 p is)

pub length_calls : (p : ℕ) (es : List Entry) → length (calls_by p es) ≡ calls_of p es
length_calls p [] = refl
length_calls p (e ∷ es) =
    by_test (e.pid.0 == p) (length_calls p es) ∙ sym (sum_by-cons (λ (x : Entry). cond {A = ℕ} (x.pid.0 == p) 1 0) e es)
  where
    by_test : (b : Bool) → length (calls_by p es) ≡ calls_of p es →
        length (if b then call_of e ∷ calls_by p es else calls_by p es) ≡ cond {A = ℕ} b 1 0 + calls_of p es
    by_test true rest = omega (arith, rest)
    by_test false rest = omega (arith, rest)

-- none, where it has no entry
pub calls_none : (p : ℕ) (es : List Entry) → calls_of p es ≡ 0 → calls_by p es ≡ []
calls_none p es none = nil_from_length (calls_by p es) (length_calls p es ∙ none)

-- its exit is among them where it is among the entries
pub exit_calls : (p : ℕ) (es : List Entry) → has_exit (calls_by p es) ≡ has_exited p es
exit_calls p [] = refl
exit_calls p (e ∷ es) = by_test (e.pid.0 == p) (exit_calls p es)
  where
    by_test : (b : Bool) → has_exit (calls_by p es) ≡ has_exited p es →
        has_exit (if b then call_of e ∷ calls_by p es else calls_by p es) ≡ ((is_exit e.request && b) || has_exited p es)
    by_test true rest = both (is_exit e.request) ∙ ap (λ (b : Bool). (is_exit e.request && true) || b) rest
      where
        both : (x : Bool) → (x || has_exit (calls_by p es)) ≡ ((x && true) || has_exit (calls_by p es))
        both true = refl
        both false = refl
    by_test false rest = rest ∙ neither (is_exit e.request)
      where
        neither : (x : Bool) → has_exited p es ≡ ((x && false) || has_exited p es)
        neither true = refl
        neither false = refl

pub exit_push : (cs : List Call) (c : Call) → has_exit cs ≡ false → is_exit c.request ≡ false → has_exit (cs ++ c ∷ []) ≡ false
exit_push [] c none other = ap (λ (b : Bool). b || false) other
exit_push (x ∷ cs) c none other = go (is_exit x.request) (has_exit cs) none (λ h. exit_push cs c h other)
  where
    go : (a b : Bool) → (a || b) ≡ false → (b ≡ false → has_exit (cs ++ c ∷ []) ≡ false) → (a || has_exit (cs ++ c ∷ [])) ≡ false
    go true b h rest = h
    go false b h rest = rest h

pub fresh_more : (p : ℕ) → 0 < p → fresh (p - 1) ++ record { pid = record { 0 = p }; past = [] } ∷ [] ≡ fresh (p + 1 - 1)
fresh_more zero h = absurd (omega arith)
fresh_more (suc p) h =
    let one : suc p - 1 ≡ p = omega arith in
    let two : suc p ≡ suc p + 1 - 1 = omega arith in
    ap (λ n. fresh n ++ record { pid = record { 0 = suc p }; past = [] } ∷ []) one ∙ ap fresh two
