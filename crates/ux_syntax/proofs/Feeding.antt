-- Reading on, a byte at a time.
use Rattle.std.proofs.Common.{◌≡◌, ◌⊎◌, inl, inr, ℕ, suc, ◌<◌, ◌≤◌, Bool, true, false, cond, eqb, List, [], ◌∷◌, ◌++◌, length, Option, Some}
use Rattle.std.proofs.Common.{None, Result, Ok, Err, refl, ap, sym, ◌∙◌, subst, append_assoc, arith, length-append}
use Rattle.std.specs.Prelude.{take, IfSome, IfOk, IfErr, IsErrAnd}
use Rattle.std.specs.Io.KnownBytes.{Consumes, Keeps, IsAtEnd}
use Rattle.std.specs.List.{onto_first}
use Rattle.std.proofs.lemmas.Bool.{lt-ltb}
use Rattle.std.proofs.lemmas.List.{append-nil}
use Rattle.ux_syntax.specs.declared.fault.Fault.{Fault}
use Rattle.ux_syntax.specs.declared.fault.Fault.TheVariants.{BadLine, UnknownProcess, TooLong}
use Rattle.ux_syntax.specs.declared.fault.LineError.{LineError}
use Rattle.ux_syntax.specs.declared.fault.ScriptFault.{ScriptFault}
use Rattle.ux_syntax.specs.declared.script.Script.{Script}
use Rattle.ux_syntax.specs.Spelling.{Plan, plan_of, lines_of, line_limit, SpellScript, IsOrderly}
use Rattle.ux_syntax.specs.Reading.{item_at, line_at, line_fault, on_line, lines_at, no_lines, script_at}
use Rattle.ux_syntax.specs.Results.{Fails, FailsAt, HasFault, fault_at, GivesScript}
use Rattle.ux_syntax.specs.Continuing.{onto_front, continued, Found}
use Rattle.ux_syntax.proofs.Scripts.Results.{gives_found, gives_orderly, gives_only, gives_fault}

-- what stands before a line feed, or no byte, is a line
front_nil : (rest : List ℕ) → onto_front [] (lines_of rest) ≡ lines_of rest
front_nil [] = refl
front_nil (x ∷ xs) = go (eqb x 10) (lines_of xs)
  where
    go : (b : Bool) (ls : List (List ℕ)) → onto_front [] (cond b ([] ∷ ls) (onto_first x ls)) ≡ cond b ([] ∷ ls) (onto_first x ls)
    go true ls = refl
    go false [] = refl
    go false (l ∷ ls) = refl

pub line_ends : (s t : Plan) (n : ℕ) (line rest : List ℕ) → line_at s line ≡ Ok t →
    continued s n line (10 ∷ rest) ≡ continued t (suc n) [] rest
line_ends s t n line rest h =
    ap (λ l. on_line n (λ u. lines_at (suc n) u (lines_of rest)) (line_at s l)) (append-nil line)
    ∙ ap (on_line n (λ u. lines_at (suc n) u (lines_of rest))) h
    ∙ ap (lines_at (suc n) t) (sym (front_nil rest))

at_line : (s : Plan) (n : ℕ) (line : List ℕ) (go : Plan → Result Plan ScriptFault) (f : Fault) → line_at s line ≡ Err f →
    on_line n go (line_at s (line ++ [])) ≡ Err (line_fault n f)
at_line s n line go f h = ap (λ l. on_line n go (line_at s l)) (append-nil line) ∙ ap (on_line n go) h

fails_at : (n : ℕ) (f : Fault) (read : Result Plan ScriptFault) → read ≡ Err (line_fault n f) → FailsAt (line_fault n f) read
fails_at n BadLine read h = h
fails_at n UnknownProcess read h = h
fails_at n TooLong read h = h

-- a line at fault is reported, whatever follows
pub line_fails : (s : Plan) (n : ℕ) (line rest : List ℕ) (e : LineError) → Fails e (line_at s line) →
    FailsAt (fault_at n e) (continued s n line (10 ∷ rest))
line_fails s n line rest LineError.Memory h = tt
line_fails s n line rest (LineError.Fault f) h = fails_at n f _ (at_line s n line (λ u. lines_at (suc n) u (lines_of rest)) f h)

pub last_fails : (s : Plan) (n : ℕ) (line : List ℕ) (e : LineError) → Fails e (line_at s line) →
    FailsAt (fault_at n e) (continued s n line [])
last_fails s n line LineError.Memory h = tt
last_fails s n line (LineError.Fault f) h = fails_at n f _ (at_line s n line (λ u. Ok u) f h)

pub last_line : (s t : Plan) (n : ℕ) (line : List ℕ) → line_at s line ≡ Ok t → continued s n line [] ≡ Ok t
last_line s t n line h = ap (λ l. on_line n (λ u. Ok u) (line_at s l)) (append-nil line) ∙ ap (on_line n (λ u. Ok u)) h

-- a byte that ends no line joins the line before it
pub byte_joins : (s : Plan) (n byte : ℕ) (line rest : List ℕ) → eqb byte 10 ≡ false →
    continued s n line (byte ∷ rest) ≡ continued s n (line ++ byte ∷ []) rest
byte_joins s n byte line rest h = ap (λ b. lines_at n s (onto_front line (cond b ([] ∷ lines_of rest) (onto_first byte (lines_of rest))))) h
    ∙ ap (lines_at n s) (go (lines_of rest))
  where
    go : (ls : List (List ℕ)) → onto_front line (onto_first byte ls) ≡ onto_front (line ++ byte ∷ []) ls
    go [] = refl
    go (l ∷ ls) = ap (λ m. m ∷ ls) (sym (append_assoc line (byte ∷ []) l))

long_line : (s : Plan) (text : List ℕ) → line_limit s.serial < length text → line_at s text ≡ Err TooLong
unfolding line_at item_at
long_line s text h = rw (lt-ltb (line_limit s.serial) (length text) h) refl

pub too_long : (s : Plan) (n byte : ℕ) (line rest : List ℕ) → line_limit s.serial ≤ length line → eqb byte 10 ≡ false →
    continued s n line (byte ∷ rest) ≡ Err (ScriptFault.TooLong n)
too_long s n byte line rest long h = byte_joins s n byte line rest h ∙ go (lines_of rest)
  where
    more : (l : List ℕ) → line_limit s.serial < length ((line ++ byte ∷ []) ++ l)
    more l = simp (length-append) (omega arith)

    go : (ls : List (List ℕ)) → lines_at n s (onto_front (line ++ byte ∷ []) ls) ≡ Err (ScriptFault.TooLong n)
    go [] = ap (on_line n (λ u. Ok u)) (long_line s (line ++ byte ∷ []) (simp (length-append) (omega arith)))
    go (l ∷ ls) = ap (on_line n (λ u. lines_at (suc n) u ls)) (long_line s ((line ++ byte ∷ []) ++ l) (more l))

-- ---- the bytes of a reader

pub consumes_on : (a b c : Option (List ℕ)) (xs ys : List ℕ) → Consumes a b xs → Consumes b c ys → Consumes a c (xs ++ ys)
consumes_on None b c xs ys p q = tt
consumes_on (Some known) None c xs ys p q = absurd p
consumes_on (Some known) (Some bs) None xs ys p q = absurd q
consumes_on (Some known) (Some bs) (Some cs) xs ys p q = p ∙ ap (λ l. xs ++ l) q ∙ sym (append_assoc xs ys cs)

pub consumes_none : (a b c : Option (List ℕ)) (xs : List ℕ) → Consumes a b xs → Keeps b c → Consumes a c xs
consumes_none None b c xs p q = tt
consumes_none (Some known) None c xs p q = absurd p
consumes_none (Some known) (Some bs) None xs p q = absurd q
consumes_none (Some known) (Some bs) (Some cs) xs p q = p ∙ ap (λ l. xs ++ l) (sym q)

-- what is left of them
pub left_of : Option (List ℕ) → List ℕ
left_of None = []
left_of (Some xs) = xs

pub whole_text : (a c : Option (List ℕ)) (xs : List ℕ) → Consumes a c xs → IfSome a (λ text. text ≡ xs ++ left_of c)
unfolding left_of
whole_text None c xs p = tt
whole_text (Some known) None xs p = absurd p
whole_text (Some known) (Some cs) xs p = p

pub at_end : (c : Option (List ℕ)) → IsAtEnd c → left_of c ≡ []
unfolding left_of
at_end None e = refl
at_end (Some xs) e = e

-- a part of a reader's bytes was read, and this is known of the rest
pub record IsReadOn (known left : Option (List ℕ)) (s : Plan) (n : ℕ) (line : List ℕ) : Type 0 where
  pub seen : List ℕ
  pub consumed : Consumes known left seen
  pub continues : (rest : List ℕ) → script_at (lines_of (seen ++ rest)) ≡ continued s n line rest

pub nothing_read : (known : Option (List ℕ)) → IsReadOn known known no_lines 1 []
nothing_read known = record { seen = []; consumed = none known; continues = λ rest. ap (lines_at 1 no_lines) (sym (front_nil rest)) }
  where
    none : (known : Option (List ℕ)) → Consumes known known []
    none None = tt
    none (Some xs) = refl

pub read_more : (known left new : Option (List ℕ)) (s t : Plan) (n m : ℕ) (line next bytes : List ℕ) → IsReadOn known left s n line →
    Consumes left new bytes →
    ((rest : List ℕ) → continued s n line (bytes ++ rest) ≡ continued t m next rest) → IsReadOn known new t m next
read_more known left new s t n m line next bytes on taken more = record {
  seen = on.seen ++ bytes;
  consumed = consumes_on known left new on.seen bytes on.consumed taken;
  continues = λ rest. ap (λ text. script_at (lines_of text)) (append_assoc on.seen bytes rest) ∙ on.continues (bytes ++ rest) ∙ more rest;
}

pub read_none : (known left new : Option (List ℕ)) (s : Plan) (n : ℕ) (line : List ℕ) → IsReadOn known left s n line → Keeps left new →
    IsReadOn known new s n line
read_none known left new s n line on kept =
    record { seen = on.seen; consumed = consumes_none known left new on.seen on.consumed kept; continues = on.continues }

-- a line at fault among the bytes that were read is the text's
pub fault_found : (known left new : Option (List ℕ)) (s : Plan) (n : ℕ) (line bytes : List ℕ) (f : ScriptFault) →
    IsReadOn known left s n line → Consumes left new bytes →
    ((rest : List ℕ) → FailsAt f (continued s n line (bytes ++ rest))) → Found known (Err f)
fault_found known left new s n line bytes f on taken fails =
    let all = consumes_on known left new on.seen bytes on.consumed taken in
    let e : script_at (lines_of ((on.seen ++ bytes) ++ left_of new)) ≡ continued s n line (bytes ++ left_of new) =
    ap (λ text. script_at (lines_of text)) (append_assoc on.seen bytes (left_of new)) ∙ on.continues (bytes ++ left_of new) in
    ((on.seen ++ bytes) ++ left_of new, whole_text known new (on.seen ++ bytes) all, subst (FailsAt f) (sym e) (fails (left_of new)))

pub end_found : (known left new : Option (List ℕ)) (s : Plan) (n : ℕ) (line : List ℕ) (r : Result Script ScriptFault) →
    IsReadOn known left s n line → Consumes left new [] → IsAtEnd new →
    GivesScript r (continued s n line []) → Found known r
end_found known left new s n line r on taken ended gives =
    let all = consumes_on known left new on.seen [] on.consumed taken in
    let e : script_at (lines_of ((on.seen ++ []) ++ left_of new)) ≡ continued s n line [] =
    (λ j. script_at (lines_of (append-nil on.seen j ++ at_end new ended j))) ∙ on.continues [] in
    ((on.seen ++ []) ++ left_of new, whole_text known new (on.seen ++ []) all, subst (GivesScript r) (sym e) gives)

-- the same, where the read gave nothing for a buffer with room
pub end_read : (known left new : Option (List ℕ)) (s : Plan) (n count : ℕ) (line buffer : List ℕ) (r : Result Script ScriptFault) →
    IsReadOn known left s n line →
    Consumes left new (take count buffer) × (count ≡ 0 → 0 < length buffer → IsAtEnd new) → count ≡ 0 → 0 < length buffer →
    GivesScript r (continued s n line []) → Found known r
end_read known left new s n count line buffer r on (taken, ends) none some gives =
    end_found known left new s n line r on (subst (λ m. Consumes left new (take m buffer)) none taken) (ends none some) gives

-- a fault that is handed on
pub fault_handed_on : (known : Option (List ℕ)) (r : Result Script ScriptFault) (f : ScriptFault) → IsErrAnd r (λ e. e ≡ f) →
    Found known (Err f) → Found known r
fault_handed_on known (Ok s) f h found = absurd h
fault_handed_on known (Err e) f h found = subst (λ x. Found known (Err x)) (sym h) found

-- ---- what a reader's bytes were read as

abbrev IsRead : Option (List ℕ) → Result Script ScriptFault → Type 0
IsRead known r = (r ≡ Err ScriptFault.Reading) ⊎ Found known r

pub read_spells : (known : Option (List ℕ)) (r : Result Script ScriptFault) → IsRead known r →
    IfOk r (λ script. IfSome known (λ text. SpellScript (lines_of text) (plan_of script)))
read_spells known (Err f) h = tt
read_spells None (Ok s) h = tt
read_spells (Some bytes) (Ok s) (inl e) = cc
read_spells (Some bytes) (Ok s) (inr (text, e, h)) =
    subst (λ t. SpellScript (lines_of t) (plan_of s)) (sym e) (gives_found (Ok s) (lines_of text) h)

pub read_orderly : (known : Option (List ℕ)) (r : Result Script ScriptFault) → IsRead known r →
    IfOk r (λ script. IsOrderly (plan_of script))
read_orderly known (Err f) h = tt
read_orderly known (Ok s) (inl e) = cc
read_orderly known (Ok s) (inr (text, e, h)) = gives_orderly (Ok s) (lines_of text) h

pub spelled_reads : (known : Option (List ℕ)) (r : Result Script ScriptFault) → IsRead known r →
    IfSome known (λ text. (s : Plan) → SpellScript (lines_of text) s → (r ≡ Err ScriptFault.Reading) ⊎ GivesScript r (Ok s))
spelled_reads None r h = tt
spelled_reads (Some bytes) r (inl e) = λ s k. inl e
spelled_reads (Some bytes) r (inr (text, e, h)) =
    λ s k. inr (gives_only r (lines_of text) s h (subst (λ t. SpellScript (lines_of t) s) e k))

pub read_refuses : (known : Option (List ℕ)) (r : Result Script ScriptFault) → IsRead known r →
    IfErr r (λ f. (f ≡ ScriptFault.Reading) ⊎ IfSome known (λ text. HasFault (lines_of text) f))
read_refuses known (Ok s) h = tt
read_refuses known (Err f) (inl e) = inl cc
read_refuses None (Err f) (inr found) = inr tt
read_refuses (Some bytes) (Err f) (inr (text, e, h)) =
    inr (subst (λ t. HasFault (lines_of t) f) (sym e) (gives_fault (Err f) (lines_of text) h))

-- a lack of memory says nothing of the text
pub no_memory_found : (known left : Option (List ℕ)) (s : Plan) (n : ℕ) (line : List ℕ) → IsReadOn known left s n line →
    Found known (Err ScriptFault.NoMemory)
no_memory_found known left s n line on = (on.seen ++ left_of left, whole_text known left on.seen on.consumed, tt)
