-- Lines with text in them, as a loop reads them, and lines without.
use Rattle.std.proofs.Common.{◌≡◌, ℕ, zero, suc, ◌+◌, ◌-◌, ◌*◌, ◌<◌, ◌≤◌, ◌&&◌, Bool, true, false, cond, not, eqb, ltb, List, [], ◌∷◌, ◌++◌}
use Rattle.std.proofs.Common.{length, take, drop, codes, Option, Some, None, Result, Ok, Err, refl, ap, sym, ◌∙◌, append_assoc, arith}
use Rattle.std.proofs.Common.{Decides}
use Rattle.std.specs.List.{list_any, position_or_len}
use Rattle.std.specs.Str.{bytes_eq}
use Rattle.std.proofs.lemmas.Bool.{ltb-false, or_parts}
use Rattle.std.proofs.lemmas.List.{append-nil, length-append, take_all}
use Rattle.std.proofs.lemmas.Slice.Eq.{bytes_eq-Decides}
use Rattle.ux_syntax.specs.declared.fault.Fault.{Fault}
use Rattle.ux_syntax.specs.declared.fault.Fault.TheVariants.{BadLine}
use Rattle.ux_syntax.specs.declared.plain.Field.{Field}
use Rattle.ux_syntax.specs.Digits.{◌>>=◌, digit_at, number_at}
use Rattle.ux_syntax.specs.Text.{escape_at, pair_at, escaped_byte_at, text_byte_at, text_upto, text_at, hex_word_at, raw_word_at}
use Rattle.ux_syntax.specs.Text.{first_word, space_of, space_at, space_word_at}
use Rattle.ux_syntax.specs.Text.{special_word_at, or_as_written, plain_fields, may_be_special}

-- ---- the first word

abbrev pub blank_at : List ℕ → ℕ
blank_at cs = position_or_len (λ b. eqb b 32) cs

blank_within : (cs : List ℕ) → blank_at cs ≤ length cs
blank_within [] = omega arith
blank_within (c ∷ cs) = go (eqb c 32) (blank_within cs)
  where
    go : (b : Bool) → blank_at cs ≤ length cs → cond (not b) (1 + blank_at cs) 0 ≤ length (c ∷ cs)
    go true h = omega arith
    go false h = omega (arith, h)

abbrev found : ℕ → ℕ → Option ℕ
found n len = cond (ltb n len) (Some n) None

some_found : (n p : ℕ) (b : Bool) → Some n ≡ cond b (Some p) None → n ≡ p
some_found n p true e = cc
some_found n p false e = absurd cc

none_found : (p : ℕ) (b : Bool) → None ≡ cond b (Some p) None → b ≡ false
none_found p true e = absurd cc
none_found p false e = refl

pub word_to_blank : (cs word rest : List ℕ) (n : ℕ) → word ≡ take n cs → rest ≡ drop n cs → Some n ≡ found (blank_at cs) (length cs) →
    (word, rest) ≡ first_word cs
word_to_blank cs word rest n w r e = rw (w, r)
    (ap (λ m. (take m cs, drop m cs)) (some_found n (blank_at cs) (ltb (blank_at cs) (length cs)) e))

pub word_to_end : (cs : List ℕ) → None ≡ found (blank_at cs) (length cs) → (cs, []) ≡ first_word cs
word_to_end cs e =
    let far : length cs ≤ blank_at cs = ltb-false (blank_at cs) (length cs) (none_found (blank_at cs) (ltb (blank_at cs) (length cs)) e) in
    let at : blank_at cs ≡ length cs = omega (arith, far, blank_within cs) in
    rw (at, take_all (length cs) cs (omega arith), drop_all cs) refl
  where
    drop_all : (xs : List ℕ) → drop (length xs) xs ≡ []
    drop_all [] = refl
    drop_all (x ∷ xs) = drop_all xs

-- ---- a text as a loop reads it

-- the bytes that were read before those that are still read
abbrev with_bytes : List ℕ → Result (List ℕ × List ℕ) Fault → Result (List ℕ × List ℕ) Fault
with_bytes front read = read >>= λ y. Ok (front ++ y.0, y.1)

bytes_regroup : (front : List ℕ) (b : ℕ) (read : Result (List ℕ × List ℕ) Fault) →
    with_bytes front (read >>= λ y. Ok (b ∷ y.0, y.1)) ≡ with_bytes (front ++ b ∷ []) read
bytes_regroup front b (Ok y) = ap (λ (bs : List ℕ). Ok (bs, y.1)) (sym (append_assoc front (b ∷ []) y.0))
bytes_regroup front b (Err f) = refl

pub record IsTextSoFar (w front rest : List ℕ) : Type 0 where
  pub room : length front + length rest ≤ length w
  pub whole : with_bytes front (text_upto (length w - length front) rest) ≡ text_at w

pub text_starts : (w : List ℕ) → IsTextSoFar w [] w
unfolding text_at
text_starts w =
    let all : length w - 0 ≡ length w = omega arith in
    record { room = omega arith; whole = ap (λ (n : ℕ). with_bytes [] (text_upto n w)) all ∙ none_before (text_upto (length w) w) }
  where
    none_before : (r : Result (List ℕ × List ℕ) Fault) → with_bytes [] r ≡ r
    none_before (Ok x) = refl
    none_before (Err f) = refl

pair_shorter : (w : List ℕ) (x : ℕ × List ℕ) → pair_at w ≡ Ok x → length x.1 < length w
pair_shorter [] x e = absurd cc
pair_shorter (h ∷ []) x e = absurd cc
pair_shorter (h ∷ l ∷ rest) x e = go (digit_at h) (digit_at l) e
  where
    go : (p q : Result ℕ Fault) → (p >>= λ high. q >>= λ low. Ok (16 * high + low, rest)) ≡ Ok x → length x.1 < length (h ∷ l ∷ rest)
    go (Ok a) (Ok b) k = let same : rest ≡ x.1 = cc in omega (arith, ap (λ (v : List ℕ). length v) same)
    go (Ok a) (Err f) k = absurd cc
    go (Err f) q k = absurd cc

escaped_shorter : (w : List ℕ) (x : ℕ × List ℕ) → escaped_byte_at w ≡ Ok x → length x.1 < length w
escaped_shorter [] x e = absurd cc
escaped_shorter (c ∷ cs) x e = go (eqb c 120) (escape_at c) e
  where
    go : (t : Bool) (r : Result ℕ Fault) → cond t (pair_at cs) (r >>= λ b. Ok (b, cs)) ≡ Ok x → length x.1 < length (c ∷ cs)
    go true r k = omega (arith, pair_shorter cs x k)
    go false (Ok b) k = let same : cs ≡ x.1 = cc in omega (arith, ap (λ (v : List ℕ). length v) same)
    go false (Err f) k = absurd cc

-- a byte is not left
pub text_shorter : (w : List ℕ) (x : ℕ × List ℕ) → text_byte_at w ≡ Ok x → length x.1 < length w
text_shorter [] x e = absurd cc
text_shorter (c ∷ cs) x e = go (eqb c 92) e
  where
    go : (t : Bool) → cond t (escaped_byte_at cs) (Ok (c, cs)) ≡ Ok x → length x.1 < length (c ∷ cs)
    go true k = omega (arith, escaped_shorter cs x k)
    go false k = let same : cs ≡ x.1 = cc in omega (arith, ap (λ (v : List ℕ). length v) same)

-- whether the closing quotation mark stands first
abbrev pub closes : List ℕ → Bool
closes [] = false
closes (c ∷ cs) = eqb c 34

pub upto_step : (n : ℕ) (w : List ℕ) (x : ℕ × List ℕ) → closes w ≡ false → text_byte_at w ≡ Ok x →
    text_upto (suc n) w ≡ (text_upto n x.1 >>= λ y. Ok (x.0 ∷ y.0, y.1))
upto_step n [] x o e = absurd cc
upto_step n (c ∷ cs) x o e = rw (o, e) refl

pub text_more : (w front rest : List ℕ) (x : ℕ × List ℕ) → closes rest ≡ false → text_byte_at rest ≡ Ok x → IsTextSoFar w front rest →
    IsTextSoFar w (front ++ x.0 ∷ []) x.1
text_more w front rest x o e h =
    let shorter : length x.1 < length rest = text_shorter rest x e in
    let count : length (front ++ x.0 ∷ []) ≡ length front + 1 = length-append front (x.0 ∷ []) in
    let k = length w - length (front ++ x.0 ∷ []) in
    let next : length w - length front ≡ suc k = omega (arith, h.room, shorter, count) in
    let step : text_upto (length w - length front) rest ≡ (text_upto k x.1 >>= λ y. Ok (x.0 ∷ y.0, y.1)) =
    rw next (upto_step k rest x o e) in
    record {
      room = omega (arith, h.room, shorter, count);
      whole = sym (bytes_regroup front x.0 (text_upto k x.1)) ∙ ap (with_bytes front) (sym step) ∙ h.whole;
    }

pub upto_mark : (n : ℕ) (c : ℕ) (cs : List ℕ) → eqb c 34 ≡ true → 0 < n → text_upto n (c ∷ cs) ≡ Ok ([], cs)
upto_mark zero c cs o some = absurd (omega arith)
upto_mark (suc n) c cs o some = rw o refl

pub text_ends : (w front : List ℕ) (c : ℕ) (cs : List ℕ) → eqb c 34 ≡ true → IsTextSoFar w front (c ∷ cs) → text_at w ≡ Ok (front, cs)
text_ends w front c cs o h =
    sym h.whole ∙ ap (with_bytes front) (upto_mark (length w - length front) c cs o (omega (arith, h.room)))
    ∙ ap (λ (bs : List ℕ). Ok (bs, cs)) (append-nil front)

upto_none : (n : ℕ) → text_upto n [] ≡ Err BadLine
upto_none zero = refl
upto_none (suc n) = refl

pub text_unclosed : (w front : List ℕ) → IsTextSoFar w front [] → text_at w ≡ Err BadLine
text_unclosed w front h = sym h.whole ∙ ap (with_bytes front) (upto_none (length w - length front))

upto_fails : (n : ℕ) (w : List ℕ) (f : Fault) → closes w ≡ false → 0 < n → 0 < length w → text_byte_at w ≡ Err f → text_upto n w ≡ Err f
upto_fails zero w f o some long e = absurd (omega arith)
upto_fails (suc n) [] f o some long e = absurd (omega arith)
upto_fails (suc n) (c ∷ cs) f o some long e = rw (o, e) refl

pub text_fails : (w front rest : List ℕ) (f : Fault) → closes rest ≡ false → 0 < length rest → text_byte_at rest ≡ Err f →
    IsTextSoFar w front rest → text_at w ≡ Err f
text_fails w front rest f o some e h = sym h.whole
    ∙ ap (with_bytes front) (upto_fails (length w - length front) rest f o (omega (arith, some, h.room)) some e)

-- ---- plain lines

pub parts_of : (cs : List ℕ) (n : ℕ) → (take n cs ++ take 1 (drop n cs)) ++ drop 1 (drop n cs) ≡ cs
parts_of [] zero = refl
parts_of [] (suc n) = refl
parts_of (c ∷ cs) zero = refl
parts_of (c ∷ cs) (suc n) = ap (λ (l : List ℕ). c ∷ l) (parts_of cs n)

-- a field that stays as it is, and further fields behind it
pub field_stays : (field : Field) (fields : List Field) (cs : List ℕ) → special_word_at field cs ≡ Err BadLine →
    plain_fields fields (drop 1 (first_word cs).1) ≡ drop 1 (first_word cs).1
    → plain_fields (field ∷ fields) cs ≡ cs
field_stays field fields cs e h =
    ap (λ x. (x.0 ++ take 1 x.1) ++ plain_fields fields (drop 1 x.1)) (ap (or_as_written cs) e)
    ∙ ap (λ (l : List ℕ). (take (blank_at cs) cs ++ take 1 (drop (blank_at cs) cs)) ++ l) h ∙ parts_of cs (blank_at cs)

-- ---- lines without marks

none_taken : (p : ℕ → Bool) (n : ℕ) (cs : List ℕ) → list_any p cs ≡ false → list_any p (take n cs) ≡ false
none_taken p zero cs h = refl
none_taken p (suc n) [] h = refl
none_taken p (suc n) (c ∷ cs) h = let q = or_parts (p c) (list_any p cs) h in rw (q.0, none_taken p n cs q.1) refl

none_left : (p : ℕ → Bool) (n : ℕ) (cs : List ℕ) → list_any p cs ≡ false → list_any p (drop n cs) ≡ false
none_left p zero cs h = h
none_left p (suc n) [] h = refl
none_left p (suc n) (c ∷ cs) h = none_left p n cs (or_parts (p c) (list_any p cs) h).1

no_text : (cs : List ℕ) → list_any (λ b. eqb b 34) cs ≡ false → hex_word_at cs ≡ Err BadLine
unfolding hex_word_at
no_text [] h = refl
no_text (c ∷ cs) h = rw (or_parts (eqb c 34) (list_any (λ b. eqb b 34) cs) h).0 refl

abbrev behind_letters : List ℕ × List ℕ → Result (List ℕ × List ℕ) Fault
behind_letters x = Ok (120 ∷ 58 ∷ x.0, x.1)

no_raw : (cs : List ℕ) → list_any (λ b. eqb b 34) cs ≡ false → raw_word_at cs ≡ Err BadLine
no_raw [] h = refl
no_raw (c ∷ []) h = refl
no_raw (c ∷ d ∷ cs) h = go (eqb c 120 && eqb d 58) (no_text cs (none_left (λ b. eqb b 34) 2 (c ∷ d ∷ cs) h))
  where
    go : (t : Bool) → hex_word_at cs ≡ Err BadLine → cond t (hex_word_at cs >>= behind_letters) (Err BadLine) ≡ Err BadLine
    go true e = rw e refl
    go false e = refl

pub no_rights : (w : List ℕ) → list_any (λ b. eqb b 58) w ≡ false → space_at w ≡ Err BadLine
unfolding space_at
no_rights w h = go (bytes_eq (take 7 w) (codes "rights:")) (bytes_eq-Decides (take 7 w) (codes "rights:"))
  where
    go : (t : Bool) → Decides t (take 7 w ≡ codes "rights:") → cond t (number_at (drop 7 w) >>= λ n. space_of n) (Err BadLine) ≡ Err BadLine
    go true d = let colon : list_any (λ b. eqb b 58) (codes "rights:") ≡ false = ap (list_any (λ b. eqb b 58)) (sym (d.0 refl))
        ∙ none_taken (λ b. eqb b 58) 7 w h in absurd cc
    go false d = refl

no_space : (cs : List ℕ) → list_any (λ b. eqb b 58) cs ≡ false → space_word_at cs ≡ Err BadLine
no_space cs h = rw (no_rights (first_word cs).0 (none_taken (λ b. eqb b 58) (blank_at cs) cs h)) refl

no_special : (field : Field) (cs : List ℕ) → may_be_special field cs ≡ false → special_word_at field cs ≡ Err BadLine
no_special Field.Plain cs h = refl
no_special Field.Hex cs h = no_text cs h
no_special Field.Raw cs h = no_raw cs h
no_special Field.Space cs h = no_space cs h

-- what follows a word has no mark that the line doesn't have
special_left : (field : Field) (n : ℕ) (cs : List ℕ) → may_be_special field cs ≡ false → may_be_special field (drop n cs) ≡ false
special_left Field.Plain n cs h = refl
special_left Field.Hex n cs h = none_left (λ b. eqb b 34) n cs h
special_left Field.Raw n cs h = none_left (λ b. eqb b 34) n cs h
special_left Field.Space n cs h = none_left (λ b. eqb b 58) n cs h

specials_left : (fields : List Field) (n : ℕ) (cs : List ℕ) → list_any (λ f. may_be_special f cs) fields ≡ false →
    list_any (λ f. may_be_special f (drop n cs)) fields ≡ false
specials_left [] n cs h = refl
specials_left (f ∷ fs) n cs h = let q = or_parts (may_be_special f cs) (list_any (λ g. may_be_special g cs) fs) h in
    rw (special_left f n cs q.0, specials_left fs n cs q.1) refl

pub none_special : (fields : List Field) (cs : List ℕ) → list_any (λ f. may_be_special f cs) fields ≡ false → plain_fields fields cs ≡ cs
none_special [] cs h = refl
none_special (f ∷ fs) cs h =
    let q = or_parts (may_be_special f cs) (list_any (λ g. may_be_special g cs) fs) h in
    field_stays f fs cs (no_special f cs q.0)
    (none_special fs (drop 1 (drop (blank_at cs) cs)) (specials_left fs 1 (drop (blank_at cs) cs) (specials_left fs (blank_at cs) cs q.1)))
