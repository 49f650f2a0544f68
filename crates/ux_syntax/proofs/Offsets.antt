-- Offsets: digits, behind a minus below 0.
use Rattle.std.proofs.Common.{◌≡◌, ℕ, zero, suc, ◌<◌, ◌≤◌, ◌^◌, ◌&&◌, Bool, true, false, cond, eqb, leb, not, List, [], ◌∷◌, length, Result}
use Rattle.std.proofs.Common.{Ok, Err, refl, ap, sym, ◌∙◌, subst, arith}
use Rattle.std.specs.Prelude.{decimal, ℤ, pos, negsuc, neg_ℤ, FitsSigned, MatchResult}
use Rattle.std.specs.Int.{w64}
use Rattle.std.specs.Fmt.{signed_decimal}
use Rattle.std.specs.List.{list_all}
use Rattle.std.specs.Char.{is_ascii_digit}
use Rattle.std.specs.Str.{bytes_eq, IsUtf8, IsAscii}
use Rattle.std.specs.Str.Parse.{IsNumeral, ParsesSigned, digits_value, without_leading_sign, signed_digits_value}
use Rattle.std.proofs.lemmas.Bool.{and_parts, both_ways, ltb-true, lt-ltb, leb-true, eqb-true, ne_eqb, not-true, false_from_ne_true}
use Rattle.std.proofs.lemmas.Slice.Eq.{bytes_eq-Decides}
use Rattle.std.proofs.lemmas.Str.{IsUtf8-from_ascii}
use Rattle.std.proofs.lemmas.Fmt.{digits_decimal, digits_value-decimal, decimal_digit, decimal_injective, IsAscii-from_digits}
use Rattle.ux_syntax.specs.declared.fault.Fault.TheVariants.{BadLine}
use Rattle.ux_syntax.specs.Spelling.{IsSigned, IsOffset, IsBacklog}
use Rattle.ux_syntax.specs.Reading.{is_plain, without_minus, is_signed, is_i64, offset_at, backlog_at}
use Rattle.ux_syntax.proofs.Numbers.{own}
use Rattle.ux_syntax.proofs.Rows.{IsSolid, IsBadOrOk, IsKind, done, bind_ok, bind_bad, guard_ok, guard_bad, numeral_text, decimal_plain}
use Rattle.ux_syntax.proofs.Rows.{digits_solid}

abbrev all_digits : List ℕ → Bool
all_digits w = list_all is_ascii_digit w

abbrev minus_zero : List ℕ
minus_zero = 45 ∷ 48 ∷ []

-- ---- digits with no sign

-- a first digit is no sign
digit_first : (c : ℕ) (cs : List ℕ) → all_digits (c ∷ cs) ≡ true → (eqb c 45 ≡ false) × (eqb c 43 ≡ false)
digit_first c cs h =
    let p = and_parts (is_ascii_digit c) (all_digits cs) h in
    let q = and_parts (leb 48 c) (leb c 57) p.0 in
    let low : 48 ≤ c = leb-true 48 c q.0 in
    (ne_eqb c 45 (λ e. omega arith), ne_eqb c 43 (λ e. omega arith))

abbrev HasNoSign : List ℕ → Type 0
HasNoSign w = (without_minus w ≡ w) × (bytes_eq w minus_zero ≡ false) × (signed_digits_value 10 w ≡ pos (digits_value 10 w))

no_sign : (w : List ℕ) → is_plain w ≡ true → all_digits w ≡ true → HasNoSign w
no_sign [] plain h = absurd cc
no_sign (c ∷ cs) plain h = let p = digit_first c cs h in (rw p.0 refl, rw p.0 refl, rw (p.0, p.1) refl)

natural_text : (w : List ℕ) → is_plain w ≡ true → all_digits w ≡ true → is_i64 (pos (digits_value 10 w)) ≡ true
    → (w ≡ signed_decimal (pos (digits_value 10 w))) × IsOffset (pos (digits_value 10 w))
natural_text w plain h i =
    let small : digits_value 10 w < 2 ^ 63 = ltb-true _ _ i in
    (sym (numeral_text w plain h (omega arith)), small)

-- ---- digits behind a minus

negative_text : (v : ℕ) (w : List ℕ) → digits_value 10 w ≡ v → is_plain w ≡ true → all_digits w ≡ true →
    bytes_eq (45 ∷ w) minus_zero ≡ false → is_i64 (neg_ℤ (pos v)) ≡ true
    → (45 ∷ w ≡ signed_decimal (neg_ℤ (pos v))) × IsOffset (neg_ℤ (pos v))
negative_text zero w e plain h n i =
    let text : decimal (digits_value 10 w) ≡ w = numeral_text w plain h (omega arith) in
    let same : w ≡ 48 ∷ [] = sym text ∙ ap decimal e ∙ decimal_digit 0 (omega arith) in
    absurd (both_ways (bytes_eq (45 ∷ w) minus_zero) n ((bytes_eq-Decides (45 ∷ w) minus_zero).1 (ap (λ (x : List ℕ). 45 ∷ x) same)))
negative_text (suc m) w e plain h n i =
    let small : m < 2 ^ 63 = ltb-true _ _ i in
    let text : decimal (digits_value 10 w) ≡ w = numeral_text w plain h (omega arith) in
    (ap (λ (x : List ℕ). 45 ∷ x) (sym text ∙ ap decimal e), small)

-- ---- an offset

abbrev HasForm : List ℕ → Type 0
HasForm w = (is_plain (without_minus w) ≡ true) × (all_digits (without_minus w) ≡ true) × (bytes_eq w minus_zero ≡ false)

abbrev IsText : List ℕ → Type 0
IsText w = HasForm w → is_i64 (signed_digits_value 10 w) ≡ true →
    (w ≡ signed_decimal (signed_digits_value 10 w)) × IsOffset (signed_digits_value 10 w)

text_behind : (cs : List ℕ) → IsText (45 ∷ cs)
text_behind cs f i = negative_text (digits_value 10 cs) cs refl f.0 f.1 f.2 i

text_by : (c : ℕ) (cs : List ℕ) (s : Bool) → eqb c 45 ≡ s → IsText (c ∷ cs)
text_by c cs true s = subst (λ (x : ℕ). IsText (x ∷ cs)) (sym (eqb-true c 45 s)) (text_behind cs)
text_by c cs false s = λ f i.
    let plain : is_plain (c ∷ cs) ≡ true = rw s at f.0 in
    let digits : all_digits (c ∷ cs) ≡ true = rw s at f.1 in
    let p = no_sign (c ∷ cs) plain digits in
    rw p.2 (natural_text (c ∷ cs) plain digits (rw p.2 at i))

text_of : (w : List ℕ) → IsText w
text_of [] f i = absurd cc
text_of (c ∷ cs) f i = text_by c cs (eqb c 45) refl f i

offset_takes : (w : List ℕ) (z : ℤ) → offset_at w ≡ Ok z → (w ≡ signed_decimal z) × IsOffset z
unfolding offset_at
offset_takes w z e =
    let d = without_minus w in
    let v = signed_digits_value 10 w in
    let g = guard_ok (is_plain d && all_digits d && not (bytes_eq w minus_zero) && is_i64 v) v z e in
    let p = and_parts (is_plain d && all_digits d && not (bytes_eq w minus_zero)) (is_i64 v) g.0 in
    let q = and_parts (is_plain d && all_digits d) (not (bytes_eq w minus_zero)) p.0 in
    let r = and_parts (is_plain d) (all_digits d) q.0 in
    subst (λ (y : ℤ). (w ≡ signed_decimal y) × IsOffset y) g.1 (text_of w (r.0, r.1, not-true (bytes_eq w minus_zero) q.1) p.1)

is_within : (bits : ℕ) (z : ℤ) → IsSigned bits z → is_signed bits z ≡ true
is_within bits (pos n) h = lt-ltb n (2 ^ bits) h
is_within bits (negsuc n) h = lt-ltb n (2 ^ bits) h

offset_given : (w : List ℕ) (z : ℤ) → HasForm w → signed_digits_value 10 w ≡ z → is_i64 z ≡ true → offset_at w ≡ Ok z
unfolding offset_at
offset_given w z f e i = rw (f.0, f.1, f.2, e, i) refl

offset_again : (z : ℤ) → IsOffset z → offset_at (signed_decimal z) ≡ Ok z
offset_again (pos n) h =
    let plain : is_plain (decimal n) ≡ true = decimal_plain n (omega arith) in
    let digits : all_digits (decimal n) ≡ true = digits_decimal own n (omega arith) in
    let value : digits_value 10 (decimal n) ≡ n = digits_value-decimal own n (omega arith) in
    let p = no_sign (decimal n) plain digits in
    offset_given (decimal n) (pos n) (rw p.0 plain, rw p.0 digits, p.1) (p.2 ∙ ap (λ (m : ℕ). pos m) value) (is_within 63 (pos n) h)
offset_again (negsuc n) h =
    let plain : is_plain (decimal (suc n)) ≡ true = decimal_plain (suc n) (omega arith) in
    let digits : all_digits (decimal (suc n)) ≡ true = digits_decimal own (suc n) (omega arith) in
    let value : digits_value 10 (decimal (suc n)) ≡ suc n = digits_value-decimal own (suc n) (omega arith) in
    let other : bytes_eq (45 ∷ decimal (suc n)) minus_zero ≡ false =
    false_from_ne_true (bytes_eq (45 ∷ decimal (suc n)) minus_zero)
    (λ t. not_zero n h ((bytes_eq-Decides (45 ∷ decimal (suc n)) minus_zero).0 t)) in
    offset_given (45 ∷ decimal (suc n)) (negsuc n) (plain, digits, other) (ap (λ (m : ℕ). neg_ℤ (pos m)) value) (is_within 63 (negsuc n) h)
  where
    not_zero : (m : ℕ) → m < 2 ^ 63 → 45 ∷ decimal (suc m) ≡ minus_zero → ⊥
    not_zero m small e =
        let same : decimal (suc m) ≡ 48 ∷ [] = cc in
        let none : suc m ≡ 0 = decimal_injective (suc m) 0 (omega arith) (omega arith) (same ∙ sym (decimal_digit 0 (omega arith))) in
        omega (arith, none)

offset_solid : (z : ℤ) → IsOffset z → IsSolid (signed_decimal z)
offset_solid (pos n) h = digits_solid (decimal n) (digits_decimal own n (omega arith))
offset_solid (negsuc n) h = (omega arith, digits_solid (decimal (suc n)) (digits_decimal own (suc n) (omega arith)))

offset_bad : (w : List ℕ) → IsBadOrOk (offset_at w)
unfolding offset_at
offset_bad w = guard_bad (is_plain (without_minus w) && all_digits (without_minus w) && not (bytes_eq w minus_zero)
    && is_i64 (signed_digits_value 10 w)) (signed_digits_value 10 w)

pub offset_kind : IsKind offset_at signed_decimal IsOffset
offset_kind = record { takes = offset_takes; bad = offset_bad; again = offset_again; solid = offset_solid }

-- ---- a backlog

within : (bits : ℕ) (z : ℤ) → is_signed bits z ≡ true → IsSigned bits z
within bits (pos n) h = ltb-true n (2 ^ bits) h
within bits (negsuc n) h = ltb-true n (2 ^ bits) h

backlog_takes : (w : List ℕ) (z : ℤ) → backlog_at w ≡ Ok z → (w ≡ signed_decimal z) × IsBacklog z
unfolding backlog_at
backlog_takes w z e =
    let a = bind_ok (offset_at w) (λ y. cond (is_signed 31 y) (done y) (Err BadLine)) z e in
    let g = guard_ok (is_signed 31 a.0) a.0 z a.2 in
    subst (λ (y : ℤ). (w ≡ signed_decimal y) × IsBacklog y) g.1 ((offset_takes w a.0 a.1).0, within 31 a.0 g.0)

as_offset : (z : ℤ) → IsBacklog z → IsOffset z
as_offset (pos n) h = omega (arith, h)
as_offset (negsuc n) h = omega (arith, h)

pub backlog_kind : IsKind backlog_at signed_decimal IsBacklog
unfolding backlog_at
backlog_kind = record {
  takes = backlog_takes;
  bad = λ w. bind_bad (offset_at w) _ (offset_bad w) (λ z. guard_bad (is_signed 31 z) z);
  again = λ z h. rw (offset_again z (as_offset z h), is_within 31 z h) refl;
  solid = λ z h. offset_solid z (as_offset z h);
}

-- ---- what parse says of digits with one form

fits_i64 : (z : ℤ) → FitsSigned w64 z → is_i64 z ≡ true
fits_i64 (pos n) h = lt-ltb n (2 ^ 63) h.sfits
fits_i64 (negsuc n) h = lt-ltb n (2 ^ 63) h.sfits

i64_fits : (z : ℤ) → is_i64 z ≡ true → FitsSigned w64 z
i64_fits (pos n) h = record { sfits = ltb-true n (2 ^ 63) h }
i64_fits (negsuc n) h = record { sfits = ltb-true n (2 ^ 63) h }

unsigned_by : (c : ℕ) (cs : List ℕ) (s : Bool) → eqb c 45 ≡ s → all_digits (without_minus (c ∷ cs)) ≡ true →
    without_leading_sign (c ∷ cs) ≡ without_minus (c ∷ cs)
unsigned_by c cs true s h = rw s refl
unsigned_by c cs false s h = let digits : all_digits (c ∷ cs) ≡ true = rw s at h in rw (s, (digit_first c cs digits).1) refl

unsigned : (w : List ℕ) → is_plain (without_minus w) ≡ true → all_digits (without_minus w) ≡ true → without_leading_sign w ≡ without_minus w
unsigned [] plain h = absurd cc
unsigned (c ∷ cs) plain h = unsigned_by c cs (eqb c 45) refl h

some_plain : (w : List ℕ) → is_plain w ≡ true → 0 < length w
some_plain [] h = absurd cc
some_plain (c ∷ cs) h = omega arith

offset_none : (w : List ℕ) → HasForm w → is_i64 (signed_digits_value 10 w) ≡ false → offset_at w ≡ Err BadLine
unfolding offset_at
offset_none w f i = rw (f.0, f.1, f.2, i) refl

pub offset_read : {E : Type 0} (w t : List ℕ) (r : Result ℤ E) → HasForm w → t ≡ w → ParsesSigned w64 10 t r →
    MatchResult r (λ z. offset_at w ≡ Ok z) (λ _. offset_at w ≡ Err BadLine)
offset_read w t (Ok z) f e h =
    let value : z ≡ signed_digits_value 10 w = h.1 ∙ ap (signed_digits_value 10) e in
    let fits : is_i64 (signed_digits_value 10 t) ≡ true = fits_i64 _ h.0.1 in
    offset_given w z f (sym value) (rw h.1 fits)
offset_read w t (Err d) f e h =
    let numeral : IsNumeral 10 (without_leading_sign w) =
    rw (unsigned w f.0 f.1) (some_plain (without_minus w) f.0, own.to (without_minus w) f.1) in
    offset_none w f (false_from_ne_true (is_i64 (signed_digits_value 10 w))
    (λ i. h (rw e (numeral, i64_fits (signed_digits_value 10 w) i))))

-- a word that is no offset
pub offset_refused : (w : List ℕ) → (is_plain (without_minus w) && all_digits (without_minus w) && not (bytes_eq w minus_zero)) ≡ false →
    offset_at w ≡ Err BadLine
unfolding offset_at
offset_refused w h = rw h refl

ascii_more : (c : ℕ) (cs : List ℕ) → c < 128 → IsAscii cs → IsAscii (c ∷ cs)
ascii_more c cs h k zero = h
ascii_more c cs h k (suc i) = k i

ascii_by : (c : ℕ) (cs : List ℕ) (s : Bool) → eqb c 45 ≡ s → all_digits (without_minus (c ∷ cs)) ≡ true → IsAscii (c ∷ cs)
ascii_by c cs true s h =
    let digits : all_digits cs ≡ true = rw s at h in
    ascii_more c cs (omega (arith, eqb-true c 45 s)) (IsAscii-from_digits cs (own.to cs digits))
ascii_by c cs false s h = let digits : all_digits (c ∷ cs) ≡ true = rw s at h in IsAscii-from_digits (c ∷ cs) (own.to (c ∷ cs) digits)

pub is_offset_text : (w : List ℕ) → is_plain (without_minus w) ≡ true → all_digits (without_minus w) ≡ true → IsUtf8 w
is_offset_text [] plain h = absurd cc
is_offset_text (c ∷ cs) plain h = IsUtf8-from_ascii (c ∷ cs) (ascii_by c cs (eqb c 45) refl h)
