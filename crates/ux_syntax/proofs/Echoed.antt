-- Bytes between quotation marks, as an echo has them, are read again.
use Rattle.std.proofs.Common.{◌≡◌, ℕ, zero, suc, ◌+◌, ◌*◌, ◌/◌, ◌%◌, ◌<◌, ◌≤◌, ◌&&◌, Bool, true, false, cond, eqb, leb, not, List, [], ◌∷◌}
use Rattle.std.proofs.Common.{◌++◌, length, codes, Result, Ok, refl, ap, ◌∙◌, append_assoc, arith}
use Rattle.std.specs.List.{flat_map}
use Rattle.std.proofs.lemmas.Bool.{and_parts, not-true}
use Rattle.std.proofs.lemmas.List.{length-append}
use Rattle.ux_trace.specs.Trace.{digit_pair}
use Rattle.ux_trace.specs.Echoes.{is_shown, quoted_byte}
use Rattle.ux_syntax.specs.declared.fault.Fault.{Fault}
use Rattle.ux_syntax.specs.Digits.{◌>>=◌}
use Rattle.ux_syntax.specs.Text.{text_byte_at, text_upto, text_at, hex_word_at}
use Rattle.ux_syntax.specs.Spelling.{AreBytes}
use Rattle.ux_syntax.specs.PlainLines.{EchoesAreRead}
use Rattle.ux_syntax.proofs.Bytes.{digit_again}
use Rattle.ux_syntax.proofs.Plainly.{closes, upto_step, upto_mark}

-- a byte that stands for itself is neither mark nor backslash
shown_means : (b : ℕ) → is_shown b ≡ true → (eqb b 34 ≡ false) × (eqb b 92 ≡ false)
shown_means b h =
    let p = and_parts (leb 32 b && leb b 126 && not (eqb b 34)) (not (eqb b 92)) h in
    let q = and_parts (leb 32 b && leb b 126) (not (eqb b 34)) p.0 in
    (not-true (eqb b 34) q.1, not-true (eqb b 92) p.1)

byte_opens : (b : ℕ) (rest : List ℕ) (t : Bool) → is_shown b ≡ t → closes (cond t (b ∷ []) (codes "\\x" ++ digit_pair b) ++ rest) ≡ false
byte_opens b rest true s = (shown_means b s).0
byte_opens b rest false s = refl

byte_again : (b : ℕ) (rest : List ℕ) (t : Bool) → is_shown b ≡ t → b < 256 →
    text_byte_at (cond t (b ∷ []) (codes "\\x" ++ digit_pair b) ++ rest) ≡ Ok (b, rest)
byte_again b rest true s small = rw (shown_means b s).1 refl
byte_again b rest false s small =
    let whole : 16 * (b / 16) + b % 16 ≡ b = omega arith in
    rw (digit_again (b / 16) (omega (arith, small)), digit_again (b % 16) (omega arith), whole) refl

byte_long : (b : ℕ) (t : Bool) → 1 ≤ length (cond t (b ∷ []) (codes "\\x" ++ digit_pair b))
byte_long b true = omega arith
byte_long b false = omega arith

text_again : (n : ℕ) (bs rest : List ℕ) → length (flat_map quoted_byte bs ++ 34 ∷ rest) ≤ n → AreBytes bs →
    text_upto n (flat_map quoted_byte bs ++ 34 ∷ rest) ≡ Ok (bs, rest)
text_again n [] rest room f = upto_mark n 34 rest refl (omega (arith, room))
text_again zero (b ∷ bs) rest room f =
    absurd (omega (arith, room, length-append (quoted_byte b ++ flat_map quoted_byte bs) (34 ∷ rest)))
text_again (suc n) (b ∷ bs) rest room f =
    let behind = flat_map quoted_byte bs ++ 34 ∷ rest in
    let parts : (quoted_byte b ++ flat_map quoted_byte bs) ++ 34 ∷ rest ≡ quoted_byte b ++ behind =
    append_assoc (quoted_byte b) (flat_map quoted_byte bs) (34 ∷ rest) in
    let long : length ((quoted_byte b ++ flat_map quoted_byte bs) ++ 34 ∷ rest) ≡ length (quoted_byte b) + length behind =
    ap (λ (l : List ℕ). length l) parts ∙ length-append (quoted_byte b) behind in
    let later : text_upto n behind ≡ Ok (bs, rest) = text_again n bs rest (omega (arith, room, long, byte_long b (is_shown b))) f.1 in
    ap (text_upto (suc n)) parts
    ∙ upto_step n (quoted_byte b ++ behind) (b, behind) (byte_opens b behind (is_shown b) refl) (byte_again b behind (is_shown b) refl f.0)
    ∙ ap (λ (r : Result (List ℕ × List ℕ) Fault). r >>= with_first b) later
  where
    with_first : ℕ → List ℕ × List ℕ → Result (List ℕ × List ℕ) Fault
    with_first b y = Ok (b ∷ y.0, y.1)

pub echoes_read : EchoesAreRead
unfolding hex_word_at text_at
echoes_read bs rest f e =
    let inner : (flat_map quoted_byte bs ++ (34 ∷ [])) ++ rest ≡ flat_map quoted_byte bs ++ 34 ∷ rest =
    append_assoc (flat_map quoted_byte bs) (34 ∷ []) rest in
    rw (inner, text_again (length (flat_map quoted_byte bs ++ 34 ∷ rest)) bs rest (omega arith) f, e) refl
