-- Bytes between quotation marks, as far as a loop has come.
use Rattle.std.proofs.Common.{◌≡◌, ℕ, ◌+◌, ◌-◌, ◌^◌, ◌<◌, ◌≤◌, ◌&&◌, get_or, take, codes, true, false, eqb, leb, not, List, [], ◌++◌}
use Rattle.std.proofs.Common.{length, refl, sym, arith}
use Rattle.std.specs.Char.{encode_utf8}
use Rattle.std.specs.List.{flat_map}
use Rattle.std.specs.Fmt.{padded_integral, format_spec, digits}
use Rattle.std.proofs.lemmas.Bool.{and_parts, leb-true}
use Rattle.std.proofs.lemmas.List.{take_more, flat_map_more}
use Rattle.std.proofs.lemmas.Fmt.{hex_byte}
use Rattle.std.proofs.lemmas.Str.{encode_ascii}
use Rattle.ux_trace.specs.Echoes.{is_shown, quoted_byte}

-- one more byte
pub quoted_more : (bytes : List ℕ) (i : ℕ) (text : List ℕ) → i < length bytes → quoted_byte (get_or bytes i 0) ≡ text
    → flat_map quoted_byte (take i bytes) ++ text ≡ flat_map quoted_byte (take (i + 1) bytes)
quoted_more bytes i text lt e = rw (← e, take_more bytes i 0 lt) (flat_map_more quoted_byte [] (take i bytes) (get_or bytes i 0))

shown_small : (b : ℕ) → is_shown b ≡ true → b ≤ 126
shown_small b h =
    let p = and_parts (leb 32 b && leb b 126 && not (eqb b 34)) (not (eqb b 92)) h in
    let q = and_parts (leb 32 b && leb b 126) (not (eqb b 34)) p.0 in
    leb-true b 126 (and_parts (leb 32 b) (leb b 126) q.0).1

-- a byte that stands for itself is a character
pub shown_text : (b : ℕ) → is_shown b ≡ true → quoted_byte b ≡ encode_utf8 b
shown_text b s = rw s (sym (encode_ascii b (omega (arith, shown_small b s))))

pub hidden_text : (b : ℕ) → is_shown b ≡ false → b < 256
    → quoted_byte b ≡ codes "\\x" ++ padded_integral (format_spec 32 0 4 2 (2 ^ 64 - 1)) false [] (digits 16 false b)
hidden_text b s small = rw (s, hex_byte false b small) refl
