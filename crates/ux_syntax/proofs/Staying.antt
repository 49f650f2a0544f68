-- Lines in plain words are their own plain lines.
use Rattle.std.proofs.Common.{◌≡◌, ℕ, ◌/◌, ◌<◌, Bool, true, false, eqb, ltb, List, [], ◌∷◌, ◌++◌, length, map, take, drop, codes}
use Rattle.std.proofs.Common.{get_or, Option, Some, None, Result, Ok, Err, refl, ap, sym, ◌∙◌, arith}
use Rattle.std.specs.Prelude.{decimal}
use Rattle.std.specs.List.{list_any, list_all, AllByRecursion, join_with_byte}
use Rattle.std.specs.Char.{is_ascii_digit}
use Rattle.std.specs.Fmt.{digit_glyph}
use Rattle.std.proofs.lemmas.Bool.{ne_eqb, and_parts}
use Rattle.std.proofs.lemmas.Bool.Decides.{nat_tests}
use Rattle.std.proofs.lemmas.Fmt.{digits_decimal}
use Rattle.std.proofs.lemmas.List.{append-nil, map-append}
use Rattle.ux_object.specs.declared.ObjKind.{ObjKind}
use Rattle.ux_syntax.specs.declared.control.ControlWord.{ControlWord}
use Rattle.ux_syntax.specs.declared.fault.Fault.{Fault}
use Rattle.ux_syntax.specs.declared.fault.Fault.TheVariants.{BadLine}
use Rattle.ux_syntax.specs.declared.plain.Field.{Field}
use Rattle.ux_syntax.specs.declared.script.Header.{Header}
use Rattle.ux_trace.specs.Trace.{hex, path_text}
use Rattle.ux_syntax.specs.Digits.{◌>>=◌}
use Rattle.ux_syntax.specs.Text.{hex_word_at, raw_word_at, first_word, space_at, space_word_at, special_word_at, plain_fields, behind}
use Rattle.ux_syntax.specs.Text.{call_fields, fields_by, fields_of, plain_line}
use Rattle.ux_fields.specs.declared.CallWord.{CallWord}
use Rattle.ux_fields.specs.Forms.{word_text, kinds}
use Rattle.ux_syntax.specs.Spelling.{WrittenRow, spellings, FitsCall, Asked, call, wait, Turn}
use Rattle.ux_syntax.specs.Spelling.{asked_words, turn_line, kind_text, fail_words, body_words, header_words, header_line, serial_lines}
use Rattle.ux_syntax.specs.Spelling.{off_lines, control_text, msg_flags, AreBytes, IsNumber, FitsBody, FitsControl, FitsAsked, FitsTurn}
use Rattle.ux_syntax.specs.Spelling.{FitsHeader}
use Rattle.ux_syntax.specs.PlainLines.{PlainLinesStay}
use Rattle.ux_syntax.proofs.Rows.{IsSolid, solid_from, number_kind}
use Rattle.ux_syntax.proofs.Asking.{asked_solid}
use Rattle.ux_syntax.proofs.HeaderLines.{header_solid}
use Rattle.ux_syntax.proofs.Numbers.{own, number_refused}
use Rattle.ux_syntax.proofs.Items.{other_word}
use Rattle.ux_syntax.proofs.Plainly.{blank_at, field_stays, no_rights}

-- ---- words

no_blank : (c : ℕ) → 32 < c → eqb c 32 ≡ false
no_blank c h = ne_eqb c 32 (λ e. omega (arith, h, e))

blank_behind : (w rest : List ℕ) → IsSolid w → blank_at (w ++ 32 ∷ rest) ≡ length w
blank_behind [] rest h = refl
blank_behind (c ∷ cs) rest h = rw (no_blank c h.0) (omega (arith, blank_behind cs rest h.1))

no_blank_in : (w : List ℕ) → IsSolid w → blank_at w ≡ length w
no_blank_in [] h = refl
no_blank_in (c ∷ cs) h = rw (no_blank c h.0) (omega (arith, no_blank_in cs h.1))

-- a list in two parts
abbrev cut : ℕ → List ℕ → List ℕ × List ℕ
cut n cs = (take n cs, drop n cs)

cut_at : (w rest : List ℕ) → cut (length w) (w ++ rest) ≡ (w, rest)
cut_at [] rest = refl
cut_at (c ∷ cs) rest = ap (λ (x : List ℕ × List ℕ). (c ∷ x.0, x.1)) (cut_at cs rest)

-- what follows a word in a line
abbrev behind_word : List (List ℕ) → List ℕ
behind_word [] = []
behind_word (w ∷ ws) = 32 ∷ join_with_byte 32 (w ∷ ws)

next_words : (ws : List (List ℕ)) → drop 1 (behind_word ws) ≡ join_with_byte 32 ws
next_words [] = refl
next_words (w ∷ ws) = refl

word_first : (w : List ℕ) (ws : List (List ℕ)) → IsSolid w → first_word (join_with_byte 32 (w ∷ ws)) ≡ (w, behind_word ws)
word_first w [] h =
    ap (λ n. cut n w) (no_blank_in w h)
    ∙ ap (cut (length w)) (sym (append-nil w)) ∙ cut_at w []
word_first w (v ∷ vs) h =
    let text = w ++ 32 ∷ join_with_byte 32 (v ∷ vs) in
    ap (λ n. cut n text) (blank_behind w (join_with_byte 32 (v ∷ vs)) h) ∙ cut_at w (32 ∷ join_with_byte 32 (v ∷ vs))

-- the fields of a line by its words, of which each is cut off with what follows it
abbrev by_third : List ℕ → List ℕ → List ℕ × List ℕ → List Field
by_third first second third = fields_by first second third.0

abbrev by_second : List ℕ → List ℕ × List ℕ → List Field
by_second first second = by_third first second.0 (first_word (drop 1 second.1))

abbrev by_first : List ℕ × List ℕ → List Field
by_first first = by_second first.0 (first_word (drop 1 first.1))

fields_are : (ws : List (List ℕ)) → AllByRecursion IsSolid ws →
    fields_of (join_with_byte 32 ws) ≡ fields_by (get_or ws 0 []) (get_or ws 1 []) (get_or ws 2 [])
unfolding fields_of
fields_are [] h = refl
fields_are (a ∷ []) h = ap by_first (word_first a [] h.0)
fields_are (a ∷ b ∷ []) h = ap by_first (word_first a (b ∷ []) h.0) ∙ ap (by_second a) (word_first b [] h.1.0)
fields_are (a ∷ b ∷ c ∷ ws) h =
    ap by_first (word_first a (b ∷ c ∷ ws) h.0) ∙ ap (by_second a) (word_first b (c ∷ ws) h.1.0)
    ∙ ap (by_third a b) (word_first c ws h.1.1.0)

-- each word is written plainly where the field might be written otherwise
abbrev AreStaying : List Field → List (List ℕ) → Type 0
AreStaying [] ws = Unit {0}
AreStaying (field ∷ fields) [] = (special_word_at field [] ≡ Err BadLine) × AreStaying fields []
AreStaying (field ∷ fields) (w ∷ ws) = (special_word_at field (join_with_byte 32 (w ∷ ws)) ≡ Err BadLine) × AreStaying fields ws

fields_stay : (fields : List Field) (ws : List (List ℕ)) → AllByRecursion IsSolid ws → AreStaying fields ws →
    plain_fields fields (join_with_byte 32 ws) ≡ join_with_byte 32 ws
fields_stay [] ws solid h = refl
fields_stay (field ∷ fields) [] solid h = field_stays field fields [] h.0 (fields_stay fields [] tt h.1)
fields_stay (field ∷ fields) (w ∷ ws) solid h =
    let next : drop 1 (first_word (join_with_byte 32 (w ∷ ws))).1 ≡ join_with_byte 32 ws =
    ap (λ (x : List ℕ × List ℕ). drop 1 x.1) (word_first w ws solid.0) ∙ next_words ws in
    field_stays field fields (join_with_byte 32 (w ∷ ws)) h.0 (rw next (fields_stay fields ws solid.1 h.1))

line_stays : (ws : List (List ℕ)) (fields : List Field) → AllByRecursion IsSolid ws →
    fields_by (get_or ws 0 []) (get_or ws 1 []) (get_or ws 2 []) ≡ fields → AreStaying fields ws →
    plain_line (join_with_byte 32 ws) ≡ join_with_byte 32 ws
unfolding plain_line
line_stays ws fields solid e h = ap (λ (fs : List Field). plain_fields fs (join_with_byte 32 ws)) (fields_are ws solid ∙ e)
    ∙ fields_stay fields ws solid h

-- ---- words where text may stand

no_quote : (n : ℕ) → n < 16 → eqb (digit_glyph false n) 34 ≡ false
no_quote n h = grind (arith, nat_tests)

hex_stays : (bs : List ℕ) (ws : List (List ℕ)) → AreBytes bs → hex_word_at (join_with_byte 32 (hex bs ∷ ws)) ≡ Err BadLine
unfolding hex_word_at
hex_stays [] [] f = refl
hex_stays [] (w ∷ ws) f = refl
hex_stays (b ∷ bs) [] f = rw (no_quote (b / 16) (omega (arith, f.0))) refl
hex_stays (b ∷ bs) (w ∷ ws) f = rw (no_quote (b / 16) (omega (arith, f.0))) refl

control_stays : (c : ControlWord) (w : List ℕ) (ws : List (List ℕ)) → FitsControl c →
    raw_word_at (join_with_byte 32 (control_text c ∷ w ∷ ws)) ≡ Err BadLine
control_stays ControlWord.Bare w ws f = refl
control_stays (ControlWord.Raw bytes) w ws f = rw (hex_stays bytes (w ∷ ws) f.1) refl
control_stays (ControlWord.Rights numbers) w ws f = refl
control_stays (ControlWord.Credentials cred) w ws f = refl
control_stays (ControlWord.CredentialsFirst cred numbers) w ws f = refl
control_stays (ControlWord.RightsFirst numbers cred) w ws f = refl

no_colon : (w : List ℕ) → list_all is_ascii_digit w ≡ true → list_any (λ b. eqb b 58) w ≡ false
no_colon [] h = refl
no_colon (c ∷ cs) h =
    let p = and_parts (is_ascii_digit c) (list_all is_ascii_digit cs) h in
    let other : eqb c 58 ≡ false = grind (arith, nat_tests, p.0) in
    rw (other, no_colon cs p.1) refl

abbrev with_digits : List ℕ → List ℕ → Result (List ℕ × List ℕ) Fault
with_digits rest digits = Ok (digits, rest)

abbrev by_word : List ℕ × List ℕ → Result (List ℕ × List ℕ) Fault
by_word x = space_at x.0 >>= with_digits x.1

space_stays : (n : ℕ) (ws : List (List ℕ)) → IsNumber n → space_word_at (join_with_byte 32 (decimal n ∷ ws)) ≡ Err BadLine
space_stays n ws h =
    let digits : list_all is_ascii_digit (decimal n) ≡ true = digits_decimal own n (omega arith) in
    ap by_word (word_first (decimal n) ws (number_kind.solid n h))
    ∙ ap (λ (r : Result (List ℕ) Fault). r >>= with_digits (behind_word ws)) (no_rights (decimal n) (no_colon (decimal n) digits))

-- ---- lines

of_number : (n : ℕ) (second third : List ℕ) → IsNumber n → fields_by (decimal n) second third ≡ call_fields second
of_number n second third h = rw (
  other_word n (codes "object") (number_refused (codes "object") refl) h,
  other_word n (codes "#=") (number_refused (codes "#=") refl) h,
) refl

turn_stays_by : (pid : ℕ) (a : Asked) (fields : List Field) → IsNumber pid → FitsAsked a →
    call_fields (get_or (asked_words a) 0 []) ≡ fields → AreStaying fields (decimal pid ∷ asked_words a)
    → plain_line (join_with_byte 32 (decimal pid ∷ asked_words a)) ≡ join_with_byte 32 (decimal pid ∷ asked_words a)
turn_stays_by pid a fields p f e h = line_stays (decimal pid ∷ asked_words a) fields (number_kind.solid pid p, asked_solid a f)
    (of_number pid (get_or (asked_words a) 0 []) (get_or (asked_words a) 1 []) p ∙ e) h

-- the last line stands for each other call
call_stays : (pid : ℕ) (word : CallWord) (row : WrittenRow (kinds word)) → IsNumber pid → FitsCall (record { word = word; fields = row }) →
    plain_line (join_with_byte 32 (decimal pid ∷ word_text word ∷ spellings (kinds word) row))
    ≡ join_with_byte 32 (decimal pid ∷ word_text word ∷ spellings (kinds word) row)
call_stays pid CallWord.Write row p f =
    turn_stays_by pid (call (record { word = CallWord.Write; fields = row })) (behind 3 (Field.Hex ∷ [])) p f refl
    (refl, (refl, (refl, (hex_stays row.1.0 [] f.1.1.0, tt))))
call_stays pid CallWord.Send row p f =
    turn_stays_by pid (call (record { word = CallWord.Send; fields = row })) (behind 4 (Field.Hex ∷ Field.Raw ∷ [])) p f refl (
      refl,
      (
        refl,
        (
          refl,
          (
            refl,
            (
              hex_stays row.1.1.0 (control_text row.1.1.1.0 ∷ msg_flags row.1.1.1.1.0 ∷ []) f.1.1.1.0,
              (control_stays row.1.1.1.0 (msg_flags row.1.1.1.1.0) [] f.1.1.1.1.0, tt),
            ),
          ),
        ),
      ),
    )
call_stays pid CallWord.Recv row p f =
    turn_stays_by pid (call (record { word = CallWord.Recv; fields = row })) (behind 4 (Field.Space ∷ [])) p f refl
    (refl, (refl, (refl, (refl, (space_stays row.1.1.0 (msg_flags row.1.1.1.0 ∷ []) f.1.1.1.0, tt)))))
call_stays pid word row p f = turn_stays_by pid (call (record { word = word; fields = row })) [] p f refl tt

asked_stays : (pid : ℕ) (a : Asked) → IsNumber pid → FitsAsked a →
    plain_line (join_with_byte 32 (decimal pid ∷ asked_words a)) ≡ join_with_byte 32 (decimal pid ∷ asked_words a)
asked_stays pid (wait other calls) p f = turn_stays_by pid (wait other calls) [] p f refl tt
asked_stays pid (call c) p f = call_stays pid c.word c.fields p f

turn_stays : (t : Turn) → FitsTurn t → plain_line (turn_line t) ≡ turn_line t
turn_stays t f = asked_stays t.pid t.asked f.0 f.1

object_solid : IsSolid (codes "object")
object_solid = solid_from (codes "object") refl

no_text_left : hex_word_at [] ≡ Err BadLine
unfolding hex_word_at
no_text_left = refl

object_stays : (path : List ℕ) (fail : Option ℕ) (kind : ObjKind) (body : List ℕ) → FitsBody kind body
    → AllByRecursion IsSolid (path ∷ (fail_words fail ++ (kind_text kind ∷ body_words kind body)))
    → plain_line (join_with_byte 32 (codes "object" ∷ path ∷ (fail_words fail ++ (kind_text kind ∷ body_words kind body)))) ≡ join_with_byte
    32 (codes "object" ∷ path ∷ (fail_words fail ++ (kind_text kind ∷ body_words kind body)))
object_stays path None ObjKind.Memory body f solid =
    line_stays (codes "object" ∷ path ∷ codes "mem" ∷ hex body ∷ []) (behind 3 (Field.Hex ∷ [])) (object_solid, solid) refl
    (refl, (refl, (refl, (hex_stays body [] f, tt))))
object_stays path None ObjKind.Counter body f solid =
    line_stays (codes "object" ∷ path ∷ codes "counter" ∷ []) [] (object_solid, solid) refl tt
object_stays path None ObjKind.Pipe body f solid = line_stays (codes "object" ∷ path ∷ codes "pipe" ∷ []) [] (object_solid, solid) refl tt
object_stays path (Some n) ObjKind.Memory body f solid =
    line_stays (codes "object" ∷ path ∷ codes "fail" ∷ decimal n ∷ codes "mem" ∷ hex body ∷ []) (behind 5 (Field.Hex ∷ []))
    (object_solid, solid) refl
    (refl, (refl, (refl, (refl, (refl, (hex_stays body [] f, tt))))))
object_stays path (Some n) ObjKind.Counter body f solid =
    line_stays (codes "object" ∷ path ∷ codes "fail" ∷ decimal n ∷ codes "counter" ∷ []) (behind 5 (Field.Hex ∷ [])) (object_solid, solid)
    refl
    (refl, (refl, (refl, (refl, (refl, (no_text_left, tt))))))
object_stays path (Some n) ObjKind.Pipe body f solid =
    line_stays (codes "object" ∷ path ∷ codes "fail" ∷ decimal n ∷ codes "pipe" ∷ []) (behind 5 (Field.Hex ∷ [])) (object_solid, solid) refl
    (refl, (refl, (refl, (refl, (refl, (no_text_left, tt))))))

header_stays : (h : Header) → FitsHeader h → plain_line (header_line h) ≡ header_line h
header_stays (Header.Proc p) f =
    line_stays (header_words (Header.Proc p)) [] (solid_from (codes "proc") refl, header_solid (Header.Proc p) f)
    (rw (
      other_word p.uid (codes "write") (number_refused (codes "write") refl) f.0,
      other_word p.uid (codes "send") (number_refused (codes "send") refl) f.0,
      other_word p.uid (codes "recv") (number_refused (codes "recv") refl) f.0,
    ) refl) tt
header_stays (Header.Object o) f = object_stays (path_text o.name) o.fail o.kind o.body f.2 (header_solid (Header.Object o) f)

-- ---- all lines of a script

headers_stay : (hs : List Header) → AllByRecursion FitsHeader hs → map plain_line (map header_line hs) ≡ map header_line hs
headers_stay [] f = refl
headers_stay (h ∷ hs) f = rw (header_stays h f.0, headers_stay hs f.1) refl

turns_stay : (ts : List Turn) → AllByRecursion FitsTurn ts → map plain_line (map turn_line ts) ≡ map turn_line ts
turns_stay [] f = refl
turns_stay (t ∷ ts) f = rw (turn_stays t f.0, turns_stay ts f.1) refl

word_stays : (w : List ℕ) → list_all (λ b. ltb 32 b) w ≡ true → fields_by w [] [] ≡ [] → plain_line w ≡ w
word_stays w h e = line_stays (w ∷ []) [] (solid_from w h, tt) e tt

serial_stays : (serial : Bool) → map plain_line (serial_lines serial) ≡ serial_lines serial
serial_stays true = ap (λ (l : List ℕ). l ∷ []) (word_stays (codes "serial") refl refl)
serial_stays false = refl

off_stays : (off : Bool) → map plain_line (off_lines off) ≡ off_lines off
off_stays true = ap (λ (l : List ℕ). l ∷ []) (word_stays (codes "off") refl refl)
off_stays false = refl

pub plain_stays : PlainLinesStay
plain_stays serial headers turns off f g =
    map-append plain_line (serial_lines serial) (map header_line headers ++ (map turn_line turns ++ off_lines off))
    ∙ rw (
      serial_stays serial,
      map-append plain_line (map header_line headers) (map turn_line turns ++ off_lines off),
      headers_stay headers f,
      map-append plain_line (map turn_line turns) (off_lines off),
      turns_stay turns g,
      off_stays off,
    ) refl
