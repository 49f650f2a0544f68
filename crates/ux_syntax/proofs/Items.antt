-- A line that is read is the spelling of what was read, and each spelling is read again.
use Rattle.std.proofs.Common.{◌≡◌, ℕ, ◌<◌, ◌≤◌, Bool, true, false, cond, ltb, eqb, List, [], ◌∷◌, length, All, Result, Ok, Err, refl, ap}
use Rattle.std.proofs.Common.{sym, ◌∙◌, subst, arith, codes}
use Rattle.std.specs.Prelude.{decimal}
use Rattle.std.specs.List.{AllByRecursion, slice_split, join_with_byte}
use Rattle.std.specs.Str.{bytes_eq}
use Rattle.std.proofs.lemmas.Bool.{ltb-false, le-ltb, eqb-true}
use Rattle.std.proofs.lemmas.List.Elements.{All-from_recursion}
use Rattle.std.proofs.lemmas.List.Splits.{slice_split_at, slice_split_none, join_with_byte-slice_split}
use Rattle.std.proofs.lemmas.Slice.Eq.{bytes_eq-Decides}
use Rattle.ux_syntax.specs.declared.fault.Fault.{Fault}
use Rattle.ux_syntax.specs.declared.fault.Fault.TheVariants.{BadLine, TooLong}
use Rattle.ux_syntax.specs.declared.script.Act.{Act}
use Rattle.ux_syntax.specs.declared.script.Header.{Header}
use Rattle.ux_syntax.specs.declared.reading.Parsed.{Parsed}
use Rattle.ux_syntax.specs.Text.{plain_line}
use Rattle.ux_syntax.specs.Spelling.{Turn, line_of, header_words, header_line, turn_words, turn_line, is_meant, IsNumber, FitsTurn}
use Rattle.ux_syntax.specs.Spelling.{FitsHeader}
use Rattle.ux_syntax.specs.Reading.{◌>>=◌, number_at, ends, proc_at, object_at, act_at, turn_at, words_at, item_at}
use Rattle.ux_syntax.proofs.Rows.{IsSolid, solid_from, IsBadOrOk, either_bad, bind_bad, bind_ok, ok_is, number_kind, ends_row, other_than}
use Rattle.ux_syntax.proofs.Numbers.{number_refused}
use Rattle.ux_syntax.proofs.Asking.{act_takes, act_bad, act_again, asked_solid}
use Rattle.ux_syntax.proofs.HeaderLines.{header_args, proc_takes, proc_bad, proc_again, object_takes, object_bad, object_again}
use Rattle.ux_syntax.proofs.HeaderLines.{header_solid}

-- ---- words and the line that they make

abbrev is_blank : ℕ → Bool
is_blank b = eqb b 32

not_blank : (b : ℕ) (t : Bool) → (t ≡ true → b ≡ 32) → 32 < b → t ≡ false
not_blank b true h lt = absurd (omega (arith, h refl))
not_blank b false h lt = refl

solid_parts : (w : List ℕ) → IsSolid w → AllByRecursion (λ b. is_blank b ≡ false) w
solid_parts [] h = tt
solid_parts (b ∷ bs) h = (not_blank b (is_blank b) (eqb-true b 32) h.0, solid_parts bs h.1)

solid_all : (w : List ℕ) → IsSolid w → All (λ b. is_blank b ≡ false) w
solid_all w h = All-from_recursion (λ b. is_blank b ≡ false) w (solid_parts w h)

split_join : (w : List ℕ) (ws : List (List ℕ)) → IsSolid w → AllByRecursion IsSolid ws →
    slice_split is_blank (join_with_byte 32 (w ∷ ws)) ≡ w ∷ ws
split_join w [] h hs = slice_split_none is_blank w (solid_all w h)
split_join w (v ∷ ws) h hs =
    slice_split_at is_blank w 32 (join_with_byte 32 (v ∷ ws)) (solid_all w h) refl
    ∙ ap (λ (vs : List (List ℕ)). w ∷ vs) (split_join v ws hs.0 hs.1)

-- ---- what words say

abbrev off_words : List (List ℕ)
off_words = codes "off" ∷ []

abbrev serial_words : List (List ℕ)
serial_words = codes "serial" ∷ []

-- the words are the item's, as it may be written
abbrev AreWords : List (List ℕ) → Parsed → Type 0
AreWords ws Parsed.Skipped = ⊥
AreWords ws (Parsed.Header h) = (ws ≡ header_words h) × FitsHeader h
AreWords ws (Parsed.Line line) = (t : Turn) × (line_of t ≡ line) × (ws ≡ turn_words t) × FitsTurn t
AreWords ws Parsed.Off = ws ≡ off_words
AreWords ws Parsed.Serial = ws ≡ serial_words

turn_takes : (pid : ℕ) (ws : List (List ℕ)) (item : Parsed) → IsNumber pid → turn_at pid ws ≡ Ok item → AreWords (decimal pid ∷ ws) item
turn_takes pid ws item h e =
    let a = bind_ok (act_at ws) (λ act. Ok (Parsed.Line (record { pid = record { 0 = pid }; act = act }))) item e in
    let p = act_takes ws a.0 a.1 in
    let t : Turn = record { pid = pid; asked = p.0 } in
    let line : line_of t ≡ record { pid = record { 0 = pid }; act = a.0 } =
    ap (λ (act : Act). record { pid = record { 0 = pid }; act = act }) p.1 in
    subst (λ (y : Parsed). AreWords (decimal pid ∷ ws) y) (ok_is (Parsed.Line (record { pid = record { 0 = pid }; act = a.0 })) item a.2)
    (t, line, ap (λ (xs : List (List ℕ)). decimal pid ∷ xs) p.2, (h, p.3))

-- ---- a first word that names the kind of line

abbrev proc_item : List (List ℕ) → Result Parsed Fault
proc_item ws = proc_at ws >>= λ p. Ok (Parsed.Header (Header.Proc p))

abbrev object_item : List (List ℕ) → Result Parsed Fault
object_item ws = object_at ws >>= λ o. Ok (Parsed.Header (Header.Object o))

abbrev off_item : List (List ℕ) → Result Parsed Fault
off_item ws = ends ws >>= λ x. Ok Parsed.Off

abbrev serial_item : List (List ℕ) → Result Parsed Fault
serial_item ws = ends ws >>= λ x. Ok Parsed.Serial

abbrev turn_item : List ℕ → List (List ℕ) → Result Parsed Fault
turn_item w ws = number_at w >>= λ pid. turn_at pid ws

proc_item_takes : (w : List ℕ) (ws : List (List ℕ)) (item : Parsed) → w ≡ codes "proc" → proc_item ws ≡ Ok item → AreWords (w ∷ ws) item
proc_item_takes w ws item d e =
    let a = bind_ok (proc_at ws) (λ p. Ok (Parsed.Header (Header.Proc p))) item e in
    let p = proc_takes ws a.0 a.1 in
    subst (λ (y : Parsed). AreWords (w ∷ ws) y) (ok_is (Parsed.Header (Header.Proc a.0)) item a.2)
    (ap (λ (x : List ℕ). x ∷ ws) d ∙ ap (λ (xs : List (List ℕ)). codes "proc" ∷ xs) p.0, p.1)

object_item_takes : (w : List ℕ) (ws : List (List ℕ)) (item : Parsed) → w ≡ codes "object" → object_item ws ≡ Ok item →
    AreWords (w ∷ ws) item
object_item_takes w ws item d e =
    let a = bind_ok (object_at ws) (λ o. Ok (Parsed.Header (Header.Object o))) item e in
    let p = object_takes ws a.0 a.1 in
    subst (λ (y : Parsed). AreWords (w ∷ ws) y) (ok_is (Parsed.Header (Header.Object a.0)) item a.2)
    (ap (λ (x : List ℕ). x ∷ ws) d ∙ ap (λ (xs : List (List ℕ)). codes "object" ∷ xs) p.0, p.1)

off_item_takes : (w : List ℕ) (ws : List (List ℕ)) (item : Parsed) → w ≡ codes "off" → off_item ws ≡ Ok item → AreWords (w ∷ ws) item
off_item_takes w ws item d e =
    let a = bind_ok (ends ws) (λ x. Ok Parsed.Off) item e in
    let p = ends_row.takes ws a.0 a.1 in
    subst (λ (y : Parsed). AreWords (w ∷ ws) y) (ok_is Parsed.Off item a.2)
    (ap (λ (x : List ℕ). x ∷ ws) d ∙ ap (λ (xs : List (List ℕ)). codes "off" ∷ xs) p.0)

serial_item_takes : (w : List ℕ) (ws : List (List ℕ)) (item : Parsed) → w ≡ codes "serial" → serial_item ws ≡ Ok item →
    AreWords (w ∷ ws) item
serial_item_takes w ws item d e =
    let a = bind_ok (ends ws) (λ x. Ok Parsed.Serial) item e in
    let p = ends_row.takes ws a.0 a.1 in
    subst (λ (y : Parsed). AreWords (w ∷ ws) y) (ok_is Parsed.Serial item a.2)
    (ap (λ (x : List ℕ). x ∷ ws) d ∙ ap (λ (xs : List (List ℕ)). codes "serial" ∷ xs) p.0)

turn_item_takes : (w : List ℕ) (ws : List (List ℕ)) (item : Parsed) → turn_item w ws ≡ Ok item → AreWords (w ∷ ws) item
turn_item_takes w ws item e =
    let a = bind_ok (number_at w) (λ pid. turn_at pid ws) item e in
    let n = number_kind.takes w a.0 a.1 in
    subst (λ (x : List ℕ). AreWords (x ∷ ws) item) (sym n.0) (turn_takes a.0 ws item n.1 a.2)

words_chosen : (w : List ℕ) (ws : List (List ℕ)) (item : Parsed) (t u v s : Bool) → (t ≡ true → w ≡ codes "proc") →
    (u ≡ true → w ≡ codes "object") → (v ≡ true → w ≡ codes "off") → (s ≡ true → w ≡ codes "serial")
    → cond t (proc_item ws) (cond u (object_item ws) (cond v (off_item ws) (cond s (serial_item ws) (turn_item w ws)))) ≡ Ok item →
    AreWords (w ∷ ws) item
words_chosen w ws item true u v s d f g h e = proc_item_takes w ws item (d refl) e
words_chosen w ws item false true v s d f g h e = object_item_takes w ws item (f refl) e
words_chosen w ws item false false true s d f g h e = off_item_takes w ws item (g refl) e
words_chosen w ws item false false false true d f g h e = serial_item_takes w ws item (h refl) e
words_chosen w ws item false false false false d f g h e = turn_item_takes w ws item e

words_takes : (ws : List (List ℕ)) (item : Parsed) → words_at ws ≡ Ok item → AreWords ws item
unfolding words_at
words_takes [] item e = absurd cc
words_takes (w ∷ ws) item e = words_chosen w ws item (bytes_eq w (codes "proc")) (bytes_eq w (codes "object")) (bytes_eq w (codes "off"))
    (bytes_eq w (codes "serial"))
    (bytes_eq-Decides w (codes "proc")).0 (bytes_eq-Decides w (codes "object")).0 (bytes_eq-Decides w (codes "off")).0
    (bytes_eq-Decides w (codes "serial")).0 e

turn_bad : (pid : ℕ) (ws : List (List ℕ)) → IsBadOrOk (turn_at pid ws)
turn_bad pid ws = bind_bad (act_at ws) _ (act_bad ws) (λ act. tt)

pub words_bad : (ws : List (List ℕ)) → IsBadOrOk (words_at ws)
unfolding words_at
words_bad [] = refl
words_bad (w ∷ ws) = either_bad (bytes_eq w (codes "proc")) (proc_item ws) _ (bind_bad (proc_at ws) _ (proc_bad ws) (λ p. tt))
    (either_bad (bytes_eq w (codes "object")) (object_item ws) _ (bind_bad (object_at ws) _ (object_bad ws) (λ o. tt))
    (either_bad (bytes_eq w (codes "off")) (off_item ws) _ (bind_bad (ends ws) _ (ends_row.bad ws) (λ x. tt))
    (either_bad (bytes_eq w (codes "serial")) (serial_item ws) (turn_item w ws) (bind_bad (ends ws) _ (ends_row.bad ws) (λ x. tt))
    (bind_bad (number_at w) _ (number_kind.bad w) (λ pid. turn_bad pid ws)))))

header_words_again : (h : Header) → FitsHeader h → words_at (header_words h) ≡ Ok (Parsed.Header h)
unfolding words_at
header_words_again (Header.Object o) f = rw (object_again o f) refl
header_words_again (Header.Proc p) f = rw (proc_again p f) refl

off_words_again : words_at off_words ≡ Ok Parsed.Off
unfolding words_at
off_words_again = refl

serial_words_again : words_at serial_words ≡ Ok Parsed.Serial
unfolding words_at
serial_words_again = refl

-- a number is no other word
pub other_word : (n : ℕ) (w : List ℕ) → number_at w ≡ Err BadLine → IsNumber n → bytes_eq (decimal n) w ≡ false
other_word n w r h = other_than number_at (decimal n) w n (number_kind.again n h) r

turn_words_again : (t : Turn) → FitsTurn t → words_at (turn_words t) ≡ Ok (Parsed.Line (line_of t))
unfolding words_at
turn_words_again t f =
    let no_proc = other_word t.pid (codes "proc") (number_refused (codes "proc") refl) f.0 in
    let no_object = other_word t.pid (codes "object") (number_refused (codes "object") refl) f.0 in
    let no_off = other_word t.pid (codes "off") (number_refused (codes "off") refl) f.0 in
    let no_serial = other_word t.pid (codes "serial") (number_refused (codes "serial") refl) f.0 in
    rw (no_proc, no_object, no_off, no_serial, number_kind.again t.pid f.0, act_again t.asked f.1) refl

-- ---- what a line says

-- a line says nothing, or it is a writing of the item
abbrev pub Says : Parsed → List ℕ → Type 0
Says Parsed.Skipped text = is_meant text ≡ false
Says (Parsed.Header h) text = (is_meant text ≡ true) × (plain_line text ≡ header_line h) × FitsHeader h
Says (Parsed.Line line) text = (is_meant text ≡ true) × ((t : Turn) × (line_of t ≡ line) × (plain_line text ≡ turn_line t) × FitsTurn t)
Says Parsed.Off text = (is_meant text ≡ true) × (plain_line text ≡ codes "off")
Says Parsed.Serial text = (is_meant text ≡ true) × (plain_line text ≡ codes "serial")

said : (item : Parsed) (text : List ℕ) → is_meant text ≡ true → AreWords (slice_split is_blank (plain_line text)) item → Says item text
said Parsed.Skipped text m e = absurd e
said (Parsed.Header h) text m e = (m, sym (join_with_byte-slice_split 32 (plain_line text)) ∙ ap (join_with_byte 32) e.0, e.1)
said (Parsed.Line line) text m e = (m, (e.0, e.1, sym (join_with_byte-slice_split 32 (plain_line text)) ∙ ap (join_with_byte 32) e.2, e.3))
said Parsed.Off text m e = (m, sym (join_with_byte-slice_split 32 (plain_line text)) ∙ ap (join_with_byte 32) e)
said Parsed.Serial text m e = (m, sym (join_with_byte-slice_split 32 (plain_line text)) ∙ ap (join_with_byte 32) e)

item_chosen : (limit : ℕ) (text : List ℕ) (item : Parsed) (t u : Bool) → is_meant text ≡ u → (t ≡ false → length text ≤ limit) →
    cond t (Err TooLong) (cond u (words_at (slice_split is_blank (plain_line text))) (Ok Parsed.Skipped)) ≡ Ok item →
    (length text ≤ limit) × Says item text
item_chosen limit text item true u m short e = absurd cc
item_chosen limit text item false true m short e =
    (short refl, said item text m (words_takes (slice_split is_blank (plain_line text)) item e))
item_chosen limit text item false false m short e = (short refl, subst (λ (y : Parsed). Says y text) (ok_is Parsed.Skipped item e) m)

pub item_takes : (limit : ℕ) (text : List ℕ) (item : Parsed) → item_at limit text ≡ Ok item → (length text ≤ limit) × Says item text
unfolding item_at
item_takes limit text item e = item_chosen limit text item (ltb limit (length text)) (is_meant text) refl (ltb-false limit (length text)) e

split_header : (h : Header) → FitsHeader h → slice_split is_blank (header_line h) ≡ header_words h
split_header (Header.Object o) f = split_join (codes "object") (header_args (Header.Object o)) (solid_from (codes "object") refl)
    (header_solid (Header.Object o) f)
split_header (Header.Proc p) f = split_join (codes "proc") (header_args (Header.Proc p)) (solid_from (codes "proc") refl)
    (header_solid (Header.Proc p) f)

split_turn : (t : Turn) → FitsTurn t → slice_split is_blank (turn_line t) ≡ turn_words t
split_turn t f = split_join (decimal t.pid) _ (number_kind.solid t.pid f.0) (asked_solid t.asked f.1)

spelled_again : (item : Parsed) (limit : ℕ) (text spelling : List ℕ) (ws : List (List ℕ)) → length text ≤ limit → is_meant text ≡ true →
    plain_line text ≡ spelling → slice_split is_blank spelling ≡ ws → words_at ws ≡ Ok item → item_at limit text ≡ Ok item
unfolding item_at
spelled_again item limit text spelling ws short m e w again =
    let words : slice_split is_blank (plain_line text) ≡ ws = ap (slice_split is_blank) e ∙ w in
    rw (le-ltb limit (length text) short, m, words) again

pub skip_again : (limit : ℕ) (text : List ℕ) → length text ≤ limit → is_meant text ≡ false → item_at limit text ≡ Ok Parsed.Skipped
unfolding item_at
skip_again limit text short m = rw (le-ltb limit (length text) short, m) refl

pub header_again_line : (h : Header) (limit : ℕ) (text : List ℕ) → length text ≤ limit → is_meant text ≡ true →
    plain_line text ≡ header_line h → FitsHeader h → item_at limit text ≡ Ok (Parsed.Header h)
header_again_line h limit text short m e f =
    spelled_again (Parsed.Header h) limit text (header_line h) (header_words h) short m e (split_header h f) (header_words_again h f)

pub off_again_line : (limit : ℕ) (text : List ℕ) → length text ≤ limit → is_meant text ≡ true → plain_line text ≡ codes "off" →
    item_at limit text ≡ Ok Parsed.Off
off_again_line limit text short m e = spelled_again Parsed.Off limit text (codes "off") off_words short m e refl off_words_again

pub serial_again_line : (limit : ℕ) (text : List ℕ) → length text ≤ limit → is_meant text ≡ true → plain_line text ≡ codes "serial" →
    item_at limit text ≡ Ok Parsed.Serial
serial_again_line limit text short m e =
    spelled_again Parsed.Serial limit text (codes "serial") serial_words short m e refl serial_words_again

pub turn_again_line : (t : Turn) (limit : ℕ) (text : List ℕ) → length text ≤ limit → is_meant text ≡ true → plain_line text ≡ turn_line t →
    FitsTurn t → item_at limit text ≡ Ok (Parsed.Line (line_of t))
turn_again_line t limit text short m e f =
    spelled_again (Parsed.Line (line_of t)) limit text (turn_line t) (turn_words t) short m e (split_turn t f) (turn_words_again t f)
