-- Texts of several parts, as far as a loop has come.
use Rattle.std.specs.Prelude.{decimal}
use Rattle.std.proofs.Common.{◌≡◌, ℕ, ◌+◌, ◌-◌, ◌^◌, ◌<◌, ◌≤◌, ◌==◌, ◌&&◌, get_or, take, map, codes, Bool, true, false, cond, eqb, leb, not, List}
use Rattle.std.proofs.Common.{[], ◌∷◌, ◌++◌, length, refl, ap, sym, ◌∙◌, append_assoc, arith}
use Rattle.std.specs.Char.{encode_utf8}
use Rattle.std.specs.List.{flat_map, join_with_byte}
use Rattle.std.specs.Fmt.{padded_integral, format_spec, digits}
use Rattle.std.proofs.lemmas.Bool.{and_parts, leb-true, not-true, false≢true}
use Rattle.std.proofs.lemmas.List.{append-nil, map-append, take_more, map_more, flat_map_more}
use Rattle.std.proofs.lemmas.Grind.{flat_map-append}
use Rattle.std.proofs.lemmas.Fmt.{hex_byte}
use Rattle.std.proofs.lemmas.Str.{encode_ascii}
use Rattle.ux_model.specs.Types.{PollFlags}
use Rattle.ux_trace.specs.Trace.{digit_pair, hex, stands, name_byte, name_text, set_names, spaced, closed_text, poll_flags_text, found_text}

pub hex_is : (bs : List ℕ) → 0 < length bs → flat_map digit_pair bs ≡ hex bs
hex_is [] h = absurd (omega arith)
hex_is (b ∷ bs) h = refl

-- what stands between these texts and a next one, where this byte joins them
abbrev pub separator_of : ℕ → List (List ℕ) → List ℕ
separator_of byte [] = []
separator_of byte (text ∷ texts) = byte ∷ []

separator_of_more : (byte : ℕ) (texts : List (List ℕ)) (text : List ℕ) → byte ∷ [] ≡ separator_of byte (texts ++ text ∷ [])
separator_of_more byte [] text = refl
separator_of_more byte (a ∷ texts) text = refl

pub set_names_more : (rows : List (Bool × List ℕ)) (row : Bool × List ℕ) →
    set_names (rows ++ row ∷ []) ≡ set_names rows ++ set_names (row ∷ [])
set_names_more [] row = refl
set_names_more (first ∷ rows) row = elim first.0 as
    (λ b. cond b (first.1 ∷ set_names (rows ++ row ∷ [])) (set_names (rows ++ row ∷ [])) ≡ cond b (first.1 ∷ set_names rows)
    (set_names rows) ++ set_names (row ∷ [])) [
      | true ↦ ap (λ (names : List (List ℕ)). first.1 ∷ names) (set_names_more rows row)
      | false ↦ set_names_more rows row
    ]

join_more : (byte : ℕ) (texts : List (List ℕ)) (text : List ℕ) →
    join_with_byte byte (texts ++ text ∷ []) ≡ join_with_byte byte texts ++ (separator_of byte texts ++ text)
join_more byte [] text = refl
join_more byte (a ∷ []) text = refl
join_more byte (a ∷ b ∷ texts) text = rw (join_more byte (b ∷ texts) text)
    (sym (append_assoc a (byte ∷ join_with_byte byte (b ∷ texts)) (byte ∷ text)))

-- one more byte
pub pairs_more : (bytes : List ℕ) (i : ℕ) → i < length bytes → get_or bytes i 0 < 256
    → flat_map digit_pair (take i bytes) ++ padded_integral (format_spec 32 0 4 2 (2 ^ 64 - 1)) false []
    (digits 16 false (get_or bytes i 0)) ≡ flat_map digit_pair (take (i + 1) bytes)
pairs_more bytes i lt small = rw (hex_byte false (get_or bytes i 0) small, take_more bytes i 0 lt)
    (flat_map_more digit_pair [] (take i bytes) (get_or bytes i 0))

-- one more number
pub spaced_more : (numbers : List ℕ) (number : ℕ) → spaced numbers ++ (32 ∷ decimal number) ≡ spaced (numbers ++ number ∷ [])
spaced_more numbers number = flat_map_more (λ n. 32 ∷ decimal n) [] numbers number

-- the next of these
pub spaced_next : (numbers : List ℕ) (i : ℕ) → i < length numbers →
    spaced (take i numbers) ++ (32 ∷ decimal (get_or numbers i 0)) ≡ spaced (take (i + 1) numbers)
spaced_next numbers i lt = rw (take_more numbers i 0 lt) (spaced_more (take i numbers) (get_or numbers i 0))

-- some numbers, in two parts
pub closed_is : (first others numbers : List ℕ) → first ++ others ≡ numbers → (length numbers == 0) ≡ false →
    codes " closed" ++ (spaced first ++ spaced others) ≡ closed_text numbers
closed_is first others [] e h = absurd (false≢true (sym h))
closed_is first others (n ∷ ns) e h =
    ap (λ (text : List ℕ). codes " closed" ++ text) (sym (flat_map-append (λ (n : ℕ). 32 ∷ decimal n) first others) ∙ ap spaced e)

-- one more name, which is set
pub name_more : (rows more : List (Bool × List ℕ)) (row : Bool × List ℕ) → more ≡ rows ++ row ∷ [] → row.0 ≡ true
    → (join_with_byte 124 (set_names rows) ++ (separator_of 124 (set_names rows) ++ row.1) ≡ join_with_byte 124 (set_names more))
    × (124 ∷ [] ≡ separator_of 124 (set_names more))
name_more rows more row e set =
    let step : set_names more ≡ set_names rows ++ row.1 ∷ [] = rw (e, set_names_more rows row, set) refl in
    rw step (sym (join_more 124 (set_names rows) row.1), separator_of_more 124 (set_names rows) row.1)

-- one more name, which is not set
pub name_skipped : (rows more : List (Bool × List ℕ)) (row : Bool × List ℕ) → more ≡ rows ++ row ∷ [] → row.0 ≡ false →
    set_names rows ≡ set_names more
name_skipped rows more row e set = rw (e, set_names_more rows row, set) (sym (append-nil (set_names rows)))

-- the conditions of the next descriptor
pub found_next : (found : List PollFlags) (i : ℕ) → i < length found →
    found_text (take i found) ++ (32 ∷ poll_flags_text (get_or found i (record { 0 = 0 }))) ≡ found_text (take (i + 1) found)
found_next found i lt = rw (take_more found i (record { 0 = 0 }) lt)
    (flat_map_more (λ f. 32 ∷ poll_flags_text f) [] (take i found) (get_or found i (record { 0 = 0 })))

-- ---- texts joined by commas

-- one more text
pub text_joined : (before after : List (List ℕ)) (text : List ℕ) → after ≡ before ++ text ∷ []
    → (join_with_byte 44 before ++ (separator_of 44 before ++ text) ≡ join_with_byte 44 after) × (44 ∷ [] ≡ separator_of 44 after)
text_joined before after text e = rw e (sym (join_more 44 before text), separator_of_more 44 before text)

abbrev pub number_texts : {X : Type 0} → (X → ℕ) → List X → List (List ℕ)
number_texts number xs = map decimal (map number xs)

-- one more number
pub rights_more : {X : Type 0} (number : X → ℕ) (xs : List X) (i : ℕ) (d : X) → i < length xs
    → (join_with_byte 44 (number_texts number (take i xs)) ++
    (separator_of 44 (number_texts number (take i xs)) ++ decimal (number (get_or xs i d)))
    ≡ join_with_byte 44 (number_texts number (take (i + 1) xs))) × (44 ∷ [] ≡ separator_of 44 (number_texts number (take (i + 1) xs)))
rights_more number xs i d lt =
    let before = number_texts number (take i xs) in
    let text = decimal (number (get_or xs i d)) in
    let step : number_texts number (take (i + 1) xs) ≡ before ++ text ∷ [] = ap (map decimal) (map_more number xs i d lt)
    ∙ map-append decimal (map number (take i xs)) (number (get_or xs i d) ∷ []) in
    text_joined before (number_texts number (take (i + 1) xs)) text step

-- ---- a name

-- what a byte is that stands for itself
pub stands_means : (b : ℕ) → stands b ≡ true → (33 ≤ b) × (b ≤ 126) × (eqb b 37 ≡ false)
stands_means b h =
    let p = and_parts (leb 33 b && leb b 126) (not (eqb b 37)) h in
    let q = and_parts (leb 33 b) (leb b 126) p.0 in
    (leb-true 33 b q.0, leb-true b 126 q.1, not-true (eqb b 37) p.1)

pub text_more : (bytes : List ℕ) (i : ℕ) (text : List ℕ) → i < length bytes → name_byte (get_or bytes i 0) ≡ text →
    name_text (take i bytes) ++ text ≡ name_text (take (i + 1) bytes)
text_more bytes i text lt e = rw (← e, take_more bytes i 0 lt) (flat_map_more name_byte [] (take i bytes) (get_or bytes i 0))

-- a byte that stands for itself is a character
pub plain_text : (b : ℕ) → stands b ≡ true → name_byte b ≡ encode_utf8 b
plain_text b s = rw s (sym (encode_ascii b (omega (arith, (stands_means b s).1))))

pub escaped_text : (b : ℕ) → stands b ≡ false → b < 256 →
    name_byte b ≡ 37 ∷ padded_integral (format_spec 32 0 4 2 (2 ^ 64 - 1)) false [] (digits 16 false b)
escaped_text b s small = rw (s, hex_byte false b small) refl
