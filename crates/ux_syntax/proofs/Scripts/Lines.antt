-- One line, read and spelled.
use Rattle.std.proofs.Common.{◌≡◌, ℕ, Bool, true, false, cond}
use Rattle.std.proofs.Common.{List, [], ◌∷◌, ◌++◌, map, filter, codes, refl, ap, sym, ◌∙◌}
use Rattle.std.proofs.Common.{append_assoc}
use Rattle.std.proofs.lemmas.List.{append-nil, map-append}
use Rattle.std.proofs.lemmas.List.Elements.{filter-append}
use Rattle.ux_syntax.specs.declared.script.Header.{Header}
use Rattle.ux_syntax.specs.Text.{plain_line}
use Rattle.ux_syntax.specs.Spelling.{Turn, line_of}
use Rattle.ux_syntax.specs.Spelling.{header_line, turn_line, serial_lines, off_lines, is_meant}
use Rattle.ux_syntax.proofs.Scripts.Limits.{meant_lines}

one_more : (ls : List (List ℕ)) (l : List ℕ) → is_meant l ≡ true → filter is_meant (ls ++ l ∷ []) ≡ filter is_meant ls ++ l ∷ []
one_more ls l m = filter-append is_meant ls (l ∷ []) ∙ ap (λ (b : Bool). filter is_meant ls ++ cond b (l ∷ []) []) m

none_more : (ls : List (List ℕ)) (l : List ℕ) → is_meant l ≡ false → filter is_meant (ls ++ l ∷ []) ≡ filter is_meant ls
none_more ls l m = filter-append is_meant ls (l ∷ []) ∙ ap (λ (b : Bool). filter is_meant ls ++ cond b (l ∷ []) []) m
    ∙ append-nil (filter is_meant ls)

pub meant_more : (ls : List (List ℕ)) (l : List ℕ) → is_meant l ≡ true → meant_lines (ls ++ l ∷ []) ≡ meant_lines ls ++ plain_line l ∷ []
meant_more ls l m = ap (map plain_line) (one_more ls l m) ∙ map-append plain_line (filter is_meant ls) (l ∷ [])

pub skipped_more : (ls : List (List ℕ)) (l : List ℕ) → is_meant l ≡ false → meant_lines (ls ++ l ∷ []) ≡ meant_lines ls
skipped_more ls l m = ap (map plain_line) (none_more ls l m)

-- the lines of a header, of turns, and the one that ends the layer
abbrev pub body_of : List Header → List Turn → Bool → List (List ℕ)
body_of hs ts off = map header_line hs ++ (map turn_line ts ++ off_lines off)

-- the same behind the line of a script that has one order alone
abbrev pub texts_of : Bool → List Header → List Turn → Bool → List (List ℕ)
texts_of serial hs ts off = serial_lines serial ++ body_of hs ts off

more_behind : (serial : Bool) (xs ys : List (List ℕ)) (x : List ℕ) → xs ≡ ys ++ x ∷ [] →
    serial_lines serial ++ xs ≡ (serial_lines serial ++ ys) ++ x ∷ []
more_behind serial xs ys x e = ap (λ (ls : List (List ℕ)). serial_lines serial ++ ls) e
    ∙ sym (append_assoc (serial_lines serial) ys (x ∷ []))

header_body : (hs : List Header) (h : Header) → body_of (hs ++ h ∷ []) [] false ≡ body_of hs [] false ++ header_line h ∷ []
header_body hs h = append-nil (map header_line (hs ++ h ∷ [])) ∙ map-append header_line hs (h ∷ [])
    ∙ ap (λ (ls : List (List ℕ)). ls ++ header_line h ∷ []) (sym (append-nil (map header_line hs)))

pub header_spelling : (serial : Bool) (hs : List Header) (h : Header) →
    texts_of serial (hs ++ h ∷ []) [] false ≡ texts_of serial hs [] false ++ header_line h ∷ []
header_spelling serial hs h = more_behind serial _ _ (header_line h) (header_body hs h)

turn_body : (hs : List Header) (ts : List Turn) (t : Turn) → body_of hs (ts ++ t ∷ []) false ≡ body_of hs ts false ++ turn_line t ∷ []
turn_body hs ts t =
    let front = map header_line hs in
    let turns = map turn_line ts in
    ap (λ (ls : List (List ℕ)). front ++ ls)
    (append-nil (map turn_line (ts ++ t ∷ [])) ∙ map-append turn_line ts (t ∷ [])
    ∙ ap (λ (ls : List (List ℕ)). ls ++ turn_line t ∷ []) (sym (append-nil turns)))
    ∙ sym (append_assoc front (turns ++ []) (turn_line t ∷ []))

pub turn_spelling : (serial : Bool) (hs : List Header) (ts : List Turn) (t : Turn) →
    texts_of serial hs (ts ++ t ∷ []) false ≡ texts_of serial hs ts false ++ turn_line t ∷ []
turn_spelling serial hs ts t = more_behind serial _ _ (turn_line t) (turn_body hs ts t)

off_body : (hs : List Header) (ts : List Turn) → body_of hs ts true ≡ body_of hs ts false ++ codes "off" ∷ []
off_body hs ts =
    let front = map header_line hs in
    let turns = map turn_line ts in
    ap (λ (ls : List (List ℕ)). front ++ (ls ++ codes "off" ∷ [])) (sym (append-nil turns))
    ∙ sym (append_assoc front (turns ++ []) (codes "off" ∷ []))

pub off_spelling : (serial : Bool) (hs : List Header) (ts : List Turn) →
    texts_of serial hs ts true ≡ texts_of serial hs ts false ++ codes "off" ∷ []
off_spelling serial hs ts = more_behind serial _ _ (codes "off") (off_body hs ts)

pub turns_meant : (ts : List Turn) (t : Turn) → map line_of (ts ++ t ∷ []) ≡ map line_of ts ++ line_of t ∷ []
turns_meant ts t = map-append line_of ts (t ∷ [])

pub no_turns : (ts : List Turn) → map line_of ts ≡ [] → ts ≡ []
no_turns [] e = refl
no_turns (t ∷ ts) e = absurd cc
