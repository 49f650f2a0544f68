-- What a line with names in it stands for: the line in which each `$NAME` is a number. A path may have a dollar sign; so a name is one in a
-- word that begins with it, in the items of a control buffer and in the list of a poll's descriptors alone, where no dollar sign may stand
-- otherwise.
use Rattle.std.specs.Char.{is_ascii_digit}
use Rattle.std.specs.Prelude.{ℕ, Bool, false, ◌||◌, ◌==◌, if◌then◌else◌, List, [], ◌∷◌, ◌++◌, take, drop, codes, decimal, Option, Some, None}
use Rattle.std.specs.List.{flat_map, slice_split}
use Rattle.std.specs.Str.{bytes_eq}
use Rattle.ux_script_names.specs.declared.scope.Named.{Named}

-- the number that a name means, if it means one
abbrev pub Meaning : Type 0
Meaning = List ℕ → Option ℕ

-- the number of the first of these that is named so
abbrev pub meaning_in : List Named → Meaning
meaning_in [] name = None
meaning_in (n ∷ ns) name = if bytes_eq n.name.items name then Some n.number else meaning_in ns name

-- what parts that were separated by this byte stand for, where each stands for something
abbrev pub joined : ℕ → (List ℕ → List ℕ) → List (List ℕ) → List ℕ
joined separator stands [] = []
joined separator stands (part ∷ parts) = stands part ++ flat_map (λ p. separator ∷ stands p) parts

abbrev pub each_between : ℕ → (List ℕ → List ℕ) → List ℕ → List ℕ
each_between separator stands text = joined separator stands (slice_split (λ b. b == separator) text)

-- a number, or a name behind a dollar sign
abbrev pub number_for : Meaning → List ℕ → List ℕ
number_for meaning [] = []
number_for meaning (c ∷ name) = if c == 36 then elim (meaning name) [ None ↦ c ∷ name | Some n ↦ decimal n ] else c ∷ name

-- `r:` or `c:`, with which the items of a control buffer begin
abbrev pub begins_item : List ℕ → Bool
begins_item word = bytes_eq (take 2 word) (codes "r:") || bytes_eq (take 2 word) (codes "c:")

-- one of the numbers of an item, the first with what the item begins with
abbrev pub item_number_for : Meaning → List ℕ → List ℕ
item_number_for meaning part =
    if begins_item part then take 2 part ++ number_for meaning (drop 2 part) else number_for meaning part

-- an item's numbers stand between commas
abbrev pub item_for : Meaning → List ℕ → List ℕ
item_for meaning item = each_between 44 (item_number_for meaning) item

-- a descriptor of a poll, with what is asked for of it behind a colon
abbrev pub asked_for : Meaning → List ℕ → List ℕ
asked_for meaning item = each_between 58 (number_for meaning) item

-- a digit or a dollar sign, with which a number begins, and the list of a poll's descriptors
abbrev pub begins_number : List ℕ → Bool
begins_number [] = false
begins_number (c ∷ cs) = is_ascii_digit c || c == 36

-- a poll's descriptors stand between commas, the items of a control buffer between plus signs
abbrev pub word_for : Meaning → List ℕ → List ℕ
word_for meaning word =
    if begins_item word then each_between 43 (item_for meaning) word
    else if begins_number word then each_between 44 (asked_for meaning) word else word

-- a line's words stand between blanks
abbrev pub line_for : Meaning → List ℕ → List ℕ
line_for meaning line = each_between 32 (word_for meaning) line
