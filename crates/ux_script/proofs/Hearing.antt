-- The lines that a session takes.
use Rattle.std.proofs.Common.{◌≡◌, ◌⊎◌, inl, inr, ℕ, suc, ◌+◌, ◌-◌, Bool, true, false, cond, eqb, ltb, ◌&&◌, refl, ap, sym, ◌∙◌}
use Rattle.std.proofs.Common.{List, [], ◌∷◌, length, take, get_or, Option, Some, None, Ok, Err, add-one, arith}
use Rattle.std.specs.Prelude.{IfSome, option_map}
use Rattle.std.specs.Io.BufRead.{take_through, drop_through, strip_last, first_piece}
use Rattle.std.proofs.lemmas.Bool.{lt-ltb}
use Rattle.ux_syntax.specs.declared.fault.Fault.TheVariants.{BadLine}
use Rattle.ux_syntax.specs.Spelling.{Plan, lines_of, line_limit}
use Rattle.ux_syntax.specs.Reading.{item_at, line_at, on_line}
use Rattle.ux_script.specs.Hearing.{Unread, read_or, heard_line, heard, heard_rest, IsNextLine, HearsOn, HearsAll}

-- ---- lines of a text

-- an empty line says nothing
pub empty_heard : (n : ℕ) (s : Plan) → heard_line n s [] ≡ s
unfolding line_at item_at
empty_heard n s = rw (none (line_limit s.serial)) (go s.off)
  where
    none : (limit : ℕ) → ltb limit 0 ≡ false
    none limit = grind arith

    go : (off : Bool) → read_or s (on_line n (λ t. Ok t) (cond (off && false) (Err BadLine) (Ok s))) ≡ s
    go true = refl
    go false = refl

strip_cons : (x : ℕ) (xs : List ℕ) → eqb x 10 ≡ false → strip_last 10 (x ∷ xs) ≡ x ∷ strip_last 10 xs
strip_cons x [] h = rw h refl
strip_cons x (y ∷ ys) h =
    let p : length (x ∷ y ∷ ys) - 1 ≡ suc (length ys) = omega arith in
    let q : length (y ∷ ys) - 1 ≡ length ys = omega arith in
    rw (p, q, lt-ltb 0 (length (x ∷ y ∷ ys)) (omega arith), lt-ltb 0 (length (y ∷ ys)) (omega arith))
    (go (eqb (get_or (y ∷ ys) (length ys) 0) 10))
  where
    go : (b : Bool) → cond b (x ∷ take (length ys) (y ∷ ys)) (x ∷ y ∷ ys) ≡ x ∷ cond b (take (length ys) (y ∷ ys)) (y ∷ ys)
    go true = refl
    go false = refl

-- a text is its first line and the lines behind it, or its first line alone
first_line : (bytes : List ℕ) → (lines_of bytes ≡ first_piece 10 bytes ∷ lines_of (drop_through 10 bytes))
    ⊎ ((lines_of bytes ≡ first_piece 10 bytes ∷ []) × (drop_through 10 bytes ≡ []))
first_line [] = inr (refl, refl)
first_line (x ∷ xs) = go (eqb x 10) refl (first_line xs)
  where
    go : (b : Bool) → eqb x 10 ≡ b → (lines_of xs ≡ first_piece 10 xs ∷ lines_of (drop_through 10 xs))
        ⊎ ((lines_of xs ≡ first_piece 10 xs ∷ []) × (drop_through 10 xs ≡ [])) →
        (lines_of (x ∷ xs) ≡ first_piece 10 (x ∷ xs) ∷ lines_of (drop_through 10 (x ∷ xs)))
        ⊎ ((lines_of (x ∷ xs) ≡ first_piece 10 (x ∷ xs) ∷ []) × (drop_through 10 (x ∷ xs) ≡ []))
    go true e h = inl (rw e (rw e refl))
    go false e (inl h) = inl (rw (e, strip_cons x (take_through 10 xs) e, h) refl)
    go false e (inr h) = inr (rw (e, strip_cons x (take_through 10 xs) e, h.0) refl, rw e h.1)

-- the first line is heard, then the others
pub first_heard : (n : ℕ) (s : Plan) (bytes : List ℕ) →
    heard n s (lines_of bytes) ≡ heard (suc n) (heard_line n s (first_piece 10 bytes)) (lines_of (drop_through 10 bytes))
first_heard n s bytes =
    let t = heard_line n s (first_piece 10 bytes) in
    elim (first_line bytes) [
      | inl h ↦ ap (heard n s) h
      | inr h ↦ ap (heard n s) h.0 ∙ sym (ap (λ l. heard (suc n) t (lines_of l)) h.1 ∙ empty_heard (suc n) t)
    ]

-- ---- what is left of an input

pub hears_from : (input : Unread) (s : Plan) → HearsOn input s input s
hears_from input s = go (heard_rest input s)
  where
    go : (all : Option Plan) → IfSome all (λ whole. all ≡ Some whole)
    go None = tt
    go (Some whole) = refl

-- one line more was read, and heard
pub hears_line : (old before after : Unread) (r s t : Plan) (text : List ℕ) → HearsOn old r before s → IsNextLine true before after text →
    t ≡ heard_line after.number s text → HearsOn old r after t
hears_line old before after r s t text on next line = go (heard_rest old r) on
  where
    more : (left : Option (List ℕ)) (whole : Plan) →
        option_map (λ bytes. heard (before.number + 1) s (lines_of bytes)) left ≡ Some whole →
        IfSome left (λ bytes. (text ≡ first_piece 10 bytes) × (after.bytes ≡ Some (drop_through 10 bytes))) →
        heard_rest after t ≡ Some whole
    more None whole h taken = absurd (cc)
    more (Some bytes) whole h taken =
        ap (option_map (λ rest. heard (after.number + 1) t (lines_of rest))) taken.1
        ∙ ap (λ n. Some (heard n t (lines_of (drop_through 10 bytes)))) (add-one after.number)
        ∙ ap (λ u. Some (heard (suc after.number) u (lines_of (drop_through 10 bytes))))
        (line ∙ ap (heard_line after.number s) taken.0)
        ∙ ap (λ n. Some (heard (suc n) (heard_line n s (first_piece 10 bytes)) (lines_of (drop_through 10 bytes)))) next.0
        ∙ ap (λ u. Some u) (sym (first_heard (before.number + 1) s bytes)) ∙ h

    go : (all : Option Plan) → IfSome all (λ whole. heard_rest before s ≡ Some whole) →
        IfSome all (λ whole. heard_rest after t ≡ Some whole)
    go None h = tt
    go (Some whole) h = more before.bytes whole h next.1

-- there was no line more, so all were heard
pub hears_all : (old before after : Unread) (r s : Plan) (text : List ℕ) → HearsOn old r before s → IsNextLine false before after text →
    HearsAll old r after s
hears_all old before after r s text on over = go (heard_rest old r) on
  where
    no_more : (left : Option (List ℕ)) (whole : Plan) →
        option_map (λ bytes. heard (before.number + 1) s (lines_of bytes)) left ≡ Some whole →
        IfSome left (λ bytes. (bytes ≡ []) × (after.bytes ≡ Some [])) → (s ≡ whole) × (after.bytes ≡ Some [])
    no_more None whole h ends = absurd (cc)
    no_more (Some bytes) whole h ends =
        let e : heard (before.number + 1) s (lines_of bytes) ≡ whole = cc in
        (sym (ap (λ l. heard (before.number + 1) s (lines_of l)) ends.0 ∙ empty_heard (before.number + 1) s) ∙ e, ends.1)

    go : (all : Option Plan) → IfSome all (λ whole. heard_rest before s ≡ Some whole) →
        IfSome all (λ whole. (s ≡ whole) × (after.bytes ≡ Some []))
    go None h = tt
    go (Some whole) h = no_more before.bytes whole h over.1

-- where nothing is left, that makes no more of the plan
pub hears_whole : (old new : Unread) (s t : Plan) → HearsAll old s new t → HearsOn old s new t
hears_whole old new s t all = go (heard_rest old s) all
  where
    go : (all : Option Plan) → IfSome all (λ whole. (t ≡ whole) × (new.bytes ≡ Some [])) →
        IfSome all (λ whole. heard_rest new t ≡ Some whole)
    go None h = tt
    go (Some whole) h = ap (option_map (λ rest. heard (new.number + 1) t (lines_of rest))) h.1
        ∙ ap (λ u. Some u) (empty_heard (new.number + 1) t ∙ h.0)

pub none_left : (old new : Unread) (s t : Plan) → HearsAll old s new t → IfSome old.bytes (λ bytes. new.bytes ≡ Some [])
none_left old new s t all = go old.bytes all
  where
    go : (known : Option (List ℕ)) →
        IfSome (option_map (λ bytes. heard (old.number + 1) s (lines_of bytes)) known) (λ whole. (t ≡ whole) × (new.bytes ≡ Some [])) →
        IfSome known (λ bytes. new.bytes ≡ Some [])
    go None h = tt
    go (Some bytes) h = h.1
