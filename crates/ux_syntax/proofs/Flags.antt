-- Flags in letters.
use Rattle.std.proofs.Common.{◌≡◌, ℕ, zero, suc, ◌<◌, ◌+◌, Bool, true, false, not, cond, eqb, List, [], ◌∷◌, ◌++◌, length, bit_or, Ok, Err, refl}
use Rattle.std.proofs.Common.{ap, sym, ◌∙◌, subst, arith, Decides, lit<}
use Rattle.std.specs.List.{list_all}
use Rattle.std.specs.Str.{bytes_eq}
use Rattle.std.proofs.lemmas.Bool.{eqb-true}
use Rattle.std.proofs.lemmas.List.{append-nil, nil_from_length}
use Rattle.std.proofs.lemmas.Slice.Eq.{bytes_eq-Decides}
use Rattle.ux_model.specs.Types.{OpenFlags, MsgFlags, PollFlags}
use Rattle.ux_model.specs.Flags.{has_bits}
use Rattle.ux_syntax.specs.declared.fault.Fault.TheVariants.{BadLine}
use Rattle.ux_trace.specs.Trace.{dash}
use Rattle.ux_syntax.specs.Spelling.{letter, or_dash, open_flags, counter_flags, msg_flags, events_text, FitsOpenFlags, FitsMsgFlags, FitsEvents}
use Rattle.ux_syntax.specs.Reading.{letter_at, open_flags_at, counter_flags_at, msg_flags_at, events_at}
use Rattle.ux_syntax.proofs.Rows.{IsSolid, IsBadOrOk, IsKind, done, ok_is, guard_bad, either_bad}
use Rattle.ux_syntax.proofs.Bytes.{dash_solid}
use Rattle.ux_syntax.proofs.Apart.{HasNo, has_no_from, solid_append}

-- ---- letters in a row

letter_test : (c d : ℕ) (ds : List ℕ) (t : Bool) → (t ≡ true → d ≡ c) →
    d ∷ ds ≡ letter (cond {A = Bool × List ℕ} t (true, ds) (false, d ∷ ds)).0 c ++ (cond {A = Bool × List ℕ} t (true, ds) (false, d ∷ ds)).1
letter_test c d ds true h = ap (λ (x : ℕ). x ∷ ds) (h refl)
letter_test c d ds false h = refl

letter_takes : (c : ℕ) (w : List ℕ) → w ≡ letter (letter_at c w).0 c ++ (letter_at c w).1
letter_takes c [] = refl
letter_takes c (d ∷ ds) = letter_test c d ds (eqb d c) (eqb-true d c)

long_or_dash : (w : List ℕ) → 0 < length w → w ≡ or_dash w
long_or_dash [] h = absurd (omega arith)
long_or_dash (c ∷ cs) h = refl

-- A word of letters, or a dash for none. The flags are those of the front, and nothing is left behind it.
flags_end : {F : Type 0} (text : F → List ℕ) (Fits : F → Type 0) (f g : F) (w front rest : List ℕ) (t : Bool) → 0 < length w →
    (t ≡ true → length rest ≡ 0)
    → w ≡ front ++ rest → text f ≡ or_dash front → Fits f → cond t (done f) (Err BadLine) ≡ Ok g → (w ≡ text g) × Fits g
flags_end {F = F} text Fits f g w front rest true long h e p fits k =
    let none : rest ≡ [] = nil_from_length rest (h refl) in
    let whole : w ≡ front = e ∙ ap (λ (r : List ℕ). front ++ r) none ∙ append-nil front in
    subst (λ (x : F). (w ≡ text x) × Fits x) (ok_is f g k) (long_or_dash w long ∙ ap or_dash whole ∙ sym p, fits)
flags_end text Fits f g w front rest false long h e p fits k = absurd cc

flags_chosen : {F : Type 0} (text : F → List ℕ) (Fits : F → Type 0) (none f g : F) (w front rest : List ℕ) (t u : Bool) → 0 < length w →
    Decides t (w ≡ dash) → (u ≡ true → length rest ≡ 0)
    → text none ≡ dash → Fits none → w ≡ front ++ rest → text f ≡ or_dash front → Fits f →
    cond t (done none) (cond u (done f) (Err BadLine)) ≡ Ok g → (w ≡ text g) × Fits g
flags_chosen {F = F} text Fits none f g w front rest true u long d h n m e p fits k =
    subst (λ (x : F). (w ≡ text x) × Fits x) (ok_is none g k) (d.0 refl ∙ sym n, m)
flags_chosen text Fits none f g w front rest false u long d h n m e p fits k = flags_end text Fits f g w front rest u long h e p fits k

letter_solid : (b : Bool) (c : ℕ) → 32 < c → IsSolid (letter b c)
letter_solid true c h = (h, tt)
letter_solid false c h = tt

or_dash_solid : (w : List ℕ) → IsSolid w → IsSolid (or_dash w)
or_dash_solid [] p = dash_solid
or_dash_solid (c ∷ cs) p = p

-- ---- what holds of each number below a bound

-- the facts of the numbers from n on
abbrev From : (ℕ → Type 0) → ℕ → ℕ → Type 0
From P n zero = Unit {0}
From P n (suc count) = P n × From P (n + 1) count

from_at : (P : ℕ → Type 0) (n count i : ℕ) → From P n count → i < count → P (n + i)
from_at P n zero i h lt = absurd (omega (arith, lt))
from_at P n (suc count) zero h lt = let same : n ≡ n + 0 = omega arith in subst P same h.0
from_at P n (suc count) (suc i) h lt = let same : n + 1 + i ≡ n + suc i = omega arith in
    subst P same (from_at P (n + 1) count i h.1 (omega (arith, lt)))

below_at : (P : ℕ → Type 0) (count i : ℕ) → From P 0 count → i < count → P i
below_at P count i h lt = let same : 0 + i ≡ i = omega arith in subst P same (from_at P 0 count i h lt)

-- ---- the letters anx, and s behind them of a semaphore

abbrev open_made : Bool → Bool → Bool → OpenFlags
open_made a n x = record { 0 = bit_or (bit_or (cond a 1 0) (cond n 2 0)) (cond x 4 0) }

abbrev counter_letters : Bool → Bool → Bool → Bool → List ℕ
counter_letters a n x s = letter a 97 ++ (letter n 110 ++ (letter x 120 ++ letter s 115))

-- the text of the flags, that they fit, and their letters before what follows
abbrev IsCounterText : Bool → Bool → Bool → Bool → Type 0
IsCounterText a n x s = (counter_flags (s, open_made a n x) ≡ or_dash (counter_letters a n x s)) × FitsOpenFlags (open_made a n x)
    × ((rest : List ℕ) → letter a 97 ++ (letter n 110 ++ (letter x 120 ++ (letter s 115 ++ rest))) ≡ counter_letters a n x s ++ rest)

counter_text : (a n x s : Bool) → IsCounterText a n x s
counter_text true true true true = (refl, lit< tt, λ rest. refl)
counter_text true true true false = (refl, lit< tt, λ rest. refl)
counter_text true true false true = (refl, lit< tt, λ rest. refl)
counter_text true true false false = (refl, lit< tt, λ rest. refl)
counter_text true false true true = (refl, lit< tt, λ rest. refl)
counter_text true false true false = (refl, lit< tt, λ rest. refl)
counter_text true false false true = (refl, lit< tt, λ rest. refl)
counter_text true false false false = (refl, lit< tt, λ rest. refl)
counter_text false true true true = (refl, lit< tt, λ rest. refl)
counter_text false true true false = (refl, lit< tt, λ rest. refl)
counter_text false true false true = (refl, lit< tt, λ rest. refl)
counter_text false true false false = (refl, lit< tt, λ rest. refl)
counter_text false false true true = (refl, lit< tt, λ rest. refl)
counter_text false false true false = (refl, lit< tt, λ rest. refl)
counter_text false false false true = (refl, lit< tt, λ rest. refl)
counter_text false false false false = (refl, lit< tt, λ rest. refl)

-- the letters of anx, and what follows them
abbrev OpenParts : List ℕ → Type 0
OpenParts w =
    let a = letter_at 97 w in
    let n = letter_at 110 a.1 in
    let x = letter_at 120 n.1 in
    w ≡ letter a.0 97 ++ (letter n.0 110 ++ (letter x.0 120 ++ x.1))

open_parts : (w : List ℕ) → OpenParts w
open_parts w =
    let a = letter_at 97 w in
    let n = letter_at 110 a.1 in
    letter_takes 97 w ∙ ap (λ (r : List ℕ). letter a.0 97 ++ r)
    (letter_takes 110 a.1 ∙ ap (λ (r : List ℕ). letter n.0 110 ++ r) (letter_takes 120 n.1))

open_takes : (w : List ℕ) (g : OpenFlags) → open_flags_at w ≡ Ok g → (w ≡ open_flags g) × FitsOpenFlags g
unfolding open_flags_at
open_takes [] g e = absurd cc
open_takes (c ∷ cs) g e =
    let w = c ∷ cs in
    let a = letter_at 97 w in
    let n = letter_at 110 a.1 in
    let x = letter_at 120 n.1 in
    let text = counter_text a.0 n.0 x.0 false in
    flags_chosen open_flags FitsOpenFlags (record { 0 = 0 }) (open_made a.0 n.0 x.0) g w (counter_letters a.0 n.0 x.0 false) x.1
    (bytes_eq w dash) (eqb (length x.1) 0) (omega arith) (bytes_eq-Decides w dash) (eqb-true (length x.1) 0) refl (lit< tt)
    (open_parts w ∙ text.2 x.1) text.0 text.1 e

open_bad : (w : List ℕ) → IsBadOrOk (open_flags_at w)
unfolding open_flags_at
open_bad [] = refl
open_bad (c ∷ cs) = either_bad (bytes_eq (c ∷ cs) dash) (Ok (record { 0 = 0 })) _ tt (guard_bad _ _)

abbrev OpenAgain : ℕ → Type 0
OpenAgain n = open_flags_at (open_flags (record { 0 = n })) ≡ Ok (record { 0 = n })

each_open : From OpenAgain 0 8
unfolding open_flags_at
each_open = (refl, (refl, (refl, (refl, (refl, (refl, (refl, (refl, tt))))))))

counter_letters_solid : (a n x s : Bool) → IsSolid (counter_letters a n x s)
counter_letters_solid a n x s = solid_append (letter a 97) (letter n 110 ++ (letter x 120 ++ letter s 115)) (letter_solid a 97 (lit< tt))
    (solid_append (letter n 110) (letter x 120 ++ letter s 115) (letter_solid n 110 (lit< tt))
    (solid_append (letter x 120) (letter s 115) (letter_solid x 120 (lit< tt)) (letter_solid s 115 (lit< tt))))

counter_solid : (c : Bool × OpenFlags) → FitsOpenFlags c.1 → IsSolid (counter_flags c)
counter_solid c h = or_dash_solid (counter_letters (has_bits c.1.0 1) (has_bits c.1.0 2) (has_bits c.1.0 4) c.0)
    (counter_letters_solid (has_bits c.1.0 1) (has_bits c.1.0 2) (has_bits c.1.0 4) c.0)

pub open_flags_kind : IsKind open_flags_at open_flags FitsOpenFlags
open_flags_kind = record {
  takes = open_takes;
  bad = open_bad;
  again = λ f h. below_at OpenAgain 8 f.0 each_open h;
  solid = λ f h. counter_solid (false, f) h;
}

abbrev FitsCounterFlags : Bool × OpenFlags → Type 0
FitsCounterFlags c = FitsOpenFlags c.1

counter_takes : (w : List ℕ) (g : Bool × OpenFlags) → counter_flags_at w ≡ Ok g → (w ≡ counter_flags g) × FitsCounterFlags g
unfolding counter_flags_at
counter_takes [] g e = absurd cc
counter_takes (c ∷ cs) g e =
    let w = c ∷ cs in
    let a = letter_at 97 w in
    let n = letter_at 110 a.1 in
    let x = letter_at 120 n.1 in
    let s = letter_at 115 x.1 in
    let parts : w ≡ letter a.0 97 ++ (letter n.0 110 ++ (letter x.0 120 ++ (letter s.0 115 ++ s.1))) =
    open_parts w ∙ ap (λ (r : List ℕ). letter a.0 97 ++ (letter n.0 110 ++ (letter x.0 120 ++ r))) (letter_takes 115 x.1) in
    let text = counter_text a.0 n.0 x.0 s.0 in
    flags_chosen counter_flags FitsCounterFlags (false, record { 0 = 0 }) (s.0, open_made a.0 n.0 x.0) g w
    (counter_letters a.0 n.0 x.0 s.0) s.1 (bytes_eq w dash) (eqb (length s.1) 0) (omega arith) (bytes_eq-Decides w dash)
    (eqb-true (length s.1) 0) refl (lit< tt) (parts ∙ text.2 s.1) text.0 text.1 e

counter_bad : (w : List ℕ) → IsBadOrOk (counter_flags_at w)
unfolding counter_flags_at
counter_bad [] = refl
counter_bad (c ∷ cs) = either_bad (bytes_eq (c ∷ cs) dash) (Ok (false, record { 0 = 0 })) _ tt (guard_bad _ _)

abbrev CounterAgain : Bool → ℕ → Type 0
CounterAgain s n = counter_flags_at (counter_flags (s, record { 0 = n })) ≡ Ok (s, record { 0 = n })

each_counter : (s : Bool) → From (CounterAgain s) 0 8
unfolding counter_flags_at
each_counter true = (refl, (refl, (refl, (refl, (refl, (refl, (refl, (refl, tt))))))))
each_counter false = (refl, (refl, (refl, (refl, (refl, (refl, (refl, (refl, tt))))))))

pub counter_flags_kind : IsKind counter_flags_at counter_flags FitsCounterFlags
counter_flags_kind = record {
  takes = counter_takes;
  bad = counter_bad;
  again = λ c h. below_at (CounterAgain c.0) 8 c.1.0 (each_counter c.0) h;
  solid = counter_solid;
}

-- ---- the letters dptx

abbrev msg_letters : Bool → Bool → Bool → Bool → List ℕ
msg_letters d p t x = letter d 100 ++ (letter p 112 ++ (letter t 116 ++ letter x 120))

abbrev msg_made : Bool → Bool → Bool → Bool → MsgFlags
msg_made d p t x = record { 0 = bit_or (bit_or (bit_or (cond d 4 0) (cond p 1 0)) (cond t 2 0)) (cond x 8 0) }

-- the text of the flags, that they fit, and their letters before what follows
abbrev IsMsgText : Bool → Bool → Bool → Bool → Type 0
IsMsgText d p t x = (msg_flags (msg_made d p t x) ≡ or_dash (msg_letters d p t x)) × FitsMsgFlags (msg_made d p t x)
    × ((rest : List ℕ) → letter d 100 ++ (letter p 112 ++ (letter t 116 ++ (letter x 120 ++ rest))) ≡ msg_letters d p t x ++ rest)

msg_text : (d p t x : Bool) → IsMsgText d p t x
msg_text true true true true = (refl, lit< tt, λ rest. refl)
msg_text true true true false = (refl, lit< tt, λ rest. refl)
msg_text true true false true = (refl, lit< tt, λ rest. refl)
msg_text true true false false = (refl, lit< tt, λ rest. refl)
msg_text true false true true = (refl, lit< tt, λ rest. refl)
msg_text true false true false = (refl, lit< tt, λ rest. refl)
msg_text true false false true = (refl, lit< tt, λ rest. refl)
msg_text true false false false = (refl, lit< tt, λ rest. refl)
msg_text false true true true = (refl, lit< tt, λ rest. refl)
msg_text false true true false = (refl, lit< tt, λ rest. refl)
msg_text false true false true = (refl, lit< tt, λ rest. refl)
msg_text false true false false = (refl, lit< tt, λ rest. refl)
msg_text false false true true = (refl, lit< tt, λ rest. refl)
msg_text false false true false = (refl, lit< tt, λ rest. refl)
msg_text false false false true = (refl, lit< tt, λ rest. refl)
msg_text false false false false = (refl, lit< tt, λ rest. refl)

msg_takes : (w : List ℕ) (g : MsgFlags) → msg_flags_at w ≡ Ok g → (w ≡ msg_flags g) × FitsMsgFlags g
unfolding msg_flags_at
msg_takes [] g e = absurd cc
msg_takes (c ∷ cs) g e =
    let w = c ∷ cs in
    let d = letter_at 100 w in
    let p = letter_at 112 d.1 in
    let t = letter_at 116 p.1 in
    let x = letter_at 120 t.1 in
    let parts : w ≡ letter d.0 100 ++ (letter p.0 112 ++ (letter t.0 116 ++ (letter x.0 120 ++ x.1))) =
    letter_takes 100 w ∙ ap (λ (r : List ℕ). letter d.0 100 ++ r)
    (letter_takes 112 d.1 ∙ ap (λ (r : List ℕ). letter p.0 112 ++ r)
    (letter_takes 116 p.1 ∙ ap (λ (r : List ℕ). letter t.0 116 ++ r) (letter_takes 120 t.1))) in
    let text = msg_text d.0 p.0 t.0 x.0 in
    flags_chosen msg_flags FitsMsgFlags (record { 0 = 0 }) (msg_made d.0 p.0 t.0 x.0) g w (msg_letters d.0 p.0 t.0 x.0) x.1
    (bytes_eq w dash) (eqb (length x.1) 0) (omega arith) (bytes_eq-Decides w dash) (eqb-true (length x.1) 0) refl (lit< tt)
    (parts ∙ text.2 x.1) text.0 text.1 e

msg_bad : (w : List ℕ) → IsBadOrOk (msg_flags_at w)
unfolding msg_flags_at
msg_bad [] = refl
msg_bad (c ∷ cs) = either_bad (bytes_eq (c ∷ cs) dash) (Ok (record { 0 = 0 })) _ tt (guard_bad _ _)

abbrev MsgAgain : ℕ → Type 0
MsgAgain n = msg_flags_at (msg_flags (record { 0 = n })) ≡ Ok (record { 0 = n })

each_msg : From MsgAgain 0 16
unfolding msg_flags_at
each_msg = (
  refl,
  (
    refl,
    (
      refl,
      (
        refl,
        (
          refl,
          (refl, (refl, (refl, (refl, (refl, (refl, (refl, (refl, (refl, (refl, (refl, tt))))))))))),
        ),
      ),
    ),
  ),
)

msg_letters_solid : (d p t x : Bool) → IsSolid (msg_letters d p t x)
msg_letters_solid d p t x = solid_append (letter d 100) (letter p 112 ++ (letter t 116 ++ letter x 120)) (letter_solid d 100 (lit< tt))
    (solid_append (letter p 112) (letter t 116 ++ letter x 120) (letter_solid p 112 (lit< tt))
    (solid_append (letter t 116) (letter x 120) (letter_solid t 116 (lit< tt)) (letter_solid x 120 (lit< tt))))

msg_solid : (f : MsgFlags) → FitsMsgFlags f → IsSolid (msg_flags f)
msg_solid f h = or_dash_solid (msg_letters (has_bits f.0 4) (has_bits f.0 1) (has_bits f.0 2) (has_bits f.0 8))
    (msg_letters_solid (has_bits f.0 4) (has_bits f.0 1) (has_bits f.0 2) (has_bits f.0 8))

pub msg_flags_kind : IsKind msg_flags_at msg_flags FitsMsgFlags
msg_flags_kind = record { takes = msg_takes; bad = msg_bad; again = λ f h. below_at MsgAgain 16 f.0 each_msg h; solid = msg_solid }

-- ---- the letters ioh

abbrev events_letters : Bool → Bool → Bool → List ℕ
events_letters i o h = letter i 105 ++ (letter o 111 ++ letter h 104)

abbrev events_made : Bool → Bool → Bool → PollFlags
events_made i o h = record { 0 = bit_or (bit_or (cond i 1 0) (cond o 2 0)) (cond h 4 0) }

-- the text of the conditions, that they fit, and their letters before what follows
abbrev IsEventsText : Bool → Bool → Bool → Type 0
IsEventsText i o h = (events_text (events_made i o h) ≡ or_dash (events_letters i o h)) × FitsEvents (events_made i o h)
    × ((rest : List ℕ) → letter i 105 ++ (letter o 111 ++ (letter h 104 ++ rest)) ≡ events_letters i o h ++ rest)

events_told : (i o h : Bool) → IsEventsText i o h
events_told true true true = (refl, lit< tt, λ rest. refl)
events_told true true false = (refl, lit< tt, λ rest. refl)
events_told true false true = (refl, lit< tt, λ rest. refl)
events_told true false false = (refl, lit< tt, λ rest. refl)
events_told false true true = (refl, lit< tt, λ rest. refl)
events_told false true false = (refl, lit< tt, λ rest. refl)
events_told false false true = (refl, lit< tt, λ rest. refl)
events_told false false false = (refl, lit< tt, λ rest. refl)

events_takes : (w : List ℕ) (g : PollFlags) → events_at w ≡ Ok g → (w ≡ events_text g) × FitsEvents g
unfolding events_at
events_takes [] g e = absurd cc
events_takes (c ∷ cs) g e =
    let w = c ∷ cs in
    let i = letter_at 105 w in
    let o = letter_at 111 i.1 in
    let h = letter_at 104 o.1 in
    let parts : w ≡ letter i.0 105 ++ (letter o.0 111 ++ (letter h.0 104 ++ h.1)) =
    letter_takes 105 w ∙ ap (λ (r : List ℕ). letter i.0 105 ++ r)
    (letter_takes 111 i.1 ∙ ap (λ (r : List ℕ). letter o.0 111 ++ r) (letter_takes 104 o.1)) in
    let text = events_told i.0 o.0 h.0 in
    flags_chosen events_text FitsEvents (record { 0 = 0 }) (events_made i.0 o.0 h.0) g w (events_letters i.0 o.0 h.0) h.1
    (bytes_eq w dash) (eqb (length h.1) 0) (omega arith) (bytes_eq-Decides w dash) (eqb-true (length h.1) 0) refl (lit< tt)
    (parts ∙ text.2 h.1) text.0 text.1 e

events_bad : (w : List ℕ) → IsBadOrOk (events_at w)
unfolding events_at
events_bad [] = refl
events_bad (c ∷ cs) = either_bad (bytes_eq (c ∷ cs) dash) (Ok (record { 0 = 0 })) _ tt (guard_bad _ _)

abbrev EventsAgain : ℕ → Type 0
EventsAgain n = events_at (events_text (record { 0 = n })) ≡ Ok (record { 0 = n })

each_events : From EventsAgain 0 8
unfolding events_at
each_events = (refl, (refl, (refl, (refl, (refl, (refl, (refl, (refl, tt))))))))

events_letters_solid : (i o h : Bool) → IsSolid (events_letters i o h)
events_letters_solid i o h = solid_append (letter i 105) (letter o 111 ++ letter h 104) (letter_solid i 105 (lit< tt))
    (solid_append (letter o 111) (letter h 104) (letter_solid o 111 (lit< tt)) (letter_solid h 104 (lit< tt)))

events_solid : (f : PollFlags) → FitsEvents f → IsSolid (events_text f)
events_solid f h = or_dash_solid (events_letters (has_bits f.0 1) (has_bits f.0 2) (has_bits f.0 4))
    (events_letters_solid (has_bits f.0 1) (has_bits f.0 2) (has_bits f.0 4))

pub events_kind : IsKind events_at events_text FitsEvents
events_kind = record {
  takes = events_takes;
  bad = events_bad;
  again = λ f h. below_at EventsAgain 8 f.0 each_events h;
  solid = events_solid;
}

abbrev AreApart : ℕ → ℕ → Type 0
AreApart byte n = list_all (λ b. not (eqb b byte)) (events_text (record { 0 = n })) ≡ true

each_no_comma : From (AreApart 44) 0 8
each_no_comma = (refl, (refl, (refl, (refl, (refl, (refl, (refl, (refl, tt))))))))

each_no_colon : From (AreApart 58) 0 8
each_no_colon = (refl, (refl, (refl, (refl, (refl, (refl, (refl, (refl, tt))))))))

pub events_no_comma : (f : PollFlags) → FitsEvents f → HasNo 44 (events_text f)
events_no_comma f h = has_no_from 44 (events_text f) (below_at (AreApart 44) 8 f.0 each_no_comma h)

pub events_no_colon : (f : PollFlags) → FitsEvents f → HasNo 58 (events_text f)
events_no_colon f h = has_no_from 58 (events_text f) (below_at (AreApart 58) 8 f.0 each_no_colon h)
