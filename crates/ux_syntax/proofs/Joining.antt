-- A line more, where the header is over.
use mathlib.Core.Bool.{or-true}
use Rattle.std.proofs.Common.{◌≡◌, ℕ, suc, Bool, true, false, cond, not, ◌||◌, ◌&&◌, ◌==◌, List, [], ◌∷◌, ◌++◌, length, refl, ap, sym}
use Rattle.std.proofs.Common.{◌∙◌, ◌<◌, subst, arith, slice_index_or}
use Rattle.std.specs.Prelude.{Result, Ok, Err, OnErr, if◌then◌else◌}
use Rattle.std.proofs.lemmas.Bool.{ne_eqb, false≢true}
use Rattle.std.proofs.lemmas.List.{append-nil, get_or_read_under, length-append}
use Rattle.ux_syntax.specs.declared.fault.Fault.{Fault}
use Rattle.ux_syntax.specs.declared.fault.LineError.{LineError}
use Rattle.ux_syntax.specs.declared.reading.Parsed.{Parsed}
use Rattle.ux_syntax.specs.declared.script.Header.{Header}
use Rattle.ux_syntax.specs.Lines.{Line}
use Rattle.ux_syntax.specs.Spelling.{Plan, asks_fork, known_count}
use Rattle.ux_syntax.specs.Turns.{has_exited, is_known, awaits_known}
use Rattle.ux_syntax.specs.Reading.{◌>>=◌, item_at, with_header, with_line, with_off, with_serial, is_unsaid, may_fork, joined_by_line}
use Rattle.ux_syntax.specs.Reading.{joined_by_fork, is_barred, joined_by_allowed, joined_by_other, joined_by, is_skipped, added, line_at}
use Rattle.ux_syntax.specs.Results.{Leaves, KnowsExits}
use Rattle.ux_syntax.specs.Joining.{is_begun, Continues}

abbrev Stays : Plan → Result Plan Fault → Type 0
Stays s (Ok t) = Continues s t
Stays s (Err f) = Unit {0}

same_continues : (s : Plan) → is_begun s ≡ true → Continues s s
same_continues s b = record { procs = refl; more = []; lines = sym (append-nil s.lines); begun = b }

line_begins : (xs : List Line) (line : Line) (off : Bool) → (not (length (xs ++ line ∷ []) == 0) || off) ≡ true
line_begins xs line off =
    let long = length-append xs (line ∷ []) in
    λ j. not (ne_eqb (length (xs ++ line ∷ [])) 0 (λ h. omega (arith, long, h)) j) || off

line_stays : (s : Plan) (line : Line) → Continues s (with_line s line)
line_stays s line = record { procs = refl; more = line ∷ []; lines = refl; begun = line_begins s.lines line s.off }

off_stays : (s : Plan) → Continues s (with_off s)
off_stays s = record { procs = refl; more = []; lines = sym (append-nil s.lines); begun = or-true (not (length s.lines == 0)) }

serial_stays : (s : Plan) → is_begun s ≡ true → Continues s (with_serial s)
serial_stays s b = record { procs = refl; more = []; lines = sym (append-nil s.lines); begun = b }

fork_stays : (s : Plan) (line : Line) (may : Bool) → Stays s (if may then Ok (with_line s line) else Err Fault.BadLine)
fork_stays s line true = line_stays s line
fork_stays s line false = tt

own_stays : (s : Plan) (line : Line) (exited there : Bool) →
    Stays s (if exited then Err Fault.BadLine else if there then Ok (with_line s line) else Err Fault.UnknownProcess)
own_stays s line true there = tt
own_stays s line false true = line_stays s line
own_stays s line false false = tt

allowed_stays : (s : Plan) (line : Line) (known : Bool) → Stays s (if known then joined_by_line s line else Err Fault.UnknownProcess)
allowed_stays s line true = own_stays s line (has_exited s.lines line.pid.0) (awaits_known (known_count s) line.act)
allowed_stays s line false = tt

other_stays : (s : Plan) (line : Line) (barred : Bool) → Stays s (if barred then Err Fault.BadLine else joined_by_allowed s line)
other_stays s line true = tt
other_stays s line false = allowed_stays s line (is_known (known_count s) line.pid.0)

turn_stays : (s : Plan) (line : Line) (forks : Bool) → Stays s (if forks then joined_by_fork s line else joined_by_other s line)
turn_stays s line true = fork_stays s line (may_fork s line.pid.0)
turn_stays s line false = other_stays s line (is_barred s.serial line.act)

-- a header's line is at fault: a process has a line, since the end of the layer wasn't said
header_stays : (s : Plan) (h : Header) (none : Bool) → (length s.lines == 0) ≡ none → is_begun s ≡ true → (s.off && true) ≡ false →
    Stays s (if none then Ok (with_header s h) else Err Fault.BadLine)
header_stays s h false e b n = tt
header_stays s h true e b n =
    let off : s.off ≡ true = sym (λ j. not (e j) || s.off) ∙ b in
    absurd (false≢true (sym n ∙ (λ j. off j && true)))

serial_or_not : (s : Plan) (unsaid : Bool) → is_begun s ≡ true → Stays s (if unsaid then Ok (with_serial s) else Err Fault.BadLine)
serial_or_not s true b = serial_stays s b
serial_or_not s false b = tt

joined_stays : (s : Plan) (item : Parsed) → is_begun s ≡ true → (s.off && not (is_skipped item)) ≡ false → Stays s (joined_by s item)
joined_stays s Parsed.Skipped b n = same_continues s b
joined_stays s (Parsed.Header h) b n = header_stays s h (length s.lines == 0) refl b n
joined_stays s (Parsed.Line line) b n = turn_stays s line (asks_fork line.act)
joined_stays s Parsed.Off b n = off_stays s
joined_stays s Parsed.Serial b n = serial_or_not s (is_unsaid s) b

added_stays : (s : Plan) (item : Parsed) (after : Bool) → (s.off && not (is_skipped item)) ≡ after → is_begun s ≡ true →
    Stays s (if after then Err Fault.BadLine else joined_by s item)
added_stays s item true e b = tt
added_stays s item false e b = joined_stays s item b e

item_stays : (s : Plan) (read : Result Parsed Fault) → is_begun s ≡ true → Stays s (read >>= λ item. added s item)
item_stays s (Ok item) b = added_stays s item (s.off && not (is_skipped item)) refl b
item_stays s (Err f) b = tt

read_stays : (s t : Plan) (r : Result Plan Fault) → Stays s r → r ≡ Ok t → Continues s t
read_stays s t (Ok u) stays e = let same : u ≡ t = cc in subst (Continues s) same stays
read_stays s t (Err f) stays e = absurd cc

line_continues : (s t : Plan) (text : List ℕ) → is_begun s ≡ true → line_at s text ≡ Ok t → Continues s t
unfolding line_at
line_continues s t text b e = read_stays s t (line_at s text) (item_stays s (item_at _ text) b) e

pub read_continues : (s t : Plan) (text : List ℕ) (result : Result (Unit {0}) LineError) → Leaves t result (line_at s text) →
    OnErr result (t ≡ s) → is_begun s ≡ true → Continues s t
read_continues s t text (Ok x) leaves same b = line_continues s t text b leaves
read_continues s t text (Err e) leaves same b = subst (Continues s) (sym same) (same_continues s b)

-- ---- a line of a process that has made its exit

either_bad : (b : Bool) → cond {A = Result Plan Fault} b (Err Fault.BadLine) (Err Fault.BadLine) ≡ Err Fault.BadLine
either_bad true = refl
either_bad false = refl

pub exited_bad : (s : Plan) (line : Line) (exited : List Bool) (n : ℕ) (b : Bool) → KnowsExits s exited → asks_fork line.act ≡ false →
    is_known (length exited) line.pid.0 ≡ true → suc n ≡ line.pid.0 → n < length exited → b ≡ slice_index_or exited n b → b ≡ true →
    joined_by s (Parsed.Line line) ≡ Err Fault.BadLine
exited_bad s line exited n b k forks known place within read is =
    let count : is_known (known_count s) line.pid.0 ≡ true = subst (λ (m : ℕ). is_known m line.pid.0 ≡ true) k.long known in
    let there : slice_index_or exited n false ≡ true = sym (get_or_read_under exited n (length exited) b false read within refl) ∙ is in
    let gone : has_exited s.lines line.pid.0 ≡ true = ap (has_exited s.lines) (sym place) ∙ sym (k.each n) ∙ there in
    rw (forks, count, gone) (either_bad (is_barred s.serial line.act))
