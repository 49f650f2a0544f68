-- Why a line is at fault.
use Rattle.std.proofs.Common.{◌≡◌, ℕ, ◌<◌, ◌≤◌, Bool, true, false, cond, not, ltb, eqb, ◌&&◌}
use Rattle.std.proofs.Common.{List, [], ◌∷◌, ◌++◌, length, Result, Ok, Err, refl, ap, sym, ◌∙◌, subst}
use Rattle.std.specs.List.{slice_split}
use Rattle.std.proofs.lemmas.Bool.{ltb-true, ltb-false}
use Rattle.std.proofs.lemmas.Bool.{both_ways}
use Rattle.ux_syntax.specs.declared.fault.Fault.{Fault}
use Rattle.ux_syntax.specs.declared.fault.Fault.TheVariants.{BadLine, UnknownProcess, TooLong}
use Rattle.ux_syntax.specs.declared.script.Header.{Header}
use Rattle.ux_syntax.specs.Lines.{Line}
use Rattle.ux_syntax.specs.declared.reading.Parsed.{Parsed}
use Rattle.ux_syntax.specs.Text.{plain_line}
use Rattle.ux_syntax.specs.Spelling.{Turn, line_of, Plan}
use Rattle.ux_syntax.specs.Spelling.{is_meant, line_limit}
use Rattle.ux_syntax.specs.Spelling.{NamesProcesses, IsCallOfStranger, IsFaultOf}
use Rattle.ux_syntax.specs.Spelling.{asks_fork, asks_recorded, MayAsk, known_count}
use Rattle.ux_syntax.specs.Spelling.{NoneAfterExit, IsOrderly}
use Rattle.ux_syntax.specs.Turns.{has_exited, is_known, awaits_known}
use Rattle.ux_syntax.specs.Reading.{◌>>=◌, words_at, item_at, with_off, is_unsaid}
use Rattle.ux_syntax.specs.Reading.{may_fork, joined_by_fork, is_barred, joined_by_allowed, joined_by_other, joined_by, is_skipped, added}
use Rattle.ux_syntax.specs.Reading.{line_at}
use Rattle.ux_syntax.proofs.Rows.{IsBadOrOk}
use Rattle.ux_syntax.proofs.Items.{words_bad, Says, item_takes, skip_again, turn_again_line}
use Rattle.ux_syntax.proofs.Scripts.Exits.{exits_more, exits_less}
use Rattle.ux_syntax.proofs.Scripts.Processes.{known_to, awaits_to, unknown_quiet, not_barred, barred_not}
use Rattle.ux_syntax.proofs.Scripts.Reading.{is_short, skip_joins}

abbrev failed : {X : Type 0} → Fault → Result X Fault
failed f = Err f

abbrev said : Parsed → Result Parsed Fault
said item = Ok item

err_is : {X : Type 0} (f g : Fault) → failed {X = X} f ≡ failed g → f ≡ g
err_is f g e = cc

ok_no_fault : {X : Type 0} (x : X) (f : Fault) → Ok x ≡ failed f → ⊥
ok_no_fault x f e = cc

same_line : (a b : Line) → said (Parsed.Line a) ≡ said (Parsed.Line b) → a ≡ b
same_line a b e = cc

line_no_serial : (a : Line) → said (Parsed.Line a) ≡ said Parsed.Serial → ⊥
line_no_serial a e = cc

line_no_header : (a : Line) (x : Header) → said (Parsed.Line a) ≡ said (Parsed.Header x) → ⊥
line_no_header a x e = cc

-- the line of a stranger is read as that line
stranger_reads : (s : Plan) (l : List ℕ) (w : IsCallOfStranger s l) → is_short s l → is_meant l ≡ true →
    item_at (line_limit s.serial) l ≡ Ok (Parsed.Line (line_of w.0))
stranger_reads s l w short m = turn_again_line w.0 (line_limit s.serial) l short m w.1 w.2

no_stranger : (s : Plan) (l : List ℕ) (m : Bool) → is_meant l ≡ m → is_short s l → item_at (line_limit s.serial) l ≡ Err BadLine →
    IsCallOfStranger s l → ⊥
no_stranger s l true m short e w = ok_no_fault (Parsed.Line (line_of w.0)) BadLine (sym (stranger_reads s l w short m) ∙ e)
no_stranger s l false m short e w = ok_no_fault Parsed.Skipped BadLine (sym (skip_again (line_limit s.serial) l short m) ∙ e)

-- a line whose words aren't read
abbrev IsUnread : ℕ → List ℕ → Fault → Type 0
IsUnread limit l TooLong = limit < length l
IsUnread limit l BadLine = length l ≤ limit
IsUnread limit l UnknownProcess = ⊥

unread_by : (limit : ℕ) (l : List ℕ) (f : Fault) (t u : Bool) → ltb limit (length l) ≡ t →
    cond t (Err TooLong) (cond u (words_at (slice_split (λ b. eqb b 32) (plain_line l))) (Ok Parsed.Skipped)) ≡ Err f → IsUnread limit l f
unread_by limit l f true u m e = subst (IsUnread limit l) (err_is {X = Parsed} TooLong f e) (ltb-true limit (length l) m)
unread_by limit l f false true m e =
    let bad : f ≡ BadLine = subst IsBadOrOk e (words_bad (slice_split (λ b. eqb b 32) (plain_line l))) in
    subst (IsUnread limit l) (sym bad) (ltb-false limit (length l) m)
unread_by limit l f false false m e = absurd (ok_no_fault Parsed.Skipped f e)

unread : (limit : ℕ) (l : List ℕ) (f : Fault) → item_at limit l ≡ Err f → IsUnread limit l f
unfolding item_at
unread limit l f e = unread_by limit l f (ltb limit (length l)) (is_meant l) refl e

unread_why : (s : Plan) (l : List ℕ) (f : Fault) → IsUnread (line_limit s.serial) l f → item_at (line_limit s.serial) l ≡ Err f →
    IsFaultOf f s l
unread_why s l TooLong p e = p
unread_why s l BadLine p e = (p, λ w. no_stranger s l (is_meant l) refl p e w)
unread_why s l UnknownProcess p e = absurd p

header_why : (s : Plan) (l : List ℕ) (x : Header) (f : Fault) (y : Plan) (b : Bool) → is_short s l → is_meant l ≡ true →
    item_at (line_limit s.serial) l ≡ Ok (Parsed.Header x) → cond b (Ok y) (Err BadLine) ≡ Err f → IsFaultOf f s l
header_why s l x f y true short m k e = absurd (ok_no_fault y f e)
header_why s l x f y false short m k e =
    subst (λ g. IsFaultOf g s l) (err_is {X = Plan} BadLine f e)
    (short, λ w. line_no_header (line_of w.0) x (sym (stranger_reads s l w short m) ∙ k))

serial_why : (s : Plan) (l : List ℕ) (f : Fault) (y : Plan) (b : Bool) → is_short s l → is_meant l ≡ true →
    item_at (line_limit s.serial) l ≡ Ok Parsed.Serial → cond b (Ok y) (Err BadLine) ≡ Err f → IsFaultOf f s l
serial_why s l f y true short m k e = absurd (ok_no_fault y f e)
serial_why s l f y false short m k e =
    subst (λ g. IsFaultOf g s l) (err_is {X = Plan} BadLine f e)
    (short, λ w. line_no_serial (line_of w.0) (sym (stranger_reads s l w short m) ∙ k))

-- the line may follow the script's, but for the processes that it names
may_stand : (s : Plan) (line : Line) (t : Turn) → IsOrderly s → line_of t ≡ line → has_exited s.lines line.pid.0 ≡ false →
    NoneAfterExit (s.lines ++ line_of t ∷ [])
may_stand s line t orderly same quiet = exits_more s.lines (line_of t) orderly.exits
    (ap (λ (y : Line). has_exited s.lines y.pid.0) same ∙ quiet)

may_ask : (serial : Bool) (line other : Line) → other ≡ line → MayAsk serial line → MayAsk serial other
may_ask serial line other same asks h = asks (ap (λ (y : Line). asks_recorded y.act) (sym same) ∙ h)

-- a fork line is none that names a stranger
fork_why : (s : Plan) (l : List ℕ) (line : Line) (f : Fault) (x : Plan) (may : Bool) → asks_fork line.act ≡ true → is_short s l →
    Says (Parsed.Line line) l → item_at (line_limit s.serial) l ≡ Ok (Parsed.Line line) → cond may (Ok x) (Err BadLine) ≡ Err f →
    IsFaultOf f s l
fork_why s l line f x true forks short says k e = absurd (ok_no_fault x f e)
fork_why s l line f x false forks short says k e =
    subst (λ g. IsFaultOf g s l) (err_is {X = Plan} BadLine f e) (
      short,
      λ w.
          let same : line ≡ line_of w.0 = same_line line (line_of w.0) (sym k ∙ stranger_reads s l w short says.0) in
          both_ways (asks_fork line.act) (ap (λ (y : Line). asks_fork y.act) same ∙ w.4) forks,
    )

turn_why : (s : Plan) (l : List ℕ) (line : Line) (f : Fault) (x : Plan) (known exited awaited : Bool) → IsOrderly s → s.off ≡ false →
    asks_fork line.act ≡ false → MayAsk s.serial line → is_known (known_count s) line.pid.0 ≡ known →
    has_exited s.lines line.pid.0 ≡ exited → awaits_known (known_count s) line.act ≡ awaited
    → is_short s l → Says (Parsed.Line line) l → item_at (line_limit s.serial) l ≡ Ok (Parsed.Line line)
    → cond known (cond exited (Err BadLine) (cond awaited (Ok x) (Err UnknownProcess))) (Err UnknownProcess) ≡ Err f → IsFaultOf f s l
turn_why s l line f x true true awaited orderly no_off other asks known exited there short says k e =
    subst (λ g. IsFaultOf g s l) (err_is {X = Plan} BadLine f e) (
      short,
      λ w.
          let same : line ≡ line_of w.0 = same_line line (line_of w.0) (sym k ∙ stranger_reads s l w short says.0) in
          both_ways (has_exited s.lines line.pid.0)
          (ap (λ (y : Line). has_exited s.lines y.pid.0) same ∙ (exits_less s.lines (line_of w.0) w.5).1) exited,
    )
turn_why s l line f x true false true orderly no_off other asks known exited there short says k e = absurd (ok_no_fault x f e)
turn_why s l line f x true false false orderly no_off other asks known exited there short says k e =
    let w = says.1 in
    subst (λ g. IsFaultOf g s l) (err_is {X = Plan} UnknownProcess f e) (
      short,
      (
        w.0,
        w.2,
        w.3,
        no_off,
        ap (λ (y : Line). asks_fork y.act) w.1
            ∙ other,
        may_stand s line w.0 orderly w.1 exited,
        may_ask s.serial line (line_of w.0) w.1 asks,
        λ o. both_ways (awaits_known (known_count s) line.act) there
            (awaits_to (known_count s) line.act (subst (NamesProcesses (known_count s)) w.1 o).1),
      ),
    )
turn_why s l line f x false exited awaited orderly no_off other asks known gone there short says k e =
    let w = says.1 in
    let quiet = unknown_quiet (length s.procs) s.lines line.pid.0 orderly.processes known in
    subst (λ g. IsFaultOf g s l) (err_is {X = Plan} UnknownProcess f e) (
      short,
      (
        w.0,
        w.2,
        w.3,
        no_off,
        ap (λ (y : Line). asks_fork y.act) w.1
            ∙ other,
        may_stand s line w.0 orderly w.1 quiet,
        may_ask s.serial line (line_of w.0) w.1 asks,
        λ o. both_ways (is_known (known_count s) line.pid.0) known
            (known_to (known_count s) line.pid.0 (subst (NamesProcesses (known_count s)) w.1 o).0),
      ),
    )

-- nor is one whose call doesn't stand in the script
other_why : (s : Plan) (l : List ℕ) (line : Line) (f : Fault) (barred : Bool) → IsOrderly s → s.off ≡ false → asks_fork line.act ≡ false →
    is_barred s.serial line.act ≡ barred
    → is_short s l → Says (Parsed.Line line) l → item_at (line_limit s.serial) l ≡ Ok (Parsed.Line line) →
    cond barred (Err BadLine) (joined_by_allowed s line) ≡ Err f → IsFaultOf f s l
other_why s l line f true orderly no_off other barred short says k e =
    subst (λ g. IsFaultOf g s l) (err_is {X = Plan} BadLine f e) (
      short,
      λ w.
          let same : line ≡ line_of w.0 = same_line line (line_of w.0) (sym k ∙ stranger_reads s l w short says.0) in
          both_ways (is_barred s.serial line.act) (barred_not s.serial (asks_recorded line.act)
          (may_ask s.serial (line_of w.0) line same w.6)) barred,
    )
other_why s l line f false orderly no_off other allowed short says k e =
    turn_why s l line f _ (is_known (known_count s) line.pid.0) (has_exited s.lines line.pid.0) (awaits_known (known_count s) line.act)
    orderly no_off other (not_barred s.serial (asks_recorded line.act) allowed) refl refl refl short says k e

line_why : (s : Plan) (l : List ℕ) (line : Line) (f : Fault) (forks : Bool) → IsOrderly s → s.off ≡ false → asks_fork line.act ≡ forks →
    is_short s l → Says (Parsed.Line line) l → item_at (line_limit s.serial) l ≡ Ok (Parsed.Line line)
    → cond forks (joined_by_fork s line) (joined_by_other s line) ≡ Err f → IsFaultOf f s l
line_why s l line f true orderly no_off forks short says k e = fork_why s l line f _ (may_fork s line.pid.0) forks short says k e
line_why s l line f false orderly no_off other short says k e =
    other_why s l line f (is_barred s.serial line.act) orderly no_off other refl short says k e

joined_why : (s : Plan) (l : List ℕ) (item : Parsed) (f : Fault) → IsOrderly s → s.off ≡ false → is_short s l → Says item l →
    item_at (line_limit s.serial) l ≡ Ok item → joined_by s item ≡ Err f → IsFaultOf f s l
joined_why s l Parsed.Skipped f orderly no_off short says k e = absurd (ok_no_fault s f e)
joined_why s l (Parsed.Header x) f orderly no_off short says k e = header_why s l x f _ (eqb (length s.lines) 0) short says.0 k e
joined_why s l (Parsed.Line line) f orderly no_off short says k e =
    line_why s l line f (asks_fork line.act) orderly no_off refl short says k e
joined_why s l Parsed.Off f orderly no_off short says k e = absurd (ok_no_fault (with_off s) f e)
joined_why s l Parsed.Serial f orderly no_off short says k e = serial_why s l f _ (is_unsaid s) short says.0 k e

added_why : (s : Plan) (l : List ℕ) (item : Parsed) (f : Fault) (off skipped : Bool) → IsOrderly s → s.off ≡ off →
    is_skipped item ≡ skipped → is_short s l → Says item l → item_at (line_limit s.serial) l ≡ Ok item
    → cond (off && not skipped) (Err BadLine) (joined_by s item) ≡ Err f → IsFaultOf f s l
added_why s l item f false skipped orderly o n short says k e = joined_why s l item f orderly o short says k e
added_why s l item f true true orderly o n short says k e = absurd (ok_no_fault s f (sym (skip_joins s item n) ∙ e))
added_why s l item f true false orderly o n short says k e =
    subst (λ g. IsFaultOf g s l) (err_is {X = Plan} BadLine f e) (short, λ w. both_ways s.off w.3 o)

why_of : (s : Plan) (l : List ℕ) (f : Fault) (r : Result Parsed Fault) → IsOrderly s → item_at (line_limit s.serial) l ≡ r →
    (r >>= λ item. added s item) ≡ Err f → IsFaultOf f s l
why_of s l f (Ok item) orderly k e = let p = item_takes (line_limit s.serial) l item k in
    added_why s l item f s.off (is_skipped item) orderly refl refl p.0 p.1 k e
why_of s l f (Err g) orderly k e = subst
    (λ x. IsFaultOf x s l) (err_is {X = Plan} g f e) (unread_why s l g (unread (line_limit s.serial) l g k) k)

pub fault_is : (s : Plan) (l : List ℕ) (f : Fault) → IsOrderly s → line_at s l ≡ Err f → IsFaultOf f s l
unfolding line_at
fault_is s l f orderly e = why_of s l f (item_at (line_limit s.serial) l) orderly refl e
