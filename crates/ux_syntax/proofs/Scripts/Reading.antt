-- A line that is read joins the script, or is left out.
use Rattle.std.proofs.Common.{◌≡◌, ◌⊎◌, ℕ, ◌≤◌, Bool, true, false, cond, not, eqb, ◌&&◌}
use Rattle.std.proofs.Common.{List, [], ◌∷◌, ◌++◌, length, map, codes, Result, Ok, Err, refl, ap, sym, ◌∙◌, subst}
use Rattle.std.proofs.Common.{inl, inr}
use Rattle.std.specs.List.{AllByRecursion}
use Rattle.std.proofs.lemmas.Bool.{eqb-true, and_parts}
use Rattle.std.proofs.lemmas.Bool.{not-true, both_ways}
use Rattle.std.proofs.lemmas.List.{nil_from_length}
use Rattle.ux_syntax.specs.declared.fault.Fault.{Fault}
use Rattle.ux_syntax.specs.declared.fault.Fault.TheVariants.{BadLine, UnknownProcess}
use Rattle.ux_syntax.specs.declared.script.Header.{Header}
use Rattle.ux_syntax.specs.Lines.{Line}
use Rattle.ux_syntax.specs.declared.reading.Parsed.{Parsed}
use Rattle.ux_syntax.specs.Text.{plain_line}
use Rattle.ux_fields.specs.declared.CallWord.{CallWord}
use Rattle.ux_fields.specs.Forms.{kinds, is_off_word}
use Rattle.ux_fields.specs.Rows.{Row, request_of}
use Rattle.ux_syntax.specs.Spelling.{meant_row, Asked, FitsAsked}
use Rattle.ux_syntax.specs.Spelling.{call, wait, act_of, Turn, line_of, Plan, header_line, turn_line, is_meant, line_limit, AreShort}
use Rattle.ux_syntax.specs.Spelling.{FitsHeader, FitsTurn, NamesProcesses, is_off, asks_off, asks_fork, asks_recorded, MayAsk, known_count}
use Rattle.ux_syntax.specs.Spelling.{EachKnowing, MayFork, NoneAfterExit, IsCall, SpellScript}
use Rattle.ux_syntax.specs.Turns.{has_exited, is_known, awaits_known}
use Rattle.ux_syntax.specs.Reading.{item_at, with_header, with_line, with_off, with_serial, is_unsaid}
use Rattle.ux_syntax.specs.Reading.{may_fork, joined_by_fork, is_barred, joined_by_allowed, joined_by_other, joined_by, is_skipped, added}
use Rattle.ux_syntax.specs.Reading.{line_at}
use Rattle.ux_syntax.proofs.Rows.{bind_ok, ok_is, guard_ok}
use Rattle.ux_syntax.proofs.Items.{Says, item_takes, skip_again, header_again_line, turn_again_line, off_again_line}
use Rattle.ux_syntax.proofs.Items.{serial_again_line}
use Rattle.ux_syntax.proofs.Scripts.Limits.{each_more, each_less, HasLast, last_view, same_ends, no_end, behind_all, short_more}
use Rattle.ux_syntax.proofs.Scripts.Limits.{short_less, meant_lines, behind_none, common_least, limit_within, common_first, short_as}
use Rattle.ux_syntax.proofs.Scripts.Limits.{limit_is}
use Rattle.ux_syntax.proofs.Scripts.Exits.{exits_more, exits_less}
use Rattle.ux_syntax.proofs.Scripts.Processes.{known_from, known_to, awaits_from, awaits_to, known_more, known_less, MayJoin, not_barred}
use Rattle.ux_syntax.proofs.Scripts.Processes.{barred_not, fork_known, fork_may}
use Rattle.ux_syntax.proofs.Scripts.Lines.{meant_more, skipped_more, body_of, texts_of, header_spelling, turn_spelling, off_spelling}
use Rattle.ux_syntax.proofs.Scripts.Lines.{turns_meant, no_turns}
use Rattle.ux_syntax.proofs.Scripts.Headers.{plan_from, no_headers, header_more, plan_is}

known_ok : {X : Type 0} (known exited awaited : Bool) (x y : X) →
    cond known (cond exited (Err BadLine) (cond awaited (Ok x) (Err UnknownProcess))) (Err UnknownProcess) ≡ Ok y
    → (known ≡ true) × (exited ≡ false) × (awaited ≡ true) × (x ≡ y)
known_ok true true awaited x y e = absurd cc
known_ok true false true x y e = (refl, refl, refl, ok_is x y e)
known_ok true false false x y e = absurd cc
known_ok false exited awaited x y e = absurd cc

allowed_ok : {X : Type 0} (barred : Bool) (r : Result X Fault) (y : X) → cond barred (Err BadLine) r ≡ Ok y → (barred ≡ false) × (r ≡ Ok y)
allowed_ok true r y e = absurd cc
allowed_ok false r y e = (refl, e)

-- a line that joined the script might stand there
line_joined : (s : Plan) (line : Line) (t : Plan) → joined_by s (Parsed.Line line) ≡ Ok t → MayJoin s line × (with_line s line ≡ t)
line_joined s line t e = go (asks_fork line.act) refl e
  where
    count : ℕ
    count = known_count s

    go : (b : Bool) → asks_fork line.act ≡ b → cond b (joined_by_fork s line) (joined_by_other s line) ≡ Ok t →
        MayJoin s line × (with_line s line ≡ t)
    go true forks k =
        let g = guard_ok (may_fork s line.pid.0) (with_line s line) t k in
        (fork_known s line forks g.0, g.1)
    go false other k =
        let a = allowed_ok (is_barred s.serial line.act) (joined_by_allowed s line) t k in
        let g = known_ok (is_known count line.pid.0) (has_exited s.lines line.pid.0) (awaits_known count line.act) (with_line s line) t a.1
        in (
          record {
            names = (known_from count line.pid.0 g.0, awaits_from count line.act g.2);
            forks = λ f. absurd (both_ways (asks_fork line.act) other f);
            quiet = g.1;
            asks = not_barred s.serial (asks_recorded line.act) a.0;
          },
          g.3,
        )

-- a line that may stand there joins the script
line_joins : (s : Plan) (line : Line) → MayJoin s line → joined_by s (Parsed.Line line) ≡ Ok (with_line s line)
line_joins s line may = go (asks_fork line.act) refl
  where
    go : (b : Bool) → asks_fork line.act ≡ b → cond b (joined_by_fork s line) (joined_by_other s line) ≡ Ok (with_line s line)
    go true forks = rw (fork_may s line forks may) refl
    go false other = rw (
      barred_not s.serial (asks_recorded line.act) may.asks,
      known_to (known_count s) line.pid.0 may.names.0,
      may.quiet,
      awaits_to (known_count s) line.act may.names.1,
    ) refl

-- the lines with one more that says something
meant_spelling : (ls : List (List ℕ)) (l line : List ℕ) (before after : List (List ℕ)) → is_meant l ≡ true → meant_lines ls ≡ before →
    plain_line l ≡ line → after ≡ before ++ line ∷ [] → meant_lines (ls ++ l ∷ []) ≡ after
meant_spelling ls l line before after m h e k = meant_more ls l m ∙ ap (λ (xs : List (List ℕ)). xs ++ plain_line l ∷ []) h
    ∙ ap (λ (x : List ℕ). before ++ x ∷ []) e ∙ sym k

abbrev pub is_short : Plan → List ℕ → Type 0
is_short s text = length text ≤ line_limit s.serial

-- a line that the script's own limit lets through keeps all lines short
short_on : (ls : List (List ℕ)) (s : Plan) (l : List ℕ) → SpellScript ls s → is_short s l → AreShort s.serial false (ls ++ l ∷ [])
short_on ls s l h short = short_more s.serial false ls l h.short
    (subst (λ n. length l ≤ n) (sym (limit_is ls (body_of h.headers h.turns s.off) s.serial h.spelled)) short)

-- and the lines of a script without their last are short, as that one is
short_off : (ls : List (List ℕ)) (l : List ℕ) (t : Plan) → SpellScript (ls ++ l ∷ []) t → AreShort t.serial false ls × is_short t l
short_off ls l t h =
    let p = short_less t.serial false ls l h.short in
    (p.0, limit_within t.serial (behind_all false ls) (length l) p.1)

skip_takes : (ls : List (List ℕ)) (s : Plan) (l : List ℕ) → SpellScript ls s → is_short s l → is_meant l ≡ false →
    SpellScript (ls ++ l ∷ []) s
skip_takes ls s l h short says = record {
  headers = h.headers;
  turns = h.turns;
  short = short_on ls s l h short;
  spelled = skipped_more ls l says ∙ h.spelled;
  objects = h.objects;
  procs = h.procs;
  meant = h.meant;
  fit_headers = h.fit_headers;
  fit_turns = h.fit_turns;
  orderly = h.orderly;
}

header_takes : (ls : List (List ℕ)) (s : Plan) (l : List ℕ) (x : Header) → (h : SpellScript ls s) → s.lines ≡ [] → s.off ≡ false →
    is_short s l → Says (Parsed.Header x) l → SpellScript (ls ++ l ∷ []) (with_header s x)
header_takes ls s l x h none no_off short says =
    let bare : h.turns ≡ [] = no_turns h.turns (h.meant ∙ none) in
    let before : meant_lines ls ≡ texts_of s.serial h.headers [] false = h.spelled
    ∙ ap (λ (ts : List Turn). texts_of s.serial h.headers ts s.off) bare ∙ ap (λ (b : Bool). texts_of s.serial h.headers [] b) no_off in
    let same : plan_from s.serial (h.headers ++ x ∷ []) ≡ with_header s x = header_more s.serial h.headers x
    ∙ ap (λ (t : Plan). with_header t x) (sym (plan_is s h.headers h.objects h.procs none no_off)) in
    let made : SpellScript (ls ++ l ∷ []) (plan_from s.serial (h.headers ++ x ∷ [])) = record {
      headers = h.headers ++ x ∷ [];
      turns = [];
      short = short_on ls s l h short;
      spelled = meant_spelling ls l (header_line x) (texts_of s.serial h.headers [] false)
          (texts_of s.serial (h.headers ++ x ∷ []) [] false) says.0 before says.1 (header_spelling s.serial h.headers x);
      objects = refl;
      procs = refl;
      meant = refl;
      fit_headers = each_more FitsHeader h.headers x h.fit_headers says.2;
      fit_turns = tt;
      orderly = record { processes = tt; forks = tt; exits = tt; calls = tt; recorded = tt };
    } in
    subst (λ (y : Plan). SpellScript (ls ++ l ∷ []) y) same made

-- no call that is written ends the whole layer
is_no_end : (word : CallWord) (row : Row (kinds word)) → is_off_word word ≡ false → is_off (request_of word row) ≡ false
is_no_end CallWord.Off row h = absurd cc
is_no_end word row h = refl

asked_no_end : (a : Asked) → FitsAsked a → asks_off (act_of a) ≡ false
asked_no_end (call c) f = is_no_end c.word (meant_row (kinds c.word) c.fields) f.0
asked_no_end (wait pid calls) f = refl

turn_takes : (ls : List (List ℕ)) (s : Plan) (l : List ℕ) (line : Line) → (h : SpellScript ls s) → s.off ≡ false → MayJoin s line →
    is_short s l → Says (Parsed.Line line) l → SpellScript (ls ++ l ∷ []) (with_line s line)
turn_takes ls s l line h no_off may short says =
    let w = says.1 in
    let before : meant_lines ls ≡ texts_of s.serial h.headers h.turns false = h.spelled
    ∙ ap (λ (b : Bool). texts_of s.serial h.headers h.turns b) no_off in
    record {
      headers = h.headers;
      turns = h.turns ++ w.0 ∷ [];
      short = short_on ls s l h short;
      spelled = meant_spelling ls l (turn_line w.0) (texts_of s.serial h.headers h.turns false)
          (texts_of s.serial h.headers (h.turns ++ w.0 ∷ []) s.off) says.0 before w.2
          (ap (λ (b : Bool). texts_of s.serial h.headers (h.turns ++ w.0 ∷ []) b) no_off ∙ turn_spelling s.serial h.headers h.turns w.0);
      objects = h.objects;
      procs = h.procs;
      meant = turns_meant h.turns w.0 ∙ ap (λ (xs : List Line). xs ++ line_of w.0 ∷ []) h.meant ∙ ap (λ (x : Line). s.lines ++ x ∷ []) w.1;
      fit_headers = h.fit_headers;
      fit_turns = each_more FitsTurn h.turns w.0 h.fit_turns w.3;
      orderly = record {
        processes = known_more NamesProcesses (length s.procs) s.lines line h.orderly.processes may.names;
        forks = known_more (MayFork s.serial) (length s.procs) s.lines line h.orderly.forks may.forks;
        exits = exits_more s.lines line h.orderly.exits may.quiet;
        calls = each_more IsCall s.lines line h.orderly.calls (ap (λ (x : Line). asks_off x.act) (sym w.1) ∙ asked_no_end w.0.asked w.3.1);
        recorded = each_more (MayAsk s.serial) s.lines line h.orderly.recorded may.asks;
      };
    }

off_takes : (ls : List (List ℕ)) (s : Plan) (l : List ℕ) → (h : SpellScript ls s) → s.off ≡ false → is_short s l → Says Parsed.Off l →
    SpellScript (ls ++ l ∷ []) (with_off s)
off_takes ls s l h no_off short says = record {
  headers = h.headers;
  turns = h.turns;
  short = short_on ls s l h short;
  spelled = meant_spelling ls l (codes "off") (texts_of s.serial h.headers h.turns false) (texts_of s.serial h.headers h.turns true) says.0
      (h.spelled ∙ ap (λ (b : Bool). texts_of s.serial h.headers h.turns b) no_off) says.1 (off_spelling s.serial h.headers h.turns);
  objects = h.objects;
  procs = h.procs;
  meant = h.meant;
  fit_headers = h.fit_headers;
  fit_turns = h.fit_turns;
  orderly = record {
    processes = h.orderly.processes;
    forks = h.orderly.forks;
    exits = h.orderly.exits;
    calls = h.orderly.calls;
    recorded =
        h.orderly.recorded;
  };
}

-- the script in which no line has said anything
unsaid_is : (s : Plan) → is_unsaid s ≡ true → s.off ≡ false → s ≡ plan_from false []
unsaid_is s e no_off =
    let p = and_parts (not s.serial) (eqb (length s.objects) 0 && (eqb (length s.procs) 0 && eqb (length s.lines) 0)) e in
    let q = and_parts (eqb (length s.objects) 0) (eqb (length s.procs) 0 && eqb (length s.lines) 0) p.1 in
    let r = and_parts (eqb (length s.procs) 0) (eqb (length s.lines) 0) q.1 in
    let objects : s.objects ≡ [] = nil_from_length s.objects (eqb-true (length s.objects) 0 q.0) in
    let procs : s.procs ≡ [] = nil_from_length s.procs (eqb-true (length s.procs) 0 r.0) in
    let lines : s.lines ≡ [] = nil_from_length s.lines (eqb-true (length s.lines) 0 r.1) in
    plan_is s [] (sym objects) (sym procs) lines no_off ∙ ap (λ (b : Bool). plan_from b []) (not-true s.serial p.0)

-- no line of its spelling says anything
unsaid_spelled : (ls : List (List ℕ)) → SpellScript ls (plan_from false []) → meant_lines ls ≡ []
unsaid_spelled ls h =
    let hs = no_headers h.headers h.objects h.procs in
    let ts = no_turns h.turns h.meant in
    h.spelled ∙ ap (λ (xs : List Header). texts_of false xs h.turns false) hs ∙ ap (λ (xs : List Turn). texts_of false [] xs false) ts

first_takes : (ls : List (List ℕ)) (l : List ℕ) → SpellScript ls (plan_from false []) → length l ≤ 4096 → Says Parsed.Serial l →
    SpellScript (ls ++ l ∷ []) (plan_from true [])
first_takes ls l h short says =
    let before = unsaid_spelled ls h in
    record {
      headers = [];
      turns = [];
      short = short_more true false ls l (short_as false true ls before h.short) (common_least (behind_all false ls) (length l) short);
      spelled = meant_spelling ls l (codes "serial") [] (texts_of true [] [] false) says.0 before says.1 refl;
      objects = refl;
      procs = refl;
      meant = refl;
      fit_headers = tt;
      fit_turns = tt;
      orderly = record { processes = tt; forks = tt; exits = tt; calls = tt; recorded = tt };
    }

serial_takes : (ls : List (List ℕ)) (s : Plan) (l : List ℕ) → SpellScript ls s → is_unsaid s ≡ true → s.off ≡ false → is_short s l →
    Says Parsed.Serial l → SpellScript (ls ++ l ∷ []) (with_serial s)
serial_takes ls s l h unsaid no_off short says =
    let same = unsaid_is s unsaid no_off in
    subst (λ (y : Plan). SpellScript (ls ++ l ∷ []) (with_serial y)) (sym same)
    (first_takes ls l (subst (λ (y : Plan). SpellScript ls y) same h) (subst (λ (y : Plan). is_short y l) same short) says)

joined_takes : (item : Parsed) (ls : List (List ℕ)) (s : Plan) (l : List ℕ) (t : Plan) → SpellScript ls s → s.off ≡ false → is_short s l →
    Says item l → joined_by s item ≡ Ok t → SpellScript (ls ++ l ∷ []) t
joined_takes Parsed.Skipped ls s l t h no_off short says e =
    subst (λ (y : Plan). SpellScript (ls ++ l ∷ []) y) (ok_is s t e) (skip_takes ls s l h short says)
joined_takes (Parsed.Header x) ls s l t h no_off short says e =
    let g = guard_ok (eqb (length s.lines) 0) (with_header s x) t e in
    let none : s.lines ≡ [] = nil_from_length s.lines (eqb-true (length s.lines) 0 g.0) in
    subst (λ (y : Plan). SpellScript (ls ++ l ∷ []) y) g.1 (header_takes ls s l x h none no_off short says)
joined_takes (Parsed.Line line) ls s l t h no_off short says e =
    let g = line_joined s line t e in
    subst (λ (y : Plan). SpellScript (ls ++ l ∷ []) y) g.1 (turn_takes ls s l line h no_off g.0 short says)
joined_takes Parsed.Off ls s l t h no_off short says e =
    subst (λ (y : Plan). SpellScript (ls ++ l ∷ []) y) (ok_is (with_off s) t e) (off_takes ls s l h no_off short says)
joined_takes Parsed.Serial ls s l t h no_off short says e =
    let g = guard_ok (is_unsaid s) (with_serial s) t e in
    subst (λ (y : Plan). SpellScript (ls ++ l ∷ []) y) g.1 (serial_takes ls s l h g.0 no_off short says)

is_skip : (item : Parsed) (l : List ℕ) → is_skipped item ≡ true → Says item l → is_meant l ≡ false
is_skip Parsed.Skipped l k says = says
is_skip (Parsed.Header x) l k says = absurd cc
is_skip (Parsed.Line line) l k says = absurd cc
is_skip Parsed.Off l k says = absurd cc
is_skip Parsed.Serial l k says = absurd cc

pub skip_joins : (s : Plan) (item : Parsed) → is_skipped item ≡ true → joined_by s item ≡ Ok s
skip_joins s Parsed.Skipped k = refl
skip_joins s (Parsed.Header x) k = absurd cc
skip_joins s (Parsed.Line line) k = absurd cc
skip_joins s Parsed.Off k = absurd cc
skip_joins s Parsed.Serial k = absurd cc

added_by : (item : Parsed) (ls : List (List ℕ)) (s : Plan) (l : List ℕ) (t : Plan) (off skipped : Bool) → s.off ≡ off →
    is_skipped item ≡ skipped → SpellScript ls s → is_short s l → Says item l
    → cond (off && not skipped) (Err BadLine) (joined_by s item) ≡ Ok t → SpellScript (ls ++ l ∷ []) t
added_by item ls s l t false skipped f k h short says e = joined_takes item ls s l t h f short says e
added_by item ls s l t true true f k h short says e =
    subst (λ (y : Plan). SpellScript (ls ++ l ∷ []) y) (ok_is s t (sym (skip_joins s item k) ∙ e))
    (skip_takes ls s l h short (is_skip item l k says))
added_by item ls s l t true false f k h short says e = absurd cc

pub line_takes : (ls : List (List ℕ)) (s : Plan) (l : List ℕ) (t : Plan) → SpellScript ls s → line_at s l ≡ Ok t →
    SpellScript (ls ++ l ∷ []) t
unfolding line_at
line_takes ls s l t h e =
    let a = bind_ok (item_at (line_limit s.serial) l) (λ item. added s item) t e in
    let p = item_takes (line_limit s.serial) l a.0 a.1 in
    added_by a.0 ls s l t s.off (is_skipped a.0) refl refl h p.0 p.1 a.2

abbrev CanStep : List (List ℕ) → List ℕ → Plan → Type 0
CanStep ls l t = (s : Plan) × SpellScript ls s × (line_at s l ≡ Ok t)

line_from : (s : Plan) (l : List ℕ) (item : Parsed) (t : Plan) → item_at (line_limit s.serial) l ≡ Ok item → added s item ≡ Ok t →
    line_at s l ≡ Ok t
unfolding line_at
line_from s l item t e a = rw e a

abbrev with_lines : Plan → List Line → Plan
with_lines t ls = record { serial = t.serial; objects = t.objects; procs = t.procs; lines = ls; off = false }

step_off : (ls : List (List ℕ)) (l : List ℕ) (t : Plan) → is_meant l ≡ true → (h : SpellScript (ls ++ l ∷ []) t) → t.off ≡ true →
    CanStep ls l t
step_off ls l t m h on =
    let ends = same_ends (meant_lines ls) (texts_of t.serial h.headers h.turns false) (plain_line l) (codes "off")
    (sym (meant_more ls l m) ∙ h.spelled ∙ ap (λ (b : Bool). texts_of t.serial h.headers h.turns b) on
    ∙ off_spelling t.serial h.headers h.turns) in
    let short = short_off ls l t h in
    let before : Plan = with_lines t t.lines in
    let whole : with_off before ≡ t = rw (← on) refl in (
      before,
      record {
        headers = h.headers;
        turns = h.turns;
        short = short.0;
        spelled = ends.0;
        objects = h.objects;
        procs = h.procs;
        meant =
            h.meant;
        fit_headers = h.fit_headers;
        fit_turns = h.fit_turns;
        orderly =
            record {
              processes = h.orderly.processes;
              forks = h.orderly.forks;
              exits = h.orderly.exits;
              calls = h.orderly.calls;
              recorded =
                  h.orderly.recorded;
            };
      },
      line_from before l Parsed.Off t (off_again_line (line_limit t.serial) l short.1 m ends.1) (ap (λ (y : Plan). Ok y) whole),
    )

step_turn : (ls : List (List ℕ)) (l : List ℕ) (t : Plan) (ts : List Turn) (u : Turn) → is_meant l ≡ true →
    (h : SpellScript (ls ++ l ∷ []) t) → t.off ≡ false → h.turns ≡ ts ++ u ∷ [] → CanStep ls l t
step_turn ls l t ts u m h no_off same =
    let lines : t.lines ≡ map line_of ts ++ line_of u ∷ [] = sym h.meant ∙ ap (λ (vs : List Turn). map line_of vs) same
    ∙ turns_meant ts u in
    let ends = same_ends (meant_lines ls) (texts_of t.serial h.headers ts false) (plain_line l) (turn_line u)
    (sym (meant_more ls l m) ∙ h.spelled ∙ ap (λ (vs : List Turn). texts_of t.serial h.headers vs t.off) same
    ∙ ap (λ (b : Bool). texts_of t.serial h.headers (ts ++ u ∷ []) b) no_off ∙ turn_spelling t.serial h.headers ts u) in
    let short = short_off ls l t h in
    let fits = each_less FitsTurn ts u (subst (λ (vs : List Turn). AllByRecursion FitsTurn vs) same h.fit_turns) in
    let count = length t.procs in
    let processes = known_less NamesProcesses count (map line_of ts) (line_of u)
    (subst (λ (vs : List Line). EachKnowing NamesProcesses count vs) lines h.orderly.processes) in
    let forks = known_less (MayFork t.serial) count (map line_of ts) (line_of u)
    (subst (λ (vs : List Line). EachKnowing (MayFork t.serial) count vs) lines h.orderly.forks) in
    let exits = exits_less (map line_of ts) (line_of u) (subst NoneAfterExit lines h.orderly.exits) in
    let calls = each_less IsCall (map line_of ts) (line_of u) (subst (λ (vs : List Line). AllByRecursion IsCall vs) lines h.orderly.calls)
    in
    let recorded = each_less (MayAsk t.serial) (map line_of ts) (line_of u)
    (subst (λ (vs : List Line). AllByRecursion (MayAsk t.serial) vs) lines h.orderly.recorded) in
    let before : Plan = with_lines t (map line_of ts) in
    let adds : joined_by before (Parsed.Line (line_of u)) ≡ Ok (with_lines t (map line_of ts ++ line_of u ∷ [])) =
    line_joins before (line_of u) (record { names = processes.1; forks = forks.1; quiet = exits.1; asks = recorded.1 }) in
    let whole : with_lines t (map line_of ts ++ line_of u ∷ []) ≡ t = ap (λ (vs : List Line). with_lines t vs) (sym lines)
    ∙ rw (← no_off) refl in (
      before,
      record {
        headers = h.headers;
        turns = ts;
        short = short.0;
        spelled = ends.0;
        objects = h.objects;
        procs = h.procs;
        meant =
            refl;
        fit_headers = h.fit_headers;
        fit_turns = fits.0;
        orderly =
            record { processes = processes.0; forks = forks.0; exits = exits.0; calls = calls.0; recorded = recorded.0 };
      },
      line_from before l (Parsed.Line (line_of u)) t (turn_again_line u (line_limit t.serial) l short.1 m ends.1 fits.1)
          (adds ∙ ap (λ (y : Plan). Ok y) whole),
    )

step_header : (ls : List (List ℕ)) (l : List ℕ) (t : Plan) (hs : List Header) (x : Header) → is_meant l ≡ true →
    (h : SpellScript (ls ++ l ∷ []) t) → t.off ≡ false → h.turns ≡ [] → h.headers ≡ hs ++ x ∷ [] → CanStep ls l t
step_header ls l t hs x m h no_off none same =
    let lines : t.lines ≡ [] = sym h.meant ∙ ap (λ (vs : List Turn). map line_of vs) none in
    let ends = same_ends (meant_lines ls) (texts_of t.serial hs [] false) (plain_line l) (header_line x)
    (sym (meant_more ls l m) ∙ h.spelled ∙ ap (λ (vs : List Turn). texts_of t.serial h.headers vs t.off) none
    ∙ ap (λ (b : Bool). texts_of t.serial h.headers [] b) no_off ∙ ap (λ (ys : List Header). texts_of t.serial ys [] false) same
    ∙ header_spelling t.serial hs x) in
    let short = short_off ls l t h in
    let fits = each_less FitsHeader hs x (subst (λ (ys : List Header). AllByRecursion FitsHeader ys) same h.fit_headers) in
    let before : Plan = plan_from t.serial hs in
    let whole : with_header before x ≡ t = sym (header_more t.serial hs x) ∙ ap (λ (ys : List Header). plan_from t.serial ys) (sym same)
    ∙ sym (plan_is t h.headers h.objects h.procs lines no_off) in (
      before,
      record {
        headers = hs;
        turns = [];
        short = short.0;
        spelled = ends.0;
        objects = refl;
        procs = refl;
        meant = refl;
        fit_headers =
            fits.0;
        fit_turns = tt;
        orderly = record { processes = tt; forks = tt; exits = tt; calls = tt; recorded = tt };
      },
      line_from before l (Parsed.Header x) t (header_again_line x (line_limit t.serial) l short.1 m ends.1 fits.1)
          (ap (λ (y : Plan). Ok y) whole),
    )

-- the one line that says something, where there are no headers and turns
alone_spelled : (ls : List (List ℕ)) (l : List ℕ) (t : Plan) → is_meant l ≡ true → (h : SpellScript (ls ++ l ∷ []) t) → t.off ≡ false →
    h.turns ≡ [] → h.headers ≡ [] → meant_lines ls ++ plain_line l ∷ [] ≡ texts_of t.serial [] [] false
alone_spelled ls l t m h no_off none empty =
    sym (meant_more ls l m) ∙ h.spelled ∙ ap (λ (vs : List Turn). texts_of t.serial h.headers vs t.off) none
    ∙ ap (λ (b : Bool). texts_of t.serial h.headers [] b) no_off ∙ ap (λ (ys : List Header). texts_of t.serial ys [] false) empty

step_none : (ls : List (List ℕ)) (l : List ℕ) (t : Plan) → is_meant l ≡ true → (h : SpellScript (ls ++ l ∷ []) t) → t.serial ≡ false →
    t.off ≡ false → h.turns ≡ [] → h.headers ≡ [] → ⊥
step_none ls l t m h several no_off none empty =
    no_end (meant_lines ls) (plain_line l) (alone_spelled ls l t m h no_off none empty ∙ ap (λ (b : Bool). texts_of b [] [] false) several)

step_serial : (ls : List (List ℕ)) (l : List ℕ) (t : Plan) → is_meant l ≡ true → (h : SpellScript (ls ++ l ∷ []) t) → t.serial ≡ true →
    t.off ≡ false → h.turns ≡ [] → h.headers ≡ [] → CanStep ls l t
step_serial ls l t m h one no_off none empty =
    let ends = same_ends (meant_lines ls) [] (plain_line l) (codes "serial")
    (alone_spelled ls l t m h no_off none empty ∙ ap (λ (b : Bool). texts_of b [] [] false) one) in
    let lines : t.lines ≡ [] = sym h.meant ∙ ap (λ (vs : List Turn). map line_of vs) none in
    let whole : plan_from true [] ≡ t = sym (plan_is t h.headers h.objects h.procs lines no_off
    ∙ ap (λ (ys : List Header). plan_from t.serial ys) empty ∙ ap (λ (b : Bool). plan_from b []) one) in
    let limit : line_limit (t.serial && behind_all false ls) ≡ 4096 = ap (λ (b : Bool). line_limit (t.serial && b)) (behind_none ls ends.0)
    ∙ common_first t.serial in
    let short : length l ≤ 4096 = subst (λ n. length l ≤ n) limit (short_less t.serial false ls l h.short).1 in (
      plan_from false [],
      record {
        headers = [];
        turns = [];
        short = short_as t.serial false ls ends.0 (short_off ls l t h).0;
        spelled = ends.0;
        objects =
            refl;
        procs = refl;
        meant = refl;
        fit_headers = tt;
        fit_turns = tt;
        orderly =
            record { processes = tt; forks = tt; exits = tt; calls = tt; recorded = tt };
      },
      line_from (plan_from false []) l Parsed.Serial t (serial_again_line 4096 l short m ends.1) (ap (λ (y : Plan). Ok y) whole),
    )

skip_added : (s : Plan) (off : Bool) → cond (off && not true) (Err BadLine) (joined_by s Parsed.Skipped) ≡ Ok s
skip_added s true = refl
skip_added s false = refl

step_skip : (ls : List (List ℕ)) (l : List ℕ) (t : Plan) → is_meant l ≡ false → SpellScript (ls ++ l ∷ []) t → CanStep ls l t
step_skip ls l t m h =
    let short = short_off ls l t h in (
      t,
      record {
        headers = h.headers;
        turns = h.turns;
        short = short.0;
        spelled = sym (skipped_more ls l m) ∙ h.spelled;
        objects =
            h.objects;
        procs = h.procs;
        meant = h.meant;
        fit_headers = h.fit_headers;
        fit_turns = h.fit_turns;
        orderly = h.orderly;
      },
      line_from t l Parsed.Skipped t (skip_again (line_limit t.serial) l short.1 m) (skip_added t t.off),
    )

step_meant : (ls : List (List ℕ)) (l : List ℕ) (t : Plan) (off serial : Bool) → is_meant l ≡ true → (h : SpellScript (ls ++ l ∷ []) t) →
    t.off ≡ off → t.serial ≡ serial → (h.turns ≡ []) ⊎ HasLast h.turns → (h.headers ≡ []) ⊎ HasLast h.headers → CanStep ls l t
step_meant ls l t true serial m h f g v w = step_off ls l t m h f
step_meant ls l t false serial m h f g (inr v) w = step_turn ls l t v.0 v.1 m h f v.2
step_meant ls l t false serial m h f g (inl v) (inr w) = step_header ls l t w.0 w.1 m h f v w.2
step_meant ls l t false true m h f g (inl v) (inl w) = step_serial ls l t m h g f v w
step_meant ls l t false false m h f g (inl v) (inl w) = absurd (step_none ls l t m h g f v w)

step_chosen : (ls : List (List ℕ)) (l : List ℕ) (t : Plan) (b : Bool) → is_meant l ≡ b → SpellScript (ls ++ l ∷ []) t → CanStep ls l t
step_chosen ls l t true m h = step_meant ls l t t.off t.serial m h refl refl (last_view h.turns) (last_view h.headers)
step_chosen ls l t false m h = step_skip ls l t m h

pub line_again : (ls : List (List ℕ)) (l : List ℕ) (t : Plan) → SpellScript (ls ++ l ∷ []) t → CanStep ls l t
line_again ls l t h = step_chosen ls l t (is_meant l) refl h
