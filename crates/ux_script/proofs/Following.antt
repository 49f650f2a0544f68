-- A script that is run as it comes.
use Rattle.std.proofs.Common.{◌≡◌, inr, ℕ, ◌+◌, ◌<◌, ◌≤◌, List, [], ◌++◌, length, take, get_or, map, ap, sym, subst, ◌∙◌, arith}
use Rattle.std.specs.Prelude.{Option, Result, OnErr}
use Rattle.std.specs.Io.KnownBytes.{Appends, Keeps}
use Rattle.std.proofs.lemmas.Result.{on_err_weaker}
use Rattle.std.proofs.lemmas.List.{length-append, take_all, take-append-le, append-nil}
use Rattle.ux_model.specs.Types.{Entry}
use Rattle.ux_model.specs.Boot.{new_process}
use Rattle.ux_model.specs.State.{State}
use Rattle.ux_model.specs.History.{IsLegal}
use Rattle.ux_book.specs.Books.{KeptHistory}
use Rattle.ux_syntax.specs.Lines.{Line}
use Rattle.ux_syntax.specs.Spelling.{Plan, forks_of}
use Rattle.ux_syntax.specs.Turns.{call_lines}
use Rattle.ux_syntax.specs.Joining.{Continues}
use Rattle.ux_trace.specs.Trace.{entry_line, trace}
use Rattle.ux_script.specs.Runs.{Makes, Grows}
use Rattle.ux_script.specs.Following.{Follows, Prints, PrintsBeginning, Breaks, WritesFront}
use Rattle.ux_script.specs.Writes.{AppendsBeginning}
use Rattle.ux_script.proofs.Traces.{appends_then, keeps_then, appends_none, trace_more, line_begun, line_unbegun}

-- ---- books

-- what was made stays made when a line more is read
pub follows_more : (book : KeptHistory) (s t : Plan) → Continues s t → Follows book s (length s.lines) → Follows book t (length s.lines)
follows_more book s t st f =
    let front : take (length s.lines) s.lines ≡ take (length s.lines) t.lines =
    sym (ap (λ (ls : List Line). take (length s.lines) ls) st.lines ∙ take-append-le (length s.lines) s.lines st.more (omega arith)) in
    record {
      processes = f.processes ∙ ap (map new_process) (sym st.procs);
      legal = f.legal;
      calls = f.calls ∙ ap call_lines front;
      made = f.made ∙ ap (λ (n : ℕ). n + forks_of (call_lines (take (length s.lines) s.lines))) (ap length (sym st.procs))
          ∙ ap (λ (ls : List Line). length t.procs + forks_of (call_lines ls)) front;
    }

pub all_made : (book : KeptHistory) (s : Plan) → Follows book s (length s.lines) → Makes book s (call_lines s.lines)
all_made book s f = subst (λ (ls : List Line). Makes book s (call_lines ls)) (take_all (length s.lines) s.lines (omega arith)) f

pub all_follow : (book : KeptHistory) (s : Plan) → Makes book s (call_lines s.lines) → Follows book s (length s.lines)
all_follow book s m = subst (λ (ls : List Line). Makes book s (call_lines ls)) (sym (take_all (length s.lines) s.lines (omega arith))) m

-- the entries before are the first of those after
pub grown_front : (old new : List Entry) → Grows old new → take (length old) new ≡ old
grown_front old new g =
    ap (λ (es : List Entry). take (length old) es) g.1 ∙ take-append-le (length old) old g.0 (omega arith)
    ∙ take_all (length old) old (omega arith)

pub grown_long : (old new : List Entry) → Grows old new → length old ≤ length new
grown_long old new g = let long = ap (λ (es : List Entry). length es) g.1 ∙ length-append old g.0 in omega (arith, long)

-- ---- what is written

pub prints_same : (a : Option (List ℕ)) (es : List Entry) → Prints a a es es
prints_same a es = λ start written. written

pub prints_then : (a b c : Option (List ℕ)) (xs ys zs : List Entry) → Prints a b xs ys → Prints b c ys zs → Prints a c xs zs
prints_then a b c xs ys zs p q = λ start written. q start (p start written)

-- one line more
pub prints_more : (a b c : Option (List ℕ)) (before es : List Entry) (n : ℕ) (e : Entry) (line : List ℕ) → n < length es →
    e ≡ get_or es n e → line ≡ entry_line n e →
    Prints a b before (take n es) → Appends b c line → Prints a c before (take (n + 1) es)
prints_more a b c before es n e line inside item said so_far more =
    λ start written. appends_then start b c (trace (take n es)) line (trace (take (n + 1) es)) (so_far start written) more
    (ap (λ (t : List ℕ). trace (take n es) ++ t) said ∙ trace_more es n e inside item)

-- no line more
pub prints_all : (a b c : Option (List ℕ)) (before es : List Entry) (n : ℕ) → length es ≤ n → Prints a b before (take n es) → Keeps b c →
    Prints a c before es
prints_all a b c before es n over so_far kept =
    λ start written. keeps_then start b c (trace es)
    (subst (λ (xs : List Entry). Appends start b (trace xs)) (take_all n es over) (so_far start written)) kept

pub prints_whole : (a b : Option (List ℕ)) (es : List Entry) → Prints a b [] es → Appends a b (trace es)
prints_whole a b es p = p a (appends_none a)

-- ---- what a fault leaves

-- a whole trace is a beginning of itself
pub prints_begin : (a b : Option (List ℕ)) (before after : List Entry) → Prints a b before after → PrintsBeginning a b before after
prints_begin a b before after p = λ start so_far. (trace after, [], sym (append-nil (trace after)), p start so_far)

-- a beginning of the next line was written, or nothing of it
pub begins_line : (a b c : Option (List ℕ)) (before es : List Entry) (n : ℕ) (e : Entry) (line : List ℕ) → n < length es →
    e ≡ get_or es n e → line ≡ entry_line n e →
    Prints a b before (take n es) → AppendsBeginning b c line → PrintsBeginning a c before es
begins_line a b c before es n e line inside item said printed begun =
    λ start so_far. line_begun start b c es n e line inside item said (printed start so_far) begun

pub begins_no_line : (a b : Option (List ℕ)) (before es : List Entry) (n : ℕ) (e : Entry) → n < length es → e ≡ get_or es n e →
    Prints a b before (take n es) → PrintsBeginning a b before es
begins_no_line a b before es n e inside item printed = λ start so_far. line_unbegun start b es n e inside item (printed start so_far)

-- no further call was printed
pub breaks_here : (boot : State) (a b : Option (List ℕ)) (before after : List Entry) → IsLegal boot after → Prints a b before after →
    Breaks boot a b before
breaks_here boot a b before after legal printed = (after, legal, prints_begin a b before after printed)

pub breaks_then : (boot : State) (a b c : Option (List ℕ)) (xs ys : List Entry) → Prints a b xs ys → Breaks boot b c ys → Breaks boot a c xs
breaks_then boot a b c xs ys printed broken = (broken.0, broken.1, λ start so_far. broken.2 start (printed start so_far))

pub breaks_on : (boot other : State) (a b c : Option (List ℕ)) (xs ys : List Entry) → other ≡ boot → Prints a b xs ys →
    Breaks other b c ys →
    Breaks boot a c xs
breaks_on boot other a b c xs ys same printed broken =
    breaks_then boot a b c xs ys printed (subst (λ (S : State). Breaks S b c ys) same broken)

pub breaks_after : {E : Type 0} (r : Result (Unit {0}) E) (boot other : State) (a b c : Option (List ℕ)) (xs ys : List Entry) →
    other ≡ boot → Prints a b xs ys → OnErr r (Breaks other b c ys) → OnErr r (Breaks boot a c xs)
breaks_after r boot other a b c xs ys same printed broken =
    on_err_weaker {P = Breaks other b c ys} {Q = Breaks boot a c xs} r (λ p. breaks_on boot other a b c xs ys same printed p) broken

-- behind further calls, whose lines are printed
pub breaks_behind : {E : Type 0} (r : Result (Unit {0}) E) (boot : State) (a b : Option (List ℕ)) (old new : List Entry) →
    IsLegal boot new →
    Grows old new → OnErr r (PrintsBeginning a b (take (length old) new) new) → OnErr r (Breaks boot a b old)
breaks_behind r boot a b old new legal grown begun =
    on_err_weaker {P = PrintsBeginning a b (take (length old) new) new} {Q = Breaks boot a b old} r
    (λ p. (new, legal, subst (λ (es : List Entry). PrintsBeginning a b es new) (grown_front old new grown) p)) begun

-- the run began with nothing
pub breaks_front : (boot : State) (a b : Option (List ℕ)) → Breaks boot a b [] → WritesFront boot a b
breaks_front boot a b broken = inr (broken.0, broken.1, broken.2 a (appends_none a))

pub breaks_from_start : (book : KeptHistory) (boot : State) (a b : Option (List ℕ)) → book ≡ record { boot = boot; entries = [] } →
    Breaks book.boot a b book.entries → WritesFront boot a b
breaks_from_start book boot a b start broken =
    breaks_front boot a b (subst (λ (k : KeptHistory). Breaks k.boot a b k.entries) start broken)
