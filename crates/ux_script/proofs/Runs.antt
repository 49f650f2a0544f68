-- A run of a script as far as it has come.
use mathlib.Core.Bool.{and_comm, or_assoc, or-true, or-false}
use Rattle.std.proofs.Common.{◌≡◌, ◌≢◌, ℕ, zero, suc, ◌+◌, ◌<◌, ◌≤◌, Bool, true, false, cond, not, ◌&&◌, ◌||◌, ◌==◌, ◌⊎◌, inl, inr, List}
use Rattle.std.proofs.Common.{[], ◌∷◌, ◌++◌, length, get_or, take, map, filter, Some, None, refl, ap, sym, subst, ◌∙◌, append_assoc}
use Rattle.std.proofs.Common.{add-one, arith}
use Rattle.std.specs.Prelude.{nat_lt, if◌then◌else◌, Result, Ok, Err, OnOk, OnErr, IfErr}
use Rattle.std.specs.List.{AllByRecursion, range_with_len, slice_get, list_any}
use Rattle.std.proofs.lemmas.Bool.{and_left, and_right, and_from, ne_eqb, eq-eqb, le-leb, false_from_ne_true, cases_lt}
use Rattle.std.proofs.lemmas.List.{append-nil, map-append, length-map, take_more}
use Rattle.std.proofs.lemmas.List.Elements.{filter-append}
use Rattle.std.proofs.lemmas.List.Sums.{sum_by-cons, sum_by-append, sum_by_push}
use Rattle.ux_model.specs.Types.{Pid, Request, Entry}
use Rattle.ux_model.specs.Process.{Process}
use Rattle.ux_model.specs.State.{State, is_live}
use Rattle.ux_model.specs.Boot.{IsBootState, new_process}
use Rattle.ux_model.specs.History as history
use Rattle.ux_model.specs.History.{IsLegal, replay, is_off, has_live}
use Rattle.ux_model.proofs.Processes.Living.{lives_until_exit, live_within}
use Rattle.ux_model.proofs.Processes.Numbering.{numbered_from_one}
use Rattle.ux_model.proofs.Lists.Appending.{legal_empty, legal_push}
use Rattle.ux_book.specs.Books.{KeptHistory, state_of, ends_of}
use Rattle.ux_book.specs.Books as books
use Rattle.ux_book.specs.Sitting.{MakesOne}
use Rattle.ux_book.specs.declared.fault.CallFault.{CallFault}
use Rattle.ux_syntax.specs.declared.script.Act.{Act}
use Rattle.ux_syntax.specs.Lines.{Line}
use Rattle.ux_syntax.specs.declared.script.Script.{Script}
use Rattle.ux_syntax.specs.Spelling.{Plan, plan_of, is_exit, is_fork, asks_exit, asks_fork, asks_off, forks_of, known_count, NamesProcesses}
use Rattle.ux_syntax.specs.Spelling.{EachKnowing, IsQuiet, NoneAfterExit, IsCall, IsOrderly}
use Rattle.ux_syntax.specs.Turns.{has_exited, exit_line, off_line, is_call, call_lines, all_turns}
use Rattle.ux_script.specs.Runs.{line_of_entry, exits_of, Makes, Grows}

-- ---- who lives

-- an exit in the history is one among its lines
exited_lines : (es : List Entry) (p : ℕ) → history.has_exited p es ≡ has_exited (map line_of_entry es) p
exited_lines [] p = refl
exited_lines (e ∷ es) p = (λ j. and_comm (is_exit e.request) (e.pid.0 == p) j || exited_lines es p j)

-- in a run that made these lines, a process that was made lives until its exit is among them
pub lives_by_lines : (boot : State) (es : List Entry) (lines : List Line) (p : ℕ) → IsLegal boot es → map line_of_entry es ≡ lines → 1 ≤ p →
    p ≤ length (replay boot es).processes →
    is_live (replay boot es) p ≡ not (has_exited lines p)
lives_by_lines boot es lines p legal made first last =
    let there : (is_live boot p || history.was_made p es) ≡ true = numbered_from_one boot es p legal
    ∙ and_from (nat_lt 0 p) _ (le-leb 1 p first) (le-leb p (length (replay boot es).processes) last) in
    lives_until_exit boot es p legal
    ∙ (λ j. there j && not (exited_lines es p j))
    ∙ ap (λ ls. not (has_exited ls p)) made

-- an exit is a call
first_exit : (xs : List Line) (p : ℕ) (pid : Pid) (act : Act) → has_exited (call_lines xs) p ≡ has_exited xs p →
    has_exited (call_lines (record { pid = pid; act = act } ∷ xs)) p ≡ has_exited (record { pid = pid; act = act } ∷ xs) p
first_exit xs p pid (Act.Call request) h = ap (λ b. ((pid.0 == p) && is_exit request) || b) h
first_exit xs p pid (Act.Wait other calls) h = h ∙ ap (λ b. b || has_exited xs p) (sym (and_right (pid.0 == p) false refl))

exited_calls : (lines : List Line) (p : ℕ) → has_exited (call_lines lines) p ≡ has_exited lines p
exited_calls [] p = refl
exited_calls (x ∷ xs) p = first_exit xs p x.pid x.act (exited_calls xs p)

-- ---- the script's own calls

all_at : (P : Line → Type 0) (i : ℕ) (lines : List Line) (line : Line) → AllByRecursion P lines → i < length lines →
    line ≡ get_or lines i line → P line
all_at P i [] line all inside item = absurd (omega (arith, inside))
all_at P zero (x ∷ xs) line all inside item = subst P (sym item) all.0
all_at P (suc i) (x ∷ xs) line all inside item = all_at P i xs line all.1 (omega (arith, inside)) item

quiet_at : (p i : ℕ) (lines : List Line) (line : Line) → IsQuiet p lines → i < length lines → line ≡ get_or lines i line → line.pid.0 ≢ p
quiet_at p i [] line quiet inside item = absurd (omega (arith, inside))
quiet_at p zero (x ∷ xs) line quiet inside item = λ h. quiet.0 (ap (λ l. (Line.pid l).0) (sym item) ∙ h)
quiet_at p (suc i) (x ∷ xs) line quiet inside item = quiet_at p i xs line quiet.1 (omega (arith, inside)) item

-- the process of a line hasn't made its exit before it
not_exited : (i : ℕ) (lines : List Line) (line : Line) → NoneAfterExit lines → i < length lines → line ≡ get_or lines i line →
    has_exited (take i lines) line.pid.0 ≡ false
not_exited i [] line none inside item = absurd (omega (arith, inside))
not_exited zero (x ∷ xs) line none inside item = refl
not_exited (suc i) (x ∷ xs) line none inside item =
    (λ j. first (asks_exit x.act) refl j || has_exited (take i xs) line.pid.0) ∙ not_exited i xs line none.1 (omega (arith, inside)) item
  where
    first : (b : Bool) → asks_exit x.act ≡ b → ((x.pid.0 == line.pid.0) && asks_exit x.act) ≡ false
    first true h =
        let other = quiet_at x.pid.0 i xs line (none.0 h) (omega (arith, inside)) item in
        and_left _ _ (ne_eqb x.pid.0 line.pid.0 (λ g. other (sym g)))
    first false h = and_right _ _ h

-- ---- how many processes are there

forks-cons : (x : Line) (xs : List Line) → forks_of (x ∷ xs) ≡ cond {A = ℕ} (asks_fork x.act) 1 0 + forks_of xs
forks-cons x xs = sum_by-cons (λ (l : Line). cond {A = ℕ} (asks_fork l.act) 1 0) x xs

-- a fork is a call
first_fork : (xs : List Line) (pid : Pid) (act : Act) → forks_of (call_lines xs) ≡ forks_of xs →
    forks_of (call_lines (record { pid = pid; act = act } ∷ xs)) ≡ forks_of (record { pid = pid; act = act } ∷ xs)
first_fork xs pid (Act.Call request) h =
    let x : Line = record { pid = pid; act = Act.Call request } in
    forks-cons x (call_lines xs) ∙ ap (λ n. cond {A = ℕ} (asks_fork x.act) 1 0 + n) h ∙ sym (forks-cons x xs)
first_fork xs pid (Act.Wait other calls) h =
    let x : Line = record { pid = pid; act = Act.Wait other calls } in
    let more : forks_of (x ∷ xs) ≡ cond {A = ℕ} false 1 0 + forks_of xs = forks-cons x xs in
    omega (arith, h, more)

forks_calls : (lines : List Line) → forks_of (call_lines lines) ≡ forks_of lines
forks_calls [] = refl
forks_calls (x ∷ xs) = first_fork xs x.pid x.act (forks_calls xs)

-- and no exit is one
forks_exits : (ns : List ℕ) → forks_of (map exit_line ns) ≡ 0
forks_exits [] = refl
forks_exits (n ∷ ns) =
    let rest = forks_exits ns in
    let more : forks_of (exit_line n ∷ map exit_line ns) ≡ cond {A = ℕ} false 1 0 + forks_of (map exit_line ns) =
    forks-cons (exit_line n) (map exit_line ns) in
    omega (arith, rest, more)

forks_all : (lines : List Line) (n : ℕ) → forks_of (call_lines lines ++ exits_of lines n) ≡ forks_of lines
forks_all lines n =
    let both = sum_by-append (λ (l : Line). cond {A = ℕ} (asks_fork l.act) 1 0) (call_lines lines) (exits_of lines n) in
    let calls = forks_calls lines in
    let exits = forks_exits (filter (λ pid. not (has_exited lines pid)) (range_with_len 1 n)) in
    omega (arith, both, calls, exits)

-- each fork line of a script has made its process
pub all_known : (book : KeptHistory) (script : Script) (count : ℕ) → count ≡ books.processes book →
    Makes book (plan_of script) (call_lines script.lines.items) → count ≡ known_count (plan_of script)
all_known book script count is so_far = let made = so_far.made in let forks = forks_calls script.lines.items in
    omega (arith, is, made, forks)

-- what is said of each line, beside the number of processes that it knows
known_at : (IsSo : ℕ → Line → Type 0) (count i : ℕ) (lines : List Line) (line : Line) → EachKnowing IsSo count lines → i < length lines →
    line ≡ get_or lines i line → IsSo (count + forks_of (take i lines)) line
known_at IsSo count i [] line all inside item = absurd (omega (arith, inside))
known_at IsSo count zero (x ∷ xs) line all inside item =
    let none : count ≡ count + forks_of [] = omega arith in
    subst (λ (n : ℕ). IsSo n line) none (subst (IsSo count) (sym item) all.0)
known_at IsSo count (suc i) (x ∷ xs) line all inside item =
    let first = forks-cons x [] in
    let more = forks-cons x (take i xs) in
    let sum : (count + forks_of (x ∷ [])) + forks_of (take i xs) ≡ count + forks_of (x ∷ take i xs) = omega (arith, first, more) in
    subst (λ (n : ℕ). IsSo n line) sum (known_at IsSo (count + forks_of (x ∷ [])) i xs line all.1 (omega (arith, inside)) item)

-- the process of a line lives when the lines before it were made
pub line_lives : (book : KeptHistory) (script : Script) (i : ℕ) (line : Line) →
    Makes book (plan_of script) (call_lines (take i script.lines.items)) → IsOrderly (plan_of script) → i < length script.lines.items →
    line ≡ get_or script.lines.items i line →
    is_live (state_of book) line.pid.0 ≡ true
line_lives book script i line so_far orderly inside item =
    let lines = script.lines.items in
    let here = known_at NamesProcesses (length script.procs.items) i lines line orderly.processes inside item in
    let first = here.0.0 in
    let last = here.0.1 in
    let made = so_far.made in
    let forks = forks_calls (take i lines) in
    lives_by_lines book.boot book.entries (call_lines (take i lines)) line.pid.0 so_far.legal so_far.calls first
    (omega (arith, last, made, forks))
    ∙ ap not (exited_calls (take i lines) line.pid.0 ∙ not_exited i lines line orderly.exits inside item)

-- with one line more there may be one call more
pub calls_more : (lines : List Line) (i : ℕ) (line : Line) → i < length lines → line ≡ get_or lines i line →
    call_lines (take i lines) ++ call_lines (line ∷ []) ≡ call_lines (take (i + 1) lines)
calls_more lines i line inside item =
    sym (filter-append (λ (x : Line). is_call x.act) (take i lines) (line ∷ []))
    ∙ ap (λ x. call_lines (take i lines ++ x ∷ [])) item
    ∙ ap call_lines (sym (take_more lines i line inside))

-- where the line is a call
pub call_made : (lines : List Line) (i : ℕ) (line : Line) (request : Request) → i < length lines → line ≡ get_or lines i line →
    line.act ≡ Act.Call request → call_lines (take i lines) ++ record { pid = line.pid; act = Act.Call request } ∷ [] ≡ call_lines
    (take (i + 1) lines)
call_made lines i line request inside item asks =
    ap (λ (a : Act). call_lines (take i lines) ++ call_lines (record { pid = line.pid; act = a } ∷ [])) (sym asks)
    ∙ calls_more lines i line inside item

-- and where it isn't
pub wait_passed : (lines : List Line) (i : ℕ) (line : Line) (pid : Pid) (calls : ℕ) → i < length lines → line ≡ get_or lines i line →
    line.act ≡ Act.Wait pid calls → call_lines (take i lines) ≡ call_lines (take (i + 1) lines)
wait_passed lines i line pid calls inside item asks =
    sym (append-nil (call_lines (take i lines)))
    ∙ ap (λ (a : Act). call_lines (take i lines) ++ call_lines (record { pid = line.pid; act = a } ∷ [])) (sym asks)
    ∙ calls_more lines i line inside item

-- the call of one line, if it asks for one
pub line_asks : (line : Line) (request : Request) → line.act ≡ Act.Call request →
    call_lines (line ∷ []) ≡ record { pid = line.pid; act = Act.Call request } ∷ []
line_asks line request asks = ap (λ (a : Act). call_lines (record { pid = line.pid; act = a } ∷ [])) asks

pub line_waits : (line : Line) (pid : Pid) (calls : ℕ) → line.act ≡ Act.Wait pid calls → call_lines (line ∷ []) ≡ []
line_waits line pid calls waits = ap (λ (a : Act). call_lines (record { pid = line.pid; act = a } ∷ [])) waits

-- ---- the missing exits

range_suc : (a n : ℕ) → range_with_len a (suc n) ≡ range_with_len a n ++ (a + n) ∷ []
range_suc a zero = ap (λ k. k ∷ []) (omega arith)
range_suc a (suc n) = ap (λ ks. a ∷ ks) (range_suc (a + 1) n ∙ ap (λ k. range_with_len (a + 1) n ++ k ∷ []) (omega arith))

exits_more : (lines : List Line) (n : ℕ) →
    exits_of lines (n + 1) ≡ exits_of lines n ++ map exit_line (filter (λ pid. not (has_exited lines pid)) ((n + 1) ∷ []))
exits_more lines n =
    let p = λ (pid : ℕ). not (has_exited lines pid) in
    let range : range_with_len 1 (n + 1) ≡ range_with_len 1 n ++ (n + 1) ∷ [] = ap (λ (k : ℕ). range_with_len 1 k) (add-one n)
    ∙ range_suc 1 n ∙ ap (λ (k : ℕ). range_with_len 1 n ++ k ∷ []) (omega arith) in
    ap (λ (ks : List ℕ). map exit_line (filter p ks)) range
    ∙ ap (λ (ks : List ℕ). map exit_line ks) (filter-append p (range_with_len 1 n) ((n + 1) ∷ []))
    ∙ map-append exit_line (filter p (range_with_len 1 n)) (filter p ((n + 1) ∷ []))

pub exit_made : (lines made : List Line) (n : ℕ) → has_exited lines (n + 1) ≡ false → made ≡ call_lines lines ++ exits_of lines n →
    made ++ exit_line (n + 1) ∷ [] ≡ call_lines lines ++ exits_of lines (n + 1)
exit_made lines made n live so_far = rw (exits_more lines n, live, so_far)
    (append_assoc (call_lines lines) (exits_of lines n) (exit_line (n + 1) ∷ []))

pub exit_there : (lines made : List Line) (n : ℕ) → has_exited lines (n + 1) ≡ true → made ≡ call_lines lines ++ exits_of lines n →
    made ≡ call_lines lines ++ exits_of lines (n + 1)
exit_there lines made n gone so_far = rw (exits_more lines n, gone, append-nil (exits_of lines n)) so_far

exited-append : (xs ys : List Line) (p : ℕ) → has_exited (xs ++ ys) p ≡ has_exited xs p || has_exited ys p
exited-append [] ys p = refl
exited-append (x ∷ xs) ys p = ap (λ b. ((x.pid.0 == p) && asks_exit x.act) || b) (exited-append xs ys p)
    ∙ sym (or_assoc ((x.pid.0 == p) && asks_exit x.act) (has_exited xs p) (has_exited ys p))

-- the exits so far are of other processes
others_exits : (lines : List Line) (n p : ℕ) → n < p → has_exited (exits_of lines n) p ≡ false
others_exits lines zero p below = refl
others_exits lines (suc n) p below =
    let one : suc n ≡ n + 1 = omega arith in
    ap (λ k. has_exited (exits_of lines k) p) one
    ∙ ap (λ ls. has_exited ls p) (exits_more lines n)
    ∙ exited-append (exits_of lines n) (map exit_line (filter (λ pid. not (has_exited lines pid)) ((n + 1) ∷ []))) p
    ∙ (λ j. others_exits lines n p (omega (arith, below)) j || last (has_exited lines (n + 1)) j)
  where
    last : (b : Bool) → has_exited (map exit_line (if not b then (n + 1) ∷ [] else [])) p ≡ false
    last true = refl
    last false = ap (λ b. (b && true) || false) (ne_eqb (n + 1) p (λ h. omega (arith, h, below)))

-- whether the next process has made its exit, after the script's calls and some of the missing exits
pub exit_known : (book : KeptHistory) (script : Script) (n : ℕ) →
    Makes book (plan_of script) (call_lines script.lines.items ++ exits_of script.lines.items n) → n < known_count (plan_of script) →
    is_live (state_of book) (n + 1) ≡ not (has_exited script.lines.items (n + 1))
exit_known book script n so_far inside =
    let lines = script.lines.items in
    let made = so_far.made in
    let forks = forks_all lines n in
    lives_by_lines book.boot book.entries (call_lines lines ++ exits_of lines n) (n + 1) so_far.legal so_far.calls (omega arith)
    (omega (arith, inside, made, forks))
    ∙ ap not (exited-append (call_lines lines) (exits_of lines n) (n + 1)
    ∙ (λ j. exited_calls lines (n + 1) j || others_exits lines n (n + 1) (omega arith) j) ∙ or-false (has_exited lines (n + 1)))

-- ---- the end

-- each process makes its exit, in the script or behind it
missing_exits : (lines : List Line) (n p : ℕ) → has_exited lines p ≡ false → 1 ≤ p → p ≤ n → has_exited (exits_of lines n) p ≡ true
missing_exits lines zero p none first last = absurd (omega (arith, first, last))
missing_exits lines (suc n) p none first last =
    let one : suc n ≡ n + 1 = omega arith in
    ap (λ k. has_exited (exits_of lines k) p) one
    ∙ ap (λ ls. has_exited ls p) (exits_more lines n)
    ∙ exited-append (exits_of lines n) (map exit_line (filter (λ pid. not (has_exited lines pid)) ((n + 1) ∷ []))) p
    ∙ go (cases_lt n p) (missing_exits lines n p none first)
  where
    go : (n < p) ⊎ (p ≤ n) → (p ≤ n → has_exited (exits_of lines n) p ≡ true) →
        (has_exited (exits_of lines n) p || has_exited (map exit_line (if not (has_exited lines (n + 1)) then (n + 1) ∷ [] else [])) p) ≡
        true
    go (inl behind) before =
        let here : p ≡ n + 1 = omega (arith, behind, last) in
        let gone : has_exited lines (n + 1) ≡ false = ap (has_exited lines) (sym here) ∙ none in
        (λ j. has_exited (exits_of lines n) p || has_exited (map exit_line (if not (gone j) then (n + 1) ∷ [] else [])) p)
        ∙ ap (λ b. has_exited (exits_of lines n) p || ((b && true) || false)) (eq-eqb (n + 1) p (sym here))
        ∙ or-true (has_exited (exits_of lines n) p)
    go (inr within) before = ap (λ b. b || has_exited (map exit_line (if not (has_exited lines (n + 1)) then (n + 1) ∷ [] else [])) p)
        (before within)

exited_all : (lines : List Line) (n p : ℕ) → 1 ≤ p → p ≤ n → has_exited (call_lines lines ++ exits_of lines n) p ≡ true
exited_all lines n p first last = exited-append (call_lines lines) (exits_of lines n) p
    ∙ ap (λ b. b || has_exited (exits_of lines n) p) (exited_calls lines p) ∙ go (has_exited lines p) refl
  where
    go : (b : Bool) → has_exited lines p ≡ b → (b || has_exited (exits_of lines n) p) ≡ true
    go true h = refl
    go false h = missing_exits lines n p h first last

nobody : (S : State) → ((i : ℕ) → is_live S (suc i) ≡ false) → has_live S ≡ false
nobody S gone = go S.processes gone
  where
    go : (Ps : List Process) → ((i : ℕ) → (elim (slice_get Ps i) as (λ _. Bool) [ Some P ↦ not P.exited | None ↦ false ]) ≡ false) →
        list_any (λ P. not (Process.exited P)) Ps ≡ false
    go [] g = refl
    go (P ∷ Ps) g = λ j. g 0 j || go Ps (λ i. g (suc i)) j

all_gone : (book : KeptHistory) (script : Script) →
    Makes book (plan_of script) (call_lines script.lines.items ++ exits_of script.lines.items (known_count (plan_of script))) →
    has_live (state_of book) ≡ false
all_gone book script so_far = nobody (state_of book) (λ i. go i (cases_lt i count))
  where
    count : ℕ
    count = known_count (plan_of script)

    lines : List Line
    lines = script.lines.items

    all : length (state_of book).processes ≡ count
    all = let made = so_far.made in let forks = forks_all lines count in omega (arith, made, forks)

    go : (i : ℕ) → (i < count) ⊎ (count ≤ i) → is_live (state_of book) (suc i) ≡ false
    go i (inl inside) =
        lives_by_lines book.boot book.entries (call_lines lines ++ exits_of lines count) (suc i) so_far.legal so_far.calls (omega arith)
        (omega (arith, inside, all))
        ∙ ap not (exited_all lines count (suc i) (omega arith) (omega (arith, inside)))
    go i (inr past) = false_from_ne_true _ (λ live. let within = live_within (state_of book) (suc i) live in
        omega (arith, within, past, all))

both_calls : (xs ys : List Line) → AllByRecursion IsCall xs → AllByRecursion IsCall ys → AllByRecursion IsCall (xs ++ ys)
both_calls [] ys a b = b
both_calls (x ∷ xs) ys a b = (a.0, both_calls xs ys a.1 b)

all_calls : (xs : List Line) → AllByRecursion IsCall xs → AllByRecursion IsCall (call_lines xs)
all_calls [] a = tt
all_calls (x ∷ xs) a = go (is_call x.act) (all_calls xs a.1)
  where
    go : (b : Bool) → AllByRecursion IsCall (call_lines xs) → AllByRecursion IsCall (cond b (x ∷ call_lines xs) (call_lines xs))
    go true rest = (a.0, rest)
    go false rest = rest

-- no exit is the end of the layer
exits_are_calls : (lines : List Line) (n : ℕ) → AllByRecursion IsCall (exits_of lines n)
exits_are_calls lines zero = tt
exits_are_calls lines (suc n) =
    let one : suc n ≡ n + 1 = omega arith in
    subst (AllByRecursion IsCall) (sym (ap (exits_of lines) one ∙ exits_more lines n))
    (both_calls _ _ (exits_are_calls lines n) (last (has_exited lines (n + 1))))
  where
    last : (b : Bool) → AllByRecursion IsCall (map exit_line (if not b then (n + 1) ∷ [] else []))
    last true = tt
    last false = (refl, tt)

-- where all lines are calls, the layer wasn't ended
not_ended : (es : List Entry) → AllByRecursion IsCall (map line_of_entry es) → ends_of es ≡ 0
not_ended [] all = refl
not_ended (e ∷ es) all =
    sum_by-cons (λ (x : Entry). cond {A = ℕ} (is_off x.request) 1 0) e es
    ∙ (λ j. cond {A = ℕ} (all.0 j) 1 0 + not_ended es all.1 j)

-- ---- a run as far as it has come

-- one more entry of a process
pub makes_more : (old new : KeptHistory) (script : Script) (pid : Pid) (request : Request) (made : List Line) →
    MakesOne old new pid request → books.processes new ≡ books.processes old + cond {A = ℕ} (is_fork request) 1 0 →
    Makes old (plan_of script) made →
    Makes new (plan_of script) (made ++ record { pid = pid; act = Act.Call request } ∷ [])
makes_more old new script pid request made one count so_far =
    let here : Line = record { pid = pid; act = Act.Call request } in
    let now = one.answers.adds.appended in
    record {
      processes = ap (λ (h : KeptHistory). State.processes h.boot) now ∙ so_far.processes;
      legal = subst (λ (h : KeptHistory). IsLegal h.boot h.entries) (sym now)
          (legal_push old.boot old.entries _ so_far.legal one.answers.adds.next);
      calls = ap (λ (h : KeptHistory). map line_of_entry h.entries) now
          ∙ map-append line_of_entry old.entries (_ ∷ [])
          ∙ ap (λ ls. ls ++ record { pid = pid; act = Act.Call request } ∷ []) so_far.calls;
      made = let before = so_far.made in let more = sum_by_push (λ (l : Line). cond {A = ℕ} (asks_fork l.act) 1 0) made here in
          omega (arith, count, before, more);
    }

pub makes_same : (book : KeptHistory) (script : Script) (made more : List Line) → made ≡ more → Makes book (plan_of script) made →
    Makes book (plan_of script) more
makes_same book script made more e so_far =
    record {
      processes = so_far.processes;
      legal = so_far.legal;
      calls = so_far.calls ∙ e;
      made = so_far.made
          ∙ ap (λ ls. length script.procs.items + forks_of ls) e;
    }

pub boot_kept : (old new : KeptHistory) (pid : Pid) (request : Request) → MakesOne old new pid request → new.boot ≡ old.boot
boot_kept old new pid request one = ap KeptHistory.boot one.answers.adds.appended

pub grows_none : (es : List Entry) → Grows es es
grows_none es = ([], sym (append-nil es))

pub grows_then : (a b c : List Entry) → Grows a b → Grows b c → Grows a c
grows_then a b c g h = (g.0 ++ h.0, h.1 ∙ ap (λ es. es ++ h.0) g.1 ∙ append_assoc a g.0 h.0)

pub grows_one : (old new : KeptHistory) (pid : Pid) (request : Request) → MakesOne old new pid request → Grows old.entries new.entries
grows_one old new pid request one = (_ ∷ [], ap KeptHistory.entries one.answers.adds.appended)

-- a call of an orderly script is no stranger's
pub no_stranger : (book : KeptHistory) (script : Script) (i : ℕ) (line : Line) (request : Request) → IsOrderly (plan_of script) →
    Makes book (plan_of script) (call_lines (take i script.lines.items)) → i < length script.lines.items →
    line ≡ get_or script.lines.items i line → line.act ≡ Act.Call request →
    (is_off request ≡ false) × (is_live (state_of book) line.pid.0 ≡ true)
no_stranger book script i line request orderly so_far inside item asks = (
  ap asks_off (sym asks) ∙ all_at IsCall i script.lines.items line orderly.calls inside item,
  line_lives book script i line so_far orderly inside item,
)

-- nor is the end of the layer behind all exits refused
pub no_stranger_ends : (book : KeptHistory) (script : Script) (n : ℕ) → IsOrderly (plan_of script) → n ≡ known_count (plan_of script) →
    Makes book (plan_of script) (call_lines script.lines.items ++ exits_of script.lines.items n) →
    (has_live (state_of book) ≡ false → ends_of book.entries ≡ 1) → ⊥
no_stranger_ends book script n orderly count so_far refused =
    let lines = script.lines.items in
    let none = not_ended book.entries (subst (AllByRecursion IsCall) (sym so_far.calls)
    (both_calls _ _ (all_calls lines orderly.calls) (exits_are_calls lines n))) in
    let once = refused (all_gone book script (makes_same book script _ _ (ap (λ m. call_lines lines ++ exits_of lines m) count) so_far)) in
    omega (arith, none, once)

-- all calls of a run without an end, and with one
pub without_end : (script : Script) (n : ℕ) → n ≡ known_count (plan_of script) → script.off ≡ false →
    call_lines script.lines.items ++ exits_of script.lines.items n ≡ all_turns (plan_of script)
without_end script n count no_end =
    ap (λ m. call_lines script.lines.items ++ exits_of script.lines.items m) count
    ∙ ap (λ ls. call_lines script.lines.items ++ ls) (sym (append-nil (exits_of script.lines.items (known_count (plan_of script)))))
    ∙ ap (λ b. call_lines script.lines.items ++
    (exits_of script.lines.items (known_count (plan_of script)) ++ (if b then off_line ∷ [] else []))) (sym no_end)

pub with_end : (script : Script) (n : ℕ) → n ≡ known_count (plan_of script) → script.off ≡ true →
    (call_lines script.lines.items ++ exits_of script.lines.items n) ++ off_line ∷ [] ≡ all_turns (plan_of script)
with_end script n count end =
    ap (λ m. (call_lines script.lines.items ++ exits_of script.lines.items m) ++ off_line ∷ []) count
    ∙ append_assoc (call_lines script.lines.items) (exits_of script.lines.items (known_count (plan_of script))) (off_line ∷ [])
    ∙ ap (λ b. call_lines script.lines.items ++
    (exits_of script.lines.items (known_count (plan_of script)) ++ (if b then off_line ∷ [] else []))) (sym end)

-- a book that was just opened
pub makes_none : (book : KeptHistory) (s : Plan) (boot : State) → book ≡ record { boot = boot; entries = [] } → IsBootState boot →
    boot.processes ≡ map new_process s.procs → Makes book s []
makes_none book s boot new boots same = subst (λ (h : KeptHistory). Makes h s []) (sym new) (record {
  processes = same;
  legal = legal_empty boot boots;
  calls = refl;
  made = let count = ap length same ∙ length-map s.procs new_process in omega (arith, count);
})

-- what follows from a success, and from a refusal
pub ok_then : {P Q : Type 0} (r : Result (Unit {0}) CallFault) → (P → Q) → OnOk r P → OnOk r Q
ok_then (Ok u) f p = f p
ok_then (Err e) f p = tt

pub ok_both : {P Q R : Type 0} (r : Result (Unit {0}) CallFault) → (P × Q → R) → OnOk r P → OnOk r Q → OnOk r R
ok_both (Ok u) f p q = f (p, q)
ok_both (Err e) f p q = tt

pub err_then : {P : Type 0} {Q : CallFault → Type 0} (r : Result (Unit {0}) CallFault) → (P → (f : CallFault) → Q f) → OnErr r P → IfErr r Q
err_then (Ok u) f p = tt
err_then (Err e) f p = f p e
