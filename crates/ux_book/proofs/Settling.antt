-- Spent shares that were compared one by one, and whether one is missing.
use Rattle.std.proofs.Common.{◌≡◌, ◌≢◌, ℕ, zero, suc, ◌+◌, ◌<◌, ◌≤◌, ◌==◌, ◌&&◌, List, [], ◌∷◌, ◌++◌, length, get_or, Bool, true, false}
use Rattle.std.proofs.Common.{cond, Some, refl, ap, sym, ◌∙◌, subst, arith, ⊎_elim}
use Rattle.std.specs.Bool.{MatchBool}
use Rattle.std.specs.Prelude.{if◌then◌else◌}
use Rattle.std.specs.List.{slice_get, range_with_len, AllWithin, HoldsAt}
use Rattle.std.proofs.lemmas.Bool.{false≢true, eq-eqb, eqb-true, and_parts}
use Rattle.std.proofs.lemmas.Bool.Decides.{eqb_tells}
use Rattle.std.proofs.lemmas.Option.{get_or_from_slice_get, same_Some}
use Rattle.std.proofs.lemmas.List.FromFn.{length-range_with_len, get_or-range_with_len}
use Rattle.std.proofs.lemmas.List.Sums.{sum_by-cons}
use Rattle.ux_model.specs.Types.{Pid, Request, Reply, Entry}
use Rattle.ux_model.specs.State.{State, is_live}
use Rattle.ux_model.specs.Step.{Step}
use Rattle.ux_model.specs.History.{is_allowed, makes_one, replay, IsLegal}
use Rattle.ux_model.proofs.Lists.Appending.{get_push}
use Rattle.ux_model.proofs.Lists.Induction.{kept_throughout, get_pushed}
use Rattle.ux_model.proofs.Processes.Living.{fork_alone_makes, fork_tells_the_next, live_within}
use Rattle.ux_state.proofs.Lookups.{live_positive}
use Rattle.ux_book.specs.declared.call.Call.{Call}
use Rattle.ux_book.specs.Pasts.{Caller, call_of, calls_by}
use Rattle.ux_book.specs.Books.{KeptHistory, ends_of, processes}
use Rattle.ux_book.specs.Receipts.{Slip}
use Rattle.ux_book.specs.Settling.{AllStand, IsSettledWith, callers_of, once_each, Exact, IsSettled, IsWhole}

-- ---- one more was compared

pub exact_more : (es : List Entry) (cs : List Caller) (i : ℕ) (c : Caller) → c ≡ get_or cs i c → calls_by c.pid.0 es ≡ c.past
    → ((k : ℕ) (s : Caller) → k < i → slice_get cs k ≡ Some s → calls_by s.pid.0 es ≡ s.past)
    → (k : ℕ) (s : Caller) → k < i + 1 → slice_get cs k ≡ Some s → calls_by s.pid.0 es ≡ s.past
exact_more es cs i c is here before k s less at =
    ⊎_elim {C = calls_by s.pid.0 es ≡ s.past}
    (λ t. subst (λ (x : Caller). calls_by x.pid.0 es ≡ x.past)
    (is ∙ (ap (λ j. get_or cs j c) (sym t.1) ∙ get_or_from_slice_get cs k s c at)) here)
    (λ t. before k s (let ne : k ≢ i = t.1 in omega arith) at)
    (eqb_tells k i)

pub stands_more : (es : List Entry) (slips : List Slip) (i : ℕ) (w : Slip) → w ≡ get_or slips i w → slice_get es w.number ≡ Some w.entry
    → ((k : ℕ) (s : Slip) → k < i → slice_get slips k ≡ Some s → slice_get es s.number ≡ Some s.entry)
    → (k : ℕ) (s : Slip) → k < i + 1 → slice_get slips k ≡ Some s → slice_get es s.number ≡ Some s.entry
stands_more es slips i w is here before k s less at =
    ⊎_elim {C = slice_get es s.number ≡ Some s.entry}
    (λ t. subst (λ (x : Slip). slice_get es x.number ≡ Some x.entry)
    (is ∙ (ap (λ j. get_or slips j w) (sym t.1) ∙ get_or_from_slice_get slips k s w at)) here)
    (λ t. before k s (let ne : k ≢ i = t.1 in omega arith) at)
    (eqb_tells k i)

-- ---- a look at each process

each_from : (n : ℕ) (cs : List Caller) → ((k : ℕ) → k < n → callers_of (1 + k) cs ≡ 1) → once_each n cs ≡ true
each_from zero cs each = refl
each_from (suc n) cs each =
    let last : callers_of (suc n) cs ≡ 1 = ap (λ m. callers_of m cs) (let e : suc n ≡ 1 + n = omega arith in e) ∙ each n (omega arith) in
    ap (λ (b : Bool). b && (callers_of (suc n) cs == 1)) (each_from n cs (λ k h. each k (omega (arith, h))))
    ∙ eq-eqb (callers_of (suc n) cs) 1 last

each_at : (n : ℕ) (cs : List Caller) → once_each n cs ≡ true → (k : ℕ) → k < n → callers_of (1 + k) cs ≡ 1
each_at zero cs all k h = absurd (omega (arith, h))
each_at (suc n) cs all k h =
    let parts = and_parts (once_each n cs) (callers_of (suc n) cs == 1) all in
    ⊎_elim {C = callers_of (1 + k) cs ≡ 1}
    (λ w. ap (λ m. callers_of m cs) (let same = w.1 in let x : 1 + k ≡ suc n = omega (arith, same) in x)
    ∙ eqb-true (callers_of (suc n) cs) 1 parts.1)
    (λ w. each_at n cs parts.0 k (let other : k ≢ n = w.1 in omega (arith, h, other)))
    (eqb_tells k n)

-- it says yes exactly where each of the processes 1 to n stands once
pub once_by : (n : ℕ) (r : Bool) (cs : List Caller)
    → MatchBool r (AllWithin (λ p. callers_of p cs ≡ 1) (range_with_len 1 n) 0 (length (range_with_len 1 n)))
    ((k : ℕ) × (k < length (range_with_len 1 n)) × HoldsAt (λ p. ¬ (callers_of p cs ≡ 1)) (range_with_len 1 n) k)
    → r ≡ once_each n cs
once_by n true cs m =
    sym (each_from n cs (λ k h. subst (λ p. callers_of p cs ≡ 1) (get_or-range_with_len 1 n k 0 h)
    (m k 0 (omega arith) (let l = length-range_with_len 1 n in omega (arith, l, h)))))
once_by n false cs m =
    let h : m.0 < n = (let l = length-range_with_len 1 n in let b = m.1 in omega (arith, l, b)) in
    let no : ¬ (callers_of (1 + m.0) cs ≡ 1) = subst (λ x. ¬ (callers_of x cs ≡ 1)) (get_or-range_with_len 1 n m.0 0 h) (m.2 0) in
    not_true (once_each n cs) (λ e. no (each_at n cs e m.0 h))
  where
    not_true : (b : Bool) → ¬ (b ≡ true) → false ≡ b
    not_true true not = absurd (not refl)
    not_true false not = refl

-- a process that was made is once among them
once_at : (n : ℕ) (cs : List Caller) → once_each n cs ≡ true → (p : ℕ) → 0 < p → p ≤ n → callers_of p cs ≡ 1
once_at n cs all zero positive inside = absurd (omega (arith, positive))
once_at n cs all (suc k) positive inside = ap (λ (m : ℕ). callers_of m cs) (let same : suc k ≡ 1 + k = omega arith in same)
    ∙ each_at n cs all k (omega (arith, inside))

-- ---- the entries of a process, and its calls

-- a call of a process is that of an entry
entry_for : (p : ℕ) (es : List Entry) (k : ℕ) (call : Call) → slice_get (calls_by p es) k ≡ Some call →
    (i : ℕ) × (e : Entry) × (slice_get es i ≡ Some e) × (call_of e ≡ call)
entry_for p [] k call at = absurd cc
entry_for p (x ∷ es) k call at = by_test (x.pid.0 == p) k (λ k h. entry_for p es k call h) at
  where
    later : (i : ℕ) × (e : Entry) × (slice_get es i ≡ Some e) × (call_of e ≡ call) →
        (i : ℕ) × (e : Entry) × (slice_get (x ∷ es) i ≡ Some e) × (call_of e ≡ call)
    later t = (suc t.0, t.1, t.2, t.3)

    by_test : (b : Bool) (k : ℕ) → ((k : ℕ) → slice_get (calls_by p es) k ≡ Some call →
        (i : ℕ) × (e : Entry) × (slice_get es i ≡ Some e) × (call_of e ≡ call)) →
        slice_get (if b then call_of x ∷ calls_by p es else calls_by p es) k ≡ Some call →
        (i : ℕ) × (e : Entry) × (slice_get (x ∷ es) i ≡ Some e) × (call_of e ≡ call)
    by_test true zero rest h = (0, x, refl, same_Some (call_of x) call h)
    by_test true (suc k) rest h = later (rest k h)
    by_test false k rest h = later (rest k h)

-- an entry stands among its process's calls
call_for : (p : ℕ) (es : List Entry) (i : ℕ) (e : Entry) → slice_get es i ≡ Some e → e.pid.0 ≡ p →
    (k : ℕ) × (slice_get (calls_by p es) k ≡ Some (call_of e))
call_for p [] i e at same = absurd cc
call_for p (x ∷ es) zero e at same =
    let is : x ≡ e = same_Some x e at in
    let yes : (x.pid.0 == p) ≡ true = eq-eqb x.pid.0 p (ap (λ (y : Entry). y.pid.0) is ∙ same) in (
      0,
      ap (λ (b : Bool). slice_get (if b then call_of x ∷ calls_by p es else calls_by p es) 0) yes
          ∙ ap (λ (y : Entry). Some (call_of y)) is,
    )
call_for p (x ∷ es) (suc i) e at same = by_test (x.pid.0 == p) (call_for p es i e at same)
  where
    by_test : (b : Bool) → (k : ℕ) × (slice_get (calls_by p es) k ≡ Some (call_of e)) →
        (k : ℕ) × (slice_get (if b then call_of x ∷ calls_by p es else calls_by p es) k ≡ Some (call_of e))
    by_test true h = (suc h.0, h.1)
    by_test false h = h

-- who is once among callers is one of them
found : (p : ℕ) (cs : List Caller) → callers_of p cs ≡ 1 → (i : ℕ) × (c : Caller) × (slice_get cs i ≡ Some c) × (c.pid.0 ≡ p)
found p [] h = absurd (omega (arith, h))
found p (c ∷ cs) h =
    let more : callers_of p (c ∷ cs) ≡ cond {A = ℕ} (c.pid.0 == p) 1 0 + callers_of p cs =
    sum_by-cons (λ (x : Caller). cond {A = ℕ} (x.pid.0 == p) 1 0) c cs in
    ⊎_elim {C = (i : ℕ) × (d : Caller) × (slice_get (c ∷ cs) i ≡ Some d) × (d.pid.0 ≡ p)}
    (λ w. (0, c, refl, w.1))
    (λ w.
    let none : cond {A = ℕ} (c.pid.0 == p) 1 0 ≡ 0 = ap (λ (b : Bool). cond {A = ℕ} b 1 0) w.0 in
    let rest = found p cs (omega (arith, h, more, none)) in
    (suc rest.0, rest.1, rest.2, rest.3))
    (eqb_tells c.pid.0 p)

-- ---- none is missing where each process of the history is there once

boot_within : (boot : State) (es : List Entry) → IsLegal boot es → length boot.processes ≤ length (replay boot es).processes
boot_within boot es legal = kept_throughout boot (λ l S. length boot.processes ≤ length S.processes) (record {
  at_boot = λ boots. omega arith;
  by_entry = λ l e S T so_far step allowed. let more = fork_alone_makes S T e.pid.0 (length l) e.request e.reply e.released step in
      omega (arith, so_far, more);
}) es legal

-- a child that an entry reports is a process of the history
abbrev ChildrenWithin : List Entry → State → Type 0
ChildrenWithin es S = (i : ℕ) (e : Entry) (pid : Pid) → slice_get es i ≡ Some e → e.request ≡ Request.Fork → e.reply ≡ Reply.Child pid →
    (0 < pid.0) × (pid.0 ≤ length S.processes)

children_within : (boot : State) (es : List Entry) → IsLegal boot es → ChildrenWithin es (replay boot es)
children_within boot es legal = kept_throughout boot ChildrenWithin (record {
  at_boot = λ boots i e pid at asked told. nowhere i e at;
  by_entry = λ l e S T so_far step allowed i x pid at asked told.
      let more = fork_alone_makes S T e.pid.0 (length l) e.request e.reply e.released step in
      ⊎_elim {C = (0 < pid.0) × (pid.0 ≤ length T.processes)}
      (λ p. let before = so_far i x pid p.0 asked told in let inside = before.1 in (before.0, omega (arith, inside, more)))
      (λ p.
      let fork : e.request ≡ Request.Fork = ap (λ (y : Entry). y.request) (sym p.0) ∙ asked in
      let child : e.reply ≡ Reply.Child pid = ap (λ (y : Entry). y.reply) (sym p.0) ∙ told in
      let forked : Step S e.pid.0 (length l) Request.Fork (Reply.Child pid) e.released T =
      subst (λ (r : Request). Step S e.pid.0 (length l) r (Reply.Child pid) e.released T) fork
      (subst (λ (y : Reply). Step S e.pid.0 (length l) e.request y e.released T) child step) in
      let next = fork_tells_the_next S T e.pid.0 (length l) pid e.released forked in
      let one = fork_alone_makes S T e.pid.0 (length l) Request.Fork (Reply.Child pid) e.released forked in
      (omega (arith, next), omega (arith, next, one)))
      (get_push l e x i at);
}) es legal
  where
    nowhere : {pid : Pid} (i : ℕ) (e : Entry) → slice_get [] i ≡ Some e → (0 < pid.0) × (pid.0 ≤ length boot.processes)
    nowhere zero e h = absurd cc
    nowhere (suc i) e h = absurd cc

pub whole : (boot : State) (es : List Entry) (cs : List Caller) → IsLegal boot es → Exact es cs →
    once_each (length (replay boot es).processes) cs ≡ true → IsWhole boot cs
whole boot es cs legal exact once = record {
  first = λ p positive inside. let wide = boot_within boot es legal in
      once_at (length (replay boot es).processes) cs once p positive (omega (arith, inside, wide));
  children = λ i k c call pid at_c at_call asked told.
      let entry = entry_for c.pid.0 es k call (ap (λ (l : List Call). slice_get l k) (exact i c at_c) ∙ at_call) in
      let there = children_within boot es legal entry.0 entry.1 pid entry.2 (ap (λ (x : Call). x.request) entry.3 ∙ asked)
      (ap (λ (x : Call). x.reply) entry.3 ∙ told) in
      once_at (length (replay boot es).processes) cs once pid.0 there.0 there.1;
}

-- ---- each process of the history is there once where none is missing

-- so far
abbrev SoFar : List Caller → State → Type 0
SoFar cs S = (p : ℕ) → 0 < p → p ≤ length S.processes → callers_of p cs ≡ 1

-- the entries are a front of these
abbrev IsFront : List Entry → List Entry → Type 0
IsFront all l = (i : ℕ) (e : Entry) → slice_get l i ≡ Some e → slice_get all i ≡ Some e

front_of : (all l : List Entry) (e : Entry) → IsFront all (l ++ e ∷ []) → IsFront all l
front_of all l e front i x at = front i x (get_front l e i x at)
  where
    get_front : (l : List Entry) (e : Entry) (i : ℕ) (x : Entry) → slice_get l i ≡ Some x → slice_get (l ++ e ∷ []) i ≡ Some x
    get_front [] e zero x h = absurd cc
    get_front [] e (suc i) x h = absurd cc
    get_front (y ∷ l) e zero x h = h
    get_front (y ∷ l) e (suc i) x h = get_front l e i x h

-- a fork is made by a live process
forker_lives : (S : State) (p k : ℕ) (request : Request) → request ≡ Request.Fork → is_allowed S p k request ≡ true → is_live S p ≡ true
forker_lives S p k request fork may = ap (λ (r : Request). is_allowed S p k r) (sym fork) ∙ may

so_more : (boot : State) (cs : List Caller) (all l : List Entry) (e : Entry) (S T : State) → IsWhole boot cs → Exact all cs →
    slice_get all (length l) ≡ Some e → SoFar cs S →
    Step S e.pid.0 (length l) e.request e.reply e.released T → is_allowed S e.pid.0 e.k e.request ≡ true → SoFar cs T
so_more boot cs all l e S T whole exact at so_far step allowed p positive inside =
    go e.request e.reply refl refl
  where
    here : (r : Request) (y : Reply) → e.request ≡ r → e.reply ≡ y → Step S e.pid.0 (length l) r y e.released T
    here r y asked told = subst (λ (x : Request). Step S e.pid.0 (length l) x y e.released T) asked
        (subst (λ (x : Reply). Step S e.pid.0 (length l) e.request x e.released T) told step)

    stays : (r : Request) (y : Reply) → e.request ≡ r → e.reply ≡ y → makes_one r y ≡ false → callers_of p cs ≡ 1
    stays r y asked told none =
        let same : length T.processes ≡ length S.processes + 0 =
        fork_alone_makes S T e.pid.0 (length l) r y e.released (here r y asked told)
        ∙ ap (λ (b : Bool). length S.processes + cond {A = ℕ} b 1 0) none in
        so_far p positive (omega (arith, inside, same))

    forked : (pid : Pid) → e.request ≡ Request.Fork → e.reply ≡ Reply.Child pid → callers_of p cs ≡ 1
    forked pid asked told =
        let step_here = here Request.Fork (Reply.Child pid) asked told in
        let next = fork_tells_the_next S T e.pid.0 (length l) pid e.released step_here in
        let one = fork_alone_makes S T e.pid.0 (length l) Request.Fork (Reply.Child pid) e.released step_here in
        let live = forker_lives S e.pid.0 e.k e.request asked allowed in
        let parent = found e.pid.0 cs (so_far e.pid.0 (live_positive S e.pid.0 live) (live_within S e.pid.0 live)) in
        let stood = call_for e.pid.0 all (length l) e at refl in
        let past : calls_by e.pid.0 all ≡ parent.1.past = ap (λ (n : ℕ). calls_by n all) (sym parent.3)
        ∙ exact parent.0 parent.1 parent.2 in
        let child = whole.children parent.0 stood.0 parent.1 (call_of e) pid parent.2
        (subst (λ (c : List Call). slice_get c stood.0 ≡ Some (call_of e)) past stood.1) asked told in
        ⊎_elim {C = callers_of p cs ≡ 1}
        (λ w. ap (λ (n : ℕ). callers_of n cs) w.1 ∙ child)
        (λ w. let other : p ≢ pid.0 = w.1 in so_far p positive (omega (arith, inside, next, one, other)))
        (eqb_tells p pid.0)

    go : (r : Request) (y : Reply) → e.request ≡ r → e.reply ≡ y → callers_of p cs ≡ 1
    go Request.Fork (Reply.Child pid) asked told = forked pid asked told
    go r y asked told = stays r y asked told refl

pub each_there : (boot : State) (es : List Entry) (cs : List Caller) → IsLegal boot es → Exact es cs → IsWhole boot cs →
    once_each (length (replay boot es).processes) cs ≡ true
each_there boot es cs legal exact whole =
    let all : IsFront es es → SoFar cs (replay boot es) = kept_throughout boot (λ l S. IsFront es l → SoFar cs S) (record {
      at_boot = λ boots front p positive inside. whole.first p positive inside;
      by_entry = λ l e S T so_far step allowed front.
          so_more boot cs es l e S T whole exact (front (length l) e (get_pushed l e)) (so_far (front_of es l e front)) step allowed;
    }) es legal in
    each_from (length (replay boot es).processes) cs (λ k h. all (λ i e at. at) (1 + k) (omega arith) (omega (arith, h)))

-- ---- what the book says of them

pub settled : {boot : State} {book : KeptHistory} {cs : List Caller} {count n : ℕ} {ended : Bool} → book.boot ≡ boot →
    IsLegal book.boot book.entries → Exact book.entries cs → n ≡ processes book → once_each n cs ≡ true →
    count ≡ length book.entries → cond {A = ℕ} ended 1 0 ≡ ends_of book.entries → IsSettled boot cs count ended
settled {boot} {book} {cs} {count} {n} {ended} begins legal exact made once is_count is_ended = record {
  entries = book.entries;
  legal = subst (λ (S : State). IsLegal S book.entries) begins legal;
  exact = exact;
  once = ap (λ (S : State). once_each (length (replay S book.entries).processes) cs) (sym begins)
      ∙ ap (λ (m : ℕ). once_each m cs) (sym made) ∙ once;
  long = sym is_count;
  ends = sym is_ended;
}

pub settled_with : {boot : State} {book : KeptHistory} {cs : List Caller} {slips : List Slip} {count : ℕ} {ended : Bool} →
    book.boot ≡ boot → IsLegal book.boot book.entries → Exact book.entries cs → once_each (processes book) cs ≡ true →
    count ≡ length book.entries → cond {A = ℕ} ended 1 0 ≡ ends_of book.entries → AllStand book.entries slips →
    IsSettledWith boot cs slips count ended
settled_with {boot} {book} {cs} {slips} {count} {ended} begins legal exact once is_count is_ended stand = record {
  entries = book.entries;
  legal = subst (λ (S : State). IsLegal S book.entries) begins legal;
  exact = exact;
  once = ap (λ (S : State). once_each (length (replay S book.entries).processes) cs) (sym begins) ∙ once;
  long = sym is_count;
  ends = sym is_ended;
  stand = stand;
}

pub whole_book : {boot : State} {book : KeptHistory} {cs : List Caller} {n : ℕ} → book.boot ≡ boot → IsLegal book.boot book.entries →
    Exact book.entries cs → n ≡ processes book → once_each n cs ≡ true → IsWhole boot cs
whole_book {boot} {book} {cs} {n} begins legal exact made once =
    subst (λ (S : State). IsWhole S cs) begins
    (whole book.boot book.entries cs legal exact (ap (λ (m : ℕ). once_each m cs) (sym made) ∙ once))

pub missing_book : {boot : State} {book : KeptHistory} {cs : List Caller} {n : ℕ} → book.boot ≡ boot → IsLegal book.boot book.entries →
    Exact book.entries cs → n ≡ processes book → once_each n cs ≡ false → ¬ (IsWhole boot cs)
missing_book {boot} {book} {cs} {n} begins legal exact made lacks all =
    false≢true (sym lacks ∙ ap (λ (m : ℕ). once_each m cs) made
    ∙ each_there book.boot book.entries cs legal exact (subst (λ (S : State). IsWhole S cs) (sym begins) all))
