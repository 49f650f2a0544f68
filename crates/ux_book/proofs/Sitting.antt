-- The shares of a book by which one thread calls, at its start and through its calls.
use mathlib.Core.Bool.{and-true, and-false, or-true, or-false}
use Rattle.std.proofs.Common.{◌≡◌, ◌≢◌, ℕ, zero, suc, ◌+◌, ◌-◌, ◌<◌, ◌≤◌, Bool, true, false, cond, not, ◌&&◌, ◌||◌, ◌==◌, ◌⊎◌, inl, inr}
use Rattle.std.proofs.Common.{List, [], ◌∷◌, ◌++◌, length, get_or, set, map, Option, Some, None, refl, ap, sym, subst, ◌∙◌, ⊎_elim, arith}
use Rattle.std.specs.Prelude.{if◌then◌else◌, option_map, Result, Ok, Err, OnOk, OnErr}
use Rattle.std.specs.List.{slice_get, list_all}
use Rattle.std.proofs.lemmas.Bool.{false≢true, and_right, and_parts, ne_eqb, eq-eqb, cases_lt}
use Rattle.std.proofs.lemmas.Bool.Decides.{eqb_tells}
use Rattle.std.proofs.lemmas.List.{map-append, length-map, length-append, length-set, get_or-set_same, get_or-set_other}
use Rattle.std.proofs.lemmas.List.{get_or-append_right, get_or_append_left, get_or_past, set-set}
use Rattle.ux_model.specs.Types.{Pid, Request, Reply}
use Rattle.ux_model.specs.Process.{Process}
use Rattle.ux_model.specs.State.{State, is_live}
use Rattle.ux_model.specs.Places.{place}
use Rattle.ux_model.specs.Boot.{IsBootState}
use Rattle.ux_model.specs.Step.{Step}
use Rattle.ux_model.specs.History.{calls_of, is_exit, is_fork, makes, makes_one, replay, IsLegal}
use Rattle.ux_model.proofs.Processes.Living.{exit_and_fork_alone, fork_tells_the_next, live_within}
use Rattle.ux_model.proofs.Processes.Numbering.{no_call_before_made}
use Rattle.ux_model.proofs.Lists.OnePlace.{same_at}
use Rattle.ux_book.specs.declared.call.Call.{Call}
use Rattle.ux_book.specs.declared.fault.CallFault.{CallFault}
use Rattle.ux_book.specs.Books.{KeptHistory, state_of, processes, entry_of}
use Rattle.ux_book.specs.Pasts.{Caller, calls_by, child_by, fresh, made}
use Rattle.ux_book.specs.Faults.{is_stranger}
use Rattle.ux_book.proofs.Pasts.{length_calls, calls_more, calls_same, calls_none}
use Rattle.ux_book.proofs.Legal.{processes_after}
use Rattle.ux_book.specs.Sitting.{Answers, MakesOne, IsFault, share_of, HasShares, Forks}

-- the share of a process that has made these calls, where it lives
abbrev given : Bool → ℕ → List Call → Option Caller
given b p past = if b then Some (record { pid = record { 0 = p }; past = past }) else None

-- ---- at the start

length_fresh : (n : ℕ) → length (fresh n) ≡ n
length_fresh zero = refl
length_fresh (suc n) = length-append (fresh n) _ ∙ ap (λ k. k + 1) (length_fresh n) ∙ omega arith

fresh_at : (n i : ℕ) → i < n → get_or (map (λ (c : Caller). Some c) (fresh n)) i None ≡ Some
    (record { pid = record { 0 = suc i }; past = [] })
fresh_at zero i inside = absurd (omega (arith, inside))
fresh_at (suc n) i inside =
    ap (λ (cs : List (Option Caller)). get_or cs i None) (map-append (λ (c : Caller). Some c) (fresh n) _)
    ∙ go (cases_lt i n) (fresh_at n i)
  where
    front : List (Option Caller)
    front = map (λ (c : Caller). Some c) (fresh n)

    last : Option Caller
    last = Some (record { pid = record { 0 = suc n }; past = [] })

    long : length front ≡ n
    long = length-map (fresh n) (λ (c : Caller). Some c) ∙ length_fresh n

    go : (i < n) ⊎ (n ≤ i) → (i < n → get_or front i None ≡ Some (record { pid = record { 0 = suc i }; past = [] })) →
        get_or (front ++ last ∷ []) i None ≡ Some (record { pid = record { 0 = suc i }; past = [] })
    go (inl h) before = get_or_append_left front (last ∷ []) None i (omega (arith, h, long)) ∙ before h
    go (inr h) before =
        let here : i ≡ n = omega (arith, h, inside) in
        let none : i - n ≡ 0 = omega (arith, here) in
        get_or-append_right front (last ∷ []) n i None long h
        ∙ ap (λ (k : ℕ). get_or (last ∷ []) k None) none
        ∙ ap (λ (k : ℕ). Some (record { pid = record { 0 = suc k }; past = [] })) (sym here)

fresh_past : (n i : ℕ) → n ≤ i → get_or (map (λ (c : Caller). Some c) (fresh n)) i None ≡ None
fresh_past n i past = get_or_past _ i None
    (let long : length (map (λ (c : Caller). Some c) (fresh n)) ≡ n = length-map (fresh n) (λ (c : Caller). Some c) ∙ length_fresh n in
    omega (arith, long, past))

-- in a boot state all processes live
boot_lives : (S : State) (i : ℕ) → IsBootState S → i < length S.processes → is_live S (suc i) ≡ true
boot_lives S i boots inside = go S.processes i boots.live_processes inside
  where
    go : (Ps : List Process) (i : ℕ) → list_all (λ P. not (Process.exited P)) Ps ≡ true → i < length Ps →
        (elim (slice_get Ps i) as (λ _. Bool) [ Some P ↦ not P.exited | None ↦ false ]) ≡ true
    go [] i all h = absurd (omega (arith, h))
    go (P ∷ Ps) zero all h = (and_parts (not P.exited) _ all).0
    go (P ∷ Ps) (suc i) all h = go Ps i (and_parts (not P.exited) _ all).1 (omega (arith, h))

none_behind : (S : State) (i : ℕ) → length S.processes ≤ i → is_live S (suc i) ≡ false
none_behind S i past = go S.processes i past
  where
    go : (Ps : List Process) (i : ℕ) → length Ps ≤ i →
        (elim (slice_get Ps i) as (λ _. Bool) [ Some P ↦ not P.exited | None ↦ false ]) ≡ false
    go [] i h = refl
    go (P ∷ Ps) zero h = absurd (omega (arith, h))
    go (P ∷ Ps) (suc i) h = go Ps i (omega (arith, h))

-- a book that was just opened, and its shares
pub first_shares : (book : KeptHistory) (boot : State) (places : List (Option Caller)) → IsBootState boot →
    book ≡ record { boot = boot; entries = [] } →
    places ≡ None ∷ map (λ (c : Caller). Some c) (fresh (length boot.processes)) → HasShares book places
first_shares book boot places boots new all = record {
  each = λ p. ap (λ (ps : List (Option Caller)). place ps p) all ∙ go p ∙ ap (λ (b : KeptHistory). share_of b p) (sym new);
  long =
      let count : processes book ≡ n = ap processes new in
      let places_long : length places ≡ length (None ∷ map (λ (c : Caller). Some c) (fresh n)) = ap length all in
      let shares : length (map (λ (c : Caller). Some c) (fresh n)) ≡ n = length-map (fresh n) (λ (c : Caller). Some c) ∙ length_fresh n in
      omega (arith, count, places_long, shares);
}
  where
    n : ℕ
    n = length boot.processes

    behind : (i : ℕ) → (i < n) ⊎ (n ≤ i) → get_or (map (λ (c : Caller). Some c) (fresh n)) i None ≡ share_of
        (record { boot = boot; entries = [] }) (suc i)
    behind i (inl inside) = fresh_at n i inside ∙ ap (λ (b : Bool). given b (suc i) []) (sym (boot_lives boot i boots inside))
    behind i (inr past) = fresh_past n i past ∙ ap (λ (b : Bool). given b (suc i) []) (sym (none_behind boot i past))

    go : (p : ℕ) → place (None ∷ map (λ (c : Caller). Some c) (fresh n)) p ≡ share_of (record { boot = boot; entries = [] }) p
    go zero = refl
    go (suc i) = behind i (cases_lt i n)

-- ---- what a call answered

pub answered : {C : Type 0} (r : Result (Option Reply) CallFault) → ((reply : Reply) → r ≡ Ok (Some reply) → C) → (r ≡ Ok None → C) →
    ((f : CallFault) → r ≡ Err f → C) → C
answered (Ok (Some reply)) some none err = some reply refl
answered (Ok None) some none err = none refl
answered (Err f) some none err = err f refl

-- ---- what a share says

-- a process without a share doesn't live
pub no_share : (book : KeptHistory) (p : ℕ) → share_of book p ≡ None → is_live (state_of book) p ≡ false
no_share book p = go (is_live (state_of book) p)
  where
    go : (b : Bool) → (given b p (calls_by p book.entries)) ≡ None → b ≡ false
    go true h = absurd (cc h)
    go false h = refl

-- the share of a process is that of a live one
pub share_known : (book : KeptHistory) (p : ℕ) (c : Caller) → share_of book p ≡ Some c → (c.pid.0 ≡ p) × (is_live (state_of book) p ≡ true)
share_known book p c = go (is_live (state_of book) p) refl
  where
    go : (b : Bool) → is_live (state_of book) p ≡ b → (given b p (calls_by p book.entries)) ≡ Some c →
        (c.pid.0 ≡ p) × (is_live (state_of book) p ≡ true)
    go true live h =
        let is : record { pid = record { 0 = p }; past = calls_by p book.entries } ≡ c = cc h in
        (ap (λ (x : Caller). x.pid.0) (sym is), live)
    go false live h = absurd (cc h)

-- how many calls its process has made
pub calls_told : (book : KeptHistory) (places : List (Option Caller)) (p : ℕ) (o : Option Caller) → HasShares book places →
    place places p ≡ o →
    option_map (λ c. length (Caller.past c)) o ≡ (if is_live (state_of book) p then Some (calls_of p book.entries) else None)
calls_told book places p o has at = ap (option_map (λ c. length (Caller.past c))) (sym at ∙ has.each p) ∙ go (is_live (state_of book) p)
  where
    go : (b : Bool) → option_map (λ c. length (Caller.past c))
        (given b p (calls_by p book.entries)) ≡ (if b then Some (calls_of p book.entries) else None)
    go true = ap (λ (n : ℕ). Some n) (length_calls p book.entries)
    go false = refl

-- ---- through a call

-- a call that made no process didn't make this one
makes_not : (p : ℕ) (request : Request) (reply : Reply) → makes_one request reply ≡ false → makes p request reply ≡ false
makes_not p Request.Fork (Reply.Child pid) h = absurd (cc h)
makes_not p request reply h = refl

-- a fork alone makes one
pub no_fork : (request : Request) (reply : Reply) → is_fork request ≡ false → makes_one request reply ≡ false
no_fork Request.Fork reply h = absurd (cc h)
no_fork request reply h = refl

-- where none was made, there are as many processes as before
pub as_many : (old new : KeptHistory) (pid : Pid) (request : Request) (one : MakesOne old new pid request) →
    makes_one request one.reply ≡ false → processes new ≡ processes old
as_many old new pid request one none =
    let after = processes_after old new _ one.answers.adds in
    let more : processes new ≡ processes old + cond {A = ℕ} false 1 0 = after
    ∙ ap (λ (b : Bool). processes old + cond {A = ℕ} b 1 0) none in
    omega (arith, more)

live_after : (old new : KeptHistory) (pid : Pid) (request : Request) (p : ℕ) → (one : MakesOne old new pid request) →
    is_live (state_of new) p ≡ ((is_live (state_of old) p && not (is_exit request && (pid.0 == p))) || makes p request one.reply)
live_after old new pid request p one =
    let adds = one.answers.adds in
    ap (λ (b : KeptHistory). is_live (state_of b) p) adds.appended
    ∙ exit_and_fork_alone (state_of old) _ pid.0 (length old.entries) p request one.reply one.answers.released adds.next.steps

-- of a process that the call didn't make
live_still : (old new : KeptHistory) (pid : Pid) (request : Request) (p : ℕ) → (one : MakesOne old new pid request) →
    makes p request one.reply ≡ false →
    is_live (state_of new) p ≡ (is_live (state_of old) p && not (is_exit request && (pid.0 == p)))
live_still old new pid request p one none =
    live_after old new pid request p one
    ∙ ap (λ (b : Bool). (is_live (state_of old) p && not (is_exit request && (pid.0 == p))) || b) none
    ∙ or-false (is_live (state_of old) p && not (is_exit request && (pid.0 == p)))

-- the calls of another process are as before, and its own are one more
calls_other : (old new : KeptHistory) (pid : Pid) (request : Request) (p : ℕ) → MakesOne old new pid request → pid.0 ≢ p →
    calls_by p new.entries ≡ calls_by p old.entries
calls_other old new pid request p one other = ap (λ (b : KeptHistory). calls_by p b.entries) one.answers.adds.appended
    ∙ calls_same p old.entries _ other

calls_own : (old new : KeptHistory) (pid : Pid) (request : Request) → (one : MakesOne old new pid request) →
    calls_by pid.0 new.entries ≡ calls_by pid.0 old.entries ++ record { request = request; reply = one.reply } ∷ []
calls_own old new pid request one = ap (λ (b : KeptHistory). calls_by pid.0 b.entries) one.answers.adds.appended
    ∙ calls_more pid.0 old.entries _ refl

-- a call leaves the shares of all others
pub other_share : (old new : KeptHistory) (pid : Pid) (request : Request) (p : ℕ) → (one : MakesOne old new pid request) →
    makes p request one.reply ≡ false → pid.0 ≢ p → share_of new p ≡ share_of old p
other_share old new pid request p one none other =
    let who = ne_eqb pid.0 p other in
    let live : is_live (state_of new) p ≡ is_live (state_of old) p =
    live_still old new pid request p one none
    ∙ ap (λ (b : Bool). is_live (state_of old) p && not b) (and_right (is_exit request) _ who)
    ∙ and-true (is_live (state_of old) p) in
    let calls = calls_other old new pid request p one other in
    λ j. given (live j) p (calls j)

-- its own knows one more
pub own_share : (old new : KeptHistory) (pid : Pid) (request : Request) (c : Caller) → (one : MakesOne old new pid request) →
    makes pid.0 request one.reply ≡ false → is_exit request ≡ false → share_of old pid.0 ≡ Some c →
    share_of new pid.0 ≡ Some (made c request one.reply)
own_share old new pid request c one none stays was =
    (λ j. given (live j) pid.0 (calls_own old new pid request one j)) ∙ more (is_live (state_of old) pid.0) was
  where
    live : is_live (state_of new) pid.0 ≡ is_live (state_of old) pid.0
    live = live_still old new pid request pid.0 one none
        ∙ ap (λ (b : Bool). is_live (state_of old) pid.0 && not (b && (pid.0 == pid.0))) stays
        ∙ and-true (is_live (state_of old) pid.0)

    more : (b : Bool) → (given b pid.0 (calls_by pid.0 old.entries)) ≡ Some c →
        (given b pid.0 (calls_by pid.0 old.entries ++ record { request = request; reply = one.reply } ∷ [])) ≡ Some
        (made c request one.reply)
    more true h = ap (option_map (λ (x : Caller). made x request one.reply)) h
    more false h = absurd (cc h)

-- and is gone after the exit
pub gone_share : (old new : KeptHistory) (pid : Pid) → MakesOne old new pid Request.Exit → share_of new pid.0 ≡ None
gone_share old new pid one =
    ap (λ (b : Bool). given b pid.0 (calls_by pid.0 new.entries))
    (live_still old new pid Request.Exit pid.0 one refl
    ∙ ap (λ (b : Bool). is_live (state_of old) pid.0 && not b) (eq-eqb pid.0 pid.0 refl)
    ∙ and-false (is_live (state_of old) pid.0))

-- ---- the places

length_of_some : (xs : List (Option Caller)) (i : ℕ) (c : Caller) → get_or xs i None ≡ Some c → i < length xs
length_of_some [] i c h = absurd (cc h)
length_of_some (x ∷ xs) zero c h = omega arith
length_of_some (x ∷ xs) (suc i) c h = let rest = length_of_some xs i c h in omega (arith, rest)

-- a share that is taken out of its place was there, and has a place to be put back into
pub place_there : (xs : List (Option Caller)) (i : ℕ) (c : Caller) (left : List (Option Caller)) → Some c ≡ place xs i →
    left ≡ set xs i None → i < length left
place_there xs i c left h e = let inside = length_of_some xs i c (sym h) in
    let same : length left ≡ length xs = ap length e ∙ length-set xs i None in omega (arith, inside, same)

-- the place of a process that called, and those of all others but of one that it made
changed_at : (old new : KeptHistory) (xs : List (Option Caller)) (pid : Pid) (request : Request) (o : Option Caller) → HasShares old xs →
    (one : MakesOne old new pid request) → pid.0 < length xs → share_of new pid.0 ≡ o →
    (p : ℕ) → makes p request one.reply ≡ false → place (set xs pid.0 o) p ≡ share_of new p
changed_at old new xs pid request o has one inside own p none =
    ⊎_elim {C = place (set xs pid.0 o) p ≡ share_of new p}
    (λ w. ap (place (set xs pid.0 o)) (sym w.1) ∙ get_or-set_same xs pid.0 o None inside ∙ sym own ∙ ap (share_of new) w.1)
    (λ w. get_or-set_other xs pid.0 p o None (λ e. w.1 (sym e)) ∙ has.each p ∙ sym (other_share old new pid request p one none w.1))
    (eqb_tells pid.0 p)

changed : (old new : KeptHistory) (xs : List (Option Caller)) (pid : Pid) (request : Request) (o : Option Caller) → HasShares old xs →
    (one : MakesOne old new pid request) → makes_one request one.reply ≡ false →
    pid.0 < length xs → share_of new pid.0 ≡ o → HasShares new (set xs pid.0 o)
changed old new xs pid request o has one none inside own = record {
  each = λ p. changed_at old new xs pid request o has one inside own p (makes_not p request one.reply none);
  long =
      let same = as_many old new pid request one none in
      let long = has.long in
      let as_long = length-set xs pid.0 o in
      omega (arith, same, long, as_long);
}

-- what stands in a place is put there
put_back : (book : KeptHistory) (xs : List (Option Caller)) (i : ℕ) (o : Option Caller) → HasShares book xs → o ≡ place xs i →
    HasShares book (set xs i o)
put_back book xs i o has same = record {
  each = λ p. same_at (λ x. x) xs i p o same ∙ has.each p;
  long = let long = has.long in let as_long = length-set xs i o in omega (arith, long, as_long);
}

-- where the place of a process was empty
pub keeps_empty : (book : KeptHistory) (xs left : List (Option Caller)) (i : ℕ) → HasShares book xs → None ≡ place xs i →
    left ≡ set xs i None → HasShares book left
keeps_empty book xs left i has none e = subst (HasShares book) (sym e) (put_back book xs i None has none)

-- a share that is taken and put back again after its process called
record Taken (old : KeptHistory) (xs left all : List (Option Caller)) (pid : Pid) (c d : Caller) : Type 0 where
  own : share_of old pid.0 ≡ Some c
  who : c.pid.0 ≡ pid.0
  inside : pid.0 < length xs
  whole : d.pid.0 ≡ c.pid.0 → all ≡ set xs pid.0 (Some d)

taken : (old : KeptHistory) (xs left all : List (Option Caller)) (pid : Pid) (c d : Caller) → HasShares old xs → Some c ≡ place xs pid.0 →
    left ≡ set xs pid.0 None → all ≡ set left d.pid.0 (Some d) → Taken old xs left all pid c d
taken old xs left all pid c d has was e f = record {
  own = own;
  who = who;
  inside = length_of_some xs pid.0 c (sym was);
  whole = λ same. f ∙ ap (λ (l : List (Option Caller)). set l d.pid.0 (Some d)) e
      ∙ ap (λ (n : ℕ). set (set xs pid.0 None) n (Some d)) (same ∙ who) ∙ set-set xs pid.0 None (Some d);
}
  where
    own : share_of old pid.0 ≡ Some c
    own = sym (was ∙ has.each pid.0)

    who : c.pid.0 ≡ pid.0
    who = (share_known old pid.0 c own).0

-- where a process made a call that made none, and where its call was not made
called : (old new : KeptHistory) (xs left all : List (Option Caller)) (pid : Pid) (request : Request) (c d : Caller) → HasShares old xs →
    Taken old xs left all pid c d → (one : MakesOne old new c.pid request) →
    makes_one request one.reply ≡ false → is_exit request ≡ false → d ≡ made c request one.reply → HasShares new all
called old new xs left all pid request c d has t one none stays more =
    subst (HasShares new) (sym (t.whole (ap (λ (x : Caller). x.pid.0) more)))
    (changed old new xs (record { 0 = pid.0 }) request (Some d) has here none_here t.inside
    (own_share old new pid request c here (makes_not pid.0 request _ none_here) stays t.own
    ∙ ap (λ (y : Reply). Some (made c request y)) both.2 ∙ ap (λ (x : Caller). Some x) (sym more)))
  where
    both : (here : MakesOne old new pid request) × (makes_one request here.reply ≡ false) × (here.reply ≡ one.reply)
    both = subst (λ (n : ℕ). (here : MakesOne old new (record { 0 = n }) request) × (makes_one request here.reply ≡ false)
        × (here.reply ≡ one.reply)) t.who (one, none, refl)

    here : MakesOne old new pid request
    here = both.0

    none_here : makes_one request here.reply ≡ false
    none_here = both.1

pub unmade_shares : (old new : KeptHistory) (xs left all : List (Option Caller)) (pid : Pid) (c d : Caller) → HasShares old xs →
    Some c ≡ place xs pid.0 → left ≡ set xs pid.0 None → all ≡ set left d.pid.0 (Some d) →
    new ≡ old → d ≡ c → HasShares new all
unmade_shares old new xs left all pid c d has was e f same kept =
    let t = taken old xs left all pid c d has was e f in
    subst (HasShares new) (sym (t.whole (ap (λ (x : Caller). x.pid.0) kept)))
    (subst (λ (b : KeptHistory). HasShares b (set xs pid.0 (Some d))) (sym same)
    (put_back old xs pid.0 (Some d) has (ap (λ (x : Caller). Some x) kept ∙ was)))

-- where a process called
pub called_shares : (old new : KeptHistory) (xs left all : List (Option Caller)) (pid : Pid) (request : Request) (reply : Reply)
    (c d : Caller) → HasShares old xs → is_exit request ≡ false → is_fork request ≡ false →
    Some c ≡ place xs pid.0 → left ≡ set xs pid.0 None → all ≡ set left d.pid.0 (Some d) → Answers old new c.pid request reply →
    d ≡ made c request reply → HasShares new all
called_shares old new xs left all pid request reply c d has stays none was e f entry more =
    called old new xs left all pid request c d has (taken old xs left all pid c d has was e f) (record { reply = reply; answers = entry })
    (no_fork request _ none) stays more

-- ---- through a fork

-- a place more behind all others
place_more : (xs : List (Option Caller)) (p : ℕ) → place (xs ++ None ∷ []) p ≡ place xs p
place_more [] zero = refl
place_more [] (suc p) = refl
place_more (x ∷ xs) zero = refl
place_more (x ∷ xs) (suc p) = place_more xs p

pub wider : (book : KeptHistory) (xs ys : List (Option Caller)) (ok : Bool) → HasShares book xs →
    ys ≡ (if ok then xs ++ None ∷ [] else xs) → ok ≡ true → HasShares book ys
wider book xs ys ok has is grown = subst (HasShares book) (sym (is ∙ ap (λ (b : Bool). if b then xs ++ None ∷ [] else xs) grown)) (record {
  each = λ p. place_more xs p ∙ has.each p;
  long = let longer = length-append xs (None ∷ []) in let long = has.long in omega (arith, longer, long);
})

wide : (xs ys : List (Option Caller)) (ok : Bool) → ys ≡ (if ok then xs ++ None ∷ [] else xs) → ok ≡ true → length ys ≡ length xs + 1
wide xs ys ok is grown = ap length (is ∙ ap (λ (b : Bool). if b then xs ++ None ∷ [] else xs) grown) ∙ length-append xs (None ∷ [])

-- what the share of a child says of the answer
no_child : (reply : Reply) → None ≡ child_by Request.Fork reply → makes_one Request.Fork reply ≡ false
no_child (Reply.Child pid) h = absurd (cc h)
no_child reply h = refl

child_told : (reply : Reply) (x : Caller) → Some x ≡ child_by Request.Fork reply → (reply ≡ Reply.Child x.pid) × (x.past ≡ [])
child_told (Reply.Child pid) x h = let same : x ≡ record { pid = pid; past = [] } = cc h in
    (ap (λ (y : Caller). Reply.Child y.pid) (sym same), ap (λ (y : Caller). y.past) same)
child_told reply x h = absurd (cc h)

-- where no process was made
pub childless : (old new : KeptHistory) (xs left all : List (Option Caller)) (pid : Pid) (reply : Reply) (c d : Caller) → HasShares old xs →
    Some c ≡ place xs pid.0 → left ≡ set xs pid.0 None → all ≡ set left d.pid.0 (Some d) →
    Forks old new c.pid reply None → d ≡ made c Request.Fork reply → HasShares new all
childless old new xs left all pid reply c d has was e f forked more =
    called old new xs left all pid Request.Fork c d has (taken old xs left all pid c d has was e f)
    (record { reply = reply; answers = forked.one }) (no_child reply forked.made) refl more

-- the number that a fork reports is the next
next_of : (S T : State) (p tag : ℕ) (pid : Pid) (reply : Reply) (gone : List ℕ) → reply ≡ Reply.Child pid →
    Step S p tag Request.Fork reply gone T → pid.0 ≡ suc (length S.processes)
next_of S T p tag pid reply gone told step =
    fork_tells_the_next S T p tag pid gone (subst (λ (r : Reply). Step S p tag Request.Fork r gone T) told step)

-- what a fork that made a process reports
pub record Child (old new : KeptHistory) (x : Caller) : Type 0 where
  pub next : x.pid.0 ≡ processes old + 1
  pub many : processes new ≡ processes old + 1
  pub share : share_of new x.pid.0 ≡ Some x
  pub others : (p : ℕ) → p ≢ x.pid.0 → makes p Request.Fork (Reply.Child x.pid) ≡ false

pub child_is : (old new : KeptHistory) (pid : Pid) (reply : Reply) (x : Caller) → IsLegal old.boot old.entries → pid.0 ≤ processes old →
    Forks old new pid reply (Some x) → Child old new x
child_is old new pid reply x legal within forked = record {
  next = next;
  many = many;
  share = (λ j. given (live j) x.pid.0 (calls j)) ∙ ap (λ (past : List Call). Some (record { pid = x.pid; past = past })) (sym told.1);
  others = λ p other. ne_eqb x.pid.0 p (λ h. other (sym h));
}
  where
    one : MakesOne old new pid Request.Fork
    one = record { reply = reply; answers = forked.one }

    told : (reply ≡ Reply.Child x.pid) × (x.past ≡ [])
    told = child_told reply x forked.made

    next : x.pid.0 ≡ processes old + 1
    next = let is = next_of (state_of old) (replay old.boot
        (old.entries ++ entry_of (state_of old) pid one.answers.k Request.Fork one.reply one.answers.released ∷ [])) pid.0
        (length old.entries) x.pid one.reply one.answers.released told.0 one.answers.adds.next.steps in omega (arith, is)

    many : processes new ≡ processes old + 1
    many = processes_after old new _ one.answers.adds
        ∙ ap (λ (r : Reply). processes old + cond {A = ℕ} (makes_one Request.Fork r) 1 0) told.0

    live : is_live (state_of new) x.pid.0 ≡ true
    live =
        live_after old new pid Request.Fork x.pid.0 one
        ∙ ap (λ (r : Reply). (is_live (state_of old) x.pid.0 && not (false && (pid.0 == x.pid.0))) || makes x.pid.0 Request.Fork r) told.0
        ∙ ap (λ (b : Bool). (is_live (state_of old) x.pid.0 && not (false && (pid.0 == x.pid.0))) || b) (eq-eqb x.pid.0 x.pid.0 refl)
        ∙ or-true (is_live (state_of old) x.pid.0 && not (false && (pid.0 == x.pid.0)))

    calls : calls_by x.pid.0 new.entries ≡ []
    calls =
        calls_other old new pid Request.Fork x.pid.0 one (λ h. absurd (omega (arith, h, within, next)))
        ∙ calls_none x.pid.0 old.entries (no_call_before_made old.boot old.entries x.pid.0 legal (omega (arith, next)))

-- whoever has a share was made
pub caller_made : (old : KeptHistory) (xs : List (Option Caller)) (pid : Pid) (c : Caller) → HasShares old xs → Some c ≡ place xs pid.0 →
    c.pid.0 ≤ processes old
caller_made old xs pid c has was =
    let own = sym (was ∙ has.each pid.0) in
    let known = share_known old pid.0 c own in
    live_within (state_of old) c.pid.0 (ap (is_live (state_of old)) known.0 ∙ known.1)

-- where a process was made, and its share is put at its place
pub record Placed (old new : KeptHistory) (all : List (Option Caller)) (x : Caller) : Type 0 where
  pub fits : x.pid.0 < length all
  pub shares : (done : List (Option Caller)) → done ≡ set all x.pid.0 (Some x) → HasShares new done
  pub many : processes new ≡ processes old + 1

pub placed : (old new : KeptHistory) (before xs left all : List (Option Caller)) (ok : Bool) (pid : Pid) (reply : Reply) (c d x : Caller) →
    HasShares old before → xs ≡ (if ok then before ++ None ∷ [] else before) → ok ≡ true → IsLegal old.boot old.entries →
    Some c ≡ place xs pid.0 → left ≡ set xs pid.0 None → all ≡ set left d.pid.0 (Some d) → Forks old new c.pid reply (Some x) →
    d ≡ made c Request.Fork reply → Placed old new all x
placed old new before xs left all ok pid reply c d x first more_is grown legal was e f forked more = record {
  fits = fits;
  shares = λ done put. subst (HasShares new) (sym put) (record { each = each; long = long });
  many = child.many;
}
  where
    has : HasShares old xs
    has = wider old before xs ok first more_is grown

    room : processes old + 1 < length xs
    room = let long = first.long in let longer = wide before xs ok more_is grown in omega (arith, long, longer)

    t : Taken old xs left all pid c d
    t = taken old xs left all pid c d has was e f

    here : Forks old new pid reply (Some x)
    here = subst (λ (n : ℕ). Forks old new (record { 0 = n }) reply (Some x)) t.who forked

    one : MakesOne old new pid Request.Fork
    one = record { reply = reply; answers = here.one }

    within : pid.0 ≤ processes old
    within = let made = caller_made old xs pid c has was in let who = t.who in omega (arith, made, who)

    child : Child old new x
    child = child_is old new pid reply x legal within here

    whole : all ≡ set xs pid.0 (Some d)
    whole = t.whole (ap (λ (y : Caller). y.pid.0) more)

    as_long : length all ≡ length xs
    as_long = ap length whole ∙ length-set xs pid.0 (Some d)

    fits : x.pid.0 < length all
    fits = let next = child.next in omega (arith, next, room, as_long)

    none_at : (p : ℕ) → p ≢ x.pid.0 → makes p Request.Fork reply ≡ false
    none_at p other = ap (λ (r : Reply). makes p Request.Fork r) (child_told reply x here.made).0 ∙ child.others p other

    own : share_of new pid.0 ≡ Some d
    own = own_share old new pid Request.Fork c one (none_at pid.0 (λ h. let next = child.next in omega (arith, h, within, next))) refl t.own
        ∙ ap (λ (y : Caller). Some y) (sym more)

    each : (p : ℕ) → place (set all x.pid.0 (Some x)) p ≡ share_of new p
    each p =
        ⊎_elim {C = place (set all x.pid.0 (Some x)) p ≡ share_of new p}
        (λ w. ap (place (set all x.pid.0 (Some x))) (sym w.1) ∙ get_or-set_same all x.pid.0 (Some x) None fits ∙ sym child.share
        ∙ ap (share_of new) w.1)
        (λ w. get_or-set_other all x.pid.0 p (Some x) None (λ h. w.1 (sym h)) ∙ ap (λ (l : List (Option Caller)). place l p) whole
        ∙ changed_at old new xs pid Request.Fork (Some d) has one t.inside own p (none_at p (λ h. w.1 (sym h))))
        (eqb_tells x.pid.0 p)

    long : processes new < length (set all x.pid.0 (Some x))
    long = let many = child.many in let same = length-set all x.pid.0 (Some x) in omega (arith, many, same, as_long, room)

-- what was made by the share of a process was made by it
pub made_by : (old new : KeptHistory) (xs : List (Option Caller)) (pid : Pid) (request : Request) (reply : Reply) (c : Caller) →
    HasShares old xs → Some c ≡ place xs pid.0 → Answers old new c.pid request reply → Answers old new pid request reply
made_by old new xs pid request reply c has was entry =
    let own = sym (was ∙ has.each pid.0) in
    subst (λ (n : ℕ). Answers old new (record { 0 = n }) request reply) (share_known old pid.0 c own).0 entry

-- where it exited
pub exit_shares : (old new : KeptHistory) (xs left : List (Option Caller)) (pid : Pid) (c : Caller) → HasShares old xs →
    Some c ≡ place xs pid.0 → left ≡ set xs pid.0 None → Answers old new c.pid Request.Exit Reply.Ok → HasShares new left
exit_shares old new xs left pid c has was e entry =
    let one : MakesOne old new pid Request.Exit =
    record { reply = Reply.Ok; answers = made_by old new xs pid Request.Exit Reply.Ok c has was entry } in
    subst (HasShares new) (sym e) (changed old new xs pid Request.Exit None has one refl (length_of_some xs pid.0 c (sym was))
    (gone_share old new pid one))

-- where the layer was ended
pub end_shares : (old new : KeptHistory) (xs : List (Option Caller)) → HasShares old xs →
    Answers old new (record { 0 = 0 }) Request.Off Reply.Ok → HasShares new xs
end_shares old new xs has entry = record {
  each = go;
  long = let same = as_many old new (record { 0 = 0 }) Request.Off one refl in
      let long = has.long in omega (arith, same, long);
}
  where
    one : MakesOne old new (record { 0 = 0 }) Request.Off
    one = record { reply = Reply.Ok; answers = entry }

    go : (p : ℕ) → place xs p ≡ share_of new p
    go zero = has.each 0
    go (suc i) = has.each (suc i) ∙ sym (other_share old new (record { 0 = 0 }) Request.Off (suc i) one refl (λ h. omega (arith, h)))

-- no share that a book has is a stranger's, and where there is none, no process lives
pub fault_of_some : (book : KeptHistory) (xs : List (Option Caller)) (pid : Pid) (c : Caller) → HasShares book xs →
    Some c ≡ place xs pid.0 → (f : CallFault) → f ≡ CallFault.NoMemory → IsFault book pid f
fault_of_some book xs pid c has was f is = record {
  stranger = ap is_stranger is ∙ ap not (sym (share_known book pid.0 c (sym (was ∙ has.each pid.0))).1);
  memory = λ h. is;
}

pub fault_of_none : (book : KeptHistory) (xs : List (Option Caller)) (pid : Pid) → HasShares book xs → None ≡ place xs pid.0 →
    IsFault book pid CallFault.Stranger
fault_of_none book xs pid has was = record {
  stranger = ap not (sym (no_share book pid.0 (sym (was ∙ has.each pid.0))));
  memory = λ h. absurd (false≢true (sym h));
}

-- what follows from a success, and from either outcome
pub ok_then : {A E P Q : Type 0} (r : Result A E) → (P → Q) → OnOk r P → OnOk r Q
ok_then (Ok a) f p = f p
ok_then (Err e) f p = tt

pub either : {A E P Q R : Type 0} (r : Result A E) → (P → R) → (Q → R) → OnOk r P → OnErr r Q → R
either (Ok a) f h p q = f p
either (Err e) f h p q = h q
