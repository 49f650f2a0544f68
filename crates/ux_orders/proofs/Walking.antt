-- What a walk through all orders of a script comes to know.
use Rattle.std.proofs.Common.{◌≡◌, ◌≤◌, ◌⊎◌, inl, inr, ⊎_elim, ℕ, zero, suc, ◌+◌, ◌<◌, Bool, true, false, ◌||◌, List, [], ◌∷◌, ◌++◌, length}
use Rattle.std.proofs.Common.{take, get_or, Option, Some, None, refl, sym, ap, ◌∙◌, subst, append_assoc, add-one, arith}
use Rattle.std.specs.Prelude.{Result, Ok, Err, OnOk}
use Rattle.std.specs.List.{AllByRecursion}
use Rattle.std.specs.Option.{MatchOption, option_to_list}
use Rattle.std.proofs.lemmas.List.{length-append}
use Rattle.std.proofs.lemmas.Bool.{false≢true}
use Rattle.std.proofs.lemmas.Bool.Decides.{eqb_tells}
use Rattle.ux_model.specs.Types.{Pid, Entry}
use Rattle.ux_model.specs.State.{State}
use Rattle.ux_syntax.specs.Lines.{Line}
use Rattle.ux_syntax.specs.Spelling.{Plan, known_count}
use Rattle.ux_orders.specs.declared.ran.Ran.{Ran}
use Rattle.ux_orders.specs.declared.chooser.Ready.{Ready}
use Rattle.ux_orders.specs.declared.each.Walk.{Walk}
use Rattle.ux_orders.specs.declared.exploring.Found.{Found}
use Rattle.ux_orders.specs.Lists.{pids_of}
use Rattle.ux_orders.specs.Orders.{IsRunOf}
use Rattle.ux_orders.specs.Outcomes.{HasOutcome, Keeps, KeepsAll, IsRun, Cover, is_broken_off}
use Rattle.ux_orders.specs.Threads.{AreAll, HasCalls, IsKnown, KnowsBehind, KnowsAll}
use Rattle.ux_orders.specs.Crews.{Crewed, StopsAt, Makes, is_among, HasReady, AreHeld}
use Rattle.ux_orders.specs.Walks.{Takes, IsWalk, Grows, GoesOn, Leads}
use Rattle.ux_orders.proofs.Covering.{cover_more, keeps_runs}
use Rattle.ux_orders.proofs.Threads.{IsSure, before_last, stops, goes_on, ends_there}

-- ---- nothing is forgotten

pub known_still : (boot : State) (s : Plan) (old new : List Ran) (calls : List Entry) → KeepsAll s old new → IsKnown boot s old calls →
    IsKnown boot s new calls
known_still boot s old new calls keeps known =
    record { ran = known.ran; run = known.run; has = known.has; known = keeps known.ran known.known }

pub behind_still : (boot : State) (s : Plan) (old new : List Ran) (pids : List Pid) → KeepsAll s old new → KnowsBehind boot s old pids →
    KnowsBehind boot s new pids
behind_still boot s old new pids keeps knows = λ calls more all same. known_still boot s old new calls keeps (knows calls more all same)

pub leads_still : (boot : State) (s : Plan) (old new : List Ran) (pids : List Pid) (ready : List Ready) → KeepsAll s old new →
    Leads boot s old pids ready →
    Leads boot s new pids ready
leads_still boot s old new pids ready keeps leads = λ calls more all same.
    ⊎_elim {C = IsKnown boot s new calls ⊎ GoesOn more ready}
    (λ w. inl (known_still boot s old new calls keeps w))
    (λ w. inr w)
    (leads calls more all same)

pub grows_then : (s : Plan) (a b c : Walk) → Grows s a b → Grows s b c → Grows s a c
grows_then s a b c one other = record {
  all = λ h. one.all (other.all h);
  outcomes = λ ran has. other.outcomes ran (one.outcomes ran has);
  limit = other.limit ∙ one.limit;
}

-- where others may be left out, as is noted
pub grows_noted : (s : Plan) (old new : Walk) → (new.found.is_all ≡ true → old.found.is_all ≡ true) →
    new ≡ record old { found = record old.found { is_all = new.found.is_all } } → Grows s old new
grows_noted s old new all rest = record {
  all = all;
  outcomes = λ ran has. subst (λ (walk : Walk). HasOutcome (known_count s) walk.found.outcomes.items ran) (sym rest) has;
  limit = ap (λ (walk : Walk). walk.limit) rest;
}

-- ---- what was found is of runs

pub ok_both : {T E P Q R : Type 0} (r : Result T E) → (P → Q → R) → OnOk r P → OnOk r Q → OnOk r R
ok_both (Ok x) f p q = f p q
ok_both (Err e) f p q = tt

-- one run more
pub one_more : (boot : State) (s : Plan) (orders : ℕ) (old new : List Ran) (ran : Ran) → IsRun boot s ran →
    Keeps (known_count s) old new ran →
    AllByRecursion (IsRun boot s) old → Cover boot s orders old → AllByRecursion (IsRun boot s) new × Cover boot s (orders + 1) new
one_more boot s orders old new ran run keeps runs cover =
    (keeps_runs (IsRun boot s) (known_count s) old new ran keeps runs run, cover_more boot s orders old new ran cover run keeps)

-- the same, if it wasn't broken off
pub taken : (boot : State) (s : Plan) (old new : Found) (ran : Ran) → IsRunOf boot s ran → Takes (known_count s) old new ran →
    AllByRecursion (IsRun boot s) old.outcomes.items → Cover boot s old.orders old.outcomes.items →
    AllByRecursion (IsRun boot s) new.outcomes.items × Cover boot s new.orders new.outcomes.items × (new.orders ≤ old.orders + 1)
taken boot s old new ran run (Takes.kept ended keeps count) runs cover =
    let more = one_more boot s old.orders old.outcomes.items new.outcomes.items ran (record { run = run; ended = ended }) keeps runs cover
    in
    (more.0, subst (λ (n : ℕ). Cover boot s n new.outcomes.items) (sym count) more.1, omega (arith, count))
taken boot s old new ran run (Takes.broken broken same) runs cover = (
  subst (λ (found : Found). AllByRecursion (IsRun boot s) found.outcomes.items) (sym same) runs,
  subst (λ (found : Found). Cover boot s found.orders found.outcomes.items) (sym same) cover,
  let orders = ap (λ (found : Found). found.orders) same in omega (arith, orders),
)

-- where a run was added
pub grows_added : (s : Plan) (old : Walk) (found : Found) → found.is_all ≡ old.found.is_all →
    KeepsAll s old.found.outcomes.items found.outcomes.items →
    Grows s old (record old { found = found })
grows_added s old found all keeps = record { all = λ h. sym all ∙ h; outcomes = keeps; limit = refl }

pub walk_noted : (boot : State) (s : Plan) (old new : Walk) → new ≡ record old { found = record old.found { is_all = new.found.is_all } } →
    IsWalk boot s old → IsWalk boot s new
walk_noted boot s old new rest walk =
    subst (λ (w : Walk). IsWalk boot s w) (sym rest)
    (record { runs = walk.runs; covered = walk.covered; few = walk.few; within = walk.within })

pub walk_added : (boot : State) (s : Plan) (old : Walk) (found : Found) (ran : Ran) → IsWalk boot s old → old.found.orders < old.begun →
    IsRun boot s ran → Keeps (known_count s) old.found.outcomes.items found.outcomes.items ran → found.orders ≡ old.found.orders + 1 →
    IsWalk boot s (record old { found = found })
walk_added boot s old found ran walk room run keeps count =
    let more = one_more boot s old.found.orders old.found.outcomes.items found.outcomes.items ran run keeps walk.runs walk.covered in
    record {
      runs = more.0;
      covered = subst (λ (n : ℕ). Cover boot s n found.outcomes.items) (sym count) more.1;
      few = omega (arith, room, count);
      within = walk.within;
    }

-- ---- what is known behind calls of these processes

-- all is known behind them and one more, for each of these
abbrev pub EachKnown : State → Plan → List Ran → List Pid → List Ready → Type 0
EachKnown boot s outcomes pids ready = AllByRecursion (λ one. KnowsBehind boot s outcomes (pids ++ one.pid ∷ [])) ready

pub each_still : (boot : State) (s : Plan) (old new : List Ran) (pids : List Pid) (ready : List Ready) → KeepsAll s old new →
    EachKnown boot s old pids ready →
    EachKnown boot s new pids ready
each_still boot s old new pids [] keeps each = each
each_still boot s old new pids (one ∷ ready) keeps each =
    (behind_still boot s old new (pids ++ one.pid ∷ []) keeps each.0, each_still boot s old new pids ready keeps each.1)

known_among : (boot : State) (s : Plan) (outcomes : List Ran) (pids : List Pid) (pid : Pid) (ready : List Ready) →
    is_among pid ready ≡ true →
    EachKnown boot s outcomes pids ready → KnowsBehind boot s outcomes (pids ++ pid ∷ [])
known_among boot s outcomes pids pid [] among each = absurd (false≢true among)
known_among boot s outcomes pids pid (one ∷ ready) among each =
    ⊎_elim {C = KnowsBehind boot s outcomes (pids ++ pid ∷ [])}
    (λ w. subst (λ (p : Pid). KnowsBehind boot s outcomes (pids ++ p ∷ [])) (λ j. record { 0 = w.1 j }) each.0)
    (λ w. known_among boot s outcomes pids pid ready (sym (ap (λ (b : Bool). b || is_among pid ready) w.0) ∙ among) each.1)
    (eqb_tells one.pid.0 pid.0)

-- where each history is known or goes on with one of these, and all is known behind each of them
pub knows_behind : (boot : State) (s : Plan) (outcomes : List Ran) (pids : List Pid) (ready : List Ready) →
    Leads boot s outcomes pids ready →
    EachKnown boot s outcomes pids ready → KnowsBehind boot s outcomes pids
knows_behind boot s outcomes pids ready leads each = λ calls more all same.
    ⊎_elim {C = IsKnown boot s outcomes calls}
    (λ w. w)
    (λ w. known_among boot s outcomes pids w.pid ready w.among each calls w.more all
    (same ∙ ap (λ (ps : List Pid). pids ++ ps) w.first ∙ sym (append_assoc pids (w.pid ∷ []) w.more)))
    (leads calls more all same)

-- behind no calls, all is known
pub knows_all : (boot : State) (s : Plan) (outcomes : List Ran) → KnowsBehind boot s outcomes [] → KnowsAll boot s outcomes
knows_all boot s outcomes knows = λ calls all. knows calls (pids_of calls) all refl

-- ---- a run that has ended

pub not_broken_off : (boot : State) (calls : List Entry) (ran : Ran) → HasCalls boot calls ran → is_broken_off ran ≡ false
not_broken_off boot calls (Ran.Whole entries) has = refl
not_broken_off boot calls (Ran.Deadlock entries waits) has = refl
not_broken_off boot calls (Ran.BrokenOff entries) has = absurd has

pub run_of : (boot : State) (s : Plan) (calls : List Entry) (ran : Ran) → IsRunOf boot s ran → HasCalls boot calls ran → IsRun boot s ran
run_of boot s calls ran run has = record { run = run; ended = not_broken_off boot calls ran has }

-- ---- what one look finds

-- all calls of a script are all of its crew
of_crew : (boot : State) (lines : List Line) (calls : List Entry) (crew : Crewed) → crew.book.boot ≡ boot → crew.lines ≡ lines →
    AreAll boot lines calls →
    AreAll crew.book.boot crew.lines calls
of_crew boot lines calls crew at same all =
    subst (λ (b : State). AreAll b crew.lines calls) (sym at) (subst (λ (ls : List Line). AreAll boot ls calls) (sym same) all)

-- where one of these is held, no history begins with them
pub stop_leads : (boot : State) (s : Plan) (outcomes : List Ran) (pids : List Pid) (ready : List Ready) (crew : Crewed) →
    crew.book.boot ≡ boot → crew.lines ≡ s.lines →
    IsSure crew → StopsAt crew pids → Leads boot s outcomes pids ready
stop_leads boot s outcomes pids ready crew at same sure stop = λ calls more all listed.
    absurd (stops crew pids more calls sure stop (of_crew boot s.lines calls crew at same all) listed)

-- where a process can call behind them, each history goes on
pub go_leads : (boot : State) (s : Plan) (outcomes : List Ran) (pids : List Pid) (ready : List Ready) (old new : Crewed) →
    old.book.boot ≡ boot → old.lines ≡ s.lines →
    IsSure new → pids_of old.book.entries ≡ pids → HasReady old ready → Makes old new →
    Leads boot s outcomes pids ready
go_leads boot s outcomes pids ready old new at same sure made has makes = λ calls more all listed.
    inr (goes_on old new pids more ready calls sure made has makes (of_crew boot s.lines calls old at same all) listed)

-- where none can, there is one history, which was run
pub end_leads : (boot : State) (s : Plan) (outcomes : List Ran) (pids : List Pid) (ready none : List Ready) (crew : Crewed) (ran : Ran) →
    crew.book.boot ≡ boot → crew.lines ≡ s.lines →
    IsSure crew → pids_of crew.book.entries ≡ pids → HasReady crew ready → AreHeld crew ready →
    IsRun boot s ran → HasCalls boot crew.book.entries ran → HasOutcome (known_count s) outcomes ran → Leads boot s outcomes pids none
end_leads boot s outcomes pids ready none crew ran at same sure made has held run calls_of known = λ calls more all listed.
    let ends = ends_there crew pids more ready calls sure made has held (of_crew boot s.lines calls crew at same all) listed in
    inl (record { ran = ran; run = run; has = subst (λ (es : List Entry). HasCalls boot es ran) (sym ends) calls_of; known = known })

-- behind one more of these, all is known
pub each_push : (boot : State) (s : Plan) (outcomes : List Ran) (pids : List Pid) (ready : List Ready) (i : ℕ) (d : Ready) →
    i < length ready →
    EachKnown boot s outcomes pids (take i ready) → KnowsBehind boot s outcomes (pids ++ (get_or ready i d).pid ∷ []) →
    EachKnown boot s outcomes pids (take (i + 1) ready)
each_push boot s outcomes pids ready i d inside each knows =
    subst (λ (n : ℕ). EachKnown boot s outcomes pids (take n ready)) (sym (add-one i)) (go ready i inside each knows)
  where
    go : (ready : List Ready) (i : ℕ) → i < length ready → EachKnown boot s outcomes pids (take i ready) →
        KnowsBehind boot s outcomes (pids ++ (get_or ready i d).pid ∷ []) → EachKnown boot s outcomes pids (take (suc i) ready)
    go [] i inside each knows = absurd (omega (arith, inside))
    go (x ∷ xs) zero inside each knows = (knows, tt)
    go (x ∷ xs) (suc i) inside each knows = (each.0, go xs i (omega (arith, inside)) each.1 knows)

-- what is left where the last of these is taken away
pub popped : (all left pids : List Pid) (pid : Pid) (last : Option Pid) (m n : ℕ) → all ≡ left ++ option_to_list last →
    all ≡ pids ++ pid ∷ [] → length all ≡ n →
    MatchOption last ((n ≡ 0) × (m ≡ 0)) (λ x. m + 1 ≡ n) → left ≡ pids
popped all left pids pid None m n is was long cases =
    let one_more = ap length was ∙ length-append pids (pid ∷ []) in
    let none = cases.0 in
    absurd (omega (arith, long, one_more, none))
popped all left pids pid (Some x) m n is was long cases = before_last left pids x pid (sym is ∙ was)
