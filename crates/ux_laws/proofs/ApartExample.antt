-- A worked example, evaluated: two processes with a pair of their own each are apart, and a call of one changes nothing that the other
-- sees.
use Rattle.std.proofs.Common.{◌≡◌, ℕ, zero, suc, ◌+◌, ◌==◌, Bool, true, false, not, ◌&&◌, List, [], ◌∷◌, Option, Some, None}
use Rattle.std.proofs.Common.{option_map, refl, ap, sym}
use Rattle.std.proofs.Common.{◌∙◌, subst, arith, slice_get}
use Rattle.std.specs.Prelude.{nat_lt, codes, drop, is_none}
use Rattle.std.specs.List.{AllByRecursion, list_all}
use Rattle.ux_laws.specs.Reach.{asked_addr}
use Rattle.std.proofs.lemmas.Bool.{and_parts, ne_eqb, le-ltb, false≢true}
use Rattle.ux_model.specs.Types.{Pid, SockType, Request, Reply, Entry}
use Rattle.ux_model.specs.Places.{place}
use Rattle.ux_model.specs.Message.{Message, all_bytes}
use Rattle.ux_model.specs.Socket.{Socket, tied_socket, pending_ends}
use Rattle.ux_model.specs.Description.{Description, Target, to_object, to_socket}
use Rattle.ux_model.specs.Process.{Process, Descriptor}
use Rattle.ux_model.specs.State.{State, socket_at}
use Rattle.ux_model.specs.Giving.{held_at}
use Rattle.ux_model.specs.Pedigree.{before}
use Rattle.ux_laws.specs.Apartness.{Sides, TargetIsOn, AreApart, AllTheirsAreMade, goes_by_descriptors, calls_of_theirs, asked_by, told_to}
use Rattle.ux_laws.proofs.Play.{computing, made, with_files, pair_of, send, recv, fd, flags}

-- ---- apartness, by evaluation

abbrev is_on : Bool → Bool → Bool
is_on true b = b
is_on false b = not b

on_by : (side b : Bool) → is_on side b ≡ true → b ≡ side
on_by true b h = h
on_by false true h = absurd (false≢true h)
on_by false false h = refl

abbrev all_on : (ℕ → Bool) → Bool → List ℕ → Bool
all_on of side [] = true
all_on of side (n ∷ ns) = is_on side (of n) && all_on of side ns

all_by : (of : ℕ → Bool) (side : Bool) (ns : List ℕ) → all_on of side ns ≡ true → AllByRecursion (λ n. of n ≡ side) ns
all_by of side [] h = tt
all_by of side (n ∷ ns) h = let parts = and_parts (is_on side (of n)) (all_on of side ns) h in
    (on_by side (of n) parts.0, all_by of side ns parts.1)

abbrev queue_on : (ℕ → Bool) → Bool → List Message → Bool
queue_on of side [] = true
queue_on of side (m ∷ ms) = all_on of side m.rights && queue_on of side ms

queue_by : (of : ℕ → Bool) (side : Bool) (ms : List Message) → queue_on of side ms ≡ true →
    AllByRecursion (λ (m : Message). AllByRecursion (λ n. of n ≡ side) m.rights) ms
queue_by of side [] h = tt
queue_by of side (m ∷ ms) h = let parts = and_parts (all_on of side m.rights) (queue_on of side ms) h in
    (all_by of side m.rights parts.0, queue_by of side ms parts.1)

abbrev tied_on : (ℕ → Bool) → Bool → Option ℕ → Bool
tied_on of side None = true
tied_on of side (Some d) = is_on side (of d)

abbrev target_on : Sides → Bool → Target → Bool
target_on sides side (to_object o) = is_on side (sides.object o)
target_on sides side (to_socket s) = tied_on sides.description side (tied_socket s.phase)
    && (all_on sides.description side (pending_ends s.phase) && queue_on sides.description side s.queue)

target_by : (sides : Sides) (side : Bool) (t : Target) → target_on sides side t ≡ true → TargetIsOn sides side t
target_by sides side (to_object o) h = on_by side (sides.object o) h
target_by sides side (to_socket s) h =
    let parts = and_parts (tied_on sides.description side (tied_socket s.phase)) _ h in
    let more = and_parts (all_on sides.description side (pending_ends s.phase)) _ parts.1 in
    record {
      tied = λ d is. to_one (tied_socket s.phase) d is parts.0;
      pending = all_by sides.description side (pending_ends s.phase) more.0;
      rights = queue_by sides.description side s.queue more.1;
    }
  where
    to_one : (x : Option ℕ) (d : ℕ) → x ≡ Some d → tied_on sides.description side x ≡ true → sides.description d ≡ side
    to_one None d is h = absurd (cc is)
    to_one (Some e) d is h = let same : e ≡ d = cc is in ap sides.description (sym same) ∙ on_by side (sides.description e) h

abbrev table_on : Sides → Bool → List (Option Descriptor) → Bool
table_on sides side [] = true
table_on sides side (None ∷ xs) = table_on sides side xs
table_on sides side (Some e ∷ xs) = is_on side (sides.description e.description) && table_on sides side xs

table_by : (sides : Sides) (side : Bool) (table : List (Option Descriptor)) (n : ℕ) (e : Descriptor) → table_on sides side table ≡ true →
    place table n ≡ Some e → sides.description e.description ≡ side
table_by sides side [] n e h is = absurd (cc is)
table_by sides side (None ∷ xs) zero e h is = absurd (cc is)
table_by sides side (None ∷ xs) (suc n) e h is = table_by sides side xs n e h is
table_by sides side (Some x ∷ xs) zero e h is = let same : x ≡ e = cc is in
    ap (λ (y : Descriptor). sides.description y.description) (sym same)
    ∙ on_by side (sides.description x.description) (and_parts (is_on side (sides.description x.description)) _ h).0
table_by sides side (Some x ∷ xs) (suc n) e h is =
    table_by sides side xs n e (and_parts (is_on side (sides.description x.description)) _ h).1 is

-- of processes or descriptions, of which the first has this number
abbrev processes_on : Sides → ℕ → List Process → Bool
processes_on sides p [] = true
processes_on sides p (P ∷ Ps) = table_on sides (sides.process p) P.table && processes_on sides (suc p) Ps

abbrev descriptions_on : Sides → ℕ → List (Option Description) → Bool
descriptions_on sides d [] = true
descriptions_on sides d (None ∷ ds) = descriptions_on sides (suc d) ds
descriptions_on sides d (Some D ∷ ds) = target_on sides (sides.description d) D.target && descriptions_on sides (suc d) ds

process_by : (sides : Sides) (p i n : ℕ) (Ps : List Process) (P : Process) (e : Descriptor) → processes_on sides p Ps ≡ true →
    slice_get Ps i ≡ Some P → place P.table n ≡ Some e → sides.description e.description ≡ sides.process (p + i)
process_by sides p i n [] P e h at is = absurd (cc at)
process_by sides p zero n (Q ∷ Ps) P e h at is =
    let same : Q ≡ P = cc at in
    let number : p ≡ p + 0 = omega arith in
    table_by sides (sides.process p) Q.table n e (and_parts (table_on sides (sides.process p) Q.table) _ h).0
    (ap (λ (R : Process). place R.table n) same ∙ is) ∙ ap sides.process number
process_by sides p (suc i) n (Q ∷ Ps) P e h at is =
    let number : suc p + i ≡ p + suc i = omega arith in
    process_by sides (suc p) i n Ps P e (and_parts (table_on sides (sides.process p) Q.table) _ h).1 at is ∙ ap sides.process number

description_by : (sides : Sides) (d i : ℕ) (ds : List (Option Description)) (D : Description) → descriptions_on sides d ds ≡ true →
    place ds i ≡ Some D → TargetIsOn sides (sides.description (d + i)) D.target
description_by sides d i [] D h is = absurd (cc is)
description_by sides d zero (None ∷ ds) D h is = absurd (cc is)
description_by sides d zero (Some E ∷ ds) D h is =
    let same : E ≡ D = cc is in
    let number : d ≡ d + 0 = omega arith in
    subst (λ (n : ℕ). TargetIsOn sides (sides.description n) D.target) number
    (subst (λ (F : Description). TargetIsOn sides (sides.description d) F.target) same
    (target_by sides (sides.description d) E.target (and_parts (target_on sides (sides.description d) E.target) _ h).0))
description_by sides d (suc i) (None ∷ ds) D h is =
    let number : suc d + i ≡ d + suc i = omega arith in
    subst (λ (n : ℕ). TargetIsOn sides (sides.description n) D.target) number (description_by sides (suc d) i ds D h is)
description_by sides d (suc i) (Some E ∷ ds) D h is =
    let number : suc d + i ≡ d + suc i = omega arith in
    subst (λ (n : ℕ). TargetIsOn sides (sides.description n) D.target) number
    (description_by sides (suc d) i ds D (and_parts (target_on sides (sides.description d) E.target) _ h).1 is)

apart_by : (sides : Sides) (S : State) → processes_on sides 1 S.processes ≡ true → descriptions_on sides 0 S.descriptions ≡ true →
    AreApart sides S
apart_by sides S processes descriptions = record {
  tables = by_number;
  descriptions = λ d D is.
      let number : 0 + d ≡ d = omega arith in
      subst (λ (n : ℕ). TargetIsOn sides (sides.description n) D.target) number (description_by sides 0 d S.descriptions D descriptions is);
}
  where
    of_process : (i n : ℕ) (e : Descriptor) (x : Option Process) → slice_get S.processes i ≡ x →
        place (elim x as (λ _. List (Option Descriptor)) [ Some P ↦ P.table | None ↦ [] ]) n ≡ Some e →
        sides.description e.description ≡ sides.process (suc i)
    of_process i n e None at is = absurd (cc is)
    of_process i n e (Some P) at is =
        let number : 1 + i ≡ suc i = omega arith in
        process_by sides 1 i n S.processes P e processes at is ∙ ap sides.process number

    by_number : (p n : ℕ) (e : Descriptor) → held_at S p n ≡ Some e → sides.description e.description ≡ sides.process p
    by_number zero n e is = absurd (cc is)
    by_number (suc i) n e is = of_process i n e (slice_get S.processes i) refl is

-- ---- two pairs

abbrev calls : List Entry
calls = made (with_files []) 0 (
    (1, pair_of SockType.Stream) ∷
    (1, send 0 (codes "mine")) ∷
    (2, pair_of SockType.Stream) ∷
    (2, send 0 (codes "hi")) ∷
    (2, Request.Close (fd 0)) ∷ [])

abbrev moment : ℕ → State
moment j = before (with_files []) calls j

-- process 1 with its pair, and the rest
abbrev first : Sides
first = record { process = λ p. p == 1; description = λ d. nat_lt d 2; object = λ o. false }

they_are_apart : AreApart first (moment 4)
unfolding computing
they_are_apart = apart_by first (moment 4) refl refl

all_of_it_is_made : AllTheirsAreMade first (moment 4)
unfolding computing
all_of_it_is_made = record {
  processes = λ p more. ne_eqb p 1 (λ (is : p ≡ 1). omega (arith, more, is));
  descriptions = λ d more. le-ltb d 2 (omega (arith, more));
  objects = λ o more. refl;
}

-- what waits at its socket
abbrev waits : ℕ → Option (List ℕ)
waits j = option_map (λ (s : Socket). all_bytes s.queue) (socket_at (moment j) 1)

it_waits_before_the_close : waits 4 ≡ Some (codes "mine")
unfolding computing
it_waits_before_the_close = refl

and_after_it : waits 5 ≡ Some (codes "mine")
unfolding computing
and_after_it = refl

-- ---- two histories: in the second, process 2 makes a pair, sends, and closes in between

abbrev alone : List Entry
alone = made (with_files []) 0 ((1, pair_of SockType.Stream) ∷ (1, send 0 (codes "hi")) ∷ (1, recv 1 8) ∷ [])

abbrev beside : List Entry
beside = made (with_files []) 0 (
    (1, pair_of SockType.Stream) ∷
    (2, pair_of SockType.Stream) ∷
    (1, send 0 (codes "hi")) ∷
    (2, send 0 (codes "other")) ∷
    (2, Request.Close (fd 1)) ∷
    (1, recv 1 8) ∷ [])

-- what process 1 asks after its pair is made, and what it is told, is the same in both
abbrev asked : List (Pid × Request × Bool × Bool)
asked = (record { 0 = 1 }, send 0 (codes "hi"), false, false) ∷ (record { 0 = 1 }, recv 1 8, false, false) ∷ []

abbrev told : List Reply
told = Reply.Count 2 ∷ Reply.Received (flags 0) 2 (codes "hi") [] None ∷ []

it_asks_alone : asked_by (calls_of_theirs first (drop 1 alone)) ≡ asked
unfolding computing
it_asks_alone = refl

it_asks_beside : asked_by (calls_of_theirs first (drop 1 beside)) ≡ asked
unfolding computing
it_asks_beside = refl

it_is_told_alone : told_to (calls_of_theirs first (drop 1 alone)) ≡ told
unfolding computing
it_is_told_alone = refl

it_is_told_beside : told_to (calls_of_theirs first (drop 1 beside)) ≡ told
unfolding computing
it_is_told_beside = refl

-- so it can be: the sides begin apart, process 1 goes by descriptors alone, and nobody gives an address
they_begin_apart : AreApart first (before (with_files []) beside 1)
unfolding computing
they_begin_apart = apart_by first (before (with_files []) beside 1) refl refl

it_is_made_then : AllTheirsAreMade first (before (with_files []) beside 1)
unfolding computing
it_is_made_then = record {
  processes = λ p more. ne_eqb p 1 (λ (is : p ≡ 1). omega (arith, more, is));
  descriptions = λ d more. le-ltb d 2 (omega (arith, more));
  objects = λ o more. refl;
}

it_goes_by_descriptors : list_all (λ (e : Entry). goes_by_descriptors e.request) (calls_of_theirs first (drop 1 beside)) ≡ true
unfolding computing
it_goes_by_descriptors = refl

nobody_gives_an_address : list_all (λ (e : Entry). is_none (asked_addr e.request)) (drop 1 beside) ≡ true
unfolding computing
nobody_gives_an_address = refl

they_stay_apart : AreApart first (before (with_files []) beside 5)
unfolding computing
they_stay_apart = apart_by first (before (with_files []) beside 5) refl refl
