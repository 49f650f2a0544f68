-- Pending calls that go on.
use Rattle.std.proofs.Common.{◌≡◌, ℕ, zero, suc, ◌+◌, ◌<◌, ◌≤◌, Bool, true, false, ◌==◌, List, [], ◌∷◌, ◌++◌, length, get_or, Option, Some, None}
use Rattle.std.proofs.Common.{refl, ap, sym, ◌∙◌, subst, ⊎_elim, eq-eqb, arith}
use Rattle.std.specs.Prelude.{slice_get, IfSome, IfNone}
use Rattle.std.specs.List.{All, remove}
use Rattle.std.proofs.lemmas.Bool.{eqb-true, cases_lt}
use Rattle.ux_model.specs.Types.{Pid, Request, Reply}
use Rattle.ux_model.specs.Waiting.{should_wait}
use Rattle.ux_model.proofs.Lists.ByPlace.{get_below}
use Rattle.ux_book.specs.Books.{KeptHistory, state_of, MustWait}
use Rattle.ux_book.specs.Sitting.{Answers}
use Rattle.ux_session.specs.declared.pending.Pending.{Pending}
use Rattle.ux_session.specs.Sessions.{IsSound, IsHeld, IsMade}
use Rattle.ux_session.specs.Going.{Desk, desk, WaitBetween, GoesAt, GoesOn, Wakes, WakesMore}
use Rattle.ux_session.proofs.Sounding.{gone_sound}
use Rattle.ux_session.proofs.Growing.{one_woke}

-- ---- one try

pub made_by : (old new : KeptHistory) (call : Pending) (o : Option Reply) (reply : Reply) → o ≡ Some reply →
    IfSome o (λ r. Answers old new call.pid call.request r) →
    IfSome o (λ r. should_wait (state_of old) call.pid.0 call.request r ≡ false) → IsMade old new call
made_by old new call o reply is answers done = record {
  reply = reply;
  answers = subst (λ (x : Option Reply). IfSome x (λ r. Answers old new call.pid call.request r)) is answers;
  done = subst (λ (x : Option Reply). IfSome x (λ r. should_wait (state_of old) call.pid.0 call.request r ≡ false)) is done;
}

-- ---- tries at places

read_at : {X : Type 0} (xs : List X) (i : ℕ) (x : X) → i < length xs → x ≡ get_or xs i x → slice_get xs i ≡ Some x
read_at [] i x h e = absurd (omega (arith, h))
read_at (y ∷ ys) zero x h e = ap (λ z. Some z) (sym e)
read_at (y ∷ ys) (suc i) x h e = read_at ys i x (omega (arith, h)) e

pub goes_at : (start old new : KeptHistory) (calls : List Pending) (place : ℕ) (call : Pending) → old ≡ start → place < length calls →
    call ≡ get_or calls place call → IsMade old new call → GoesAt start calls place new
goes_at start old new calls place call same within is made = record {
  call = call;
  stands = read_at calls place call within is;
  made = subst (λ (b : KeptHistory). IsMade b new call) same made;
}

pub none_between : (book : KeptHistory) (calls : List Pending) (from : ℕ) → WaitBetween book calls from from
none_between book calls from = λ k d low high. absurd (omega (arith, low, high))

pub one_between : (start old : KeptHistory) (calls : List Pending) (from place : ℕ) (call : Pending) → old ≡ start → place < length calls →
    call ≡ get_or calls place call → IsHeld old call → WaitBetween start calls from place → WaitBetween start calls from (place + 1)
one_between start old calls from place call same within is held so_far = λ k d low high. ⊎_elim {C = IsHeld start (get_or calls k d)}
    (λ less. so_far k d low less)
    (λ more. let here : k ≡ place = omega (arith, high, more) in
    subst (λ (i : ℕ). IsHeld start (get_or calls i d)) (sym here)
    (subst (λ (c : Pending). IsHeld start c) (one_read calls place call d within is) (subst (λ (b : KeptHistory). IsHeld b call) same held)))
    (cases_lt k place)
  where
    one_read : (xs : List Pending) (i : ℕ) (x d : Pending) → i < length xs → x ≡ get_or xs i x → x ≡ get_or xs i d
    one_read [] i x d h e = absurd (omega (arith, h))
    one_read (y ∷ ys) zero x d h e = e
    one_read (y ∷ ys) (suc i) x d h e = one_read ys i x d (omega (arith, h)) e

pub from_first : (book : KeptHistory) (calls : List Pending) (start place : ℕ) → WaitBetween book calls start place → start ≡ 0 →
    WaitBetween book calls 0 place
from_first book calls start place waits first = subst (λ (i : ℕ). WaitBetween book calls i place) first waits

-- from a place on, and before it
pub all_between : (book mid : KeptHistory) (calls : List Pending) (start n : ℕ) → mid ≡ book → WaitBetween mid calls 0 start →
    WaitBetween book calls start n → length calls ≤ n → All (IsHeld book) calls
all_between book mid calls start n same before behind long = λ k d h. ⊎_elim {C = IsHeld book (get_or calls k d)}
    (λ less. subst (λ (b : KeptHistory). IsHeld b (get_or calls k d)) same (before k d (omega arith) less))
    (λ more. behind k d more (omega (arith, h, long)))
    (cases_lt k start)

pub goes_same : (book mid new : KeptHistory) (calls : List Pending) (place : ℕ) → mid ≡ book → GoesAt mid calls place new →
    GoesAt book calls place new
goes_same book mid new calls place same goes = subst (λ (b : KeptHistory). GoesAt b calls place new) same goes

pub waits_same : (book mid : KeptHistory) (calls : List Pending) (from to : ℕ) → mid ≡ book → WaitBetween mid calls from to →
    WaitBetween book calls from to
waits_same book mid calls from to same waits = subst (λ (b : KeptHistory). WaitBetween b calls from to) same waits

pub sound_same : (book mid : KeptHistory) (calls : List Pending) → mid ≡ book → All (IsSound book) calls → All (IsSound mid) calls
sound_same book mid calls same sound = subst (λ (b : KeptHistory). All (IsSound b) calls) (sym same) sound

pub held_same : (book mid : KeptHistory) (calls : List Pending) → mid ≡ book → All (IsHeld book) calls → All (IsHeld mid) calls
held_same book mid calls same held = subst (λ (b : KeptHistory). All (IsHeld b) calls) (sym same) held

-- ---- one that is taken off

pub goes_within : (old new : KeptHistory) (calls : List Pending) (place : ℕ) → GoesAt old calls place new → place < length calls
goes_within old new calls place goes = get_below calls place goes.call goes.stands

pub goes_next : (old new : KeptHistory) (calls left : List Pending) (place number start : ℕ) → (goes : GoesAt old calls place new) →
    (start ≡ 0 → WaitBetween old calls 0 place) → ((call : Pending) → slice_get calls place ≡ Some call → number ≡ call.number) →
    left ≡ remove calls place → GoesOn (start == 0) (desk old calls) number (desk new left)
goes_next old new calls left place number start goes first named is = record {
  place = place;
  goes = goes;
  named = sym (named goes.call goes.stands);
  left = is;
  first = λ e. first (eqb-true start 0 e);
}

pub numbered : (calls : List Pending) (place : ℕ) (taken : Pending) → place < length calls → taken ≡ get_or calls place taken →
    (call : Pending) → slice_get calls place ≡ Some call → taken.number ≡ call.number
numbered calls place taken within is call stands =
    let both : Some taken ≡ Some call = sym (read_at calls place taken within is) ∙ stands in
    let same : taken ≡ call = cc both in ap (λ (c : Pending). c.number) same

-- ---- all

pub none_there : (P : Pending → Type 0) (calls : List Pending) → length calls ≡ 0 → All P calls
none_there P calls none = λ k d h. absurd (omega (arith, h, none))

pub goes_by : (asked first : Bool) (old new : Desk) (number : ℕ) → (asked ≡ true → first ≡ true) → GoesOn first old number new →
    GoesOn asked old number new
goes_by asked first old new number so goes =
    record { place = goes.place; goes = goes.goes; named = goes.named; left = goes.left; first = λ a. goes.first (so a) }

pub from_start : (asked : Bool) (start : ℕ) → (asked ≡ true → start ≡ 0) → asked ≡ true → (start == 0) ≡ true
from_start asked start first a = eq-eqb start 0 (first a)

pub woke_same : (asked : Bool) (old mid new : Desk) (before after : List (Option ℕ)) → new ≡ mid → WakesMore asked old before mid after →
    WakesMore asked old before new after
woke_same asked old mid new before after same woke = subst (λ (d : Desk). WakesMore asked old before d after) (sym same) woke

-- ---- as the program has them

pub next_by : (old new : KeptHistory) (seen calls left : List Pending) (o : Option ℕ) (place number start : ℕ) → o ≡ Some place →
    seen ≡ calls → IfSome o (λ p. GoesAt old seen p new) → IfSome o (λ p. start ≡ 0 → WaitBetween old seen 0 p) →
    ((call : Pending) → slice_get calls place ≡ Some call → number ≡ call.number) → left ≡ remove calls place →
    GoesOn (start == 0) (desk old calls) number (desk new left)
next_by old new seen calls left o place number start is same goes first named gone =
    let at : GoesAt old seen place new = subst (λ (x : Option ℕ). IfSome x (λ p. GoesAt old seen p new)) is goes in
    let waits : start ≡ 0 → WaitBetween old seen 0 place =
    subst (λ (x : Option ℕ). IfSome x (λ p. start ≡ 0 → WaitBetween old seen 0 p)) is first in
    goes_next old new calls left place number start (subst (λ (l : List Pending). GoesAt old l place new) same at)
    (λ e. subst (λ (l : List Pending). WaitBetween old l 0 place) same (waits e)) named gone

pub next_sound : (old new : KeptHistory) (seen calls left : List Pending) (o : Option ℕ) (place : ℕ) → o ≡ Some place → seen ≡ calls →
    IfSome o (λ p. GoesAt old seen p new) → All (IsSound old) calls → left ≡ remove calls place → All (IsSound new) left
next_sound old new seen calls left o place is same goes sound gone =
    let at : GoesAt old seen place new = subst (λ (x : Option ℕ). IfSome x (λ p. GoesAt old seen p new)) is goes in
    subst (λ (l : List Pending). All (IsSound new) l) (sym gone)
    (gone_sound old new calls place sound (subst (λ (l : List Pending). GoesAt old l place new) same at))

pub woke_by : (asked first : Bool) (old mid new : Desk) (before after kept more : List (Option ℕ)) (o : Option ℕ) (number : ℕ) →
    o ≡ Some number → IfSome o (λ n. GoesOn first mid n new) → (asked ≡ true → first ≡ true) → WakesMore asked old before mid after →
    kept ≡ after → more ≡ kept ++ Some number ∷ [] → WakesMore asked old before new more
woke_by asked first old mid new before after kept more o number is goes so woke same pushed =
    one_woke asked old mid new before after more number woke
    (goes_by asked first mid new number so (subst (λ (x : Option ℕ). IfSome x (λ n. GoesOn first mid n new)) is goes))
    (pushed ∙ ap (λ (l : List (Option ℕ)). l ++ Some number ∷ []) same)
