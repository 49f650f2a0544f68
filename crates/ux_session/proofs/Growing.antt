-- How the history grows.
use Rattle.std.proofs.Common.{◌≡◌, ℕ, zero, suc, ◌+◌, Bool, true, List, [], ◌∷◌, ◌++◌, length, map, Option, Some, refl, ap, sym, ◌∙◌, subst}
use Rattle.std.proofs.Common.{append_assoc, arith}
use Rattle.std.proofs.lemmas.List.{length-append, length-map, append-nil, map-append}
use Rattle.ux_model.specs.Types.{Pid, Request, Reply, Entry}
use Rattle.ux_book.specs.Books.{KeptHistory, state_of, entry_of}
use Rattle.ux_book.specs.Sitting.{Answers}
use Rattle.ux_session.specs.declared.pending.Pending.{Pending}
use Rattle.ux_session.specs.Sessions.{Sessioned, Extends, IsHeld, IsMade, left_by}
use Rattle.ux_session.specs.Making.{Makes, Pends, at_once, later}
use Rattle.ux_session.specs.Going.{Desk, desk, GoesOn, Wakes, none, further, WakesMore}

pub no_more : (book : KeptHistory) → Extends book book (length book.entries) 0
no_more book = record { boot = refl; place = refl; more = []; behind = sym (append-nil book.entries); many = refl }

pub one_more : (old new : KeptHistory) (pid : Pid) (request : Request) (reply : Reply) → Answers old new pid request reply →
    Extends old new (length old.entries) 1
one_more old new pid request reply a = record {
  boot = ap (λ (b : KeptHistory). b.boot) a.adds.appended;
  place = refl;
  more = entry_of (state_of old) pid a.k request reply a.released ∷ [];
  behind = ap (λ (b : KeptHistory). b.entries) a.adds.appended;
  many = refl;
}

pub and_more : (old mid new : KeptHistory) (from a b n m : ℕ) → Extends old mid from n → Extends mid new a m → n + m ≡ b → Extends old new from b
and_more old mid new from a b n m first second sum = record {
  boot = second.boot ∙ first.boot;
  place = first.place;
  more = first.more ++ second.more;
  behind = second.behind ∙ ap (λ (l : List Entry). l ++ second.more) first.behind ∙ append_assoc old.entries first.more second.more;
  many = length-append first.more second.more
      ∙ (let p = first.many in let q = second.many in let both : length first.more + length second.more ≡ b = omega (arith, p, q, sum) in both);
}

-- as many as calls go on
pub as_many : {asked : Bool} {old new : Desk} {numbers : List ℕ} → Wakes asked old numbers new →
    Extends old.book new.book (length old.book.entries) (length numbers)
as_many {old} none = no_more old.book
as_many {old} (further {numbers = ns} {mid = mid} number new wakes goes) =
    and_more old.book mid.book new.book (length old.book.entries) (length mid.book.entries) (length (ns ++ number ∷ [])) (length ns) 1
    (as_many wakes) (one_more mid.book new.book goes.goes.call.pid goes.goes.call.request goes.goes.made.reply goes.goes.made.answers)
    (sym (length-append ns (number ∷ [])))

-- ---- what is noted

pub nobody_woke : (asked : Bool) (d : Desk) (noted : List (Option ℕ)) → WakesMore asked d noted d noted
nobody_woke asked d noted = record { numbers = []; noted = sym (append-nil noted); wakes = none }

pub one_woke : (asked : Bool) (old mid new : Desk) (before after more : List (Option ℕ)) (number : ℕ) → WakesMore asked old before mid after →
    GoesOn asked mid number new → more ≡ after ++ Some number ∷ [] → WakesMore asked old before new more
one_woke asked old mid new before after more number woke goes is = record {
  numbers = woke.numbers ++ number ∷ [];
  noted = is ∙ ap (λ (l : List (Option ℕ)). l ++ Some number ∷ []) woke.noted
      ∙ append_assoc before (map (λ n. Some n) woke.numbers) (Some number ∷ [])
      ∙ ap (λ (l : List (Option ℕ)). before ++ l) (sym (map-append (λ n. Some n) woke.numbers (number ∷ [])));
  wakes = further number new woke.wakes goes;
}

-- ---- what a call makes

-- the call, and those that go on behind it
pub call_extends : (s : Sessioned) (old next new : KeptHistory) (pid : Pid) (request : Request) (reply : Reply) (asked : Bool)
    (left calls : List Pending) (from : List Entry) (one : Option ℕ) (none_yet first all : List (Option ℕ)) → old ≡ s.book →
    from ≡ old.entries → Answers old next pid request reply → none_yet ≡ [] → first ≡ none_yet ++ one ∷ [] →
    WakesMore asked (desk next left) first (desk new calls) all → Extends s.book new (length from) (length all)
call_extends s old next new pid request reply asked left calls from one none_yet first all same seen answers empty is woke =
    let numbers : ℕ = length woke.numbers in
    let long : length all ≡ suc (length (map (λ (n : ℕ). Some n) woke.numbers)) =
    ap (λ (l : List (Option ℕ)). length l) (woke.noted ∙ ap (λ (l : List (Option ℕ)). l ++ map (λ n. Some n) woke.numbers)
    (is ∙ ap (λ (l : List (Option ℕ)). l ++ one ∷ []) empty)) in
    let counted : length (map (λ (n : ℕ). Some n) woke.numbers) ≡ length woke.numbers = length-map woke.numbers (λ (n : ℕ). Some n) in
    let many : length all ≡ 1 + numbers = omega (arith, long, counted) in
    subst (λ (n : ℕ). Extends s.book new n (length all)) (ap (λ (l : List Entry). length l) (sym seen))
    (subst (λ (b : KeptHistory). Extends b new (length old.entries) (length all)) same
    (and_more old next new (length old.entries) (length next.entries) (length all) 1 numbers (one_more old next pid request reply answers)
    (as_many woke.wakes) (sym many)))

-- so it is of a session
pub makes_now : (s t : Sessioned) (next : KeptHistory) (pid : Pid) (request : Request) (reply : Reply) (one : Option ℕ)
    (none_yet first all : List (Option ℕ)) → Answers s.book next pid request reply → none_yet ≡ [] → first ≡ none_yet ++ one ∷ [] →
    WakesMore s.asked (desk next (left_by pid request s.pending)) first (desk t.book t.pending) all → t.asked ≡ s.asked →
    Makes s t pid request one all
makes_now s t next pid request reply one none_yet first all answers empty is woke order = record {
  reply = reply;
  next = next;
  answers = answers;
  numbers = woke.numbers;
  told = woke.noted ∙ ap (λ (l : List (Option ℕ)). l ++ map (λ n. Some n) woke.numbers)
      (is ∙ ap (λ (l : List (Option ℕ)). l ++ one ∷ []) empty);
  wakes = woke.wakes;
  order = order;
}

pub pends_now : (s seen t : Sessioned) (next : KeptHistory) (call : Pending) (none_yet first all : List (Option ℕ)) → seen ≡ s →
    IsMade seen.book next call → none_yet ≡ [] → first ≡ none_yet ++ Some call.number ∷ [] →
    WakesMore seen.asked (desk next (left_by call.pid call.request seen.pending)) first (desk t.book t.pending) all →
    t.asked ≡ seen.asked → Pends s t call all
unfolding makes_now
pends_now s seen t next call none_yet first all same made empty is woke order =
    subst (λ (x : Sessioned). Pends x t call all) same
    (at_once (makes_now seen t next call.pid call.request made.reply (Some call.number) none_yet first all made.answers empty is woke order)
    made.done)

pub pends_later : (s seen t : Sessioned) (call : Pending) (answered : List (Option ℕ)) → seen ≡ s → IsHeld seen.book call → answered ≡ [] →
    t ≡ record seen { pending = seen.pending ++ call ∷ [] } → Pends s t call answered
pends_later s seen t call answered same held empty is = subst (λ (x : Sessioned). Pends x t call answered) same (later held empty is)

-- nothing was made
pub stays : (s : Sessioned) (old new : KeptHistory) (from : List Entry) (answered : List (Option ℕ)) → old ≡ s.book → from ≡ old.entries →
    new ≡ old → answered ≡ [] → Extends s.book new (length from) (length answered)
stays s old new from answered same seen kept empty =
    subst (λ (l : List (Option ℕ)). Extends s.book new (length from) (length l)) (sym empty)
    (subst (λ (l : List Entry). Extends s.book new (length l) 0) (sym seen)
    (subst (λ (b : KeptHistory). Extends b new (length old.entries) 0) same
    (subst (λ (b : KeptHistory). Extends old b (length old.entries) 0) (sym kept) (no_more old))))
