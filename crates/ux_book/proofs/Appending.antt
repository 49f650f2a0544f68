-- A call as one more entry of a book, by the book's parts.
use Rattle.std.proofs.Common.{◌≡◌, ℕ, ◌+◌, ◌<◌, ◌≤◌, ◌^◌, ◌==◌, ◌&&◌, not, List, [], ◌∷◌, ◌++◌, length, Bool, true, false, cond, refl, ap}
use Rattle.std.proofs.Common.{sym, ◌∙◌, subst, arith}
use Rattle.std.specs.Prelude.{IfSome, if◌then◌else◌, Option}
use Rattle.std.specs.List.{AllByRecursion}
use Rattle.std.proofs.lemmas.Bool.{eqb-true, eq-eqb, and_parts, and_from, or_parts}
use Rattle.std.proofs.lemmas.List.Sums.{count_by-le-length}
use Rattle.atomic_table.specs.Seated.{TableId}
use Rattle.ux_model.specs.Types.{Pid, Request, Reply, Errno, Entry}
use Rattle.ux_model.specs.Object.{View}
use Rattle.ux_model.specs.State.{State, is_live}
use Rattle.ux_model.specs.Boot.{IsBootState}
use Rattle.ux_model.specs.Step.{Step}
use Rattle.ux_model.specs.Delivered.{delivered_by}
use Rattle.ux_model.specs.HandingOut.{IsHandedOut}
use Rattle.ux_model.specs.Rooms.{size_of, room_for, Fits}
use Rattle.ux_model.specs.Waiting.{is_again}
use Rattle.ux_model.specs.History.{calls_of, is_exit, is_off, has_live, live_count, makes_one, is_allowed, replay, MayFollow, IsLegal}
use Rattle.ux_model.proofs.Sizes.ReplySizes.{replies_fit}
use Rattle.ux_model.proofs.Steps.Replays.{step_replay}
use Rattle.ux_model.proofs.Lists.Appending.{legal_empty, legal_push}
use Rattle.ux_model.proofs.Processes.Living.{live_within, live_ones_counted, fork_tells_the_next, fork_alone_makes}
use Rattle.ux_book.specs.Pasts.{calls_by, child_by}
use Rattle.ux_book.specs.Books.{KeptHistory, state_of, may_call, ends_of, is_last, last_entries, entry_of, Adds, IsBook}
use Rattle.ux_book.specs.Trails.{Trailed, Owned, Placed}
use Rattle.ux_book.proofs.Pasts.{calls_same}
use Rattle.ux_book.proofs.LastReplies.{exit_is_ok, off_is_ok}
use Rattle.ux_book.proofs.Legal.{few_live, nobodys, ends_push, ends_alike, last_after}
use Rattle.ux_book.proofs.Legal.{last_makes_none, room_taken, may_follow, Waited, waited}
use Rattle.ux_book.proofs.Slips.{nothing_yet}

-- ---- what is at hand

-- The parts of a book, the book as contracts see it, and a call that may be made.
pub record Asked : Type 0 where
  pub boot : State
  pub id : TableId
  pub kernel : State
  pub trail : Trailed
  pub own : Owned
  pub ended : Bool
  pub space : ℕ
  pub view : KeptHistory
  pub pid : Pid
  pub k : ℕ
  pub request : Request
  pub book : IsBook boot id kernel trail own ended space
  pub view_is : record { boot = boot; entries = trail.entries } ≡ view
  pub may : may_call view pid.0 k request ≡ true

abbrev pub ask : {boot kernel : State} {id : TableId} {trail : Trailed} {own : Owned} {ended : Bool} {space : ℕ} {view : KeptHistory}
    (pid : Pid) (k : ℕ) (request : Request) → IsBook boot id kernel trail own ended space →
    record { boot = boot; entries = trail.entries } ≡ view → may_call view pid.0 k request ≡ true → Asked
ask {boot} {kernel} {id} {trail} {own} {ended} {space} {view} pid k request book view_is may = record {
  boot = boot;
  id = id;
  kernel = kernel;
  trail = trail;
  own = own;
  ended = ended;
  space = space;
  view = view;
  pid = pid;
  k = k;
  request = request;
  book = book;
  view_is = view_is;
  may = may;
}

-- What the kernel made of it.
pub record Stepped (a : Asked) : Type 0 where
  pub number : ℕ
  pub after : State
  pub reply : Reply
  pub gone : List ℕ
  pub number_is : number ≡ length a.trail.entries
  pub step : Step a.kernel a.pid.0 number a.request reply gone after

-- What its entry has besides.
pub record Noting (a : Asked) (s : Stepped a) : Type 0 where
  pub who : ℕ
  pub released : List ℕ
  pub delivered : Option ℕ
  pub who_is : who ≡ a.pid.0
  pub released_is : released ≡ s.gone
  pub delivered_is : delivered ≡ delivered_by a.kernel a.pid.0 a.request s.reply

-- The entry of a process of this number.
abbrev pub entry_by : {a : Asked} {s : Stepped a} → Noting a s → ℕ → Entry
entry_by {a} {s} n p = record {
  pid = record { 0 = p };
  k = a.k;
  request = a.request;
  reply = s.reply;
  released = n.released;
  delivered = n.delivered;
}

-- The parts of the book afterwards. There was room for so many entries, and so much is left.
pub record Grown (a : Asked) (s : Stepped a) (n : Noting a s) : Type 0 where
  pub trail : Trailed
  pub own : Owned
  pub ended : Bool
  pub room : ℕ
  pub space : ℕ
  pub enough : last_entries a.kernel a.trail.entries + cond {A = ℕ} (is_last a.request) 0 2 ≤ room
  pub left : room ≤ space + 1
  pub trail_is : trail
      ≡ record a.trail {
        entries = a.trail.entries ++ entry_by n n.who ∷ [];
        given = a.trail.given + cond {A = ℕ} (makes_one a.request s.reply) 1 0;
      }
  pub own_id : own.id ≡ a.own.id
  pub own_pid : own.pid ≡ a.own.pid
  pub ends : cond {A = ℕ} ended 1 0 ≡ cond {A = ℕ} a.ended 1 0 + cond {A = ℕ} (is_off a.request) 1 0

-- ---- who calls

pub kernel_is : (a : Asked) → a.kernel ≡ state_of a.view
kernel_is a = a.book.at_replay ∙ ap state_of a.view_is

allowed : (a : Asked) → is_allowed a.kernel a.pid.0 a.k a.request ≡ true
allowed a = ap (λ (U : State). is_allowed U a.pid.0 a.k a.request) (kernel_is a) ∙ (and_parts _ _ a.may).0

counted : (a : Asked) → a.k ≡ calls_of a.pid.0 a.trail.entries
counted a =
    sym (ap (λ (b : KeptHistory). calls_of a.pid.0 b.entries) a.view_is
    ∙ eqb-true _ _ (and_parts (is_allowed (state_of a.view) a.pid.0 a.k a.request) _ a.may).1)

-- a caller has a number that was given
within : (S : State) (p k : ℕ) (request : Request) → is_allowed S p k request ≡ true → p ≤ length S.processes
within S p k request = go (is_off request)
  where
    go : (b : Bool) → (if b then (p == 0) && ((k == 0) && not (has_live S)) else is_live S p) ≡ true → p ≤ length S.processes
    go true h = let none : p ≡ 0 = eqb-true p 0 (and_parts (p == 0) _ h).0 in omega (arith, none)
    go false h = live_within S p h

-- a process has made fewer calls than can be counted
pub few_calls : {a : Asked} (s : Stepped a) {room : ℕ} → s.number + room < 2 ^ 64 → 0 < room → a.k + 1 < 2 ^ 64
few_calls {a} s inside some =
    let most = count_by-le-length (λ (e : Entry). e.pid.0 == a.pid.0) a.trail.entries in
    let made = counted a in
    let number = s.number_is in
    omega (arith, made, number, inside, some, most)

-- ---- its step

abbrev made : {a : Asked} → Stepped a → Entry
made {a} s = entry_of a.kernel a.pid a.k a.request s.reply s.gone

abbrev pub seen : {a : Asked} → Stepped a → Entry
seen {a} s = entry_of (state_of a.view) a.pid a.k a.request s.reply s.gone

made_seen : {a : Asked} (s : Stepped a) → made s ≡ seen s
made_seen {a} s = ap (λ (U : State). entry_of U a.pid a.k a.request s.reply s.gone) (kernel_is a)

step_there : {a : Asked} (s : Stepped a) → Step a.kernel a.pid.0 (length a.trail.entries) a.request s.reply s.gone s.after
step_there {a} s = subst (λ (i : ℕ). Step a.kernel a.pid.0 i a.request s.reply s.gone s.after) s.number_is s.step

follows : {a : Asked} (s : Stepped a) → MayFollow a.boot a.trail.entries (made s)
follows {a} s = may_follow a.boot a.kernel s.after a.trail.entries (made s) a.book.at_replay (allowed a) (step_there s) (counted a) refl

pub all_handed_out : (a : Asked) (released : List (ℕ × Option View)) → AllByRecursion (IsHandedOut a.kernel) released →
    AllByRecursion (IsHandedOut (state_of a.view)) released
all_handed_out a released = subst (λ (S : State). AllByRecursion (IsHandedOut S) released) (kernel_is a)

-- its reply has room
pub reply_fits : {a : Asked} (s : Stepped a) → Fits (size_of s.reply) (room_for a.request)
reply_fits {a} s = replies_fit a.boot a.trail.entries (made s) a.book.legal (follows s)

-- a live process's exit succeeds
pub exits : {a : Asked} (s : Stepped a) → a.request ≡ Request.Exit → s.reply ≡ Reply.Ok
exits {a} s is = exit_is_ok a.kernel s.after a.pid.0 s.number a.request s.reply s.gone is
    (ap (λ (r : Request). is_allowed a.kernel a.pid.0 a.k r) (sym is) ∙ allowed a) s.step

-- and so does the end of the layer
pub ends_well : {a : Asked} (s : Stepped a) → a.request ≡ Request.Off → s.reply ≡ Reply.Ok
ends_well {a} s is = off_is_ok a.kernel s.after a.pid.0 s.number s.reply s.gone
    (subst (λ (r : Request). Step a.kernel a.pid.0 s.number r s.reply s.gone s.after) is s.step)

-- ---- where it would have to wait

pub waits : {a : Asked} (s : Stepped a) → is_again s.reply ≡ true →
    Waited a.boot a.kernel s.after a.trail.entries a.pid.0 a.request s.gone
waits {a} s again = waited a.boot a.kernel s.after a.trail.entries a.pid.0 s.number a.request s.reply s.gone a.book.legal
    a.book.at_replay again s.number_is s.step

pub waits_there : {a : Asked} (s : Stepped a) → is_again s.reply ≡ true →
    Step (state_of a.view) a.pid.0 (length a.view.entries) a.request (Reply.Err Errno.EAGAIN) [] (state_of a.view)
waits_there {a} s again = subst (λ (b : KeptHistory). Step (state_of b) a.pid.0 (length b.entries) a.request (Reply.Err Errno.EAGAIN) []
    (state_of b)) a.view_is (waits s again).again

-- the book is as before, with more room
pub unchanged : {a : Asked} (s : Stepped a) {space : ℕ} → is_again s.reply ≡ true → a.space ≤ space →
    IsBook a.boot a.id s.after a.trail a.own a.ended space
unchanged {a} s {space} again more = subst (λ (S : State). IsBook a.boot a.id S a.trail a.own a.ended space) (sym (waits s again).same)
    (record {
      legal = a.book.legal;
      at_replay = a.book.at_replay;
      trail_id = a.book.trail_id;
      given = a.book.given;
      own_id = a.book.own_id;
      own_pid = a.book.own_pid;
      ends = a.book.ends;
      nobodys = a.book.nobodys;
      room = let room = a.book.room in omega (arith, room, more);
    })

-- ---- a process that it made

-- its number is the next that is given
pub child_number : {a : Asked} (s : Stepped a) → IfSome (child_by a.request s.reply) (λ c. c.pid.0 ≡ a.trail.given)
child_number {a} s = go a.request s.reply s.step
  where
    go : (request : Request) (reply : Reply) → Step a.kernel a.pid.0 s.number request reply s.gone s.after →
        IfSome (child_by request reply) (λ c. c.pid.0 ≡ a.trail.given)
    go Request.Fork (Reply.Child pid) step =
        let next = fork_tells_the_next a.kernel s.after a.pid.0 s.number pid s.gone step in
        let given = a.book.given in
        omega (arith, next, given)
    go request reply step = tt

-- and it has made no call
pub new_past : (a : Asked) (e : Entry) {t : Trailed} → e.pid.0 ≡ a.pid.0 → t ≡ record a.trail { entries = a.trail.entries ++ e ∷ [] } →
    calls_by t.given t.entries ≡ []
new_past a e {t} who is =
    let inside = within a.kernel a.pid.0 a.k a.request (allowed a) in
    let given = a.book.given in
    let at = ap (λ (U : State). length U.processes) a.book.at_replay in
    (λ i. calls_by (is i).given (is i).entries)
    ∙ calls_same a.trail.given a.trail.entries e (λ (w : e.pid.0 ≡ a.trail.given). absurd (omega (arith, w, who, inside, given)))
    ∙ nothing_yet a.boot a.trail.entries a.trail.given a.book.legal (omega (arith, given, at))

-- ---- its entry

noted_is : {a : Asked} {s : Stepped a} (n : Noting a s) → entry_by n n.who ≡ made s
noted_is {a} {s} n = λ j. record {
  pid = record { 0 = n.who_is j };
  k = a.k;
  request = a.request;
  reply = s.reply;
  released = n.released_is j;
  delivered = n.delivered_is j;
}

-- the place where it stands
pub place_there : {a : Asked} {s : Stepped a} (n : Noting a s) →
    ◌≡◌ {A = Placed} (record { id = a.trail.id; number = length a.trail.entries; entry = entry_by n n.who })
    (record { id = a.id; number = length a.view.entries; entry = seen s })
place_there {a} {s} n = λ j. record {
  id = a.book.trail_id j;
  number = length (KeptHistory.entries (a.view_is j));
  entry = (noted_is n ∙ made_seen s) j;
}

entries_after : {a : Asked} {s : Stepped a} {n : Noting a s} (b : Grown a s n) → b.trail.entries ≡ a.trail.entries ++ made s ∷ []
entries_after {a} {s} {n} b = ap (λ (t : Trailed). t.entries) b.trail_is ∙ ap (λ (e : Entry). a.trail.entries ++ e ∷ []) (noted_is n)

-- what is kept is what is noted
pub kept_is : {a : Asked} {s : Stepped a} {n : Noting a s} (b : Grown a s n) →
    a.trail.entries ++ entry_by n a.pid.0 ∷ [] ≡ b.trail.entries
kept_is {a} {s} {n} b = ap (λ (p : ℕ). a.trail.entries ++ entry_by n p ∷ []) (sym n.who_is)
    ∙ sym (ap (λ (t : Trailed). t.entries) b.trail_is)

pub adds : {a : Asked} {s : Stepped a} {n : Noting a s} (b : Grown a s n) →
    Adds a.view (record { boot = a.boot; entries = b.trail.entries }) (seen s)
adds {a} {s} {n} b = record {
  next = subst (λ (e : Entry). MayFollow a.view.boot a.view.entries e) (made_seen s)
      (subst (λ (v : KeptHistory). MayFollow v.boot v.entries (made s)) a.view_is (follows s));
  appended = ap (λ (es : List Entry). record { boot = a.boot; entries = es }) (entries_after b)
      ∙ ap (λ (v : KeptHistory). record v { entries = v.entries ++ made s ∷ [] }) a.view_is
      ∙ ap (λ (e : Entry). record a.view { entries = a.view.entries ++ e ∷ [] }) (made_seen s);
}

-- ---- the book afterwards

ends_once : (a : Asked) → ends_of a.trail.entries ≤ 1
ends_once a = let ends = a.book.ends in let small = one_at_most a.ended in omega (arith, ends, small)
  where
    one_at_most : (b : Bool) → cond {A = ℕ} b 1 0 ≤ 1
    one_at_most true = omega arith
    one_at_most false = omega arith

-- there is room for the last entries
room_after : {a : Asked} {s : Stepped a} {n : Noting a s} (b : Grown a s n) →
    last_entries s.after (a.trail.entries ++ made s ∷ []) ≤ b.space
room_after {a} {s} {n} b =
    let last = last_after a.kernel s.after a.trail.entries (made s) s.number (allowed a) (counted a) a.book.nobodys (ends_once a) s.step in
    let taken = room_taken (is_last a.request) (makes_one a.request s.reply) (last_makes_none a.request s.reply) in
    let enough = b.enough in
    let left = b.left in
    omega (arith, last, taken, enough, left)

pub book_after : {a : Asked} {s : Stepped a} {n : Noting a s} (b : Grown a s n) → IsBook a.boot a.id s.after b.trail b.own b.ended b.space
book_after {a} {s} {n} b =
    let es = a.trail.entries in
    let e : Entry = made s in
    let is : b.trail.entries ≡ es ++ e ∷ [] = entries_after b in
    record {
      legal = subst (λ (l : List Entry). IsLegal a.boot l) (sym is) (legal_push a.boot es e a.book.legal (follows s));
      at_replay = step_replay a.boot s.after es e (subst (λ (U : State). Step U a.pid.0 (length es) a.request s.reply s.gone s.after)
          a.book.at_replay (step_there s)) ∙ ap (replay a.boot) (sym is);
      trail_id = ap (λ (t : Trailed). t.id) b.trail_is ∙ a.book.trail_id;
      given =
          let now : b.trail.given ≡ a.trail.given + cond {A = ℕ} (makes_one a.request s.reply) 1 0 =
          ap (λ (t : Trailed). t.given) b.trail_is in
          let before = a.book.given in
          let one = fork_alone_makes a.kernel s.after a.pid.0 s.number a.request s.reply s.gone s.step in
          omega (arith, now, before, one);
      own_id = b.own_id ∙ a.book.own_id;
      own_pid = b.own_pid ∙ a.book.own_pid;
      ends = ap ends_of is ∙ ends_push es e ∙ ap (λ m. m + cond {A = ℕ} (is_off a.request) 1 0) a.book.ends ∙ sym b.ends;
      nobodys = ap (calls_of 0) is ∙ ends_alike es e a.book.nobodys (nobodys a.kernel a.pid.0 a.k a.request (allowed a))
          ∙ ap ends_of (sym is);
      room = subst (λ (l : List Entry). last_entries s.after l ≤ b.space) (sym is) (room_after b);
    }

-- ---- a call that isn't a last one

-- there is room for it, besides the last ones
pub enough_room : (a : Asked) {made room : ℕ} → made ≡ length a.kernel.processes → made + 3 ≤ room → is_last a.request ≡ false →
    last_entries a.kernel a.trail.entries + cond {A = ℕ} (is_last a.request) 0 2 ≤ room
enough_room a processes room other =
    let two : cond {A = ℕ} (is_last a.request) 0 2 ≡ 2 = ap (λ (b : Bool). cond {A = ℕ} b 0 2) other in
    let few = few_live a.kernel in
    omega (arith, two, few, processes, room)

pub not_off : (request : Request) → is_last request ≡ false → is_off request ≡ false
not_off request other = (or_parts (is_exit request) (is_off request) other).1

-- a call that isn't the layer's end leaves it as it is
pub no_end : (ended : Bool) (request : Request) → is_off request ≡ false →
    cond {A = ℕ} ended 1 0 ≡ cond {A = ℕ} ended 1 0 + cond {A = ℕ} (is_off request) 1 0
no_end ended request other = let none : cond {A = ℕ} (is_off request) 1 0 ≡ 0 = ap (λ (b : Bool). cond {A = ℕ} b 1 0) other in
    omega (arith, none)

-- ---- a last call

-- there is room for it
pub last_room : (a : Asked) → is_last a.request ≡ true →
    last_entries a.kernel a.trail.entries + cond {A = ℕ} (is_last a.request) 0 2 ≤ a.space
last_room a last =
    let none : cond {A = ℕ} (is_last a.request) 0 2 ≡ 0 = ap (λ (b : Bool). cond {A = ℕ} b 0 2) last in
    let room = a.book.room in
    omega (arith, none, room)

-- it makes no process
pub last_trail : {a : Asked} {s : Stepped a} (n : Noting a s) {t : Trailed} → is_last a.request ≡ true →
    t ≡ record a.trail { entries = a.trail.entries ++ entry_by n n.who ∷ [] } →
    t ≡ record a.trail {
      entries = a.trail.entries ++ entry_by n n.who ∷ [];
      given = a.trail.given + cond {A = ℕ} (makes_one a.request s.reply) 1 0;
    }
last_trail {a} {s} n last is =
    let none : cond {A = ℕ} (makes_one a.request s.reply) 1 0 ≡ 0 =
    ap (λ (b : Bool). cond {A = ℕ} b 1 0) (last_makes_none a.request s.reply last) in
    let given : a.trail.given ≡ a.trail.given + cond {A = ℕ} (makes_one a.request s.reply) 1 0 = omega (arith, none) in
    is ∙ (λ j. record a.trail { entries = a.trail.entries ++ entry_by n n.who ∷ []; given = given j })

-- it succeeds
pub adds_ok : {a : Asked} {s : Stepped a} {n : Noting a s} (b : Grown a s n) → s.reply ≡ Reply.Ok →
    Adds a.view (record { boot = a.boot; entries = b.trail.entries }) (entry_of (state_of a.view) a.pid a.k a.request Reply.Ok s.gone)
adds_ok {a} {s} {n} b is = subst (λ (y : Reply). Adds a.view (record { boot = a.boot; entries = b.trail.entries })
    (entry_of (state_of a.view) a.pid a.k a.request y s.gone)) is (adds b)

-- there is room for the exit of a live process
pub room_to_exit : {a : Asked} (s : Stepped a) → a.request ≡ Request.Exit → 0 < a.space
room_to_exit {a} s is =
    let live : is_live a.kernel a.pid.0 ≡ true = ap (λ (r : Request). is_allowed a.kernel a.pid.0 a.k r) (sym is) ∙ allowed a in
    let fewer : live_count s.after + cond {A = ℕ} (is_live a.kernel a.pid.0) 1 0 ≡ live_count a.kernel + 0 =
    live_ones_counted a.kernel s.after a.pid.0 s.number Request.Exit s.reply s.gone
    (subst (λ (r : Request). Step a.kernel a.pid.0 s.number r s.reply s.gone s.after) is s.step) in
    let one : cond {A = ℕ} (is_live a.kernel a.pid.0) 1 0 ≡ 1 = ap (λ (b : Bool). cond {A = ℕ} b 1 0) live in
    let room = a.book.room in
    omega (arith, fewer, one, room)

-- the layer may be ended where no process lives
pub may_end : {boot S : State} {id : TableId} {t : Trailed} {own : Owned} {ended : Bool} {space : ℕ} {view : KeptHistory} →
    IsBook boot id S t own ended space → record { boot = boot; entries = t.entries } ≡ view →
    has_live (state_of view) ≡ false → ends_of view.entries ≡ 0 → may_call view 0 0 Request.Off ≡ true
may_end {boot} {S} {id} {t} {own} {ended} {space} {view} book same gone first =
    and_from (is_allowed (state_of view) 0 0 Request.Off) (calls_of 0 view.entries == 0) (ap not gone)
    (eq-eqb (calls_of 0 view.entries) 0 (subst (λ (b : KeptHistory). calls_of 0 b.entries ≡ ends_of b.entries) same book.nobodys ∙ first))

-- ---- at the start

pub first_book : (boot S : State) (id : TableId) (t : Trailed) (own : Owned) (space : ℕ) → IsBootState S → S ≡ boot →
    t ≡ record { id = id; entries = []; given = length S.processes + 1 } → own ≡ record { id = id; pid = 0; past = [] } →
    length S.processes + 1 ≤ space → IsBook boot id S t own false space
first_book boot S id t own space boots named is_t is_own enough = record {
  legal = subst (λ (es : List Entry). IsLegal boot es) (sym no_entries) (legal_empty boot (subst IsBootState named boots));
  at_replay = named ∙ ap (replay boot) (sym no_entries);
  trail_id = ap (λ (x : Trailed). x.id) is_t;
  given = ap (λ (x : Trailed). x.given) is_t;
  own_id = ap (λ (o : Owned). o.id) is_own;
  own_pid = ap (λ (o : Owned). o.pid) is_own;
  ends = ap ends_of no_entries;
  nobodys = ap (calls_of 0) no_entries ∙ sym (ap ends_of no_entries);
  room = let few = few_live S in let none = ap ends_of no_entries in omega (arith, few, none, enough);
}
  where
    no_entries : t.entries ≡ []
    no_entries = ap (λ (x : Trailed). x.entries) is_t
