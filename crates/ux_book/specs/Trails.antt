-- A list of entries of which one token knows the whole, each process's token its own calls, and others one place each.
use Rattle.std.specs.Prelude.{◌≡◌, ℕ, suc, ◌+◌, ◌<◌, List, [], ◌∷◌, ◌++◌, Some, None, Bool, true, false}
use Rattle.std.specs.List.{slice_get}
use mathlib.Core.Option.{some}
use lib.ListN.{get_elem?}
use Rattle.atomic_table.specs.Seated.{TableId}
use Rattle.ux_model.specs.Types.{Request, Reply, Entry}
use Rattle.ux_book.specs.declared.call.Call.{Call}
use Rattle.ux_book.specs.declared.trail.Known.{Known}
use Rattle.ux_book.specs.Pasts.{call_of, calls_by}

-- which trail it is, its entries, and how many processes have had a token
pub record Trailed : Type 0 where
  pub id : TableId
  pub entries : List Entry
  pub given : ℕ

-- which trail it is of, and an entry that stands there, with its number
pub record Placed : Type 0 where
  pub id : TableId
  pub number : ℕ
  pub entry : Entry

-- which trail it is of, whose it is, and its calls
pub record Owned : Type 0 where
  pub id : TableId
  pub pid : ℕ
  pub past : List Call

-- the name of no trail
abbrev pub no_trail : TableId
no_trail = record { words = 0; slots = 0; views_name = 0; atom = 0; block = 0; offset = 0; slot_names = [] }

abbrev pub no_entry : Entry
no_entry = record { pid = record { 0 = 0 }; k = 0; request = Request.Off; reply = Reply.Ok; released = []; delivered = None }

-- who knows the whole
abbrev pub knower : List Entry → ℕ → Known
knower all given =
    record { keeps = true; all = all; given = given; claims = false; number = 0; entry = no_entry; owns = false; pid = 0; past = [] }

-- who knows one place
abbrev pub claim : ℕ → Entry → Known
claim number entry =
    record { keeps = false; all = []; given = 0; claims = true; number = number; entry = entry; owns = false; pid = 0; past = [] }

-- who knows a process's calls, and is the only one
abbrev pub owner_of : ℕ → List Call → Known
owner_of pid past =
    record { keeps = false; all = []; given = 0; claims = false; number = 0; entry = no_entry; owns = true; pid = pid; past = past }

abbrev pub nobody : Known
nobody = record { keeps = false; all = []; given = 0; claims = false; number = 0; entry = no_entry; owns = false; pid = 0; past = [] }

-- what a view knows but for a process's calls, and these alone
abbrev pub rest_of : Known → Known
rest_of v =
    record { keeps = v.keeps; all = v.all; given = v.given; claims = false; number = 0; entry = no_entry; owns = false; pid = 0; past = [] }

abbrev pub own_of : Known → Known
own_of v =
    record { keeps = false; all = []; given = 0; claims = false; number = 0; entry = no_entry; owns = v.owns; pid = v.pid; past = v.past }

-- as much of a place as the view knows
abbrev pub place_of : Known → Known
place_of v =
    record { keeps = false; all = []; given = 0; claims = v.claims; number = v.number; entry = v.entry; owns = false; pid = 0; past = [] }

-- one process more has a token
abbrev pub opened : Known → Known
opened v = record {
  keeps = v.keeps;
  all = v.all;
  given = v.given + 1;
  claims = v.claims;
  number = v.number;
  entry = v.entry;
  owns = v.owns;
  pid = v.pid;
  past = v.past;
}

abbrev pub next_owner : Known → Known
next_owner v = owner_of v.given (calls_by v.given v.all)

abbrev pub last_of : List Entry → Entry
last_of [] = no_entry
last_of (x ∷ []) = x
last_of (x ∷ y ∷ ys) = last_of (y ∷ ys)

abbrev pub before_last : List Entry → ℕ
before_last [] = 0
before_last (x ∷ []) = 0
before_last (x ∷ y ∷ ys) = suc (before_last (y ∷ ys))

-- the place of the last entry, from who knows the whole
abbrev pub claim_if : Bool → List Entry → Known
claim_if true (x ∷ xs) = claim (before_last (x ∷ xs)) (last_of (x ∷ xs))
claim_if true [] = nobody
claim_if false xs = nobody

abbrev pub last_claim : Known → Known
last_claim v = claim_if v.keeps v.all

-- v's log, with w's claim and token
abbrev pub taking_in : Known → Known → Known
taking_in v w = record {
  keeps = v.keeps;
  all = v.all;
  given = v.given;
  claims = w.claims;
  number = w.number;
  entry = w.entry;
  owns = w.owns;
  pid = w.pid;
  past = w.past;
}

-- what the rule says of one view: one token at most knows the whole, each process has at most one, which knows its calls, and each place
-- that another knows is right
pub record Fits (seat : ℕ) (log : List Entry) (count : ℕ) (owner : ℕ → ℕ) (by : ℕ) (v : Known) : Type 0 where
  pub keeps : v.keeps ≡ true → (by ≡ seat) × (v.all ≡ log) × (v.given ≡ count)
  pub claims : v.claims ≡ true → slice_get log v.number ≡ Some v.entry
  pub owns : v.owns ≡ true → (by ≡ owner v.pid) × (v.pid < count) × (v.past ≡ calls_by v.pid log)

pub record Kept (views : List Known) : Type 0 where
  pub seat : ℕ
  pub log : List Entry
  pub count : ℕ
  pub owner : ℕ → ℕ
  pub fits : (by : ℕ) (v : Known) → get_elem? views by ≡ some v → Fits seat log count owner by v

-- the whole and a process's calls have one more
abbrev pub noted : Known → Entry → Known
noted v e = record {
  keeps = v.keeps;
  all = v.all ++ e ∷ [];
  given = v.given;
  claims = v.claims;
  number = v.number;
  entry = v.entry;
  owns = v.owns;
  pid = v.pid;
  past = v.past ++ call_of e ∷ [];
}

-- a place was compared with the whole, and is forgotten
abbrev pub unclaimed : Known → Known
unclaimed v = record {
  keeps = v.keeps;
  all = v.all;
  given = v.given;
  claims = false;
  number = 0;
  entry = no_entry;
  owns = v.owns;
  pid = v.pid;
  past = v.past;
}

-- what was compared with the whole
pub record Checked (v w : Known) : Type 0 where
  pub after : w ≡ unclaimed v
  pub place : v.claims ≡ true → slice_get v.all v.number ≡ Some v.entry
  pub own : v.owns ≡ true → (v.pid < v.given) × (v.past ≡ calls_by v.pid v.all)
