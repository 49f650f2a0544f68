-- What a reader that goes from left to right makes of a control buffer. It is what the grammar of Control says of the bytes.
use Rattle.std.specs.Prelude.{ℕ, zero, suc, ◌-◌, ◌%◌, ◌<◌, ◌==◌, nat_lt, if◌then◌else◌, List, [], ◌∷◌, length, take, drop, Option, Some}
use Rattle.std.specs.Prelude.{None, is_some, unwrap_or, option_map}
use Rattle.std.specs.List.{AllByRecursion}
use Rattle.std.specs.Int.{Width, w32, w64, byte_len, from_le_bytes}
use Rattle.ux_model.specs.Types.{Cred}
use Rattle.ux_model.specs.Control.{head_len, number_len, sol_socket, scm_rights, scm_credentials, padding_behind, Control, Item}
use Rattle.ux_model.specs.Control.{rights_item, cred_item, ReadsAs}

infixl 10 ◌>>=◌
abbrev pub ◌>>=◌ : {A B : Type 0} → Option A → (A → Option B) → Option B
(Some x) >>= f = f x
None >>= f = None

-- a number at the front, the lowest byte first, and the bytes behind it
abbrev pub number_at : Width → List ℕ → Option (ℕ × List ℕ)
number_at w bytes =
    if nat_lt (length bytes) (byte_len w) then None else Some (from_le_bytes w (take (byte_len w) bytes), drop (byte_len w) bytes)

-- the numbers in four bytes each, one after another
abbrev pub numbers_in : List ℕ → List ℕ
numbers_in (a ∷ b ∷ c ∷ d ∷ rest) = from_le_bytes w32 (a ∷ b ∷ c ∷ d ∷ []) ∷ numbers_in rest
numbers_in _ = []

unfoldable pub cred_in : List ℕ → Option Cred
cred_in payload = do
  pid ← number_at w32 payload
  uid ← number_at w32 pid.1
  gid ← number_at w32 uid.1
  if length gid.1 == 0 then Some (record { pid = record { 0 = pid.0 }; uid = uid.0; gid = gid.0 }) else None

-- the item with this type and data
unfoldable pub item_of : ℕ → List ℕ → Option Item
item_of kind payload =
    if kind == scm_rights then (if length payload % number_len == 0 then Some (rights_item (numbers_in payload)) else None) else
    if kind == scm_credentials then (do
      cred ← cred_in payload
      Some (cred_item cred))
    else None

-- the item whose head has this length, level and type, and the bytes from where a next one would stand
unfoldable pub item_behind : ℕ → ℕ → ℕ → List ℕ → Option (Item × List ℕ)
item_behind len level kind bytes =
    if level == sol_socket then
    (if nat_lt len head_len then None else
    if nat_lt (length bytes) (len - head_len) then None else
    (do
      item ← item_of kind (take (len - head_len) bytes)
      Some (item, drop (padding_behind len) (drop (len - head_len) bytes))))
    else None

-- the item at the front, and the bytes from where a next one would stand
unfoldable pub item_at : List ℕ → Option (Item × List ℕ)
item_at bytes = do
  len ← number_at w64 bytes
  level ← number_at w32 len.1
  kind ← number_at w32 level.1
  item_behind len.0 level.0 kind.0 kind.1

-- ---- the whole buffer

-- what its items say together, as far as they were read
pub record Found : Type 0 where
  pub cred : Option Cred
  pub rights : Option (List ℕ)

abbrev pub nothing_found : Found
nothing_found = record { cred = None; rights = None }

-- with one item more, unless one of its type was found before
abbrev pub with_item : Found → Item → Option Found
with_item found (rights_item numbers) = if is_some found.rights then None else Some (record found { rights = Some numbers })
with_item found (cred_item cred) = if is_some found.cred then None else Some (record found { cred = Some cred })

-- with all items of these bytes more, which are at most so many
unfoldable pub with_items : ℕ → Found → List ℕ → Option Found
with_items n found [] = Some found
with_items zero found (b ∷ bytes) = None
with_items (suc n) found (b ∷ bytes) = do
  item ← item_at (b ∷ bytes)
  more ← with_item found item.0
  with_items n more item.1

abbrev pub control_of : Found → Control
control_of found = record { cred = found.cred; rights = unwrap_or found.rights [] }

-- what the bytes spell, or nothing where they spell no Control; an item has a byte at least
unfoldable pub control_in : List ℕ → Option Control
control_in bytes = option_map control_of (with_items (length bytes) nothing_found bytes)

-- ---- laws

-- what is read is what the grammar says, of bytes
abbrev pub ReadsByGrammar : Type 0
ReadsByGrammar = (bytes : List ℕ) → AllByRecursion (λ b. b < 256) bytes → ReadsAs bytes (control_in bytes)
