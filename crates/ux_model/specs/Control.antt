-- Control buffers (cmsg(3)): which bytes spell which credentials and rights.
--
-- An item is a head and data. The head is an 8-byte length, which counts the head and the data, a 4-byte level and a 4-byte type, all
-- numbers with the lowest byte first.
use Rattle.std.specs.Prelude.{◌≡◌, ℕ, ◌+◌, ◌-◌, ◌*◌, ◌^◌, ◌%◌, ◌<◌, ◌≤◌, List, [], ◌∷◌, ◌++◌, length, flat_map, Option, Some, None}
use Rattle.std.specs.List.{AllByRecursion}
use Rattle.ux_model.specs.Types.{Cred}
use Rattle.std.specs.Int.{w32, w64, to_le_bytes}

-- ---- the layout

-- the bytes of a head (CMSG_LEN(0))
abbrev pub head_len : ℕ
head_len = 16

-- an item begins at a multiple of this many bytes
abbrev pub alignment : ℕ
alignment = 8

-- the bytes of a descriptor's number
abbrev pub number_len : ℕ
number_len = 4

-- the bytes of credentials with their head (CMSG_LEN), and those up to where the next item begins (CMSG_SPACE)
abbrev pub cred_len : ℕ
cred_len = 28

abbrev pub cred_space : ℕ
cred_space = 32

-- the level of all items, and their types
abbrev pub sol_socket : ℕ
sol_socket = 1

abbrev pub scm_rights : ℕ
scm_rights = 1

abbrev pub scm_credentials : ℕ
scm_credentials = 2

-- the bytes behind so many up to the next multiple of the alignment
abbrev pub padding_behind : ℕ → ℕ
padding_behind len = (alignment - len % alignment) % alignment

-- ---- what a buffer says

pub record Control : Type 0 where
  pub cred : Option Cred
  -- descriptor numbers, in order
  pub rights : List ℕ

pub data Item : Type 0 where
  rights_item : List ℕ → Item
  cred_item : Cred → Item

-- ---- one item

abbrev pub payload : Item → List ℕ
payload (rights_item numbers) = flat_map (to_le_bytes w32) numbers
payload (cred_item cred) = to_le_bytes w32 cred.pid.0 ++ to_le_bytes w32 cred.uid ++ to_le_bytes w32 cred.gid

abbrev pub item_type : Item → ℕ
item_type (rights_item numbers) = scm_rights
item_type (cred_item cred) = scm_credentials

abbrev pub item_bytes : Item → List ℕ
item_bytes item =
    to_le_bytes w64 (head_len + length (payload item)) ++ to_le_bytes w32 sol_socket ++ to_le_bytes w32 (item_type item) ++ payload item

-- its numbers fit their bytes
abbrev pub IsItem : Item → Type 0
IsItem (rights_item numbers) = (head_len + number_len * length numbers < 2 ^ 64) × AllByRecursion (λ n. n < 2 ^ 32) numbers
IsItem (cred_item cred) = (cred.pid.0 < 2 ^ 32) × (cred.uid < 2 ^ 32) × (cred.gid < 2 ^ 32)

-- the bytes from an item's end up to where a next one would stand
abbrev pub padding : Item → ℕ
padding item = padding_behind (length (item_bytes item))

-- ---- a buffer

-- Items one after another. Whatever stands in the padding between two, or behind the last, where it may be cut short.
pub data IsList : List ℕ → List Item → Type 0 where
  nothing : IsList [] []
  last : (item : Item) (pad : List ℕ) → IsItem item → length pad ≤ padding item → IsList (item_bytes item ++ pad) (item ∷ [])
  further : (item : Item) (pad rest : List ℕ) (items : List Item) → IsItem item → length pad ≡ padding item → IsList rest items →
      IsList (item_bytes item ++ (pad ++ rest)) (item ∷ items)

-- the Control that a list of items gives: no type stands twice, and the order is free
pub data MakeUp : List Item → Control → Type 0 where
  neither : MakeUp [] (record { cred = None; rights = [] })
  rights_alone : (numbers : List ℕ) → MakeUp (rights_item numbers ∷ []) (record { cred = None; rights = numbers })
  cred_alone : (cred : Cred) → MakeUp (cred_item cred ∷ []) (record { cred = Some cred; rights = [] })
  cred_first : (cred : Cred) (numbers : List ℕ) →
      MakeUp (cred_item cred ∷ rights_item numbers ∷ []) (record { cred = Some cred; rights = numbers })
  rights_first : (cred : Cred) (numbers : List ℕ) →
      MakeUp (rights_item numbers ∷ cred_item cred ∷ []) (record { cred = Some cred; rights = numbers })

unfoldable pub Spells : List ℕ → Control → Type 0
Spells bytes control = (items : List Item) × IsList bytes items × MakeUp items control

-- what a sender's buffer reads as: the Control that it spells, or nothing where it spells none
unfoldable pub ReadsAs : List ℕ → Option Control → Type 0
ReadsAs bytes (Some control) = Spells bytes control
ReadsAs bytes None = (control : Control) → ¬ (Spells bytes control)

-- a buffer reads as one thing alone
abbrev pub ReadsOnce : Type 0
ReadsOnce = (bytes : List ℕ) (a b : Option Control) → ReadsAs bytes a → ReadsAs bytes b → a ≡ b
