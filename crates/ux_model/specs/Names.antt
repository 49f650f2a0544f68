-- Names of files and sockets: which are valid, and which the layer gives by itself (unix(7)).
use Rattle.std.specs.Prelude.{◌≡◌, ℕ, zero, suc, ◌+◌, ◌/◌, ◌%◌, ◌<◌, Bool, true, false, not, ◌&&◌, ◌==◌, nat_lt, nat_le, if◌then◌else◌}
use Rattle.std.specs.Prelude.{List, [], ◌∷◌, length, filter, Option, Some, None, is_none, option_map}
use Rattle.std.specs.List.{list_any}
use Rattle.std.specs.Cmp.Lexicographic.{pointwise}
use Rattle.ux_model.specs.Types.{Name, Addr}
use Rattle.ux_model.specs.Limits.{name_limit, autobind_names}

-- What a path names: a file object, or the socket of a description, which may be gone.
pub data PathTarget : Type 0 where
  file : ℕ → PathTarget
  bound : ℕ → PathTarget

abbrev pub same_name : Name → Name → Bool
same_name a b = pointwise ◌==◌ a b

-- what stands beside the name, if it is listed
abbrev pub named : {X : Type 0} → Name → List (Name × X) → Option X
named name [] = None
named name (e ∷ es) = if same_name e.0 name then Some e.1 else named name es

-- the others, in their order
abbrev pub without_name : {X : Type 0} → Name → List (Name × X) → List (Name × X)
without_name name names = filter (λ e. not (same_name e.0 name)) names

-- ---- validity

-- 1 to 107 bytes without NUL
abbrev pub is_valid_path : Name → Bool
is_valid_path name = nat_lt 0 (length name) && nat_le (length name) name_limit && not (list_any (λ b. b == 0) name)

abbrev pub is_valid_addr : Addr → Bool
is_valid_addr Addr.Unnamed = true
is_valid_addr (Addr.Path name) = is_valid_path name
is_valid_addr (Addr.Abstract name) = nat_le (length name) name_limit

abbrev pub is_unnamed_addr : Addr → Bool
is_unnamed_addr Addr.Unnamed = true
is_unnamed_addr (Addr.Path name) = false
is_unnamed_addr (Addr.Abstract name) = false

-- ---- autobind

abbrev pub hex_digit : ℕ → ℕ
hex_digit n = if nat_lt n 10 then 48 + n else 87 + n

-- five digits of 0-9a-f, the highest first
abbrev pub autobind_name : ℕ → Name
autobind_name n =
    hex_digit (n / 65536 % 16) ∷ hex_digit (n / 4096 % 16) ∷ hex_digit (n / 256 % 16) ∷ hex_digit (n / 16 % 16) ∷ hex_digit (n % 16) ∷ []

-- none of these is the name of this number
abbrev pub is_unused : List (Name × ℕ) → ℕ → Bool
is_unused names n = is_none (named (autobind_name n) names)

-- the name that autobind gives while these are in use: that of the least number whose name isn't, if there is one
abbrev pub IsFreeName : List (Name × ℕ) → Option Name → Type 0
IsFreeName names (Some name) =
    (n : ℕ) × (n < autobind_names) × (name ≡ autobind_name n) × (is_unused names n ≡ true) × ((k : ℕ) → k < n → is_unused names k ≡ false)
IsFreeName names None = (k : ℕ) → k < autobind_names → is_unused names k ≡ false

-- the lowest of so many numbers, from n on, that passes a test
abbrev pub lowest_from : (ℕ → Bool) → ℕ → ℕ → Option ℕ
lowest_from test n zero = None
lowest_from test n (suc more) = elim (test n) [ true ↦ Some n | false ↦ lowest_from test (suc n) more ]

-- that name
unfoldable pub free_name : List (Name × ℕ) → Option Name
free_name names = option_map autobind_name (lowest_from (is_unused names) 0 autobind_names)

abbrev pub FreeNameIsLeast : Type 0
FreeNameIsLeast = (names : List (Name × ℕ)) → IsFreeName names (free_name names)
