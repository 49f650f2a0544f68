-- An item that is read at the front stands there, and one that stands there is read.
use Rattle.std.proofs.Common.{◌≡◌, ℕ, ◌+◌, ◌-◌, ◌*◌, ◌%◌, ◌^◌, ◌<◌, ◌≤◌, Bool, true, false, cond, ltb, eqb, List, [], ◌++◌, length, take}
use Rattle.std.proofs.Common.{drop, Option, Some, None, refl, sym, ap, subst, ◌∙◌, append_assoc, arith}
use Rattle.std.specs.List.{flat_map}
use Rattle.std.specs.Int.{w32, w64, to_le_bytes, from_le_bytes}
use Rattle.std.proofs.lemmas.Bool.{eqb-true, ltb-false, le-ltb}
use Rattle.std.proofs.lemmas.List.{take_at, drop_at, append-nil, nil_from_length, take-append-drop, length-append, length-take}
use Rattle.ux_model.specs.Types.{Cred}
use Rattle.ux_model.specs.Control.{Item, rights_item, cred_item, payload, item_type, item_bytes, padding, IsItem}
use Rattle.ux_model.specs.ControlReading.{◌>>=◌, number_at, numbers_in, cred_in, item_of, item_behind, item_at}
use Rattle.ux_cmsg.specs.Items.{head_bytes}
use Rattle.ux_cmsg.proofs.Numbers.{IsBytes, IsBytes-take, IsBytes-drop, bind_some, only_if, unless, wide32, wide64, TakesNumber}
use Rattle.ux_cmsg.proofs.Numbers.{number_takes, number_again, length-numbers, AreNumbers, numbers_taken, numbers_again}

pub eq_some : {A : Type 0} (x y : A) → ◌≡◌ {A = Option A} (Some x) (Some y) → x ≡ y
eq_some x y e = cc

-- ---- credentials

three_parts : (bytes a behind_a b behind_b c behind_c : List ℕ) → bytes ≡ a ++ behind_a → behind_a ≡ b ++ behind_b →
    behind_b ≡ c ++ behind_c → behind_c ≡ [] → bytes ≡ (a ++ b) ++ c
three_parts bytes a behind_a b behind_b c behind_c first second third ended =
    let last : behind_b ≡ c = rw ended at third ∙ append-nil c in
    rw (first, second, last) (sym (append_assoc a b c))

pub record IsCredOf (bytes : List ℕ) (c : Cred) : Type 0 where
  pub spelled : bytes ≡ payload (cred_item c)
  pub fits : IsItem (cred_item c)

cred_from : (bytes behind_pid behind_uid behind_gid : List ℕ) (pid uid gid : ℕ) (c : Cred)
    → TakesNumber w32 (2 ^ 32) bytes pid behind_pid → TakesNumber w32 (2 ^ 32) behind_pid uid behind_uid →
    TakesNumber w32 (2 ^ 32) behind_uid gid behind_gid
    → cond (eqb (length behind_gid) 0) (Some (record { pid = record { 0 = pid }; uid = uid; gid = gid })) None ≡ Some c → IsCredOf bytes c
cred_from bytes behind_pid behind_uid behind_gid pid uid gid c p u g e =
    let made : Cred = record { pid = record { 0 = pid }; uid = uid; gid = gid } in
    let found = only_if (eqb (length behind_gid) 0) (Some made) c e in
    let ended : behind_gid ≡ [] = nil_from_length behind_gid (eqb-true _ _ found.0) in
    let all : bytes ≡ payload (cred_item made) =
    three_parts bytes (to_le_bytes w32 pid) behind_pid (to_le_bytes w32 uid) behind_uid (to_le_bytes w32 gid) behind_gid p.parts u.parts
    g.parts ended in
    subst (λ (d : Cred). IsCredOf bytes d) (eq_some made c found.1) (record { spelled = all; fits = (p.below, u.below, g.below) })

cred_taken : (bytes : List ℕ) (c : Cred) → IsBytes bytes → cred_in bytes ≡ Some c → IsCredOf bytes c
unfolding cred_in
cred_taken bytes c fits e =
    let ended = λ (pid uid : ℕ) (gid : ℕ × List ℕ).
    cond (eqb (length gid.1) 0) (Some (record { pid = record { 0 = pid }; uid = uid; gid = gid.0 })) None in
    let p = bind_some (number_at w32 bytes) (λ pid. number_at w32 pid.1 >>= λ uid. number_at w32 uid.1 >>= λ gid. ended pid.0 uid.0 gid) c e
    in
    let u = bind_some (number_at w32 p.0.1) (λ uid. number_at w32 uid.1 >>= λ gid. ended p.0.0 uid.0 gid) c p.2 in
    let g = bind_some (number_at w32 u.0.1) (λ gid. ended p.0.0 u.0.0 gid) c u.2 in
    let tp : TakesNumber w32 (2 ^ 32) bytes p.0.0 p.0.1 = number_takes w32 (2 ^ 32) wide32 bytes p.0 fits p.1 in
    let tu : TakesNumber w32 (2 ^ 32) p.0.1 u.0.0 u.0.1 = number_takes w32 (2 ^ 32) wide32 p.0.1 u.0 tp.rest_fits u.1 in
    let tg : TakesNumber w32 (2 ^ 32) u.0.1 g.0.0 g.0.1 = number_takes w32 (2 ^ 32) wide32 u.0.1 g.0 tu.rest_fits g.1 in
    cred_from bytes p.0.1 u.0.1 g.0.1 p.0.0 u.0.0 g.0.0 c tp tu tg g.2

cred_again : (c : Cred) → IsItem (cred_item c) → cred_in (payload (cred_item c)) ≡ Some c
unfolding cred_in
cred_again c fits =
    let pid : from_le_bytes w32 (to_le_bytes w32 c.pid.0) ≡ c.pid.0 = wide32.again c.pid.0 fits.0 in
    let uid : from_le_bytes w32 (to_le_bytes w32 c.uid) ≡ c.uid = wide32.again c.uid fits.1 in
    let gid : from_le_bytes w32 (to_le_bytes w32 c.gid) ≡ c.gid = wide32.again c.gid fits.2 in
    λ k. Some (record { pid = record { 0 = pid k }; uid = uid k; gid = gid k })

-- ---- one item behind its head

pub record IsItemOf (kind : ℕ) (bytes : List ℕ) (item : Item) : Type 0 where
  pub kind_is : kind ≡ item_type item
  pub spelled : bytes ≡ payload item
  pub fits : IsItem item

item_taken : (kind : ℕ) (bytes : List ℕ) (item : Item) → IsBytes bytes → 16 + length bytes < 2 ^ 64 → item_of kind bytes ≡ Some item →
    IsItemOf kind bytes item
unfolding item_of
item_taken kind bytes item fits short e = of_kind (eqb kind 1) (eqb kind 2) refl refl e
  where
    rights_taken : kind ≡ 1 → cond (eqb (length bytes % 4) 0) (Some (rights_item (numbers_in bytes))) None ≡ Some item →
        IsItemOf kind bytes item
    rights_taken is e =
        let found = only_if (eqb (length bytes % 4) 0) (Some (rights_item (numbers_in bytes))) item e in
        let numbers : AreNumbers bytes (numbers_in bytes) = numbers_taken bytes fits (eqb-true _ _ found.0) in
        let long : length bytes ≡ 4 * length (numbers_in bytes) = ap length (sym numbers.spelled) ∙ length-numbers (numbers_in bytes) in
        subst (λ (i : Item). IsItemOf kind bytes i) (eq_some (rights_item (numbers_in bytes)) item found.1)
        (record { kind_is = is; spelled = sym numbers.spelled; fits = (omega (arith, long, short), numbers.below) })

    cred_taken_here : kind ≡ 2 → (cred_in bytes >>= λ c. Some (cred_item c)) ≡ Some item → IsItemOf kind bytes item
    cred_taken_here is e =
        let found = bind_some (cred_in bytes) (λ c. Some (cred_item c)) item e in
        let cred : IsCredOf bytes found.0 = cred_taken bytes found.0 fits found.1 in
        subst (λ (i : Item). IsItemOf kind bytes i) (eq_some (cred_item found.0) item found.2)
        (record { kind_is = is; spelled = cred.spelled; fits = cred.fits })

    of_kind : (rights creds : Bool) → eqb kind 1 ≡ rights → eqb kind 2 ≡ creds →
        cond rights (cond (eqb (length bytes % 4) 0) (Some (rights_item (numbers_in bytes))) None)
        (cond creds (cred_in bytes >>= λ c. Some (cred_item c)) None) ≡ Some item → IsItemOf kind bytes item
    of_kind true creds is not_is e = rights_taken (eqb-true _ _ is) e
    of_kind false true not_is is e = cred_taken_here (eqb-true _ _ is) e
    of_kind false false not_is nor_is e = absurd cc

item_again_of : (item : Item) → IsItem item → item_of (item_type item) (payload item) ≡ Some item
unfolding item_of
item_again_of (rights_item ns) fits =
    let whole : length (flat_map (to_le_bytes w32) ns) % 4 ≡ 0 = omega (arith, length-numbers ns) in
    rw (whole, numbers_again ns fits.1) refl
item_again_of (cred_item c) fits = rw (cred_again c fits) refl

-- ---- one item with its head

-- the item at the front, and what stands behind it and its padding
pub record TakesItem (bytes : List ℕ) (item : Item) (rest : List ℕ) : Type 0 where
  pub behind : List ℕ
  pub parts : bytes ≡ item_bytes item ++ behind
  pub rest_is : rest ≡ drop (padding item) behind
  pub fits : IsItem item
  pub rest_fits : IsBytes rest

length-item : (item : Item) → length (item_bytes item) ≡ 16 + length (payload item)
length-item item = omega (arith, length-append (head_bytes (16 + length (payload item)) (item_type item)) (payload item))

-- what the head says of the bytes behind it
pub record IsBehindHead (len level kind : ℕ) (bytes : List ℕ) (item : Item) (rest : List ℕ) : Type 0 where
  pub level_is : level ≡ 1
  pub kind_is : kind ≡ item_type item
  pub len_is : len ≡ 16 + length (payload item)
  pub behind : List ℕ
  pub parts : bytes ≡ payload item ++ behind
  pub rest_is : rest ≡ drop (padding item) behind
  pub fits : IsItem item
  pub rest_fits : IsBytes rest

behind_from : (len level kind n : ℕ) (bytes front behind rest : List ℕ) (item : Item) (x : Item × List ℕ) → level ≡ 1 → 16 ≤ len →
    n ≡ len - 16 → length front ≡ n → bytes ≡ front ++ behind
    → IsItemOf kind front item → rest ≡ drop ((8 - len % 8) % 8) behind → IsBytes rest →
    ◌≡◌ {A = Option (Item × List ℕ)} (Some (item, rest)) (Some x) → IsBehindHead len level kind bytes x.0 x.1
behind_from len level kind n bytes front behind rest item x level_is low n-is long split is rest_is fits e =
    let paid : length (payload item) ≡ n = sym (ap length is.spelled) ∙ long in
    let whole : length (item_bytes item) ≡ len = omega (arith, length-item item, paid, low, n-is) in
    let padded : rest ≡ drop (padding item) behind = rest_is ∙ ap (λ (m : ℕ). drop ((8 - m % 8) % 8) behind) (sym whole) in
    subst (λ (y : Item × List ℕ). IsBehindHead len level kind bytes y.0 y.1) (eq_some (item, rest) x e) (record {
      level_is = level_is;
      kind_is = is.kind_is;
      len_is = omega (arith, paid, low, n-is);
      behind = behind;
      parts = split ∙ ap (λ (f : List ℕ). f ++ behind) is.spelled;
      rest_is = padded;
      fits = is.fits;
      rest_fits = fits;
    })

behind_taken : (len level kind : ℕ) (bytes : List ℕ) (x : Item × List ℕ) → len < 2 ^ 64 → IsBytes bytes →
    item_behind len level kind bytes ≡ Some x → IsBehindHead len level kind bytes x.0 x.1
unfolding item_behind
behind_taken len level kind bytes x short fits e =
    let n : ℕ = len - 16 in
    let front : List ℕ = take n bytes in
    let rest : List ℕ = drop ((8 - len % 8) % 8) (drop n bytes) in
    let read : Option (Item × List ℕ) = item_of kind front >>= λ item. Some (item, rest) in
    let of_level = only_if (eqb level 1) (cond (ltb len 16) None (cond (ltb (length bytes) n) None read)) x e in
    let of_len = unless (ltb len 16) (cond (ltb (length bytes) n) None read) x of_level.1 in
    let of_room = unless (ltb (length bytes) n) read x of_len.1 in
    let found = bind_some (item_of kind front) (λ item. Some (item, rest)) x of_room.1 in
    let low : 16 ≤ len = ltb-false _ _ of_len.0 in
    let room : n ≤ length bytes = ltb-false _ _ of_room.0 in
    let long : length front ≡ n = omega (arith, length-take n bytes) in
    let is : IsItemOf kind front found.0 = item_taken kind front found.0 (IsBytes-take n bytes fits) (omega (arith, long, low, short))
    found.1 in
    behind_from len level kind n bytes front (drop n bytes) rest found.0 x (eqb-true _ _ of_level.0) low refl long
    (sym (take-append-drop n bytes)) is refl
    (IsBytes-drop ((8 - len % 8) % 8) (drop n bytes) (IsBytes-drop n bytes fits)) found.2

short_item : (item : Item) → IsItem item → 16 + length (payload item) < 2 ^ 64
short_item (rights_item ns) fits = let room = fits.0 in omega (arith, length-numbers ns, room)
short_item (cred_item c) fits = omega arith

kind_fits : (item : Item) → item_type item < 2 ^ 32
kind_fits (rights_item ns) = omega arith
kind_fits (cred_item c) = omega arith

behind_again : (item : Item) (behind : List ℕ) → IsItem item →
    item_behind (16 + length (payload item)) 1 (item_type item) (payload item ++ behind) ≡ Some (item, drop (padding item) behind)
unfolding item_behind
behind_again item behind fits =
    let n : ℕ = length (payload item) in
    let len : 16 + n - 16 ≡ n = omega arith in
    let low : ltb (16 + n) 16 ≡ false = le-ltb _ _ (omega arith) in
    let room : ltb (length (payload item ++ behind)) n ≡ false = le-ltb _ _ (omega (arith, length-append (payload item) behind)) in
    let whole : length (item_bytes item) ≡ 16 + n = length-item item in
    rw (low, len, room, take_at (payload item) behind n refl, drop_at (payload item) behind n refl, item_again_of item fits, whole) refl

four_parts : (bytes a behind_a b behind_b c behind_c d behind : List ℕ) → bytes ≡ a ++ behind_a → behind_a ≡ b ++ behind_b →
    behind_b ≡ c ++ behind_c → behind_c ≡ d ++ behind → bytes ≡ (((a ++ b) ++ c) ++ d) ++ behind
four_parts bytes a behind_a b behind_b c behind_c d behind first second third fourth = rw (first, second, third, fourth) (simp append_assoc)

item_from : (bytes behind_len behind_level behind_kind : List ℕ) (len level kind : ℕ) (item : Item) (rest : List ℕ)
    → bytes ≡ to_le_bytes w64 len ++ behind_len → behind_len ≡ to_le_bytes w32 level ++ behind_level →
    behind_level ≡ to_le_bytes w32 kind ++ behind_kind
    → IsBehindHead len level kind behind_kind item rest → TakesItem bytes item rest
item_from bytes behind_len behind_level behind_kind len level kind item rest first second third found =
    let len_again = ap (λ (n : ℕ). to_le_bytes w64 n ++ behind_len) found.len_is in
    let level_again = ap (λ (n : ℕ). to_le_bytes w32 n ++ behind_level) found.level_is in
    let kind_again = ap (λ (n : ℕ). to_le_bytes w32 n ++ behind_kind) found.kind_is in
    record {
      behind = found.behind;
      parts = four_parts bytes (to_le_bytes w64 (16 + length (payload item))) behind_len (to_le_bytes w32 1) behind_level
          (to_le_bytes w32 (item_type item)) behind_kind (payload item) found.behind
          (first ∙ len_again) (second ∙ level_again) (third ∙ kind_again) found.parts;
      rest_is = found.rest_is;
      fits = found.fits;
      rest_fits = found.rest_fits;
    }

pub item_takes : (bytes : List ℕ) (x : Item × List ℕ) → IsBytes bytes → item_at bytes ≡ Some x → TakesItem bytes x.0 x.1
unfolding item_at
item_takes bytes x fits e =
    let l = bind_some (number_at w64 bytes) (λ len. number_at w32 len.1 >>= λ level. number_at w32 level.1 >>= λ kind.
    item_behind len.0 level.0 kind.0 kind.1) x e in
    let v = bind_some (number_at w32 l.0.1) (λ level. number_at w32 level.1 >>= λ kind. item_behind l.0.0 level.0 kind.0 kind.1) x l.2 in
    let k = bind_some (number_at w32 v.0.1) (λ kind. item_behind l.0.0 v.0.0 kind.0 kind.1) x v.2 in
    let tl : TakesNumber w64 (2 ^ 64) bytes l.0.0 l.0.1 = number_takes w64 (2 ^ 64) wide64 bytes l.0 fits l.1 in
    let tv : TakesNumber w32 (2 ^ 32) l.0.1 v.0.0 v.0.1 = number_takes w32 (2 ^ 32) wide32 l.0.1 v.0 tl.rest_fits v.1 in
    let tk : TakesNumber w32 (2 ^ 32) v.0.1 k.0.0 k.0.1 = number_takes w32 (2 ^ 32) wide32 v.0.1 k.0 tv.rest_fits k.1 in
    item_from bytes l.0.1 v.0.1 k.0.1 l.0.0 v.0.0 k.0.0 x.0 x.1 tl.parts tv.parts tk.parts
    (behind_taken l.0.0 v.0.0 k.0.0 k.0.1 x tl.below tk.rest_fits k.2)

pub item_again : (item : Item) (behind : List ℕ) → IsItem item →
    item_at (item_bytes item ++ behind) ≡ Some (item, drop (padding item) behind)
unfolding item_at
item_again item behind fits =
    let len : ℕ = 16 + length (payload item) in
    let kind : ℕ = item_type item in
    let tail : List ℕ = payload item ++ behind in
    let regrouped : item_bytes item ++ behind ≡ to_le_bytes w64 len ++ (to_le_bytes w32 1 ++ (to_le_bytes w32 kind ++ tail)) = refl in
    ap item_at regrouped ∙ rw (
      number_again w64 (2 ^ 64) wide64 len (to_le_bytes w32 1 ++ (to_le_bytes w32 kind ++ tail)) (short_item item fits),
      number_again w32 (2 ^ 32) wide32 1 (to_le_bytes w32 kind ++ tail) (omega arith),
      number_again w32 (2 ^ 32) wide32 kind tail (kind_fits item),
    ) (behind_again item behind fits)
