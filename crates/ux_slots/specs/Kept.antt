-- How `Slots` keeps its values. No public clause cites this module.
use Rattle.std.specs.Prelude.{◌≡◌, ◌≢◌, ◌⊎◌, ℕ, ◌<◌, ◌-◌, ◌^◌, min, List, [], ◌∷◌, Option, None, Some, map, option_map, option_and_then}
use Rattle.std.specs.Option.{option_map_or}
use Rattle.std.specs.List.{range_with_len}
use Rattle.std.specs.HashMap.{HashMap, spare}
use Rattle.std.specs.declared.hash.FoldHasher.{FoldHasher}
use Rattle.std.specs.declared.hash.BuildHasherDefault.{BuildHasherDefault}
use Rattle.slab.specs.Slab.{Slab, slab_len}
use Rattle.ux_slots.specs.declared.slot.Slot.{Slot}

-- a map from numbers to keys
abbrev pub Index : Type 0
Index = HashMap ℕ ℕ (BuildHasherDefault FoldHasher)

-- the list has this key
abbrev pub IsAmong : ℕ → List ℕ → Type 0
IsAmong key [] = ⊥
IsAmong key (k ∷ ks) = (key ≡ k) ⊎ IsAmong key ks

-- the list has each of its keys once
abbrev pub EachOnce : List ℕ → Type 0
EachOnce [] = Unit {0}
EachOnce (k ∷ ks) = (IsAmong k ks → ⊥) × EachOnce ks

-- what a function has at one number is put there, and the rest stays
pub record Puts {X : Type 0} (old new : ℕ → Option X) (at : ℕ) (o : Option X) : Type 0 where
  pub here : new at ≡ o
  pub others : (q : ℕ) → q ≢ at → new q ≡ old q

module _ {T : Type 0} where
  abbrev pub value_in : Option (Slot T) → Option T
  value_in o = option_map (λ s. s.value) o

  abbrev pub number_in : Option (Slot T) → Option ℕ
  number_in o = option_map (λ s. s.number) o

  abbrev pub count_in : Option (Slot T) → ℕ
  count_in o = option_map_or (λ s. s.count) o 0

  -- the slot of a number, where `slot` has the slots by key and `key` the keys by number
  abbrev pub slot_of : (ℕ → Option (Slot T)) → (ℕ → Option ℕ) → ℕ → Option (Slot T)
  slot_of slot key d = option_and_then slot (key d)

  -- what is seen in the slot of each number that was given
  abbrev pub seen : {X : Type 0} → (Option (Slot T) → X) → (ℕ → Option (Slot T)) → ℕ → List X
  seen see found next = map (λ d. see (found d)) (range_with_len 0 next)

  -- for how many more values there is memory, and a number
  abbrev pub room_of : Slab (Slot T) → Index → ℕ → ℕ
  room_of slots index next = min (slots.capacity - slab_len slots) (min (spare index) (2 ^ 128 - 1 - next))

  -- the links lead from the head through these keys, whose slots have count 0
  abbrev pub IsChain : (ℕ → Option (Slot T)) → Option ℕ → List ℕ → Type 0
  IsChain slot head [] = head ≡ None
  IsChain slot head (k ∷ ks) = (head ≡ Some k) × (s : Slot T) × (slot k ≡ Some s) × (s.count ≡ 0) × IsChain slot s.next ks

  -- each slot of count 0 stands on the list once, and no other
  pub record IsReleaseList (slot : ℕ → Option (Slot T)) (head : Option ℕ) : Type 0 where
    pub keys : List ℕ
    pub chain : IsChain slot head keys
    pub once : EachOnce keys
    pub all : (k : ℕ) (s : Slot T) → slot k ≡ Some s → s.count ≡ 0 → IsAmong k keys

  pub record IsKept (slot : ℕ → Option (Slot T)) (key : ℕ → Option ℕ) (next : ℕ) (head : Option ℕ) : Type 0 where
    -- a number leads to the slot that has it
    pub found : (d k : ℕ) → key d ≡ Some k → number_in (slot k) ≡ Some d
    -- and each slot is found so
    pub indexed : (k : ℕ) (s : Slot T) → slot k ≡ Some s → key s.number ≡ Some k
    -- a number that is still to be given leads nowhere
    pub young : (d k : ℕ) → key d ≡ Some k → d < next
    pub released : IsReleaseList slot head

  -- the slot is put in front of a release list
  abbrev pub put_in_front : Option ℕ → Option (Slot T) → Option (Slot T)
  put_in_front head o = option_map (λ (s : Slot T). record s { count = 0; next = head }) o

  -- every slot was released, and the new release list begins at this head
  pub record IsReleased (old new : ℕ → Option (Slot T)) (head : Option ℕ) : Type 0 where
    pub numbers : (k : ℕ) → number_in (new k) ≡ number_in (old k)
    pub values : (k : ℕ) → value_in (new k) ≡ value_in (old k)
    pub counts : (k : ℕ) → ◌≡◌ {A = ℕ} (count_in (new k)) 0
    pub released : IsReleaseList new head
