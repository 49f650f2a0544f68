-- How the queue keeps its messages: marks, each for a stretch of the ring's bytes.
use Rattle.std.specs.Prelude.{◌≡◌, ℕ, zero, suc, ◌+◌, ◌-◌, ◌<◌, min, Bool, ◌==◌, ◌&&◌, not, nat_le, if◌then◌else◌, List, [], ◌∷◌, ◌++◌}
use Rattle.std.specs.Prelude.{length, take, drop, Option, None}
use Rattle.std.specs.List.{AllByRecursion}
use Rattle.ux_model.specs.Types.{Cred}
use Rattle.ux_model.specs.Message.{Message, same_cred}
use Rattle.ux_model.specs.Stream.{Origin, origin_of}
use Rattle.ux_stream.specs.declared.marks.Reach.{Reach}

-- a message without its bytes: it has the next count of the ring's
pub record Stretch : Type 0 where
  pub tag : ℕ
  pub count : ℕ
  pub rights : List ℕ
  pub cred : Cred
  pub uid : ℕ

abbrev pub message_of : Stretch → List ℕ → Message
message_of m bytes = record { tag = m.tag; bytes = bytes; rights = m.rights; cred = m.cred; uid = m.uid; from = None }

-- a message without its bytes and a sender's name, which no message of a stream has
abbrev pub stretch_of : Message → Stretch
stretch_of m = record { tag = m.tag; count = length m.bytes; rights = m.rights; cred = m.cred; uid = m.uid }

-- the messages: the bytes, cut by the counts
abbrev pub cut_by : List Stretch → List ℕ → List Message
cut_by [] bytes = []
cut_by (m ∷ ms) bytes = message_of m (take m.count bytes) ∷ cut_by ms (drop m.count bytes)

abbrev pub counted : List Stretch → ℕ
counted [] = 0
counted (m ∷ ms) = m.count + counted ms

pub record IsQueue (marks : List Stretch) (bytes : List ℕ) : Type 0 where
  pub whole : counted marks ≡ length bytes
  -- every message has a byte
  pub some : AllByRecursion (λ m. 0 < m.count) marks

-- ---- what a receive does to marks

-- the bytes of the run that one receive joins
abbrev pub run_count : Bool → Cred → List Stretch → ℕ
run_count wants_cred cred [] = 0
run_count wants_cred cred (m ∷ ms) =
    if wants_cred && not (same_cred m.cred cred) then 0 else
    (if length m.rights == 0 then m.count + run_count wants_cred cred ms else m.count)

-- what one receive takes: how many bytes, and the credentials of the first message
abbrev pub IsReach : Bool → ℕ → Reach → List Stretch → Type 0
IsReach wants_cred n reach [] = reach.count ≡ 0
IsReach wants_cred n reach (m ∷ ms) = (reach.cred ≡ m.cred) × (reach.count ≡ min n (run_count wants_cred m.cred (m ∷ ms)))

abbrev pub rights_among : ℕ → List Stretch → List ℕ
rights_among zero marks = []
rights_among (suc n) [] = []
rights_among (suc n) (m ∷ ms) = m.rights ++ rights_among (suc n - m.count) ms

-- the send of a mark, where it has rights
abbrev pub origin_at : Stretch → Option Origin
origin_at m = origin_of (message_of m [])

abbrev pub origin_among : ℕ → List Stretch → Option Origin
origin_among zero marks = None
origin_among (suc n) [] = None
origin_among (suc n) (m ∷ ms) = if length m.rights == 0 then origin_among (suc n - m.count) ms else origin_at m

abbrev pub marks_without : ℕ → List Stretch → List Stretch
marks_without n [] = []
marks_without zero (m ∷ ms) = m ∷ ms
marks_without (suc n) (m ∷ ms) =
    if nat_le m.count (suc n) then marks_without (suc n - m.count) ms else
    record m { count = m.count - suc n; rights = [] } ∷ ms

-- the bytes up to the end of the first message with rights
abbrev pub barrier_count : List Stretch → ℕ
barrier_count [] = 0
barrier_count (m ∷ ms) = if length m.rights == 0 then m.count + barrier_count ms else m.count
