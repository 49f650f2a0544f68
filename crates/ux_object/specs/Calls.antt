-- What a read and a write of an object may answer, and the view that they leave.
use Rattle.std.specs.Prelude.{◌≡◌, ◌+◌, ◌≤◌, ◌↔◌, ℕ, IsTrue, IfOk, IfErr, List, Result, Ok, Err, is_ok, take}
use Rattle.ux_model.specs.Object.{Body, View, ObjectError, would_block, full, invalid, read_body, write_body, with_body, is_memory}
use Rattle.ux_model.specs.Object.{can_fail, after_failure}
use Rattle.ux_object.specs.declared.ObjError.{ObjError}
use Rattle.ux_object.specs.declared.ObjError.TheVariants.{WouldBlock, Io, Full, NoMemory, Invalid}

-- a read of n bytes at `at` gives these bytes, and changes the body alone
pub record GivesRead (old : View) (at n : ℕ) (bytes : List ℕ) (new : View) : Type 0 where
  pub answer : read_body old.body at n ≡ Ok (bytes, new.body)
  pub rest : new ≡ with_body old new.body

-- a write at `at` takes so many of the bytes, and changes the body alone
pub record GivesWrite (old : View) (at : ℕ) (bytes : List ℕ) (count : ℕ) (new : View) : Type 0 where
  pub answer : write_body old.body at bytes ≡ Ok (count, new.body)
  pub rest : new ≡ with_body old new.body

-- it is refused by what is in it, and nothing changes
pub record IsRefused {A : Type 0} (due : Result (A × Body) ObjectError) (error : ObjectError) (old new : View) : Type 0 where
  pub answer : due ≡ Err error
  pub same : new ≡ old

-- it failed: the count of failures is one higher, which it could be, and nothing else changes
pub record IsFailure (old new : View) : Type 0 where
  pub possible : IsTrue (can_fail old)
  pub counted : new ≡ after_failure old

-- a memory file that would have taken the data had no memory for it, and nothing changes
pub record LacksMemory (due : Result (ℕ × Body) ObjectError) (old new : View) : Type 0 where
  pub file : IsTrue (is_memory old.body)
  pub wanted : IsTrue (is_ok due)
  pub same : new ≡ old

-- a read of n bytes at `at` may be refused so
abbrev pub RefusesRead : View → ℕ → ℕ → ObjError → View → Type 0
RefusesRead old at n WouldBlock new = IsRefused (read_body old.body at n) would_block old new
RefusesRead old at n Io new = IsFailure old new
RefusesRead old at n Full new = ⊥
RefusesRead old at n NoMemory new = ⊥
RefusesRead old at n Invalid new = IsRefused (read_body old.body at n) invalid old new

-- a write of the bytes at `at` may be refused so
abbrev pub RefusesWrite : View → ℕ → List ℕ → ObjError → View → Type 0
RefusesWrite old at bytes WouldBlock new = IsRefused (write_body old.body at bytes) would_block old new
RefusesWrite old at bytes Io new = IsFailure old new
RefusesWrite old at bytes Full new = IsRefused (write_body old.body at bytes) full old new
RefusesWrite old at bytes NoMemory new = LacksMemory (write_body old.body at bytes) old new
RefusesWrite old at bytes Invalid new = IsRefused (write_body old.body at bytes) invalid old new

-- the count of failures is one higher exactly where the answer is Io
abbrev pub CountsFailures : Result ℕ ObjError → View → View → Type 0
CountsFailures answer old new = (answer ≡ Err ObjError.Io) ↔ (new.faults ≡ old.faults + 1)

-- what a read of n bytes at `at` answers, with the bytes in the front of the buffer, and the view that it leaves
pub record Reads (old : View) (at n : ℕ) (answer : Result ℕ ObjError) (buffer : List ℕ) (new : View) : Type 0 where
  pub fits : IfOk answer (λ count. count ≤ n)
  pub gives : IfOk answer (λ count. GivesRead old at n (take count buffer) new)
  pub refuses : IfErr answer (λ e. RefusesRead old at n e new)
  pub counts : CountsFailures answer old new

-- what a write of these bytes at `at` answers, and the view that it leaves
pub record Writes (old : View) (at : ℕ) (bytes : List ℕ) (answer : Result ℕ ObjError) (new : View) : Type 0 where
  pub gives : IfOk answer (λ count. GivesWrite old at bytes count new)
  pub refuses : IfErr answer (λ e. RefusesWrite old at bytes e new)
  pub counts : CountsFailures answer old new
