-- A read and a write by the description that a number leads to.
use Rattle.std.proofs.Common.{◌≡◌, ℕ, min, List, Some, None, Result, Ok, Err, sym, ◌∙◌, ap, subst}
use Rattle.std.proofs.Math.Nat.{min_comm}
use Rattle.ux_model.specs.Types.{Errno, Refusal, Fd, Reply}
use Rattle.ux_model.specs.Limits.{read_limit}
use Rattle.ux_model.specs.Description.{Description}
use Rattle.ux_model.specs.Process.{Descriptor}
use Rattle.ux_model.specs.State.{State, description_at}
use Rattle.ux_model.specs.Outcome.{Outcome, refuse, find_description}
use Rattle.ux_msg.specs.Answers.{GivesOrFails}
use Rattle.ux_model.specs.Reading.{read}
use Rattle.ux_model.specs.FileObjects.{on_object}
use Rattle.ux_model.specs.Writing.{write, write_object}
use Rattle.ux_kernel.specs.declared.open_file.OpenFile.{OpenFile}
use Rattle.ux_kernel.specs.FileCalls.{description_of, read_of, read_at, write_file, write_of, write_at}
use Rattle.ux_msg.proofs.Found.{found}

-- what the rest says of the description that was found, by its number and by the entry
by_entry : (S : State) (p : ℕ) (fd : Fd) (e : Descriptor) (D : Description) (rest : ℕ → Description → Outcome) →
    find_description S p fd ≡ Ok (e, D) →
    (elim (description_at S e.description) as (λ _. Outcome) [ None ↦ refuse S Errno.EBADF | Some D ↦ rest e.description D ])
    ≡ (elim (find_description S p fd) as (λ _. Outcome) [ Err x ↦ refuse S x | Ok f ↦ rest f.0.description f.1 ])
by_entry S p fd e D rest h =
    ap (λ o. elim o as (λ _. Outcome) [ None ↦ refuse S Errno.EBADF | Some D ↦ rest e.description D ]) (found S p fd e D h).description
    ∙ sym (ap (λ r. elim r as (λ _. Outcome) [ Err x ↦ refuse S x | Ok f ↦ rest (Descriptor.description f.0) f.1 ]) h)

pub read_found : (S T : State) (p : ℕ) (fd : Fd) (n d m : ℕ) (e : Descriptor) (D : Description) (r : Result Reply Refusal) →
    find_description S p fd ≡ Ok (e, D) →
    d ≡ e.description → m ≡ min n read_limit → GivesOrFails S (read_at S p d m) r T → GivesOrFails S (read S p fd n) r T
unfolding read
read_found S T p fd n d m e D r h same least g =
    let P : Outcome → Type 0 = λ o. GivesOrFails S o r T in
    subst P ((λ j. read_at S p (same j) (least j)) ∙ ap (read_at S p e.description) (min_comm n read_limit)
    ∙ by_entry S p fd e D (λ d D. read_of S p d D (min read_limit n)) h) g

pub write_found : (S T : State) (p tag : ℕ) (fd : Fd) (bytes : List ℕ) (d : ℕ) (e : Descriptor) (D : Description)
    (r : Result Reply Refusal) → find_description S p fd ≡ Ok (e, D) →
    d ≡ e.description → GivesOrFails S (write_at S p tag d bytes) r T → GivesOrFails S (write S p tag fd bytes) r T
unfolding write
write_found S T p tag fd bytes d e D r h same g =
    let P : Outcome → Type 0 = λ o. GivesOrFails S o r T in
    subst P ((λ j. write_at S p tag (same j) bytes) ∙ by_entry S p fd e D (λ d D. write_of S p tag d D bytes) h) g

-- A write by a number that leads to this file is answered as the file's.
pub written_to : (S : State) (p tag : ℕ) (fd : Fd) (f : OpenFile) (e : Descriptor) (D : Description) (bytes : List ℕ) (reply : Reply) →
    find_description S p fd ≡ Ok (e, D) → f.id ≡ e.description → D ≡ description_of f → (write_file S f bytes).reply ≡ reply →
    (write S p tag fd bytes).reply ≡ reply
unfolding write
written_to S p tag fd f e D bytes reply found same is answered =
    ap (λ (r : Result (Descriptor × Description) Errno). (elim r as (λ _. Outcome) [
      | Err x ↦ refuse S x
      | Ok g ↦ write_of S p tag (Descriptor.description g.0) g.1 bytes
    ]).reply) found
    ∙ ap (λ (x : Description). (write_of S p tag e.description x bytes).reply) is
    ∙ ap (λ (d : ℕ). (on_object S f.object (λ view. write_object S d (description_of f) f.object view bytes)).reply) (sym same)
    ∙ answered
