-- Calls that make a file object leave those that were there, and the paths that led there.
use Rattle.std.proofs.Common.{◌≡◌, ℕ, Bool, not, List, [], ◌∷◌, ◌++◌, length, Option, Some, is_some, refl, ap, sym, ◌∙◌}
use Rattle.ux_model.specs.Types.{Name, Mode, OpenFlags, Request}
use Rattle.ux_model.specs.Flags.{asks_append}
use Rattle.ux_model.specs.Object.{Body, memory, pipe, new_view}
use Rattle.ux_model.specs.Names.{PathTarget, file, named, is_valid_path}
use Rattle.ux_model.specs.Process.{Descriptor, lowest_free, two_lowest_free}
use Rattle.ux_model.specs.State.{State, table_of, with_table, with_new}
use Rattle.ux_model.specs.Outcome.{Outcome}
use Rattle.ux_model.specs.Opening.{file_description}
use Rattle.ux_model.specs.Making.{next_object, object_table_full, with_pipe, open_made, make_object, create_file, make_pipe}
use Rattle.ux_model.proofs.Changes.Walk.{either, maybe}
use Rattle.ux_model.proofs.Steps.MakingCalls.{made_so}
use Rattle.ux_laws.proofs.Touching.Tables.{table_alike}
use Rattle.ux_laws.proofs.Touching.Contents.{Touches, untouched, pushed_touches}
use Rattle.ux_laws.proofs.Touching.Paths.{NamesNoMore, no_more, new_names}

pub record Makes (S : State) (p : ℕ) (request : Request) (U : State) : Type 0 where
  pub bodies : (o : ℕ) → Touches S p request o U
  pub paths : NamesNoMore (length S.objects) S.paths U.paths

nothing_made : {S : State} {p : ℕ} {request : Request} → Makes S p request S
nothing_made = record { bodies = λ o. untouched refl; paths = no_more refl }

-- where U has one more file object, and no path leads to others than before
made_with : {S : State} {p : ℕ} {request : Request} (U : State) (body : Body) (q : ℕ) (table : List (Option Descriptor)) →
    U.objects ≡ S.objects ++ Some (new_view body) ∷ [] → NamesNoMore (length S.objects) S.paths U.paths →
    Makes S p request (with_table U q table)
made_with {S} {p} {request} U body q table more names =
    let t = table_alike U q table in
    record {
      bodies = λ o. pushed_touches o (new_view body) (t.objects ∙ more);
      paths = record { each = λ path o less h. names.each path o less (ap (named path) (sym t.paths) ∙ h) };
    }

open_makes : (S : State) (p : ℕ) (request : Request) (body : Body) (names : List (Name × PathTarget)) (mode : Mode) (flags : OpenFlags) →
    NamesNoMore (length S.objects) S.paths names → Makes S p request (open_made S (made_so S body names) p mode flags).next
open_makes S p request body names mode flags known = maybe Q (lowest_free (table_of S p)) _ _ nothing_made
    (λ n low. either Q (object_table_full S) _ _ (λ b. nothing_made)
    (λ b. made_with (with_new (made_so S body names) (file_description (next_object S) mode flags)) body p _ refl known))
  where
    Q : Outcome → Type 0
    Q o = Makes S p request o.next

pub create_makes : (S : State) (p : ℕ) (path : Name) (mode : Mode) (flags : OpenFlags) →
    Makes S p (Request.Create path mode flags) (create_file S p path mode flags).next
unfolding create_file
create_makes S p path mode flags = either Q (not (is_valid_path path)) _ _ (λ b. nothing_made)
    (λ b. either Q (is_some (named path S.paths)) _ _ (λ c. nothing_made)
    (λ c. open_makes S p (Request.Create path mode flags) (memory []) (S.paths ++ (path, file (next_object S)) ∷ []) mode flags
    (new_names S.paths path (next_object S))))
  where
    Q : Outcome → Type 0
    Q o = Makes S p (Request.Create path mode flags) o.next

pub object_makes : (S : State) (p : ℕ) (request : Request) (unknown : Bool) (body : Body) (flags : OpenFlags) →
    Makes S p request (make_object S p unknown body flags).next
unfolding make_object
object_makes S p request unknown body flags = either Q unknown _ _ (λ b. nothing_made)
    (λ b. open_makes S p request body S.paths Mode.Both flags (no_more refl))
  where
    Q : Outcome → Type 0
    Q o = Makes S p request o.next

pub pipe_makes : (S : State) (p : ℕ) (flags : OpenFlags) → Makes S p (Request.Pipe flags) (make_pipe S p flags).next
unfolding make_pipe
pipe_makes S p flags = either Q (asks_append flags) _ _ (λ b. nothing_made)
    (λ b. maybe Q (two_lowest_free (table_of S p)) _ _ nothing_made
    (λ n low. either Q (object_table_full S) _ _ (λ c. nothing_made)
    (λ c. made_with (with_pipe S flags) (pipe []) p _ refl (no_more refl))))
  where
    Q : Outcome → Type 0
    Q o = Makes S p (Request.Pipe flags) o.next
