-- A file that one process keeps is separated from the others.
use Rattle.std.proofs.Common.{◌≡◌, ◌≢◌, ◌⊎◌, ℕ, ◌==◌, Bool, true, false, not, ◌&&◌, ◌||◌, List, [], ◌∷◌, Some, refl, ap, sym, ◌∙◌, subst}
use Rattle.std.proofs.Common.{inl, inr, slice_get}
use Rattle.std.proofs.lemmas.Bool.{eqb-true, eq-eqb, false≢true}
use Rattle.ux_model.specs.Types.{Name, Mode, OpenFlags, Request, Entry}
use Rattle.ux_model.specs.Flags.{can_write}
use Rattle.ux_model.specs.Names.{file, named, same_name}
use Rattle.ux_model.specs.State.{State}
use Rattle.ux_model.specs.History.{IsLegal}
use Rattle.ux_laws.specs.Files.{IsNeverOpened}
use Rattle.ux_laws.specs.Beginning.{IsOfTheStart}
use Rattle.ux_laws.specs.Separation.{leaves_to, KeptFilesAreSeparated}
use Rattle.ux_laws.proofs.NoWay.{files_keep_their_path}
use Rattle.ux_laws.proofs.Unwritten.{unwritten_files_stay, reads_tell_the_file}
use Rattle.ux_laws.proofs.Firsts.{stranger_has_no_way, all_calls_are_theirs}

-- a name is the same as itself
same_self : (name : Name) → same_name name name ≡ true
same_self [] = refl
same_self (x ∷ xs) = ap (λ b. b && same_name xs xs) (eq-eqb x x refl) ∙ same_self xs

forks_not : (keeper p : ℕ) (path : Name) (request : Request) → leaves_to keeper path p request ≡ true → request ≢ Request.Fork
forks_not keeper p path request leaves fork = false≢true (sym (ap (leaves_to keeper path p) fork) ∙ leaves)

-- who opens the path is the keeper, and doesn't write
keeper_alone : (keeper p : ℕ) (path : Name) (mode : Mode) (flags : OpenFlags) (request : Request) → request ≡ Request.Open path mode flags →
    leaves_to keeper path p request ≡ true → (p ≡ keeper) × (can_write mode ≡ false)
keeper_alone keeper p path mode flags request asked leaves = go (p == keeper) refl (can_write mode) both
  where
    both : ((p == keeper) && not (can_write mode)) ≡ true
    both = sym (ap (λ b. not b || ((p == keeper) && not (can_write mode))) (same_self path)) ∙ sym (ap (leaves_to keeper path p) asked)
        ∙ leaves

    go : (b : Bool) → (p == keeper) ≡ b → (w : Bool) → (b && not w) ≡ true → (p ≡ keeper) × (w ≡ false)
    go true is false h = (eqb-true p keeper is, refl)
    go true is true h = absurd (false≢true h)
    go false is w h = absurd (false≢true h)

-- each request of a process of the start does so
abbrev AllLeave : State → List Entry → ℕ → Name → Type 0
AllLeave boot es keeper path = (j : ℕ) (e : Entry) → slice_get es j ≡ Some e → IsOfTheStart boot e.pid.0 →
    leaves_to keeper path e.pid.0 e.request ≡ true

never_to_write : (boot : State) (es : List Entry) (path : Name) (keeper o : ℕ) → IsLegal boot es → named path boot.paths ≡ Some (file o) →
    AllLeave boot es keeper path → IsNeverOpened boot es can_write o
never_to_write boot es path keeper o legal at_first leave b opens =
    by_caller (all_calls_are_theirs boot es b.entry opens.call legal
    (λ i x at of_start. forks_not keeper x.pid.0 path x.request (leave i x at of_start)) opens.there)
  where
    asked : opens.call.request ≡ Request.Open path opens.mode opens.flags
    asked = opens.asked ∙ ap (λ (x : Name). Request.Open x opens.mode opens.flags)
        (files_keep_their_path boot es b.entry o path opens.path legal at_first opens.leads)

    by_caller : (opens.call.request ≡ Request.Off) ⊎ IsOfTheStart boot opens.call.pid.0 → ⊥
    by_caller (inl off) = let clash : Request.Off ≡ Request.Open path opens.mode opens.flags = sym off ∙ asked in cc clash
    by_caller (inr theirs) =
        let alone = keeper_alone keeper opens.call.pid.0 path opens.mode opens.flags opens.call.request asked
        (leave b.entry opens.call opens.there theirs) in
        false≢true (sym alone.1 ∙ opens.allowed)

pub kept_files_are_separated : KeptFilesAreSeparated
kept_files_are_separated boot es path keeper o bytes legal at_first has leave =
    let never = never_to_write boot es path keeper o legal at_first leave in
    record {
      unchanged = λ j body is. unwritten_files_stay boot es j o bytes body legal has never is;
      read = λ j n e fd given at request behind reply. reads_tell_the_file boot es j o n e fd bytes given legal has never at request behind
          reply;
      withheld = λ j q fd of_start other sent_nothing. stranger_has_no_way boot es path j o q fd legal at_first of_start.1 sent_nothing
          (λ i e mode flags at own asked. other
          (sym own ∙ (keeper_alone keeper e.pid.0 path mode flags e.request asked
          (leave i e at (subst (IsOfTheStart boot) (sym own) of_start))).0));
    }
