-- What each call does to file objects and paths.
use Rattle.std.proofs.Common.{◌≡◌, ℕ, Bool, true, false}
use Rattle.std.proofs.Common.{refl, ap, sym, subst, [], length}
use Rattle.std.proofs.lemmas.Bool.{false≢true}
use Rattle.ux_model.specs.Types.{Request, Reply}
use Rattle.ux_model.specs.Object.{after_failure, memory, counter}
use Rattle.ux_model.specs.State.{State}
use Rattle.ux_model.specs.Outcome.{Outcome, Chosen, own, lacking_memory, failing}
use Rattle.ux_model.specs.Step.{outcome}
use Rattle.ux_model.proofs.Changes.Reaching.{May, files_too, may_change, Reaches, objects_stay, paths_stay, names_stay}
use Rattle.ux_model.proofs.Changes.Obeying.{Obeys}
use Rattle.ux_model.proofs.Steps.Calls.{each_obeys}
use Rattle.ux_laws.proofs.Touching.Contents.{Touches, untouched, same_body, put_alike, read_touches, write_touches, NamesSame}
use Rattle.ux_laws.proofs.Touching.Making.{Makes, create_makes, object_makes, pipe_makes}
use Rattle.ux_laws.proofs.Touching.Paths.{NamesNoMore, no_more, bind_names, unlink_names, off_names}

pub record Files (S : State) (p : ℕ) (request : Request) (U : State) : Type 0 where
  pub bodies : (o : ℕ) → Touches S p request o U
  pub paths : NamesNoMore (length S.objects) S.paths U.paths

-- what changes neither file objects nor paths
by_reach : (S : State) (p : ℕ) (request : Request) (may : May) (U : State) → may.objects ≡ false → may.files ≡ false → may.paths ≡ false →
    Reaches S may U → Files S p request U
by_reach S p request may U made files paths r = record {
  bodies = λ o. untouched (same_body S U o (objects_stay S may U made files r));
  paths = no_more (paths_stay S may U paths r);
}

by_making : {S : State} {p : ℕ} {request : Request} {U : State} → Makes S p request U → Files S p request U
by_making m = record { bodies = m.bodies; paths = m.paths }

by_names : {S : State} {p : ℕ} {request : Request} {U : State} →
    (U.objects ≡ S.objects) × NamesNoMore (length S.objects) S.paths U.paths → Files S p request U
by_names {S} {p} {request} {U} a = record { bodies = λ o. untouched (same_body S U o a.0); paths = a.1 }

pub each_files : (S : State) (p tag : ℕ) (request : Request) → Files S p request (outcome S p tag request).next
unfolding outcome
each_files S p tag (Request.Create path mode flags) = by_making (create_makes S p path mode flags)
each_files S p tag (Request.MemFd flags) = by_making (object_makes S p (Request.MemFd flags) _ (memory []) flags)
each_files S p tag (Request.EventFd value semaphore flags) = by_making (object_makes S p (Request.EventFd value semaphore flags) _ (counter semaphore value) flags)
each_files S p tag (Request.Pipe flags) = by_making (pipe_makes S p flags)
each_files S p tag (Request.Read fd n) = record {
  bodies = λ o. read_touches S p fd n o;
  paths = no_more (paths_stay S files_too _ refl (each_obeys S p tag (Request.Read fd n)).reached);
}
each_files S p tag (Request.Write fd bytes) = record {
  bodies = λ o. write_touches S p tag fd bytes o;
  paths = no_more (paths_stay S files_too _ refl (each_obeys S p tag (Request.Write fd bytes)).reached);
}
each_files S p tag (Request.Unlink path) = by_names (unlink_names S path)
each_files S p tag (Request.Bind fd addr) = by_names (bind_names S p fd addr)
each_files S p tag Request.Off = by_names (off_names S)
each_files S p tag request = by_reach S p request (may_change request) _ refl refl refl (each_obeys S p tag request).reached

-- calls that bind or make a name, or take one away
abbrev pub changes_names : Request → Bool
changes_names (Request.Bind fd addr) = true
changes_names (Request.Create path mode flags) = true
changes_names (Request.Unlink path) = true
changes_names (Request.SetOpt fd opt value) = true
changes_names Request.Off = true
changes_names _ = false

calm : (request : Request) → changes_names request ≡ false → ((may_change request).paths ≡ false) × ((may_change request).names ≡ false)
calm (Request.Bind fd addr) h = absurd (false≢true (sym h))
calm (Request.Create path mode flags) h = absurd (false≢true (sym h))
calm (Request.Unlink path) h = absurd (false≢true (sym h))
calm (Request.SetOpt fd opt value) h = absurd (false≢true (sym h))
calm Request.Off h = absurd (false≢true (sym h))
calm request h = (refl, refl)

pub each_names : (S : State) (p tag : ℕ) (request : Request) → changes_names request ≡ false → NamesSame S (outcome S p tag request).next
each_names S p tag request h =
    let r = (each_obeys S p tag request).reached in
    let next : State = (outcome S p tag request).next in
    record {
      paths = paths_stay S (may_change request) next (calm request h).0 r;
      abstracts = names_stay S (may_change request) next (calm request h).1 r;
    }

pub chosen_files : (S T : State) (p : ℕ) (request : Request) (reply : Reply) (o : Outcome) → Files S p request o.next →
    Obeys S (may_change request) o → Chosen S o reply T → Files S p request T
chosen_files S T p request reply o files obeys (own e f) = subst (Files S p request) (sym f) files
chosen_files S T p request reply o files obeys (lacking_memory e may f) =
    subst (Files S p request) (sym f) (record { bodies = λ o. untouched refl; paths = no_more refl })
chosen_files S T p request reply o files obeys (failing e f) =
    let one = (obeys.failed T f).0 in
    record {
      bodies = λ k. untouched (put_alike S T one.object k one.view (after_failure one.view) one.there refl
          (ap (λ (U : State). U.objects) one.left));
      paths = no_more (ap (λ (U : State). U.paths) one.left);
    }
