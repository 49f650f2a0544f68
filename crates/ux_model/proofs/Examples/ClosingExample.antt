-- A worked example in which a file object is closed, and what the laws say there: none of their premises is empty.
use Rattle.std.proofs.Common.{arith}
use Rattle.std.specs.Prelude.{◌≡◌, ℕ, ◌<◌, [], ◌∷◌, List, true, None, map, refl, codes}
use Rattle.std.specs.List.{AllByRecursion}
use Rattle.ux_model.specs.Types.{Errno, Mode, Request, Reply, Entry}
use Rattle.ux_model.specs.Places.{place}
use Rattle.ux_model.specs.Object.{memory}
use Rattle.ux_model.specs.State.{State}
use Rattle.ux_model.specs.References.{times}
use Rattle.ux_model.specs.Release.{released_objects}
use Rattle.ux_model.specs.Outcome.{own}
use Rattle.ux_model.specs.Step.{outcome}
use Rattle.ux_model.specs.HandingOut.{IsHandedOut}
use Rattle.ux_model.specs.Boot.{IsBootState, is_open}
use Rattle.ux_model.specs.History.{MayFollow, IsLegal, replay}
use Rattle.ux_model.specs.Invariants.{times_released, LosesLast}
use Rattle.ux_model.proofs.Examples.Play.{computing, with_files, fd, open_flags, shut, refused}
use Rattle.ux_model.proofs.Lists.Appending.{legal_empty, legal_push}
use Rattle.ux_model.proofs.Invariants.Refusals.{refused_entry_changes_nothing}
use Rattle.ux_model.proofs.Invariants.Dangling.{nothing_dangles}
use Rattle.ux_model.proofs.Invariants.Closed.{closed_once}
use Rattle.ux_model.proofs.Invariants.HandingOut.{handed_out}

abbrev boot : State
boot = with_files ((codes "f", memory (codes "hi")) ∷ [])

abbrev entry : ℕ → Request → Reply → List ℕ → Entry
entry k request reply released = record {
  pid = record { 0 = 1 };
  k = k;
  request = request;
  reply = reply;
  released = released;
  delivered =
      None;
}

-- a file is opened, its path is taken away, another descriptor is refused, and the file goes with the last one
abbrev opening : Entry
opening = entry 0 (Request.Open (codes "f") Mode.Read (open_flags 0)) (Reply.Fd (fd 0)) []

abbrev unlinking : Entry
unlinking = entry 1 (Request.Unlink (codes "f")) Reply.Ok []

abbrev failing_close : Entry
failing_close = entry 2 (shut 5) (refused Errno.EBADF) []

abbrev closing : Entry
closing = entry 3 (shut 0) Reply.Ok (0 ∷ [])

abbrev before : List Entry
before = opening ∷ unlinking ∷ failing_close ∷ []

boots : IsBootState boot
boots = record {
  no_descriptions = refl;
  no_abstract_names = refl;
  live_processes = refl;
  empty_tables = refl;
  small_tables =
      (omega arith, tt);
  open_objects = refl;
  paths = refl;
  own_paths = refl;
}

first : MayFollow boot [] opening
unfolding computing
first = record { steps = (_, own refl refl, refl, refl); numbered = refl; allowed = refl; delivers = refl }

second : MayFollow boot (opening ∷ []) unlinking
unfolding computing
second = record { steps = (_, own refl refl, refl, refl); numbered = refl; allowed = refl; delivers = refl }

third : MayFollow boot (opening ∷ unlinking ∷ []) failing_close
unfolding computing
third = record { steps = (_, own refl refl, refl, refl); numbered = refl; allowed = refl; delivers = refl }

fourth : MayFollow boot before closing
unfolding computing
fourth = record { steps = (_, own refl refl, refl, refl); numbered = refl; allowed = refl; delivers = refl }

legal_so_far : IsLegal boot before
legal_so_far = legal_push boot _ _ (legal_push boot _ _ (legal_push boot [] _ (legal_empty boot boots) first) second) third

is_legal : IsLegal boot (opening ∷ unlinking ∷ failing_close ∷ closing ∷ [])
is_legal = legal_push boot before closing legal_so_far fourth

-- the refused call is as if it weren't made
refusal : replay boot before ≡ replay boot (opening ∷ unlinking ∷ [])
refusal = (refused_entry_changes_nothing boot (opening ∷ unlinking ∷ []) failing_close Errno.EBADF legal_so_far refl).0

-- no path leads to the file any more, but its description holds it open
held_open : is_open (place (replay boot before).objects 0) ≡ true
unfolding computing
held_open = (nothing_dangles boot before legal_so_far).descriptions_lead 0 0 _ refl refl

-- it was reported once that it is closed, by the entry with which its last reference went
told_once : times_released 0 (opening ∷ unlinking ∷ failing_close ∷ closing ∷ []) ≡ 1
told_once = refl

some : 0 < times 0 closing.released
some = omega arith

last_reference : LosesLast boot (opening ∷ unlinking ∷ failing_close ∷ closing ∷ []) 3 0
last_reference = (closed_once boot _ 0 is_legal).only_at_the_last 3 closing refl some

gone : place (replay boot (opening ∷ unlinking ∷ failing_close ∷ closing ∷ [])).objects 0 ≡ None
gone = (closed_once boot _ 0 is_legal).gone_for_good 3 4 closing refl some (omega arith)

-- and what was handed out then is the file as it was held
abbrev unsettled : State
unsettled = (outcome (replay boot before) 1 3 (shut 0)).next

one_goes : map (λ e. e.0) (released_objects unsettled) ≡ 0 ∷ []
unfolding computing
one_goes = refl

handed : AllByRecursion (IsHandedOut (replay boot before)) (released_objects unsettled)
unfolding computing
handed = handed_out (replay boot before) unsettled 1 3 (shut 0) Reply.Ok (own refl refl)
