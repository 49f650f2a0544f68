-- A worked example as a legal history, entry by entry, and the state that it leads to.
use Rattle.std.specs.Prelude.{◌≡◌, ℕ, [], ◌∷◌, true, false, replicate, None, refl, codes}
use Rattle.std.proofs.Common.{arith}
use Rattle.ux_model.specs.Types.{Request, Reply, Entry}
use Rattle.ux_model.specs.Outcome.{own}
use Rattle.ux_model.specs.Boot.{IsBootState}
use Rattle.ux_model.specs.History.{MayFollow, IsLegal, replay}
use Rattle.ux_model.proofs.Examples.Play.{computing, one_process, pair, send, recv, ends, got}
use Rattle.ux_model.proofs.Lists.Appending.{legal_empty, legal_push}

abbrev entry : ℕ → Request → Reply → Entry
entry k request reply = record { pid = record { 0 = 1 }; k = k; request = request; reply = reply; released = []; delivered = None }

abbrev making : Entry
making = entry 0 pair (ends 0 1)

abbrev sending : Entry
sending = entry 1 (send 0 (codes "hi")) (Reply.Count 2)

abbrev receiving : Entry
receiving = entry 2 (recv 1 8) (got 2 (codes "hi"))

abbrev leaving : Entry
leaving = entry 3 Request.Exit Reply.Ok

boots : IsBootState one_process
boots = record {
  no_descriptions = refl;
  no_abstract_names = refl;
  live_processes = refl;
  empty_tables = refl;
  small_tables =
      (omega arith, tt);
  open_objects = refl;
  paths = refl;
  own_paths = refl;
}

first : MayFollow one_process [] making
unfolding computing
first = record { steps = (_, own refl refl, refl, refl); numbered = refl; allowed = refl; delivers = refl }

second : MayFollow one_process (making ∷ []) sending
unfolding computing
second = record { steps = (_, own refl refl, refl, refl); numbered = refl; allowed = refl; delivers = refl }

third : MayFollow one_process (making ∷ sending ∷ []) receiving
unfolding computing
third = record { steps = (_, own refl refl, refl, refl); numbered = refl; allowed = refl; delivers = refl }

fourth : MayFollow one_process (making ∷ sending ∷ receiving ∷ []) leaving
unfolding computing
fourth = record { steps = (_, own refl refl, refl, refl); numbered = refl; allowed = refl; delivers = refl }

is_legal : IsLegal one_process (making ∷ sending ∷ receiving ∷ leaving ∷ [])
is_legal = legal_push one_process _ _ (legal_push one_process _ _
    (legal_push one_process _ _ (legal_push one_process [] _ (legal_empty one_process boots) first) second) third) fourth

-- both ends are gone, and their numbers with them
leads_to : replay one_process (making ∷ sending ∷ receiving ∷ leaving ∷ [])
    ≡ record {
      objects = [];
      paths = [];
      abstract_names = [];
      descriptions = None ∷ None ∷ [];
      processes = record { uid = 1000; gid = 1000; privileged = false; exited = true; table = replicate 16 None } ∷ [];
    }
unfolding computing
leads_to = refl
