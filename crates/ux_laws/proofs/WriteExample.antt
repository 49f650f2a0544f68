-- A worked example, evaluated: a file is written at its start and, with O_APPEND, at its end; which bytes were put where, and what is in it.
use Rattle.std.specs.Prelude.{◌≡◌, List, [], ◌∷◌, Some, refl, codes}
use Rattle.ux_model.specs.Types.{Mode, Request, Reply, Entry}
use Rattle.ux_model.specs.Object.{memory}
use Rattle.ux_model.specs.State.{State}
use Rattle.ux_model.specs.Descriptors.{set_flags}
use Rattle.ux_model.specs.History.{replay}
use Rattle.ux_laws.specs.Files.{body_at}
use Rattle.ux_laws.specs.Writes.{Put, puts_since, with_puts}
use Rattle.ux_laws.proofs.Play.{computing, made, replies, with_files, fd}

abbrev boot : State
boot = with_files ((codes "f", memory (codes "abc")) ∷ [])

abbrev calls : List Entry
calls = made boot 0 (
    (1, Request.Open (codes "f") Mode.Write (record { 0 = 0 })) ∷
    (1, Request.Write (fd 0) (codes "X")) ∷
    (1, Request.SetFlags (fd 0) (record { 0 = 1 })) ∷
    (1, Request.Write (fd 0) (codes "de")) ∷ [])

what_was_answered : replies calls ≡ Reply.Fd (fd 0) ∷ Reply.Count 1 ∷ Reply.Ok ∷ Reply.Count 2 ∷ []
unfolding computing set_flags
what_was_answered = refl

abbrev puts : List Put
puts = record { start = 0; bytes = codes "X" } ∷ record { start = 3; bytes = codes "de" } ∷ []

what_was_put : puts_since 0 0 boot calls ≡ puts
unfolding computing set_flags
what_was_put = refl

what_is_in_it : with_puts (codes "abc") puts ≡ codes "Xbcde"
what_is_in_it = refl

so_it_is_there : body_at (replay boot calls) 0 ≡ Some (memory (codes "Xbcde"))
unfolding computing set_flags
so_it_is_there = refl
