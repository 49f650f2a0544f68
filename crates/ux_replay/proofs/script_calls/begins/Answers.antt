use Rattle.std.proofs.Common.{◌≡◌, List, [], ◌++◌, ⊎_elim, append-nil, ◌∙◌}
use Rattle.ux_model.specs.Types.{Request}
use Rattle.ux_syntax.specs.Spelling.{plan_of}
use Rattle.ux_replay.specs.Runs.{requests_of, asked, ending}
use Rattle.ux_replay.proofs.Fronts.{front_more, front_or_all, ending_short}
use Rattle.ux_replay.proofs.script_calls.begins.Goals as goal

pub returns-then-is_front : goal.returns-then-is_front
returns-then-is_front c =
    let pid = c.args.pid in
    let s = plan_of c.args.script.now in (
      λ t. front_more (requests_of pid c.args.entries.now) (asked pid s.lines) (ending s pid)
          (rw c.deref.ensures.value at (c.is_front.ensures.front t)),
      λ _. c.if-is_front.true,
    )

-- what is no front of the lines' calls, and yet a front of all, is all
pub returns-else-is_front : goal.returns-else-is_front
returns-else-is_front c =
    let pid = c.args.pid in
    let s = plan_of c.args.script.now in
    let made = requests_of pid c.args.entries.now in
    let none : (more : List Request) → ¬ (made ++ more ≡ asked pid s.lines) =
    rw c.deref.ensures.value at (c.is_front.ensures.none c.if-is_front.false) in (
      λ t. ([], append-nil made ∙ c.follows.ensures.0 t),
      λ front. c.follows.ensures.1 (⊎_elim {C = made ≡ asked pid s.lines ++ ending s pid}
          (λ part. absurd (none part.0 part.1))
          (λ all. all)
          (front_or_all made (asked pid s.lines) (ending s pid) (ending_short s pid) front)),
    )
