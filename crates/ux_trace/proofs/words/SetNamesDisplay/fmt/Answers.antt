use Rattle.std.proofs.Common.{Bool, Bor, List, ℕ, false, [], get_or, rules, ap, ◌∙◌}
use Rattle.std.proofs.Output.{has_written_append, has_written_of_eq}
use Rattle.std.proofs.lemmas.List.{map_more}
use Rattle.ux_trace.proofs.Texts.{name_more, name_skipped}
use Rattle.ux_trace.proofs.words.SetNamesDisplay.fmt.Goals as goal
use Rattle.ux_trace.proofs.words.SetNamesDisplay.fmt.Goals.{then-is_set+in_ok-write, else-is_set}

abbrev view : Bool × Bor (List ℕ) → Bool × List ℕ
view row = (row.0, row.1.now)

abbrev none : Bool × Bor (List ℕ)
none = (false, record { ref_ptr = (0, 0); now = [] })

pub loop-is_set-preserved : goal.loop-is_set-preserved
loop-is_set-preserved g c =
    let rows = c.args.self.now.0.now in
    let i = c.loop-is_set.is_set-index in
    let step = map_more view rows i none c.loop-is_set-test.true in
    let so_far = c.loop-is_set.invariant in
    elim c.if-is_set.branch [
      | then-is_set+in_ok-write w ↦
          let next = name_more _ _ (view (get_or rows i none)) step w.if-is_set.true in (
            rw w.separator-is (search rules),
            ap (λ s. s.now) w.separator-is ∙ next.1,
            λ p. rw w.f-is (has_written_of_eq _ _ _ _ _ next.0 (has_written_append _ _ _ _ _ _ (so_far.2 p) (search rules))),
          )
      | else-is_set w ↦
          let same = name_skipped _ _ (view (get_or rows i none)) step w.if-is_set.false in
          (rw w.separator-is so_far.0, rw (w.separator-is, ← same) so_far.1, λ p. rw (w.f-is, ← same) (so_far.2 p))
    ]
