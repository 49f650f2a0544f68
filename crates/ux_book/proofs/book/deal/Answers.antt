use Rattle.std.proofs.Common.{◌≡◌, ◌+◌, ◌++◌, ◌∷◌, [], ap, ◌∙◌, arith}
use Rattle.ux_book.specs.Pasts.{calls_by}
use Rattle.ux_book.specs.Trails.{Trailed, Owned}
use Rattle.ux_book.proofs.Pasts.{fresh_more}
use Rattle.ux_book.proofs.book.deal.Goals as goal

pub loop-pid-preserved : goal.loop-pid-preserved
loop-pid-preserved g c =
    let p = c.loop-pid.pid in
    let so_far = c.loop-pid.invariant in
    let share : c.new_share.result ≡ record { pid = record { 0 = p }; past = [] } =
    c.new_share.ensures
    ∙ ap (λ (o : Owned). record { pid = record { 0 = p }; past = o.past }) c.open.ensures.token
    ∙ ap (λ (t : Trailed). record { pid = record { 0 = p }; past = calls_by t.given t.entries }) so_far.0 in (
      c.open.ensures.trail ∙ ap (λ (t : Trailed). record t { given = t.given + 1 }) so_far.0,
      c.in_ok-push.ensures.items ∙ (λ j. so_far.1 j ++ share j ∷ [])
          ∙ fresh_more p (let first = c.loop-pid.auto.pid in omega (arith, first)),
    )
