use Rattle.std.proofs.Common.{◌≡◌, ℕ, ◌++◌, take, map, replicate}
use Rattle.ux_model.specs.References.{times}
use Rattle.ux_audit.specs.Givers.{items_at}
use Rattle.ux_audit.proofs.lists.note_all.Given as goal

abbrev pub invariant-loop-fd : goal.invariant-loop-fd
invariant-loop-fd l = (k : ℕ) → items_at l.lists.items k ≡ items_at l.initial.lists.items k ++ replicate
    (times k (map (λ fd. fd.0) (take l.fd-index l.numbers))) l.place
