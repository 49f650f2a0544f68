use Rattle.std.proofs.Common.{◌≡◌, ◌≤◌, ◌+◌, ◌++◌, true, Some, length, map, vec_len, vec_capacity}
use Rattle.std.specs.List.{list_all, enumerate_from}
use Rattle.std.specs.Vec.Iter.{into_iter_items}
use Rattle.ux_model.specs.Object.{View}
use Rattle.ux_model.specs.Names.{file}
use Rattle.ux_state.proofs.making.filled.Given as goal

-- the places so far, and those of the objects that are left, are those of all objects
abbrev pub invariant-loop-name : goal.invariant-loop-name
invariant-loop-name g l =
    (goal.iterator-loop-name g).can_next l.name-iterator ×
    (goal.iterator-loop-name g).is_finite l.name-iterator ×
    (vec_len l.places + length (into_iter_items l.name-iterator) ≤ vec_capacity l.places) ×
    (vec_len l.rooms ≡ length (into_iter_items l.name-iterator)) ×
    (length (into_iter_items l.name-iterator) ≤ l.paths.room) ×
    (vec_len l.places + length (into_iter_items l.name-iterator) ≡ length l.fn.objects.items) ×
    (l.places.items ++ map (λ o. Some (g.O.FileObject.view o.1)) (into_iter_items l.name-iterator) ≡ map
    (λ o. Some (g.O.FileObject.view o.1)) l.fn.objects.items) ×
    (l.paths.names ++ map (λ e. (e.1.0, file e.0)) (enumerate_from (vec_len l.places) (into_iter_items l.name-iterator)) ≡ map
    (λ e. (e.1.0, file e.0)) (enumerate_from 0 l.fn.objects.items)) ×
    (list_all (λ o. View.opened (g.O.FileObject.view o.1)) (into_iter_items l.name-iterator) ≡ true)
