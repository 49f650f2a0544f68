use Rattle.std.proofs.Common.{◌≡◌, refl, sym, ap, ◌∙◌, arith}
use Rattle.std.proofs.lemmas.List.FromFn.{length-map-range_with_len}
use Rattle.std.proofs.lemmas.Option.{same_Some}
use Rattle.ux_slots.specs.Kept.{value_in}
use Rattle.ux_slots.proofs.Bridges.{from_map, from_slab, on_ok}
use Rattle.ux_slots.proofs.Looking.{seen_more, counted_new}
use Rattle.ux_slots.proofs.Releasing.{vacant_not_chained, released_apart}
use Rattle.ux_slots.proofs.Keeping.{none_past, inserted_kept, inserted_puts}
use Rattle.ux_slots.proofs.slots.Slots.insert_reserved.Goals as goal

pub invariant_of-self : goal.invariant_of-self
invariant_of-self g c =
    let same : c.insert_reserved.result ≡ c.vacant_key-key.result = c.insert_reserved.ensures.key ∙ sym c.vacant_key-key.ensures.value in
    let put = rw same at (from_slab _ _ _ _ c.insert_reserved.ensures.updates) in
    let indexed = from_map c.self.inside.index c.insert-known.new.self _ _
    (on_ok c.insert-known.result c.insert-known.ensures.updates c.if-is_err.ensures.negation) in
    let vacant = c.vacant_key-key.ensures.vacant in
    let apart = vacant_not_chained _ _ c.self.invariant.released.keys c.vacant_key-key.result c.self.invariant.released.chain vacant in
    inserted_kept _ _ _ _ _ _ _ _ c.self.invariant vacant put indexed refl
    (released_apart _ _ _ _ _ c.self.invariant.released apart put
    (λ t e none. let one : 1 ≡ t.count = ap (λ x. x.count) (same_Some _ t e) in omega (arith, one, none)))

pub returns-clause-number : goal.returns-clause-number
returns-clause-number g c = c.new.ensures ∙ rw (← c.self.view_is) (sym (length-map-range_with_len _ 0 c.self.inside.next))

pub returns-clause-added : goal.returns-clause-added
returns-clause-added g c =
    let same : c.insert_reserved.result ≡ c.vacant_key-key.result = c.insert_reserved.ensures.key ∙ sym c.vacant_key-key.ensures.value in
    let put = rw same at (from_slab _ _ _ _ c.insert_reserved.ensures.updates) in
    let indexed = from_map c.self.inside.index c.insert-known.new.self _ _
    (on_ok c.insert-known.result c.insert-known.ensures.updates c.if-is_err.ensures.negation) in
    let vacant = c.vacant_key-key.ensures.vacant in
    let puts = inserted_puts _ _ _ _ _ _ _ _ c.self.invariant vacant put indexed in
    rw (← c.self.view_is) record {
      places = seen_more value_in _ _ c.self.inside.next _ puts;
      counts = rw (length-map-range_with_len) (counted_new _ _ c.self.inside.next (none_past _ _ _ c.self.invariant.young) _ refl puts);
    }
