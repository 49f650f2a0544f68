use Rattle.std.proofs.Common.{rules}
use Rattle.std.proofs.lemmas.List.Elements.{same_from_all_zip}
use Rattle.ux_types.proofs.entry.EntryClone.clone.Goals as goal

pub returns : goal.returns
returns c = search (same_from_all_zip, rules)
