-- The text of one holding more.
use Rattle.std.proofs.Common.{◌≡◌, ℕ, ◌+◌, ◌<◌, List, [], ◌++◌, length, get_or, take}
use Rattle.std.specs.Prelude.{codes}
use Rattle.std.proofs.lemmas.List.{take_more, flat_map_more}
use Rattle.ux_model.specs.Types.{How, Link}
use Rattle.ux_audit.specs.Text.{link_text, further_text}

abbrev pub no_link : Link
no_link = record { entry = 0; pid = record { 0 = 0 }; fd = record { 0 = 0 }; how = How.Made }

pub further_more : (links : List Link) (i : ℕ) → i < length links →
    further_text (take i links) ++ (codes "; " ++ link_text (get_or links i no_link)) ≡ further_text (take (i + 1) links)
further_more links i within = rw (take_more links i no_link within)
    (flat_map_more (λ l. codes "; " ++ link_text l) [] (take i links) (get_or links i no_link))
