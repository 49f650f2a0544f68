-- The text of a chain of holdings.
use Rattle.std.specs.Prelude.{ℕ, List, [], ◌∷◌, ◌++◌, codes, decimal}
use Rattle.std.specs.List.{flat_map}
use Rattle.ux_model.specs.Types.{How, Link}

-- by what it was taken
abbrev pub word_of : How → List ℕ
word_of How.Made = codes "made"
word_of How.Dup = codes "dup"
word_of (How.Received tag) = codes "got"
word_of How.Forked = codes "fork"

-- which entry sent it
abbrev pub from_text : How → List ℕ
from_text How.Made = []
from_text How.Dup = []
from_text (How.Received tag) = codes " from " ++ decimal tag
from_text How.Forked = []

-- a word, the entry, the process and the descriptor
abbrev pub link_text : Link → List ℕ
link_text l =
    word_of l.how
    ++ (codes " " ++ (decimal l.entry ++ (codes " " ++ (decimal l.pid.0 ++ (codes " " ++ (decimal l.fd.0 ++ from_text l.how))))))

abbrev pub further_text : List Link → List ℕ
further_text links = flat_map (λ l. codes "; " ++ link_text l) links

-- joined by a semicolon and a space
abbrev pub links_text : List Link → List ℕ
links_text [] = []
links_text (first ∷ rest) = link_text first ++ further_text rest
