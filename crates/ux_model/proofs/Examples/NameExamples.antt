-- Worked examples, evaluated: names of the abstract namespace that are given.
use Rattle.std.specs.Prelude.{◌≡◌, [], ◌∷◌, Some, refl, codes}
use Rattle.ux_model.specs.Names.{free_name, autobind_name}

first_of_none : free_name [] ≡ Some (codes "00000")
unfolding free_name
first_of_none = refl

-- the lowest that isn't in use, also between others
between_two : free_name ((codes "00000", 7) ∷ (codes "00002", 8) ∷ (codes "x", 9) ∷ []) ≡ Some (codes "00001")
unfolding free_name
between_two = refl

last_name : autobind_name 1048575 ≡ codes "fffff"
last_name = refl

some_name : autobind_name 703710 ≡ codes "abcde"
some_name = refl
