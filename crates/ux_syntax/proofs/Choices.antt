-- A word that is the text of one of several values.
use Rattle.std.proofs.Common.{◌≡◌, ℕ, Bool, true, false, cond, ltb, List, [], ◌∷◌, Ok, refl, sym, ap, ◌∙◌, subst}
use Rattle.std.specs.Prelude.{Option, Some, None, map}
use Rattle.std.specs.Option.{option_map}
use Rattle.std.specs.List.{find, list_all}
use Rattle.std.specs.Str.{bytes_eq}
use Rattle.std.proofs.lemmas.Slice.Eq.{bytes_eq-Decides}
use Rattle.ux_model.specs.Types.{SockType, SockOpt, Mode, Whence}
use Rattle.ux_object.specs.declared.ObjKind.{ObjKind}
use Rattle.ux_syntax.specs.Spelling.{bit, mode_text, type_text, option_text, whence_text, waits_text, kind_text}
use Rattle.ux_syntax.specs.Reading.{or_bad, beside_at, chosen_at, bit_at, mode_at, type_at, option_at, whence_at, waits_at, kind_at}
use Rattle.ux_syntax.proofs.Rows.{IsBadOrOk, IsKind, ok_is, solid_from}

head_or_tail : {X : Type 0} (p : X → Bool) (y : X) (ys : List X) (x : X) (b : Bool) → p y ≡ b → (or_bad (find p ys) ≡ Ok x → p x ≡ true) →
    or_bad (cond b (Some y) (find p ys)) ≡ Ok x → p x ≡ true
head_or_tail p y ys x true h tail e = subst (λ z. p z ≡ true) (ok_is y x e) h
head_or_tail p y ys x false h tail e = tail e

found_passes : {X : Type 0} (p : X → Bool) (xs : List X) (x : X) → or_bad (find p xs) ≡ Ok x → p x ≡ true
found_passes p [] x e = absurd cc
found_passes p (y ∷ ys) x e = head_or_tail p y ys x (p y) refl (found_passes p ys x) e

-- a table that has each value beside its text
beside_step : {X : Type 0} (t : List ℕ) (x : X) (b : Bool) (row : Option (List ℕ × X)) (one : Option X) →
    or_bad (option_map (λ r. r.1) row) ≡ or_bad one →
    or_bad (option_map (λ r. r.1) (cond b (Some (t, x)) row)) ≡ or_bad (cond b (Some x) one)
beside_step t x true row one e = refl
beside_step t x false row one e = e

beside_one : {R X : Type 0} (t : List ℕ) (r : R) (value : R → X) (b : Bool) (row : Option (List ℕ × X)) (one : Option R) →
    or_bad (option_map (λ x. x.1) row) ≡ or_bad (option_map value one) →
    or_bad (option_map (λ x. x.1) (cond b (Some (t, value r)) row)) ≡ or_bad (option_map value (cond b (Some r) one))
beside_one t r value true row one e = refl
beside_one t r value false row one e = e

beside_value : {R X : Type 0} (table : List R) (text : R → List ℕ) (value : R → X) (w : List ℕ) →
    beside_at (map (λ r. (text r, value r)) table) w ≡ or_bad (option_map value (find (λ r. bytes_eq w (text r)) table))
beside_value [] text value w = refl
beside_value (r ∷ rs) text value w = beside_one (text r) r value (bytes_eq w (text r)) _ _ (beside_value rs text value w)

-- what is found among the rows of a table
pub beside_is : {R X : Type 0} (table : List R) (text : R → List ℕ) (value : R → X) (w : List ℕ) (found : Option R) →
    find (λ r. bytes_eq w (text r)) table ≡ found → beside_at (map (λ r. (text r, value r)) table) w ≡ or_bad (option_map value found)
beside_is table text value w found e = beside_value table text value w ∙ ap (λ (o : Option _). or_bad (option_map value o)) e

pub chosen_found : {X : Type 0} (text : X → List ℕ) (all : List X) (w : List ℕ) →
    chosen_at text all w ≡ or_bad (find (λ x. bytes_eq w (text x)) all)
chosen_found text [] w = refl
chosen_found text (x ∷ xs) w = beside_step (text x) x (bytes_eq w (text x)) _ _ (chosen_found text xs w)

pub chosen_takes : {X : Type 0} (text : X → List ℕ) (all : List X) (w : List ℕ) (x : X) → chosen_at text all w ≡ Ok x → w ≡ text x
chosen_takes text all w x e = (bytes_eq-Decides w (text x)).0
    (found_passes (λ y. bytes_eq w (text y)) all x (sym (chosen_found text all w) ∙ e))

or_bad_bad : {A : Type 0} (o : Option A) → IsBadOrOk (or_bad o)
or_bad_bad None = refl
or_bad_bad (Some x) = tt

pub chosen_bad : {X : Type 0} (text : X → List ℕ) (all : List X) (w : List ℕ) → IsBadOrOk (chosen_at text all w)
chosen_bad text all w = or_bad_bad (option_map (λ row. row.1) (find (λ row. bytes_eq w row.0) (map (λ x. (text x, x)) all)))

-- each value is found by its text, which has no blank
abbrev IsChosen : {X : Type 0} → (X → List ℕ) → List X → X → Type 0
IsChosen text all x = (chosen_at text all (text x) ≡ Ok x) × (list_all (λ b. ltb 32 b) (text x) ≡ true)

chosen_kind : {X : Type 0} (text : X → List ℕ) (all : List X) → ((x : X) → IsChosen text all x) →
    IsKind (chosen_at text all) text (λ _. Unit {0})
chosen_kind text all facts = record {
  takes = λ w x e. (chosen_takes text all w x e, tt);
  bad = chosen_bad text all;
  again = λ x f. (facts x).0;
  solid = λ x f. solid_from (text x) (facts x).1;
}

each_bit : (b : Bool) → IsChosen bit (false ∷ true ∷ []) b
each_bit false = (refl, refl)
each_bit true = (refl, refl)

pub bit_kind : IsKind bit_at bit (λ _. Unit {0})
bit_kind = chosen_kind bit (false ∷ true ∷ []) each_bit

each_mode : (m : Mode) → IsChosen mode_text (Mode.Read ∷ Mode.Write ∷ Mode.Both ∷ []) m
each_mode Mode.Read = (refl, refl)
each_mode Mode.Write = (refl, refl)
each_mode Mode.Both = (refl, refl)

pub mode_kind : IsKind mode_at mode_text (λ _. Unit {0})
unfolding mode_at
mode_kind = chosen_kind mode_text (Mode.Read ∷ Mode.Write ∷ Mode.Both ∷ []) each_mode

each_type : (t : SockType) → IsChosen type_text (SockType.Stream ∷ SockType.Dgram ∷ SockType.Seq ∷ []) t
each_type SockType.Stream = (refl, refl)
each_type SockType.Dgram = (refl, refl)
each_type SockType.Seq = (refl, refl)

pub type_kind : IsKind type_at type_text (λ _. Unit {0})
unfolding type_at
type_kind = chosen_kind type_text (SockType.Stream ∷ SockType.Dgram ∷ SockType.Seq ∷ []) each_type

each_option : (o : SockOpt) → IsChosen option_text
    (SockOpt.Kind ∷ SockOpt.Error ∷ SockOpt.PassCred ∷ SockOpt.PeerCred ∷ SockOpt.AcceptConn ∷ SockOpt.QueueLimit ∷ []) o
each_option SockOpt.Kind = (refl, refl)
each_option SockOpt.Error = (refl, refl)
each_option SockOpt.PassCred = (refl, refl)
each_option SockOpt.PeerCred = (refl, refl)
each_option SockOpt.AcceptConn = (refl, refl)
each_option SockOpt.QueueLimit = (refl, refl)

pub option_kind : IsKind option_at option_text (λ _. Unit {0})
unfolding option_at
option_kind = chosen_kind option_text (SockOpt.Kind ∷ SockOpt.Error ∷ SockOpt.PassCred ∷ SockOpt.PeerCred ∷ SockOpt.AcceptConn ∷
    SockOpt.QueueLimit ∷ []) each_option

each_whence : (w : Whence) → IsChosen whence_text (Whence.Set ∷ Whence.Cur ∷ Whence.End ∷ []) w
each_whence Whence.Set = (refl, refl)
each_whence Whence.Cur = (refl, refl)
each_whence Whence.End = (refl, refl)

pub whence_kind : IsKind whence_at whence_text (λ _. Unit {0})
unfolding whence_at
whence_kind = chosen_kind whence_text (Whence.Set ∷ Whence.Cur ∷ Whence.End ∷ []) each_whence

each_waits : (b : Bool) → IsChosen waits_text (false ∷ true ∷ []) b
each_waits false = (refl, refl)
each_waits true = (refl, refl)

pub waits_kind : IsKind waits_at waits_text (λ _. Unit {0})
unfolding waits_at
waits_kind = chosen_kind waits_text (false ∷ true ∷ []) each_waits

each_kind : (k : ObjKind) → IsChosen kind_text (ObjKind.Memory ∷ ObjKind.Counter ∷ ObjKind.Pipe ∷ []) k
each_kind ObjKind.Memory = (refl, refl)
each_kind ObjKind.Counter = (refl, refl)
each_kind ObjKind.Pipe = (refl, refl)

pub kind_kind : IsKind kind_at kind_text (λ _. Unit {0})
unfolding kind_at
kind_kind = chosen_kind kind_text (ObjKind.Memory ∷ ObjKind.Counter ∷ ObjKind.Pipe ∷ []) each_kind
