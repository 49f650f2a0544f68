-- Which paths lead to file objects that were made before, after a call that makes, binds or takes away a path.
use Rattle.std.proofs.Common.{◌≡◌, ℕ, ◌<◌, Bool, true, false, not, ◌||◌, if◌then◌else◌, cond, List, [], ◌∷◌, ◌++◌, length, arith}
use Rattle.std.proofs.Common.{Some, None, refl, ap, sym, ◌∙◌, subst}
use Rattle.std.specs.Prelude.{is_some}
use Rattle.std.specs.Cmp.Lexicographic.{same_text}
use Rattle.ux_model.specs.Types.{Fd, Name, Addr}
use Rattle.ux_model.specs.Names.{PathTarget, file, bound, same_name, named, without_name, is_valid_path, is_valid_addr, is_unnamed_addr}
use Rattle.ux_model.specs.Names.{free_name}
use Rattle.ux_model.specs.State.{State}
use Rattle.ux_model.specs.Outcome.{Outcome}
use Rattle.ux_model.specs.Naming.{unlink}
use Rattle.ux_model.specs.Binding.{bind_to, bind}
use Rattle.ux_model.specs.Closing.{off}
use Rattle.ux_model.proofs.Changes.Walk.{either, maybe, found_socket}

-- a path that leads to one of so many file objects in the second list does so in the first
pub record NamesNoMore (known : ℕ) (old new : List (Name × PathTarget)) : Type 0 where
  pub each : (path : Name) (o : ℕ) → o < known → named path new ≡ Some (file o) → named path old ≡ Some (file o)

pub no_more : {known : ℕ} {old new : List (Name × PathTarget)} → new ≡ old → NamesNoMore known old new
no_more h = record { each = λ path o less is. ap (named path) (sym h) ∙ is }

-- one that leads to a further file object
named_new : (path name : Name) (n o : ℕ) (es : List (Name × PathTarget)) → o < n → named path (es ++ (name, file n) ∷ []) ≡ Some (file o) →
    named path es ≡ Some (file o)
named_new path name n o [] less h = absurd (other (same_name name path) h)
  where
    other : (b : Bool) → (if b then Some (file n) else None) ≡ Some (file o) → ⊥
    other true h = let same : n ≡ o = cc h in omega (arith, same, less)
    other false h = cc h
named_new path name n o (e ∷ es) less h = go (same_name e.0 path) (named_new path name n o es less) h
  where
    go : (b : Bool) → (named path (es ++ (name, file n) ∷ []) ≡ Some (file o) → named path es ≡ Some (file o)) →
        (if b then Some e.1 else named path (es ++ (name, file n) ∷ [])) ≡ Some (file o) →
        (if b then Some e.1 else named path es) ≡ Some (file o)
    go true rest h = h
    go false rest h = rest h

pub new_names : (es : List (Name × PathTarget)) (name : Name) (n : ℕ) → NamesNoMore n es (es ++ (name, file n) ∷ [])
new_names es name n = record { each = λ path o less h. named_new path name n o es less h }

named_pushed : (path name : Name) (d o : ℕ) (es : List (Name × PathTarget)) → named path (es ++ (name, bound d) ∷ []) ≡ Some (file o) →
    named path es ≡ Some (file o)
named_pushed path name d o [] h = absurd (other (same_name name path) h)
  where
    other : (b : Bool) → (if b then Some (bound d) else None) ≡ Some (file o) → ⊥
    other true h = cc h
    other false h = cc h
named_pushed path name d o (e ∷ es) h = go (same_name e.0 path) (named_pushed path name d o es) h
  where
    go : (b : Bool) → (named path (es ++ (name, bound d) ∷ []) ≡ Some (file o) → named path es ≡ Some (file o)) →
        (if b then Some e.1 else named path (es ++ (name, bound d) ∷ [])) ≡ Some (file o) →
        (if b then Some e.1 else named path es) ≡ Some (file o)
    go true rest h = h
    go false rest h = rest h

pub names_equal : (a b : Name) → same_name a b ≡ true → a ≡ b
names_equal a b h = same_text a b (sym h)

-- of a list without a name
named_left : (path name : Name) (o : ℕ) (es : List (Name × PathTarget)) → named path (without_name name es) ≡ Some (file o) →
    named path es ≡ Some (file o)
named_left path name o [] h = absurd (cc h)
named_left path name o (e ∷ es) h = by_name (same_name e.0 name) refl (named_left path name o es) h
  where
    at_path : (b : Bool) → (named path (without_name name es) ≡ Some (file o) → named path es ≡ Some (file o)) →
        (if b then Some e.1 else named path (without_name name es)) ≡ Some (file o) →
        (if b then Some e.1 else named path es) ≡ Some (file o)
    at_path true rest h = h
    at_path false rest h = rest h

    gone : (b : Bool) → same_name e.0 path ≡ b → same_name e.0 name ≡ true →
        (named path (without_name name es) ≡ Some (file o) → named path es ≡ Some (file o)) →
        named path (without_name name es) ≡ Some (file o) → (if b then Some e.1 else named path es) ≡ Some (file o)
    gone true is away rest h =
        let path_is : path ≡ name = sym (names_equal e.0 path is) ∙ names_equal e.0 name away in
        absurd (none_left es (subst (λ (x : Name). named x (without_name name es) ≡ Some (file o)) path_is h))
      where
        skipped : (f : Name × PathTarget) (fs : List (Name × PathTarget)) (b : Bool) → same_name f.0 name ≡ b →
            (named name (without_name name fs) ≡ Some (file o) → ⊥) →
            named name (cond (not b) (f ∷ without_name name fs) (without_name name fs)) ≡ Some (file o) → ⊥
        skipped f fs true is none h = none h
        skipped f fs false is none h = none (sym (ap (λ b. if b then Some f.1 else named name (without_name name fs)) is) ∙ h)

        none_left : (fs : List (Name × PathTarget)) → named name (without_name name fs) ≡ Some (file o) → ⊥
        none_left [] h = cc h
        none_left (f ∷ fs) h = skipped f fs (same_name f.0 name) refl (none_left fs) h
    gone false is away rest h = rest h

    by_name : (b : Bool) → same_name e.0 name ≡ b → (named path (without_name name es) ≡ Some (file o) → named path es ≡ Some (file o)) →
        named path (cond (not b) (e ∷ without_name name es) (without_name name es)) ≡ Some (file o) → named path (e ∷ es) ≡ Some (file o)
    by_name true away rest h = gone (same_name e.0 path) refl away rest h
    by_name false stays rest h = at_path (same_name e.0 path) rest h

pub bind_names : (S : State) (p : ℕ) (fd : Fd) (addr : Addr) →
    (bind S p fd addr).next.objects ≡ S.objects × NamesNoMore (length S.objects) S.paths (bind S p fd addr).next.paths
unfolding bind
bind_names S p fd addr = found_socket Q S p fd _ nothing nothing
    (λ d s there. either Q (not (is_unnamed_addr s.name) || not (is_valid_addr addr)) _ _ (λ b. nothing) (λ b. to d addr))
  where
    Q : Outcome → Type 0
    Q x = (x.next.objects ≡ S.objects) × NamesNoMore (length S.objects) S.paths x.next.paths

    nothing : (S.objects ≡ S.objects) × NamesNoMore (length S.objects) S.paths S.paths
    nothing = (refl, no_more refl)

    to : (d : ℕ) (name : Addr) → Q (bind_to S d name)
    to d Addr.Unnamed = maybe Q (free_name S.abstract_names) _ _ nothing (λ name h. (refl, no_more refl))
    to d (Addr.Path name) = either Q (is_some (named name S.paths)) _ _ (λ b. nothing)
        (λ b. (refl, record { each = λ path o less h. named_pushed path name d o S.paths h }))
    to d (Addr.Abstract name) = either Q (is_some (named name S.abstract_names)) _ _ (λ b. nothing) (λ b. (refl, no_more refl))

pub unlink_names : (S : State) (path : Name) →
    (unlink S path).next.objects ≡ S.objects × NamesNoMore (length S.objects) S.paths (unlink S path).next.paths
unfolding unlink
unlink_names S path = either Q (not (is_valid_path path)) _ _ (λ b. (refl, no_more refl))
    (λ b. either Q (not (is_some (named path S.paths))) _ _ (λ b. (refl, no_more refl))
    (λ b. (refl, record { each = λ x o less h. named_left x path o S.paths h })))
  where
    Q : Outcome → Type 0
    Q x = (x.next.objects ≡ S.objects) × NamesNoMore (length S.objects) S.paths x.next.paths

pub off_names : (S : State) → (off S).next.objects ≡ S.objects × NamesNoMore (length S.objects) S.paths (off S).next.paths
unfolding off
off_names S = (refl, record { each = λ path o less h. absurd (cc h) })
