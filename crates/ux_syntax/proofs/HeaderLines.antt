-- A header line's words that are read are the spelling of what was read, and each spelling is read again.
use Rattle.std.proofs.Common.{◌≡◌, ℕ, zero, suc, ◌<◌, Bool, true, false, cond, eqb, List, [], ◌∷◌, ◌++◌, codes, Result, Ok, Err, refl, ap}
use Rattle.std.proofs.Common.{sym, ◌∙◌, subst, arith}
use Rattle.std.specs.Prelude.{Option, Some, None, decimal}
use Rattle.std.specs.List.{AllByRecursion}
use Rattle.std.specs.Str.{bytes_eq}
use Rattle.std.proofs.lemmas.Bool.{ne_eqb}
use Rattle.std.proofs.lemmas.Slice.Eq.{bytes_eq-Decides}
use Rattle.ux_syntax.specs.declared.fault.Fault.{Fault}
use Rattle.ux_syntax.specs.declared.fault.Fault.TheVariants.{BadLine}
use Rattle.ux_model.specs.Types.{ProcSpec}
use Rattle.ux_object.specs.declared.ObjKind.{ObjKind}
use Rattle.ux_syntax.specs.declared.script.ObjectLine.{ObjectLine}
use Rattle.ux_syntax.specs.declared.script.Header.{Header}
use Rattle.ux_trace.specs.Trace.{hex, path_text}
use Rattle.ux_syntax.specs.Spelling.{bit, kind_text, fail_words, body_words, AreBytes, FitsFail, FitsBody, FitsHeader}
use Rattle.ux_syntax.specs.Reading.{◌>>=◌, number_at, one, ends, ◌>>◌, hex_at, path_at, kind_at, fail_at, body_at, contents_at}
use Rattle.ux_syntax.specs.Reading.{described_at, object_at, proc_at}
use Rattle.ux_syntax.proofs.Rows.{IsSolid, solid_from, IsBadOrOk, IsRow, either_bad, bind_ok, bind_bad, one_bad, ok_is, ends_row, row_then}
use Rattle.ux_syntax.proofs.Rows.{number_kind}
use Rattle.ux_syntax.proofs.Bytes.{hex_kind}
use Rattle.ux_syntax.proofs.Choices.{bit_kind, kind_kind}
use Rattle.ux_syntax.proofs.Names.{path_kind}

-- ---- what an object starts with

abbrev IsBody : ObjKind → List (List ℕ) → List ℕ → Type 0
IsBody kind ws body = (ws ≡ body_words kind body) × FitsBody kind body

hex_row : IsRow (hex_at >> ends) (λ x. hex x.0 ∷ []) (λ x. AreBytes x.0 × Unit {0})
hex_row = row_then hex_kind ends_row

none_takes : (kind : ObjKind) (ws : List (List ℕ)) (body : List ℕ) → IsBody kind [] [] → (ends ws >>= λ x. Ok []) ≡ Ok body →
    IsBody kind ws body
none_takes kind [] body h e = subst (IsBody kind []) (ok_is [] body e) h
none_takes kind (w ∷ ws) body h e = absurd cc

body_takes : (kind : ObjKind) (ws : List (List ℕ)) (body : List ℕ) → body_at kind ws ≡ Ok body → IsBody kind ws body
body_takes ObjKind.Memory ws body e =
    let a = bind_ok ((hex_at >> ends) ws) (λ x. Ok x.0) body e in
    let p = hex_row.takes ws a.0 a.1 in
    subst (IsBody ObjKind.Memory ws) (ok_is a.0.0 body a.2) (p.0, p.1.0)
body_takes ObjKind.Counter ws body e = none_takes ObjKind.Counter ws body (refl, refl) e
body_takes ObjKind.Pipe ws body e = none_takes ObjKind.Pipe ws body (refl, refl) e

body_bad : (kind : ObjKind) (ws : List (List ℕ)) → IsBadOrOk (body_at kind ws)
body_bad ObjKind.Memory ws = bind_bad ((hex_at >> ends) ws) _ (hex_row.bad ws) (λ x. tt)
body_bad ObjKind.Counter ws = bind_bad (ends ws) _ (ends_row.bad ws) (λ x. tt)
body_bad ObjKind.Pipe ws = bind_bad (ends ws) _ (ends_row.bad ws) (λ x. tt)

body_again : (kind : ObjKind) (body : List ℕ) → FitsBody kind body → body_at kind (body_words kind body) ≡ Ok body
body_again ObjKind.Memory body f = rw (hex_kind.again body f) refl
body_again ObjKind.Counter body f = ap (λ (x : List ℕ). Ok x) (sym f)
body_again ObjKind.Pipe body f = ap (λ (x : List ℕ). Ok x) (sym f)

body_solid : (kind : ObjKind) (body : List ℕ) → FitsBody kind body → AllByRecursion IsSolid (body_words kind body)
body_solid ObjKind.Memory body f = (hex_kind.solid body f, tt)
body_solid ObjKind.Counter body f = tt
body_solid ObjKind.Pipe body f = tt

-- ---- the kind, and what the object starts with

abbrev contents_words : ObjKind × List ℕ → List (List ℕ)
contents_words x = kind_text x.0 ∷ body_words x.0 x.1

contents_takes : (ws : List (List ℕ)) (x : ObjKind × List ℕ) → contents_at ws ≡ Ok x → (ws ≡ contents_words x) × FitsBody x.0 x.1
contents_takes [] x e = absurd cc
contents_takes (w ∷ ws) x e =
    let a = bind_ok (one kind_at (w ∷ ws)) (λ y. body_at y.0 y.1 >>= λ body. Ok (y.0, body)) x e in
    let b = bind_ok (kind_at w) (λ k. Ok (k, ws)) a.0 a.1 in
    let c = bind_ok (body_at a.0.0 a.0.1) (λ body. Ok (a.0.0, body)) x a.2 in
    let same : (b.0, ws) ≡ a.0 = ok_is (b.0, ws) a.0 b.2 in
    let kind : b.0 ≡ a.0.0 = ap (λ (y : ObjKind × List (List ℕ)). y.0) same in
    let rest : ws ≡ a.0.1 = ap (λ (y : ObjKind × List (List ℕ)). y.1) same in
    let p = body_takes a.0.0 a.0.1 c.0 c.1 in
    let first : w ≡ kind_text a.0.0 = (kind_kind.takes w b.0 b.1).0 ∙ ap kind_text kind in
    subst (λ (y : ObjKind × List ℕ). (w ∷ ws ≡ contents_words y) × FitsBody y.0 y.1) (ok_is (a.0.0, c.0) x c.2)
    (ap (λ (v : List ℕ). v ∷ ws) first ∙ ap (λ (vs : List (List ℕ)). kind_text a.0.0 ∷ vs) (rest ∙ p.0), p.1)

contents_row : IsRow contents_at contents_words (λ x. FitsBody x.0 x.1)
contents_row = record {
  takes = contents_takes;
  bad = λ ws. bind_bad (one kind_at ws) _ (one_bad kind_at kind_kind.bad ws)
      (λ x. bind_bad (body_at x.0 x.1) _ (body_bad x.0 x.1) (λ body. tt));
  again = λ x f. rw (kind_kind.again x.0 tt, body_again x.0 x.1 f) refl;
  solid = λ x f. (kind_kind.solid x.0 tt, body_solid x.0 x.1 f);
}

-- ---- which call fails, and the contents behind it

abbrev Described : Type 0
Described = Option ℕ × (ObjKind × List ℕ)

abbrev described_words : Described → List (List ℕ)
described_words x = fail_words x.0 ++ contents_words x.1

abbrev FitsDescribed : Described → Type 0
FitsDescribed x = FitsFail x.0 × FitsBody x.1.0 x.1.1

abbrev AreDescribed : List (List ℕ) → Described → Type 0
AreDescribed ws x = (ws ≡ described_words x) × FitsDescribed x

-- the word behind `fail`, which counts from 1
abbrev numbered : ℕ × List (List ℕ) → Result (Option ℕ × List (List ℕ)) Fault
numbered x = cond (eqb x.0 0) (Err BadLine) (Ok (Some x.0, x.1))

abbrev with_contents : Option ℕ × List (List ℕ) → Result Described Fault
with_contents f = contents_at f.1 >>= λ x. Ok (f.0, x)

none_described : (w : List ℕ) (ws : List (List ℕ)) (x : Described) → with_contents (None, w ∷ ws) ≡ Ok x → AreDescribed (w ∷ ws) x
none_described w ws x e =
    let a = bind_ok (contents_at (w ∷ ws)) (λ y. Ok (None, y)) x e in
    let p = contents_takes (w ∷ ws) a.0 a.1 in
    subst (AreDescribed (w ∷ ws)) (ok_is (None, a.0) x a.2) (p.0, (tt, p.1))

numbered_is : (n : ℕ) (rest : List (List ℕ)) → numbered (suc n, rest) ≡ Ok (Some (suc n), rest)
numbered_is n rest = let other : eqb (suc n) 0 ≡ false = ne_eqb (suc n) 0 (λ e. omega (arith, e)) in rw other refl

above_zero : (n : ℕ) (rest : List (List ℕ)) (f : Option ℕ × List (List ℕ)) → numbered (n, rest) ≡ Ok f → (0 < n) × ((Some n, rest) ≡ f)
above_zero zero rest f e = absurd cc
above_zero (suc n) rest f e = (omega arith, ok_is (Some (suc n), rest) f (sym (numbered_is n rest) ∙ e))

some_described : (ws : List (List ℕ)) (x : Described) → ((one number_at ws >>= numbered) >>= with_contents) ≡ Ok x →
    AreDescribed (codes "fail" ∷ ws) x
some_described [] x e = absurd cc
some_described (w ∷ ws) x e =
    let a = bind_ok (one number_at (w ∷ ws) >>= numbered) with_contents x e in
    let b = bind_ok (one number_at (w ∷ ws)) numbered a.0 a.1 in
    let c = bind_ok (number_at w) (λ n. Ok (n, ws)) b.0 b.1 in
    let first : (c.0, ws) ≡ b.0 = ok_is (c.0, ws) b.0 c.2 in
    let counted = above_zero c.0 ws a.0 (ap numbered first ∙ b.2) in
    let word = number_kind.takes w c.0 c.1 in
    let d = bind_ok (contents_at ws) (λ y. Ok (Some c.0, y)) x (ap with_contents counted.1 ∙ a.2) in
    let p = contents_takes ws d.0 d.1 in
    subst (AreDescribed (codes "fail" ∷ w ∷ ws)) (ok_is (Some c.0, d.0) x d.2) (
      ap (λ (v : List ℕ). codes "fail" ∷ v ∷ ws) word.0
          ∙ ap (λ (vs : List (List ℕ)). codes "fail" ∷ decimal c.0 ∷ vs) p.0,
      ((counted.0, word.1), p.1),
    )

described_chosen : (w : List ℕ) (ws : List (List ℕ)) (x : Described) (b : Bool) → (b ≡ true → w ≡ codes "fail")
    → (cond b (one number_at ws >>= numbered) (Ok (None, w ∷ ws)) >>= with_contents) ≡ Ok x → AreDescribed (w ∷ ws) x
described_chosen w ws x true h e = subst (λ (v : List ℕ). AreDescribed (v ∷ ws) x) (sym (h refl)) (some_described ws x e)
described_chosen w ws x false h e = none_described w ws x e

described_takes : (ws : List (List ℕ)) (x : Described) → described_at ws ≡ Ok x → AreDescribed ws x
described_takes [] x e = absurd cc
described_takes (w ∷ ws) x e = described_chosen w ws x (bytes_eq w (codes "fail")) (bytes_eq-Decides w (codes "fail")).0 e

numbered_bad : (n : ℕ) (rest : List (List ℕ)) → IsBadOrOk (numbered (n, rest))
numbered_bad zero rest = refl
numbered_bad (suc n) rest = subst (λ (r : Result (Option ℕ × List (List ℕ)) Fault). IsBadOrOk r) (sym (numbered_is n rest)) tt

fail_bad : (ws : List (List ℕ)) → IsBadOrOk (fail_at ws)
fail_bad [] = tt
fail_bad (w ∷ ws) = either_bad (bytes_eq w (codes "fail")) (one number_at ws >>= numbered) (Ok (None, w ∷ ws))
    (bind_bad (one number_at ws) numbered (one_bad number_at number_kind.bad ws) (λ x. numbered_bad x.0 x.1)) tt

described_bad : (ws : List (List ℕ)) → IsBadOrOk (described_at ws)
described_bad ws = bind_bad (fail_at ws) with_contents (fail_bad ws) (λ f. bind_bad (contents_at f.1) _ (contents_row.bad f.1) (λ x. tt))

-- a kind is no `fail`
kind_first : (kind : ObjKind) (ws : List (List ℕ)) → fail_at (kind_text kind ∷ ws) ≡ Ok (None, kind_text kind ∷ ws)
kind_first ObjKind.Memory ws = refl
kind_first ObjKind.Counter ws = refl
kind_first ObjKind.Pipe ws = refl

numbered_again : (n : ℕ) (rest : List (List ℕ)) → 0 < n → numbered (n, rest) ≡ Ok (Some n, rest)
numbered_again zero rest h = absurd (omega (arith, h))
numbered_again (suc n) rest h = numbered_is n rest

described_again : (x : Described) → FitsDescribed x → described_at (described_words x) ≡ Ok x
described_again (None, x) f = rw (kind_first x.0 (body_words x.0 x.1), contents_row.again x f.1) refl
described_again (Some n, x) f = rw (number_kind.again n f.0.1, numbered_again n (contents_words x) f.0.0, contents_row.again x f.1) refl

described_solid : (x : Described) → FitsDescribed x → AllByRecursion IsSolid (described_words x)
described_solid (None, x) f = contents_row.solid x f.1
described_solid (Some n, x) f = (solid_from (codes "fail") refl, (number_kind.solid n f.0.1, contents_row.solid x f.1))

described_row : IsRow described_at described_words FitsDescribed
described_row = record { takes = described_takes; bad = described_bad; again = described_again; solid = described_solid }

-- ---- a header line behind its first word

abbrev pub header_args : Header → List (List ℕ)
header_args (Header.Object o) = path_text o.name ∷ (fail_words o.fail ++ (kind_text o.kind ∷ body_words o.kind o.body))
header_args (Header.Proc p) = decimal p.uid ∷ decimal p.gid ∷ bit p.privileged ∷ decimal p.limit ∷ []

abbrev AreArgs : Header → List (List ℕ) → Type 0
AreArgs h ws = (ws ≡ header_args h) × FitsHeader h

pub object_takes : (ws : List (List ℕ)) (o : ObjectLine) → object_at ws ≡ Ok o →
    (ws ≡ header_args (Header.Object o)) × FitsHeader (Header.Object o)
unfolding object_at
object_takes ws o e =
    let b = bind_ok ((path_at >> described_at) ws) (λ x. Ok (record { name = x.0; fail = x.1.0; kind = x.1.1.0; body = x.1.1.1 })) o e in
    let q = (row_then path_kind described_row).takes ws b.0 b.1 in
    subst (λ (y : ObjectLine). AreArgs (Header.Object y) ws)
    (ok_is (record { name = b.0.0; fail = b.0.1.0; kind = b.0.1.1.0; body = b.0.1.1.1 }) o b.2) (q.0, (q.1.0, q.1.1.0, q.1.1.1))

pub object_bad : (ws : List (List ℕ)) → IsBadOrOk (object_at ws)
unfolding object_at
object_bad ws = bind_bad ((path_at >> described_at) ws) _ ((row_then path_kind described_row).bad ws) (λ x. tt)

pub proc_takes : (ws : List (List ℕ)) (p : ProcSpec) → proc_at ws ≡ Ok p → (ws ≡ header_args (Header.Proc p)) × FitsHeader (Header.Proc p)
unfolding proc_at
proc_takes ws p e =
    let row = row_then number_kind (row_then number_kind (row_then bit_kind (row_then number_kind ends_row))) in
    let b = bind_ok _ (λ x. Ok (record { uid = x.0; gid = x.1.0; privileged = x.1.1.0; limit = x.1.1.1.0 })) p e in
    let q = row.takes ws b.0 b.1 in
    subst (λ (y : ProcSpec). AreArgs (Header.Proc y) ws)
    (ok_is (record { uid = b.0.0; gid = b.0.1.0; privileged = b.0.1.1.0; limit = b.0.1.1.1.0 }) p b.2) (q.0, (q.1.0, q.1.1.0, q.1.1.1.1.0))

pub proc_bad : (ws : List (List ℕ)) → IsBadOrOk (proc_at ws)
unfolding proc_at
proc_bad ws =
    let row = row_then number_kind (row_then number_kind (row_then bit_kind (row_then number_kind ends_row))) in
    bind_bad _ _ (row.bad ws) (λ x. tt)

pub object_again : (o : ObjectLine) → FitsHeader (Header.Object o) → object_at (header_args (Header.Object o)) ≡ Ok o
unfolding object_at
object_again o f = rw (path_kind.again o.name f.0, described_again (o.fail, (o.kind, o.body)) (f.1, f.2)) refl

pub proc_again : (p : ProcSpec) → FitsHeader (Header.Proc p) → proc_at (header_args (Header.Proc p)) ≡ Ok p
unfolding proc_at
proc_again p f = rw (
  number_kind.again p.uid f.0,
  number_kind.again p.gid f.1,
  bit_kind.again p.privileged tt,
  number_kind.again p.limit f.2,
) refl

pub header_solid : (h : Header) → FitsHeader h → AllByRecursion IsSolid (header_args h)
header_solid (Header.Object o) f = (path_kind.solid o.name f.0, described_solid (o.fail, (o.kind, o.body)) (f.1, f.2))
header_solid (Header.Proc p) f = (
  number_kind.solid p.uid f.0,
  (number_kind.solid p.gid f.1, (bit_kind.solid p.privileged tt, (number_kind.solid p.limit f.2, tt))),
)
