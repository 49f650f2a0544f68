-- What a process's number stands before, when it is read, is the spelling of what was read, and each spelling is read again.
use Rattle.std.proofs.Common.{◌≡◌, ℕ, Bool, true, false, cond, List, [], ◌∷◌, Ok, Err, refl, ap, sym, ◌∙◌, subst, codes}
use Rattle.std.specs.List.{AllByRecursion}
use Rattle.std.specs.Str.{bytes_eq}
use Rattle.std.proofs.lemmas.Slice.Eq.{bytes_eq-Decides}
use Rattle.ux_model.specs.Types.{Request}
use Rattle.ux_syntax.specs.declared.fault.Fault.TheVariants.{BadLine}
use Rattle.ux_syntax.specs.declared.script.Act.{Act}
use Rattle.ux_fields.specs.declared.CallWord.{CallWord}
use Rattle.ux_fields.specs.Forms.{word_text, is_off_word}
use Rattle.ux_syntax.specs.Spelling.{Asked, call, wait, act_of, asked_words, FitsAsked}
use Rattle.ux_syntax.specs.Reading.{◌>>=◌, number_at, ends, ◌>>◌, word_at, args_at, wait_at, call_at, act_at}
use Rattle.ux_syntax.proofs.Rows.{IsSolid, solid_from, IsBadOrOk, either_bad, bind_bad, bind_ok, ok_is, number_kind, ends_row}
use Rattle.ux_syntax.proofs.Rows.{row_then, other_than}
use Rattle.ux_syntax.proofs.Args.{args_takes, args_bad, word_bad, args_again, args_solid, word_takes, word_again, word_solid}

-- the words ask for this, as it may be written
abbrev AsksFor : List (List ℕ) → Act → Type 0
AsksFor ws act = (a : Asked) × (act_of a ≡ act) × (ws ≡ asked_words a) × FitsAsked a

wait_takes : (ws : List (List ℕ)) (act : Act) → wait_at ws ≡ Ok act → AsksFor (codes "wait" ∷ ws) act
unfolding wait_at
wait_takes ws act e =
    let a = bind_ok ((number_at >> number_at >> ends) ws) (λ x. Ok (Act.Wait (record { 0 = x.0 }) x.1.0)) act e in
    let p = (row_then number_kind (row_then number_kind ends_row)).takes ws a.0 a.1 in (
      wait a.0.0 a.0.1.0,
      ok_is (Act.Wait (record { 0 = a.0.0 }) a.0.1.0) act a.2,
      ap (λ (xs : List (List ℕ)). codes "wait" ∷ xs) p.0,
      (p.1.0, p.1.1.0),
    )

call_takes : (w : List ℕ) (ws : List (List ℕ)) (act : Act) → call_at w ws ≡ Ok act → AsksFor (w ∷ ws) act
call_takes w ws act e =
    let a = bind_ok (word_at w) (λ word. args_at word ws >>= λ r. Ok (Act.Call r)) act e in
    let b = bind_ok (args_at a.0 ws) (λ r. Ok (Act.Call r)) act a.2 in
    let p = args_takes a.0 ws b.0 b.1 in (
      call (record { word = a.0; fields = p.fields }),
      ap (λ (r : Request). Act.Call r) p.means ∙ ok_is (Act.Call b.0) act b.2,
      ap (λ (x : List ℕ). x ∷ ws) (word_takes w a.0 a.1) ∙ ap (λ (xs : List (List ℕ)). word_text a.0 ∷ xs) p.args,
      p.fits,
    )

act_chosen : (w : List ℕ) (ws : List (List ℕ)) (act : Act) (t : Bool) → (t ≡ true → w ≡ codes "wait") →
    cond t (wait_at ws) (call_at w ws) ≡ Ok act → AsksFor (w ∷ ws) act
act_chosen w ws act true d e = subst (λ (x : List ℕ). AsksFor (x ∷ ws) act) (sym (d refl)) (wait_takes ws act e)
act_chosen w ws act false d e = call_takes w ws act e

pub act_takes : (ws : List (List ℕ)) (act : Act) → act_at ws ≡ Ok act → AsksFor ws act
unfolding act_at
act_takes [] act e = absurd cc
act_takes (w ∷ ws) act e = act_chosen w ws act (bytes_eq w (codes "wait")) (bytes_eq-Decides w (codes "wait")).0 e

wait_bad : (ws : List (List ℕ)) → IsBadOrOk (wait_at ws)
unfolding wait_at
wait_bad ws = bind_bad ((number_at >> number_at >> ends) ws) _ ((row_then number_kind (row_then number_kind ends_row)).bad ws) (λ x. tt)

call_bad : (w : List ℕ) (ws : List (List ℕ)) → IsBadOrOk (call_at w ws)
call_bad w ws = bind_bad (word_at w) _ (word_bad w) (λ word. bind_bad (args_at word ws) _ (args_bad word ws) (λ r. tt))

pub act_bad : (ws : List (List ℕ)) → IsBadOrOk (act_at ws)
unfolding act_at
act_bad [] = refl
act_bad (w ∷ ws) = either_bad (bytes_eq w (codes "wait")) (wait_at ws) (call_at w ws) (wait_bad ws) (call_bad w ws)

-- no call has the word
not_a_call : word_at (codes "wait") ≡ Err BadLine
unfolding word_at
not_a_call = refl

not_wait : (word : CallWord) → is_off_word word ≡ false → bytes_eq (word_text word) (codes "wait") ≡ false
not_wait word h = other_than word_at (word_text word) (codes "wait") word (word_again word h) not_a_call

pub act_again : (a : Asked) → FitsAsked a → act_at (asked_words a) ≡ Ok (act_of a)
unfolding act_at wait_at
act_again (call c) f = rw (not_wait c.word f.0, word_again c.word f.0, args_again c f) refl
act_again (wait pid calls) f = rw (number_kind.again pid f.0, number_kind.again calls f.1) refl

pub asked_solid : (a : Asked) → FitsAsked a → AllByRecursion IsSolid (asked_words a)
asked_solid (call c) f = (word_solid c.word f.0, args_solid c f)
asked_solid (wait pid calls) f = (solid_from (codes "wait") refl, (number_kind.solid pid f.0, (number_kind.solid calls f.1, tt)))
