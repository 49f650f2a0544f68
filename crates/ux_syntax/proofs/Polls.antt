-- What a poll of several descriptors asks for: descriptors with conditions, joined by commas.
use Rattle.std.proofs.Common.{◌≡◌, lit<, ℕ, ◌<◌, map, Bool, true, false, cond, eqb, List, [], ◌∷◌, length, Ok, Err, refl, ap, sym, ◌∙◌}
use Rattle.std.proofs.Common.{subst, arith}
use Rattle.std.specs.Prelude.{decimal}
use Rattle.std.specs.List.{AllByRecursion, slice_split, join_with_byte}
use Rattle.std.specs.Str.{bytes_eq}
use Rattle.std.proofs.lemmas.List.{length-map}
use Rattle.std.proofs.lemmas.List.Splits.{length-slice_split, join_with_byte-slice_split}
use Rattle.std.proofs.lemmas.Slice.Eq.{bytes_eq-Decides}
use Rattle.ux_model.specs.Types.{Fd, PollFlags, PollFd}
use Rattle.ux_syntax.specs.declared.fault.Fault.TheVariants.{BadLine}
use Rattle.ux_trace.specs.Trace.{dash}
use Rattle.ux_syntax.specs.Spelling.{IsNumber, events_text, asked_text, poll_fds_text, FitsEvents, FitsPollFd, FitsPollFds}
use Rattle.ux_syntax.specs.Reading.{◌>>=◌, ◌>>◌, ends, number_at, fd_at, events_at, asked_at, each_at, poll_fds_at}
use Rattle.ux_syntax.proofs.Rows.{IsSolid, IsBadOrOk, IsKind, IsRow, done, bind_ok, ok_is, either_bad, bind_bad, other_than, number_kind}
use Rattle.ux_syntax.proofs.Rows.{fd_kind, ends_row, row_then, each_row}
use Rattle.ux_syntax.proofs.Bytes.{dash_solid}
use Rattle.ux_syntax.proofs.Apart.{HasNo, no_append, no_such_digit, split_joined, solid_append, solid_joined}
use Rattle.ux_syntax.proofs.Flags.{events_kind, events_no_comma, events_no_colon}

-- ---- one descriptor

abbrev is_colon : ℕ → Bool
is_colon b = eqb b 58

abbrev Asked : Type 0
Asked = Fd × (PollFlags × Unit {0})

abbrev asked_made : Asked → PollFd
asked_made x = record { fd = x.0; events = x.1.0 }

asked_row : IsRow (fd_at >> events_at >> ends) (λ (x : Asked). decimal x.0.0 ∷ events_text x.1.0 ∷ [])
    (λ (x : Asked). IsNumber x.0.0 × (FitsEvents x.1.0 × Unit {0}))
asked_row = row_then fd_kind (row_then events_kind ends_row)

asked_takes : (w : List ℕ) (a : PollFd) → asked_at w ≡ Ok a → (w ≡ asked_text a) × FitsPollFd a
unfolding asked_at
asked_takes w a e =
    let x = bind_ok ((fd_at >> events_at >> ends) (slice_split is_colon w)) (λ x. Ok (asked_made x)) a e in
    let p = asked_row.takes (slice_split is_colon w) x.0 x.1 in
    subst (λ (y : PollFd). (w ≡ asked_text y) × FitsPollFd y) (ok_is (asked_made x.0) a x.2)
    (sym (join_with_byte-slice_split 58 w) ∙ ap (join_with_byte 58) p.0, (p.1.0, p.1.1.0))

asked_bad : (w : List ℕ) → IsBadOrOk (asked_at w)
unfolding asked_at
asked_bad w = bind_bad ((fd_at >> events_at >> ends) (slice_split is_colon w)) _ (asked_row.bad (slice_split is_colon w)) (λ x. tt)

asked_again : (a : PollFd) → FitsPollFd a → asked_at (asked_text a) ≡ Ok a
unfolding asked_at
asked_again a f =
    ap (λ (ws : List (List ℕ)). (fd_at >> events_at >> ends) ws >>= λ x. Ok (asked_made x))
    (split_joined 58 (decimal a.fd.0) (events_text a.events ∷ []) refl (no_such_digit 58 a.fd.0 refl f.0) (events_no_colon a.events f.1, tt))
    ∙ rw (fd_kind.again a.fd f.0, events_kind.again a.events f.1) refl

asked_solid : (a : PollFd) → FitsPollFd a → IsSolid (asked_text a)
asked_solid a f = solid_append (decimal a.fd.0) (58 ∷ events_text a.events) (number_kind.solid a.fd.0 f.0)
    (lit< tt, events_kind.solid a.events f.1)

asked_kind : IsKind asked_at asked_text FitsPollFd
asked_kind = record { takes = asked_takes; bad = asked_bad; again = asked_again; solid = asked_solid }

-- ---- several descriptors

abbrev is_comma : ℕ → Bool
is_comma b = eqb b 44

fds_row : IsRow (each_at asked_at) (map asked_text) (AllByRecursion FitsPollFd)
fds_row = each_row asked_kind

no_comma : (a : PollFd) → FitsPollFd a → HasNo 44 (asked_text a)
no_comma a f = no_append 44 (decimal a.fd.0) (58 ∷ events_text a.events) (no_such_digit 44 a.fd.0 refl f.0)
    (refl, events_no_comma a.events f.1)

no_commas : (fds : List PollFd) → FitsPollFds fds → AllByRecursion (HasNo 44) (map asked_text fds)
no_commas [] f = tt
no_commas (a ∷ fds) f = (no_comma a f.0, no_commas fds f.1)

joined_is : (fds : List PollFd) → 0 < length fds → join_with_byte 44 (map asked_text fds) ≡ poll_fds_text fds
joined_is [] h = absurd (omega (arith, h))
joined_is (a ∷ fds) h = refl

fds_chosen : (w : List ℕ) (fds : List PollFd) (t : Bool) → (t ≡ true → w ≡ dash) →
    cond t (done []) (each_at asked_at (slice_split is_comma w)) ≡ Ok fds → (w ≡ poll_fds_text fds) × FitsPollFds fds
fds_chosen w fds true d e = subst (λ (x : List PollFd). (w ≡ poll_fds_text x) × FitsPollFds x) (ok_is [] fds e) (d refl, tt)
fds_chosen w fds false d e =
    let p = fds_row.takes (slice_split is_comma w) fds e in
    let long : length (slice_split is_comma w) ≡ length fds =
    ap (λ (ws : List (List ℕ)). length ws) p.0 ∙ length-map fds asked_text in
    let some : 0 < length fds = omega (arith, length-slice_split is_comma w, long) in
    (sym (join_with_byte-slice_split 44 w) ∙ ap (join_with_byte 44) p.0 ∙ joined_is fds some, p.1)

some_again : (a : PollFd) (fds : List PollFd) → FitsPollFds (a ∷ fds) →
    each_at asked_at (slice_split is_comma (poll_fds_text (a ∷ fds))) ≡ Ok (a ∷ fds)
some_again a fds f = ap (each_at asked_at) (split_joined 44 (asked_text a) (map asked_text fds) refl (no_comma a f.0) (no_commas fds f.1))
    ∙ fds_row.again (a ∷ fds) f

dash_is_none : each_at asked_at (slice_split is_comma dash) ≡ Err BadLine
unfolding asked_at number_at
dash_is_none = refl

poll_fds_again : (fds : List PollFd) → FitsPollFds fds → poll_fds_at (poll_fds_text fds) ≡ Ok fds
unfolding poll_fds_at
poll_fds_again [] f = refl
poll_fds_again (a ∷ fds) f =
    let other = other_than (λ w. each_at asked_at (slice_split is_comma w)) (poll_fds_text (a ∷ fds)) dash (a ∷ fds) (some_again a fds f)
    dash_is_none in
    rw other (some_again a fds f)

poll_fds_solid : (fds : List PollFd) → FitsPollFds fds → IsSolid (poll_fds_text fds)
poll_fds_solid [] f = dash_solid
poll_fds_solid (a ∷ fds) f = solid_joined 44 (asked_text a) (map asked_text fds) (lit< tt) (asked_solid a f.0) (fds_row.solid fds f.1)

pub poll_fds_kind : IsKind poll_fds_at poll_fds_text FitsPollFds
unfolding poll_fds_at
poll_fds_kind = record {
  takes = λ w fds e. fds_chosen w fds (bytes_eq w dash) (bytes_eq-Decides w dash).0 e;
  bad = λ w. either_bad (bytes_eq w dash) (done []) _ tt (fds_row.bad (slice_split is_comma w));
  again = poll_fds_again;
  solid = poll_fds_solid;
}
