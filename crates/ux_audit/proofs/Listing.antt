-- Listing what is open, number by number.
use Rattle.std.proofs.Common.{◌≡◌, ◌⊎◌, ℕ, zero, suc, ◌+◌, ◌≤◌, cond, nat_lt, is_some, List, [], ◌∷◌, ◌++◌, length, get_or, Option, None}
use Rattle.std.proofs.Common.{Some, option_map, refl, ap, sym, ◌∙◌, subst, inl, inr, ⊎_elim, Bool, true, false, arith}
use Rattle.std.proofs.lemmas.Bool.{false≢true, ltb-true, ltb-false}
use Rattle.ux_model.proofs.Lists.ChangedPlaces.{bool_cases}
use Rattle.std.proofs.lemmas.List.Elements.{Contains-get_or, Contains-append_left, Contains-push, Contains-push_cases}
use Rattle.std.proofs.lemmas.List.Quantifiers.{all_pairs_push}
use Rattle.std.specs.Global.{Vec}
use Rattle.std.specs.List.{Contains}
use Rattle.ux_model.specs.Types.{Pid, Fd}
use Rattle.ux_model.specs.Places.{place}
use Rattle.ux_model.specs.Process.{Descriptor, fd_of, pid_of}
use Rattle.ux_model.specs.State.{State}
use Rattle.ux_model.specs.Giving.{held_at, is_held}
use Rattle.ux_audit.specs.Flags.{flag_at, AreFlags}
use Rattle.ux_audit.specs.Holdings.{IsBefore, Precedes, AreHoldings, AreListed}

not_in_nothing : {X : Type 0} (x : X) → Contains [] x → ⊥
not_in_nothing x c = omega (arith, c.1)

pub listed_nothing : (flags : ℕ → ℕ → Option Bool) → AreListed flags 0 0 []
listed_nothing flags = record {
  only = λ q k c. absurd (not_in_nothing (pid_of q, fd_of k) c);
  all = λ q k h b. ⊎_elim {C = Contains [] (pid_of q, fd_of k)} (λ l. absurd (omega (arith, l))) (λ w. absurd (omega (arith, w.1))) b;
  rising = λ i j d l h. absurd (omega (arith, h));
}

-- what comes before the next number: what came before this one, and this one
before_next : (q k p n : ℕ) → IsBefore q k p (n + 1) → IsBefore q k p n ⊎ ((q ≡ p) × (k ≡ n))
before_next q k p n b = ⊎_elim {C = IsBefore q k p n ⊎ ((q ≡ p) × (k ≡ n))} (λ l. inl (inl l))
    (λ w. bool_cases (nat_lt k n) (λ l. inl (inr (w.0, ltb-true k n l)))
    (λ l. let o = ltb-false k n l in let u = w.1 in inr (w.0, omega (arith, o, u)))) b

before_more : (q k p n : ℕ) → IsBefore q k p n → IsBefore q k p (n + 1)
before_more q k p n b = ⊎_elim {C = IsBefore q k p (n + 1)} (λ l. inl l) (λ w. let l = w.1 in inr (w.0, omega (arith, l))) b

-- an open number is listed
listed_push : (flags : ℕ → ℕ → Option Bool) (p n : ℕ) (pairs : List (Pid × Fd)) → is_some (flags p n) ≡ true → AreListed flags p n pairs →
    AreListed flags p (n + 1) (pairs ++ (pid_of p, fd_of n) ∷ [])
listed_push flags p n pairs here so_far = record {
  only = λ q k c. ⊎_elim {C = (is_some (flags q k) ≡ true) × IsBefore q k p (n + 1)}
      (λ old. let w = so_far.only q k old in (w.0, before_more q k p n w.1))
      (λ new.
      let same_p : p ≡ q = ap (λ (h : Pid × Fd). h.0.0) new in
      let same_n : n ≡ k = ap (λ (h : Pid × Fd). h.1.0) new in (
        subst (λ (a : ℕ). is_some (flags a k) ≡ true) same_p (subst (λ (b : ℕ). is_some (flags p b) ≡ true) same_n here),
        inr (sym same_p, omega (arith, same_n)),
      ))
      (Contains-push_cases pairs (pid_of p, fd_of n) (pid_of q, fd_of k) c);
  all = λ q k h b. ⊎_elim {C = Contains (pairs ++ (pid_of p, fd_of n) ∷ []) (pid_of q, fd_of k)}
      (λ old. Contains-append_left pairs ((pid_of p, fd_of n) ∷ []) (pid_of q, fd_of k) (so_far.all q k h old))
      (λ w.
      subst (λ (a : ℕ). Contains (pairs ++ (pid_of p, fd_of n) ∷ []) (pid_of a, fd_of k)) (sym w.0)
      (subst (λ (b : ℕ). Contains (pairs ++ (pid_of p, fd_of n) ∷ []) (pid_of p, fd_of b)) (sym w.1)
      (Contains-push pairs (pid_of p, fd_of n))))
      (before_next q k p n b);
  rising = all_pairs_push Precedes pairs (pid_of p, fd_of n) so_far.rising
      (λ k d l. let h : Pid × Fd = get_or pairs k d in (so_far.only h.0.0 h.1.0 (Contains-get_or pairs k d l)).1);
}

-- one that isn't is left out
listed_skip : (flags : ℕ → ℕ → Option Bool) (p n : ℕ) (pairs : List (Pid × Fd)) → is_some (flags p n) ≡ false → AreListed flags p n pairs →
    AreListed flags p (n + 1) pairs
listed_skip flags p n pairs none so_far = record {
  only = λ q k c. let w = so_far.only q k c in (w.0, before_more q k p n w.1);
  all = λ q k h b. ⊎_elim {C = Contains pairs (pid_of q, fd_of k)} (λ old. so_far.all q k h old)
      (λ w.
      let here : is_some (flags p n) ≡ true = subst
      (λ (a : ℕ). is_some (flags a n) ≡ true) w.0 (subst (λ (b : ℕ). is_some (flags q b) ≡ true) w.1 h) in
      absurd (false≢true (sym none ∙ here)))
      (before_next q k p n b);
  rising = so_far.rising;
}

pub listed_next : (flags : ℕ → ℕ → Option Bool) (p n : ℕ) (pairs new : List (Pid × Fd)) (flag : Option Bool) → flags p n ≡ flag →
    AreListed flags p n pairs →
    new ≡ cond (is_some flag) (pairs ++ (pid_of p, fd_of n) ∷ []) pairs → AreListed flags p (n + 1) new
listed_next flags p n pairs new flag here so_far is = bool_cases (is_some flag)
    (λ b. subst (AreListed flags p (n + 1)) (sym (is ∙ ap (λ t. cond t (pairs ++ (pid_of p, fd_of n) ∷ []) pairs) b))
    (listed_push flags p n pairs (ap is_some here ∙ b) so_far))
    (λ b. subst (AreListed flags p (n + 1)) (sym (is ∙ ap (λ t. cond t (pairs ++ (pid_of p, fd_of n) ∷ []) pairs) b))
    (listed_skip flags p n pairs (ap is_some here ∙ b) so_far))

place-past : {X : Type 0} (xs : List (Option X)) (k : ℕ) → length xs ≤ k → place xs k ≡ None
place-past [] k h = refl
place-past (x ∷ xs) zero h = absurd (omega (arith, h))
place-past (x ∷ xs) (suc k) h = place-past xs k (omega (arith, h))

-- at the end of a row
pub listed_row : (flags : ℕ → ℕ → Option Bool) (p n : ℕ) (row : List (Option Bool)) (pairs : List (Pid × Fd)) →
    ((k : ℕ) → flags p k ≡ place row k) → length row ≤ n →
    AreListed flags p n pairs → AreListed flags (p + 1) 0 pairs
listed_row flags p n row pairs are past so_far = record {
  only = λ q k c. let w = so_far.only q k c in
      (w.0, ⊎_elim {C = IsBefore q k (p + 1) 0} (λ l. inl (omega (arith, l))) (λ e. let s = e.0 in inl (omega (arith, s))) w.1);
  all = λ q k h b. ⊎_elim {C = Contains pairs (pid_of q, fd_of k)}
      (λ l. bool_cases (nat_lt q p) (λ t. so_far.all q k h (inl (ltb-true q p t)))
      (λ t.
      let o = ltb-false q p t in
      let same : q ≡ p = omega (arith, o, l) in
      bool_cases (nat_lt k n) (λ u. so_far.all q k h (inr (same, ltb-true k n u)))
      (λ u.
      let far = ltb-false k n u in
      let none : is_some (flags p k) ≡ false = ap is_some (are k ∙ place-past row k (omega (arith, far, past))) in
      absurd (false≢true (sym none ∙ subst (λ (a : ℕ). is_some (flags a k) ≡ true) same h)))))
      (λ w. absurd (omega (arith, w.1))) b;
  rising = so_far.rising;
}

-- ---- the tables of a state

flag_at-past : (tables : List (Vec (Option Bool))) (q n : ℕ) → length tables ≤ q → flag_at tables q n ≡ None
flag_at-past [] q n h = refl
flag_at-past (t ∷ tables) zero n h = absurd (omega (arith, h))
flag_at-past (t ∷ tables) (suc q) n h = flag_at-past tables q n (omega (arith, h))

is_some-map : {A B : Type 0} (f : A → B) (o : Option A) → is_some (option_map f o) ≡ is_some o
is_some-map f None = refl
is_some-map f (Some x) = refl

pub flag_held : (S : State) (tables : List (Vec (Option Bool))) (p n : ℕ) → AreFlags S tables → is_some (flag_at tables p n) ≡ is_held S p n
flag_held S tables p n are = ap is_some (are p n) ∙ is_some-map (λ (x : Descriptor). x.cloexec) (held_at S p n)

pub listed_all : (S : State) (tables : List (Vec (Option Bool))) (pairs : List (Pid × Fd)) → AreFlags S tables →
    AreListed (flag_at tables) (length tables) 0 pairs → AreHoldings S pairs
listed_all S tables pairs are listed = record {
  each = λ p n. (
    λ c. sym (flag_held S tables p n are) ∙ (listed.only p n c).0,
    λ h.
        let open' : is_some (flag_at tables p n) ≡ true = flag_held S tables p n are ∙ h in
        bool_cases (nat_lt p (length tables)) (λ l. listed.all p n open' (inl (ltb-true p (length tables) l)))
        (λ l. let past = ltb-false p (length tables) l in
        let none : is_some (flag_at tables p n) ≡ false = ap is_some (flag_at-past tables p n past) in
        absurd (false≢true (sym none ∙ open'))),
  );
  rising = listed.rising;
}
