-- The chain of a holding is one alone.
use Rattle.std.proofs.Common.{◌≡◌, ℕ, ◌<◌, true, ◌==◌, nat_lt, ltb-true, ltb-false, List, [], ◌∷◌, ◌++◌, length, Some, ap, sym, ◌∙◌, subst}
use Rattle.std.proofs.Common.{arith, slice_get}
use Rattle.std.proofs.lemmas.Bool.{eqb-true, eqb-false, false≢true}
use Rattle.ux_model.specs.Types.{Entry, How, Link}
use Rattle.ux_model.specs.State.{State}
use Rattle.ux_model.specs.History.{IsLegal}
use Rattle.ux_model.specs.Giving.{gives, how_of, given, sent_by}
use Rattle.ux_model.specs.Pedigree.{before, delivered, Stands, IsGiven, IsFrom, IsChain, first, onward}
use Rattle.ux_model.specs.PedigreeLaws.{ChainIsOne}
use Rattle.ux_model.proofs.Lists.ChangedPlaces.{bool_cases}
use Rattle.ux_model.proofs.Pedigrees.Moments.{moment}

-- ---- two holdings of one number that stand until one entry are one

-- the later of two would give the number anew while the earlier one stands
none_between : (boot : State) (es : List Entry) (a b : Link) (f : Entry) (until : ℕ) → Stands boot es a until → Stands boot es b until →
    IsGiven boot es b f →
    a.pid.0 ≡ b.pid.0 → a.fd.0 ≡ b.fd.0 → a.entry < b.entry → ⊥
none_between boot es a b f until s t g p n early =
    let kept = s.untouched b.entry f early t.earlier g.there in
    let gave : gives (before boot es b.entry) f a.pid.0 a.fd.0 ≡ true =
    subst (λ (q : ℕ). gives (before boot es b.entry) f q a.fd.0 ≡ true) (sym p)
    (subst (λ (m : ℕ). gives (before boot es b.entry) f b.pid.0 m ≡ true) (sym n) g.gave) in
    false≢true (sym kept.0 ∙ gave)

one_entry : (boot : State) (es : List Entry) (a b : Link) (e f : Entry) (until : ℕ) → Stands boot es a until → Stands boot es b until →
    IsGiven boot es a e → IsGiven boot es b f →
    a.pid.0 ≡ b.pid.0 → a.fd.0 ≡ b.fd.0 → a.entry ≡ b.entry
one_entry boot es a b e f until s t g h p n = bool_cases (a.entry == b.entry) (eqb-true a.entry b.entry)
    (λ d.
    let ne = eqb-false a.entry b.entry d in
    bool_cases (nat_lt a.entry b.entry)
    (λ l. absurd (none_between boot es a b f until s t h p n (ltb-true a.entry b.entry l)))
    (λ l. absurd (none_between boot es b a e until t s g (sym p) (sym n) (let o = ltb-false a.entry b.entry l in omega (arith, ne, o)))))

-- ---- where one came from is one

-- two descriptions of where a number came from, of one entry and in one way
record SameSource (a c : Link) (giving other : ℕ) : Type 0 where
  pub at : giving ≡ other
  pub process : a.pid.0 ≡ c.pid.0
  pub number : a.fd.0 ≡ c.fd.0

one_source : (boot : State) (es : List Entry) (how : How) (a b c d : Link) (e : Entry) (giving other : ℕ) → IsLegal boot es →
    IsGiven boot es b e →
    b.entry ≡ d.entry → b.fd.0 ≡ d.fd.0 → IsFrom boot es how a b e giving → IsFrom boot es how c d e other → SameSource a c giving other
one_source boot es How.Made a b c d e giving other legal g at n x y = absurd x
one_source boot es How.Dup a b c d e giving other legal g at n x y =
    record { at = x.0 ∙ at ∙ sym y.0; process = x.1 ∙ sym y.1; number = let both : Some a.fd.0 ≡ Some c.fd.0 = sym x.2 ∙ y.2 in cc both }
one_source boot es (How.Received tag) a b c d e giving other legal g at n x y =
    let u = x.1 in
    let v = y.1 in
    let one : Some u.sending ≡ Some v.sending = sym u.there ∙ v.there in
    let sender : u.sending ≡ v.sending = cc one in
    let here : slice_get (given (before boot es b.entry) e.pid.0 e.request e.reply) v.place ≡ Some b.fd.0 =
    ap (λ (k : ℕ). slice_get (given (before boot es k) e.pid.0 e.request e.reply) v.place) at ∙ v.installed ∙ ap Some (sym n) in
    let once = (moment boot es b.entry e legal g.there).changes.once u.place v.place b.fd.0 u.installed here in
    record {
      at = x.0 ∙ sym y.0;
      process = sym u.sender ∙ ap (λ (s : Entry). s.pid.0) sender ∙ v.sender;
      number = let both : Some a.fd.0 ≡ Some c.fd.0 = sym u.right ∙ ap (λ (s : Entry). slice_get (sent_by s.request) u.place) sender
          ∙ ap (λ k. slice_get (sent_by v.sending.request) k) once ∙ v.right in cc both;
    }
one_source boot es How.Forked a b c d e giving other legal g at n x y =
    record { at = x.0 ∙ at ∙ sym y.0; process = x.1 ∙ sym y.1; number = x.2 ∙ n ∙ sym y.2 }

-- ---- chains

same_link : (a b : Link) → a.entry ≡ b.entry → a.pid.0 ≡ b.pid.0 → a.fd.0 ≡ b.fd.0 → a.how ≡ b.how → a ≡ b
same_link a b e p n h =
    ap (λ (x : ℕ). let l : Link = record { entry = x; pid = a.pid; fd = a.fd; how = a.how } in l) e
    ∙ ap (λ (x : ℕ). let l : Link = record { entry = b.entry; pid = record { 0 = x }; fd = a.fd; how = a.how } in l) p
    ∙ ap (λ (x : ℕ). let l : Link = record { entry = b.entry; pid = b.pid; fd = record { 0 = x }; how = a.how } in l) n
    ∙ ap (λ (x : How). let l : Link = record { entry = b.entry; pid = b.pid; fd = b.fd; how = x } in l) h

-- two holdings of one number that stand until one entry are one link, taken by one entry
record OneLink (a b : Link) (e f : Entry) : Type 0 where
  pub link : a ≡ b
  pub entry : f ≡ e

one_link : (boot : State) (es : List Entry) (a b : Link) (e f : Entry) (until : ℕ) → Stands boot es a until → Stands boot es b until →
    IsGiven boot es a e → IsGiven boot es b f →
    a.pid.0 ≡ b.pid.0 → a.fd.0 ≡ b.fd.0 → OneLink a b e f
one_link boot es a b e f until s t g h p n =
    let at = one_entry boot es a b e f until s t g h p n in
    let both : Some f ≡ Some e = sym h.there ∙ ap (slice_get es) (sym at) ∙ g.there in
    let same : f ≡ e = cc both in
    let ways : Some a.how ≡ Some b.how =
    sym g.way ∙ ap (λ (k : ℕ). how_of e.request (delivered (before boot es k) e)) at
    ∙ ap (λ (x : Entry). how_of x.request (delivered (before boot es b.entry) x)) (sym same) ∙ h.way in
    record { link = same_link a b at p n (cc ways); entry = same }

chains_meet : (boot : State) (es : List Entry) (xs ys : List Link) (a b : Link) (until : ℕ) → IsLegal boot es → IsChain boot es xs a →
    IsChain boot es ys b →
    Stands boot es a until → Stands boot es b until → a.pid.0 ≡ b.pid.0 → a.fd.0 ≡ b.fd.0 → xs ≡ ys
chains_meet boot es xs ys a b until legal (first x e g made) (first y f h made') s t p n =
    ap (λ (l : Link). l ∷ []) (one_link boot es x y e f until s t g h p n).link
chains_meet boot es xs ys a b until legal (first x e g made) (onward c y f giving leads stands h from) s t p n =
    let one = one_link boot es x y e f until s t g h p n in
    let how : y.how ≡ How.Made = ap (λ (l : Link). l.how) (sym one.link) ∙ made in
    let none : IsFrom boot es How.Made c y f giving = subst (λ (w : How). IsFrom boot es w c y f giving) how from in absurd none
chains_meet boot es xs ys a b until legal (onward c x e giving leads stands g from) (first y f h made) s t p n =
    let one = one_link boot es x y e f until s t g h p n in
    let how : x.how ≡ How.Made = ap (λ (l : Link). l.how) one.link ∙ made in
    let none : IsFrom boot es How.Made c x e giving = subst (λ (w : How). IsFrom boot es w c x e giving) how from in absurd none
chains_meet boot es xs ys a b until legal (onward {chain = us} c x e giving leads stands g from)
    (onward {chain = vs} d y f other leads' stands' h from') s t p n =
    let one = one_link boot es x y e f until s t g h p n in
    let moved : IsFrom boot es y.how d y e other = subst (λ (w : Entry). IsFrom boot es y.how d y w other) one.entry from' in
    let moved' : IsFrom boot es x.how d y e other =
    subst (λ (w : How). IsFrom boot es w d y e other) (ap (λ (l : Link). l.how) (sym one.link)) moved in
    let source = one_source boot es x.how c x d y e giving other legal g (ap (λ (l : Link). l.entry) one.link) n from moved' in
    let same = chains_meet boot es us vs c d giving legal leads leads' stands (subst (Stands boot es d) (sym source.at) stands')
    source.process source.number in
    ap (λ (l : List Link). l ++ x ∷ []) same ∙ ap (λ (l : Link). vs ++ l ∷ []) one.link

pub chain_is_one : ChainIsOne
chain_is_one boot es p n chain other legal x y =
    chains_meet boot es chain other x.last y.last (length es) legal x.leads y.leads x.stands y.stands (x.process ∙ sym y.process)
    (x.number ∙ sym y.number)
