-- All holdings of a chain lead to one description.
use Rattle.std.proofs.Common.{◌≡◌, ℕ, zero, suc, ◌≤◌, true, List, [], ◌∷◌, length, take, Some, None, refl, ap, sym, ◌∙◌, subst, ⊎_elim}
use Rattle.std.proofs.Common.{arith, slice_get}
use Rattle.std.proofs.lemmas.List.{take_all}
use Rattle.ux_model.specs.Types.{Entry, How, Link}
use Rattle.ux_model.specs.State.{State}
use Rattle.ux_model.specs.History.{replay, IsLegal}
use Rattle.ux_model.specs.Giving.{is_held, description_of, how_of}
use Rattle.ux_model.specs.Pedigree.{before, delivered, IsGiven, IsFrom, IsChain, first, onward, IsPedigree}
use Rattle.ux_model.specs.PedigreeLaws.{LeadsTo, PedigreeIsOfOne, HoldsOnlyItsOwn}
use Rattle.ux_model.proofs.Lists.Appending.{get_push}
use Rattle.ux_model.proofs.Lists.ByPlace.{get_below}
use Rattle.ux_model.proofs.Pedigrees.Moments.{stays, leads_held}
use Rattle.ux_model.proofs.Pedigrees.Passing.{made_leads, passed_same, how_receives, own_number, receive_no_fork}

-- the holdings of a chain, and the last of them, lead to one description
record LeadsToOne (boot : State) (es : List Entry) (chain : List Link) (a : Link) : Type 0 where
  pub description : ℕ
  pub each : (i : ℕ) (b : Link) → slice_get chain i ≡ Some b → LeadsTo boot es description b
  pub last : LeadsTo boot es description a

-- where the entry that gave the next one stands in the history
giving_within : (boot : State) (es : List Entry) (how : How) (a b : Link) (e : Entry) (giving : ℕ) → IsGiven boot es b e →
    IsFrom boot es how a b e giving → giving ≤ length es
giving_within boot es How.Made a b e giving g from = absurd from
giving_within boot es How.Dup a b e giving g from = let below = get_below es b.entry e g.there in let at = from.0 in
    omega (arith, below, at)
giving_within boot es (How.Received tag) a b e giving g from = let below = get_below es tag from.1.sending from.1.there in
    let at = from.0 in omega (arith, below, at)
giving_within boot es How.Forked a b e giving g from = let below = get_below es b.entry e g.there in let at = from.0 in
    omega (arith, below, at)

chain_leads : (boot : State) (es : List Entry) (chain : List Link) (a : Link) → IsLegal boot es → IsChain boot es chain a →
    LeadsToOne boot es chain a
chain_leads boot es chain a legal (first b e g made) =
    let w = made_leads boot es b e legal g made in
    record { description = w.0; each = one w.0 w.1; last = w.1 }
  where
    one : (d : ℕ) → LeadsTo boot es d b → (i : ℕ) (c : Link) → slice_get (b ∷ []) i ≡ Some c → LeadsTo boot es d c
    one d leads zero c h = let same : b ≡ c = cc h in subst (LeadsTo boot es d) same leads
    one d leads (suc i) c h = absurd (cc h)
chain_leads boot es chain a legal (onward {chain = xs} c b e giving leads stands g from) =
    let so_far = chain_leads boot es xs c legal leads in
    let d : ℕ = so_far.description in
    let within = giving_within boot es b.how c b e giving g from in
    let early = stands.earlier in
    let led = stays boot es c giving d legal stands within so_far.last giving early (omega arith) in
    let here : LeadsTo boot es d b = sym (passed_same boot es b.how c b e giving legal g refl from) ∙ led in
    record {
      description = d;
      each = λ i x h. ⊎_elim {C = LeadsTo boot es d x} (λ w. so_far.each i x w.0)
          (λ w. subst (LeadsTo boot es d) (sym w.0) here) (get_push xs b x i h);
      last = here;
    }

pub pedigree_is_of_one : PedigreeIsOfOne
pedigree_is_of_one boot es chain p n legal x =
    let w = chain_leads boot es chain x.last legal x.leads in
    let d : ℕ = w.description in
    let early = x.stands.earlier in
    let end = stays boot es x.last (length es) d legal x.stands (omega arith) w.last (length es) early (omega arith) in
    let whole : take (length es) es ≡ es = take_all (length es) es (omega arith) in
    record {
      description = d;
      each = w.each;
      at_the_end = subst (λ (q : ℕ). description_of (replay boot es) q n ≡ Some d) x.process
          (subst (λ (m : ℕ). description_of (replay boot es) x.last.pid.0 m ≡ Some d) x.number
          (subst (λ (l : List Entry). description_of (replay boot l) x.last.pid.0 x.last.fd.0 ≡ Some d) whole end));
    }

-- so the number is held at the history's end
pub pedigree_is_held : (boot : State) (es : List Entry) (chain : List Link) (p n : ℕ) → IsLegal boot es → IsPedigree boot es chain p n →
    is_held (replay boot es) p n ≡ true
pedigree_is_held boot es chain p n legal x = let w = pedigree_is_of_one boot es chain p n legal x in
    leads_held (replay boot es) p n w.description w.at_the_end

-- ---- who was sent nothing

-- each link of a chain was given by its entry
each_given : (boot : State) (es : List Entry) (chain : List Link) (a : Link) → IsChain boot es chain a → (i : ℕ) (b : Link) →
    slice_get chain i ≡ Some b → (e : Entry) × IsGiven boot es b e
each_given boot es chain a (first c e g made) i b h = one i h
  where
    one : (i : ℕ) → slice_get (c ∷ []) i ≡ Some b → (e : Entry) × IsGiven boot es b e
    one zero h = let same : c ≡ b = cc h in (e, subst (λ (x : Link). IsGiven boot es x e) same g)
    one (suc i) h = absurd (cc h)
each_given boot es chain a (onward {chain = xs} d c e giving leads stands g from) i b h =
    let rest = each_given boot es xs d leads i b in
    ⊎_elim {C = (e : Entry) × IsGiven boot es b e} (λ w. rest w.0)
    (λ w. (e, subst (λ (x : Link). IsGiven boot es x e) (sym w.0) g)) (get_push xs c b i h)

pub holds_only_its_own : HoldsOnlyItsOwn
holds_only_its_own boot es chain p n q legal x unsent i tag b at holder receives =
    let given = each_given boot es chain x.last x.leads i b at in
    let e : Entry = given.0 in
    let g : IsGiven boot es b e = given.1 in
    let way : how_of e.request (delivered (before boot es b.entry) e) ≡ Some (How.Received tag) = g.way ∙ ap Some receives in
    let told = how_receives e.request (delivered (before boot es b.entry) e) tag way in
    let own = own_number boot es b.entry b.pid.0 b.fd.0 e g.gave (receive_no_fork e.request told.0) in
    let clash : None ≡ Some tag = sym (unsent b.entry e g.there (own.0 ∙ holder)) ∙ told.1 in
    cc clash
