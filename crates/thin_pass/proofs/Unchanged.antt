-- Where nothing is counted each position stays, so that none is to go but a nop that is held.
use Rattle.std.proofs.Common.{◌≡◌, ◌⊎◌, inl, inr, ℕ, zero, suc, ◌+◌, ◌<◌, ◌≤◌, Bool, true, false, ◌&&◌, ◌||◌, not, List, [], ◌∷◌, length, Option, Some, None, slice_get, nat_eq, nat_le, slice_index_or, Contains, refl, sym, ap, ◌∙◌, subst, arith}
use Rattle.std.specs.Prelude.{sum_by}
use Rattle.std.specs.List.{list_any, AllZip}
use Rattle.std.proofs.lemmas.Bool.{cases_lt}
use Rattle.std.proofs.lemmas.List.Sums.{sum_by-cons}
use Rattle.insn_set.specs.Flow.{targets_of}
use Rattle.insn_set.specs.declared.form.Insn.{Insn}
use Rattle.insn_set.specs.declared.form.Insn.TheVariants as insn
use Rattle.program_model.specs.declared.body.Body.{Body}
use Rattle.program_model.specs.declared.program.Method.{Method}
use Rattle.program_model.specs.declared.program.Class.{Class}
use Rattle.program_model.specs.declared.program.Program.{Program}
use Rattle.program_model.specs.declared.pass.Changed.{Changed}
use Rattle.body_edit.specs.declared.fate.Fate.{Fate}
use Rattle.body_edit.specs.declared.fate.Fate.TheVariants.{Stays, Empties, Goes}
use Rattle.thin_pass.specs.Wishing.{wish_at, goes, is_to_go, is_between, leads_into, holds, is_held, emptied, fate_of, fate_if, fates_from, is_small, FatesIf, HasFates}
use Rattle.thin_pass.specs.Plans.{changed_in, class_changes, all_changes, AreFor, AreForClasses, IsThinnedBy}
use Rattle.thin_pass.proofs.Fated.{IsFateAt, fate_is, long_upto}
use Rattle.thin_pass.proofs.Lighter.{changed_cons, left_part, right_part, not_capped}

-- ---- one body

each_stays : (fs : List Fate) → changed_in fs ≡ 0 → (n : ℕ) (f : Fate) → slice_get fs n ≡ Some f → f ≡ Stays
each_stays [] e n f g = cc
each_stays (Stays ∷ fs) e zero f g = cc
each_stays (Stays ∷ fs) e (suc n) f g = each_stays fs (omega (arith, e, changed_cons Stays fs)) n f g
each_stays (Empties ∷ fs) e n f g = absurd (omega (arith, e, changed_cons Empties fs))
each_stays (Goes ∷ fs) e n f g = absurd (omega (arith, e, changed_cons Goes fs))

there : (fs : List Fate) (n : ℕ) → n < length fs → (f : Fate) × (slice_get fs n ≡ Some f)
there [] n l = absurd (omega (arith, l))
there (f ∷ fs) zero l = (f, refl)
there (f ∷ fs) (suc n) l = there fs n (omega (arith, l))

inside : (is : List Insn) (n : ℕ) (i : Insn) → slice_get is n ≡ Some i → n < length is
inside [] n i e = cc
inside (j ∷ is) zero i e = omega arith
inside (j ∷ is) (suc n) i e = let l = inside is n i e in omega (arith, l)

emptied_stays : (i : Insn) → emptied i ≡ Stays → i ≡ insn.Nop
emptied_stays insn.Nop e = refl
emptied_stays i e = cc

between_is : (n t : ℕ) → is_between n n t ≡ nat_eq n t
between_is n t = grind arith

any_is : (n : ℕ) (ts : List ℕ) → list_any (is_between n n) ts ≡ list_any (nat_eq n) ts
any_is n [] = refl
any_is n (t ∷ ts) = ap (λ x. x || list_any (is_between n n) ts) (between_is n t) ∙ ap (λ x. nat_eq n t || x) (any_is n ts)

-- the branch behind a position, which is not to go, has it as a target
pub record IsHeldBy (is : List Insn) (ws : List Fate) (n : ℕ) : Type 0 where
  pub next : Insn
  pub has_next : slice_get is (n + 1) ≡ Some next
  pub stays : is_to_go ws (n + 1) ≡ false
  pub leads_back : list_any (nat_eq n) (targets_of next) ≡ true

-- a position that stays was to stay, or is a nop that was to become one, or is held
pub data Keeps (is : List Insn) (ws : List Fate) (n : ℕ) (i : Insn) : Type 0 where
  Wished : wish_at ws n ≡ Stays → Keeps is ws n i
  IsNop : wish_at ws n ≡ Empties → i ≡ insn.Nop → Keeps is ws n i
  IsHeld : wish_at ws n ≡ Goes → i ≡ insn.Nop → IsHeldBy is ws n → Keeps is ws n i

to_go : (ws : List Fate) (n : ℕ) → is_to_go ws n ≡ true → wish_at ws n ≡ Goes
to_go ws n = by (wish_at ws n)
  where
    by : (w : Fate) → goes w ≡ true → w ≡ Goes
    by Goes e = refl
    by Stays e = cc
    by Empties e = cc

module _ (is : List Insn) (ws : List Fate) (stay : changed_in (fates_from is ws 0 (length is)) ≡ 0) where
  at_position : (n : ℕ) (i : Insn) → slice_get is n ≡ Some i → (start : ℕ) × ((Stays ≡ fate_of (wish_at ws n) (is_held is ws start n) i) × (((k : ℕ) → start ≤ k → k < n → is_to_go ws k ≡ true) × (start ≤ n)))
  at_position n i e =
      let f = there (fates_from is ws 0 (length is)) n (omega (arith, inside is n i e, long_upto is ws 0 0 (length is))) in
      let a = fate_is ws is n f.0 f.1 in (
        a.start,
        (
          sym (each_stays (fates_from is ws 0 (length is)) stay n f.0 f.1) ∙ a.is_it ∙ ap (fate_if (wish_at ws n) (is_held is ws a.start n)) e,
          (a.run.all, a.run.least n (omega arith) (λ j l m. absurd (omega (arith, l, m)))),
        ),
      )

  -- what goes and stays is held, and so the one behind it is not to go
  held_if : (w : Fate) (held : Bool) (i : Insn) → Stays ≡ fate_of w held i → w ≡ Goes → held ≡ true
  held_if Goes true i e g = refl
  held_if Goes false i e g = cc
  held_if Stays held i e g = cc
  held_if Empties held i e g = cc

  nop_if : (w : Fate) (held : Bool) (i : Insn) → Stays ≡ fate_of w held i → (w ≡ Stays → ⊥) → i ≡ insn.Nop
  nop_if Goes true i e g = emptied_stays i (sym e)
  nop_if Goes false i e g = cc
  nop_if Stays held i e g = absurd (g refl)
  nop_if Empties held i e g = emptied_stays i (sym e)

  holds_next : (n start : ℕ) (o : Option Insn) → slice_get is (n + 1) ≡ o → holds (is_to_go ws (n + 1)) start n o ≡ true → (j : Insn) × ((slice_get is (n + 1) ≡ Some j) × ((is_to_go ws (n + 1) ≡ false) × (leads_into start n j ≡ true)))
  holds_next n start None e h = cc
  holds_next n start (Some j) e h = by (is_to_go ws (n + 1)) refl h
    where
      by : (b : Bool) → is_to_go ws (n + 1) ≡ b → (not b && leads_into start n j) ≡ true → (k : Insn) × ((slice_get is (n + 1) ≡ Some k) × ((is_to_go ws (n + 1) ≡ false) × (leads_into start n k ≡ true)))
      by true d k = cc
      by false d k = (j, (e, (d, k)))

  -- none before a position that is to go is to go
  alone : (n start : ℕ) (i : Insn) → slice_get is n ≡ Some i → is_to_go ws n ≡ true → ((k : ℕ) → start ≤ k → k < n → is_to_go ws k ≡ true) → start ≤ n → start ≡ n
  alone zero start i e g all le = omega (arith, le)
  alone (suc n) start i e g all le = by (cases_lt start (suc n))
    where
      before : (x : Insn) × (slice_get is n ≡ Some x)
      before = some_at is n (omega (arith, inside is (suc n) i e))
        where
          some_at : (xs : List Insn) (k : ℕ) → k < length xs → (x : Insn) × (slice_get xs k ≡ Some x)
          some_at [] k l = absurd (omega (arith, l))
          some_at (x ∷ xs) zero l = (x, refl)
          some_at (x ∷ xs) (suc k) l = some_at xs k (omega (arith, l))

      by : (start < suc n) ⊎ (suc n ≤ start) → start ≡ suc n
      by (inr m) = omega (arith, m, le)
      by (inl m) =
          let x = before in
          let a = at_position n x.0 x.1 in
          let w : wish_at ws n ≡ Goes = to_go ws n (all n (omega (arith, m)) (omega arith)) in
          let h = holds_next n a.0 (slice_get is (n + 1)) refl (held_if (wish_at ws n) (is_held is ws a.0 n) x.0 a.1.0 w) in
          let next : n + 1 ≡ suc n = omega arith in
          let f : is_to_go ws (suc n) ≡ false = subst (λ (k : ℕ). is_to_go ws k ≡ false) next h.1.1.0 in
          absurd (cc)

  pub keeps : (n : ℕ) (i : Insn) → slice_get is n ≡ Some i → Keeps is ws n i
  keeps n i e = by (wish_at ws n) refl
    where
      a : (start : ℕ) × ((Stays ≡ fate_of (wish_at ws n) (is_held is ws start n) i) × (((k : ℕ) → start ≤ k → k < n → is_to_go ws k ≡ true) × (start ≤ n)))
      a = at_position n i e

      by : (w : Fate) → wish_at ws n ≡ w → Keeps is ws n i
      by Stays d = Wished d
      by Empties d = IsNop d (nop_if (wish_at ws n) (is_held is ws a.0 n) i a.1.0 (λ s. cc))
      by Goes d =
          let h = holds_next n a.0 (slice_get is (n + 1)) refl (held_if (wish_at ws n) (is_held is ws a.0 n) i a.1.0 d) in
          let s : a.0 ≡ n = alone n a.0 i e (ap goes d) a.1.1.0 a.1.1.1 in
          IsHeld d (nop_if (wish_at ws n) (is_held is ws a.0 n) i a.1.0 (λ s. cc))
          (record { next = h.0; has_next = h.1.0; stays = h.1.1.0; leads_back = sym (any_is n (targets_of h.0)) ∙ subst (λ (k : ℕ). leads_into k n h.0 ≡ true) s h.1.1.1 })

-- ---- a program

no_item : {A : Type 0} (x : A) → Contains [] x → ⊥
no_item x c = omega (arith, c.1)

split_at : {A : Type 0} (y : A) (xs : List A) (x : A) (k : ℕ) → k < length (y ∷ xs) → slice_index_or (y ∷ xs) k x ≡ x → (y ≡ x) ⊎ Contains xs x
split_at y xs x zero lt e = inl e
split_at y xs x (suc k) lt e = inr (k, omega (arith, lt), e)

method_fates : (thins : Method → List Fate → Type 0) (ms : List Method) (plan : List (List Fate)) → AreFor thins ms plan → class_changes plan ≡ 0 → (m : Method) → Contains ms m → (fs : List Fate) × (thins m fs × (changed_in fs ≡ 0))
method_fates thins [] plan h e m i = absurd (no_item m i)
method_fates thins (n ∷ ms) [] h e m i = absurd h
method_fates thins (n ∷ ms) (fs ∷ plan) h e m i = by (split_at n ms m i.0 i.1 i.2) (λ j. method_fates thins ms plan h.1 (right_part (changed_in fs) (class_changes plan) both) m j)
  where
    both : changed_in fs + class_changes plan ≡ 0
    both = sym (sum_by-cons changed_in fs plan) ∙ e

    by : (n ≡ m) ⊎ Contains ms m → (Contains ms m → (gs : List Fate) × (thins m gs × (changed_in gs ≡ 0))) → (gs : List Fate) × (thins m gs × (changed_in gs ≡ 0))
    by (inl s) again = (fs, (subst (λ (k : Method). thins k fs) s h.0, left_part (changed_in fs) (class_changes plan) both))
    by (inr j) again = again j

class_fates : (thins : Method → List Fate → Type 0) (cs : List Class) (plan : List (List (List Fate))) → AreForClasses thins cs plan → all_changes plan ≡ 0 → (c : Class) (m : Method) → Contains cs c → Contains c.methods m
    → (fs : List Fate) × (thins m fs × (changed_in fs ≡ 0))
class_fates thins [] plan h e c m i j = absurd (no_item c i)
class_fates thins (d ∷ cs) [] h e c m i j = absurd h
class_fates thins (d ∷ cs) (ps ∷ plan) h e c m i j = by (split_at d cs c i.0 i.1 i.2) (λ k. class_fates thins cs plan h.1 (right_part (class_changes ps) (all_changes plan) both) c m k j)
  where
    both : class_changes ps + all_changes plan ≡ 0
    both = sym (sum_by-cons class_changes ps plan) ∙ e

    by : (d ≡ c) ⊎ Contains cs c → (Contains cs c → (fs : List Fate) × (thins m fs × (changed_in fs ≡ 0))) → (fs : List Fate) × (thins m fs × (changed_in fs ≡ 0))
    by (inl s) again = method_fates thins c.methods ps (subst (λ (k : Class). AreFor thins k.methods ps) s h.0) (left_part (class_changes ps) (all_changes plan) both) m j
    by (inr k) again = again k

-- each method of a program of which nothing changed has its fates, and they change nothing
pub unchanged_fates : (wishes : Body → List Fate → Type 0) (admitted : List Bool) (p : Program) (c : Changed) → IsThinnedBy wishes admitted p c → c.count ≡ 0 → (k : Class) (m : Method) → Contains p.classes k → Contains k.methods m
    → (fs : List Fate) × (HasFates wishes admitted m fs × (changed_in fs ≡ 0))
unchanged_fates wishes admitted p c t e k m i j = class_fates (HasFates wishes admitted) p.classes t.plan t.fates (not_capped (all_changes t.plan) (sym t.count ∙ e)) k m i j

-- and so has each admitted body that 32 bits number
pub unchanged_body : (wishes : Body → List Fate → Type 0) (admitted : List Bool) (p : Program) (c : Changed) → IsThinnedBy wishes admitted p c → c.count ≡ 0 → (k : Class) (m : Method) (b : Body) → Contains p.classes k → Contains k.methods m
    → slice_index_or admitted m.name false ≡ true → is_small m ≡ true → m.body ≡ Some b → (ws : List Fate) × (wishes b ws × (changed_in (fates_from b.insns ws 0 (length b.insns)) ≡ 0))
unchanged_body wishes admitted p c t e k m b i j on small has = let w = unchanged_fates wishes admitted p c t e k m i j in by (slice_index_or admitted m.name false) (is_small m) m.body on small has w.0 w.1.0 w.1.1
  where
    by : (a s : Bool) (o : Option Body) → a ≡ true → s ≡ true → o ≡ Some b → (fs : List Fate) → FatesIf wishes a s o fs → changed_in fs ≡ 0 → (ws : List Fate) × (wishes b ws × (changed_in (fates_from b.insns ws 0 (length b.insns)) ≡ 0))
    by false s o a d g fs h z = cc
    by true false o a d g fs h z = cc
    by true true None a d g fs h z = cc
    by true true (Some a') a d g fs h z = let same : a' ≡ b = cc in
        subst (λ (x : Body). (ws : List Fate) × (wishes x ws × (changed_in (fates_from x.insns ws 0 (length x.insns)) ≡ 0))) same (h.wished, (h.are, sym (ap changed_in h.fates) ∙ z))
