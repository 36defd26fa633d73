-- Where what stood at a position goes on in the body that is left: at a position that is left, with the same place.
use Rattle.std.proofs.Common.{◌≡◌, ◌⊎◌, inl, inr, ℕ, zero, suc, ◌+◌, ◌-◌, ◌<◌, ◌≤◌, Bool, true, true≢false, List, [], length, refl, sym, ap, ◌∙◌, subst, arith}
use Rattle.std.specs.Prelude.{◌&&◌, not, Option, Some, None, slice_get, Contains}
use Rattle.std.specs.List.{list_all, enumerate_from}
use Rattle.lemmas.proofs.Lists.{contains_here, get_there, got_short}
use Rattle.lemmas.proofs.Options.{some_same}
use Rattle.insn_set.specs.Flow.{goes_on, targets_of}
use Rattle.insn_set.specs.Spelling.{is_encodable}
use Rattle.insn_set.specs.declared.form.Insn.{Insn}
use Rattle.insn_set.specs.declared.form.Insn.TheVariants as insn
use Rattle.program_model.specs.Neighbours.{neighbours}
use Rattle.program_model.specs.OperandRules.{registers_fit, numbers_fit}
use Rattle.program_model.specs.RegionRules.{may_begin, regions_fit}
use Rattle.program_model.specs.BodyRules.{ends, may_follow, follows, may_enter, targets_fit, leaves, is_caught, insn_fits, body_fits}
use Rattle.program_model.specs.declared.body.Body.{Body}
use Rattle.program_model.specs.declared.program.Program.{Program}
use Rattle.pass_defs.specs.Thinned.{Fate, Stays, Empties, Goes, place}
use Rattle.program_laws.proofs.ChangedLists.{and_left}
use Rattle.thin_laws.proofs.Places.{IsLeft, place_next, place_gone}
use Rattle.thin_laws.specs.Tidy.{Passes, On, Over, IsTidy}
use Rattle.thin_laws.proofs.Kept.{flows_on, follow_enter}
use Rattle.thin_laws.proofs.Rules.{next_there, target_there}
use Rattle.thin_laws.proofs.PlacesLeft.{get_none, numbered_at, beside, left_insn}

no_room : {A : Type 0} (a n : ℕ) → a ≤ n + 0 → n < a → A
no_room a n l m = let f : ⊥ = omega arith in absurd f

next_room : (a n k : ℕ) → a ≤ n + suc k → a ≤ suc n + k
next_room a n k l = omega arith

jump_room : (a n k t : ℕ) → a ≤ n + suc k → n < t → a ≤ t + k
jump_room a n k t l m = omega arith

fits_in : (n a : ℕ) → a ≤ n + a
fits_in n a = omega arith

-- a goto's only target
its_target : (t : ℕ) → Contains (targets_of (insn.Goto t)) t
its_target t = contains_here t []

module _ (p : Program) (marks : ℕ → Bool) (fs : List Fate) (b : Body) (fits : body_fits p b ≡ true) (tidy : IsTidy marks fs b) where
  -- ---- where a position goes on

  pub record Lands (n : ℕ) : Type 0 where
    pub to : ℕ
    pub fate : Fate
    pub insn : Insn
    pub has_fate : slice_get fs to ≡ Some fate
    pub has_insn : slice_get b.insns to ≡ Some insn
    pub is_left : IsLeft (Some fate)
    pub same : place fs to ≡ place fs n
    pub enters : (to ≡ n) ⊎ (may_enter (Some insn) ≡ true)

  -- a landing from a position that this one goes on to
  further : (n m : ℕ) (j : Insn) → slice_get b.insns m ≡ Some j → may_enter (Some j) ≡ true → place fs m ≡ place fs n → Lands m → Lands n
  further n m j e v s l = record { to = l.to; fate = l.fate; insn = l.insn; has_fate = l.has_fate; has_insn = l.has_insn; is_left = l.is_left; same = l.same ∙ s; enters = inr (by l.enters) }
    where
      by : (l.to ≡ m) ⊎ (may_enter (Some l.insn) ≡ true) → may_enter (Some l.insn) ≡ true
      by (inl d) = subst (λ z. may_enter (Some z) ≡ true) (some_same j l.insn (sym e ∙ ap (slice_get b.insns) (sym d) ∙ l.has_insn)) v
      by (inr d) = d

  lands_within : (k n : ℕ) → length b.insns ≤ n + k → marks n ≡ true → (i : Insn) → slice_get b.insns n ≡ Some i → Lands n
  lands_within zero n l m i e = no_room (length b.insns) n l (got_short b.insns n i e)
  lands_within (suc k) n l m i e =
      let w : n < length fs = subst (λ x. n < x) (sym tidy.long) (got_short b.insns n i e) in
      let f = get_there fs n w in by f.0 f.1 (lands_within k)
    where
      Again : Type 0
      Again = (n : ℕ) → length b.insns ≤ n + k → marks n ≡ true → (i : Insn) → slice_get b.insns n ≡ Some i → Lands n

      passing : (j : Insn) → slice_get b.insns n ≡ Some j → slice_get fs n ≡ Some Goes → Passes fs n j → Again → Lands n
      passing _ d h (On j g r) again =
          let x = next_there p b fits n j d g in
          let v = follow_enter j x.0 g r x.1.1 in
          further n (suc n) x.0 x.1.0 v (place_gone fs n h) (again (suc n) (next_room (length b.insns) n k l) (tidy.next n j m d g) x.0 x.1.0)
      passing _ d h (Over t a s) again =
          let x = target_there p b fits n t (insn.Goto t) d (its_target t) in
          further n t x.0 x.1.0 x.1.1 (s ∙ place_gone fs n h) (again t (jump_room (length b.insns) n k t l a) (tidy.targets n t (insn.Goto t) m d (its_target t)) x.0 x.1.0)

      by : (f : Fate) → slice_get fs n ≡ Some f → Again → Lands n
      by Stays h again = record { to = n; fate = Stays; insn = i; has_fate = h; has_insn = e; is_left = tt; same = refl; enters = inl refl }
      by Empties h again = record { to = n; fate = Empties; insn = i; has_fate = h; has_insn = e; is_left = tt; same = refl; enters = inl refl }
      by Goes h again = passing i e h (tidy.passed n i Goes m e h refl) again

  pub lands : (n : ℕ) (i : Insn) → marks n ≡ true → slice_get b.insns n ≡ Some i → Lands n
  lands n i m e = lands_within (length b.insns) n (fits_in n (length b.insns)) m i e

  pub target_lands : (n t : ℕ) (i : Insn) → marks n ≡ true → slice_get b.insns n ≡ Some i → Contains (targets_of i) t → (l : Lands t) × (may_enter (Some l.insn) ≡ true)
  target_lands n t i m e c =
      let x = target_there p b fits n t i e c in
      let l = lands t x.0 (tidy.targets n t i m e c) x.1.0 in
      (l, by l x.0 x.1.0 x.1.1 l.enters)
    where
      by : (l : Lands t) (j : Insn) → slice_get b.insns t ≡ Some j → may_enter (Some j) ≡ true → (l.to ≡ t) ⊎ (may_enter (Some l.insn) ≡ true) → may_enter (Some l.insn) ≡ true
      by l j d v (inl s) = subst (λ z. may_enter (Some z) ≡ true) (some_same j l.insn (sym d ∙ ap (slice_get b.insns) (sym s) ∙ l.has_insn)) v
      by l j d v (inr s) = s

  -- ---- what is left goes on

  pub is_marked : (n : ℕ) (f : Fate) → slice_get fs n ≡ Some f → IsLeft (Some f) → marks n ≡ true
  is_marked n f h l = tidy.left n f h (λ e. subst (λ z. IsLeft (Some z)) e l)

  pub left_at : (n : ℕ) (f : Fate) → slice_get fs n ≡ Some f → IsLeft (Some f) → IsLeft (slice_get fs n)
  left_at n f h l = subst IsLeft (sym h) l

  -- where something that is left goes on, and whether by what may be entered
  pub record Falls (n : ℕ) (i : Insn) : Type 0 where
    pub from : ℕ
    pub lands : Lands from
    pub behind : place fs lands.to ≡ suc (place fs n)
    pub enters : ((lands.to ≡ suc n) × (goes_on i ≡ true)) ⊎ (may_enter (Some lands.insn) ≡ true)

  falls_next : (n : ℕ) (i : Insn) → marks n ≡ true → IsLeft (slice_get fs n) → slice_get b.insns n ≡ Some i → goes_on i ≡ true → Falls n i
  falls_next n i m l e g =
      let x = next_there p b fits n i e g in
      let y = lands (suc n) x.0 (tidy.next n i m e g) x.1.0 in
      record { from = suc n; lands = y; behind = y.same ∙ place_next fs n l; enters = by y y.enters }
    where
      by : (y : Lands (suc n)) → (y.to ≡ suc n) ⊎ (may_enter (Some y.insn) ≡ true) → ((y.to ≡ suc n) × (goes_on i ≡ true)) ⊎ (may_enter (Some y.insn) ≡ true)
      by y (inl s) = inl (s, g)
      by y (inr s) = inr s

  pub falls : (n : ℕ) (f : Fate) (i : Insn) → slice_get fs n ≡ Some f → IsLeft (Some f) → slice_get b.insns n ≡ Some i → goes_on (left_insn (place fs) f i) ≡ true → Falls n i
  falls n Stays i h l e g = falls_next n i (is_marked n Stays h l) (left_at n Stays h l) e (sym (flows_on (place fs) i) ∙ g)
  falls n Goes i h l e g = absurd l
  falls n Empties i h l e g = by i e (tidy.passed n i Empties (is_marked n Empties h l) e h refl)
    where
      by : (j : Insn) → slice_get b.insns n ≡ Some j → Passes fs n j → Falls n j
      by _ d (On j g r) = falls_next n j (is_marked n Empties h l) (left_at n Empties h l) d g
      by _ d (Over t a s) =
          let y = target_lands n t (insn.Goto t) (is_marked n Empties h l) d (its_target t) in
          record { from = t; lands = y.0; behind = y.0.same ∙ s ∙ place_next fs n (left_at n Empties h l); enters = inr y.1 }
