-- Fates that come of right wishes are tidy.
use Rattle.std.proofs.Common.{◌≡◌, ◌⊎◌, inl, inr, ℕ, zero, suc, ◌+◌, ◌-◌, ◌<◌, ◌≤◌, Bool, true, false, true≢false, List, [], ◌∷◌, length, refl, sym, ap, ◌∙◌, subst, arith, eq-eqb}
use Rattle.std.specs.Prelude.{not, ◌&&◌, ◌||◌, nat_eq, nat_le, Option, Some, None, slice_get, Contains}
use Rattle.std.specs.List.{list_any}
use Rattle.std.proofs.lemmas.Bool.{cases_lt, eqb-true, leb-true, le-leb}
use Rattle.lemmas.proofs.Bools.{and_right}
use Rattle.lemmas.proofs.Lists.{contains_here, contains_there, get_there, got_short}
use Rattle.lemmas.proofs.Numbers.{next_is}
use Rattle.insn_set.specs.Flow.{goes_on, targets_of}
use Rattle.insn_set.specs.declared.form.Insn.{Insn}
use Rattle.insn_set.specs.declared.form.Insn.TheVariants as insn
use Rattle.insn_set.specs.declared.ops.Slot.{Slot}
use Rattle.program_model.specs.BodyRules.{has_result, leaves, body_fits}
use Rattle.program_model.specs.declared.body.Body.{Body}
use Rattle.program_model.specs.declared.program.Program.{Program}
use Rattle.pass_defs.specs.Thinned.{Fate as Meant, stays, place, insn_retargeted}
use Rattle.pass_defs.specs.Thinned.{Stays as MeantStays, Empties as MeantEmpties, Goes as MeantGoes}
use Rattle.body_edit.specs.Fates.{fate_of}
use Rattle.body_edit.specs.declared.fate.Fate.{Fate}
use Rattle.body_edit.specs.declared.fate.Fate.TheVariants.{Stays, Empties, Goes}
use Rattle.program_laws.proofs.ChangedLists.{and_left, and_both}
use Rattle.thin_laws.proofs.Places.{IsLeft, place_next, place_gone}
use Rattle.thin_pass.specs.Wishing.{wish_at, goes, is_to_go, is_between, leads_into, holds, is_held}
use Rattle.thin_pass.specs.Wishing.{fate_of as chosen}
use Rattle.thin_laws.specs.Tidy.{Passes, On, Over, Catches, IsTidy}
use Rattle.thin_laws.proofs.PlacesLeft.{place_rises}
use Rattle.thin_laws.proofs.Rules.{leaves_at}
use Rattle.bodies_kept.specs.Right.{fates_by, PassesOn, On as PassesNext, Next, StillCatches, AreRight}
use Rattle.bodies_kept.proofs.Chosen.{Chosen, long, goes_by, left_by, lost_by, stays_by, chosen_at, fate_there, insn_there, kept, not_gone, holds_next}

-- a target in a range
pub in_range : (first last : ℕ) (ts : List ℕ) → list_any (is_between first last) ts ≡ true → (t : ℕ) × (Contains ts t × ((first ≤ t) × (t ≤ last)))
in_range first last [] e = absurd (true≢false (sym e))
in_range first last (t ∷ ts) e = by (is_between first last t) refl e (in_range first last ts)
  where
    by : (b : Bool) → is_between first last t ≡ b → (b || list_any (is_between first last) ts) ≡ true
        → (list_any (is_between first last) ts ≡ true → (u : ℕ) × (Contains ts u × ((first ≤ u) × (u ≤ last)))) → (u : ℕ) × (Contains (t ∷ ts) u × ((first ≤ u) × (u ≤ last)))
    by true d h again = (t, (contains_here t ts, (leb-true first t (and_left (nat_le first t) (nat_le t last) d), leb-true t last (and_right (nat_le first t) (nat_le t last) d))))
    by false d h again = let r = again h in (r.0, (contains_there t ts r.0 r.1.0, r.1.1))

-- and the other way round
to_range : (first last t : ℕ) (ts : List ℕ) → Contains ts t → first ≤ t → t ≤ last → list_any (is_between first last) ts ≡ true
to_range first last t [] (k, l, e) a b = let f : ⊥ = omega (arith, l) in absurd f
to_range first last t (u ∷ ts) (zero, l, e) a b = ap (λ x. x || list_any (is_between first last) ts) (ap (is_between first last) e ∙ and_both (nat_le first t) (nat_le t last) (le-leb first t a) (le-leb t last b))
to_range first last t (u ∷ ts) (suc k, l, e) a b = by (is_between first last u) (to_range first last t ts (k, omega (arith, l), e) a b)
  where
    by : (x : Bool) → list_any (is_between first last) ts ≡ true → (x || list_any (is_between first last) ts) ≡ true
    by true h = refl
    by false h = h

steps_to : (t n : ℕ) → t ≤ n → t + (n - t) ≡ n
steps_to t n l = omega arith

module _ (p : Program) (marks : ℕ → Bool) (ws : List Fate) (b : Body) (fits : body_fits p b ≡ true) (right : AreRight marks ws b) where
  abbrev fs : List Meant
  fs = fates_by ws b

  -- from a marked position on through such as are to go
  climb : (k t n : ℕ) → t + k ≡ n → n < length b.insns → ((j : ℕ) → t ≤ j → j < n → is_to_go ws j ≡ true) → marks t ≡ true → marks n ≡ true
  climb zero t n e l all m = let s : t ≡ n = omega (arith, e) in subst (λ (j : ℕ). marks j ≡ true) s m
  climb (suc k) t n e l all m =
      let x = get_there b.insns t (omega (arith, e, l)) in
      let g : is_to_go ws t ≡ true = all t (omega arith) (omega (arith, e)) in
      climb k (suc t) n (omega (arith, e)) l (λ j a c. all j (omega (arith, a)) c) (by x.0 x.1 (right.loses t x.0 m x.1 (λ s. let h : is_to_go ws t ≡ false = ap goes s in cc)))
    where
      by : (i : Insn) → slice_get b.insns t ≡ Some i → PassesOn t i → marks (suc t) ≡ true
      by _ d (PassesNext i g r) = right.next t i m d g
      by _ d Next = right.targets t (suc t) (insn.Goto (suc t)) m d (contains_here (suc t) [])

  -- what is held is marked, since the branch behind it is
  held_marked : (n start : ℕ) → n < length b.insns → ((j : ℕ) → start ≤ j → j < n → is_to_go ws j ≡ true) → is_held b.insns ws start n ≡ true → marks n ≡ true
  held_marked n start l all e =
      let j = holds_next b.insns ws n start (slice_get b.insns (n + 1)) refl e in
      let m : marks (n + 1) ≡ true = right.left (n + 1) j.0 j.1.0 j.1.1.0 in
      let t = in_range start n (targets_of j.0) j.1.1.1 in
      climb (n - t.0) t.0 n (steps_to t.0 n t.1.1.1) l (λ k a c. all k (omega (arith, a, t.1.1.0)) c) (right.targets (n + 1) t.0 j.0 m j.1.0 t.1.0)

  left_marked : (n : ℕ) (f : Meant) → slice_get fs n ≡ Some f → (f ≡ MeantGoes → ⊥) → marks n ≡ true
  left_marked n f h l = let i = insn_there b.insns ws n f h in by i.0 i.1.0 i.1.1
    where
      by : (i : Insn) → slice_get b.insns n ≡ Some i → Chosen b.insns ws n i f → marks n ≡ true
      by i e a = elim (left_by (wish_at ws n) (is_held b.insns ws a.start n) i (λ g. l (a.is_it ∙ g))) [
        | inl d ↦ right.left n i e d
        | inr d ↦ held_marked n a.start (got_short b.insns n i e) a.run.all d
      ]

  passing : (n : ℕ) (i : Insn) (f : Meant) → marks n ≡ true → slice_get b.insns n ≡ Some i → slice_get fs n ≡ Some f → stays f ≡ false → Passes fs n i
  passing n i f m e h s = let a = chosen_at b.insns ws n i f e h in by i (right.loses n i m e (lost_by (wish_at ws n) (is_held b.insns ws a.start n) i (sym (ap stays a.is_it) ∙ s)))
    where
      by : (i : Insn) → PassesOn n i → Passes fs n i
      by _ (PassesNext j g r) = On j g r
      by _ Next = Over (suc n) (omega arith) refl

  results : (n to : ℕ) (s : Slot) → slice_get fs (suc n) ≡ Some MeantStays → slice_get b.insns (suc n) ≡ Some (insn.MoveResult s to) → slice_get fs n ≡ Some MeantStays
  results n to s h e =
      let l = got_short b.insns (suc n) (insn.MoveResult s to) e in
      let i = get_there b.insns n (omega (arith, l)) in
      kept b.insns ws n i.0 i.1 (right.results n to s i.0 (left_marked (suc n) MeantStays h (λ g. cc)) e i.1)

  -- ---- branches

  -- no position between a branch's target before it and the branch is left, if both come to one place
  all_gone : (t n : ℕ) → t < n → n < length b.insns → place fs t ≡ place fs n → (k : ℕ) → t ≤ k → k < n → slice_get fs k ≡ Some MeantGoes
  all_gone t n l m e k a c =
      let x = get_there fs k (subst (λ (z : ℕ). k < z) (sym (long b.insns ws)) (omega (arith, m, c))) in by x.0 x.1
    where
      low : place fs t ≤ place fs k
      low = place_rises fs t k a

      high : place fs (suc k) ≤ place fs n
      high = place_rises fs (suc k) n (omega (arith, c))

      not_left : IsLeft (slice_get fs k) → ⊥
      not_left j = let s = place_next fs k j in omega (arith, s, low, high, e)

      by : (f : Meant) → slice_get fs k ≡ Some f → slice_get fs k ≡ Some MeantGoes
      by MeantGoes d = d
      by MeantStays d = absurd (not_left (subst IsLeft (sym d) tt))
      by MeantEmpties d = absurd (not_left (subst IsLeft (sym d) tt))

  apart : (n t : ℕ) (i : Insn) → slice_get fs n ≡ Some MeantStays → slice_get b.insns n ≡ Some i → (i ≡ insn.Nop → ⊥) → Contains (targets_of i) t → (t ≡ n → ⊥) → place fs t ≡ place fs n → ⊥
  apart n t i h e nop c ne s = elim (cases_lt t n) [
    | inl l ↦ before n l h e s
    | inr l ↦ (let a : place fs (suc n) ≡ suc (place fs n) = place_next fs n (subst IsLeft (sym h) tt) in
        let r = place_rises fs (suc n) t (beyond l) in omega (arith, a, r, s))
  ]
    where
      beyond : n ≤ t → suc n ≤ t
      beyond l = elim (cases_lt n t) [ inl m ↦ omega (arith, m) | inr m ↦ absurd (ne (omega (arith, l, m))) ]

      -- the last of them would be held
      before : (n : ℕ) → t < n → slice_get fs n ≡ Some MeantStays → slice_get b.insns n ≡ Some i → place fs t ≡ place fs n → ⊥
      before zero l h e s = omega (arith, l)
      before (suc k) l h e s =
          let m = got_short b.insns (suc k) i e in
          let gone : (j : ℕ) → t ≤ j → j < suc k → slice_get fs j ≡ Some MeantGoes = all_gone t (suc k) l m s in
          let a = insn_there b.insns ws k MeantGoes (gone k (omega (arith, l)) (omega arith)) in
          let w = goes_by (wish_at ws k) (is_held b.insns ws a.1.1.start k) a.0 (sym a.1.1.is_it) in
          let here = chosen_at b.insns ws (suc k) i MeantStays e h in
          let stay : wish_at ws (suc k) ≡ Stays = stays_by (wish_at ws (suc k)) (is_held b.insns ws here.start (suc k)) i nop (sym here.is_it) in
          let first : a.1.1.start ≤ t = a.1.1.run.least t (omega (arith, l)) (λ j x y. to_go j (gone j x (omega (arith, y)))) in
          absurd (true≢false (sym (holding k a.1.1.start stay e (to_range a.1.1.start k t (targets_of i) c first (omega (arith, l)))) ∙ w.1))
        where
          to_go : (j : ℕ) → slice_get fs j ≡ Some MeantGoes → is_to_go ws j ≡ true
          to_go j d = let x = insn_there b.insns ws j MeantGoes d in ap goes (goes_by (wish_at ws j) (is_held b.insns ws x.1.1.start j) x.0 (sym x.1.1.is_it)).0

          holding : (k start : ℕ) → wish_at ws (suc k) ≡ Stays → slice_get b.insns (suc k) ≡ Some i → list_any (is_between start k) (targets_of i) ≡ true → is_held b.insns ws start k ≡ true
          holding k start stay e d = subst (λ (j : ℕ). holds (is_to_go ws j) start k (slice_get b.insns j) ≡ true) (sym (next_is k))
              (ap (λ o. holds (is_to_go ws (suc k)) start k o) e ∙ ap (λ v. not (goes v) && leads_into start k i) stay ∙ d)

  differs : (a c : ℕ) → (a ≡ c → ⊥) → not (nat_eq a c) ≡ true
  differs a c n = by (nat_eq a c) refl
    where
      by : (x : Bool) → nat_eq a c ≡ x → not x ≡ true
      by true e = absurd (n (eqb-true a c e))
      by false e = refl

  unequal : (a c : ℕ) → not (nat_eq a c) ≡ true → a ≡ c → ⊥
  unequal a c e d = absurd (true≢false (sym e ∙ ap not (eq-eqb a c d)))

  leaving : (n : ℕ) (i : Insn) → slice_get fs n ≡ Some MeantStays → slice_get b.insns n ≡ Some i → leaves (place fs n) (insn_retargeted (place fs) i) ≡ true
  leaving n i h e = by i e (leaves_at p b fits n i e)
    where
      by : (i : Insn) → slice_get b.insns n ≡ Some i → leaves n i ≡ true → leaves (place fs n) (insn_retargeted (place fs) i) ≡ true
      by (insn.If test x y t) e l = differs (place fs t) (place fs n) (apart n t (insn.If test x y t) h e (λ d. cc) (contains_here t []) (unequal t n l))
      by (insn.IfZero test x t) e l = differs (place fs t) (place fs n) (apart n t (insn.IfZero test x t) h e (λ d. cc) (contains_here t []) (unequal t n l))
      by (insn.Goto t) e l = refl
      by i e l = refl

  -- ---- what is caught

  catching : (n to : ℕ) → slice_get fs n ≡ Some MeantStays → slice_get b.insns n ≡ Some (insn.MoveException to) → Catches marks fs b n
  catching n to h e =
      let a = chosen_at b.insns ws n (insn.MoveException to) MeantStays e h in
      let r = right.caught n to (left_marked n MeantStays h (λ g. cc)) e (stays_by (wish_at ws n) (is_held b.insns ws a.start n) (insn.MoveException to) (λ d. cc) (sym a.is_it)) in
      let f = not_gone b.insns ws r.covered r.insn r.has_insn r.stays in
      record {
        region = r.region;
        has_region = r.has_region;
        handles = r.handles;
        covered = r.covered;
        first = r.first;
        end = r.end;
        fate = f.0;
        has_fate = f.1.0;
        is_left = f.1.1;
        marked = r.marked;
        rest = r.rest;
      }

  pub tidy : IsTidy marks fs b
  tidy = record {
    long = long b.insns ws;
    entry = right.entry;
    next = right.next;
    targets = right.targets;
    left = left_marked;
    passed = passing;
    results = results;
    leaves = leaving;
    caught = catching;
  }
