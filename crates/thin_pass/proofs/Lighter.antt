-- A thinned program is lighter by what is counted at least, and the same where nothing is.
use Rattle.std.proofs.Common.{◌≡◌, ℕ, zero, suc, ◌+◌, ◌-◌, ◌^◌, ◌<◌, ◌≤◌, Bool, true, false, true≢false, if◌then◌else◌, List, [], ◌∷◌, Option, Some, None, slice_get, nat_eq, replicate, length, refl, sym, ap, ◌∙◌, subst, arith}
use Rattle.std.specs.Prelude.{sum_by, slice_index_or}
use Rattle.std.specs.List.{AllZip}
use Rattle.std.proofs.lemmas.Bool.{eqb-true}
use Rattle.std.proofs.lemmas.List.Sums.{sum_by-cons}
use mathlib.Core.Bool.{cond}
use Rattle.insn_set.specs.declared.form.Insn.{Insn}
use Rattle.insn_set.specs.declared.form.Insn.TheVariants as insn
use Rattle.program_model.specs.Cells.{capped}
use Rattle.program_model.specs.declared.body.Body.{Body}
use Rattle.program_model.specs.declared.program.Method.{Method}
use Rattle.program_model.specs.declared.program.Class.{Class}
use Rattle.program_model.specs.declared.program.Program.{Program}
use Rattle.program_model.specs.declared.pass.Changed.{Changed}
use Rattle.pass_defs.specs.Thinned.{place, insn_retargeted, insns_left, body_thinned}
use Rattle.body_edit.specs.declared.fate.Fate.{Fate}
use Rattle.body_edit.specs.declared.fate.Fate.TheVariants.{Stays, Empties, Goes}
use Rattle.body_edit.specs.Fates.{fates_of}
use Rattle.thin_pass.specs.Wishing.{wish_at, is_held, emptied, fate_of, fate_if, fate_at, fates_from, WishedFates, FatesIn, FatesIf, HasFates, is_small}
use Rattle.thin_pass.specs.Plans.{changes, changed_in, class_changes, all_changes, method_thinned, method_by, methods_by, class_by, classes_by, program_by, lines_left, AreFor, AreForClasses, IsThinnedBy}
use Rattle.thin_pass.specs.Weights.{weight, insns_weight, code_weight, method_weight, class_weight, weight_of}
use Rattle.thin_pass.proofs.Fated.{IsFateAt, fate_is, long_upto}

-- what is left of an instruction's weight, and what is counted
abbrev left_weight : Fate → Insn → ℕ
left_weight Stays i = weight i
left_weight Empties i = 1
left_weight Goes i = 0

abbrev lost : Fate → ℕ
lost Stays = 0
lost f = 1

abbrev Lightens : Insn → Fate → Type 0
Lightens i f = left_weight f i + lost f ≤ weight i

weighs : (i : Insn) → 0 < weight i
weighs insn.Nop = omega arith
weighs i = omega arith

same_weight : (t : ℕ → ℕ) (i : Insn) → weight (insn_retargeted t i) ≡ weight i
same_weight t insn.Nop = refl
same_weight t i = refl

emptied_weighs : (i : Insn) → Lightens i (emptied i)
emptied_weighs insn.Nop = omega arith
emptied_weighs i = omega arith

stays_weighs : (i : Insn) → Lightens i Stays
stays_weighs i = omega arith

fate_weighs : (w : Fate) (held : Bool) (i : Insn) → Lightens i (fate_of w held i)
fate_weighs Stays held i = stays_weighs i
fate_weighs Empties held i = emptied_weighs i
fate_weighs Goes false i = omega (arith, weighs i)
fate_weighs Goes true i = emptied_weighs i

pub changed_cons : (f : Fate) (fs : List Fate) → changed_in (f ∷ fs) ≡ lost f + changed_in fs
changed_cons Stays fs = sum_by-cons (λ x. cond (changes x) 1 0) Stays fs
changed_cons Empties fs = sum_by-cons (λ x. cond (changes x) 1 0) Empties fs
changed_cons Goes fs = sum_by-cons (λ x. cond (changes x) 1 0) Goes fs

-- ---- bodies

-- what is known of each fate, for both lists side by side
side_by_side : (is : List Insn) (fs : List Fate) → length fs ≡ length is → ((n : ℕ) (i : Insn) (f : Fate) → slice_get is n ≡ Some i → slice_get fs n ≡ Some f → Lightens i f) → AllZip Lightens is fs
side_by_side [] [] l h = _
side_by_side [] (f ∷ fs) l h = absurd (omega (arith, l))
side_by_side (i ∷ is) [] l h = absurd (omega (arith, l))
side_by_side (i ∷ is) (f ∷ fs) l h = (h 0 i f refl refl, side_by_side is fs (omega (arith, l)) (λ n j g e d. h (suc n) j g e d))

wished_lighten : (is : List Insn) (ws : List Fate) → AllZip Lightens is (fates_from is ws 0 (length is))
wished_lighten is ws = side_by_side is (fates_from is ws 0 (length is)) (long_upto is ws 0 0 (length is)) (λ n i f e d. by n i f e (fate_is ws is n f d))
  where
    by : (n : ℕ) (i : Insn) (f : Fate) → slice_get is n ≡ Some i → IsFateAt is ws n f → Lightens i f
    by n i f e a = subst (Lightens i) (sym (a.is_it ∙ ap (fate_if (wish_at ws n) (is_held is ws a.start n)) e)) (fate_weighs (wish_at ws n) (is_held is ws a.start n) i)

module _ (t : ℕ → ℕ) where
  one_lighter : (f : Fate) (fs : List Fate) (i : Insn) (is : List Insn) → Lightens i f → insns_weight (insns_left t (fates_of fs) is) + changed_in fs ≤ insns_weight is
      → insns_weight (insns_left t (fates_of (f ∷ fs)) (i ∷ is)) + changed_in (f ∷ fs) ≤ insns_weight (i ∷ is)
  one_lighter Stays fs i is h k = omega (arith, h, k, same_weight t i, changed_cons Stays fs)
  one_lighter Empties fs i is h k = omega (arith, h, k, changed_cons Empties fs)
  one_lighter Goes fs i is h k = omega (arith, h, k, changed_cons Goes fs)

  insns_lighter : (is : List Insn) (fs : List Fate) → AllZip Lightens is fs → insns_weight (insns_left t (fates_of fs) is) + changed_in fs ≤ insns_weight is
  insns_lighter [] [] h = omega arith
  insns_lighter [] (f ∷ fs) h = absurd h
  insns_lighter (i ∷ is) [] h = absurd h
  insns_lighter (i ∷ is) (f ∷ fs) h = one_lighter f fs i is h.0 (insns_lighter is fs h.1)

pub stay_changes : (n : ℕ) → changed_in (replicate n Stays) ≡ 0
stay_changes zero = refl
stay_changes (suc n) = omega (arith, changed_cons Stays (replicate n Stays), stay_changes n)

-- ---- methods

pub method_same : (fs : List Fate) (m : Method) → changed_in fs ≡ 0 → method_by fs m ≡ m
method_same fs m e = ap (λ k. if nat_eq k 0 then m else method_thinned fs m) e

no_less : (a b c : ℕ) → a ≡ b → c ≡ 0 → a + c ≤ b
no_less a b c e d = omega (arith, e, d)

unchanged_weighs : (fs : List Fate) (m : Method) → changed_in fs ≡ 0 → method_weight (method_by fs m) + changed_in fs ≤ method_weight m
unchanged_weighs fs m e = no_less (method_weight (method_by fs m)) (method_weight m) (changed_in fs) (ap method_weight (method_same fs m e)) e

thinned_weighs : (fs : List Fate) (m : Method) (b : Body) → m.body ≡ Some b → AllZip Lightens b.insns fs → method_weight (method_by fs m) + changed_in fs ≤ method_weight m
thinned_weighs fs m b e h = by (nat_eq (changed_in fs) 0) refl
  where
    is_body : method_weight (method_thinned fs m) ≡ insns_weight (insns_left (place (fates_of fs)) (fates_of fs) b.insns)
    is_body = ap (λ (o : Option Body). method_weight (elim o as (λ o. Method) [ Some b ↦ record m { body = Some (body_thinned (fates_of fs) b); lines = lines_left fs m.lines } | None ↦ m ])) e

    by : (z : Bool) → nat_eq (changed_in fs) 0 ≡ z → method_weight (if z then m else method_thinned fs m) + changed_in fs ≤ method_weight m
    by true d = no_less (method_weight m) (method_weight m) (changed_in fs) refl (eqb-true (changed_in fs) 0 d)
    by false d = let l = insns_lighter (place (fates_of fs)) b.insns fs h in let w : method_weight m ≡ insns_weight b.insns = ap code_weight e in omega (arith, is_body, l, w)

module _ (wishes : Body → List Fate → Type 0) (admitted : List Bool) where
  method_lighter : (m : Method) (fs : List Fate) → HasFates wishes admitted m fs → method_weight (method_by fs m) + changed_in fs ≤ method_weight m
  method_lighter m fs h = by (is_small m) (slice_index_or admitted m.name false) m.body refl h
    where
      by : (small on : Bool) (o : Option Body) → m.body ≡ o → FatesIf wishes on small o fs → method_weight (method_by fs m) + changed_in fs ≤ method_weight m
      by false on o e d = unchanged_weighs fs m (ap changed_in d)
      by true on None e d = unchanged_weighs fs m (ap changed_in d)
      by true false (Some b) e d = unchanged_weighs fs m (ap changed_in d ∙ stay_changes (length b.insns))
      by true true (Some b) e d = thinned_weighs fs m b e (subst (AllZip Lightens b.insns) (sym d.fates) (wished_lighten b.insns d.wished))

  methods_lighter : (ms : List Method) (plan : List (List Fate)) → AreFor (HasFates wishes admitted) ms plan → sum_by method_weight (methods_by plan ms) + class_changes plan ≤ sum_by method_weight ms
  methods_lighter [] [] h = omega arith
  methods_lighter [] (fs ∷ plan) h = absurd h
  methods_lighter (m ∷ ms) [] h = absurd h
  methods_lighter (m ∷ ms) (fs ∷ plan) h = omega (arith, method_lighter m fs h.0, methods_lighter ms plan h.1, sum_by-cons method_weight (method_by fs m) (methods_by plan ms), sum_by-cons changed_in fs plan, sum_by-cons method_weight m ms)

  classes_lighter : (cs : List Class) (plan : List (List (List Fate))) → AreForClasses (HasFates wishes admitted) cs plan → sum_by class_weight (classes_by plan cs) + all_changes plan ≤ sum_by class_weight cs
  classes_lighter [] [] h = omega arith
  classes_lighter [] (ps ∷ plan) h = absurd h
  classes_lighter (c ∷ cs) [] h = absurd h
  classes_lighter (c ∷ cs) (ps ∷ plan) h = omega (arith, methods_lighter c.methods ps h.0, classes_lighter cs plan h.1, sum_by-cons class_weight (class_by ps c) (classes_by plan cs), sum_by-cons class_changes ps plan, sum_by-cons class_weight c cs)

-- ---- where nothing is counted

pub left_part : (a b : ℕ) → a + b ≡ 0 → a ≡ 0
left_part a b h = omega arith

pub right_part : (a b : ℕ) → a + b ≡ 0 → b ≡ 0
right_part a b h = omega arith

methods_same : (plan : List (List Fate)) (ms : List Method) → class_changes plan ≡ 0 → methods_by plan ms ≡ ms
methods_same [] ms e = refl
methods_same (fs ∷ plan) [] e = refl
methods_same (fs ∷ plan) (m ∷ ms) e = let both : changed_in fs + class_changes plan ≡ 0 = sym (sum_by-cons changed_in fs plan) ∙ e in
    ap (λ k. k ∷ methods_by plan ms) (method_same fs m (left_part (changed_in fs) (class_changes plan) both)) ∙ ap (λ l. m ∷ l) (methods_same plan ms (right_part (changed_in fs) (class_changes plan) both))

classes_same : (plan : List (List (List Fate))) (cs : List Class) → all_changes plan ≡ 0 → classes_by plan cs ≡ cs
classes_same [] cs e = refl
classes_same (ps ∷ plan) [] e = refl
classes_same (ps ∷ plan) (c ∷ cs) e = let both : class_changes ps + all_changes plan ≡ 0 = sym (sum_by-cons class_changes ps plan) ∙ e in
    ap (λ ms. record c { methods = ms } ∷ classes_by plan cs) (methods_same ps c.methods (left_part (class_changes ps) (all_changes plan) both))
    ∙ ap (λ l. c ∷ l) (classes_same plan cs (right_part (class_changes ps) (all_changes plan) both))

pub not_capped : (n : ℕ) → capped n ≡ 0 → n ≡ 0
not_capped n h = omega arith

-- ---- programs

pub thinned_same : (wishes : Body → List Fate → Type 0) (admitted : List Bool) (p : Program) (c : Changed) → IsThinnedBy wishes admitted p c → c.count ≡ 0 → c.program ≡ p
thinned_same wishes admitted p c t e = t.program ∙ ap (λ cs. record p { classes = cs }) (classes_same t.plan p.classes (not_capped (all_changes t.plan) (sym t.count ∙ e)))

lighter : (wishes : Body → List Fate → Type 0) (admitted : List Bool) (p : Program) (c : Changed) (t : IsThinnedBy wishes admitted p c) → weight_of c.program + all_changes t.plan ≤ weight_of p
lighter wishes admitted p c t = subst (λ (q : Program). weight_of q + all_changes t.plan ≤ weight_of p) (sym t.program) (classes_lighter wishes admitted p.classes t.plan t.fates)

pub thinned_falls : (wishes : Body → List Fate → Type 0) (admitted : List Bool) (p : Program) (c : Changed) → IsThinnedBy wishes admitted p c → weight_of c.program ≤ weight_of p
thinned_falls wishes admitted p c t = omega (arith, lighter wishes admitted p c t)

pub thinned_less : (wishes : Body → List Fate → Type 0) (admitted : List Bool) (p : Program) (c : Changed) → IsThinnedBy wishes admitted p c → 0 < c.count → weight_of c.program < weight_of p
thinned_less wishes admitted p c t more = let l = lighter wishes admitted p c t in let k : c.count ≡ capped (all_changes t.plan) = t.count in omega (arith, l, k, more)
