-- Compaction lowers the register count or the sum of the numbers, or leaves a body the same.
use Rattle.std.proofs.Common.{◌≡◌, ◌⊎◌, inl, inr, ℕ, suc, ◌+◌, ◌<◌, ◌≤◌, Bool, true, false, List, [], ◌∷◌, length, map, sum, Option, Some, None, refl, sym, ap, ap₂, ◌∙◌, subst, arith}
use Rattle.std.specs.Prelude.{sum_by, slice_get}
use Rattle.std.proofs.lemmas.Bool.{cases_lt}
use Rattle.std.proofs.lemmas.List.Sums.{sum_by-cons}
use Rattle.insn_set.specs.declared.form.Insn.{Insn}
use Rattle.insn_set.specs.declared.form.Insn.TheVariants.{Nop, Move, MoveResult, MoveException, ReturnVoid, Return, Const, ConstWide, ConstString, ConstClass, MonitorEnter, MonitorExit, CheckCast, InstanceOf, ArrayLength, NewInstance, NewArray, FilledNewArray, FillArray, Throw, Goto, PackedSwitch, SparseSwitch, Cmp, If, IfZero, ArrayGet, ArrayPut, InstanceGet, InstancePut, StaticGet, StaticPut, Invoke, Unary, Binary, Literal}
use Rattle.program_model.specs.declared.body.Body.{Body}
use Rattle.program_model.specs.declared.program.Method.{Method}
use Rattle.program_model.specs.declared.program.Class.{Class}
use Rattle.program_model.specs.declared.program.Program.{Program}
use Rattle.insn_regs.specs.Remade.{remade}
use Rattle.insn_regs.specs.Wides.{widths_of}
use Rattle.walk_marks.specs.Walks.{is_on}
use Rattle.compact.specs.Renamed.{AreEach, RewritesBody, IsCompacted, IsCompactedMethod, IsCompactedClass, IsCompactedProgram}
use Rattle.compact.specs.Measure.{numbers_of, number_sum, LowersByNumber, IsLower, body_numbers, method_numbers, class_numbers, numbers_in}

sum_more : (x : ℕ) (xs : List ℕ) → sum (x ∷ xs) ≡ x + sum xs
sum_more x xs = sum_by-cons (λ y. y) x xs

module _ (g : ℕ → ℕ) (falls : (r : ℕ) → g r ≤ r) where
  numbers_map : (f : Insn) → numbers_of (remade g g f) ≡ map g (numbers_of f)
  numbers_map Nop = refl
  numbers_map (Move slot to from) = refl
  numbers_map (MoveResult slot to) = refl
  numbers_map (MoveException to) = refl
  numbers_map ReturnVoid = refl
  numbers_map (Return slot from) = refl
  numbers_map (Const to value) = refl
  numbers_map (ConstWide to value) = refl
  numbers_map (ConstString to string) = refl
  numbers_map (ConstClass to kind) = refl
  numbers_map (MonitorEnter on) = refl
  numbers_map (MonitorExit on) = refl
  numbers_map (CheckCast on kind) = refl
  numbers_map (InstanceOf to from kind) = refl
  numbers_map (ArrayLength to from) = refl
  numbers_map (NewInstance to kind) = refl
  numbers_map (NewArray to size kind) = refl
  numbers_map (FilledNewArray kind args) = refl
  numbers_map (FillArray on width items) = refl
  numbers_map (Throw on) = refl
  numbers_map (Goto target) = refl
  numbers_map (PackedSwitch on first targets) = refl
  numbers_map (SparseSwitch on keys targets) = refl
  numbers_map (Cmp op to a b) = refl
  numbers_map (If test a b target) = refl
  numbers_map (IfZero test a target) = refl
  numbers_map (ArrayGet item to array index) = refl
  numbers_map (ArrayPut item from array index) = refl
  numbers_map (InstanceGet item to on field) = refl
  numbers_map (InstancePut item from on field) = refl
  numbers_map (StaticGet item to field) = refl
  numbers_map (StaticPut item from field) = refl
  numbers_map (Invoke kind method args) = refl
  numbers_map (Unary op to from) = refl
  numbers_map (Binary op to a b) = refl
  numbers_map (Literal op to a value) = refl

  insn_fixed : (f : Insn) → map g (numbers_of f) ≡ numbers_of f → remade g g f ≡ f
  insn_fixed Nop e = refl
  insn_fixed (Move slot to from) e = cc
  insn_fixed (MoveResult slot to) e = cc
  insn_fixed (MoveException to) e = cc
  insn_fixed ReturnVoid e = refl
  insn_fixed (Return slot from) e = cc
  insn_fixed (Const to value) e = cc
  insn_fixed (ConstWide to value) e = cc
  insn_fixed (ConstString to string) e = cc
  insn_fixed (ConstClass to kind) e = cc
  insn_fixed (MonitorEnter on) e = cc
  insn_fixed (MonitorExit on) e = cc
  insn_fixed (CheckCast on kind) e = cc
  insn_fixed (InstanceOf to from kind) e = cc
  insn_fixed (ArrayLength to from) e = cc
  insn_fixed (NewInstance to kind) e = cc
  insn_fixed (NewArray to size kind) e = cc
  insn_fixed (FilledNewArray kind args) e = ap (λ xs. FilledNewArray kind xs) e
  insn_fixed (FillArray on width items) e = cc
  insn_fixed (Throw on) e = cc
  insn_fixed (Goto target) e = refl
  insn_fixed (PackedSwitch on first targets) e = cc
  insn_fixed (SparseSwitch on keys targets) e = cc
  insn_fixed (Cmp op to a b) e = cc
  insn_fixed (If test a b target) e = cc
  insn_fixed (IfZero test a target) e = cc
  insn_fixed (ArrayGet item to array index) e = cc
  insn_fixed (ArrayPut item from array index) e = cc
  insn_fixed (InstanceGet item to on field) e = cc
  insn_fixed (InstancePut item from on field) e = cc
  insn_fixed (StaticGet item to field) e = cc
  insn_fixed (StaticPut item from field) e = cc
  insn_fixed (Invoke kind method args) e = ap (λ xs. Invoke kind method xs) e
  insn_fixed (Unary op to from) e = cc
  insn_fixed (Binary op to a b) e = cc
  insn_fixed (Literal op to a value) e = cc

  sum_falls : (xs : List ℕ) → sum (map g xs) ≤ sum xs
  sum_falls [] = omega arith
  sum_falls (x ∷ xs) = omega (arith, sum_more x xs, sum_more (g x) (map g xs), falls x, sum_falls xs)

  sum_fixed : (xs : List ℕ) → sum (map g xs) ≡ sum xs → map g xs ≡ xs
  sum_fixed [] e = refl
  sum_fixed (x ∷ xs) e =
      let head : g x ≡ x = omega (arith, e, sum_more x xs, sum_more (g x) (map g xs), falls x, sum_falls xs) in
      let tail : sum (map g xs) ≡ sum xs = omega (arith, e, sum_more x xs, sum_more (g x) (map g xs), falls x, sum_falls xs) in
      ap₂ (λ y ys. y ∷ ys) head (sum_fixed xs tail)

  abbrev weight : Insn → ℕ
  weight f = sum (numbers_of f)

  insn_falls : (f : Insn) → weight (remade g g f) ≤ weight f
  insn_falls f = subst (λ l. sum l ≤ weight f) (sym (numbers_map f)) (sum_falls (numbers_of f))

  weight_fixed : (f : Insn) → weight (remade g g f) ≡ weight f → remade g g f ≡ f
  weight_fixed f e = insn_fixed f (sum_fixed (numbers_of f) (ap sum (sym (numbers_map f)) ∙ e))

  sum_by_more : (f : Insn) (fs : List Insn) → sum_by weight (f ∷ fs) ≡ weight f + sum_by weight fs
  sum_by_more f fs = sum_by-cons weight f fs

  all_fall : (fs : List Insn) → sum_by weight (map (remade g g) fs) ≤ sum_by weight fs
  all_fall [] = omega arith
  all_fall (f ∷ fs) = omega (arith, sum_by_more f fs, sum_by_more (remade g g f) (map (remade g g) fs), insn_falls f, all_fall fs)

  all_fixed : (fs : List Insn) → sum_by weight (map (remade g g) fs) ≡ sum_by weight fs → map (remade g g) fs ≡ fs
  all_fixed [] e = refl
  all_fixed (f ∷ fs) e =
      let head : weight (remade g g f) ≡ weight f = omega (arith, e, sum_by_more f fs, sum_by_more (remade g g f) (map (remade g g) fs), insn_falls f, all_fall fs) in
      let tail : sum_by weight (map (remade g g) fs) ≡ sum_by weight fs = omega (arith, e, sum_by_more f fs, sum_by_more (remade g g f) (map (remade g g) fs), insn_falls f, all_fall fs) in
      ap₂ (λ y ys. y ∷ ys) (weight_fixed f head) (all_fixed fs tail)

same_body : (b d : Body) → d.registers ≡ b.registers → d.ins ≡ b.ins → d.insns ≡ b.insns → d.regions ≡ b.regions → d ≡ b
same_body b d r i f h = λ k. record { registers = r k; ins = i k; insns = f k; regions = h k }

pub lowers_by_number : LowersByNumber
lowers_by_number w b d c = record {
  registers = c.registers;
  numbers = subst (λ l. sum_by (λ f. sum (numbers_of f)) l ≤ number_sum b) (sym c.insns) (all_fall c.new c.falls b.insns);
  same = λ r e. same_body b d r c.ins (c.insns ∙ all_fixed c.new c.falls b.insns (ap (λ l. sum_by (λ f. sum (numbers_of f)) l) (sym c.insns) ∙ e)) c.regions;
}

-- ---- programs

-- no more by a measure, and the same where it is as much
pub record NoMore {A : Type 0} (g : A → ℕ) (x y : A) : Type 0 where
  pub most : g y ≤ g x
  pub same : g y ≡ g x → y ≡ x

both_same : (a b c d : ℕ) → a ≤ b → c ≤ d → a + c ≡ b + d → (a ≡ b) × (c ≡ d)
both_same a b c d l m e = (omega (arith, l, m, e), omega (arith, l, m, e))

itself : {A : Type 0} (g : A → ℕ) (x y : A) → y ≡ x → NoMore g x y
itself g x y e = subst (λ z. NoMore g x z) (sym e) (record { most = omega arith; same = λ k. refl })

module _ {A : Type 0} (R : A → A → Type 0) (g : A → ℕ) (one : (x y : A) → R x y → NoMore g x y) where
  added : (x y : A) (xs ys : List A) → NoMore g x y → NoMore (λ l. sum_by g l) xs ys → NoMore (λ l. sum_by g l) (x ∷ xs) (y ∷ ys)
  added x y xs ys h t =
      let l : g y ≤ g x = h.most in
      let m : sum_by g ys ≤ sum_by g xs = t.most in
      record {
        most = omega (arith, l, m, sum_by-cons g y ys, sum_by-cons g x xs);
        same = λ e.
            let k = both_same (g y) (g x) (sum_by g ys) (sum_by g xs) l m (sym (sum_by-cons g y ys) ∙ e ∙ sum_by-cons g x xs) in
            ap₂ (λ z zs. z ∷ zs) (h.same k.0) (t.same k.1);
      }

  sums : (xs ys : List A) → AreEach R xs ys → NoMore (λ l. sum_by g l) xs ys
  sums [] [] a = itself (λ l. sum_by g l) [] [] refl
  sums [] (y ∷ ys) a = absurd (let e : length (y ∷ ys) ≡ 0 = a.long in omega (arith, e))
  sums (x ∷ xs) [] a = absurd (let e : 0 ≡ length (x ∷ xs) = a.long in omega (arith, e))
  sums (x ∷ xs) (y ∷ ys) a =
      let u : (z : A) × (slice_get (y ∷ ys) 0 ≡ Some z) × R x z = a.each 0 x refl in
      let same : Some y ≡ Some u.0 = u.1 in
      let is : y ≡ u.0 = cc in
      added x y xs ys (one x y (subst (λ z. R x z) (sym is) u.2))
      (sums xs ys (record { long = (let e : suc (length ys) ≡ suc (length xs) = a.long in omega (arith, e)); each = λ k z h. a.each (suc k) z h }))

body_lower : (b d : Body) → IsLower b d → NoMore body_numbers (Some b) (Some d)
body_lower b d l =
    let r : d.registers ≤ b.registers = l.registers in
    let s : number_sum d ≤ number_sum b = l.numbers in
    record { most = omega (arith, r, s); same = λ e. let k = both_same d.registers b.registers (number_sum d) (number_sum b) r s e in ap Some (l.same k.0 k.1) }

code_lower : (w : List (List Bool)) (t : Bool) (a o : Option Body) → RewritesBody w t a o → NoMore body_numbers a o
code_lower w true (Some b) (Some d) r = body_lower b d (lowers_by_number w b d r)
code_lower w true (Some b) None r = absurd r
code_lower w true None (Some d) r = itself body_numbers None (Some d) r
code_lower w true None None r = itself body_numbers None None r
code_lower w false (Some b) (Some d) r = itself body_numbers (Some b) (Some d) r
code_lower w false (Some b) None r = itself body_numbers (Some b) None r
code_lower w false None (Some d) r = itself body_numbers None (Some d) r
code_lower w false None None r = itself body_numbers None None r

module _ (w : List (List Bool)) (admitted : List Bool) where
  method_lower : (m n : Method) → IsCompactedMethod w admitted m n → NoMore method_numbers m n
  method_lower m n i = let h = code_lower w (is_on admitted m.name) m.body n.body i.body in
      record { most = h.most; same = λ e. i.rest ∙ ap (λ o. record m { body = o }) (h.same e) }

  class_lower : (c d : Class) → IsCompactedClass w admitted c d → NoMore class_numbers c d
  class_lower c d i = let h = sums (IsCompactedMethod w admitted) method_numbers method_lower c.methods d.methods i.methods in
      record { most = h.most; same = λ e. i.rest ∙ ap (λ ms. record c { methods = ms }) (h.same e) }

module _ (admitted : List Bool) (p q : Program) (i : IsCompactedProgram admitted p q) where
  pub program_lower : NoMore numbers_in p q
  program_lower = let h = sums (IsCompactedClass (widths_of p) admitted) class_numbers (class_lower (widths_of p) admitted) p.classes q.classes i.classes in
      record { most = h.most; same = λ e. i.rest ∙ ap (λ cs. record p { classes = cs }) (h.same e) }

  -- what changes a class lowers the sum
  pub program_falls : (q.classes ≡ p.classes → ⊥) → numbers_in q < numbers_in p
  program_falls differs = by (cases_lt (numbers_in q) (numbers_in p))
    where
      by : (numbers_in q < numbers_in p) ⊎ (numbers_in p ≤ numbers_in q) → numbers_in q < numbers_in p
      by (inl lt) = lt
      by (inr le) = absurd (differs (ap (λ x. x.classes) (program_lower.same (let m = program_lower.most in omega (arith, m, le)))))
