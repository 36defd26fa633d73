-- Where nothing is counted, nothing is left to bind.
use Rattle.std.proofs.Common.{◌≡◌, ℕ, zero, suc, ◌+◌, Bool, true, false, true≢false, List, [], ◌∷◌, ◌++◌, length, Option, Some, None, refl, sym, ap, ◌∙◌, subst, arith, le-leb}
use Rattle.std.specs.Prelude.{sum_by, slice_get, slice_index_or, if◌then◌else◌}
use Rattle.std.specs.Option.{option_or}
use Rattle.std.proofs.lemmas.List.Sums.{sum_by-cons}
use Rattle.lemmas.proofs.Lists.{any_at, got_short}
use Rattle.lemmas.proofs.Options.{some_same}
use Rattle.insn_set.specs.declared.form.Insn.{Insn}
use Rattle.program_model.specs.Cells.{capped}
use Rattle.program_model.specs.declared.body.Body.{Body}
use Rattle.program_model.specs.declared.pass.Changed.{Changed}
use Rattle.program_model.specs.declared.program.Class.{Class}
use Rattle.program_model.specs.declared.program.Method.{Method}
use Rattle.program_model.specs.declared.program.MethodAt.{MethodAt}
use Rattle.program_model.specs.declared.program.Program.{Program}
use Rattle.program_model.specs.ProgramRules.{is_well_formed}
use Rattle.hierarchy.specs.Shapes.{IsResolved}
use Rattle.hierarchy.specs.declared.build.Hierarchy.{Hierarchy}
use Rattle.facts.specs.declared.facts.Facts.{Facts}
use Rattle.verify.specs.Typings.{Table, IsShort}
use Rattle.rewrite_pass.specs.declared.edit.Edit.{Edit}
use Rattle.rewrite_pass.specs.Plans.{HasEdits, class_edits, all_edits, word}
use Rattle.receivers.specs.Receiving.{is_straight}
use Rattle.devirt.specs.declared.binding.Bound.{Bound}
use Rattle.devirt.specs.declared.binding.Call.{Call}
use Rattle.devirt.specs.Binding.{bound, bound_named, by_class, by_classes, by_kind}
use Rattle.devirt.specs.Left.{IsBindable, NoneLeftAt, NoneLeft}
use Rattle.devirt.specs.Rebound.{AreRebindings, IsReboundBy, call_of, called, classes_at, edit_at, edits_from, edits_of, is_any_open, is_numbered, is_open, rebound_at, rebound_call, typed_edits}
use Rattle.devirt.proofs.Bindable.{bound_class, call_open}

-- ---- plans that ask for nothing

none_long : {A : Type 0} (xs : List A) → length xs ≡ 0 → xs ≡ []
none_long [] e = refl
none_long (x ∷ xs) e = absurd (omega (arith, e))

module _ {E : Type 0} (cost : List E → ℕ) where
  none_each : (plan : List (List E)) → sum_by cost plan ≡ 0 → cost [] ≡ 0 → (k : ℕ) → cost (slice_index_or plan k []) ≡ 0
  none_each [] e z k = z
  none_each (es ∷ plan) e z zero = let a : sum_by cost (es ∷ plan) ≡ cost es + sum_by cost plan = sum_by-cons cost es plan in omega (arith, e, a)
  none_each (es ∷ plan) e z (suc k) = let a : sum_by cost (es ∷ plan) ≡ cost es + sum_by cost plan = sum_by-cons cost es plan in none_each plan (omega (arith, e, a)) z k

none_at : (plan : List (List (List Edit))) → all_edits plan ≡ 0 → (k j : ℕ) → slice_index_or (slice_index_or plan k []) j [] ≡ []
none_at plan e k j = none_long (slice_index_or (slice_index_or plan k []) j []) (none_each length (slice_index_or plan k []) (none_each class_edits plan e refl k) refl j)

none_counted : (n : ℕ) → capped n ≡ 0 → n ≡ 0
none_counted n e = omega (arith, e)

-- ---- bodies of which nothing is written

module _ (p : Program) (facts : Facts) (class method : ℕ) (x : Table) where
  no_edit : (n : ℕ) (o : Option Insn) (es : List Edit) → edit_at n o ++ es ≡ [] → (o ≡ None) × (es ≡ [])
  no_edit n None es e = (refl, e)
  no_edit n (Some g) es e = absurd (cc)

  none_from : (is : List Insn) (n : ℕ) → edits_from p facts class method x n is ≡ [] → (k : ℕ) (i : Insn) → slice_get is k ≡ Some i → rebound_at p facts class method x (n + k) i ≡ None
  none_from [] n e k i there = cc
  none_from (j ∷ is) n e zero i there =
      let same : j ≡ i = some_same j i there in
      ap (λ m. rebound_at p facts class method x m i) (plus_none n) ∙ subst (λ y. rebound_at p facts class method x n y ≡ None) same (no_edit n (rebound_at p facts class method x n j) (edits_from p facts class method x (n + 1) is) e).0
    where
      plus_none : (n : ℕ) → n + 0 ≡ n
      plus_none n = omega arith
  none_from (j ∷ is) n e (suc k) i there =
      ap (λ m. rebound_at p facts class method x m i) (plus_one n k) ∙ none_from is (n + 1) (no_edit n (rebound_at p facts class method x n j) (edits_from p facts class method x (n + 1) is) e).1 k i there
    where
      plus_one : (n k : ℕ) → n + suc k ≡ n + 1 + k
      plus_one n k = omega arith

module _ (p : Program) (h : Hierarchy) (facts : Facts) (formed : is_well_formed p ≡ true) (resolved : IsResolved p h) (straight : is_straight p ≡ true) where
  -- a bindable call is bound to something
  some_called : (o : Option Bound) (args : List ℕ) → called o args ≡ None → o ≡ None
  some_called None args e = refl
  some_called (Some b) args e = absurd (cc)

  second_none : (a b : Option Bound) → option_or a b ≡ None → b ≡ None
  second_none None b e = e
  second_none (Some y) b e = absurd (cc)

  is_bound : (class method : ℕ) (x : Table) (n : ℕ) (i : Insn) (y : IsBindable p class x n i) → rebound_at p facts class method x n i ≡ None → ⊥
  is_bound class method x n i y e =
      let c : Call = call_of p facts class method x y.kind y.method n y.on in
      let called_none : called (bound p c (classes_at facts method n y.on)) (y.on ∷ y.rest) ≡ None =
      sym (ap (rebound_at p facts class method x n) y.form ∙ ap (λ b. if b then rebound_call p facts class method x n y.kind y.method (y.on ∷ y.rest) else None) y.virtual) ∙ e in
      let none : bound p c (classes_at facts method n y.on) ≡ None = some_called (bound p c (classes_at facts method n y.on)) (y.on ∷ y.rest) called_none in
      let named : option_or (by_classes p c y.named (classes_at facts method n y.on)) (by_kind p c y.named c.receiver) ≡ None = sym (ap (bound_named p c (classes_at facts method n y.on)) y.is_named) ∙ none in
      let by : by_kind p c y.named c.receiver ≡ None = second_none (by_classes p c y.named (classes_at facts method n y.on)) (by_kind p c y.named c.receiver) named in
      let at : by_class p c y.named y.receiver ≡ None = sym (ap (by_kind p c y.named) y.typed) ∙ by in
      clashing (sym at ∙ bound_class p formed resolved.of.once resolved.of.ranked straight class x n i y)
    where
      clashing : {b : Bound} → None ≡ Some b → ⊥
      clashing e = cc

  none_of : (at : MethodAt) (m : Method) (b : Body) (es : List Edit) → es ≡ [] → IsShort b → AreRebindings p h facts at m b es → NoneLeftAt p h facts at m b
  none_of at m b es empty short a = record {
    table = a.table;
    judged = a.judged;
    none = none;
    unbindable = λ x is n i there y. free x is n i there y (call_open p formed resolved.of.once resolved.of.ranked straight at.class x n i y);
  }
    where
      none : edits_of p facts at.class m.name b a.table ≡ []
      none = sym a.are ∙ empty

      numbered : is_numbered b ≡ true
      numbered = le-leb (length b.insns) 4294967295 short.insns

      free : (x : Table) → (is_any_open p b ≡ true → a.table ≡ Some x) → (n : ℕ) (i : Insn) → slice_get b.insns n ≡ Some i → IsBindable p at.class x n i → is_open p i ≡ true → ⊥
      free x is n i there y opened =
          let any : is_any_open p b ≡ true = any_at (is_open p) b.insns n i there opened in
          let typed : edits_from p facts at.class m.name x 0 b.insns ≡ [] =
          sym (ap (λ t. if t then typed_edits p facts at.class m.name b a.table else []) any ∙ (ap (typed_edits p facts at.class m.name b) (is any)
          ∙ ap (λ t. if t then edits_from p facts at.class m.name x 0 b.insns else []) numbered)) ∙ none in
          is_bound at.class m.name x n i y (ap (λ k. rebound_at p facts at.class m.name x k i) (plus_zero n) ∙ none_from p facts at.class m.name x b.insns 0 typed n i there)
        where
          plus_zero : (n : ℕ) → n ≡ 0 + n
          plus_zero n = omega arith

  module _ (admitted : List Bool) (shorts : (at : ℕ) (c : Class) (k : ℕ) (m : Method) (b : Body) → slice_get p.classes at ≡ Some c → slice_get c.methods k ≡ Some m → m.body ≡ Some b → IsShort b) where
    coded : (at : MethodAt) (m : Method) (b : Body) (adm : Bool) (o : Option Body) (es : List Edit) → adm ≡ true → o ≡ Some b → HasEdits (AreRebindings p h facts) adm at m o es → AreRebindings p h facts at m b es
    coded at m b true (Some d) es a e x = let same : d ≡ b = some_same d b e in subst (λ b. AreRebindings p h facts at m b es) same x
    coded at m b true None es a e x = absurd (cc)
    coded at m b false o es a e x = absurd (true≢false (sym a))

    pub none_left : (c : Changed) → IsReboundBy p h facts admitted c → c.count ≡ 0 → NoneLeft p h facts admitted
    none_left c r e k j d m b ec em adm has =
        let empty : all_edits r.plan ≡ 0 = none_counted (all_edits r.plan) (sym r.written.count ∙ e) in
        let x : AreRebindings p h facts (record { class = word k; place = word j }) m b (slice_index_or (slice_index_or r.plan k []) j []) =
        coded (record { class = word k; place = word j }) m b (slice_index_or admitted m.name false) m.body (slice_index_or (slice_index_or r.plan k []) j []) adm has
        ((r.asked.each k d (got_short p.classes k d ec) ec).each j m (got_short d.methods j m em) em) in
        none_of (record { class = word k; place = word j }) m b (slice_index_or (slice_index_or r.plan k []) j []) (none_at r.plan empty k j) (shorts k d j m b ec em has) x
