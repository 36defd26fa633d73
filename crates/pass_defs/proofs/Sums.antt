-- A solution knows the sum of two numbers, so the addition is foldable; and it holds of a state.
use Rattle.std.proofs.Common.{◌≡◌, ℕ, zero, suc, Bool, true, false, true≢false, List, [], ◌∷◌, Option, Some, None, refl, sym, subst, arith}
use Rattle.std.specs.Prelude.{if◌then◌else◌, pos, is_some, Contains}
use Rattle.std.specs.Option.{option_and_then}
use Rattle.insn_set.specs.declared.ops.LiteralOp.TheVariants as literal
use Rattle.dalvik_defs.specs.Names.{text_eq, same_name}
use Rattle.dalvik_defs.specs.Find.{method_in}
use Rattle.dalvik_defs.specs.Face.{bodies_of}
use Rattle.dalvik_defs.specs.Examples.{a_type, to_int, m_key, keeps_m, with_m}
use Rattle.dalvik_defs.specs.declared.names.MethodKey.{MethodKey}
use Rattle.dalvik_defs.specs.declared.forms.Form.{Form}
use Rattle.dalvik_defs.specs.declared.forms.Form.TheVariants as form
use Rattle.dalvik_defs.specs.declared.program.NamedBody.{NamedBody}
use Rattle.dalvik_defs.specs.declared.program.NamedMethod.{NamedMethod}
use Rattle.dalvik_defs.specs.declared.program.NamedClass.{NamedClass}
use Rattle.pass_defs.specs.Bare.{may_throw}
use Rattle.pass_defs.specs.Walks.{form_at, caught}
use Rattle.pass_defs.specs.Flat.{Flat, KnownWord, Any, FlatBelow}
use Rattle.pass_defs.specs.Facts.{Arrives, nexts, after, form_before}
use Rattle.pass_defs.specs.Constants.{flat, IsSolution, IsAlwaysReached, Itself}
use Rattle.pass_defs.specs.Foldable.{IsFoldable, ToNumber}
use Rattle.pass_defs.specs.PassExamples.{adds, adds_three, m_of, knows_sum, adds_registers, first_two}
use Rattle.pass_defs.proofs.Anything.{below_any, any_at}
use Rattle.pass_defs.proofs.Spins.{some_one, none_some}

pub none_in : {B : Type 0} (m : ℕ) → Contains [] m → B
none_in m (k, low, e) = let f : ⊥ = omega (arith, low) in absurd f

pub only_in : (m n : ℕ) → Contains (n ∷ []) m → n ≡ m
only_in m n (zero, low, e) = e
only_in m n (suc k, low, e) = let f : ⊥ = omega (arith, low) in absurd f

-- ---- the one body

abbrev the_class : NamedClass
the_class = with_m to_int adds_three

abbrev the_method : NamedMethod
the_method = m_of to_int adds_three

only_body : (k : MethodKey) (b : NamedBody) → bodies_of adds k ≡ Some b → adds_three ≡ b
only_body k b = by (text_eq a_type k.class)
  where
    in_class : (y : Bool) → option_and_then (λ m. m.body) (if y then Some the_method else None) ≡ Some b → adds_three ≡ b
    in_class true e = some_one adds_three b e
    in_class false e = none_some b e

    by : (x : Bool) → option_and_then (λ m. m.body) (elim (if x then Some the_class else None) as (λ _. Option NamedMethod) [ Some c ↦ method_in c k.name k.signature | None ↦ None ]) ≡ Some b → adds_three ≡ b
    by true e = in_class (same_name the_method.name the_method.signature k.name k.signature) e
    by false e = none_some b e

-- ---- the table is closed

onward : (n q : ℕ) (f : Form) (a : ℕ → Flat) (k : MethodKey) → form_at adds_three n ≡ Some f → adds_registers n ≡ Some a → Contains (nexts flat f n a) q
    → Arrives flat (after flat adds knows_sum k.class (form_before adds_three n) f a) (adds_registers q)
onward zero q f a k h e i = at f (some_one _ f h) q i
  where
    at : (f : Form) → form.Const 0 (pos 2) ≡ f → (q : ℕ) → Contains (nexts flat f 0 a) q → Arrives flat (after flat adds knows_sum k.class None f a) (adds_registers q)
    at f h q i = subst (λ f. Contains (nexts flat f 0 a) q → Arrives flat (after flat adds knows_sum k.class None f a) (adds_registers q)) h (λ i. to q (only_in q 1 i)) i
      where
        here : (r : ℕ) → FlatBelow (after flat adds knows_sum k.class None (form.Const 0 (pos 2)) a r) (first_two (KnownWord 2) Any r)
        here zero = refl
        here (suc zero) = below_any _
        here (suc (suc r)) = below_any _

        to : (q : ℕ) → 1 ≡ q → Arrives flat (after flat adds knows_sum k.class None (form.Const 0 (pos 2)) a) (adds_registers q)
        to q e = subst (λ q. Arrives flat (after flat adds knows_sum k.class None (form.Const 0 (pos 2)) a) (adds_registers q)) e here
onward (suc zero) q f a k h e i =
    subst (λ f. Contains (nexts flat f 1 a) q → Arrives flat (after flat adds knows_sum k.class (form_before adds_three 1) f a) (adds_registers q)) (some_one _ f h) (λ i. to q (only_in q 2 i)) i
  where
    sum : Form
    sum = form.Literal literal.AddInt 1 0 (pos 3)

    from : (a : ℕ → Flat) → first_two (KnownWord 2) Any ≡ a → (r : ℕ) → FlatBelow (after flat adds knows_sum k.class (form_before adds_three 1) sum a r) (first_two (KnownWord 2) (KnownWord 5) r)
    from a e = subst (λ a. (r : ℕ) → FlatBelow (after flat adds knows_sum k.class (form_before adds_three 1) sum a r) (first_two (KnownWord 2) (KnownWord 5) r)) e here
      where
        here : (r : ℕ) → FlatBelow (after flat adds knows_sum k.class (form_before adds_three 1) sum (first_two (KnownWord 2) Any) r) (first_two (KnownWord 2) (KnownWord 5) r)
        here zero = refl
        here (suc zero) = refl
        here (suc (suc r)) = below_any _

    to : (q : ℕ) → 2 ≡ q → Arrives flat (after flat adds knows_sum k.class (form_before adds_three 1) sum a) (adds_registers q)
    to q d = subst (λ q. Arrives flat (after flat adds knows_sum k.class (form_before adds_three 1) sum a) (adds_registers q)) d (from a (some_one _ a e))
onward (suc (suc zero)) q f a k h e i = none_in q (subst (λ f. Contains (nexts flat f 2 a) q) (sym (some_one _ f h)) i)
onward (suc (suc (suc n))) q f a k h e i = none_some a e

caught_none : {B : Type 0} (n q : ℕ) (f : Form) → Contains (caught adds_three f n) q → B
caught_none {B = B} n q f = by (may_throw f)
  where
    by : (x : Bool) → Contains (elim x as (λ _. List ℕ) [ true ↦ [] | false ↦ [] ]) q → B
    by true i = none_in q i
    by false i = none_in q i

pub sum_closed : IsSolution adds (keeps_m to_int) knows_sum
sum_closed = record {
  entries = record {
    statics = λ k h. record { entered = refl; parameters = λ i. tt };
    methods = λ k h. record { entered = refl; parameters = λ i. tt };
    initialisers = λ u v i h g e. refl;
  };
  begins = λ k b a h e. record { arguments = λ i l. any_at a _ e; others = λ r l. any_at a r e };
  fields = record { firsts = λ k f d. below_any _; opened = λ k f d e. tt; puts = λ m n from item k f at h d. below_any _ };
  flows = record {
    onward = λ k n q at i.
        let same : adds_three ≡ at.body = only_body k at.body at.has_body in
        subst (λ b. Arrives flat (after flat adds knows_sum k.class (form_before b n) at.form at.registers) (adds_registers q)) same
        (onward n q at.form at.registers k (subst (λ b. form_at b n ≡ Some at.form) (sym same) at.has_form) at.reached i);
    thrown = λ k n q at i. caught_none n q at.form (subst (λ b. Contains (caught b at.form n) q) (sym (only_body k at.body at.has_body)) i);
  };
  calls = record { passes = λ k m n i r kind args g at e h s. below_any _; enters = λ k m n kind args g at e h c. refl };
  answers = record { returns = λ k n from s at e. below_any _; natives = λ k m d e. tt };
}

-- ---- the addition is foldable

arrives_some : (x : ℕ → Flat) (o : Option (ℕ → Flat)) → Arrives flat x o → is_some o ≡ true
arrives_some x (Some y) h = refl
arrives_some x None h = absurd h

entered_there : (o : Option (ℕ → Flat)) → is_some o ≡ true → (a : ℕ → Flat) × (o ≡ Some a)
entered_there (Some a) e = (a, refl)
entered_there None e = absurd (true≢false (sym e))

reached : IsAlwaysReached adds (keeps_m to_int) (m_key to_int) 1
reached t h =
    let open_m = h.entries.statics (m_key to_int) (record { method = the_method; defined = refl; static = refl; coded = refl; plain = refl; kept = refl }) in
    let first = entered_there (t.registers (m_key to_int) 0) open_m.entered in
    arrives_some _ (t.registers (m_key to_int) 1)
    (h.flows.onward (m_key to_int) 0 1 (record { body = adds_three; form = form.Const 0 (pos 2); registers = first.0; has_body = refl; has_form = refl; reached = first.1 }) (0, omega arith, refl))

pub sum_foldable : IsFoldable adds (keeps_m to_int) (m_key to_int) 1
sum_foldable = record {
  body = adds_three;
  form = form.Literal literal.AddInt 1 0 (pos 3);
  has_body = refl;
  has_form = refl;
  reached = reached;
  folds = ToNumber (record {
    pure = Itself refl;
    to = 1;
    result = refl;
    table = knows_sum;
    closed = sum_closed;
    registers = first_two (KnownWord 2) Any;
    there = refl;
    constant = form.Const 1 (pos 5);
    known = refl;
    same = λ r. refl;
    encodable = refl;
    short = omega arith;
  });
}
