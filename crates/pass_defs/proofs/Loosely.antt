-- A method that doesn't need its receiver is loose.
use Rattle.std.proofs.Common.{◌≡◌, ℕ, zero, suc, Bool, true, false, true≢false, [], ◌∷◌, Option, Some, None, refl, sym, subst, inr, arith}
use Rattle.std.specs.Prelude.{◌||◌, if◌then◌else◌, codes}
use Rattle.std.specs.Option.{option_and_then}
use Rattle.dalvik_defs.specs.Names.{void, text_eq, same_name}
use Rattle.dalvik_defs.specs.Find.{method_in}
use Rattle.dalvik_defs.specs.Face.{bodies_of}
use Rattle.dalvik_defs.specs.Examples.{a_type, b_type, keeps_m, class, constructor}
use Rattle.dalvik_defs.specs.declared.names.MethodKey.{MethodKey}
use Rattle.dalvik_defs.specs.declared.forms.Form.{Form}
use Rattle.dalvik_defs.specs.declared.forms.Form.TheVariants as form
use Rattle.dalvik_defs.specs.declared.program.NamedBody.{NamedBody}
use Rattle.dalvik_defs.specs.declared.program.NamedMethod.{NamedMethod}
use Rattle.dalvik_defs.specs.declared.program.NamedClass.{NamedClass}
use Rattle.pass_defs.specs.Walks.{form_at}
use Rattle.pass_defs.specs.Numbered.{tables_of}
use Rattle.pass_defs.specs.Loose.{KnowsCalls, HasReceiver, concerns, is_plain_call, IsLoose, AreLoose}
use Rattle.pass_defs.specs.Examples.{calls_object, returns_only}
use Rattle.pass_defs.specs.PassExamples.{nothing_key, nothing_method, calls_hidden, m_of}
use Rattle.pass_defs.specs.LooseExamples.{needs_no_receiver, made_static, loose_program, is_q}
use Rattle.pass_defs.proofs.Spins.{some_one, none_some}

abbrev Anywhere : MethodKey → ℕ → ℕ → Type 0
Anywhere k n r = Unit {0}

-- ---- its calls

-- what is asked of the form at a position
abbrev Known : MethodKey → ℕ → Form → Type 0
Known caller n (form.Invoke kind called args) = concerns loose_program (nothing_key b_type) caller.class kind called ≡ true
    → (is_plain_call loose_program (nothing_key b_type) caller.class kind called ≡ true) × HasReceiver Anywhere caller n kind args
Known caller n f = Unit {0}

abbrev AllKnown : MethodKey → NamedBody → Type 0
AllKnown caller b = (n : ℕ) (f : Form) → form_at b n ≡ Some f → Known caller n f

in_m : (caller : MethodKey) → AllKnown caller calls_hidden
in_m caller zero f e = subst (λ f. Known caller 0 f) (some_one _ f e) tt
in_m caller (suc zero) f e = subst (λ f. Known caller 1 f) (some_one _ f e) (λ h. absurd (true≢false (sym h)))
in_m caller (suc (suc zero)) f e = subst (λ f. Known caller 2 f) (some_one _ f e) (λ h. (refl, tt))
in_m caller (suc (suc (suc zero))) f e = subst (λ f. Known caller 3 f) (some_one _ f e) tt
in_m caller (suc (suc (suc (suc n)))) f e = none_some f e

in_constructor : (caller : MethodKey) (b : NamedBody) → constructor.body ≡ Some b → AllKnown caller b
in_constructor caller b h = subst (λ b. AllKnown caller b) (some_one calls_object b h) by
  where
    by : AllKnown caller calls_object
    by zero f e = subst (λ f. Known caller 0 f) (some_one _ f e) (λ h. absurd (true≢false (sym h)))
    by (suc zero) f e = subst (λ f. Known caller 1 f) (some_one _ f e) tt
    by (suc (suc n)) f e = none_some f e

in_q : (caller : MethodKey) (b : NamedBody) → (nothing_method 1).body ≡ Some b → AllKnown caller b
in_q caller b h = subst (λ b. AllKnown caller b) (some_one returns_only b h) by
  where
    by : AllKnown caller returns_only
    by zero f e = subst (λ f. Known caller 0 f) (some_one _ f e) tt
    by (suc n) f e = none_some f e

-- ---- the bodies of the program

abbrev first_class : NamedClass
first_class = class a_type 1 [] [] (m_of void calls_hidden ∷ [])

abbrev second_class : NamedClass
second_class = class b_type 1 [] [] (constructor ∷ nothing_method 1 ∷ [])

everywhere : (caller : MethodKey) (b : NamedBody) → bodies_of loose_program caller ≡ Some b → AllKnown caller b
everywhere caller b = by (text_eq a_type caller.class) (text_eq b_type caller.class)
  where
    in_first : (x : Bool) → option_and_then (λ m. m.body) (if x then Some (m_of void calls_hidden) else None) ≡ Some b → AllKnown caller b
    in_first true e = subst (λ b. AllKnown caller b) (some_one calls_hidden b e) (in_m caller)
    in_first false e = none_some b e

    in_second : (x y : Bool) → option_and_then (λ m. m.body) (if x then Some constructor else if y then Some (nothing_method 1) else None) ≡ Some b → AllKnown caller b
    in_second true y e = in_constructor caller b e
    in_second false true e = in_q caller b e
    in_second false false e = none_some b e

    by : (x y : Bool) → option_and_then (λ m. m.body) (elim (if x then Some first_class else if y then Some second_class else None) as (λ _. Option NamedMethod) [ Some c ↦ method_in c caller.name caller.signature | None ↦ None ]) ≡ Some b → AllKnown caller b
    by true y e = in_first (same_name (codes "m") void caller.name caller.signature) e
    by false true e = in_second (same_name (codes "<init>") void caller.name caller.signature) (same_name (codes "q") void caller.name caller.signature) e
    by false false e = none_some b e

knows_calls : KnowsCalls loose_program (λ k. true) Anywhere (nothing_key b_type)
knows_calls = record { calls = λ caller b n kind called args h e c. everywhere caller b h n (form.Invoke kind called args) e c }

-- ---- the method

its_loose : IsLoose needs_no_receiver loose_program (keeps_m void) true (λ x. Unit {0}) (λ k. true) Anywhere (tables_of needs_no_receiver) (λ g. false) (nothing_key b_type)
its_loose = record {
  class = second_class;
  method = nothing_method 1;
  named = refl;
  defined = refl;
  coded = refl;
  receiver = refl;
  plain = refl;
  free = refl;
  in_class = refl;
  trivial = refl;
  alone = λ e. refl;
  calls = knows_calls;
  unnamed = refl;
  new = refl;
  room_for_shorty = inr (omega arith);
  room_for_proto = inr (omega arith);
  limits = record {
    program = made_static;
    staticised = record { names = refl; strings = refl; types = refl; signatures = refl; fields = refl; methods = refl };
    fitting = tt;
  };
  optimises = refl;
}

last_false : (a b c : Bool) → (a || (b || (c || false))) ≡ false → c ≡ false
last_false true b c e = absurd (true≢false e)
last_false false true c e = absurd (true≢false e)
last_false false false true e = absurd (true≢false e)
last_false false false false e = refl

pub q_is_loose : AreLoose needs_no_receiver loose_program (keeps_m void) true (λ x. Unit {0}) (λ k. true) Anywhere is_q
q_is_loose = record { judged = (its_loose, tt); others = λ k e. last_false _ _ _ e }
