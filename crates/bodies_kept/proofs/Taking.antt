-- How many registers the arguments of a method take, by their kinds.
use Rattle.std.proofs.Common.{◌≡◌, ◌⊎◌, inl, inr, ℕ, ◌+◌, Bool, true, false, true≢false, List, [], ◌∷◌, ◌++◌, length, refl, sym, ap, ap₂, ◌∙◌, subst, arith, eqb-true}
use Rattle.std.specs.Prelude.{if◌then◌else◌, nat_eq}
use Rattle.std.proofs.lemmas.List.{length-append}
use Rattle.dalvik_defs.specs.Flags.{is_static}
use Rattle.dalvik_defs.specs.Names.{Text, is_wide, is_class_type}
use Rattle.dalvik_defs.specs.declared.program.NamedClass.{NamedClass}
use Rattle.dalvik_defs.specs.declared.program.NamedMethod.{NamedMethod}
use Rattle.dalvik_defs.specs.declared.program.NamedProgram.{NamedProgram}
use Rattle.pass_defs.specs.Kinds.{Kind, Low, kind_of}
use Rattle.pass_defs.specs.Typed.{halves, parameter_kinds, receiver_kind, argument_kinds, words_of}
use Rattle.form_laws.specs.Changes.{width_if}
use Rattle.form_laws.proofs.Widths.{Takes, type_takes}
use Rattle.run_laws.specs.Regular.{taken}

-- so many registers as the kind takes
halves_long : (k : Kind) (n : ℕ) → Takes k n → length (halves k) ≡ n
halves_long Low n (inl t) = absurd (true≢false t.0)
halves_long Low n (inr t) = sym t.1
halves_long k n (inl t) = sym t.1
halves_long k n (inr t) = subst (λ x. length (halves x) ≡ n) (sym t.0) (sym t.1)

module _ (p : NamedProgram) where
  kinds_long : (ts : List Text) → length (parameter_kinds p ts) ≡ words_of ts
  kinds_long [] = refl
  kinds_long (u ∷ us) = length-append (halves (kind_of p u)) (parameter_kinds p us) ∙ ap₂ (λ x y. x + y) (halves_long (kind_of p u) (width_if (is_wide u)) (type_takes p u (is_wide u) refl) ∙ words (is_wide u)) (kinds_long us)
    where
      words : (b : Bool) → width_if b ≡ (if b then 2 else 1)
      words true = refl
      words false = refl

  pub arguments_long : (c : NamedClass) (m : NamedMethod) → length (argument_kinds p c m) ≡ taken m
  arguments_long c m = by (is_static m.flags)
    where
      by : (b : Bool) → length (elim b as (λ b. List Kind) [ true ↦ parameter_kinds p m.signature.parameters | false ↦ receiver_kind c m ∷ parameter_kinds p m.signature.parameters ]) ≡ (if b then 0 else 1) + words_of m.signature.parameters
      by true = let i = kinds_long m.signature.parameters in omega (arith, i)
      by false = let i = kinds_long m.signature.parameters in omega (arith, i)

-- a class is of no wide type
pub class_narrow : (t : Text) → is_class_type t ≡ true → is_wide t ≡ false
class_narrow [] e = refl
class_narrow (u ∷ us) e = subst (λ x. is_wide (x ∷ us) ≡ false) (sym (eqb-true u 76 e)) refl
