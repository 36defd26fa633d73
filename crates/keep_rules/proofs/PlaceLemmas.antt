-- The class of a type by its place and by its name.
use Rattle.std.proofs.Common.{◌≡◌, ℕ, ◌<◌, Bool, true, false, length, map, Option, Some, None, refl, sym, ap, subst, ◌∙◌}
use Rattle.std.specs.Prelude.{◌&&◌, not, slice_get, option_and_then, Result, IfOk}
use Rattle.std.specs.Option.{option_map}
use Rattle.std.proofs.lemmas.Result.{IfOk-weaker}
use Rattle.program_model.specs.declared.program.Class.{Class}
use Rattle.program_model.specs.declared.program.Program.{Program}
use Rattle.program_model.specs.Lookups.{class_place}
use Rattle.class_defs.proofs.WellFormed.{Sound}
use Rattle.name_bridge.specs.Named.{class_at}
use Rattle.name_bridge.proofs.Classes.{class_by_number}
use Rattle.name_bridge.proofs.Above.{defined}
use Rattle.dalvik_defs.specs.Naming.{type_at, mark_of, named_class, named}
use Rattle.dalvik_defs.specs.Under.{defines, class_named}
use Rattle.dalvik_defs.specs.declared.program.NamedClass.{NamedClass}
use Rattle.rule_text.specs.Tokens.{Word}
use Rattle.rule_text.specs.Rules.{AssumeRule}
use Rattle.rule_text.specs.Rules as meant
use Rattle.rule_text.specs.declared.pattern.NamePattern.{NamePattern}
use Rattle.rule_text.specs.Related.{AreBoth, IsPatternOf}
use Rattle.rule_defs.specs.Patterns.{class_name_fits, some_name_fits}
use Rattle.rule_defs.specs.Members.{has_mark}
use Rattle.keep_rules.specs.Below.{has_mark_there, mark_holds_there, is_asked}
use Rattle.keep_rules.specs.Silent.{is_silent_type}

abbrev is_there : Option NamedClass → Bool
is_there None = false
is_there (Some c) = true

there_is : (o : Option NamedClass) → elim o as (λ o. Bool) [ Some c ↦ true | None ↦ false ] ≡ is_there o
there_is None = refl
there_is (Some c) = refl

module _ (p : Program) (s : Sound p) (k : ℕ) (h : k < length p.types) where
  pub undefined : class_place p k ≡ None → defines (named p) (type_at p k) ≡ false
  undefined e = there_is (class_named (named p) (type_at p k)) ∙ ap is_there (class_by_number p s k h ∙ ap (option_and_then (class_at p)) e)

  pub defined_there : (place : ℕ) → class_place p k ≡ Some place → defines (named p) (type_at p k) ≡ true
  defined_there place e =
      let d = defined p k place e in
      there_is (class_named (named p) (type_at p k)) ∙ ap is_there (class_by_number p s k h ∙ ap (option_and_then (class_at p)) e ∙ ap (option_map (named_class p)) d.is)

  -- ---- annotations

  abbrev mark_in : Word → Option NamedClass → Bool
  mark_in w None = false
  mark_in w (Some c) = has_mark w c.marks

  mark_is : (w : Word) (o : Option NamedClass) → elim o as (λ o. Bool) [ Some c ↦ has_mark w c.marks | None ↦ false ] ≡ mark_in w o
  mark_is w None = refl
  mark_is w (Some c) = refl

  found : (o : Option Class) → o ≡ option_and_then (slice_get p.classes) (class_place p k) → class_named (named p) (type_at p k) ≡ option_map (named_class p) o
  found o e = class_by_number p s k h ∙ through (class_place p k) ∙ ap (option_map (named_class p)) (sym e)
    where
      through : (o : Option ℕ) → option_and_then (class_at p) o ≡ option_map (named_class p) (option_and_then (slice_get p.classes) o)
      through None = refl
      through (Some c) = refl

  pub mark_there : {E : Type 0} (w : Word) (c : Class) (r : Result Bool E) → Some c ≡ option_and_then (slice_get p.classes) (class_place p k) → IfOk r (λ b. b ≡ has_mark w (map (mark_of p) c.marks)) → IfOk r (λ b. b ≡ has_mark_there (named p) w (type_at p k))
  mark_there w c r e i =
      let same : has_mark w (map (mark_of p) c.marks) ≡ has_mark_there (named p) w (type_at p k) = sym (mark_is w (class_named (named p) (type_at p k)) ∙ ap (mark_in w) (found (Some c) e)) in
      IfOk-weaker r (λ b. b ≡ has_mark w (map (mark_of p) c.marks)) (λ b. b ≡ has_mark_there (named p) w (type_at p k)) (λ b j. j ∙ same) i

  pub mark_nowhere : (w : Word) → None ≡ option_and_then (slice_get p.classes) (class_place p k) → false ≡ has_mark_there (named p) w (type_at p k)
  mark_nowhere w e = sym (mark_is w (class_named (named p) (type_at p k)) ∙ ap (mark_in w) (found None e))

-- the annotation that is asked for
pub mark_unasked : (p : Program) (k : ℕ) (a : meant.Above) (r : Option NamePattern) → r ≡ None → AreBoth IsPatternOf r a.mark → true ≡ mark_holds_there (named p) a.mark (type_at p k)
mark_unasked p k a r e are = by a.mark (subst (λ x. AreBoth IsPatternOf x a.mark) e are)
  where
    by : (m : Option Word) → AreBoth IsPatternOf None m → true ≡ mark_holds_there (named p) m (type_at p k)
    by None are = refl
    by (Some w) are = absurd are

pub mark_asked : {E : Type 0} (p : Program) (k : ℕ) (a : meant.Above) (r : Option NamePattern) (q : NamePattern) (res : Result Bool E) → r ≡ Some q → AreBoth IsPatternOf r a.mark
    → ((w : Word) → IsPatternOf q w → IfOk res (λ b. b ≡ has_mark_there (named p) w (type_at p k))) → IfOk res (λ b. b ≡ mark_holds_there (named p) a.mark (type_at p k))
mark_asked p k a r q res e are h = by a.mark (subst (λ x. AreBoth IsPatternOf x a.mark) e are)
  where
    by : (m : Option Word) → AreBoth IsPatternOf (Some q) m → IfOk res (λ b. b ≡ mark_holds_there (named p) m (type_at p k))
    by None are = absurd are
    by (Some w) are = h w are

asked_is : (p : Program) (a : meant.Above) (k : ℕ) → is_asked p a k ≡ (class_name_fits a.name (type_at p k) && mark_holds_there (named p) a.mark (type_at p k))
asked_is p a k = ap (λ b. class_name_fits a.name (type_at p k) && b) (by a.mark)
  where
    by : (m : Option Word) → elim m as (λ m. Bool) [ Some name ↦ elim (class_named (named p) (type_at p k)) as (λ o. Bool) [ Some c ↦ has_mark name c.marks | None ↦ false ] | None ↦ true ] ≡ mark_holds_there (named p) m (type_at p k)
    by None = refl
    by (Some w) = refl

pub unasked : (p : Program) (a : meant.Above) (k : ℕ) (fits : Bool) → fits ≡ class_name_fits a.name (type_at p k) → fits ≡ false → false ≡ is_asked p a k
unasked p a k fits e f = sym (asked_is p a k ∙ ap (λ b. b && mark_holds_there (named p) a.mark (type_at p k)) (sym e ∙ f))

pub asked : {E : Type 0} (p : Program) (a : meant.Above) (k : ℕ) (fits : Bool) (r : Result Bool E) → fits ≡ class_name_fits a.name (type_at p k) → fits ≡ true → IfOk r (λ b. b ≡ mark_holds_there (named p) a.mark (type_at p k)) → IfOk r (λ b. b ≡ is_asked p a k)
asked p a k fits r e f h =
    let same : mark_holds_there (named p) a.mark (type_at p k) ≡ is_asked p a k = sym (asked_is p a k ∙ ap (λ b. b && mark_holds_there (named p) a.mark (type_at p k)) (sym e ∙ f)) in
    IfOk-weaker r (λ b. b ≡ mark_holds_there (named p) a.mark (type_at p k)) (λ b. b ≡ is_asked p a k) (λ b i. i ∙ same) h

-- ---- types that are silent

pub not_silent : (p : Program) (s : Sound p) (r : AssumeRule) (k place : ℕ) → k < length p.types → class_place p k ≡ Some place → false ≡ is_silent_type p r k
not_silent p s r k place h e = sym (ap (λ b. not b && some_name_fits r.names (type_at p k)) (defined_there p s k h place e))

pub silent_named : {E : Type 0} (p : Program) (s : Sound p) (r : AssumeRule) (k : ℕ) (res : Result Bool E) → k < length p.types → class_place p k ≡ None → IfOk res (λ b. b ≡ some_name_fits r.names (type_at p k)) → IfOk res (λ b. b ≡ is_silent_type p r k)
silent_named p s r k res h e i =
    let same : some_name_fits r.names (type_at p k) ≡ is_silent_type p r k = sym (ap (λ b. not b && some_name_fits r.names (type_at p k)) (undefined p s k h e)) in
    IfOk-weaker res (λ b. b ≡ some_name_fits r.names (type_at p k)) (λ b. b ≡ is_silent_type p r k) (λ b j. j ∙ same) i
