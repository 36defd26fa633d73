-- A call of an interface's method on an object of a known class is bindable, where the caller may reach what it finds.
use Rattle.std.proofs.Common.{◌≡◌, zero, suc, Bool, true, false, true≢false, List, [], ◌∷◌, length, Option, Some, None, refl, sym, ◌∙◌, subst, arith}
use Rattle.std.specs.Prelude.{if◌then◌else◌, Contains}
use Rattle.std.specs.List.{list_any, list_all}
use Rattle.std.specs.Option.{option_map}
use Rattle.std.specs.Cmp.Lexicographic.{bytes_decides}
use Rattle.insn_set.specs.declared.ops.InvokeKind.TheVariants as call
use Rattle.dalvik_defs.specs.Names.{Text, text_eq}
use Rattle.dalvik_defs.specs.Under.{is_own_under}
use Rattle.dalvik_defs.specs.Find.{Finds}
use Rattle.dalvik_defs.specs.Examples.{a_type, b_type, i_type, r_key}
use Rattle.dalvik_defs.specs.declared.forms.Form.{Form}
use Rattle.dalvik_defs.specs.declared.forms.Form.TheVariants as form
use Rattle.dalvik_defs.specs.declared.program.NamedBody.{NamedBody}
use Rattle.dalvik_defs.specs.declared.program.NamedMethod.{NamedMethod}
use Rattle.dalvik_defs.specs.declared.program.NamedClass.{NamedClass}
use Rattle.dalvik_defs.specs.declared.program.NamedProgram.{NamedProgram}
use Rattle.pass_defs.specs.Kinds.{Kind, Undefined, Class, Reference, kind_eq, is_initialised, is_below, class_or_reference, line_of}
use Rattle.pass_defs.specs.Registers.{Kinds, all_below, kinds_below, state_below, tables_below}
use Rattle.pass_defs.specs.Demands.{demands, meets, is_allowed}
use Rattle.pass_defs.specs.Typed.{Table, state_at, each, at_state, arrives, after, edges}
use Rattle.pass_defs.specs.Bindable.{IsBindable, finds_within}
use Rattle.pass_defs.specs.PassExamples.{rebinds, rebinds_caller, rebinds_method, rebinds_holder, calls_interface, found_in, app_type, lib_type}
use Rattle.pass_defs.proofs.Writes.{left_true, right_true, both_true}

abbrev p : NamedProgram
p = rebinds a_type b_type 1

abbrev c : NamedClass
c = rebinds_caller a_type b_type

abbrev m : NamedMethod
m = rebinds_method b_type

abbrev holder : NamedClass
holder = rebinds_holder b_type 1

abbrev of_b : Kinds
of_b = record { registers = Class b_type ∷ []; result = Undefined; caught = Undefined; receiver = Undefined }

abbrev table : Table
table = Some of_b ∷ Some of_b ∷ []

same_text : (s t : Text) → text_eq s t ≡ true → s ≡ t
same_text s t e = (bytes_decides s t).0 e

-- ---- the least typing

undefined_only : (k : Kind) → is_below p Undefined k ≡ true → Undefined ≡ k
undefined_only Undefined e = refl
undefined_only k e = absurd (true≢false (sym e))

above_reference : (k : Kind) → is_below p Reference k ≡ true → is_below p (Class b_type) k ≡ true
above_reference Undefined e = refl
above_reference Reference e = refl
above_reference k e = absurd (true≢false (sym e))

-- an initialised kind above that of LB; is it, or any reference
above_class : (k l : Kind) → is_initialised k ≡ true → is_below p (Class b_type) k ≡ true → is_below p k l ≡ true → is_below p (Class b_type) l ≡ true
above_class Undefined l i e f = absurd (true≢false (sym i))
above_class Reference l i e f = above_reference l f
above_class (Class t) l i e f = by (text_eq b_type t) (list_any (λ d. text_eq b_type d.name) (line_of p t)) e refl
  where
    by : (g y : Bool) → kind_eq (if g then Class b_type else class_or_reference (option_map (λ d. d.name) (if y then Some holder else None))) (Class t) ≡ true → text_eq b_type t ≡ g → is_below p (Class b_type) l ≡ true
    by true y e g = subst (λ t. is_below p (Class t) l ≡ true) (sym (same_text b_type t g)) f
    by false true e g = absurd (true≢false (sym e ∙ g))
    by false false e g = absurd (true≢false (sym e))
above_class k l i e f = absurd (true≢false (sym e))

abbrev calls : Form
calls = form.Invoke call.Interface (r_key i_type) (0 ∷ [])

above_registers : (ks ls : List Kind) → all_below p (Class b_type ∷ []) ks ≡ true → list_all (λ d. meets p c ks d.0 d.1) (demands p c m ks calls) ≡ true → all_below p ks ls ≡ true
    → all_below p (Class b_type ∷ []) ls ≡ true
above_registers [] ls e i f = absurd (true≢false (sym e))
above_registers (k ∷ j ∷ ks) ls e i f = absurd (true≢false (sym (right_true (is_below p (Class b_type) k) false e)))
above_registers (k ∷ []) [] e i f = absurd (true≢false (sym f))
above_registers (k ∷ []) (l ∷ j ∷ ls) e i f = absurd (true≢false (sym (right_true (is_below p k l) false f)))
above_registers (k ∷ []) (l ∷ []) e i f =
    both_true _ true (above_class k l (left_true (is_initialised k) true i) (left_true (is_below p (Class b_type) k) true e) (left_true (is_below p k l) true f)) refl

above_undefined : (k l : Kind) → is_below p Undefined k ≡ true → is_below p k l ≡ true → is_below p Undefined l ≡ true
above_undefined k l e f = subst (λ k. is_below p k l ≡ true) (sym (undefined_only k e)) f

above_state : (a : Kinds) (s : Option Kinds) → kinds_below p of_b a ≡ true → is_allowed p c m a calls ≡ true → state_below p (Some (after p c 0 calls a)) s ≡ true → state_below p (Some of_b) s ≡ true
above_state a None e i f = absurd (true≢false (sym f))
above_state a (Some b) e i f =
    let e1 = left_true _ _ e in
    let e2 = left_true _ _ e1 in
    let f1 = left_true _ _ f in
    let f2 = left_true _ _ f1 in
    both_true _ _
    (both_true _ _
    (both_true _ _ (above_registers a.registers b.registers (left_true _ _ e2) i (left_true _ _ f2)) (right_true _ _ f2))
    (above_undefined a.caught b.caught (right_true _ _ e1) (right_true _ _ f1)))
    (above_undefined a.receiver b.receiver (right_true _ _ e) (right_true _ _ f))

abbrev body : NamedBody
body = calls_interface

least : (u : Table) → length u ≡ 2 → state_below p (Some of_b) (state_at u 0) ≡ true → each 2 (at_state body u (λ f a. is_allowed p c m a f)) ≡ true
    → each 2 (λ n. at_state body u (λ f a. list_all (arrives p u) (edges p c body n f a)) n) ≡ true → tables_below p table u ≡ true
least [] l e r g = let f : ⊥ = omega (arith, l) in absurd f
least (s ∷ []) l e r g = let f : ⊥ = omega (arith, l) in absurd f
least (s ∷ t ∷ v ∷ u) l e r g = let f : ⊥ = omega (arith, l) in absurd f
least (None ∷ t ∷ []) l e r g = absurd (true≢false (sym e))
least (Some a ∷ t ∷ []) l e r g =
    both_true _ _ e (both_true _ true (above_state a t e (left_true _ _ r) (left_true _ true (left_true _ _ g))) refl)

pub is_bindable : IsBindable p c m 0 (found_in b_type 1)
is_bindable = record {
  body = body;
  coded = refl;
  kind = call.Interface;
  key = r_key i_type;
  receiver = 0;
  args = [];
  has_form = refl;
  virtual = refl;
  table = table;
  least = record {
    typing = record { long = refl; entry = refl; reads = refl; right = refl; edges = refl };
    least = λ u h. least u h.long h.entry h.reads h.edges;
  };
  kinds = of_b;
  there = refl;
  class = b_type;
  typed = refl;
  finds = finds_all;
  has_code = refl;
  other = refl;
  rebinds = refl;
  access = refl;
}
  where
    finds_all : (u : NamedClass) → Contains p.classes u → is_own_under p u.name b_type ≡ true → finds_within p u.name (r_key i_type) ≡ Finds (found_in b_type 1)
    finds_all u (zero, low, e) = subst (λ u. is_own_under p u.name b_type ≡ true → finds_within p u.name (r_key i_type) ≡ Finds (found_in b_type 1)) e (λ h. absurd (true≢false (sym h)))
    finds_all u (suc zero, low, e) = subst (λ u. is_own_under p u.name b_type ≡ true → finds_within p u.name (r_key i_type) ≡ Finds (found_in b_type 1)) e (λ h. absurd (true≢false (sym h)))
    finds_all u (suc (suc zero), low, e) = subst (λ u. is_own_under p u.name b_type ≡ true → finds_within p u.name (r_key i_type) ≡ Finds (found_in b_type 1)) e (λ h. refl)
    finds_all u (suc (suc (suc k)), low, e) = let f : ⊥ = omega (arith, low) in absurd f

-- the same call in another package, on a class that isn't public
pub is_out_of_reach : IsBindable (rebinds app_type lib_type 0) (rebinds_caller app_type lib_type) (rebinds_method lib_type) 0 (found_in lib_type 1) → ⊥
is_out_of_reach h = true≢false (sym h.access)
