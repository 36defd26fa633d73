-- No position that is left is wrong in what is left of a program, where it wasn't.
use Rattle.std.proofs.Common.{◌≡◌, ℕ, Bool, true, false, List, [], ◌∷◌, length, refl, sym, ap, ◌∙◌}
use Rattle.std.specs.Prelude.{◌&&◌, ◌||◌, not, nat_eq, Option, Some, None}
use Rattle.std.specs.Option.{option_map}
use Rattle.std.proofs.lemmas.Bool.{eqb-true}
use Rattle.insn_set.specs.declared.ops.Item.{Item}
use Rattle.insn_set.specs.declared.ops.InvokeKind.{InvokeKind}
use Rattle.insn_set.specs.declared.ops.InvokeKind.TheVariants as call
use Rattle.dalvik_defs.specs.Names.{Text, text_eq, object_type, is_array, is_class_type, is_void}
use Rattle.dalvik_defs.specs.Flags.{is_static, is_abstract, is_interface}
use Rattle.dalvik_defs.specs.Under.{class_named, defines}
use Rattle.dalvik_defs.specs.Find.{finds_field}
use Rattle.dalvik_defs.specs.declared.names.MethodKey.{MethodKey}
use Rattle.dalvik_defs.specs.declared.names.FieldKey.{FieldKey}
use Rattle.dalvik_defs.specs.declared.forms.Form.{Form}
use Rattle.dalvik_defs.specs.declared.forms.Form.TheVariants as form
use Rattle.dalvik_defs.specs.declared.program.NamedMethod.{NamedMethod}
use Rattle.dalvik_defs.specs.declared.program.NamedClass.{NamedClass}
use Rattle.dalvik_defs.specs.declared.program.NamedProgram.{NamedProgram}
use Rattle.dalvik_defs.proofs.Calm.{text_sound}
use Rattle.pass_defs.specs.Kinds.{Kind, Undefined, Zero, Word, Low, High, Null, Class, Array, Reference, Fresh, FreshThis, kind_eq, is_plain, kind_of}
use Rattle.pass_defs.specs.Registers.{Kinds}
use Rattle.pass_defs.specs.Demands.{is_constructor_name}
use Rattle.pass_defs.specs.Typed.{is_constructor, differ, wrong_field, begins_as_text_or_type, wrong_first, is_static_call, wrong_method, finds_static, wrong_super, passed_words, wrong_item, wrong_return, wrong_instance, ends_early, is_wrong}
use Rattle.pass_defs.specs.Live.{Family, KeepsAbove}
use Rattle.removal_law.specs.Left.{left_in, left_of, here, there}
use Rattle.removal_law.specs.Reach.{IsRegular, OkType}
use Rattle.removal_law.proofs.Lists.{clash, and_left, and_behind}
use Rattle.removal_law.proofs.Classes.{class_left}
use Rattle.removal_law.proofs.KindsLeft.{left_kind, kind_self, class_bare, type_kept, bare_kept, plain_left, kind_left}
use Rattle.removal_law.proofs.DemandsLeft.{FormLeft}
use Rattle.removal_law.proofs.WritesLeft.{left_kinds}

pub kind_sound : (a b : Kind) → kind_eq a b ≡ true → a ≡ b
kind_sound Undefined Undefined e = refl
kind_sound Zero Zero e = refl
kind_sound Word Word e = refl
kind_sound Low Low e = refl
kind_sound High High e = refl
kind_sound Null Null e = refl
kind_sound (Class t) (Class u) e = ap Class (text_sound t u e)
kind_sound (Array t) (Array u) e = ap Array (text_sound t u e)
kind_sound Reference Reference e = refl
kind_sound (Fresh t n) (Fresh u m) e = ap (λ x. Fresh x n) (text_sound t u (and_left (text_eq t u) (nat_eq n m) e)) ∙ ap (Fresh u) (eqb-true n m (and_behind (text_eq t u) (nat_eq n m) e))
kind_sound FreshThis FreshThis e = refl
kind_sound a b e = clash false e refl

not_either : (a b d : Bool) → (not b ≡ true → not d ≡ true) → not (a || b) ≡ true → not (a || d) ≡ true
not_either true b d h e = e
not_either false b d h e = h e

module _ (p : NamedProgram) (s : Family) (above : KeepsAbove p s) (regular : IsRegular p) (none : defines p object_type ≡ false) (c : NamedClass) (m : NamedMethod) where
  abbrev q : NamedProgram
  q = left_of s p

  abbrev left : Kind → Kind
  left = left_kind p s

  early_left : (a : Kinds) → OkType p s c.name → not (ends_early p c m a) ≡ true → not (ends_early q (left_in s c) m (left_kinds p s a)) ≡ true
  early_left a h e = by (is_constructor m) e
    where
      same : (b : Bool) → kind_eq a.receiver (kind_of p c.name) ≡ b → not (not b) ≡ true → not (not (kind_eq (left a.receiver) (kind_of q c.name))) ≡ true
      same true i e = ap (λ k. not (not (kind_eq (left a.receiver) k))) (kind_left p s above regular none c.name h ∙ ap left (sym (kind_sound a.receiver (kind_of p c.name) i))) ∙ ap (λ b. not (not b)) (kind_self (left a.receiver))
      same false i e = clash false e refl

      by : (b : Bool) → not (b && not (kind_eq a.receiver (kind_of p c.name))) ≡ true → not (b && not (kind_eq (left a.receiver) (kind_of q c.name))) ≡ true
      by true e = same (kind_eq a.receiver (kind_of p c.name)) refl e
      by false e = refl

  instance_left : (t : Text) → OkType p s t → not (wrong_instance p t) ≡ true → not (wrong_instance q t) ≡ true
  instance_left t h e = by (is_class_type t) refl e
    where
      flags : (o : Option NamedClass) → (elim (option_map (left_in s) o) as (λ o. Bool) [ Some c ↦ is_abstract c.flags || is_interface c.flags | None ↦ false ]) ≡ (elim o as (λ o. Bool) [ Some c ↦ is_abstract c.flags || is_interface c.flags | None ↦ false ])
      flags None = refl
      flags (Some c) = refl

      by : (b : Bool) → is_class_type t ≡ b → not (not b || elim (class_named p t) as (λ o. Bool) [ Some c ↦ is_abstract c.flags || is_interface c.flags | None ↦ false ]) ≡ true
          → not (not b || elim (class_named q t) as (λ o. Bool) [ Some c ↦ is_abstract c.flags || is_interface c.flags | None ↦ false ]) ≡ true
      by true i e = ap (λ o. not (elim o as (λ o. Bool) [ Some c ↦ is_abstract c.flags || is_interface c.flags | None ↦ false ])) (class_left s p t (bare_kept p s above regular none t (class_bare t i) h)) ∙ ap not (flags (class_named p t)) ∙ e
      by false i e = e

  field_left : (static : Bool) (k : FieldKey) → finds_field q k ≡ finds_field p k → wrong_field q static k ≡ wrong_field p static k
  field_left static k h = ap (λ o. elim o as (λ o. Bool) [ Some f ↦ differ static (is_static f.1.flags) | None ↦ false ]) h

  first_left : (k : FieldKey) → OkType p s k.kind → finds_field q k ≡ finds_field p k → wrong_first q k ≡ wrong_first p k
  first_left k h f =
      ap (λ b. (is_array k.kind || b) && elim (finds_field q k) as (λ o. Bool) [ Some f ↦ begins_as_text_or_type f.1 | None ↦ false ]) (plain_left p s above regular none k.kind (type_kept p s above regular none k.kind h))
      ∙ ap (λ o. (is_array k.kind || is_plain p k.kind) && elim o as (λ o. Bool) [ Some f ↦ begins_as_text_or_type f.1 | None ↦ false ]) f

  item_left : (static : Bool) (i : Item) (k : FieldKey) → finds_field q k ≡ finds_field p k → not (wrong_item i k.kind || wrong_field p static k) ≡ true → not (wrong_item i k.kind || wrong_field q static k) ≡ true
  item_left static i k h e = ap (λ b. not (wrong_item i k.kind || b)) (field_left static k h) ∙ e

  method_left : (kind : InvokeKind) (k : MethodKey) (args : List ℕ) → FormLeft p s c m (form.Invoke kind k args) → wrong_method q kind k ≡ wrong_method p kind k
  method_left kind k args h = ap (λ o. elim o as (λ o. Bool) [ Some g ↦ differ (is_static_call kind) (is_static g.flags) | None ↦ false ]) (h.methods kind k args refl)

  super_left : (kind : InvokeKind) (k : MethodKey) (args : List ℕ) → FormLeft p s c m (form.Invoke kind k args) → wrong_super q (left_in s c) kind k ≡ wrong_super p c kind k
  super_left call.Super k args h = ap (λ x. is_constructor_name k.name || finds_static x) (h.supers k args refl)
  super_left kind k args h = refl

  pub right_left : (a : Kinds) (f : Form) → FormLeft p s c m f → not (is_wrong p c m a f) ≡ true → not (is_wrong q (left_in s c) m (left_kinds p s a) f) ≡ true
  right_left a form.ReturnVoid h e = not_either (not (is_void m.signature.result)) (ends_early p c m a) (ends_early q (left_in s c) m (left_kinds p s a)) (early_left a h.class) e
  right_left a (form.Return slot from) h e = not_either (wrong_return slot m.signature.result) (ends_early p c m a) (ends_early q (left_in s c) m (left_kinds p s a)) (early_left a h.class) e
  right_left a (form.NewInstance to kind) h e = instance_left kind (h.types kind (here [])) e
  right_left a (form.InstanceGet i to on field) h e = item_left false i field (h.fields field (here [])) e
  right_left a (form.InstancePut i from on field) h e = item_left false i field (h.fields field (here [])) e
  right_left a (form.StaticGet i to field) h e =
      ap (λ b. not (wrong_item i field.kind || b || wrong_first q field)) (field_left true field (h.fields field (here [])))
      ∙ ap (λ b. not (wrong_item i field.kind || wrong_field p true field || b)) (first_left field (h.types field.kind (there field.class (field.kind ∷ []) (here []))) (h.fields field (here []))) ∙ e
  right_left a (form.StaticPut i from field) h e = item_left true i field (h.fields field (here [])) e
  right_left a (form.Invoke kind k args) h e =
      ap (λ b. not (b || wrong_super q (left_in s c) kind k || not (nat_eq (length args) (passed_words kind k)))) (method_left kind k args h)
      ∙ ap (λ b. not (wrong_method p kind k || b || not (nat_eq (length args) (passed_words kind k)))) (super_left kind k args h) ∙ e
  right_left a f h e = e
