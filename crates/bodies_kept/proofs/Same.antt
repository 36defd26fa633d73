-- A form with the same registers is the same.
use Rattle.std.proofs.Common.{◌≡◌, ℕ, List, [], ◌∷◌, map, refl, ap, ap₂, ◌∙◌}
use Rattle.std.proofs.lemmas.List.{map-id}
use Rattle.dalvik_defs.specs.declared.forms.Form.{Form}
use Rattle.dalvik_defs.specs.declared.forms.Form.TheVariants as form
use Rattle.pass_defs.specs.Remade.{remade}

pub same_form : (f : Form) → remade (λ r. r) (λ r. r) (λ t. t) f ≡ f
same_form form.Nop = refl
same_form (form.Move slot to from) = refl
same_form (form.MoveResult slot to) = refl
same_form (form.MoveException to) = refl
same_form form.ReturnVoid = refl
same_form (form.Return slot from) = refl
same_form (form.Const to value) = refl
same_form (form.ConstWide to value) = refl
same_form (form.ConstString to string) = refl
same_form (form.ConstClass to kind) = refl
same_form (form.MonitorEnter on) = refl
same_form (form.MonitorExit on) = refl
same_form (form.CheckCast on kind) = refl
same_form (form.InstanceOf to from kind) = refl
same_form (form.ArrayLength to from) = refl
same_form (form.NewInstance to kind) = refl
same_form (form.NewArray to size kind) = refl
same_form (form.FilledNewArray kind args) = ap (λ xs. form.FilledNewArray kind xs) (map-id args)
same_form (form.FillArray on width items) = refl
same_form (form.Throw on) = refl
same_form (form.Goto target) = refl
same_form (form.PackedSwitch on first targets) = ap (λ ts. form.PackedSwitch on first ts) (map-id targets)
same_form (form.SparseSwitch on keys targets) = ap (λ ts. form.SparseSwitch on keys ts) (map-id targets)
same_form (form.Cmp op to a b) = refl
same_form (form.If test a b target) = refl
same_form (form.IfZero test a target) = refl
same_form (form.ArrayGet item to array index) = refl
same_form (form.ArrayPut item from array index) = refl
same_form (form.InstanceGet item to on field) = refl
same_form (form.InstancePut item from on field) = refl
same_form (form.StaticGet item to field) = refl
same_form (form.StaticPut item from field) = refl
same_form (form.Invoke kind method args) = ap (λ xs. form.Invoke kind method xs) (map-id args)
same_form (form.Unary op to from) = refl
same_form (form.Binary op to a b) = refl
same_form (form.Literal op to a value) = refl

pub same_forms : (fs : List Form) → map (remade (λ r. r) (λ r. r) (λ t. t)) fs ≡ fs
same_forms [] = refl
same_forms (f ∷ fs) = ap₂ (λ x xs. x ∷ xs) (same_form f) (same_forms fs)
