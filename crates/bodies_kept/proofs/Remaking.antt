-- Forms with other registers.
use Rattle.std.proofs.Common.{◌≡◌, ◌≤◌, ℕ, List, [], ◌∷◌, map, refl, sym, ap, ◌∙◌, arith}
use Rattle.std.specs.Prelude.{pos}
use Rattle.std.proofs.lemmas.List.{map-id}
use Rattle.insn_set.specs.declared.form.Insn.{Insn}
use Rattle.insn_set.specs.declared.form.Insn.TheVariants as insn
use Rattle.insn_set.specs.Spelling.{is_encodable, units_of}
use Rattle.program_model.specs.declared.program.Program.{Program}
use Rattle.dalvik_defs.specs.declared.forms.Form.{Form}
use Rattle.dalvik_defs.specs.declared.forms.Form.TheVariants as form
use Rattle.dalvik_defs.specs.Naming.{form_of}
use Rattle.insn_regs.specs.Remade as numbered
use Rattle.pass_defs.specs.Bare.{bare}
use Rattle.pass_defs.specs.Remade as named
use Rattle.bodies_kept.specs.OperandBridged.{IsRemadeByNumber}

pub remade_by_number : IsRemadeByNumber
remade_by_number p r w insn.Nop = refl
remade_by_number p r w (insn.Move slot to from) = refl
remade_by_number p r w (insn.MoveResult slot to) = refl
remade_by_number p r w (insn.MoveException to) = refl
remade_by_number p r w insn.ReturnVoid = refl
remade_by_number p r w (insn.Return slot from) = refl
remade_by_number p r w (insn.Const to value) = refl
remade_by_number p r w (insn.ConstWide to value) = refl
remade_by_number p r w (insn.ConstString to string) = refl
remade_by_number p r w (insn.ConstClass to kind) = refl
remade_by_number p r w (insn.MonitorEnter on) = refl
remade_by_number p r w (insn.MonitorExit on) = refl
remade_by_number p r w (insn.CheckCast on kind) = refl
remade_by_number p r w (insn.InstanceOf to from kind) = refl
remade_by_number p r w (insn.ArrayLength to from) = refl
remade_by_number p r w (insn.NewInstance to kind) = refl
remade_by_number p r w (insn.NewArray to size kind) = refl
remade_by_number p r w (insn.FilledNewArray kind args) = refl
remade_by_number p r w (insn.FillArray on width items) = refl
remade_by_number p r w (insn.Throw on) = refl
remade_by_number p r w (insn.Goto target) = refl
remade_by_number p r w (insn.PackedSwitch on first targets) = ap (λ ts. form.PackedSwitch (r on) first ts) (sym (map-id targets))
remade_by_number p r w (insn.SparseSwitch on keys targets) = ap (λ ts. form.SparseSwitch (r on) keys ts) (sym (map-id targets))
remade_by_number p r w (insn.Cmp op to a b) = refl
remade_by_number p r w (insn.If test a b target) = refl
remade_by_number p r w (insn.IfZero test a target) = refl
remade_by_number p r w (insn.ArrayGet item to array index) = refl
remade_by_number p r w (insn.ArrayPut item from array index) = refl
remade_by_number p r w (insn.InstanceGet item to on field) = refl
remade_by_number p r w (insn.InstancePut item from on field) = refl
remade_by_number p r w (insn.StaticGet item to field) = refl
remade_by_number p r w (insn.StaticPut item from field) = refl
remade_by_number p r w (insn.Invoke kind method args) = refl
remade_by_number p r w (insn.Unary op to from) = refl
remade_by_number p r w (insn.Binary op to a b) = refl
remade_by_number p r w (insn.Literal op to a value) = refl

map_alike : (r s : ℕ → ℕ) → ((k : ℕ) → r k ≡ s k) → (xs : List ℕ) → map r xs ≡ map s xs
map_alike r s e [] = refl
map_alike r s e (x ∷ xs) = ap (λ y. y ∷ map r xs) (e x) ∙ ap (λ ys. s x ∷ ys) (map_alike r s e xs)

-- with numbers that are the same one by one
pub remade_alike : (r s w : ℕ → ℕ) → ((k : ℕ) → r k ≡ s k) → (i : Insn) → numbered.remade r w i ≡ numbered.remade s w i
remade_alike r s w e (insn.Move slot to from) = ap (λ x. insn.Move slot (w to) x) (e from)
remade_alike r s w e (insn.Return slot from) = ap (λ x. insn.Return slot x) (e from)
remade_alike r s w e (insn.MonitorEnter on) = ap (λ x. insn.MonitorEnter x) (e on)
remade_alike r s w e (insn.MonitorExit on) = ap (λ x. insn.MonitorExit x) (e on)
remade_alike r s w e (insn.CheckCast on kind) = ap (λ x. insn.CheckCast x kind) (e on)
remade_alike r s w e (insn.InstanceOf to from kind) = ap (λ x. insn.InstanceOf (w to) x kind) (e from)
remade_alike r s w e (insn.ArrayLength to from) = ap (λ x. insn.ArrayLength (w to) x) (e from)
remade_alike r s w e (insn.NewArray to size kind) = ap (λ x. insn.NewArray (w to) x kind) (e size)
remade_alike r s w e (insn.FilledNewArray kind args) = ap (λ xs. insn.FilledNewArray kind xs) (map_alike r s e args)
remade_alike r s w e (insn.FillArray on width items) = ap (λ x. insn.FillArray x width items) (e on)
remade_alike r s w e (insn.Throw on) = ap (λ x. insn.Throw x) (e on)
remade_alike r s w e (insn.PackedSwitch on first targets) = ap (λ x. insn.PackedSwitch x first targets) (e on)
remade_alike r s w e (insn.SparseSwitch on keys targets) = ap (λ x. insn.SparseSwitch x keys targets) (e on)
remade_alike r s w e (insn.Cmp op to a b) = ap (λ x. insn.Cmp op (w to) x (r b)) (e a) ∙ ap (λ x. insn.Cmp op (w to) (s a) x) (e b)
remade_alike r s w e (insn.If test a b target) = ap (λ x. insn.If test x (r b) target) (e a) ∙ ap (λ x. insn.If test (s a) x target) (e b)
remade_alike r s w e (insn.IfZero test a target) = ap (λ x. insn.IfZero test x target) (e a)
remade_alike r s w e (insn.ArrayGet item to array index) = ap (λ x. insn.ArrayGet item (w to) x (r index)) (e array) ∙ ap (λ x. insn.ArrayGet item (w to) (s array) x) (e index)
remade_alike r s w e (insn.ArrayPut item from array index) = ap (λ x. insn.ArrayPut item x (r array) (r index)) (e from) ∙ ap (λ x. insn.ArrayPut item (s from) x (r index)) (e array) ∙ ap (λ x. insn.ArrayPut item (s from) (s array) x) (e index)
remade_alike r s w e (insn.InstanceGet item to on field) = ap (λ x. insn.InstanceGet item (w to) x field) (e on)
remade_alike r s w e (insn.InstancePut item from on field) = ap (λ x. insn.InstancePut item x (r on) field) (e from) ∙ ap (λ x. insn.InstancePut item (s from) x field) (e on)
remade_alike r s w e (insn.StaticPut item from field) = ap (λ x. insn.StaticPut item x field) (e from)
remade_alike r s w e (insn.Invoke kind method args) = ap (λ xs. insn.Invoke kind method xs) (map_alike r s e args)
remade_alike r s w e (insn.Unary op to from) = ap (λ x. insn.Unary op (w to) x) (e from)
remade_alike r s w e (insn.Binary op to a b) = ap (λ x. insn.Binary op (w to) x (r b)) (e a) ∙ ap (λ x. insn.Binary op (w to) (s a) x) (e b)
remade_alike r s w e (insn.Literal op to a value) = ap (λ x. insn.Literal op (w to) x value) (e a)
remade_alike r s w e i = refl

-- ---- spellings

pub same_encodable : (p : Program) (i : Insn) → is_encodable (bare (form_of p i)) ≡ is_encodable i
same_encodable p insn.Nop = refl
same_encodable p i = refl

-- where an instruction gets no longer with other registers that it reads, its form doesn't
pub still_short : (p : Program) (r : ℕ → ℕ) (i : Insn) → units_of (numbered.remade r (λ k. k) i) (pos 0) ≤ units_of i (pos 0) → units_of (bare (form_of p (numbered.remade r (λ k. k) i))) (pos 0) ≤ units_of (bare (form_of p i)) (pos 0)
still_short p r insn.Nop h = h
still_short p r (insn.ConstString to string) h = omega arith
still_short p r i h = h

pub still_short_back : (p : Program) (r : ℕ → ℕ) (i : Insn) → units_of (bare (form_of p (numbered.remade r (λ k. k) i))) (pos 0) ≤ units_of (bare (form_of p i)) (pos 0) → units_of (numbered.remade r (λ k. k) i) (pos 0) ≤ units_of i (pos 0)
still_short_back p r insn.Nop h = h
still_short_back p r (insn.ConstString to string) h = omega arith
still_short_back p r i h = h
