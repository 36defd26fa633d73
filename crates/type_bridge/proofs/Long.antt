-- Forms leave the number of registers, by names.
use Rattle.std.proofs.Common.{◌≡◌, ℕ, ◌+◌, ◌-◌, Bool, true, false, List, map, length, refl, ◌∙◌}
use Rattle.std.specs.Prelude.{◌&&◌, not, slice_set, if◌then◌else◌}
use Rattle.std.proofs.Math.ListN.{length-set}
use Rattle.std.proofs.lemmas.List.{length-map}
use Rattle.insn_set.specs.declared.ops.InvokeKind.{InvokeKind}
use Rattle.dalvik_defs.specs.declared.forms.Form.{Form}
use Rattle.dalvik_defs.specs.declared.forms.Form.TheVariants as form
use Rattle.dalvik_defs.specs.declared.names.MethodKey.{MethodKey}
use Rattle.dalvik_defs.specs.declared.program.NamedClass.{NamedClass}
use Rattle.dalvik_defs.specs.declared.program.NamedProgram.{NamedProgram}
use Rattle.pass_defs.specs.Demands.{is_constructor_name}
use Rattle.pass_defs.specs.Kinds.{Kind, Undefined, Low, High, Reference, Word, Fresh, FreshThis, Array, kind_eq}
use Rattle.pass_defs.specs.Registers.{Kinds, kind_at, cleared, split, written_one, written_pair, written_kinds, forgotten}
use Rattle.pass_defs.specs.Typed.{constructed, called, after, receiver_register, is_static_call}

cleared_long : (r : ℕ) (half : Kind) (ks : List Kind) → length (cleared r half ks) ≡ length ks
cleared_long r half ks = by (kind_eq (kind_at ks r) half)
  where
    by : (b : Bool) → length (if b then slice_set ks r Undefined else ks) ≡ length ks
    by true = length-set ks r Undefined
    by false = refl

split_long : (r : ℕ) (ks : List Kind) → length (split r ks) ≡ length ks
split_long r ks = cleared_long (r - 1) Low (cleared (r + 1) High ks) ∙ cleared_long (r + 1) High ks

one_long : (r : ℕ) (k : Kind) (ks : List Kind) → length (written_one r k ks) ≡ length ks
one_long r k ks = length-set (split r ks) r k ∙ split_long r ks

pair_long : (r : ℕ) (ks : List Kind) → length (written_pair r ks) ≡ length ks
pair_long r ks =
    length-set (slice_set (split (r + 1) (split r ks)) r Low) (r + 1) High
    ∙ length-set (split (r + 1) (split r ks)) r Low
    ∙ split_long (r + 1) (split r ks)
    ∙ split_long r ks

kinds_long : (r : ℕ) (k : Kind) (ks : List Kind) → length (written_kinds r k ks) ≡ length ks
kinds_long r Low ks = pair_long r ks
kinds_long r k ks = one_long r k ks

constructed_long : (p : NamedProgram) (c : NamedClass) (k : Kind) (a : Kinds) → length (constructed p c k a).registers ≡ length a.registers
constructed_long p c (Fresh t n) a = length-map a.registers _
constructed_long p c FreshThis a = length-map a.registers _
constructed_long p c k a = refl

called_long : (p : NamedProgram) (c : NamedClass) (kind : InvokeKind) (k : MethodKey) (rs : List ℕ) (a : Kinds) → length (called p c kind k rs a).registers ≡ length a.registers
called_long p c kind k rs a = by (is_constructor_name k.name && not (is_static_call kind))
  where
    by : (b : Bool) → length (if b then constructed p c (kind_at a.registers (receiver_register rs)) a else a).registers ≡ length a.registers
    by true = constructed_long p c (kind_at a.registers (receiver_register rs)) a
    by false = refl

pub after_long : (p : NamedProgram) (c : NamedClass) (n : ℕ) (f : Form) (a : Kinds) → length (after p c n f a).registers ≡ length a.registers
after_long p c n (form.Move s to from) a = kinds_long to _ a.registers
after_long p c n (form.MoveResult s to) a = kinds_long to a.result a.registers
after_long p c n (form.MoveException to) a = kinds_long to a.caught a.registers
after_long p c n (form.Const to value) a = kinds_long to _ a.registers
after_long p c n (form.ConstWide to value) a = kinds_long to Low a.registers
after_long p c n (form.ConstString to string) a = kinds_long to Reference a.registers
after_long p c n (form.ConstClass to kind) a = kinds_long to Reference a.registers
after_long p c n (form.CheckCast on kind) a = kinds_long on _ a.registers
after_long p c n (form.InstanceOf to from kind) a = kinds_long to Word a.registers
after_long p c n (form.ArrayLength to from) a = kinds_long to Word a.registers
after_long p c n (form.NewInstance to kind) a = kinds_long to (Fresh kind n) (map (forgotten n) a.registers) ∙ length-map a.registers (forgotten n)
after_long p c n (form.NewArray to size kind) a = kinds_long to (Array kind) a.registers
after_long p c n (form.Cmp op to x y) a = kinds_long to Word a.registers
after_long p c n (form.ArrayGet i to array index) a = kinds_long to _ a.registers
after_long p c n (form.InstanceGet i to on field) a = kinds_long to _ a.registers
after_long p c n (form.StaticGet i to field) a = kinds_long to _ a.registers
after_long p c n (form.Invoke kind method args) a = called_long p c kind method args a
after_long p c n (form.Unary op to from) a = kinds_long to _ a.registers
after_long p c n (form.Binary op to x y) a = kinds_long to _ a.registers
after_long p c n (form.Literal op to x value) a = kinds_long to Word a.registers
after_long p c n f a = refl
