-- Forms leave the number of registers.
use Rattle.std.proofs.Common.{◌≡◌, ℕ, ◌+◌, ◌-◌, Bool, true, false, List, map, length, refl, ◌∙◌}
use Rattle.std.specs.Prelude.{slice_set, if◌then◌else◌}
use Rattle.std.proofs.Math.ListN.{length-set}
use Rattle.std.proofs.lemmas.List.{length-map}
use Rattle.insn_set.specs.declared.form.Insn.{Insn}
use Rattle.insn_set.specs.declared.form.Insn.TheVariants as insn
use Rattle.insn_set.specs.declared.ops.InvokeKind.{InvokeKind}
use Rattle.insn_set.specs.declared.ops.InvokeKind.TheVariants as call
use Rattle.program_model.specs.declared.program.Program.{Program}
use Rattle.verify.specs.declared.kinds.Kind.{Kind}
use Rattle.verify.specs.declared.kinds.Kind.TheVariants as kind
use Rattle.verify.specs.declared.setting.Setting.{Setting}
use Rattle.verify.specs.declared.tables.Tables.{Tables}
use Rattle.verify.specs.After.{constructed, begun_call, called_by, after_typed, after, receiver_register}
use Rattle.verify.specs.Flow.{form_after}
use Rattle.verify.specs.Frames.{Kinds, kind_at, cleared, split, written_one, written_pair, written_kinds}
use Rattle.verify.specs.Kinds.{forgotten, same_kind}
use Rattle.verify.specs.Types.{is_constructor}

cleared_long : (r : ℕ) (half : Kind) (ks : List Kind) → length (cleared r half ks) ≡ length ks
cleared_long r half ks = go (same_kind (kind_at ks r) half)
  where
    go : (b : Bool) → length (if b then slice_set ks r kind.Undefined else ks) ≡ length ks
    go true = length-set ks r kind.Undefined
    go false = refl

split_long : (r : ℕ) (ks : List Kind) → length (split r ks) ≡ length ks
split_long r ks = cleared_long (r - 1) kind.WideLow (cleared (r + 1) kind.WideHigh ks) ∙ cleared_long (r + 1) kind.WideHigh ks

one_long : (r : ℕ) (k : Kind) (ks : List Kind) → length (written_one r k ks) ≡ length ks
one_long r k ks = length-set (split r ks) r k ∙ split_long r ks

pair_long : (r : ℕ) (ks : List Kind) → length (written_pair r ks) ≡ length ks
pair_long r ks =
    length-set (slice_set (split (r + 1) (split r ks)) r kind.WideLow) (r + 1) kind.WideHigh
    ∙ length-set (split (r + 1) (split r ks)) r kind.WideLow
    ∙ split_long (r + 1) (split r ks)
    ∙ split_long r ks

kinds_long : (r : ℕ) (k : Kind) (ks : List Kind) → length (written_kinds r k ks) ≡ length ks
kinds_long r kind.WideLow ks = pair_long r ks
kinds_long r kind.WideHigh ks = one_long r kind.WideHigh ks
kinds_long r kind.Undefined ks = one_long r kind.Undefined ks
kinds_long r kind.Word ks = one_long r kind.Word ks
kinds_long r kind.Zero ks = one_long r kind.Zero ks
kinds_long r (kind.Fresh c p) ks = one_long r (kind.Fresh c p) ks
kinds_long r kind.FreshThis ks = one_long r kind.FreshThis ks
kinds_long r kind.Null ks = one_long r kind.Null ks
kinds_long r (kind.Program c) ks = one_long r (kind.Program c) ks
kinds_long r (kind.Array n i) ks = one_long r (kind.Array n i) ks
kinds_long r kind.Reference ks = one_long r kind.Reference ks

constructed_long : (t : Tables) (c : ℕ) (k : Kind) (a : Kinds) → length (constructed t c k a).registers ≡ length a.registers
constructed_long t c (kind.Fresh d p) a = length-map a.registers _
constructed_long t c kind.FreshThis a = length-map a.registers _
constructed_long t c kind.WideLow a = refl
constructed_long t c kind.WideHigh a = refl
constructed_long t c kind.Undefined a = refl
constructed_long t c kind.Word a = refl
constructed_long t c kind.Zero a = refl
constructed_long t c kind.Null a = refl
constructed_long t c (kind.Program d) a = refl
constructed_long t c (kind.Array n i) a = refl
constructed_long t c kind.Reference a = refl

if_long : (c : Bool) (x y : Kinds) → length x.registers ≡ length y.registers → length (if c then x else y).registers ≡ length y.registers
if_long true x y e = e
if_long false x y e = refl

begun_long : (t : Tables) (c m : ℕ) (rs : List ℕ) (a : Kinds) → length (begun_call t c m rs a).registers ≡ length a.registers
begun_long t c m rs a = if_long (is_constructor t m) (constructed t c (kind_at a.registers (receiver_register rs)) a) a (constructed_long t c (kind_at a.registers (receiver_register rs)) a)

called_long : (k : InvokeKind) (p : Program) (t : Tables) (c m : ℕ) (rs : List ℕ) (a : Kinds) → length (called_by k p t c m rs a).registers ≡ length a.registers
called_long call.Static p t c m rs a = refl
called_long call.Virtual p t c m rs a = begun_long t c m rs a
called_long call.Super p t c m rs a = begun_long t c m rs a
called_long call.Direct p t c m rs a = begun_long t c m rs a
called_long call.Interface p t c m rs a = begun_long t c m rs a

typed_long : (p : Program) (t : Tables) (c n : ℕ) (i : Insn) (a : Kinds) → length (after_typed p t c n i a).registers ≡ length a.registers
typed_long p t c n (insn.CheckCast on type) a = kinds_long on _ a.registers
typed_long p t c n (insn.NewInstance to type) a = kinds_long to (kind.Fresh type n) (map (forgotten n) a.registers) ∙ length-map a.registers (forgotten n)
typed_long p t c n (insn.NewArray to size type) a = kinds_long to _ a.registers
typed_long p t c n (insn.FilledNewArray type args) a = refl
typed_long p t c n (insn.ArrayGet i to array index) a = kinds_long to _ a.registers
typed_long p t c n (insn.InstanceGet i to on field) a = kinds_long to _ a.registers
typed_long p t c n (insn.StaticGet i to field) a = kinds_long to _ a.registers
typed_long p t c n (insn.Invoke k method args) a = called_long k p t c method args a
typed_long p t c n i a = refl

after_long : (p : Program) (t : Tables) (c n : ℕ) (i : Insn) (a : Kinds) → length (after p t c n i a).registers ≡ length a.registers
after_long p t c n (insn.Move s to from) a = kinds_long to _ a.registers
after_long p t c n (insn.MoveResult s to) a = kinds_long to a.result a.registers
after_long p t c n (insn.MoveException to) a = kinds_long to a.caught a.registers
after_long p t c n (insn.Const to value) a = kinds_long to _ a.registers
after_long p t c n (insn.ConstWide to value) a = kinds_long to kind.WideLow a.registers
after_long p t c n (insn.ConstString to string) a = kinds_long to kind.Reference a.registers
after_long p t c n (insn.ConstClass to type) a = kinds_long to kind.Reference a.registers
after_long p t c n (insn.InstanceOf to from type) a = kinds_long to kind.Word a.registers
after_long p t c n (insn.ArrayLength to from) a = kinds_long to kind.Word a.registers
after_long p t c n (insn.Cmp op to x y) a = kinds_long to kind.Word a.registers
after_long p t c n (insn.Literal op to x value) a = kinds_long to kind.Word a.registers
after_long p t c n (insn.Unary op to from) a = kinds_long to _ a.registers
after_long p t c n (insn.Binary op to x y) a = kinds_long to _ a.registers
after_long p t c n i a = typed_long p t c n i a

pub form_after_long : (s : Setting) (n : ℕ) (i : Insn) (a : Kinds) → length (form_after s n i a).registers ≡ length a.registers
form_after_long s n i a = after_long s.program.now s.tables.now s.kind n i a
